use Rattle.std.proofs.Common.{IfOk, Result, subst, ◌≡◌}
use Rattle.extent_map.specs.Cells.{Tape}
use Rattle.file_tree.specs.Tree.{plain_of}
use Rattle.plain_tree.specs.Calls.{answer}
use Rattle.plain_tree.specs.declared.calls.Answer.{Answer}
use Rattle.volume_core.specs.VolumeSteps.Seen.{seen_parts}
use Rattle.volume_core.proofs.VolumeSteps.SubmitLemmas.{look_told}
use Rattle.volume_core.proofs.volume_steps.parts.Parts.tell.Goals as goal

pub returns-in-Ok-clause-submits : goal.returns-in-Ok-clause-submits
returns-in-Ok-clause-submits g c call looks told =
    look_told g.D.Drive c.args.asked.who c.args.asked.nth call c.args.asked.at c.in-Ok.both.told c.answer.result
    (seen_parts c.args.self.now) (seen_parts c.answer.new.self) c.requires looks
    (subst (λ r. IfOk r (λ (a : Answer). (tape : Tape) → a ≡ answer (plain_of tape c.args.self.now.stock.tree) call)) c.in-Ok.ensures.told told) c.answer.ensures
