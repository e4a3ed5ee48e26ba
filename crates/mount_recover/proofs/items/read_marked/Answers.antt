use Rattle.std.proofs.Common.{◌≡◌, ◌∙◌, Some}
use Rattle.std.proofs.lemmas.Bool.{MatchBool-at_true}
use Rattle.mount_recover.proofs.ReadLemmas.{both_told}
use Rattle.mount_recover.proofs.items.read_marked.Goals as goal

pub returns-in-Ok-true-clause-told : goal.returns-in-Ok-true-clause-told
returns-in-Ok-true-clause-told g c =
    both_told c.read_mark.result (λ held. g.D.Drive.held c.args.drive.now ≡ Some held) (λ held. g.D.Drive.held c.read_block.new.drive ≡ Some held) (λ at. g.D.Drive.head c.read_block.new.drive ≡ Some at) c.args.place c.read_block.new.buffer.items
    (λ held h. c.in-Ok-true.ensures.looks.held ∙ h) (c.in-Ok-true.ensures.head c.in-Ok-true.field-0-test) (λ held h. MatchBool-at_true _ _ c.in-Ok-true.field-0-test (c.in-Ok-true.ensures.told held h)) c.read_mark.ensures.told
