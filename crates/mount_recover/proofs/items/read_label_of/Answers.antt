use Rattle.std.proofs.Common.{subst, List, ℕ}
use Rattle.std.specs.Option.{MatchOption}
use Rattle.std.proofs.lemmas.Bool.{MatchBool-at_true}
use Rattle.tape_types.specs.Cartridges.{items_of}
use Rattle.ltfs_label.specs.Grammar.{LabelText}
use Rattle.ltfs_label.specs.Values.{LabelValue, label_of}
use Rattle.mount_recover.proofs.ReadLemmas.{label_found, spelled_found}
use Rattle.mount_recover.proofs.items.read_label_of.Goals as goal

pub returns-in-Ok-clause-told : goal.returns-in-Ok-clause-told
returns-in-Ok-clause-told g c =
    λ held h. label_found (items_of c.args.part held) c.read_marked.new.buffers.block.items c.in-Ok.found
    (MatchBool-at_true _ _ c.in-Ok-true.field-0-test (c.in-Ok-true.ensures.told held h))
    (subst (λ (text : List ℕ). MatchOption c.in-Ok.found ((v : LabelValue) → LabelText text v → ⊥) (λ label. LabelText text (label_of label))) c.as_slice.ensures.value c.in-Ok.ensures)

pub returns-in-Ok-clause-spelled : goal.returns-in-Ok-clause-spelled
returns-in-Ok-clause-spelled g c = spelled_found c.as_slice.result.now c.in-Ok.found c.in-Ok.ensures
