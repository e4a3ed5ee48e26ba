use Rattle.std.proofs.Common.{sym, subst, List, ℕ}
use Rattle.std.proofs.lemmas.Bool.{MatchBool-at_true}
use Rattle.tape_types.specs.Cartridges.{items_of}
use Rattle.vol_label.specs.Table.{IsRecord}
use Rattle.mount_recover.proofs.ReadLemmas.{no_record}
use Rattle.mount_recover.proofs.items.read_record.Goals as goal

pub returns-in-Err-decode-clause-told : goal.returns-in-Err-decode-clause-told
returns-in-Err-decode-clause-told g c =
    λ held h. no_record (items_of c.args.part held) c.read_marked.new.buffers.block.items
    (MatchBool-at_true _ _ c.in-Ok-true.field-0-test (c.in-Ok-true.ensures.told held h))
    (λ v spelled. let bad = c.in-Err-decode.ensures.all v (subst (λ (b : List ℕ). IsRecord b v) (sym c.as_slice.ensures.value) spelled) in cc bad)
