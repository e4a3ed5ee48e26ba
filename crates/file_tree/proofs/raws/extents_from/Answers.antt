use Rattle.std.proofs.Common.{◌∙◌, sym, subst}
use Rattle.std.specs.List.Sorted.{IsPermutation}
use Rattle.file_tree.proofs.ReadLemmas.{if_ok}
use Rattle.file_tree.proofs.SortedRaws.{moved_raws, moved_laid}
use Rattle.file_tree.proofs.raws.extents_from.Goals as goal

pub extents_in_turn-requires-2 : goal.extents_in_turn-requires-2
extents_in_turn-requires-2 c =
    let moved : IsPermutation c.args.raws.now c.deref.result.now =
    subst (IsPermutation c.args.raws.now) (sym c.deref.ensures.value) (subst (λ l. IsPermutation l c.sort_unstable_by_key.new.self.items) c.in_ok-sorted.ensures.items c.sort_unstable_by_key.ensures.permutation) in
    moved_raws c.args.letters c.args.block_size c.args.length c.args.raws.now c.deref.result.now moved c.requires

pub returns-clause-laid : goal.returns-clause-laid
returns-clause-laid c =
    let moved : IsPermutation c.args.raws.now c.deref.result.now =
    subst (IsPermutation c.args.raws.now) (sym c.deref.ensures.value) (subst (λ l. IsPermutation l c.sort_unstable_by_key.new.self.items) c.in_ok-sorted.ensures.items c.sort_unstable_by_key.ensures.permutation) in
    if_ok c.extents_in_turn-2.result (λ room is. is ∙ moved_laid c.args.letters c.args.block_size c.args.length c.args.raws.now c.deref.result.now moved c.requires) c.extents_in_turn-2.ensures.laid
