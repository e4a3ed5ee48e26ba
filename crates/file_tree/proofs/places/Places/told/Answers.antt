use Rattle.std.proofs.Common.{Some, ap, ◌∙◌, slice_index_or}
use Rattle.std.proofs.lemmas.Option.{slice_get_within, slice_get-get_or}
use Rattle.file_tree.proofs.ReadLemmas.{if_ok}
use Rattle.file_tree.proofs.PathLemmas.{number_is}
use Rattle.file_tree.proofs.ToldLemmas.{told_is}
use Rattle.file_tree.proofs.places.Places.told.Goals as goal

pub bounds-places-parent : goal.bounds-places-parent
bounds-places-parent c = slice_get_within c.args.places.now c.parent.result _ (c.requires.places _ c.parent.result (c.parent.ensures.above c.requires.there.0 c.requires.there.1))

pub returns : goal.returns
returns c = if_ok c.told_node.result
    (λ told is path n there number.
    let stands = number_is c.args.self.now.nodes path n there ∙ ap (λ k. Some k) number in
    is ∙ told_is c.args.letters c.args.volume.now c.in_ok-name.name c.args.self.now.nodes c.args.places.now path n c.node.result.now c.parent.result (slice_index_or c.args.places.now c.parent.result 0) c.requires.places
    (c.node.ensures path stands) there (c.parent.ensures.above path stands)
    (slice_get-get_or c.args.places.now c.parent.result 0 (slice_get_within c.args.places.now c.parent.result _ (c.requires.places _ c.parent.result (c.parent.ensures.above path stands)))) (c.in_ok-name.ensures path stands))
    c.told_node.ensures
