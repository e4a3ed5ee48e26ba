use Rattle.std.proofs.Common.{take, drop, ap, ◌∙◌}
use Rattle.std.specs.List.{flat_map}
use Rattle.std.specs.Option.{option_to_list}
use Rattle.tape_types.specs.Bounds.{longest_file}
use Rattle.extent_map.specs.Laid.{before}
use Rattle.extent_map.proofs.PlaceLemmas.{found, cut_list}
use Rattle.extent_map.proofs.edits.cut_off.Goals as goal

pub returns : goal.returns
returns c =
    let es = c.args.extents.now.items in
    let size = c.requires.0 in
    let laid = c.requires.1 in
    let k = c.ended_by-kept.result in
    cut_list size 0 longest_file es c.args.at k (option_to_list c.front_before-front.result)
    c.keep.new.extents.items laid
    (found size 0 longest_file es c.deref.result.now c.args.at k c.deref.ensures.value laid
    c.ended_by-kept.ensures.parts)
    (c.front_before-front.ensures.front ∙ ap (λ l. flat_map (before c.args.at) (take 1 (drop k l))) c.deref-2.ensures.value)
    c.keep.ensures
