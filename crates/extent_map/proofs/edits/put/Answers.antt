use Rattle.std.proofs.Common.{◌+◌, length, take, drop, ap, ◌∙◌, arith}
use Rattle.std.specs.List.{flat_map}
use Rattle.std.specs.Option.{option_to_list}
use Rattle.tape_types.specs.Bounds.{longest_file}
use Rattle.extent_map.specs.Laid.{before}
use Rattle.extent_map.proofs.PlaceLemmas.{found, put_list, places_rise}
use Rattle.extent_map.proofs.edits.put.Goals as goal

pub begin_at-requires-clause-place : goal.begin_at-requires-clause-place
begin_at-requires-clause-place c =
    found c.args.block_size 0 longest_file c.args.extents.now.items c.deref-2.result.now (c.args.new.offset + c.args.new.count) c.ended_by-last.result c.deref-2.ensures.value c.requires.laid c.ended_by-last.ensures.parts

pub put_between-requires-clause-order : goal.put_between-requires-clause-order
put_between-requires-clause-order c =
    let es = c.args.extents.now.items in
    let size = c.args.block_size in
    places_rise es c.args.new.offset (c.args.new.offset + c.args.new.count) c.ended_by-first.result c.ended_by-last.result c.args.new (omega arith)
    (found size 0 longest_file es c.deref.result.now c.args.new.offset c.ended_by-first.result c.deref.ensures.value c.requires.laid c.ended_by-first.ensures.parts)
    (found size 0 longest_file es c.deref-2.result.now (c.args.new.offset + c.args.new.count) c.ended_by-last.result c.deref-2.ensures.value c.requires.laid c.ended_by-last.ensures.parts)
    (omega (arith, c.ended_by-first.ensures.bound, ap length c.deref.ensures.value))

pub returns : goal.returns
returns c =
    let es = c.args.extents.now.items in
    let size = c.args.block_size in
    let from = c.args.new.offset in
    let end = from + c.args.new.count in
    let first = c.ended_by-first.result in
    let last = c.ended_by-last.result in
    let place = found size 0 longest_file es c.deref.result.now from first c.deref.ensures.value c.requires.laid c.ended_by-first.ensures.parts in
    let later = found size 0 longest_file es c.deref-2.result.now end last c.deref-2.ensures.value c.requires.laid c.ended_by-last.ensures.parts in
    put_list size 0 longest_file es from end first last (option_to_list c.front_before-front.result) c.args.new c.put_between.new.extents.items c.begin_at.new.extents.items c.requires.laid place
    (places_rise es from end first last c.args.new (omega arith) place later (omega (arith, c.ended_by-first.ensures.bound, ap length c.deref.ensures.value)))
    (omega (arith, c.ended_by-last.ensures.bound, ap length c.deref-2.ensures.value))
    c.begin_at.ensures.items
    (c.front_before-front.ensures.front ∙ ap (λ l. flat_map (before from) (take 1 (drop first l))) c.deref-3.ensures.value)
    c.put_between.ensures
