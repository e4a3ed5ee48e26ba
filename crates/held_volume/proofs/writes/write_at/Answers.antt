use Rattle.std.proofs.Common.{◌+◌, length, ap, ◌∙◌}
use Rattle.held_volume.proofs.writes.write_at.Goals as goal
use Rattle.plain_tree.proofs.Validity.{free_within}
use Rattle.plain_tree.specs.Refusals.{refusal_of}
use Rattle.plain_tree.specs.declared.calls.Call.TheVariants as asks
use Rattle.file_tree.specs.Tree.{plain_of, whole}
use Rattle.file_tree.proofs.CallLemmas.{file_there, long_free, still_file}
use Rattle.tape_layout.specs.Admissions.{data_admission}
use Rattle.held_volume.proofs.Stands.{empty_asks, is_unchanged, refused_leaves, some_bytes, still_done, write_all, write_refused}
use Rattle.held_volume.proofs.TreeSteps.{roomier}
use Rattle.held_volume.proofs.WriteSteps.{can_put, is_ok_then}

pub returns-then-is_empty-clause-applied : goal.returns-then-is_empty-clause-applied
returns-then-is_empty-clause-applied c early g on st i =
    still_done c.args.tree.now c.args.layout.now c.args.frame.now (asks.Write c.args.path.now c.args.offset c.args.bytes.now) c.args.at early g on st i
    (empty_asks g st c.args.path.now c.args.offset c.args.bytes.now c.args.at (c.if-is_empty.ensures {u = tt}))

pub reserve_extent-reserved-requires : goal.reserve_extent-reserved-requires
reserve_extent-reserved-requires c = file_there c.args.tree.now c.args.path.now c.args.file c.requires.stands (long_free (plain_of whole c.args.tree.now) c.args.path.now (c.args.offset + length c.args.bytes.now)
    (free_within (plain_of whole c.args.tree.now) (asks.Write c.args.path.now c.args.offset c.args.bytes.now) c.requires.free).1).0

pub returns-then-is_err-clause-err : goal.returns-then-is_err-clause-err
returns-then-is_err-clause-err c =
    let r = c.reserve_extent-reserved.ensures in
    is_unchanged c.args.tree.now c.reserve_extent-reserved.new.self c.args.layout.now c.args.frame.now (roomier c.args.tree.now c.reserve_extent-reserved.new.self c.count-count.ensures.good r.plain r.numbers r.extents r.blocks r.volume)

pub wants_ip-wanted-requires-clause-file : goal.wants_ip-wanted-requires-clause-file
wants_ip-wanted-requires-clause-file c =
    let was = file_there c.args.tree.now c.args.path.now c.args.file c.requires.stands (long_free (plain_of whole c.args.tree.now) c.args.path.now (c.args.offset + length c.args.bytes.now)
    (free_within (plain_of whole c.args.tree.now) (asks.Write c.args.path.now c.args.offset c.args.bytes.now) c.requires.free).1).0 in
    still_file c.args.tree.now c.reserve_extent-reserved.new.self c.args.file was c.reserve_extent-reserved.ensures.extents

pub wants_ip-wanted-requires-clause-stands : goal.wants_ip-wanted-requires-clause-stands
wants_ip-wanted-requires-clause-stands c = c.reserve_extent-reserved.ensures.numbers c.args.path.now c.args.file c.requires.stands

pub returns-in-Err-clause-applied : goal.returns-in-Err-clause-applied
returns-in-Err-clause-applied c early g on st i =
    let r = c.reserve_extent-reserved.ensures in
    let same = roomier c.args.tree.now c.reserve_extent-reserved.new.self c.count-count.ensures.good r.plain r.numbers r.extents r.blocks r.volume in
    write_refused c.args.tree.now c.reserve_extent-reserved.new.self c.args.layout.now c.admit_data.new.self c.args.frame.now c.args.path.now c.args.offset c.args.bytes.now c.args.at c.wants_ip-wanted.result c.in-Err.e
    same (some_bytes c.args.bytes.now (c.if-is_empty.ensures {u = tt}))
    (ap (λ t. refusal_of t (asks.Write c.args.path.now c.args.offset c.args.bytes.now)) (same.plain whole) ∙ c.requires.free)
    c.count-count.ensures.good.some_block c.wants_ip-wanted.ensures (c.in-Err.ensures {u = tt}) early g on st i

pub returns-in-Err-clause-err : goal.returns-in-Err-clause-err
returns-in-Err-clause-err c =
    let r = c.reserve_extent-reserved.ensures in
    refused_leaves c.args.tree.now c.reserve_extent-reserved.new.self c.args.layout.now c.admit_data.new.self c.args.frame.now (data_admission c.args.layout.now c.wants_ip-wanted.result c.args.bytes.now) c.in-Err.e
    (roomier c.args.tree.now c.reserve_extent-reserved.new.self c.count-count.ensures.good r.plain r.numbers r.extents r.blocks r.volume) (c.in-Err.ensures {u = tt})

pub overlay-requires : goal.overlay-requires
overlay-requires c =
    let free = long_free (plain_of whole c.args.tree.now) c.args.path.now (c.args.offset + length c.args.bytes.now)
    (free_within (plain_of whole c.args.tree.now) (asks.Write c.args.path.now c.args.offset c.args.bytes.now) c.requires.free).1 in
    let was = file_there c.args.tree.now c.args.path.now c.args.file c.requires.stands free.0 in
    can_put c.reserve_extent-reserved.new.self c.args.file (still_file c.args.tree.now c.reserve_extent-reserved.new.self c.args.file was c.reserve_extent-reserved.ensures.extents)
    c.args.layout.now c.wants_ip-wanted.result c.args.bytes.now c.args.offset c.in-Ok.place c.count-count.ensures.good
    (is_ok_then c.reserve_extent-reserved.result (c.if-is_err.ensures {u = tt}).value c.reserve_extent-reserved.ensures.room)
    (some_bytes c.args.bytes.now (c.if-is_empty.ensures {u = tt})) free.1 c.ends-ends.ensures.standing (c.in-Ok.ensures {u = tt}).1

pub returns-clause-applied : goal.returns-clause-applied
returns-clause-applied c early g on st i =
    let r = c.reserve_extent-reserved.ensures in
    let same = roomier c.args.tree.now c.reserve_extent-reserved.new.self c.count-count.ensures.good r.plain r.numbers r.extents r.blocks r.volume in
    let free = ap (λ t. refusal_of t (asks.Write c.args.path.now c.args.offset c.args.bytes.now)) (same.plain whole) ∙ c.requires.free in
    let some = some_bytes c.args.bytes.now (c.if-is_empty.ensures {u = tt}) in
    write_all c.args.tree.now c.reserve_extent-reserved.new.self c.overlay.new.tree c.args.layout.now c.admit_data.new.self c.args.frame.now c.args.path.now c.args.offset c.args.bytes.now c.args.at c.wants_ip-wanted.result c.in-Ok.place
    same some free c.count-count.ensures.good.some_block c.wants_ip-wanted.ensures
    (c.overlay.ensures c.args.path.now c.args.bytes.now (r.numbers c.args.path.now c.args.file c.requires.stands) free some)
    (c.in-Ok.ensures {u = tt}) early g on st i
