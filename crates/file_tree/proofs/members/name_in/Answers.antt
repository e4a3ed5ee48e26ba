use Rattle.std.proofs.Common.{rules, is_some, ◌∙◌, ap}
use Rattle.name_tries.proofs.BitLemmas.{in_bytes}
use Rattle.file_tree.specs.Beside.{keys_of}
use Rattle.file_tree.proofs.NameLemmas.{low, is_keyed, can_put_first, near_there, can_put}
use Rattle.file_tree.proofs.members.name_in.Goals as goal

pub spot_at-spot-requires : goal.spot_at-spot-requires
spot_at-spot-requires c = let q = c.requires.2 in ap is_some (q.there c.args.number q.spot q.kept.here)

pub nearest-requires-clause-are : goal.nearest-requires-clause-are
nearest-requires-clause-are c = (keys_of c.requires.0, c.requires.2.old)

pub nearest-requires-clause-below : goal.nearest-requires-clause-below
nearest-requires-clause-below c =
    low c.args.names.now c.args.spots.now c.requires.0 c.requires.1 c.args.number c.requires.2 c.spot_at-spot.result.now c.spot_at-spot.ensures
    c.as_bytes-name.result.now (c.as_bytes-name.ensures.value ∙ c.as_str.ensures)

pub put_first-requires : goal.put_first-requires
put_first-requires c = (
  keys_of c.requires.0,
  can_put_first c.args.names.now c.args.spots.now c.requires.0 c.requires.1 c.args.number c.requires.2
      c.spot_at-spot.result.now c.spot_at-spot.ensures c.as_bytes-name.result.now (c.as_bytes-name.ensures.value ∙ c.as_str.ensures)
      c.nearest.result c.nearest.ensures.is c.in-None.is,
)

pub spot_at-other-requires : goal.spot_at-other-requires
spot_at-other-requires c =
    near_there c.args.names.now c.args.spots.now c.requires.0 c.requires.1 c.args.number c.requires.2 c.spot_at-spot.result.now c.spot_at-spot.ensures
    c.as_bytes-name.result.now (c.as_bytes-name.ensures.value ∙ c.as_str.ensures) c.nearest.result c.nearest.ensures.is c.in-Some.near c.in-Some.is
    (c.in-Some.ensures {u = tt}).found

pub put-requires : goal.put-requires
put-requires c = (
  keys_of c.requires.0,
  can_put c.args.names.now c.args.spots.now c.requires.0 c.requires.1 c.args.number c.requires.2
      c.spot_at-spot.result.now c.spot_at-spot.ensures c.as_bytes-name.result.now (c.as_bytes-name.ensures.value ∙ c.as_str.ensures)
      c.nearest.result c.nearest.ensures.is c.in-Some.near c.in-Some.is (c.in-Some.ensures {u = tt}).found
      c.spot_at-other.result.now c.spot_at-other.ensures c.as_bytes-other.result.now (c.as_bytes-other.ensures.value ∙ c.as_str-in-Some.ensures)
      (c.in-Some.ensures {u = tt}).from,
)

pub returns-in-None-clause-named : goal.returns-in-None-clause-named
returns-in-None-clause-named c at next q =
    let z = c.spot_at-spot.result.now in
    let x = c.as_bytes-name.result.now in
    let spelled = c.as_bytes-name.ensures.value ∙ c.as_str.ensures in
    c.put_first.ensures.are (keys_of at) (keys_of next) x (in_bytes x (search rules))
    (can_put_first c.args.names.now c.args.spots.now at next c.args.number q z c.spot_at-spot.ensures x spelled c.nearest.result c.nearest.ensures.is c.in-None.is)
    (is_keyed c.args.names.now c.args.spots.now at next c.args.number q z c.spot_at-spot.ensures x spelled)

pub returns-in-Some-clause-named : goal.returns-in-Some-clause-named
returns-in-Some-clause-named c at next q =
    let z = c.spot_at-spot.result.now in
    let x = c.as_bytes-name.result.now in
    let spelled = c.as_bytes-name.ensures.value ∙ c.as_str.ensures in
    c.put.ensures.are (keys_of at) (keys_of next)
    (can_put c.args.names.now c.args.spots.now at next c.args.number q z c.spot_at-spot.ensures x spelled c.nearest.result c.nearest.ensures.is
    c.in-Some.near c.in-Some.is (c.in-Some.ensures {u = tt}).found
    c.spot_at-other.result.now c.spot_at-other.ensures c.as_bytes-other.result.now (c.as_bytes-other.ensures.value ∙ c.as_str-in-Some.ensures) (c.in-Some.ensures {u = tt}).from)
    (is_keyed c.args.names.now c.args.spots.now at next c.args.number q z c.spot_at-spot.ensures x spelled)
