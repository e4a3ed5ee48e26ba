-- What an overlay leaves, as a step.
use Rattle.std.proofs.Common.{◌≡◌, ℕ, ◌+◌, ◌≤◌, max, Bool, false, List, [], length, Option, None, Result, Ok, Err, sym, ap, ◌∙◌, refl, arith}
use Rattle.std.specs.Option.{unwrap_or}
use Rattle.tape_types.specs.Bounds.{longest_file, most_positions}
use Rattle.tape_types.specs.declared.cartridges.Extent.{Extent}
use Rattle.tape_types.specs.declared.moments.Moment.{Moment}
use Rattle.plain_tree.specs.Cells.{written}
use Rattle.plain_tree.specs.Paths.{Path, last_name}
use Rattle.plain_tree.specs.Refusals.{refusal_of}
use Rattle.plain_tree.specs.Tree as plain
use Rattle.plain_tree.specs.Valid.{mark_at}
use Rattle.plain_tree.specs.declared.calls.Call.TheVariants as asks
use Rattle.extent_map.specs.Cells.{Tape, cells_of}
use Rattle.extent_map.specs.Laid.{Laid, Room, overlaid}
use Rattle.file_tree.specs.Blocks.{AddsBlocksOf}
use Rattle.file_tree.specs.Edits.{CanWrite, IsWritten, KeepsVolume, NumbersCome, OthersLie}
use Rattle.file_tree.specs.Tree.{FileTree, HasExtents, HasLaid, StandsAt, plain_of, whole}
use Rattle.file_tree.specs.Valid.{IsGood}
use Rattle.file_tree.proofs.BytesLemmas.{writes_are_writes}
use Rattle.tape_layout.specs.PlacementPolicy.Computed.{chooses_ip}
use Rattle.index_model.specs.declared.indexes.Policy.{Policy}
use Rattle.file_tree.proofs.CallLemmas.{can_write}
use Rattle.std.specs.Int.{div_ceil}
use Rattle.std.specs.Prelude.{OnOk}
use Rattle.std.specs.Result.{is_err}
use Rattle.tape_types.specs.declared.cartridges.Limits.{Limits}
use Rattle.tape_types.specs.declared.cartridges.Part.{Part}
use Rattle.tape_types.specs.declared.cartridges.Part.TheVariants.{Ip, Dp}
use Rattle.tape_types.specs.declared.cartridges.Place.{Place}
use Rattle.tape_types.specs.declared.texts.NoMemory.{NoMemory}
use Rattle.tape_layout.specs.Admissions.{data_admission, part_for}
use Rattle.tape_layout.specs.Ops.{end_of}
use Rattle.tape_layout.specs.Plans.{AreStanding, Plan}
use Rattle.tape_layout.specs.declared.ops.Op.{Op}
use Rattle.tape_layout.specs.declared.standing.Ends.{Ends}
use Rattle.held_volume.specs.Steps.{IsWrite}
use Rattle.held_volume.proofs.Asks.{cells_long, has_laid}
use Rattle.held_volume.proofs.TreeSteps.{changed_as}
use Rattle.held_volume.proofs.Uids.{file_marks}

-- an overlay of a file with new blocks is the step of a write
pub written_step : (before next : FileTree) (file : ℕ) (new : Extent) (at : Moment) (can : CanWrite before file new) (path : Path) (bytes : List ℕ) → StandsAt before path file
    → refusal_of (plain_of whole before) (asks.Write path new.offset bytes) ≡ None → 1 ≤ length bytes → IsGood before → IsGood next → IsWritten file new at before next
    → NumbersCome (λ p. p) before next → ((laid : Laid) → HasLaid before.nodes file laid → HasLaid next.nodes file (overlaid laid new)) → OthersLie file before next
    → AddsBlocksOf new before next → KeepsVolume before next → IsWrite path new bytes at before next
written_step before next file new at can path bytes stands free some good good_next plain_is numbers lies others adds volume = record {
  plain = λ early late holds alike. writes_are_writes.call early late before next path file new bytes at good.some_block some stands free plain_is holds alike;
  volume = volume;
  blocks = adds;
  lies = λ tape files held. changed_as before next path file can.room.laid (λ laid. overlaid laid new) good good_next stands
      (has_laid before file can.room can.extents) (lies can.room.laid (has_laid before file can.room can.extents))
      (λ tape q. ap (λ (t : plain.Tree). mark_at t.nodes q) (plain_is tape path stands)
      ∙ file_marks (λ cells. written cells new.offset (cells_of tape before.block_size new)) at path (plain_of tape before).nodes q)
      numbers others (ap (λ (t : plain.Tree). t.highest) (plain_is whole path stands)) volume tape files held;
}

-- what the policy is asked of a file: its name, and its length once it has bytes up to an offset
pub wants_by : (t : FileTree) (path : Path) (file : ℕ) (room : Room) (policy : Option Policy) (name : List ℕ) (size end : ℕ) (tape : Tape) → IsGood t → StandsAt t path file → HasExtents t.nodes file room
    → name ≡ unwrap_or (last_name path) [] → size ≡ max room.laid.length end
    → chooses_ip policy name size ≡ chooses_ip policy (unwrap_or (last_name path) []) (max (length (plain.cells_at (plain_of tape t).nodes path)) end)
wants_by t path file room policy name size end tape good stands has name_is size_is =
    ap (λ n. chooses_ip policy n size) name_is
    ∙ ap (chooses_ip policy (unwrap_or (last_name path) [])) (size_is ∙ ap (λ n. max n end) (sym (cells_long tape t path file room good stands has)))

-- what holds of a success holds where there was no want of memory
pub is_ok_then : {A : Type 0} (r : Result Unit NoMemory) → false ≡ is_err r → OnOk r A → A
is_ok_then (Ok done) e h = h
is_ok_then (Err why) e h = absurd cc

-- an end of a partition is far from the greatest number
end_near : (limits : Limits) (size : ℕ) (ends : Ends) (ops : List Op) (part : Part) → AreStanding limits size ends ops → end_of part ends ≤ most_positions
end_near limits size ends ops part s = by part
  where
    by : (p : Part) → end_of p ends ≤ most_positions
    by Ip = omega (arith, s.can_be.ip.high, s.can_be.limits_are)
    by Dp = omega (arith, s.can_be.dp.high, s.can_be.limits_are)

-- the extent at an end of a partition can be put into the file
pub can_put : (t : FileTree) (file : ℕ) (has : (room : Room) × HasExtents t.nodes file room) (l : Plan) (wanted : Bool) (bytes : List ℕ) (offset : ℕ) (place : Place) → IsGood t
    → ((room : Room) → HasExtents t.nodes file room → 2 ≤ room.spare) → 1 ≤ length bytes → offset + length bytes ≤ longest_file → AreStanding l.limits l.block_size l.ends l.ops
    → place ≡ (data_admission l wanted bytes).place → CanWrite t file (record { offset = offset; block = place.pos; count = length bytes; byte = 0; part = place.part })
can_put t file has l wanted bytes offset place good space some fits standing place_is =
    let near : end_of (part_for l wanted (div_ceil (length bytes) l.block_size)) l.ends ≤ most_positions = end_near l.limits l.block_size l.ends l.ops (part_for l wanted (div_ceil (length bytes) l.block_size)) standing in
    let pos : place.pos ≡ end_of (part_for l wanted (div_ceil (length bytes) l.block_size)) l.ends = ap (λ (p : Place). p.pos) place_is in
    can_write t file has.0 (record { offset = offset; block = place.pos; count = length bytes; byte = 0; part = place.part }) has.1
    (good.files has.1.path has.1.node has.0 has.1.there has.1.file) space some fits refl (omega (arith, near, pos, fits))
