-- Blocks of files, once the ops of a call are admitted.
use Rattle.std.proofs.Common.{◌≡◌, ◌⊎◌, ⊎_elim, inl, inr, ℕ, ◌+◌, ◌*◌, ◌/◌, ◌<◌, ◌≤◌, ◌==◌, Bool, true, false, cond, List, [], ◌∷◌, ◌++◌, length, Option, Some, None, refl, sym, ap, ◌∙◌, subst, arith, div-mul-le_self}
use Rattle.std.proofs.lemmas.Bool.Decides.{nat_tests}
use Rattle.tape_types.specs.declared.cartridges.Extent.{Extent}
use Rattle.tape_types.specs.declared.cartridges.Item.TheVariants.{Block}
use Rattle.tape_types.specs.declared.cartridges.Part.{Part}
use Rattle.tape_types.specs.declared.cartridges.Place.{Place}
use Rattle.tape_layout.specs.IndexConstruct.Blocks.{block_at}
use Rattle.extent_map.specs.Blocks.{FileStandsIn, NoOtherBlocks, StandsIn}
use Rattle.extent_map.specs.Laid.{IsLaid, Laid, overlaid, resized}
use Rattle.tape_layout.specs.declared.ops.Op.{Op}
use Rattle.tape_layout.specs.declared.standing.Ends.{Ends}
use Rattle.tape_layout.specs.Ops.{AreNext, end_of, held_by, held_in, or_later, puts}
use Rattle.space_laws.specs.Files.{Files, with_file}
use Rattle.volume_state.specs.PlanLaws.Planned.{IsPutBy, Items, ends_in, with_ops}
use Rattle.volume_state.proofs.PlanLaws.Ends.{end_is}
use Rattle.volume_state.proofs.PlanLaws.Plans.{held_stands}
use Rattle.volume_state.proofs.PlanLaws.Marks.{put_by_either, puts_behind}
use Rattle.volume_state.proofs.PlanLaws.Stays.{further}
use Rattle.volume_state.proofs.PlanLaws.Stored.{puts_held}
use Rattle.promises.proofs.ReplyLaws.Lists.{get_within}
use Rattle.volume_state.specs.StateLaws.Tied.{AreFilesRight, FilesStandIn}

-- ---- what is held for a place

abbrev Has : Option (List ℕ) → Type 0
Has o = (block : List ℕ) × (o ≡ Some block)

held_first : (place : Place) (ops asked : List Op) → Has (held_in place ops) → Has (held_in place (ops ++ asked))
held_first place [] asked has = absurd (cc has.1)
held_first place (op ∷ ops) asked has = by (held_by place op) has.1 (λ rest. held_first place ops asked rest)
  where
    by : (o : Option (List ℕ)) → or_later o (held_in place ops) ≡ Some has.0
        → (Has (held_in place ops) → Has (held_in place (ops ++ asked))) → Has (or_later o (held_in place (ops ++ asked)))
    by (Some held) is later = (held, refl)
    by None is later = later (has.0, is)

held_last : (place : Place) (ops asked : List Op) → Has (held_in place asked) → Has (held_in place (ops ++ asked))
held_last place [] asked has = has
held_last place (op ∷ ops) asked has = by (held_by place op) (held_last place ops asked has)
  where
    by : (o : Option (List ℕ)) → Has (held_in place (ops ++ asked)) → Has (or_later o (held_in place (ops ++ asked)))
    by (Some held) later = (held, refl)
    by None later = later

-- ---- files that stay, or lose blocks

-- each block of a file was one before
abbrev pub AddNone : Files → Files → Type 0
AddNone before next = (part : Part) (pos : ℕ) → FilesStandIn next part pos → FilesStandIn before part pos

-- files that get no new block stay right as ops are admitted
pub files_stay : (planned : Items) (ops asked : List Op) (before next : Files) → AreNext (ends_in planned) asked → AddNone before next
    → AreFilesRight before (ends_in planned) ops → AreFilesRight next (ends_in (with_ops asked planned)) (ops ++ asked)
files_stay planned ops asked before next follows fewer right = record {
  low = λ part pos stands. right.low part pos (fewer part pos stands);
  below = λ part pos stands. further planned asked part pos (right.below part pos (fewer part pos stands));
  bytes = λ part pos stands put. ⊎_elim
      (λ (old : IsPutBy ops (record { part = part; pos = pos })).
      held_first (record { part = part; pos = pos }) ops asked (right.bytes part pos (fewer part pos stands) old))
      (λ (new : IsPutBy asked (record { part = part; pos = pos })).
      absurd (omega (
        arith,
        right.below part pos (fewer part pos stands),
        puts_behind asked (ends_in planned) (record { part = part; pos = pos }) follows new,
      )))
      (put_by_either (record { part = part; pos = pos }) ops asked put);
}

-- ---- one file lies otherwise

-- a block of some file is one of the changed file, or was one before
changed_by : (uid : ℕ) (change : Laid → Laid) (files : Files) (part : Part) (pos : ℕ) (n : ℕ) (b : Bool) → n == uid ≡ b
    → FileStandsIn (cond b (change (files n)) (files n)) part pos
    → (FileStandsIn (change (files n)) part pos × (n == uid ≡ true)) ⊎ FileStandsIn (files n) part pos
changed_by uid change files part pos n true is stands = inl (stands, is)
changed_by uid change files part pos n false is stands = inr stands

-- a file that is cut gets no new block
pub cut_adds_none : (no_other : NoOtherBlocks) (uid size : ℕ) (files : Files) → AddNone files (with_file uid (λ f. resized f size) files)
cut_adds_none no_other uid size files part pos stands = ⊎_elim
    (λ (new : FileStandsIn (resized (files stands.uid) size) part pos × (stands.uid == uid ≡ true)).
    record { uid = stands.uid; block = no_other.lengths (files stands.uid) size part pos new.0 })
    (λ (old : FileStandsIn (files stands.uid) part pos). record { uid = stands.uid; block = old })
    (changed_by uid (λ f. resized f size) files part pos stands.uid (stands.uid == uid) refl stands.block)

-- a block of the new extent is one whose bytes are put
stored_block : (size : ℕ) (new : Extent) (bytes : List ℕ) (part : Part) (pos : ℕ) → 1 ≤ size → new.byte ≡ 0 → new.count ≡ length bytes
    → StandsIn size new part pos → Has (held_in (record { part = part; pos = pos }) (puts size new.part new.block bytes))
stored_block size new bytes part pos some start all s =
    let k = (new.byte + s.byte) / size in
    let low : k * size ≤ new.byte + s.byte = div-mul-le_self (new.byte + s.byte) size in
    let held : held_in (record { part = new.part; pos = new.block + k }) (puts size new.part new.block bytes) ≡ Some (block_at size bytes k) =
    puts_held size new.part new.block bytes k some (omega (arith, low, s.within, start, all)) in (
      block_at size bytes k,
      subst (λ (p : Part). held_in (record { part = p; pos = pos }) (puts size new.part new.block bytes) ≡ Some (block_at size bytes k)) s.on
          (subst (λ (n : ℕ). held_in (record { part = new.part; pos = n }) (puts size new.part new.block bytes) ≡ Some (block_at size bytes k)) s.here held),
    )

-- the blocks of the new extent stand from the end of its partition on
from_end : (size : ℕ) (new : Extent) (part : Part) (pos least : ℕ) (ends : Ends) → new.block ≡ end_of new.part ends
    → ((p : Part) → least ≤ end_of p ends) → StandsIn size new part pos → least ≤ pos
from_end size new part pos least ends at low s = omega (arith, at, low new.part, s.here)

-- a place for which these ops hold bytes is before the ends that they leave
held_below : (planned : Items) (asked : List Op) (place : Place) → AreNext (ends_in planned) asked → Has (held_in place asked)
    → place.pos < end_of place.part (ends_in (with_ops asked planned))
held_below planned asked place follows has = omega (
  arith,
  get_within (with_ops asked planned place.part) place.pos (Block has.0) (held_stands asked planned place has.0 follows has.1),
  end_is place.part (with_ops asked planned),
)

-- a file with bytes in new blocks is right once their puts are admitted
pub files_stored : (no_other : NoOtherBlocks) (planned : Items) (ops : List Op) (files : Files) (uid size : ℕ) (new : Extent) (bytes : List ℕ)
    → AreNext (ends_in planned) (puts size new.part new.block bytes)
    → ((p : Part) → 4 ≤ end_of p (ends_in planned)) → IsLaid (files uid) → (files uid).block_size ≡ size → 1 ≤ size
    → new.block ≡ end_of new.part (ends_in planned) → new.byte ≡ 0 → new.count ≡ length bytes
    → AreFilesRight files (ends_in planned) ops
    → AreFilesRight (with_file uid (λ f. overlaid f new) files) (ends_in (with_ops (puts size new.part new.block bytes) planned))
    (ops ++ puts size new.part new.block bytes)
files_stored no_other planned ops files uid size new bytes follows low laid size_is some at start all right =
    let stay = files_stay planned ops asked files files follows (λ part pos stands. stands) right in
    record {
      low = λ part pos stands. ⊎_elim
          (λ (old : FilesStandIn files part pos). stay.low part pos old)
          (λ (more : StandsIn size new part pos). from_end size new part pos 4 (ends_in planned) at low more)
          (which part pos stands);
      below = λ part pos stands. ⊎_elim
          (λ (old : FilesStandIn files part pos). stay.below part pos old)
          (λ (more : StandsIn size new part pos).
          held_below planned asked (record { part = part; pos = pos }) follows (stored_block size new bytes part pos some start all more))
          (which part pos stands);
      bytes = λ part pos stands put. ⊎_elim
          (λ (old : FilesStandIn files part pos). stay.bytes part pos old put)
          (λ (more : StandsIn size new part pos).
          held_last (record { part = part; pos = pos }) ops asked (stored_block size new bytes part pos some start all more))
          (which part pos stands);
    }
  where
    asked : List Op
    asked = puts size new.part new.block bytes

    same_uid : (n : ℕ) → n == uid ≡ true → n ≡ uid
    same_uid n is = grind (arith, nat_tests, is)

    added : (part : Part) (pos n : ℕ) → n ≡ uid → FileStandsIn (overlaid (files n) new) part pos
        → FilesStandIn files part pos ⊎ StandsIn size new part pos
    added part pos n is stands = ⊎_elim
        (λ (old : FileStandsIn (files n) part pos). inl (record { uid = n; block = old }))
        (λ (more : StandsIn (files n).block_size new part pos).
        inr (subst (λ (s : ℕ). StandsIn s new part pos) (ap (λ (m : ℕ). (files m).block_size) is ∙ size_is) more))
        (no_other.overlays (files n) new part pos (subst (λ (m : ℕ). IsLaid (files m)) (sym is) laid) stands)

    which : (part : Part) (pos : ℕ) → FilesStandIn (with_file uid (λ f. overlaid f new) files) part pos
        → FilesStandIn files part pos ⊎ StandsIn size new part pos
    which part pos stands = ⊎_elim
        (λ (new_one : FileStandsIn (overlaid (files stands.uid) new) part pos × (stands.uid == uid ≡ true)).
        added part pos stands.uid (same_uid stands.uid new_one.1) new_one.0)
        (λ (old : FileStandsIn (files stands.uid) part pos). inl (record { uid = stands.uid; block = old }))
        (changed_by uid (λ f. overlaid f new) files part pos stands.uid (stands.uid == uid) refl stands.block)
