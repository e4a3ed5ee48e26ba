-- A reading of a drive goes on.
use Rattle.std.proofs.Common.{ℕ, true, false, ◌+◌, ◌*◌, ◌-◌, ◌≤◌, ◌<◌, ◌≡◌, List, length, slice_get, Option, Some, Err, refl, sym, ◌∙◌, ap, subst, arith}
use Rattle.std.proofs.Math.Nat.{mul-le-mul_right}
use Rattle.tape_types.specs.Cartridges.{items_of, next}
use Rattle.tape_types.specs.declared.cartridges.Cartridge.{Cartridge}
use Rattle.tape_types.specs.declared.cartridges.Item.{Item}
use Rattle.tape_types.specs.declared.cartridges.Part.{Part}
use Rattle.tape_types.specs.declared.cartridges.Place.{Place}
use Rattle.content_laws.specs.Readings.{front}
use Rattle.content_laws.specs.Content.{Bad}
use Rattle.content_laws.proofs.Whole.{front_within}
use Rattle.tape_drive.specs.Commands.{IsRead, after_read, item_at}
use Rattle.tape_drive.specs.Looks.{Looks}
use Rattle.tape_drive.proofs.Looking.{more_looks, then_looks}
use Rattle.tape_drive.specs.declared.drive.Drive.{Ghosts}
use Rattle.tape_drive.specs.declared.drive.Got.{Got}
use Rattle.tape_drive.specs.declared.drive.Got.TheVariants as got
use Rattle.volume_scan.specs.declared.content.Content.{Content}
use Rattle.volume_scan.specs.declared.errors.ScanErr.{ScanErr}
use Rattle.volume_scan.specs.declared.errors.ScanErr.TheVariants as errors
use Rattle.volume_scan.specs.declared.reading.Reading.{Reading}
use Rattle.volume_scan.specs.Scans.{IsContent, IsScanned}
use Rattle.volume_scan.specs.Steps.{Goes, IsEmptyIndex, IsInOrder, IsReadTo, ends, lead_at}
use Rattle.volume_scan.proofs.Told.{lacks_form, read_told}
use Rattle.volume_scan.proofs.Going.{all_read, behind_labels, ended_at, goes_in_order, moved_pos, read_on, stopped}

-- what a reading keeps from one item to the next
pub record Going {D : Type 0} (drive : Ghosts D) (first now : D) (part : Part) (positions before : ℕ) (r : Reading) : Type 0 where
  pub looks : Looks drive ((r.pos - 4) * drive.MOST) first now
  pub head : drive.head now ≡ Some (record { part = part; pos = r.pos })
  pub later : before ≤ drive.faults now
  pub order : IsInOrder positions r
  pub read : (c : Cartridge) → drive.held first ≡ Some c → (length (items_of part c) ≤ positions) × IsReadTo (items_of part c) r

empty_index : (items : List Item) (x : Option Item) (answer : Got) (buf : List ℕ) (r : Reading) (fault : ScanErr) → IsReadTo items r
    → slice_get items r.pos ≡ x → IsRead x answer buf → IsEmptyIndex answer r fault → IsScanned items (Err fault)
empty_index items x answer buf r (errors.Layout at) t is read (mark, place, (opened, begun_is, behind)) =
    lacks_form items at
    (stopped items x buf r opened t is (subst (λ (g : Got). IsRead x g buf) mark read) begun_is behind ∙ ap Bad (sym place))
empty_index items x answer buf r (errors.Drive counts) t is read fault = tt
empty_index items x answer buf r errors.NoMemory t is read fault = tt

after_more : (answer : Got) (at : Place) → ends answer ≡ false → after_read answer at ≡ next at
after_more got.Block at e = refl
after_more got.Mark at e = refl
after_more got.End at e = absurd (cc)
after_more got.Torn at e = absurd (cc)

one_more : (n most : ℕ) → n * most + most ≡ (n + 1) * most
one_more n most = omega arith

times : (m n most : ℕ) → m ≤ n → m * most ≤ n * most
times m n most le = mul-le-mul_right most le

-- one unit is no more than so many of them
pub one_of : (n most : ℕ) → 1 ≤ n → most ≤ n * most
one_of n most le = omega (arith, times 1 n most le)

module _ {D : Type 0} (drive : Ghosts D) (first now : D) (part : Part) (positions before : ℕ) (r : Reading)
    (going : Going drive first now part positions before r) where
  pub looks_now : r.pos ≤ positions → Looks drive ((positions - 4) * drive.MOST) first now
  looks_now le = more_looks drive ((r.pos - 4) * drive.MOST) ((positions - 4) * drive.MOST) first now (times (r.pos - 4) (positions - 4) drive.MOST (omega arith)) going.looks

  -- one read more is within the reads of the whole partition
  pub looks_after : (after : D) → r.pos < positions → Looks drive drive.MOST now after → Looks drive ((positions - 4) * drive.MOST) first after
  looks_after after lt look =
      let count : r.pos - 4 + 1 ≤ positions - 4 = omega (arith, lt, behind_labels positions r going.order) in
      let le : (r.pos - 4) * drive.MOST + drive.MOST ≤ (positions - 4) * drive.MOST =
      subst (λ (n : ℕ). n ≤ (positions - 4) * drive.MOST) (sym (one_more (r.pos - 4) drive.MOST)) (times (r.pos - 4 + 1) (positions - 4) drive.MOST count) in
      more_looks drive ((r.pos - 4) * drive.MOST + drive.MOST) ((positions - 4) * drive.MOST) first after le
      (then_looks drive ((r.pos - 4) * drive.MOST) drive.MOST first now after going.looks look)

  -- at the end of the partition
  pub told_at_capacity : (found : Content) → positions ≤ r.pos → found.constructs ≡ r.constructs → found.lead ≡ lead_at r.opened r.pos
      → found.front ≡ r.pos → (c : Cartridge) → drive.held first ≡ Some c → IsContent (items_of part c) found
  told_at_capacity found le constructs lead front_is c held =
      let t = going.read c held in
      let long : 4 ≤ length (front (items_of part c)) = omega (arith, behind_labels positions r going.order, t.1.within) in
      read_told (items_of part c) found long
      (all_read (items_of part c) r found t.1 (omega (arith, front_within (items_of part c), t.0, le)) constructs lead front_is)

  module _ (answer : Got) (buf : List ℕ)
      (item : (at : Place) (c : Cartridge) → drive.head now ≡ Some at → drive.held now ≡ Some c → IsRead (item_at at c) answer buf) where
    read_is : (c : Cartridge) → drive.held first ≡ Some c → IsRead (slice_get (items_of part c) r.pos) answer buf
    read_is c held = item (record { part = part; pos = r.pos }) c going.head (going.looks.held ∙ held)

    -- at the end of the front
    pub told_at_end : (found : Content) → ends answer ≡ true → found.constructs ≡ r.constructs → found.lead ≡ lead_at r.opened r.pos
        → found.front ≡ r.pos → (c : Cartridge) → drive.held first ≡ Some c → IsContent (items_of part c) found
    told_at_end found end constructs lead front_is c held =
        let t = going.read c held in
        let long : 4 ≤ length (front (items_of part c)) = omega (arith, behind_labels positions r going.order, t.1.within) in
        read_told (items_of part c) found long
        (all_read (items_of part c) r found t.1 (ended_at (items_of part c) r.pos (slice_get (items_of part c) r.pos) answer buf refl (read_is c held) end) constructs lead front_is)

    -- at an index without a block
    pub told_at_fault : (fault : ScanErr) → IsEmptyIndex answer r fault → (c : Cartridge) → drive.held first ≡ Some c
        → IsScanned (items_of part c) (Err fault)
    told_at_fault fault empty c held =
        empty_index (items_of part c) (slice_get (items_of part c) r.pos) answer buf r fault (going.read c held).1 refl (read_is c held) empty

    -- and behind a block or a mark
    pub goes_on : (after : D) (new : Reading) → ends answer ≡ false → r.pos < positions → Goes answer r new
        → ((at : Place) → drive.head now ≡ Some at → drive.head after ≡ Some (after_read answer at))
        → drive.faults now ≤ drive.faults after → Looks drive drive.MOST now after → Going drive first after part positions before new
    goes_on after new more lt goes head faults look =
        let at : new.pos ≡ r.pos + 1 = moved_pos answer r new goes in
        let count : r.pos - 4 + 1 ≡ new.pos - 4 = omega (arith, at, behind_labels positions r going.order) in
        let most : (r.pos - 4) * drive.MOST + drive.MOST ≡ (new.pos - 4) * drive.MOST = one_more (r.pos - 4) drive.MOST ∙ ap (λ (n : ℕ). n * drive.MOST) count in
        record {
          looks = subst (λ (n : ℕ). Looks drive n first after) most (then_looks drive ((r.pos - 4) * drive.MOST) drive.MOST first now after going.looks look);
          head = head (record { part = part; pos = r.pos }) going.head
              ∙ ap Some (after_more answer (record { part = part; pos = r.pos }) more)
              ∙ ap (λ (n : ℕ). Some (record { part = part; pos = n })) (sym at);
          later = omega (arith, going.later, faults);
          order = goes_in_order positions r new lt answer going.order goes;
          read = λ c held. let t = going.read c held in (
            t.0,
            read_on (items_of part c) (slice_get (items_of part c) r.pos) answer buf r new t.1 refl (read_is c held) goes,
          );
        }
