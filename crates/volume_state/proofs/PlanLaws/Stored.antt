-- What a run of blocks holds stands on tape once it is put.
use Rattle.std.proofs.Common.{◌≡◌, ℕ, zero, suc, ◌+◌, ◌*◌, ◌<◌, ◌≤◌, ⊎_elim, ◌∙◌, ◌==◌, true, false, List, length, map, Option, Some, slice_get, refl, sym, ap, arith}
use Rattle.std.specs.Int.{div_ceil}
use Rattle.std.specs.List.{range_with_len}
use Rattle.std.proofs.lemmas.Bool.{cases_lt}
use Rattle.std.proofs.lemmas.Bool.Decides.{nat_tests}
use Rattle.std.proofs.Math.Nat.{mul-le-mul_right}
use Rattle.tape_layout.specs.IndexConstruct.Blocks.{block_at}
use Rattle.tape_layout.proofs.IndexConstruct.Cuts.{is_enough}
use Rattle.tape_types.specs.declared.cartridges.Cartridge.{Cartridge}
use Rattle.tape_types.specs.declared.cartridges.Extent.{Extent}
use Rattle.tape_types.specs.declared.cartridges.Item.{Item}
use Rattle.tape_types.specs.declared.cartridges.Note.TheVariants.{Absent}
use Rattle.tape_types.specs.declared.cartridges.Part.{Part}
use Rattle.tape_types.specs.declared.cartridges.Part.TheVariants.{Ip, Dp}
use Rattle.tape_types.specs.Cartridges.{items_of}
use Rattle.extent_map.specs.Cells.{tape_of}
use Rattle.file_tree.specs.Writes.{HoldsBlocks, HoldsBytes}
use Rattle.file_tree.proofs.BytesLemmas.{writes_are_writes}
use Rattle.tape_layout.specs.declared.ops.Op.TheVariants.{Put}
use Rattle.tape_layout.specs.Ops.{end_of, held_by, held_in, or_later, puts}
use Rattle.volume_state.specs.PlanLaws.Planned.{Items, ends_in, tape_on, with_ops}
use Rattle.volume_state.proofs.PlanLaws.Admits.{puts_lead}
use Rattle.volume_state.proofs.PlanLaws.Plans.{held_stands}

-- ---- a run of blocks holds the bytes of each

run_held : (f : ℕ → List ℕ) (part : Part) (pos a n k : ℕ) → a ≤ k → k < a + n
    → held_in (record { part = part; pos = pos + k })
    (map (λ (j : ℕ). Put (record { part = part; pos = pos + j }) (f j)) (range_with_len a n)) ≡ Some (f k)
run_held f part pos a zero k low high = absurd (omega (arith, low, high))
run_held f part pos a (suc n) k low high = ⊎_elim
    (λ (more : a < k).
    later part a k rest more (run_held f part pos (a + 1) n k (omega (arith, more)) (omega (arith, high))))
    (λ (less : k ≤ a). let here : k ≡ a = omega (arith, low, less) in first part a k rest here)
    (cases_lt a k)
  where
    rest : Option (List ℕ)
    rest =
        held_in (record { part = part; pos = pos + k })
        (map (λ (j : ℕ). Put (record { part = part; pos = pos + j }) (f j)) (range_with_len (a + 1) n))

    later : (on : Part) (b c : ℕ) (l : Option (List ℕ)) → b < c → l ≡ Some (f c)
        → or_later (held_by (record { part = on; pos = pos + c }) (Put (record { part = on; pos = pos + b }) (f b)))
        l ≡ Some (f c)
    later Ip b c l lt is = let differ : pos + b == pos + c ≡ false = grind (arith, nat_tests, lt) in rw differ is
    later Dp b c l lt is = let differ : pos + b == pos + c ≡ false = grind (arith, nat_tests, lt) in rw differ is

    first : (on : Part) (b c : ℕ) (l : Option (List ℕ)) → c ≡ b
        → or_later (held_by (record { part = on; pos = pos + c }) (Put (record { part = on; pos = pos + b }) (f b)))
        l ≡ Some (f c)
    first Ip b c l is =
        let same : pos + b == pos + c ≡ true = grind (arith, nat_tests, is) in rw same
        (ap (λ (k : ℕ). Some (f k)) (sym is))
    first Dp b c l is =
        let same : pos + b == pos + c ≡ true = grind (arith, nat_tests, is) in rw same
        (ap (λ (k : ℕ). Some (f k)) (sym is))

-- each block in which a byte stands
is_block : (size k count : ℕ) → 1 ≤ size → k * size < count → k < div_ceil count size
is_block size k count some lt = ⊎_elim
    (λ (is : k < div_ceil count size). is)
    (λ (ge : div_ceil count size ≤ k).
    let more : div_ceil count size * size ≤ k * size = mul-le-mul_right size ge in
    absurd (omega (arith, more, lt, is_enough size count some)))
    (cases_lt k (div_ceil count size))

-- each block of a document is held by one of its puts
pub puts_held : (size : ℕ) (part : Part) (pos : ℕ) (doc : List ℕ) (k : ℕ) → 1 ≤ size → k * size < length doc
    → held_in (record { part = part; pos = pos + k }) (puts size part pos doc) ≡ Some (block_at size doc k)
puts_held size part pos doc k some lt =
    run_held (block_at size doc) part pos 0 (div_ceil (length doc) size) k (omega arith)
    (omega (arith, is_block size k (length doc) some lt))

-- ---- what is stored

-- a run of blocks from a position on, with all its bytes
abbrev pub run_of : Part → ℕ → ℕ → Extent
run_of part pos count = record { offset = 0; part = part; block = pos; byte = 0; count = count }

-- the items as a cartridge
abbrev cartridge_with : Items → Cartridge
cartridge_with items = record { ip = items Ip; dp = items Dp; vcr = 0; note_ip = Absent; note_dp = Absent }

held_bytes : (items : Items) (part : Part) (pos count size : ℕ) (bytes : List ℕ)
    → HoldsBytes (tape_of (cartridge_with items)) size (run_of part pos count) bytes
    → HoldsBytes (tape_on items) size (run_of part pos count) bytes
held_bytes items Ip pos count size bytes h = record { from_start = h.from_start; all = h.all; each = h.each }
held_bytes items Dp pos count size bytes h = record { from_start = h.from_start; all = h.all; each = h.each }

on_part : (items : Items) (part : Part) → items_of part (cartridge_with items) ≡ items part
on_part items Ip = refl
on_part items Dp = refl

-- bytes that were put stand on the tape that is planned
pub stored_bytes : (planned : Items) (size : ℕ) (part : Part) (pos : ℕ) (bytes : List ℕ) → 1 ≤ size
    → end_of part (ends_in planned) ≡ pos
    → HoldsBytes (tape_on (with_ops (puts size part pos bytes) planned)) size (run_of part pos (length bytes)) bytes
stored_bytes planned size part pos bytes some at =
    held_bytes late part pos (length bytes) size bytes
    (writes_are_writes.blocks (cartridge_with late) size (run_of part pos (length bytes)) bytes blocks)
  where
    late : Items
    late = with_ops (puts size part pos bytes) planned

    blocks : HoldsBlocks (cartridge_with late) size (run_of part pos (length bytes)) bytes
    blocks = record {
      from_start = refl;
      all = refl;
      each = λ k lt. ap (λ (l : List Item). slice_get l (pos + k)) (on_part late part)
          ∙ held_stands (puts size part pos bytes) planned (record { part = part; pos = pos + k })
          (block_at size bytes k)
          (puts_lead size part pos bytes (ends_in planned) at).next (puts_held size part pos bytes k some lt);
    }
