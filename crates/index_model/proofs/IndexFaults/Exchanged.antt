-- Extents overlap in any order.
use Rattle.std.proofs.Common.{◌≢◌, ℕ, ◌<◌, List, length, inl, inr, arith}
use Rattle.std.proofs.lemmas.Bool.{cases_lt}
use Rattle.std.proofs.lemmas.List.Sorted.{IsPermutation-keeps}
use Rattle.std.specs.List.{swap}
use Rattle.std.specs.List.Sorted.{IsPermutation}
use Rattle.index_model.specs.declared.nodes.RawExtent.{RawExtent}
use Rattle.index_model.specs.Extents.{Covers, Overlap}
use Rattle.index_model.specs.Places.{IsAt}
use Rattle.index_model.proofs.Exchanged.{goes_to, stay_apart}

-- extents at two places share an offset
pub overlap_at : (extents : List RawExtent) (one two offset : ℕ) (a b : RawExtent) → one ≢ two → IsAt extents one a → Covers a offset → IsAt extents two b → Covers b offset → Overlap extents
overlap_at extents one two offset a b apart is covers other_is other_covers =
    elim (cases_lt one two) [
      | inl less ↦ record { earlier = one; later = two; two = less; offset = offset; shared = record { one = a; is = is; covers = covers; two = b; other_is = other_is; other_covers = other_covers } }
      | inr more ↦
          let less : two < one = omega (arith, more, apart) in
          record { earlier = two; later = one; two = less; offset = offset; shared = record { one = b; is = other_is; covers = other_covers; two = a; other_is = is; other_covers = covers } }
    ]

overlap_swap : (extents : List RawExtent) (i j : ℕ) → i < length extents → j < length extents → Overlap extents → Overlap (swap extents i j)
overlap_swap extents i j in_i in_j o =
    let s = o.shared in
    let one = goes_to extents i j in_i in_j o.earlier s.one s.is in
    let two = goes_to extents i j in_i in_j o.later s.two s.other_is in
    let apart : o.earlier ≢ o.later = λ same. omega (arith, same, o.two) in
    overlap_at (swap extents i j) one.to two.to o.offset s.one s.two
    (stay_apart i j o.earlier one.to o.later two.to one.moved two.moved apart) one.is s.covers two.is s.other_covers

-- extents that overlap do so in any order
pub overlap_moved : (xs ys : List RawExtent) → IsPermutation xs ys → Overlap xs → Overlap ys
overlap_moved xs ys moved o = IsPermutation-keeps xs Overlap o overlap_swap ys moved
