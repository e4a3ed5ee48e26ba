-- What a loop over the sorted extents says of them as they stand.
use Rattle.std.proofs.Common.{◌≡◌, List, Bool, true, false, not, refl, subst, sym}
use Rattle.std.proofs.lemmas.List.Sorted.{All-permutation, IsPermutation-sym}
use Rattle.std.specs.List.{All}
use Rattle.std.specs.List.Sorted.{IsNonDecreasingBy, IsPermutation}
use Rattle.index_model.specs.declared.nodes.RawExtent.{RawExtent}
use Rattle.index_model.specs.Extents.{Overlap}
use Rattle.index_model.specs.IndexFaults.Crossings.{EndsInTime, IsCrossed}
use Rattle.index_model.proofs.IndexFaults.Exchanged.{overlap_moved}
use Rattle.index_model.proofs.IndexFaults.ExtentSteps.{overlap_crossed}
use Rattle.index_model.proofs.IndexFaults.Firsts.{false_true}

module _ (extents sorted seen : List RawExtent) (moved : IsPermutation extents sorted) (same : seen ≡ sorted) where
  -- extents that all end in time do so when they are sorted
  pub still_end : All EndsInTime extents → All EndsInTime seen
  still_end ends = subst (All EndsInTime) (sym same) (All-permutation EndsInTime extents sorted moved ends)

  -- extents that overlap once they are sorted overlap as they were given
  pub found : (apart : Bool) → IsNonDecreasingBy (λ e. e.offset) sorted → (apart ≡ false → IsCrossed seen) → not apart ≡ true → Overlap extents
  found true rises crossed e = absurd (false_true e)
  found false rises crossed e =
      overlap_moved sorted extents (IsPermutation-sym extents sorted moved) (overlap_crossed sorted rises (subst IsCrossed same (crossed refl)))

  -- where the sorted extents don't overlap, those that were given don't either
  pub none_found : (apart : Bool) → (apart ≡ true → Overlap seen → ⊥) → not apart ≡ false → Overlap extents → ⊥
  none_found true none e o = none refl (subst Overlap (sym same) (overlap_moved extents sorted moved o))
  none_found false none e o = absurd (false_true (sym e))
