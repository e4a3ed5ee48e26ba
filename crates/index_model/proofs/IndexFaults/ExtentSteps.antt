-- What a loop knows of the extents so far.
use Rattle.std.proofs.Common.{◌≡◌, ◌⊎◌, ℕ, ◌+◌, ◌<◌, ◌≤◌, List, length, get_or, inl, inr, refl, ap, subst, arith, sym}
use Rattle.std.proofs.lemmas.Bool.{cases_lt}
use Rattle.std.proofs.lemmas.Option.{get_or_from_slice_get, slice_get_within}
use Rattle.std.specs.List.Sorted.{IsNonDecreasingBy}
use Rattle.index_model.specs.declared.nodes.RawExtent.{RawExtent}
use Rattle.index_model.specs.Extents.{Covers, Overlap, ShareOffset}
use Rattle.index_model.specs.Places.{IsAt}
use Rattle.index_model.proofs.Walks.{same_element}
use Rattle.index_model.specs.IndexFaults.Crossings.{Follows, IsCrossed}
use Rattle.index_model.proofs.IndexFaults.Exchanged.{overlap_at}

-- an extent with bytes stands before this place and ends here
pub record IsLast (extents : List RawExtent) (at end : ℕ) : Type 0 where
  pub place : ℕ
  pub before : place < at
  pub extent : RawExtent
  pub is : IsAt extents place extent
  pub some : 0 < extent.count
  pub ends : extent.offset + extent.count ≡ end

-- no two extents before this place share an offset, and all that they cover is below the end
pub record IsKept (extents : List RawExtent) (end at : ℕ) : Type 0 where
  pub apart : (one two offset : ℕ) → one < two → two < at → ShareOffset extents one two offset → ⊥
  pub below : (place offset : ℕ) (extent : RawExtent) → place < at → IsAt extents place extent → Covers extent offset → offset < end
  pub last : (end ≡ 0) ⊎ IsLast extents at end

module _ (extents : List RawExtent) where
  pub begin : IsKept extents 0 0
  begin = record {
    apart = λ one two offset earlier less s. omega (arith, less);
    below = λ place offset extent less is covers. absurd (omega (arith, less));
    last = inl refl;
  }

  -- once all extents in order are passed without a crossing, none overlap
  pub end : (last at : ℕ) → IsKept extents last at → length extents ≤ at → Overlap extents → ⊥
  end last at kept all o =
      let s = o.shared in
      let less = slice_get_within extents o.later s.two s.other_is in
      kept.apart o.earlier o.later o.offset o.two (omega (arith, all, less)) s

  module _ (last at : ℕ) (kept : IsKept extents last at) (extent : RawExtent) (is : IsAt extents at extent) where
    -- an extent that begins before the latest end crosses an earlier one
    pub crossed : 0 < extent.count → extent.offset < last → IsCrossed extents
    crossed some less = cross kept.last
      where
        cross : (last ≡ 0) ⊎ IsLast extents at last → IsCrossed extents
        cross (inl none) = absurd (omega (arith, none, less))
        cross (inr l) = record {
          earlier = l.place;
          later = at;
          two = l.before;
          one = l.extent;
          is = l.is;
          one_some = l.some;
          other = extent;
          other_is = is;
          other_some = some;
          crossed = omega (arith, l.ends, less);
        }

    -- the extents so far and this one, where all that it covers is from the old end on and below the new one
    module _ (new : ℕ) (more : last ≤ new) (from : (offset : ℕ) → Covers extent offset → (last ≤ offset) × (offset < new)) where
      covers_here : (place offset : ℕ) (e : RawExtent) → place ≡ at → IsAt extents place e → Covers e offset → Covers extent offset
      covers_here place offset e here e_is covers =
          let same = same_element extents at e extent (subst (λ k. IsAt extents k e) here e_is) is in
          subst (λ x. Covers x offset) same covers

      apart_more : (one two offset : ℕ) → one < two → two < at + 1 → ShareOffset extents one two offset → ⊥
      apart_more one two offset earlier less s =
          elim (cases_lt two at) [
            | inl lower ↦ kept.apart one two offset earlier lower s
            | inr higher ↦
                let here : two ≡ at = omega (arith, higher, less) in
                let covers = covers_here two offset s.two here s.other_is s.other_covers in
                let below = kept.below one offset s.one (omega (arith, earlier, here)) s.is s.covers in
                omega (arith, below, (from offset covers).0)
          ]

      below_more : (place offset : ℕ) (e : RawExtent) → place < at + 1 → IsAt extents place e → Covers e offset → offset < new
      below_more place offset e less e_is covers =
          elim (cases_lt place at) [
            | inl lower ↦ let below = kept.below place offset e lower e_is covers in omega (arith, below, more)
            | inr higher ↦ (from offset (covers_here place offset e (omega (arith, higher, less)) e_is covers)).1
          ]

    passed : extent.count ≡ 0 → IsKept extents last (at + 1)
    passed none = record {
      apart = apart_more last (omega arith) (λ offset covers. absurd (omega (arith, covers.from, covers.until, none)));
      below = below_more last (omega arith) (λ offset covers. absurd (omega (arith, covers.from, covers.until, none)));
      last = still kept.last;
    }
      where
        still : (last ≡ 0) ⊎ IsLast extents at last → (last ≡ 0) ⊎ IsLast extents (at + 1) last
        still (inl none) = inl none
        still (inr l) = inr record { place = l.place; before = omega (arith, l.before); extent = l.extent; is = l.is; some = l.some; ends = l.ends }

    behind : 0 < extent.count → last ≤ extent.offset → IsKept extents (extent.offset + extent.count) (at + 1)
    behind some from = record {
      apart = apart_more (extent.offset + extent.count) (omega (arith, from)) (λ offset covers. (omega (arith, covers.from, from), covers.until));
      below = below_more (extent.offset + extent.count) (omega (arith, from)) (λ offset covers. (omega (arith, covers.from, from), covers.until));
      last = inr record { place = at; before = omega arith; extent = extent; is = is; some = some; ends = refl };
    }

    -- an extent that begins behind the latest end is passed
    pub step : (new : ℕ) → Follows last extent new → IsKept extents new (at + 1)
    step new (inl none) = subst (λ e. IsKept extents e (at + 1)) (sym none.1) (passed none.0)
    step new (inr some) = subst (λ e. IsKept extents e (at + 1)) (sym some.2) (behind some.0 some.1)

  -- where the offsets do not fall, an extent that begins before an earlier one ends shares its offset
  pub overlap_crossed : IsNonDecreasingBy (λ e. e.offset) extents → IsCrossed extents → Overlap extents
  overlap_crossed rises x =
      let one : get_or extents x.earlier x.one ≡ x.one = get_or_from_slice_get extents x.earlier x.one x.one x.is in
      let two : get_or extents x.later x.one ≡ x.other = get_or_from_slice_get extents x.later x.other x.one x.other_is in
      let less = slice_get_within extents x.later x.other x.other_is in
      let ordered : x.one.offset ≤ x.other.offset = omega (arith, rises x.earlier x.later x.one (omega (arith, x.two)) less, ap (λ e. e.offset) one, ap (λ e. e.offset) two) in
      overlap_at extents x.earlier x.later x.other.offset x.one x.other (λ same. omega (arith, same, x.two))
      x.is record { from = ordered; until = x.crossed } x.other_is record { from = omega arith; until = omega (arith, x.other_some) }
