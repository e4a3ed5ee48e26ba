-- An overlay takes its range out of each extent.
use Rattle.std.proofs.Common.{◌≡◌, ℕ, ◌+◌, ◌-◌, ◌<◌, ◌≤◌, Bool, true, false, cond, eqb, ltb, leb, List, [], ◌∷◌, ◌++◌, sym, ap, ◌∙◌, refl, arith, append-nil}
use Rattle.std.specs.List.{filter}
use Rattle.std.proofs.lemmas.Bool.Decides.{nat_tests}
use Rattle.std.proofs.lemmas.List.Elements.{filter-append}
use Rattle.std.proofs.lemmas.Bool.{lt-ltb, le-ltb}
use Rattle.tape_types.specs.declared.cartridges.Extent.{Extent}
use Rattle.extent_map.specs.Laid.{unless_empty, front_of, rest_of, before, past, cut, left_from, taken_out}
use Rattle.extent_map.specs.Laws.{OverlaysTakeOut}

all_kept : (p : Extent → Bool) (x : Extent) → (1 ≤ x.count → p x ≡ true) → filter p (unless_empty x) ≡ unless_empty x
all_kept p x passes = by (eqb x.count 0) refl
  where
    by : (b : Bool) → eqb x.count 0 ≡ b → filter p (cond b [] (x ∷ [])) ≡ cond b [] (x ∷ [])
    by true is = refl
    by false is = let some : 1 ≤ x.count = grind (arith, nat_tests) in ap (λ b. cond b (x ∷ []) []) (passes some)

none_kept : (p : Extent → Bool) (x : Extent) → (1 ≤ x.count → p x ≡ false) → filter p (unless_empty x) ≡ []
none_kept p x fails = by (eqb x.count 0) refl
  where
    by : (b : Bool) → eqb x.count 0 ≡ b → filter p (cond b [] (x ∷ [])) ≡ []
    by true is = refl
    by false is = let some : 1 ≤ x.count = grind (arith, nat_tests) in ap (λ b. cond b (x ∷ []) []) (fails some)

upper : (a b : ℕ) → b ≤ a → leb b a ≡ true
upper a b h = grind (arith, nat_tests)

not_upper : (a b : ℕ) → a < b → leb b a ≡ false
not_upper a b h = grind (arith, nat_tests)

module _ (size from end : ℕ) (order : from ≤ end) where
  abbrev low : Extent → Bool
  low e = ltb e.offset from

  abbrev high : Extent → Bool
  high e = leb from e.offset

  lows : (es : List Extent) → filter low (taken_out size from end es) ≡ cut from es
  lows [] = refl
  lows (e ∷ es) =
      filter-append low (before from e ++ past size end e) (taken_out size from end es)
      ∙ ap (λ l. l ++ filter low (taken_out size from end es)) (filter-append low (before from e) (past size end e))
      ∙ ap (λ l. l ++ filter low (past size end e) ++ filter low (taken_out size from end es)) (all_kept low (front_of (from - e.offset) e) (λ some. lt-ltb e.offset from (omega arith)))
      ∙ ap (λ l. before from e ++ l ++ filter low (taken_out size from end es)) (none_kept low (rest_of size (end - e.offset) e) (λ some. le-ltb (e.offset + (end - e.offset)) from (omega arith)))
      ∙ ap (λ l. l ++ filter low (taken_out size from end es)) (append-nil (before from e))
      ∙ ap (λ l. before from e ++ l) (lows es)

  highs : (es : List Extent) → filter high (taken_out size from end es) ≡ left_from size end es
  highs [] = refl
  highs (e ∷ es) =
      filter-append high (before from e ++ past size end e) (taken_out size from end es)
      ∙ ap (λ l. l ++ filter high (taken_out size from end es)) (filter-append high (before from e) (past size end e))
      ∙ ap (λ l. l ++ filter high (past size end e) ++ filter high (taken_out size from end es)) (none_kept high (front_of (from - e.offset) e) (λ some. not_upper e.offset from (omega arith)))
      ∙ ap (λ l. l ++ filter high (taken_out size from end es)) (all_kept high (rest_of size (end - e.offset) e) (λ some. upper (e.offset + (end - e.offset)) from (omega arith)))
      ∙ ap (λ l. past size end e ++ l) (highs es)

-- an overlay takes its range out of each extent and puts the new one among them
pub overlays_take_out : OverlaysTakeOut
overlays_take_out f new =
    let end : ℕ = new.offset + new.count in
    let out : List Extent = taken_out f.block_size new.offset end f.extents in
    ap (λ l. l ++ new ∷ left_from f.block_size end f.extents) (sym (lows f.block_size new.offset (new.offset + new.count) (omega arith) f.extents))
    ∙ ap (λ l. filter (λ e. ltb e.offset new.offset) out ++ new ∷ l) (sym (highs f.block_size new.offset (new.offset + new.count) (omega arith) f.extents))
