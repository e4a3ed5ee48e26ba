-- A file lies the same, in whatever order its extents are told.
use Rattle.std.proofs.Common.{◌⊎◌, ◌≡◌, ◌≢◌, ℕ, zero, suc, ◌+◌, ◌-◌, ◌<◌, ◌≤◌, min, Bool, true, false, cond, eqb, ltb, leb, List, [], ◌∷◌, ◌++◌, length, map, fold, sym, ap, ◌∙◌, refl, subst, arith, inl, inr, ⊎_elim}
use Rattle.std.specs.Prelude.{⊤}
use Rattle.std.specs.List.{AllByRecursion, filter, swap}
use Rattle.std.specs.List.Sorted.{IsPermutation}
use Rattle.std.proofs.lemmas.Bool.{cases_lt}
use Rattle.std.proofs.lemmas.Bool.Decides.{nat_tests}
use Rattle.std.proofs.lemmas.List.Sorted.{IsPermutation-keeps, IsPermutation-sym}
use Rattle.tape_types.specs.declared.cartridges.Extent.{Extent}
use Rattle.index_model.specs.declared.nodes.RawExtent.{RawExtent}
use Rattle.index_model.specs.Places.{IsAt}
use Rattle.index_model.proofs.Exchanged.{goes_to}
use Rattle.extent_map.specs.Laid.{front_of, before, cut, put_among}
use Rattle.file_tree.specs.Mounts.{Letters, extent_of, by_offset, laid_of}
use Rattle.file_tree.specs.Raws.{IsRaw, AreApart, AllApart, AreRaws}
use Rattle.file_tree.specs.Order.{IsIn}
use Rattle.name_tries.proofs.ItemLemmas.{some_same}
use Rattle.file_tree.proofs.MemberLemmas.{placed, found, of_all, to_all, in_front, in_rest, in_either, moved_in, still_apart, Up, same_up}
use Rattle.file_tree.proofs.RawLemmas.{all_put}

-- ---- extents that lie apart

-- two with bytes share one
pub record Meet (raws : List RawExtent) : Type 0 where
  pub one : ℕ
  pub two : ℕ
  pub differ : one ≢ two
  pub a : RawExtent
  pub b : RawExtent
  pub is : IsAt raws one a
  pub other_is : IsAt raws two b
  pub a_some : 0 < a.count
  pub b_some : 0 < b.count
  pub low : a.offset < b.offset + b.count
  pub high : b.offset < a.offset + a.count

meet_swap : (raws : List RawExtent) (i j : ℕ) → i < length raws → j < length raws → Meet raws → Meet (swap raws i j)
meet_swap raws i j in_i in_j m =
    let one = goes_to raws i j in_i in_j m.one m.a m.is in
    let two = goes_to raws i j in_i in_j m.two m.b m.other_is in
    record {
      one = one.to;
      two = two.to;
      differ = still_apart i j m.one one.to m.two two.to one.moved two.moved m.differ;
      a = m.a;
      b = m.b;
      is = one.is;
      other_is = two.is;
      a_some = m.a_some;
      b_some = m.b_some;
      low = m.low;
      high = m.high;
    }

other_way : (a b : RawExtent) → AreApart a b → AreApart b a
other_way a b apart b_some a_some = ⊎_elim (λ ends. inr ends) (λ begins. inl begins) (apart a_some b_some)

pair_apart : (raws : List RawExtent) → AllApart raws → (i j : ℕ) (a b : RawExtent) → i ≢ j → IsAt raws i a → IsAt raws j b → AreApart a b
pair_apart [] all i j a b differ is also = cc
pair_apart (r ∷ raws) all zero zero a b differ is also = absurd (differ refl)
pair_apart (r ∷ raws) all zero (suc j) a b differ is also =
    subst (λ x. AreApart x b) (some_same r a is) (of_all (AreApart r) b raws all.0 (found b raws j also))
pair_apart (r ∷ raws) all (suc i) zero a b differ is also =
    other_way b a (subst (λ x. AreApart x a) (some_same r b also) (of_all (AreApart r) a raws all.0 (found a raws i is)))
pair_apart (r ∷ raws) all (suc i) (suc j) a b differ is also = pair_apart raws all.1 i j a b (λ e. differ (ap suc e)) is also

none_meet : (raws : List RawExtent) → AllApart raws → Meet raws → ⊥
none_meet raws all m = ⊎_elim (λ ends. omega (arith, ends, m.high)) (λ begins. omega (arith, begins, m.low)) (pair_apart raws all m.one m.two m.a m.b m.differ m.is m.other_is m.a_some m.b_some)

apart_at : (raws : List RawExtent) → (Meet raws → ⊥) → (i j : ℕ) (a b : RawExtent) → i ≢ j → IsAt raws i a → IsAt raws j b → AreApart a b
apart_at raws none i j a b differ is also a_some b_some = ⊎_elim
    (λ (high : b.offset < a.offset + a.count). ⊎_elim
    (λ (low : a.offset < b.offset + b.count). absurd (none (record { one = i; two = j; differ = differ; a = a; b = b; is = is; other_is = also; a_some = a_some; b_some = b_some; low = low; high = high })))
    (λ begins. inr begins)
    (cases_lt a.offset (b.offset + b.count)))
    (λ ends. inl ends)
    (cases_lt b.offset (a.offset + a.count))

all_apart : (raws : List RawExtent) → ((i j : ℕ) (a b : RawExtent) → i ≢ j → IsAt raws i a → IsAt raws j b → AreApart a b) → AllApart raws
all_apart [] each = tt
all_apart (r ∷ raws) each = (
  to_all (AreApart r) raws (λ x here. let at = placed x raws here in each 0 (suc at.0) r x (λ e. omega (arith, e)) refl at.1),
  all_apart raws (λ i j a b differ is also. each (suc i) (suc j) a b (λ e. differ (omega (arith, e))) is also),
)

-- extents that can come into a file can do so in any order
pub moved_raws : (letters : Letters) (size long : ℕ) (raws sorted : List RawExtent) → IsPermutation raws sorted → AreRaws letters size long raws → AreRaws letters size long sorted
moved_raws letters size long raws sorted moved are =
    let back = IsPermutation-sym raws sorted moved in
    record {
      some_block = are.some_block;
      short = are.short;
      each = to_all (IsRaw letters size) sorted (λ x here. of_all (IsRaw letters size) x raws are.each (moved_in sorted raws back x here));
      apart = all_apart sorted (apart_at sorted (λ m. none_meet raws are.apart (IsPermutation-keeps sorted Meet m meet_swap raws back)));
    }

-- ---- extents by their offsets

abbrev Lower : Extent → Extent → Type 0
Lower e x = e.offset < x.offset

not_both : (x y : Extent) → Lower x y → Lower y x → ⊥
not_both x y low high = omega (arith, low, high)

-- where one is put among those by their offsets
put_low : (new e : Extent) (es : List Extent) → e.offset < new.offset → put_among new (e ∷ es) ≡ e ∷ put_among new es
put_low new e es low =
    let yes : ltb e.offset new.offset ≡ true = grind (arith, nat_tests) in
    let fails : leb new.offset e.offset ≡ false = grind (arith, nat_tests) in
    ap (λ b. cond b (e ∷ filter (λ (x : Extent). ltb x.offset new.offset) es) (filter (λ (x : Extent). ltb x.offset new.offset) es) ++ new ∷ filter (λ (x : Extent). leb new.offset x.offset) (e ∷ es)) yes
    ∙ ap (λ b. e ∷ (filter (λ (x : Extent). ltb x.offset new.offset) es ++ new ∷ cond b (e ∷ filter (λ (x : Extent). leb new.offset x.offset) es) (filter (λ (x : Extent). leb new.offset x.offset) es))) fails

none_low : (new : Extent) (es : List Extent) → AllByRecursion (λ (x : Extent). new.offset < x.offset) es → filter (λ (x : Extent). ltb x.offset new.offset) es ≡ []
none_low new [] all = refl
none_low new (e ∷ es) all =
    let above = all.0 in
    let fails : ltb e.offset new.offset ≡ false = grind (arith, nat_tests) in
    ap (λ b. cond b (e ∷ filter (λ (x : Extent). ltb x.offset new.offset) es) (filter (λ (x : Extent). ltb x.offset new.offset) es)) fails ∙ none_low new es all.1

all_high : (new : Extent) (es : List Extent) → AllByRecursion (λ (x : Extent). new.offset < x.offset) es → filter (λ (x : Extent). leb new.offset x.offset) es ≡ es
all_high new [] all = refl
all_high new (e ∷ es) all =
    let above = all.0 in
    let yes : leb new.offset e.offset ≡ true = grind (arith, nat_tests) in
    ap (λ b. cond b (e ∷ filter (λ (x : Extent). leb new.offset x.offset) es) (filter (λ (x : Extent). leb new.offset x.offset) es)) yes ∙ ap (λ l. e ∷ l) (all_high new es all.1)

put_high : (new : Extent) (es : List Extent) → AllByRecursion (λ (x : Extent). new.offset < x.offset) es → put_among new es ≡ new ∷ es
put_high new es all = ap (λ l. l ++ new ∷ filter (λ (x : Extent). leb new.offset x.offset) es) (none_low new es all) ∙ ap (λ l. new ∷ l) (all_high new es all)

-- those by their offsets with one more, which has another offset
record Grown (new : Extent) (es next : List Extent) : Type 0 where
  up : Up Lower next
  here : IsIn new next
  kept : (x : Extent) → IsIn x es → IsIn x next
  only : (x : Extent) → IsIn x next → (x ≡ new) ⊎ IsIn x es

put_up : (new : Extent) (es : List Extent) → Up Lower es → AllByRecursion (λ (x : Extent). x.offset ≢ new.offset) es → Grown new es (put_among new es)
put_up new [] up differ = record { up = (tt, tt); here = inl refl; kept = λ x more. absurd more; only = λ x here. ⊎_elim (λ same. inl same) (λ more. absurd more) here }
put_up new (e ∷ es) up differ = ⊎_elim
    (λ (low : e.offset < new.offset). subst (Grown new (e ∷ es)) (sym (put_low new e es low)) (later low (put_up new es up.1 differ.1)))
    (λ (high : new.offset ≤ e.offset).
    let apart : new.offset ≢ e.offset = λ same. differ.0 (sym same) in
    let less : new.offset < e.offset = omega (arith, high, apart) in
    let all : AllByRecursion (λ (x : Extent). new.offset < x.offset) (e ∷ es) = (less, to_all (λ (x : Extent). new.offset < x.offset) es (λ x here. omega (arith, less, of_all (λ (z : Extent). e.offset < z.offset) x es up.0 here))) in
    subst (Grown new (e ∷ es)) (sym (put_high new (e ∷ es) all)) (record { up = (all, up); here = inl refl; kept = λ x more. inr more; only = λ x here. here }))
    (cases_lt e.offset new.offset)
  where
    later : e.offset < new.offset → Grown new es (put_among new es) → Grown new (e ∷ es) (e ∷ put_among new es)
    later low g = record {
      up = (
        to_all (λ (x : Extent). e.offset < x.offset) (put_among new es) (λ x here. ⊎_elim
            (λ (same : x ≡ new). omega (arith, low, ap (λ (z : Extent). z.offset) same))
            (λ (more : IsIn x es). of_all (λ (z : Extent). e.offset < z.offset) x es up.0 more)
            (g.only x here)),
        g.up,
      );
      here = inr g.here;
      kept = λ x more. ⊎_elim (λ same. inl same) (λ rest. inr (g.kept x rest)) more;
      only = λ x here. ⊎_elim (λ same. inr (inl same)) (λ more. ⊎_elim (λ same. inl same) (λ rest. inr (inr rest)) (g.only x more)) here;
    }

-- all offsets differ
abbrev Differ : List Extent → Type 0
Differ [] = ⊤
Differ (e ∷ es) = AllByRecursion (λ (x : Extent). e.offset ≢ x.offset) es × Differ es

record Gathered (acc es next : List Extent) : Type 0 where
  up : Up Lower next
  kept : (x : Extent) → IsIn x acc ⊎ IsIn x es → IsIn x next
  only : (x : Extent) → IsIn x next → IsIn x acc ⊎ IsIn x es

gathers : (acc es : List Extent) → Up Lower acc → Differ es → AllByRecursion (λ (e : Extent). AllByRecursion (λ (x : Extent). x.offset ≢ e.offset) acc) es
    → Gathered acc es (fold (λ sorted e. put_among e sorted) acc es)
gathers acc [] up differ apart = record { up = up; kept = λ x here. ⊎_elim (λ is. is) (λ none. absurd none) here; only = λ x here. inl here }
gathers acc (e ∷ es) up differ apart =
    let g = put_up e acc up apart.0 in
    let more = gathers (put_among e acc) es g.up differ.1
    (to_all (λ (x : Extent). AllByRecursion (λ (y : Extent). y.offset ≢ x.offset) (put_among e acc)) es
    (λ x here. all_put (λ (y : Extent). y.offset ≢ x.offset) e acc (of_all (λ (x : Extent). AllByRecursion (λ (y : Extent). y.offset ≢ x.offset) acc) x es apart.1 here) (of_all (λ (x : Extent). e.offset ≢ x.offset) x es differ.0 here))) in
    record {
      up = more.up;
      kept = λ x here. ⊎_elim
          (λ old. more.kept x (inl (g.kept x old)))
          (λ (new : IsIn x (e ∷ es)). ⊎_elim (λ (same : x ≡ e). more.kept x (inl (subst (λ z. IsIn z (put_among e acc)) (sym same) g.here))) (λ rest. more.kept x (inr rest)) new)
          here;
      only = λ x here. ⊎_elim
          (λ old. ⊎_elim (λ same. inr (inl same)) (λ was. inl was) (g.only x old))
          (λ rest. inr (inr rest))
          (more.only x here);
    }

-- ---- the extents that are told of a file

module _ (letters : Letters) (long : ℕ) where
  abbrev told : List RawExtent → List Extent
  told raws = cut long (map (extent_of letters) raws)

  -- what a raw extent gives has its offset, where it has bytes
  gives : (r : RawExtent) (e : Extent) → IsIn e (before long (extent_of letters r)) → (0 < r.count) × (e.offset ≡ r.offset)
  gives r e here = by (eqb (min r.count (long - r.offset)) 0) refl here
    where
      by : (b : Bool) → eqb (min r.count (long - r.offset)) 0 ≡ b → IsIn e (cond b [] (front_of (long - r.offset) (extent_of letters r) ∷ [])) → (0 < r.count) × (e.offset ≡ r.offset)
      by true is none = absurd none
      by false is (inl same) =
          let some : 0 < min r.count (long - r.offset) = grind (arith, nat_tests) in
          (omega (arith, some), ap (λ (z : Extent). z.offset) same)
      by false is (inr none) = absurd none

  from_one : (raws : List RawExtent) (e : Extent) → IsIn e (told raws) → (r : RawExtent) × (IsIn r raws) × IsIn e (before long (extent_of letters r))
  from_one [] e here = absurd here
  from_one (r ∷ raws) e here = ⊎_elim
      (λ (this : IsIn e (before long (extent_of letters r))). (r, inl refl, this))
      (λ (rest : IsIn e (told raws)). let more = from_one raws e rest in (more.0, inr more.1, more.2))
      (in_either e (before long (extent_of letters r)) (told raws) here)

  to_one : (raws : List RawExtent) (r : RawExtent) (e : Extent) → IsIn r raws → IsIn e (before long (extent_of letters r)) → IsIn e (told raws)
  to_one [] x e none here = elim none [ ]
  to_one (r ∷ raws) x e (inl same) here = in_front e (before long (extent_of letters r)) (told raws) (subst (λ z. IsIn e (before long (extent_of letters z))) same here)
  to_one (r ∷ raws) x e (inr more) here = in_rest e (before long (extent_of letters r)) (told raws) (to_one raws x e more here)

  differ : (raws : List RawExtent) → AllApart raws → Differ (told raws)
  differ [] apart = tt
  differ (r ∷ raws) apart = by (eqb (min r.count (long - r.offset)) 0) later (differ raws apart.1)
    where
      later : (e : Extent) → IsIn e (before long (extent_of letters r)) → AllByRecursion (λ (x : Extent). e.offset ≢ x.offset) (told raws)
      later e here = to_all (λ (x : Extent). e.offset ≢ x.offset) (told raws) (λ x there same.
          let g = gives r e here in
          let f = from_one raws x there in
          let h = gives f.0 x f.2 in
          ⊎_elim
          (λ (ends : r.offset + r.count ≤ f.0.offset). omega (arith, ends, g.0, g.1, h.0, h.1, same))
          (λ (begins : f.0.offset + f.0.count ≤ r.offset). omega (arith, begins, g.0, g.1, h.0, h.1, same))
          (of_all (AreApart r) f.0 raws apart.0 f.1 g.0 h.0))

      by : (b : Bool) → ((e : Extent) → IsIn e (cond b [] (front_of (long - r.offset) (extent_of letters r) ∷ [])) → AllByRecursion (λ (x : Extent). e.offset ≢ x.offset) (told raws))
          → Differ (told raws) → Differ (cond b [] (front_of (long - r.offset) (extent_of letters r) ∷ []) ++ told raws)
      by true f rest = rest
      by false f rest = (f (front_of (long - r.offset) (extent_of letters r)) (inl refl), rest)

  none_yet : (es : List Extent) → AllByRecursion (λ (e : Extent). AllByRecursion (λ (x : Extent). x.offset ≢ e.offset) []) es
  none_yet [] = tt
  none_yet (e ∷ es) = (tt, none_yet es)

  gathered : (raws : List RawExtent) → AllApart raws → Gathered [] (told raws) (by_offset (told raws))
  gathered raws apart = gathers [] (told raws) tt (differ raws apart) (none_yet (told raws))

  one_way : (raws sorted : List RawExtent) → IsPermutation raws sorted → AllApart raws → AllApart sorted → (e : Extent) → IsIn e (by_offset (told raws)) → IsIn e (by_offset (told sorted))
  one_way raws sorted moved apart also e here = ⊎_elim
      (λ none. absurd none)
      (λ (this : IsIn e (told raws)).
      let one = from_one raws e this in
      (gathered sorted also).kept e (inr (to_one sorted one.0 e (moved_in raws sorted moved one.0 one.1) one.2)))
      ((gathered raws apart).only e here)

  same_told : (raws sorted : List RawExtent) → IsPermutation raws sorted → AllApart raws → AllApart sorted → by_offset (told sorted) ≡ by_offset (told raws)
  same_told raws sorted moved apart also =
      same_up Lower not_both (by_offset (told sorted)) (by_offset (told raws)) (gathered sorted also).up (gathered raws apart).up
      (one_way sorted raws (IsPermutation-sym raws sorted moved) also apart)
      (one_way raws sorted moved apart also)

-- a file lies the same in whatever order its extents are told
pub moved_laid : (letters : Letters) (size long : ℕ) (raws sorted : List RawExtent) → IsPermutation raws sorted → AreRaws letters size long raws → laid_of letters size long sorted ≡ laid_of letters size long raws
moved_laid letters size long raws sorted moved are =
    ap (λ es. record { block_size = size; length = long; extents = es })
    (same_told letters long raws sorted moved are.apart (moved_raws letters size long raws sorted moved are).apart)
