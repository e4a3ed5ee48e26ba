-- The extents that an index tells of a file, one after the other.
use Rattle.std.proofs.Common.{◌⊎◌, ◌≡◌, ℕ, zero, suc, ◌+◌, ◌-◌, ◌<◌, ◌≤◌, min, Bool, true, false, cond, ltb, leb, List, [], ◌∷◌, ◌++◌, length, take, drop, get_or, map, sym, ap, ◌∙◌, refl, subst, arith, inl, inr, ⊎_elim}
use Rattle.std.specs.List.{AllByRecursion, filter}
use Rattle.std.proofs.lemmas.List.Sums.{fold-append}
use Rattle.std.proofs.lemmas.Grind.{flat_map-append}
use Rattle.std.proofs.lemmas.List.{map-append, append-nil}
use Rattle.tape_types.specs.declared.cartridges.Extent.{Extent}
use Rattle.index_model.specs.declared.nodes.RawExtent.{RawExtent}
use Rattle.extent_map.specs.Laid.{Laid, IsLaid, AreLaid, front_of, before, past, cut, overlaid, resized, taken_out, put_among}
use Rattle.extent_map.proofs.LaidLemmas.{before_whole, before_none, before_part, past_none, past_whole}
use Rattle.extent_map.proofs.TakenLemmas.{overlays_take_out}
use Rattle.file_tree.specs.Mounts.{Letters, extent_of, by_offset, laid_of}
use Rattle.file_tree.specs.Raws.{IsRaw, AreApart, AllApart, IsApartFrom, LieApart, IsPlaced, AreRaws}

-- what holds of all extents holds of those among which another is put
all_filtered : (P : Extent → Type 0) (t : Extent → Bool) (es : List Extent) → AllByRecursion P es → AllByRecursion P (filter t es)
all_filtered P t [] all = all
all_filtered P t (e ∷ es) all = by (t e) (all_filtered P t es all.1)
  where
    by : (b : Bool) → AllByRecursion P (filter t es) → AllByRecursion P (cond b (e ∷ filter t es) (filter t es))
    by true more = (all.0, more)
    by false more = more

all_joined : {X : Type 0} (P : X → Type 0) (xs ys : List X) → AllByRecursion P xs → AllByRecursion P ys → AllByRecursion P (xs ++ ys)
all_joined P [] ys a b = b
all_joined P (x ∷ xs) ys a b = (a.0, all_joined P xs ys a.1 b)

-- what holds of all extents and of the new one holds of them with it
pub all_put : (P : Extent → Type 0) (new : Extent) (es : List Extent) → AllByRecursion P es → P new → AllByRecursion P (put_among new es)
all_put P new es all this = all_joined P (filter (λ e. ltb e.offset new.offset) es) (new ∷ filter (λ e. leb new.offset e.offset) es) (all_filtered P (λ e. ltb e.offset new.offset) es all) (this, all_filtered P (λ e. leb new.offset e.offset) es all)

-- what follows from two facts of each element holds of all
pub all_both : {X : Type 0} (P Q R : X → Type 0) → ((x : X) → P x → Q x → R x) → (xs : List X) → AllByRecursion P xs → AllByRecursion Q xs → AllByRecursion R xs
all_both P Q R f [] a b = tt
all_both P Q R f (x ∷ xs) a b = (f x a.0 b.0, all_both P Q R f xs a.1 b.1)

-- an extent that lies apart from all others takes nothing out of them
nothing_taken : (size low high from end : ℕ) (es : List Extent) → AreLaid size low high es → from < end → AllByRecursion (λ (e : Extent). (e.offset + e.count ≤ from) ⊎ (end ≤ e.offset)) es → taken_out size from end es ≡ es
nothing_taken size low high from end [] laid lt apart = refl
nothing_taken size low high from end (e ∷ es) laid lt apart =
    ap (λ l. l ++ taken_out size from end es) (one apart.0) ∙ ap (λ l. e ∷ l) (nothing_taken size (e.offset + e.count) high from end es laid.4 lt apart.1)
  where
    one : (e.offset + e.count ≤ from) ⊎ (end ≤ e.offset) → before from e ++ past size end e ≡ e ∷ []
    one (inl ends) = ap (λ l. l ++ past size end e) (before_whole from e laid.1 ends) ∙ ap (λ l. e ∷ l) (past_none size end e (omega (arith, ends, lt)))
    one (inr begins) = ap (λ l. l ++ past size end e) (before_none from e (omega (arith, begins, lt))) ∙ past_whole size end e laid.1 laid.2 begins

-- extents that end within a length are not cut at it
pub nothing_cut : (size low high at : ℕ) (es : List Extent) → AreLaid size low high es → high ≤ at → cut at es ≡ es
nothing_cut size low high at [] laid le = refl
nothing_cut size low high at (e ∷ es) laid le =
    ap (λ l. l ++ cut at es) (before_whole at e laid.1 (omega (arith, le, later (e.offset + e.count) es laid.4))) ∙ ap (λ l. e ∷ l) (nothing_cut size (e.offset + e.count) high at es laid.4 le)
  where
    later : (low : ℕ) (es : List Extent) → AreLaid size low high es → low ≤ high
    later low [] laid = laid
    later low (e ∷ es) laid = omega (arith, laid.0, later (e.offset + e.count) es laid.4)

one_more : (letters : Letters) (length : ℕ) (front : List RawExtent) (raw : RawExtent) → cut length (map (extent_of letters) (front ++ raw ∷ [])) ≡ cut length (map (extent_of letters) front) ++ before length (extent_of letters raw)
one_more letters length front raw =
    ap (cut length) (map-append (extent_of letters) front (raw ∷ [])) ∙ flat_map-append (before length) (map (extent_of letters) front) (extent_of letters raw ∷ [])
    ∙ ap (λ l. cut length (map (extent_of letters) front) ++ l) (append-nil (before length (extent_of letters raw)))

module _ (letters : Letters) (size long : ℕ) (front rest : List RawExtent) (raw : RawExtent) (laid : Laid) (p : IsPlaced letters size long front (raw ∷ rest) laid) (apart : AllByRecursion (AreApart raw) rest) where
  module _ (new : Extent) (next : Laid) (is : new ≡ front_of (long - raw.offset) (extent_of letters raw)) (some : 0 < raw.count) (within : raw.offset < long) (over : next ≡ overlaid laid new) (good : IsLaid next) where
    new_offset : new.offset ≡ raw.offset
    new_offset = ap (λ (e : Extent). e.offset) is

    new_count : new.count ≡ min raw.count (long - raw.offset)
    new_count = ap (λ (e : Extent). e.count) is

    off_new : (e : Extent) → IsApartFrom raw e → (e.offset + e.count ≤ new.offset) ⊎ (new.offset + new.count ≤ e.offset)
    off_new e away = ⊎_elim (λ ends. inl (omega (arith, ends, new_offset))) (λ begins. inr (omega (arith, begins, new_offset, new_count))) (away some)

    all_off : (es : List Extent) → LieApart es raw → AllByRecursion (λ (e : Extent). (e.offset + e.count ≤ new.offset) ⊎ (new.offset + new.count ≤ e.offset)) es
    all_off [] away = tt
    all_off (e ∷ es) away = (off_new e away.0, all_off es away.1)

    extents_are : next.extents ≡ put_among new laid.extents
    extents_are =
        ap (λ (f : Laid). f.extents) over ∙ overlays_take_out laid new
        ∙ ap (put_among new) (nothing_taken laid.block_size 0 laid.length new.offset (new.offset + new.count) laid.extents p.good.are_laid (omega (arith, new_count, some, within)) (all_off laid.extents p.apart.0))

    new_apart : (later : RawExtent) → AreApart raw later → IsApartFrom later new
    new_apart later away bytes = ⊎_elim (λ ends. inl (omega (arith, ends, new_offset, new_count))) (λ begins. inr (omega (arith, begins, new_offset))) (away some bytes)

    still_apart : (later : RawExtent) → LieApart laid.extents later → AreApart raw later → LieApart next.extents later
    still_apart later lie away = subst (λ l. LieApart l later) (sym extents_are) (all_put (IsApartFrom later) new laid.extents lie (new_apart later away))

    -- one extent more of what is told comes into the file, apart from the rest
    pub placed_more : IsPlaced letters size long (front ++ raw ∷ []) rest next
    placed_more = record {
      block_size = ap (λ (f : Laid). f.block_size) over ∙ p.block_size;
      short = omega (arith, ap (λ (f : Laid). f.length) over, p.short, new_offset, new_count, within);
      good = good;
      extents = extents_are ∙ ap (put_among new) p.extents
          ∙ sym (ap by_offset (one_more letters long front raw ∙ ap (λ l. cut long (map (extent_of letters) front) ++ l) (before_part long (extent_of letters raw) some within ∙ ap (λ e. e ∷ []) (sym is)))
          ∙ fold-append (λ sorted e. put_among e sorted) [] (cut long (map (extent_of letters) front)) (new ∷ []));
      apart = all_both (LieApart laid.extents) (AreApart raw) (LieApart next.extents) still_apart rest p.apart.1 apart;
    }

-- the file as it is told
pub placed_all : (letters : Letters) (size long : ℕ) (raws : List RawExtent) (laid next : Laid) → IsPlaced letters size long raws [] laid → next ≡ resized laid long → next ≡ laid_of letters size long raws
placed_all letters size long raws laid next p is =
    is ∙ ap (λ es. record { block_size = laid.block_size; length = long; extents = es }) (nothing_cut laid.block_size 0 laid.length long laid.extents p.good.are_laid p.short ∙ p.extents)
    ∙ ap (λ n. record { block_size = n; length = long; extents = by_offset (cut long (map (extent_of letters) raws)) }) p.block_size

-- the extent at an index, and what is before and behind it
raw_at : (letters : Letters) (size : ℕ) (raws : List RawExtent) (i : ℕ) (d : RawExtent) → i < length raws → AllByRecursion (IsRaw letters size) raws → AllApart raws
    → (drop i raws ≡ get_or raws i d ∷ drop (suc i) raws) × (take (suc i) raws ≡ take i raws ++ get_or raws i d ∷ []) × IsRaw letters size (get_or raws i d) × AllByRecursion (AreApart (get_or raws i d)) (drop (suc i) raws)
raw_at letters size [] i d lt each apart = absurd (omega arith)
raw_at letters size (r ∷ raws) zero d lt each apart = (refl, refl, each.0, apart.0)
raw_at letters size (r ∷ raws) (suc i) d lt each apart =
    let more = raw_at letters size raws i d (omega arith) each.1 apart.1 in
    (more.0, ap (λ l. r ∷ l) more.1, more.2, more.3)

-- one more of what is told
pub placed_step : (letters : Letters) (size long : ℕ) (raws : List RawExtent) (i : ℕ) (d : RawExtent) (laid next : Laid) → i < length raws → AreRaws letters size long raws
    → IsPlaced letters size long (take i raws) (drop i raws) laid
    → ((front rest : List RawExtent) → IsPlaced letters laid.block_size long front (get_or raws i d ∷ rest) laid → AllByRecursion (AreApart (get_or raws i d)) rest → IsPlaced letters laid.block_size long (front ++ get_or raws i d ∷ []) rest next)
    → IsPlaced letters size long (take (i + 1) raws) (drop (i + 1) raws) next
placed_step letters size long raws i d laid next lt are p step =
    let at = raw_at letters size raws i d lt are.each are.apart in
    let one : suc i ≡ i + 1 = omega arith in
    let same : laid.block_size ≡ size = p.block_size in
    subst (λ n. IsPlaced letters size long (take n raws) (drop n raws) next) one
    (subst (λ l. IsPlaced letters size long l (drop (suc i) raws) next) (sym at.1)
    (subst (λ n. IsPlaced letters n long (take i raws ++ get_or raws i d ∷ []) (drop (suc i) raws) next) same
    (step (take i raws) (drop (suc i) raws) (subst (λ n. IsPlaced letters n long (take i raws) (get_or raws i d ∷ drop (suc i) raws) laid) (sym same) (subst (λ l. IsPlaced letters size long (take i raws) l laid) at.0 p)) at.3)))
