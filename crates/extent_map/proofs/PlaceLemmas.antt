-- Where in a list of laid extents a cut falls.
use Rattle.std.proofs.Common.{◌≡◌, ℕ, zero, suc, ◌+◌, ◌-◌, ◌^◌, ◌<◌, ◌≤◌, Bool, true, false, cond, eqb, leb, ltb, List, [], ◌∷◌, ◌++◌, length, get_or, take, drop, set, sym, ap, subst, append_assoc, ◌∙◌, refl, arith, ⊎_elim, append-nil}
use Rattle.std.specs.List.{flat_map, All}
use Rattle.std.specs.List.Sorted.{IsPartitionedBy, IsPartitionPoint}
use Rattle.std.proofs.lemmas.Bool.{cases_lt, leb-true, ltb-true}
use Rattle.std.proofs.lemmas.Bool.Decides.{nat_tests}
use Rattle.std.proofs.lemmas.List.{set_at, get_or-drop, length-drop, length-take-le, drop_all, set_split, take-take, drop_at, take-append-le}
use Rattle.std.proofs.lemmas.List.Concat.{flat_map-append}
use Rattle.std.proofs.lemmas.List.Elements.{All-take, All-drop, All-same}
use Rattle.tape_types.specs.Bounds.{longest_file}
use Rattle.tape_types.specs.declared.cartridges.Extent.{Extent}
use Rattle.extent_map.specs.Laid.{AreLaid, unless_empty, front_of, rest_of, before, past, cut, left_from}
use Rattle.extent_map.proofs.LaidLemmas.{laid_le, laid_lower, before_whole, past_none, past_part, cut_past, left_same}

-- an extent of a list that is laid
pub record IsAt (size low high : ℕ) (e : Extent) : Type 0 where
  pub from : low ≤ e.offset
  pub some : 1 ≤ e.count
  pub byte : e.byte < size
  pub far : e.block + e.count ≤ 2 ^ 62 + longest_file
  pub ends : e.offset + e.count ≤ high

laid_at : (size low high : ℕ) (es : List Extent) → AreLaid size low high es → (k : ℕ) (d : Extent) → k < length es → IsAt size low high (get_or es k d)
laid_at size low high [] h k d lt = absurd (omega arith)
laid_at size low high (e ∷ es) h zero d lt = record { from = h.0; some = h.1; byte = h.2; far = h.3; ends = laid_le size (e.offset + e.count) high es h.4 }
laid_at size low high (e ∷ es) h (suc k) d lt =
    let at : IsAt size (e.offset + e.count) high (get_or es k d) = laid_at size (e.offset + e.count) high es h.4 k d (omega arith) in
    record { from = omega (arith, h.0, at.from); some = at.some; byte = at.byte; far = at.far; ends = at.ends }

-- the extent ends at or before an offset
abbrev pub ends_by : ℕ → Extent → Bool
ends_by at e = leb e.count (at - e.offset)

abbrev pub IsPlace : ℕ → List Extent → ℕ → Type 0
IsPlace at es k = IsPartitionPoint (λ (e : Extent). leb e.count (at - e.offset) ≡ true) (λ (e : Extent). leb e.count (at - e.offset) ≡ false) es k

ends : (at : ℕ) (e : Extent) → e.count ≤ at - e.offset → ends_by at e ≡ true
ends at e h = grind (arith, nat_tests)

goes_on : (at : ℕ) (e : Extent) → leb e.count (at - e.offset) ≡ false → at - e.offset < e.count
goes_on at e h = grind (arith, nat_tests)

partitioned : (size low high : ℕ) (es : List Extent) → AreLaid size low high es → (at : ℕ) → IsPartitionedBy (λ (e : Extent). leb e.count (at - e.offset)) es
partitioned size low high [] h at i j d le lt does = absurd (omega arith)
partitioned size low high (e ∷ es) h at zero zero d le lt does = does
partitioned size low high (e ∷ es) h at zero (suc j) d le lt does =
    let later : IsAt size (e.offset + e.count) high (get_or es j d) = laid_at size (e.offset + e.count) high es h.4 j d (omega arith) in
    ends at e (omega (arith, later.from, later.some, leb-true (get_or es j d).count (at - (get_or es j d).offset) does))
partitioned size low high (e ∷ es) h at (suc i) zero d le lt does = absurd (omega arith)
partitioned size low high (e ∷ es) h at (suc i) (suc j) d le lt does = partitioned size (e.offset + e.count) high es h.4 at i j d (omega arith) (omega arith) does

next_place : (at : ℕ) (e : Extent) (es : List Extent) (k : ℕ) → IsPlace at (e ∷ es) (suc k) → IsPlace at es k
next_place at e es k p = (λ j d l lt. p.0 (suc j) d (omega arith) (omega arith), λ j d l lt. p.1 (suc j) d (omega arith) (omega arith))

-- what a cut leaves: the extents that end before it, and a part of the next
cut_at : (size low high : ℕ) (es : List Extent) (at k : ℕ) → AreLaid size low high es → IsPlace at es k → cut at es ≡ take k es ++ flat_map (before at) (take 1 (drop k es))
cut_at size low high [] at zero h p = refl
cut_at size low high [] at (suc k) h p = refl
cut_at size low high (e ∷ es) at zero h p =
    let on : at - e.offset < e.count = goes_on at e (p.1 0 e (omega arith) (omega arith)) in
    ap (λ l. before at e ++ l) (cut_past size (e.offset + e.count) high es at h.4 (omega arith))
cut_at size low high (e ∷ es) at (suc k) h p =
    let done : e.count ≤ at - e.offset = leb-true e.count (at - e.offset) (p.0 0 e (omega arith) (omega arith)) in
    ap (λ l. l ++ cut at es) (before_whole at e h.1 (omega (arith, h.1))) ∙ ap (λ l. e ∷ l) (cut_at size (e.offset + e.count) high es at k h.4 (next_place at e es k p))

-- what lies past it: the rest of that one, and those after it
left_at : (size low high : ℕ) (es : List Extent) (at k : ℕ) → AreLaid size low high es → IsPlace at es k → left_from size at es ≡ flat_map (past size at) (take 1 (drop k es)) ++ drop 1 (drop k es)
left_at size low high [] at zero h p = refl
left_at size low high [] at (suc k) h p = refl
left_at size low high (e ∷ es) at zero h p =
    let on : at - e.offset < e.count = goes_on at e (p.1 0 e (omega arith) (omega arith)) in
    ap (λ l. past size at e ++ l) (left_same size (e.offset + e.count) high es at h.4 (omega arith))
    ∙ ap (λ l. l ++ es) (sym (append-nil (past size at e)))
left_at size low high (e ∷ es) at (suc k) h p =
    let done : e.count ≤ at - e.offset = leb-true e.count (at - e.offset) (p.0 0 e (omega arith) (omega arith)) in
    ap (λ l. l ++ left_from size at es) (past_none size at e (omega (arith, h.1))) ∙ left_at size (e.offset + e.count) high es at k h.4 (next_place at e es k p)

-- a later cut falls at a later place
pub places_rise : (es : List Extent) (from end j k : ℕ) (d : Extent) → from ≤ end → IsPlace from es j → IsPlace end es k → j ≤ length es → j ≤ k
places_rise es from end j k d le p q within = ⊎_elim
    (λ wrong.
    let done : (get_or es k d).count ≤ from - (get_or es k d).offset = leb-true (get_or es k d).count (from - (get_or es k d).offset) (p.0 k d (omega arith) wrong) in
    let on : end - (get_or es k d).offset < (get_or es k d).count = goes_on end (get_or es k d) (q.1 k d (omega arith) (omega arith)) in
    absurd (omega arith))
    (λ right. right)
    (cases_lt k j)

-- the place that a search finds for a cut is the first extent that reaches past it
pub found : (size low high : ℕ) (es ds : List Extent) (at k : ℕ) → ds ≡ es → AreLaid size low high es → (IsPartitionedBy (λ (e : Extent). leb e.count (at - e.offset)) ds → IsPlace at ds k) → IsPlace at es k
found size low high es ds at k same h parts =
    subst (λ l. IsPlace at l k) same (parts (subst (λ l. IsPartitionedBy (λ (e : Extent). leb e.count (at - e.offset)) l) (sym same) (partitioned size low high es h at)))

-- ---- what the steps of the code leave

-- where a cut falls within an extent, the rest of it begins what is left
pub begun : (size low high : ℕ) (es : List Extent) (at k : ℕ) (x : Extent) → AreLaid size low high es → IsPlace at es k → k < length es → x ≡ get_or es k x
    → set es k (rest_of size (at - x.offset) x) ≡ take k es ++ left_from size at es
begun size low high [] at k x h p lt is = absurd (omega arith)
begun size low high (e ∷ es) at zero x h p lt is =
    let on : at - e.offset < e.count = goes_on at e (p.1 0 e (omega arith) (omega arith)) in
    ap (λ y. rest_of size (at - y.offset) y ∷ es) is
    ∙ sym (ap (λ l. l ++ left_from size at es) (past_part size at e h.1 (omega arith)) ∙ ap (λ l. rest_of size (at - e.offset) e ∷ l) (left_same size (e.offset + e.count) high es at h.4 (omega arith)))
begun size low high (e ∷ es) at (suc k) x h p lt is =
    let done : e.count ≤ at - e.offset = leb-true e.count (at - e.offset) (p.0 0 e (omega arith) (omega arith)) in
    ap (λ l. e ∷ l) (begun size (e.offset + e.count) high es at k x h.4 (next_place at e es k p) (omega arith) is)
    ∙ ap (λ l. e ∷ (take k es ++ (l ++ left_from size at es))) (sym (past_none size at e (omega (arith, h.1))))

-- past all extents nothing is left to cut
pub all_done : (size low high : ℕ) (es : List Extent) (at k : ℕ) → AreLaid size low high es → IsPlace at es k → length es ≤ k → es ≡ take k es ++ left_from size at es
all_done size low high [] at zero h p le = refl
all_done size low high [] at (suc k) h p le = refl
all_done size low high (e ∷ es) at zero h p le = absurd (omega arith)
all_done size low high (e ∷ es) at (suc k) h p le =
    let done : e.count ≤ at - e.offset = leb-true e.count (at - e.offset) (p.0 0 e (omega arith) (omega arith)) in
    ap (λ l. e ∷ l) (all_done size (e.offset + e.count) high es at k h.4 (next_place at e es k p) (omega arith))
    ∙ ap (λ l. e ∷ (take k es ++ (l ++ left_from size at es))) (sym (past_none size at e (omega (arith, h.1))))

-- replacing the last of the extents kept leaves those before it
pub kept : (old : List Extent) (k : ℕ) (e : Extent) → k < length old → set (take (k + 1) old) k e ≡ take k old ++ e ∷ []
kept old k e lt =
    let long : length (take (k + 1) old) ≡ k + 1 = length-take-le (k + 1) old (omega arith) in
    let none : drop (suc k) (take (k + 1) old) ≡ [] = drop_all (suc k) (take (k + 1) old) (omega arith) in
    set_split (take (k + 1) old) k e (omega arith) ∙ ap (λ l. l ++ e ∷ drop (suc k) (take (k + 1) old)) (take-take k (k + 1) old (omega arith)) ∙ ap (λ l. take k old ++ e ∷ l) none

-- of a new extent that was put in twice, the first is replaced by another
pub put_first : (xs ys : List Extent) (e new : Extent) (k : ℕ) → length xs ≡ k → set (xs ++ (new ∷ new ∷ []) ++ ys) k e ≡ xs ++ e ∷ [] ++ new ∷ ys
put_first xs ys e new k long =
    ap (λ l. set l k e) (append_assoc xs (new ∷ new ∷ []) ys) ∙ set_at xs new (new ∷ ys) e k long ∙ sym (append_assoc xs (e ∷ []) (new ∷ ys))

-- the extents that a write builds are those before its range, the new one, and those past it
pub put_list : (size low high : ℕ) (es : List Extent) (from end first last : ℕ) (front : List Extent) (new : Extent) (after begun : List Extent)
    → AreLaid size low high es → IsPlace from es first → first ≤ last → last ≤ length es
    → begun ≡ take last es ++ left_from size end es → front ≡ flat_map (before from) (take 1 (drop first es))
    → after ≡ take first begun ++ front ++ new ∷ drop last begun
    → after ≡ cut from es ++ new ∷ left_from size end es
put_list size low high es from end first last front new after begun h p order within begins fronts is =
    let long : length (take last es) ≡ last = length-take-le last es within in
    let rest : drop last begun ≡ left_from size end es = ap (drop last) begins ∙ drop_at (take last es) (left_from size end es) last long in
    let head : take first begun ≡ take first es = ap (take first) begins ∙ take-append-le first (take last es) (left_from size end es) (omega arith) ∙ take-take first last es order in
    is ∙ ap (λ l. take first begun ++ front ++ new ∷ l) rest ∙ ap (λ l. l ++ front ++ new ∷ left_from size end es) head
    ∙ ap (λ l. take first es ++ l ++ new ∷ left_from size end es) fronts
    ∙ ap (λ l. l ++ new ∷ left_from size end es) (sym (cut_at size low high es from first h p))

-- what was read at a place is laid
pub read_at : (size low high : ℕ) (es : List Extent) (k : ℕ) (x : Extent) → AreLaid size low high es → k < length es → x ≡ get_or es k x → IsAt size low high x
read_at size low high es k x h lt is = subst (IsAt size low high) (sym is) (laid_at size low high es h k x lt)

-- the extents that a truncation builds are those cut at the new length
pub cut_list : (size low high : ℕ) (es : List Extent) (at k : ℕ) (front after : List Extent) → AreLaid size low high es → IsPlace at es k → front ≡ flat_map (before at) (take 1 (drop k es))
    → after ≡ take k es ++ front → after ≡ cut at es
cut_list size low high es at k front after h p fronts is = is ∙ ap (λ l. take k es ++ l) fronts ∙ sym (cut_at size low high es at k h p)

-- ---- the extents that have bytes in a range

begins : (at : ℕ) (e : Extent) → e.offset < at → ltb e.offset at ≡ true
begins at e h = grind (arith, nat_tests)

partitioned_begun : (size low high : ℕ) (es : List Extent) → AreLaid size low high es → (at : ℕ) → IsPartitionedBy (λ (e : Extent). ltb e.offset at) es
partitioned_begun size low high [] h at i j d le lt does = absurd (omega arith)
partitioned_begun size low high (e ∷ es) h at zero zero d le lt does = does
partitioned_begun size low high (e ∷ es) h at zero (suc j) d le lt does =
    let later : IsAt size (e.offset + e.count) high (get_or es j d) = laid_at size (e.offset + e.count) high es h.4 j d (omega arith) in
    begins at e (omega (arith, later.from, ltb-true (get_or es j d).offset at does))
partitioned_begun size low high (e ∷ es) h at (suc i) zero d le lt does = absurd (omega arith)
partitioned_begun size low high (e ∷ es) h at (suc i) (suc j) d le lt does = partitioned_begun size (e.offset + e.count) high es h.4 at i j d (omega arith) (omega arith) does

abbrev pub IsEnd : ℕ → List Extent → ℕ → Type 0
IsEnd at es k = IsPartitionPoint (λ (e : Extent). ltb e.offset at ≡ true) (λ (e : Extent). ltb e.offset at ≡ false) es k

-- the place found for the end of a range is behind the last extent that begins before it
pub found_end : (size low high : ℕ) (es ds : List Extent) (at k : ℕ) → ds ≡ es → AreLaid size low high es → (IsPartitionedBy (λ (e : Extent). ltb e.offset at) ds → IsEnd at ds k) → IsEnd at es k
found_end size low high es ds at k same h parts =
    subst (λ l. IsEnd at l k) same (parts (subst (λ l. IsPartitionedBy (λ (e : Extent). ltb e.offset at) l) (sym same) (partitioned_begun size low high es h at)))

not_begun : (at : ℕ) (e : Extent) → ltb e.offset at ≡ false → at ≤ e.offset
not_begun at e h = grind (arith, nat_tests)

-- the end of a range falls no earlier than its beginning
pub end_after : (size low high : ℕ) (es : List Extent) (from end j k : ℕ) (d : Extent) → AreLaid size low high es → from ≤ end → IsPlace from es j → IsEnd end es k → j ≤ length es → j ≤ k
end_after size low high es from end j k d h le p q within = ⊎_elim
    (λ wrong.
    let at : IsAt size low high (get_or es k d) = laid_at size low high es h k d (omega arith) in
    let done : (get_or es k d).count ≤ from - (get_or es k d).offset = leb-true (get_or es k d).count (from - (get_or es k d).offset) (p.0 k d (omega arith) wrong) in
    let on : end ≤ (get_or es k d).offset = not_begun end (get_or es k d) (q.1 k d (omega arith) (omega arith)) in
    absurd (omega (arith, at.some)))
    (λ right. right)
    (cases_lt k j)

past_front : (size at : ℕ) (x : Extent) → x.offset + x.count ≤ at → flat_map (past size at) (unless_empty x) ≡ []
past_front size at x ends = by (eqb x.count 0)
  where
    by : (b : Bool) → flat_map (past size at) (cond b [] (x ∷ [])) ≡ []
    by true = refl
    by false = ap (λ l. l ++ []) (past_none size at x ends)

skipped : (size low high : ℕ) (es : List Extent) (from end k : ℕ) → AreLaid size low high es → IsPlace from es k → left_from size from (cut end es) ≡ left_from size from (cut end (drop k es))
skipped size low high [] from end zero h p = refl
skipped size low high [] from end (suc k) h p = refl
skipped size low high (e ∷ es) from end zero h p = refl
skipped size low high (e ∷ es) from end (suc k) h p =
    let done : e.count ≤ from - e.offset = leb-true e.count (from - e.offset) (p.0 0 e (omega arith) (omega arith)) in
    flat_map-append (past size from) (before end e) (cut end es)
    ∙ ap (λ l. l ++ left_from size from (cut end es)) (past_front size from (front_of (end - e.offset) e) (omega (arith, h.1)))
    ∙ skipped size (e.offset + e.count) high es from end k h.4 (next_place from e es k p)

stopped : (size low high : ℕ) (es : List Extent) (end k : ℕ) → AreLaid size low high es → ((j : ℕ) (d : Extent) → k ≤ j → j < length es → end ≤ (get_or es j d).offset) → cut end es ≡ cut end (take k es)
stopped size low high [] end zero h q = refl
stopped size low high [] end (suc k) h q = refl
stopped size low high (e ∷ es) end zero h q = cut_past size e.offset high (e ∷ es) end ((omega arith), h.1, h.2, h.3, h.4) (q 0 e (omega arith) (omega arith))
stopped size low high (e ∷ es) end (suc k) h q = ap (λ l. before end e ++ l) (stopped size (e.offset + e.count) high es end k h.4 (λ j d le lt. q (suc j) d (omega arith) (omega arith)))

laid_drop : (size low high : ℕ) (es : List Extent) (k : ℕ) → AreLaid size low high es → AreLaid size low high (drop k es)
laid_drop size low high [] zero h = h
laid_drop size low high [] (suc k) h = h
laid_drop size low high (e ∷ es) zero h = h
laid_drop size low high (e ∷ es) (suc k) h = laid_drop size low high es k (laid_lower size low (e.offset + e.count) high es (omega (arith, h.0)) h.4)

-- only the extents between its two places reach into a range
pub touched : (size low high : ℕ) (es : List Extent) (from end j k : ℕ) → AreLaid size low high es → IsPlace from es j → IsEnd end es k
    → left_from size from (cut end es) ≡ left_from size from (cut end (take (k - j) (drop j es)))
touched size low high es from end j k h p q =
    skipped size low high es from end j h p
    ∙ ap (left_from size from) (stopped size low high (drop j es) end (k - j) (laid_drop size low high es j h)
    (λ i d le lt.
    let there : j + i < length es = omega (arith, lt, length-drop j es) in
    let same : get_or (drop j es) i d ≡ get_or es (j + i) d = get_or-drop j es i d in
    subst (λ (x : Extent). end ≤ x.offset) (sym same) (not_begun end (get_or es (j + i) d) (q.1 (j + i) d (omega arith) there))))

-- extents out of a laid file begin within a block
pub bytes_within : (size low high : ℕ) (es ds : List Extent) (j n : ℕ) → AreLaid size low high es → ds ≡ take n (drop j es) → All (λ (e : Extent). e.byte < size) ds
bytes_within size low high es ds j n h is =
    All-same (λ (e : Extent). e.byte < size) ds (take n (drop j es)) is
    (All-take (λ (e : Extent). e.byte < size) n (drop j es) (All-drop (λ (e : Extent). e.byte < size) j es (λ k d lt. (laid_at size low high es h k d lt).byte)))

-- extents out of a laid file stand far before the greatest position
pub blocks_far : (size low high : ℕ) (es ds : List Extent) (j n : ℕ) → AreLaid size low high es → ds ≡ take n (drop j es) → All (λ (e : Extent). e.block + e.count ≤ 2 ^ 62 + longest_file) ds
blocks_far size low high es ds j n h is =
    All-same (λ (e : Extent). e.block + e.count ≤ 2 ^ 62 + longest_file) ds (take n (drop j es)) is
    (All-take (λ (e : Extent). e.block + e.count ≤ 2 ^ 62 + longest_file) n (drop j es) (All-drop (λ (e : Extent). e.block + e.count ≤ 2 ^ 62 + longest_file) j es (λ k d lt. (laid_at size low high es h k d lt).far)))
