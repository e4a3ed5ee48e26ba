-- What a change of one page does to the bytes of a file, and what the bytes say of its cells.
use Rattle.std.proofs.Common.{◌≡◌, ◌⊎◌, ℕ, ◌+◌, ◌-◌, ◌/◌, ◌%◌, ◌<◌, ◌≤◌, Bool, true, false, cond, ltb, List, [], ◌∷◌, ◌++◌, length, get_or, take, drop, map, replicate, Option, Some, None, is_some, sym, ap, ◌∙◌, refl, subst, arith, ⊎_elim, inl, inr, max, min}
use Rattle.std.specs.List.{range_with_len}
use Rattle.std.specs.Ordering.{is_eq, nat_cmp}
use Rattle.std.specs.FinMap.{nat_cmp-IsAntisymmetric}
use Rattle.std.specs.Option.{option_map}
use Rattle.std.specs.Cmp.{nat_cmp_total}
use Rattle.std.proofs.lemmas.Cmp.{tied_itself}
use Rattle.std.proofs.lemmas.Bool.{cases_lt, cases_Bool}
use Rattle.std.proofs.Common.{Result, Ok, Err, is_ok, OnOk}
use Rattle.std.specs.Map.{lookup}
use Rattle.std.specs.List.{filter}
use borrow.Rule.Slice.PartMut.{put_mid}
use Rattle.std.proofs.lemmas.List.{get_or-replicate, get_or_past, length-replicate, get_or-take, get_or-drop, get_or_append_left, get_or-append_right, get_or_default, same_lists, length-take, length-append, length-drop}
use Rattle.std.proofs.lemmas.List.FromFn.{length-map-range_with_len, get_or-map-range_with_len}
pub use Rattle.std.proofs.lemmas.Bool.{lt-ltb as ltb-is_true, le-ltb as ltb-is_false}
use Rattle.tape_types.proofs.NodeKeys.SortLemmas.{tied}
use Rattle.plain_tree.specs.Cells.{Cell, bytes_of}
use Rattle.plain_tree.specs.Pages.{byte_in, page_at, byte_at}

same_key : (k q : ℕ) → is_eq (nat_cmp k q) ≡ true → k ≡ q
same_key k q h = nat_cmp-IsAntisymmetric k q (tied _ h)

self_cmp : (k q : ℕ) → k ≡ q → is_eq (nat_cmp k q) ≡ true
self_cmp k q e = subst (λ q. is_eq (nat_cmp k q) ≡ true) e (ap is_eq (tied_itself nat_cmp_total k))

-- two numbers are one, or they differ by the order's test
same_or_not : (k q : ℕ) → (k ≡ q) ⊎ (is_eq (nat_cmp k q) ≡ false)
same_or_not k q = ⊎_elim (λ yes. inl (same_key k q yes)) (λ other. inr other) (cases_Bool (is_eq (nat_cmp k q)))

module _ {B : Type 0} (bytes : B → List ℕ) (es fs : List (ℕ × B)) (k : ℕ) (page : B) (found : (q : ℕ) → page_at fs q ≡ cond (is_eq (nat_cmp k q)) (Some page) (page_at es q)) where
  kept_at : (b : Bool) (o : Option B) → is_some o ≡ true → is_some (cond b (Some page) o) ≡ true
  kept_at true o h = refl
  kept_at false o h = h

  -- no page goes
  pub pages_kept : (q : ℕ) → is_some (page_at es q) ≡ true → is_some (page_at fs q) ≡ true
  pages_kept q h = ap is_some (found q) ∙ kept_at (is_eq (nat_cmp k q)) (page_at es q) h

  -- a byte of the page
  pub byte_here : (i : ℕ) → k ≡ i / 4096 → byte_at bytes fs i ≡ get_or (bytes page) (i % 4096) 0
  byte_here i same = ap (λ p. byte_in bytes p (i % 4096)) (found (i / 4096) ∙ ap (λ b. cond b (Some page) (page_at es (i / 4096))) (self_cmp k (i / 4096) same))

  -- a byte of another page
  pub byte_elsewhere : (i : ℕ) → is_eq (nat_cmp k (i / 4096)) ≡ false → byte_at bytes fs i ≡ byte_at bytes es i
  byte_elsewhere i other = ap (λ p. byte_in bytes p (i % 4096)) (found (i / 4096) ∙ ap (λ b. cond b (Some page) (page_at es (i / 4096))) other)

  -- a new page of zeros changes no byte
  pub bytes_same : None ≡ page_at es k → ((j : ℕ) → get_or (bytes page) j 0 ≡ 0) → (i : ℕ) → byte_at bytes fs i ≡ byte_at bytes es i
  bytes_same none zero i = ⊎_elim
      (λ same. byte_here i same ∙ zero (i % 4096) ∙ ap (λ p. byte_in bytes p (i % 4096)) (none ∙ ap (page_at es) same))
      (λ other. byte_elsewhere i other)
      (same_or_not k (i / 4096))

  -- a byte of the page that stays as it was
  pub byte_kept : (old : B) (i : ℕ) → Some old ≡ page_at es k → (k ≡ i / 4096 → get_or (bytes page) (i % 4096) 0 ≡ get_or (bytes old) (i % 4096) 0) → byte_at bytes fs i ≡ byte_at bytes es i
  byte_kept old i there keeps = ⊎_elim
      (λ same. byte_here i same ∙ keeps same ∙ ap (λ p. byte_in bytes p (i % 4096)) (there ∙ ap (page_at es) same))
      (λ other. byte_elsewhere i other)
      (same_or_not k (i / 4096))

-- each of so many zeros is zero
pub zeros : (n j : ℕ) → get_or {A = ℕ} (replicate n 0) j 0 ≡ 0
zeros n j = ⊎_elim (λ lt. get_or-replicate n j 0 0 lt) (λ ge. get_or_past (replicate n 0) j 0 (omega (arith, length-replicate {A = ℕ} n 0))) (cases_lt j n)

-- where there is not something, there is nothing
pub none_of : {B : Type 0} (o : Option B) → is_some o ≡ false → None ≡ o
none_of None h = refl
none_of (Some x) h = cc

-- a part of a list, read by index
pub part_read : (xs : List ℕ) (from size : ℕ) → from + size ≤ length xs → take size (drop from xs) ≡ map (λ i. get_or xs i 0) (range_with_len from size)
part_read xs from size fits =
    same_lists _ _
    (omega (arith, length-take size (drop from xs), length-drop from xs, length-map-range_with_len (λ i. get_or xs i 0) from size))
    (λ k d lt.
    get_or-take size (drop from xs) k d (omega (arith, lt, length-take size (drop from xs)))
    ∙ get_or-drop from xs k d
    ∙ get_or_default xs (from + k) d 0 (omega (arith, lt, length-take size (drop from xs), length-drop from xs))
    ∙ sym (get_or-map-range_with_len (λ i. get_or xs i 0) from size k (from + k) d (omega (arith, lt, length-take size (drop from xs))) refl))

-- two functions that agree along two ranges
pub ranges_same : {A : Type 0} (f g : ℕ → A) (a b n : ℕ) → ((k : ℕ) → k < n → f (a + k) ≡ g (b + k)) → map f (range_with_len a n) ≡ map g (range_with_len b n)
ranges_same f g a b n same =
    same_lists _ _
    (length-map-range_with_len f a n ∙ sym (length-map-range_with_len g b n))
    (λ k d lt. let within : k < n = omega (arith, lt, length-map-range_with_len f a n) in
    get_or-map-range_with_len f a n k (a + k) d within refl ∙ same k within ∙ sym (get_or-map-range_with_len g b n k (b + k) d within refl))

-- a range, and the next
pub ranges_join : {A : Type 0} (f : ℕ → A) (a m n b r : ℕ) → b ≡ a + m → r ≡ m + n → map f (range_with_len a m) ++ map f (range_with_len b n) ≡ map f (range_with_len a r)
ranges_join f a m n b r next total =
    let left : length (map f (range_with_len a m)) ≡ m = length-map-range_with_len f a m in
    let right : length (map f (range_with_len b n)) ≡ n = length-map-range_with_len f b n in
    let whole : length (map f (range_with_len a r)) ≡ r = length-map-range_with_len f a r in
    let both : length (map f (range_with_len a m) ++ map f (range_with_len b n)) ≡ m + n = length-append (map f (range_with_len a m)) (map f (range_with_len b n)) ∙ omega arith in
    same_lists _ _ (omega arith)
    (λ k d lt. ⊎_elim
    (λ low. get_or_append_left (map f (range_with_len a m)) (map f (range_with_len b n)) d k (omega arith)
    ∙ get_or-map-range_with_len f a m k (a + k) d low refl ∙ sym (get_or-map-range_with_len f a r k (a + k) d (omega arith) refl))
    (λ high. get_or-append_right (map f (range_with_len a m)) (map f (range_with_len b n)) m k d left high
    ∙ get_or-map-range_with_len f b n (k - m) (a + k) d (omega arith) (omega arith) ∙ sym (get_or-map-range_with_len f a r k (a + k) d (omega arith) refl))
    (cases_lt k m))

-- the cells up to an offset, zeros in a gap
pub padded : (old : ℕ → Cell) (len offset : ℕ) → List Cell
padded old len offset = take offset (map old (range_with_len 0 len) ++ replicate (offset - len) (Some 0))

zero_cells : (n j : ℕ) → get_or {A = Cell} (replicate n (Some 0)) j (Some 0) ≡ Some 0
zero_cells n j = ⊎_elim (λ lt. get_or-replicate n j (Some 0) (Some 0) lt) (λ ge. get_or_past (replicate n (Some 0)) j (Some 0) (omega (arith, length-replicate {A = Cell} n (Some 0)))) (cases_lt j n)

padded_at : (old : ℕ → Cell) (len offset k : ℕ) → ((i : ℕ) → len ≤ i → old i ≡ Some 0) → k < offset → get_or (padded old len offset) k (Some 0) ≡ old k
unfolding padded
padded_at old len offset k beyond within =
    let size : length (map old (range_with_len 0 len)) ≡ len = length-map-range_with_len old 0 len in
    get_or-take offset (map old (range_with_len 0 len) ++ replicate (offset - len) (Some 0)) k (Some 0) within
    ∙ ⊎_elim
    (λ lt. get_or_append_left (map old (range_with_len 0 len)) (replicate (offset - len) (Some 0)) (Some 0) k (omega arith) ∙ get_or-map-range_with_len old 0 len k k (Some 0) lt (omega arith))
    (λ ge. get_or-append_right (map old (range_with_len 0 len)) (replicate (offset - len) (Some 0)) len k (Some 0) size ge ∙ zero_cells (offset - len) (k - len) ∙ sym (beyond k ge))
    (cases_lt k len)

length-padded : (old : ℕ → Cell) (len offset : ℕ) → length (padded old len offset) ≡ offset
unfolding padded
length-padded old len offset =
    omega (arith, length-take offset (map old (range_with_len 0 len) ++ replicate (offset - len) (Some 0)), length-append (map old (range_with_len 0 len)) (replicate (offset - len) (Some 0)), length-map-range_with_len old 0 len, length-replicate {A = Cell} (offset - len) (Some 0))

-- the cells after a write, from what it did to each of them
pub cells_written : (old new : ℕ → Cell) (len size offset : ℕ) (news : List Cell)
    → ((k : ℕ) → k < length news → new (offset + k) ≡ get_or news k (Some 0)) → ((i : ℕ) → i < offset → new i ≡ old i) → ((i : ℕ) → offset + length news ≤ i → new i ≡ old i)
    → ((i : ℕ) → len ≤ i → old i ≡ Some 0) → size ≡ max len (offset + length news)
    → map new (range_with_len 0 size) ≡ padded old len offset ++ news ++ drop (offset + length news) (map old (range_with_len 0 len))
cells_written old new len size offset news inside below above beyond is =
    let n = length news in
    let long : length (map new (range_with_len 0 size)) ≡ size = length-map-range_with_len new 0 size in
    let pad : length (padded old len offset) ≡ offset = length-padded old len offset in
    let two : length (padded old len offset ++ news) ≡ offset + length news = omega (arith, length-append (padded old len offset) news) in
    same_lists _ _
    (omega (arith, length-append (padded old len offset ++ news) (drop (offset + length news) (map old (range_with_len 0 len))), length-drop (offset + length news) (map old (range_with_len 0 len)), length-map-range_with_len old 0 len))
    (λ k d lt.
    get_or_default (map new (range_with_len 0 size)) k d (Some 0) lt
    ∙ get_or-map-range_with_len new 0 size k k (Some 0) (omega arith) (omega arith)
    ∙ ⊎_elim
    (λ low. below k low ∙ sym (padded_at old len offset k beyond low)
    ∙ sym (get_or_append_left (padded old len offset) news (Some 0) k (omega arith)) ∙ sym (get_or_append_left (padded old len offset ++ news) _ (Some 0) k (omega arith)))
    (λ high. ⊎_elim
    (λ mid. let at : offset + (k - offset) ≡ k = omega arith in
    ap new (sym at) ∙ inside (k - offset) (omega arith)
    ∙ sym (get_or-append_right (padded old len offset) news offset k (Some 0) pad high) ∙ sym (get_or_append_left (padded old len offset ++ news) _ (Some 0) k (omega arith)))
    (λ past. let at : offset + length news + (k - (offset + length news)) ≡ k = omega arith in
    above k past ∙ sym (get_or-map-range_with_len old 0 len k k (Some 0) (omega arith) (omega arith))
    ∙ ap (λ i. get_or (map old (range_with_len 0 len)) i (Some 0)) (sym at)
    ∙ sym (get_or-drop (offset + length news) (map old (range_with_len 0 len)) (k - (offset + length news)) (Some 0))
    ∙ sym (get_or-append_right (padded old len offset ++ news) _ (offset + length news) k (Some 0) two past))
    (cases_lt k (offset + length news)))
    (cases_lt k offset)
    ∙ get_or_default _ k (Some 0) d (omega (arith, lt, length-append (padded old len offset ++ news) (drop (offset + length news) (map old (range_with_len 0 len))), length-drop (offset + length news) (map old (range_with_len 0 len)), length-map-range_with_len old 0 len)))

-- the cells after a change of length
pub cells_resized : (old new : ℕ → Cell) (len n : ℕ) → ((i : ℕ) → i < n → new i ≡ old i) → ((i : ℕ) → len ≤ i → old i ≡ Some 0) → map new (range_with_len 0 n) ≡ padded old len n
cells_resized old new len n same beyond =
    let long : length (map new (range_with_len 0 n)) ≡ n = length-map-range_with_len new 0 n in
    let pad : length (padded old len n) ≡ n = length-padded old len n in
    same_lists _ _ (omega arith)
    (λ k d lt.
    get_or_default (map new (range_with_len 0 n)) k d (Some 0) lt
    ∙ get_or-map-range_with_len new 0 n k k (Some 0) (omega arith) (omega arith)
    ∙ same k (omega arith) ∙ sym (padded_at old len n k beyond (omega arith))
    ∙ get_or_default (padded old len n) k (Some 0) d (omega arith))

-- the padding is that of the specification
pub padded_is : (old : ℕ → Cell) (len offset : ℕ) → padded old len offset ≡ take offset (map old (range_with_len 0 len) ++ replicate (offset - length (map old (range_with_len 0 len))) (Some 0))
unfolding padded
padded_is old len offset = ap (λ l. take offset (map old (range_with_len 0 len) ++ replicate (offset - l) (Some 0))) (sym (length-map-range_with_len old 0 len))

-- the cells of a range are those of a part of the file
pub cells_read : (f : ℕ → Cell) (len offset from count n : ℕ) → from ≡ min offset len → n ≡ min count (len - from) → map f (range_with_len from n) ≡ take count (drop offset (map f (range_with_len 0 len)))
cells_read f len offset from count n is size_is =
    let size : length (map f (range_with_len from n)) ≡ n = length-map-range_with_len f from _ in
    let whole : length (map f (range_with_len 0 len)) ≡ len = length-map-range_with_len f 0 len in
    same_lists _ _
    (omega (arith, length-take count (drop offset (map f (range_with_len 0 len))), length-drop offset (map f (range_with_len 0 len))))
    (λ k d lt.
    get_or-map-range_with_len f from n k (offset + k) d (omega arith) (omega arith)
    ∙ sym (get_or-take count (drop offset (map f (range_with_len 0 len))) k d (omega arith) ∙ get_or-drop offset (map f (range_with_len 0 len)) k d
    ∙ get_or-map-range_with_len f 0 len (offset + k) (offset + k) d (omega arith) (omega arith)))

-- the bytes of cells of which none is lost
pub all_there : (f : ℕ → ℕ) (xs : List ℕ) → bytes_of (map (λ i. Some (f i)) xs) ≡ Some (map f xs)
all_there f [] = refl
all_there f (x ∷ xs) = ap (option_map (λ bs. f x ∷ bs)) (all_there f xs)

-- a list whose end was overwritten by zeros
pub cleared : (xs ys : List ℕ) (from n k : ℕ) → length xs ≡ from + n → ys ≡ replicate n 0 → from ≤ k → get_or (put_mid from n xs ys) k 0 ≡ 0
cleared xs ys from n k whole is past =
    let long : length ys ≡ n = ap length is ∙ length-replicate {A = ℕ} n 0 in
    get_or-append_right (take from xs) (ys ++ drop n (drop from xs)) from k 0 (omega (arith, length-take from xs)) past
    ∙ ⊎_elim
    (λ low. get_or_append_left ys (drop n (drop from xs)) 0 (k - from) (omega arith) ∙ ap (λ l. get_or l (k - from) 0) is ∙ zeros n (k - from))
    (λ high. get_or_past (ys ++ drop n (drop from xs)) (k - from) 0 (omega (arith, length-append ys (drop n (drop from xs)), length-drop n (drop from xs), length-drop from xs)))
    (cases_lt (k - from) n)

pick : {B : Type 0} (t : ℕ → Bool) (e : ℕ × B) (rest : List (ℕ × B)) (old : Option B) (here p pq : Bool) → t e.0 ≡ here → (here ≡ true → p ≡ pq) → lookup t rest ≡ cond pq old None → lookup t (cond p (e ∷ rest) rest) ≡ cond pq (cond here (Some e.1) old) None
pick t e rest old true true true is same ih = ap (λ b. cond b (Some e.1) (lookup t rest)) is
pick t e rest old true true false is same ih = let no_way = same refl in cc
pick t e rest old true false true is same ih = let no_way = same refl in cc
pick t e rest old true false false is same ih = ih
pick t e rest old false true pq is same ih = ap (λ b. cond b (Some e.1) (lookup t rest)) is ∙ ih
pick t e rest old false false pq is same ih = ih

none_either : {B : Type 0} (b : Bool) → ◌≡◌ {A = Option B} None (cond b None None)
none_either true = refl
none_either false = refl

-- the pages below a number
pub page_filtered : {B : Type 0} (es : List (ℕ × B)) (first q : ℕ) → page_at (filter (λ e. ltb e.0 first) es) q ≡ cond (ltb q first) (page_at es q) None
page_filtered [] first q = none_either (ltb q first)
page_filtered (e ∷ es) first q =
    pick (λ k. is_eq (nat_cmp q k)) e (filter (λ e. ltb e.0 first) es) (page_at es q) (is_eq (nat_cmp q e.0)) (ltb e.0 first) (ltb q first) refl
    (λ yes. ap (λ k. ltb k first) (sym (same_key q e.0 yes)))
    (page_filtered es first q)

-- what an append leaves where it succeeds
pub appended : {T E : Type 0} (r : Result T E) (before after more same : List ℕ) → after ≡ cond (is_ok r) (before ++ more) before → more ≡ same → OnOk r (after ≡ before ++ same)
appended (Ok x) before after more same is e = is ∙ ap (λ l. before ++ l) e
appended (Err x) before after more same is e = tt

-- as many zeros as asked for
pub zeros_read : (n : ℕ) → n ≤ 4096 → take n (replicate {A = ℕ} 4096 0) ≡ map (λ i. 0) (range_with_len 0 n)
zeros_read n fits =
    let page : List ℕ = replicate 4096 0 in
    let whole : length page ≡ 4096 = length-replicate {A = ℕ} 4096 0 in
    same_lists _ _
    (omega (arith, length-take n page, length-map-range_with_len {X = ℕ} (λ i. 0) 0 n))
    (λ k d lt. let within : k < n = omega (arith, lt, length-take n page) in
    get_or-take n page k d within ∙ get_or-replicate 4096 k 0 d (omega arith) ∙ sym (get_or-map-range_with_len {X = ℕ} (λ i. 0) 0 n k k d within (omega arith)))
