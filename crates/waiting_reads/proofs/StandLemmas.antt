-- Where pieces stand on tape, in their order and by the positions of their blocks.
use Rattle.std.proofs.Common.{◌≡◌, ℕ, zero, suc, ◌+◌, ◌-◌, ◌<◌, ◌≤◌, Bool, true, false, cond, not, ◌&&◌, eqb, ltb, leb, List, [], ◌∷◌, ◌++◌, length, take, drop, get_or, sym, ap, ◌∙◌, refl, subst, arith, append_assoc, append-nil}
use Rattle.std.specs.List.{All}
use Rattle.std.specs.List.Sorted.{IsPartitionPoint, IsStableByKey, ties}
use Rattle.std.specs.Ordering.{is_lt, nat_cmp}
use Rattle.std.specs.declared.cmp.Ordering.TheVariants.{Less, Equal, Greater}
use Rattle.std.proofs.lemmas.Bool.Decides.{nat_tests}
use Rattle.std.proofs.lemmas.List.{drop_all, get_or-drop, length-drop, take_all}
use Rattle.std.proofs.lemmas.List.Elements.{All-cons, All-filter, filter_agree}
use Rattle.extent_map.specs.Replies.{bytes_in, size_of}
use Rattle.extent_map.specs.declared.pieces.Piece.{Piece}
use Rattle.extent_map.specs.declared.pieces.Piece.TheVariants.{Zeros, Stored}
use Rattle.extent_map.proofs.ReplyLemmas.{at_item, dropped, sizes}
use Rattle.waiting_reads.specs.Stands.{AreStands, IsStand, at_pos, stand_in, stands_from}
use Rattle.waiting_reads.specs.declared.stands.Stand.{Stand}

-- ---- piece after piece

-- the number after a number is one more
pub one_more : (i : ℕ) → suc i ≡ i + 1
one_more i = omega arith

-- with one piece more the stands on tape so far go on by that piece's
pub stands_more : (pieces : List Piece) (i at : ℕ) (p : Piece) (done : List Stand) → i < length pieces → p ≡ get_or pieces i p
    → stands_from 0 0 pieces ≡ done ++ stands_from i at (drop i pieces)
    → stands_from 0 0 pieces ≡ (done ++ stand_in i at p) ++ stands_from (i + 1) (at + bytes_in p) (drop (i + 1) pieces)
stands_more pieces i at p done lt is so_far =
    so_far ∙ ap (λ l. done ++ stands_from i at l) ((dropped pieces i p lt is).0 ∙ ap (λ n. p ∷ drop n pieces) (one_more i))
    ∙ sym (append_assoc done (stand_in i at p) (stands_from (i + 1) (at + bytes_in p) (drop (i + 1) pieces)))

-- after the last piece the stands so far are all of them
pub stands_all : (pieces : List Piece) (i at : ℕ) (done : List Stand) → length pieces ≤ i → stands_from 0 0 pieces ≡ done ++ stands_from i at (drop i pieces)
    → done ≡ stands_from 0 0 pieces
stands_all pieces i at done end so_far = sym (so_far ∙ ap (λ l. done ++ stands_from i at l) (drop_all i pieces end) ∙ append-nil done)

-- the piece with a number, and those behind it
pub record Head (pieces : List Piece) (i : ℕ) (p : Piece) (more : List Piece) : Type 0 where
  pub lt : i < length pieces
  pub is : p ≡ get_or pieces i p
  pub rest : drop (i + 1) pieces ≡ more

-- what begins the rest of the pieces is the piece of that number
pub head_at : (i : ℕ) (pieces : List Piece) (p : Piece) (more : List Piece) → drop i pieces ≡ p ∷ more → Head pieces i p more
head_at zero [] p more e = cc
head_at (suc i) [] p more e = cc
head_at zero (q ∷ pieces) p more e =
    let first : p ≡ q = cc in
    let behind : pieces ≡ more = cc in
    record { lt = omega arith; is = first; rest = behind }
head_at (suc i) (q ∷ pieces) p more e =
    let h = head_at i pieces p more e in
    let next : suc i + 1 ≡ suc (i + 1) = omega arith in
    record { lt = omega (arith, h.lt); is = h.is; rest = ap (λ n. drop n (q ∷ pieces)) next ∙ h.rest }

-- each is where its piece is
each_stands : (pieces : List Piece) (i at : ℕ) (rest : List Piece) → drop i pieces ≡ rest → at ≡ size_of (take i pieces)
    → All (IsStand pieces) (stands_from i at rest)
each_stands pieces i at [] e begins = λ k d lt. absurd (omega (arith, lt))
each_stands pieces i at (Zeros count ∷ rest) e begins =
    let h = head_at i pieces (Zeros count) rest e in
    let s = sizes pieces i (Zeros count) h.lt h.is in
    each_stands pieces (i + 1) (at + count) rest h.rest (omega (arith, begins, s.0, ap (λ n. size_of (take n pieces)) (one_more i)))
each_stands pieces i at (Stored place byte count ∷ rest) e begins =
    let h = head_at i pieces (Stored place byte count) rest e in
    let s = sizes pieces i (Stored place byte count) h.lt h.is in
    All-cons (IsStand pieces) (record { pos = place.pos; number = i; at = at }) (stands_from (i + 1) (at + count) rest)
    (record { within = h.lt; begins = begins })
    (each_stands pieces (i + 1) (at + count) rest h.rest (omega (arith, begins, s.0, ap (λ n. size_of (take n pieces)) (one_more i))))

-- its bytes lie among those of the read
pub ends_within : (pieces : List Piece) (s : Stand) (bytes : List ℕ) (count : ℕ) → IsStand pieces s → length bytes ≡ size_of pieces
    → count ≡ bytes_in (get_or pieces s.number (Zeros 0)) → s.at + count ≤ length bytes
ends_within pieces s bytes count stands long is =
    let item = at_item pieces s.number (Zeros 0) stands.within in
    omega (arith, (sizes pieces s.number (get_or pieces s.number (Zeros 0)) stands.within item).1, stands.begins, long, is)

-- the stands at one position are stands of the pieces
pub run_stands : (pieces : List Piece) (stands run : List Stand) (pos : ℕ) → AreStands pieces stands → run ≡ at_pos pos stands
    → All (IsStand pieces) run
run_stands pieces stands run pos are is =
    subst (λ l. All (IsStand pieces) l) (sym (is ∙ are.runs pos))
    (All-filter (λ (s : Stand). eqb s.pos pos) (IsStand pieces) (stands_from 0 0 pieces) (each_stands pieces 0 0 pieces refl refl))

-- one piece more has its bytes behind the others
size_more : (pieces : List Piece) (p : Piece) → size_of (pieces ++ p ∷ []) ≡ size_of pieces + bytes_in p
size_more [] p = omega arith
size_more (q ∷ pieces) p = omega (arith, size_more pieces p)

-- ---- by positions

is_less : (x y : ℕ) → is_lt (nat_cmp x y) ≡ ltb x y
is_less x y = by (ltb x y) (eqb x y)
  where
    by : (b c : Bool) → is_lt (cond b Less (cond c Equal Greater)) ≡ b
    by true c = refl
    by false true = refl
    by false false = refl

tie : (pos a : ℕ) → (not (is_lt (nat_cmp pos a)) && not (is_lt (nat_cmp a pos))) ≡ eqb a pos
tie pos a =
    let tests : (not (ltb pos a) && not (ltb a pos)) ≡ eqb a pos = grind (arith, nat_tests) in
    ap (λ b. not b && not (is_lt (nat_cmp a pos))) (is_less pos a) ∙ ap (λ b. not (ltb pos a) && not b) (is_less a pos) ∙ tests

abbrev probe : ℕ → Stand
probe pos = record { pos = pos; number = 0; at = 0 }

abbrev comes_before : Stand → Stand → Bool
comes_before a b = is_lt (nat_cmp a.pos b.pos)

-- a stable sort by positions leaves those at each as they were
pub runs_stay : (xs ys : List Stand) → IsStableByKey (λ (s : Stand). s.pos) nat_cmp xs ys → (pos : ℕ) → at_pos pos ys ≡ at_pos pos xs
runs_stay xs ys stable pos =
    filter_agree (λ (s : Stand). eqb s.pos pos) (ties comes_before (probe pos)) (λ s. sym (tie pos s.pos)) ys
    ∙ stable (probe pos)
    ∙ filter_agree (ties comes_before (probe pos)) (λ (s : Stand). eqb s.pos pos) (λ s. tie pos s.pos) xs

-- those before a position are passed
passed : (pos k : ℕ) (xs : List Stand) → ((i : ℕ) (d : Stand) → i < k → i < length xs → eqb (get_or xs i d).pos pos ≡ false)
    → at_pos pos xs ≡ at_pos pos (drop k xs)
passed pos zero xs off = refl
passed pos (suc k) [] off = refl
passed pos (suc k) (x ∷ xs) off =
    ap (λ b. cond b (x ∷ at_pos pos xs) (at_pos pos xs)) (off 0 x (omega arith) (omega arith))
    ∙ passed pos k xs (λ i d lt within. off (suc i) d (omega (arith, lt)) (omega (arith, within)))

-- those at it are kept, and none behind them
kept : (pos k : ℕ) (xs : List Stand) → ((i : ℕ) (d : Stand) → i < k → i < length xs → eqb (get_or xs i d).pos pos ≡ true)
    → ((i : ℕ) (d : Stand) → k ≤ i → i < length xs → eqb (get_or xs i d).pos pos ≡ false) → take k xs ≡ at_pos pos xs
kept pos zero xs on off = none xs (λ i d lt. off i d (omega arith) lt)
  where
    none : (ys : List Stand) → ((i : ℕ) (d : Stand) → i < length ys → eqb (get_or ys i d).pos pos ≡ false) → [] ≡ at_pos pos ys
    none [] off = refl
    none (y ∷ ys) off =
        none ys (λ i d lt. off (suc i) d (omega (arith, lt)))
        ∙ sym (ap (λ b. cond b (y ∷ at_pos pos ys) (at_pos pos ys)) (off 0 y (omega arith)))
kept pos (suc k) [] on off = refl
kept pos (suc k) (x ∷ xs) on off =
    ap (λ l. x ∷ l) (kept pos k xs (λ i d lt within. on (suc i) d (omega (arith, lt)) (omega (arith, within)))
    (λ i d le within. off (suc i) d (omega (arith, le)) (omega (arith, within))))
    ∙ sym (ap (λ b. cond b (x ∷ at_pos pos xs) (at_pos pos xs)) (on 0 x (omega arith) (omega arith)))

run_is : (pos : ℕ) (stands : List Stand) (first last : ℕ)
    → IsPartitionPoint (λ (s : Stand). ltb s.pos pos ≡ true) (λ (s : Stand). ltb s.pos pos ≡ false) stands first
    → IsPartitionPoint (λ (s : Stand). leb s.pos pos ≡ true) (λ (s : Stand). leb s.pos pos ≡ false) (drop first stands) last
    → take last (drop first stands) ≡ at_pos pos stands
run_is pos stands first last below up = kept pos last (drop first stands) on off ∙ sym (passed pos first stands out)
  where
    out : (i : ℕ) (d : Stand) → i < first → i < length stands → eqb (get_or stands i d).pos pos ≡ false
    out i d lt within =
        let less : ltb (get_or stands i d).pos pos ≡ true = below.0 i d (omega arith) lt in
        grind (arith, nat_tests)

    on : (i : ℕ) (d : Stand) → i < last → i < length (drop first stands) → eqb (get_or (drop first stands) i d).pos pos ≡ true
    on i d lt within =
        let le : leb (get_or (drop first stands) i d).pos pos ≡ true = up.0 i d (omega arith) lt in
        let long = length-drop first stands in
        let not_less : ltb (get_or (drop first stands) i d).pos pos ≡ false =
        ap (λ (s : Stand). ltb s.pos pos) (get_or-drop first stands i d) ∙ below.1 (first + i) d (omega arith) (omega (arith, within, long)) in
        grind (arith, nat_tests)

    off : (i : ℕ) (d : Stand) → last ≤ i → i < length (drop first stands) → eqb (get_or (drop first stands) i d).pos pos ≡ false
    off i d le within =
        let above : leb (get_or (drop first stands) i d).pos pos ≡ false = up.1 i d le within in
        grind (arith, nat_tests)

-- the same of the part of the list from the first of them on
pub run_behind : (pos : ℕ) (stands : List Stand) (first last : ℕ)
    → IsPartitionPoint (λ (s : Stand). ltb s.pos pos ≡ true) (λ (s : Stand). ltb s.pos pos ≡ false) stands first
    → IsPartitionPoint (λ (s : Stand). leb s.pos pos ≡ true) (λ (s : Stand). leb s.pos pos ≡ false)
    (take (length stands - first) (drop first stands)) last
    → take last (take (length stands - first) (drop first stands)) ≡ at_pos pos stands
run_behind pos stands first last below =
    subst (λ l. IsPartitionPoint (λ (s : Stand). leb s.pos pos ≡ true) (λ (s : Stand). leb s.pos pos ≡ false) l last → take last l ≡ at_pos pos stands)
    (sym (take_all (length stands - first) (drop first stands) (omega (arith, length-drop first stands)))) (run_is pos stands first last below)
