-- The places of a plan, each once.
use Rattle.std.proofs.Common.{◌≡◌, ℕ, zero, suc, ◌+◌, replicate, Some, Bool, true, false, cond, not, ◌||◌, List, [], ◌∷◌, ◌++◌, take, sym, ap, ◌∙◌, refl, arith, append-nil}
use Rattle.std.specs.List.{filter, flat_map, list_any}
use Rattle.std.specs.Prelude.{slice_get}
use Rattle.std.proofs.lemmas.Option.{slice_get_within, get_or_from_slice_get}
use Rattle.std.specs.BTreeMap.{is_at}
use Rattle.std.specs.BTreeSet.{BTreeSet, contains, Updates}
use Rattle.std.specs.Ordering.{nat_cmp, bool_cmp, is_eq, ordering_then}
use Rattle.std.specs.declared.cmp.Ordering.{Ordering}
use Rattle.std.specs.declared.cmp.Ordering.TheVariants.{Less, Equal, Greater}
use Rattle.std.specs.FinMap as fin
use Rattle.std.proofs.lemmas.List.Elements.{filter-append}
use Rattle.std.proofs.lemmas.List.Concat.{flat_map-append}
use Rattle.std.proofs.lemmas.Bool.{or_right}
use Rattle.plain_tree.proofs.NodeLemmas.{tied}
use Rattle.tape_types.specs.declared.cartridges.Part.{Part}
use Rattle.tape_types.specs.declared.cartridges.Part.TheVariants.{Ip, Dp}
use Rattle.tape_types.specs.declared.cartridges.Place.{Place}
use Rattle.tape_types.proofs.Places.{same_back, same_itself, same_places}
use Rattle.plain_tree.specs.Cells.{bytes_of}
use Rattle.extent_map.specs.Cells.{Tape}
use Rattle.extent_map.specs.Pieces.{read_piece}
use Rattle.extent_map.specs.declared.pieces.Piece.{Piece}
use Rattle.extent_map.specs.declared.pieces.Piece.TheVariants.{Zeros, Stored}
use Rattle.extent_map.specs.Replies.{same_part, same_place, place_in, distinct, has_place, with_new, key_of, key_cmp, AreMet, places_in, bytes_in, size_of, Places, gathered_piece, gathered, IsGathered, RepliesGather}
use Rattle.extent_map.proofs.TakenBytes.{zeros_there}
use Rattle.extent_map.proofs.ReplyLemmas.{dropped, joined}

-- what differs from one place is there with and without that one
has_filtered : (x y : Place) (ds : List Place) → same_place y x ≡ false → has_place y (filter (λ other. not (same_place x other)) ds) ≡ has_place y ds
has_filtered x y [] other = refl
has_filtered x y (d ∷ ds) other = by (same_place x d) refl (has_filtered x y ds other)
  where
    by : (b : Bool) → same_place x d ≡ b → has_place y (filter (λ other. not (same_place x other)) ds) ≡ has_place y ds
        → has_place y (cond (not b) (d ∷ filter (λ other. not (same_place x other)) ds) (filter (λ other. not (same_place x other)) ds)) ≡ (same_place y d || has_place y ds)
    by true e rest =
        let d_is : d ≡ x = sym (same_places x d e) in
        rest ∙ ap (λ t. t || has_place y ds) (sym (ap (same_place y) d_is ∙ other))
    by false e rest = ap (λ t. same_place y d || t) rest

distinct_more : (xs : List Place) (y : Place) → distinct (xs ++ y ∷ []) ≡ cond (has_place y (distinct xs)) (distinct xs) (distinct xs ++ y ∷ [])
distinct_more [] y = refl
distinct_more (x ∷ xs) y = ap (λ l. x ∷ filter f l) (distinct_more xs y) ∙ by (same_place y x) refl (has_place y (distinct xs)) refl
  where
    f : Place → Bool
    f = λ other. not (same_place x other)

    by : (s : Bool) → same_place y x ≡ s → (h : Bool) → has_place y (distinct xs) ≡ h
        → x ∷ filter f (cond (has_place y (distinct xs)) (distinct xs) (distinct xs ++ y ∷ [])) ≡ cond (same_place y x || has_place y (filter f (distinct xs))) (x ∷ filter f (distinct xs)) (x ∷ filter f (distinct xs) ++ y ∷ [])
    by true e true h =
        ap (λ b. x ∷ filter f (cond b (distinct xs) (distinct xs ++ y ∷ []))) h
        ∙ sym (ap (λ b. cond (b || has_place y (filter f (distinct xs))) (x ∷ filter f (distinct xs)) (x ∷ filter f (distinct xs) ++ y ∷ [])) e)
    by true e false h =
        ap (λ b. x ∷ filter f (cond b (distinct xs) (distinct xs ++ y ∷ []))) h
        ∙ ap (λ l. x ∷ l) (filter-append f (distinct xs) (y ∷ []))
        ∙ ap (λ b. x ∷ (filter f (distinct xs) ++ cond (not b) (y ∷ []) [])) (same_back x y ∙ e) ∙ ap (λ l. x ∷ l) (append-nil (filter f (distinct xs)))
        ∙ sym (ap (λ b. cond (b || has_place y (filter f (distinct xs))) (x ∷ filter f (distinct xs)) (x ∷ filter f (distinct xs) ++ y ∷ [])) e)
    by false e true h =
        ap (λ b. x ∷ filter f (cond b (distinct xs) (distinct xs ++ y ∷ []))) h
        ∙ sym (ap (λ b. cond (b || has_place y (filter f (distinct xs))) (x ∷ filter f (distinct xs)) (x ∷ filter f (distinct xs) ++ y ∷ [])) e
        ∙ ap (λ b. cond b (x ∷ filter f (distinct xs)) (x ∷ filter f (distinct xs) ++ y ∷ [])) (has_filtered x y (distinct xs) e ∙ h))
    by false e false h =
        ap (λ b. x ∷ filter f (cond b (distinct xs) (distinct xs ++ y ∷ []))) h
        ∙ ap (λ l. x ∷ l) (filter-append f (distinct xs) (y ∷ []))
        ∙ ap (λ b. x ∷ (filter f (distinct xs) ++ cond (not b) (y ∷ []) [])) (same_back x y ∙ e)
        ∙ sym (ap (λ b. cond (b || has_place y (filter f (distinct xs))) (x ∷ filter f (distinct xs)) (x ∷ filter f (distinct xs) ++ y ∷ [])) e
        ∙ ap (λ b. cond b (x ∷ filter f (distinct xs)) (x ∷ filter f (distinct xs) ++ y ∷ [])) (has_filtered x y (distinct xs) e ∙ h))

distinct_joined : (xs ys : List Place) → distinct (xs ++ ys) ≡ with_new (distinct xs) ys
distinct_joined xs [] = ap distinct (append-nil xs)
distinct_joined xs (y ∷ ys) = ap distinct (split xs) ∙ distinct_joined (xs ++ y ∷ []) ys ∙ ap (λ l. with_new l ys) (distinct_more xs y)
  where
    split : (zs : List Place) → zs ++ y ∷ ys ≡ (zs ++ y ∷ []) ++ ys
    split [] = refl
    split (z ∷ zs) = ap (λ l. z ∷ l) (split zs)

-- the places of one piece more
pub places_next : (pieces : List Piece) (i : ℕ) (p : Piece) → slice_get pieces i ≡ Some p → places_in (take (i + 1) pieces) ≡ with_new (places_in (take i pieces)) (place_in p)
places_next pieces i p is =
    let e : i + 1 ≡ suc i = omega arith in
    ap (λ k. places_in (take k pieces)) e ∙ ap places_in (dropped pieces i p (slice_get_within pieces i p is) (sym (get_or_from_slice_get pieces i p p is))).1
    ∙ ap distinct (flat_map-append place_in (take i pieces) (p ∷ []) ∙ ap (λ l. flat_map place_in (take i pieces) ++ l) (append-nil (place_in p)))
    ∙ distinct_joined (flat_map place_in (take i pieces)) (place_in p)

-- ---- the places that were met

part_back : (a b : Part) → bool_cmp (same_part a Dp) (same_part b Dp) ≡ Equal → a ≡ b
part_back Ip Ip e = refl
part_back Dp Dp e = refl
part_back Ip Dp e = cc
part_back Dp Ip e = cc

-- keys are alike where places are
alike : (p q : Place) → is_at (key_cmp (key_of p)) (key_of q) ≡ true → p ≡ q
alike p q e = by (bool_cmp (same_part p.part Dp) (same_part q.part Dp)) refl e
  where
    by : (r : Ordering) → bool_cmp (same_part p.part Dp) (same_part q.part Dp) ≡ r → is_eq (ordering_then r (nat_cmp p.pos q.pos)) ≡ true → p ≡ q
    by Less is t = cc
    by Greater is t = cc
    by Equal is t =
        let part = part_back p.part q.part is in
        let pos = fin.nat_cmp-IsAntisymmetric p.pos q.pos (tied (nat_cmp p.pos q.pos) t) in
        ap (λ (k : Part). record { part = k; pos = p.pos }) part ∙ ap (λ n. record { part = q.part; pos = n }) pos

has_last : (p y : Place) (places : List Place) → has_place p (places ++ y ∷ []) ≡ (has_place p places || same_place p y)
has_last p y [] = by (same_place p y)
  where
    by : (b : Bool) → (b || false) ≡ b
    by true = refl
    by false = refl
has_last p y (d ∷ places) = ap (λ t. same_place p d || t) (has_last p y places) ∙ by (same_place p d)
  where
    by : (b : Bool) → (b || (has_place p places || same_place p y)) ≡ ((b || has_place p places) || same_place p y)
    by true = refl
    by false = refl

none_met : (met : BTreeSet (Bool × ℕ)) → met.keys ≡ [] → AreMet met []
none_met met none p = ap (list_any (is_at (key_cmp (key_of p)))) none

-- a place that was put in is among those that were met
pub met_more : (met next : BTreeSet (Bool × ℕ)) (places : List Place) (y : Place) → AreMet met places → Updates key_cmp met next (key_of y) true → AreMet next (places ++ y ∷ [])
met_more met next places y are new p = by (same_place p y) refl
  where
    by : (b : Bool) → same_place p y ≡ b → contains key_cmp next (key_of p) ≡ has_place p (places ++ y ∷ [])
    by true e =
        ap (λ q. contains key_cmp next (key_of q)) (same_places p y e) ∙ new.1
        ∙ sym (has_last p y places ∙ ap (λ t. has_place p places || t) e ∙ any_true (has_place p places))
      where
        any_true : (b : Bool) → (b || true) ≡ true
        any_true true = refl
        any_true false = refl
    by false e = new.2 (key_of p) (other (is_at (key_cmp (key_of y)) (key_of p)) refl) ∙ are p ∙ sym (has_last p y places ∙ ap (λ t. has_place p places || t) e ∙ any_false (has_place p places))
      where
        any_false : (b : Bool) → (b || false) ≡ b
        any_false true = refl
        any_false false = refl

        other : (b : Bool) → is_at (key_cmp (key_of y)) (key_of p) ≡ b → is_at (key_cmp (key_of y)) (key_of p) ≡ false
        other true is = let wrong : true ≡ false = sym (ap (same_place p) (alike y p is) ∙ same_itself p) ∙ e in cc
        other false is = is

-- a place that could be added to those that were met was not among them
pub fresh_place : (met : BTreeSet (Bool × ℕ)) (places : List Place) (y : Place) (key : Bool × ℕ) (added : Bool) → AreMet met places → key ≡ key_of y → added ≡ not (contains key_cmp met key) → added ≡ true → has_place y places ≡ false
fresh_place met places y key added are is told new = sym (are y) ∙ ap (contains key_cmp met) (sym is) ∙ by (contains key_cmp met key) (sym told ∙ new)
  where
    by : (b : Bool) → not b ≡ true → b ≡ false
    by true e = cc
    by false e = refl

-- a place that could not be added to those that were met was among them
pub old_place : (met : BTreeSet (Bool × ℕ)) (places : List Place) (y : Place) (key : Bool × ℕ) (added : Bool) → AreMet met places → key ≡ key_of y → added ≡ not (contains key_cmp met key) → added ≡ false → has_place y places ≡ true
old_place met places y key added are is told new = sym (are y) ∙ ap (contains key_cmp met) (sym is) ∙ by (contains key_cmp met key) (sym told ∙ new)
  where
    by : (b : Bool) → not b ≡ false → b ≡ true
    by true e = refl
    by false e = cc

-- ---- the bytes of all blocks

-- a list has the places that it has with each once
pub has_distinct : (xs : List Place) (y : Place) → has_place y (distinct xs) ≡ has_place y xs
has_distinct [] y = refl
has_distinct (x ∷ xs) y = by (same_place y x) refl (has_distinct xs y)
  where
    by : (b : Bool) → same_place y x ≡ b → has_place y (distinct xs) ≡ has_place y xs
        → (same_place y x || has_place y (filter (λ other. not (same_place x other)) (distinct xs))) ≡ (same_place y x || has_place y xs)
    by true e same = ap (λ t. t || has_place y (filter (λ other. not (same_place x other)) (distinct xs))) e ∙ sym (ap (λ t. t || has_place y xs) e)
    by false e same = ap (λ t. same_place y x || t) (has_filtered x y (distinct xs) e ∙ same)

all_read : (tape : Tape) (read : Places) (pieces : List Piece) → ((place : Place) → has_place place (flat_map place_in pieces) ≡ true → read place ≡ true) → gathered tape read pieces ≡ flat_map (read_piece tape) pieces
all_read tape read [] each = refl
all_read tape read (Zeros count ∷ pieces) each = ap (λ l. replicate count (Some 0) ++ l) (all_read tape read pieces each)
all_read tape read (Stored place byte count ∷ pieces) each =
    ap (λ t. cond t (read_piece tape (Stored place byte count)) (replicate count (Some 0)) ++ gathered tape read pieces) (each place (ap (λ t. t || has_place place (flat_map place_in pieces)) (same_itself place)))
    ∙ ap (λ l. read_piece tape (Stored place byte count) ++ l) (all_read tape read pieces (λ other there. each other (or_right (same_place other place) (has_place other (flat_map place_in pieces)) there)))

zeros_joined : (m n : ℕ) → ◌≡◌ {A = List ℕ} (replicate (m + n) 0) (replicate m 0 ++ replicate n 0)
zeros_joined zero n = let e : 0 + n ≡ n = omega arith in ap (λ k. replicate {A = ℕ} k 0) e
zeros_joined (suc m) n = let e : suc m + n ≡ suc (m + n) = omega arith in ap (λ k. replicate {A = ℕ} k 0) e ∙ ap (λ l. 0 ∷ l) (zeros_joined m n)

first_zeros : (tape : Tape) (piece : Piece) → bytes_of (gathered_piece tape (λ place. false) piece) ≡ Some (replicate (bytes_in piece) 0)
first_zeros tape (Zeros count) = zeros_there count
first_zeros tape (Stored place byte count) = zeros_there count

all_zeros : (tape : Tape) (pieces : List Piece) → IsGathered tape (λ place. false) pieces (replicate (size_of pieces) 0)
all_zeros tape [] = refl
all_zeros tape (piece ∷ pieces) =
    joined (gathered_piece tape (λ place. false) piece) (gathered tape (λ place. false) pieces) (replicate (bytes_in piece) 0) (replicate (size_of pieces) 0) (first_zeros tape piece) (all_zeros tape pieces)
    ∙ ap (λ l. Some l) (sym (zeros_joined (bytes_in piece) (size_of pieces)))

-- gathering begins with zeros, and ends with the bytes once all places are read
pub replies_gather : RepliesGather
replies_gather = record {
  begins = all_zeros;
  ends = λ tape read pieces bytes each is.
      ap bytes_of (sym (all_read tape read pieces (λ place there. each place (has_distinct (flat_map place_in pieces) place ∙ there)))) ∙ is;
}
