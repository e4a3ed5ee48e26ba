-- What a read takes of what is held.
use Rattle.std.proofs.Common.{◌≡◌, ℕ, zero, suc, ◌+◌, ◌<◌, ◌≤◌, ◌||◌, ◌&&◌, not, Bool, true, false, cond, List, [], ◌∷◌, ◌++◌, length, take, get_or, replicate, Option, Some, None, is_some, refl, sym, ap, subst, ◌∙◌, arith, append_assoc, append-nil, take-suc}
use Rattle.std.specs.List.{filter, flat_map}
use Rattle.std.proofs.lemmas.List.Elements.{filter-append}
use Rattle.std.proofs.lemmas.List.Folds.{list_any-append}
use Rattle.tape_types.specs.declared.cartridges.Place.{Place}
use Rattle.plain_tree.specs.Cells.{Cell, bytes_of}
use Rattle.extent_map.specs.Cells.{Tape}
use Rattle.extent_map.specs.Pieces.{read_piece}
use Rattle.extent_map.specs.Replies.{IsBlock, Places, gathered, gathered_piece, has_place, place_in, places_in, same_place, with_place}
use Rattle.extent_map.specs.declared.pieces.Piece.{Piece}
use Rattle.extent_map.specs.declared.pieces.Piece.TheVariants.{Stored, Zeros}
use Rattle.tape_types.proofs.Places.{same_back, same_itself, same_places}
use Rattle.tape_layout.specs.Ops.{held_in}
use Rattle.tape_layout.specs.declared.ops.Op.{Op}
use Rattle.waiting_reads.specs.Gathering.{Gathering, HasSoFar, IsGathering}
use Rattle.waiting_reads.specs.Waiting.{IsFilledBy}
use Rattle.block_cache.specs.Kept.{Kept, bytes_at, is_cached}
use Rattle.extent_map.proofs.DistinctLemmas.{has_distinct}
use Rattle.volume_state.specs.StateLaws.Placing.{is_held, wanted_of}
use Rattle.volume_core.specs.VolumeSteps.Wanted.{AreTakenFrom, HasHeld, HasKept, IsTakenFrom, there_among}

-- ---- places

or_first : (a b : Bool) → a ≡ true → (a || b) ≡ true
or_first true b e = refl
or_first false b e = absurd cc

or_second : (a b : Bool) → b ≡ true → (a || b) ≡ true
or_second true b e = refl
or_second false b e = e

-- ---- which of the places are held

-- a place of the list passes the test, or fails it
has_passed : (test : Place → Bool) (place : Place) (places : List Place) → has_place place places ≡ true
    → test place ≡ true → has_place place (filter test places) ≡ true
has_passed test place [] has pass = absurd cc
has_passed test place (x ∷ xs) has pass = by (same_place place x) refl (has_passed test place xs)
  where
    kept : (b : Bool) → same_place place x ≡ true → b ≡ true → has_place place (cond b (x ∷ filter test xs) (filter test xs)) ≡ true
    kept true is passed = or_first (same_place place x) (has_place place (filter test xs)) is
    kept false is passed = absurd cc

    later : (b : Bool) → has_place place (filter test xs) ≡ true → has_place place (cond b (x ∷ filter test xs) (filter test xs)) ≡ true
    later true there = or_second (same_place place x) (has_place place (filter test xs)) there
    later false there = there

    by : (b : Bool) → same_place place x ≡ b → (has_place place xs ≡ true → test place ≡ true → has_place place (filter test xs) ≡ true)
        → has_place place (filter test (x ∷ xs)) ≡ true
    by true is rest = kept (test x) is (subst (λ p. test p ≡ true) (same_places place x is) pass)
    by false is rest = later (test x) (rest (sym (ap (λ t. t || has_place place xs) is) ∙ has) pass)

-- one that fails isn't left
has_failed : (test : Place → Bool) (place : Place) (places : List Place) → test place ≡ false
    → has_place place (filter test places) ≡ false
has_failed test place [] fails = refl
has_failed test place (x ∷ xs) fails = by (test x) refl (has_failed test place xs fails)
  where
    other : (b : Bool) → same_place place x ≡ b → test x ≡ true → b ≡ false
    other false e pass = refl
    other true e pass =
        let clash : true ≡ false = sym pass ∙ ap test (sym (same_places place x e)) ∙ fails in cc

    by : (b : Bool) → test x ≡ b → has_place place (filter test xs) ≡ false
        → has_place place (cond b (x ∷ filter test xs) (filter test xs)) ≡ false
    by true pass rest = ap (λ t. t || has_place place (filter test xs)) (other (same_place place x) refl pass) ∙ rest
    by false pass rest = rest

-- of the places of the read, those that are there are those that aren't wanted
pub there_or_wanted : (ops : List Op) (cached : List Kept) (place : Place) (places : List Place) → has_place place places ≡ true
    → there_among ops cached places place ≡ not (has_place place (wanted_of ops cached places))
there_or_wanted ops cached place places has = by (is_held ops place || is_cached cached place) refl
  where
    there : Place → Bool
    there p = is_held ops p || is_cached cached p

    by : (b : Bool) → (is_held ops place || is_cached cached place) ≡ b → there_among ops cached places place ≡ not (has_place place (wanted_of ops cached places))
    by true is =
        has_passed (λ p. is_held ops p || is_cached cached p) place places has is
        ∙ ap not (sym (has_failed (λ p. not (is_held ops p || is_cached cached p)) place places (ap not is)))
    by false is =
        has_failed (λ p. is_held ops p || is_cached cached p) place places is
        ∙ ap not (sym (has_passed (λ p. not (is_held ops p || is_cached cached p)) place places has (ap not is)))

-- ---- sets of places that agree on those of the pieces

gathers_alike : (tape : Tape) (one other : Places) (pieces : List Piece)
    → ((place : Place) → has_place place (flat_map place_in pieces) ≡ true → one place ≡ other place)
    → gathered tape one pieces ≡ gathered tape other pieces
gathers_alike tape one other [] alike = refl
gathers_alike tape one other (Zeros count ∷ pieces) alike =
    ap (λ (cells : List Cell). gathered_piece tape other (Zeros count) ++ cells) (gathers_alike tape one other pieces alike)
gathers_alike tape one other (Stored at byte count ∷ pieces) alike =
    let here : one at ≡ other at = alike at (or_first (same_place at at) (has_place at (flat_map place_in pieces)) (same_itself at)) in
    ap (λ b. cond b (read_piece tape (Stored at byte count)) (replicate count (Some 0)) ++ gathered tape one pieces) here
    ∙ ap (λ (cells : List Cell). gathered_piece tape other (Stored at byte count) ++ cells)
    (gathers_alike tape one other pieces
    (λ place has. alike place (or_second (same_place place at) (has_place place (flat_map place_in pieces)) has)))

-- a read has the blocks at its own places, whatever is read elsewhere
pub gathering_alike : (tape : Tape) (one other : Places) (g : Gathering)
    → ((place : Place) → has_place place (places_in g.pieces) ≡ true → one place ≡ other place)
    → IsGathering tape one g → IsGathering tape other g
gathering_alike tape one other g alike is = record { has = by g.whole is.has; long = is.long }
  where
    same : gathered tape one g.pieces ≡ gathered tape other g.pieces
    same = gathers_alike tape one other g.pieces (λ place has. alike place (has_distinct (flat_map place_in g.pieces) place ∙ has))

    by : (whole : Bool) → HasSoFar tape one g.pieces g.bytes whole → HasSoFar tape other g.pieces g.bytes whole
    by true has = ap bytes_of (sym same) ∙ has
    by false has = has

-- ---- block after block

-- with no place looked at yet nothing is taken
pub taken_begins : (ops : List Op) (cached : List Kept) (g : Gathering) (wanted found : List Place) → AreTakenFrom ops cached [] g g wanted wanted found found
taken_begins ops cached g wanted found = record {
  ticket = refl;
  pieces = refl;
  gathers = λ tape holds keeps is. is;
  wanted_are = sym (append-nil wanted);
  found_are = sym (append-nil found);
}

-- a block is kept where its bytes are found
cached_has : (cached : List Kept) (place : Place) → is_cached cached place ≡ is_some (bytes_at cached place)
cached_has [] place = refl
cached_has (block ∷ cached) place = by (same_place place block.0) (cached_has cached place)
  where
    by : (b : Bool) → is_cached cached place ≡ is_some (bytes_at cached place) → (b || is_cached cached place) ≡ is_some (cond b (Some block.1) (bytes_at cached place))
    by true rest = refl
    by false rest = rest

-- a block is held, or kept, or wanted
module _ (ops : List Op) (cached : List Kept) (places : List Place) (place : Place) (start old new : Gathering) (first before after known found later : List Place)
    (t : AreTakenFrom ops cached places start old first before known found) where
  grown : (test : Place → Bool) (b : Bool) → test place ≡ b → filter test (places ++ place ∷ []) ≡ filter test places ++ cond b (place ∷ []) []
  grown test b is = filter-append test places (place ∷ []) ∙ ap (λ b. filter test places ++ cond b (place ∷ []) []) is

  list_stays : (test : Place → Bool) (from a b : List Place) → test place ≡ false → b ≡ a → a ≡ from ++ filter test places → b ≡ from ++ filter test (places ++ place ∷ [])
  list_stays test from a b fails same was =
      same ∙ was ∙ ap (λ (ps : List Place). from ++ ps) (sym (grown test false fails ∙ append-nil (filter test places)))

  list_grows : (test : Place → Bool) (from a b : List Place) → test place ≡ true → b ≡ a ++ place ∷ [] → a ≡ from ++ filter test places → b ≡ from ++ filter test (places ++ place ∷ [])
  list_grows test from a b passes more was =
      more ∙ ap (λ (ps : List Place). ps ++ place ∷ []) was ∙ append_assoc from (filter test places) (place ∷ [])
      ∙ ap (λ (ps : List Place). from ++ ps) (sym (grown test true passes))

  turn : (a b : Bool) → cond a true b ≡ (b || (a || false))
  turn true true = refl
  turn true false = refl
  turn false true = refl
  turn false false = refl

  with_one : (other : Place) (ps : List Place) → with_place (λ p. has_place p ps) place other ≡ has_place other (ps ++ place ∷ [])
  with_one other ps =
      ap (λ a. cond a true (has_place other ps)) (same_back place other)
      ∙ turn (same_place other place) (has_place other ps)
      ∙ sym (list_any-append (same_place other) ps (place ∷ []))

  gathers_there : (bytes : List ℕ) → (is_held ops place || is_cached cached place) ≡ true → ((tape : Tape) → HasHeld tape ops → HasKept tape cached → IsBlock tape place bytes)
      → IsFilledBy place bytes old new → (tape : Tape) → HasHeld tape ops → HasKept tape cached → IsGathering tape (λ place. false) start
      → IsGathering tape (there_among ops cached (places ++ place ∷ [])) new
  gathers_there bytes is stands filled tape holds keeps begins =
      gathering_alike tape (with_place (there_among ops cached places) place) (there_among ops cached (places ++ place ∷ [])) new
      (λ other has. with_one other (filter (λ p. is_held ops p || is_cached cached p) places) ∙ ap (has_place other) (sym (grown (λ p. is_held ops p || is_cached cached p) true is)))
      (filled.filled tape (there_among ops cached places) (stands tape holds keeps) (t.gathers tape holds keeps begins))

  gathers_still : (is_held ops place || is_cached cached place) ≡ false → new ≡ old → (tape : Tape) → HasHeld tape ops → HasKept tape cached → IsGathering tape (λ place. false) start
      → IsGathering tape (there_among ops cached (places ++ place ∷ [])) new
  gathers_still is same tape holds keeps begins =
      subst (λ (g : Gathering). IsGathering tape (there_among ops cached (places ++ place ∷ [])) g) (sym same)
      (gathering_alike tape (there_among ops cached places) (there_among ops cached (places ++ place ∷ [])) old
      (λ other has. ap (has_place other) (sym (grown (λ p. is_held ops p || is_cached cached p) false is ∙ append-nil (filter (λ p. is_held ops p || is_cached cached p) places))))
      (t.gathers tape holds keeps begins))

  taken_held : (bytes : List ℕ) → held_in place ops ≡ Some bytes → IsFilledBy place bytes old new → after ≡ before → later ≡ found
      → AreTakenFrom ops cached (places ++ place ∷ []) start new first after known later
  taken_held bytes held filled same same_found =
      let there : is_held ops place ≡ true = ap is_some held in
      record {
        ticket = filled.ticket ∙ t.ticket;
        pieces = filled.pieces ∙ t.pieces;
        gathers = gathers_there bytes (ap (λ b. b || is_cached cached place) there) (λ tape holds keeps. holds place bytes held) filled;
        wanted_are = list_stays (λ p. not (is_held ops p || is_cached cached p)) first before after (ap (λ b. not (b || is_cached cached place)) there) same t.wanted_are;
        found_are = list_stays (λ p. not (is_held ops p) && is_cached cached p) known found later (ap (λ b. not b && is_cached cached place) there) same_found t.found_are;
      }

  module _ (none : held_in place ops ≡ None) where
    unheld : is_held ops place ≡ false
    unheld = ap is_some none

    taken_kept : (bytes : List ℕ) → bytes_at cached place ≡ Some bytes → IsFilledBy place bytes old new → after ≡ before → later ≡ found ++ place ∷ []
        → AreTakenFrom ops cached (places ++ place ∷ []) start new first after known later
    taken_kept bytes kept filled same more =
        let kept_is : is_cached cached place ≡ true = cached_has cached place ∙ ap is_some kept in
        let there : (is_held ops place || is_cached cached place) ≡ true = ap (λ b. b || is_cached cached place) unheld ∙ kept_is in
        record {
          ticket = filled.ticket ∙ t.ticket;
          pieces = filled.pieces ∙ t.pieces;
          gathers = gathers_there bytes there (λ tape holds keeps. keeps place bytes kept) filled;
          wanted_are = list_stays (λ p. not (is_held ops p || is_cached cached p)) first before after (ap not there) same t.wanted_are;
          found_are = list_grows (λ p. not (is_held ops p) && is_cached cached p) known found later (ap (λ b. not b && is_cached cached place) unheld ∙ kept_is) more t.found_are;
        }

    taken_wanted : bytes_at cached place ≡ None → new ≡ old → after ≡ before ++ place ∷ [] → later ≡ found
        → AreTakenFrom ops cached (places ++ place ∷ []) start new first after known later
    taken_wanted unkept same more same_found =
        let kept_isnt : is_cached cached place ≡ false = cached_has cached place ∙ ap is_some unkept in
        let nowhere : (is_held ops place || is_cached cached place) ≡ false = ap (λ b. b || is_cached cached place) unheld ∙ kept_isnt in
        record {
          ticket = ap (λ (g : Gathering). g.ticket) same ∙ t.ticket;
          pieces = ap (λ (g : Gathering). g.pieces) same ∙ t.pieces;
          gathers = gathers_still nowhere same;
          wanted_are = list_grows (λ p. not (is_held ops p || is_cached cached p)) first before after (ap not nowhere) more t.wanted_are;
          found_are = list_stays (λ p. not (is_held ops p) && is_cached cached p) known found later (ap (λ b. not b && is_cached cached place) unheld ∙ kept_isnt) same_found t.found_are;
        }

  pub taken_on : IsTakenFrom (held_in place ops) (bytes_at cached place) place old new before after found later
      → AreTakenFrom ops cached (places ++ place ∷ []) start new first after known later
  taken_on = by (held_in place ops) refl (bytes_at cached place) refl
    where
      by : (o : Option (List ℕ)) → held_in place ops ≡ o → (k : Option (List ℕ)) → bytes_at cached place ≡ k → IsTakenFrom o k place old new before after found later
          → AreTakenFrom ops cached (places ++ place ∷ []) start new first after known later
      by (Some bytes) held k kept is = taken_held bytes held is.0 is.1 is.2
      by None held (Some bytes) kept is = taken_kept held bytes kept is.0 is.1 is.2
      by None held None kept is = taken_wanted held kept is.0 is.1 is.2

-- a list grows by its next item
pub next_place : (places : List Place) (i : ℕ) (d : Place) → i < length places
    → take (i + 1) places ≡ take i places ++ get_or places i d ∷ []
next_place places i d lt =
    let on : i + 1 ≡ suc i = omega arith in
    ap (λ n. take n places) on ∙ take-suc places i d lt

-- all places are the first of them, so many as there are
pub all_places : (places : List Place) (i : ℕ) → length places ≤ i → take i places ≡ places
all_places [] zero le = refl
all_places [] (suc i) le = refl
all_places (p ∷ ps) zero le = absurd (omega (arith, le))
all_places (p ∷ ps) (suc i) le = ap (λ l. p ∷ l) (all_places ps i (omega (arith, le)))

-- one place more is looked at: its block is taken, or wanted
pub taken_next : (ops : List Op) (cached : List Kept) (places : List Place) (i : ℕ) (d : Place) (start old new : Gathering) (first before after known found later : List Place)
    → i < length places → AreTakenFrom ops cached (take i places) start old first before known found
    → IsTakenFrom (held_in (get_or places i d) ops) (bytes_at cached (get_or places i d)) (get_or places i d) old new before after found later
    → AreTakenFrom ops cached (take (i + 1) places) start new first after known later
taken_next ops cached places i d start old new first before after known found later lt t is =
    subst (λ (ps : List Place). AreTakenFrom ops cached ps start new first after known later) (sym (next_place places i d lt))
    (taken_on ops cached (take i places) (get_or places i d) start old new first before after known found later t is)

-- once all places were looked at, all are taken or wanted
pub taken_ends : (ops : List Op) (cached : List Kept) (places : List Place) (i : ℕ) (start new : Gathering) (first after known later : List Place)
    → length places ≤ i → AreTakenFrom ops cached (take i places) start new first after known later → AreTakenFrom ops cached places start new first after known later
taken_ends ops cached places i start new first after known later le t =
    subst (λ (ps : List Place). AreTakenFrom ops cached ps start new first after known later) (all_places places i le) t
