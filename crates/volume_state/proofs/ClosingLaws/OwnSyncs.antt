-- The index that is the newest one behind a sync which is done tells the tree that the sync covers.
use Rattle.std.proofs.Common.{◌≡◌, ◌≢◌, ◌∙◌, ℕ, ◌+◌, ◌≤◌, cond, Bool, true, false, List, [], ◌∷◌, ◌++◌, length, reverse}
use Rattle.std.proofs.Common.{take, Option, Some, refl, sym, ap, subst, arith, append-nil, length-append}
use Rattle.std.proofs.lemmas.List.{append_assoc, reverse-append, take-append-le}
use Rattle.plain_tree.specs.History.{call_at}
use Rattle.plain_tree.specs.Tree.{Tree}
use Rattle.plain_tree.specs.declared.calls.Call.TheVariants.{Sync}
use Rattle.plain_tree.specs.declared.calls.Fate.TheVariants as fates
use Rattle.plain_tree.specs.declared.calls.Placed.{Placed}
use Rattle.space_laws.specs.Space as space
use Rattle.space_laws.specs.Space.{Ask, Rules, Space, change, index, nothing, store}
use Rattle.space_laws.specs.Standing.{Given, Standing, after_placed, ask_of, is_on, rules, standing, sync_text}
use Rattle.promises.proofs.ReplyLaws.Places.{standing_goes_on, stands_on}
use Rattle.volume_state.specs.ClosingLaws.Owned.{IsCovered, own_places, place_of_index}
use Rattle.volume_state.proofs.ClosingLaws.OwnPlaces.{own_ask, places_next}

-- the last element of a list
last_same : (xs ys : List ℕ) (x y : ℕ) → xs ++ x ∷ [] ≡ ys ++ y ∷ [] → x ≡ y
last_same xs ys x y e =
    let turned : x ∷ reverse xs ≡ y ∷ reverse ys =
    sym (reverse-append xs (x ∷ [])) ∙ ap reverse e ∙ reverse-append ys (y ∷ []) in cc

record HasLast (ks : List ℕ) : Type 0 where
  earlier : List ℕ
  last : ℕ
  is : ks ≡ earlier ++ last ∷ []

last_of : (k : ℕ) (ks : List ℕ) → HasLast (k ∷ ks)
last_of k [] = record { earlier = []; last = k; is = refl }
last_of k (j ∷ ks) =
    let more = last_of j ks in
    record { earlier = k ∷ more.earlier; last = more.last; is = ap (λ (l : List ℕ). k ∷ l) more.is }

has_last : (ks : List ℕ) → ks ≢ [] → HasLast ks
has_last [] some = absurd (some refl)
has_last (k ∷ ks) some = last_of k ks

module _ (g : Given) (on : Option ℕ) where
  -- what stands at the end of a history
  abbrev at_end : List Placed → Standing
  at_end ps = standing g on ps (length ps)

  -- So many indexes were admitted as the newest generation says; and as long as nothing changes, the tree is that of
  -- the place of the last of them.
  record Covers (ps : List Placed) : Type 0 where
    newest : (at_end ps).space.newest ≡ g.mounted.newest + length (own_places g on ps)
    early : (front : List ℕ) (j : ℕ) → own_places g on ps ≡ front ++ j ∷ [] → j ≤ length ps
    covered : (at_end ps).space.changed ≡ false → (front : List ℕ) (j : ℕ) → own_places g on ps ≡ front ++ j ∷ []
        → (at_end ps).tree ≡ (standing g on ps j).tree

  no_last : (front : List ℕ) (j : ℕ) → [] ≡ front ++ j ∷ [] → ⊥
  no_last [] j e = cc e
  no_last (k ∷ front) j e = cc e

  begins : Covers []
  begins = record {
    newest = (let e : g.mounted.newest ≡ g.mounted.newest + 0 = omega arith in e);
    early = λ front j e. absurd (no_last front j e);
    covered = λ same front j e. absurd (no_last front j e);
  }

  -- ---- one placement more

  module _ (done : List Placed) (p : Placed) (was : Covers done) where
    abbrev next : List Placed
    next = done ++ p ∷ []

    abbrev st : Standing
    st = at_end done

    abbrev here : Bool
    here = is_on g.mounted on (length done)

    long : length next ≡ length done + 1
    long = length-append done (p ∷ [])

    stands : at_end next ≡ after_placed g here st p
    stands = ap (standing g on next) long ∙ (standing_goes_on g on done p).behind

    space_is : (at_end next).space ≡ space.after (rules g) here st.space (own_ask g on done p).ask
    space_is = ap (λ (s : Standing). s.space) stands ∙ (own_ask g on done p).left

    places_are : own_places g on next ≡ own_places g on done ++ place_of_index (length done) (own_ask g on done p).ask
    places_are = places_next g on done p ∙ ap (λ (ks : List ℕ). own_places g on done ++ ks) (own_ask g on done p).place

    -- what stood before stands at its place still
    stood : (j : ℕ) → j ≤ length done → (standing g on done j).tree ≡ (standing g on next j).tree
    stood j le = ap (λ (s : Standing). s.tree) (sym ((standing_goes_on g on done p).stands j le))

    newest_by : (ask : Ask) → (space.after (rules g) here st.space ask).newest
        ≡ g.mounted.newest + length (own_places g on done ++ place_of_index (length done) ask)
    newest_by nothing = omega (arith, was.newest, length-append (own_places g on done) [])
    newest_by change = omega (arith, was.newest, length-append (own_places g on done) [])
    newest_by (store wanted bytes) = omega (arith, was.newest, length-append (own_places g on done) [])
    newest_by (index text) = omega (arith, was.newest, length-append (own_places g on done) (length done ∷ []))

    -- none was admitted here
    before : (front : List ℕ) (j : ℕ) → own_places g on done ++ [] ≡ front ++ j ∷ []
        → own_places g on done ≡ front ++ j ∷ []
    before front j e = sym (append-nil (own_places g on done)) ∙ e

    early_by : (ask : Ask) (front : List ℕ) (j : ℕ)
        → own_places g on done ++ place_of_index (length done) ask ≡ front ++ j ∷ [] → j ≤ length next
    early_by nothing front j e = omega (arith, long, was.early front j (before front j e))
    early_by change front j e = omega (arith, long, was.early front j (before front j e))
    early_by (store wanted bytes) front j e = omega (arith, long, was.early front j (before front j e))
    early_by (index text) front j e =
        omega (arith, long, last_same (own_places g on done) front (length done) j e)

    covered_by : (ask : Ask) → (own_ask g on done p).ask ≡ ask
        → (space.after (rules g) here st.space ask).changed ≡ false → (front : List ℕ) (j : ℕ)
        → own_places g on done ++ place_of_index (length done) ask ≡ front ++ j ∷ []
        → (at_end next).tree ≡ (standing g on next j).tree
    covered_by nothing is same front j e =
        ap (λ (s : Standing). s.tree) stands ∙ (own_ask g on done p).still is
        ∙ was.covered same front j (before front j e) ∙ stood j (was.early front j (before front j e))
    covered_by change is same front j e = absurd (let wrong : true ≡ false = same in cc)
    covered_by (store wanted bytes) is same front j e = absurd (let wrong : true ≡ false = same in cc)
    covered_by (index text) is same front j e =
        ap (λ (s : Standing). s.tree) stands ∙ (own_ask g on done p).kept text is ∙ stood (length done) (omega arith)
        ∙ ap (λ (n : ℕ). (standing g on next n).tree)
        (last_same (own_places g on done) front (length done) j e)

    goes_on : Covers next
    goes_on = record {
      newest = ap (λ (s : Space). s.newest) space_is ∙ newest_by (own_ask g on done p).ask
          ∙ ap (λ (ks : List ℕ). g.mounted.newest + length ks) (sym places_are);
      early = λ front j e. early_by (own_ask g on done p).ask front j (sym places_are ∙ e);
      covered = λ same front j e. covered_by (own_ask g on done p).ask refl
          (sym (ap (λ (s : Space). s.changed) space_is) ∙ same) front j (sym places_are ∙ e);
    }

  -- ---- any history

  along : (done rest : List Placed) → Covers done → Covers (done ++ rest)
  along done [] was = subst Covers (sym (append-nil done)) was
  along done (p ∷ rest) was =
      subst Covers (append_assoc done (p ∷ []) rest) (along (done ++ p ∷ []) rest (goes_on done p was))

  -- those that come later stand behind
  places_more : (done rest : List Placed)
      → (more : List ℕ) × (own_places g on (done ++ rest) ≡ own_places g on done ++ more)
  places_more done [] =
      ([], ap (own_places g on) (append-nil done) ∙ sym (append-nil (own_places g on done)))
  places_more done (p ∷ rest) =
      let later = places_more (done ++ p ∷ []) rest in
      let first : List ℕ = place_of_index (length done) (own_ask g on done p).ask in (
        first ++ later.0,
        ap (own_places g on) (sym (append_assoc done (p ∷ []) rest)) ∙ later.1
            ∙ ap (λ (ks : List ℕ). ks ++ later.0) (places_next g on done p
            ∙ ap (λ (ks : List ℕ). own_places g on done ++ ks) (own_ask g on done p).place)
            ∙ append_assoc (own_places g on done) first later.0,
      )

  -- ---- a sync that is done

  unchanged : (v : Rules) (ip_on : Bool) (s : Space) (text : List ℕ) (b : Bool) → s.changed ≡ b
      → (space.after v ip_on s (cond b (index text) nothing)).changed ≡ false
  unchanged v ip_on s text true is = refl
  unchanged v ip_on s text false is = is

  -- the newest index behind a sync that is done tells the tree that the sync covers
  pub sync_covered : (front : List Placed) (p : Placed) (rest : List Placed) → p.fate ≡ fates.Done
      → call_at g.calls p ≡ Some Sync → own_places g on (front ++ p ∷ []) ≢ []
      → IsCovered g on (front ++ p ∷ rest) (length front)
  sync_covered front p rest done called some = record {
    earlier = last.earlier;
    place = last.last;
    later = more.0;
    are = ap (own_places g on) (sym (append_assoc front (p ∷ []) rest)) ∙ more.1
        ∙ ap (λ (ks : List ℕ). ks ++ more.0) last.is ∙ append_assoc last.earlier (last.last ∷ []) more.0;
    newest = ap (λ (s : Standing). s.space.newest) (at_later (length front + 1) (omega (arith, long)))
        ∙ ap (λ (n : ℕ). (standing g on next n).space.newest) (sym long) ∙ covers.newest
        ∙ (let many : length (own_places g on next) ≡ length last.earlier + 1 =
        ap (λ (ks : List ℕ). length ks) last.is ∙ length-append last.earlier (last.last ∷ []) in omega (arith, many));
    tree = ap (λ (s : Standing). s.tree) (at_later (length front) (omega (arith, long)))
        ∙ sym (stood front p was (length front) (omega arith)) ∙ sym same_tree
        ∙ ap (λ (s : Standing). s.tree) (sym (stands front p was)) ∙ covers.covered settled last.earlier last.last last.is
        ∙ ap (λ (s : Standing). s.tree)
        (sym (at_later last.last (covers.early last.earlier last.last last.is)));
  }
    where
      next : List Placed
      next = front ++ p ∷ []

      was : Covers front
      was = along [] front begins

      covers : Covers next
      covers = goes_on front p was

      last : HasLast (own_places g on next)
      last = has_last (own_places g on next) some

      more : (later : List ℕ) × (own_places g on (next ++ rest) ≡ own_places g on next ++ later)
      more = places_more next rest

      long : length next ≡ length front + 1
      long = length-append front (p ∷ [])

      ask_is : (own_ask g on front p).ask ≡ ask_of g (at_end front) Sync p.at
      ask_is = (own_ask g on front p).asked Sync done called

      settled : (at_end next).space.changed ≡ false
      settled = ap (λ (s : Space). s.changed) (space_is front p was
          ∙ ap (space.after (rules g) (is_on g.mounted on (length front)) (at_end front).space) ask_is)
          ∙ unchanged (rules g) (is_on g.mounted on (length front)) (at_end front).space
          (sync_text g (at_end front) p.at) (at_end front).space.changed refl

      -- a sync leaves the tree
      same_tree : (after_placed g (is_on g.mounted on (length front)) (at_end front) p).tree ≡ (at_end front).tree
      same_tree = rw (done, called) refl

      at_later : (k : ℕ) → k ≤ length next → standing g on (front ++ p ∷ rest) k ≡ standing g on next k
      at_later k le = stands_on g on next (front ++ p ∷ rest) k
          (ap (λ (l : List Placed). take k l) (sym (append_assoc front (p ∷ []) rest)) ∙ take-append-le k next rest le)
