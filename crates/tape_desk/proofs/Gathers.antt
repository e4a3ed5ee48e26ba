-- How passes are gathered.
use Rattle.std.specs.Prelude.{ℕ, ◌≡◌, ◌<◌, ◌+◌, ◌-◌, ◌++◌, false, Contains, List, [], ◌∷◌, length, Option, Some, IfSome, filter_map, fold, slice_index_or}
use Rattle.std.proofs.Common.{refl, sym, ap, subst, ◌∙◌, append_assoc, append-nil, arith, length-append}
use Rattle.std.proofs.lemmas.List.{get_or_append_left, get_or_push, length_push}
use Rattle.std.proofs.lemmas.List.Elements.{Contains-append_left, Contains-append_right}
use mathlib.Core.Logic.{dite}
use native.Mathlib.Decide.{ℕ_discrete}
use Rattle.atomic_table.specs.Seated.{TableId}
use Rattle.session_script.specs.Sessions.{greatest_session}
use Rattle.session_script.specs.declared.logs.Reply.{Reply}
use Rattle.turn_lock.specs.Histories.{Sees}
use Rattle.turn_lock.specs.Passes.{PassView, joined}
use Rattle.tape_drive.specs.declared.drive.Drive.{Ghosts}
use Rattle.promises.specs.ServingPromise.Marks.{NothingWaits, after, hand_in, idle, kinds_of, phase}
use Rattle.promises.specs.declared.serving_promise.marks.Mark.{Mark}
use Rattle.tape_desk.specs.Held.{Constants, HeldView, constants}
use Rattle.tape_desk.specs.Passes.{AreAll, ArePartsOf, DeskView, IsHeld, IsPartOf, view_of}
use Rattle.tape_desk.specs.Promised.{IsPromised}
use Rattle.tape_desk.specs.Gathering.{HasGathered, IsPassOf, IsWithin, TakesIn}
use Rattle.tape_desk.proofs.Own.{has_own, kinds_known, who_of}

if_some : {X : Type 0} (P : X → Type 0) (o : Option X) (x : X) → o ≡ Some x → IfSome o P → P x
if_some {X} P o x is h = subst (λ (q : Option X). IfSome q P) is h

abbrev Whole : Type 0 → Type 0 → Type 0
Whole D K = PassView Mark (Constants D K)

module _ {D K : Type 0} where
  -- a pass that a session has is the lock's
  pub is_pass : (pass : Whole D K) (who placed count : ℕ) (p : DeskView D K) → IsHeld pass who placed count
      → view_of pass who placed ≡ p → IsPassOf p pass
  is_pass pass who placed count p held is = subst (λ (q : DeskView D K). IsPassOf q pass) is record {
    view = refl;
    out = held.out;
    own = held.own;
    rested = held.rested;
  }

  -- ---- one pass is taken in

  module _ (p : DeskView D K) (old other new : Whole D K) (of : IsPassOf p other) (is : new ≡ joined old other)
      (out : old.in_turn ≡ false) (sees : Sees who_of old.seats old.numbers old.seen new.seen)
      (sees_other : Sees who_of old.seats other.numbers other.seen new.seen) (same : other.fixed ≡ old.fixed) where
    numbers_are : new.numbers ≡ old.numbers ++ other.numbers
    numbers_are = ap (λ (w : Whole D K). w.numbers) is

    fixed_is : new.fixed ≡ old.fixed
    fixed_is = ap (λ (w : Whole D K). w.fixed) is

    seen_is : p.seen ≡ other.seen
    seen_is = ap (λ (q : DeskView D K). q.seen) of.view

    keeps : (q : DeskView D K) → IsWithin q old → IsWithin q new
    keeps q within = record {
      rested = within.rested;
      fixed = within.fixed ∙ sym fixed_is;
      number = subst (λ (ns : List ℕ). Contains ns q.who) (sym numbers_are)
          (Contains-append_left old.numbers other.numbers q.who within.number);
      begins = (
        within.begins.0 ++ sees.later,
        sym (append_assoc q.seen within.begins.0 sees.later)
            ∙ ap (λ (ms : List Mark). ms ++ sees.later) within.begins.1 ∙ sees.begins,
      );
      own = kinds_known old.seats q.who old.numbers old.seen new.seen within.number sees ∙ within.own;
    }

    taken : IsWithin p new
    taken = record {
      rested = of.rested;
      fixed = ap (λ (q : DeskView D K). q.fixed) of.view ∙ same ∙ sym fixed_is;
      number = subst (λ (ns : List ℕ). Contains ns p.who) (sym numbers_are)
          (Contains-append_right old.numbers other.numbers p.who (has_own p.who other.numbers of.own));
      begins = (sees_other.later, ap (λ (ms : List Mark). ms ++ sees_other.later) seen_is ∙ sees_other.begins);
      own = kinds_known old.seats p.who other.numbers other.seen new.seen (has_own p.who other.numbers of.own) sees_other
          ∙ ap (kinds_of p.who) (sym seen_is);
    }

    -- a pass that is joined is taken in
    pub takes_in : TakesIn p old new
    takes_in = record {
      lock = ap (λ (w : Whole D K). w.lock) is;
      seats = ap (λ (w : Whole D K). w.seats) is;
      out = ap (λ (w : Whole D K). w.in_turn) is ∙ out;
      one_more =
          let sum : length new.numbers ≡ length (old.numbers ++ other.numbers) = ap length numbers_are in
          let one : length other.numbers ≡ 1 = ap length of.own in
          omega (arith, sum, one, length-append old.numbers other.numbers);
      taken = taken;
      keeps = keeps;
    }

  -- ---- the passes that are left, and those that were taken in

  -- the passes that are left, and those that were taken in, are all
  pub still_all : (ps left rest tail : List (DeskView D K)) (x : DeskView D K) → left ≡ rest ++ x ∷ [] → left ++ tail ≡ ps
      → (rest ++ x ∷ []) ++ tail ≡ ps
  still_all ps left rest tail x is all = ap (λ (qs : List (DeskView D K)). qs ++ tail) (sym is) ∙ all

  module _ (ps rest tail : List (DeskView D K)) (x : DeskView D K) (all : (rest ++ x ∷ []) ++ tail ≡ ps) where
    pub is_at : (p : DeskView D K) → slice_index_or ps (length rest) p ≡ x
    is_at p =
        ap (λ (qs : List (DeskView D K)). slice_index_or qs (length rest) p) (sym all)
        ∙ get_or_append_left (rest ++ x ∷ []) tail p (length rest) (omega (arith, length_push rest x))
        ∙ get_or_push rest x p (length rest) refl

    -- fewer passes are left than there are
    pub inside : length rest < length ps
    inside =
        let sum : length ((rest ++ x ∷ []) ++ tail) ≡ length ps = ap length all in
        omega (arith, sum, length-append (rest ++ x ∷ []) tail, length_push rest x)

    module _ (lock : TableId) (every : AreAll lock ps) where
      -- the pass that is taken in is of the same lock
      pub lock_is : x.lock ≡ lock
      lock_is = ap (λ (p : DeskView D K). p.lock) (sym (is_at x)) ∙ (every.1 (length rest) x inside).0

      sessions_are : x.sessions ≡ length ps
      sessions_are = ap (λ (p : DeskView D K). p.sessions) (sym (is_at x)) ∙ (every.1 (length rest) x inside).2

      -- the last pass is the first that is taken
      pub first_gathered : (whole : Whole D K) → tail ≡ [] → IsPassOf x whole → HasGathered lock ps (length rest) whole
      first_gathered whole none of = record {
        lock_is = sym (ap (λ (p : DeskView D K). p.lock) of.view) ∙ lock_is;
        seats = sym (ap (λ (p : DeskView D K). p.sessions) of.view) ∙ sessions_are;
        out = of.out;
        many = omega (arith, long, one);
        each = λ k p low high.
            let here : length rest ≡ k = omega (arith, low, high, long) in
            subst (λ (q : DeskView D K). IsWithin q whole)
            (sym (is_at p) ∙ ap (λ (j : ℕ). slice_index_or ps j p) here) itself;
      } where
        one : length whole.numbers ≡ 1
        one = ap length of.own

        long : length ps ≡ length rest + 1
        long =
            let sum : length ((rest ++ x ∷ []) ++ tail) ≡ length ps = ap length all in
            let no : length tail ≡ 0 = ap length none in
            omega (arith, sum, no, length-append (rest ++ x ∷ []) tail, length_push rest x)

        itself : IsWithin x whole
        itself = record {
          rested = of.rested;
          fixed = ap (λ (p : DeskView D K). p.fixed) of.view;
          number = has_own x.who whole.numbers of.own;
          begins = ([], append-nil x.seen ∙ ap (λ (p : DeskView D K). p.seen) of.view);
          own = ap (kinds_of x.who) (sym (ap (λ (p : DeskView D K). p.seen) of.view));
        }

      -- one pass more is taken in
      pub next_gathered : (n : ℕ) (old new : Whole D K) → n ≡ length rest + 1 → HasGathered lock ps n old → TakesIn x old new
          → HasGathered lock ps (length rest) new
      next_gathered n old new next has takes = record {
        lock_is = takes.lock ∙ has.lock_is;
        seats = takes.seats ∙ has.seats;
        out = takes.out;
        many = let sum = has.many in let one = takes.one_more in omega (arith, sum, one, next);
        each = λ k p low high. dite (ℕ_discrete (length rest) k)
            (λ here. subst (λ (q : DeskView D K). IsWithin q new)
            (sym (is_at p) ∙ ap (λ (j : ℕ). slice_index_or ps j p) here) takes.taken)
            (λ ne. takes.keeps (slice_index_or ps k p) (has.each k p (omega (arith, low, ne, next)) high));
      }

  -- ---- all are taken in

  module _ (drive : Ghosts D) (lock : TableId) (ps : List (DeskView D K)) (whole : Whole D K) (h : HeldView D K)
      (every : AreAll lock ps) (has : HasGathered lock ps 0 whole) (promised : IsPromised drive h.volume)
      (marks_are : h.volume.marks ≡ whole.seen) (fixed_is : whole.fixed ≡ Some (constants h)) where
    pub all_numbers : length whole.numbers ≡ whole.seats
    all_numbers = let many = has.many in let seats = has.seats in omega (arith, many, seats)

    part : (p : DeskView D K) → IsWithin p whole → IsPartOf p h
    part p within = record {
      fixed = within.fixed ∙ fixed_is;
      begins = (within.begins.0, within.begins.1 ∙ sym marks_are);
      own = own;
      kept = λ place reply at. promised.served.orderly.marks.hands p.who place reply
          (subst (λ (hands : List (ℕ × Reply)). Contains hands (place, reply))
          (ap (filter_map hand_in) (sym own)) at);
    } where
      own : kinds_of p.who h.volume.marks ≡ kinds_of p.who p.seen
      own = ap (kinds_of p.who) marks_are ∙ within.own

    -- once all passes are gathered, each is part of the volume
    pub are_parts : ArePartsOf ps h
    are_parts k p within = part (slice_index_or ps k p) (has.each k p (omega arith) within)

    some : DeskView D K
    some = view_of whole 0 0

    as_many : length ps ≡ greatest_session h.volume.fixed.script
    as_many =
        let first = has.each 0 some (omega arith) (let many = every.0 in omega (arith, many)) in
        sym (every.1 0 some (let many = every.0 in omega (arith, many))).2
        ∙ if_some (λ (f : Constants D K). (slice_index_or ps 0 some).sessions ≡ greatest_session f.volume.script)
        (slice_index_or ps 0 some).fixed (constants h) (first.fixed ∙ fixed_is) first.rested.sessions

    -- once all passes are gathered, nothing waits
    pub nothing_waits : NothingWaits (greatest_session h.volume.fixed.script) h.volume.marks
    nothing_waits who from to =
        let k : ℕ = who - 1 in
        let within : k < length ps = omega (arith, from, to, as_many) in
        let one = has.each k some (omega arith) within in
        let p : DeskView D K = slice_index_or ps k some in
        let is : p.who ≡ who = (every.1 k some within).1 ∙ (let same : k + 1 ≡ who = omega (arith, from) in same) in
        subst (λ (w : ℕ). phase w h.volume.marks ≡ idle) is
        (ap (fold after idle) (ap (kinds_of p.who) marks_are ∙ one.own) ∙ one.rested.rests)
