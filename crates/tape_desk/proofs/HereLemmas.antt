-- The reply of the next line is here: it wasn't handed out before the turn.
use Rattle.std.specs.Prelude.{◌≡◌, ◌==◌, ◌||◌, ◌&&◌, ◌++◌, ℕ, ◌≤◌, Bool, true, false, not, cond, List, [], ◌∷◌, map, filter_map, Contains, Option, Some, None, option_map, IfNone, IfSome, slice_get}
use Rattle.std.proofs.Common.{refl, sym, ap, subst, ◌∙◌, arith, true≢false}
use Rattle.std.proofs.lemmas.Bool.{eq-eqb, eqb-true}
use Rattle.std.proofs.lemmas.Option.{none-some}
use Rattle.tape_edge.specs.declared.traits.Sink as sinks
use Rattle.tape_drive.specs.declared.drive.Drive.{Ghosts}
use Rattle.session_script.specs.declared.logs.Reply.{Reply}
use Rattle.line_printer.specs.Printing.{IsOver, PrinterView}
use Rattle.event_journal.specs.LetGo.{MayBeGoneAt, is_hand_of, is_past, is_past_by, was_handed}
use Rattle.event_journal.specs.Placements.{there}
use Rattle.event_journal.proofs.LetGoLemmas.{past_before}
use Rattle.promises.specs.ServingPromise.Marks.{hand_in, hands_of, kinds_of, mark}
use Rattle.promises.specs.ServingPromise.Served.{View}
use Rattle.promises.specs.declared.serving_promise.answers.Drained.{Drained}
use Rattle.promises.specs.declared.serving_promise.answers.Drained.TheVariants as drained
use Rattle.promises.specs.declared.serving_promise.answers.Submitted.{Submitted}
use Rattle.promises.specs.declared.serving_promise.answers.Submitted.TheVariants as submitted
use Rattle.promises.specs.declared.serving_promise.answers.Turn.{Turn}
use Rattle.promises.specs.declared.serving_promise.answers.Turn.TheVariants as turns
use Rattle.promises.specs.declared.serving_promise.marks.Mark.{Mark}
use Rattle.promises.specs.declared.serving_promise.marks.MarkKind.{MarkKind}
use Rattle.promises.specs.declared.serving_promise.marks.MarkKind.TheVariants as kinds
use Rattle.promises.proofs.ReplyLaws.Lists.{in_first, in_rest}
use Rattle.tape_desk.specs.Printed.{IsHereFrom, IsPrinted}
use Rattle.tape_desk.specs.Promised.{IsPromised}
use Rattle.tape_desk.specs.Turns.{kinds_of_drain, kinds_of_submit, kinds_of_turn}

-- ---- what was handed out

more_kind : (kind : MarkKind) (later : List MarkKind) (x : ℕ × Reply) → Contains (filter_map hand_in later) x
    → Contains (filter_map hand_in (kind ∷ later)) x
more_kind (kinds.Places place) later x has = has
more_kind (kinds.Hands place reply) later x has = in_rest (place, reply) (filter_map hand_in later) x has
more_kind kinds.Begins later x has = has
more_kind kinds.Rests later x has = has

kinds_first : (w : ℕ) (m : Mark) (marks : List Mark) (b : Bool) → (m.who == w) ≡ b
    → kinds_of w (m ∷ marks) ≡ cond b (m.kind ∷ kinds_of w marks) (kinds_of w marks)
kinds_first w m marks true is = rw is refl
kinds_first w m marks false is = rw is refl

still_in : (w : ℕ) (m : Mark) (marks : List Mark) (x : ℕ × Reply) → Contains (hands_of w marks) x
    → Contains (hands_of w (m ∷ marks)) x
still_in w m marks x has = by (m.who == w) refl
  where
    by : (b : Bool) → (m.who == w) ≡ b → Contains (hands_of w (m ∷ marks)) x
    by true is = subst (λ (ks : List MarkKind). Contains (filter_map hand_in ks) x) (sym (kinds_first w m marks true is))
        (more_kind m.kind (kinds_of w marks) x has)
    by false is = subst (λ (ks : List MarkKind). Contains (filter_map hand_in ks) x) (sym (kinds_first w m marks false is)) has

hand_kind : (k : ℕ) (kind : MarkKind) → is_hand_of k kind ≡ true → (reply : Reply) × (kind ≡ kinds.Hands k reply)
hand_kind k (kinds.Places place) never = absurd (true≢false (sym never))
hand_kind k (kinds.Hands place reply) is = (reply, ap (λ n. kinds.Hands n reply) (eqb-true place k is))
hand_kind k kinds.Begins never = absurd (true≢false (sym never))
hand_kind k kinds.Rests never = absurd (true≢false (sym never))

-- a reply that was handed out is one of its session's
handed_in : (k : ℕ) (marks : List Mark) → was_handed k marks ≡ true
    → (who : ℕ) × (reply : Reply) × Contains (hands_of who marks) (k, reply)
handed_in k [] never = absurd (true≢false (sym never))
handed_in k (m ∷ marks) is = by (is_hand_of k m.kind) refl is (λ later. handed_in k marks later)
  where
    by : (b : Bool) → is_hand_of k m.kind ≡ b → (b || was_handed k marks) ≡ true
        → (was_handed k marks ≡ true → (who : ℕ) × (reply : Reply) × Contains (hands_of who marks) (k, reply))
        → (who : ℕ) × (reply : Reply) × Contains (hands_of who (m ∷ marks)) (k, reply)
    by true first is rest =
        let h = hand_kind k m.kind first in
        let whole : kinds_of m.who (m ∷ marks) ≡ kinds.Hands k h.0 ∷ kinds_of m.who marks =
        kinds_first m.who m marks true (eq-eqb m.who m.who refl)
        ∙ ap (λ (kind : MarkKind). kind ∷ kinds_of m.who marks) h.1 in (
          m.who,
          h.0,
          subst (λ (ks : List MarkKind). Contains (filter_map hand_in ks) (k, h.0)) (sym whole)
              (in_first (k, h.0) (filter_map hand_in (kinds_of m.who marks))),
        )
    by false first is rest =
        let h = rest is in (h.0, h.1, still_in h.0 m marks (k, h.1) h.2)

-- ---- what a turn adds

from_nothing : (h : Bool) → (h || false) ≡ true → h ≡ true
from_nothing true is = refl
from_nothing false is = is

-- of these alone what was handed out before is past
abbrev OnlyBefore : ℕ → List Mark → Type 0
OnlyBefore k added = (handed : Bool) → is_past_by handed k added ≡ true → handed ≡ true

submit_before : (k who here : ℕ) (answer : Submitted) → OnlyBefore k (map (mark who) (kinds_of_submit here answer))
submit_before k who here (submitted.Ready reply) handed is = from_nothing handed is
submit_before k who here (submitted.Wait ticket) handed is = from_nothing handed is
submit_before k who here submitted.Drain handed never = absurd (true≢false (sym never))

turn_before : (k who ticket : ℕ) (answer : Turn) → OnlyBefore k (map (mark who) (kinds_of_turn ticket answer))
turn_before k who ticket (turns.Ready reply) handed never = absurd (true≢false (sym never))
turn_before k who ticket turns.More handed never = absurd (true≢false (sym never))

drain_before : (k who here : ℕ) (answer : Drained) → OnlyBefore k (map (mark who) (kinds_of_drain here answer))
drain_before k who here drained.Room handed never = absurd (true≢false (sym never))
drain_before k who here drained.More handed never = absurd (true≢false (sym never))
drain_before k who here (drained.Fault counts) handed is = from_nothing handed is

-- ---- the next line

module _ {D K : Type 0} (drive : Ghosts D) (sink : sinks.Ghosts K) (printer : PrinterView K) (old : View D)
    (kept : IsPromised drive old) (printed : IsPrinted sink old printer) (loud : printer.quiet ≡ false)
    (sound : printer.broken ≡ false) where
  -- its reply was not handed out, as it wasn't there
  not_handed : was_handed printer.lines old.marks ≡ true → ⊥
  not_handed is =
      let h = handed_in printer.lines old.marks is in
      none-some h.1 (sym (printed.out loud sound)
      ∙ ap there (kept.served.orderly.marks.hands h.0 printer.lines h.1 h.2))

  next_here : (marks more : List Mark) → marks ≡ old.marks ++ more → OnlyBefore printer.lines more
      → is_past printer.lines marks ≡ false
  next_here marks more added none = by (is_past printer.lines marks) refl
    where
      by : (b : Bool) → is_past printer.lines marks ≡ b → b ≡ false
      by true is = absurd (not_handed (past_before printer.lines old.marks more none
          (subst (λ (ms : List Mark). is_past printer.lines ms ≡ true) added is)))
      by false is = refl

  -- behind a submission, and behind a turn of a session that waits or drains, the reply of the next line is here
  pub submit_here : (marks : List Mark) (who here : ℕ) (answer : Submitted)
      → marks ≡ old.marks ++ map (mark who) (kinds_of_submit here answer) → is_past printer.lines marks ≡ false
  submit_here marks who here answer added =
      next_here marks (map (mark who) (kinds_of_submit here answer)) added (submit_before printer.lines who here answer)

  pub turn_here : (marks : List Mark) (who ticket : ℕ) (answer : Turn)
      → marks ≡ old.marks ++ map (mark who) (kinds_of_turn ticket answer) → is_past printer.lines marks ≡ false
  turn_here marks who ticket answer added =
      next_here marks (map (mark who) (kinds_of_turn ticket answer)) added (turn_before printer.lines who ticket answer)

  pub drain_here : (marks : List Mark) (who here : ℕ) (answer : Drained)
      → marks ≡ old.marks ++ map (mark who) (kinds_of_drain here answer) → is_past printer.lines marks ≡ false
  drain_here marks who here answer added =
      next_here marks (map (mark who) (kinds_of_drain here answer)) added (drain_before printer.lines who here answer)

-- ---- a printer that is open

open_parts : (quiet broken : Bool) → (not quiet && not broken) ≡ true → (quiet ≡ false) × (broken ≡ false)
open_parts true broken never = absurd (true≢false (sym never))
open_parts false true never = absurd (true≢false (sym never))
open_parts false false is = (refl, refl)

module _ {K : Type 0} (old now : PrinterView K) (broken : old.broken ≡ true → now.broken ≡ true) (o : Bool)
    (o_is : o ≡ (not now.quiet && not now.broken)) (is : o ≡ true) where
  is_open_now : (now.quiet ≡ false) × (now.broken ≡ false)
  is_open_now = open_parts now.quiet now.broken (sym o_is ∙ is)

  was_sound : old.broken ≡ false
  was_sound = by old.broken refl
    where
      by : (b : Bool) → old.broken ≡ b → b ≡ false
      by true was = absurd (true≢false (sym (broken was) ∙ is_open_now.1))
      by false was = refl

-- one that is open now hadn't failed before
pub still_sound : {K : Type 0} (old now new : PrinterView K) → (old.broken ≡ true → now.broken ≡ true) → (o : Bool)
    → o ≡ (not now.quiet && not now.broken) → o ≡ true → old.broken ≡ true → new.broken ≡ true
still_sound old now new broken o o_is is was = absurd (true≢false (sym was ∙ was_sound old now broken o o_is is))

-- while it is open, no reply from the next line on is gone
pub here_from : {K : Type 0} (old now : PrinterView K) (marks : List Mark) (place : ℕ)
    → (old.quiet ≡ false → old.broken ≡ false → is_past old.lines marks ≡ false) → IsOver old now
    → old.lines ≤ now.lines → (old.broken ≡ true → now.broken ≡ true) → place ≡ now.lines → (o : Bool)
    → o ≡ (not now.quiet && not now.broken) → o ≡ true → IsHereFrom place marks
here_from old now marks place here over later broken place_is o o_is is = record {
  k = old.lines;
  within = omega (arith, later, place_is);
  here = here (sym over.quiet ∙ (is_open_now old now broken o o_is is).0) (was_sound old now broken o o_is is);
}

-- ---- a reply that is here

-- what is found at a place behind which a reply isn't past is what stands there
pub reply_is : {X : Type 0} (o : Option X) (now : X → Reply) (place : ℕ) (told : List (Option Reply)) (marks : List Mark)
    → IsHereFrom place marks → IfSome o (λ r. slice_get told place ≡ Some (Some (now r)))
    → IfNone o (MayBeGoneAt place told marks) → option_map now o ≡ there (slice_get told place)
reply_is (Some r) now place told marks here some none = sym (ap there some)
reply_is None now place told marks here some none = by (slice_get told place) refl
  where
    by : (o : Option (Option Reply)) → slice_get told place ≡ o → None ≡ there o
    by None is = refl
    by (Some None) is = refl
    by (Some (Some reply)) is =
        absurd (true≢false (sym ((none reply is).past here.k here.within) ∙ here.here))
