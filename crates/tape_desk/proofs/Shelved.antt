-- What is promised of a volume stays so over each of its calls, and the call's marks are those of its session.
use Rattle.std.specs.Prelude.{◌≡◌, ℕ, List, [], ◌∷◌, ◌++◌, length, map, slice_get, Option, Some}
use Rattle.std.proofs.Common.{refl, sym, ap, ◌∙◌, subst, arith, append-nil}
use Rattle.std.proofs.lemmas.List.{length_push}
use Rattle.tape_drive.specs.declared.drive.Drive.{Ghosts}
use Rattle.tape_edge.specs.declared.traits.Sink as sinks
use Rattle.plain_tree.specs.declared.calls.Fate.{Fate}
use Rattle.session_script.specs.declared.logs.Reply.{Reply}
use Rattle.promises.specs.ServingPromise.Ends.{begun}
use Rattle.promises.specs.ServingPromise.Marks.{draining, mark, marks_of_drain, marks_of_submit, marks_of_turn, phase, waits}
use Rattle.promises.specs.ServingPromise.Meanings.{cartridges}
use Rattle.promises.specs.ServingPromise.Served.{Drive, IsServed, View}
use Rattle.promises.specs.ServingPromise.Steps.{DrainsOnce, KeepsReplies, OnlyAnswers, Turns}
use Rattle.promises.specs.ServingPromise.Submits.{CanSubmit, Places, Submits}
use Rattle.promises.specs.declared.serving_promise.answers.Drained.{Drained}
use Rattle.promises.specs.declared.serving_promise.answers.Drained.TheVariants as drained
use Rattle.promises.specs.declared.serving_promise.answers.Submitted.{Submitted}
use Rattle.promises.specs.declared.serving_promise.answers.Submitted.TheVariants as submitted
use Rattle.promises.specs.declared.serving_promise.answers.Turn.{Turn}
use Rattle.promises.specs.declared.serving_promise.answers.Turn.TheVariants as turns
use Rattle.promises.specs.OrderLaws.Kept.{seen}
use Rattle.run_laws.specs.LogLaws.Acts.{IsGone, Moves}
use Rattle.run_laws.specs.LogLaws.Laws.{LogsGoOn}
use Rattle.run_laws.specs.LogLaws.Logged.{IsLogged}
use Rattle.promises.specs.declared.serving_promise.marks.MarkKind.{MarkKind}
use Rattle.line_printer.specs.Printing.{IsOver, PrinterView}
use Rattle.tape_desk.specs.Held.{HasAdded, HeldView}
use Rattle.tape_desk.specs.Printed.{IsTakenTo}
use Rattle.tape_desk.specs.Promised.{IsPromised}
use Rattle.tape_desk.specs.Turns.{kinds_of_drain, kinds_of_submit, kinds_of_turn}
use Rattle.tape_desk.proofs.Prints.{stands_in_front, taken_stays}

-- ---- the marks of an answer

submit_marks : (who here : ℕ) (answer : Submitted) → marks_of_submit who here answer ≡ map (mark who) (kinds_of_submit here answer)
submit_marks who here (submitted.Ready reply) = refl
submit_marks who here (submitted.Wait ticket) = refl
submit_marks who here submitted.Drain = refl

turn_marks : (who ticket : ℕ) (answer : Turn) → marks_of_turn who ticket answer ≡ map (mark who) (kinds_of_turn ticket answer)
turn_marks who ticket (turns.Ready reply) = refl
turn_marks who ticket turns.More = refl

drain_marks : (who here : ℕ) (answer : Drained) → marks_of_drain who here answer ≡ map (mark who) (kinds_of_drain here answer)
drain_marks who here drained.Room = refl
drain_marks who here drained.More = refl
drain_marks who here (drained.Fault counts) = refl

module _ {D : Type 0} (old new : View D) (who : ℕ) where
  -- a submission adds the marks of its session
  pub submit_more : (first now : Drive) (nth : ℕ) (answer : Submitted) → Submits first now old new who nth answer
      → new.marks ≡ old.marks ++ map (mark who) (kinds_of_submit (length old.history) answer)
  submit_more first now nth answer s = s.marks ∙ ap (λ l. old.marks ++ l) (submit_marks who (length old.history) answer)

  -- a turn of a session that waits adds the marks of that session
  pub turn_more : (most : ℕ) (before now : Drive) (ticket : ℕ) (answer : Turn) → Turns most before now old new who ticket answer
      → new.marks ≡ old.marks ++ map (mark who) (kinds_of_turn ticket answer)
  turn_more most before now ticket answer s = s.marks ∙ ap (λ l. old.marks ++ l) (turn_marks who ticket answer)

  -- a turn of a session that drains adds the marks of that session
  pub drain_more : (most : ℕ) (before now : Drive) (answer : Drained) → DrainsOnce most before now old new who answer
      → new.marks ≡ old.marks ++ map (mark who) (kinds_of_drain (length old.history) answer)
  drain_more most before now answer s = s.marks ∙ ap (λ l. old.marks ++ l) (drain_marks who (length old.history) answer)

-- ---- as many replies as placements

one_more : {X Y : Type 0} (xs xs' : List X) (ys ys' : List Y) (x : X) (y : Y) → length xs ≡ length ys
    → xs' ≡ xs ++ x ∷ [] → ys' ≡ ys ++ y ∷ [] → length xs' ≡ length ys'
one_more xs xs' ys ys' x y same more longer =
    omega (arith, same, ap length more, ap length longer, length_push xs x, length_push ys y)

module _ {D : Type 0} (old new : View D) (count : length old.replies ≡ length old.history) where
  placed : {who nth : ℕ} {fate : Fate} {reply : Option Reply} → Places old new who nth fate reply
      → length new.replies ≡ length new.history
  placed {reply = reply} p =
      one_more old.replies new.replies old.history new.history reply p.placed count p.replies p.history

  answered : OnlyAnswers old new → length new.replies ≡ length new.history
  answered only = only.replies.count ∙ count ∙ sym (ap length only.history)

  submitted_count : (first now : Drive) (who nth : ℕ) (answer : Submitted) → Submits first now old new who nth answer
      → length new.replies ≡ length new.history
  submitted_count first now who nth (submitted.Ready reply) s = placed s.placing
  submitted_count first now who nth (submitted.Wait ticket) s = placed s.placing.1
  submitted_count first now who nth submitted.Drain s =
      let p = s.placing in ap length p.replies ∙ count ∙ sym (ap length p.history)

  drained_count : (most : ℕ) (before now : Drive) (who : ℕ) (answer : Drained) → DrainsOnce most before now old new who answer
      → length new.replies ≡ length new.history
  drained_count most before now who drained.Room s = answered s.answered.2
  drained_count most before now who drained.More s = answered s.answered.3
  drained_count most before now who (drained.Fault counts) s = placed s.answered.1

-- ---- what was printed

module _ {D K : Type 0} (sink : sinks.Ghosts K) (printer : PrinterView K) (old new : View D)
    (count : length old.replies ≡ length old.history) (taken : IsTakenTo sink old.history old.replies printer) where
  abbrev Taken : Type 0
  Taken = IsTakenTo sink new.history new.replies printer

  behind : {who nth : ℕ} {fate : Fate} {reply : Option Reply} → Places old new who nth fate reply → Taken
  behind {reply = reply} p = taken_stays sink printer old.history new.history (p.placed ∷ []) old.replies new.replies count p.history
      (λ k t at. subst (λ (l : List (Option Reply)). slice_get l k ≡ Some (Some t)) (sym p.replies)
      (stands_in_front old.replies (reply ∷ []) k (Some t) at))
      taken

  still : new.history ≡ old.history → KeepsReplies old new → Taken
  still same keeps = taken_stays sink printer old.history new.history [] old.replies new.replies count
      (same ∙ sym (append-nil old.history)) keeps.each taken

  -- what was printed stays so over a submission
  pub submit_taken : (first now : Drive) (who nth : ℕ) (answer : Submitted) → Submits first now old new who nth answer → Taken
  submit_taken first now who nth (submitted.Ready reply) s = behind s.placing
  submit_taken first now who nth (submitted.Wait ticket) s = behind s.placing.1
  submit_taken first now who nth submitted.Drain s = still s.placing.history record {
    count = ap length s.placing.replies;
    each = λ k t at. subst (λ (l : List (Option Reply)). slice_get l k ≡ Some (Some t)) (sym s.placing.replies) at;
  }

  -- over a turn of a session that waits
  pub turn_taken : (most : ℕ) (before now : Drive) (who ticket : ℕ) (answer : Turn)
      → Turns most before now old new who ticket answer → Taken
  turn_taken most before now who ticket answer s = still s.history s.replies

  -- and over a turn of a session that drains
  pub drain_taken : (most : ℕ) (before now : Drive) (who : ℕ) (answer : Drained)
      → DrainsOnce most before now old new who answer → Taken
  drain_taken most before now who drained.Room s = still s.answered.2.history s.answered.2.replies
  drain_taken most before now who drained.More s = still s.answered.3.history s.answered.3.replies
  drain_taken most before now who (drained.Fault counts) s = behind s.answered.1

-- ---- what is promised

-- It is so of a volume of which nothing was asked.
pub begun_keeps : {D : Type 0} (drive : Ghosts D) (v : View D) → LogsGoOn drive cartridges → v ≡ begun v.fixed v.next
    → IsServed cartridges (seen drive v.fixed.first) (seen drive v.drive) v → IsPromised drive v
begun_keeps {D} drive v law is served = record {
  served = served;
  logged = subst (λ (w : View D). IsLogged cartridges (seen drive v.fixed.first) w) (sym is)
      (law.begins v.fixed v.next);
  gone = subst (λ (w : View D). IsGone drive cartridges w) (sym is)
      (law.gone_begins v.fixed v.next
      (subst (λ (w : View D). IsServed cartridges (seen drive w.fixed.first) (seen drive w.drive) w) is served));
  count = ap (λ (w : View D). length w.replies) is ∙ sym (ap (λ (w : View D). length w.history) is);
}

module _ {D : Type 0} (drive : Ghosts D) (law : LogsGoOn drive cartridges) (who : ℕ) (old new : View D)
    (kept : IsPromised drive old)
    (served : IsServed cartridges (seen drive new.fixed.first) (seen drive new.drive) new) where
  -- after a submission all is promised as before
  pub submit_keeps : (nth : ℕ) (answer : Submitted) → CanSubmit old who nth
      → Submits (seen drive old.fixed.first) (seen drive new.drive) old new who nth answer → IsPromised drive new
  submit_keeps nth answer can s = record {
    served = served;
    logged = law.submitted old new who nth answer kept.served served can s kept.logged;
    gone = law.moved old new served (law.submission_moves old new who nth answer s) kept.gone;
    count = submitted_count old new kept.count (seen drive old.fixed.first) (seen drive new.drive) who nth answer s;
  }

  -- after a turn of a session that waits all is promised as before
  pub turn_keeps : (ticket : ℕ) (answer : Turn) → phase who old.marks ≡ waits ticket
      → Turns drive.MOST (seen drive old.drive) (seen drive new.drive) old new who ticket answer → Moves drive old new
      → IsPromised drive new
  turn_keeps ticket answer waiting s moves = record {
    served = served;
    logged = law.turned old new who ticket answer kept.served served waiting s kept.logged;
    gone = law.moved old new served moves kept.gone;
    count = s.replies.count ∙ kept.count ∙ sym (ap length s.history);
  }

  -- after a turn of a session that drains all is promised as before
  pub drain_keeps : (answer : Drained) → phase who old.marks ≡ draining
      → DrainsOnce drive.MOST (seen drive old.drive) (seen drive new.drive) old new who answer → Moves drive old new
      → IsPromised drive new
  drain_keeps answer drains s moves = record {
    served = served;
    logged = law.drained old new who answer kept.served served drains s kept.logged;
    gone = law.moved old new served moves kept.gone;
    count = drained_count old new kept.count drive.MOST (seen drive old.drive) (seen drive new.drive) who answer s;
  }

-- ---- what a call adds

-- what was added to what is inside was added to what is shown of it
pub added_in : {D K : Type 0} (who : ℕ) (kinds : ℕ → List MarkKind) (inside old new : HeldView D K) → inside ≡ old
    → HasAdded who (kinds (length inside.volume.history)) inside new → HasAdded who (kinds (length old.volume.history)) old new
added_in {D} {K} who kinds inside old new is =
    subst (λ (h : HeldView D K). HasAdded who (kinds (length h.volume.history)) h new) is

-- a call adds these marks, and what stays stays
pub has_added : {D K : Type 0} (who : ℕ) (kinds : ℕ → List MarkKind) (inside old new : HeldView D K) → inside ≡ old
    → new.volume.marks ≡ inside.volume.marks ++ map (mark who) (kinds (length inside.volume.history))
    → new.volume.fixed ≡ inside.volume.fixed → IsOver inside.printer new.printer
    → HasAdded who (kinds (length old.volume.history)) old new
has_added who kinds inside old new is more stays over = added_in who kinds inside old new is record {
  marks = more;
  constants = λ i. record { volume = stays i; first = over.first i; quiet = over.quiet i };
}
