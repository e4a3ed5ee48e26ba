-- What a log tells beside its replies, over each call of a volume.
use Rattle.std.specs.Prelude.{◌≡◌, ℕ, false, List, [], ◌∷◌, ◌++◌, filter_map, length, Option, Some, None, slice_get}
use Rattle.std.specs.List.{list_any}
use Rattle.std.proofs.Common.{refl, sym, ap, ◌∙◌, subst}
use Rattle.std.proofs.lemmas.List.{append-nil}
use Rattle.tape_types.specs.declared.moments.Moment.{Moment}
use Rattle.tape_drive.specs.declared.drive.Drive.{Ghosts}
use Rattle.plain_tree.specs.declared.calls.Fate.{Fate}
use Rattle.plain_tree.specs.declared.calls.Fate.TheVariants as fates
use Rattle.plain_tree.specs.declared.calls.Placed.{Placed}
use Rattle.session_script.specs.Grammar.{calls_of}
use Rattle.session_script.specs.declared.logs.Event.{Event}
use Rattle.session_script.specs.declared.logs.Event.TheVariants as events
use Rattle.session_script.specs.declared.logs.Reply.{Reply}
use Rattle.cartridge_meaning.specs.Carried.{carried}
use Rattle.promises.specs.ServingPromise.Acks.{syncs_ticket}
use Rattle.promises.specs.ServingPromise.Asking.{AreOfReads, want_of}
use Rattle.promises.specs.ServingPromise.Crash.{Meaning}
use Rattle.promises.specs.ServingPromise.Ends.{begun}
use Rattle.promises.specs.ServingPromise.Headline.{IsOn}
use Rattle.promises.specs.ServingPromise.Served.{CanTell, Drive, Fixed, IsServed, IsTrue, View, given}
use Rattle.promises.specs.ServingPromise.Steps.{AreOfStep, DrainsOnce, Turns, on_after}
use Rattle.promises.specs.ServingPromise.Submits.{IsOfFate, Places, Submits, call_of, fate_for}
use Rattle.promises.specs.declared.serving_promise.answers.Drained.{Drained}
use Rattle.promises.specs.declared.serving_promise.answers.Drained.TheVariants as drained
use Rattle.promises.specs.declared.serving_promise.answers.Submitted.{Submitted}
use Rattle.promises.specs.declared.serving_promise.answers.Submitted.TheVariants as submitted
use Rattle.promises.specs.declared.serving_promise.answers.Turn.{Turn}
use Rattle.promises.specs.OrderLaws.Kept.{seen}
use Rattle.promises.specs.ReplyLaws.Asks.{AsksTruly}
use Rattle.promises.specs.ReplyLaws.Sides.{does_op}
use Rattle.promises.proofs.ReplyLaws.AskLaws.{drain_turns_ask_truly, steps_ask_nothing, turns_ask_truly}
use Rattle.promises.proofs.ReplyLaws.AskSubmits.{asking_begins, submissions_ask_truly}
use Rattle.promises.proofs.ReplyLaws.Asked.{GoesTo, goes_next, stays_there}
use Rattle.promises.proofs.ReplyLaws.Submitted.{submissions_do_none}
use Rattle.run_laws.specs.LogLaws.Laws.{LogsGoOn}
use Rattle.run_laws.specs.LogLaws.Logged.{IsAskedRightly, IsLogged}
use Rattle.run_laws.proofs.LogLaws.Asking.{submission_moves}
use Rattle.run_laws.proofs.LogLaws.Begun.{are_begun}
use Rattle.run_laws.proofs.LogLaws.Gone.{gone_begins, gone_holds, moved}
use Rattle.run_laws.proofs.LogLaws.OnLaw.{on_stays, on_steps, on_whole}
use Rattle.run_laws.proofs.LogLaws.ReadLaw.{reads_next, reads_stay}

-- ---- a volume and its parts

-- the drive told a cartridge at the start that reads as the tree
abbrev Tells : {D : Type 0} → Meaning → Fixed D → Drive → Type 0
Tells m fixed first =
    CanTell (λ c. m.Reads c (carried fixed.mounted.index) fixed.tree fixed.mounted.newest) fixed.since first

-- what is told of a volume that is true, and from where on files may go to the index partition
record TellsAll {D : Type 0} (first : Drive) (v : View D) : Type 0 where
  asks : AsksTruly first v
  on_is : IsOn (given v first) v.events v.history v.on

rightly : {D : Type 0} (first : Drive) (v : View D) → TellsAll first v
    → IsAskedRightly (given v first) v.on v.history v.events
rightly first v all = record {
  on_is = all.on_is;
  blocks = all.asks.needed;
  asked = all.asks.asked;
  groups = all.asks.grouped;
  drains = all.asks.put_off;
}

told : {D : Type 0} (m : Meaning) (first now : Drive) (v : View D) → IsServed m first now v → Tells m v.fixed first
    → IsLogged m first v → TellsAll first v
told m first now v served tells is =
    let all = is.truly tells in
    record {
      asks = record {
        of_reads = is.reads;
        needed = all.blocks;
        asked = all.asked;
        put_off = all.drains;
        grouped = all.groups;
        begun = are_begun (calls_of v.fixed.script) v.history v.events served.orderly.syncs;
      };
      on_is = all.on_is;
    }

reads_whole : {D : Type 0} (old new : View D) (history : List Placed) (trail : List Event) → new.fixed ≡ old.fixed
    → new.history ≡ history → new.events ≡ trail
    → AreOfReads (calls_of old.fixed.script) history trail
    → AreOfReads (calls_of new.fixed.script) new.history new.events
reads_whole old new history trail fixed is_history is_events are =
    let a = subst (λ f. AreOfReads (calls_of f.script) history trail) (sym fixed) are in
    let b = subst (λ h. AreOfReads (calls_of new.fixed.script) h trail) (sym is_history) a in
    subst (λ es. AreOfReads (calls_of new.fixed.script) new.history es) (sym is_events) b

-- what a call shows of the volume behind it
record Shows {D : Type 0} (first : Drive) (old new : View D) : Type 0 where
  reads : AreOfReads (calls_of old.fixed.script) old.history old.events
      → AreOfReads (calls_of new.fixed.script) new.history new.events
  truly : IsTrue first old → IsTrue first new → TellsAll first old → TellsAll first new

goes_on : {D : Type 0} (drive : Ghosts D) (m : Meaning) (old new : View D) → new.fixed ≡ old.fixed
    → IsServed m (seen drive old.fixed.first) (seen drive old.drive) old
    → IsServed m (seen drive new.fixed.first) (seen drive new.drive) new
    → Shows (seen drive old.fixed.first) old new → IsLogged m (seen drive old.fixed.first) old
    → IsLogged m (seen drive new.fixed.first) new
goes_on drive m old new fixed served serves shows is = record {
  reads = shows.reads is.reads;
  truly = λ tells.
      let tells_old = subst (λ f. Tells m f (seen drive f.first)) fixed tells in
      let true_new = subst (λ f. IsTrue (seen drive f.first) new) fixed (serves.truly tells) in
      let all = shows.truly (served.truly tells_old) true_new
      (told m (seen drive old.fixed.first) (seen drive old.drive) old served tells_old is) in
      rightly (seen drive new.fixed.first) new (subst (λ f. TellsAll (seen drive f.first) new) (sym fixed) all);
}

-- ---- the start

begins : {D : Type 0} (drive : Ghosts D) (m : Meaning) (fixed : Fixed D) (next : Option Moment)
    → IsLogged m (seen drive fixed.first) (begun fixed next)
begins drive m fixed next =
    let asks = asking_begins (seen drive) fixed.first (begun fixed next) refl refl in
    record {
      reads = asks.of_reads;
      truly = λ tells. rightly (seen drive fixed.first) (begun fixed next) (record { asks = asks; on_is = refl });
    }

-- ---- submissions

placed_reads : {D : Type 0} (first now : Drive) (old new : View D) (who nth : ℕ) (answer : Submitted) (fate : Fate)
    (last : Option Reply) → (s : Submits first now old new who nth answer)
    → Places old new who nth fate last → IsOfFate fate (length old.history) old.events (call_of old who nth) s.added
    → AreOfReads (calls_of old.fixed.script) old.history old.events
    → AreOfReads (calls_of new.fixed.script) new.history new.events
placed_reads first now old new who nth answer fates.Done last s pl of_it are =
    reads_whole old new (old.history ++ pl.placed ∷ []) (old.events ++ s.added) s.fixed pl.history s.adds.events
    (reads_next (given old first) old.history pl.placed old.events s.added (call_of old who nth) pl.fate_is
    (ap (λ w. slice_get (calls_of old.fixed.script w) pl.placed.nth) pl.who_is
    ∙ ap (λ n. slice_get (calls_of old.fixed.script who) n) pl.nth_is) of_it are)
placed_reads first now old new who nth answer fates.Void last s pl of_it are =
    reads_whole old new (old.history ++ pl.placed ∷ []) (old.events ++ s.added) s.fixed pl.history s.adds.events
    (reads_stay (given old first) old.events s.added (goes_next old.history pl.placed)
    (ap (filter_map want_of) of_it) are)

submitted_reads : {D : Type 0} (first now : Drive) (old new : View D) (who nth : ℕ) (answer : Submitted)
    → Submits first now old new who nth answer
    → AreOfReads (calls_of old.fixed.script) old.history old.events
    → AreOfReads (calls_of new.fixed.script) new.history new.events
submitted_reads first now old new who nth (submitted.Ready reply) s are =
    placed_reads first now old new who nth (submitted.Ready reply) (fate_for reply) (Some reply) s s.placing s.of_it
    are
submitted_reads first now old new who nth (submitted.Wait ticket) s are =
    placed_reads first now old new who nth (submitted.Wait ticket) fates.Done None s s.placing.1 s.of_it.1 are
submitted_reads first now old new who nth submitted.Drain s are =
    reads_whole old new old.history (old.events ++ s.added) s.fixed s.placing.history s.adds.events
    (reads_stay (given old first) old.events s.added (stays_there old.history) (ap (filter_map want_of) s.of_it) are)

placed_on : {D : Type 0} (first now : Drive) (old new : View D) (who nth : ℕ) (answer : Submitted) (fate : Fate)
    (last : Option Reply) → (s : Submits first now old new who nth answer) → Places old new who nth fate last
    → IsOn (given old first) old.events old.history old.on → IsOn (given new first) new.events new.history new.on
placed_on first now old new who nth answer fate last s pl is =
    on_whole first old new old.on (old.history ++ pl.placed ∷ []) (old.events ++ s.added) s.fixed s.on pl.history
    s.adds.events
    (on_stays (given old first) old.events (goes_next old.history pl.placed) s.added old.on
    (submissions_do_none who (length old.history) old.events (call_of old who nth) answer s.added s.of_it) is)

submitted_on : {D : Type 0} (first now : Drive) (old new : View D) (who nth : ℕ) (answer : Submitted)
    → Submits first now old new who nth answer
    → IsOn (given old first) old.events old.history old.on → IsOn (given new first) new.events new.history new.on
submitted_on first now old new who nth (submitted.Ready reply) s is =
    placed_on first now old new who nth (submitted.Ready reply) (fate_for reply) (Some reply) s s.placing is
submitted_on first now old new who nth (submitted.Wait ticket) s is =
    placed_on first now old new who nth (submitted.Wait ticket) fates.Done None s s.placing.1 is
submitted_on first now old new who nth submitted.Drain s is =
    on_whole first old new old.on old.history (old.events ++ s.added) s.fixed s.on s.placing.history s.adds.events
    (on_stays (given old first) old.events (stays_there old.history) s.added old.on
    (submissions_do_none who (length old.history) old.events (call_of old who nth) submitted.Drain s.added s.of_it) is)

submission_shows : {D : Type 0} (drive : Ghosts D) (m : Meaning) (old new : View D) (who nth : ℕ) (answer : Submitted)
    → IsServed m (seen drive old.fixed.first) (seen drive old.drive) old
    → Submits (seen drive old.fixed.first) (seen drive new.drive) old new who nth answer
    → Shows (seen drive old.fixed.first) old new
submission_shows drive m old new who nth answer served s = record {
  reads = submitted_reads (seen drive old.fixed.first) (seen drive new.drive) old new who nth answer s;
  truly = λ is_old is_new all. record {
    asks =
        submissions_ask_truly (seen drive) old.fixed.first new.drive old new who nth answer is_old is_new
        served.orderly.cached s all.asks;
    on_is = submitted_on (seen drive old.fixed.first) (seen drive new.drive) old new who nth answer s all.on_is;
  };
}

-- ---- turns

-- a step of the head at most, and events behind it that ask for nothing and do no op
step_shows : {D : Type 0} {later : List Placed} {Next : ℕ → Placed → Type 0} (first : Drive) (old new : View D)
    (made rest : List Event) → GoesTo old.history later Next → AreOfStep made
    → filter_map want_of rest ≡ [] → filter_map syncs_ticket rest ≡ [] → list_any does_op rest ≡ false
    → new.fixed ≡ old.fixed → new.on ≡ on_after old made → new.history ≡ later
    → new.events ≡ old.events ++ (made ++ rest)
    → (IsTrue first old → AsksTruly first old → AsksTruly first new) → Shows first old new
step_shows {later = later} first old new made rest goes shape wants syncs none fixed on history trail asks = record {
  reads = λ are.
      reads_whole old new later (old.events ++ (made ++ rest)) fixed history trail
      (reads_stay (given old first) old.events (made ++ rest) goes
      (steps_ask_nothing made rest shape wants syncs).wants are);
  truly = λ is_old is_new all. record {
    asks = asks is_old all.asks;
    on_is = on_whole first old new (on_after old made) later (old.events ++ (made ++ rest)) fixed on history trail
        (on_steps (given old first) old made rest goes shape none is_old.ops all.on_is);
  };
}

turn_shows : {D : Type 0} (drive : Ghosts D) (old new : View D) (who ticket : ℕ) (answer : Turn)
    → Turns drive.MOST (seen drive old.drive) (seen drive new.drive) old new who ticket answer
    → Shows (seen drive old.fixed.first) old new
turn_shows drive old new who ticket answer t =
    step_shows (seen drive old.fixed.first) old new t.added [] (stays_there old.history) t.step.shape refl refl refl
    t.fixed t.step.on t.history
    (t.adds.events ∙ ap (λ es. old.events ++ es) (sym (append-nil t.added)))
    (λ is asks.
    turns_ask_truly (seen drive) drive.MOST old.fixed.first old.drive new.drive old new who ticket answer is t asks)

drains_ask : {D : Type 0} (drive : Ghosts D) (old new : View D) (who : ℕ) (answer : Drained)
    → DrainsOnce drive.MOST (seen drive old.drive) (seen drive new.drive) old new who answer
    → IsTrue (seen drive old.fixed.first) old → AsksTruly (seen drive old.fixed.first) old
    → AsksTruly (seen drive old.fixed.first) new
drains_ask drive old new who answer d is asks =
    drain_turns_ask_truly (seen drive) drive.MOST old.fixed.first old.drive new.drive old new who answer is d asks

drain_shows : {D : Type 0} (drive : Ghosts D) (old new : View D) (who : ℕ) (answer : Drained)
    → DrainsOnce drive.MOST (seen drive old.drive) (seen drive new.drive) old new who answer
    → Shows (seen drive old.fixed.first) old new
drain_shows drive old new who (drained.Fault counts) d =
    step_shows (seen drive old.fixed.first) old new d.made []
    (goes_next old.history d.answered.1.placed) d.step.shape refl refl refl
    d.fixed d.step.on d.answered.1.history d.adds.events
    (drains_ask drive old new who (drained.Fault counts) d)
drain_shows drive old new who drained.Room d =
    step_shows (seen drive old.fixed.first) old new d.made (events.Rests who ∷ [])
    (stays_there old.history) d.step.shape refl refl refl d.fixed d.step.on d.answered.2.history d.adds.events
    (drains_ask drive old new who drained.Room d)
drain_shows drive old new who drained.More d =
    step_shows (seen drive old.fixed.first) old new d.made []
    (stays_there old.history) d.step.shape refl refl refl d.fixed d.step.on d.answered.3.history d.adds.events
    (drains_ask drive old new who drained.More d)

-- ---- the law

-- what a log tells is so at the start, and stays so over each call
pub logs_go_on : {D : Type 0} (drive : Ghosts D) (m : Meaning) → LogsGoOn drive m
logs_go_on drive m = record {
  begins = begins drive m;
  submitted = λ old new who nth answer served serves can s is.
      goes_on drive m old new s.fixed served serves (submission_shows drive m old new who nth answer served s) is;
  turned = λ old new who ticket answer served serves waits t is.
      goes_on drive m old new t.fixed served serves (turn_shows drive old new who ticket answer t) is;
  drained = λ old new who answer served serves drains d is.
      goes_on drive m old new d.fixed served serves (drain_shows drive old new who answer d) is;
  gone_begins = gone_begins drive m;
  submission_moves = submission_moves drive;
  moved = moved drive m;
  gone_holds = gone_holds drive m;
}
