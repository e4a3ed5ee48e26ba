-- The log of a volume that was played and closed.
use Rattle.std.specs.Prelude.{◌≡◌, ◌≤◌, ℕ, All, IfSome, List, [], ◌++◌, filter_map, length, map, Option, Some, None}
use Rattle.std.proofs.Common.{sym, ap, subst, ◌∙◌, arith}
use Rattle.std.proofs.lemmas.List.{length-map}
use Rattle.tape_types.specs.declared.cartridges.Twin.{Twin}
use Rattle.tape_types.specs.declared.moments.Moment.{Moment}
use Rattle.plain_tree.specs.History.{IsInterleaving}
use Rattle.plain_tree.specs.declared.calls.Placed.{Placed}
use Rattle.session_script.specs.Grammar.{calls_of}
use Rattle.session_script.specs.Sessions.{greatest_session}
use Rattle.session_script.specs.declared.logs.Ack.{Ack}
use Rattle.session_script.specs.declared.logs.Event.{Event}
use Rattle.session_script.specs.declared.logs.Log.{Log}
use Rattle.session_script.specs.declared.logs.Reply.{Reply}
use Rattle.session_script.specs.declared.scripts.ScriptLine.{ScriptLine}
use Rattle.head_queue.specs.EventLaws.Trail.{IsTrail, after_all, fault_of}
use Rattle.head_queue.specs.EventLaws.Waiting.{is_at_rest}
use Rattle.tape_drive.specs.declared.drive.Drive.{Ghosts}
use Rattle.promises.specs.ServingPromise.Acks.{AreAcks, AreReached, AreSyncs}
use Rattle.promises.specs.ServingPromise.Asking.{AreOfReads}
use Rattle.promises.specs.ServingPromise.Ends.{IsLogOf}
use Rattle.promises.specs.ServingPromise.Faults.{AreFaults, kept_for, told_to}
use Rattle.promises.specs.ServingPromise.Headline.{IsServedLog, last_fault}
use Rattle.promises.specs.ServingPromise.Marks.{NothingWaits}
use Rattle.promises.specs.ServingPromise.Served.{View}
use Rattle.promises.specs.OrderLaws.Kept.{seen}
use Rattle.run_laws.specs.Laws.{IsPlayed}
use Rattle.run_laws.proofs.Rests.{at_rest, keeps_none}
use Rattle.run_laws.proofs.Rises.{last_within, rises_within}

-- as the drive's count of commands goes on, it reaches what it had reached
reached_on : (events : List Event) (acks : List Ack) (before now : ℕ) → before ≤ now → AreReached events acks before
    → AreReached events acks now
reached_on events acks before now on reached ack there = omega (arith, on, reached ack there)

-- what is told of faults where none is kept, over a longer time
faults_told : (history : List Placed) (events : List Event) (replies : List (Option Reply)) (kept : List (ℕ × Twin))
    (before now earlier later : ℕ) → ((who : ℕ) → kept_for who kept ≡ []) → earlier ≤ before → now ≤ later
    → AreFaults history events replies kept before now → AreFaults history events replies [] earlier later
faults_told history events replies kept before now earlier later none from to are = record {
  calls = are.calls;
  sessions = λ who. ap (λ l. told_to history replies who ++ l) (sym (none who)) ∙ are.sessions who;
  rises = rises_within before now earlier later (filter_map fault_of events) from to are.rises;
}

module _ {D : Type 0} (drive : Ghosts D) (script : List ScriptLine) (at : Option Moment) (start : D) (v : View D)
    (log : Log) (played : IsPlayed drive script at start v) (log_is : IsLogOf v log) where
  -- the log has the volume's history
  pub history_is : v.history ≡ log.history
  history_is = sym log_is.history

  -- the log has the volume's events
  pub events_are : v.events ≡ log.events
  events_are = sym log_is.events

  -- the log has the volume's replies, all of which are there
  pub replies_are : v.replies ≡ map Some log.replies
  replies_are = sym log_is.replies

  -- the log is of the volume's script
  pub script_is : v.fixed.script ≡ script
  script_is = played.script_is

  nothing : NothingWaits (greatest_session v.fixed.script) v.marks
  nothing = subst (λ l. NothingWaits (greatest_session l) v.marks) (sym script_is) played.nothing

  moments : (one : Option Moment) → IfSome one (λ m. v.fixed.moment ≡ Some m)
      → IfSome one (λ m. All (λ (p : Placed). p.at ≡ m) log.history)
  moments None is = tt
  moments (Some m) is =
      subst (λ l. All (λ (p : Placed). p.at ≡ m) l) history_is
      (subst (λ o. IfSome o (λ m. All (λ (p : Placed). p.at ≡ m) v.history)) is played.served.orderly.moments)

  -- whatever the drive told
  pub served_log : (now : D) → drive.commands v.drive ≤ drive.commands now → drive.faults v.drive ≤ drive.faults now
      → IsServedLog script at (seen drive start) (seen drive now) log
  served_log now later faults =
      let o = played.served.orderly in
      record {
        history = subst (λ l. IsInterleaving (calls_of script) l) history_is played.history;
        moments = moments at played.moment;
        answered = sym (length-map log.replies Some) ∙ ap length log_is.replies ∙ played.count ∙ ap length history_is;
        trail = subst (λ l. IsTrail l) events_are o.trail;
        at_rest = ap (λ l. is_at_rest (after_all l)) log_is.events
            ∙ at_rest (greatest_session v.fixed.script) v.history v.replies (after_all v.events) v.kept v.marks o.marks
            nothing log.replies log_is.replies o.waiting;
        syncs = subst
            (λ (e : List ScriptLine × List Placed × List Event). AreSyncs (calls_of e.0) e.1 e.2)
            (λ i. (script_is i, history_is i, events_are i)) o.syncs;
        reads = subst
            (λ (e : List ScriptLine × List Placed × List Event). AreOfReads (calls_of e.0) e.1 e.2)
            (λ i. (script_is i, history_is i, events_are i)) played.logged.reads;
        faults = subst
            (λ (e : List Placed × List Event × List (Option Reply)).
            AreFaults e.0 e.1 e.2 [] (drive.faults start) (drive.faults now))
            (λ i. (history_is i, events_are i, replies_are i))
            (faults_told v.history v.events v.replies v.kept (drive.faults v.fixed.first) (drive.faults v.drive)
            (drive.faults start) (drive.faults now)
            (keeps_none (greatest_session v.fixed.script) v.history v.replies (after_all v.events) v.kept v.marks
            o.marks nothing) played.faults faults o.faults);
        acks = subst
            (λ (e : List Event × List (Option Reply) × List Ack). AreAcks e.0 e.1 e.2)
            (λ i. (events_are i, replies_are i, sym log_is.acks i)) o.acks;
        reached = subst
            (λ (e : List Event × List Ack). AreReached e.0 e.1 (drive.commands now))
            (λ i. (events_are i, sym log_is.acks i))
            (reached_on v.events v.acks (drive.commands v.drive) (drive.commands now) later o.reached);
      }

  -- the fault at whose end the log's last one stands
  pub last_is : AreFaults log.history log.events (map Some log.replies) [] (drive.faults start) (drive.faults v.drive)
      → last_fault (seen drive start) log ≤ drive.faults v.drive
  last_is are = last_within (drive.faults start) (drive.faults v.drive) (filter_map fault_of log.events) are.rises
