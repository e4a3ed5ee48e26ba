-- The sentence, from what the commands promise that run a script on a volume.
use Rattle.std.proofs.Common.{◌≡◌, ◌∙◌, ℕ, List, [], ◌∷◌, ◌++◌, Option, Some, None, codes, inl, inr, refl, sym, subst}
use Rattle.std.specs.Io.KnownBytes.{Appends}
use Rattle.tape_types.specs.Counts.{Rose}
use Rattle.tape_types.specs.declared.moments.Moment.{Moment}
use Rattle.tape_drive.specs.declared.drive.Drive.{Ghosts}
use Rattle.session_script.specs.Made.{made_script}
use Rattle.session_script.specs.LogText.{log_text}
use Rattle.session_script.specs.declared.logs.Log.{Log}
use Rattle.session_script.specs.declared.scripts.ScriptLine.{ScriptLine}
use Rattle.promises.specs.ServingPromise.Headline.{Closed, Failed, IsEndOf, IsServeRun, ServeEnd, Short, status_of}
use Rattle.promises.specs.ServingPromise.Meanings.{cartridges}
use Rattle.promises.specs.OrderLaws.Kept.{seen}
use Rattle.run_laws.specs.Went.{IsRunBy}
use Rattle.ltfs_server.specs.Making.{IsMadeEnd, MadeEnd, made, made_log, made_status, made_text, starved, unmade}
use Rattle.commands.specs.BasicCommands.Outcomes.{IsTold}
use Rattle.ltfs_server.specs.Promises.{DoesAsked, DoesMake, DoesServe}
use Rattle.commands.specs.BasicCommands.Runs.{IsOneOf, Taken, Written}
use Rattle.ltfs_server.specs.Outcomes.{Run}
use Rattle.ltfs_server.specs.Sentence.{AreNodesTold, Asked, Asks, IsClosedSo, IsScriptAsked, IsWantPrinted, Sentence, SentenceHolds, to_make, to_serve, told_text}
use Rattle.commands.proofs.BasicCommands.Told.{none_of}
use Rattle.session_run.specs.Timed.{one_moment}
use Rattle.ltfs_server.specs.Serving.{IsServedEnd, ServedEnd, served, served_log, served_status, served_text, unclosed, unscripted, unserved}

-- ---- statuses

-- the ends of a close are with 0, 4 and 8
among : (end : ServeEnd) → IsOneOf (status_of end) (0 ∷ 4 ∷ 6 ∷ 7 ∷ 8 ∷ [])
among (Closed generation) = inl refl
among (Failed counts) = inr (inl refl)
among (Short need limit) = inr (inr (inr (inr (inl refl))))

not_seven : (end : ServeEnd) → status_of end ≡ 7 → ⊥
not_seven (Closed generation) seven = cc seven
not_seven (Failed counts) seven = cc seven
not_seven (Short need limit) seven = cc seven

not_six : (end : ServeEnd) → status_of end ≡ 6 → ⊥
not_six (Closed generation) six = cc six
not_six (Failed counts) six = cc six
not_six (Short need limit) six = cc six

-- ---- a run that is told of

-- what holds of the log however the run ended
record Runs {D : Type 0} (asked : Asked) (moment : Option Moment) (source : Taken) (drive : Ghosts D) (old new : D) (log : Log) : Type 0 where
  script : List ScriptLine
  is_asked : IsScriptAsked asked source script
  run : IsRunBy drive script moment old new log

module _ {D : Type 0} (asked : Asked) (moment : Option Moment) (source : Taken) (drive : Ghosts D) (old new : D) (sink : Written) (status : ℕ) (log : Log) where
  whole : (r : Runs asked moment source drive old new log)
      → (IsOneOf status (0 ∷ 4 ∷ 8 ∷ []) → IsClosedSo asked r.script drive old new sink status log)
      → (status ≡ 7 → IsWantPrinted asked sink log) → (status ≡ 6 → Rose sink.before sink.now) → IsOneOf status (0 ∷ 4 ∷ 6 ∷ 7 ∷ 8 ∷ [])
      → Sentence asked moment source drive old new sink status log
  whole r close memory write known =
      let l = r.run.serves.log_is in record {
        script = r.script;
        is_asked = r.is_asked;
        history = record { once_in_order = l.history; moments = l.moments; replied = l.answered };
        steps = record { trail = l.trail; at_rest = l.at_rest; syncs = l.syncs; reads = l.reads; faults = l.faults; acks = l.acks; reached = l.reached };
        replies = r.run.serves.truly;
        crash = r.run.serves.crash;
        went = r.run.went;
        close = close;
        memory = memory;
        only_write = write;
        statuses = known;
      }

  -- the volume was closed, or the close ended otherwise by its numbers
  ended : (r : Runs asked moment source drive old new log) (end : ServeEnd) (nodes : ℕ) → IsEndOf cartridges r.script (seen drive old) (seen drive new) log end
      → AreNodesTold asked r.script (seen drive old) log end nodes → IsTold (status_of end) (told_text asked log end nodes) sink status
      → Sentence asked moment source drive old new sink status log
  ended r end nodes ends nodes_are (inl told) = whole r
      (λ known. record { end = end; nodes = nodes; status_is = told.0; ends = ends; nodes_are = nodes_are; printed = told.1 })
      (λ seven. absurd (not_seven end (sym told.0 ∙ seven))) (λ six. absurd (not_six end (sym told.0 ∙ six)))
      (subst (λ s. IsOneOf s (0 ∷ 4 ∷ 6 ∷ 7 ∷ 8 ∷ [])) (sym told.0) (among end))
  ended r end nodes ends nodes_are (inr failed) = sunk r failed.0 failed.1
    where
      sunk : (r : Runs asked moment source drive old new log) → status ≡ 6 → Rose sink.before sink.now → Sentence asked moment source drive old new sink status log
      sunk r six rose = whole r
          (λ known. absurd (none_of 6 (0 ∷ 4 ∷ 8 ∷ []) refl (subst (λ s. IsOneOf s (0 ∷ 4 ∷ 8 ∷ [])) six known)))
          (λ seven. absurd (cc (sym six ∙ seven))) (λ is. rose) (inr (inr (inl six)))

  -- memory was refused to the close or to the text
  starves : (r : Runs asked moment source drive old new log) (text : List ℕ) → (Appends sink.old sink.new text → IsWantPrinted asked sink log)
      → IsTold 7 text sink status → Sentence asked moment source drive old new sink status log
  starves r text want (inl told) = whole r
      (λ known. absurd (none_of 7 (0 ∷ 4 ∷ 8 ∷ []) refl (subst (λ s. IsOneOf s (0 ∷ 4 ∷ 8 ∷ [])) told.0 known)))
      (λ seven. want told.1) (λ six. absurd (cc (sym told.0 ∙ six))) (inr (inr (inr (inl told.0))))
  starves r text want (inr failed) = whole r
      (λ known. absurd (none_of 6 (0 ∷ 4 ∷ 8 ∷ []) refl (subst (λ s. IsOneOf s (0 ∷ 4 ∷ 8 ∷ [])) failed.0 known)))
      (λ seven. absurd (cc (sym failed.0 ∙ seven))) (λ is. failed.1) (inr (inr (inl failed.0)))

  -- the same where there may be no log
  holds_of : (whose : Option Log) → whose ≡ Some log → Sentence asked moment source drive old new sink status log → SentenceHolds asked moment source drive old new sink status whose
  holds_of whose is s = subst (λ l. SentenceHolds asked moment source drive old new sink status l) (sym is) s

-- ---- the commands

module _ {D : Type 0} (moment : Option Moment) (source : Taken) (drive : Ghosts D) (old new : D) (sink : Written) (status : ℕ) (log : Option Log) where
  pub serve_holds : DoesServe moment source drive old new sink status log → SentenceHolds to_serve moment source drive old new sink status log
  serve_holds does = by does.told.0 does.told.1 does.told.2.0 does.told.2.1
    where
      none : log ≡ None → SentenceHolds to_serve moment source drive old new sink status log
      none is = subst (λ l. SentenceHolds to_serve moment source drive old new sink status l) (sym is) (does.looks is)

      by : (end : ServedEnd) → IsServedEnd drive old new moment source end → log ≡ served_log end → IsTold (served_status end) (served_text end) sink status
          → SentenceHolds to_serve moment source drive old new sink status log
      by (unscripted why) is log_is told = none log_is
      by (unserved error) is log_is told = none log_is
      by (served l end) is log_is told =
          let r = is.1 in
          holds_of to_serve moment source drive old new sink status l log log_is
          (ended to_serve moment source drive old new sink status l
          (record { script = r.script; is_asked = record { spelled = r.spelled; whole = r.whole }; run = r.run.run }) end 0 r.run.ends tt told)
      by (unclosed l) is log_is told = holds_of to_serve moment source drive old new sink status l log log_is
          (starves to_serve moment source drive old new sink status l
          (record { script = is.script; is_asked = record { spelled = is.spelled; whole = is.whole }; run = is.run }) (log_text l ++ codes "memory\n") (λ a. inr a) told)

  pub make_holds : (count : ℕ) → DoesMake moment count drive old new sink status log → SentenceHolds (to_make count) moment source drive old new sink status log
  make_holds count does = by does.told.0 does.told.1 does.told.2.0 does.told.2.1
    where
      by : (end : MadeEnd) → IsMadeEnd drive old new moment count end → log ≡ made_log end → IsTold (made_status end) (made_text end) sink status
          → SentenceHolds (to_make count) moment source drive old new sink status log
      by (unmade error) is log_is told = subst (λ l. SentenceHolds (to_make count) moment source drive old new sink status l) (sym log_is) (does.looks log_is)
      by (made l end nodes) is log_is told =
          let r = is.1 in
          holds_of (to_make count) moment source drive old new sink status l log log_is
          (ended (to_make count) moment source drive old new sink status l (record { script = made_script count; is_asked = refl; run = r.ended.run }) end nodes r.ended.ends r.nodes_are told)
      by (starved l) is log_is told = holds_of (to_make count) moment source drive old new sink status l log log_is
          (starves (to_make count) moment source drive old new sink status l (record { script = made_script count; is_asked = refl; run = is }) (codes "memory\n") (λ a. a) told)

-- of either command, by the words
pub sentence_holds : {D : Type 0} (r : Run) (drive : Ghosts D) (old new : D) (sink : Written) (status : ℕ) (log : Option Log)
    → DoesAsked r.words r.gives r.one r.source sink drive old new status log
    → (asked : Asked) (moment : Option Moment) → Asks r asked moment → SentenceHolds asked moment r.source drive old new sink status log
sentence_holds r drive old new sink status log does to_serve moment (at, words, is) = subst (λ m. SentenceHolds to_serve m r.source drive old new sink status log) (sym is)
    (serve_holds (one_moment at r.one) r.source drive old new sink status log (does.serve at words))
sentence_holds r drive old new sink status log does (to_make count) moment (at, words, is) = subst (λ m. SentenceHolds (to_make count) m r.source drive old new sink status log) (sym is)
    (make_holds (one_moment at r.one) r.source drive old new sink status log count (does.make count at words))

-- what the sentence says of a log makes it that of a run
pub runs_so : {D : Type 0} (asked : Asked) (moment : Option Moment) (source : Taken) (drive : Ghosts D) (old new : D) (sink : Written) (status : ℕ) (log : Log)
    → (s : Sentence asked moment source drive old new sink status log) → IsServeRun cartridges s.script moment (seen drive old) (seen drive new) log
runs_so asked moment source drive old new sink status log s = record {
  log_is = record {
    history = s.history.once_in_order;
    moments = s.history.moments;
    answered = s.history.replied;
    trail = s.steps.trail;
    at_rest = s.steps.at_rest;
    syncs = s.steps.syncs;
    reads = s.steps.reads;
    faults = s.steps.faults;
    acks = s.steps.acks;
    reached = s.steps.reached;
  };
  truly = s.replies;
  crash = s.crash;
}
