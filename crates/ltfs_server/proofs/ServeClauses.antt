-- What `serve` promises, from what it comes to and what is told of that.
use Rattle.std.proofs.Common.{◌≡◌, ◌∙◌, ℕ, ◌*◌, true, false, List, [], ◌∷◌, Option, Some, None, Ok, Err, refl, sym, subst, inl, inr, arith}
use Rattle.std.specs.Prelude.{IfSome, IsErr, IsOk}
use Rattle.std.specs.Io.KnownBytes.{Appends}
use Rattle.tape_types.specs.Counts.{Rose}
use Rattle.tape_types.specs.declared.cartridges.Cartridge.{Cartridge}
use Rattle.tape_types.specs.declared.moments.Moment.{Moment}
use Rattle.session_script.specs.Grammar.{script_of}
use Rattle.session_script.specs.declared.logs.Log.{Log}
use Rattle.session_script.specs.declared.scripts.ScriptLine.{ScriptLine}
use Rattle.tape_drive.specs.Looks.{Looks}
use Rattle.tape_drive.specs.declared.drive.Drive.{Ghosts}
use Rattle.cartridge_meaning.specs.Meaning.{Found}
use Rattle.mount_recover.specs.Known.{mount_most}
use Rattle.mount_recover.specs.Steps.{Blames}
use Rattle.promises.specs.ServingPromise.Headline.{Closed, Failed, ServeEnd, Short}
use Rattle.commands.specs.BasicCommands.Headline.{IsMountFaultPrinted, IsReadFaultPrinted, IsRefusalPrinted}
use Rattle.commands.specs.BasicCommands.Labels.{mount_status}
use Rattle.ltfs_server.specs.Outcomes.{EndsAs, of_serve}
use Rattle.commands.specs.BasicCommands.Promises.{ReadsAsNone}
use Rattle.ltfs_server.specs.Promises.{DoesServe}
use Rattle.commands.specs.BasicCommands.Runs.{IsOneOf, Taken, Written}
use Rattle.session_run.specs.Serving.{HoldsTree}
use Rattle.ltfs_server.specs.Serving.{IsClosePrinted, IsFailurePrinted, IsRefusedPrinted, IsServedEnd, IsServedRun, IsServedTo, IsShortPrinted, ServedEnd, served, served_log, served_status, served_text, unclosed, unscripted, unserved}
use Rattle.commands.specs.declared.basic_commands.scripts.Unread.TheVariants as unread
use Rattle.ltfs_server.proofs.EndedRuns.{done_or_refused, failed_rose}
use Rattle.commands.proofs.BasicCommands.MountClauses.{blamed, drive_told, found_done, memory_told, mount_isnt, mount_known}
use Rattle.commands.proofs.BasicCommands.Told.{by_six, by_status, by_text, if_some, of_some}

-- ---- statuses

mount_all : (n : ℕ) → IsOneOf n (3 ∷ 4 ∷ 7 ∷ []) → IsOneOf n (0 ∷ 2 ∷ 3 ∷ 4 ∷ 5 ∷ 6 ∷ 7 ∷ 8 ∷ [])
mount_all n (inl three) = inr (inr (inl three))
mount_all n (inr (inl four)) = inr (inr (inr (inl four)))
mount_all n (inr (inr (inl seven))) = inr (inr (inr (inr (inr (inr (inl seven))))))
mount_all n (inr (inr (inr none))) = absurd none

mount_refused : (n : ℕ) → IsOneOf n (3 ∷ 4 ∷ 7 ∷ []) → IsOneOf n (2 ∷ 3 ∷ 4 ∷ 5 ∷ 6 ∷ 7 ∷ [])
mount_refused n (inl three) = inr (inl three)
mount_refused n (inr (inl four)) = inr (inr (inl four))
mount_refused n (inr (inr (inl seven))) = inr (inr (inr (inr (inr (inl seven)))))
mount_refused n (inr (inr (inr none))) = absurd none

status_is : (end : ServedEnd) → IsOneOf (served_status end) (0 ∷ 2 ∷ 3 ∷ 4 ∷ 5 ∷ 6 ∷ 7 ∷ 8 ∷ [])
status_is (unscripted (unread.Script refusal)) = inr (inl refl)
status_is (unscripted (unread.Source counts)) = inr (inr (inr (inr (inl refl))))
status_is (unscripted unread.NoMemory) = inr (inr (inr (inr (inr (inr (inl refl))))))
status_is (unserved e) = mount_all (mount_status e) (mount_known e)
status_is (served log (Closed generation)) = inl refl
status_is (served log (Short need limit)) = inr (inr (inr (inr (inr (inr (inr (inl refl)))))))
status_is (served log (Failed counts)) = inr (inr (inr (inl refl)))
status_is (unclosed log) = inr (inr (inr (inr (inr (inr (inl refl))))))

not_six : (end : ServedEnd) → served_status end ≡ 6 → ⊥
not_six (unscripted (unread.Script refusal)) six = absurd (cc six)
not_six (unscripted (unread.Source counts)) six = absurd (cc six)
not_six (unscripted unread.NoMemory) six = absurd (cc six)
not_six (unserved e) six = mount_isnt e 6 (λ x. cc x) (λ x. cc x) (λ x. cc x) six
not_six (served log (Closed generation)) six = absurd (cc six)
not_six (served log (Short need limit)) six = absurd (cc six)
not_six (served log (Failed counts)) six = absurd (cc six)
not_six (unclosed log) six = absurd (cc six)

among_none : {A : Type 0} (n : ℕ) → (n ≡ 2 → ⊥) → (n ≡ 3 → ⊥) → (n ≡ 5 → ⊥) → IsOneOf n (2 ∷ 3 ∷ 5 ∷ []) → A
among_none n two three five (inl is) = absurd (two is)
among_none n two three five (inr (inl is)) = absurd (three is)
among_none n two three five (inr (inr (inl is))) = absurd (five is)
among_none n two three five (inr (inr (inr none))) = absurd none

refused_none : (end : ServedEnd) → IsOneOf (served_status end) (2 ∷ 3 ∷ 5 ∷ []) → served_log end ≡ None
refused_none (unscripted why) one = refl
refused_none (unserved e) one = refl
refused_none (served log (Closed generation)) one = among_none 0 (λ x. cc x) (λ x. cc x) (λ x. cc x) one
refused_none (served log (Short need limit)) one = among_none 8 (λ x. cc x) (λ x. cc x) (λ x. cc x) one
refused_none (served log (Failed counts)) one = among_none 4 (λ x. cc x) (λ x. cc x) (λ x. cc x) one
refused_none (unclosed log) one = among_none 7 (λ x. cc x) (λ x. cc x) (λ x. cc x) one

-- ---- what it comes to

module _ {D : Type 0} (drive : Ghosts D) (old new : D) (moment : Option Moment) (source : Taken) where
  abbrev Ends : ServedEnd → Type 0
  Ends end = IsServedEnd drive old new moment source end

  run_of : (log : Log) (end : ServeEnd) → IsServedTo drive old new moment source end log → IsServedRun drive old new moment source log
  run_of log end is = record { script = is.script; spelled = is.spelled; whole = is.whole; run = is.run.run }

  log_is : (end : ServedEnd) → Ends end → IfSome (served_log end) (IsServedRun drive old new moment source)
  log_is (unscripted why) is = tt
  log_is (unserved e) is = tt
  log_is (served log end) is = run_of log end is.1
  log_is (unclosed log) is = is

  -- an input that is no script
  none_spelled : {A : Type 0} (text : List ℕ) (script : List ScriptLine) → IfSome source.left (λ t. script_of t ≡ Ok script) → source.left ≡ Some text → IsErr (script_of text) → A
  none_spelled text script spelled left bad =
      absurd (let no : false ≡ true = subst IsErr (of_some source.left (λ t. script_of t ≡ Ok script) text left spelled) bad in cc no)

  no_script : (end : ServedEnd) (text : List ℕ) → Ends end → source.left ≡ Some text → IsErr (script_of text) → IsOneOf (served_status end) (2 ∷ 5 ∷ 6 ∷ 7 ∷ [])
  no_script (unscripted (unread.Script refusal)) text is left bad = inl refl
  no_script (unscripted (unread.Source counts)) text is left bad = inr (inl refl)
  no_script (unscripted unread.NoMemory) text is left bad = inr (inr (inr (inl refl)))
  no_script (unserved e) text is left bad = none_spelled text is.0.0 is.0.1.spelled left bad
  no_script (served log end) text is left bad = none_spelled text is.1.script is.1.spelled left bad
  no_script (unclosed log) text is left bad = inr (inr (inr (inl refl)))

  -- a cartridge that reads as no tree
  no_tree : (end : ServedEnd) (c : Cartridge) → Ends end → drive.held old ≡ Some c → ReadsAsNone c → IsOneOf (served_status end) (2 ∷ 3 ∷ 4 ∷ 5 ∷ 6 ∷ 7 ∷ [])
  no_tree (unscripted (unread.Script refusal)) c is held none = inl refl
  no_tree (unscripted (unread.Source counts)) c is held none = inr (inr (inr (inl refl)))
  no_tree (unscripted unread.NoMemory) c is held none = inr (inr (inr (inr (inr (inl refl)))))
  no_tree (unserved e) c is held none = mount_refused (mount_status e) (mount_known e)
  no_tree (served log end) c is held none =
      let found = subst HoldsTree held is.0 in absurd (none found.0 found.1 found.2 found.3)
  no_tree (unclosed log) c is held none = inr (inr (inr (inr (inr (inl refl)))))

  all_done : (end : ServedEnd) (text : List ℕ) (c : Cartridge) → Ends end → ¬ (Rose source.before source.now) → ¬ (Rose (drive.faults old) (drive.faults new))
      → source.left ≡ Some text → IsOk (script_of text) → drive.held old ≡ Some c → Found c → IsOneOf (served_status end) (0 ∷ 7 ∷ 8 ∷ [])
  all_done (unscripted (unread.Script refusal)) text c is quiet still left good held found =
      absurd (let no : false ≡ true = subst IsOk (of_some source.left (λ t. script_of t ≡ Err refusal) text left is) good in cc no)
  all_done (unscripted (unread.Source counts)) text c is quiet still left good held found =
      absurd (quiet (omega (arith, is.lowest, is.rose, is.highest)))
  all_done (unscripted unread.NoMemory) text c is quiet still left good held found = inr (inl refl)
  all_done (unserved e) text c is quiet still left good held found =
      done_or_refused (mount_status e) (found_done c (drive.faults old) (drive.faults new) e (of_some (drive.held old) (λ c. Blames e c) c held is.1) is.2 found still)
  all_done (served log (Closed generation)) text c is quiet still left good held found = inl refl
  all_done (served log (Short need limit)) text c is quiet still left good held found = inr (inr (inl refl))
  all_done (served log (Failed counts)) text c is quiet still left good held found = absurd (still (failed_rose drive old new moment is.1.script log counts is.1.run))
  all_done (unclosed log) text c is quiet still left good held found = inr (inl refl)

  module _ (sink : Written) (log : Option Log) where
    abbrev Said : ServedEnd → ℕ → Type 0
    Said end n = (served_status end ≡ n) × Appends sink.old sink.new (served_text end)

    close_told : (end : ServedEnd) → log ≡ served_log end → Ends end → Said end 0 → IsClosePrinted drive old new moment source sink log
    close_told (unscripted (unread.Script refusal)) same is told = absurd (cc told.0)
    close_told (unscripted (unread.Source counts)) same is told = absurd (cc told.0)
    close_told (unscripted unread.NoMemory) same is told = absurd (cc told.0)
    close_told (unserved e) same is told = absurd (mount_isnt e 0 (λ x. cc x) (λ x. cc x) (λ x. cc x) told.0)
    close_told (served l (Closed generation)) same is told =
        subst (IsClosePrinted drive old new moment source sink) (sym same) (generation, (is.1, told.1))
    close_told (served l (Short need limit)) same is told = absurd (cc told.0)
    close_told (served l (Failed counts)) same is told = absurd (cc told.0)
    close_told (unclosed l) same is told = absurd (cc told.0)

    short_told : (end : ServedEnd) → log ≡ served_log end → Ends end → Said end 8 → IsShortPrinted drive old new moment source sink log
    short_told (unscripted (unread.Script refusal)) same is told = absurd (cc told.0)
    short_told (unscripted (unread.Source counts)) same is told = absurd (cc told.0)
    short_told (unscripted unread.NoMemory) same is told = absurd (cc told.0)
    short_told (unserved e) same is told = absurd (mount_isnt e 8 (λ x. cc x) (λ x. cc x) (λ x. cc x) told.0)
    short_told (served l (Closed generation)) same is told = absurd (cc told.0)
    short_told (served l (Short need limit)) same is told =
        subst (IsShortPrinted drive old new moment source sink) (sym same) (need, limit, (is.1, told.1))
    short_told (served l (Failed counts)) same is told = absurd (cc told.0)
    short_told (unclosed l) same is told = absurd (cc told.0)

    failure_told : (end : ServedEnd) → log ≡ served_log end → Ends end → Said end 4 → IsFailurePrinted drive old new moment source sink log
    failure_told (unscripted (unread.Script refusal)) same is told = absurd (cc told.0)
    failure_told (unscripted (unread.Source counts)) same is told = absurd (cc told.0)
    failure_told (unscripted unread.NoMemory) same is told = absurd (cc told.0)
    failure_told (unserved e) same is told =
        subst (IsFailurePrinted drive old new moment source sink) (sym same)
        (drive_told e (drive.faults old) (drive.faults new) sink.old sink.new is.2 told)
    failure_told (served l (Closed generation)) same is told = absurd (cc told.0)
    failure_told (served l (Short need limit)) same is told = absurd (cc told.0)
    failure_told (served l (Failed counts)) same is told =
        subst (IsFailurePrinted drive old new moment source sink) (sym same) (counts, is.1, told.1)
    failure_told (unclosed l) same is told = absurd (cc told.0)

    refusal_told : (end : ServedEnd) → Ends end → Said end 2 → IsRefusalPrinted source.left sink.old sink.new
    refusal_told (unscripted (unread.Script refusal)) is told = (refusal, is, told.1)
    refusal_told (unscripted (unread.Source counts)) is told = absurd (cc told.0)
    refusal_told (unscripted unread.NoMemory) is told = absurd (cc told.0)
    refusal_told (unserved e) is told = absurd (mount_isnt e 2 (λ x. cc x) (λ x. cc x) (λ x. cc x) told.0)
    refusal_told (served l (Closed generation)) is told = absurd (cc told.0)
    refusal_told (served l (Short need limit)) is told = absurd (cc told.0)
    refusal_told (served l (Failed counts)) is told = absurd (cc told.0)
    refusal_told (unclosed l) is told = absurd (cc told.0)

    source_told : (end : ServedEnd) → Ends end → Said end 5 → IsReadFaultPrinted source.before source.now sink.old sink.new
    source_told (unscripted (unread.Script refusal)) is told = absurd (cc told.0)
    source_told (unscripted (unread.Source counts)) is told = (counts, is, told.1)
    source_told (unscripted unread.NoMemory) is told = absurd (cc told.0)
    source_told (unserved e) is told = absurd (mount_isnt e 5 (λ x. cc x) (λ x. cc x) (λ x. cc x) told.0)
    source_told (served l (Closed generation)) is told = absurd (cc told.0)
    source_told (served l (Short need limit)) is told = absurd (cc told.0)
    source_told (served l (Failed counts)) is told = absurd (cc told.0)
    source_told (unclosed l) is told = absurd (cc told.0)

    check_told : (end : ServedEnd) → Ends end → Said end 3 → IsMountFaultPrinted (drive.held old) sink.old sink.new
    check_told (unscripted (unread.Script refusal)) is told = absurd (cc told.0)
    check_told (unscripted (unread.Source counts)) is told = absurd (cc told.0)
    check_told (unscripted unread.NoMemory) is told = absurd (cc told.0)
    check_told (unserved e) is told = (e, told.0, blamed e (drive.held old) told.0 is.1, told.1)
    check_told (served l (Closed generation)) is told = absurd (cc told.0)
    check_told (served l (Short need limit)) is told = absurd (cc told.0)
    check_told (served l (Failed counts)) is told = absurd (cc told.0)
    check_told (unclosed l) is told = absurd (cc told.0)

    memory_is : (end : ServedEnd) → log ≡ served_log end → Said end 7 → IsRefusedPrinted sink log
    memory_is (unscripted (unread.Script refusal)) same told = absurd (cc told.0)
    memory_is (unscripted (unread.Source counts)) same told = absurd (cc told.0)
    memory_is (unscripted unread.NoMemory) same told = subst (IsRefusedPrinted sink) (sym same) told.1
    memory_is (unserved e) same told = subst (IsRefusedPrinted sink) (sym same) (memory_told e sink.old sink.new told)
    memory_is (served l (Closed generation)) same told = absurd (cc told.0)
    memory_is (served l (Short need limit)) same told = absurd (cc told.0)
    memory_is (served l (Failed counts)) same told = absurd (cc told.0)
    memory_is (unclosed l) same told = subst (IsRefusedPrinted sink) (sym same) told.1

    -- how serving came to its end, and what was told of it, are what `serve` promises
    pub serve_does : (status : ℕ) (end : ServedEnd) → Ends end
        → (served_log end ≡ None → Looks drive (mount_most (drive.limits old) * drive.MOST) old new)
        → drive.limits new ≡ drive.limits old → (drive.held old ≡ None → drive.held new ≡ None) → EndsAs (of_serve end) sink status log → DoesServe moment source drive old new sink status log
    serve_does status end is looks limits untold told =
        let w = served_status end in
        let t = served_text end in record {
          statuses = by_status (λ n. IsOneOf n (0 ∷ 2 ∷ 3 ∷ 4 ∷ 5 ∷ 6 ∷ 7 ∷ 8 ∷ [])) w t sink status told.1 (status_is end) (λ rose. inr (inr (inr (inr (inr (inl refl))))));
          history = subst (λ l. IfSome l (IsServedRun drive old new moment source)) (sym told.0) (log_is end is);
          refused = by_status (λ n. IsOneOf n (2 ∷ 3 ∷ 5 ∷ []) → log ≡ None) w t sink status told.1 (λ one. told.0 ∙ refused_none end one)
              (λ rose one. among_none 6 (λ x. cc x) (λ x. cc x) (λ x. cc x) one);
          closed = λ zero. close_told end told.0 is (by_text 0 w t sink status told.1 (λ e. cc e) zero);
          script = if_some source.left (λ text. IsErr (script_of text) → IsOneOf status (2 ∷ 5 ∷ 6 ∷ 7 ∷ []))
              (λ text left bad. by_status (λ n. IsOneOf n (2 ∷ 5 ∷ 6 ∷ 7 ∷ [])) w t sink status told.1 (no_script end text is left bad) (λ rose. inr (inr (inl refl))));
          only_script = λ two. refusal_told end is (by_text 2 w t sink status told.1 (λ e. cc e) two);
          volume = if_some (drive.held old) (λ c. ReadsAsNone c → IsOneOf status (2 ∷ 3 ∷ 4 ∷ 5 ∷ 6 ∷ 7 ∷ []))
              (λ c held none. by_status (λ n. IsOneOf n (2 ∷ 3 ∷ 4 ∷ 5 ∷ 6 ∷ 7 ∷ [])) w t sink status told.1 (no_tree end c is held none) (λ rose. inr (inr (inr (inr (inl refl))))));
          only_volume = λ three. check_told end is (by_text 3 w t sink status told.1 (λ e. cc e) three);
          only_drive = λ four. failure_told end told.0 is (by_text 4 w t sink status told.1 (λ e. cc e) four);
          only_read = λ five. source_told end is (by_text 5 w t sink status told.1 (λ e. cc e) five);
          only_write = by_six w t sink status told.1 (not_six end);
          memory = λ seven. memory_is end told.0 (by_text 7 w t sink status told.1 (λ e. cc e) seven);
          only_full = λ eight. short_told end told.0 is (by_text 8 w t sink status told.1 (λ e. cc e) eight);
          complete = λ quiet still calm. if_some source.left (λ text. IsOk (script_of text) → IfSome (drive.held old) (λ c. Found c → IsOneOf status (0 ∷ 7 ∷ 8 ∷ [])))
              (λ text left good. if_some (drive.held old) (λ c. Found c → IsOneOf status (0 ∷ 7 ∷ 8 ∷ []))
              (λ c held found. by_status (λ n. IsOneOf n (0 ∷ 7 ∷ 8 ∷ [])) w t sink status told.1
              (all_done end text c is quiet still left good held found) (λ rose. absurd (calm rose))));
          looks = λ none. looks (sym told.0 ∙ none);
          limits = limits;
          untold = untold;
          told = (end, is, told);
        }
