-- What `serve` promises, of each thing that may come of its script.
use Rattle.std.proofs.Common.{◌≡◌, ◌∙◌, ℕ, ◌*◌, ◌-◌, ◌^◌, ◌≤◌, List, ◌++◌, Option, Some, None, codes, refl, sym, subst, inl, inr, arith, ◌⊎◌}
use Rattle.std.specs.Prelude.{◌≢◌, IfSome}
use Rattle.tape_types.specs.declared.cartridges.Cartridge.{Cartridge}
use Rattle.tape_types.specs.declared.moments.Moment.{Moment}
use Rattle.session_script.specs.LogText.{log_text}
use Rattle.session_script.specs.declared.logs.Log.{Log}
use Rattle.session_script.specs.declared.scripts.ScriptLine.{ScriptLine}
use Rattle.head_queue.specs.EventLaws.Trail.{steps}
use Rattle.tape_drive.specs.Looks.{Looks}
use Rattle.tape_drive.specs.declared.drive.Drive.{Ghosts}
use Rattle.tape_drive.proofs.Looking.{more_looks, no_looks}
use Rattle.cartridge_meaning.specs.Faults.{MountFault}
use Rattle.cartridge_meaning.specs.declared.errors.MountErr.{MountErr}
use Rattle.cartridge_meaning.specs.declared.errors.MountErr.TheVariants as errors
use Rattle.mount_recover.specs.Known.{mount_most}
use Rattle.mount_recover.specs.Labels.{AreCounts}
use Rattle.mount_recover.specs.Steps.{Blames}
use Rattle.promises.specs.ServingPromise.Ends.{bounded}
use Rattle.promises.specs.ServingPromise.Headline.{Closed, Failed, IsEndOf, ServeEnd, Short, serve_text, status_of}
use Rattle.promises.specs.ServingPromise.Meanings.{cartridges}
use Rattle.promises.specs.OrderLaws.Kept.{seen}
use Rattle.run_laws.specs.Went.{IsRunBy}
use Rattle.session_run.specs.Serving.{EndsSo, IsServedSo, IsUnserved, IsWhole, Whole, end_line, IsLookedAt}
use Rattle.session_run.specs.declared.ends.ServeEnd.{ServeEnd as VolumeEnd}
use Rattle.session_run.specs.declared.ends.ServeEnd.TheVariants as ends
use Rattle.session_run.specs.declared.ends.Served.{Served}
use Rattle.commands.specs.BasicCommands.Labels.{mount_status, mount_text}
use Rattle.commands.specs.BasicCommands.Outcomes.{IsTold}
use Rattle.ltfs_server.specs.Promises.{DoesServe}
use Rattle.commands.specs.BasicCommands.Runs.{IsScriptIn, Taken, Written}
use Rattle.commands.specs.BasicCommands.Scripts.{IsUnread, unread_status, unread_text}
use Rattle.session_run.specs.Serving.{HoldsTree}
use Rattle.session_run.specs.Timed.{TimedView, one_moment}
use Rattle.ltfs_server.specs.Serving.{IsServedEnd, IsServedRun, LeavesOwn, ServedEnd, end_status, served, served_log, served_status, served_text, unclosed, unscripted, unserved}
use Rattle.commands.specs.declared.basic_commands.scripts.Unread.{Unread}
use Rattle.commands.specs.declared.basic_commands.scripts.Unread.TheVariants as unread
use Rattle.ltfs_server.proofs.ServeClauses.{serve_does}
use Rattle.commands.proofs.BasicCommands.Told.{if_some}

-- want of memory blames no cartridge
nothing_blamed : (held : Option Cartridge) → IfSome held (λ c. Blames errors.NoMemory c)
nothing_blamed held = if_some held (λ c. Blames errors.NoMemory c) (λ c is. tt)

-- a fault of the cartridge blames it, and has no counts
pub blames : (e : MountErr) (held : Option Cartridge) → mount_status e ≡ 3 → IfSome held (λ c. MountFault c e) → IfSome held (λ c. Blames e c)
blames (errors.Vol1 part) held three is = is
blames (errors.Label part) held three is = is
blames errors.LabelsDiffer held three is = is
blames (errors.Layout place) held three is = is
blames errors.NoIndex held three is = is
blames (errors.BadIndex place why) held three is = is
blames (errors.WrongVolume place) held three is = is
blames (errors.WrongPointer place) held three is = is
blames (errors.BadExtent uid) held three is = is
blames (errors.Drive said) held three is = absurd (cc three)
blames errors.NoMemory held three is = absurd (cc three)

-- a mount that ends with status 3 tells no fault of the drive
pub no_counts : (e : MountErr) (before now : ℕ) → mount_status e ≡ 3 → AreCounts before now e
no_counts (errors.Vol1 part) before now three = tt
no_counts (errors.Label part) before now three = tt
no_counts errors.LabelsDiffer before now three = tt
no_counts (errors.Layout place) before now three = tt
no_counts errors.NoIndex before now three = tt
no_counts (errors.BadIndex place why) before now three = tt
no_counts (errors.WrongVolume place) before now three = tt
no_counts (errors.WrongPointer place) before now three = tt
no_counts (errors.BadExtent uid) before now three = tt
no_counts (errors.Drive said) before now three = absurd (cc three)
no_counts errors.NoMemory before now three = tt

module _ {D : Type 0} (drive : Ghosts D) (moment : Option Moment) (source : Taken) (sink : Written) (status : ℕ) where
  -- nothing was done, and why there is no script is told, or that memory was refused
  pub serve_unread : (old new : D) (log : Option Log) (why : Unread) → new ≡ old → log ≡ None → drive.commands old ≤ 2 ^ 64 - 1 → IsUnread source why
      → (wanted : ℕ) → wanted ≡ unread_status why → IsTold wanted (unread_text why) sink status ⊎ IsTold 7 (codes "memory\n") sink status
      → DoesServe moment source drive old new sink status log
  serve_unread old new log why same none range is wanted status_is told =
      subst (λ d. DoesServe moment source drive old d sink status log) (sym same) (by told)
    where
      does : (end : Unread) → IsUnread source end → IsTold (unread_status end) (unread_text end) sink status → DoesServe moment source drive old old sink status log
      does end is told = serve_does drive old old moment source sink log status (unscripted end) is
          (λ _. more_looks drive 0 _ old old (omega arith) (no_looks drive old range)) refl (λ held. held) (none, told)

      by : IsTold wanted (unread_text why) sink status ⊎ IsTold 7 (codes "memory\n") sink status → DoesServe moment source drive old old sink status log
      by (inl told) = does why is (subst (λ w. IsTold w (unread_text why) sink status) status_is told)
      by (inr told) = does unread.NoMemory tt told

  -- memory was refused before the mount, which is told
  pub serve_refused : (old new : D) (log : Option Log) → new ≡ old → log ≡ None → drive.commands old ≤ 2 ^ 64 - 1
      → IsTold 7 (codes "memory\n") sink status → DoesServe moment source drive old new sink status log
  serve_refused old new log same none range told =
      serve_unread old new log unread.NoMemory same none range tt 7 refl (inr told)

  -- the cartridge was looked at and not served, which is told, or that memory was refused
  pub serve_unmounted : (old mid new : D) (log : Option Log) (e : MountErr) → new ≡ mid → log ≡ None → ((script : List ScriptLine) × IsScriptIn source script)
      → IfSome (drive.held old) (λ c. Blames e c) → AreCounts (drive.faults old) (drive.faults mid) e
      → Looks drive (mount_most (drive.limits old) * drive.MOST) old mid
      → (wanted : ℕ) → wanted ≡ mount_status e → IsTold wanted (mount_text e) sink status ⊎ IsTold 7 (codes "memory\n") sink status
      → DoesServe moment source drive old new sink status log
  serve_unmounted old mid new log e same none script is counts looks wanted status_is told =
      subst (λ d. DoesServe moment source drive old d sink status log) (sym same) (by told)
    where
      does : (e : MountErr) → IfSome (drive.held old) (λ c. Blames e c) → AreCounts (drive.faults old) (drive.faults mid) e
          → IsTold (mount_status e) (mount_text e) sink status → DoesServe moment source drive old mid sink status log
      does e is counts told = serve_does drive old mid moment source sink log status (unserved e) (script, is, counts)
          (λ _. looks) looks.limits (λ held. looks.held ∙ held) (none, told)

      by : IsTold wanted (mount_text e) sink status ⊎ IsTold 7 (codes "memory\n") sink status → DoesServe moment source drive old mid sink status log
      by (inl told) = does e is counts (subst (λ w. IsTold w (mount_text e) sink status) status_is told)
      by (inr told) = does errors.NoMemory (nothing_blamed (drive.held old)) tt told

-- a clock that gives the moment of the words has it as its one moment
pub timed_does : {C : Type 0} (one : C → Option Moment) (at : Option Moment) (clock : C) (timed : TimedView C) → timed ≡ record { at = at; clock = clock }
    → {D : Type 0} (drive : Ghosts D) (source : Taken) (old new : D) (sink : Written) (status : ℕ) (log : Option Log)
    → DoesServe (one_moment timed.at (one timed.clock)) source drive old new sink status log → DoesServe (one_moment at (one clock)) source drive old new sink status log
timed_does {C} one at clock timed same drive source old new sink status log does =
    subst (λ (t : TimedView C). DoesServe (one_moment t.at (one t.clock)) source drive old new sink status log) same does

-- ---- a script that was run

module _ {D : Type 0} (drive : Ghosts D) (moment : Option Moment) (source : Taken) (sink : Written) (status : ℕ) (script : List ScriptLine) (is : IsScriptIn source script)
    (start now : D) (log : Log) (limits : drive.limits now ≡ drive.limits start) (untold : drive.held start ≡ None → drive.held now ≡ None) where
  run_of : IsRunBy drive script moment start now log → IsServedRun drive start now moment source log
  run_of run = record { script = script; spelled = is.spelled; whole = is.whole; run = run }

  does : (result : Option Log) (end : ServedEnd) → IsServedEnd drive start now moment source end → result ≡ Some log → served_log end ≡ Some log
      → IsTold (served_status end) (served_text end) sink status → DoesServe moment source drive start now sink status result
  does result end ended result_is logged told = serve_does drive start now moment source sink result status end ended
      (λ none. absurd (let bad : None ≡ Some log = sym none ∙ logged in cc bad)) limits untold (result_is ∙ sym logged, told)

  -- it ended so, which is told
  ended : (end : ServeEnd) (result : Option Log) → HoldsTree (drive.held start) → IsRunBy drive script moment start now log
      → IsEndOf cartridges script (seen drive start) (seen drive now) log end → LeavesOwn drive start now moment end script log → result ≡ Some log
      → IsTold (status_of end) (serve_text log end) sink status → DoesServe moment source drive start now sink status result
  ended end result tree run ends own same told = does result (served log end)
      (tree, record { script = script; spelled = is.spelled; whole = is.whole; run = record { run = run; ends = ends; own = own } }) same refl told

  by_end : (end : VolumeEnd) → IsServedSo drive start now moment script log end → IsTold (end_status end) (log_text log ++ end_line end) sink status
      → DoesServe moment source drive start now sink status (Some log)
  by_end (ends.Done generation s t n) is_so told =
      ended (Closed generation) (Some log) is_so.mounted is_so.run is_so.ends.closed is_so.ends.own refl
      (subst (λ m. IsTold 0 (log_text log ++ end_line (ends.Done generation (bounded (steps log.events)) m n)) sink status) is_so.ends.travel_is
      (subst (λ m. IsTold 0 (log_text log ++ end_line (ends.Done generation m t n)) sink status) is_so.ends.steps_are told))
  by_end (ends.Full need limit) is_so told = ended (Short need limit) (Some log) is_so.mounted is_so.run is_so.ends tt refl told
  by_end (ends.Drive counts) is_so told = ended (Failed counts) (Some log) is_so.mounted is_so.run is_so.ends tt refl told
  by_end ends.NoMemory is_so told = does (Some log) (unclosed log) (run_of is_so.run) refl refl told
  by_end (ends.Volume error) is_so told = absurd is_so.ends

-- ---- whatever came of it

module _ {D : Type 0} (drive : Ghosts D) (moment : Option Moment) (source : Taken) (sink : Written) (status : ℕ) (script : List ScriptLine) (is : IsScriptIn source script) (start now : D) where
  -- no call was made, for this cause
  unserved_does : (e : MountErr) → IfSome (drive.held start) (λ c. Blames e c) → AreCounts (drive.faults start) (drive.faults now) e → IsLookedAt drive start now
      → IsTold (mount_status e) (mount_text e) sink status → DoesServe moment source drive start now sink status None
  unserved_does e blamed counts looked told =
      serve_unmounted drive moment source sink status start now now None e refl refl (script, is) blamed counts looked.looks (mount_status e) refl (inl told)

  by_cause : (end : VolumeEnd) → IsLookedAt drive start now → IsUnserved (drive.held start) (drive.faults start) (drive.faults now) end → IsTold (end_status end) (end_line end) sink status
      → DoesServe moment source drive start now sink status None
  by_cause (ends.Volume e) looked cause told =
      unserved_does e (blames e (drive.held start) cause.0 cause.1) (no_counts e _ _ cause.0) looked
      (subst (λ w. IsTold w (mount_text e) sink status) (sym cause.0) told)
  by_cause (ends.Drive counts) looked cause told =
      unserved_does (errors.Drive counts) (if_some (drive.held start) (λ c. Blames (errors.Drive counts) c) (λ c held. tt)) cause looked told
  by_cause ends.NoMemory looked cause told = unserved_does errors.NoMemory (nothing_blamed (drive.held start)) tt looked told
  by_cause (ends.Done generation s t n) looked cause told = absurd cause
  by_cause (ends.Full need limit) looked cause told = absurd cause

  -- the end is told, or that memory was refused for that
  by_none : (end : VolumeEnd) → IsWhole drive start now moment script None end → (wanted : ℕ) → wanted ≡ end_status end
      → IsTold wanted (end_line end) sink status ⊎ IsTold 7 (codes "memory\n") sink status
      → DoesServe moment source drive start now sink status None
  by_none end whole wanted status_is (inl told) =
      by_cause end whole.0 whole.1 (subst (λ w. IsTold w (end_line end) sink status) status_is told)
  by_none end whole wanted status_is (inr told) =
      unserved_does errors.NoMemory (nothing_blamed (drive.held start)) tt whole.0 told

  -- the end is told behind the log
  by_some : (log : Log) (end : VolumeEnd) → IsWhole drive start now moment script (Some log) end
      → IsTold (end_status end) (log_text log ++ end_line end) sink status
      → DoesServe moment source drive start now sink status (Some log)
  by_some log end whole told =
      by_end drive moment source sink status script is start now log whole.limits whole.untold end whole told

module _ {D K : Type 0} (drive : Ghosts D) (moment : Option Moment) (source : Taken) (sink : Written) (status : ℕ)
    (script : List ScriptLine) (start new : D) (s : Served D K) (result : Option Log)
    (whole : Whole drive start moment script s) (is : IsScriptIn source script) (back : new ≡ s.drive) where
  -- what came of a script of which no call was made, and was told, is what `serve` promises
  pub unlogged_told : s.log ≡ None → result ≡ None → (wanted : ℕ) → wanted ≡ end_status s.end
      → IsTold wanted (end_line s.end) sink status ⊎ IsTold 7 (codes "memory\n") sink status
      → DoesServe moment source drive start new sink status result
  unlogged_told none same wanted status_is told =
      subst (λ (e : D × Option Log). DoesServe moment source drive start e.0 sink status e.1)
      (λ i. (sym back i, sym same i))
      (by_none drive moment source sink status script is start s.drive s.end
      (subst (λ l. IsWhole drive start s.drive moment script l s.end) none whole) wanted status_is told)

  -- and of one whose calls were made
  pub logged_told : (log : Log) → s.log ≡ Some log → result ≡ Some log
      → IsTold (end_status s.end) (log_text log ++ end_line s.end) sink status
      → DoesServe moment source drive start new sink status result
  logged_told log some same told =
      subst (λ (e : D × Option Log). DoesServe moment source drive start e.0 sink status e.1)
      (λ i. (sym back i, sym same i))
      (by_some drive moment source sink status script is start s.drive log s.end
      (subst (λ l. IsWhole drive start s.drive moment script l s.end) some whole) told)

-- where calls were made the cartridge was mounted
pub was_mounted : {D K : Type 0} (drive : Ghosts D) (moment : Option Moment) (script : List ScriptLine) (start : D)
    (s : Served D K) → Whole drive start moment script s
    → IfSome s.log (λ log. (error : MountErr) → s.end ≢ ends.Volume error)
was_mounted {D} drive moment script start s whole = by s.log whole
  where
    by : (log : Option Log) → IsWhole drive start s.drive moment script log s.end
        → IfSome log (λ log. (error : MountErr) → s.end ≢ ends.Volume error)
    by None whole = tt
    by (Some log) whole = λ error bad.
        absurd (subst (λ e. EndsSo drive start s.drive moment script log e) bad whole.ends)
