-- What is promised of `make`, by what came of the script.
use Rattle.std.proofs.Common.{◌≡◌, ◌∙◌, ℕ, ◌-◌, ◌^◌, ◌≤◌, Option, Some, None, codes, refl, sym, subst, inl, inr, arith, ◌⊎◌}
use Rattle.std.specs.Prelude.{IfSome}
use Rattle.tape_types.specs.declared.moments.Moment.{Moment}
use Rattle.session_script.specs.Made.{made_script}
use Rattle.session_script.specs.declared.logs.Log.{Log}
use Rattle.tape_drive.specs.declared.drive.Drive.{Ghosts}
use Rattle.tape_drive.proofs.Looking.{more_looks, no_looks}
use Rattle.cartridge_meaning.specs.declared.errors.MountErr.{MountErr}
use Rattle.cartridge_meaning.specs.declared.errors.MountErr.TheVariants as errors
use Rattle.mount_recover.specs.Labels.{AreCounts}
use Rattle.mount_recover.specs.Steps.{Blames}
use Rattle.promises.specs.ServingPromise.Headline.{Closed, Failed, Short}
use Rattle.commands.specs.BasicCommands.Labels.{mount_status, mount_text}
use Rattle.ltfs_server.specs.Making.{IsMadeEnd, MadeEnd, closed_line, made, made_log, made_status, made_text, starved, unmade}
use Rattle.commands.specs.BasicCommands.Outcomes.{IsTold}
use Rattle.ltfs_server.specs.Promises.{DoesMake}
use Rattle.commands.specs.BasicCommands.Runs.{Written}
use Rattle.session_run.specs.Serving.{IsLookedAt, IsServedSo, IsUnserved, IsWhole, Whole, end_line}
use Rattle.session_run.specs.declared.ends.ServeEnd.{ServeEnd as VolumeEnd}
use Rattle.session_run.specs.declared.ends.ServeEnd.TheVariants as ends
use Rattle.session_run.specs.declared.ends.Served.{Served}
use Rattle.ltfs_server.specs.Serving.{end_status}
use Rattle.ltfs_server.proofs.ServeSteps.{blames, no_counts}
use Rattle.session_run.specs.Timed.{TimedView, one_moment}
use Rattle.ltfs_server.proofs.MakeClauses.{make_does}
use Rattle.commands.proofs.BasicCommands.Told.{if_some}

-- a clock that gives the moment of the words has it as its one moment
pub timed_makes : {C : Type 0} (one : C → Option Moment) (at : Option Moment) (clock : C) (timed : TimedView C) → timed ≡ record { at = at; clock = clock }
    → {D : Type 0} (count : ℕ) (drive : Ghosts D) (old new : D) (sink : Written) (status : ℕ) (log : Option Log)
    → DoesMake (one_moment timed.at (one timed.clock)) count drive old new sink status log → DoesMake (one_moment at (one clock)) count drive old new sink status log
timed_makes {C} one at clock timed same count drive old new sink status log does =
    subst (λ (t : TimedView C). DoesMake (one_moment t.at (one t.clock)) count drive old new sink status log) same does

module _ {D : Type 0} (drive : Ghosts D) (moment : Option Moment) (count : ℕ) (sink : Written) (status : ℕ) where
  -- the cartridge was looked at and no call was made, for this cause
  looked_does : (old mid : D) (e : MountErr) → IfSome (drive.held old) (λ c. Blames e c) → AreCounts (drive.faults old) (drive.faults mid) e → IsLookedAt drive old mid
      → IsTold (mount_status e) (mount_text e) sink status → DoesMake moment count drive old mid sink status None
  looked_does old mid e is counts looked told =
      make_does drive old mid moment count sink None status (unmade e) (is, counts) (λ _. looked.looks) looked.looks.limits (λ held. looked.looks.held ∙ held) (refl, told)

  abbrev Does : D → D → Option Log → Type 0
  Does old new log = DoesMake moment count drive old new sink status log

  -- memory was refused before the first call, which is told
  make_starved : (old mid new : D) (log : Option Log) → new ≡ mid → log ≡ None → IsLookedAt drive old mid → IsTold 7 (codes "memory\n") sink status → Does old new log
  make_starved old mid new log same none looked told =
      subst (λ d. Does old d log) (sym same) (subst (Does old mid) (sym none)
      (looked_does old mid errors.NoMemory (if_some (drive.held old) (λ c. Blames errors.NoMemory c) (λ c held. tt)) tt looked told))

  -- it was before the cartridge was mounted
  pub make_unbegun : (old new : D) (log : Option Log) → new ≡ old → log ≡ None → drive.commands old ≤ 2 ^ 64 - 1 → IsTold 7 (codes "memory\n") sink status → Does old new log
  make_unbegun old new log same none range told = make_starved old old new log same none (record {
    looks = more_looks drive 0 _ old old (omega arith) (no_looks drive old range);
    faults = omega arith;
  }) told

-- ---- a script that was run

module _ {D : Type 0} (drive : Ghosts D) (moment : Option Moment) (count : ℕ) (start now : D) (log : Log) (sink : Written) (status : ℕ)
    (limits : drive.limits now ≡ drive.limits start) (untold : drive.held start ≡ None → drive.held now ≡ None) where
  does : (end : MadeEnd) → IsMadeEnd drive start now moment count end → made_log end ≡ Some log → IsTold (made_status end) (made_text end) sink status
      → DoesMake moment count drive start now sink status (Some log)
  does end is logged told = make_does drive start now moment count sink (Some log) status end is
      (λ none. absurd (let bad : None ≡ Some log = sym none ∙ logged in cc bad)) limits untold (sym logged, told)

  -- it ended so, and the line of that is told
  by_end : (end : VolumeEnd) → IsServedSo drive start now moment (made_script count) log end → IsTold (end_status end) (closed_line (Some log) end) sink status
      → DoesMake moment count drive start now sink status (Some log)
  by_end (ends.Done generation s t n) so told =
      does (made log (Closed generation) n) (so.mounted, record { ended = record { run = so.run; ends = so.ends.closed; own = so.ends.own }; nodes_are = so.ends.nodes_are }) refl told
  by_end (ends.Full need limit) so told =
      does (made log (Short need limit) 0) (so.mounted, record { ended = record { run = so.run; ends = so.ends; own = tt }; nodes_are = λ tree mounted can. tt }) refl told
  by_end (ends.Drive counts) so told =
      does (made log (Failed counts) 0) (so.mounted, record { ended = record { run = so.run; ends = so.ends; own = tt }; nodes_are = λ tree mounted can. tt }) refl told
  by_end ends.NoMemory so told = does (starved log) so.run refl told
  by_end (ends.Volume error) so told = absurd so.ends

-- ---- whatever came of it

module _ {D : Type 0} (drive : Ghosts D) (moment : Option Moment) (count : ℕ) (sink : Written) (status : ℕ) (start now : D) where
  -- no call was made, for this cause
  by_cause : (end : VolumeEnd) → IsLookedAt drive start now → IsUnserved (drive.held start) (drive.faults start) (drive.faults now) end → IsTold (end_status end) (end_line end) sink status
      → DoesMake moment count drive start now sink status None
  by_cause (ends.Volume e) looked cause told =
      looked_does drive moment count sink status start now e (blames e (drive.held start) cause.0 cause.1) (no_counts e _ _ cause.0) looked
      (subst (λ w. IsTold w (mount_text e) sink status) (sym cause.0) told)
  by_cause (ends.Drive counts) looked cause told =
      looked_does drive moment count sink status start now (errors.Drive counts) (if_some (drive.held start) (λ c. Blames (errors.Drive counts) c) (λ c held. tt)) cause looked told
  by_cause ends.NoMemory looked cause told = make_starved drive moment count sink status start now now None refl refl looked told
  by_cause (ends.Done generation s t n) looked cause told = absurd cause
  by_cause (ends.Full need limit) looked cause told = absurd cause

  -- the end is told, or that memory was refused for that
  by_log : (log : Option Log) (end : VolumeEnd) → IsWhole drive start now moment (made_script count) log end → (wanted : ℕ) → wanted ≡ end_status end
      → IsTold wanted (closed_line log end) sink status ⊎ IsTold 7 (codes "memory\n") sink status → DoesMake moment count drive start now sink status log
  by_log None end whole wanted status_is (inl told) = by_cause end whole.0 whole.1 (subst (λ w. IsTold w (closed_line None end) sink status) status_is told)
  by_log None end whole wanted status_is (inr told) = make_starved drive moment count sink status start now now None refl refl whole.0 told
  by_log (Some log) end whole wanted status_is (inl told) =
      by_end drive moment count start now log sink status whole.limits whole.untold end whole (subst (λ w. IsTold w (closed_line (Some log) end) sink status) status_is told)
  by_log (Some log) end whole wanted status_is (inr told) = does drive moment count start now log sink status whole.limits whole.untold (starved log) whole.run refl told

-- what came of a made script, and was told, is what `make` promises
pub make_told : {D K : Type 0} (drive : Ghosts D) (moment : Option Moment) (count : ℕ) (sink : Written) (status : ℕ) (start new : D) (s : Served D K) (result : Option Log)
    → Whole drive start moment (made_script count) s → new ≡ s.drive → result ≡ s.log → (wanted : ℕ) → wanted ≡ end_status s.end
    → IsTold wanted (closed_line s.log s.end) sink status ⊎ IsTold 7 (codes "memory\n") sink status → DoesMake moment count drive start new sink status result
make_told drive moment count sink status start new s result whole back same wanted status_is told =
    subst (λ d. DoesMake moment count drive start d sink status result) (sym back) (subst (DoesMake moment count drive start s.drive sink status) (sym same)
    (by_log drive moment count sink status start s.drive s.log s.end whole wanted status_is told))
