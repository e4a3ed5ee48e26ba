-- What serving gives, step by step: what was mounted can be served, a volume was begun, and it was run and closed.
use Rattle.std.proofs.Common.{◌≡◌, ◌∙◌, ℕ, ◌+◌, ◌*◌, ◌-◌, ◌^◌, ◌≤◌, List, [], ◌∷◌, filter_map, min, Option, Some, refl, sym, ap, subst, arith}
use Rattle.std.specs.Prelude.{IfSome}
use Rattle.tape_types.specs.declared.cartridges.Cartridge.{Cartridge}
use Rattle.tape_types.specs.declared.cartridges.Limits.{Limits}
use Rattle.tape_types.specs.declared.cartridges.Twin.{Twin}
use Rattle.tape_types.specs.declared.moments.Moment.{Moment}
use Rattle.session_script.specs.declared.scripts.ScriptLine.{ScriptLine}
use Rattle.head_queue.specs.EventLaws.Trail.{fault_of, steps, travel}
use Rattle.tape_drive.specs.declared.drive.Drive.{Ghosts}
use Rattle.cartridge_meaning.specs.Carried.{carried}
use Rattle.cartridge_meaning.specs.Mounts.{IsMount, Mounts}
use Rattle.cartridge_meaning.specs.declared.errors.MountErr.{MountErr}
use Rattle.cartridge_meaning.specs.declared.errors.MountErr.TheVariants as errors
use Rattle.cartridge_meaning.specs.declared.mounted.Mounted.{Mounted}
use Rattle.mount_recover.specs.Known.{mount_most}
use Rattle.mount_recover.specs.Labels.{AreCounts}
use Rattle.mount_recover.specs.Lasts.{IsSoundMount}
use Rattle.mount_recover.specs.Steps.{Blames}
use Rattle.promises.specs.ServingPromise.Ends.{Closes, Starts, begun, bounded}
use Rattle.promises.specs.ServingPromise.Faults.{AreRises}
use Rattle.promises.specs.ServingPromise.Meanings.{cartridges}
use Rattle.promises.specs.ServingPromise.Served.{Fixed, View}
use Rattle.promises.specs.declared.serving_promise.answers.CloseEnd.{CloseEnd}
use Rattle.promises.specs.declared.serving_promise.answers.CloseEnd.TheVariants as close_ends
use Rattle.promises.specs.declared.serving_promise.contract.Closed.{Closed}
use Rattle.promises.specs.OrderLaws.Kept.{seen}
use Rattle.run_laws.specs.Laws.{IsPlayed, IsRun, PlaysAreRuns}
use Rattle.volume_core.specs.Promised.{LeavesOwnIndexes}
use Rattle.tape_desk.specs.Held.{HeldView, constants}
use Rattle.session_run.proofs.OwnRuns.{own_on_top}
use Rattle.session_run.specs.Ran.{HasRun, IsServedWhole}
use Rattle.session_run.specs.declared.ran.RanEnd.{RanEnd}
use Rattle.session_run.specs.declared.ran.RanEnd.TheVariants as run_ends
use Rattle.session_run.specs.Serving.{EndsSo, HoldsTree, IsBegun, IsLookedAt, IsServedSo, IsUnserved, IsWhole, Whole, closed_end, mount_end}
use Rattle.session_run.specs.declared.ends.ServeEnd.{ServeEnd}
use Rattle.session_run.specs.declared.ends.Served.{Served}
use Rattle.mount_recover.proofs.LabelRanges.{block_in_range, letters_in_range}
use Rattle.commands.proofs.BasicCommands.Told.{if_some, of_some}

-- what was mounted can be served
pub is_mount : (limits : Limits) (m : Mounted) → IsSoundMount limits m → IsMount limits m
is_mount limits m sound =
    let letters = letters_in_range sound.spelled.0 _ sound.spelled.1 in record {
      blocks = block_in_range sound.spelled.0 _ sound.spelled.1;
      letters = (letters.0, letters.1, sound.letters);
      valid = sound.valid;
      uuid = sound.uuid;
      newest = sound.newest;
      fits = sound.fits;
      last_dp = sound.last_dp;
      ip_end = sound.ip_end;
      dp_end = sound.dp_end;
    }

-- ---- a volume that was begun

module _ {D : Type 0} (drive : Ghosts D) (start first : D) (mounted : Mounted) (script : List ScriptLine) (since : ℕ) (next moment : Option Moment) (v : View D)
    (starts : Starts cartridges (seen drive first) mounted first script since next moment v) where
  -- a volume that is mounted from a drive which was only looked at is begun
  pub begun_on : IfSome (drive.held first) (λ c. Mounts c mounted) → IsLookedAt drive start first → since ≡ drive.commands start → IsBegun drive start v.fixed
  begun_on mounts looked since_is = subst (λ (w : View D). IsBegun drive start w.fixed) (sym starts.begins) record {
    looked = looked;
    since = since_is;
    mounted = λ c held. (of_some (drive.held first) (λ c. Mounts c mounted) c held mounts, of_some (drive.held first) _ c held starts.reads_as);
  }

  -- it has the script and the moment that it was begun with
  pub whole_on : {K : Type 0} (served : Served D K) → Whole drive start v.fixed.moment v.fixed.script served → Whole drive start moment script served
  whole_on served is = subst (λ (w : View D). Whole drive start w.fixed.moment w.fixed.script served) starts.begins is

-- ---- a volume that was closed

-- counts that rose one after the other stand above where they began, or at their end
rose_to : (before now : ℕ) (faults : List Twin) → AreRises before now faults → min before (2 ^ 64 - 1) ≤ now
rose_to before now [] rises = omega (arith, rises)
rose_to before now (t ∷ more) (lowest, rose, rest) = let later : min t.after (2 ^ 64 - 1) ≤ now = rose_to t.after now more rest in omega (arith, lowest, rose, later)

module _ {D : Type 0} (drive : Ghosts D) (plays : PlaysAreRuns drive) (start : D) (v : View D) (closed : Closed D) (on : IsBegun drive start v.fixed) (whole : IsServedWhole drive v)
    (closes : Closes cartridges (seen drive v.fixed.first) (seen drive v.drive) (seen drive closed.drive) v closed.drive closed.log closed.outcome closed.steps closed.travel closed.nodes)
    (own : LeavesOwnIndexes drive v closed.drive closed.outcome) where
  played : IsPlayed drive v.fixed.script v.fixed.moment start v
  played = record {
    most = mount_most (drive.limits start) * drive.MOST;
    looked = on.looked.looks;
    faults = on.looked.faults;
    since = on.since;
    script_is = refl;
    moment = if_some v.fixed.moment (λ m. v.fixed.moment ≡ Some m) (λ m told. told);
    mounted = on.mounted;
    served = whole.promised.served;
    logged = whole.promised.logged;
    gone = whole.promised.gone;
    history = whole.history;
    count = whole.promised.count;
    nothing = whole.nothing;
  }

  ran : IsRun drive v.fixed.script v.fixed.moment start closed.drive closed.log closed.outcome closed.nodes
  ran = plays v.fixed.script v.fixed.moment start v closed.drive closed.log closed.outcome closed.steps closed.travel closed.nodes played closes

  tree : HoldsTree (drive.held start)
  tree = if_some (drive.held start) _ (λ c held. let found = on.mounted c (on.looked.looks.held ∙ held) in (carried v.fixed.mounted.index, v.fixed.tree, v.fixed.mounted.newest, found.1))

  faults_rose : drive.faults start ≤ 2 ^ 64 - 1 → drive.faults start ≤ drive.faults closed.drive
  faults_rose range =
      let served : min (drive.faults v.fixed.first) (2 ^ 64 - 1) ≤ drive.faults v.drive = rose_to _ _ (filter_map fault_of v.events) whole.promised.served.orderly.faults.rises in
      omega (arith, range, on.looked.faults, served, closes.faults)

  ends_so : (outcome : CloseEnd) (step_count travel_sum nodes : ℕ) → LeavesOwnIndexes drive v closed.drive outcome → IsRun drive v.fixed.script v.fixed.moment start closed.drive closed.log outcome nodes
      → step_count ≡ bounded (steps closed.log.events) → travel_sum ≡ bounded (travel closed.log.events)
      → EndsSo drive start closed.drive v.fixed.moment v.fixed.script closed.log (closed_end outcome step_count travel_sum nodes)
  ends_so (close_ends.Done generation) step_count travel_sum nodes left run steps_are travel_is = record {
    closed = run.end;
    steps_are = steps_are;
    travel_is = travel_is;
    nodes_are = run.nodes_are;
    own = own_on_top drive v.fixed.script v.fixed.moment start v closed.drive closed.log closed.outcome closed.steps closed.travel closed.nodes played closes generation left;
  }
  ends_so (close_ends.Full need limit) step_count travel_sum nodes left run steps_are travel_is = run.end
  ends_so (close_ends.Fault counts) step_count travel_sum nodes left run steps_are travel_is = run.end
  ends_so close_ends.NoMemory step_count travel_sum nodes left run steps_are travel_is = tt

  was : drive.faults start ≤ 2 ^ 64 - 1
      → IsServedSo drive start closed.drive v.fixed.moment v.fixed.script closed.log (closed_end closed.outcome closed.steps closed.travel closed.nodes)
  was range = record {
    run = ran.run;
    ends = ends_so closed.outcome closed.steps closed.travel closed.nodes own ran
        (closes.steps_are ∙ ap (λ events. bounded (steps events)) (sym closes.log_is.events))
        (closes.travel_is ∙ ap (λ events. bounded (travel events)) (sym closes.log_is.events));
    mounted = tree;
    faults = faults_rose range;
    limits = closes.limits ∙ on.looked.looks.limits;
    untold = λ held. closes.untold (on.looked.looks.held ∙ held);
  }

-- ---- how a run ended, of a shelf that was opened

module _ {D K : Type 0} (drive : Ghosts D) (old new opened : HeldView D K) (is : opened ≡ new) (outcome : RanEnd)
    (has : HasRun drive old new outcome) where
  -- all calls of a run were made
  pub ran_whole : outcome ≡ run_ends.Done → (constants opened ≡ constants old) × IsServedWhole drive opened.volume
  ran_whole done =
      subst (λ (h : HeldView D K). (constants h ≡ constants old) × IsServedWhole drive h.volume) (sym is)
      (subst (HasRun drive old new) done has)

  -- nothing was asked of the volume, and nothing was printed
  pub ran_none : outcome ≡ run_ends.NoMemory → opened ≡ old
  ran_none none = is ∙ subst (HasRun drive old new) none has

-- of the volume as it was begun, which has what no call changes
pub was_served : {D K : Type 0} (drive : Ghosts D) → PlaysAreRuns drive → (start : D) (begun v : View D) (closed : Closed D) (served : Served D K)
    → served.drive ≡ closed.drive → served.log ≡ Some closed.log → served.end ≡ closed_end closed.outcome closed.steps closed.travel closed.nodes
    → v.fixed ≡ begun.fixed → drive.faults start ≤ 2 ^ 64 - 1 → IsBegun drive start begun.fixed → IsServedWhole drive v
    → Closes cartridges (seen drive v.fixed.first) (seen drive v.drive) (seen drive closed.drive) v closed.drive closed.log closed.outcome closed.steps closed.travel closed.nodes
    → LeavesOwnIndexes drive v closed.drive closed.outcome → Whole drive start begun.fixed.moment begun.fixed.script served
was_served {D} {K} drive plays start begun v closed served drive_is log_is end_is same range on whole closes own =
    subst (λ d. IsWhole drive start d begun.fixed.moment begun.fixed.script served.log served.end) (sym drive_is)
    (subst (λ l. IsWhole drive start closed.drive begun.fixed.moment begun.fixed.script l served.end) (sym log_is)
    (subst (λ e. IsServedSo drive start closed.drive begun.fixed.moment begun.fixed.script closed.log e) (sym end_is)
    (subst (λ (f : Fixed D). IsServedSo drive start closed.drive f.moment f.script closed.log (closed_end closed.outcome closed.steps closed.travel closed.nodes)) same
    (was drive plays start v closed (subst (IsBegun drive start) (sym same) on) whole closes own range))))

-- ---- no call was made

-- the cartridge was not mounted
mount_ends : (e : MountErr) (held : Option Cartridge) (before now : ℕ) → IfSome held (λ c. Blames e c) → AreCounts before now e → IsUnserved held before now (mount_end e)
mount_ends (errors.Vol1 part) held before now blamed counts = (refl, blamed)
mount_ends (errors.Label part) held before now blamed counts = (refl, blamed)
mount_ends errors.LabelsDiffer held before now blamed counts = (refl, blamed)
mount_ends (errors.Layout place) held before now blamed counts = (refl, blamed)
mount_ends errors.NoIndex held before now blamed counts = (refl, blamed)
mount_ends (errors.BadIndex place why) held before now blamed counts = (refl, blamed)
mount_ends (errors.WrongVolume place) held before now blamed counts = (refl, blamed)
mount_ends (errors.WrongPointer place) held before now blamed counts = (refl, blamed)
mount_ends (errors.BadExtent uid) held before now blamed counts = (refl, blamed)
mount_ends (errors.Drive said) held before now blamed counts = counts
mount_ends errors.NoMemory held before now blamed counts = tt

-- a cartridge that isn't mounted is unserved
pub unmounted : {D : Type 0} (drive : Ghosts D) (start now : D) (e : MountErr) (end : ServeEnd) → end ≡ mount_end e
    → ((c : Cartridge) → drive.held start ≡ Some c → Blames e c) → AreCounts (drive.faults start) (drive.faults now) e → IsLookedAt drive start now
    → IsLookedAt drive start now × IsUnserved (drive.held start) (drive.faults start) (drive.faults now) end
unmounted drive start now e end end_is blamed counts looked = (
  looked,
  subst (IsUnserved (drive.held start) (drive.faults start) (drive.faults now)) (sym end_is)
      (mount_ends e (drive.held start) (drive.faults start) (drive.faults now) (if_some (drive.held start) (λ c. Blames e c) blamed) counts),
)
