-- What a crash leaves of a run over the drive in memory is ready again.
use Rattle.std.specs.Prelude.{ℕ, ◌≡◌, [], List, IfSome, Option, Some, None}
use Rattle.std.proofs.Common.{◌∙◌, ap, arith, inl, refl, subst, sym}
use Rattle.tape_types.specs.declared.cartridges.Cartridge.{Cartridge}
use Rattle.tape_types.specs.declared.cartridges.Limits.{Limits}
use Rattle.tape_types.specs.declared.moments.Moment.{Moment}
use Rattle.plain_tree.specs.Tree.{Tree}
use Rattle.session_script.specs.declared.logs.Log.{Log}
use Rattle.session_script.specs.declared.scripts.ScriptLine.{ScriptLine}
use Rattle.tape_drive.specs.Laws.{lower}
use Rattle.tape_drive.specs.Memory.{View, made}
use Rattle.tape_drive.specs.Record.{Leaves}
use Rattle.tape_drive.specs.contracts.commands.MemDriveDrive.TheImpl.{ghosts}
use Rattle.tape_drive.specs.declared.schedule.Fail.{Fail}
use Rattle.tape_drive.proofs.Exact.{left_gave}
use Rattle.tape_drive.proofs.Since.{since_gave}
use Rattle.cartridge_meaning.specs.Carried.{Carried}
use Rattle.cartridge_meaning.specs.Notes.{HasHonestNotes}
use Rattle.cartridge_meaning.proofs.Honest.{honest_notes}
use Rattle.promises.specs.ServingPromise.Crash.{IsSound}
use Rattle.promises.specs.ServingPromise.Headline.{tree_of_log}
use Rattle.promises.specs.ServingPromise.Meanings.{cartridges}
use Rattle.promises.specs.OrderLaws.Kept.{seen}
use Rattle.run_laws.specs.Memory.{IsReady}
use Rattle.run_laws.proofs.Images.{new_ready}
use Rattle.commands.specs.CommandLine.Forms.{IsServe}
use Rattle.commands.specs.BasicCommands.Runs.{IsScriptIn, Taken, Written}
use Rattle.session_run.specs.Timed.{one_moment}
use Rattle.ltfs_server.specs.Again.{HoldsLog, IsReadyAgain}
use Rattle.ltfs_server.specs.Outcomes.{Run}
use Rattle.ltfs_server.specs.Ready.{IsReadyFor}
use Rattle.ltfs_server.specs.Runs.{RunsSo}
use Rattle.ltfs_server.specs.Sentence.{Asked, SentenceHolds, to_serve}
use Rattle.run_laws.proofs.Holding.{holds_in_count}

-- ready in the drive's own words is ready in those of the trait
ready_for : (facts : Carried) (tree : Tree) (generation : ℕ) (v : View) → IsReady facts tree generation v
    → IsReadyFor ghosts facts tree generation v
ready_for facts tree generation v ready = record {
  held = v.held;
  told = refl;
  reads_as = (ready.stands, ready.sound);
  reached = omega arith;
  sure = λ image left. ready.sure image (since_gave v.commands v.held v.acts v.commands image left);
}

module _ (asked : Asked) (moment : Option Moment) (source : Taken) (old new : View) (sink : Written) (status : ℕ) where
  -- without a log a crash leaves the cartridge that was ready
  as_it_was : SentenceHolds asked moment source ghosts old new sink status None
      → (facts : Carried) (tree : Tree) (generation : ℕ) → IsReady facts tree generation old
      → (image : Cartridge) → Leaves new.held new.acts image → image ≡ old.held
  as_it_was looks facts tree generation ready image left =
      ready.sure image (inl (left_gave old.held old.acts image (looks.reads.leaves image left)))

  -- whatever a crash leaves, a new drive with it is ready again
  pub ready_again : (log : Option Log) → SentenceHolds asked moment source ghosts old new sink status log
      → (facts : Carried) (tree : Tree) (generation : ℕ) → IsReady facts tree generation old
      → (image : Cartridge) → Leaves new.held new.acts image → (limits : Limits) (fails : List Fail)
      → IsReadyAgain asked source facts tree generation log (made image limits fails)
  ready_again None looks facts tree generation ready image left limits fails =
      subst (λ (c : Cartridge). IsReady facts tree generation (made c limits fails))
      (sym (as_it_was looks facts tree generation ready image left))
      (new_ready old.held limits fails facts tree generation ready.stands ready.sound)
  ready_again (Some log) s facts tree generation ready image left limits fails =
      let survives = s.crash facts tree generation (ready_for facts tree generation old ready) in
      let holds = holds_in_count s.script log facts tree (seen ghosts new).leavings old.commands survives
      (λ t u c le since. lower new.commands new.held new.acts t u c le since) image (λ t. inl left) in (
        s.script,
        s.is_asked,
        record {
          holds = holds;
          ready = new_ready image limits fails facts (tree_of_log s.script tree log holds.count) holds.generation
              holds.stands holds.sound;
        },
      )

  -- the same of a cartridge alone
  pub unserved : (log : Option Log) → SentenceHolds asked moment source ghosts old new sink status log → log ≡ None
      → (facts : Carried) (tree : Tree) (generation : ℕ) → IsReady facts tree generation old
      → (image : Cartridge) → Leaves new.held new.acts image → image ≡ old.held
  unserved None looks is facts tree generation ready image left =
      as_it_was looks facts tree generation ready image left
  unserved (Some log) s is facts tree generation ready image left = absurd (cc is)

-- ---- of a first run that kept all that is promised

module _ (r : Run) (drive new : View) (sink : Written) (status : ℕ) (log : Option Log)
    (runs : RunsSo r ghosts drive new sink status log) (is : IsServe r.words) where
  sentence : SentenceHolds to_serve (one_moment is.0 r.one) r.source ghosts drive new sink status log
  sentence = runs.headline to_serve (one_moment is.0 r.one) (is.0, is.1, refl)

  -- the drive that is made of what a crash left has the limits that were there at the start
  pub next_is : (next : View) (image left : Cartridge) → next ≡ made left new.limits [] → image ≡ left
      → next ≡ made image drive.limits []
  next_is next image left made_so same =
      made_so ∙ ap (λ (c : Cartridge). made c new.limits []) (sym same)
      ∙ ap (λ (limits : Limits). made image limits []) (runs.does.serve is.0 is.1).limits

  module _ (image : Cartridge) (left : Leaves new.held new.acts image) where
    -- what a crash leaves of a run over a drive in memory is ready for serving again
    pub again_ready : (facts : Carried) (tree : Tree) (generation : ℕ) → IsReady facts tree generation drive
        → IsReadyAgain to_serve r.source facts tree generation log (made image drive.limits [])
    again_ready facts tree generation ready =
        ready_again to_serve (one_moment is.0 r.one) r.source drive new sink status log sentence facts tree generation ready
        image left drive.limits []

    -- an image of a run that left a log holds that log
    pub was_served : IfSome log (λ (l : Log). (facts : Carried) (tree : Tree) (generation : ℕ)
        → IsReady facts tree generation drive
        → (lines : List ScriptLine) × IsScriptIn r.source lines × HoldsLog facts lines tree l image)
    was_served = by log again_ready
      where
        by : (l : Option Log) → ((facts : Carried) (tree : Tree) (generation : ℕ) → IsReady facts tree generation drive
            → IsReadyAgain to_serve r.source facts tree generation l (made image drive.limits []))
            → IfSome l (λ (l : Log). (facts : Carried) (tree : Tree) (generation : ℕ)
            → IsReady facts tree generation drive
            → (lines : List ScriptLine) × IsScriptIn r.source lines × HoldsLog facts lines tree l image)
        by None again = tt
        by (Some l) again = λ facts tree generation ready.
            let a = again facts tree generation ready in (a.0, a.1, a.2.holds)

    -- without a log a crash leaves the cartridge as it was
    pub not_served : (facts : Carried) (tree : Tree) (generation : ℕ) → IsReady facts tree generation drive
        → log ≡ None → image ≡ drive.held
    not_served facts tree generation ready none =
        unserved to_serve (one_moment is.0 r.one) r.source drive new sink status log sentence none facts tree generation
        ready image left

    honest_again : (facts : Carried) (tree : Tree) (generation : ℕ) → IsReady facts tree generation drive
        → HasHonestNotes image
    honest_again facts tree generation ready = by log (again_ready facts tree generation ready)
      where
        by : (l : Option Log) → IsReadyAgain to_serve r.source facts tree generation l (made image drive.limits [])
            → HasHonestNotes image
        by None again = honest_notes image again.sound.honest
        by (Some l) again = honest_notes image again.2.ready.sound.honest

    -- a drive that begins with what a crash leaves has honest notes
    pub next_honest : (next : View) → next ≡ made image drive.limits []
        → (facts : Carried) (tree : Tree) (generation : ℕ) → IsReady facts tree generation drive
        → HasHonestNotes next.held
    next_honest next is_made facts tree generation ready =
        subst (λ (v : View). HasHonestNotes v.held) (sym is_made) (honest_again facts tree generation ready)

-- what a run promises from one drive it promises from the same one by another name
pub runs_from : (r : Run) (before same new : View) (sink : Written) (status : ℕ) (log : Option Log)
    → RunsSo r ghosts before new sink status log → before ≡ same → RunsSo r ghosts same new sink status log
runs_from r before same new sink status log runs is =
    subst (λ (v : View). RunsSo r ghosts v new sink status log) is runs
