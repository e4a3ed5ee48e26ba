-- Images of a run over a drive in memory.
use Rattle.std.specs.Prelude.{◌≡◌, ◌≤◌, ◌<◌, ◌-◌, ◌^◌, ℕ, List, [], ◌∷◌, ◌++◌, length}
use Rattle.std.proofs.Common.{⊎_elim, inl, refl, arith}
use Rattle.tape_types.specs.declared.cartridges.Cartridge.{Cartridge}
use Rattle.plain_tree.specs.Tree.{Tree}
use Rattle.session_script.specs.declared.logs.Log.{Log}
use Rattle.session_script.specs.declared.scripts.ScriptLine.{ScriptLine}
use Rattle.tape_drive.specs.Images.{crash_image, moments}
use Rattle.tape_drive.specs.Laws.{lower}
use Rattle.tape_drive.specs.Memory.{View}
use Rattle.tape_drive.specs.Record.{LeftSince}
use Rattle.tape_drive.specs.Since.{GaveSince}
use Rattle.tape_drive.specs.declared.crash.Cut.{Cut}
use Rattle.tape_drive.specs.declared.record.DoneCommand.{DoneCommand}
use Rattle.tape_drive.proofs.Exact.{gave_left, image_left}
use Rattle.tape_drive.proofs.Since.{since_gave}
use Rattle.cartridge_meaning.specs.Carried.{Carried}
use Rattle.cartridge_meaning.specs.Meaning.{Stands}
use Rattle.promises.specs.ServingPromise.Acks.{AreReached}
use Rattle.promises.specs.ServingPromise.Crash.{IsSound, SurvivesCrashes}
use Rattle.promises.specs.ServingPromise.Headline.{tree_of_log}
use Rattle.promises.specs.ServingPromise.Meanings.{cartridges}
use Rattle.promises.specs.ServingPromise.Served.{CanTell}
use Rattle.run_laws.proofs.Holding.{holds_now, holds_then}
use Rattle.run_laws.specs.Memory.{HoldsAcked, IsReady, NewDrivesAreReady, RunSurvives, acked_by, in_memory}

-- ---- what a crash leaves

module _ (script : List ScriptLine) (first now : View) (log : Log) (facts : Carried) (tree : Tree)
    (survives : SurvivesCrashes cartridges facts (tree_of_log script tree log) (length log.history) log.acks
    (in_memory now).leavings first.commands) where
  earlier : (t u : ℕ) (image : Cartridge) → t ≤ u → LeftSince now.commands now.held now.acts u image
      → LeftSince now.commands now.held now.acts t image
  earlier t u image before left = lower now.commands now.held now.acts t u image before left

  at_any : (count : ℕ) → first.commands ≤ count → count < 2 ^ 64 - 1 → (image : Cartridge)
      → LeftSince now.commands now.held now.acts count image
      → HoldsAcked facts script tree log (acked_by count log.acks) image
  at_any count began less image left =
      holds_then script log facts tree (in_memory now).leavings first.commands survives earlier count began less image left

  at_end : AreReached log.events log.acks now.commands → now.commands < 2 ^ 64 - 1 → (ip dp : Cut)
      → ip.moment < moments now.acts → dp.moment < moments now.acts
      → HoldsAcked facts script tree log log.acks (crash_image now.held now.acts ip dp)
  at_end reached less ip dp at_ip at_dp =
      let left = image_left now.held now.acts ip dp at_ip at_dp in
      holds_now script log facts tree (in_memory now).leavings first.commands survives earlier
      (crash_image now.held now.acts ip dp) (λ t. inl left) (λ ack there. omega (arith, less, reached ack there))

can_tell : (facts : Carried) (tree : Tree) (generation : ℕ) (v : View) → IsReady facts tree generation v
    → CanTell (λ c. Stands c facts tree generation × IsSound cartridges c) v.commands (in_memory v)
can_tell facts tree generation v ready = record {
  held = v.held;
  told = refl;
  reads_as = (ready.stands, ready.sound);
  reached = omega arith;
  sure = λ image left. ready.sure image (since_gave v.commands v.held v.acts v.commands image left);
}

-- a run in memory survives crashes where each image that its drive gave was left by it
pub run_survives : (now : View)
    → ((t : ℕ) (image : Cartridge) → GaveSince now.held now.acts t image
    → LeftSince now.commands now.held now.acts t image)
    → RunSurvives now
run_survives now left script at first log facts tree generation run ready =
    let survives = run.crash facts tree generation (can_tell facts tree generation first ready) in
    record {
      at_end = at_end script first now log facts tree survives run.log_is.reached;
      at_any = λ count began less image gave.
          at_any script first now log facts tree survives count began less image (left count image gave);
    }

-- ---- a new drive

no_entry : (newer older : List DoneCommand) (e : DoneCommand) → [] ≡ newer ++ e ∷ older → ⊥
no_entry [] older e is = cc
no_entry (n ∷ newer) older e is = cc

-- a drive that has had no command is ready where its cartridge stands for a tree and is sound
pub new_ready : NewDrivesAreReady
new_ready held limits fails facts tree generation stands sound = record {
  stands = stands;
  sound = sound;
  sure = λ image gave.
      ⊎_elim (λ now. gave_left held [] image now)
      (λ past. absurd (no_entry past.newer past.older past.entry past.place))
      gave;
}
