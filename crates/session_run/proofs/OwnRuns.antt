-- The indexes that a run has put on the data partition, in the words of its log.
use Rattle.std.proofs.Common.{◌≡◌, ◌∙◌, ℕ, List, reverse, take, Option, Some, sym, ap, subst}
use Rattle.tape_types.specs.declared.cartridges.Cartridge.{Cartridge}
use Rattle.tape_types.specs.declared.moments.Moment.{Moment}
use Rattle.plain_tree.specs.History.{replay}
use Rattle.plain_tree.specs.Tree.{Tree}
use Rattle.plain_tree.specs.declared.calls.Placed.{Placed}
use Rattle.session_script.specs.Grammar.{calls_of}
use Rattle.session_script.specs.declared.logs.Log.{Log}
use Rattle.session_script.specs.declared.scripts.ScriptLine.{ScriptLine}
use Rattle.tape_drive.specs.declared.drive.Drive.{Ghosts}
use Rattle.cartridge_meaning.specs.Carried.{carried}
use Rattle.cartridge_meaning.specs.Meaning.{Reads, ip_end}
use Rattle.cartridge_meaning.specs.Mounts.{Mounts}
use Rattle.cartridge_meaning.specs.Pointers.{indexes_of}
use Rattle.cartridge_meaning.specs.declared.mounted.Mounted.{Mounted}
use Rattle.space_laws.specs.Standing.{Given}
use Rattle.promises.specs.ServingPromise.Ends.{Closes}
use Rattle.promises.specs.ServingPromise.Meanings.{cartridges}
use Rattle.promises.specs.ServingPromise.Served.{CanTell, View}
use Rattle.promises.specs.declared.serving_promise.answers.CloseEnd.{CloseEnd}
use Rattle.promises.specs.declared.serving_promise.answers.CloseEnd.TheVariants as close_ends
use Rattle.promises.specs.OrderLaws.Kept.{seen}
use Rattle.volume_state.specs.ClosingLaws.Owned.{HasOwn, all_places}
use Rattle.volume_core.specs.Promised.{LeavesOwnIndexes}
use Rattle.run_laws.specs.Laws.{IsPlayed}
use Rattle.run_laws.proofs.Runs as runs
use Rattle.session_run.specs.Serving.{HasOwnOnTop}

-- the indexes that a run has put on the data partition are on top, as its log tells
pub own_on_top : {D : Type 0} (drive : Ghosts D) (script : List ScriptLine) (at : Option Moment) (start : D) (v : View D)
    (now : D) (log : Log) (outcome : CloseEnd) (step_count travel_sum nodes : ℕ) → IsPlayed drive script at start v
    → Closes cartridges (seen drive v.fixed.first) (seen drive v.drive) (seen drive now) v now log outcome step_count
    travel_sum nodes
    → (generation : ℕ) → LeavesOwnIndexes drive v now (close_ends.Done generation)
    → (tree : Tree) (mounted : Mounted) (first : Cartridge)
    → CanTell (λ c. Reads c (carried mounted.index) tree mounted.newest × Mounts c mounted) (drive.commands start)
    (seen drive start)
    → drive.held start ≡ Some first → HasOwnOnTop drive start now at script log tree mounted first
own_on_top drive script at start v now log outcome step_count travel_sum nodes played closes generation own tree mounted
    first can told =
    let mounted_is : v.fixed.mounted ≡ mounted =
    runs.mounted_is drive script at start v now log outcome step_count travel_sum nodes played closes mounted tree can in
    let left = own
    (runs.told drive script at start v now log outcome step_count travel_sum nodes played closes mounted tree can) first
    (played.looked.held ∙ told) in
    record {
      on = v.on;
      on_is =
          (runs.rightly drive script at start v now log outcome step_count travel_sum nodes played closes mounted tree
          can).on_is;
      held = left.0;
      told = left.1;
      labels = left.2.labels;
      has_labels = left.2.has_labels;
      label_is = ap (λ (m : Mounted). m.label) (sym mounted_is) ∙ left.2.label_is;
      has = subst
          (λ (e : Given × List Placed × Mounted × Tree × List ScriptLine).
          HasOwn e.2.label (ip_end left.0) left.0 e.2.newest (λ k. replay (calls_of e.4) e.3 (take k e.1))
          (indexes_of first.dp) (reverse (all_places e.0 v.on e.1)))
          (λ i. (
            runs.given_is drive script at start v now log outcome step_count travel_sum nodes played closes mounted tree
                can i,
            runs.history drive script at start v now log outcome step_count travel_sum nodes played closes i,
            mounted_is i,
            runs.tree_is drive script at start v now log outcome step_count travel_sum nodes played closes mounted tree
                can i,
            played.script_is i,
          )) left.2.has;
    }
