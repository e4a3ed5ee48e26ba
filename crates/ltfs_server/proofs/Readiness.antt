-- A drive is ready for a run once its cartridge was formatted, and once a run was closed.
use Rattle.std.specs.Prelude.{ℕ, ◌≡◌, ◌<◌, ◌-◌, ◌^◌, true, [], ◌∷◌, length, take, Option, Some, IfSome}
use Rattle.std.proofs.Common.{refl, sym, subst, ◌∙◌, arith, inl, inr}
use Rattle.std.proofs.lemmas.Option.{same_Some}
use Rattle.tape_types.specs.declared.cartridges.Cartridge.{Cartridge}
use Rattle.tape_types.specs.declared.moments.Moment.{Moment}
use Rattle.tape_drive.specs.declared.drive.Drive.{Ghosts}
use Rattle.plain_tree.specs.Tree.{Tree, empty_tree}
use Rattle.plain_tree.proofs.LockLemmas.{locks_hold}
use Rattle.session_script.specs.Grammar.{calls_of}
use Rattle.session_script.specs.declared.logs.Log.{Log}
use Rattle.cartridge_meaning.specs.Carried.{Carried, carried}
use Rattle.cartridge_meaning.specs.Meaning.{Reads}
use Rattle.cartridge_meaning.specs.Mounts.{Mounts}
use Rattle.cartridge_meaning.specs.declared.mounted.Mounted.{Mounted}
use Rattle.cartridge_meaning.proofs.OneWay.{same_facts, same_tree}
use Rattle.format_volume.specs.Meanings.{carried_for}
use Rattle.format_volume.specs.declared.requests.FormatSpec.{FormatSpec}
use Rattle.space_laws.specs.Mount.{was_sealed}
use Rattle.promises.specs.ServingPromise.Crash.{IsSound}
use Rattle.promises.specs.ServingPromise.Headline.{Closed, Failed, IsEndOf, ServeEnd, Short, status_of, tree_of_log}
use Rattle.promises.specs.ServingPromise.Meanings.{cartridges}
use Rattle.promises.specs.ServingPromise.Served.{CanTell}
use Rattle.promises.specs.OrderLaws.Kept.{seen}
use Rattle.commands.specs.BasicCommands.Formats.{IsFormatted}
use Rattle.commands.specs.BasicCommands.Runs.{Taken, Written}
use Rattle.volume_state.proofs.CallLaws.Sealed.{tree_sealed}
use Rattle.ltfs_server.specs.Ready.{IsReadyFor, LeavesReady}
use Rattle.ltfs_server.specs.Sentence.{Asked, Sentence}
use Rattle.ltfs_server.proofs.ClosedRuns.{IsClosedBy, closed_by}

formatted : {D : Type 0} (drive : Ghosts D) (spec : FormatSpec) (old new : D) (c : Cartridge)
    → drive.held new ≡ Some c → drive.commands new < 2 ^ 64 - 1 → IsFormatted drive spec old new
    → IsReadyFor drive (carried_for spec) (empty_tree spec.at) 1 new
formatted drive spec old new c told low is =
    let empty = is.stands c told in
    record {
      held = c;
      told = told;
      reads_as = (empty.stands, record { one_index = empty.one_index; honest = empty.honest });
      reached = omega arith;
      sure = λ image left. is.since c image told low left;
    }

module _ {D : Type 0} (drive : Ghosts D)
    (only_now : (d : D) (image : Cartridge) → drive.commands d < 2 ^ 64 - 1
    → drive.left_since d (drive.commands d) image → drive.leaves d image)
    (asked : Asked) (moment : Option Moment) (source : Taken) (old new : D) (sink : Written) (log : Log)
    (s : Sentence asked moment source drive old new sink 0 log) (facts : Carried) (tree : Tree) (generation : ℕ)
    (low : drive.commands new < 2 ^ 64 - 1) (ready : IsReadyFor drive facts tree generation old) where
  -- what was mounted is the cartridge that was ready
  found : (m : Mounted) × (read : Tree) × Mounts ready.held m × Reads ready.held (carried m.index) read m.newest
  found = s.went.mounted ready.held (s.went.looked.held ∙ ready.told)

  abbrev mounted : Mounted
  mounted = found.0

  abbrev read : Tree
  read = found.1

  facts_are : carried mounted.index ≡ facts
  facts_are = same_facts ready.held (carried mounted.index) facts read tree mounted.newest generation found.3
      ready.reads_as.0.reads

  tree_is : read ≡ tree
  tree_is = same_tree ready.held (carried mounted.index) facts read tree mounted.newest generation found.3
      ready.reads_as.0.reads

  can_tell : CanTell (λ c. cartridges.Reads c (carried mounted.index) read mounted.newest × cartridges.Mounts c mounted)
      (drive.commands old) (seen drive old)
  can_tell = record {
    held = ready.held;
    told = ready.told;
    reads_as = (found.3, found.2);
    reached = ready.reached;
    sure = ready.sure;
  }

  was_sound : IfSome (drive.held old) (λ c. IsSound cartridges c)
  was_sound = subst (λ o. IfSome o (λ c. IsSound cartridges c)) (sym ready.told) ready.reads_as.1

  abbrev IsReadyThen : Type 0
  IsReadyThen = (newest : ℕ)
      × IsReadyFor drive facts (tree_of_log s.script tree log (length log.history)) newest new

  -- on a sealed volume no call changes the tree
  tree_stays : was_sealed mounted.index ≡ true → tree_of_log s.script tree log (length log.history) ≡ tree
  tree_stays sealed = locks_hold.for_ever (calls_of s.script) (take (length log.history) log.history) tree
      (tree_sealed ready.held mounted facts tree generation found.2 ready.reads_as.0.reads sealed)

  by_close : (newest : ℕ) → IsClosedBy s.script (seen drive old) (seen drive new) log newest read mounted → IsReadyThen
  by_close newest (inl (sealed, closed)) = (
    generation,
    record {
      held = ready.held;
      told = closed.held ∙ ready.told;
      reads_as = (
        subst (λ (t : Tree). cartridges.Stands ready.held facts t generation) (sym (tree_stays sealed))
            ready.reads_as.0,
        ready.reads_as.1,
      );
      reached = omega arith;
      sure = λ image left. same_Some image ready.held
          (sym (closed.sure image (only_now new image low left)) ∙ closed.held ∙ ready.told);
    },
  )
  by_close newest (inr (admitted, done)) = (
    newest,
    record {
      held = done.held;
      told = done.told;
      reads_as = (
        subst
            (λ (e : Carried × Tree).
            cartridges.Stands done.held e.0 (tree_of_log s.script e.1 log (length log.history)) newest)
            (λ i. (facts_are i, tree_is i)) done.closed.stands,
        done.sound was_sound,
      );
      reached = omega arith;
      sure = λ image left. done.closed.sure image (only_now new image low left);
    },
  )

  by_end : (end : ServeEnd) → 0 ≡ status_of end → IsEndOf cartridges s.script (seen drive old) (seen drive new) log end
      → IsReadyThen
  by_end (Closed newest) zero ends =
      by_close newest (closed_by s.script (seen drive old) (seen drive new) log newest read mounted ends can_tell)
  by_end (Short need limit) zero ends = absurd (cc zero)
  by_end (Failed counts) zero ends = absurd (cc zero)

  closed : IsReadyThen
  closed = let so = s.close (inl refl) in by_end so.end so.status_is so.ends

-- a drive is ready once its cartridge was formatted, and once a run was closed
pub leaves_ready : {D : Type 0} (drive : Ghosts D)
    → ((d : D) (image : Cartridge) → drive.commands d < 2 ^ 64 - 1
    → drive.left_since d (drive.commands d) image → drive.leaves d image)
    → LeavesReady drive
leaves_ready drive only_now = record { formatted = formatted drive; closed = closed drive only_now }
