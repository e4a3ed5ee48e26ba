-- What the owner of a drive allows of a run it allows of the volume that is mounted for it.
use Rattle.std.specs.Prelude.{◌≡◌, ◌⊎◌, ℕ, List, Option, Some, IfSome}
use Rattle.std.proofs.Common.{⊎_elim, inl, inr, sym, subst, ◌∙◌}
use Rattle.tape_types.specs.declared.cartridges.Cartridge.{Cartridge}
use Rattle.tape_types.specs.declared.moments.Moment.{Moment}
use Rattle.plain_tree.specs.Tree.{Tree}
use Rattle.session_script.specs.declared.scripts.ScriptLine.{ScriptLine}
use Rattle.tape_drive.specs.Crashes.{AllowsAll}
use Rattle.tape_drive.specs.Looks.{Looks}
use Rattle.tape_drive.specs.declared.drive.Drive.{Ghosts}
use Rattle.cartridge_meaning.specs.Carried.{Carried, carried}
use Rattle.cartridge_meaning.specs.Meaning.{Reads, Stands}
use Rattle.cartridge_meaning.specs.Mounts.{Mounts}
use Rattle.cartridge_meaning.specs.declared.mounted.Mounted.{Mounted}
use Rattle.promises.specs.ServingPromise.Crash.{IsSound}
use Rattle.promises.specs.ServingPromise.Meanings.{cartridges}
use Rattle.promises.specs.ServingPromise.Served.{CanTell}
use Rattle.promises.specs.CrashLaws.May.{AllowsServed, MayServe, MayStart}
use Rattle.promises.specs.CrashLaws.Safe.{seen_by}
use Rattle.run_laws.proofs.Began.{same_stood, same_stood_facts, told_stood}

module _ {D : Type 0} (drive : Ghosts D) (most : ℕ) (start first : D) (looked : Looks drive most start first)
    (since : ℕ) (since_is : since ≡ drive.commands start) (mounted : Mounted) (script : List ScriptLine)
    (moment : Option Moment) where
  found : (tree : Tree) → ((c : Cartridge) → drive.held start ≡ Some c → Mounts c mounted)
      → IfSome (drive.held first) (λ c. Reads c (carried mounted.index) tree mounted.newest)
      → (c : Cartridge) → drive.held first ≡ Some c
      → Mounts c mounted × Reads c (carried mounted.index) tree mounted.newest
  found tree mounts reads c told = (
    mounts c (sym looked.held ∙ told),
    subst (λ (o : Option Cartridge). IfSome o (λ c. Reads c (carried mounted.index) tree mounted.newest)) told reads,
  )

  -- an owner who allows a run of a drive allows it of the volume that is mounted
  pub may_start : ((c : Cartridge) → drive.held start ≡ Some c → Mounts c mounted) → MayServe drive script moment start
      → MayStart drive mounted first script moment since
  may_start mounts may tree reads c told = ⊎_elim
      (λ (all : AllowsAll drive.allows). inl all)
      (λ (it : (facts : Carried) × (stood : Tree) × (generation : ℕ)
      × CanTell (λ c. Stands c facts stood generation × IsSound cartridges c) (drive.commands start)
      (seen_by drive start)
      × AllowsServed drive.allows script moment facts stood).
      let here = found tree mounts reads in
      let facts_are = same_stood_facts drive most start first looked since since_is mounted tree here it.0 it.1 it.2
      it.3 in
      let tree_is = same_stood drive most start first looked since since_is mounted tree here it.0 it.1 it.2 it.3 in
      inr (
        told_stood drive most start first looked since since_is mounted tree here it.0 it.1 it.2 it.3,
        subst (λ (e : Carried × Tree). AllowsServed drive.allows script moment e.0 e.1)
            (λ i. (facts_are i, tree_is i)) it.4,
      ))
      (may c (sym looked.held ∙ told))
