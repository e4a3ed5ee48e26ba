-- How a run ended that was closed: its volume was mounted as sealed, or it wasn't.
use Rattle.std.specs.Prelude.{ℕ, ◌≡◌, ◌⊎◌, Bool, true, false, List, length, Option}
use Rattle.std.proofs.Common.{inl, inr, refl}
use Rattle.tape_types.specs.declared.moments.Moment.{Moment}
use Rattle.plain_tree.specs.Tree.{Tree}
use Rattle.session_script.specs.declared.logs.Log.{Log}
use Rattle.session_script.specs.declared.scripts.ScriptLine.{ScriptLine}
use Rattle.cartridge_meaning.specs.Carried.{carried}
use Rattle.cartridge_meaning.specs.declared.mounted.Mounted.{Mounted}
use Rattle.space_laws.specs.Closing.{closing}
use Rattle.space_laws.specs.Mount.{was_sealed, where_sealed}
use Rattle.promises.specs.ServingPromise.Ends.{IsCloseShort, IsDoneClose, IsSealedClose}
use Rattle.promises.specs.ServingPromise.Headline.{Closed, IsEndOf, IsOn, tree_of_log}
use Rattle.promises.specs.ServingPromise.Meanings.{cartridges}
use Rattle.promises.specs.ServingPromise.Served.{CanTell, Drive, given_of}

module _ (script : List ScriptLine) (first now : Drive) (log : Log) (generation : ℕ) (tree : Tree)
    (mounted : Mounted) where
  -- the cartridge is as it was, or it stands for the tree of the whole history
  abbrev pub IsClosedBy : Type 0
  IsClosedBy = ((was_sealed mounted.index ≡ true) × IsSealedClose first now mounted generation)
      ⊎ ((newest : ℕ) × IsDoneClose cartridges first now mounted tree (tree_of_log script tree log (length log.history))
      newest generation)

  abbrev IsOpenClose : Type 0
  IsOpenClose = (on : Option ℕ) × (at : Moment) × IsOn (given_of script tree mounted first) log.events log.history on
      × IsDoneClose cartridges first now mounted tree (tree_of_log script tree log (length log.history))
      (closing (given_of script tree mounted first) on log.history at).space.newest generation
      × ((need limit : ℕ) → ¬ IsCloseShort (given_of script tree mounted first) on log.history at need limit)

  -- where the drive told a cartridge that read as the tree, a run that was closed ended in one of the two ways
  pub closed_by : IsEndOf cartridges script first now log (Closed generation)
      → CanTell
      (λ c. cartridges.Reads c (carried mounted.index) tree mounted.newest × cartridges.Mounts c mounted) first.commands
      first
      → IsClosedBy
  closed_by ends can = by (was_sealed mounted.index) refl (ends tree mounted can)
    where
      by : (sealed : Bool) → was_sealed mounted.index ≡ sealed
          → where_sealed sealed (IsSealedClose first now mounted generation) IsOpenClose → IsClosedBy
      by true is end = inl (is, end)
      by false is end =
          inr ((closing (given_of script tree mounted first) end.0 log.history end.1).space.newest, end.3)
