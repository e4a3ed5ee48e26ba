-- What is to be shown of a close that is done.
use Rattle.std.proofs.Common.{◌≡◌, ◌⊎◌, ℕ, Some, IfSome, sym, subst}
use Rattle.tape_types.specs.declared.cartridges.Cartridge.{Cartridge}
use Rattle.tape_types.specs.declared.cartridges.Part.TheVariants.{Ip, Dp}
use Rattle.tape_drive.specs.declared.drive.Drive.{Ghosts}
use Rattle.plain_tree.specs.Tree.{Tree}
use Rattle.content_laws.specs.Readings.{HasForm}
use Rattle.cartridge_meaning.specs.Carried.{carried}
use Rattle.cartridge_meaning.specs.Labels.{HasLabels}
use Rattle.cartridge_meaning.specs.Meaning.{AreAlike, HasOneIndex, IsConsistent, Stands}
use Rattle.cartridge_meaning.specs.Notes.{AreNoted}
use Rattle.cartridge_meaning.specs.declared.labels.Labels.{Labels}
use Rattle.cartridge_meaning.specs.declared.mounted.Mounted.{Mounted}
use Rattle.promises.specs.ServingPromise.Crash.{IsSound}
use Rattle.promises.specs.ServingPromise.Ends.{IsDoneClose, IsLeftApart}
use Rattle.promises.specs.ServingPromise.Meanings.{cartridges}
use Rattle.promises.specs.OrderLaws.Kept.{seen}
use Rattle.volume_state.specs.ClosingLaws.Closing.{IsAtRest}
use Rattle.volume_core.proofs.DoneNotes.{honest_note}

-- The drive tells this cartridge, at rest: it stands for the tree, is consistent, and both notes tell of it.
pub record IsShown {D : Type 0} (drive : Ghosts D) (first new : D) (mounted : Mounted) (before tree : Tree)
    (newest : ℕ) : Type 0 where
  pub now : Cartridge
  pub told : drive.held new ≡ Some now
  pub labels : Labels
  pub has : HasLabels now labels
  pub ip_form : HasForm now.ip
  pub dp_form : HasForm now.dp
  pub noted : AreNoted now labels.ip
  pub rest : IsAtRest drive new
  pub stands : Stands now (carried mounted.index) tree newest
  pub consistent : IsConsistent now
  pub one : IfSome (drive.held first) (λ c. IsSound cartridges c) → HasOneIndex now
  pub alike : AreAlike now (carried mounted.index) tree newest
      ⊎ IsLeftApart cartridges (seen drive first) mounted before newest

-- a close of which all is shown is done
pub shown_done : {D : Type 0} (drive : Ghosts D) (first new : D) (mounted : Mounted) (before tree : Tree)
    (newest generation : ℕ) → generation ≡ newest → IsShown drive first new mounted before tree newest
    → IsDoneClose cartridges (seen drive first) (seen drive new) mounted before tree newest generation
shown_done drive first new mounted before tree newest generation same h = record {
  generation_is = same;
  held = h.now;
  told = h.told;
  closed = record {
    stands = subst (λ (n : ℕ). Stands h.now (carried mounted.index) tree n) (sym same) h.stands;
    consistent = h.consistent;
    notes = record { labels = h.labels; has = h.has; noted = h.noted };
    sure = h.rest h.now h.told;
  };
  sound = λ was. record {
    one_index = h.one was;
    honest = record {
      labels = h.labels;
      has = h.has;
      ip = honest_note h.now h.labels.ip Ip h.ip_form h.noted.ip;
      dp = honest_note h.now h.labels.ip Dp h.dp_form h.noted.dp;
    };
  };
  alike = subst (λ (n : ℕ). AreAlike h.now (carried mounted.index) tree n
      ⊎ IsLeftApart cartridges (seen drive first) mounted before n) (sym same) h.alike;
}
