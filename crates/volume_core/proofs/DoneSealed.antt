-- A close of a volume that was mounted as sealed, which makes no command.
use Rattle.std.proofs.Common.{◌≡◌, true, List, [], length, reverse, Option, Some, refl, sym, ap, subst, ◌∙◌}
use Rattle.std.proofs.Common.{ℕ, ◌≤◌}
use Rattle.std.proofs.lemmas.Option.{same_Some}
use Rattle.tape_types.specs.declared.cartridges.Cartridge.{Cartridge}
use Rattle.tape_types.specs.declared.moments.Moment.{Moment}
use Rattle.tape_drive.specs.declared.drive.Drive.{Ghosts}
use Rattle.cartridge_meaning.specs.Meaning.{ip_end}
use Rattle.cartridge_meaning.specs.Mounts.{Mounts}
use Rattle.cartridge_meaning.specs.Pointers.{indexes_of}
use Rattle.space_laws.specs.Mount.{was_sealed}
use Rattle.space_laws.specs.Space.{Space}
use Rattle.promises.specs.ServingPromise.Ends.{IsSealedClose}
use Rattle.promises.specs.ServingPromise.Served.{Fixed, View, tree_after}
use Rattle.promises.specs.OrderLaws.Kept.{seen}
use Rattle.promises.specs.PromiseLaws.Kept.{CanRead}
use Rattle.volume_state.specs.StateLaws.Parts.{Parts, view_of}
use Rattle.volume_state.specs.CallLaws.Sealed.{IsAsMounted}
use Rattle.volume_state.specs.ClosingLaws.Owned.{HasOwn, LeavesOwn}
use Rattle.volume_state.proofs.CallLaws.Sealed.{sealed_stay}
use Rattle.volume_core.specs.Promised.{CanClose}

module _ {D : Type 0} (drive : Ghosts D)
    (counts_now : (d : D) (t : ℕ) (image : Cartridge) → t ≤ drive.commands d → drive.leaves d image
    → drive.left_since d t image) (fixed : Fixed D) (next : Option Moment) (at : Moment) (p : Parts D)
    (can : CanClose drive fixed next at p) (sealed : was_sealed fixed.mounted.index ≡ true)
    (read : CanRead drive fixed) where
  abbrev v : View D
  v = view_of fixed next p

  as_mounted : IsAsMounted drive (drive.limits fixed.first) v
  as_mounted = sealed_stay drive fixed next p can.runs read sealed

  -- the generation is the one that was mounted, and the cartridge is as it was at the start
  pub sealed_close : IsSealedClose (seen drive fixed.first) (seen drive p.drive) fixed.mounted
      p.stock.frame.generation
  sealed_close = record {
    generation_is = ap (λ f. f.generation) can.runs.tied.stock.frame
        ∙ ap (λ (s : Space). s.newest) as_mounted.space;
    held = as_mounted.held;
    sure = λ image left.
        as_mounted.held ∙ read.told
        ∙ ap (λ (c : Cartridge). Some c)
        (sym (read.sure image
        (counts_now fixed.first fixed.since image read.reached (as_mounted.leaves image left))));
  }

  -- no index of the run is there
  pub sealed_own : (first : Cartridge) → drive.held fixed.first ≡ Some first
      → (held : Cartridge) × (drive.held p.drive ≡ Some held) × LeavesOwn (drive.limits fixed.first) first held v
  sealed_own first told =
      let mounts : Mounts first fixed.mounted = can.runs.closes.mounts first told in (
        first,
        as_mounted.held ∙ told,
        record {
          labels = mounts.found.labels;
          has_labels = mounts.found.forms.has;
          label_is = mounts.label;
          has = subst (λ (ks : List ℕ). HasOwn fixed.mounted.label (ip_end first) first fixed.mounted.newest
              (tree_after v) (indexes_of first.dp) ks) (sym as_mounted.none_own)
              (record { own = []; links = refl; trees = tt });
        },
      )
