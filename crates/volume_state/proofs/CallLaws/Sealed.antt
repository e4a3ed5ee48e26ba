-- That a volume which was mounted as sealed stays as it was.
use Rattle.std.proofs.Common.{◌≡◌, ◌∙◌, ℕ, ◌&&◌, not, Bool, true, false, Option, length, sym, ap}
use Rattle.tape_types.specs.declared.cartridges.Cartridge.{Cartridge}
use Rattle.tape_types.specs.declared.moments.Moment.{Moment}
use Rattle.tape_drive.specs.declared.drive.Drive.{Ghosts}
use Rattle.plain_tree.specs.Refusals.{is_sealed}
use Rattle.plain_tree.specs.Tree.{Tree}
use Rattle.plain_tree.specs.declared.calls.LockState.{LockState}
use Rattle.index_model.specs.declared.indexes.Index.{Index}
use Rattle.file_tree.specs.Locks.{lock_of}
use Rattle.cartridge_meaning.specs.Carried.{Carried}
use Rattle.cartridge_meaning.specs.Meaning.{Reads}
use Rattle.cartridge_meaning.specs.Mounts.{Mounts}
use Rattle.cartridge_meaning.specs.declared.mounted.Mounted.{Mounted}
use Rattle.cartridge_meaning.proofs.OneWay.{same_index}
use Rattle.space_laws.proofs.SealedLaw.{sealed_volumes_stay}
use Rattle.space_laws.proofs.TreeLaw.{are_replays}
use Rattle.space_laws.specs.Closing.{is_dp_due}
use Rattle.space_laws.specs.Mount.{was_sealed}
use Rattle.space_laws.specs.Space.{Space, first_space}
use Rattle.space_laws.specs.Standing.{Given, Standing, first_standing}
use Rattle.promises.specs.ServingPromise.Mount.{facts_of}
use Rattle.promises.specs.ServingPromise.Served.{Fixed, View}
use Rattle.promises.specs.CrashLaws.Safe.{given_by, space_now, standing_now}
use Rattle.promises.specs.PromiseLaws.Kept.{CanRead}
use Rattle.cartridge_meaning.specs.Pointers.{indexes_of}
use Rattle.volume_state.specs.StateLaws.Parts.{Parts, view_of}
use Rattle.volume_state.specs.CallLaws.Running.{IsRunning}
use Rattle.volume_state.specs.CallLaws.Sealed.{IsAsMounted, SealedVolumesStay}
use Rattle.volume_state.proofs.ClosingLaws.OwnLaw.{none_own}

-- the tree as which a cartridge reads has the lock of the index that was mounted
pub lock_is : (c : Cartridge) (m : Mounted) (facts : Carried) (tree : Tree) (generation : ℕ) → Mounts c m
    → Reads c facts tree generation → tree.lock ≡ lock_of m.index.lock
lock_is c m facts tree generation mounts reads =
    ap (λ (t : Tree). t.lock) reads.tree_is.2
    ∙ reads.tree_is.1.lock
    ∙ ap (λ (index : Index). lock_of index.lock) (same_index c reads.found mounts.found ∙ sym mounts.index)

-- so it is sealed where the volume was
pub tree_sealed : (c : Cartridge) (m : Mounted) (facts : Carried) (tree : Tree) (generation : ℕ) → Mounts c m
    → Reads c facts tree generation → was_sealed m.index ≡ true → is_sealed tree.lock ≡ true
tree_sealed c m facts tree generation mounts reads sealed =
    ap (λ (lock : LockState). is_sealed lock) (lock_is c m facts tree generation mounts reads) ∙ sealed

module _ {D : Type 0} (drive : Ghosts D) (fixed : Fixed D) (next : Option Moment) (p : Parts D)
    (runs : IsRunning drive fixed next p) (read : CanRead drive fixed)
    (sealed : was_sealed fixed.mounted.index ≡ true) where
  abbrev v : View D
  v = view_of fixed next p

  abbrev g : Given
  g = given_by (drive.limits fixed.first) v

  stands : standing_now (drive.limits fixed.first) v ≡ first_standing g
  stands = sealed_volumes_stay.stands g p.on p.listed.history (length p.listed.history)
      (tree_sealed read.held fixed.mounted _ fixed.tree fixed.mounted.newest (runs.closes.mounts read.held read.told)
      read.reads_as sealed)

  space_is : space_now (drive.limits fixed.first) v ≡ first_space (facts_of fixed.mounted)
  space_is = ap (λ (st : Standing). st.space) stands

  unchanged : (space_now (drive.limits fixed.first) v).changed ≡ false
  unchanged = ap (λ (s : Space). s.changed) space_is

  none_admitted : (space_now (drive.limits fixed.first) v).admitted ≡ false
  none_admitted = ap (λ (s : Space). s.admitted) space_is

  as_mounted : IsAsMounted drive (drive.limits fixed.first) v
  as_mounted =
      let untouched = (runs.closes.tape read).untouched unchanged none_admitted in
      record {
        space = space_is;
        tree = sym (are_replays g p.on p.listed.history (length p.listed.history))
            ∙ ap (λ (st : Standing). st.tree) stands;
        no_ops = untouched.0;
        held = untouched.1;
        leaves = λ image left. runs.closes.rests read unchanged none_admitted image left;
        none_own = none_own runs.planned (drive.limits fixed.first) (indexes_of read.held.dp) v
            (runs.closes.own read read.held read.told) (ap (λ (s : Space). s.newest) space_is)
            (ap (λ (b : Bool). not b && is_dp_due g (space_now (drive.limits fixed.first) v)) sealed);
      }

-- a volume that was mounted as sealed stays as it was
pub sealed_stay : {D : Type 0} (drive : Ghosts D) → SealedVolumesStay drive
sealed_stay drive fixed next p runs read sealed = as_mounted drive fixed next p runs read sealed
