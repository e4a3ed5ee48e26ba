-- A run over a tape on a disk survives crashes of the disk.
use Rattle.std.specs.Prelude.{◌≡◌, ◌≤◌, ◌<◌, ◌-◌, ◌^◌, ℕ, Option, Some, None, Ok}
use Rattle.std.proofs.Common.{⊎_elim, ◌∙◌, refl, sym, ap, subst, arith}
use Rattle.std.proofs.lemmas.Bool.{cases_lt}
use Rattle.tape_types.specs.declared.cartridges.Cartridge.{Cartridge}
use Rattle.tape_types.specs.declared.cartridges.Item.TheVariants.{Block}
use Rattle.byte_disk.specs.Files.{Files, told}
use Rattle.byte_disk.specs.Images.{Gives, crash_image}
use Rattle.byte_disk.specs.Memory.{View as Disk}
use Rattle.byte_disk.specs.Since.{GaveSince}
use Rattle.byte_disk.proofs.Told.{are_told}
use Rattle.byte_disk.specs.declared.disk.ByteDisk.{Ghosts}
use Rattle.tape_drive.specs.declared.drive.Drive.{Ghosts as Drives}
use Rattle.promises.specs.OrderLaws.Kept.{seen}
use Rattle.promises.specs.ServingPromise.Acks.{AreReached}
use Rattle.image_tape.specs.Laws.{ImagesOpen}
use Rattle.image_format.specs.Images.{blank}
use Rattle.image_tape.specs.Since.{counts_now, fourth, lower, only_now}
use Rattle.image_tape.specs.Tape.{LeavesOf, LeftSince, View, held_of}
use Rattle.cartridge_meaning.specs.Carried.{Carried}
use Rattle.cartridge_meaning.specs.Meaning.{Stands}
use Rattle.plain_tree.specs.Tree.{Tree}
use Rattle.promises.specs.ServingPromise.Crash.{IsSound}
use Rattle.promises.specs.ServingPromise.Meanings.{cartridges}
use Rattle.promises.specs.ServingPromise.Served.{CanTell, Drive}
use Rattle.ltfs_server.specs.Disks.{IsOpened, IsOpenedInMemory, SurvivesOnDisks, SurvivesOnDisksInMemory}
use Rattle.ltfs_server.specs.Sentence.{IsFoundAgain}
use Rattle.run_laws.proofs.Holding.{holds_now, holds_then}

-- what contracts see of a tape on a disk
abbrev pub on_disk : {D : Type 0} → Ghosts D → View D → Drive
on_disk disk v = record {
  held = held_of disk v;
  head = v.head;
  limits = v.room.limits;
  commands = disk.commands v.slots.disk;
  faults = v.faults;
  leavings = record { now = LeavesOf disk v; since = LeftSince disk v };
}

abbrev some_of : Cartridge → Option Cartridge
some_of c = Some c

-- a cartridge without items stands for no tree
blank_stands : (facts : Carried) (tree : Tree) (generation : ℕ) → Stands blank facts tree generation → ⊥
blank_stands facts tree generation stands =
    let has = stands.reads.found.forms.has.ip_record in
    let wrong : None ≡ Some (Block has.bytes) = has.stands.block in
    cc

module _ {D : Type 0} (disk : Ghosts D) (drive : Drives (View D)) (same : (v : View D) → seen drive v ≡ on_disk disk v)
    (only : (b : D) (image : Files) → disk.commands b < 2 ^ 64 - 1 → disk.left_since b (disk.commands b) image → disk.leaves b image)
    (less_since : (b : D) (t u : ℕ) (image : Files) → t ≤ u → disk.left_since b u image → disk.left_since b t image) where
  can_tell : (facts : Carried) (tree : Tree) (generation : ℕ) (first : View D) → IsOpened disk facts tree generation first
      → CanTell (λ c. Stands c facts tree generation × IsSound cartridges c) (disk.commands first.slots.disk) (on_disk disk first)
  can_tell facts tree generation first ready =
      let o = ready.opened.told ready.files ready.told in
      let both : Ok o.0 ≡ Ok ready.held = sym o.1 ∙ ready.means in
      let is : o.0 ≡ ready.held = cc both in
      record {
        held = ready.held;
        told = o.2 ∙ ap (λ (c : Cartridge). some_of c) is;
        reads_as = (ready.stands, ready.sound);
        reached = omega arith;
        sure = λ x left. o.3 x (only_now disk first x (λ f now. only first.slots.disk f ready.low now) ready.low left) ∙ is;
      }

  -- a run over a tape on a disk survives crashes of the disk
  pub disks_survive : (now : View D) → ImagesOpen disk now → SurvivesOnDisks disk drive now
  disks_survive now opens files told asked moment source first sink status log s facts tree generation ready =
      let found : IsFoundAgain s.script (on_disk disk first) (on_disk disk now) log =
      subst (λ (x : Drive). IsFoundAgain s.script x (on_disk disk now) log) (same first)
      (subst (λ (x : Drive). IsFoundAgain s.script (seen drive first) x log) (same now) s.crash) in
      let reached : AreReached log.events log.acks (disk.commands now.slots.disk) =
      subst (λ (x : Drive). AreReached log.events log.acks x.commands) (same now) s.steps.reached in
      let survives = found facts tree generation (can_tell facts tree generation first ready) in
      let open_by : now.opened ≤ disk.commands first.slots.disk = ⊎_elim
      (λ (yet : disk.commands first.slots.disk < now.opened).
      let any = survives.always blank (fourth (yet, opens.reached)) in
      absurd (blank_stands facts _ any.generation any.stands))
      (λ (by_then : now.opened ≤ disk.commands first.slots.disk). by_then)
      (cases_lt (disk.commands first.slots.disk) now.opened) in
      let earlier : (t u : ℕ) (x : Cartridge) → t ≤ u → LeftSince disk now u x → LeftSince disk now t x =
      λ t u x le left. lower disk now t u x le (λ f was. less_since now.slots.disk t u f le was) left in
      record {
        at_end = λ less f left.
            let o = opens.now files told f left in (
              o.0,
              o.1,
              holds_now s.script log facts tree (on_disk disk now).leavings (disk.commands first.slots.disk) survives earlier o.0
                  (λ t. counts_now disk now t o.0 o.2) (λ ack there. omega (arith, less, reached ack there)),
            );
        at_any = λ count began less f left.
            let o = opens.since files told count (omega (arith, open_by, began)) (omega (arith, open_by, began, less)) f left in (
              o.0,
              o.1,
              holds_then s.script log facts tree (on_disk disk now).leavings (disk.commands first.slots.disk) survives earlier count began less o.0 o.2,
            );
      }

module _ (disk : Ghosts Disk) (meant : (b : Disk) → disk.held b ≡ told b.held) (counts : (b : Disk) → disk.commands b ≡ b.commands) where
  -- what a tape on a disk in memory was opened over
  opened_over : (facts : Carried) (tree : Tree) (generation : ℕ) (first : View Disk)
      → IsOpenedInMemory disk facts tree generation first → IsOpened disk facts tree generation first
  opened_over facts tree generation first ready = record {
    limits = ready.limits;
    before = ready.before;
    files = ready.before.held;
    held = ready.held;
    opened = ready.opened;
    told = meant ready.before ∙ are_told ready.before.held ready.bytes;
    means = ready.means;
    stands = ready.stands;
    sound = ready.sound;
    low = omega (arith, counts first.slots.disk, ready.low);
  }

  -- so it does in words of the record of a disk in memory
  pub survives_in_files : (drive : Drives (View Disk)) (now : View Disk) → disk.held now.slots.disk ≡ Some now.slots.disk.held
      → ((image : Files) → Gives now.slots.disk.held now.slots.disk.acts image → disk.leaves now.slots.disk image)
      → ((t : ℕ) (image : Files) → GaveSince now.slots.disk.held now.slots.disk.acts t image → disk.left_since now.slots.disk t image)
      → SurvivesOnDisks disk drive now → SurvivesOnDisksInMemory disk drive now
  survives_in_files drive now is leaves since survives asked moment source first sink status log s facts tree generation ready =
      let all = survives now.slots.disk.held is asked moment source first sink status log s facts tree generation
      (opened_over facts tree generation first ready) in
      record {
        at_end = λ low choice are.
            all.at_end (omega (arith, counts now.slots.disk, low)) (crash_image now.slots.disk.held now.slots.disk.acts choice)
            (leaves (crash_image now.slots.disk.held now.slots.disk.acts choice) (choice, are, refl));
        at_any = λ count began less image gave.
            all.at_any count (omega (arith, counts first.slots.disk, began)) less image (since count image gave);
      }
