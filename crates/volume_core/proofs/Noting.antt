-- What the commands on notes leave of a drive.
use Rattle.std.proofs.Common.{◌≡◌, ◌⊎◌, inr, ℕ, Some, sym, ap, subst, ◌∙◌}
use Rattle.std.specs.Prelude.{Result, Ok, Err}
use Rattle.tape_types.specs.declared.cartridges.Cartridge.{Cartridge}
use Rattle.tape_types.specs.declared.cartridges.Note.{Note}
use Rattle.tape_types.specs.declared.cartridges.Part.{Part}
use Rattle.tape_types.specs.declared.cartridges.Part.TheVariants.{Ip, Dp}
use Rattle.tape_types.specs.declared.cartridges.Twin.{Twin}
use Rattle.coherency.specs.declared.Coherency.{Coherency}
use Rattle.tape_drive.specs.Commands.{AfterNote, IsNoted}
use Rattle.tape_drive.specs.Crashes.{IsSettled, NothingNew, WithinNote}
use Rattle.tape_drive.specs.declared.drive.Drive.{Ghosts}
use Rattle.ltfs_label.specs.declared.Label.{Label}
use Rattle.cartridge_meaning.specs.Notes.{TellsOfLast}
use Rattle.cartridge_meaning.specs.Pointers.{IsLastOnDp, IsLastOnIp, indexes_of, last_block}
use Rattle.promises.specs.ImageLaws.Kept.{IsStep}
use Rattle.promises.specs.ImageLaws.Moments.{moment_of}
use Rattle.volume_state.specs.ClosingLaws.Closing.{IsAtRest}
use Rattle.volume_state.proofs.ClosingLaws.Keeps.{closes_are_safe}
use Rattle.volume_core.specs.Commands.{IsNoteWritten, IsVcrRead, Lasts, values_of}
use Rattle.volume_core.specs.May.{MayTell}

-- ---- what notes may tell

module _ (c d : Cartridge) (label : Label) (ip_is : d.ip ≡ c.ip) (dp_is : d.dp ≡ c.dp) where
  last_same : (part : Part) (note : Coherency) → TellsOfLast c label part note → TellsOfLast d label part note
  last_same Ip note t = record {
    index = t.index;
    last = (
      t.last.0,
      subst (λ l. IsLastOnDp label (indexes_of l) t.last.0) (sym dp_is) t.last.1,
      subst (λ l. IsLastOnIp label (indexes_of d.ip) (indexes_of l) t.last.0
          (Some t.index)) (sym dp_is)
          (subst (λ l. IsLastOnIp label (indexes_of l) (indexes_of c.dp) t.last.0
          (Some t.index)) (sym ip_is) t.last.2),
    );
    generation = t.generation;
    block = ap (λ l. last_block (indexes_of l)) ip_is ∙ t.block;
  }
  last_same Dp note t = record {
    index = t.index;
    last = subst (λ l. IsLastOnDp label (indexes_of l) (Some t.index)) (sym dp_is)
        t.last;
    generation = t.generation;
    block = ap (λ l. last_block (indexes_of l)) dp_is ∙ t.block;
  }

  pub tells_same : (part : Part) (note : Coherency) → TellsOfLast c label part note → TellsOfLast d label part note
  tells_same = last_same

  -- notes may tell of a cartridge what they tell of another with the same items
  pub may_tell : (lasts : Lasts) → MayTell c label lasts → MayTell d label lasts
  may_tell lasts may = record {
    ip = λ vcr. last_same Ip (values_of lasts vcr lasts.on_ip) (may.ip vcr);
    dp = λ vcr block is. last_same Dp (values_of lasts vcr block) (may.dp vcr block is);
  }

-- ---- each command

module _ {D : Type 0} (drive : Ghosts D) where
  -- reading the reference leaves nothing new
  pub read_step : (old new : D) (result : Result ℕ Twin) (c : Cartridge) → IsVcrRead drive old new result
      → IsStep NothingNew (moment_of drive old c) (moment_of drive new c)
  read_step old new result c read = (read.command.commands.later, read.crash)

  -- reading the reference leaves a drive at rest
  pub read_rests : (old new : D) (result : Result ℕ Twin) → IsVcrRead drive old new result → IsAtRest drive old
      → IsAtRest drive new
  read_rests old new result read rest held told image left =
      let was = read.crash.now image left in
      was.2 ∙ rest held (sym read.held ∙ told) was.0 was.1

  -- writing a note leaves what a note's write may leave
  pub note_step : (part : Part) (values : Coherency) (old new : D) (result : Result Unit Twin) (c d : Cartridge)
      → (w : IsNoteWritten drive part values old new result) → drive.held old ≡ Some c
      → IsStep (WithinNote part w.note) (moment_of drive old c) (moment_of drive new d)
  note_step part values old new result c d w told = (w.command.commands.later, w.crash c told)

  -- it is there, or all is as it was
  pub note_either : (result : Result Unit Twin) (part : Part) (note : Note) (c d : Cartridge)
      → AfterNote result part note c d → (d ≡ c) ⊎ IsNoted part note c d
  note_either (Ok done) part note c d is = inr is
  note_either (Err counts) part note c d either = either

  -- a note that was written leaves a drive at rest
  pub note_rests : (part : Part) (values : Coherency) (old new : D) (c : Cartridge)
      → IsNoteWritten drive part values old new (Ok tt) → IsAtRest drive old → drive.held old ≡ Some c
      → IsAtRest drive new
  note_rests part values old new c w rest told =
      let it = w.told c told in
      (closes_are_safe drive).rests part w.note old new c it.0 rest told it.1
      (note_step part values old new (Ok tt) c it.0 w told) it.2
      (subst (λ h. IsSettled h (drive.leaves new)) it.1 w.command.settled)
