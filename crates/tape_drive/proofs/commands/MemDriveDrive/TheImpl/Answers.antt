-- Each command of the drive in memory does what the trait asks.
use Rattle.std.proofs.Common.{ℕ, ◌≡◌, inl, Some, refl, ap, subst, rules}
use Rattle.tape_types.specs.declared.cartridges.Cartridge.{Cartridge}
use Rattle.tape_types.specs.declared.cartridges.Item.TheVariants as item
use Rattle.tape_types.specs.declared.cartridges.Note.{Note}
use Rattle.tape_types.specs.declared.cartridges.Note.TheVariants as note
use Rattle.tape_types.specs.Cartridges.{note_of}
use Rattle.tape_drive.specs.declared.record.Act.TheVariants.{Flushed, Noted, Settled}
use Rattle.tape_drive.specs.declared.drive.DriveErr.{DriveErr}
use Rattle.tape_drive.specs.declared.schedule.Cmd.TheVariants as cmd
use Rattle.tape_drive.specs.Crashes.{Crashes, NothingNew, WithinFlush, WithinNote}
use Rattle.tape_drive.specs.Commands.{AfterNote}
use Rattle.tape_drive.specs.Record.{with_note, Leaves, LeftSince}
use Rattle.tape_drive.proofs.Acts.{within_note}
use Rattle.tape_drive.proofs.Sound.{undo_note}
use Rattle.tape_drive.proofs.Meets.{locate_meets, read_meets, read_held, ran_meets, ran_settles, put_meets, put_settles, note_told}
use Rattle.tape_drive.proofs.Told.{read_item, read_bytes, read_end, read_head, put_head, put_held, put_crash, put_at_end}
use Rattle.tape_drive.proofs.commands.MemDriveDrive.TheImpl.Goals as goal

pub locate-tells : goal.locate-tells
locate-tells x c =
    let m = locate_meets (Unit {0}) DriveErr c.result c.args.place c.args.self.now c.new.self.now c.ensures.sane c.ensures.ran in
    record { head = search rules; lost = m.lost; held = search rules; command = m.command; crash = m.crash }

pub read-tells : goal.read-tells
read-tells x c =
    let old = c.args.self.now in
    let new = c.new.self.now in
    let buf = c.new.buf.now.items in
    let at = c.ensures.ran.0 in
    let is = c.ensures.ran.1 in
    let ran = c.ensures.ran.2 in
    let m = read_meets DriveErr c.result at buf old new c.ensures.sane ran in
    record {
      room = c.ensures.room;
      item = read_item DriveErr at buf old new is c.result ran;
      bytes = read_bytes DriveErr at buf old new is c.result c.ensures.sane ran;
      at_capacity = read_end DriveErr at buf old new is c.result c.ensures.sane ran;
      head = read_head DriveErr at buf old new is c.result ran;
      lost = m.lost;
      held = ap Some (read_held DriveErr c.result at buf old new ran);
      command = m.command;
      crash = m.crash;
    }

pub write-tells : goal.write-tells
write-tells x c =
    let old = c.args.self.now in
    let new = c.new.self.now in
    let block = item.Block c.args.bytes.now in
    let at = c.ensures.ran.0 in
    let is = c.ensures.ran.1 in
    let ran = c.ensures.ran.2 in
    let m = put_meets (Unit {0}) DriveErr cmd.Write at block old new c.ensures.sane c.result ran in
    record {
      head = put_head (Unit {0}) DriveErr cmd.Write at block old new is c.result ran;
      lost = m.lost;
      told = put_held (Unit {0}) DriveErr cmd.Write at block old new is c.result c.ensures.sane ran;
      untold = λ none. cc;
      vcr_at_end = put_at_end (Unit {0}) DriveErr cmd.Write at block old new is c.result ran;
      command = m.command;
      crash = put_crash (Unit {0}) DriveErr cmd.Write at block old new is c.result c.ensures.sane ran;
    }

pub mark-tells : goal.mark-tells
mark-tells x c =
    let old = c.args.self.now in
    let new = c.new.self.now in
    let at = c.ensures.ran.0 in
    let is = c.ensures.ran.1 in
    let ran = c.ensures.ran.2 in
    let m = put_meets (Unit {0}) DriveErr cmd.Mark at item.Mark old new c.ensures.sane c.result ran in
    record {
      head = put_head (Unit {0}) DriveErr cmd.Mark at item.Mark old new is c.result ran;
      lost = m.lost;
      told = put_held (Unit {0}) DriveErr cmd.Mark at item.Mark old new is c.result c.ensures.sane ran;
      untold = λ none. cc;
      vcr_at_end = put_at_end (Unit {0}) DriveErr cmd.Mark at item.Mark old new is c.result ran;
      command = m.command;
      crash = put_crash (Unit {0}) DriveErr cmd.Mark at item.Mark old new is c.result c.ensures.sane ran;
    }

pub flush-tells : goal.flush-tells
flush-tells x c =
    let old = c.args.self.now in
    let new = c.new.self.now in
    let m = ran_meets (Unit {0}) DriveErr c.result cmd.Flush Flushed old.held (WithinFlush old.held) old new c.ensures.sane refl (λ image. inl refl) (λ before image same. inl same) c.ensures.ran in
    record {
      sure = ran_settles (Unit {0}) DriveErr c.result cmd.Flush Flushed old.held old new c.ensures.ran;
      head = search rules;
      lost = m.lost;
      held = search rules;
      command = m.command;
      crash = λ held is. subst (λ (d : Cartridge). Crashes (WithinFlush d) old.commands (Leaves old.held old.acts) (Leaves new.held new.acts) (LeftSince old.commands old.held old.acts) (LeftSince new.commands new.held new.acts)) (cc) m.crash;
    }

pub read_note-tells : goal.read_note-tells
read_note-tells x c =
    let old = c.args.self.now in
    let new = c.new.self.now in
    let m = ran_meets Note DriveErr c.result cmd.ReadNote Settled old.held NothingNew old new c.ensures.sane refl (λ image. refl) (λ before image same. same) c.ensures.ran in
    record {
      value = search rules;
      settled = ran_settles Note DriveErr c.result cmd.ReadNote Settled old.held old new c.ensures.ran;
      head = search rules;
      lost = m.lost;
      held = search rules;
      command = m.command;
      crash = m.crash;
    }

pub write_note-tells : goal.write_note-tells
write_note-tells x c =
    let old = c.args.self.now in
    let new = c.new.self.now in
    let kept = note.Kept c.args.note.now in
    let part = c.args.part in
    let before = note_of part old.held in
    let m = ran_meets (Unit {0}) DriveErr c.result cmd.WriteNote (Noted part before) (with_note part kept old.held) (WithinNote part kept) old new c.ensures.sane (undo_note part kept old.held) (λ image. inl refl) (within_note part kept before old.held) c.ensures.ran in
    record {
      told = λ d is. let same : old.held ≡ d = cc in (
        new.held,
        refl,
        subst (λ (e : Cartridge). AfterNote c.result part kept e new.held) same (note_told (Unit {0}) DriveErr c.result cmd.WriteNote part kept old new c.ensures.ran),
      );
      untold = λ none. cc;
      settled = ran_settles (Unit {0}) DriveErr c.result cmd.WriteNote (Noted part before) (with_note part kept old.held) old new c.ensures.ran;
      head = search rules;
      lost = m.lost;
      command = m.command;
      crash = λ d is. m.crash;
    }

pub vcr-tells : goal.vcr-tells
vcr-tells x c =
    let old = c.args.self.now in
    let new = c.new.self.now in
    let m = ran_meets ℕ DriveErr c.result cmd.Vcr Settled old.held NothingNew old new c.ensures.sane refl (λ image. refl) (λ before image same. same) c.ensures.ran in
    record {
      value = search rules;
      settled = ran_settles ℕ DriveErr c.result cmd.Vcr Settled old.held old new c.ensures.ran;
      head = search rules;
      lost = m.lost;
      held = search rules;
      command = m.command;
      crash = m.crash;
    }
