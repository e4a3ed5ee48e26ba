use Rattle.std.specs.Prelude.{Err, Ok}
use Rattle.std.proofs.Common.{subst, sym}
use Rattle.tape_types.specs.declared.cartridges.Part.TheVariants.{Ip}
use Rattle.coherency.specs.declared.Coherency.{Coherency}
use Rattle.volume_core.specs.Commands.{IsNoteWritten, WritesNotes}
use Rattle.volume_core.specs.Doing.{lasts_in}
use Rattle.volume_core.specs.May.{MayWriteNote}
use Rattle.volume_core.proofs.MayLemmas.{may_dp, may_ip}
use Rattle.volume_core.proofs.notes.write_notes.Goals as goal

pub write_note-requires : goal.write_note-requires
write_note-requires g c = record {
  may = subst (λ (v : Coherency). MayWriteNote g.D.Drive Ip v c.vcr.new.self.drive) (sym c.values.ensures)
      (may_ip g.D.Drive (lasts_in c.args.last) c.in-Ok.vcr c.args.head.now.drive c.vcr.new.self.drive c.requires.may
      (record {
        value = c.in-Ok.ensures.value;
        command = c.in-Ok.ensures.command;
        held = c.in-Ok.ensures.held;
        crash = c.in-Ok.ensures.crash;
      }));
}

pub write_dp_note-requires : goal.write_dp_note-requires
write_dp_note-requires g c = record {
  may = may_dp g.D.Drive (lasts_in c.args.last) c.in-Ok.vcr c.args.head.now.drive c.vcr.new.self.drive
      c.write_note.new.head.drive c.requires.may
      (record {
        value = c.in-Ok.ensures.value;
        command = c.in-Ok.ensures.command;
        held = c.in-Ok.ensures.held;
        crash = c.in-Ok.ensures.crash;
      })
      (subst (λ (v : Coherency). IsNoteWritten g.D.Drive Ip v c.vcr.new.self.drive c.write_note.new.head.drive
      (Ok tt)) c.values.ensures c.in-Ok-write_note.ensures);
}

pub returns-in-Err : goal.returns-in-Err
returns-in-Err g c =
    WritesNotes.unread c.in-Err.counts c.args.head.now.drive c.vcr.new.self.drive (record {
      value = c.in-Err.ensures.value;
      command = c.in-Err.ensures.command;
      held = c.in-Err.ensures.held;
      crash = c.in-Err.ensures.crash;
    })

pub returns-in-Err-write_note : goal.returns-in-Err-write_note
returns-in-Err-write_note g c =
    WritesNotes.not_on_ip c.in-Ok.vcr c.in-Err-write_note.counts c.args.head.now.drive c.vcr.new.self.drive
    c.write_note.new.head.drive (record {
      value = c.in-Ok.ensures.value;
      command = c.in-Ok.ensures.command;
      held = c.in-Ok.ensures.held;
      crash = c.in-Ok.ensures.crash;
    })
    (subst (λ (v : Coherency). IsNoteWritten g.D.Drive Ip v c.vcr.new.self.drive c.write_note.new.head.drive
    (Err c.in-Err-write_note.counts)) c.values.ensures c.in-Err-write_note.ensures)

pub returns-in-Ok-write_note : goal.returns-in-Ok-write_note
returns-in-Ok-write_note g c =
    WritesNotes.on_dp c.in-Ok.vcr c.args.head.now.drive c.vcr.new.self.drive c.write_note.new.head.drive
    c.write_dp_note.new.head.drive c.write_dp_note.result (record {
      value = c.in-Ok.ensures.value;
      command = c.in-Ok.ensures.command;
      held = c.in-Ok.ensures.held;
      crash = c.in-Ok.ensures.crash;
    })
    (subst (λ (v : Coherency). IsNoteWritten g.D.Drive Ip v c.vcr.new.self.drive c.write_note.new.head.drive
    (Ok tt)) c.values.ensures c.in-Ok-write_note.ensures) c.write_dp_note.ensures
