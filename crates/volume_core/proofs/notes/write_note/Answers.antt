use Rattle.tape_types.specs.declared.cartridges.Note.TheVariants.{Kept}
use Rattle.volume_core.proofs.notes.write_note.Goals as goal

pub returns : goal.returns
returns g c = record {
  note = Kept c.encode_note-note.result;
  has = c.encode_note-note.ensures.decodes;
  told = c.write_note.ensures.told;
  command = c.write_note.ensures.command;
  crash = c.write_note.ensures.crash;
}

pub write_note-requires : goal.write_note-requires
write_note-requires g c = record {
  may = λ held told. c.requires.may (Kept c.encode_note-note.result) held c.encode_note-note.ensures.decodes told;
}
