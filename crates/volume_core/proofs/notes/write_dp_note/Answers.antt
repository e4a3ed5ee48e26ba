use Rattle.std.proofs.Common.{subst, sym}
use Rattle.coherency.specs.declared.Coherency.{Coherency}
use Rattle.tape_types.specs.declared.cartridges.Part.TheVariants.{Dp}
use Rattle.volume_core.specs.Doing.{lasts_in}
use Rattle.volume_core.specs.May.{MayWriteNote}
use Rattle.volume_core.proofs.MayLemmas.{may_dp_note}
use Rattle.volume_core.proofs.notes.write_dp_note.Goals as goal

pub write_note-requires : goal.write_note-requires
write_note-requires g c = record {
  may = subst (λ (v : Coherency). MayWriteNote g.D.Drive Dp v c.args.head.now.drive) (sym c.values.ensures)
      (may_dp_note g.D.Drive (lasts_in c.args.last) c.args.vcr c.in-Some.block c.args.head.now.drive c.requires.may
      c.in-Some.is);
}
