use Rattle.std.proofs.Common.{◌≡◌, Some, subst, sym}
use Rattle.tape_types.specs.declared.cartridges.Cartridge.{Cartridge}
use Rattle.tape_types.specs.declared.cartridges.Note.TheVariants as kind
use Rattle.tape_drive.specs.Crashes.{LeavesAllowed, WithinNote}
use Rattle.head_core.proofs.head.Head.write_note.Goals as goal

pub write_note-requires : goal.write_note-requires
write_note-requires g c = record {
  allowed = subst (λ v. (h : Cartridge) → g.D.Drive.held v.drive ≡ Some h
      → LeavesAllowed (WithinNote c.args.part (kind.Kept c.args.note.now)) (g.D.Drive.leaves v.drive) g.D.Drive.allows)
      (sym c.self.view_is) c.requires.may;
}
