use Rattle.std.proofs.Common.{rules, ◌≡◌, Some, subst}
use Rattle.tape_types.specs.declared.cartridges.Cartridge.{Cartridge}
use Rattle.tape_drive.specs.Crashes.{LeavesAllowed}
use Rattle.tape_layout.specs.declared.ops.Op.{Op}
use Rattle.tape_layout.specs.declared.ops.Op.TheVariants as ops
use Rattle.head_core.specs.Steps.{WithinOp}
use Rattle.head_core.proofs.transfers.do_op.Goals as goal

pub write_at-requires-clause-may : goal.write_at-requires-clause-may
write_at-requires-clause-may g c =
    let d = c.args.drive.now in
    let is : c.args.op.now ≡ ops.Put c.in-Put.place c.as_slice.result.now = search rules in
    subst (λ (o : Op). (h : Cartridge) → g.D.Drive.held d ≡ Some h
    → LeavesAllowed (WithinOp o h) (g.D.Drive.leaves d) g.D.Drive.allows) is c.requires.may

pub mark_at-requires-clause-may : goal.mark_at-requires-clause-may
mark_at-requires-clause-may g c =
    let d = c.args.drive.now in
    subst (λ (o : Op). (h : Cartridge) → g.D.Drive.held d ≡ Some h
    → LeavesAllowed (WithinOp o h) (g.D.Drive.leaves d) g.D.Drive.allows) c.in-Mark.is c.requires.may

pub flush-requires : goal.flush-requires
flush-requires g c =
    let d = c.args.drive.now in
    record {
      may = subst (λ (o : Op). (h : Cartridge) → g.D.Drive.held d ≡ Some h
          → LeavesAllowed (WithinOp o h) (g.D.Drive.leaves d) g.D.Drive.allows) c.in-Flush.is c.requires.may;
    }
