use Rattle.std.proofs.Common.{◌≡◌, ◌≤◌, ◌∙◌, ap, length, subst, sym, IfSome, Ok, Err}
use Rattle.byte_disk.specs.Files.{bytes_of}
use Rattle.byte_disk.specs.declared.disk.DiskFault.{DiskFault}
use Rattle.disk_layers.specs.Held.{PutsOver, held_of, moment}
use Rattle.disk_layers.proofs.Holding.{puts_behind, puts_not}
use Rattle.disk_layers.proofs.held.HeldWrites.put.Goals as goal

pub put_first-requires-clause-within : goal.put_first-requires-clause-within
put_first-requires-clause-within g c =
    subst (λ o. IfSome o (λ d. c.args.at ≤ length (bytes_of c.args.file d))) (sym (c.in-Ok.ensures.looks.held ∙ ap (held_of g.B.ByteDisk) c.if-hold_on.ensures.put)) c.requires.within

pub returns-in-Ok-clause-puts : goal.returns-in-Ok-clause-puts
returns-in-Ok-clause-puts g c =
    subst (λ m. PutsOver g.B.ByteDisk c.put_first.result c.args.file c.args.at c.args.bytes.now m (moment c.put_first.new.self)) c.if-hold_on.ensures.put
    (puts_behind g.B.ByteDisk (λ b d is. g.met.B.ByteDisk.bytes b d is) (Ok tt) c.put_first.result c.args.file c.args.at c.args.bytes.now
    (moment c.hold_on.new.self) (moment c.write_out.new.self) (moment c.put_first.new.self) c.in-Ok.ensures.looks c.put_first.ensures.puts)

pub returns-in-Err-clause-puts : goal.returns-in-Err-clause-puts
returns-in-Err-clause-puts g c =
    subst (λ m. PutsOver {T = Unit {0}} {E = DiskFault} g.B.ByteDisk (Err c.in-Err.fault) c.args.file c.args.at c.args.bytes.now m (moment c.write_out.new.self)) c.if-hold_on.ensures.put
    (puts_not g.B.ByteDisk (λ b d is. g.met.B.ByteDisk.bytes b d is) {T = Unit {0}} {S = Unit {0}} {E = DiskFault} c.in-Err.fault c.args.file c.args.at c.args.bytes.now
    (moment c.hold_on.new.self) (moment c.write_out.new.self) c.in-Err.ensures.looks)
