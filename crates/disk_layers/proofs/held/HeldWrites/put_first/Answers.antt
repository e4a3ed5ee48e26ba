use Rattle.std.proofs.Common.{◌≡◌, ◌≤◌, [], ap, length, subst, sym, IfSome}
use Rattle.byte_disk.specs.Files.{bytes_of}
use Rattle.disk_layers.specs.Held.{PutsOver, held_of, moment}
use Rattle.disk_layers.proofs.held.HeldWrites.put_first.Goals as goal

pub write_through-requires-clause-none : goal.write_through-requires-clause-none
write_through-requires-clause-none g c = subst (λ m. m.0.bytes ≡ []) (sym c.if-hold_first.ensures.put) c.requires.none

pub write_through-requires-clause-within : goal.write_through-requires-clause-within
write_through-requires-clause-within g c =
    subst (λ m. IfSome (held_of g.B.ByteDisk m) (λ d. c.args.at ≤ length (bytes_of c.args.file d))) (sym c.if-hold_first.ensures.put) c.requires.within

pub returns-clause-puts : goal.returns-clause-puts
returns-clause-puts g c =
    subst (λ m. PutsOver g.B.ByteDisk c.write_through.result c.args.file c.args.at c.args.bytes.now m (moment c.write_through.new.self)) c.if-hold_first.ensures.put
    c.write_through.ensures.puts
