use Rattle.std.proofs.Common.{◌≡◌, [], sym, ap, subst, rules}
use Rattle.byte_disk.specs.Files.{Files}
use Rattle.byte_disk.specs.Images.{crash_image}
use Rattle.byte_disk.specs.Memory.{View, made}
use Rattle.byte_disk.specs.Record.{Leaves}
use Rattle.byte_disk.proofs.Exact.{choice_left}
use Rattle.byte_disk.proofs.memory.MemDisk.crash_with.Goals as goal

pub returns-clause-left : goal.returns-clause-left
returns-clause-left c =
    let v = c.args.self.now in
    let choice : Files = record { ip = c.args.ip.now; dp = c.args.dp.now; cm = c.args.cm.now } in
    let is : c.new.result ≡ made (crash_image v.held v.acts choice) [] = search rules in
    subst (λ (d : Files). Leaves v.held v.acts d) (sym (ap (λ (w : View). w.held) is))
    (choice_left v.held v.acts c.acts-sound.ensures.sound.kept choice (record { ip = c.are_bytes.ensures; dp = c.are_bytes-2.ensures; cm = c.are_bytes-3.ensures }))
