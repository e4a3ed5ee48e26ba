use Rattle.std.proofs.Common.{◌≡◌, ◌<◌, ◌^◌, List, ap, arith}
use Rattle.std.specs.Prelude.{reverse}
use Rattle.byte_disk.specs.declared.record.DoneCommand.{DoneCommand}
use Rattle.byte_disk.specs.Files.{bytes_of}
use Rattle.byte_disk.specs.Record.{pending}
use Rattle.byte_disk.specs.Images.{reach}
use Rattle.byte_disk.proofs.Chosen.{reach_low}
use Rattle.byte_disk.proofs.Kept.{record_kept}
use Rattle.byte_disk.proofs.memory.MemDisk.reach.Goals as goal

pub returns-clause-value : goal.returns-clause-value
returns-clause-value c =
    let v = c.args.self.now in
    let is : reach (pending c.args.file (reverse c.acts.result.now)) ≡ reach (pending c.args.file v.acts) = ap (λ (es : List DoneCommand). reach (pending c.args.file es)) c.acts.ensures.value in
    let low : reach (pending c.args.file v.acts) < 2 ^ 62 = reach_low (bytes_of c.args.file v.held) (pending c.args.file v.acts) (record_kept c.args.file v.held v.acts c.acts.ensures.sound.kept) in
    omega (arith, c.reached.ensures, is, low)

pub returns-clause-low : goal.returns-clause-low
returns-clause-low c =
    let v = c.args.self.now in
    let is : reach (pending c.args.file (reverse c.acts.result.now)) ≡ reach (pending c.args.file v.acts) = ap (λ (es : List DoneCommand). reach (pending c.args.file es)) c.acts.ensures.value in
    let low : reach (pending c.args.file v.acts) < 2 ^ 62 = reach_low (bytes_of c.args.file v.held) (pending c.args.file v.acts) (record_kept c.args.file v.held v.acts c.acts.ensures.sound.kept) in
    omega (arith, c.reached.ensures, is, low)
