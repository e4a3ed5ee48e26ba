-- Each command of the disk in memory does what the trait asks.
use Rattle.std.proofs.Common.{ℕ, ◌≡◌, ◌≤◌, length, ap}
use Rattle.byte_disk.specs.declared.disk.DiskFault.{DiskFault}
use Rattle.byte_disk.specs.Files.{Files, bytes_at, bytes_of, told}
use Rattle.byte_disk.proofs.Meets.{looked_meets, looked_held, write_meets, write_told, sync_meets, sync_held, sync_sure}
use Rattle.byte_disk.proofs.Told.{done_told, record_files, some_told, told_some, value_told}
use Rattle.byte_disk.proofs.commands.MemDiskByteDisk.TheImpl.Goals as goal

pub length-tells : goal.length-tells
length-tells x c =
    let m = looked_meets ℕ DiskFault c.result c.args.self.now c.new.self.now c.ensures.sane c.ensures.looked in
    record {
      value = value_told (λ (n : ℕ) (d : Files). n ≡ length (bytes_of c.args.file d)) c.result c.args.self.now.held c.ensures.value;
      held = ap told (looked_held ℕ DiskFault c.result c.args.self.now c.new.self.now c.ensures.looked);
      count = m.count;
      cause = m.cause;
      crash = m.crash;
    }

pub read-tells : goal.read-tells
read-tells x c =
    let m = looked_meets (Unit {0}) DiskFault c.result c.args.self.now c.new.self.now c.ensures.sane c.ensures.looked in
    record { size = c.ensures.size; value = done_told (λ (d : Files). c.new.buf.now ≡ bytes_at c.args.at (length c.args.buf.now) (bytes_of c.args.file d)) c.result c.args.self.now.held c.ensures.value; held = ap told (looked_held (Unit {0}) DiskFault c.result c.args.self.now c.new.self.now c.ensures.looked); count = m.count; cause = m.cause; crash = m.crash }

pub write-tells : goal.write-tells
write-tells x c =
    let old = c.args.self.now in
    let new = c.new.self.now in
    let files = record_files old.held old.acts c.ensures.sane.sound.kept in
    let within = some_told (λ (d : Files). c.args.at ≤ length (bytes_of c.args.file d)) old.held files c.requires.within in
    let m = write_meets (Unit {0}) DiskFault c.args.file c.args.at c.args.bytes.now old new within c.result c.ensures.sane c.ensures.ran in
    record {
      told = write_told (Unit {0}) DiskFault c.args.file c.args.at c.args.bytes.now old new within c.result c.ensures.bytes files c.ensures.ran;
      untold = λ none. absurd (told_some old.held files none);
      count = m.count;
      cause = m.cause;
      crash = m.crash;
    }

pub sync-tells : goal.sync-tells
sync-tells x c =
    let old = c.args.self.now in
    let new = c.new.self.now in
    let m = sync_meets (Unit {0}) DiskFault c.args.file old new c.result c.ensures.sane c.ensures.ran in
    record { sure = sync_sure (Unit {0}) DiskFault c.args.file old new c.result c.ensures.ran; held = ap told (sync_held (Unit {0}) DiskFault c.args.file old new c.result c.ensures.ran); count = m.count; cause = m.cause; crash = m.crash }
