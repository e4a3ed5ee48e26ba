-- Each command does what the trait asks.
use Rattle.disk_layers.specs.Ahead.{leaves_of}
use Rattle.disk_layers.proofs.Layering.{counts_one, crash_of}
use Rattle.disk_layers.proofs.ahead.ReadAheadByteDisk.TheImpl.Goals as goal

pub length-tells : goal.length-tells
length-tells g x c =
    let old = c.args.self.now in
    let new = c.new.self.now in
    record {
      value = c.ensures.value;
      held = c.ensures.looks.held;
      count = counts_one g.B.ByteDisk old.past new.past (tt, old.disk) c.ensures.ran;
      cause = c.ensures.looks.cause;
      crash = crash_of g.B.ByteDisk (leaves_of g.B.ByteDisk) old.past new.past (tt, old.disk) (tt, new.disk)
          (g.met.B.ByteDisk.only_now new.disk) c.ensures.ran c.ensures.looks.runs;
    }

pub read-tells : goal.read-tells
read-tells g x c =
    let old = c.args.self.now in
    let new = c.new.self.now in
    record {
      size = c.ensures.size;
      value = c.ensures.value;
      held = c.ensures.looks.held;
      count = counts_one g.B.ByteDisk old.past new.past (tt, old.disk) c.ensures.ran;
      cause = c.ensures.looks.cause;
      crash = crash_of g.B.ByteDisk (leaves_of g.B.ByteDisk) old.past new.past (tt, old.disk) (tt, new.disk)
          (g.met.B.ByteDisk.only_now new.disk) c.ensures.ran c.ensures.looks.runs;
    }

pub write-tells : goal.write-tells
write-tells g x c =
    let old = c.args.self.now in
    let new = c.new.self.now in
    record {
      told = c.ensures.told;
      untold = c.ensures.untold;
      count = counts_one g.B.ByteDisk old.past new.past (tt, old.disk) c.ensures.ran;
      cause = c.ensures.cause;
      crash = crash_of g.B.ByteDisk (leaves_of g.B.ByteDisk) old.past new.past (tt, old.disk) (tt, new.disk)
          (g.met.B.ByteDisk.only_now new.disk) c.ensures.ran c.ensures.runs;
    }

pub sync-tells : goal.sync-tells
sync-tells g x c =
    let old = c.args.self.now in
    let new = c.new.self.now in
    record {
      sure = c.ensures.sure;
      held = c.ensures.looks.held;
      count = counts_one g.B.ByteDisk old.past new.past (tt, old.disk) c.ensures.ran;
      cause = c.ensures.looks.cause;
      crash = crash_of g.B.ByteDisk (leaves_of g.B.ByteDisk) old.past new.past (tt, old.disk) (tt, new.disk)
          (g.met.B.ByteDisk.only_now new.disk) c.ensures.ran c.ensures.looks.runs;
    }
