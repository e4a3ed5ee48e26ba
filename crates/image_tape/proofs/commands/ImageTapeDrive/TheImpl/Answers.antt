-- Each command does what the trait asks.
use Rattle.image_tape.proofs.Ending.{ends_read, heads_read, items_read}
use Rattle.image_tape.proofs.Moments.{crash_at}
use Rattle.image_tape.proofs.commands.ImageTapeDrive.TheImpl.Goals as goal

pub locate-tells : goal.locate-tells
locate-tells g x c = record {
  head = c.ensures.head;
  lost = c.ensures.looked.ends.lost;
  held = c.ensures.looked.held;
  command = c.ensures.looked.ends.command;
  crash = crash_at g.B.ByteDisk c.result c.args.self.now c.new.self.now c.ensures.looked.ends c.ensures.looked.crash;
}

pub read-tells : goal.read-tells
read-tells g x c =
    let ran = c.ensures.ran c.requires.located.0 c.requires.located.1 in
    record {
      room = c.ensures.room;
      item = items_read g.B.ByteDisk c.result c.new.buf.now.items c.args.self.now c.new.self.now c.ensures.ran;
      bytes = ran.bytes;
      at_capacity = ends_read g.B.ByteDisk c.result c.new.buf.now.items c.args.self.now c.new.self.now c.ensures.ran;
      head = heads_read g.B.ByteDisk c.result c.new.buf.now.items c.args.self.now c.new.self.now c.ensures.ran;
      lost = ran.looked.ends.lost;
      held = ran.looked.held;
      command = ran.looked.ends.command;
      crash = crash_at g.B.ByteDisk c.result c.args.self.now c.new.self.now ran.looked.ends ran.looked.crash;
    }

pub write-tells : goal.write-tells
write-tells g x c =
    let at = c.requires.located.0 in
    let ran = c.ensures.ran at c.requires.located.1 in
    record {
      head = λ at head. (c.ensures.ran at head).head;
      lost = ran.ends.lost;
      told = λ at y head held. (c.ensures.ran at head).told y held;
      untold = ran.untold;
      vcr_at_end = ran.at_end;
      command = ran.ends.command;
      crash = λ at y head held. let r = c.ensures.ran at head in crash_at g.B.ByteDisk c.result c.args.self.now c.new.self.now r.ends (r.crash y held);
    }

pub mark-tells : goal.mark-tells
mark-tells g x c =
    let at = c.requires.located.0 in
    let ran = c.ensures.ran at c.requires.located.1 in
    record {
      head = λ at head. (c.ensures.ran at head).head;
      lost = ran.ends.lost;
      told = λ at y head held. (c.ensures.ran at head).told y held;
      untold = ran.untold;
      vcr_at_end = ran.at_end;
      command = ran.ends.command;
      crash = λ at y head held. let r = c.ensures.ran at head in crash_at g.B.ByteDisk c.result c.args.self.now c.new.self.now r.ends (r.crash y held);
    }

pub flush-tells : goal.flush-tells
flush-tells g x c = record {
  sure = c.ensures.flushed.sure;
  head = c.ensures.flushed.head;
  lost = c.ensures.flushed.ends.lost;
  held = c.ensures.flushed.held;
  command = c.ensures.flushed.ends.command;
  crash = λ y held. crash_at g.B.ByteDisk c.result c.args.self.now c.new.self.now c.ensures.flushed.ends (c.ensures.flushed.crash y held);
}

pub read_note-tells : goal.read_note-tells
read_note-tells g x c = record {
  value = c.ensures.value;
  settled = c.ensures.settled;
  head = c.ensures.head;
  lost = c.ensures.looked.ends.lost;
  held = c.ensures.looked.held;
  command = c.ensures.looked.ends.command;
  crash = crash_at g.B.ByteDisk c.result c.args.self.now c.new.self.now c.ensures.looked.ends c.ensures.looked.crash;
}

pub write_note-tells : goal.write_note-tells
write_note-tells g x c = record {
  told = c.ensures.ran.told;
  untold = c.ensures.ran.untold;
  settled = c.ensures.settled;
  head = c.ensures.ran.head;
  lost = c.ensures.ran.ends.lost;
  command = c.ensures.ran.ends.command;
  crash = λ y held. crash_at g.B.ByteDisk c.result c.args.self.now c.new.self.now c.ensures.ran.ends (c.ensures.ran.crash y held);
}

pub vcr-tells : goal.vcr-tells
vcr-tells g x c = record {
  value = c.ensures.value;
  settled = c.ensures.settled;
  head = c.ensures.head;
  lost = c.ensures.looked.ends.lost;
  held = c.ensures.looked.held;
  command = c.ensures.looked.ends.command;
  crash = crash_at g.B.ByteDisk c.result c.args.self.now c.new.self.now c.ensures.looked.ends c.ensures.looked.crash;
}
