use Rattle.std.proofs.Common.{refl}
use Rattle.mount_recover.proofs.EndingLemmas.{begun, closed_head, closed_told, goes_on, never_told, other_told, took_all, took_more}
use Rattle.mount_recover.proofs.endings.read_to_mark.Goals as goal

pub loop-pos-init : goal.loop-pos-init
loop-pos-init g c = (c.requires.room, begun g.D.Drive c.args.drive.now c.args.first c.args.positions c.args.document.now.items c.requires.range.1 c.requires.commands c.requires.head)

pub loop-pos-preserved : goal.loop-pos-preserved
loop-pos-preserved g c = (
  c.in-Ok-Block.ensures.room,
  goes_on g.D.Drive c.args.drive.now c.loop-pos.drive c.args.first c.loop-pos.pos c.args.positions c.args.document.now.items c.loop-pos.document.items
      c.loop-pos.read c.requires.range.0 c.loop-pos.invariant.1 c.loop-pos-test.true c.read_next.new.drive c.read_next.new.document.items c.read_next.new.buffer.items
      c.in-Ok-Block.field-0 c.in-Ok-Block.next c.in-Ok-Block.field-0-is c.in-Ok-Block.ensures.cause.later c.in-Ok-Block.ensures.looks
      c.in-Ok-Block.ensures.head c.in-Ok-Block.ensures.put c.in-Ok-Block.ensures.told,
)

pub returns-in-Ok-Mark-clause-told : goal.returns-in-Ok-Mark-clause-told
returns-in-Ok-Mark-clause-told g c =
    closed_told g.D.Drive c.args.drive.now c.loop-pos.drive c.args.first c.loop-pos.pos c.args.positions c.args.document.now.items c.loop-pos.document.items
    c.loop-pos.read c.requires.range.0 c.loop-pos.invariant.1 c.loop-pos-test.true c.read_next.new.buffer.items c.read_next.new.document.items
    c.truncate.new.self.items c.in-Ok-Mark.field-0 c.in-Ok-Mark.field-0-is _ refl c.in-Ok-Mark.ensures.told c.in-Ok-Mark.ensures.put c.truncate.ensures.items

pub returns-in-Ok-Mark-clause-head : goal.returns-in-Ok-Mark-clause-head
returns-in-Ok-Mark-clause-head g c =
    closed_head g.D.Drive c.args.drive.now c.loop-pos.drive c.args.first c.loop-pos.pos c.args.positions c.args.document.now.items c.loop-pos.document.items
    c.loop-pos.read c.requires.range.0 c.loop-pos.invariant.1 c.loop-pos-test.true c.read_next.new.drive c.in-Ok-Mark.field-0 c.in-Ok-Mark.field-0-is
    c.in-Ok-Mark.ensures.head

pub returns-in-Ok-Mark-clause-took : goal.returns-in-Ok-Mark-clause-took
returns-in-Ok-Mark-clause-took g c =
    took_more g.D.Drive c.args.drive.now c.loop-pos.drive c.args.first c.loop-pos.pos c.args.positions c.args.document.now.items c.loop-pos.document.items
    c.loop-pos.read c.requires.range.0 c.loop-pos.invariant.1 c.loop-pos-test.true c.read_next.new.drive c.in-Ok-Mark.ensures.looks

pub returns-in-Ok-Other-clause-told : goal.returns-in-Ok-Other-clause-told
returns-in-Ok-Other-clause-told g c = λ held bs ahead. absurd
    (other_told g.D.Drive c.args.drive.now c.loop-pos.drive c.args.first c.loop-pos.pos c.args.positions c.args.document.now.items c.loop-pos.document.items
    c.loop-pos.read c.requires.range.0 c.loop-pos.invariant.1 c.loop-pos-test.true c.read_next.new.buffer.items c.in-Ok-Other.field-0 held bs ahead
    c.in-Ok-Other.ensures.told c.in-Ok-Other.field-0-is)

pub returns-in-Ok-Other-clause-took : goal.returns-in-Ok-Other-clause-took
returns-in-Ok-Other-clause-took g c =
    took_more g.D.Drive c.args.drive.now c.loop-pos.drive c.args.first c.loop-pos.pos c.args.positions c.args.document.now.items c.loop-pos.document.items
    c.loop-pos.read c.requires.range.0 c.loop-pos.invariant.1 c.loop-pos-test.true c.read_next.new.drive c.in-Ok-Other.ensures.looks

pub returns-in-Err-clause-took : goal.returns-in-Err-clause-took
returns-in-Err-clause-took g c =
    took_more g.D.Drive c.args.drive.now c.loop-pos.drive c.args.first c.loop-pos.pos c.args.positions c.args.document.now.items c.loop-pos.document.items
    c.loop-pos.read c.requires.range.0 c.loop-pos.invariant.1 c.loop-pos-test.true c.read_next.new.drive c.in-Err.ensures.looks

pub returns-clause-told : goal.returns-clause-told
returns-clause-told g c = λ held bs ahead. absurd
    (never_told g.D.Drive c.args.drive.now c.loop-pos.drive c.args.first c.loop-pos.pos c.args.positions c.args.document.now.items c.loop-pos.document.items
    c.loop-pos.read c.loop-pos.invariant.1 c.loop-pos-test.false held bs c.requires.range.0 ahead)

pub returns-clause-took : goal.returns-clause-took
returns-clause-took g c =
    took_all g.D.Drive c.args.drive.now c.loop-pos.drive c.args.first c.loop-pos.pos c.args.positions c.args.document.now.items c.loop-pos.document.items
    c.loop-pos.read c.loop-pos.invariant.1 c.loop-pos-test.false c.requires.range.0
