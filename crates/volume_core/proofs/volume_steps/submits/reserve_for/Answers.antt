use Rattle.std.proofs.Common.{◌≡◌, ap, false, refl}
use Rattle.plain_tree.specs.Calls.{call_of_change}
use Rattle.plain_tree.specs.declared.calls.Change.{Change}
use Rattle.plain_tree.specs.declared.calls.Change.TheVariants as changes
use Rattle.space_laws.specs.Laws.{may_need_room}
use Rattle.volume_core.proofs.VolumeSteps.ChangeLemmas.{others_have_room, write_room}
use Rattle.volume_core.proofs.volume_steps.submits.reserve_for.Goals as goal

pub returns-in-Write-clause-room : goal.returns-in-Write-clause-room
returns-in-Write-clause-room c =
    write_room c.reserve.result c.args.stock.now (call_of_change c.args.change) c.in-Write.field-0.now c.in-Write.field-1 c.in-Write.bytes.now
    c.in-Write.bytes.now c.most_ops.result c.reserve.new.self.spare (ap call_of_change c.in-Write.is) refl c.most_ops.ensures
    c.reserve.ensures.spare

pub returns-in_default : goal.returns-in_default
returns-in_default c = record {
  events = refl;
  acks = refl;
  kept = refl;
  room = others_have_room c.args.stock.now (call_of_change c.args.change) c.args.trail.now.spare (by c.args.change refl);
}
  where
    by : (change : Change) → c.args.change ≡ change → may_need_room (call_of_change c.args.change) ≡ false
    by (changes.Write path offset bytes) is = absurd (c.in_default.not-Write path offset bytes is)
    by (changes.Mkdir path) is = ap (λ ch. may_need_room (call_of_change ch)) is
    by _ is = ap (λ ch. may_need_room (call_of_change ch)) is
