use Rattle.std.proofs.Common.{rules, ℕ, List, Some, Vec, Global, ◌≡◌, ◌+◌, ap, sym, ◌∙◌}
use Rattle.std.specs.Option.{option_map}
use Rattle.volume_core.proofs.VolumeSteps.SyncDone.{sync_room_some}
use Rattle.volume_core.proofs.volume_steps.syncs.reserve_sync.Goals as goal

pub returns-in-Some-checked_add-clause-room : goal.returns-in-Some-checked_add-clause-room
returns-in-Some-checked_add-clause-room c =
    let value : c.as_slice.result.now ≡ c.in-Some.doc.items = search rules in
    let one : c.in-Some-checked_add.most ≡ c.most_ops.result + 1 = search rules in
    sync_room_some c.reserve.result c.args.stock.now
    (option_map {T = Vec ℕ Global} {U = List ℕ} (λ doc. doc.items) c.args.due.now) c.as_slice.result.now c.most_ops.result
    c.in-Some-checked_add.most c.reserve.new.self.spare
    (ap (λ o. option_map {T = Vec ℕ Global} {U = List ℕ} (λ doc. doc.items) o) c.in-Some.is ∙ ap Some (sym value))
    c.most_ops.ensures one c.reserve.ensures.spare
