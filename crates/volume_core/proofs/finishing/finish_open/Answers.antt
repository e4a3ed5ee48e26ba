use Rattle.std.specs.Prelude.{Err, is_some}
use Rattle.std.specs.Option.{option_map}
use Rattle.std.proofs.Common.{◌∙◌, refl, subst, sym}
use Rattle.tape_layout.specs.Plans.{Plan}
use Rattle.tape_layout.specs.declared.errors.AdmitErr.{AdmitErr}
use Rattle.tape_layout.specs.declared.errors.AdmitErr.TheVariants.{Full}
use Rattle.volume_core.specs.VolumeSteps.Seen.{seen_parts}
use Rattle.held_volume.specs.Closed.{IsDpChange}
use Rattle.volume_core.specs.Doing.{CanDoAll, lasts_in}
use Rattle.volume_core.specs.Commands.{Lasts}
use Rattle.volume_core.specs.Finish.{AdmitsOnIp, FinishesOpen}
use Rattle.volume_core.specs.May.{MayDoAll, MayEnd}
use Rattle.volume_core.proofs.AdmitLemmas.{AppliesIp, admits_dp, admits_ip, can_do_last, can_do_mid, short_ip}
use Rattle.volume_core.proofs.EndLemmas.{same_end, short, some_mapped, went}
use Rattle.volume_core.proofs.MayLemmas.{may_end, may_short}
use Rattle.volume_core.proofs.finishing.finish_open.Goals as goal

pub returns-in_default-clause-finishes : goal.returns-in_default-clause-finishes
returns-in_default-clause-finishes g c = FinishesOpen.no_memory

pub returns-in-Err-Full-clause-finishes : goal.returns-in-Err-Full-clause-finishes
returns-in-Err-Full-clause-finishes g c =
    FinishesOpen.short_on_dp c.in-Err-Full.need c.in-Err-Full.limit
    (λ early given on st is. subst (λ (e : AdmitErr). IsDpChange early given on st c.args.at c.args.parts.now.stock
    c.admit_dp.new.self (Err e))
    c.in-Err-Full.field-0-is
    ((c.in-Err-Full.ensures {u = tt}).closes early given on st c.args.at is
    ((c.in-Ok.ensures {u = tt}).texts early given on st is).0))

pub returns-in-Err-NoMemory-clause-finishes : goal.returns-in-Err-NoMemory-clause-finishes
returns-in-Err-NoMemory-clause-finishes g c = FinishesOpen.no_memory

pub returns-clause-finishes : goal.returns-clause-finishes
returns-clause-finishes g c = FinishesOpen.no_memory

pub end_with-told-requires-clause-can : goal.end_with-told-requires-clause-can
end_with-told-requires-clause-can g c =
    let dp = option_map (λ doc. doc.items) c.in-Ok.texts.dp in
    let ip = option_map (λ doc. doc.items) c.in-Ok.texts.ip in
    let held = c.args.parts.now.stock in
    let mid = c.admit_dp.new.self in
    let did = admits_dp c.args.at held mid dp ip (c.in-Ok.ensures {u = tt}).texts (c.in-Ok-admit_dp.ensures {u =
    tt}).closes in
    let went_on = admits_ip c.args.at held mid dp ip (c.in-Ok.ensures {u = tt}).texts did c.admit_ip.new.self
    (c.in-Ok-admit_ip.ensures {u = tt}).applied in
    can_do_last g.D.Drive c.requires.0 c.requires.1 (seen_parts c.args.parts.now) c.requires.2.runs c.args.at mid did
    c.last_of-last.ensures.standing c.admit_ip.new.self (is_some ip) went_on

pub end_with-told-requires-clause-may : goal.end_with-told-requires-clause-may
end_with-told-requires-clause-may g c =
    let dp = option_map (λ doc. doc.items) c.in-Ok.texts.dp in
    let ip = option_map (λ doc. doc.items) c.in-Ok.texts.ip in
    let held = c.args.parts.now.stock in
    let mid = c.admit_dp.new.self in
    let did = admits_dp c.args.at held mid dp ip (c.in-Ok.ensures {u = tt}).texts (c.in-Ok-admit_dp.ensures {u =
    tt}).closes in
    let went_on = admits_ip c.args.at held mid dp ip (c.in-Ok.ensures {u = tt}).texts did c.admit_ip.new.self
    (c.in-Ok-admit_ip.ensures {u = tt}).applied in
    subst (λ (l : Lasts). MayEnd g.D.Drive c.admit_ip.new.self.layout.ops l c.args.parts.now.head.drive)
    (sym c.last_of-last.ensures.last)
    (may_end g.D.Drive g.met.D.Drive.counts_now c.requires.0 c.requires.1 c.args.at (seen_parts c.args.parts.now)
    c.requires.2 mid did c.admit_ip.new.self (is_some ip) went_on)

pub returns-in-Ok-admit_ip-clause-finishes : goal.returns-in-Ok-admit_ip-clause-finishes
returns-in-Ok-admit_ip-clause-finishes g c =
    let dp = option_map (λ doc. doc.items) c.in-Ok.texts.dp in
    let ip = option_map (λ doc. doc.items) c.in-Ok.texts.ip in
    let held = c.args.parts.now.stock in
    let mid = c.admit_dp.new.self in
    let did = admits_dp c.args.at held mid dp ip (c.in-Ok.ensures {u = tt}).texts (c.in-Ok-admit_dp.ensures {u =
    tt}).closes in
    let went_on = admits_ip c.args.at held mid dp ip (c.in-Ok.ensures {u = tt}).texts did c.admit_ip.new.self
    (c.in-Ok-admit_ip.ensures {u = tt}).applied in
    went g.D.Drive c.args.noted c.args.at held mid c.args.parts.now.head.drive c.end_with-told.new.head.drive
    c.end_with-told.result c.done.result c.admit_ip.new.self c.is_some-due.result c.are_notes_due-notes.result
    (lasts_in c.last_of-last.result) c.last_of-last.result.generation did
    (subst (λ due. AdmitsOnIp c.args.at held mid c.admit_ip.new.self due)
    (some_mapped (λ doc. doc.items) c.in-Ok.texts.ip ∙ sym c.is_some-due.ensures) went_on)
    c.are_notes_due-notes.ensures c.last_of-last.ensures.last refl c.end_with-told.ensures c.done.ensures

pub do_ops-told-requires-clause-can : goal.do_ops-told-requires-clause-can
do_ops-told-requires-clause-can g c =
    let dp = option_map (λ doc. doc.items) c.in-Ok.texts.dp in
    let ip = option_map (λ doc. doc.items) c.in-Ok.texts.ip in
    let held = c.args.parts.now.stock in
    let mid = c.admit_dp.new.self in
    let did = admits_dp c.args.at held mid dp ip (c.in-Ok.ensures {u = tt}).texts (c.in-Ok-admit_dp.ensures {u =
    tt}).closes in
    subst (λ (l : Plan). CanDoAll g.D.Drive l.ops c.args.parts.now.head.drive)
    (sym ((c.in-Err-Full-admit_ip.ensures {u = tt}).leaves).layout)
    (can_do_mid g.D.Drive c.requires.0 c.requires.1 (seen_parts c.args.parts.now) c.requires.2.runs c.args.at mid did
    c.last_of-last.ensures.standing)

pub do_ops-told-requires-clause-may : goal.do_ops-told-requires-clause-may
do_ops-told-requires-clause-may g c =
    let dp = option_map (λ doc. doc.items) c.in-Ok.texts.dp in
    let ip = option_map (λ doc. doc.items) c.in-Ok.texts.ip in
    let held = c.args.parts.now.stock in
    let mid = c.admit_dp.new.self in
    let did = admits_dp c.args.at held mid dp ip (c.in-Ok.ensures {u = tt}).texts (c.in-Ok-admit_dp.ensures {u =
    tt}).closes in
    subst (λ (l : Plan). MayDoAll g.D.Drive l.ops c.args.parts.now.head.drive)
    (sym ((c.in-Err-Full-admit_ip.ensures {u = tt}).leaves).layout)
    (may_short g.D.Drive g.met.D.Drive.counts_now c.requires.0 c.requires.1 c.args.at (seen_parts c.args.parts.now)
    c.requires.2 mid did)

pub returns-in-Err-Full-admit_ip-clause-finishes :
    goal.returns-in-Err-Full-admit_ip-clause-finishes
returns-in-Err-Full-admit_ip-clause-finishes g c =
    let dp = option_map (λ doc. doc.items) c.in-Ok.texts.dp in
    let ip = option_map (λ doc. doc.items) c.in-Ok.texts.ip in
    let held = c.args.parts.now.stock in
    let mid = c.admit_dp.new.self in
    let did = admits_dp c.args.at held mid dp ip (c.in-Ok.ensures {u = tt}).texts (c.in-Ok-admit_dp.ensures {u =
    tt}).closes in
    let full : AppliesIp ip mid c.admit_ip.new.self (Err (Full c.in-Err-Full-admit_ip.need
    c.in-Err-Full-admit_ip.limit))
    = subst (λ (e : AdmitErr). AppliesIp ip mid c.admit_ip.new.self (Err e)) c.in-Err-Full-admit_ip.field-0-is
    (c.in-Err-Full-admit_ip.ensures {u = tt}).applied in
    short g.D.Drive c.args.noted c.args.at held mid c.args.parts.now.head.drive c.do_ops-told.new.head.drive
    c.do_ops-told.result c.short.result c.admit_ip.new.self c.in-Err-Full-admit_ip.need c.in-Err-Full-admit_ip.limit did
    (short_ip c.args.at held mid dp ip (c.in-Ok.ensures {u = tt}).texts did c.admit_ip.new.self
    c.in-Err-Full-admit_ip.need c.in-Err-Full-admit_ip.limit full)
    ((c.in-Err-Full-admit_ip.ensures {u = tt}).leaves).layout c.do_ops-told.ensures
    (same_end _ _ c.in-Err-Full-admit_ip.need c.in-Err-Full-admit_ip.limit c.do_ops-told.result c.short.result
    c.in-Err-Full-admit_ip.need-is c.in-Err-Full-admit_ip.limit-is c.short.ensures)
