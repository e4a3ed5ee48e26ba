use Rattle.std.specs.Prelude.{◌&&◌, nat_lt, length}
use Rattle.std.proofs.Common.{ap, ◌∙◌}
use Rattle.tape_layout.specs.Plans.{Plan}
use Rattle.promises.specs.ServingPromise.Replies.{is_write}
use Rattle.volume_core.specs.VolumeSteps.Seen.{seen_parts}
use Rattle.volume_core.specs.Turns.{told}
use Rattle.volume_core.proofs.AskLemmas.{can_ask, can_want_blocks, may_drain, stands}
use Rattle.volume_core.proofs.Submissions.{is_many, not_put_off, placed_at, put_off_now}
use Rattle.volume_core.proofs.submitting.submit.Goals as goal

pub put_off-requires-clause-can : goal.put_off-requires-clause-can
put_off-requires-clause-can g c =
    can_ask g.D.Drive c.args.who c.args.nth c.args.call.now (seen_parts c.args.parts.now) c.requires.runs

pub put_off-requires-clause-many : goal.put_off-requires-clause-many
put_off-requires-clause-many g c =
    let is = c.is_put_off.ensures ∙ ap (λ n. is_write c.args.call.now && nat_lt 64 n) (c.waiting.ensures ∙ ap (λ (l : Plan). length l.ops) c.layout.ensures) in
    is_many c.is_put_off.result (is_write c.args.call.now) (length c.args.parts.now.stock.layout.ops) is
    c.if-is_put_off.true

pub put_off-requires-clause-allowed : goal.put_off-requires-clause-allowed
put_off-requires-clause-allowed g c =
    let is = c.is_put_off.ensures ∙ ap (λ n. is_write c.args.call.now && nat_lt 64 n) (c.waiting.ensures ∙ ap (λ (l : Plan). length l.ops) c.layout.ensures) in
    may_drain g.D.Drive c.args.who c.args.nth c.args.call.now (seen_parts c.args.parts.now) c.requires.runs
    (is_many c.is_put_off.result (is_write c.args.call.now) (length c.args.parts.now.stock.layout.ops) is
    c.if-is_put_off.true)

pub returns-then-is_put_off-clause-submits : goal.returns-then-is_put_off-clause-submits
returns-then-is_put_off-clause-submits g c = c.put_off.ensures.submits c.args.call.now

pub returns-then-is_put_off-clause-put_off : goal.returns-then-is_put_off-clause-put_off
returns-then-is_put_off-clause-put_off g c =
    let is = c.is_put_off.ensures ∙ ap (λ n. is_write c.args.call.now && nat_lt 64 n) (c.waiting.ensures ∙ ap (λ (l : Plan). length l.ops) c.layout.ensures) in
    put_off_now c.is_put_off.result (is_write c.args.call.now && nat_lt 64 (length c.args.parts.now.stock.layout.ops))
    c.put_off.result is c.if-is_put_off.true c.put_off.ensures.ends

pub make-requires-clause-can : goal.make-requires-clause-can
make-requires-clause-can g c =
    can_ask g.D.Drive c.args.who c.args.nth c.args.call.now (seen_parts c.args.parts.now) c.requires.runs

pub make-requires-clause-stands : goal.make-requires-clause-stands
make-requires-clause-stands g c =
    stands g.D.Drive c.args.who c.args.nth c.args.call.now (seen_parts c.args.parts.now) c.requires.runs

pub make-requires-clause-wants : goal.make-requires-clause-wants
make-requires-clause-wants g c =
    can_want_blocks g.D.Drive c.args.who c.args.nth c.args.call.now (seen_parts c.args.parts.now) c.requires.runs

pub returns-clause-submits : goal.returns-clause-submits
returns-clause-submits g c =
    placed_at g.D.Drive c.args.who c.args.nth c.args.call.now c.ask-at.result
    (told (g.C.Clock.one c.args.clock.now) (g.C.Clock.next c.args.clock.now))
    (told (g.C.Clock.one c.ask-at.new.clock) (g.C.Clock.next c.ask-at.new.clock)) c.make.result (seen_parts c.args.parts.now)
    (seen_parts c.make.new.parts) c.make.ensures.placed c.ask-at.ensures c.make.ensures.submits

pub returns-clause-put_off : goal.returns-clause-put_off
returns-clause-put_off g c =
    let is = c.is_put_off.ensures ∙ ap (λ n. is_write c.args.call.now && nat_lt 64 n) (c.waiting.ensures ∙ ap (λ (l : Plan). length l.ops) c.layout.ensures) in
    not_put_off c.is_put_off.result (is_write c.args.call.now && nat_lt 64 (length c.args.parts.now.stock.layout.ops))
    c.make.result is c.if-is_put_off.false c.make.ensures.placed
