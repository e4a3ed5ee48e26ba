use Rattle.std.proofs.Common.{◌≡◌, length, max, ap, arith}
use Rattle.session_script.proofs.SessionLemmas.{list_of, length-places_from, length-calls-le, IsIndexed-pushed}
use Rattle.session_script.proofs.scripts.Script.push.Goals as goal
use Rattle.session_script.proofs.scripts.Script.push.Goals.{then-who-sessions, else-who-sessions}

pub overflow_cast-nth : goal.overflow_cast-nth
overflow_cast-nth c =
    let lines = c.self.inside.lines in
    let who = c.args.line.who in
    let here = list_of lines c.self.inside.nths.items c.self.inside.places.items c.self.inside.sessions who c.index.result.now c.self.invariant c.requires.session.0 c.requires.session.1 c.index.ensures in
    omega (arith, ap length here, length-places_from 0 lines who, length-calls-le lines who)

pub invariant_of-result : goal.invariant_of-result
invariant_of-result c =
    let best : c.if-who-sessions.result ≡ max c.self.inside.sessions c.args.line.who = elim c.if-who-sessions.branch [ then-who-sessions w ↦ omega arith | else-who-sessions w ↦ omega arith ] in
    IsIndexed-pushed c.self.inside.lines c.push-3.new.self c.self.inside.nths.items c.push-2.new.self.items c.self.inside.places.items c.self.inside.sessions _ c.args.line c.len-nth.result c.len-place.result
    c.index.result.now c.index_mut.result.now c.push.new.self
    c.self.invariant c.requires.session.0 c.requires.session.1 (omega (arith, ap length c.self.view_is))
    c.in_ok-push-3.ensures.ok c.in_ok-push-2.ensures.items c.len-nth.ensures c.index.ensures c.index_mut.ensures.value c.len-place.ensures c.in_ok-push.ensures.ok best
