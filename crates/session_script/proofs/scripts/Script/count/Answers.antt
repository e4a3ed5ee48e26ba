use Rattle.std.proofs.Common.{length, sym, ap, ◌∙◌, arith, ⊎_elim}
use Rattle.session_script.specs.Grammar.{calls_of}
use Rattle.session_script.proofs.SessionLemmas.{list_of, length-places_from, length-calls-le, no_calls}
use Rattle.session_script.proofs.scripts.Script.count.Goals as goal

pub overflow_cast-result : goal.overflow_cast-result
overflow_cast-result c =
    let lines = c.self.inside.lines in
    let here = list_of lines c.self.inside.nths.items c.self.inside.places.items c.self.inside.sessions c.args.who c.index.result.now c.self.invariant c.if-who-ge1.true c.if-who-le-MOST_SESSIONS.true c.index.ensures in
    omega (arith, ap length here, length-places_from 0 lines c.args.who, length-calls-le lines c.args.who)

pub returns-then-who-le-MOST_SESSIONS : goal.returns-then-who-le-MOST_SESSIONS
returns-then-who-le-MOST_SESSIONS c =
    let lines = c.self.inside.lines in
    c.len.ensures
    ∙ ap length (list_of lines c.self.inside.nths.items c.self.inside.places.items c.self.inside.sessions c.args.who c.index.result.now c.self.invariant c.if-who-ge1.true c.if-who-le-MOST_SESSIONS.true c.index.ensures)
    ∙ length-places_from 0 lines c.args.who ∙ ap (λ s. length (calls_of s c.args.who)) c.self.view_is

pub returns-else-who-ge1 : goal.returns-else-who-ge1
returns-else-who-ge1 c =
    sym (no_calls c.self.inside.lines c.args.who c.self.invariant.has_sessions (λ low high. ⊎_elim (λ far. omega (arith, far.1)) (λ near. omega arith) c.else-who-ge1.either))
    ∙ ap (λ s. length (calls_of s c.args.who)) c.self.view_is
