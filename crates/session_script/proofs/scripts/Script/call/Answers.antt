use Rattle.std.proofs.Common.{◌≡◌, ◌<◌, length, get_or, slice_get, List, Some, sym, ap, ◌∙◌, subst, arith}
use Rattle.std.proofs.Math.Nat.{sub-zero}
use Rattle.std.proofs.lemmas.Option.{get_or_from_slice_get}
use Rattle.session_script.specs.declared.scripts.ScriptLine.{ScriptLine}
use Rattle.session_script.specs.Grammar.{calls_of}
use Rattle.session_script.specs.Sessions.{places_from}
use Rattle.session_script.proofs.SessionLemmas.{list_of, length-places_from, session_of_call, call_there}
use Rattle.session_script.proofs.scripts.Script.call.Goals as goal

pub overflow_sub-who : goal.overflow_sub-who
overflow_sub-who c =
    let lines = c.self.inside.lines in
    let called : c.args.nth < length (calls_of lines c.args.who) = subst (λ (s : List ScriptLine). c.args.nth < length (calls_of s c.args.who)) (sym c.self.view_is) c.requires in
    (session_of_call lines c.args.who c.args.nth c.self.invariant.has_sessions called).0

pub index-requires : goal.index-requires
index-requires c =
    let lines = c.self.inside.lines in
    let called : c.args.nth < length (calls_of lines c.args.who) = subst (λ (s : List ScriptLine). c.args.nth < length (calls_of s c.args.who)) (sym c.self.view_is) c.requires in
    let session = session_of_call lines c.args.who c.args.nth c.self.invariant.has_sessions called in
    omega (arith, session.0, session.1, c.self.invariant.listed, c.self.inside.places.ok.0)

pub bounds-as_slice-nth : goal.bounds-as_slice-nth
bounds-as_slice-nth c =
    let lines = c.self.inside.lines in
    let called : c.args.nth < length (calls_of lines c.args.who) = subst (λ (s : List ScriptLine). c.args.nth < length (calls_of s c.args.who)) (sym c.self.view_is) c.requires in
    let session = session_of_call lines c.args.who c.args.nth c.self.invariant.has_sessions called in
    let here = list_of lines c.self.inside.nths.items c.self.inside.places.items c.self.inside.sessions c.args.who c.index.result.now c.self.invariant session.0 session.1 c.index.ensures in
    omega (arith, called, ap length (c.as_slice.ensures ∙ here), length-places_from 0 lines c.args.who)

pub bounds-as_slice-place : goal.bounds-as_slice-place
bounds-as_slice-place c =
    let lines = c.self.inside.lines in
    let called : c.args.nth < length (calls_of lines c.args.who) = subst (λ (s : List ScriptLine). c.args.nth < length (calls_of s c.args.who)) (sym c.self.view_is) c.requires in
    let session = session_of_call lines c.args.who c.args.nth c.self.invariant.has_sessions called in
    let here = list_of lines c.self.inside.nths.items c.self.inside.places.items c.self.inside.sessions c.args.who c.index.result.now c.self.invariant session.0 session.1 c.index.ensures in
    let there = call_there 0 lines c.args.who c.args.nth (omega (arith, called, length-places_from 0 lines c.args.who)) in
    omega (arith, there.high, ap (λ ps. get_or ps c.args.nth 0) (c.as_slice.ensures ∙ here), ap length c.as_slice-2.ensures)

pub returns : goal.returns
returns c =
    let lines = c.self.inside.lines in
    let called : c.args.nth < length (calls_of lines c.args.who) = subst (λ (s : List ScriptLine). c.args.nth < length (calls_of s c.args.who)) (sym c.self.view_is) c.requires in
    let session = session_of_call lines c.args.who c.args.nth c.self.invariant.has_sessions called in
    let here = list_of lines c.self.inside.nths.items c.self.inside.places.items c.self.inside.sessions c.args.who c.index.result.now c.self.invariant session.0 session.1 c.index.ensures in
    let there = call_there 0 lines c.args.who c.args.nth (omega (arith, called, length-places_from 0 lines c.args.who)) in
    let place : get_or c.as_slice.result.now c.args.nth 0 ≡ get_or (places_from 0 lines c.args.who) c.args.nth 0 = ap (λ ps. get_or ps c.args.nth 0) (c.as_slice.ensures ∙ here) in
    ap (λ s. slice_get (calls_of s c.args.who) c.args.nth) (sym c.self.view_is) ∙ there.called
    ∙ ap (λ (l : ScriptLine). Some l.call) (sym (
    ap (λ i. get_or c.as_slice-2.result.now i c.index-as_slice-place.result) place
    ∙ ap (λ s. get_or s (get_or (places_from 0 lines c.args.who) c.args.nth 0) c.index-as_slice-place.result) c.as_slice-2.ensures
    ∙ get_or_from_slice_get lines _ there.line c.index-as_slice-place.result (ap (slice_get lines) (sym (sub-zero _)) ∙ there.there)))
