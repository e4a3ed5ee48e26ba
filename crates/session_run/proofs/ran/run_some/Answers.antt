use Rattle.std.proofs.Common.{◌≡◌, ◌<◌, ℕ, List, length, slice_index_or, sym, subst, ap, ◌∙◌}
use Rattle.session_script.specs.Sessions.{HasSessions}
use Rattle.tape_desk.specs.Held.{HeldView, constants}
use Rattle.tape_desk.specs.Passes.{AreAll, ArePartsOf, DeskView}
use Rattle.tape_desk.specs.Promised.{IsPromised}
use Rattle.session_run.specs.Ran.{IsDone}
use Rattle.session_run.proofs.Whole.{are_all, opened_whole, served_whole, written_back}
use Rattle.session_run.proofs.ran.run_some.Goals as goal

pub close_desk-closed-requires : goal.close_desk-closed-requires
close_desk-closed-requires g c =
    let V : Type 0 = DeskView g.row.D.Denot g.row.K.Denot in
    let ps : List V = c.in-Ok.dealt.1.items in let qs : List V = c.make_all.new.passes in
    let was = c.as_mut_slice.ensures.value in
    let same : length qs ≡ length ps = c.make_all.auto.passes ∙ ap length was in
    let back = written_back c.in-Ok.dealt.1.len qs ps same (sym c.as_mut_slice.ensures.len ∙ ap length was) in
    let done : (k : ℕ) (p : V) → k < length ps → IsDone (slice_index_or ps k p) (slice_index_or qs k p) =
    subst (λ (l : List V). (k : ℕ) (p : V) → k < length l → IsDone (slice_index_or l k p) (slice_index_or qs k p)) was c.make_all.ensures in
    record {
      passes = subst (λ (l : List V). AreAll c.in-Ok.dealt.0 l) (sym back)
          (are_all c.in-Ok.dealt.0 c.args.sessions (constants c.args.shelf) ps qs c.in-Ok.ensures.ok same done c.requires.some);
    }

pub returns : goal.returns
returns g c =
    let V : Type 0 = DeskView g.row.D.Denot g.row.K.Denot in
    let ps : List V = c.in-Ok.dealt.1.items in let qs : List V = c.make_all.new.passes in
    let was = c.as_mut_slice.ensures.value in
    let same : length qs ≡ length ps = c.make_all.auto.passes ∙ ap length was in
    let back = written_back c.in-Ok.dealt.1.len qs ps same (sym c.as_mut_slice.ensures.len ∙ ap length was) in
    let done : (k : ℕ) (p : V) → k < length ps → IsDone (slice_index_or ps k p) (slice_index_or qs k p) =
    subst (λ (l : List V). (k : ℕ) (p : V) → k < length l → IsDone (slice_index_or l k p) (slice_index_or qs k p)) was c.make_all.ensures in
    let parts = subst (λ (l : List V). ArePartsOf l c.close_desk-closed.result) back c.close_desk-closed.ensures.parts in
    let opened : HeldView g.row.D.Denot g.row.K.Denot =
    record { volume = c.closed.inside.volume; printer = c.closed.inside.printer } in
    let has = subst (λ (h : HeldView g.row.D.Denot g.row.K.Denot). HasSessions h.volume.fixed.script) c.shelf.view_is
    (subst HasSessions c.script.ensures c.sessions-most.ensures.each) in
    let promised = subst (λ (h : HeldView g.row.D.Denot g.row.K.Denot). IsPromised g.D.Drive h.volume) c.closed.view_is c.closed.invariant.0 in
    opened_whole g.D.Drive c.args.shelf c.close_desk-closed.result opened c.closed.view_is
    (served_whole c.in-Ok.dealt.0 c.args.sessions (constants c.args.shelf) ps qs c.in-Ok.ensures.ok same done g.D.Drive c.close_desk-closed.result
    c.requires.some c.requires.sessions has parts
    c.close_desk-closed.ensures.nothing promised)
