use Rattle.std.proofs.Common.{subst}
use Rattle.session_script.specs.Sessions.{HasSessions}
use Rattle.tape_desk.specs.Held.{HeldView}
use Rattle.session_run.proofs.Whole.{none_to_serve}
use Rattle.session_run.proofs.ran.run_none.Goals as goal

pub returns : goal.returns
returns g c =
    let opened : HeldView g.row.D.Denot g.row.K.Denot =
    record { volume = c.shelf.inside.volume; printer = c.shelf.inside.printer } in
    let has = subst HasSessions c.script.ensures c.sessions-none.ensures.each in
    none_to_serve g.D.Drive c.args.shelf opened c.shelf.view_is c.shelf.invariant.0 c.requires.fresh has c.requires.none
