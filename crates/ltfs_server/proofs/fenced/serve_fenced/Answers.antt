use Rattle.std.proofs.Common.{sym}
use Rattle.fenced_drive.specs.contracts.fenced.FencedDrive.TheImpl.{ghosts}
use Rattle.ltfs_server.specs.Sentence.{to_serve}
use Rattle.ltfs_server.proofs.FencedLemmas.{may_serve, no_format, no_make, sound_notes}
use Rattle.ltfs_server.proofs.fenced.serve_fenced.Goals as goal

pub run-requires-clause-honest : goal.run-requires-clause-honest
run-requires-clause-honest g c κs within = λ asked.
    sound_notes (ghosts g.row.D g.row.O g.D.Unowned g.D.Unowned-dict g.D.Drive g.D.Drive-dict g.O.Order g.O.Order-dict g.D.Destruct-dict)
    c.args.drive g.O.Order.facts g.O.Order.tree c.requires.stands

pub run-requires-clause-formats : goal.run-requires-clause-formats
run-requires-clause-formats g c κs within = λ asked are.
    absurd (no_format c.args.words.now.items (g.C.Clock.one c.args.clock) g.O.Order.moment c.requires.words asked are)

pub run-requires-clause-serves : goal.run-requires-clause-serves
run-requires-clause-serves g c κs within =
    may_serve c.args.words.now.items (g.C.Clock.one c.args.clock) g.O.Order.moment c.requires.words
    (ghosts g.row.D g.row.O g.D.Unowned g.D.Unowned-dict g.D.Drive g.D.Drive-dict g.O.Order g.O.Order-dict g.D.Destruct-dict)
    c.args.drive (g.S.Source.left c.args.script.now) g.O.Order.script g.O.Order.facts g.O.Order.tree (λ image left. left)
    c.requires.spelled c.requires.stands

pub run-requires-clause-makes : goal.run-requires-clause-makes
run-requires-clause-makes g c κs within = λ count at are.
    absurd (no_make c.args.words.now.items (g.C.Clock.one c.args.clock) g.O.Order.moment c.requires.words count at are)

pub returns : goal.returns
returns g c = c.run.ensures.headline to_serve g.O.Order.moment (c.requires.words.0, c.requires.words.1, sym c.requires.words.2)
