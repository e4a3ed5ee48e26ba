use Rattle.cartridge_meaning.proofs.Honest.{honest_notes}
use Rattle.ltfs_server.proofs.AgainLemmas.{again_ready, next_honest, next_is, not_served, runs_from, was_served}
use Rattle.ltfs_server.proofs.twice.crash_then_run.Goals as goal

pub returns-clause-first : goal.returns-clause-first
returns-clause-first g c = c.run_once-first.ensures

pub returns-clause-image : goal.returns-clause-image
returns-clause-image g c = c.in_ok-image.ensures.image

pub returns-clause-unserved : goal.returns-clause-unserved
returns-clause-unserved g c = λ none.
    not_served _ _ _ _ _ _ c.run_once-first.ensures c.requires.words c.in_ok-image.image c.in_ok-image.ensures.left
    c.requires.ready.0 c.requires.ready.1 c.requires.ready.2 c.requires.ready.3 none

pub returns-clause-survives : goal.returns-clause-survives
returns-clause-survives g c =
    was_served _ _ _ _ _ _ c.run_once-first.ensures c.requires.words c.in_ok-image.image c.in_ok-image.ensures.left

pub returns-clause-second : goal.returns-clause-second
returns-clause-second g c =
    runs_from _ _ _ _ _ _ _ c.run_once-second.ensures
    (next_is _ _ _ _ _ _ c.run_once-first.ensures c.requires.words c.in_ok-next.next c.in_ok-image.image _ c.in_ok-next.ensures
    c.in_ok-image.ensures.image)

pub returns-clause-again : goal.returns-clause-again
returns-clause-again g c =
    again_ready _ _ _ _ _ _ c.run_once-first.ensures c.requires.words c.in_ok-image.image c.in_ok-image.ensures.left

pub run_once-first-requires-clause-honest : goal.run_once-first-requires-clause-honest
run_once-first-requires-clause-honest g c κs within =
    honest_notes c.args.drive.held c.requires.ready.3.sound.honest

pub run_once-second-requires-clause-honest : goal.run_once-second-requires-clause-honest
run_once-second-requires-clause-honest g c κs within =
    next_honest _ _ _ _ _ _ c.run_once-first.ensures c.requires.words c.in_ok-image.image c.in_ok-image.ensures.left c.in_ok-next.next
    (next_is _ _ _ _ _ _ c.run_once-first.ensures c.requires.words c.in_ok-next.next c.in_ok-image.image _ c.in_ok-next.ensures
    c.in_ok-image.ensures.image) c.requires.ready.0 c.requires.ready.1 c.requires.ready.2 c.requires.ready.3
