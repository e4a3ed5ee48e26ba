use Rattle.std.proofs.Common.{subst, sym, arith, List}
use Rattle.volume_scan.specs.declared.content.Construct.{Construct}
use Rattle.volume_scan.specs.Scans.{AreBetween}
use Rattle.mount_recover.proofs.MountLemmas.{free_blames}
use Rattle.mount_recover.proofs.StepLemmas.{given_step, known, stops, then_step}
use Rattle.generation_view.specs.Told.{AreKnown}
use Rattle.generation_view.proofs.Mounts.{known_of}
use Rattle.generation_view.proofs.telling.walk_all.Goals as goal

pub returns-in_err-scanned : goal.returns-in_err-scanned
returns-in_err-scanned g c =
    given_step g.D.Drive c.args.start c.from_residual.ensures.1
    (stops g.D.Drive c.args.start (omega arith) c.in_err-scanned.ensures (λ held h blames. blames))

pub walk-requires-clause-inside : goal.walk-requires-clause-inside
walk-requires-clause-inside g c =
    subst (λ (l : List Construct). AreBetween 4 c.args.start.limits.cap_dp l) (sym c.into_vec-places.ensures) c.in_ok-scanned.ensures.any.places

pub walk-requires-clause-known : goal.walk-requires-clause-known
walk-requires-clause-known g c =
    known g.D.Drive c.args.start c.in_ok-scanned.ensures (AreKnown c.in_ok-scanned.scanned.mounted.end_ip c.into_vec-places.result.items)
    (λ held h is. known_of held _ c.into_vec-places.result.items is c.into_vec-places.ensures)

pub returns : goal.returns
returns g c =
    then_step g.D.Drive c.args.start c.in_ok-scanned.ensures c.walk.ensures
    (λ held h is walk tells. (is.mounts.found, tells is.mounts.found (sym is.mounts.label)))
    (λ sound walk any. any)
    (λ held h is e free. free_blames held e free)
