use Rattle.std.proofs.Common.{subst, sym, arith, List}
use Rattle.tape_types.specs.declared.cartridges.Cartridge.{Cartridge}
use Rattle.cartridge_meaning.specs.Mounts.{Mounts}
use Rattle.volume_scan.specs.declared.content.Construct.{Construct}
use Rattle.volume_scan.specs.Scans.{AreBetween}
use Rattle.mount_recover.proofs.StepLemmas.{given_step, known, stops, then_step}
use Rattle.generation_view.specs.Told.{AreKnown}
use Rattle.generation_view.proofs.Mounts.{known_of}
use Rattle.generation_view.proofs.seeking.seek.Goals as goal

pub returns-in_err-scanned : goal.returns-in_err-scanned
returns-in_err-scanned g c =
    given_step g.D.Drive c.args.start c.from_residual.ensures.1
    (stops g.D.Drive c.args.start (omega arith) c.in_err-scanned.ensures (λ held h blames. blames))

pub seek_behind-requires-clause-inside : goal.seek_behind-requires-clause-inside
seek_behind-requires-clause-inside g c =
    subst (λ (l : List Construct). AreBetween 4 c.args.start.limits.cap_dp l) (sym c.into_vec-places.ensures) c.in_ok-scanned.ensures.any.places

pub seek_behind-requires-clause-known : goal.seek_behind-requires-clause-known
seek_behind-requires-clause-known g c =
    known g.D.Drive c.args.start c.in_ok-scanned.ensures
    (λ (x : Cartridge). Mounts x c.in_ok-scanned.scanned.mounted × AreKnown c.in_ok-scanned.scanned.mounted.end_ip c.into_vec-places.result.items x)
    (λ held h is. (is.mounts, known_of held _ c.into_vec-places.result.items is c.into_vec-places.ensures))

pub returns : goal.returns
returns g c =
    then_step g.D.Drive c.args.start c.in_ok-scanned.ensures c.seek_behind.ensures (λ held h m s found. found) (λ m s any. any) (λ held h m e blames. blames)
