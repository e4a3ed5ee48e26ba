use Rattle.std.proofs.Common.{Option, subst, sym, arith}
use Rattle.std.specs.Prelude.{IfSome}
use Rattle.tape_types.specs.declared.cartridges.Cartridge.{Cartridge}
use Rattle.mount_recover.specs.Lasts.{IsLastDp, IsScan}
use Rattle.mount_recover.proofs.LastLemmas.{are_lasts, are_sound, sound_read}
use Rattle.mount_recover.proofs.StepLemmas.{given_step, known, stops, then_step}
use Rattle.mount_recover.proofs.lasts.read_lasts.Goals as goal

pub returns-in_err-dp : goal.returns-in_err-dp
returns-in_err-dp g c =
    given_step g.D.Drive c.args.start c.from_residual.ensures.1
    (stops g.D.Drive c.args.start (omega arith) c.in_err-dp.ensures (λ held h blames. blames))

pub last_on_ip-requires-clause-known : goal.last_on_ip-requires-clause-known
last_on_ip-requires-clause-known g c =
    subst (λ (o : Option Cartridge). IfSome o (IsScan c.args.labels.now c.args.scans.now)) (sym c.in_ok-dp.ensures.looks.held) c.requires.known

pub last_on_ip-requires-clause-dp : goal.last_on_ip-requires-clause-dp
last_on_ip-requires-clause-dp g c =
    known g.D.Drive c.args.start c.in_ok-dp.ensures (IsLastDp c.args.labels.now.ip c.in_ok-dp.dp) (λ held h is. is)

pub returns : goal.returns
returns g c =
    then_step g.D.Drive c.args.start c.in_ok-dp.ensures c.last_on_ip.ensures
    (λ held h dp lasts with. are_lasts c.args.labels.now.ip c.in_ok-dp.dp lasts held dp with)
    (λ dp lasts with. are_sound c.args.labels.now.ip c.args.start.limits c.in_ok-dp.dp lasts (sound_read _ _ _ c.in_ok-dp.dp dp) with)
    (λ held h dp e blames. blames)
