use Rattle.std.proofs.Common.{sym, subst, Option, arith}
use Rattle.std.specs.Prelude.{IfSome}
use Rattle.tape_types.specs.declared.cartridges.Cartridge.{Cartridge}
use Rattle.tape_types.specs.declared.cartridges.Part.TheVariants.{Ip, Dp}
use Rattle.mount_recover.specs.Lasts.{HasSomeLabels}
use Rattle.mount_recover.proofs.ScanLemmas.{blames_dp, blames_ip, long_fronts}
use Rattle.mount_recover.proofs.StepLemmas.{at_told, given_step, stops, stops_after}
use Rattle.mount_recover.proofs.scans.scan_both.Goals as goal

pub scan_one-requires-clause-labels : goal.scan_one-requires-clause-labels
scan_one-requires-clause-labels g c = long_fronts Ip (g.D.Drive.held c.args.drive.now) c.requires.labels

pub returns-in_err-ip : goal.returns-in_err-ip
returns-in_err-ip g c =
    given_step g.D.Drive c.args.start c.from_residual.ensures.1
    (stops g.D.Drive c.args.start (omega arith) c.in_err-ip.ensures (λ held h lacks. blames_ip held (at_told HasSomeLabels h c.requires.labels) c.in_err-ip.field-0.0 lacks))

pub scan_one-requires-2-clause-labels : goal.scan_one-requires-2-clause-labels
scan_one-requires-2-clause-labels g c =
    long_fronts Dp (g.D.Drive.held c.scan_one.new.drive)
    (subst (λ (o : Option Cartridge). IfSome o HasSomeLabels) (sym c.in_ok-ip.ensures.looks.held) c.requires.labels)

pub returns-in_err-dp : goal.returns-in_err-dp
returns-in_err-dp g c =
    given_step g.D.Drive c.args.start c.from_residual-in_err-dp.ensures.1
    (stops_after g.D.Drive c.args.start (omega arith) c.in_ok-ip.ensures c.in_err-dp.ensures
    (λ held h content lacks. blames_dp held (at_told HasSomeLabels h c.requires.labels) content.form c.in_err-dp.field-0.0 lacks))
