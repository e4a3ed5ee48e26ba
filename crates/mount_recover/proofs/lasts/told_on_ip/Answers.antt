use Rattle.std.proofs.Common.{◌≡◌, ◌∙◌, true, false, sym}
use Rattle.cartridge_meaning.specs.Pointers.{indexes_of}
use Rattle.index_read.proofs.ValidIndexes.{index_valid}
use Rattle.mount_recover.proofs.LastLemmas.{bad_counts, bad_newest, blamed_ip, of_newest, right_ip, wrong_ip}
use Rattle.mount_recover.proofs.lasts.told_on_ip.Goals as goal

pub returns-in-Err-clause-refused : goal.returns-in-Err-clause-refused
returns-in-Err-clause-refused c =
    λ held dp told known is. blamed_ip held c.args.basis.now.labels.now c.args.place c.args.basis.now.scans.now.dp.constructs dp known c.in-Err.fault
    (bad_newest (indexes_of held.ip) c.args.document.now _ _ c.in-Err.fault is c.in-Err.ensures.refused)

pub returns-in-Err-clause-counts : goal.returns-in-Err-clause-counts
returns-in-Err-clause-counts c = λ before now. bad_counts c.args.document.now _ _ c.in-Err.fault before now c.in-Err.ensures.refused

pub returns-then-not-points_on_ip-clause-refused : goal.returns-then-not-points_on_ip-clause-refused
returns-then-not-points_on_ip-clause-refused c =
    λ held dp told known is. wrong_ip held c.args.basis.now.labels.now c.args.place c.args.basis.now.scans.now.dp.constructs dp known c.in-Ok.index
    (of_newest c.args.basis.now.labels.now.ip (indexes_of held.ip) c.args.document.now c.in-Ok.index is c.in-Ok.ensures.found.0 c.in-Ok.ensures.found.1)
    (λ k first points. let bad : true ≡ false = sym ((c.points_on_ip.ensures k (indexes_of held.dp) dp first (c.as_slice-dps.ensures ∙ known.dps_are) told).1 points) ∙ c.if-not-points_on_ip.true in cc bad)

pub returns-clause-sound : goal.returns-clause-sound
returns-clause-sound c =
    λ capacity place. record {
      index = record { valid = index_valid c.args.document.now c.in-Ok.index c.in-Ok.ensures.found.0; uuid = c.in-Ok.ensures.found.1 };
      place = place;
    }

pub returns-clause-found : goal.returns-clause-found
returns-clause-found c =
    λ held dp told known is. right_ip held c.args.basis.now.labels.now c.args.place c.args.basis.now.scans.now.dp.constructs dp known c.in-Ok.index
    (of_newest c.args.basis.now.labels.now.ip (indexes_of held.ip) c.args.document.now c.in-Ok.index is c.in-Ok.ensures.found.0 c.in-Ok.ensures.found.1)
    (λ k first. (c.points_on_ip.ensures k (indexes_of held.dp) dp first (c.as_slice-dps.ensures ∙ known.dps_are) told).0 c.if-not-points_on_ip.false)
