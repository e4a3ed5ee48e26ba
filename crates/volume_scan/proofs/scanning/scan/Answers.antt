use Rattle.std.proofs.Common.{◌-◌, ◌*◌, arith, sym, subst, ◌∙◌, ◌≤◌, ℕ, length}
use Rattle.tape_types.specs.Cartridges.{IsLimits, capacity, items_of}
use Rattle.tape_types.specs.declared.cartridges.Limits.{Limits}
use Rattle.volume_scan.specs.Steps.{IsReadTo}
use Rattle.volume_scan.proofs.Beginning.{begins, has_labels_alone, labels_there, least}
use Rattle.volume_scan.proofs.Looping.{one_of}
use Rattle.tape_drive.proofs.Looking.{more_looks, one_look}
use Rattle.volume_scan.proofs.scanning.scan.Goals as goal

pub returns-then-positions-eq-BEHIND_LABELS-clause-told : goal.returns-then-positions-eq-BEHIND_LABELS-clause-told
returns-then-positions-eq-BEHIND_LABELS-clause-told g c =
    has_labels_alone (g.D.Drive.held c.args.drive.now) c.args.part c.limits.result c.begin-reading.result c.requires.labels c.limits.ensures.fits
    c.begin-reading.ensures.constructs c.begin-reading.ensures.opened c.begin-reading.ensures.pos
    c.content_of.result (sym c.capacity_of-positions.ensures ∙ c.if-positions-eq-BEHIND_LABELS.true)
    c.content_of.ensures.constructs c.content_of.ensures.lead c.content_of.ensures.front

pub locate-requires-clause-within : goal.locate-requires-clause-within
locate-requires-clause-within g c = labels_there (g.D.Drive.held c.args.drive.now) c.args.part c.requires.labels

pub read_to_end-requires-clause-read : goal.read_to_end-requires-clause-read
read_to_end-requires-clause-read g c =
    λ held h. subst (λ (n : ℕ). (length (items_of c.args.part held) ≤ n) × IsReadTo (items_of c.args.part held) c.begin-reading.result) (sym c.capacity_of-positions.ensures)
    (begins (g.D.Drive.held c.args.drive.now) c.args.part c.limits.result c.begin-reading.result c.requires.labels c.limits.ensures.fits
    c.begin-reading.ensures.constructs c.begin-reading.ensures.opened c.begin-reading.ensures.pos held (sym c.in-Ok.ensures.held ∙ h))

pub returns-clause-looks : goal.returns-clause-looks
returns-clause-looks g c =
    let four = least c.args.part (g.D.Drive.limits c.args.drive.now) (subst (λ (l : Limits). IsLimits l) c.limits.ensures.value c.limits.ensures.range) in
    more_looks g.D.Drive g.D.Drive.MOST ((capacity c.args.part (g.D.Drive.limits c.args.drive.now) - 3) * g.D.Drive.MOST) c.args.drive.now c.locate.new.self
    (one_of (capacity c.args.part (g.D.Drive.limits c.args.drive.now) - 3) g.D.Drive.MOST (omega (arith, four)))
    (one_look g.D.Drive g.D.Drive.MOST c.args.drive.now c.locate.new.self (g.met.D.Drive.counts_now c.args.drive.now) c.locate.ensures.held c.locate.ensures.command c.locate.ensures.crash)
