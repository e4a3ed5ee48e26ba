use Rattle.std.proofs.Common.{◌≡◌, ◌∙◌, length, false, true, refl, sym}
use Rattle.std.proofs.lemmas.Option.{slice_get_read}
use Rattle.cartridge_meaning.specs.Meaning.{FitsNode}
use Rattle.mount_recover.proofs.ExtentLemmas.{all_more, all_whole, first_outside}
use Rattle.mount_recover.proofs.extents.first_outside.Goals as goal

pub returns-then-not-fits : goal.returns-then-not-fits
returns-then-not-fits c =
    let is = slice_get_read c.args.nodes.now (length c.args.nodes.now) c.loop-node.node-index c.node-item.result refl c.loop-node-test.true c.node-item.is in
    first_outside c.args.label.now c.args.ends.ip c.args.ends.dp c.args.nodes.now c.loop-node.node-index c.node-item.result is c.loop-node.invariant
    (λ fits. let bad : false ≡ true = sym c.if-not-fits.true ∙ c.fits.ensures.1 fits in cc bad)

pub loop-node-preserved : goal.loop-node-preserved
loop-node-preserved c =
    let is = slice_get_read c.args.nodes.now (length c.args.nodes.now) c.loop-node.node-index c.node-item.result refl c.loop-node-test.true c.node-item.is in
    all_more (FitsNode c.args.label.now c.args.ends.ip c.args.ends.dp) c.args.nodes.now c.loop-node.node-index c.node-item.result is
    c.loop-node.invariant (c.fits.ensures.0 c.if-not-fits.false)

pub returns : goal.returns
returns c = all_whole (FitsNode c.args.label.now c.args.ends.ip c.args.ends.dp) c.loop-node.node-index c.args.nodes.now c.loop-node-test.false c.loop-node.invariant
