use Rattle.std.proofs.Common.{◌<◌, ap, ◌∙◌, arith}
use Rattle.extent_map.specs.Laid.{Laid, overlaid}
use Rattle.file_tree.proofs.RawLemmas.{placed_more}
use Rattle.file_tree.proofs.raws.put_raw.Goals as goal

pub extent_of-requires-clause-byte : goal.extent_of-requires-clause-byte
extent_of-requires-clause-byte c =
    let some : 0 < c.args.raw.count = omega (arith, c.if-raw-eq0.false) in
    omega (arith, c.requires.size, (c.requires.raw.on_volume some).1)

pub returns : goal.returns
returns c front rest p apart =
    let some : 0 < c.args.raw.count = omega (arith, c.if-raw-eq0.false) in
    placed_more c.args.letters c.args.extents.now.laid.block_size c.args.length front rest c.args.raw c.args.extents.now.laid p apart c.extent_of.result c.overlay.new.self.laid c.extent_of.ensures some c.if-raw-length.false
    (c.overlay.ensures.extents ∙ ap (λ (f : Laid). overlaid f c.extent_of.result) c.in_ok-reserve.ensures.same) c.overlay.ensures.laid
