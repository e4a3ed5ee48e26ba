use Rattle.std.proofs.Common.{◌++◌, ap, ◌∙◌}
use Rattle.tape_layout.specs.Plans.{Drafted}
use Rattle.tape_layout.proofs.Lists.{put_next}
use Rattle.tape_layout.proofs.drafts.Draft.put_all.Goals as goal

pub loop-k-preserved : goal.loop-k-preserved
loop-k-preserved c =
    let added = c.in_ok-push.ensures in (
      ap (λ (d : Drafted). d.start) added ∙ c.loop-k.invariant.0,
      put_next c.args.block c.args.place.pos c.loop-k.k c.args.place.part c.args.doc.now c.extend.new.self c.args.self.now.ops c.loop-k.self.ops c.push.new.self.ops
          c.loop-k.invariant.1 (ap (λ (d : Drafted). d.ops) added)
          (c.in_ok-extend.ensures.ok ∙ ap (λ b. b ++ c.piece.result.now) c.new-bytes.ensures ∙ c.piece.ensures.bytes),
    )
