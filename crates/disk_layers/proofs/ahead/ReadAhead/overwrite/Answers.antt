use Rattle.std.proofs.Common.{◌≤◌, arith, length, subst, sym, IfSome}
use Rattle.byte_disk.specs.Files.{bytes_of}
use Rattle.disk_layers.specs.Ahead.{IsApart, span_of}
use Rattle.disk_layers.proofs.Reading.{kept, right_written}
use Rattle.disk_layers.proofs.ahead.ReadAhead.overwrite.Goals as goal

pub invariant_of-self : goal.invariant_of-self
invariant_of-self g c =
    let old = c.self.inside in
    kept g.B.ByteDisk old.disk c.write.new.self old.pieces old.pieces _ _ c.self.invariant (omega (arith, c.write.ensures.count.in_range, c.write.ensures.count.one_more))
    (right_written g.B.ByteDisk c.write.result c.args.file c.args.at c.args.bytes.now old.disk c.write.new.self old.pieces
    (λ d is. subst (λ o. IfSome o (λ x. c.args.at ≤ length (bytes_of c.args.file x))) is
    (subst (λ v. IfSome (g.B.ByteDisk.held v.disk) (λ x. c.args.at ≤ length (bytes_of c.args.file x))) (sym c.self.view_is)
    (subst (λ b. IfSome (g.B.ByteDisk.held b) (λ x. c.args.at ≤ length (bytes_of c.args.file x))) (sym c.forget.ensures.disk) c.requires.within)))
    c.write.ensures.told c.write.ensures.untold
    (subst (λ v. IsApart c.args.at (length c.args.bytes.now) (span_of c.args.file v.spans)) (sym c.self.view_is) c.forget.ensures.forgotten.apart)
    c.self.invariant.right)
