use Rattle.std.proofs.Common.{◌+◌, ◌-◌, ◌++◌, length, take, drop, sym, ap, ◌∙◌, subst, arith}
use Rattle.tape_types.specs.declared.cartridges.Extent.{Extent}
use Rattle.tape_types.specs.declared.cartridges.Part.TheVariants.{Dp}
use Rattle.std.specs.List.{flat_map}
use Rattle.std.proofs.lemmas.List.Elements.{All-same}
use Rattle.extent_map.specs.Laid.{Room, IsLaid, cut, left_from}
use Rattle.extent_map.proofs.PieceLemmas.{plans_read}
use Rattle.extent_map.specs.Pieces.{IsInOneBlock, read_piece, planned, with_gaps}
use Rattle.extent_map.proofs.PlaceLemmas.{found, found_end, end_after, touched, bytes_within, blocks_far}
use Rattle.extent_map.proofs.ReplyLemmas.{range_long}
use Rattle.extent_map.proofs.extents.Extents.plan.Goals as goal

nowhere : Extent
nowhere = record { offset = 0; part = Dp; block = 0; byte = 0; count = 0 }

pub part-extents-requires-clause-order : goal.part-extents-requires-clause-order
part-extents-requires-clause-order c =
    let f = c.self.inside in
    let es = f.extents.items in
    let end = c.args.offset + c.args.count in
    end_after f.block_size 0 f.length es c.args.offset end c.ended_by-first.result c.begun_by-last.result nowhere c.self.invariant.are_laid (omega arith)
    (found f.block_size 0 f.length es c.deref.result.now c.args.offset c.ended_by-first.result c.deref.ensures.value c.self.invariant.are_laid c.ended_by-first.ensures.parts)
    (found_end f.block_size 0 f.length es c.deref-2.result.now end c.begun_by-last.result c.deref-2.ensures.value c.self.invariant.are_laid c.begun_by-last.ensures.parts)
    (omega (arith, c.ended_by-first.ensures.bound, ap length c.deref.ensures.value))

pub push_range-requires-clause-byte : goal.push_range-requires-clause-byte
push_range-requires-clause-byte c =
    let f = c.self.inside in
    let j = c.ended_by-first.result in
    let n = c.begun_by-last.result - j in
    bytes_within f.block_size 0 f.length f.extents.items c.part-extents.result.now j n c.self.invariant.are_laid (c.part-extents.ensures ∙ ap (λ l. take n (drop j l)) c.deref-3.ensures.value)

pub push_range-requires-clause-far : goal.push_range-requires-clause-far
push_range-requires-clause-far c =
    let f = c.self.inside in
    let j = c.ended_by-first.result in
    let n = c.begun_by-last.result - j in
    blocks_far f.block_size 0 f.length f.extents.items c.part-extents.result.now j n c.self.invariant.are_laid (c.part-extents.ensures ∙ ap (λ l. take n (drop j l)) c.deref-3.ensures.value)

pub returns-clause-pieces : goal.returns-clause-pieces
returns-clause-pieces c =
    let f = c.self.inside in
    let es = f.extents.items in
    let from = c.args.offset in
    let end = from + c.args.count in
    let j = c.ended_by-first.result in
    let k = c.begun_by-last.result in
    let same = touched f.block_size 0 f.length es from end j k c.self.invariant.are_laid
    (found f.block_size 0 f.length es c.deref.result.now from j c.deref.ensures.value c.self.invariant.are_laid c.ended_by-first.ensures.parts)
    (found_end f.block_size 0 f.length es c.deref-2.result.now end k c.deref-2.ensures.value c.self.invariant.are_laid c.begun_by-last.ensures.parts) in
    c.from_vec.ensures ∙ c.in_ok-push_range.ensures
    ∙ ap (λ l. l ++ with_gaps f.block_size from end (left_from f.block_size from (cut end c.part-extents.result.now))) c.new-pieces.ensures.items
    ∙ ap (λ l. with_gaps f.block_size from end (left_from f.block_size from (cut end l))) (c.part-extents.ensures ∙ ap (λ l. take (k - j) (drop j l)) c.deref-3.ensures.value)
    ∙ ap (with_gaps f.block_size from end) (sym same)
    ∙ ap (λ (r : Room). planned r.laid from c.args.count) c.self.view_is

pub returns-clause-blocks : goal.returns-clause-blocks
returns-clause-blocks c =
    let now = c.args.self.now.laid in
    All-same (IsInOneBlock now.block_size) c.from_vec.result (planned now c.args.offset c.args.count) (returns-clause-pieces c)
    (plans_read.in_one_block now c.args.offset c.args.count (subst (λ (r : Room). IsLaid r.laid) c.self.view_is c.self.invariant))

pub returns-clause-bytes : goal.returns-clause-bytes
returns-clause-bytes c = λ tape.
    ap (flat_map (read_piece tape)) (returns-clause-pieces c)
    ∙ plans_read.read tape c.args.self.now.laid c.args.offset c.args.count (subst (λ (r : Room). IsLaid r.laid) c.self.view_is c.self.invariant) c.requires

pub returns-clause-size : goal.returns-clause-size
returns-clause-size c = range_long c.args.self.now.laid c.args.offset c.args.count c.from_vec.result c.requires (returns-clause-bytes c)
