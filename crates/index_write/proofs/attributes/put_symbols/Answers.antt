use Rattle.std.proofs.Common.{◌++◌, ◌∙◌, List, ℕ, ap, append_assoc}
use Rattle.std.specs.Slice.Iter.{chunks_rest}
use Rattle.base64.specs.Engines.{standard}
use Rattle.base64.specs.GeneralPurpose.{encode_of}
use Rattle.base64.proofs.EngineFacts.{encoded_prefix}
use Rattle.index_write.proofs.Assembled.{join}
use Rattle.index_write.proofs.Symbols.{none_left, piece_first}
use Rattle.index_write.proofs.attributes.put_symbols.Goals as goal

pub loop-piece-preserved : goal.loop-piece-preserved
loop-piece-preserved c =
    let piece = c.in-Some.piece.now in
    let rest = chunks_rest c.next.new.self in
    let steps = c.in-Some.ensures.steps in
    let size = c.loop-piece.invariant.0 in
    let symbols = encoded_prefix (encode_of standard piece) c.loop-piece.symbols c.encode_slice.new.output _ c.in-Ok.count c.encode_slice.result _
    c.encode_slice.auto.output c.encode_slice.ensures.fits c.encode_slice.ensures.too_small c.in-Ok.is c.in-Ok.ensures.written in
    let put = c.in_ok-put.ensures.ok ∙ ap (λ (t : List ℕ). c.loop-piece.out.items ++ t) symbols in (
      steps.0 ∙ size,
      ap (λ (t : List ℕ). t ++ encode_of standard rest) put
          ∙ append_assoc c.loop-piece.out.items (encode_of standard piece) (encode_of standard rest)
          ∙ ap (λ (t : List ℕ). c.loop-piece.out.items ++ t) (piece_first standard _ piece rest steps.1.0 (rw size at steps.1.1))
          ∙ c.loop-piece.invariant.1,
      join c.args.out.now.items _ _ c.loop-piece.invariant.2 (_, c.in_ok-put.ensures.ok),
    )

pub returns-clause-ok : goal.returns-clause-ok
returns-clause-ok c = none_left standard _ _ _ c.in-None.ensures.steps.1.0 c.loop-piece.invariant.1
