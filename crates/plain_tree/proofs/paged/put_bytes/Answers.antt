use Rattle.std.proofs.Common.{◌+◌, ◌-◌, ◌<◌, length, ap, sym, ◌∙◌, ⊎_elim, inl, inr, arith, slice_index, ◌≡◌, take, drop}
use Rattle.std.proofs.lemmas.Bool.{cases_lt}
use Rattle.std.proofs.lemmas.List.{get_or-take, get_or-drop, length-take, length-drop}
use Rattle.plain_tree.specs.Pages.{byte_at}
use Rattle.plain_tree.proofs.paged.put_bytes.Goals as goal

pub loop-done-preserved : goal.loop-done-preserved
loop-done-preserved c = let i = c.loop-done.invariant in
    let piece = take (c.loop-done.done + c.min-count.result - c.loop-done.done) (drop c.loop-done.done c.args.bytes.now) in
    let long : length piece ≡ c.min-count.result = omega (arith, length-take (c.loop-done.done + c.min-count.result - c.loop-done.done) (drop c.loop-done.done c.args.bytes.now), length-drop c.loop-done.done c.args.bytes.now) in record {
      within = omega arith;
      there = λ q low high. c.put_piece.ensures.kept q (i.there q low high);
      inside = λ k below. ⊎_elim
          (λ early. c.put_piece.ensures.others (c.args.offset + k) (inl (omega arith)) ∙ i.inside k early)
          (λ late.
          let at : c.args.offset + c.loop-done.done + (k - c.loop-done.done) ≡ c.args.offset + k = omega arith in
          let within : k - c.loop-done.done < length piece = omega arith in
          ap (byte_at (λ b. b.value) c.put_piece.new.pages.entries) (sym at) ∙ c.put_piece.ensures.inside (k - c.loop-done.done) within
          ∙ get_or-take (c.loop-done.done + c.min-count.result - c.loop-done.done) (drop c.loop-done.done c.args.bytes.now) (k - c.loop-done.done) 0 (omega arith)
          ∙ get_or-drop c.loop-done.done c.args.bytes.now (k - c.loop-done.done) 0
          ∙ ap (λ j. slice_index c.args.bytes.now j) (omega arith))
          (cases_lt k c.loop-done.done);
      below = λ j low. c.put_piece.ensures.others j (inl (omega arith)) ∙ i.below j low;
      above = λ j high. c.put_piece.ensures.others j (inr (omega arith)) ∙ i.above j (omega arith);
    }
