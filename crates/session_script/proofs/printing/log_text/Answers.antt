use Rattle.std.proofs.Common.{◌≡◌, ℕ, ◌+◌, ◌<◌, List, [], ◌∷◌, ◌++◌, length, get_or, take, sym, ap, ◌∙◌, arith}
use Rattle.std.specs.List.{flat_map, enumerate_from, zip}
use Rattle.std.proofs.lemmas.Iterator.{YieldsList-from_slice, YieldsList-from_zip}
use Rattle.std.proofs.lemmas.Iterator.Consumers.{YieldsList-from_enumerate, YieldsList-turn, YieldsList-end}
use Rattle.std.proofs.lemmas.List.{length_push, flat_map_more, take_more, take_all}
use Rattle.plain_tree.specs.declared.calls.Placed.{Placed}
use Rattle.session_script.specs.declared.logs.Reply.{Reply}
use Rattle.session_script.specs.LogText.{line_text}
use Rattle.session_script.proofs.printing.log_text.Goals as goal

abbrev line_at : ℕ × (Placed × Reply) → List ℕ
line_at e = line_text e.0 e.1.0 e.1.1

one_more : (all : List (ℕ × (Placed × Reply))) (k n : ℕ) (e : ℕ × (Placed × Reply)) (old new : List ℕ) → (k < length all) × (e ≡ get_or all k e) → n ≡ k + 1 → old ≡ flat_map line_at (take k all) → new ≡ old ++ line_at e → new ≡ flat_map line_at (take n all)
one_more all k n e old new here next before added =
    added ∙ ap (λ l. l ++ line_at e) before ∙ flat_map_more line_at [] (take k all) e
    ∙ ap (flat_map line_at) (ap (λ x. take k all ++ x ∷ []) here.1 ∙ sym (take_more all k e here.0) ∙ ap (λ m. take m all) (sym next))

pub loop-place-preserved : goal.loop-place-preserved
loop-place-preserved c =
    let t = YieldsList-turn (YieldsList-from_enumerate (YieldsList-from_zip (YieldsList-from_slice c.args.log.now.history (cc)) (YieldsList-from_slice c.args.log.now.replies (cc))) (cc)) c.loop-place.yielded c.loop-place.place-iterator c.loop-place.yielded_by c.next.result c.next.new.self (c.in-Some.place, (c.in-Some.placed, c.in-Some.kept)) c.in-Some.is c.next.ensures.steps in
    one_more _ (length c.loop-place.yielded) _ (c.in-Some.place, (c.in-Some.placed.now, c.in-Some.kept.now)) c.loop-place.text.items _ t (length_push c.loop-place.yielded _) c.loop-place.invariant (c.in_ok-push_line.ensures ∙ ap (λ l. c.loop-place.text.items ++ l) (c.new.ensures ∙ ap (λ (r : Reply). line_text c.in-Some.place c.in-Some.placed.now r) c.in-Some-get.ensures.some))

pub returns : goal.returns
returns c =
    let t = YieldsList-end (YieldsList-from_enumerate (YieldsList-from_zip (YieldsList-from_slice c.args.log.now.history (cc)) (YieldsList-from_slice c.args.log.now.replies (cc))) (cc)) c.loop-place.yielded c.loop-place.place-iterator c.loop-place.yielded_by c.next.result c.next.new.self c.in-None.is c.next.ensures.steps in
    c.from_vec.ensures ∙ c.loop-place.invariant
    ∙ ap (flat_map line_at) (take_all (length c.loop-place.yielded) (enumerate_from 0 (zip c.args.log.now.history c.args.log.now.replies)) (omega (arith, t.1)))
