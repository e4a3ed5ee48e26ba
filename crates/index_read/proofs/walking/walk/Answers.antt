use Rattle.std.proofs.Common.{rules, ◌≡◌, ℕ, [], ◌∷◌, ◌++◌, map, length, Ok, refl, sym, ap, subst, ◌∙◌, arith}
use Rattle.std.proofs.lemmas.List.{length-map}
use Rattle.ltfs_documents.specs.declared.doc_elements.children.Children.{Children}
use Rattle.ltfs_documents.specs.declared.doc_elements.schema.Container.TheVariants as place
use Rattle.ltfs_documents.specs.DocElements.Documents.{fresh}
use Rattle.index_model.specs.Values.{value_of}
use Rattle.index_read.specs.declared.walking.Level as code_level
use Rattle.ltfs_documents.specs.DocElements.Answers.{HasRoom, piece_of}
use Rattle.index_read.specs.Drafts.{state_of}
use Rattle.index_read.specs.Told.{State, Level, piece_told}
use Rattle.index_read.specs.Walks.{level_in, level_of, opened_after}
use Rattle.index_read.proofs.Steps.{halted_at, is_kept, reaches_next, tells_next, few_next, is_walked, at_top}
use Rattle.ltfs_documents.proofs.DocElements.Steps.{point}
use Rattle.index_read.proofs.walking.walk.Goals as goal

pub loop-at-init : goal.loop-at-init
loop-at-init c =
    let none : length (map value_of c.new-draft.result.nodes.items) ≡ 0 = ap (λ (x : State). length x.nodes) c.new-draft.ensures in
    record {
      within = omega arith;
      few = omega (arith, none);
      ps = [];
      o = record { frame = fresh place.Index; node = 0 };
      os = [];
      top_is = ap (λ (s : Children). record { frame = record { place = place.Index; seen = s }; node = 0 }) c.none.ensures;
      outer_is = c.new-outer.ensures.items;
      reaches = ap (λ (n : ℕ). point c.args.inside (fresh place.Index ∷ []) n) none;
      tells = (refl, sym c.new-draft.ensures);
    }

pub returns-in-Err-clause-refused : goal.returns-in-Err-clause-refused
returns-in-Err-clause-refused c =
    let k = c.loop-at.invariant in
    let s = state_of c.loop-at.draft in
    let len : c.len-nodes.result ≡ length c.loop-at.draft.nodes.items = search rules in
    let count : c.len-nodes.result ≡ length s.nodes = len ∙ sym (length-map c.loop-at.draft.nodes.items value_of) in
    let seen = ap (λ (x : code_level.Level). x.frame.seen) k.top_is in
    halted_at c.args.text.now c.args.inside c.loop-at.at (length s.nodes) c.len-nodes.result k.ps k.o k.os c.loop-at.top c.in-Err.fault k.top_is count k.reaches (c.in-Err.ensures.value k.o.frame.seen seen)

pub returns-then-done-clause-found : goal.returns-then-done-clause-found
returns-then-done-clause-found c =
    let k = c.loop-at.invariant in
    let piece = c.in-Ok.found.0 in
    let next = c.in-Ok.found.1 in
    let p = piece_of piece in
    let text = c.args.text.now in
    let s = state_of c.loop-at.draft in
    let t = state_of c.tell.new.draft in
    let len : c.len-nodes.result ≡ length c.loop-at.draft.nodes.items = search rules in
    let count : c.len-nodes.result ≡ length s.nodes = len ∙ sym (length-map c.loop-at.draft.nodes.items value_of) in
    let seen = ap (λ (x : code_level.Level). x.frame.seen) k.top_is in
    let here = at_top text c.loop-at.at (length s.nodes) c.len-nodes.result c.loop-at.top k.o (Ok (p, next)) k.top_is count (c.in-Ok.ensures.value k.o.frame.seen seen) in
    let level : level_in c.loop-at.top ≡ level_of k.o = ap level_in k.top_is in
    let told : t ≡ piece_told p (level_of k.o) s = c.in_ok-tell.ensures ∙ ap (λ (l : Level). piece_told p l s) level in
    let reaches = reaches_next text c.args.inside c.loop-at.at next k.ps k.o k.os s t p k.reaches k.tells here told in
    let tells = tells_next text c.args.inside c.loop-at.at next k.ps k.o k.os s t p k.reaches k.tells here told in
    let keeps = c.in_ok-done.ensures s k.o k.os (sym count) k.top_is k.outer_is in
    is_walked text (k.ps ++ p ∷ []) c.args.inside next (opened_after p k.o k.os s) c.moved.new.top c.moved.new.outer.items c.in_ok-done.done t reaches tells keeps c.if-done.true

pub loop-at-preserved : goal.loop-at-preserved
loop-at-preserved c =
    let k = c.loop-at.invariant in
    let piece = c.in-Ok.found.0 in
    let next = c.in-Ok.found.1 in
    let p = piece_of piece in
    let text = c.args.text.now in
    let s = state_of c.loop-at.draft in
    let t = state_of c.tell.new.draft in
    let len : c.len-nodes.result ≡ length c.loop-at.draft.nodes.items = search rules in
    let count : c.len-nodes.result ≡ length s.nodes = len ∙ sym (length-map c.loop-at.draft.nodes.items value_of) in
    let seen = ap (λ (x : code_level.Level). x.frame.seen) k.top_is in
    let here = at_top text c.loop-at.at (length s.nodes) c.len-nodes.result c.loop-at.top k.o (Ok (p, next)) k.top_is count (c.in-Ok.ensures.value k.o.frame.seen seen) in
    let level : level_in c.loop-at.top ≡ level_of k.o = ap level_in k.top_is in
    let told : t ≡ piece_told p (level_of k.o) s = c.in_ok-tell.ensures ∙ ap (λ (l : Level). piece_told p l s) level in
    let reaches = reaches_next text c.args.inside c.loop-at.at next k.ps k.o k.os s t p k.reaches k.tells here told in
    let tells = tells_next text c.args.inside c.loop-at.at next k.ps k.o k.os s t p k.reaches k.tells here told in
    let keeps = c.in_ok-done.ensures s k.o k.os (sym count) k.top_is k.outer_is in
    is_kept text (k.ps ++ p ∷ []) c.args.inside next (opened_after p k.o k.os s) c.moved.new.top c.moved.new.outer.items c.in_ok-done.done t reaches tells keeps c.if-done.false
    c.in-Ok.ensures.within.1 (few_next piece (level_of k.o) s t (subst (HasRoom piece) count c.in-Ok.ensures.room) k.few told)
