use Rattle.std.proofs.Common.{rules, ◌≡◌, ℕ, [], ◌∷◌, ◌++◌, map, length, Ok, refl, sym, ap, subst, ◌∙◌, arith}
use Rattle.std.proofs.lemmas.List.{length-map}
use Rattle.ltfs_documents.specs.declared.doc_elements.children.Children.{Children}
use Rattle.ltfs_documents.specs.declared.doc_elements.schema.Container.TheVariants as place
use Rattle.ltfs_documents.specs.DocElements.Documents.{fresh}
use Rattle.index_model.specs.Values.{value_of}
use Rattle.index_read.specs.declared.walking.Level as code_level
use Rattle.ltfs_documents.specs.DocElements.Answers.{HasRoom, piece_of}
use Rattle.index_read.specs.Drafts.{state_of}
use Rattle.index_read.specs.Told.{State, Level, piece_told}
use Rattle.index_read.specs.Walks.{level_in, level_of, opened_after}
use Rattle.index_read.proofs.Steps.{at_top, few_next, is_front, is_kept, reaches_next, tells_next}
use Rattle.ltfs_documents.proofs.DocElements.Steps.{point}
use Rattle.index_read.proofs.walking.front_behind.Goals as goal

pub loop-alloc-init : goal.loop-alloc-init
loop-alloc-init c =
    let none : length (map value_of c.new-draft.result.nodes.items) ≡ 0 = ap (λ (x : State). length x.nodes) c.new-draft.ensures in
    record {
      within = omega arith;
      few = omega (arith, none);
      ps = [];
      o = record { frame = fresh place.Index; node = 0 };
      os = [];
      top_is = ap (λ (s : Children). record { frame = record { place = place.Index; seen = s }; node = 0 }) c.none.ensures;
      outer_is = c.new-outer.ensures.items;
      reaches = ap (λ (n : ℕ). point c.args.inside (fresh place.Index ∷ []) n) none;
      tells = (refl, sym c.new-draft.ensures);
    }

pub loop-alloc-preserved : goal.loop-alloc-preserved
loop-alloc-preserved c =
    let k = c.loop-alloc.invariant in
    let piece = c.in-Ok.piece in
    let next = c.in-Ok.next in
    let p = piece_of piece in
    let text = c.args.text.now in
    let s = state_of c.loop-alloc.draft in
    let t = state_of c.tell.new.draft in
    let len : c.len.result ≡ length c.loop-alloc.draft.nodes.items = search rules in
    let zero : c.len.result ≡ 0 = c.loop-alloc-test.true in
    let count : 0 ≡ length s.nodes = sym zero ∙ len ∙ sym (length-map c.loop-alloc.draft.nodes.items value_of) in
    let seen = ap (λ (x : code_level.Level). x.frame.seen) k.top_is in
    let here = at_top text c.loop-alloc.at (length s.nodes) 0 c.loop-alloc.top k.o (Ok (p, next)) k.top_is count (c.in-Ok.ensures.value k.o.frame.seen seen) in
    let level : level_in c.loop-alloc.top ≡ level_of k.o = ap level_in k.top_is in
    let told : t ≡ piece_told p (level_of k.o) s = c.in-Ok-tell.ensures ∙ ap (λ (l : Level). piece_told p l s) level in
    let reaches = reaches_next text c.args.inside c.loop-alloc.at next k.ps k.o k.os s t p k.reaches k.tells here told in
    let tells = tells_next text c.args.inside c.loop-alloc.at next k.ps k.o k.os s t p k.reaches k.tells here told in
    let keeps = c.in-Ok-moved.ensures s k.o k.os (sym count) k.top_is k.outer_is in
    is_kept text (k.ps ++ p ∷ []) c.args.inside next (opened_after p k.o k.os s) c.moved.new.top c.moved.new.outer.items c.in-Ok-moved.done t reaches tells keeps c.if-done.false
    c.in-Ok.ensures.within.1 (few_next piece (level_of k.o) s t (subst (HasRoom piece) count c.in-Ok.ensures.room) k.few told)

pub returns-then-is_root_pointed-clause-front : goal.returns-then-is_root_pointed-clause-front
returns-then-is_root_pointed-clause-front c =
    let len : c.len-open.result ≡ length c.loop-alloc.outer.items = search rules in
    let none : c.len-open.result ≡ 0 = c.if-open-eq0.true in
    λ head. is_front c.args.text.now c.args.inside c.loop-alloc.at c.args.lone c.loop-alloc.top c.loop-alloc.outer.items (state_of c.loop-alloc.draft) c.loop-alloc.invariant (sym len ∙ none)
    (c.is_root_pointed.ensures c.if-is_root_pointed.true) head
