-- A text is an index's, or stops, in one way.
use Rattle.std.proofs.Common.{◌≡◌, ℕ, List, [], ◌∷◌, ◌++◌, Some, inl, inr, refl, sym, ap, subst, ◌∙◌}
use Rattle.index_model.specs.declared.indexes.Index.{Index}
use Rattle.index_model.specs.declared.nodes.NodeKind.TheVariants as kinds
use Rattle.index_model.specs.declared.errors.IndexErr.{IndexErr}
use Rattle.ltfs_documents.specs.declared.doc_elements.schema.Container.TheVariants as place
use Rattle.index_model.specs.Values.{value_in, listed, IndexValue, all_nodes, Tells}
use Rattle.ltfs_documents.specs.DocElements.Pieces.{closes}
use Rattle.index_model.specs.Documents.{StopsAs, fault_told, refusal_told}
use Rattle.index_model.specs.Grammar.{TellsFacts, TellsContents, Spells, IndexText, Stops}
use Rattle.ltfs_documents.specs.DocElements.Elements.{all_pieces}
use Rattle.index_model.specs.Refusals.{IsToldOf}
use Rattle.index_model.specs.Valid.{Agrees}
use Rattle.index_model.proofs.FaultLaws.{one_fault, agrees_no_fault}
use Rattle.index_read.specs.Told.{State, Tell, blank, items_told, outermost}
use Rattle.index_read.specs.Walks.{IsWhole}
use Rattle.index_read.proofs.Fits.{all_fit}
use Rattle.index_read.proofs.Within.{volume_is, volume_told}
use Rattle.index_read.proofs.Tells.{volume_tells, one_volume}
use Rattle.ltfs_documents.proofs.DocElements.Trees.{accepted}
use Rattle.index_read.proofs.Trees.{items_tell, tell_same}
use Rattle.index_read.proofs.Nodes.{one_contents}
use Rattle.index_read.proofs.Facts.{one_facts}
use Rattle.ltfs_documents.proofs.DocElements.Once.{never_both as pieces_go, one_document, one_stop}
use Rattle.index_read.proofs.Same.{tells_one}
use Rattle.index_read.proofs.Assembled.{root_told}

-- the state to which a spelling leads
pub record Read (text : List ℕ) (v : IndexValue) : Type 0 where
  pub state : State
  pub whole : IsWhole text state
  pub volume : v.volume ≡ state.volume
  pub nodes : all_nodes v ≡ state.nodes

-- a text that spells a value is read as it
pub spelled_whole : (text : List ℕ) (v : IndexValue) → Spells text v → Read text v
spelled_whole text v s =
    let fits = all_fit text place.Index [] s.spelled.inside s.items s.spelled.end s.spelled.children in
    let r = root_told [] s.items 0 blank fits refl refl in
    let both : Some s.root_items ≡ Some r.items = sym s.root ∙ r.children in
    let same : s.root_items ≡ r.items = cc in
    let facts : v.root ≡ r.facts = one_facts r.items v.root r.facts (subst (λ is. TellsFacts is v.root) same s.facts) r.tells in
    let nodes : v.inside ≡ r.nodes = one_contents r.items v.inside r.nodes (subst (λ is. TellsContents is v.inside) same s.contents) r.contents in
    let volume : v.volume ≡ volume_told s.items blank.volume = one_volume s.items v.volume _ s.volume (volume_tells s.items fits) in
    let list : all_nodes v ≡ value_in 0 r.facts kinds.Dir ∷ listed 0 1 r.nodes = λ i. value_in 0 (facts i) kinds.Dir ∷ listed 0 1 (nodes i) in
    record {
      state = items_told place.Index 0 s.items blank;
      whole = record {
        ps = all_pieces s.items ++ closes ∷ [];
        accepts = accepted place.Index text s.items s.spelled s.few;
        tells = items_tell place.Index 0 [] s.items blank;
      };
      volume = volume ∙ sym (volume_is [] s.items 0 blank fits);
      nodes = list ∙ sym r.list;
    }

one_whole : (text : List ℕ) (s t : State) → IsWhole text s → IsWhole text t → s ≡ t
one_whole text s t x y =
    let same = one_document place.Index text x.ps y.ps x.accepts y.accepts in
    tell_same y.ps _ _ [] s [] t (subst (λ ps. Tell ps outermost blank [] s) same.pieces x.tells) y.tells

-- a text spells one value, and so one index
one_spelled : (text : List ℕ) (a b : Index) (v w : IndexValue) → Spells text v → Spells text w → Tells a v → Tells b w → a ≡ b
one_spelled text a b v w s t h k =
    let x = spelled_whole text v s in
    let y = spelled_whole text w t in
    let same = one_whole text x.state y.state x.whole y.whole in
    tells_one a b v w h k (x.volume ∙ ap (λ (z : State). z.volume) same ∙ sym y.volume) (x.nodes ∙ ap (λ (z : State). z.nodes) same ∙ sym y.nodes)

-- a text is that of one index at most
pub one_index_text : (text : List ℕ) (a b : Index) → IndexText text a → IndexText text b → a ≡ b
one_index_text text a b h k = one_spelled text a b h.value k.value h.spells k.spells h.tells k.tells

-- a text that is spelled doesn't stop
spelled_goes : (text : List ℕ) (v : IndexValue) (e : IndexErr) → Spells text v → StopsAs text e → ⊥
spelled_goes text v e s stops =
    let x = spelled_whole text v s in
    pieces_go place.Index text x.whole.ps stops.why s.spelled.valid x.whole.accepts stops.stops

-- the text of an index stops nowhere
pub never_both : (text : List ℕ) (index : Index) (e : IndexErr) → IndexText text index → Stops text e → ⊥
never_both text index e h (inl stops) = spelled_goes text h.value e h.spells stops
never_both text index e h (inr faulty) =
    let f = faulty.1 in
    let same = one_spelled text index f.index h.value f.value h.spells f.spells h.tells f.tells in
    agrees_no_fault f.index faulty.0 f.told (subst Agrees same h.agrees)

-- a text that is no index's is refused in one way
pub one_refusal : (text : List ℕ) (e f : IndexErr) → Stops text e → Stops text f → e ≡ f
one_refusal text e f (inl h) (inl k) = h.told ∙ ap refusal_told (one_stop place.Index text h.why k.why h.stops k.stops) ∙ sym k.told
one_refusal text e f (inl h) (inr k) = absurd (spelled_goes text k.1.value e k.1.spells h)
one_refusal text e f (inr h) (inl k) = absurd (spelled_goes text h.1.value f h.1.spells k)
one_refusal text e f (inr h) (inr k) =
    let same = one_spelled text h.1.index k.1.index h.1.value k.1.value h.1.spells k.1.spells h.1.tells k.1.tells in
    let faults = one_fault k.1.index h.0 k.0 (subst (λ (i : Index). IsToldOf i h.0) same h.1.told) k.1.told in
    h.2 ∙ ap fault_told faults ∙ sym k.2
