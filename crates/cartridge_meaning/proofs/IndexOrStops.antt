-- Each text is that of an index, or stops.
use Rattle.std.proofs.Common.{◌⊎◌, ⊎_elim, ℕ, List, [], IsUtf8, inl, inr, refl, sym, subst, ◌∙◌}
use Rattle.ltfs_documents.specs.declared.doc_elements.schema.Container.TheVariants as place
use Rattle.ltfs_documents.specs.DocElements.Documents.{Accepts, IsAccepted, IsStopped}
use Rattle.ltfs_documents.specs.DocElements.Pieces.{Piece}
use Rattle.ltfs_documents.proofs.DocElements.Ends.{accepted_or_stops}
use Rattle.ltfs_documents.proofs.DocElements.Trees.{elements_of}
use Rattle.index_model.specs.declared.errors.IndexErr.{IndexErr}
use Rattle.index_model.specs.declared.faults.Fault.{Fault}
use Rattle.index_model.specs.declared.indexes.Index.{Index}
use Rattle.index_model.specs.Documents.{fault_told, refusal_told}
use Rattle.index_model.specs.Grammar.{IndexText, Stops}
use Rattle.index_model.specs.Refusals.{IsToldOf}
use Rattle.index_model.specs.Valid.{Agrees}
use Rattle.index_model.specs.Values.{Tells}
use Rattle.index_read.specs.Told.{State, Tell, blank, items_told, outermost}
use Rattle.index_read.specs.Walks.{IsWhole}
use Rattle.index_read.proofs.Assembled.{assembled}
use Rattle.index_read.proofs.Timed.{whole_told}
use Rattle.index_read.proofs.Trees.{items_tell}
use Rattle.cartridge_meaning.proofs.Faulty.{agrees_or_fault}

-- a text is an index's, or stops in some way
abbrev pub Judged : List ℕ → Type 0
Judged text = ((index : Index) × IndexText text index) ⊎ ((e : IndexErr) × Stops text e)

-- what the pieces of a whole document tell
told_whole : (text : List ℕ) (ps : List Piece) → IsUtf8 text → Accepts place.Index text ps → (s : State) × IsWhole text s
told_whole text ps valid acc =
    let m = elements_of place.Index text ps valid acc in
    let told = subst (λ (l : List Piece). Tell l outermost blank [] (items_told place.Index 0 m.items blank)) (sym m.split) (items_tell place.Index 0 [] m.items blank) in
    (items_told place.Index 0 m.items blank, record { ps = ps; accepts = acc; tells = told })

judged : (text : List ℕ) → IsUtf8 text → (s : State) → IsWhole text s → Judged text
judged text valid s w =
    let t = whole_told text s w in
    let a = assembled text s valid w in
    let tells : Tells t.0 a.value = record { volume = t.1 ∙ sym a.volume; nodes = t.2 ∙ sym a.nodes } in
    ⊎_elim
    (λ (agrees : Agrees t.0). inl (t.0, record { value = a.value; spells = a.spells; tells = tells; agrees = agrees }))
    (λ (faulty : (fault : Fault) × IsToldOf t.0 fault).
    inr (fault_told faulty.0, inr (faulty.0, record { value = a.value; spells = a.spells; index = t.0; tells = tells; told = faulty.1 }, refl)))
    (agrees_or_fault t.0)

-- each text is an index's or stops
pub index_or_stops : (text : List ℕ) → Judged text
index_or_stops text = ⊎_elim
    (λ (a : IsAccepted place.Index text). let w = told_whole text a.0 a.1 a.2 in judged text a.1 w.0 w.1)
    (λ (s : IsStopped place.Index text). inr (refusal_told s.0, inl (record { why = s.0; stops = s.1; told = refl })))
    (accepted_or_stops place.Index text)
