-- What the whole reader gives, said of the grammar.
use Rattle.std.proofs.Common.{◌≡◌, ℕ, List, Result, Ok, Err, IfOk, IfErr, inl, inr, refl, sym, ◌∙◌}
use Rattle.index_model.specs.declared.errors.IndexErr.{IndexErr}
use Rattle.index_model.specs.declared.errors.IndexErr.TheVariants as errors
use Rattle.index_model.specs.declared.indexes.Index.{Index}
use Rattle.index_model.specs.Grammar.{IndexText, Stops}
use Rattle.index_model.specs.Valid.{Agrees}
use Rattle.index_read.specs.Answers.{IsReadOr, UnlessMemory}
use Rattle.index_read.specs.Walks.{IsReadAs, IsRefused}
use Rattle.index_read.proofs.Assembled.{assembled}
use Rattle.index_read.proofs.Exact.{one_index_text, never_both}
use Rattle.index_read.proofs.Whole.{unless_map}

-- a text that is read as an index and agrees with it is that index's
pub read_text : (text : List ℕ) (index : Index) → IsReadAs text index → Agrees index → IndexText text index
read_text text index r agrees =
    let a = assembled text r.state r.valid r.whole in
    record { value = a.value; spells = a.spells; tells = record { volume = r.volume ∙ sym a.volume; nodes = r.nodes ∙ sym a.nodes }; agrees = agrees }

refused_stops : (text : List ℕ) (e : IndexErr) → IsRefused text e → Stops text e
refused_stops text e (inl h) = inl h
refused_stops text e (inr h) =
    let r = h.read in
    let a = assembled text r.state r.valid r.whole in
    inr (h.fault, record { value = a.value; spells = a.spells; index = h.index; tells = record { volume = r.volume ∙ sym a.volume; nodes = r.nodes ∙ sym a.nodes }; told = h.told }, h.same)

-- an index that is read and agrees is that of the text
pub found_is : (r : Result Index IndexErr) (text : List ℕ) → IfOk r (λ index. IsReadAs text index) → IfOk r (λ index. Agrees index) → IfOk r (λ index. IndexText text index)
found_is (Ok index) text h a = read_text text index h a
found_is (Err e) text h a = h

-- a refusal by the pieces or a fault is the refusal of the text
pub refused_is : (r : Result Index IndexErr) (text : List ℕ) → IfErr r (λ e. UnlessMemory e (IsRefused text e)) → IfErr r (λ e. UnlessMemory e (Stops text e))
refused_is (Ok index) text h = h
refused_is (Err e) text h = unless_map e (IsRefused text e) (Stops text e) (refused_stops text e) h

only_memory : (e : IndexErr) (text : List ℕ) (index : Index) → IndexText text index → UnlessMemory e (Stops text e) → e ≡ errors.NoMemory
only_memory errors.NoMemory text index i s = refl
only_memory (errors.Syntax at) text index i s = absurd (never_both text index _ i s)
only_memory (errors.Unknown at) text index i s = absurd (never_both text index _ i s)
only_memory (errors.Twice at) text index i s = absurd (never_both text index _ i s)
only_memory errors.Version text index i s = absurd (never_both text index _ i s)
only_memory (errors.Missing t) text index i s = absurd (never_both text index _ i s)
only_memory (errors.Number at) text index i s = absurd (never_both text index _ i s)
only_memory (errors.Name at) text index i s = absurd (never_both text index _ i s)
only_memory errors.TooMany text index i s = absurd (never_both text index _ i s)
only_memory (errors.Uid n) text index i s = absurd (never_both text index _ i s)
only_memory (errors.SameName n) text index i s = absurd (never_both text index _ i s)
only_memory (errors.SameKey n) text index i s = absurd (never_both text index _ i s)
only_memory (errors.Extent n) text index i s = absurd (never_both text index _ i s)
only_memory (errors.Overlap n) text index i s = absurd (never_both text index _ i s)

-- the reader of an index's text gives that index, or wants memory
pub only_is : (r : Result Index IndexErr) (text : List ℕ) (index : Index) → IfOk r (λ i. IndexText text i) → IfErr r (λ e. UnlessMemory e (Stops text e)) → IndexText text index → IsReadOr r index
only_is (Ok read) text index found refused i = one_index_text text read index found i
only_is (Err e) text index found refused i = only_memory e text index i refused
