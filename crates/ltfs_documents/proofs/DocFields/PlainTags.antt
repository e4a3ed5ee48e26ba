-- Tags that stand as they are written.
use Rattle.std.proofs.Common.{◌≡◌, ℕ, ◌+◌, true, false, List, length, drop, not, Ok, sym, ap, ◌∙◌}
use Rattle.ltfs_documents.specs.declared.doc_fields.tags.Tag.{Tag}
use Rattle.ltfs_documents.specs.declared.doc_fields.starts.Attribute.TheVariants.{Absent}
use Rattle.ltfs_documents.specs.DocFields.EndTag.{end_at}
use Rattle.ltfs_documents.specs.DocFields.Reading.{begins}
use Rattle.ltfs_documents.specs.DocFields.StartTag.{named_at, rest_at}
use Rattle.ltfs_documents.specs.DocFields.Tags.{is_root, spelled}
use Rattle.ltfs_documents.specs.DocFields.Written.{end_text, start_text}
use Rattle.ltfs_documents.proofs.DocFields.Spelled.{begins_split}
use Rattle.ltfs_documents.proofs.DocFields.TagsAgain.{IsOpened, opened, end_again}

open_tag : (text : List ℕ) (tag : Tag) (at : ℕ) → begins (start_text tag Absent) (drop at text) ≡ true → is_root tag ≡ false → IsOpened text tag Absent at
open_tag text tag at there no_root = opened text tag Absent at _ (ap not no_root) (begins_split (start_text tag Absent) (drop at text) there)

-- a tag that stands as it is written, and needs no version, is found by its name
pub named : (text : List ℕ) (tag : Tag) (at : ℕ) → begins (start_text tag Absent) (drop at text) ≡ true → is_root tag ≡ false → named_at text at ≡ Ok (tag, at + 1 + length (spelled tag))
named text tag at there no_root = (open_tag text tag at there no_root).named

-- a start tag that stands as it is written ends there, with no attribute
pub rest : (text : List ℕ) (tag : Tag) (at next : ℕ) → begins (start_text tag Absent) (drop at text) ≡ true → is_root tag ≡ false → next ≡ at + length (start_text tag Absent) → rest_at tag at text (at + 1 + length (spelled tag)) ≡ Ok (record { tag = tag; attribute = Absent; empty = false; next = next })
rest text tag at next there no_root place =
    (open_tag text tag at there no_root).rest ∙ ap (λ (k : ℕ). Ok (record { tag = tag; attribute = Absent; empty = false; next = k })) (sym place)

-- an end tag that stands as it is written is read
pub ended : (text : List ℕ) (tag : Tag) (at next : ℕ) → begins (end_text tag) (drop at text) ≡ true → next ≡ at + length (end_text tag) → end_at text at tag ≡ Ok next
ended text tag at next there place = end_again text at tag _ (begins_split (end_text tag) (drop at text) there) ∙ ap Ok (sym place)
