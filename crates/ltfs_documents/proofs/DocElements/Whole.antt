-- From the parts to the whole text.
use Rattle.std.proofs.Common.{◌≡◌, ℕ, List, take, IsUtf8, length, Ok, Err, refl, ap, ◌∙◌, arith}
use Rattle.std.proofs.lemmas.List.{take_all}
use Rattle.std.proofs.lemmas.Str.{utf8_valid_len-IsUtf8}
use Rattle.ltfs_documents.specs.DocFields.Reading.{Read}
use Rattle.ltfs_documents.specs.declared.doc_fields.errors.FieldErr.{FieldErr}
use Rattle.ltfs_documents.specs.declared.doc_elements.errors.PieceErr.{PieceErr}
use Rattle.ltfs_documents.specs.declared.doc_elements.errors.PieceErr.TheVariants as errors
use Rattle.ltfs_documents.specs.declared.doc_elements.schema.Container.{Container}
use Rattle.ltfs_documents.specs.DocElements.Pieces.{lift, refusal}
use Rattle.ltfs_documents.specs.DocElements.Documents.{head_of, Halts, Halted, at_piece, readable}
use Rattle.ltfs_documents.specs.DocElements.Answers.{UnlessMemory}

-- what holds in any case holds unless memory was refused
pub unless_always : (e : PieceErr) (P : Type 0) → P → UnlessMemory e P
unless_always errors.NoMemory P p = tt
unless_always _ P p = p

-- what follows from a fact follows from it unless memory was refused
pub unless_map : (e : PieceErr) (P Q : Type 0) → (P → Q) → UnlessMemory e P → UnlessMemory e Q
unless_map errors.NoMemory P Q f p = tt
unless_map _ P Q f p = f p

-- a halt behind the root's start tag is a halt of the document
pub halted_halts : (doc : Container) (text : List ℕ) (inside : ℕ) (e : PieceErr) → head_of doc text ≡ Ok inside → Halted doc text inside e → Halts doc text e
halted_halts doc text inside e h x = at_piece x.ps x.point x.f x.fs (record { inside = inside; head_is = h; reaches = x.reaches }) x.parents x.fails

lifted : {A : Type 0} (r : Read A) (e : FieldErr) → r ≡ Err e → lift r ≡ Err (refusal e.why e.at)
lifted r e h = rw h refl

-- a text in UTF-8 is all readable
pub readable_all : (text : List ℕ) → IsUtf8 text → readable text ≡ text
readable_all text valid = ap (λ (n : ℕ). take n text) (utf8_valid_len-IsUtf8 text valid) ∙ take_all (length text) text (omega arith)
