-- A document that is written round its elements is spelled.
use Rattle.std.proofs.Common.{◌≡◌, ℕ, ◌+◌, true, List, [], ◌++◌, length, drop, Ok, IsUtf8, refl, sym, ap, subst, ◌∙◌, arith, length-append, append-nil}
use Rattle.std.proofs.lemmas.Str.{IsUtf8-append}
use Rattle.ltfs_documents.specs.declared.doc_fields.tags.Tag.TheVariants.{LtfsLabel, LtfsIndex}
use Rattle.ltfs_documents.specs.declared.doc_fields.starts.Attribute.TheVariants.{Version}
use Rattle.ltfs_documents.specs.DocFields.Space.{space_end}
use Rattle.ltfs_documents.specs.DocFields.Written.{end_text, start_text}
use Rattle.ltfs_documents.proofs.DocFields.Again.{next_is, space_again}
use Rattle.ltfs_documents.proofs.DocFields.HeadAgain.{head_again}
use Rattle.ltfs_documents.proofs.DocFields.TagsAgain.{end_again, opened}
use Rattle.ltfs_documents.proofs.DocFields.WrittenBytes.{ascii_valid}
use Rattle.ltfs_documents.specs.declared.doc_elements.schema.Container.{Container}
use Rattle.ltfs_documents.specs.declared.doc_elements.schema.Container.TheVariants as place
use Rattle.ltfs_documents.specs.DocElements.Documents.{begins, head_of, root_at}
use Rattle.ltfs_documents.specs.DocElements.Elements.{AllSpelled, DocumentText, Items}
use Rattle.ltfs_documents.specs.DocElements.Schema.{tag_of}
use Rattle.ltfs_documents.specs.DocElements.Written.{head}

-- the text of a document whose elements have this text
abbrev pub framed : Container → List ℕ → List ℕ
framed doc body = head ++ (start_text (tag_of doc) Version ++ (body ++ end_text (tag_of doc)))

-- where the elements begin
abbrev pub inner : Container → ℕ
inner doc = 38 + length (start_text (tag_of doc) Version)

root_again : (doc : Container) (text : List ℕ) (at : ℕ) (rest : List ℕ) → begins doc (tag_of doc) ≡ true → drop at text ≡ start_text (tag_of doc) Version ++ rest → root_at doc text at ≡ Ok (at + length (start_text (tag_of doc) Version))
unfolding root_at
root_again place.Label text at rest is e = let o = opened text LtfsLabel Version at rest refl e in rw (o.named, o.rest) refl
root_again place.Index text at rest is e = let o = opened text LtfsIndex Version at rest refl e in rw (o.named, o.rest) refl
root_again _ text at rest is e = absurd cc

-- the `<` of the root's start tag is no white space
root_space : (doc : Container) (text : List ℕ) (at : ℕ) (rest : List ℕ) → drop at text ≡ start_text (tag_of doc) Version ++ rest → space_end text at ≡ at
root_space doc text at rest e = space_again text at 60 _ e refl

head_is : (doc : Container) (text body : List ℕ) → begins doc (tag_of doc) ≡ true → text ≡ framed doc body → head_of doc text ≡ Ok (inner doc)
unfolding head_of
head_is doc text body is e =
    let rest = body ++ end_text (tag_of doc) in
    let from = head_again text (start_text (tag_of doc) Version ++ rest) e in
    let start = next_is text 0 head (start_text (tag_of doc) Version ++ rest) e in
    let root = root_again doc text 38 rest is start in
    rw (from, root_space doc text 38 rest start, root) refl

all_of_it : (text : List ℕ) (at : ℕ) → drop at text ≡ [] → at ≡ length text → space_end text at ≡ length text
unfolding space_end
all_of_it text at e f = rw (e, f) refl

tags_valid : (doc : Container) → begins doc (tag_of doc) ≡ true → IsUtf8 (start_text (tag_of doc) Version) × IsUtf8 (end_text (tag_of doc))
tags_valid place.Label is = (ascii_valid (start_text LtfsLabel Version) refl, ascii_valid (end_text LtfsLabel) refl)
tags_valid place.Index is = (ascii_valid (start_text LtfsIndex Version) refl, ascii_valid (end_text LtfsIndex) refl)
tags_valid _ is = absurd cc

-- a document written round elements that are spelled in it spells them
pub written_document : (doc : Container) (text body : List ℕ) (items : Items) → begins doc (tag_of doc) ≡ true → text ≡ framed doc body → IsUtf8 body
    → (drop (inner doc) text ≡ body ++ end_text (tag_of doc) → AllSpelled text doc [] (inner doc) items (inner doc + length body)) → DocumentText doc text items
written_document doc text body items is e valid children =
    let start_tag = start_text (tag_of doc) Version in
    let end_tag = end_text (tag_of doc) in
    let start = next_is text 0 head (start_tag ++ (body ++ end_tag)) e in
    let inside = next_is text 38 start_tag (body ++ end_tag) start in
    let whole : drop (inner doc + length body) text ≡ end_tag ++ [] = next_is text (inner doc) body end_tag inside ∙ sym (simp append-nil) in
    let left = next_is text (inner doc + length body) end_tag [] whole in
    let long : inner doc + length body + length end_tag ≡ length text = omega (arith, ap length e, length-append head (start_tag ++ (body ++ end_tag)), length-append start_tag (body ++ end_tag), length-append body end_tag) in
    let tags = tags_valid doc is in
    record {
      valid = subst IsUtf8 (sym e) (IsUtf8-append head _ (ascii_valid head refl) (IsUtf8-append start_tag _ tags.0 (IsUtf8-append body end_tag valid tags.1)));
      inside = inner doc;
      head_is = head_is doc text body is e;
      end = inner doc + length body;
      children = children inside;
      after = inner doc + length body + length end_tag;
      ends = end_again text (inner doc + length body) (tag_of doc) [] whole;
      ended = all_of_it text (inner doc + length body + length end_tag) left long;
    }
