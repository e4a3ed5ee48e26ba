-- The text that is written is a label's text.
use Rattle.std.proofs.Common.{◌≡◌, ◌^◌, ◌<◌, ℕ, List, [], ◌∷◌, ◌++◌, IsUtf8, refl, sym, ap, ◌∙◌, append_assoc}
use Rattle.tape_types.specs.declared.moments.Moment.{Moment}
use Rattle.tape_types.specs.Times.{civil_of}
use Rattle.ltfs_documents.specs.declared.doc_fields.tags.Tag.TheVariants.{LtfsLabel}
use Rattle.ltfs_documents.specs.declared.doc_fields.starts.Attribute.TheVariants.{Version}
use Rattle.ltfs_documents.specs.DocFields.Tags.{spelled}
use Rattle.ltfs_documents.specs.DocFields.Written.{end_text, start_text}
use Rattle.ltfs_documents.specs.declared.doc_elements.schema.Container.TheVariants as place
use Rattle.ltfs_documents.proofs.DocElements.Written.{framed, inner, written_document}
use Rattle.ltfs_documents.proofs.DocElements.WrittenAgain.{all_again, all_valid}
use Rattle.ltfs_documents.proofs.DocElements.WrittenItems.{texts_of}
use Rattle.ltfs_label.specs.Canonical.{canonical, head, IsLabel}
use Rattle.ltfs_label.specs.Grammar.{LabelText}
use Rattle.ltfs_label.specs.Values.{LabelValue}
use Rattle.ltfs_label.proofs.Items.{children_items, good_items, items_of}

four : (a b c d : List ℕ) → a ++ b ++ c ++ d ≡ a ++ (b ++ (c ++ d))
four a b c d = simp append_assoc

-- the text that is written of a valid label is that label's
pub canonical_label : (v : LabelValue) (m : Moment) → v.formatted ≡ civil_of m → IsUtf8 v.creator → v.uuid < 2 ^ 128 → IsLabel v → LabelText (canonical v) v
unfolding canonical
canonical_label v m when valid fits g =
    let body = texts_of (items_of v) in
    let same : canonical v ≡ framed place.Label body =
    ap (λ (x : List ℕ). head ++ start_text LtfsLabel Version ++ x ++ end_text LtfsLabel) (children_items v) ∙ four head (start_text LtfsLabel Version) body (end_text LtfsLabel) in
    let good = good_items v m when (valid, g.creator) fits g in
    record {
      items = items_of v;
      spelled = written_document place.Label (canonical v) body (items_of v) refl same (all_valid place.Label (items_of v) good)
          (λ inside. all_again (canonical v) place.Label [] (inner place.Label) (items_of v) (47 ∷ (spelled LtfsLabel ++ 62 ∷ [])) refl good inside);
      value = refl;
    }
