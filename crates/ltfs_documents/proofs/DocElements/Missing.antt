-- The first required child that isn't there.
use Rattle.std.proofs.Common.{◌≡◌, ℕ, ◌+◌, ◌<◌, true, List, length, get_or, drop, refl, ◌∙◌}
use Rattle.std.proofs.lemmas.List.{at_drop_more}
use Rattle.ltfs_documents.specs.declared.doc_fields.tags.Tag.{Tag}
use Rattle.ltfs_documents.specs.DocElements.Children.{first_missing, member}

-- a required child that has stood leads to the next that is required
pub missing_more : (seen required : List Tag) (i : ℕ) (d : Tag) → i < length required → member (get_or required i d) seen ≡ true → first_missing (drop i required) seen ≡ first_missing (drop (i + 1) required) seen
missing_more seen required i d lt e = at_drop_more (λ (ts : List Tag). first_missing ts seen) required i d lt ∙ rw e refl
