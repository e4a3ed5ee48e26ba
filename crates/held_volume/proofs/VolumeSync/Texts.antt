-- The text of the index of a sync.
use Rattle.std.proofs.Common.{◌≡◌, ℕ, ◌≤◌, ◌++◌, List, length, refl, sym, ◌∙◌, ap, arith, length-append}
use Rattle.index_model.specs.Canonical.{canonical, directory_text, head, nodes_text, volume_text}
use Rattle.ltfs_documents.specs.declared.doc_fields.starts.Attribute.TheVariants.{Version}
use Rattle.ltfs_documents.specs.declared.doc_fields.tags.Tag.TheVariants.{LtfsIndex}
use Rattle.ltfs_documents.specs.DocFields.Written.{end_text, start_text}
use Rattle.index_model.specs.Order.{AreInOrder}
use Rattle.index_model.specs.Values.{IndexValue, Tells}
use Rattle.index_model.specs.declared.indexes.Index.{Index}
use Rattle.index_model.proofs.SomeValue.{some_value}
use Rattle.space_laws.specs.Files.{canon}
use Rattle.space_laws.proofs.ToldValue.{told_text}

-- a text begins with its declaration
begins : (first rest last : List ℕ) → 1 ≤ length (head ++ first ++ rest ++ last)
begins first rest last =
    let long : length head ≡ 38 = refl in
    omega (arith, long, length-append (head ++ first ++ rest) last, length-append (head ++ first) rest, length-append head first)

canonical_some : (v : IndexValue) → 1 ≤ length (canonical v)
unfolding canonical
canonical_some v = begins (start_text LtfsIndex Version) (volume_text v.volume ++ directory_text v.root (nodes_text v.inside)) (end_text LtfsIndex)

-- what was appended to nothing is the one text of the index
pub text_is : (index : Index) (out : List ℕ) → AreInOrder index.nodes → ((v : IndexValue) → Tells index v → out ≡ canonical v) → (out ≡ canon index) × (1 ≤ length out)
text_is index out order appended =
    let some = some_value index order in
    let same : out ≡ canonical some.0 = appended some.0 some.1 in
    (same ∙ sym (told_text index some.0 some.1), omega (arith, ap (λ (l : List ℕ). length l) same, canonical_some some.0))
