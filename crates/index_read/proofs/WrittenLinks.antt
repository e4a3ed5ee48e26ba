-- The text of a link is no longer than the document that it is written in.
use Rattle.std.proofs.Common.{◌≡◌, ℕ, ◌+◌, ◌≤◌, ◌<◌, ◌^◌, Bool, true, false, ◌==◌, List, [], ◌∷◌, ◌++◌, length, map, codes, refl, sym, subst, arith, length-append}
use Rattle.std.specs.Prelude.{if◌then◌else◌}
use Rattle.std.specs.List.{AllByRecursion, flat_map}
use Rattle.percent_encoding.specs.Percent.{percent_encode_byte}
use Rattle.ltfs_documents.specs.declared.doc_fields.tags.Tag.TheVariants.{LtfsIndex, Directory, File, FileUid, Name, ReadOnly, Contents, Symlink}
use Rattle.ltfs_documents.specs.declared.doc_fields.starts.Attribute.TheVariants.{Absent, Version}
use Rattle.ltfs_documents.specs.DocFields.Written.{end_text, escape, escaped, start_text}
use Rattle.ltfs_documents.specs.LtfsText.Names.{encoded, has_special, is_escaped, written}
use Rattle.index_model.specs.declared.indexes.Index.{Index}
use Rattle.index_model.specs.Canonical.{attributes, canonical, directory_text, element, encoding, file_front, file_text, head, link_text, name, nodes_text, number, times, truth, volume_text}
use Rattle.index_model.specs.Grammar.{IndexText}
use Rattle.index_model.specs.Valid.{IsValid}
use Rattle.index_model.specs.Values.{NodeFacts, Nodes, no_nodes, directory, file, link, NodeValue, IndexValue, count, listed, all_nodes, value_of, Tells}
use Rattle.index_read.specs.Links.{AreLinksShort, IsShortLink}
use Rattle.index_read.proofs.WrittenIndex.{document_back}

-- ---- escapes make no text shorter

flat_longer : (f : ℕ → List ℕ) → ((b : ℕ) → 1 ≤ length (f b)) → (s : List ℕ) → length s ≤ length (flat_map f s)
flat_longer f some [] = omega arith
flat_longer f some (b ∷ s) =
    let more = flat_longer f some s in
    let here = some b in
    omega (arith, length-append (f b) (flat_map f s))

some_if : (c : Bool) (a b : List ℕ) → 1 ≤ length a → 1 ≤ length b → 1 ≤ length (if c then a else b)
some_if true a b x y = x
some_if false a b x y = y

one_byte : (b : ℕ) → 1 ≤ length (b ∷ [])
one_byte b = omega arith

some_escaped : (b : ℕ) → 1 ≤ length (escaped b)
some_escaped b =
    some_if (b == 38) (codes "&amp;") _ (omega arith)
    (some_if (b == 60) (codes "&lt;") _ (omega arith)
    (some_if (b == 62) (codes "&gt;") _ (omega arith)
    (some_if (b == 13) (codes "&#13;") (b ∷ []) (omega arith) (one_byte b))))

some_encoded : (b : ℕ) → 1 ≤ length (if is_escaped b then percent_encode_byte b else b ∷ [])
unfolding percent_encode_byte
some_encoded b = some_if (is_escaped b) (percent_encode_byte b) (b ∷ []) (omega arith) (one_byte b)

encoded_longer : (text : List ℕ) → length text ≤ length (encoded text)
encoded_longer text = flat_longer (λ (b : ℕ). if is_escaped b then percent_encode_byte b else b ∷ []) some_encoded text

written_longer : (text : List ℕ) → length text ≤ length (written text).text
written_longer text =
    elim (has_special text) as (λ b. has_special text ≡ b → length text ≤ length (written text).text) [
      | true ↦ λ e. rw e (encoded_longer text)
      | false ↦ λ e. rw e (same_length text)
    ] refl
  where
    same_length : (s : List ℕ) → length s ≤ length s
    same_length s = omega arith

-- ---- texts within one another

around : (a b c : List ℕ) → length b ≤ length (a ++ b ++ c)
around a b c = omega (arith, length-append (a ++ b) c, length-append a b)

behind_longer : (a b : List ℕ) → length b ≤ length (a ++ b)
behind_longer a b = omega (arith, length-append a b)

link_longer : (f : NodeFacts) (text : List ℕ) → length text ≤ length (link_text f text)
link_longer f text =
    let raw = written_longer text in
    let escapes = flat_longer escaped some_escaped (written text).text in
    let named = around (start_text Symlink (encoding (written text))) (escape (written text).text) (end_text Symlink) in
    let inner = behind_longer (file_front f (length text)) (name Symlink text) in
    let whole = around (start_text File Absent) (file_front f (length text) ++ name Symlink text) (end_text File) in
    omega arith

directory_longer : (f : NodeFacts) (inside : List ℕ) → length inside ≤ length (directory_text f inside)
directory_longer f inside =
    let front = number FileUid f.uid ++ name Name f.name ++ times f.times ++ truth ReadOnly f.readonly ++ attributes f.xattrs in
    let contents = around (start_text Contents Absent) inside (end_text Contents) in
    let inner = behind_longer front (element Contents inside) in
    let whole = around (start_text Directory Absent) (front ++ element Contents inside) (end_text Directory) in
    omega arith

abbrev IsShort : NodeValue → Type 0
IsShort n = IsShortLink n.kind

all_joined : {X : Type 0} (P : X → Type 0) (xs ys : List X) → AllByRecursion P xs → AllByRecursion P ys → AllByRecursion P (xs ++ ys)
all_joined P [] ys a b = b
all_joined P (x ∷ xs) ys a b = (a.0, all_joined P xs ys a.1 b)

all_unmapped : {X Y : Type 0} (P : Y → Type 0) (f : X → Y) (xs : List X) → AllByRecursion P (map f xs) → AllByRecursion (λ (x : X). P (f x)) xs
all_unmapped P f [] h = tt
all_unmapped P f (x ∷ xs) h = (h.0, all_unmapped P f xs h.1)

short_nodes : (parent at : ℕ) (nodes : Nodes) → length (nodes_text nodes) < 2 ^ 64 → AllByRecursion IsShort (listed parent at nodes)
short_nodes parent at no_nodes h = tt
short_nodes parent at (directory f inside behind) h =
    let here = directory_longer f (nodes_text inside) in
    let all = length-append (directory_text f (nodes_text inside)) (nodes_text behind) in
    (tt, all_joined IsShort (listed at (at + 1) inside) (listed parent (at + 1 + count inside) behind) (short_nodes at (at + 1) inside (omega arith)) (short_nodes parent (at + 1 + count inside) behind (omega arith)))
short_nodes parent at (file f bytes extents behind) h =
    let all = length-append (file_text f bytes extents) (nodes_text behind) in
    (tt, short_nodes parent (at + 1) behind (omega arith))
short_nodes parent at (link f text behind) h =
    let here = link_longer f text in
    let all = length-append (link_text f text) (nodes_text behind) in
    (omega arith, short_nodes parent (at + 1) behind (omega arith))

nodes_within : (v : IndexValue) → length (nodes_text v.inside) ≤ length (canonical v)
unfolding canonical
nodes_within v =
    let root = directory_longer v.root (nodes_text v.inside) in
    let inner = behind_longer (volume_text v.volume) (directory_text v.root (nodes_text v.inside)) in
    let whole = around (head ++ start_text LtfsIndex Version) (volume_text v.volume ++ directory_text v.root (nodes_text v.inside)) (end_text LtfsIndex) in
    omega arith

links_short : (index : Index) (v : IndexValue) → Tells index v → length (canonical v) < 2 ^ 64 → AreLinksShort index.nodes
links_short index v tells fits =
    let within = nodes_within v in
    let all : AllByRecursion IsShort (all_nodes v) = (tt, short_nodes 0 1 v.inside (omega arith)) in
    all_unmapped IsShort value_of index.nodes (subst (AllByRecursion IsShort) (sym tells.nodes) all)

-- a document that can be in memory is the text of the valid index it was written of
pub document_read : (index : Index) (v : IndexValue) → IsValid index → Tells index v → length (canonical v) < 2 ^ 64 → IndexText (canonical v) index
document_read index v valid tells fits = document_back index v valid tells (links_short index v tells fits)
