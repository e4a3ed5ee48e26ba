-- Lengths of texts, and sums of them in 64 bits.
use Rattle.std.proofs.Common.{◌≡◌, ℕ, ◌+◌, ◌-◌, ◌^◌, ◌<◌, List, [], ◌∷◌, ◌++◌, length, map, min, sum, take, get_or, refl, sym, ap, ◌∙◌, append-nil, length-append, arith}
use Rattle.std.specs.List.{flat_map}
use Rattle.std.proofs.lemmas.Grind.{flat_map-append}
use Rattle.std.proofs.lemmas.List.{map-append, take_more}
use Rattle.std.proofs.lemmas.List.Sums.{sum_by-append}
use Rattle.ltfs_documents.specs.declared.doc_fields.starts.Attribute.TheVariants.{Absent, Version}
use Rattle.ltfs_documents.specs.declared.doc_fields.tags.Tag.{Tag}
use Rattle.ltfs_documents.specs.DocFields.Written.{bool_text, start_text, end_text, escape}
use Rattle.ltfs_documents.specs.declared.doc_fields.tags.Tag.TheVariants.{LtfsIndex, AllowPolicyUpdate, Comment, Creator, GenerationNumber, HighestFileUid, Location, PreviousGenerationLocation, UpdateTime, VolumeLockState, VolumeUuid, AccessTime, BackupTime, ChangeTime, Contents, CreationTime, Directory, ExtentInfo, File, FileUid, Length, ModifyTime, Name, ReadOnly, Symlink}
use Rattle.std.specs.Fmt.{decimal}
use Rattle.tape_types.specs.declared.times.Civil.{Civil}
use Rattle.tape_types.specs.Times.{civil_text}
use Rattle.tape_types.specs.Uuids.{uuid_text}
use Rattle.uuid.specs.Text.{by_index}
use Rattle.ltfs_documents.specs.DocFields.Values.{lock_word}
use Rattle.index_model.specs.declared.nodes.NodeKind.TheVariants as kinds
use Rattle.index_model.specs.declared.nodes.Node.{Node}
use Rattle.index_model.specs.declared.nodes.RawExtent.{RawExtent}
use Rattle.index_model.specs.Canonical.{attributes, canonical, directory_text, head, if_told, nodes_text, policy, spot, volume_text, words, element, extent, file_front, file_text, link_text, name, number, time, times, truth}
use Rattle.index_model.specs.Values.{IndexValue, Nodes, no_nodes, directory, file, link, VolumeFacts, all_nodes, count, listed, value_in, NodeFacts, NodeValue, TimesValue, value_of}
use Rattle.index_write.specs.Parts.{spot_text, volume_front, volume_rear}
use Rattle.index_write.proofs.Assembled.{state_laws}
use Rattle.index_write.specs.Sizes.{bounded, directory_length, facts_length, node_length, nodes_sum, size}

add_bounded : (a b : ℕ) → min (bounded a + b) (2 ^ 64 - 1) ≡ bounded (a + b)
add_bounded a b = omega arith

add_both : (a b : ℕ) → min (bounded a + bounded b) (2 ^ 64 - 1) ≡ bounded (a + b)
add_both a b = omega arith

more_text : {X : Type 0} (f : X → List ℕ) (xs : List X) (i : ℕ) (d : X) → i < length xs → length (flat_map f (take (i + 1) xs)) ≡ length (flat_map f (take i xs)) + length (f (get_or xs i d))
more_text f xs i d lt =
    let one = ap (flat_map f) (take_more xs i d lt) ∙ flat_map-append f (take i xs) (get_or xs i d ∷ []) ∙ ap (λ (x : List ℕ). flat_map f (take i xs) ++ x) (append-nil (f (get_or xs i d))) in
    ap (λ (t : List ℕ). length t) one ∙ length-append (flat_map f (take i xs)) (f (get_or xs i d))

-- one text more of a list of them
pub one_size_more : {X : Type 0} (f : X → List ℕ) (xs : List X) (i : ℕ) (d : X) (old y new : ℕ) → i < length xs → old ≡ size (flat_map f (take i xs)) → y ≡ size (f (get_or xs i d)) → new ≡ min (old + y) (2 ^ 64 - 1) → new ≡ size (flat_map f (take (i + 1) xs))
one_size_more f xs i d old y new lt is one e =
    e ∙ ap (λ (n : ℕ). min (n + y) (2 ^ 64 - 1)) is ∙ ap (λ (n : ℕ). min (size (flat_map f (take i xs)) + n) (2 ^ 64 - 1)) one ∙ add_both (length (flat_map f (take i xs))) (length (f (get_or xs i d))) ∙ ap bounded (sym (more_text f xs i d lt))

from_zero : (n : ℕ) → 0 + n ≡ n
from_zero n = omega arith

-- one node more of a list of them
pub one_node_more : (nodes : List Node) (i : ℕ) (node : Node) (old y new : ℕ) → i < length nodes → node ≡ get_or nodes i node → old ≡ bounded (nodes_sum (take i nodes)) → y ≡ bounded (node_length (value_of node)) → new ≡ min (old + y) (2 ^ 64 - 1) → new ≡ bounded (nodes_sum (take (i + 1) nodes))
one_node_more nodes i node old y new lt it is one e =
    e ∙ ap (λ (n : ℕ). min (n + y) (2 ^ 64 - 1)) is ∙ ap (λ (n : ℕ). min (bounded (nodes_sum (take i nodes)) + n) (2 ^ 64 - 1)) one ∙ add_both (nodes_sum (take i nodes)) (node_length (value_of node)) ∙ ap bounded (sym (ap nodes_sum (take_more nodes i node lt ∙ ap (λ (n : Node). take i nodes ++ n ∷ []) (sym it)) ∙ last (take i nodes) node))
  where
    last : (nodes : List Node) (node : Node) → nodes_sum (nodes ++ node ∷ []) ≡ nodes_sum nodes + node_length (value_of node)
    last nodes node =
        ap (λ (xs : List NodeValue). sum (map node_length xs)) (map-append value_of nodes (node ∷ []))
        ∙ ap sum (map-append node_length (map value_of nodes) (value_of node ∷ []))
        ∙ sum_by-append (λ (n : ℕ). n) (map node_length (map value_of nodes)) (node_length (value_of node) ∷ [])
        ∙ ap (λ (n : ℕ). nodes_sum nodes + n) (from_zero (node_length (value_of node)))

-- ---- the lengths of elements

abbrev width : Tag → ℕ
width tag = length (start_text tag Absent) + length (end_text tag)

cat : (a b : List ℕ) (m n : ℕ) → length a ≡ m → length b ≡ n → length (a ++ b) ≡ m + n
cat a b m n x y = length-append a b ∙ ap (λ (k : ℕ). k + length b) x ∙ ap (λ (k : ℕ). m + k) y

enclosed : (s c e : List ℕ) → length (s ++ c ++ e) ≡ length c + (length s + length e)
enclosed s c e =
    let a = length-append s c in
    let b = length-append (s ++ c) e in
    omega (arith, a, b)

-- an element with so many bytes in it, and so many in its tags
pub el : (tag : Tag) (content : List ℕ) (n w : ℕ) → width tag ≡ w → length content ≡ n → length (element tag content) ≡ n + w
el tag content n w is e = enclosed (start_text tag Absent) content (end_text tag) ∙ ap (λ (k : ℕ). k + width tag) e ∙ ap (λ (k : ℕ). n + k) is

civil_length : (c : Civil) → length (civil_text c) ≡ 30
unfolding civil_text
civil_length c = refl

times_length : (t : TimesValue) → length (times t) ≡ 279
times_length t =
    let a = time CreationTime t.create in
    let b = time ChangeTime t.change in
    let c = time ModifyTime t.modify in
    let d = time AccessTime t.access in
    let e = time BackupTime t.backup in
    cat (a ++ b ++ c ++ d) e 224 55 (cat (a ++ b ++ c) d 169 55 (cat (a ++ b) c 114 55 (cat a b 59 55
    (el CreationTime (civil_text t.create) 30 29 refl (civil_length t.create))
    (el ChangeTime (civil_text t.change) 30 25 refl (civil_length t.change)))
    (el ModifyTime (civil_text t.modify) 30 25 refl (civil_length t.modify)))
    (el AccessTime (civil_text t.access) 30 25 refl (civil_length t.access)))
    (el BackupTime (civil_text t.backup) 30 25 refl (civil_length t.backup))

facts_sum : (u n t x : ℕ) → u + 19 + n + 279 + (t + 21) + x ≡ 319 + u + n + t + x
facts_sum u n t x = omega arith

facts_count : (f : NodeFacts) → facts_length f ≡ 319 + length (decimal f.uid) + length (name Name f.name) + length (bool_text f.readonly) + length (attributes f.xattrs)
unfolding facts_length
facts_count f =
    let a = number FileUid f.uid in
    let b = name Name f.name in
    let c = times f.times in
    let d = truth ReadOnly f.readonly in
    let e = attributes f.xattrs in
    cat (a ++ b ++ c ++ d) e _ _ (cat (a ++ b ++ c) d _ _ (cat (a ++ b) c _ _ (cat a b _ _ (el FileUid (decimal f.uid) _ 19 refl refl) refl) (times_length f.times)) (el ReadOnly (bool_text f.readonly) _ 21 refl refl)) refl
    ∙ facts_sum (length (decimal f.uid)) (length (name Name f.name)) (length (bool_text f.readonly)) (length (attributes f.xattrs))

two : (l u n s t x y all : ℕ) → l ≡ 319 + u + n + t + x → s ≡ bounded n → y ≡ bounded x → all ≡ bounded (319 + u + s + t + y) → all ≡ bounded l
two l u n s t x y all a b c d = omega (arith, a, b, c, d)

-- the length of a node's facts is the sum of its parts
pub facts_total : (f : NodeFacts) (d n t y all : ℕ) → d ≡ length (decimal f.uid) → n ≡ size (name Name f.name) → t ≡ length (bool_text f.readonly) → y ≡ size (attributes f.xattrs) → all ≡ bounded (319 + d + n + t + y) → all ≡ bounded (facts_length f)
facts_total f d n t y all is_d is_n is_t is_y is = two (facts_length f) d (length (name Name f.name)) n t (length (attributes f.xattrs)) y all (rw (is_d, is_t) (facts_count f)) is_n is_y is

of_directory : (l f n all : ℕ) → l ≡ f + 44 → n ≡ bounded f → all ≡ min (n + 44) (2 ^ 64 - 1) → all ≡ bounded l
of_directory l f n all a b c = omega (arith, a, b, c)

inside_count : (f : NodeFacts) (inside : List ℕ) → length (directory_text f inside) ≡ facts_length f + (length inside + 21) + 23
unfolding facts_length
inside_count f inside =
    let facts = number FileUid f.uid ++ name Name f.name ++ times f.times ++ truth ReadOnly f.readonly ++ attributes f.xattrs in
    el Directory (facts ++ element Contents inside) _ 23 refl (cat facts (element Contents inside) _ _ refl (el Contents inside _ 21 refl refl))

directory_count : (f : NodeFacts) → directory_length f ≡ facts_length f + 44
unfolding directory_length
directory_count f = inside_count f [] ∙ more (facts_length f)
  where
    more : (n : ℕ) → n + (0 + 21) + 23 ≡ n + 44
    more n = omega arith

-- the length of a directory's text is that of its facts and its tags
pub directory_total : (f : NodeFacts) (n all : ℕ) → n ≡ bounded (facts_length f) → all ≡ min (n + 44) (2 ^ 64 - 1) → all ≡ bounded (directory_length f)
directory_total f n all is_n is = of_directory (directory_length f) (facts_length f) n all (directory_count f) is_n is

front_sum : (u n l t x : ℕ) → u + 19 + n + (l + 17) + 279 + (t + 21) + x ≡ 319 + u + n + t + x + l + 17
front_sum u n l t x = omega arith

front_count : (f : NodeFacts) (bytes : ℕ) → length (file_front f bytes) ≡ facts_length f + length (decimal bytes) + 17
front_count f bytes =
    let a = number FileUid f.uid in
    let b = name Name f.name in
    let c = number Length bytes in
    let d = times f.times in
    let e = truth ReadOnly f.readonly in
    let g = attributes f.xattrs in
    cat (a ++ b ++ c ++ d ++ e) g _ _ (cat (a ++ b ++ c ++ d) e _ _ (cat (a ++ b ++ c) d _ _ (cat (a ++ b) c _ _ (cat a b _ _ (el FileUid (decimal f.uid) _ 19 refl refl) refl) (el Length (decimal bytes) _ 17 refl refl)) (times_length f.times)) (el ReadOnly (bool_text f.readonly) _ 21 refl refl)) refl
    ∙ front_sum (length (decimal f.uid)) (length (name Name f.name)) (length (decimal bytes)) (length (bool_text f.readonly)) (length (attributes f.xattrs))
    ∙ ap (λ (n : ℕ). n + length (decimal bytes) + 17) (sym (facts_count f))

of_file : (l f d x n e all : ℕ) → l ≡ f + d + 17 + (x + 25) + 13 → n ≡ bounded f → e ≡ bounded x → all ≡ bounded (55 + n + d + e) → all ≡ bounded l
of_file l f d x n e all a b c g = omega (arith, a, b, c, g)

-- the length of a file's text is the sum of its parts
pub file_total : (f : NodeFacts) (bytes : ℕ) (extents : List RawExtent) (n d e all : ℕ) → n ≡ bounded (facts_length f) → d ≡ length (decimal bytes) → e ≡ size (flat_map extent extents) → all ≡ bounded (55 + n + d + e) → all ≡ size (file_text f bytes extents)
file_total f bytes extents n d e all is_n is_d is_e is =
    let rest = element ExtentInfo (flat_map extent extents) in
    let count = el File (file_front f bytes ++ rest) _ 13 refl (cat (file_front f bytes) rest _ _ (front_count f bytes) (el ExtentInfo (flat_map extent extents) _ 25 refl refl)) in
    of_file (length (file_text f bytes extents)) (facts_length f) d (length (flat_map extent extents)) n e all (rw is_d count) is_n is_e is

of_link : (l f d x n e all : ℕ) → l ≡ f + d + 17 + x + 13 → n ≡ bounded f → e ≡ bounded x → all ≡ bounded (30 + n + d + e) → all ≡ bounded l
of_link l f d x n e all a b c g = omega (arith, a, b, c, g)

-- the length of a link's text is the sum of its parts
pub link_total : (f : NodeFacts) (text : List ℕ) (n d e all : ℕ) → n ≡ bounded (facts_length f) → d ≡ length (decimal (length text)) → e ≡ size (name Symlink text) → all ≡ bounded (30 + n + d + e) → all ≡ size (link_text f text)
link_total f text n d e all is_n is_d is_e is =
    let count = el File (file_front f (length text) ++ name Symlink text) _ 13 refl (cat (file_front f (length text)) (name Symlink text) _ _ (front_count f (length text)) refl) in
    of_link (length (link_text f text)) (facts_length f) d (length (name Symlink text)) n e all (rw is_d count) is_n is_e is

-- ---- the facts of a volume

of_front : (l e k d x y all : ℕ) → l ≡ e + 19 + k + 61 + (d + 37) + 55 → x ≡ bounded e → y ≡ bounded k → all ≡ bounded (106 + x + y + 36 + d + 30) → all ≡ bounded l
of_front l e k d x y all a b c g = omega (arith, a, b, c, g)

uuid_length : (n : ℕ) → length (uuid_text n) ≡ 36
unfolding by_index
uuid_length n = refl

-- the length of the first part of the volume's text is the sum of its parts
pub front_total : (v : VolumeFacts) (x y d all : ℕ) → x ≡ size (escape v.creator) → y ≡ size (if_told v.comment (words Comment)) → d ≡ length (decimal v.generation) → all ≡ bounded (106 + x + y + 36 + d + 30) → all ≡ size (volume_front v)
unfolding volume_front
front_total v x y d all is_x is_y is_d is =
    let a = words Creator v.creator in
    let b = if_told v.comment (words Comment) in
    let c = element VolumeUuid (uuid_text v.uuid) in
    let e = number GenerationNumber v.generation in
    let f = time UpdateTime v.updated in
    let count = cat (a ++ b ++ c ++ e) f _ 55 (cat (a ++ b ++ c) e _ _ (cat (a ++ b) c _ 61 (cat a b _ _ (el Creator (escape v.creator) _ 19 refl refl) refl) (el VolumeUuid (uuid_text v.uuid) 36 25 refl (uuid_length v.uuid))) (el GenerationNumber (decimal v.generation) d 37 refl (sym is_d)))
    (el UpdateTime (civil_text v.updated) 30 25 refl (civil_length v.updated)) in
    of_front (length (a ++ b ++ c ++ e ++ f)) (length (escape v.creator)) (length b) d x y all count is_x is_y is

of_rear : (l t p k d x y all : ℕ) → l ≡ t + 39 + p + k + (d + 33) → x ≡ bounded p → y ≡ bounded k → all ≡ bounded (72 + t + x + y + d) → all ≡ bounded l
of_rear l t p k d x y all a b c g = omega (arith, a, b, c, g)

-- the length of the last part of the volume's text is the sum of its parts
pub rear_total : (v : VolumeFacts) (t x y d all : ℕ) → t ≡ length (bool_text v.allow) → x ≡ size (if_told v.policy policy) → y ≡ size (if_told v.lock (λ state. element VolumeLockState (lock_word state))) → d ≡ length (decimal v.highest) → all ≡ bounded (72 + t + x + y + d) → all ≡ size (volume_rear v)
unfolding volume_rear
rear_total v t x y d all is_t is_x is_y is_d is =
    let a = truth AllowPolicyUpdate v.allow in
    let b = if_told v.policy policy in
    let c = if_told v.lock (λ state. element VolumeLockState (lock_word state)) in
    let e = number HighestFileUid v.highest in
    let count = cat (a ++ b ++ c) e _ _ (cat (a ++ b) c _ _ (cat a b _ _ (el AllowPolicyUpdate (bool_text v.allow) t 39 refl (sym is_t)) refl) refl) (el HighestFileUid (decimal v.highest) d 33 refl (sym is_d)) in
    of_rear (length (a ++ b ++ c ++ e)) t (length b) (length c) d x y all count is_x is_y is

of_volume : (l f h b r w x y z all : ℕ) → l ≡ f + (h + 21) + b + r → w ≡ bounded f → x ≡ bounded h → y ≡ bounded b → z ≡ bounded r → all ≡ bounded (21 + w + x + y + z) → all ≡ bounded l
of_volume l f h b r w x y z all e a c d g is = omega (arith, e, a, c, d, g, is)

-- the length of the volume's text is the sum of its parts
pub volume_total : (v : VolumeFacts) (w x y z all : ℕ) → w ≡ size (volume_front v) → x ≡ size (spot_text v.here) → y ≡ size (if_told v.back (spot PreviousGenerationLocation)) → z ≡ size (volume_rear v) → all ≡ bounded (21 + w + x + y + z) → all ≡ size (volume_text v)
volume_total v w x y z all is_w is_x is_y is_z is =
    let a = volume_front v in
    let b = spot Location v.here in
    let c = if_told v.back (spot PreviousGenerationLocation) in
    let d = volume_rear v in
    let count = cat (a ++ b ++ c) d _ _ (cat (a ++ b) c _ _ (cat a b _ _ refl (el Location (spot_text v.here) _ 21 refl refl)) refl) refl in
    of_volume (length (volume_text v)) (length a) (length (spot_text v.here)) (length c) (length d) w x y z all (ap (λ (t : List ℕ). length t) (sym (state_laws v)) ∙ count) is_w is_x is_y is_z is

-- ---- the document

abbrev pub nodes_total : List NodeValue → ℕ
nodes_total nodes = sum (map node_length nodes)

total_append : (xs ys : List NodeValue) → nodes_total (xs ++ ys) ≡ nodes_total xs + nodes_total ys
total_append xs ys = ap sum (map-append node_length xs ys) ∙ sum_by-append (λ (n : ℕ). n) (map node_length xs) (map node_length ys)

total_cons : (x : NodeValue) (xs : List NodeValue) → nodes_total (x ∷ xs) ≡ node_length x + nodes_total xs
total_cons x xs = total_append (x ∷ []) xs ∙ ap (λ (n : ℕ). n + nodes_total xs) (from_zero (node_length x))

directory_more : (f : NodeFacts) (inside : List ℕ) → length (directory_text f inside) ≡ directory_length f + length inside
directory_more f inside = with_inside ∙ more (facts_length f) (length inside) ∙ ap (λ (n : ℕ). n + length inside) (sym (directory_count f))
  where
    with_inside : length (directory_text f inside) ≡ facts_length f + (length inside + 21) + 23
    with_inside = inside_count f inside

    more : (n k : ℕ) → n + (k + 21) + 23 ≡ n + 44 + k
    more n k = omega arith

nodes_count : (parent at : ℕ) (nodes : Nodes) → nodes_total (listed parent at nodes) ≡ length (nodes_text nodes)
nodes_count parent at no_nodes = refl
nodes_count parent at (directory f i b) =
    total_cons (value_in parent f kinds.Dir) (listed at (at + 1) i ++ listed parent (at + 1 + count i) b)
    ∙ ap (λ (n : ℕ). directory_length f + n) (total_append (listed at (at + 1) i) (listed parent (at + 1 + count i) b) ∙ ap (λ (n : ℕ). n + nodes_total (listed parent (at + 1 + count i) b)) (nodes_count at (at + 1) i) ∙ ap (λ (n : ℕ). length (nodes_text i) + n) (nodes_count parent (at + 1 + count i) b))
    ∙ regroup (directory_length f) (length (nodes_text i)) (length (nodes_text b))
    ∙ ap (λ (n : ℕ). n + length (nodes_text b)) (sym (directory_more f (nodes_text i)))
    ∙ sym (length-append (directory_text f (nodes_text i)) (nodes_text b))
  where
    regroup : (a b c : ℕ) → a + (b + c) ≡ a + b + c
    regroup a b c = omega arith
nodes_count parent at (file f n e b) =
    total_cons (value_in parent f (kinds.File n e)) (listed parent (at + 1) b) ∙ ap (λ (k : ℕ). length (file_text f n e) + k) (nodes_count parent (at + 1) b) ∙ sym (length-append (file_text f n e) (nodes_text b))
nodes_count parent at (link f t b) =
    total_cons (value_in parent f (kinds.Link t)) (listed parent (at + 1) b) ∙ ap (λ (k : ℕ). length (link_text f t) + k) (nodes_count parent (at + 1) b) ∙ sym (length-append (link_text f t) (nodes_text b))

tree_count : (v : IndexValue) → nodes_total (all_nodes v) ≡ length (directory_text v.root (nodes_text v.inside))
tree_count v = total_cons (value_in 0 v.root kinds.Dir) (listed 0 1 v.inside) ∙ ap (λ (n : ℕ). directory_length v.root + n) (nodes_count 0 1 v.inside) ∙ sym (directory_more v.root (nodes_text v.inside))

of_document : (l f t x y all : ℕ) → l ≡ 65 + (f + t) + 12 → x ≡ bounded f → y ≡ bounded t → all ≡ bounded (77 + x + y) → all ≡ bounded l
of_document l f t x y all e a b is = omega (arith, e, a, b, is)

-- the length of a document is that of the volume's text and of all nodes' texts
pub document_total : (v : IndexValue) (x y all : ℕ) → x ≡ size (volume_text v.volume) → y ≡ bounded (nodes_total (all_nodes v)) → all ≡ bounded (77 + x + y) → all ≡ bounded (length (canonical v))
unfolding canonical
document_total v x y all is_x is_y is =
    let a = head ++ start_text LtfsIndex Version in
    let b = volume_text v.volume in
    let c = directory_text v.root (nodes_text v.inside) in
    let count = cat (a ++ (b ++ c)) (end_text LtfsIndex) _ 12 (cat a (b ++ c) 65 _ refl (length-append b c)) refl in
    of_document (length (a ++ (b ++ c) ++ end_text LtfsIndex)) (length b) (length c) x y all count is_x (is_y ∙ ap bounded (tree_count v)) is
