-- The text of an index is that of its elements.
use Rattle.std.proofs.Common.{◌≡◌, ℕ, List, [], ◌∷◌, ◌++◌, length, Option, Some, None, refl, ap, ◌∙◌, append_assoc, append-nil}
use Rattle.std.specs.List.{flat_map}
use Rattle.tape_types.specs.Uuids.{uuid_text}
use Rattle.ltfs_documents.specs.declared.doc_fields.tags.Tag.TheVariants.{LtfsIndex, Creator, Comment, VolumeUuid, Location, Partition, GenerationNumber, UpdateTime, PreviousGenerationLocation, StartBlock, AllowPolicyUpdate, DataPlacementPolicy, IndexPartitionCriteria, Size, VolumeLockState, HighestFileUid, Directory, File, FileUid, Name, Length, CreationTime, ChangeTime, ModifyTime, AccessTime, BackupTime, ReadOnly, Contents, ExtentInfo, Symlink, Extent, FileOffset, ByteOffset, ByteCount, ExtendedAttributes, Key, Value}
use Rattle.ltfs_documents.specs.declared.doc_fields.tags.Tag.TheVariants as tags
use Rattle.tape_types.specs.declared.node_keys.xattrs.Xattr.{Xattr}
use Rattle.ltfs_documents.specs.declared.doc_fields.starts.Attribute.TheVariants.{Version}
use Rattle.ltfs_documents.specs.DocFields.Values.{lock_word}
use Rattle.ltfs_documents.specs.DocFields.Written.{start_text, end_text}
use Rattle.index_model.specs.declared.indexes.Policy.{Policy}
use Rattle.index_model.specs.declared.indexes.Spot.{Spot}
use Rattle.index_model.specs.declared.nodes.RawExtent.{RawExtent}
use Rattle.ltfs_documents.specs.declared.doc_elements.schema.Container.TheVariants as place
use Rattle.index_model.specs.Canonical.{attributes, canonical, directory_text, element, extent, file_front, file_text, head, if_told, letter, link_text, name, nodes_text, number, policy, spot, time, truth, volume_text, xattr}
use Rattle.index_model.specs.Canonical as text
use Rattle.ltfs_documents.specs.DocElements.Pieces as val
use Rattle.ltfs_documents.specs.DocElements.Elements.{Item, plain, nested, Items, no_items, item}
use Rattle.index_model.specs.Values.{NodeFacts, Nodes, no_nodes, directory, file, link, IndexValue}
use Rattle.ltfs_documents.specs.DocElements.Written.{bytes_text, bytes_type}
use Rattle.ltfs_documents.proofs.DocElements.WrittenItems.{text_of, texts_of}
use Rattle.index_read.proofs.WrittenItems.{attributes_items, back_item, comment_item, directory_items, extent_items, extents_items, file_items, items_of, lock_item, maybe, name_items, nodes_items, policy_item, spot_items, xattr_items, xattrs_items}

-- ---- how texts join

one_item : (a : List ℕ) → a ≡ a ++ []
one_item a = simp append-nil

two_items : (a b : List ℕ) → a ++ b ≡ a ++ (b ++ [])
two_items a b = simp append-nil

five_items : (a b c d e : List ℕ) → a ++ b ++ c ++ d ++ e ≡ a ++ (b ++ (c ++ (d ++ (e ++ []))))
five_items a b c d e = simp (append_assoc, append-nil)

four_items : (a b c d : List ℕ) → a ++ b ++ c ++ d ≡ a ++ ((b ++ c ++ d) ++ [])
four_items a b c d = simp (append_assoc, append-nil)

ten_items : (a b c d e f g h x i : List ℕ) → a ++ b ++ (c ++ d ++ e ++ f ++ g) ++ h ++ x ++ i ≡ a ++ (b ++ (c ++ (d ++ (e ++ (f ++ (g ++ (h ++ (x ++ i))))))))
ten_items a b c d e f g h x i = simp append_assoc

eleven_items : (a b l c d e f g h x i : List ℕ) → (a ++ b ++ l ++ (c ++ d ++ e ++ f ++ g) ++ h ++ x) ++ i ≡ a ++ (b ++ (l ++ (c ++ (d ++ (e ++ (f ++ (g ++ (h ++ (x ++ i)))))))))
eleven_items a b l c d e f g h x i = simp append_assoc

twelve_items : (a b c d e f g h i j k l : List ℕ) → (a ++ b ++ c ++ d ++ e ++ f ++ g ++ h ++ i ++ j ++ k) ++ l ≡ a ++ (b ++ (c ++ (d ++ (e ++ (f ++ (g ++ (h ++ (i ++ (j ++ (k ++ (l ++ [])))))))))))
twelve_items a b c d e f g h i j k l = simp (append_assoc, append-nil)

joined : (s t : List ℕ) (i : Item) (is : Items) → s ≡ text_of i → t ≡ texts_of is → s ++ t ≡ texts_of (item i is)
joined s t i is e f = rw (e, f) refl

joined_maybe : {X : Type 0} (text : X → List ℕ) (make : X → Item) (o : Option X) (t : List ℕ) (is : Items) → ((x : X) → text x ≡ text_of (make x)) → t ≡ texts_of is → if_told o text ++ t ≡ texts_of (maybe make o is)
joined_maybe text make None t is e f = f
joined_maybe text make (Some x) t is e f = joined (text x) t (make x) is (e x) f

-- ---- what stands in one another

here_text : (s : Spot) → spot Location s ≡ text_of (nested place.Here (spot_items s))
here_text s = ap (element Location) (two_items (letter Partition s.letter) (number StartBlock s.block))

back_text : (s : Spot) → spot PreviousGenerationLocation s ≡ text_of (back_item s)
back_text s = ap (element PreviousGenerationLocation) (two_items (letter Partition s.letter) (number StartBlock s.block))

names_text : (names : List (List ℕ)) → flat_map (name Name) names ≡ texts_of (name_items names)
names_text [] = refl
names_text (n ∷ names) = ap (λ (x : List ℕ). name Name n ++ x) (names_text names)

policy_text : (p : Policy) → policy p ≡ text_of (policy_item p)
policy_text p = ap (λ (x : List ℕ). element DataPlacementPolicy (element IndexPartitionCriteria (number Size p.size ++ x))) (names_text p.names) ∙ ap (element DataPlacementPolicy) (one_item (element IndexPartitionCriteria (number Size p.size ++ texts_of (name_items p.names))))

extent_text : (e : RawExtent) → extent e ≡ text_of (nested place.Extent (extent_items e))
extent_text e = ap (element Extent) (five_items (number FileOffset e.offset) (letter Partition e.letter) (number StartBlock e.block) (number ByteOffset e.byte) (number ByteCount e.count))

extents_text : (es : List RawExtent) → flat_map extent es ≡ texts_of (extents_items es)
extents_text [] = refl
extents_text (e ∷ es) = joined (extent e) (flat_map extent es) (nested place.Extent (extent_items e)) (extents_items es) (extent_text e) (extents_text es)

xattr_text : (x : Xattr) → xattr x ≡ text_of (nested place.Xattr (xattr_items x))
xattr_text x = ap (element tags.Xattr) (four_items (name Key x.key) (start_text Value (bytes_type x.value)) (bytes_text x.value) (end_text Value))

xattrs_text : (xs : List Xattr) → flat_map xattr xs ≡ texts_of (xattrs_items xs)
xattrs_text [] = refl
xattrs_text (x ∷ xs) = joined (xattr x) (flat_map xattr xs) (nested place.Xattr (xattr_items x)) (xattrs_items xs) (xattr_text x) (xattrs_text xs)

attributes_text : (xs : List Xattr) (last : Item) → attributes xs ++ text_of last ≡ texts_of (attributes_items xs (item last no_items))
attributes_text [] last = one_item (text_of last)
attributes_text (x ∷ xs) last = joined (attributes (x ∷ xs)) (text_of last) (nested place.Attributes (xattrs_items (x ∷ xs))) (item last no_items) (ap (element ExtendedAttributes) (xattrs_text (x ∷ xs))) (one_item (text_of last))

directory_inner : (f : NodeFacts) (inside : Items) (t : List ℕ) → t ≡ texts_of inside → directory_text f t ≡ element Directory (texts_of (directory_items f inside))
directory_inner f inside t e =
    ap (λ (x : List ℕ). directory_text f x) e
    ∙ ap (element Directory) (ten_items (number FileUid f.uid) (name Name f.name) (time CreationTime f.times.create) (time ChangeTime f.times.change) (time ModifyTime f.times.modify) (time AccessTime f.times.access) (time BackupTime f.times.backup) (truth ReadOnly f.readonly) (attributes f.xattrs) (element Contents (texts_of inside)))
    ∙ ap (λ (x : List ℕ). element Directory (number FileUid f.uid ++ (name Name f.name ++ (time CreationTime f.times.create ++ (time ChangeTime f.times.change ++ (time ModifyTime f.times.modify ++ (time AccessTime f.times.access ++ (time BackupTime f.times.backup ++ (truth ReadOnly f.readonly ++ x))))))))) (attributes_text f.xattrs (nested place.Contents inside))

file_inner : (f : NodeFacts) (bytes : ℕ) (last : Item) → element File (file_front f bytes ++ text_of last) ≡ text_of (nested place.File (file_items f bytes last))
file_inner f bytes last =
    ap (element File) (eleven_items (number FileUid f.uid) (name Name f.name) (number Length bytes) (time CreationTime f.times.create) (time ChangeTime f.times.change) (time ModifyTime f.times.modify) (time AccessTime f.times.access) (time BackupTime f.times.backup) (truth ReadOnly f.readonly) (attributes f.xattrs) (text_of last))
    ∙ ap (λ (x : List ℕ). element File (number FileUid f.uid ++ (name Name f.name ++ (number Length bytes ++ (time CreationTime f.times.create ++ (time ChangeTime f.times.change ++ (time ModifyTime f.times.modify ++ (time AccessTime f.times.access ++ (time BackupTime f.times.backup ++ (truth ReadOnly f.readonly ++ x)))))))))) (attributes_text f.xattrs last)

file_is : (f : NodeFacts) (bytes : ℕ) (extents : List RawExtent) → file_text f bytes extents ≡ text_of (nested place.File (file_items f bytes (nested place.ExtentInfo (extents_items extents))))
file_is f bytes extents =
    ap (λ (x : List ℕ). element File (file_front f bytes ++ element ExtentInfo x)) (extents_text extents)
    ∙ file_inner f bytes (nested place.ExtentInfo (extents_items extents))

link_is : (f : NodeFacts) (text : List ℕ) → link_text f text ≡ text_of (nested place.File (file_items f (length text) (plain Symlink (val.words text))))
link_is f text = file_inner f (length text) (plain Symlink (val.words text))

nodes_are : (nodes : Nodes) → nodes_text nodes ≡ texts_of (nodes_items nodes)
nodes_are no_nodes = refl
nodes_are (directory f inside behind) = joined (directory_text f (nodes_text inside)) (nodes_text behind) (nested place.Directory (directory_items f (nodes_items inside))) (nodes_items behind) (directory_inner f (nodes_items inside) (nodes_text inside) (nodes_are inside)) (nodes_are behind)
nodes_are (file f bytes extents behind) = joined (file_text f bytes extents) (nodes_text behind) (nested place.File (file_items f bytes (nested place.ExtentInfo (extents_items extents)))) (nodes_items behind) (file_is f bytes extents) (nodes_are behind)
nodes_are (link f text behind) = joined (link_text f text) (nodes_text behind) (nested place.File (file_items f (length text) (plain Symlink (val.words text)))) (nodes_items behind) (link_is f text) (nodes_are behind)

-- ---- the volume

-- the text of these elements
record Shows (is : Items) (t : List ℕ) : Type 0 where
  same : t ≡ texts_of is

behind_it : {i : Item} {s : List ℕ} {is : Items} {t : List ℕ} → s ≡ text_of i → Shows is t → Shows (item i is) (s ++ t)
behind_it {i} {s} {is} {t} e h = record { same = joined s t i is e h.same }

maybe_behind : {X : Type 0} (text : X → List ℕ) (make : X → Item) (o : Option X) {is : Items} {t : List ℕ} → ((x : X) → text x ≡ text_of (make x)) → Shows is t → Shows (maybe make o is) (if_told o text ++ t)
maybe_behind text make o {is} {t} e h = record { same = joined_maybe text make o t is e h.same }

shows_all : (v : IndexValue) (root : List ℕ) → root ≡ text_of (nested place.Root (directory_items v.root (nodes_items v.inside))) → Shows (items_of v) (text.words Creator v.volume.creator ++ (if_told v.volume.comment (text.words Comment) ++ (element VolumeUuid (uuid_text v.volume.uuid) ++ (number GenerationNumber v.volume.generation ++ (time UpdateTime v.volume.updated ++ (spot Location v.volume.here ++ (if_told v.volume.back (spot PreviousGenerationLocation) ++ (truth AllowPolicyUpdate v.volume.allow ++ (if_told v.volume.policy policy ++ (if_told v.volume.lock (λ state. element VolumeLockState (lock_word state)) ++ (number HighestFileUid v.volume.highest ++ (root ++ []))))))))))))
shows_all v root e =
    behind_it refl
    (maybe_behind (text.words Comment) comment_item v.volume.comment (λ t. refl)
    (behind_it refl
    (behind_it refl
    (behind_it refl
    (behind_it (here_text v.volume.here)
    (maybe_behind (spot PreviousGenerationLocation) back_item v.volume.back back_text
    (behind_it refl
    (maybe_behind policy policy_item v.volume.policy policy_text
    (maybe_behind (λ state. element VolumeLockState (lock_word state)) lock_item v.volume.lock (λ state. refl)
    (behind_it refl
    (behind_it e record { same = refl })))))))))))

inner_text : (v : IndexValue) → volume_text v.volume ++ directory_text v.root (nodes_text v.inside) ≡ texts_of (items_of v)
inner_text v =
    let f = v.volume in
    let root = directory_text v.root (nodes_text v.inside) in
    twelve_items (text.words Creator f.creator) (if_told f.comment (text.words Comment)) (element VolumeUuid (uuid_text f.uuid)) (number GenerationNumber f.generation) (time UpdateTime f.updated) (spot Location f.here) (if_told f.back (spot PreviousGenerationLocation)) (truth AllowPolicyUpdate f.allow) (if_told f.policy policy) (if_told f.lock (λ state. element VolumeLockState (lock_word state))) (number HighestFileUid f.highest) root
    ∙ (shows_all v root (directory_inner v.root (nodes_items v.inside) (nodes_text v.inside) (nodes_are v.inside))).same

four : (a b c d : List ℕ) → a ++ b ++ c ++ d ≡ a ++ (b ++ (c ++ d))
four a b c d = simp append_assoc

-- the text of an index is a declaration, a start tag, the text of its elements and an end tag
pub canonical_is : (v : IndexValue) → canonical v ≡ head ++ (start_text LtfsIndex Version ++ (texts_of (items_of v) ++ end_text LtfsIndex))
unfolding canonical
canonical_is v = ap (λ (x : List ℕ). head ++ start_text LtfsIndex Version ++ x ++ end_text LtfsIndex) (inner_text v) ∙ four head (start_text LtfsIndex Version) (texts_of (items_of v)) (end_text LtfsIndex)
