-- The elements of a label as they are written.
use Rattle.std.proofs.Common.{◌≡◌, ◌^◌, ◌<◌, ◌≤◌, ℕ, List, [], ◌∷◌, ◌++◌, true, false, nat_le, nat_lt, ◌&&◌, IsUtf8, refl, ap, ◌∙◌, append_assoc, append-nil, arith}
use Rattle.std.proofs.lemmas.Bool.Decides.{nat_tests}
use Rattle.tape_types.specs.declared.moments.Moment.{Moment}
use Rattle.tape_types.specs.Times.{civil_of}
use Rattle.ltfs_documents.specs.declared.doc_fields.tags.Tag.TheVariants.{Creator, FormatTime, VolumeUuid, Location, Partition, Partitions, IndexLetter, DataLetter, BlockSize, Compression}
use Rattle.ltfs_documents.specs.DocFields.Texts.{IsWritable}
use Rattle.ltfs_documents.proofs.DocFields.WrittenBytes.{decimal_valid}
use Rattle.ltfs_documents.specs.declared.doc_elements.schema.Form.TheVariants as form
use Rattle.ltfs_documents.specs.declared.doc_elements.schema.Container.TheVariants as place
use Rattle.ltfs_documents.specs.DocElements.Elements.{Items, item, nested, no_items, plain}
use Rattle.ltfs_documents.specs.DocElements.Pieces.{words, time, uuid, letter, number, truth}
use Rattle.ltfs_documents.proofs.DocElements.WrittenItems.{GoodItems, ReadsBack, texts_of}
use Rattle.ltfs_documents.proofs.DocElements.WrittenValues.{creator_back, letter_back, number_in_back, time_back, truth_back, uuid_back}
use Rattle.ltfs_label.specs.Canonical.{children_text, element, in_block_range, IsLabel, leaf_text}
use Rattle.ltfs_label.specs.Values.{LabelValue}

-- the elements of a label, in their order
abbrev pub items_of : LabelValue → Items
items_of v =
    item (plain Creator (words v.creator))
    (item (plain FormatTime (time v.formatted))
    (item (plain VolumeUuid (uuid v.uuid))
    (item (nested place.Own (item (plain Partition (letter v.location)) no_items))
    (item (nested place.Letters (item (plain IndexLetter (letter v.index)) (item (plain DataLetter (letter v.dpart)) no_items)))
    (item (plain BlockSize (number v.block))
    (item (plain Compression (truth v.compression)) no_items))))))

one_item : (a : List ℕ) → a ≡ a ++ []
one_item a = simp append-nil

two_items : (a b : List ℕ) → a ++ b ≡ a ++ (b ++ [])
two_items a b = simp append-nil

seven_items : (a b c d e f g : List ℕ) → a ++ b ++ c ++ d ++ e ++ f ++ g ≡ a ++ (b ++ (c ++ (d ++ (e ++ (f ++ (g ++ []))))))
seven_items a b c d e f g = simp (append_assoc, append-nil)

-- the text of a label's children is that of its elements
pub children_items : (v : LabelValue) → children_text v ≡ texts_of (items_of v)
children_items v =
    let creator = leaf_text Creator (words v.creator) in
    let formatted = leaf_text FormatTime (time v.formatted) in
    let id = leaf_text VolumeUuid (uuid v.uuid) in
    let part = leaf_text Partition (letter v.location) in
    let index = leaf_text IndexLetter (letter v.index) in
    let dpart = leaf_text DataLetter (letter v.dpart) in
    let block = leaf_text BlockSize (number v.block) in
    let compression = leaf_text Compression (truth v.compression) in
    seven_items creator formatted id (element Location part) (element Partitions (index ++ dpart)) block compression
    ∙ ap (λ (x : List ℕ). creator ++ (formatted ++ (id ++ (element Location x ++ (element Partitions (index ++ dpart) ++ (block ++ (compression ++ []))))))) (one_item part)
    ∙ ap (λ (x : List ℕ). creator ++ (formatted ++ (id ++ (element Location (part ++ []) ++ (element Partitions x ++ (block ++ (compression ++ []))))))) (two_items index dpart)

small : (n : ℕ) → in_block_range n ≡ true → n < 2 ^ 64
small n good = grind (arith, nat_tests)

not_great : (n : ℕ) → in_block_range n ≡ true → nat_lt 1048576 n ≡ false
not_great n good = grind (arith, nat_tests)

not_small : (n : ℕ) → in_block_range n ≡ true → nat_lt n 4096 ≡ false
not_small n good = grind (arith, nat_tests)

size_back : (n : ℕ) → in_block_range n ≡ true → ReadsBack form.BlockSize BlockSize (number n)
size_back n good = record {
  again = λ text from start rest a e. number_in_back form.BlockSize n (small n good) (not_great n good) (not_small n good) text start.next rest e;
  valid = decimal_valid n (small n good);
}

-- the elements of a valid label are read where they are written
pub good_items : (v : LabelValue) (m : Moment) → v.formatted ≡ civil_of m → IsWritable v.creator → v.uuid < 2 ^ 128 → IsLabel v → GoodItems place.Label (items_of v)
good_items v m when creator fits g = (
  (form.Text, refl, record { may = refl; name = refl }, creator_back v.creator creator),
  (
    (form.Time, refl, record { may = refl; name = refl }, time_back FormatTime v.formatted m when),
    (
      (form.Uuid, refl, record { may = refl; name = refl }, uuid_back VolumeUuid v.uuid fits),
      (
        (refl, record { may = refl; name = refl }, refl, ((form.Letter, refl, record { may = refl; name = refl }, letter_back Partition v.location g.location.0 g.location.1), tt)),
        (
          (
            refl,
            record { may = refl; name = refl },
            refl,
            (
              (form.Letter, refl, record { may = refl; name = refl }, letter_back IndexLetter v.index g.index.0 g.index.1),
              ((form.Letter, refl, record { may = refl; name = refl }, letter_back DataLetter v.dpart g.dpart.0 g.dpart.1), tt),
            ),
          ),
          (
            (form.BlockSize, refl, record { may = refl; name = refl }, size_back v.block g.block),
            ((form.Truth, refl, record { may = refl; name = refl }, truth_back Compression v.compression), tt),
          ),
        ),
      ),
    ),
  ),
)
