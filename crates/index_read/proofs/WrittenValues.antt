-- The values of leaves that are written are read again.
use Rattle.std.proofs.Common.{◌≡◌, ℕ, ◌^◌, ◌<◌, ◌≤◌, true, false, nat_le, nat_lt, List, ◌∷◌, length, get_or, IsUtf8, refl, arith}
use Rattle.std.specs.Str.{chars}
use Rattle.std.proofs.lemmas.Bool.Decides.{nat_tests}
use Rattle.tape_types.specs.Bounds.{longest_name}
use Rattle.ltfs_documents.specs.declared.doc_fields.tags.Tag.{Tag}
use Rattle.ltfs_documents.specs.declared.doc_fields.tags.Tag.TheVariants.{Comment, Name, Symlink}
use Rattle.ltfs_documents.specs.declared.doc_fields.values.LockState.{LockState}
use Rattle.ltfs_documents.specs.declared.doc_fields.values.LockState.TheVariants.{Unlocked, Locked, PermLocked}
use Rattle.ltfs_documents.specs.DocFields.Space.{is_space}
use Rattle.ltfs_documents.specs.DocFields.Values.{lock_word}
use Rattle.ltfs_documents.proofs.DocFields.TextsAgain.{escape_valid}
use Rattle.ltfs_documents.proofs.DocFields.ValuesAgain.{lock_again}
use Rattle.ltfs_documents.proofs.DocFields.WrittenBytes.{ascii_valid, decimal_valid, space_first}
use Rattle.ltfs_documents.specs.declared.doc_elements.schema.Form.TheVariants as form
use Rattle.index_model.specs.Names.{IsVolumeName, IsNodeName}
use Rattle.ltfs_documents.specs.DocElements.Pieces.{words, letter, number, lock, is_name, is_volume_name}
use Rattle.index_model.specs.Texts.{IsLetter, IsPlainText}
use Rattle.ltfs_documents.proofs.DocElements.WrittenItems.{ReadsBack}
use Rattle.ltfs_documents.proofs.DocElements.WrittenNames.{name_in_back, valid_name}
use Rattle.ltfs_documents.proofs.DocElements.WrittenValues.{behind, letter_back as sign_back, number_in_back, words_in_back}

-- ---- names

-- a pattern of a placement policy is read again
pub pattern_back : (name : List ℕ) → IsUtf8 name → ReadsBack form.AnyName Name (words name)
pattern_back name u = record { again = λ text from start rest a e. name_in_back form.AnyName name u refl text from start rest a e; valid = valid_name name u }

-- the text of a link is read again
pub target_back : (text : List ℕ) → IsUtf8 text → ReadsBack form.AnyName Symlink (words text)
target_back name u = record { again = λ text from start rest a e. name_in_back form.AnyName name u refl text from start rest a e; valid = valid_name name u }

volume_name_is : (name : List ℕ) → IsVolumeName name → is_volume_name name ≡ true
volume_name_is name h =
    let short : nat_le (length (chars name)) longest_name ≡ true = let s = h.short in grind (arith, nat_tests) in
    rw (short, h.no_slash, h.no_nul) refl

-- the name of a volume is read again
pub volume_name_back : (name : List ℕ) → IsVolumeName name → ReadsBack form.VolumeName Name (words name)
volume_name_back name h = record { again = λ text from start rest a e. name_in_back form.VolumeName name h.utf8 (volume_name_is name h) text from start rest a e; valid = valid_name name h.utf8 }

node_name_is : (name : List ℕ) → IsNodeName name → is_name form.NodeName name ≡ true
node_name_is name h =
    let some : nat_lt 0 (length name) ≡ true = let s = h.some in grind (arith, nat_tests) in
    rw (volume_name_is name h.text, some, h.no_dot) refl

-- the name of a node is read again
pub node_name_back : (name : List ℕ) → IsNodeName name → ReadsBack form.NodeName Name (words name)
node_name_back name h = record { again = λ text from start rest a e. name_in_back form.NodeName name h.text.utf8 (node_name_is name h) text from start rest a e; valid = valid_name name h.text.utf8 }

-- ---- the other forms

-- the comment is read again
pub comment_back : (t : List ℕ) → IsPlainText t → ReadsBack form.Text Comment (words t)
comment_back t plain = record { again = λ text from start rest a e. words_in_back t (plain.utf8, plain.allowed) text from start rest e; valid = escape_valid t (plain.utf8, plain.allowed) }

-- the letter of a partition is read again
pub letter_back : (tag : Tag) (b : ℕ) → IsLetter b → ReadsBack form.Letter tag (letter b)
letter_back tag b good = sign_back tag b good.from_a good.to_z

within_64 : (n : ℕ) → n ≤ 2 ^ 62 → n < 2 ^ 64
within_64 n most = omega arith

-- a number below 2^64 is read again
pub number_back : (tag : Tag) (n : ℕ) → n < 2 ^ 64 → ReadsBack form.Number tag (number n)
number_back tag n fits = let enough : nat_lt n 0 ≡ false = grind (arith, nat_tests) in record { again = λ text from start rest a e. number_in_back form.Number n fits refl enough text start.next rest e; valid = decimal_valid n fits }

-- a number up to 2^62 is read again
pub bounded_back : (tag : Tag) (n : ℕ) → n ≤ 2 ^ 62 → ReadsBack form.Bounded tag (number n)
bounded_back tag n most =
    let fits = within_64 n most in
    let within_range : nat_lt (2 ^ 62) n ≡ false = grind (arith, nat_tests) in
    let enough : nat_lt n 0 ≡ false = grind (arith, nat_tests) in
    record { again = λ text from start rest a e. number_in_back form.Bounded n fits within_range enough text start.next rest e; valid = decimal_valid n fits }

-- a generation is read again
pub generation_back : (tag : Tag) (n : ℕ) → 1 ≤ n → n ≤ 2 ^ 62 → ReadsBack form.Generation tag (number n)
generation_back tag n some most =
    let fits = within_64 n most in
    let within_range : nat_lt (2 ^ 62) n ≡ false = grind (arith, nat_tests) in
    let enough : nat_lt n 1 ≡ false = grind (arith, nat_tests) in
    record { again = λ text from start rest a e. number_in_back form.Generation n fits within_range enough text start.next rest e; valid = decimal_valid n fits }

-- the state of the lock is read again
pub lock_back : (tag : Tag) (state : LockState) → ReadsBack form.Lock tag (lock state)
lock_back tag state = record {
  again = λ text from start rest a e.
      let here = space_first text start.next (lock_word state) (60 ∷ rest) (some state) (first state) e in
      let read = lock_again text start.next state (60 ∷ rest) e in
      let after = behind text start.next (lock_word state) rest e in
      rw (here, read, after) refl;
  valid = valid state;
}
  where
    some : (state : LockState) → 0 < length (lock_word state)
    some Unlocked = omega arith
    some Locked = omega arith
    some PermLocked = omega arith

    first : (state : LockState) → is_space (get_or (lock_word state) 0 0) ≡ false
    first Unlocked = refl
    first Locked = refl
    first PermLocked = refl

    valid : (state : LockState) → IsUtf8 (lock_word state)
    valid Unlocked = ascii_valid (lock_word Unlocked) refl
    valid Locked = ascii_valid (lock_word Locked) refl
    valid PermLocked = ascii_valid (lock_word PermLocked) refl
