-- The values of leaves that are written are read again.
use Rattle.std.proofs.Common.{◌≡◌, ℕ, ◌+◌, ◌^◌, ◌<◌, ◌≤◌, Bool, true, false, nat_lt, List, [], ◌∷◌, ◌++◌, length, get_or, drop, Ok, IsUtf8, refl, arith}
use Rattle.std.specs.Fmt.{decimal}
use Rattle.std.proofs.lemmas.Bool.Decides.{nat_tests}
use Rattle.tape_types.specs.declared.moments.Moment.{Moment}
use Rattle.tape_types.specs.declared.times.Civil.{Civil}
use Rattle.tape_types.specs.Times.{civil_of, civil_text, time_text}
use Rattle.tape_types.specs.Uuids.{uuid_text}
use Rattle.tape_types.proofs.UuidLemmas.{length-uuid}
use Rattle.ltfs_documents.specs.declared.doc_fields.starts.Start.{Start}
use Rattle.ltfs_documents.specs.declared.doc_fields.tags.Tag.{Tag}
use Rattle.ltfs_documents.specs.declared.doc_fields.tags.Tag.TheVariants.{Creator}
use Rattle.ltfs_documents.specs.DocFields.Space.{is_space, space_end}
use Rattle.ltfs_documents.specs.DocFields.Texts.{IsWritable}
use Rattle.ltfs_documents.specs.DocFields.Written.{bool_text, escape}
use Rattle.ltfs_documents.proofs.DocFields.Again.{next_is, space_again}
use Rattle.ltfs_documents.proofs.DocFields.TextsAgain.{escape_valid, text_again}
use Rattle.ltfs_documents.proofs.DocFields.ValuesAgain.{bool_again, decimal_written, length_time, letter_again, number_again, time_again, uuid_again}
use Rattle.ltfs_documents.proofs.DocFields.WrittenBytes.{ascii_valid, civil_valid, decimal_first, one_valid, space_first, time_first, uuid_first, uuid_valid}
use Rattle.ltfs_documents.specs.declared.doc_elements.schema.Form.{Form}
use Rattle.ltfs_documents.specs.declared.doc_elements.schema.Form.TheVariants as form
use Rattle.ltfs_documents.specs.DocElements.Pieces.{words, time, uuid, letter, number, truth, is_too_great, least, number_in, value_in}
use Rattle.ltfs_documents.proofs.DocElements.WrittenItems.{ReadsBack}

-- a text between its tags is read again
pub words_in_back : (t : List ℕ) → IsWritable t → (text : List ℕ) (from : ℕ) (start : Start) (rest : List ℕ) → drop start.next text ≡ escape t ++ 60 ∷ rest → value_in form.Text from start text ≡ Ok (words t, start.next + length (escape t))
words_in_back t plain text from start rest e = rw (text_again text start.next t rest plain e) refl

-- the text of the creator is read again
pub creator_back : (t : List ℕ) → IsWritable t → ReadsBack form.Text Creator (words t)
creator_back t plain = record { again = λ text from start rest a e. words_in_back t plain text from start rest e; valid = escape_valid t plain }

-- the `<` behind a value is no white space
pub behind : (text : List ℕ) (at : ℕ) (s rest : List ℕ) → drop at text ≡ s ++ 60 ∷ rest → space_end text (at + length s) ≡ at + length s
behind text at s rest e = space_again text (at + length s) 60 rest (next_is text at s (60 ∷ rest) e) refl

-- a date and time of day is read again
pub time_back : (tag : Tag) (c : Civil) (m : Moment) → c ≡ civil_of m → ReadsBack form.Time tag (time c)
unfolding time_text
time_back tag c m when = rw when record {
  again = λ text from start rest a e.
      let long : length (civil_text (civil_of m)) ≡ 30 = length_time m in
      let here = space_first text start.next (civil_text (civil_of m)) (60 ∷ rest) (omega (arith, long)) (time_first m) e in
      let read = time_again text start.next m (60 ∷ rest) e in
      let there : start.next + 30 ≡ start.next + length (civil_text (civil_of m)) = omega (arith, long) in
      let after = behind text start.next (civil_text (civil_of m)) rest e in
      rw (here, read, there, after) refl;
  valid = civil_valid (civil_of m);
}

-- a UUID is read again
pub uuid_back : (tag : Tag) (n : ℕ) → n < 2 ^ 128 → ReadsBack form.Uuid tag (uuid n)
uuid_back tag n fits = record {
  again = λ text from start rest a e.
      let long = length-uuid n in
      let here = space_first text start.next (uuid_text n) (60 ∷ rest) (omega (arith, long)) (uuid_first n) e in
      let read = uuid_again text start.next n (60 ∷ rest) fits e in
      let there : start.next + 36 ≡ start.next + length (uuid_text n) = omega (arith, long) in
      let after = behind text start.next (uuid_text n) rest e in
      rw (here, read, there, after) refl;
  valid = uuid_valid n;
}

letter_stops : (b : ℕ) → 97 ≤ b → is_space b ≡ false
letter_stops b low = grind (arith, nat_tests)

-- the letter of a partition is read again
pub letter_back : (tag : Tag) (b : ℕ) → 97 ≤ b → b ≤ 122 → ReadsBack form.Letter tag (letter b)
letter_back tag b low high = record {
  again = λ text from start rest a e.
      let here = space_again text start.next b (60 ∷ rest) e (letter_stops b low) in
      let read = letter_again text start.next b (60 ∷ rest) low high e in
      let after = behind text start.next (b ∷ []) rest e in
      rw (here, read, after) refl;
  valid = one_valid b (omega (arith, high));
}

-- a number of a form is read as one, if it is within its range
pub number_in_back : (f : Form) (n : ℕ) → n < 2 ^ 64 → is_too_great f n ≡ false → nat_lt n (least f) ≡ false → (text : List ℕ) (at : ℕ) (rest : List ℕ) → drop at text ≡ decimal n ++ 60 ∷ rest → number_in f text (space_end text at) ≡ Ok (number n, at + length (decimal n))
unfolding number_in
number_in_back f n fits most low text at rest e =
    let here = space_first text at (decimal n) (60 ∷ rest) (decimal_written n fits).some (decimal_first n fits) e in
    let read = number_again text at n 60 rest fits refl e in
    let after = behind text at (decimal n) rest e in
    rw (here, read, most, low, after) refl

-- a truth value is read again
pub truth_back : (tag : Tag) (is : Bool) → ReadsBack form.Truth tag (truth is)
truth_back tag is = record {
  again = λ text from start rest a e.
      let here = space_first text start.next (bool_text is) (60 ∷ rest) (some is) (first is) e in
      let read = bool_again text start.next is (60 ∷ rest) e in
      let after = behind text start.next (bool_text is) rest e in
      rw (here, read, after) refl;
  valid = valid is;
}
  where
    some : (is : Bool) → 0 < length (bool_text is)
    some true = omega arith
    some false = omega arith

    first : (is : Bool) → is_space (get_or (bool_text is) 0 0) ≡ false
    first true = refl
    first false = refl

    valid : (is : Bool) → IsUtf8 (bool_text is)
    valid true = ascii_valid (bool_text true) refl
    valid false = ascii_valid (bool_text false) refl
