-- Characters of a text are passed over, and the others taken one by one.
use Rattle.std.proofs.Common.{◌≡◌, ℕ, zero, suc, ◌+◌, ◌-◌, ◌<◌, ◌≤◌, Bool, List, [], ◌∷◌, ◌++◌, Ok, Err, length, IsUtf8, refl, sym, ap, ◌∙◌, length-append, arith}
use Rattle.std.specs.Char.{encode_utf8}
use Rattle.std.specs.Str.{chars, encode_utf8_all}
use Rattle.std.proofs.lemmas.Str.{chars-nil, chars_past_char, IsUtf8-past_char, encodes-chars}
use Rattle.ltfs_documents.specs.declared.doc_fields.errors.FieldErr.{FieldErr}
use Rattle.ltfs_documents.specs.DocFields.Characters.{characters}
use Rattle.ltfs_documents.specs.DocFields.Reading.{Read}
use Rattle.ltfs_documents.specs.DocFields.Texts.{put_front, unit_at, with_unit, resolved}

-- some characters of a text were passed over, and `more` are to be
pub record IsPassed (text : List ℕ) (place count : ℕ) (rest : List ℕ) (at more : ℕ) : Type 0 where
  pub valid : IsUtf8 rest
  pub total : at + length rest ≡ place + length text
  pub fewer : length rest ≤ length text
  pub stands : (cut : Bool) → resolved cut count place (chars text) ≡ resolved cut more at (chars rest)

pass_begins : (text : List ℕ) (place count : ℕ) → IsUtf8 text → IsPassed text place count text place count
pass_begins text place count valid = record { valid = valid; total = refl; fewer = omega arith; stands = λ cut. refl }

-- one is passed over
pub pass_one : (text : List ℕ) (place count : ℕ) (rest behind : List ℕ) (at i c : ℕ) → i < count → IsPassed text place count rest at (count - i) → rest ≡ encode_utf8 c ++ behind
    → IsPassed text place count behind (at + length (encode_utf8 c)) (count - (i + 1))
pass_one text place count rest behind at i c lt h e =
    let first : chars rest ≡ c ∷ chars behind = chars_past_char rest behind c h.valid e in
    let more : count - i ≡ suc (count - (i + 1)) = omega (arith, lt) in
    record {
      valid = IsUtf8-past_char rest behind c h.valid e;
      total = omega (arith, h.total, ap length e, length-append (encode_utf8 c) behind);
      fewer = omega (arith, h.fewer, ap length e, length-append (encode_utf8 c) behind);
      stands = λ cut. h.stands cut ∙ ap (λ k. resolved cut k at (chars rest)) more ∙ ap (λ (cs : List ℕ). resolved cut (suc (count - (i + 1))) at cs) first;
    }

-- where none is left, none is to be passed over
pub none_is_left : (cut : Bool) (rest : List ℕ) (at more : ℕ) → length rest ≡ 0 → resolved cut more at (chars rest) ≡ resolved cut 0 at (chars rest)
none_is_left cut [] at more e = ends more
  where
    ends : (k : ℕ) → resolved cut k at (chars []) ≡ resolved cut 0 at (chars [])
    ends k = ap (λ (cs : List ℕ). resolved cut k at cs) chars-nil ∙ nothing k ∙ sym (ap (λ (cs : List ℕ). resolved cut 0 at cs) chars-nil)
      where
        nothing : (k : ℕ) → resolved cut k at [] ≡ resolved cut 0 at []
        nothing zero = refl
        nothing (suc k) = refl
none_is_left cut (b ∷ rest) at more e = absurd (omega (arith, e))

-- what the next character stands for
unit_step : (cut : Bool) (rest behind : List ℕ) (place c : ℕ) → IsUtf8 rest → rest ≡ encode_utf8 c ++ behind → (r : Read (ℕ × ℕ)) → unit_at cut place c behind ≡ r
    → resolved cut 0 place (chars rest) ≡ with_unit r (λ skip. resolved cut skip (place + length (encode_utf8 c)) (chars behind))
unit_step cut rest behind place c valid e r is =
    let first : chars rest ≡ c ∷ chars behind = chars_past_char rest behind c valid e in
    let bytes : encode_utf8_all (chars behind) ≡ behind = encodes-chars behind (IsUtf8-past_char rest behind c valid e) in
    ap (λ (cs : List ℕ). resolved cut 0 place cs) first ∙ ap (λ (b : List ℕ). with_unit (unit_at cut place c b) (λ skip. resolved cut skip (place + length (encode_utf8 c)) (chars behind))) bytes
    ∙ ap (λ (r : Read (ℕ × ℕ)). with_unit r (λ skip. resolved cut skip (place + length (encode_utf8 c)) (chars behind))) is

-- a character is taken, and those that belong to it are passed over
pub takes_one : (cut : Bool) (rest behind left : List ℕ) (place at c given more : ℕ) → IsUtf8 rest → rest ≡ encode_utf8 c ++ behind → unit_at cut place c behind ≡ Ok (given, more)
    → ((cut : Bool) → resolved cut more (place + length (encode_utf8 c)) (chars behind) ≡ resolved cut 0 at (chars left))
    → characters (record { cut = cut; place = place; rest = rest }) ≡ put_front given (characters (record { cut = cut; place = at; rest = left }))
takes_one cut rest behind left place at c given more valid e is passed =
    unit_step cut rest behind place c valid e (Ok (given, more)) is ∙ ap (put_front given) (passed cut)

-- a character that may not stand there
pub stops_at : (cut : Bool) (rest behind : List ℕ) (place c : ℕ) (fault : FieldErr) → IsUtf8 rest → rest ≡ encode_utf8 c ++ behind → unit_at cut place c behind ≡ Err fault
    → characters (record { cut = cut; place = place; rest = rest }) ≡ Err fault
stops_at cut rest behind place c fault valid e is = unit_step cut rest behind place c valid e (Err fault) is

-- where nothing is left
pub ends_there : (cut : Bool) (rest : List ℕ) (place : ℕ) → length rest ≡ 0 → characters (record { cut = cut; place = place; rest = rest }) ≡ Ok []
ends_there cut [] place e = ap (λ (cs : List ℕ). resolved cut 0 place cs) chars-nil
ends_there cut (b ∷ rest) place e = absurd (omega (arith, e))
