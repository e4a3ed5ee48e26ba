-- Bytes are encoded piece by piece, 768 at a time.
use Rattle.std.proofs.Common.{◌≡◌, ℕ, ◌%◌, min, List, [], ◌++◌, length, sym, ap, ◌∙◌, arith, append-nil, length-append, inl, inr}
use Rattle.std.proofs.lemmas.Bool.{cases_lt}
use Rattle.std.proofs.lemmas.List.{nil_from_length}
use Rattle.base64.specs.declared.engine.general_purpose.GeneralPurpose.{GeneralPurpose}
use Rattle.base64.specs.GeneralPurpose.{encode_of}
use Rattle.base64.proofs.EngineFacts.{encode_of-append, encode_of-nil}

-- a piece is 768 bytes, or the last
pub piece_first : (e : GeneralPurpose) (all piece rest : List ℕ) → all ≡ piece ++ rest → length piece ≡ min 768 (length all)
    → encode_of e piece ++ encode_of e rest ≡ encode_of e all
piece_first e all piece rest parts size =
    let sum = ap length parts ∙ length-append piece rest in
    elim (cases_lt (length all) 768) [
      | inl short ↦
          let none : rest ≡ [] = nil_from_length rest (omega arith) in
          rw (parts, none, encode_of-nil, append-nil, append-nil)
      | inr long ↦ let whole : length piece % 3 ≡ 0 = omega arith in sym (encode_of-append e piece rest whole) ∙ ap (encode_of e) (sym parts)
    ]

-- where no bytes are left to encode, all is written
pub none_left : (e : GeneralPurpose) (out rest all : List ℕ) → length rest ≡ 0 → out ++ encode_of e rest ≡ all → out ≡ all
none_left e out rest all none is = rw (nil_from_length rest none, encode_of-nil, append-nil) at is
