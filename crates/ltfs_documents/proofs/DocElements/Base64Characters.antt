-- Base64 is decoded from the characters of a text.
use Rattle.std.proofs.Common.{◌≡◌, ℕ, Bool, true, false, List, [], ◌∷◌, ◌++◌, Some, None, Ok, Err, refl, sym, ap, ◌∙◌, append-nil, if◌then◌else◌}
use Rattle.std.specs.Char.{encode_utf8}
use Rattle.std.specs.Str.{encode_utf8_all}
use Rattle.base64.specs.Engines.{standard}
use Rattle.base64.specs.GeneralPurpose.{decoded_of}
use Rattle.ltfs_documents.specs.declared.doc_fields.errors.FieldErr.{FieldErr}
use Rattle.ltfs_documents.specs.DocFields.Characters.{IsTaken, Left, characters}
use Rattle.ltfs_documents.specs.DocFields.Reading.{Read}
use Rattle.ltfs_documents.specs.DocFields.Texts.{put_front}
use Rattle.ltfs_documents.proofs.DocFields.Allowed.{characters_are_bytes}
use Rattle.ltfs_documents.specs.DocElements.Blocks.{behind}
use Rattle.ltfs_documents.specs.DocElements.Pieces.{from_base64, without_space}
use Rattle.ltfs_documents.proofs.DocElements.Base64Blocks.{TakesAll, nothing_in_front}

-- what is decoded, the symbols of a block and the characters that are left stand for what the whole stands for
abbrev pub IsDecoding : Read (List ℕ) → Read (List ℕ) → List ℕ → List ℕ → Type 0
IsDecoding whole left out block =
    (cs : List ℕ) → whole ≡ Ok cs → (ds : List ℕ) × (left ≡ Ok ds) × (behind out (block ++ without_space (encode_utf8_all ds)) ≡ from_base64 (encode_utf8_all cs))

-- at the beginning nothing is decoded
pub decoding_begins : (whole : Read (List ℕ)) (out block : List ℕ) → out ≡ [] → block ≡ [] → IsDecoding whole whole out block
unfolding from_base64
decoding_begins whole out block none also cs is = (cs, is, rw (none, also) (nothing_in_front (decoded_of standard (without_space (encode_utf8_all cs)))))

fronted : (c : ℕ) (r : Read (List ℕ)) (ds : List ℕ) → put_front c r ≡ Ok ds → (es : List ℕ) × (r ≡ Ok es) × (ds ≡ c ∷ es)
fronted c (Ok es) ds e = (es, refl, cc)
fronted c (Err x) ds e = absurd cc

-- what a character stands for is the first of what is left
record IsFirst (c : ℕ) (left behind : Read (List ℕ)) (ds : List ℕ) : Type 0 where
  es : List ℕ
  are : behind ≡ Ok es
  is : ds ≡ c ∷ es

first : (c : ℕ) (left later : Read (List ℕ)) (ds : List ℕ) → IsTaken (Some (Ok c)) left later → left ≡ Ok ds → IsFirst c left later ds
first c left later ds taken is = let p = fronted c later ds (sym taken ∙ is) in record { es = p.0; are = p.1; is = p.2 }

-- a character's bytes are taken
pub decoding_goes_on : (whole : Read (List ℕ)) (left : Read (List ℕ)) (behind_it : Left) (out block next more spelled : List ℕ) (c : ℕ) (taken : Bool) → IsDecoding whole left out block
    → IsTaken (Some (Ok c)) left (characters behind_it) → spelled ≡ encode_utf8 c → TakesAll out block spelled next more taken → taken ≡ true → IsDecoding whole (characters behind_it) next more
decoding_goes_on whole left behind_it out block next more spelled c taken kept one spells all is cs told =
    let k = kept cs told in
    let f = first c left (characters behind_it) k.0 one k.1 in
    let rest = encode_utf8_all f.es in
    let shown : encode_utf8_all k.0 ≡ spelled ++ rest = ap encode_utf8_all f.is ∙ ap (λ (l : List ℕ). l ++ rest) (sym spells) in (
      f.es,
      f.are,
      sym (ap (λ b. if b then behind next (more ++ without_space rest) else None) is) ∙ sym (all rest (characters_are_bytes behind_it f.es f.are))
          ∙ ap (λ l. behind out (block ++ without_space l)) (sym shown) ∙ k.2,
    )

-- a character that is refused
pub decoding_stops : (whole : Read (List ℕ)) (left : Read (List ℕ)) (behind_it : Left) (out block next more spelled : List ℕ) (c : ℕ) (taken : Bool) → IsDecoding whole left out block
    → IsTaken (Some (Ok c)) left (characters behind_it) → spelled ≡ encode_utf8 c → TakesAll out block spelled next more taken → taken ≡ false → (cs : List ℕ) → whole ≡ Ok cs → None ≡ from_base64 (encode_utf8_all cs)
decoding_stops whole left behind_it out block next more spelled c taken kept one spells all is cs told =
    let k = kept cs told in
    let f = first c left (characters behind_it) k.0 one k.1 in
    let rest = encode_utf8_all f.es in
    let shown : encode_utf8_all k.0 ≡ spelled ++ rest = ap encode_utf8_all f.is ∙ ap (λ (l : List ℕ). l ++ rest) (sym spells) in
    sym (ap (λ b. if b then behind next (more ++ without_space rest) else None) is) ∙ sym (all rest (characters_are_bytes behind_it f.es f.are))
    ∙ ap (λ l. behind out (block ++ without_space l)) (sym shown) ∙ k.2

no_more : (ds : List ℕ) → ◌≡◌ {A = Read (List ℕ)} (Ok []) (Ok ds) → ds ≡ []
no_more ds e = cc

-- none is left
decoding_ends : (whole left behind_it : Read (List ℕ)) (out block : List ℕ) → IsDecoding whole left out block → IsTaken None left behind_it
    → (cs : List ℕ) → whole ≡ Ok cs → behind out block ≡ from_base64 (encode_utf8_all cs)
decoding_ends whole left behind_it out block kept none cs told =
    let k = kept cs told in
    let empty : k.0 ≡ [] = no_more k.0 (sym none ∙ k.1) in
    ap (behind out) (sym (append-nil block)) ∙ ap (λ ds. behind out (block ++ without_space (encode_utf8_all ds))) (sym empty) ∙ k.2

-- a text whose characters may all stand there isn't refused
decoding_fails : (whole left behind_it : Read (List ℕ)) (out block : List ℕ) (fault : FieldErr) → IsDecoding whole left out block → IsTaken (Some (Err fault)) left behind_it
    → (cs : List ℕ) → whole ≡ Ok cs → None ≡ from_base64 (encode_utf8_all cs)
decoding_fails whole left behind_it out block fault kept refused cs told = let k = kept cs told in absurd (let bad : ◌≡◌ {A = Read (List ℕ)} (Err fault) (Ok k.0) = sym refused ∙ k.1 in cc)
