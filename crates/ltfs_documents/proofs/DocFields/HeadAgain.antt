-- The declaration that is written is read again.
use Rattle.std.proofs.Common.{◌≡◌, ℕ, ◌+◌, true, List, [], ◌∷◌, ◌++◌, length, drop, codes, Ok, refl, ap}
use Rattle.ltfs_documents.specs.declared.doc_fields.declaration.Told.{Told}
use Rattle.ltfs_documents.specs.declared.doc_fields.declaration.Told.TheVariants as told
use Rattle.ltfs_documents.specs.DocFields.Declaration.{encoding_at, head_at, is_told, label, parts_at, standalone_at, told_at}
use Rattle.ltfs_documents.specs.DocFields.Reading.{begins}
use Rattle.ltfs_documents.proofs.DocFields.Again.{all_pass, between_again, byte_is, literal_again, next_is, one_again, space_again, space_before}
use Rattle.ltfs_documents.proofs.DocFields.TagsAgain.{no_quote, quoted_again}

told_again : (part : Told) (v text : List ℕ) (at : ℕ) (rest : List ℕ) → all_pass no_quote v ≡ true → is_told part v ≡ true → drop at text ≡ label part ++ (34 ∷ v ++ 34 ∷ rest) → told_at part text at ≡ Ok (at + length (label part) + 1 + length v + 1)
unfolding told_at
told_again part v text at rest ok is e =
    let l = literal_again (label part) text at (34 ∷ v ++ 34 ∷ rest) e in
    let a = next_is text at (label part) (34 ∷ v ++ 34 ∷ rest) e in
    let q = quoted_again text (at + length (label part)) v rest ok a in
    let b = next_is text (at + length (label part)) (34 ∷ []) (v ++ 34 ∷ rest) a in
    let word = between_again text (at + length (label part) + 1) v (34 ∷ rest) b in
    rw (l, q, word, is) refl

-- the declaration that is written in front of a document is read, with its 38 bytes
pub head_again : (text rest : List ℕ) → drop 0 text ≡ codes "<?xml version=\"1.0\" encoding=\"UTF-8\"?>" ++ rest → head_at text 0 ≡ Ok 38
unfolding head_at parts_at encoding_at standalone_at
head_again text rest e =
    let begun : begins (codes "<?xml") (drop 0 text) ≡ true = ap (begins (codes "<?xml")) e in
    let five = next_is text 0 (codes "<?xml") (codes " version=\"1.0\" encoding=\"UTF-8\"?>" ++ rest) e in
    let six = next_is text 5 (codes " ") (codes "version=\"1.0\" encoding=\"UTF-8\"?>" ++ rest) five in
    let nineteen = next_is text 6 (codes "version=\"1.0\"") (codes " encoding=\"UTF-8\"?>" ++ rest) six in
    let twenty = next_is text 19 (codes " ") (codes "encoding=\"UTF-8\"?>" ++ rest) nineteen in
    let last = next_is text 20 (codes "encoding=\"UTF-8\"") (codes "?>" ++ rest) twenty in
    let end = next_is text 36 (codes "?") (codes ">" ++ rest) last in
    let b5 = byte_is text 5 32 (codes "version=\"1.0\" encoding=\"UTF-8\"?>" ++ rest) five in
    let s5 = space_before text 5 118 (codes "ersion=\"1.0\" encoding=\"UTF-8\"?>" ++ rest) five refl in
    let version = told_again told.Version (codes "1.0") text 6 (codes " encoding=\"UTF-8\"?>" ++ rest) refl refl six in
    let s19 = space_before text 19 101 (codes "ncoding=\"UTF-8\"?>" ++ rest) nineteen refl in
    let b20 = byte_is text 20 101 (codes "ncoding=\"UTF-8\"?>" ++ rest) twenty in
    let encoding = told_again told.Encoding (codes "UTF-8") text 20 (codes "?>" ++ rest) refl refl twenty in
    let s36 = space_again text 36 63 (codes ">" ++ rest) last refl in
    let mark = one_again text 36 63 (codes ">" ++ rest) last in
    let closes = one_again text 37 62 rest end in
    rw (begun, b5, s5, version, s19, b20, encoding, s36, mark, closes) refl
