-- The element of all attributes of a node, and its length.
use Rattle.std.proofs.Common.{◌≡◌, ℕ, ◌+◌, ◌-◌, ◌^◌, ◌<◌, ◌≤◌, List, [], ◌∷◌, ◌++◌, length, min, replicate, refl, sym, ap, ◌∙◌, Bool, true, false, nat_eq, arith, length-append, append_assoc, Option, None, Some, inl, inr}
use Rattle.std.specs.List.{flat_map}
use Rattle.std.proofs.lemmas.Bool.{cases_lt}
use Rattle.std.proofs.lemmas.List.{length-replicate}
use Rattle.base64.specs.Engines.{standard}
use Rattle.base64.specs.GeneralPurpose.{encode_of}
use Rattle.base64.specs.Rfc4648.{encode, encode_symbols, encoded_size, padding_len}
use Rattle.base64.proofs.RoundTrip.{length-encode_symbols}
use Rattle.ltfs_documents.specs.declared.doc_fields.tags.Tag.TheVariants.{ExtendedAttributes, Key, Value}
use Rattle.ltfs_documents.specs.declared.doc_fields.tags.Tag.TheVariants as tags
use Rattle.ltfs_documents.specs.DocFields.Written.{end_text, start_text}
use Rattle.ltfs_documents.specs.DocElements.Written.{bytes_text, bytes_type}
use Rattle.tape_types.specs.declared.node_keys.xattrs.Xattr.{Xattr}
use Rattle.index_model.specs.Canonical.{attributes, element, name, xattr}
use Rattle.index_write.specs.Parts.{value_text}
use Rattle.index_write.specs.Sizes.{bounded, size}
use Rattle.index_write.proofs.SizeLemmas.{el}

-- where there are attributes, they stand in one element
pub some_attributes : (xs : List Xattr) → false ≡ nat_eq (length xs) 0 → attributes xs ≡ element ExtendedAttributes (flat_map xattr xs)
some_attributes [] some = absurd cc
some_attributes (x ∷ xs) some = refl

-- ---- lengths

encoded_length : (t : List ℕ) (pad : ℕ) (padding : Bool) (m : List ℕ) → length (encode t pad padding m) ≡ encoded_size (length m) padding
encoded_length t pad true m =
    let whole = length-append (encode_symbols t m) (replicate (padding_len (length m)) pad) in
    let symbols = length-encode_symbols t m in
    let rest = length-replicate (padding_len (length m)) pad in
    omega (arith, whole, symbols, rest)
encoded_length t pad false m =
    let whole = length-append (encode_symbols t m) [] in
    let symbols = length-encode_symbols t m in
    omega (arith, whole, symbols)

symbols_length : (m : List ℕ) → length (encode_of standard m) ≡ encoded_size (length m) true
symbols_length m = encoded_length standard.encode_table standard.padding.value true m

of_some : (n count : ℕ) (r : Option ℕ) → (n < 2 ^ 64 → r ≡ Some n) → (2 ^ 64 ≤ n → r ≡ None) → r ≡ Some count → count ≡ bounded n
of_some n count r fits long is = elim (cases_lt n (2 ^ 64)) [
  | inl lt ↦
      let told = sym is ∙ fits lt in
      let same : count ≡ n = cc told in
      omega (arith, same, lt)
  | inr ge ↦ let told = sym is ∙ long ge in absurd (cc told)
]

-- the count of symbols in base64 is the length of the text, as far as 64 bits go
pub symbols_counted : (m : List ℕ) (count : ℕ) (r : Option ℕ) → (encoded_size (length m) true < 2 ^ 64 → r ≡ Some (encoded_size (length m) true)) → (2 ^ 64 ≤ encoded_size (length m) true → r ≡ None)
    → r ≡ Some count → count ≡ size (encode_of standard m)
symbols_counted m count r fits long is = of_some (encoded_size (length m) true) count r fits long is ∙ ap bounded (sym (symbols_length m))

-- an attribute
joined : (k s b e : List ℕ) → k ++ s ++ b ++ e ≡ k ++ (s ++ b ++ e)
joined k s b e = simp (append_assoc)

of_xattr : (l a b k v all : ℕ) → l ≡ a + b + 15 → k ≡ bounded a → v ≡ bounded b → all ≡ bounded (15 + k + v) → all ≡ bounded l
of_xattr l a b k v all e is_k is_v is = omega (arith, e, is_k, is_v, is)

xattr_count : (x : Xattr) → length (xattr x) ≡ length (name Key x.key) + length (value_text x.value) + 15
xattr_count x =
    let one = joined (name Key x.key) (start_text Value (bytes_type x.value)) (bytes_text x.value) (end_text Value) in
    ap (λ (t : List ℕ). length (element tags.Xattr t)) one ∙ el tags.Xattr (name Key x.key ++ value_text x.value) _ 15 refl (length-append (name Key x.key) (value_text x.value))

-- the length of an attribute's text is the sum of its parts
pub xattr_total : (x : Xattr) (k v all : ℕ) → k ≡ size (name Key x.key) → v ≡ size (value_text x.value) → all ≡ bounded (15 + k + v) → all ≡ size (xattr x)
xattr_total x k v all is_k is_v is = of_xattr (length (xattr x)) (length (name Key x.key)) (length (value_text x.value)) k v all (xattr_count x) is_k is_v is

-- all of them
of_attributes : (l n k all : ℕ) → l ≡ n + 41 → k ≡ bounded n → all ≡ min (k + 41) (2 ^ 64 - 1) → all ≡ bounded l
of_attributes l n k all e is_k is = omega (arith, e, is_k, is)

-- the length of all attributes' text is the sum of theirs and of the tags
pub attributes_total : (xs : List Xattr) (k all : ℕ) → false ≡ nat_eq (length xs) 0 → k ≡ size (flat_map xattr xs) → all ≡ min (k + 41) (2 ^ 64 - 1) → all ≡ size (attributes xs)
attributes_total xs k all some is_k is =
    of_attributes (length (element ExtendedAttributes (flat_map xattr xs))) (length (flat_map xattr xs)) k all (el ExtendedAttributes (flat_map xattr xs) _ 41 refl refl) is_k is
    ∙ ap (λ (t : List ℕ). size t) (sym (some_attributes xs some))
