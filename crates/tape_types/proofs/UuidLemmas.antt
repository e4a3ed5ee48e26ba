-- The one form that a UUID's text of 36 characters has.
use Rattle.std.proofs.Common.{◌≡◌, ℕ, ◌<◌, ◌^◌, eqb, false, arith, List, length, refl, sym, ap, ◌∙◌, Option, Some, None, option_map}
use Rattle.std.specs.Int.{w128, from_be_bytes, to_be_bytes}
use Rattle.std.proofs.lemmas.Bool.Decides.{nat_tests}
use Rattle.uuid.specs.Text.{parsed, parsed_hyphenated}
use Rattle.uuid.proofs.TextLemmas.{by_index_length}
use Rattle.uuid.proofs.OrderLemmas.{from_be_bytes-to_be_bytes_16}
use Rattle.tape_types.specs.Uuids.{uuid_in, uuid_text}

none_of : {X : Type 0} (o : Option X) → ((u : X) → o ≡ Some u → ⊥) → o ≡ None
none_of None h = refl
none_of (Some x) h = absurd (h x refl)

-- at 36 characters the form is the one with hyphens
parsed-36 : (text : List ℕ) → length text ≡ 36 → parsed text ≡ parsed_hyphenated text
parsed-36 text e = rw e refl

-- a text of 36 characters that is not in the form of a UUID gives none
pub uuid_in-none : (text : List ℕ) → length text ≡ 36 → ((u : List ℕ) → parsed text ≡ Some u → ⊥) → None ≡ uuid_in text
uuid_in-none text long none =
    sym (ap (option_map (from_be_bytes w128)) (sym (parsed-36 text long) ∙ none_of (parsed text) none))

-- a text that has not 36 characters gives no UUID
pub uuid_in-other : (text : List ℕ) → (length text ≡ 36 → ⊥) → None ≡ uuid_in text
uuid_in-other text other =
    let ne : eqb (length text) 36 ≡ false = grind (arith, nat_tests) in
    rw ne refl

-- a text of 36 characters in the form of a UUID gives that UUID
pub uuid_in-written : (text : List ℕ) (uuid : ℕ) → length text ≡ 36 → uuid < 2 ^ 128 → Some (to_be_bytes w128 uuid) ≡ parsed text → uuid_in text ≡ Some uuid
uuid_in-written text uuid long fits e =
    ap (option_map (from_be_bytes w128)) (sym (parsed-36 text long) ∙ sym e) ∙ ap Some (from_be_bytes-to_be_bytes_16 uuid fits)

-- the text of a UUID has 36 characters
pub length-uuid : (uuid : ℕ) → length (uuid_text uuid) ≡ 36
length-uuid uuid = by_index_length 36 _
