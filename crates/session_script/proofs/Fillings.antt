-- A line of the log that is written in pieces: what was written and what is left.
use Rattle.std.proofs.Common.{◌≡◌, ℕ, ◌+◌, ◌-◌, ◌<◌, ◌≤◌, List, [], ◌∷◌, ◌++◌, length, get_or, take, drop, codes, sym, ap, ◌∙◌, arith, append-nil, append_assoc}
use lib.Seq.{drop-drop}
use Rattle.std.specs.List.{flat_map}
use Rattle.std.proofs.lemmas.List.{drop_all, flat_map_more, nil_from_length, take_more, take_rest, take-append-drop}
use Rattle.std.proofs.lemmas.Grind.{flat_map-append}
use Rattle.plain_tree.specs.declared.calls.Entry.{Entry}
use Rattle.session_script.specs.Escapes.{escaped}
use Rattle.session_script.specs.LogText.{entry_text, hex_byte, sort_letter}

-- the texts of the first elements, with one more
pub one_more : {X : Type 0} (f : X → List ℕ) (xs : List X) (i : ℕ) (d : X) (old new : List ℕ) → i < length xs → old ≡ flat_map f (take i xs) → new ≡ old ++ f (get_or xs i d) → new ≡ flat_map f (take (i + 1) xs)
one_more f xs i d old new lt before added =
    added ∙ ap (λ l. l ++ f (get_or xs i d)) before ∙ flat_map_more f [] (take i xs) (get_or xs i d) ∙ ap (flat_map f) (sym (take_more xs i d lt))

-- the texts of the first n elements, and those of the others, are those of all
pub first_and_rest : {X : Type 0} (f : X → List ℕ) (xs : List X) (n : ℕ) (first : List ℕ) → first ≡ flat_map f (take n xs)
    → first ++ flat_map f (take (length xs - n) (drop n xs)) ≡ flat_map f xs
first_and_rest f xs n first is =
    ap (λ l. l ++ flat_map f (take (length xs - n) (drop n xs))) is
    ∙ ap (λ l. flat_map f (take n xs) ++ flat_map f l) (take_rest xs n)
    ∙ sym (flat_map-append f (take n xs) (drop n xs))
    ∙ ap (flat_map f) (take-append-drop n xs)

parts : {X : Type 0} (xs : List X) (x : X) → 1 ≤ length xs → x ≡ get_or xs 0 x → xs ≡ x ∷ take (length xs - 1) (drop 1 xs)
parts [] x some is = absurd (omega arith)
parts (y ∷ xs) x some is = ap (λ z. z ∷ xs) (sym is) ∙ ap (λ l. x ∷ l) (sym (take_rest (y ∷ xs) 1))

-- what an entry is written as comes before the entries behind it
pub entry_next : (hex text name front short end : List ℕ) (entries : List Entry) (entry : Entry) → length hex ≡ 0 → length text ≡ 0 → 1 ≤ length entries → entry ≡ get_or entries 0 entry
    → front ≡ codes " " ++ sort_letter entry.sort ++ codes ":" → name ≡ entry.name → short ≡ front
    → short ++ (flat_map hex_byte hex ++ (escaped name ++ (flat_map entry_text (take (length entries - 1) (drop 1 entries)) ++ end))) ≡ flat_map hex_byte hex ++ (escaped text ++ (flat_map entry_text entries ++ end))
unfolding escaped
entry_next hex text name front short end entries entry no_hex no_text some first front_is name_is short_is =
    ap (λ h. short ++ (flat_map hex_byte h ++ (escaped name ++ (flat_map entry_text rest ++ end)))) (nil_from_length hex no_hex)
    ∙ ap (λ n. short ++ (escaped n ++ (flat_map entry_text rest ++ end))) name_is
    ∙ ap (λ s. s ++ (escaped entry.name ++ (flat_map entry_text rest ++ end))) (short_is ∙ front_is)
    ∙ sym (append_assoc (codes " " ++ sort_letter entry.sort ++ codes ":") (escaped entry.name) (flat_map entry_text rest ++ end))
    ∙ sym (append_assoc (entry_text entry) (flat_map entry_text rest) end)
    ∙ ap (λ es. flat_map entry_text es ++ end) (sym (parts entries entry some first))
    ∙ sym (ap (λ t. escaped t ++ (flat_map entry_text entries ++ end)) (nil_from_length text no_text))
    ∙ sym (ap (λ h. flat_map hex_byte h ++ (escaped text ++ (flat_map entry_text entries ++ end))) (nil_from_length hex no_hex))
  where
    rest : List Entry
    rest = take (length entries - 1) (drop 1 entries)

-- the end is what is left where nothing stands before it
pub end_none : (hex text : List ℕ) (entries : List Entry) (end : List ℕ) → length hex ≡ 0 → length text ≡ 0 → length entries < 1 → end ≡ flat_map hex_byte hex ++ (escaped text ++ (flat_map entry_text entries ++ end))
unfolding escaped
end_none hex text entries end no_hex no_text no_entry =
    ap (λ es. flat_map entry_text es ++ end) (sym (nil_from_length entries (omega arith)))
    ∙ ap (λ t. escaped t ++ (flat_map entry_text entries ++ end)) (sym (nil_from_length text no_text))
    ∙ ap (λ h. flat_map hex_byte h ++ (escaped text ++ (flat_map entry_text entries ++ end))) (sym (nil_from_length hex no_hex))

-- so it is what comes next
pub end_next : (hex text : List ℕ) (entries : List Entry) (end short : List ℕ) → length hex ≡ 0 → length text ≡ 0 → length entries < 1 → short ≡ end
    → short ++ (flat_map hex_byte hex ++ (escaped text ++ (flat_map entry_text entries ++ []))) ≡ flat_map hex_byte hex ++ (escaped text ++ (flat_map entry_text entries ++ end))
end_next hex text entries end short no_hex no_text no_entry is =
    ap (λ l. short ++ l) (sym (end_none hex text entries [] no_hex no_text no_entry)) ∙ append-nil short ∙ is ∙ end_none hex text entries end no_hex no_text no_entry

-- what was written, then what is left, stays the same where some of the bytes that stand ready are given
pub given_on : (room new short ready tail text : List ℕ) (at given count : ℕ) → ready ≡ short → take (at + count) new ≡ take at room ++ take count (take (length ready - given) (drop given ready)) → drop given short ++ tail ≡ text
    → take (at + count) new ++ (drop (given + count) short ++ tail) ≡ take at room ++ text
given_on room new short ready tail text at given count is copied left =
    ap (λ l. l ++ (drop (given + count) short ++ tail)) (copied ∙ ap (λ l. take at room ++ take count l) (take_rest ready given ∙ ap (drop given) is))
    ∙ ap (λ l. (take at room ++ take count (drop given short)) ++ (l ++ tail)) (sym (drop-drop count given short))
    ∙ append_assoc (take at room) (take count (drop given short)) (drop count (drop given short) ++ tail)
    ∙ ap (λ l. take at room ++ l) (sym (append_assoc (take count (drop given short)) (drop count (drop given short)) tail)
    ∙ ap (λ l. l ++ tail) (take-append-drop count (drop given short)) ∙ left)

-- the same where none stood ready, and the next ones came from the tail
pub fresh_on : (room new short next ready tail rest text : List ℕ) (at given count : ℕ) → ready ≡ next → take (at + count) new ≡ take at room ++ take count ready → next ++ rest ≡ tail → length short ≤ given → drop given short ++ tail ≡ text
    → take (at + count) new ++ (drop count next ++ rest) ≡ take at room ++ text
fresh_on room new short next ready tail rest text at given count is copied same none left =
    ap (λ l. l ++ (drop count next ++ rest)) (copied ∙ ap (λ l. take at room ++ take count l) is)
    ∙ append_assoc (take at room) (take count next) (drop count next ++ rest)
    ∙ ap (λ l. take at room ++ l) (sym (append_assoc (take count next) (drop count next) rest)
    ∙ ap (λ l. l ++ rest) (take-append-drop count next) ∙ same ∙ sym (ap (λ l. l ++ tail) (drop_all given short none)) ∙ left)

-- lists that are the same behind a place are so behind a later one
pub further_behind : (xs ys : List ℕ) (m n : ℕ) → m ≤ n → drop m xs ≡ drop m ys → drop n xs ≡ drop n ys
further_behind xs ys m n le same =
    ap (λ k. drop k xs) is ∙ sym (drop-drop (n - m) m xs) ∙ ap (drop (n - m)) same ∙ drop-drop (n - m) m ys ∙ ap (λ k. drop k ys) (sym is)
  where
    is : n ≡ m + (n - m)
    is = omega (arith, le)

-- a text and what is left of a line make the same with a piece more
pub piece_more : (old new piece line left whole : List ℕ) → old ++ line ≡ whole → line ≡ piece ++ left → new ≡ old ++ piece → new ++ left ≡ whole
piece_more old new piece line left whole so_far cut added =
    ap (λ l. l ++ left) added ∙ append_assoc old piece left ∙ ap (λ l. old ++ l) (sym cut) ∙ so_far
