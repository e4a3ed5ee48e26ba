-- Paths, as they are read and as they are spelled.
use Rattle.std.proofs.Common.{◌≡◌, ◌≢◌, ℕ, suc, ◌<◌, ◌≤◌, Bool, true, false, cond, eqb, List, [], ◌∷◌, ◌++◌, length, sym, ap, ◌∙◌, refl, subst, arith, Some, None, append-nil, ne_eqb, length-append}
use Rattle.std.specs.Prelude.{Option, option_and_then}
use Rattle.std.specs.Option.{option_map}
use Rattle.std.specs.List.{AllByRecursion, slice_split, join_with_byte, onto_first}
use Rattle.std.specs.Str.{IsUtf8, is_utf8}
use Rattle.std.proofs.lemmas.Bool.{eqb-true, eq-eqb}
use Rattle.std.proofs.lemmas.List.{nil_from_length}
use Rattle.std.proofs.lemmas.List.Elements.{All-from_recursion}
use Rattle.std.proofs.lemmas.List.Splits.{join_with_byte-slice_split, slice_split_none, slice_split_at, length-slice_split}
use Rattle.std.proofs.lemmas.Str.{IsUtf8-from_is_utf8, is_utf8-from_IsUtf8}
use Rattle.percent_encoding.specs.Percent.{percent_decode}
use Rattle.session_script.specs.Words.{is_empty, text_of, unescaped, name_of, names_of, path_of}
use Rattle.session_script.specs.ScriptText.{Lacks, SpellsText, SpellsName, SpellsNames, SpellsPath, IsJoined}
use Rattle.session_script.proofs.NumberLaws.{some_if}

-- a piece without the byte has no element that is it
lacks : (byte : ℕ) (piece : List ℕ) → Lacks byte piece → AllByRecursion (λ b. eqb b byte ≡ false) piece
lacks byte [] h = tt
lacks byte (b ∷ piece) h = (ne_eqb b byte h.0, lacks byte piece h.1)

-- pieces that were joined are cut again
pub split_joined : (byte : ℕ) (pieces : List (List ℕ)) → 0 < length pieces → AllByRecursion (Lacks byte) pieces → slice_split (λ b. eqb b byte) (join_with_byte byte pieces) ≡ pieces
split_joined byte [] some free = absurd (omega arith)
split_joined byte (piece ∷ []) some free = slice_split_none (λ b. eqb b byte) piece (All-from_recursion (λ b. eqb b byte ≡ false) piece (lacks byte piece free.0))
split_joined byte (piece ∷ next ∷ pieces) some free =
    slice_split_at (λ b. eqb b byte) piece byte (join_with_byte byte (next ∷ pieces)) (All-from_recursion (λ b. eqb b byte ≡ false) piece (lacks byte piece free.0)) (eq-eqb byte byte refl)
    ∙ ap (λ l. piece ∷ l) (split_joined byte (next ∷ pieces) (omega arith) free.1)

onto_free : (byte x : ℕ) (parts : List (List ℕ)) → x ≢ byte → AllByRecursion (Lacks byte) parts → AllByRecursion (Lacks byte) (onto_first x parts)
onto_free byte x [] ne h = ((ne, tt), tt)
onto_free byte x (part ∷ parts) ne h = ((ne, h.0), h.1)

-- the pieces of a cut don't have the byte
split_free : (byte : ℕ) (text : List ℕ) → AllByRecursion (Lacks byte) (slice_split (λ b. eqb b byte) text)
split_free byte [] = (tt, tt)
split_free byte (x ∷ text) = at (eqb x byte) (λ h e. ne_from h e) (split_free byte text)
  where
    ne_from : eqb x byte ≡ false → x ≢ byte
    ne_from h e = let t : eqb x byte ≡ true = eq-eqb x byte e in cc

    at : (b : Bool) → (b ≡ false → x ≢ byte) → AllByRecursion (Lacks byte) (slice_split (λ c. eqb c byte) text)
        → AllByRecursion (Lacks byte) (cond b ([] ∷ slice_split (λ c. eqb c byte) text) (onto_first x (slice_split (λ c. eqb c byte) text)))
    at true ne h = (tt, h)
    at false ne h = onto_free byte x (slice_split (λ c. eqb c byte) text) (ne refl) h

-- the pieces of a text that is cut at a byte make it again when joined by that byte
pub IsJoined-split : (byte : ℕ) (text : List ℕ) → IsJoined byte (slice_split (λ b. eqb b byte) text) text
IsJoined-split byte text = record { joined = sym (join_with_byte-slice_split byte text); free = split_free byte text }

-- where a condition would give nothing and something is given, it does not hold
pub none_unless : {A : Type 0} (b : Bool) (o : Option A) (y : A) → cond b None o ≡ Some y → (b ≡ false) × (o ≡ Some y)
none_unless true o y e = cc
none_unless false o y e = (refl, e)

-- a piece that is not found empty has a byte or more
pub not_empty : (piece : List ℕ) → is_empty piece ≡ false → 1 ≤ length piece
not_empty [] h = absurd (no_sides h)
  where
    no_sides : true ≡ false → ⊥
    no_sides e = cc
not_empty (b ∷ piece) h = omega arith

-- a piece with a byte or more is not found empty
pub empty_no : (piece : List ℕ) → 1 ≤ length piece → is_empty piece ≡ false
empty_no piece h = ne_eqb (length piece) 0 (λ e. omega arith)

-- a word that is read as a text spells it
pub text_found : (word text : List ℕ) → unescaped word ≡ Some text → SpellsText word text
text_found word text e =
    let outer = none_unless (is_empty word) (text_of (percent_decode word)) text e in
    let inner = some_if (is_utf8 (percent_decode word)) (percent_decode word) text outer.1 in record {
      some = not_empty word outer.0;
      decoded = inner.1;
      valid = subst IsUtf8 inner.1 (IsUtf8-from_is_utf8 (percent_decode word) inner.0);
    }

-- a word that spells a text is read as that text
pub text_only : (word text : List ℕ) → SpellsText word text → unescaped word ≡ Some text
text_only word text h =
    ap (λ b. cond b None (text_of (percent_decode word))) (empty_no word h.some) ∙ ap text_of h.decoded
    ∙ ap (λ b. cond b (Some text) None) (is_utf8-from_IsUtf8 text h.valid)

name_found : (piece name : List ℕ) → Lacks 47 piece → name_of piece ≡ Some name → SpellsName piece name
name_found piece name free e = record { no_slash = free; spelled = text_found piece name e }

name_only : (piece name : List ℕ) → SpellsName piece name → name_of piece ≡ Some name
name_only piece name h = text_only piece name h.spelled

-- names behind slashes, from the pieces between them
abbrev slashed : List (List ℕ) → List ℕ
slashed [] = []
slashed (piece ∷ pieces) = 47 ∷ (piece ++ slashed pieces)

slashed_joined : (piece : List ℕ) (pieces : List (List ℕ)) → 47 ∷ join_with_byte 47 (piece ∷ pieces) ≡ slashed (piece ∷ pieces)
slashed_joined piece [] = ap (λ l. 47 ∷ l) (sym (append-nil piece))
slashed_joined piece (next ∷ pieces) = ap (λ l. 47 ∷ (piece ++ l)) (slashed_joined next pieces)

pieces_found : (pieces names : List (List ℕ)) → AllByRecursion (Lacks 47) pieces → names_of pieces ≡ Some names → SpellsNames (slashed pieces) names
pieces_found [] [] free e = refl
pieces_found [] (name ∷ names) free e = cc
pieces_found (piece ∷ pieces) names free e = at (name_of piece) refl (names_of pieces) refl e (λ ns is. pieces_found pieces ns free.1 is)
  where
    at : (o : Option (List ℕ)) → name_of piece ≡ o → (os : Option (List (List ℕ))) → names_of pieces ≡ os
        → option_and_then (λ name. option_map (λ ns. name ∷ ns) os) o ≡ Some names
        → ((ns : List (List ℕ)) → names_of pieces ≡ Some ns → SpellsNames (slashed pieces) ns) → SpellsNames (slashed (piece ∷ pieces)) names
    at None is os are h more = cc
    at (Some name) is None are h more = cc
    at (Some name) is (Some ns) are h more =
        let same : name ∷ ns ≡ names = cc in
        subst (SpellsNames (slashed (piece ∷ pieces))) same (piece, slashed pieces, refl, name_found piece name free.0 is, more ns are)

-- the pieces that names are spelled by
pub record PiecesOf (word : List ℕ) (names : List (List ℕ)) : Type 0 where
  pub pieces : List (List ℕ)
  pub slashed_is : word ≡ slashed pieces
  pub free : AllByRecursion (Lacks 47) pieces
  pub named : names_of pieces ≡ Some names
  pub count : length pieces ≡ length names

pieces_only : (word : List ℕ) (names : List (List ℕ)) → SpellsNames word names → PiecesOf word names
pieces_only word [] h = record { pieces = []; slashed_is = h; free = tt; named = refl; count = refl }
pieces_only word (name ∷ names) h =
    let more = pieces_only h.1 names h.4 in record {
      pieces = h.0 ∷ more.pieces;
      slashed_is = h.2 ∙ ap (λ l. 47 ∷ (h.0 ++ l)) more.slashed_is;
      free = (h.3.no_slash, more.free);
      named = ap (option_and_then (λ n. option_map (λ ns. n ∷ ns) (names_of more.pieces))) (name_only h.0 name h.3) ∙ ap (option_map (λ ns. name ∷ ns)) more.named;
      count = ap suc more.count;
    }

behind_slash : (parts path : List (List ℕ)) (rest : List ℕ) → 0 < length parts → join_with_byte 47 parts ≡ rest → AllByRecursion (Lacks 47) parts → names_of parts ≡ Some path → SpellsPath (47 ∷ rest) path
behind_slash [] path rest some joined free named = absurd (omega arith)
behind_slash (piece ∷ pieces) [] rest some joined free named =
    let none : slashed (piece ∷ pieces) ≡ [] = pieces_found (piece ∷ pieces) [] free named in cc
behind_slash (piece ∷ pieces) (name ∷ names) rest some joined free named =
    let P : List ℕ → Type 0 = λ w. SpellsNames w (name ∷ names) in
    subst P (sym (slashed_joined piece pieces) ∙ ap (λ r. 47 ∷ r) joined) (pieces_found (piece ∷ pieces) (name ∷ names) free named)

-- a word that is read as a path spells it
pub path_found : (word : List ℕ) (path : List (List ℕ)) → path_of word ≡ Some path → SpellsPath word path
path_found [] path e = cc
path_found (c ∷ rest) path e = outer (eqb c 47) refl e
  where
    root : c ≡ 47 → is_empty rest ≡ true → [] ≡ path → SpellsPath (c ∷ rest) path
    root is none same =
        let empty : rest ≡ [] = nil_from_length rest (eqb-true (length rest) 0 none) in
        let P : List (List ℕ) → Type 0 = SpellsPath (c ∷ rest) in
        let word : c ∷ rest ≡ 47 ∷ [] = cc in subst P same word

    below : c ≡ 47 → names_of (slice_split (λ b. eqb b 47) rest) ≡ Some path → SpellsPath (c ∷ rest) path
    below is named =
        let P : ℕ → Type 0 = λ d. SpellsPath (d ∷ rest) path in
        subst P (sym is)
        (behind_slash (slice_split (λ b. eqb b 47) rest) path rest (omega (arith, length-slice_split (λ b. eqb b 47) rest)) (join_with_byte-slice_split 47 rest) (split_free 47 rest) named)

    inner : c ≡ 47 → (b : Bool) → is_empty rest ≡ b → cond b (Some []) (names_of (slice_split (λ x. eqb x 47) rest)) ≡ Some path → SpellsPath (c ∷ rest) path
    inner is true none h = root is none cc
    inner is false none h = below is h

    outer : (b : Bool) → eqb c 47 ≡ b → cond b (cond (is_empty rest) (Some []) (names_of (slice_split (λ x. eqb x 47) rest))) None ≡ Some path → SpellsPath (c ∷ rest) path
    outer true is h = inner (eqb-true c 47 is) (is_empty rest) refl h
    outer false is h = cc

-- a word that spells a path is read as that path
pub path_only : (word : List ℕ) (path : List (List ℕ)) → SpellsPath word path → path_of word ≡ Some path
path_only word [] h = ap path_of h
path_only word (name ∷ names) h =
    let cut = pieces_only word (name ∷ names) h in
    let some : 0 < length cut.pieces = omega (arith, cut.count) in
    let rest : List ℕ = h.0 ++ h.1 in
    let full : is_empty rest ≡ false = empty_no rest (omega (arith, h.3.spelled.some, length-append h.0 h.1)) in
    ap path_of h.2 ∙ ap (λ b. cond b (Some []) (names_of (slice_split (λ x. eqb x 47) rest))) full
    ∙ ap names_of (ap (slice_split (λ x. eqb x 47)) (joined_is cut.pieces rest some (sym h.2 ∙ cut.slashed_is)) ∙ split_joined 47 cut.pieces some cut.free) ∙ cut.named
  where
    joined_is : (pieces : List (List ℕ)) (rest : List ℕ) → 0 < length pieces → 47 ∷ rest ≡ slashed pieces → rest ≡ join_with_byte 47 pieces
    joined_is [] rest some e = absurd (omega arith)
    joined_is (piece ∷ pieces) rest some e = let both : 47 ∷ rest ≡ 47 ∷ join_with_byte 47 (piece ∷ pieces) = e ∙ sym (slashed_joined piece pieces) in cc
