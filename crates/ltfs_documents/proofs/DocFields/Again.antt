-- What stands at a place is read there.
use Rattle.std.proofs.Common.{◌≡◌, ℕ, suc, ◌+◌, ◌-◌, ◌<◌, Bool, true, false, eqb, ◌&&◌, List, [], ◌∷◌, ◌++◌, length, get_or, drop, Ok, refl, sym, ap, ◌∙◌, add-zero, arith, length-drop}
use Rattle.std.proofs.lemmas.Bool.Decides.{nat_tests}
use Rattle.std.proofs.lemmas.List.{drop_at, take_at, drop-drop, get_or-drop}
use Rattle.std.proofs.lemmas.Bool.{and_parts}
use Rattle.ltfs_documents.specs.DocFields.Space.{is_space, run_end, space_end}
use Rattle.ltfs_documents.specs.DocFields.Reading.{byte, between, one_at, literal_at}

-- where a text goes on with a byte, that byte is read
pub byte_is : (text : List ℕ) (at b : ℕ) (rest : List ℕ) → drop at text ≡ b ∷ rest → byte text at ≡ b
byte_is text at b rest e = let h : get_or (drop at text) 0 0 ≡ b = rw e refl in let g : get_or text (at + 0) 0 ≡ b = sym (get_or-drop at text 0 0) ∙ h in rw (add-zero at) at g

-- behind what stands at a place stands the rest
pub next_is : (text : List ℕ) (at : ℕ) (s rest : List ℕ) → drop at text ≡ s ++ rest → drop (at + length s) text ≡ rest
next_is text at s rest e = sym (drop-drop (length s) at text) ∙ ap (drop (length s)) e ∙ drop_at s rest (length s) refl

-- a place where a byte stands is within the text
pub within : (text : List ℕ) (at b : ℕ) (rest : List ℕ) → drop at text ≡ b ∷ rest → at < length text
within text at b rest e =
    let h : length (drop at text) ≡ suc (length rest) = rw e refl in
    let g = length-drop at text in
    omega arith

-- what stands from a place on, for its length, is read as it is
pub between_again : (text : List ℕ) (at : ℕ) (s rest : List ℕ) → drop at text ≡ s ++ rest → between text at (at + length s) ≡ s
between_again text at s rest e =
    let count : at + length s - at ≡ length s = omega arith in
    rw (count, e) (take_at s rest (length s) refl)

-- one byte that must stand at a place is read where it stands
pub one_again : (text : List ℕ) (at b : ℕ) (rest : List ℕ) → drop at text ≡ b ∷ rest → one_at b text at ≡ Ok (at + 1)
one_again text at b rest e =
    let test : eqb (get_or text at 0) b ≡ true = let h = byte_is text at b rest e in grind (arith, nat_tests) in
    rw test refl

-- bytes that must stand at a place are read where they stand
pub literal_again : (w text : List ℕ) (at : ℕ) (rest : List ℕ) → drop at text ≡ w ++ rest → literal_at w text at ≡ Ok (at + length w)
literal_again [] text at rest e = rw (add-zero at) refl
literal_again (b ∷ w) text at rest e =
    let test : eqb (get_or text at 0) b ≡ true = let h = byte_is text at b (w ++ rest) e in grind (arith, nat_tests) in
    let there : at + 1 + length w ≡ at + suc (length w) = omega arith in
    rw test (literal_again w text (at + 1) rest (next_is text at (b ∷ []) (w ++ rest) e) ∙ rw there refl)

-- whether each byte passes a test
abbrev pub all_pass : (ℕ → Bool) → List ℕ → Bool
all_pass p [] = true
all_pass p (b ∷ s) = p b && all_pass p s

-- a run ends behind bytes that pass, if the next one does not
pub run_again : (p : ℕ → Bool) (s : List ℕ) (c : ℕ) (rest : List ℕ) (at : ℕ) → all_pass p s ≡ true → p c ≡ false → run_end p at (s ++ c ∷ rest) ≡ at + length s
run_again p [] c rest at a stop = rw (stop, add-zero at) refl
run_again p (b ∷ s) c rest at a stop =
    let x = and_parts (p b) (all_pass p s) a in
    let there : at + 1 + length s ≡ at + suc (length s) = omega arith in
    rw x.0 (run_again p s c rest (at + 1) x.1 stop ∙ rw there refl)

-- no white space is passed where none stands
pub space_again : (text : List ℕ) (at b : ℕ) (rest : List ℕ) → drop at text ≡ b ∷ rest → is_space b ≡ false → space_end text at ≡ at
unfolding space_end
space_again text at b rest e stop = rw (e, stop) refl

-- one space in front of something else is passed, and no more
pub space_before : (text : List ℕ) (at b : ℕ) (rest : List ℕ) → drop at text ≡ 32 ∷ b ∷ rest → is_space b ≡ false → space_end text at ≡ at + 1
unfolding space_end
space_before text at b rest e stop = rw (e, stop) refl
