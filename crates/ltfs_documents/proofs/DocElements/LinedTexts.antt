-- Texts of bare bytes and carriage returns: what is read of them differs from what stands there in white space alone.
use Rattle.std.proofs.Common.{◌≡◌, ◌⊎◌, ◌∙◌, ℕ, zero, suc, ◌+◌, ◌<◌, ◌≤◌, eqb, Bool, true, false, not, cond, ◌==◌, List, [], ◌∷◌, ◌++◌, Ok, length, get_or, IsUtf8, refl, sym, ap, inl, inr, arith}
use Rattle.std.specs.Char.{encode_utf8}
use Rattle.std.specs.List.{list_all}
use Rattle.std.specs.Str.{chars, encode_utf8_all}
use Rattle.std.proofs.lemmas.Bool.Decides.{nat_tests}
use Rattle.std.proofs.lemmas.Str.{IsUtf8-from_ascii, chars-IsAscii, encode_ascii}
use Rattle.std.proofs.lemmas.Bool.{and_parts}
use Rattle.ltfs_documents.specs.DocFields.Reading.{Read, ◌>>=◌, between}
use Rattle.ltfs_documents.specs.DocFields.Space.{is_space}
use Rattle.ltfs_documents.specs.DocFields.Texts.{is_allowed, line_feeds, put_front, resolved, resolved_text, run_text, text_at}
use Rattle.ltfs_documents.proofs.DocFields.SimpleTexts.{run_whole}
use Rattle.ltfs_documents.specs.DocElements.Bare.{is_bare, is_lined}
use Rattle.ltfs_documents.specs.DocElements.Pieces.{without_space}
use Rattle.ltfs_documents.proofs.DocElements.BareTexts.{IsRunTo, run_to_end}

low : (b : ℕ) → is_lined b ≡ true → b < 128
low b e = grind (arith, nat_tests)

all_low : (bs : List ℕ) → list_all is_lined bs ≡ true → (i : ℕ) → get_or bs i 0 < 128
all_low [] e i = omega arith
all_low (b ∷ bs) e zero = low b (and_parts (is_lined b) (list_all is_lined bs) e).0
all_low (b ∷ bs) e (suc i) = all_low bs (and_parts (is_lined b) (list_all is_lined bs) e).1 i

one_byte : (c : ℕ) (cs read : List ℕ) → c < 128 → encode_utf8_all cs ≡ read → encode_utf8_all (c ∷ cs) ≡ c ∷ read
one_byte c cs read lt is = ap (λ (l : List ℕ). l ++ encode_utf8_all cs) (encode_ascii c lt) ∙ ap (λ (l : List ℕ). c ∷ l) is

spelled : (cs : List ℕ) → list_all is_lined cs ≡ true → encode_utf8_all cs ≡ cs
spelled [] e = refl
spelled (c ∷ cs) e = let p = and_parts (is_lined c) (list_all is_lined cs) e in one_byte c cs cs (low c p.0) (spelled cs p.1)

-- a character that stands for itself is read in front of the others
itself : (cut : Bool) (at c : ℕ) (rest read : List ℕ) → eqb c 38 ≡ false → eqb c 13 ≡ false → is_allowed c ≡ true
    → resolved cut 0 (at + length (encode_utf8 c)) rest ≡ Ok read → resolved cut 0 at (c ∷ rest) ≡ Ok (c ∷ read)
itself cut at c rest read no_reference no_return allowed behind = rw (allowed, no_reference, no_return) (ap (put_front c) behind)

-- a carriage return is read as a line feed, with the line feed behind it
returned : (cut : Bool) (at c : ℕ) (rest read : List ℕ) → eqb c 38 ≡ false → eqb c 13 ≡ true
    → resolved cut (line_feeds (encode_utf8_all rest)) (at + length (encode_utf8 c)) rest ≡ Ok read → resolved cut 0 at (c ∷ rest) ≡ Ok (10 ∷ read)
returned cut at c rest read no_reference return behind = rw (no_reference, return) (ap (put_front 10) behind)

-- what characters are read as
record IsReadAs (cut : Bool) (skip at : ℕ) (cs : List ℕ) : Type 0 where
  read : List ℕ
  told : resolved cut skip at cs ≡ Ok read
  spelled : encode_utf8_all read ≡ read
  symbols : without_space read ≡ without_space cs

-- a line feed is passed over behind a carriage return alone
skipped : (n d : ℕ) (rest : List ℕ) → (suc n ≡ 0) ⊎ (suc n ≡ line_feeds (d ∷ rest)) → (n ≡ 0) × (is_space d ≡ true)
skipped n d rest (inl none) = absurd (omega (arith, none))
skipped n d rest (inr is) = elim (eqb d 10) as (λ b. eqb d 10 ≡ b → (n ≡ 0) × (is_space d ≡ true)) [
  | true ↦ λ e. (grind (arith, nat_tests), grind (arith, nat_tests))
  | false ↦ λ e. absurd (grind (arith, nat_tests))
] refl

as_read : (cut : Bool) (skip at : ℕ) (cs : List ℕ) → list_all is_lined cs ≡ true → (skip ≡ 0) ⊎ (skip ≡ line_feeds cs) → IsReadAs cut skip at cs
as_read cut skip at [] e some = record { read = []; told = refl; spelled = refl; symbols = refl }
as_read cut (suc n) at (d ∷ rest) e some =
    let p = and_parts (is_lined d) (list_all is_lined rest) e in
    let s = skipped n d rest some in
    let more = as_read cut n (at + length (encode_utf8 d)) rest p.1 (inl s.0) in
    record {
      read = more.read;
      told = more.told;
      spelled = more.spelled;
      symbols = more.symbols ∙ sym (ap (λ b. cond (not b) (d ∷ without_space rest) (without_space rest)) s.1);
    }
as_read cut zero at (c ∷ rest) e some =
    let p = and_parts (is_lined c) (list_all is_lined rest) e in
    let next = at + length (encode_utf8 c) in
    elim (eqb c 13) as (λ b. eqb c 13 ≡ b → IsReadAs cut 0 at (c ∷ rest)) [
      | true ↦ λ is.
          let more = as_read cut (line_feeds rest) next rest p.1 (inr refl) in
          let other : eqb c 38 ≡ false = grind (arith, nat_tests) in
          let space : is_space c ≡ true = grind (arith, nat_tests) in
          let behind : resolved cut (line_feeds (encode_utf8_all rest)) next rest ≡ Ok more.read = ap (λ l. resolved cut (line_feeds l) next rest) (spelled rest p.1) ∙ more.told in
          record {
            read = 10 ∷ more.read;
            told = returned cut at c rest more.read other is behind;
            spelled = one_byte 10 more.read more.read (omega arith) more.spelled;
            symbols = more.symbols ∙ sym (ap (λ b. cond (not b) (c ∷ without_space rest) (without_space rest)) space);
          }
      | false ↦ λ is.
          let more = as_read cut 0 next rest p.1 (inl refl) in
          let lined = p.0 in
          let other : eqb c 38 ≡ false = grind (arith, nat_tests) in
          let allowed : is_allowed c ≡ true = grind (arith, nat_tests) in
          record {
            read = c ∷ more.read;
            told = itself cut at c rest more.read other is allowed more.told;
            spelled = one_byte c more.read more.read (low c p.0) more.spelled;
            symbols = ap (λ (l : List ℕ). cond (not (is_space c)) (c ∷ l) l) more.symbols;
          }
    ] refl

-- what is read of a text whose bytes up to its end are bare or carriage returns
pub lined_read : (text : List ℕ) (at i : ℕ) → IsRunTo is_lined text at i → i < length text → eqb (get_or text i 0) 60 ≡ true
    → (read : List ℕ) × (text_at text at ≡ Ok (read, i)) × (without_space read ≡ without_space (between text at i))
unfolding text_at resolved_text
lined_read text at i kept lt is =
    let run = between text at i in
    let valid : IsUtf8 run = IsUtf8-from_ascii run (all_low run kept.all) in
    let ended : Bool = i == length text in
    let end = run_to_end is_lined text at i kept lt is in
    let found = as_read ended 0 at run kept.all (inl refl) in
    let whole : run_text ended at run ≡ Ok found.read =
    run_whole ended at run valid
    ∙ ap (λ cs. resolved ended 0 at cs >>= λ cs. Ok (encode_utf8_all cs)) (chars-IsAscii run (all_low run kept.all))
    ∙ ap (λ (r : Read (List ℕ)). r >>= λ cs. Ok (encode_utf8_all cs)) found.told ∙ ap Ok found.spelled in (
      found.read,
      ap (λ k. run_text (k == length text) at (between text at k) >>= λ v. Ok (v, k)) end
          ∙ ap (λ (r : Read (List ℕ)). r >>= λ v. Ok (v, i)) whole,
      found.symbols,
    )
