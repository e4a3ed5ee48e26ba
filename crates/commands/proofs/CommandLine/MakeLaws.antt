-- The plain forms of `make`.
use Rattle.std.proofs.Common.{◌≡◌, ◌≤◌, ◌==◌, ℕ, false, List, [], ◌∷◌, ◌++◌, Option, Some, None, codes, refl, sym, subst, arith}
use Rattle.std.specs.Prelude.{◌&&◌, nat_le, if◌then◌else◌, option_and_then}
use Rattle.std.proofs.lemmas.Bool.Decides.{nat_tests}
use Rattle.clap.specs.Words.{Text}
use Rattle.clap.specs.Simple.{built, names_of}
use Rattle.clap.specs.Walk.{Walk, nothing_held, plain_word, walk_from, walked, word_met}
use Rattle.clap.proofs.OnLiterals.{clap_on_literals}
use Rattle.session_script.specs.Bounds.{most_calls}
use Rattle.session_script.specs.ScriptText.{SpellsNumber}
use Rattle.session_script.specs.Words.{number_of}
use Rattle.session_script.proofs.NumberLaws.{number_found}
use Rattle.tape_types.specs.Times.{time_text}
use Rattle.tape_types.specs.declared.moments.Moment.{Moment}
use Rattle.tape_edge.specs.Clocks.{IsSince1970}
use Rattle.commands.specs.CommandLine.Forms.{IsMakeForm, count_told, make_app}
use Rattle.commands.specs.CommandLine.Options.{IsMomentGiven, Takes, value_of}
use Rattle.commands.proofs.CommandLine.LawLemmas.{first_digit, not_dashes, not_long, not_short}

-- the text has a first byte, which is no dash
pub record HasNoDash (text : Text) : Type 0 where
  pub first : ℕ
  pub rest : List ℕ
  pub is : text ≡ first ∷ rest
  pub no_dash : (first == 45) ≡ false

time_has_none : (at : Moment) → HasNoDash (time_text at)
time_has_none at = let found = first_digit at in record { first = found.0; rest = found.1; is = found.2; no_dash = found.3 }

number_has_none : (word : Text) (n : ℕ) → SpellsNumber word n → HasNoDash word
number_has_none [] n h = let some : 1 ≤ 0 = h.some in absurd (omega (arith, some))
number_has_none (b ∷ rest) n h = let low : 48 ≤ b = h.digits.0.0 in record { first = b; rest = rest; is = refl; no_dash = grind (arith, nat_tests) }

count_has_none : (word : Text) (count : ℕ) → count_told (Some word) ≡ Some count → HasNoDash word
count_has_none word count told = at (number_of word) refl told
  where
    at : (o : Option ℕ) → number_of word ≡ o → option_and_then (λ n. if nat_le 1 n && nat_le n most_calls then Some n else None) o ≡ Some count → HasNoDash word
    at None is h = cc
    at (Some n) is h = number_has_none word n (number_found word n is)

-- a number that begins with no dash
module _ (b : ℕ) (rest : List ℕ) (e : (b == 45) ≡ false) where
  abbrev number : Text
  number = b ∷ rest

  takes_number : Takes make_app (number ∷ [])
  unfolding clap_on_literals
  takes_number = rw (not_dashes b rest e, not_long b rest e, not_short b rest e) refl

  number_alone : value_of make_app (codes "count") (number ∷ []) ≡ Some number
  unfolding clap_on_literals
  number_alone = rw (not_dashes b rest e, not_long b rest e, not_short b rest e) refl

  no_moment : value_of make_app (codes "at") (number ∷ []) ≡ None
  unfolding clap_on_literals
  no_moment = rw (not_dashes b rest e, not_long b rest e, not_short b rest e) refl

  takes_joined : (text : Text) → Takes make_app (number ∷ (codes "--at=" ++ text) ∷ [])
  unfolding clap_on_literals
  takes_joined text = rw (not_dashes b rest e, not_long b rest e, not_short b rest e) refl

  number_joined : (text : Text) → value_of make_app (codes "count") (number ∷ (codes "--at=" ++ text) ∷ []) ≡ Some number
  unfolding clap_on_literals
  number_joined text = rw (not_dashes b rest e, not_long b rest e, not_short b rest e) refl

  moment_joined : (text : Text) → value_of make_app (codes "at") (number ∷ (codes "--at=" ++ text) ∷ []) ≡ Some text
  unfolding clap_on_literals
  moment_joined text = rw (not_dashes b rest e, not_long b rest e, not_short b rest e) refl

-- behind the name of the option
abbrev waits_for : Walk
waits_for = walked (built make_app).top.rules (names_of (built make_app)) (walk_from nothing_held) (codes "--at")

-- the word that stands there is its value
is_value : (b : ℕ) (rest : List ℕ) → (b == 45) ≡ false
    → word_met (built make_app).top.rules (names_of (built make_app)) waits_for.is_trailing waits_for.waiting waits_for.position (b ∷ rest) waits_for.held
    ≡ plain_word (built make_app).top.rules waits_for.waiting (b ∷ rest) waits_for.held
unfolding clap_on_literals
is_value b rest e = rw (not_dashes b rest e, not_long b rest e, not_short b rest e) refl

-- a moment in front of the number
module _ (d : ℕ) (more : List ℕ) (f : (d == 45) ≡ false) (b : ℕ) (rest : List ℕ) (e : (b == 45) ≡ false) where
  abbrev apart : List Text
  apart = codes "--at" ∷ (d ∷ more) ∷ (b ∷ rest) ∷ []

  takes_apart : Takes make_app apart
  unfolding clap_on_literals
  takes_apart = rw (is_value d more f, not_dashes d more f, not_long d more f, not_short d more f, not_dashes b rest e, not_long b rest e, not_short b rest e) refl

  number_apart : value_of make_app (codes "count") apart ≡ Some (b ∷ rest)
  unfolding clap_on_literals
  number_apart = rw (is_value d more f, not_dashes b rest e, not_long b rest e, not_short b rest e) refl

  moment_apart : value_of make_app (codes "at") apart ≡ Some (d ∷ more)
  unfolding clap_on_literals
  moment_apart = rw (is_value d more f, not_dashes b rest e, not_long b rest e, not_short b rest e) refl

module _ (word : Text) (count : ℕ) (told : count_told (Some word) ≡ Some count) where
  -- a count alone is a form of `make`
  pub make_alone : IsMakeForm (word ∷ []) count None
  make_alone = let h = count_has_none word count told in go h.first h.rest h.is h.no_dash
    where
      go : (b : ℕ) (rest : List ℕ) → word ≡ b ∷ rest → (b == 45) ≡ false → IsMakeForm (word ∷ []) count None
      go b rest is e = subst (λ t. IsMakeForm (t ∷ []) count None) (sym is) (record {
        takes = takes_number b rest e;
        counted = subst (λ o. count_told o ≡ Some count) (sym (number_alone b rest e)) (subst (λ t. count_told (Some t) ≡ Some count) is told);
        moment = subst (λ o. IsMomentGiven o None) (sym (no_moment b rest e)) tt;
      })

  -- a count, and `--at=` with a moment in the same word, are a form of `make`
  pub make_joined : (at : Moment) → IsSince1970 at → IsMakeForm (word ∷ (codes "--at=" ++ time_text at) ∷ []) count (Some at)
  make_joined at since = let h = count_has_none word count told in go h.first h.rest h.is h.no_dash
    where
      go : (b : ℕ) (rest : List ℕ) → word ≡ b ∷ rest → (b == 45) ≡ false → IsMakeForm (word ∷ (codes "--at=" ++ time_text at) ∷ []) count (Some at)
      go b rest is e = subst (λ t. IsMakeForm (t ∷ (codes "--at=" ++ time_text at) ∷ []) count (Some at)) (sym is) (record {
        takes = takes_joined b rest e (time_text at);
        counted = subst (λ o. count_told o ≡ Some count) (sym (number_joined b rest e (time_text at))) (subst (λ t. count_told (Some t) ≡ Some count) is told);
        moment = subst (λ o. IsMomentGiven o (Some at)) (sym (moment_joined b rest e (time_text at))) (refl, since);
      })

  -- `--at`, a moment in the next word, and a count are a form of `make`
  pub make_apart : (at : Moment) → IsSince1970 at → IsMakeForm (codes "--at" ∷ time_text at ∷ word ∷ []) count (Some at)
  make_apart at since = let h = count_has_none word count told in let g = time_has_none at in go g.first g.rest g.is g.no_dash h.first h.rest h.is h.no_dash
    where
      go : (d : ℕ) (more : List ℕ) → time_text at ≡ d ∷ more → (d == 45) ≡ false → (b : ℕ) (rest : List ℕ) → word ≡ b ∷ rest → (b == 45) ≡ false
          → IsMakeForm (codes "--at" ∷ time_text at ∷ word ∷ []) count (Some at)
      go d more are f b rest is e = subst (λ t. IsMakeForm (codes "--at" ∷ time_text at ∷ t ∷ []) count (Some at)) (sym is) (subst (λ m. IsMakeForm (codes "--at" ∷ m ∷ (b ∷ rest) ∷ []) count (Some at)) (sym are) (record {
        takes = takes_apart d more f b rest e;
        counted = subst (λ o. count_told o ≡ Some count) (sym (number_apart d more f b rest e)) (subst (λ t. count_told (Some t) ≡ Some count) is told);
        moment = subst (λ o. IsMomentGiven o (Some at)) (sym (moment_apart d more f b rest e)) (subst (λ m. IsMomentGiven (Some m) (Some at)) are (refl, since));
      }))
