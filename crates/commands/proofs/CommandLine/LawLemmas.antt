-- Words that are of a form.
use Rattle.std.proofs.Common.{◌≡◌, ℕ, false, ◌==◌, List, [], ◌∷◌, ◌++◌, Some, None, codes, refl, sym, subst, arith}
use Rattle.clap.specs.Words.{App, Text}
use Rattle.std.specs.Str.{bytes_eq}
use Rattle.clap.specs.Lexer.{long_of, short_of, strip_byte}
use Rattle.clap.specs.Simple.{built, names_of}
use Rattle.clap.specs.Walk.{Walk, nothing_held, plain_word, walk_from, walked, word_met}
use Rattle.clap.proofs.OnLiterals.{clap_on_literals}
use Rattle.std.proofs.lemmas.Bool.Decides.{nat_tests}
use Rattle.tape_types.specs.Times.{civil_text, time_text}
use Rattle.tape_types.specs.declared.moments.Moment.{Moment}
use Rattle.tape_edge.specs.Clocks.{IsSince1970}
use Rattle.commands.specs.CommandLine.Forms.{IsMomentForm}
use Rattle.commands.specs.CommandLine.Options.{IsMomentGiven, Takes, bare, value_of, with_moment}

-- a word that begins with no dash is no long option
pub not_long : (b : ℕ) (rest : List ℕ) → (b == 45) ≡ false → long_of (b ∷ rest) ≡ None
not_long b rest e = rw (e, strip_byte) refl

-- a word that begins with no dash is no short option
pub not_short : (b : ℕ) (rest : List ℕ) → (b == 45) ≡ false → short_of (b ∷ rest) ≡ None
not_short b rest e = rw (e, strip_byte) refl

-- a word that begins with no dash isn't the two dashes alone
pub not_dashes : (b : ℕ) (rest : List ℕ) → (b == 45) ≡ false → bytes_eq (b ∷ rest) (45 ∷ 45 ∷ []) ≡ false
not_dashes b rest e = rw e refl

-- a time text begins with a digit
pub first_digit : (at : Moment) → (b : ℕ) × (rest : List ℕ) × (time_text at ≡ b ∷ rest) × ((b == 45) ≡ false)
unfolding time_text civil_text
first_digit at = (_, _, refl, grind (arith, nat_tests))

-- a command without arguments takes no words
pub takes_bare : (name : Text) → Takes (bare name) []
unfolding clap_on_literals
takes_bare name = refl

-- a command of any name that has no option but `--at`
module _ (name : Text) where
  abbrev app : App
  app = with_moment (bare name)

  takes_none : Takes app []
  unfolding clap_on_literals
  takes_none = refl

  none_given : value_of app (codes "at") [] ≡ None
  unfolding clap_on_literals
  none_given = refl

  -- behind the name of the option
  abbrev waits_for : Walk
  waits_for = walked (built app).top.rules (names_of (built app)) (walk_from nothing_held) (codes "--at")

  -- the word that stands there is its value
  is_value : (b : ℕ) (rest : List ℕ) → (b == 45) ≡ false
      → word_met (built app).top.rules (names_of (built app)) waits_for.is_trailing waits_for.waiting waits_for.position (b ∷ rest) waits_for.held
      ≡ plain_word (built app).top.rules waits_for.waiting (b ∷ rest) waits_for.held
  unfolding clap_on_literals
  is_value b rest e = rw (not_dashes b rest e, not_long b rest e, not_short b rest e) refl

  takes_apart : (b : ℕ) (rest : List ℕ) → (b == 45) ≡ false → Takes app (codes "--at" ∷ (b ∷ rest) ∷ [])
  unfolding clap_on_literals
  takes_apart b rest e = rw (is_value b rest e, not_dashes b rest e, not_long b rest e, not_short b rest e) refl

  given_apart : (b : ℕ) (rest : List ℕ) → (b == 45) ≡ false → value_of app (codes "at") (codes "--at" ∷ (b ∷ rest) ∷ []) ≡ Some (b ∷ rest)
  unfolding clap_on_literals
  given_apart b rest e = rw (is_value b rest e) refl

  takes_joined : (text : Text) → Takes app ((codes "--at=" ++ text) ∷ [])
  unfolding clap_on_literals
  takes_joined text = refl

  given_joined : (text : Text) → value_of app (codes "at") ((codes "--at=" ++ text) ∷ []) ≡ Some text
  unfolding clap_on_literals
  given_joined text = refl

  -- no words at all are the form without a moment
  pub none_is_form : IsMomentForm name [] None
  none_is_form = record { takes = takes_none; moment = subst (λ t. IsMomentGiven t None) (sym none_given) tt }

  -- `--at=` with a moment behind it in the same word gives that moment
  pub joined_is_form : (at : Moment) → IsSince1970 at → IsMomentForm name ((codes "--at=" ++ time_text at) ∷ []) (Some at)
  joined_is_form at since = record { takes = takes_joined (time_text at); moment = subst (λ t. IsMomentGiven t (Some at)) (sym (given_joined (time_text at))) (refl, since) }

  -- `--at` and a moment in the next word give that moment
  pub apart_is_form : (at : Moment) → IsSince1970 at → IsMomentForm name (codes "--at" ∷ time_text at ∷ []) (Some at)
  apart_is_form at since =
      let found = first_digit at in
      let text : time_text at ≡ found.0 ∷ found.1 = found.2 in record {
        takes = subst (λ t. Takes app (codes "--at" ∷ t ∷ [])) (sym text) (takes_apart found.0 found.1 found.3);
        moment = subst (λ t. IsMomentGiven t (Some at)) (sym (subst (λ t. value_of app (codes "at") (codes "--at" ∷ t ∷ []) ≡ Some t) (sym text) (given_apart found.0 found.1 found.3))) (refl, since);
      }
