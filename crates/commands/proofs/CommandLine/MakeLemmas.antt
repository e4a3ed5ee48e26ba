-- The count and the moment that the words of `make` ask for.
use Rattle.std.proofs.Common.{◌≡◌, ◌∙◌, ℕ, List, Option, Some, None, Err, codes, sym, ap, subst}
use Rattle.clap.specs.Words.{App, Text, first_value, found_of, matches_of, rows_of}
use Rattle.clap.specs.declared.parser.matches.ArgMatches.{ArgMatches}
use Rattle.tape_types.specs.declared.moments.Moment.{Moment}
use Rattle.commands.specs.CommandLine.Forms.{IsMakeForm, IsMakeRead, count_told, make_app}
use Rattle.commands.specs.CommandLine.Options.{IsMomentGiven, IsMomentRead, Takes, value_of}
use Rattle.commands.specs.declared.command_line.forms.WordsErr.{WordsErr}
use Rattle.commands.specs.declared.command_line.forms.WordsErr.TheVariants as errors
use Rattle.commands.proofs.CommandLine.FormLemmas.{value_found}

module _ (app : App) (words : List Text) (found : ArgMatches) (same : app ≡ make_app) (is : Takes app words × (rows_of (found_of found) ≡ matches_of app words)) where
  found_value : (name : Text) → first_value (found_of found) name ≡ value_of make_app name words
  found_value name = value_found app make_app words found same is.1 name

  -- where both are told
  pub make_form : (number text : Option Text) (count : ℕ) (at : Option Moment) → number ≡ first_value (found_of found) (codes "count") → count_told number ≡ Some count
      → text ≡ first_value (found_of found) (codes "at") → IsMomentGiven text at → IsMakeForm words count at
  make_form number text count at numbered told timed given = record {
    takes = subst (λ (a : App). Takes a words) same is.0;
    counted = ap count_told (sym (numbered ∙ found_value (codes "count"))) ∙ told;
    moment = subst (λ (t : Option Text). IsMomentGiven t at) (timed ∙ found_value (codes "at")) given;
  }

  -- where no count is told
  pub make_uncounted : (number : Option Text) → number ≡ first_value (found_of found) (codes "count") → count_told number ≡ None
      → (count : ℕ) (at : Option Moment) → ¬ (IsMakeForm words count at)
  make_uncounted number numbered none count at form =
      let both : None ≡ Some count = sym none ∙ ap count_told (numbered ∙ found_value (codes "count")) ∙ form.counted in cc both

  -- where no moment is read
  pub make_untimed : (text : Option Text) (e : WordsErr) → text ≡ first_value (found_of found) (codes "at") → IsMomentRead text (Err e) → IsMakeRead words (Err e)
  make_untimed text errors.Form timed none = λ count at form. none at
      (subst (λ (t : Option Text). IsMomentGiven t at) (sym (timed ∙ found_value (codes "at"))) form.moment)
  make_untimed text errors.NoMemory timed none = tt
