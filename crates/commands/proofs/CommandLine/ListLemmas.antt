-- What the words of `list` ask for.
use Rattle.std.proofs.Common.{◌≡◌, ◌∙◌, Bool, true, false, List, [], ◌∷◌, Option, codes, refl, sym, ap, subst}
use Rattle.clap.specs.Words.{App, Text, first_value, found_of, matches_of, rows_of}
use Rattle.clap.specs.declared.parser.matches.ArgMatches.{ArgMatches}
use Rattle.clap.proofs.OnLiterals.{clap_on_literals}
use Rattle.commands.specs.CommandLine.Forms.{IsListForm, list_app}
use Rattle.commands.specs.CommandLine.Options.{Takes, is_given, value_of}
use Rattle.commands.proofs.CommandLine.FormLemmas.{value_found}

-- what was found tells whether `--all` is among the words
pub list_form : (app : App) (words : List Text) (found : ArgMatches) (text : Option Text) (all : Bool) → app ≡ list_app
    → Takes app words × (rows_of (found_of found) ≡ matches_of app words) → text ≡ first_value (found_of found) (codes "all") → all ≡ is_given text → IsListForm words all
list_form app words found text all same is given all_is = record {
  takes = subst (λ (a : App). Takes a words) same is.0;
  told = ap is_given (sym (given ∙ value_found app list_app words found same is.1 (codes "all"))) ∙ sym all_is;
}

-- no words at all
pub list_alone : IsListForm [] false
unfolding clap_on_literals
list_alone = record { takes = refl; told = refl }

-- `--all`
pub list_all : IsListForm (codes "--all" ∷ []) true
unfolding clap_on_literals
list_all = record { takes = refl; told = refl }
