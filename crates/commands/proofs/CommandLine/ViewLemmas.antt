-- What the words of `view` ask for.
use Rattle.std.proofs.Common.{◌≡◌, ◌∙◌, ℕ, Bool, true, false, List, drop, Option, Some, None, Err, String, codes, refl, sym, ap, subst}
use Rattle.std.specs.Global.{Global}
use Rattle.clap.specs.Words.{App, Text, first_value, found_of, matches_of, rows_of}
use Rattle.clap.specs.declared.parser.matches.ArgMatches.{ArgMatches}
use Rattle.plain_tree.specs.Paths.{Path}
use Rattle.commands.specs.CommandLine.Forms.{IsViewWords}
use Rattle.commands.specs.CommandLine.Options.{IsReadTo, Takes, is_given, value_of}
use Rattle.commands.specs.CommandLine.Views.{IsViewForm, IsViewRead, asked_of, generation_told, path_told, view_app}
use Rattle.commands.specs.declared.command_line.forms.WordsErr.{WordsErr}
use Rattle.commands.specs.declared.command_line.forms.WordsErr.TheVariants as errors
use Rattle.commands.specs.declared.command_line.views.ViewWords.{ViewWords}
use Rattle.commands.proofs.CommandLine.FormLemmas.{value_found}

module _ (app : App) (words : List Text) (found : ArgMatches) (same : app ≡ view_app) (is : Takes app words × (rows_of (found_of found) ≡ matches_of app words)) where
  found_value : (name : Text) → first_value (found_of found) name ≡ value_of view_app name words
  found_value name = value_found app view_app words found same is.1 name

  -- where both are told
  pub view_form : (number text flag : Option Text) (generation : ℕ) (path : Option Path) (all : Bool) → number ≡ first_value (found_of found) (codes "generation")
      → generation_told number ≡ Some generation → text ≡ first_value (found_of found) (codes "read") → path_told text ≡ Some path
      → flag ≡ first_value (found_of found) (codes "all") → all ≡ is_given flag → IsViewRead words (asked_of generation path all)
  view_form number text flag generation path all numbered told given path_is flagged all_is =
      by path all
      (ap generation_told (sym (numbered ∙ found_value (codes "generation"))) ∙ told)
      (ap path_told (sym (given ∙ found_value (codes "read"))) ∙ path_is)
      (ap is_given (sym (flagged ∙ found_value (codes "all"))) ∙ sym all_is)
    where
      by : (path : Option Path) (all : Bool) → generation_told (value_of view_app (codes "generation") words) ≡ Some generation
          → path_told (value_of view_app (codes "read") words) ≡ Some path → is_given (value_of view_app (codes "all") words) ≡ all → IsViewRead words (asked_of generation path all)
      by path false number file all =
          record { takes = subst (λ (a : App). Takes a words) same is.0; generation = number; path = file; all = all; apart = λ yes. cc yes }
      by None true number file all =
          record { takes = subst (λ (a : App). Takes a words) same is.0; generation = number; path = file; all = all; apart = λ yes. refl }
      by (Some path) true number file all = λ asked form.
          let none : asked.path ≡ None = form.apart (sym form.all ∙ all) in
          let both : Some (Some path) ≡ Some None = sym file ∙ form.path ∙ ap Some none in cc both

  -- where no generation is told
  pub view_unnumbered : (number : Option Text) → number ≡ first_value (found_of found) (codes "generation") → generation_told number ≡ None
      → (asked : ViewWords) → ¬ (IsViewForm words asked)
  view_unnumbered number numbered none asked form =
      let both : None ≡ Some asked.generation = sym none ∙ ap generation_told (numbered ∙ found_value (codes "generation")) ∙ form.generation in cc both

  -- where the text is no path
  pub view_unread : (text : Option Text) (e : WordsErr) → text ≡ first_value (found_of found) (codes "read") → IsReadTo (path_told text) (Err e) → IsViewRead words (Err e)
  view_unread text errors.Form given none = λ asked form.
      let both : None ≡ Some asked.path = sym none ∙ ap path_told (given ∙ found_value (codes "read")) ∙ form.path in cc both
  view_unread text errors.NoMemory given none = tt

-- words ask for one view
pub one_view : (words : List (String Global)) (one other : ViewWords) → IsViewWords words one → IsViewWords words other → one ≡ other
one_view words one other (folder, more, is, form) (dir, rest, are, again) =
    let same : rest ≡ more = ap (drop 2) (sym are ∙ is) in
    let moved : IsViewForm more other = subst (λ w. IsViewForm w other) same again in
    let generations : Some one.generation ≡ Some other.generation = sym form.generation ∙ moved.generation in
    let paths : Some one.path ≡ Some other.path = sym form.path ∙ moved.path in
    let generation : one.generation ≡ other.generation = cc generations in
    let path : one.path ≡ other.path = cc paths in
    let all : one.all ≡ other.all = sym form.all ∙ moved.all in
    λ i. record { generation = generation i; path = path i; all = all i }
