-- The volume that words ask for.
use Rattle.std.proofs.Common.{◌≡◌, ◌∙◌, List, drop, Option, Some, None, Err, String, codes, sym, ap, subst}
use Rattle.std.specs.Global.{Global}
use Rattle.clap.specs.Words.{App, Text, first_value, found_of, matches_of, rows_of}
use Rattle.clap.specs.declared.parser.matches.ArgMatches.{ArgMatches}
use Rattle.format_volume.specs.Refusals.{spec_fault}
use Rattle.format_volume.specs.declared.requests.Field.{Field}
use Rattle.tape_types.specs.declared.moments.Moment.{Moment}
use Rattle.commands.specs.CommandLine.Forms.{IsFormatWords}
use Rattle.commands.specs.CommandLine.Options.{IsMomentGiven, Takes, value_of}
use Rattle.commands.specs.CommandLine.Volumes.{IsAskedBy, IsTold, IsVolumeForm, IsTimed, Given, block_told, format_app, given_by, given_in, identifier_told, name_told, policy_told, uuid_told}
use Rattle.commands.specs.declared.command_line.forms.WordsErr.{WordsErr}
use Rattle.commands.specs.declared.command_line.forms.WordsErr.TheVariants as errors
use Rattle.commands.specs.declared.command_line.volumes.FormatWords.{FormatWords}
use Rattle.tape_types.proofs.CivilLemmas.{same_moment}
use Rattle.commands.proofs.CommandLine.FormLemmas.{one_moment, value_found}

same_of : {A : Type 0} (told : Option A) (x y : A) → told ≡ Some x → told ≡ Some y → x ≡ y
same_of told x y one other = let both : Some x ≡ Some y = sym one ∙ other in cc both

one_time : (at : Option Moment) (m n : Moment) → IsTimed at m → IsTimed at n → m ≡ n
one_time (Some at) m n one other = one ∙ sym other
one_time None m n one other = same_moment m n (one.0 ∙ sym other.0) (one.1 ∙ sym other.1)

-- texts tell one volume
one_volume : (given : Given) (a b : FormatWords) → IsTold given a → IsTold given b → a ≡ b
one_volume given a b one other =
    let identifier : a.volume.volume ≡ b.volume.volume = same_of (identifier_told given.volume) a.volume.volume b.volume.volume one.identifier other.identifier in
    let uuid : a.volume.uuid ≡ b.volume.uuid = same_of (uuid_told given.uuid) a.volume.uuid b.volume.uuid one.uuid other.uuid in
    let name : a.volume.name ≡ b.volume.name = sym one.name ∙ other.name in
    let block : a.volume.block ≡ b.volume.block = same_of (block_told given.block) a.volume.block b.volume.block one.block other.block in
    let policy : a.volume.policy ≡ b.volume.policy = same_of (policy_told given.size given.names) a.volume.policy b.volume.policy one.policy other.policy in
    let at : a.at ≡ b.at = one_moment given.at a.at b.at one.at other.at in
    let made : a.volume.at ≡ b.volume.at = one_time b.at a.volume.at b.volume.at (subst (λ t. IsTimed t a.volume.at) at one.made) other.made in
    λ i. record {
      volume = record { volume = identifier i; uuid = uuid i; name = name i; block = block i; policy = policy i; at = made i };
      at = at i;
    }

-- what the same texts tell
told_alike : (f g : Text → Option Text) (asked : FormatWords) → ((name : Text) → f name ≡ g name) → IsTold (given_by f) asked → IsTold (given_by g) asked
told_alike f g asked same is = record {
  identifier = ap identifier_told (sym (same (codes "volid"))) ∙ is.identifier;
  uuid = ap uuid_told (sym (same (codes "uuid"))) ∙ is.uuid;
  block = ap block_told (sym (same (codes "block"))) ∙ is.block;
  name = ap name_told (sym (same (codes "name"))) ∙ is.name;
  policy = ap (λ size. policy_told size (g (codes "ip-names"))) (sym (same (codes "ip-size"))) ∙ ap (policy_told (f (codes "ip-size"))) (sym (same (codes "ip-names"))) ∙ is.policy;
  at = subst (λ text. IsMomentGiven text asked.at) (same (codes "at")) is.at;
  made = is.made;
}

module _ (app : App) (words : List Text) (found : ArgMatches) (same : app ≡ format_app) (is : Takes app words × (rows_of (found_of found) ≡ matches_of app words)) where
  found_value : (name : Text) → first_value (found_of found) name ≡ value_of format_app name words
  found_value name = value_found app format_app words found same is.1 name

  -- what was found tells the volume that the words ask for
  pub volume_form : (asked : FormatWords) → IsTold (given_by (first_value (found_of found))) asked
      → spec_fault asked.volume ≡ None → IsVolumeForm words asked
  volume_form asked told fine = record {
    takes = subst (λ (a : App). Takes a words) same is.0;
    told = told_alike (first_value (found_of found)) (λ name. value_of format_app name words) asked found_value told;
    fine = fine;
  }

  form_told : (asked : FormatWords) → IsVolumeForm words asked → IsTold (given_by (first_value (found_of found))) asked
  form_told asked form = told_alike (λ name. value_of format_app name words) (first_value (found_of found)) asked (λ name. sym (found_value name)) form.told

  -- what was found tells none
  pub volume_untold : (e : WordsErr) → IsAskedBy (IsTold (given_by (first_value (found_of found)))) (Err e) → IsAskedBy (IsVolumeForm words) (Err e)
  volume_untold errors.Form none = λ asked form. none asked (form_told asked form)
  volume_untold errors.NoMemory none = tt

  -- it tells one that may not be
  pub volume_refused : (asked : FormatWords) (field : Field) → IsTold (given_by (first_value (found_of found))) asked
      → spec_fault asked.volume ≡ Some field → (other : FormatWords) → IsVolumeForm words other → ⊥
  volume_refused asked field told fault other form =
      let both : asked ≡ other = one_volume (given_by (first_value (found_of found))) asked other told (form_told other form) in
      let bad : Some field ≡ None = sym fault ∙ subst (λ (a : FormatWords). spec_fault a.volume ≡ None) (sym both) form.fine in
      cc bad

-- words ask for one volume
pub one_format : (words : List (String Global)) (one other : FormatWords) → IsFormatWords words one → IsFormatWords words other → one ≡ other
one_format words one other is are =
    let same : are.1 ≡ is.1 = ap (drop 2) (sym are.2 ∙ is.2) in
    let moved : IsVolumeForm is.1 other = subst (λ w. IsVolumeForm w other) same are.3 in
    one_volume (given_in is.1) one other is.3.told moved.told
