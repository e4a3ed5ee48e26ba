-- What the words of `format` ask for: a volume identifier and a UUID, and options for the rest.
use Rattle.std.specs.Prelude.{◌≡◌, ℕ, List, [], Option, Some, None, Result, Ok, Err, ◌==◌, ◌^◌, nat_lt, if◌then◌else◌}
use Rattle.std.specs.Prelude.{codes, length}
use Rattle.std.specs.Prelude.{option_and_then, option_map, pos, unwrap_or}
use Rattle.std.specs.List.{slice_split}
use Rattle.clap.specs.Words.{App, Text, with_rule}
use Rattle.format_volume.specs.Refusals.{spec_fault}
use Rattle.format_volume.specs.declared.requests.FormatSpec.{FormatSpec}
use Rattle.index_model.specs.declared.indexes.Policy.{Policy}
use Rattle.session_script.specs.Words.{number_of}
use Rattle.tape_types.specs.Uuids.{uuid_in}
use Rattle.tape_types.specs.declared.moments.Moment.{Moment}
use Rattle.commands.specs.CommandLine.Options.{IsMomentGiven, Takes, bare, option, positional, value_of, with_moment}
use Rattle.commands.specs.declared.command_line.forms.WordsErr.{WordsErr}
use Rattle.commands.specs.declared.command_line.forms.WordsErr.TheVariants as errors
use Rattle.commands.specs.declared.command_line.volumes.FormatWords.{FormatWords}

-- `VOLID UUID`, and the options
abbrev pub with_volume : App → App
with_volume app = with_rule (with_rule app (positional (codes "volid"))) (positional (codes "uuid"))

abbrev pub with_sizes : App → App
with_sizes app = with_rule (with_rule app (option (codes "block"))) (option (codes "name"))

abbrev pub with_policy : App → App
with_policy app = with_rule (with_rule app (option (codes "ip-size"))) (option (codes "ip-names"))

abbrev pub format_app : App
format_app = with_moment (with_policy (with_sizes (with_volume (bare (codes "format")))))

-- the texts that words have for each value
pub record Given : Type 0 where
  pub volume : Option Text
  pub uuid : Option Text
  pub block : Option Text
  pub name : Option Text
  pub size : Option Text
  pub names : Option Text
  pub at : Option Text

abbrev pub given_by : (Text → Option Text) → Given
given_by value = record {
  volume = value (codes "volid");
  uuid = value (codes "uuid");
  block = value (codes "block");
  name = value (codes "name");
  size = value (codes "ip-size");
  names = value (codes "ip-names");
  at = value (codes "at");
}

abbrev pub given_in : List Text → Given
given_in words = given_by (λ name. value_of format_app name words)

-- six bytes, of which `spec_fault` says which they may be
abbrev pub identifier_told : Option Text → Option (List ℕ)
identifier_told text = option_and_then (λ t. if length t == 6 then Some t else None) text

-- 36 characters, with letters of either case
abbrev pub uuid_told : Option Text → Option ℕ
uuid_told text = option_and_then uuid_in text

-- 524,288 bytes where the words don't say; a number of 32 bits, of which `spec_fault` says which it may be
abbrev pub block_told : Option Text → Option ℕ
block_told None = Some 524288
block_told (Some text) = option_and_then (λ n. if nat_lt n (2 ^ 32) then Some n else None) (number_of text)

-- no name is the empty one
abbrev pub name_told : Option Text → Text
name_told text = unwrap_or text []

-- patterns between slashes, and none where there is no such option
abbrev pub patterns_told : Option Text → List Text
patterns_told None = []
patterns_told (Some list) = slice_split (λ b. b == 47) list

-- no policy without a size, and then no patterns either
abbrev pub policy_told : (size names : Option Text) → Option (Option Policy)
policy_told None None = Some None
policy_told None (Some list) = None
policy_told (Some size) names =
    option_map (λ n. Some (record { size = n; names = patterns_told names })) (number_of size)

-- the time of a volume: the given one, or the beginning of 1970 until there is one
abbrev pub IsTimed : Option Moment → Moment → Type 0
IsTimed (Some at) m = m ≡ at
IsTimed None m = (m.secs ≡ pos 0) × (m.nanos ≡ 0)

-- the texts tell these values
pub record IsTold (given : Given) (asked : FormatWords) : Type 0 where
  pub identifier : identifier_told given.volume ≡ Some asked.volume.volume
  pub uuid : uuid_told given.uuid ≡ Some asked.volume.uuid
  pub block : block_told given.block ≡ Some asked.volume.block
  pub name : name_told given.name ≡ asked.volume.name
  pub policy : policy_told given.size given.names ≡ Some asked.volume.policy
  pub at : IsMomentGiven given.at asked.at
  pub made : IsTimed asked.at asked.volume.at

-- the words behind the folder, which tell values that a volume may have
pub record IsVolumeForm (words : List Text) (asked : FormatWords) : Type 0 where
  pub takes : Takes format_app words
  pub told : IsTold (given_in words) asked
  pub fine : spec_fault asked.volume ≡ None

-- the volume that is asked for, made at a moment
abbrev pub spec_at : FormatWords → Moment → FormatSpec
spec_at asked at = record asked.volume { at = at }

-- what such words or such texts ask for is read, or they are of no form
abbrev pub IsAskedBy : (FormatWords → Type 0) → Result FormatWords WordsErr → Type 0
IsAskedBy asks (Ok asked) = asks asked
IsAskedBy asks (Err errors.Form) = (asked : FormatWords) → ¬ (asks asked)
IsAskedBy asks (Err errors.NoMemory) = Unit {0}
