-- Which command words are of.
use Rattle.std.proofs.Common.{◌≡◌, ◌∙◌, ℕ, ◌-◌, ◌≤◌, ◌<◌, Bool, true, false, ◌&&◌, List, [], ◌∷◌, take, drop, length, get_or, map, Option, Some, None, Result, Ok, Err, codes, refl, sym, ap, subst, String, arith, inl, inr}
use Rattle.std.specs.Str.{bytes_eq}
use Rattle.std.proofs.lemmas.List.{length-drop, take_all}
use Rattle.std.proofs.lemmas.Slice.Eq.{bytes_eq-Decides}
use Rattle.clap.specs.Simple.{App, is_simple, built}
use Rattle.clap.specs.Faults.{is_free_app, is_simple_and_free}
use Rattle.std.specs.Global.{Global}
use Rattle.std.specs.String.{string_bytes}
use Rattle.clap.specs.Words.{Text, HasKind, first_of, first_value, found_of, kind_of, matches_of, rows_of}
use Rattle.clap.specs.declared.parser.matches.ArgMatches.{ArgMatches}
use Rattle.clap.proofs.WalkLemmas.{first_value-rows}
use Rattle.clap.specs.Kinds.{Kinds}
use Rattle.clap.specs.declared.error.Error.{Error}
use Rattle.clap.specs.declared.error.kind.ErrorKind.TheVariants as kinds
use Rattle.tape_types.specs.declared.moments.Moment.{Moment}
use Rattle.tape_types.proofs.CivilLemmas.{time_text_injective}
use Rattle.commands.specs.CommandLine.Forms.{IsBehindFolder, IsFormat, IsGenerations, IsView, IsViewTaken, IsLabel, IsList, IsListForm, IsListRead, IsListWords, IsMake, IsMakeForm, IsMakeRead, IsMakeWords, IsMomentForm, IsMomentTaken, IsPlain, IsPlainForm, IsPlainWords, IsReadAs, IsServe, IsServeForm, IsServeRead, IsServeWords, IsSpelledBy, IsTakenAs, IsVolumeAsked}
use Rattle.commands.specs.CommandLine.Options.{IsMomentGiven, IsMomentRead, Takes, bare, value_of, with_moment}
use Rattle.commands.specs.CommandLine.Views.{IsViewForm}
use Rattle.commands.specs.CommandLine.Volumes.{IsVolumeForm}
use Rattle.commands.specs.declared.command_line.forms.WordsErr.{WordsErr}
use Rattle.commands.specs.declared.command_line.forms.WordsErr.TheVariants as errors
use Rattle.commands.specs.declared.command_line.reading.Command.{Command}
use Rattle.commands.specs.declared.command_line.reading.Command.TheVariants as commands

-- words of one command are of no other
apart : (words : List (String Global)) (one other : Text) (more rest : List Text) → bytes_eq one other ≡ false → map string_bytes words ≡ one ∷ more
    → map string_bytes words ≡ other ∷ rest → ⊥
apart words one other more rest differ is are =
    let same : one ≡ other = ap (λ (w : List Text). get_or w 0 []) (sym is ∙ are) in
    let both : false ≡ true = sym differ ∙ (bytes_eq-Decides one other).1 same in cc both

-- the first word
abbrev pub IsNamed : Text → List (String Global) → Type 0
IsNamed name words = (more : List Text) × (map string_bytes words ≡ name ∷ more)

-- words that begin with one name don't begin with another
pub names_differ : (words : List (String Global)) (one other : Text) → bytes_eq one other ≡ false → IsNamed one words → IsNamed other words → ⊥
names_differ words one other differ a b = apart words one other a.0 b.0 differ a.1 b.1

-- the forms of `plain` begin with its name
pub plain_named : (words : List (String Global)) → IsPlain words → IsNamed (codes "plain") words
plain_named words plain = (plain.1.0, plain.1.1)

behind_named : (name : Text) (form : List Text → Type 0) (words : List (String Global)) → IsBehindFolder name form words → IsNamed name words
behind_named name form words is = (is.0 ∷ is.1, is.2)

-- the forms of `label` begin with its name
pub label_named : (words : List (String Global)) → IsLabel words → IsNamed (codes "label") words
label_named words is = behind_named (codes "label") (Takes (bare (codes "label"))) words is

-- the forms of `list` begin with its name
pub list_named : (words : List (String Global)) → IsList words → IsNamed (codes "list") words
list_named words is = behind_named (codes "list") (λ more. IsListForm more is.0) words is.1

-- the forms of `generations` begin with its name
pub generations_named : (words : List (String Global)) → IsGenerations words → IsNamed (codes "generations") words
generations_named words is = behind_named (codes "generations") (Takes (bare (codes "generations"))) words is

-- the forms of `view` begin with its name
pub view_named : (words : List (String Global)) → IsView words → IsNamed (codes "view") words
view_named words is = behind_named (codes "view") (λ more. IsViewForm more is.0) words is.1

-- the forms of `format` begin with its name
pub format_named : (words : List (String Global)) → IsFormat words → IsNamed (codes "format") words
format_named words is = behind_named (codes "format") (λ more. IsVolumeForm more is.0) words is.1

-- the forms of `serve` begin with its name
pub serve_named : (words : List (String Global)) → IsServe words → IsNamed (codes "serve") words
serve_named words is = behind_named (codes "serve") (λ more. IsServeForm more is.0) words is.1

-- the forms of `make` begin with its name
pub make_named : (words : List (String Global)) → IsMake words → IsNamed (codes "make") words
make_named words is = behind_named (codes "make") (λ more. IsMakeForm more is.0 is.1) words is.2

rest_of : (k : ℕ) (words : List (String Global)) → take (length words - k) (drop k words) ≡ drop k words
rest_of k words = take_all (length words - k) (drop k words) (subst (λ n. n ≤ length words - k) (sym (length-drop k words)) (omega arith))

-- the words behind a name, and behind a name and a folder
pub behind : (words : List (String Global)) (name : String Global) (text : Text) → 0 < length words → name ≡ get_or words 0 name → string_bytes name ≡ text
    → map string_bytes words ≡ text ∷ map string_bytes (take (length words - 1) (drop 1 words))
behind words name text some first is = subst (λ rest. map string_bytes words ≡ text ∷ map string_bytes rest) (sym (rest_of 1 words)) (go words some first)
  where
    go : (words : List (String Global)) → 0 < length words → name ≡ get_or words 0 name → map string_bytes words ≡ text ∷ map string_bytes (drop 1 words)
    go [] some first = absurd (omega (arith, some))
    go (w ∷ words) some first = ap (λ t. t ∷ map string_bytes words) (ap string_bytes (sym first) ∙ is)

-- two words or more are a name, a folder, and the words behind them
pub behind_folder : (words : List (String Global)) (name : String Global) (text : Text) → 2 ≤ length words → name ≡ get_or words 0 name → string_bytes name ≡ text
    → (folder : Text) × (map string_bytes words ≡ text ∷ folder ∷ map string_bytes (take (length words - 2) (drop 2 words)))
behind_folder words name text two first is =
    let found = go words two first in
    (found.0, subst (λ rest. map string_bytes words ≡ text ∷ found.0 ∷ map string_bytes rest) (sym (rest_of 2 words)) found.1)
  where
    go : (words : List (String Global)) → 2 ≤ length words → name ≡ get_or words 0 name → (folder : Text) × (map string_bytes words ≡ text ∷ folder ∷ map string_bytes (drop 2 words))
    go [] two first = absurd (omega (arith, two))
    go (w ∷ []) two first = absurd (omega (arith, two))
    go (w ∷ v ∷ words) two first = (string_bytes v, ap (λ t. t ∷ string_bytes v ∷ map string_bytes words) (ap string_bytes (sym first) ∙ is))

-- the text that a command finds in words for an argument
pub value_found : (app wanted : App) (words : List Text) (found : ArgMatches) → app ≡ wanted → rows_of (found_of found) ≡ matches_of app words
    → (name : Text) → first_value (found_of found) name ≡ value_of wanted name words
value_found app wanted words found same rows name =
    first_value-rows (found_of found) name ∙ ap (first_of name) (rows ∙ ap (λ (a : App). matches_of a words) same)

-- a text has one moment
pub one_moment : (text : Option Text) (one other : Option Moment) → IsMomentGiven text one → IsMomentGiven text other → one ≡ other
one_moment None None None a b = refl
one_moment None None (Some n) a b = absurd b
one_moment None (Some m) other a b = absurd a
one_moment (Some text) None other a b = absurd a
one_moment (Some text) (Some m) None a b = absurd b
one_moment (Some text) (Some m) (Some n) a b = ap Some (time_text_injective m n (sym a.0 ∙ b.0))

-- what such a command finds in words, and the moment of the text that it finds
pub moment_form : (name : Text) (app : App) (words : List Text) (found : ArgMatches) (text : Option Text) (at : Option Moment)
    → app ≡ with_moment (bare name) → Takes app words × (rows_of (found_of found) ≡ matches_of app words)
    → text ≡ first_value (found_of found) (codes "at") → IsMomentGiven text at → IsMomentForm name words at
moment_form name app words found text at same is value given = record {
  takes = subst (λ (a : App). Takes a words) same is.0;
  moment = subst (λ (t : Option Text). IsMomentGiven t at) (value ∙ value_found app (with_moment (bare name)) words found same is.1 (codes "at")) given;
}

-- where no moment is read of that text
pub moment_unread : (name : Text) (app : App) (words : List Text) (found : ArgMatches) (text : Option Text) (e : WordsErr)
    → app ≡ with_moment (bare name) → Takes app words × (rows_of (found_of found) ≡ matches_of app words)
    → text ≡ first_value (found_of found) (codes "at") → IsMomentRead text (Err e) → IsMomentTaken name words (Err e)
moment_unread name app words found text errors.Form same is value none = λ at form. none at
    (subst (λ (t : Option Text). IsMomentGiven t at) (sym (value ∙ value_found app (with_moment (bare name)) words found same is.1 (codes "at"))) form.moment)
moment_unread name app words found text errors.NoMemory same is value none = tt

-- words have one moment
pub one_form : (words : List (String Global)) (one other : Option Moment) → IsPlainWords words one → IsPlainWords words other → one ≡ other
one_form words one other (more, is, form) (rest, are, again) =
    let same : rest ≡ more = ap (drop 1) (sym are ∙ is) in
    let moved : IsPlainForm more other = subst (λ w. IsPlainForm w other) same again in
    one_moment _ one other form.moment moved.moment

-- the same behind a folder
pub one_serve : (words : List (String Global)) (one other : Option Moment) → IsServeWords words one → IsServeWords words other → one ≡ other
one_serve words one other (folder, more, is, form) (dir, rest, are, again) =
    let same : rest ≡ more = ap (drop 2) (sym are ∙ is) in
    let moved : IsServeForm more other = subst (λ w. IsServeForm w other) same again in
    one_moment _ one other form.moment moved.moment

-- words tell one thing of `--all`
pub one_list : (words : List (String Global)) (one other : Bool) → IsListWords words one → IsListWords words other → one ≡ other
one_list words one other (folder, more, is, form) (dir, rest, are, again) =
    let same : rest ≡ more = ap (drop 2) (sym are ∙ is) in
    let moved : IsListForm more other = subst (λ w. IsListForm w other) same again in
    sym form.told ∙ moved.told

-- words ask for one count and one moment
pub one_make : (words : List (String Global)) (count number : ℕ) (one other : Option Moment) → IsMakeWords words count one → IsMakeWords words number other → (count ≡ number) × (one ≡ other)
one_make words count number one other (folder, more, is, form) (dir, rest, are, again) =
    let same : rest ≡ more = ap (drop 2) (sym are ∙ is) in
    let moved : IsMakeForm more number other = subst (λ w. IsMakeForm w number other) same again in
    let both : Some count ≡ Some number = sym form.counted ∙ moved.counted in
    (cc both, one_moment _ one other form.moment moved.moment)

-- words that begin with `plain` are read as its forms say
pub plain_spelled : (words : List (String Global)) (more : List Text) (r : Result Command WordsErr) → map string_bytes words ≡ codes "plain" ∷ more → IsReadAs more r
    → IsSpelledBy words r
plain_spelled words more (Ok (commands.Plain at)) is form = (more, is, form)
plain_spelled words more (Ok commands.Label) is form = absurd form
plain_spelled words more (Ok (commands.List all)) is form = absurd form
plain_spelled words more (Ok commands.Generations) is form = absurd form
plain_spelled words more (Ok (commands.View asked)) is form = absurd form
plain_spelled words more (Ok (commands.Format asked)) is form = absurd form
plain_spelled words more (Ok (commands.Serve at)) is form = absurd form
plain_spelled words more (Ok (commands.Make count at)) is form = absurd form
plain_spelled words more (Err errors.Form) is none =
    let named : IsNamed (codes "plain") words = (more, is) in record {
      no_plain = λ plain. none plain.0 (subst (λ w. IsPlainForm w plain.0) (ap (drop 1) (sym plain.1.1 ∙ is)) plain.1.2);
      no_label = λ label. names_differ words (codes "plain") (codes "label") refl named (label_named words label);
      no_list = λ list. names_differ words (codes "plain") (codes "list") refl named (list_named words list);
      no_generations = λ generations. names_differ words (codes "plain") (codes "generations") refl named (generations_named words generations);
      no_view = λ view. names_differ words (codes "plain") (codes "view") refl named (view_named words view);
      no_format = λ format. names_differ words (codes "plain") (codes "format") refl named (format_named words format);
      no_serve = λ serve. names_differ words (codes "plain") (codes "serve") refl named (serve_named words serve);
      no_make = λ make. names_differ words (codes "plain") (codes "make") refl named (make_named words make);
    }
plain_spelled words more (Err errors.NoMemory) is none = tt

-- words that begin with `label` and a folder are read as its forms say
pub label_spelled : (words : List (String Global)) (folder : Text) (more : List Text) (r : Result Command WordsErr) → map string_bytes words ≡ codes "label" ∷ folder ∷ more
    → IsTakenAs (bare (codes "label")) more commands.Label r → IsSpelledBy words r
label_spelled words folder more (Ok command) is takes = subst (λ (k : Command). IsSpelledBy words (Ok k)) (sym takes.0) (folder, more, is, takes.1)
label_spelled words folder more (Err errors.Form) is none =
    let named : IsNamed (codes "label") words = (folder ∷ more, is) in record {
      no_plain = λ plain. names_differ words (codes "label") (codes "plain") refl named (plain_named words plain);
      no_label = λ label. none (subst (Takes (bare (codes "label"))) (ap (drop 2) (sym label.2 ∙ is)) label.3);
      no_list = λ list. names_differ words (codes "label") (codes "list") refl named (list_named words list);
      no_generations = λ generations. names_differ words (codes "label") (codes "generations") refl named (generations_named words generations);
      no_view = λ view. names_differ words (codes "label") (codes "view") refl named (view_named words view);
      no_format = λ format. names_differ words (codes "label") (codes "format") refl named (format_named words format);
      no_serve = λ serve. names_differ words (codes "label") (codes "serve") refl named (serve_named words serve);
      no_make = λ make. names_differ words (codes "label") (codes "make") refl named (make_named words make);
    }
label_spelled words folder more (Err errors.NoMemory) is none = tt

-- words that begin with `list` and a folder are read as its forms say
pub list_spelled : (words : List (String Global)) (folder : Text) (more : List Text) (r : Result Command WordsErr) → map string_bytes words ≡ codes "list" ∷ folder ∷ more
    → IsListRead more r → IsSpelledBy words r
list_spelled words folder more (Ok (commands.Plain at)) is form = absurd form
list_spelled words folder more (Ok commands.Label) is form = absurd form
list_spelled words folder more (Ok (commands.List all)) is form = (folder, more, is, form)
list_spelled words folder more (Ok commands.Generations) is form = absurd form
list_spelled words folder more (Ok (commands.View asked)) is form = absurd form
list_spelled words folder more (Ok (commands.Format asked)) is form = absurd form
list_spelled words folder more (Ok (commands.Serve at)) is form = absurd form
list_spelled words folder more (Ok (commands.Make count at)) is form = absurd form
list_spelled words folder more (Err errors.Form) is none =
    let named : IsNamed (codes "list") words = (folder ∷ more, is) in record {
      no_plain = λ plain. names_differ words (codes "list") (codes "plain") refl named (plain_named words plain);
      no_label = λ label. names_differ words (codes "list") (codes "label") refl named (label_named words label);
      no_list = λ list. none list.0 (subst (λ w. IsListForm w list.0) (ap (drop 2) (sym list.1.2 ∙ is)) list.1.3);
      no_generations = λ generations. names_differ words (codes "list") (codes "generations") refl named (generations_named words generations);
      no_view = λ view. names_differ words (codes "list") (codes "view") refl named (view_named words view);
      no_format = λ format. names_differ words (codes "list") (codes "format") refl named (format_named words format);
      no_serve = λ serve. names_differ words (codes "list") (codes "serve") refl named (serve_named words serve);
      no_make = λ make. names_differ words (codes "list") (codes "make") refl named (make_named words make);
    }
list_spelled words folder more (Err errors.NoMemory) is none = tt

-- words that begin with `format` and a folder are read as its forms say
pub format_spelled : (words : List (String Global)) (folder : Text) (more : List Text) (r : Result Command WordsErr) → map string_bytes words ≡ codes "format" ∷ folder ∷ more
    → IsVolumeAsked more r → IsSpelledBy words r
format_spelled words folder more (Ok (commands.Plain at)) is form = absurd form
format_spelled words folder more (Ok commands.Label) is form = absurd form
format_spelled words folder more (Ok (commands.List all)) is form = absurd form
format_spelled words folder more (Ok commands.Generations) is form = absurd form
format_spelled words folder more (Ok (commands.View asked)) is form = absurd form
format_spelled words folder more (Ok (commands.Format asked)) is form = (folder, more, is, form)
format_spelled words folder more (Ok (commands.Serve at)) is form = absurd form
format_spelled words folder more (Ok (commands.Make count at)) is form = absurd form
format_spelled words folder more (Err errors.Form) is none =
    let named : IsNamed (codes "format") words = (folder ∷ more, is) in record {
      no_plain = λ plain. names_differ words (codes "format") (codes "plain") refl named (plain_named words plain);
      no_label = λ label. names_differ words (codes "format") (codes "label") refl named (label_named words label);
      no_list = λ list. names_differ words (codes "format") (codes "list") refl named (list_named words list);
      no_generations = λ generations. names_differ words (codes "format") (codes "generations") refl named (generations_named words generations);
      no_view = λ view. names_differ words (codes "format") (codes "view") refl named (view_named words view);
      no_format = λ format. none format.0 (subst (λ w. IsVolumeForm w format.0) (ap (drop 2) (sym format.1.2 ∙ is)) format.1.3);
      no_serve = λ serve. names_differ words (codes "format") (codes "serve") refl named (serve_named words serve);
      no_make = λ make. names_differ words (codes "format") (codes "make") refl named (make_named words make);
    }
format_spelled words folder more (Err errors.NoMemory) is none = tt

-- words that begin with `serve` and a folder are read as its forms say
pub serve_spelled : (words : List (String Global)) (folder : Text) (more : List Text) (r : Result Command WordsErr) → map string_bytes words ≡ codes "serve" ∷ folder ∷ more
    → IsServeRead more r → IsSpelledBy words r
serve_spelled words folder more (Ok (commands.Plain at)) is form = absurd form
serve_spelled words folder more (Ok commands.Label) is form = absurd form
serve_spelled words folder more (Ok (commands.List all)) is form = absurd form
serve_spelled words folder more (Ok commands.Generations) is form = absurd form
serve_spelled words folder more (Ok (commands.View asked)) is form = absurd form
serve_spelled words folder more (Ok (commands.Format asked)) is form = absurd form
serve_spelled words folder more (Ok (commands.Serve at)) is form = (folder, more, is, form)
serve_spelled words folder more (Ok (commands.Make count at)) is form = absurd form
serve_spelled words folder more (Err errors.Form) is none =
    let named : IsNamed (codes "serve") words = (folder ∷ more, is) in record {
      no_plain = λ plain. names_differ words (codes "serve") (codes "plain") refl named (plain_named words plain);
      no_label = λ label. names_differ words (codes "serve") (codes "label") refl named (label_named words label);
      no_list = λ list. names_differ words (codes "serve") (codes "list") refl named (list_named words list);
      no_generations = λ generations. names_differ words (codes "serve") (codes "generations") refl named (generations_named words generations);
      no_view = λ view. names_differ words (codes "serve") (codes "view") refl named (view_named words view);
      no_format = λ format. names_differ words (codes "serve") (codes "format") refl named (format_named words format);
      no_make = λ make. names_differ words (codes "serve") (codes "make") refl named (make_named words make);
      no_serve = λ serve. none serve.0 (subst (λ w. IsServeForm w serve.0) (ap (drop 2) (sym serve.1.2 ∙ is)) serve.1.3);
    }
serve_spelled words folder more (Err errors.NoMemory) is none = tt

-- words that begin with `make` and a folder are read as its forms say
pub make_spelled : (words : List (String Global)) (folder : Text) (more : List Text) (r : Result Command WordsErr) → map string_bytes words ≡ codes "make" ∷ folder ∷ more
    → IsMakeRead more r → IsSpelledBy words r
make_spelled words folder more (Ok (commands.Plain at)) is form = absurd form
make_spelled words folder more (Ok commands.Label) is form = absurd form
make_spelled words folder more (Ok (commands.List all)) is form = absurd form
make_spelled words folder more (Ok commands.Generations) is form = absurd form
make_spelled words folder more (Ok (commands.View asked)) is form = absurd form
make_spelled words folder more (Ok (commands.Format asked)) is form = absurd form
make_spelled words folder more (Ok (commands.Serve at)) is form = absurd form
make_spelled words folder more (Ok (commands.Make count at)) is form = (folder, more, is, form)
make_spelled words folder more (Err errors.Form) is none =
    let named : IsNamed (codes "make") words = (folder ∷ more, is) in record {
      no_plain = λ plain. names_differ words (codes "make") (codes "plain") refl named (plain_named words plain);
      no_label = λ label. names_differ words (codes "make") (codes "label") refl named (label_named words label);
      no_list = λ list. names_differ words (codes "make") (codes "list") refl named (list_named words list);
      no_generations = λ generations. names_differ words (codes "make") (codes "generations") refl named (generations_named words generations);
      no_view = λ view. names_differ words (codes "make") (codes "view") refl named (view_named words view);
      no_format = λ format. names_differ words (codes "make") (codes "format") refl named (format_named words format);
      no_serve = λ serve. names_differ words (codes "make") (codes "serve") refl named (serve_named words serve);
      no_make = λ make. none make.0 make.1 (subst (λ w. IsMakeForm w make.0 make.1) (ap (drop 2) (sym make.2.2 ∙ is)) make.2.3);
    }
make_spelled words folder more (Err errors.NoMemory) is none = tt

-- words that begin with `generations` and a folder are read as its forms say
pub generations_spelled : (words : List (String Global)) (folder : Text) (more : List Text) (r : Result Command WordsErr) → map string_bytes words ≡ codes "generations" ∷ folder ∷ more
    → IsTakenAs (bare (codes "generations")) more commands.Generations r → IsSpelledBy words r
generations_spelled words folder more (Ok command) is takes = subst (λ (k : Command). IsSpelledBy words (Ok k)) (sym takes.0) (folder, more, is, takes.1)
generations_spelled words folder more (Err errors.Form) is none =
    let named : IsNamed (codes "generations") words = (folder ∷ more, is) in record {
      no_plain = λ plain. names_differ words (codes "generations") (codes "plain") refl named (plain_named words plain);
      no_label = λ label. names_differ words (codes "generations") (codes "label") refl named (label_named words label);
      no_list = λ list. names_differ words (codes "generations") (codes "list") refl named (list_named words list);
      no_generations = λ generations. none (subst (Takes (bare (codes "generations"))) (ap (drop 2) (sym generations.2 ∙ is)) generations.3);
      no_view = λ view. names_differ words (codes "generations") (codes "view") refl named (view_named words view);
      no_format = λ format. names_differ words (codes "generations") (codes "format") refl named (format_named words format);
      no_serve = λ serve. names_differ words (codes "generations") (codes "serve") refl named (serve_named words serve);
      no_make = λ make. names_differ words (codes "generations") (codes "make") refl named (make_named words make);
    }
generations_spelled words folder more (Err errors.NoMemory) is none = tt

-- words that begin with `view` and a folder are read as its forms say
pub view_spelled : (words : List (String Global)) (folder : Text) (more : List Text) (r : Result Command WordsErr) → map string_bytes words ≡ codes "view" ∷ folder ∷ more
    → IsViewTaken more r → IsSpelledBy words r
view_spelled words folder more (Ok (commands.Plain at)) is form = absurd form
view_spelled words folder more (Ok commands.Label) is form = absurd form
view_spelled words folder more (Ok (commands.List all)) is form = absurd form
view_spelled words folder more (Ok commands.Generations) is form = absurd form
view_spelled words folder more (Ok (commands.View asked)) is form = (folder, more, is, form)
view_spelled words folder more (Ok (commands.Format asked)) is form = absurd form
view_spelled words folder more (Ok (commands.Serve at)) is form = absurd form
view_spelled words folder more (Ok (commands.Make count at)) is form = absurd form
view_spelled words folder more (Err errors.Form) is none =
    let named : IsNamed (codes "view") words = (folder ∷ more, is) in record {
      no_plain = λ plain. names_differ words (codes "view") (codes "plain") refl named (plain_named words plain);
      no_label = λ label. names_differ words (codes "view") (codes "label") refl named (label_named words label);
      no_list = λ list. names_differ words (codes "view") (codes "list") refl named (list_named words list);
      no_generations = λ generations. names_differ words (codes "view") (codes "generations") refl named (generations_named words generations);
      no_view = λ view. none view.0 (subst (λ w. IsViewForm w view.0) (ap (drop 2) (sym view.1.2 ∙ is)) view.1.3);
      no_format = λ format. names_differ words (codes "view") (codes "format") refl named (format_named words format);
      no_serve = λ serve. names_differ words (codes "view") (codes "serve") refl named (serve_named words serve);
      no_make = λ make. names_differ words (codes "view") (codes "make") refl named (make_named words make);
    }
view_spelled words folder more (Err errors.NoMemory) is none = tt

-- an error of another kind than want of memory tells that the words aren't taken
not_taken : (faults : Kinds) (e : Error) → HasKind faults e → (kind_of e ≡ kinds.OutOfMemory → ⊥) → faults ≡ [] → ⊥
not_taken [] e (inl memory) other none = other memory
not_taken [] e (inr among) other none = among
not_taken (k ∷ ks) e has other none = cc none

-- a command that is simple and free is simple
pub is_simple_of : (app : App) → is_simple_and_free app ≡ true → is_simple app ≡ true
is_simple_of app both = (both_true (is_simple app) (is_free_app (built app)) both).0
  where
    both_true : (x y : Bool) → (x && y) ≡ true → (x ≡ true) × (y ≡ true)
    both_true true y e = (refl, e)
    both_true false y e = cc e
