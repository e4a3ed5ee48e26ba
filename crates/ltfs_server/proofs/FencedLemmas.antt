-- An owner who allows what the ordered run may leave allows the run.
use Rattle.std.specs.Prelude.{◌≡◌, ℕ, List, Option, Some, Ok, IfSome, String, codes}
use Rattle.std.specs.Global.{Global}
use Rattle.std.proofs.Common.{inr, refl, sym, subst, ◌∙◌, ap}
use Rattle.tape_types.specs.declared.cartridges.Cartridge.{Cartridge}
use Rattle.tape_types.specs.declared.moments.Moment.{Moment}
use Rattle.plain_tree.specs.Tree.{Tree}
use Rattle.session_script.specs.Grammar.{script_of}
use Rattle.session_script.specs.declared.scripts.ScriptLine.{ScriptLine}
use Rattle.tape_drive.specs.declared.drive.Drive.{Ghosts}
use Rattle.cartridge_meaning.specs.Carried.{Carried}
use Rattle.cartridge_meaning.specs.Meaning.{Stands}
use Rattle.cartridge_meaning.specs.Notes.{HasHonestNotes}
use Rattle.cartridge_meaning.proofs.Honest.{honest_notes}
use Rattle.commands.specs.CommandLine.Forms.{IsFormatWords, IsMakeWords, IsServeWords}
use Rattle.commands.specs.declared.command_line.volumes.FormatWords.{FormatWords}
use Rattle.commands.proofs.CommandLine.FormLemmas.{format_named, make_named, names_differ, one_serve, serve_named}
use Rattle.session_run.specs.Timed.{one_moment}
use Rattle.promises.specs.ServingPromise.Crash.{IsSound}
use Rattle.promises.specs.ServingPromise.Meanings.{cartridges}
use Rattle.promises.specs.ServingPromise.Served.{CanTell}
use Rattle.promises.specs.CrashLaws.May.{AllowsServed}
use Rattle.promises.specs.CrashLaws.Safe.{seen_by}
use Rattle.ltfs_server.specs.Allowed.{MayServeLeft}

-- one text spells one script
one_script : (left : Option (List ℕ)) (text : List ℕ) (script own : List ScriptLine) → left ≡ Some text
    → script_of text ≡ Ok own → IfSome left (λ t. script_of t ≡ Ok script) → script ≡ own
one_script left text script own is spelled same =
    let here : script_of text ≡ Ok script = subst (λ (l : Option (List ℕ)). IfSome l (λ t. script_of t ≡ Ok script)) is same in
    cc

module _ (words : List (String Global)) (one moment : Option Moment)
    (given : (at : Option Moment) × IsServeWords words at × (one_moment at one ≡ moment)) where
  -- words of `serve` aren't words of `make`
  pub no_make : (count : ℕ) (at : Option Moment) → IsMakeWords words count at → ⊥
  no_make count at are = names_differ words (codes "serve") (codes "make") refl
      (serve_named words (given.0, given.1)) (make_named words (count, at, are))

  -- words of `serve` aren't words of `format`
  pub no_format : (asked : FormatWords) → IsFormatWords words asked → ⊥
  no_format asked are = names_differ words (codes "serve") (codes "format") refl
      (serve_named words (given.0, given.1)) (format_named words (asked, are))

  -- an owner who allows what the ordered run may leave allows `serve`
  pub may_serve : {D : Type 0} (drive : Ghosts D) (d : D) (left : Option (List ℕ)) (own : List ScriptLine) (facts : Carried)
      (tree : Tree) → AllowsServed drive.allows own moment facts tree
      → (text : List ℕ) × (left ≡ Some text) × (script_of text ≡ Ok own)
      → (generation : ℕ) × CanTell (λ c. Stands c facts tree generation × IsSound cartridges c) (drive.commands d)
      (seen_by drive d)
      → (at : Option Moment) → IsServeWords words at → MayServeLeft drive left (one_moment at one) d
  may_serve drive d left own facts tree allows spelled stands at is script same c told =
      let at_is : at ≡ given.0 = one_serve words at given.0 is given.1 in
      let moment_is : one_moment at one ≡ moment = ap (λ (a : Option Moment). one_moment a one) at_is ∙ given.2 in
      let script_is : script ≡ own = one_script left spelled.0 script own spelled.1 spelled.2 same in
      inr (
        facts,
        tree,
        stands.0,
        stands.1,
        subst (λ (e : List ScriptLine × Option Moment). AllowsServed drive.allows e.0 e.1 facts tree)
            (λ i. (sym script_is i, sym moment_is i)) allows,
      )

-- a sound cartridge has honest notes
pub sound_notes : {D : Type 0} (drive : Ghosts D) (d : D) (facts : Carried) (tree : Tree)
    → (generation : ℕ) × CanTell (λ c. Stands c facts tree generation × IsSound cartridges c) (drive.commands d)
    (seen_by drive d) → IfSome (drive.held d) HasHonestNotes
sound_notes drive d facts tree stands =
    subst (λ (o : Option Cartridge). IfSome o HasHonestNotes) (sym stands.1.told)
    (honest_notes stands.1.held stands.1.reads_as.1.honest)
