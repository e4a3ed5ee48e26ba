-- What is promised for all words, where one command's were read.
use Rattle.std.proofs.Common.{◌≡◌, ◌∙◌, ℕ, ◌^◌, ◌-◌, ◌≤◌, Bool, true, false, nat_le, ◌&&◌, if◌then◌else◌, List, [], ◌∷◌, Option, Some, None, Ok, Err, String, codes, refl, sym, ap, subst, arith, inl, inr, ◌==◌}
use Rattle.std.specs.Prelude.{IfSome}
use Rattle.std.specs.List.{list_any}
use Rattle.std.specs.Option.{option_and_then}
use Rattle.std.proofs.lemmas.Bool.Decides.{nat_tests}
use Rattle.std.specs.Global.{Global}
use Rattle.tape_types.specs.declared.moments.Moment.{Moment}
use Rattle.tape_edge.specs.Clocks.{IsSince1970}
use Rattle.session_script.specs.Bounds.{most_calls}
use Rattle.session_script.specs.Words.{number_of}
use Rattle.session_script.specs.declared.logs.Log.{Log}
use Rattle.tape_drive.specs.Looks.{Looks}
use Rattle.tape_drive.specs.declared.drive.Drive.{Ghosts}
use Rattle.cartridge_meaning.specs.declared.errors.MountErr.TheVariants as errors
use Rattle.format_volume.specs.Writes.{Goes}
use Rattle.format_volume.specs.declared.requests.FormatErr.TheVariants as refusals
use Rattle.format_volume.proofs.WriteLemmas.{goes_still}
use Rattle.commands.specs.CommandLine.Forms.{HasNoForm, IsFormat, IsFormatWords, IsGenerations, IsLabel, IsList, IsListWords, IsMake, IsMakeWords, IsPlain, IsPlainWords, IsServe, IsServeWords, IsSpelledBy, IsView, IsViewWords, count_told, make_app}
use Rattle.commands.specs.CommandLine.Options.{IsMomentGiven, value_of}
use Rattle.commands.specs.declared.command_line.views.ViewWords.{ViewWords}
use Rattle.commands.specs.declared.command_line.volumes.FormatWords.{FormatWords}
use Rattle.commands.specs.declared.command_line.forms.WordsErr.{WordsErr}
use Rattle.commands.specs.declared.command_line.forms.WordsErr.TheVariants as word_errors
use Rattle.commands.specs.declared.command_line.reading.Command.{Command}
use Rattle.commands.specs.declared.command_line.reading.Command.TheVariants as commands
use Rattle.commands.proofs.CommandLine.FormLemmas.{format_named, generations_named, label_named, list_named, make_named, names_differ, one_form, one_list, one_make, one_serve, plain_named, serve_named, view_named}
use Rattle.commands.proofs.CommandLine.ViewLemmas.{one_view}
use Rattle.commands.proofs.CommandLine.VolumeLemmas.{one_format}
use Rattle.generation_view.specs.declared.errors.ViewErr.TheVariants as view_errors
use Rattle.generation_view.specs.ViewCommands.Outcomes.{unseen, untold}
use Rattle.generation_view.specs.ViewCommands.Promises.{DoesGenerations, DoesView}
use Rattle.generation_view.proofs.ViewCommands.ViewClauses.{chain_does, view_does}
use Rattle.commands.specs.BasicCommands.Formats.{unformatted}
use Rattle.ltfs_server.specs.Making.{unmade}
use Rattle.commands.specs.BasicCommands.Outcomes.{IsTold, unlabelled, unlisted}
use Rattle.ltfs_server.specs.Outcomes.{of_format, of_generations, of_label, of_list, of_make, of_memory, of_no_form, of_plain, of_serve, of_view}
use Rattle.commands.specs.BasicCommands.Promises.{DoesFormat, DoesLabel, DoesList, DoesPlain}
use Rattle.ltfs_server.specs.Promises.{DoesAsked, DoesMake, DoesServe, RunScripts}
use Rattle.commands.specs.BasicCommands.Runs.{Gives, IsOneOf, Taken, TakesNothing, Written}
use Rattle.session_run.specs.Timed.{one_moment}
use Rattle.ltfs_server.specs.Serving.{unscripted}
use Rattle.commands.specs.declared.basic_commands.plain.PlainEnd.TheVariants as plains
use Rattle.commands.specs.declared.basic_commands.scripts.Unread.TheVariants as unread
use Rattle.commands.proofs.BasicCommands.FormatClauses.{format_does}
use Rattle.commands.proofs.BasicCommands.LabelClauses.{label_does}
use Rattle.commands.proofs.BasicCommands.ListClauses.{list_does}
use Rattle.ltfs_server.proofs.MakeClauses.{make_does}
use Rattle.commands.proofs.BasicCommands.PlainClauses.{plain_does}
use Rattle.ltfs_server.proofs.ServeClauses.{serve_does}
use Rattle.commands.proofs.BasicCommands.Told.{by_six, by_status, by_text, if_some, none_of}
use Rattle.tape_drive.proofs.Looking.{no_looks}

-- a status that is one of these is no other
other : (status n : ℕ) (xs : List ℕ) → list_any (λ x. n == x) xs ≡ false → IsOneOf status xs → status ≡ n → ⊥
other status n xs none one is = none_of n xs none (subst (λ s. IsOneOf s xs) is one)

plain_all : (n : ℕ) → IsOneOf n (0 ∷ 2 ∷ 5 ∷ 6 ∷ 7 ∷ []) → IsOneOf n (0 ∷ 1 ∷ 2 ∷ 3 ∷ 4 ∷ 5 ∷ 6 ∷ 7 ∷ 8 ∷ [])
plain_all n (inl e) = inl e
plain_all n (inr (inl e)) = inr (inr (inl e))
plain_all n (inr (inr (inl e))) = inr (inr (inr (inr (inr (inl e)))))
plain_all n (inr (inr (inr (inl e)))) = inr (inr (inr (inr (inr (inr (inl e))))))
plain_all n (inr (inr (inr (inr (inl e))))) = inr (inr (inr (inr (inr (inr (inr (inl e)))))))
plain_all n (inr (inr (inr (inr (inr none))))) = absurd none

looked_all : (n : ℕ) → IsOneOf n (0 ∷ 3 ∷ 4 ∷ 6 ∷ 7 ∷ []) → IsOneOf n (0 ∷ 1 ∷ 2 ∷ 3 ∷ 4 ∷ 5 ∷ 6 ∷ 7 ∷ 8 ∷ [])
looked_all n (inl e) = inl e
looked_all n (inr (inl e)) = inr (inr (inr (inl e)))
looked_all n (inr (inr (inl e))) = inr (inr (inr (inr (inl e))))
looked_all n (inr (inr (inr (inl e)))) = inr (inr (inr (inr (inr (inr (inl e))))))
looked_all n (inr (inr (inr (inr (inl e))))) = inr (inr (inr (inr (inr (inr (inr (inl e)))))))
looked_all n (inr (inr (inr (inr (inr none))))) = absurd none

format_all : (n : ℕ) → IsOneOf n (0 ∷ 4 ∷ 6 ∷ 7 ∷ 8 ∷ []) → IsOneOf n (0 ∷ 1 ∷ 2 ∷ 3 ∷ 4 ∷ 5 ∷ 6 ∷ 7 ∷ 8 ∷ [])
format_all n (inl e) = inl e
format_all n (inr (inl e)) = inr (inr (inr (inr (inl e))))
format_all n (inr (inr (inl e))) = inr (inr (inr (inr (inr (inr (inl e))))))
format_all n (inr (inr (inr (inl e)))) = inr (inr (inr (inr (inr (inr (inr (inl e)))))))
format_all n (inr (inr (inr (inr (inl e))))) = inr (inr (inr (inr (inr (inr (inr (inr (inl e))))))))
format_all n (inr (inr (inr (inr (inr none))))) = absurd none

serve_all : (n : ℕ) → IsOneOf n (0 ∷ 2 ∷ 3 ∷ 4 ∷ 5 ∷ 6 ∷ 7 ∷ 8 ∷ []) → IsOneOf n (0 ∷ 1 ∷ 2 ∷ 3 ∷ 4 ∷ 5 ∷ 6 ∷ 7 ∷ 8 ∷ [])
serve_all n (inl e) = inl e
serve_all n (inr more) = inr (inr more)

make_all : (n : ℕ) → IsOneOf n (0 ∷ 3 ∷ 4 ∷ 6 ∷ 7 ∷ 8 ∷ []) → IsOneOf n (0 ∷ 1 ∷ 2 ∷ 3 ∷ 4 ∷ 5 ∷ 6 ∷ 7 ∷ 8 ∷ [])
make_all n (inl e) = inl e
make_all n (inr (inl e)) = inr (inr (inr (inl e)))
make_all n (inr (inr (inl e))) = inr (inr (inr (inr (inl e))))
make_all n (inr (inr (inr more))) = inr (inr (inr (inr (inr (inr more)))))

none_logged : (words : List (String Global)) (log : Option Log) → log ≡ None → IfSome log (λ l. RunScripts words)
none_logged words log none = subst (λ l. IfSome l (λ l. RunScripts words)) (sym none) tt

module _ {D : Type 0} (words : List (String Global)) (gives : Gives) (one : Option Moment) (source : Taken) (sink : Written) (drive : Ghosts D) (old new : D) (status : ℕ) (log : Option Log) where
  -- what `plain` promises is promised of its words
  pub plain_asked : (at : Option Moment) → IsPlainWords words at → DoesPlain at gives source sink old new status log
      → DoesAsked words gives one source sink drive old new status log
  plain_asked at spelled does =
      let is_plain : IsPlain words = (at, spelled) in record {
        plain = λ again are. subst (λ (a : Option Moment). DoesPlain a gives source sink old new status log) (one_form words at again spelled are) does;
        label = λ label. absurd (names_differ words (codes "plain") (codes "label") refl (plain_named words is_plain) (label_named words label));
        list = λ all list. absurd (names_differ words (codes "plain") (codes "list") refl (plain_named words is_plain) (list_named words (all, list)));
        generations = λ generations. absurd (names_differ words (codes "plain") (codes "generations") refl (plain_named words is_plain) (generations_named words generations));
        view = λ asked view. absurd (names_differ words (codes "plain") (codes "view") refl (plain_named words is_plain) (view_named words (asked, view)));
        format = λ asked format. absurd (names_differ words (codes "plain") (codes "format") refl (plain_named words is_plain) (format_named words (asked, format)));
        serve = λ again are. absurd (names_differ words (codes "plain") (codes "serve") refl (plain_named words is_plain) (serve_named words (again, are)));
        make = λ n time are. absurd (names_differ words (codes "plain") (codes "make") refl (plain_named words is_plain) (make_named words (n, time, are)));
        no_form = λ none. absurd (none.no_plain is_plain);
        unread = λ another third. absurd (another is_plain);
        comes = record {
          statuses = plain_all status does.statuses;
          done = λ zero. inl is_plain;
          refused = λ one. absurd (other status 1 (0 ∷ 2 ∷ 5 ∷ 6 ∷ 7 ∷ []) refl does.statuses one);
          script = λ two. inl is_plain;
          volume = λ three. absurd (other status 3 (0 ∷ 2 ∷ 5 ∷ 6 ∷ 7 ∷ []) refl does.statuses three);
          drive = λ four. absurd (other status 4 (0 ∷ 2 ∷ 5 ∷ 6 ∷ 7 ∷ []) refl does.statuses four);
          read = λ five. inl is_plain;
          full = λ eight. absurd (other status 8 (0 ∷ 2 ∷ 5 ∷ 6 ∷ 7 ∷ []) refl does.statuses eight);
          logged = if_some log (λ l. RunScripts words) (λ l is. inl is_plain);
        };
        told = (of_plain does.told.0, (at, spelled, does.told.1), does.told.2);
      }

  -- what `label` promises is promised of its words
  pub label_asked : IsLabel words → TakesNothing source → DoesLabel drive old new sink status log → DoesAsked words gives one source sink drive old new status log
  label_asked spelled nothing does = record {
    plain = λ at are. absurd (names_differ words (codes "plain") (codes "label") refl (plain_named words (at, are)) (label_named words spelled));
    label = λ label. does;
    list = λ all list. absurd (names_differ words (codes "label") (codes "list") refl (label_named words spelled) (list_named words (all, list)));
    generations = λ generations. absurd (names_differ words (codes "label") (codes "generations") refl (label_named words spelled) (generations_named words generations));
    view = λ asked view. absurd (names_differ words (codes "label") (codes "view") refl (label_named words spelled) (view_named words (asked, view)));
    format = λ asked format. absurd (names_differ words (codes "label") (codes "format") refl (label_named words spelled) (format_named words (asked, format)));
    serve = λ at are. absurd (names_differ words (codes "label") (codes "serve") refl (label_named words spelled) (serve_named words (at, are)));
    make = λ n time are. absurd (names_differ words (codes "label") (codes "make") refl (label_named words spelled) (make_named words (n, time, are)));
    no_form = λ none. absurd (none.no_label spelled);
    unread = λ another third. nothing;
    comes = record {
      statuses = looked_all status does.statuses;
      done = λ zero. inr (inl spelled);
      refused = λ one. absurd (other status 1 (0 ∷ 3 ∷ 4 ∷ 6 ∷ 7 ∷ []) refl does.statuses one);
      script = λ two. absurd (other status 2 (0 ∷ 3 ∷ 4 ∷ 6 ∷ 7 ∷ []) refl does.statuses two);
      volume = λ three. inl spelled;
      drive = λ four. inl spelled;
      read = λ five. absurd (other status 5 (0 ∷ 3 ∷ 4 ∷ 6 ∷ 7 ∷ []) refl does.statuses five);
      full = λ eight. absurd (other status 8 (0 ∷ 3 ∷ 4 ∷ 6 ∷ 7 ∷ []) refl does.statuses eight);
      logged = none_logged words log does.no_log;
    };
    told = (of_label does.told.0, (spelled, nothing, does.told.1), does.told.2);
  }

  -- what `list` promises is promised of its words
  pub list_asked : (all : Bool) → IsListWords words all → TakesNothing source → DoesList all drive old new sink status log
      → DoesAsked words gives one source sink drive old new status log
  list_asked all spelled nothing does = let is_list : IsList words = (all, spelled) in record {
    plain = λ at are. absurd (names_differ words (codes "plain") (codes "list") refl (plain_named words (at, are)) (list_named words is_list));
    label = λ label. absurd (names_differ words (codes "label") (codes "list") refl (label_named words label) (list_named words is_list));
    list = λ again are. subst (λ (b : Bool). DoesList b drive old new sink status log) (one_list words all again spelled are) does;
    generations = λ generations. absurd (names_differ words (codes "list") (codes "generations") refl (list_named words is_list) (generations_named words generations));
    view = λ asked view. absurd (names_differ words (codes "list") (codes "view") refl (list_named words is_list) (view_named words (asked, view)));
    format = λ asked format. absurd (names_differ words (codes "list") (codes "format") refl (list_named words is_list) (format_named words (asked, format)));
    serve = λ at are. absurd (names_differ words (codes "list") (codes "serve") refl (list_named words is_list) (serve_named words (at, are)));
    make = λ n time are. absurd (names_differ words (codes "list") (codes "make") refl (list_named words is_list) (make_named words (n, time, are)));
    no_form = λ none. absurd (none.no_list is_list);
    unread = λ another third. nothing;
    comes = record {
      statuses = looked_all status does.statuses;
      done = λ zero. inr (inr (inl is_list));
      refused = λ one. absurd (other status 1 (0 ∷ 3 ∷ 4 ∷ 6 ∷ 7 ∷ []) refl does.statuses one);
      script = λ two. absurd (other status 2 (0 ∷ 3 ∷ 4 ∷ 6 ∷ 7 ∷ []) refl does.statuses two);
      volume = λ three. inr (inl is_list);
      drive = λ four. inr (inl is_list);
      read = λ five. absurd (other status 5 (0 ∷ 3 ∷ 4 ∷ 6 ∷ 7 ∷ []) refl does.statuses five);
      full = λ eight. absurd (other status 8 (0 ∷ 3 ∷ 4 ∷ 6 ∷ 7 ∷ []) refl does.statuses eight);
      logged = none_logged words log does.no_log;
    };
    told = (of_list does.told.0, (all, spelled, nothing, does.told.1), does.told.2);
  }

  -- what `generations` promises is promised of its words
  pub generations_asked : IsGenerations words → TakesNothing source → DoesGenerations drive old new sink status log → DoesAsked words gives one source sink drive old new status log
  generations_asked spelled nothing does = record {
    plain = λ at are. absurd (names_differ words (codes "plain") (codes "generations") refl (plain_named words (at, are)) (generations_named words spelled));
    label = λ label. absurd (names_differ words (codes "label") (codes "generations") refl (label_named words label) (generations_named words spelled));
    list = λ all list. absurd (names_differ words (codes "list") (codes "generations") refl (list_named words (all, list)) (generations_named words spelled));
    generations = λ generations. does;
    view = λ asked view. absurd (names_differ words (codes "generations") (codes "view") refl (generations_named words spelled) (view_named words (asked, view)));
    format = λ asked format. absurd (names_differ words (codes "generations") (codes "format") refl (generations_named words spelled) (format_named words (asked, format)));
    serve = λ at are. absurd (names_differ words (codes "generations") (codes "serve") refl (generations_named words spelled) (serve_named words (at, are)));
    make = λ n time are. absurd (names_differ words (codes "generations") (codes "make") refl (generations_named words spelled) (make_named words (n, time, are)));
    no_form = λ none. absurd (none.no_generations spelled);
    unread = λ another third. nothing;
    comes = record {
      statuses = looked_all status does.statuses;
      done = λ zero. inr (inr (inr (inr (inr (inr (inl spelled))))));
      refused = λ one. absurd (other status 1 (0 ∷ 3 ∷ 4 ∷ 6 ∷ 7 ∷ []) refl does.statuses one);
      script = λ two. absurd (other status 2 (0 ∷ 3 ∷ 4 ∷ 6 ∷ 7 ∷ []) refl does.statuses two);
      volume = λ three. inr (inr (inr (inr (inl spelled))));
      drive = λ four. inr (inr (inr (inr (inr (inl spelled)))));
      read = λ five. absurd (other status 5 (0 ∷ 3 ∷ 4 ∷ 6 ∷ 7 ∷ []) refl does.statuses five);
      full = λ eight. absurd (other status 8 (0 ∷ 3 ∷ 4 ∷ 6 ∷ 7 ∷ []) refl does.statuses eight);
      logged = none_logged words log does.no_log;
    };
    told = (of_generations does.told.0, (spelled, nothing, does.told.1), (does.no_log, does.told.2));
  }

  -- what `view` promises is promised of its words
  pub view_asked : (asked : ViewWords) → IsViewWords words asked → TakesNothing source → DoesView asked drive old new sink status log
      → DoesAsked words gives one source sink drive old new status log
  view_asked asked spelled nothing does =
      let is_view : IsView words = (asked, spelled) in record {
        plain = λ at are. absurd (names_differ words (codes "plain") (codes "view") refl (plain_named words (at, are)) (view_named words is_view));
        label = λ label. absurd (names_differ words (codes "label") (codes "view") refl (label_named words label) (view_named words is_view));
        list = λ all list. absurd (names_differ words (codes "list") (codes "view") refl (list_named words (all, list)) (view_named words is_view));
        generations = λ generations. absurd (names_differ words (codes "generations") (codes "view") refl (generations_named words generations) (view_named words is_view));
        view = λ again are. subst (λ (a : ViewWords). DoesView a drive old new sink status log) (one_view words asked again spelled are) does;
        format = λ again format. absurd (names_differ words (codes "format") (codes "view") refl (format_named words (again, format)) (view_named words is_view));
        serve = λ at are. absurd (names_differ words (codes "view") (codes "serve") refl (view_named words is_view) (serve_named words (at, are)));
        make = λ n time are. absurd (names_differ words (codes "view") (codes "make") refl (view_named words is_view) (make_named words (n, time, are)));
        no_form = λ none. absurd (none.no_view is_view);
        unread = λ another third. nothing;
        comes = record {
          statuses = looked_all status does.statuses;
          done = λ zero. inr (inr (inr (inr (inr (inr (inr is_view))))));
          refused = λ one. absurd (other status 1 (0 ∷ 3 ∷ 4 ∷ 6 ∷ 7 ∷ []) refl does.statuses one);
          script = λ two. absurd (other status 2 (0 ∷ 3 ∷ 4 ∷ 6 ∷ 7 ∷ []) refl does.statuses two);
          volume = λ three. inr (inr (inr (inr (inr is_view))));
          drive = λ four. inr (inr (inr (inr (inr (inr is_view)))));
          read = λ five. absurd (other status 5 (0 ∷ 3 ∷ 4 ∷ 6 ∷ 7 ∷ []) refl does.statuses five);
          full = λ eight. absurd (other status 8 (0 ∷ 3 ∷ 4 ∷ 6 ∷ 7 ∷ []) refl does.statuses eight);
          logged = none_logged words log does.no_log;
        };
        told = (of_view does.told.0, (asked, spelled, nothing, does.told.1), (does.no_log, does.told.2));
      }

  -- what `format` promises is promised of its words
  pub format_asked : (asked : FormatWords) → IsFormatWords words asked → TakesNothing source → DoesFormat asked gives drive old new sink status log
      → DoesAsked words gives one source sink drive old new status log
  format_asked asked spelled nothing does =
      let is_format : IsFormat words = (asked, spelled) in record {
        plain = λ at are. absurd (names_differ words (codes "plain") (codes "format") refl (plain_named words (at, are)) (format_named words is_format));
        label = λ label. absurd (names_differ words (codes "label") (codes "format") refl (label_named words label) (format_named words is_format));
        list = λ all list. absurd (names_differ words (codes "list") (codes "format") refl (list_named words (all, list)) (format_named words is_format));
        generations = λ generations. absurd (names_differ words (codes "format") (codes "generations") refl (format_named words is_format) (generations_named words generations));
        view = λ asked view. absurd (names_differ words (codes "format") (codes "view") refl (format_named words is_format) (view_named words (asked, view)));
        format = λ again are. subst (λ (a : FormatWords). DoesFormat a gives drive old new sink status log) (one_format words asked again spelled are) does;
        serve = λ at are. absurd (names_differ words (codes "format") (codes "serve") refl (format_named words is_format) (serve_named words (at, are)));
        make = λ n time are. absurd (names_differ words (codes "format") (codes "make") refl (format_named words is_format) (make_named words (n, time, are)));
        no_form = λ none. absurd (none.no_format is_format);
        unread = λ another third. nothing;
        comes = record {
          statuses = format_all status does.statuses;
          done = λ zero. inr (inr (inr (inl is_format)));
          refused = λ one. absurd (other status 1 (0 ∷ 4 ∷ 6 ∷ 7 ∷ 8 ∷ []) refl does.statuses one);
          script = λ two. absurd (other status 2 (0 ∷ 4 ∷ 6 ∷ 7 ∷ 8 ∷ []) refl does.statuses two);
          volume = λ three. absurd (other status 3 (0 ∷ 4 ∷ 6 ∷ 7 ∷ 8 ∷ []) refl does.statuses three);
          drive = λ four. inr (inr (inl is_format));
          read = λ five. absurd (other status 5 (0 ∷ 4 ∷ 6 ∷ 7 ∷ 8 ∷ []) refl does.statuses five);
          full = λ eight. inl is_format;
          logged = none_logged words log does.no_log;
        };
        told = (of_format does.told.0, (asked, spelled, nothing, does.told.1), does.told.2);
      }

  -- what `serve` promises is promised of its words
  pub serve_asked : (at : Option Moment) → IsServeWords words at → DoesServe (one_moment at one) source drive old new sink status log
      → DoesAsked words gives one source sink drive old new status log
  serve_asked at spelled does =
      let is_serve : IsServe words = (at, spelled) in record {
        plain = λ again are. absurd (names_differ words (codes "plain") (codes "serve") refl (plain_named words (again, are)) (serve_named words is_serve));
        label = λ label. absurd (names_differ words (codes "label") (codes "serve") refl (label_named words label) (serve_named words is_serve));
        list = λ all list. absurd (names_differ words (codes "list") (codes "serve") refl (list_named words (all, list)) (serve_named words is_serve));
        generations = λ generations. absurd (names_differ words (codes "serve") (codes "generations") refl (serve_named words is_serve) (generations_named words generations));
        view = λ asked view. absurd (names_differ words (codes "serve") (codes "view") refl (serve_named words is_serve) (view_named words (asked, view)));
        format = λ asked format. absurd (names_differ words (codes "format") (codes "serve") refl (format_named words (asked, format)) (serve_named words is_serve));
        serve = λ again are. subst (λ (a : Option Moment). DoesServe (one_moment a one) source drive old new sink status log) (one_serve words at again spelled are) does;
        make = λ n time are. absurd (names_differ words (codes "serve") (codes "make") refl (serve_named words is_serve) (make_named words (n, time, are)));
        no_form = λ none. absurd (none.no_serve is_serve);
        unread = λ another third. absurd (third is_serve);
        comes = record {
          statuses = serve_all status does.statuses;
          done = λ zero. inr (inr (inr (inr (inl is_serve))));
          refused = λ one. absurd (other status 1 (0 ∷ 2 ∷ 3 ∷ 4 ∷ 5 ∷ 6 ∷ 7 ∷ 8 ∷ []) refl does.statuses one);
          script = λ two. inr is_serve;
          volume = λ three. inr (inr (inl is_serve));
          drive = λ four. inr (inr (inr (inl is_serve)));
          read = λ five. inr is_serve;
          full = λ eight. inr (inl is_serve);
          logged = if_some log (λ l. RunScripts words) (λ l is. inr (inl is_serve));
        };
        told = (of_serve does.told.0, (at, spelled, does.told.1), does.told.2);
      }

  -- what `make` promises is promised of its words
  pub make_asked : (count : ℕ) (at : Option Moment) → IsMakeWords words count at → TakesNothing source → DoesMake (one_moment at one) count drive old new sink status log
      → DoesAsked words gives one source sink drive old new status log
  make_asked count at spelled nothing does =
      let is_make : IsMake words = (count, at, spelled) in record {
        plain = λ again are. absurd (names_differ words (codes "plain") (codes "make") refl (plain_named words (again, are)) (make_named words is_make));
        label = λ label. absurd (names_differ words (codes "label") (codes "make") refl (label_named words label) (make_named words is_make));
        list = λ all list. absurd (names_differ words (codes "list") (codes "make") refl (list_named words (all, list)) (make_named words is_make));
        generations = λ generations. absurd (names_differ words (codes "make") (codes "generations") refl (make_named words is_make) (generations_named words generations));
        view = λ asked view. absurd (names_differ words (codes "make") (codes "view") refl (make_named words is_make) (view_named words (asked, view)));
        format = λ asked format. absurd (names_differ words (codes "format") (codes "make") refl (format_named words (asked, format)) (make_named words is_make));
        serve = λ again are. absurd (names_differ words (codes "serve") (codes "make") refl (serve_named words (again, are)) (make_named words is_make));
        make = λ n time are.
            let same = one_make words count n at time spelled are in
            subst (λ (a : Option Moment). DoesMake (one_moment a one) n drive old new sink status log) same.1
            (subst (λ (k : ℕ). DoesMake (one_moment at one) k drive old new sink status log) same.0 does);
        no_form = λ none. absurd (none.no_make is_make);
        unread = λ another third. nothing;
        comes = record {
          statuses = make_all status does.statuses;
          done = λ zero. inr (inr (inr (inr (inr (inl is_make)))));
          refused = λ one. absurd (other status 1 (0 ∷ 3 ∷ 4 ∷ 6 ∷ 7 ∷ 8 ∷ []) refl does.statuses one);
          script = λ two. absurd (other status 2 (0 ∷ 3 ∷ 4 ∷ 6 ∷ 7 ∷ 8 ∷ []) refl does.statuses two);
          volume = λ three. inr (inr (inr (inl is_make)));
          drive = λ four. inr (inr (inr (inr (inl is_make))));
          read = λ five. absurd (other status 5 (0 ∷ 3 ∷ 4 ∷ 6 ∷ 7 ∷ 8 ∷ []) refl does.statuses five);
          full = λ eight. inr (inr is_make);
          logged = if_some log (λ l. RunScripts words) (λ l is. inr (inr is_make));
        };
        told = (of_make does.told.0, (count, at, spelled, nothing, does.told.1), does.told.2);
      }

  -- words of no form are refused as is promised
  pub form_asked : HasNoForm words → TakesNothing source → new ≡ old → log ≡ None → IsTold 1 (codes "words\n") sink status
      → DoesAsked words gives one source sink drive old new status log
  form_asked none nothing same no_log told =
      let among : IsOneOf status (1 ∷ 6 ∷ 7 ∷ []) = by_status (λ n. IsOneOf n (1 ∷ 6 ∷ 7 ∷ [])) 1 (codes "words\n") sink status told (inl refl) (λ rose. inr (inl refl)) in
      let all : IsOneOf status (0 ∷ 1 ∷ 2 ∷ 3 ∷ 4 ∷ 5 ∷ 6 ∷ 7 ∷ 8 ∷ []) =
      by_status (λ n. IsOneOf n (0 ∷ 1 ∷ 2 ∷ 3 ∷ 4 ∷ 5 ∷ 6 ∷ 7 ∷ 8 ∷ [])) 1 (codes "words\n") sink status told (inr (inl refl)) (λ rose. inr (inr (inr (inr (inr (inr (inl refl))))))) in record {
        plain = λ at are. absurd (none.no_plain (at, are));
        label = λ label. absurd (none.no_label label);
        list = λ all list. absurd (none.no_list (all, list));
        generations = λ generations. absurd (none.no_generations generations);
        view = λ asked view. absurd (none.no_view (asked, view));
        format = λ asked format. absurd (none.no_format (asked, format));
        serve = λ at are. absurd (none.no_serve (at, are));
        make = λ n time are. absurd (none.no_make (n, time, are));
        no_form = λ again. record {
          statuses = among;
          printed = λ one. (by_text 1 1 (codes "words\n") sink status told (λ e. cc e) one).1;
          only_write = by_six 1 (codes "words\n") sink status told (λ e. cc e);
          memory = λ seven. absurd (let bad : 1 ≡ 7 = (by_text 7 1 (codes "words\n") sink status told (λ e. cc e) seven).0 in cc bad);
          drive = same;
          no_log = no_log;
        };
        unread = λ another third. nothing;
        comes = record {
          statuses = all;
          done = λ zero. absurd (other status 0 (1 ∷ 6 ∷ 7 ∷ []) refl among zero);
          refused = λ one. none;
          script = λ two. absurd (other status 2 (1 ∷ 6 ∷ 7 ∷ []) refl among two);
          volume = λ three. absurd (other status 3 (1 ∷ 6 ∷ 7 ∷ []) refl among three);
          drive = λ four. absurd (other status 4 (1 ∷ 6 ∷ 7 ∷ []) refl among four);
          read = λ five. absurd (other status 5 (1 ∷ 6 ∷ 7 ∷ []) refl among five);
          full = λ eight. absurd (other status 8 (1 ∷ 6 ∷ 7 ∷ []) refl among eight);
          logged = none_logged words log no_log;
        };
        told = (of_no_form, (none, nothing), (no_log, told));
      }

  -- nothing was done
  looks_no : (most : ℕ) → new ≡ old → drive.commands old ≤ 2 ^ 64 - 1 → Looks drive most old new
  looks_no most same range = subst (λ (d : D). Looks drive most old d) (sym same) (more most)
    where
      more : (most : ℕ) → Looks drive most old old
      more most = let none = no_looks drive old range in record {
        held = refl;
        limits = refl;
        reads = record {
          later = none.reads.later;
          bound = omega (arith, range);
          leaves = none.reads.leaves;
          since = none.reads.since;
          kept = none.reads.kept;
        };
      }

  -- want of memory before the words are known is told as is promised
  pub memory_asked : TakesNothing source → new ≡ old → drive.commands old ≤ 2 ^ 64 - 1 → log ≡ None → IsTold 7 (codes "memory\n") sink status
      → DoesAsked words gives one source sink drive old new status log
  memory_asked nothing same range no_log told =
      let among : IsOneOf status (6 ∷ 7 ∷ []) = by_status (λ n. IsOneOf n (6 ∷ 7 ∷ [])) 7 (codes "memory\n") sink status told (inr (inl refl)) (λ rose. inl refl) in
      let all : IsOneOf status (0 ∷ 1 ∷ 2 ∷ 3 ∷ 4 ∷ 5 ∷ 6 ∷ 7 ∷ 8 ∷ []) =
      by_status (λ n. IsOneOf n (0 ∷ 1 ∷ 2 ∷ 3 ∷ 4 ∷ 5 ∷ 6 ∷ 7 ∷ 8 ∷ [])) 7 (codes "memory\n") sink status told (inr (inr (inr (inr (inr (inr (inr (inl refl)))))))) (λ rose. inr (inr (inr (inr (inr (inr (inl refl))))))) in record {
        plain = λ at are. plain_does at gives source sink old new status log (plains.NoMemory None) same tt (no_log, told);
        label = λ label. label_does drive old new sink status log (unlabelled errors.NoMemory) (if_some (drive.held old) _ (λ c held. tt), tt) (looks_no _ same range) (no_log, told);
        list = λ all list. list_does all drive old new sink status log (unlisted errors.NoMemory) (if_some (drive.held old) _ (λ c held. tt), tt) (looks_no _ same range) (no_log, told);
        generations = λ generations. chain_does drive old new sink status log (untold view_errors.NoMemory) (if_some (drive.held old) _ (λ c held. tt), tt) (looks_no _ same range) no_log told;
        view = λ asked view. view_does asked drive old new sink status log (unseen view_errors.NoMemory) (if_some (drive.held old) _ (λ c held. tt), tt) 0 (record { without = λ none. refl; those = λ path is. inl refl; few = omega arith }, looks_no _ same range) no_log told;
        format = λ asked format. format_does drive old new asked gives sink status log (unformatted refusals.NoMemory) same (subst (λ (d : D). Goes drive old d) (sym same) (goes_still drive old)) (no_log, told);
        serve = λ at are. serve_does drive old new (one_moment at one) source sink log status (unscripted unread.NoMemory) tt (λ none. looks_no _ same range) (ap drive.limits same) (λ held. ap drive.held same ∙ held) (no_log, told);
        make = λ n time are. make_does drive old new (one_moment time one) n sink log status (unmade errors.NoMemory) (if_some (drive.held old) _ (λ c held. tt), tt) (λ none. looks_no _ same range) (ap drive.limits same) (λ held. ap drive.held same ∙ held) (no_log, told);
        no_form = λ again. record {
          statuses = inr among;
          printed = λ one. absurd (other status 1 (6 ∷ 7 ∷ []) refl among one);
          only_write = by_six 7 (codes "memory\n") sink status told (λ e. cc e);
          memory = λ seven. (by_text 7 7 (codes "memory\n") sink status told (λ e. cc e) seven).1;
          drive = same;
          no_log = no_log;
        };
        unread = λ another third. nothing;
        comes = record {
          statuses = all;
          done = λ zero. absurd (other status 0 (6 ∷ 7 ∷ []) refl among zero);
          refused = λ one. absurd (other status 1 (6 ∷ 7 ∷ []) refl among one);
          script = λ two. absurd (other status 2 (6 ∷ 7 ∷ []) refl among two);
          volume = λ three. absurd (other status 3 (6 ∷ 7 ∷ []) refl among three);
          drive = λ four. absurd (other status 4 (6 ∷ 7 ∷ []) refl among four);
          read = λ five. absurd (other status 5 (6 ∷ 7 ∷ []) refl among five);
          full = λ eight. absurd (other status 8 (6 ∷ 7 ∷ []) refl among eight);
          logged = none_logged words log no_log;
        };
        told = (of_memory, nothing, (no_log, told));
      }

-- the words of the command that was read
pub asked_plain : (w words : List (String Global)) (k : Command) (at : Option Moment) → w ≡ words → k ≡ commands.Plain at → IsSpelledBy w (Ok k) → IsPlainWords words at
asked_plain w words k at same is spelled = subst (λ v. IsPlainWords v at) same (subst (λ (k : Command). IsSpelledBy w (Ok k)) is spelled)

-- words that are read as `label` are of its form
pub asked_label : (w words : List (String Global)) (k : Command) → w ≡ words → k ≡ commands.Label → IsSpelledBy w (Ok k) → IsLabel words
asked_label w words k same is spelled = subst IsLabel same (subst (λ (k : Command). IsSpelledBy w (Ok k)) is spelled)

-- words that are read as `list` are of its form, and tell this of `--all`
pub asked_list : (w words : List (String Global)) (k : Command) (all : Bool) → w ≡ words → k ≡ commands.List all → IsSpelledBy w (Ok k) → IsListWords words all
asked_list w words k all same is spelled = subst (λ v. IsListWords v all) same (subst (λ (k : Command). IsSpelledBy w (Ok k)) is spelled)

-- words that are read as `generations` are of its form
pub asked_generations : (w words : List (String Global)) (k : Command) → w ≡ words → k ≡ commands.Generations → IsSpelledBy w (Ok k) → IsGenerations words
asked_generations w words k same is spelled = subst IsGenerations same (subst (λ (k : Command). IsSpelledBy w (Ok k)) is spelled)

-- words that are read as `view` are of its form, with these values
pub asked_view : (w words : List (String Global)) (k : Command) (asked : ViewWords) → w ≡ words → k ≡ commands.View asked → IsSpelledBy w (Ok k) → IsViewWords words asked
asked_view w words k asked same is spelled = subst (λ v. IsViewWords v asked) same (subst (λ (k : Command). IsSpelledBy w (Ok k)) is spelled)

-- words that are refused for their form are of no form
pub asked_none : (w words : List (String Global)) (e : WordsErr) → w ≡ words → e ≡ word_errors.Form → IsSpelledBy w (Err e) → HasNoForm words
asked_none w words e same is spelled = subst HasNoForm same (subst (λ (e : WordsErr). IsSpelledBy w (Err e)) is spelled)

-- words that are read as `format` are of its form, with these values
pub asked_format : (w words : List (String Global)) (k : Command) (asked : FormatWords) → w ≡ words → k ≡ commands.Format asked → IsSpelledBy w (Ok k) → IsFormatWords words asked
asked_format w words k asked same is spelled = subst (λ v. IsFormatWords v asked) same (subst (λ (k : Command). IsSpelledBy w (Ok k)) is spelled)

-- words that are read as `serve` are of its form, with this moment
pub asked_serve : (w words : List (String Global)) (k : Command) (at : Option Moment) → w ≡ words → k ≡ commands.Serve at → IsSpelledBy w (Ok k) → IsServeWords words at
asked_serve w words k at same is spelled = subst (λ v. IsServeWords v at) same (subst (λ (k : Command). IsSpelledBy w (Ok k)) is spelled)

-- words that are read as `make` are of its form, with this count and moment
pub asked_make : (w words : List (String Global)) (k : Command) (count : ℕ) (at : Option Moment) → w ≡ words → k ≡ commands.Make count at → IsSpelledBy w (Ok k) → IsMakeWords words count at
asked_make w words k count at same is spelled = subst (λ v. IsMakeWords v count at) same (subst (λ (k : Command). IsSpelledBy w (Ok k)) is spelled)

-- a count of words is 1,024 at most
given_few : (text : Option (List ℕ)) (count : ℕ) → count_told text ≡ Some count → count ≤ most_calls
given_few text count is = by (option_and_then number_of text) is
  where
    by_test : (n : ℕ) (b : Bool) → (nat_le 1 n && nat_le n most_calls) ≡ b → (if b then Some n else None) ≡ Some count → count ≤ most_calls
    by_test n true test same =
        let n_is : n ≡ count = cc same in
        grind (arith, nat_tests, test, n_is)
    by_test n false test same = cc same

    by : (told : Option ℕ) → option_and_then (λ n. if nat_le 1 n && nat_le n most_calls then Some n else None) told ≡ Some count → count ≤ most_calls
    by None same = cc same
    by (Some n) same = by_test n (nat_le 1 n && nat_le n most_calls) refl same

-- `make` asks for at most 1,024 calls a session
pub make_few : (words : List (String Global)) (count : ℕ) (at : Option Moment) → IsMakeWords words count at → count ≤ most_calls
make_few words count at is = given_few (value_of make_app (codes "count") is.1) count is.3.counted

-- a moment of words is one of the years 1970 to 9999
pub given_since : (text : Option (List ℕ)) (at : Option Moment) → IsMomentGiven text at → IfSome at IsSince1970
given_since None None given = tt
given_since None (Some at) given = absurd given
given_since (Some text) None given = absurd given
given_since (Some text) (Some at) given = given.1
