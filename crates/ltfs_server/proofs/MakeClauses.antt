-- What `make` promises, from what it comes to and what is told of that.
use Rattle.std.proofs.Common.{◌≡◌, ◌∙◌, ℕ, ◌*◌, [], ◌∷◌, Option, Some, None, codes, refl, sym, subst, inl, inr}
use Rattle.std.specs.Prelude.{IfSome}
use Rattle.std.specs.Io.KnownBytes.{Appends}
use Rattle.tape_types.specs.Counts.{Rose}
use Rattle.tape_types.specs.declared.cartridges.Cartridge.{Cartridge}
use Rattle.tape_types.specs.declared.moments.Moment.{Moment}
use Rattle.session_script.specs.Made.{made_script}
use Rattle.session_script.specs.declared.logs.Log.{Log}
use Rattle.tape_drive.specs.Looks.{Looks}
use Rattle.tape_drive.specs.declared.drive.Drive.{Ghosts}
use Rattle.cartridge_meaning.specs.Meaning.{Found}
use Rattle.mount_recover.specs.Known.{mount_most}
use Rattle.mount_recover.specs.Steps.{Blames}
use Rattle.promises.specs.ServingPromise.Headline.{Closed, Failed, Short}
use Rattle.commands.specs.BasicCommands.Headline.{IsMountFaultPrinted}
use Rattle.commands.specs.BasicCommands.Labels.{mount_status}
use Rattle.ltfs_server.specs.Making.{IsMadeEnd, IsMadeFailurePrinted, IsMadeRun, IsMadeShortPrinted, IsSummaryPrinted, MadeEnd, made, made_log, made_status, made_text, starved, unmade}
use Rattle.ltfs_server.specs.Outcomes.{EndsAs, of_make}
use Rattle.commands.specs.BasicCommands.Promises.{ReadsAsNone}
use Rattle.ltfs_server.specs.Promises.{DoesMake}
use Rattle.commands.specs.BasicCommands.Runs.{IsOneOf, Written}
use Rattle.session_run.specs.Serving.{HoldsTree}
use Rattle.ltfs_server.proofs.EndedRuns.{done_or_refused, failed_rose}
use Rattle.commands.proofs.BasicCommands.MountClauses.{among_refused, blamed, drive_told, found_done, memory_told, mount_isnt, mount_known}
use Rattle.commands.proofs.BasicCommands.Told.{by_six, by_status, by_text, if_some, of_some}

-- ---- statuses

mount_all : (n : ℕ) → IsOneOf n (3 ∷ 4 ∷ 7 ∷ []) → IsOneOf n (0 ∷ 3 ∷ 4 ∷ 6 ∷ 7 ∷ 8 ∷ [])
mount_all n (inl three) = inr (inl three)
mount_all n (inr (inl four)) = inr (inr (inl four))
mount_all n (inr (inr (inl seven))) = inr (inr (inr (inr (inl seven))))
mount_all n (inr (inr (inr none))) = absurd none

status_is : (end : MadeEnd) → IsOneOf (made_status end) (0 ∷ 3 ∷ 4 ∷ 6 ∷ 7 ∷ 8 ∷ [])
status_is (unmade e) = mount_all (mount_status e) (mount_known e)
status_is (made log (Closed generation) nodes) = inl refl
status_is (made log (Short need limit) nodes) = inr (inr (inr (inr (inr (inl refl)))))
status_is (made log (Failed counts) nodes) = inr (inr (inl refl))
status_is (starved log) = inr (inr (inr (inr (inl refl))))

not_six : (end : MadeEnd) → made_status end ≡ 6 → ⊥
not_six (unmade e) six = mount_isnt e 6 (λ x. cc x) (λ x. cc x) (λ x. cc x) six
not_six (made log (Closed generation) nodes) six = absurd (cc six)
not_six (made log (Short need limit) nodes) six = absurd (cc six)
not_six (made log (Failed counts) nodes) six = absurd (cc six)
not_six (starved log) six = absurd (cc six)

refused_none : (end : MadeEnd) → made_status end ≡ 3 → made_log end ≡ None
refused_none (unmade e) three = refl
refused_none (made log (Closed generation) nodes) three = absurd (cc three)
refused_none (made log (Short need limit) nodes) three = absurd (cc three)
refused_none (made log (Failed counts) nodes) three = absurd (cc three)
refused_none (starved log) three = absurd (cc three)

-- ---- what it comes to

module _ {D : Type 0} (drive : Ghosts D) (old new : D) (moment : Option Moment) (count : ℕ) where
  abbrev Ends : MadeEnd → Type 0
  Ends end = IsMadeEnd drive old new moment count end

  log_is : (end : MadeEnd) → Ends end → IfSome (made_log end) (IsMadeRun drive old new moment count)
  log_is (unmade e) is = tt
  log_is (made log end nodes) is = is.1.ended.run
  log_is (starved log) is = is

  -- a cartridge that reads as no tree
  no_tree : (end : MadeEnd) (c : Cartridge) → Ends end → drive.held old ≡ Some c → ReadsAsNone c → IsOneOf (made_status end) (3 ∷ 4 ∷ 6 ∷ 7 ∷ [])
  no_tree (unmade e) c is held none = among_refused (mount_status e) (mount_known e)
  no_tree (made log end nodes) c is held none =
      let found = subst HoldsTree held is.0 in absurd (none found.0 found.1 found.2 found.3)
  no_tree (starved log) c is held none = inr (inr (inr (inl refl)))

  all_done : (end : MadeEnd) (c : Cartridge) → Ends end → ¬ (Rose (drive.faults old) (drive.faults new)) → drive.held old ≡ Some c → Found c
      → IsOneOf (made_status end) (0 ∷ 7 ∷ 8 ∷ [])
  all_done (unmade e) c is still held found =
      done_or_refused (mount_status e) (found_done c (drive.faults old) (drive.faults new) e (of_some (drive.held old) (λ c. Blames e c) c held is.0) is.1 found still)
  all_done (made log (Closed generation) nodes) c is still held found = inl refl
  all_done (made log (Short need limit) nodes) c is still held found = inr (inr (inl refl))
  all_done (made log (Failed counts) nodes) c is still held found = absurd (still (failed_rose drive old new moment (made_script count) log counts is.1.ended))
  all_done (starved log) c is still held found = inr (inl refl)

  module _ (sink : Written) (log : Option Log) where
    abbrev Said : MadeEnd → ℕ → Type 0
    Said end n = (made_status end ≡ n) × Appends sink.old sink.new (made_text end)

    summary_told : (end : MadeEnd) → log ≡ made_log end → Ends end → Said end 0 → IsSummaryPrinted drive old new moment count sink log
    summary_told (unmade e) same is told = absurd (mount_isnt e 0 (λ x. cc x) (λ x. cc x) (λ x. cc x) told.0)
    summary_told (made l (Closed generation) nodes) same is told =
        subst (IsSummaryPrinted drive old new moment count sink) (sym same) (generation, (nodes, is.1, told.1))
    summary_told (made l (Short need limit) nodes) same is told = absurd (cc told.0)
    summary_told (made l (Failed counts) nodes) same is told = absurd (cc told.0)
    summary_told (starved l) same is told = absurd (cc told.0)

    short_told : (end : MadeEnd) → log ≡ made_log end → Ends end → Said end 8 → IsMadeShortPrinted drive old new moment count sink log
    short_told (unmade e) same is told = absurd (mount_isnt e 8 (λ x. cc x) (λ x. cc x) (λ x. cc x) told.0)
    short_told (made l (Closed generation) nodes) same is told = absurd (cc told.0)
    short_told (made l (Short need limit) nodes) same is told =
        subst (IsMadeShortPrinted drive old new moment count sink) (sym same) (need, limit, (nodes, is.1, told.1))
    short_told (made l (Failed counts) nodes) same is told = absurd (cc told.0)
    short_told (starved l) same is told = absurd (cc told.0)

    failure_told : (end : MadeEnd) → log ≡ made_log end → Ends end → Said end 4 → IsMadeFailurePrinted drive old new moment count sink log
    failure_told (unmade e) same is told =
        subst (IsMadeFailurePrinted drive old new moment count sink) (sym same)
        (drive_told e (drive.faults old) (drive.faults new) sink.old sink.new is.1 told)
    failure_told (made l (Closed generation) nodes) same is told = absurd (cc told.0)
    failure_told (made l (Short need limit) nodes) same is told = absurd (cc told.0)
    failure_told (made l (Failed counts) nodes) same is told =
        subst (IsMadeFailurePrinted drive old new moment count sink) (sym same) (counts, (nodes, is.1, told.1))
    failure_told (starved l) same is told = absurd (cc told.0)

    check_told : (end : MadeEnd) → Ends end → Said end 3 → IsMountFaultPrinted (drive.held old) sink.old sink.new
    check_told (unmade e) is told = (e, told.0, blamed e (drive.held old) told.0 is.0, told.1)
    check_told (made l (Closed generation) nodes) is told = absurd (cc told.0)
    check_told (made l (Short need limit) nodes) is told = absurd (cc told.0)
    check_told (made l (Failed counts) nodes) is told = absurd (cc told.0)
    check_told (starved l) is told = absurd (cc told.0)

    memory_is : (end : MadeEnd) → Said end 7 → Appends sink.old sink.new (codes "memory\n")
    memory_is (unmade e) told = memory_told e sink.old sink.new told
    memory_is (made l (Closed generation) nodes) told = absurd (cc told.0)
    memory_is (made l (Short need limit) nodes) told = absurd (cc told.0)
    memory_is (made l (Failed counts) nodes) told = absurd (cc told.0)
    memory_is (starved l) told = told.1

    -- how a made run came to its end, and what was told of it, are what `make` promises
    pub make_does : (status : ℕ) (end : MadeEnd) → Ends end
        → (made_log end ≡ None → Looks drive (mount_most (drive.limits old) * drive.MOST) old new)
        → drive.limits new ≡ drive.limits old → (drive.held old ≡ None → drive.held new ≡ None) → EndsAs (of_make end) sink status log → DoesMake moment count drive old new sink status log
    make_does status end is looks limits untold told =
        let w = made_status end in
        let t = made_text end in record {
          statuses = by_status (λ n. IsOneOf n (0 ∷ 3 ∷ 4 ∷ 6 ∷ 7 ∷ 8 ∷ [])) w t sink status told.1 (status_is end) (λ rose. inr (inr (inr (inl refl))));
          history = subst (λ l. IfSome l (IsMadeRun drive old new moment count)) (sym told.0) (log_is end is);
          refused = by_status (λ n. n ≡ 3 → log ≡ None) w t sink status told.1 (λ three. told.0 ∙ refused_none end three) (λ rose three. absurd (cc three));
          closed = λ zero. summary_told end told.0 is (by_text 0 w t sink status told.1 (λ e. cc e) zero);
          volume = if_some (drive.held old) (λ c. ReadsAsNone c → IsOneOf status (3 ∷ 4 ∷ 6 ∷ 7 ∷ []))
              (λ c held none. by_status (λ n. IsOneOf n (3 ∷ 4 ∷ 6 ∷ 7 ∷ [])) w t sink status told.1 (no_tree end c is held none) (λ rose. inr (inr (inl refl))));
          only_volume = λ three. check_told end is (by_text 3 w t sink status told.1 (λ e. cc e) three);
          only_drive = λ four. failure_told end told.0 is (by_text 4 w t sink status told.1 (λ e. cc e) four);
          only_write = by_six w t sink status told.1 (not_six end);
          memory = λ seven. memory_is end (by_text 7 w t sink status told.1 (λ e. cc e) seven);
          only_full = λ eight. short_told end told.0 is (by_text 8 w t sink status told.1 (λ e. cc e) eight);
          complete = λ still calm. if_some (drive.held old) (λ c. Found c → IsOneOf status (0 ∷ 7 ∷ 8 ∷ []))
              (λ c held found. by_status (λ n. IsOneOf n (0 ∷ 7 ∷ 8 ∷ [])) w t sink status told.1 (all_done end c is still held found) (λ rose. absurd (calm rose)));
          looks = λ none. looks (sym told.0 ∙ none);
          limits = limits;
          untold = untold;
          told = (end, is, told);
        }
