-- What `plain` promises, from what it comes to and what is told of that.
use Rattle.std.proofs.Common.{◌≡◌, ◌∙◌, ℕ, List, [], ◌∷◌, true, false, Option, Some, None, Ok, Err, codes, refl, sym, subst, inl, inr, arith, ◌⊎◌}
use Rattle.std.specs.Prelude.{IfSome, IsErr, IsOk}
use Rattle.std.specs.Io.KnownBytes.{Appends}
use Rattle.tape_types.specs.Counts.{Rose}
use Rattle.tape_types.specs.declared.moments.Moment.{Moment}
use Rattle.session_script.specs.Grammar.{script_of}
use Rattle.session_script.specs.declared.logs.Log.{Log}
use Rattle.commands.specs.BasicCommands.Headline.{IsPlainRun, IsPrinted, IsReadFaultPrinted, IsRefusalPrinted}
use Rattle.commands.specs.BasicCommands.Outcomes.{EndsAs, IsPlainEnd, IsTold, of_plain, plain_log, plain_status, plain_text}
use Rattle.commands.specs.BasicCommands.Promises.{DoesPlain}
use Rattle.commands.specs.BasicCommands.Runs.{Gives, IsOneOf, IsRunOf, Taken, Written}
use Rattle.commands.specs.declared.basic_commands.plain.PlainEnd.{PlainEnd}
use Rattle.commands.specs.declared.basic_commands.plain.PlainEnd.TheVariants as plains
use Rattle.commands.proofs.BasicCommands.Told.{by_six, by_status, by_text, if_some, of_some}

module _ (at : Option Moment) (gives : Gives) (source : Taken) where
  log_is : (end : PlainEnd) → IsPlainEnd source gives at end → IfSome (plain_log end) (IsRunOf (IsPlainRun at gives) source)
  log_is (plains.Done log) is = is
  log_is (plains.Script refusal) is = tt
  log_is (plains.Source counts) is = tt
  log_is (plains.NoMemory log) is = is

  no_script : (end : PlainEnd) (text : List ℕ) → IsPlainEnd source gives at end → source.left ≡ Some text → IsErr (script_of text)
      → IsOneOf (plain_status end) (2 ∷ 5 ∷ 6 ∷ 7 ∷ [])
  no_script (plains.Done log) text run left bad =
      absurd (let no : false ≡ true = subst IsErr (of_some source.left (λ t. script_of t ≡ Ok run.script) text left run.spelled) bad in cc no)
  no_script (plains.Script refusal) text is left bad = inl refl
  no_script (plains.Source counts) text is left bad = inr (inl refl)
  no_script (plains.NoMemory log) text is left bad = inr (inr (inr (inl refl)))

  all_done : (end : PlainEnd) (text : List ℕ) → IsPlainEnd source gives at end → ¬ (Rose source.before source.now) → source.left ≡ Some text → IsOk (script_of text)
      → IsOneOf (plain_status end) (0 ∷ 7 ∷ [])
  all_done (plains.Done log) text is still left good = inl refl
  all_done (plains.Script refusal) text is still left good =
      absurd (let no : false ≡ true = subst IsOk (of_some source.left (λ t. script_of t ≡ Err refusal) text left is) good in cc no)
  all_done (plains.Source counts) text is still left good = absurd (still (omega (arith, is.lowest, is.rose, is.highest)))
  all_done (plains.NoMemory log) text is still left good = inr (inl refl)

  module _ (sink : Written) where
    refusal_told : (end : PlainEnd) → IsPlainEnd source gives at end → (plain_status end ≡ 2) × Appends sink.old sink.new (plain_text end)
        → IsRefusalPrinted source.left sink.old sink.new
    refusal_told (plains.Done log) is told = absurd (cc told.0)
    refusal_told (plains.Script refusal) is told = (refusal, is, told.1)
    refusal_told (plains.Source counts) is told = absurd (cc told.0)
    refusal_told (plains.NoMemory log) is told = absurd (cc told.0)

    fault_told : (end : PlainEnd) → IsPlainEnd source gives at end → (plain_status end ≡ 5) × Appends sink.old sink.new (plain_text end)
        → IsReadFaultPrinted source.before source.now sink.old sink.new
    fault_told (plains.Done log) is told = absurd (cc told.0)
    fault_told (plains.Script refusal) is told = absurd (cc told.0)
    fault_told (plains.Source counts) is told = (counts, is, told.1)
    fault_told (plains.NoMemory log) is told = absurd (cc told.0)

status_is : (end : PlainEnd) → IsOneOf (plain_status end) (0 ∷ 2 ∷ 5 ∷ 6 ∷ 7 ∷ [])
status_is (plains.Done log) = inl refl
status_is (plains.Script refusal) = inr (inl refl)
status_is (plains.Source counts) = inr (inr (inl refl))
status_is (plains.NoMemory log) = inr (inr (inr (inr (inl refl))))

not_six : (end : PlainEnd) → plain_status end ≡ 6 → ⊥
not_six (plains.Done log) six = absurd (cc six)
not_six (plains.Script refusal) six = absurd (cc six)
not_six (plains.Source counts) six = absurd (cc six)
not_six (plains.NoMemory log) six = absurd (cc six)

refused_none : (end : PlainEnd) → IsOneOf (plain_status end) (2 ∷ 5 ∷ []) → plain_log end ≡ None
refused_none (plains.Done log) (inl two) = absurd (cc two)
refused_none (plains.Done log) (inr (inl five)) = absurd (cc five)
refused_none (plains.Done log) (inr (inr none)) = absurd none
refused_none (plains.Script refusal) one = refl
refused_none (plains.Source counts) one = refl
refused_none (plains.NoMemory log) (inl two) = absurd (cc two)
refused_none (plains.NoMemory log) (inr (inl five)) = absurd (cc five)
refused_none (plains.NoMemory log) (inr (inr none)) = absurd none

six_is_none : {A : Type 0} → IsOneOf 6 (2 ∷ 5 ∷ []) → A
six_is_none (inl two) = absurd (cc two)
six_is_none (inr (inl five)) = absurd (cc five)
six_is_none (inr (inr none)) = absurd none

printed_is : (end : PlainEnd) (log : Option Log) (old new : Option (List ℕ)) → log ≡ plain_log end → (plain_status end ≡ 0) × Appends old new (plain_text end)
    → IsPrinted old new log
printed_is (plains.Done l) log old new same told = subst (IsPrinted old new) (sym same) told.1
printed_is (plains.Script refusal) log old new same told = absurd (cc told.0)
printed_is (plains.Source counts) log old new same told = absurd (cc told.0)
printed_is (plains.NoMemory l) log old new same told = absurd (cc told.0)

memory_is : (end : PlainEnd) (old new : Option (List ℕ)) → (plain_status end ≡ 7) × Appends old new (plain_text end) → Appends old new (codes "memory\n")
memory_is (plains.Done l) old new told = absurd (cc told.0)
memory_is (plains.Script refusal) old new told = absurd (cc told.0)
memory_is (plains.Source counts) old new told = absurd (cc told.0)
memory_is (plains.NoMemory l) old new told = told.1

-- how a plain run came to its end, and what was told of it, are what `plain` promises
pub plain_does : {D : Type 0} (at : Option Moment) (gives : Gives) (source : Taken) (sink : Written) (old new : D) (status : ℕ) (log : Option Log) (end : PlainEnd)
    → new ≡ old → IsPlainEnd source gives at end → EndsAs (of_plain end) sink status log → DoesPlain at gives source sink old new status log
plain_does at gives source sink old new status log end same is told =
    let w = plain_status end in
    let t = plain_text end in record {
      statuses = by_status (λ n. IsOneOf n (0 ∷ 2 ∷ 5 ∷ 6 ∷ 7 ∷ [])) w t sink status told.1 (status_is end) (λ rose. inr (inr (inr (inl refl))));
      history = subst (λ l. IfSome l (IsRunOf (IsPlainRun at gives) source)) (sym told.0) (log_is at gives source end is);
      refused = by_status (λ n. IsOneOf n (2 ∷ 5 ∷ []) → log ≡ None) w t sink status told.1 (λ one. told.0 ∙ refused_none end one) (λ rose one. six_is_none one);
      printed = λ zero. printed_is end log sink.old sink.new told.0 (by_text 0 w t sink status told.1 (λ e. cc e) zero);
      script = if_some source.left (λ text. IsErr (script_of text) → IsOneOf status (2 ∷ 5 ∷ 6 ∷ 7 ∷ []))
          (λ text left bad. by_status (λ n. IsOneOf n (2 ∷ 5 ∷ 6 ∷ 7 ∷ [])) w t sink status told.1 (no_script at gives source end text is left bad) (λ rose. inr (inr (inl refl))));
      only_script = λ two. refusal_told at gives source sink end is (by_text 2 w t sink status told.1 (λ e. cc e) two);
      only_read = λ five. fault_told at gives source sink end is (by_text 5 w t sink status told.1 (λ e. cc e) five);
      only_write = by_six w t sink status told.1 (not_six end);
      memory = λ seven. memory_is end sink.old sink.new (by_text 7 w t sink status told.1 (λ e. cc e) seven);
      complete = λ still quiet. if_some source.left (λ text. IsOk (script_of text) → IsOneOf status (0 ∷ 7 ∷ []))
          (λ text left good. by_status (λ n. IsOneOf n (0 ∷ 7 ∷ [])) w t sink status told.1 (all_done at gives source end text is still left good) (λ rose. absurd (quiet rose)));
      drive = same;
      told = (end, is, told);
    }

-- what was made is told, or that memory was refused
pub plain_either : {D : Type 0} (at : Option Moment) (gives : Gives) (source : Taken) (sink : Written) (old new : D) (status : ℕ) (log made : Option Log) (wanted : ℕ) (end : PlainEnd)
    → new ≡ old → IsPlainEnd source gives at end → log ≡ made → made ≡ plain_log end → wanted ≡ plain_status end
    → IsTold wanted (plain_text end) sink status ⊎ IsTold 7 (codes "memory\n") sink status → DoesPlain at gives source sink old new status log
plain_either at gives source sink old new status log made wanted end same is first second status_is (inl told) =
    plain_does at gives source sink old new status log end same is (first ∙ second, subst (λ w. IsTold w (plain_text end) sink status) status_is told)
plain_either at gives source sink old new status log made wanted end same is first second status_is (inr told) =
    plain_does at gives source sink old new status log (plains.NoMemory (plain_log end)) same (log_is at gives source end is) (first ∙ second, told)
