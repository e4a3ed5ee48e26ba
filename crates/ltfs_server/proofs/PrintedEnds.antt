-- What was printed of a served script, by what its printer has taken.
use Rattle.std.proofs.Common.{◌≡◌, ◌∙◌, ℕ, Bool, true, false, cond, List, [], ◌++◌, Option, Some, None, refl, sym, ap, subst, inl, inr, append-nil}
use Rattle.std.specs.Io.KnownBytes.{Appends}
use Rattle.tape_types.specs.Counts.{Rose}
use Rattle.tape_edge.specs.Streams.{AppendsFront}
use Rattle.tape_edge.specs.declared.traits.Sink.{Ghosts}
use Rattle.session_script.specs.LogText.{log_text}
use Rattle.session_script.specs.declared.logs.Log.{Log}
use Rattle.line_printer.specs.Printing.{HasTaken, IsOver, PrinterView, blank}
use Rattle.session_run.specs.Printed.{IsLogPrinted}
use Rattle.commands.specs.BasicCommands.Outcomes.{IsTold}
use Rattle.commands.specs.BasicCommands.Runs.{Written, written}

-- all of a text is written, or a front of it where a write has failed
taken_told : {K : Type 0} (sink : Ghosts K) (out : K) (p : PrinterView K) (text : List ℕ) (wanted status : ℕ)
    → p.first ≡ out → p.quiet ≡ false → p.waits ≡ [] → HasTaken sink p text → status ≡ cond p.broken 6 wanted
    → IsTold wanted text (written sink out p.out) status
taken_told {K} sink out p text wanted status first loud none taken status_is = by p.broken refl
  where
    by : (b : Bool) → p.broken ≡ b → IsTold wanted text (written sink out p.out) status
    by false sound =
        let it = taken.whole loud sound in
        let all : it.done ≡ text =
        sym (append-nil it.done) ∙ ap (λ l. it.done ++ l) (sym none) ∙ it.all in
        inl (
          status_is ∙ ap (λ (b : Bool). cond b 6 wanted) sound,
          subst (λ (k : K). Appends (sink.written k) (sink.written p.out) text) first
              (subst (λ l. Appends (sink.written p.first) (sink.written p.out) l) all it.written),
        )
    by true broken =
        let it = taken.cut loud broken in
        inr (
          status_is ∙ ap (λ (b : Bool). cond b 6 wanted) broken,
          subst (λ (k : K). Rose (sink.faults k) (sink.faults p.out)) first it.failed,
          subst (λ (k : K). AppendsFront (sink.written k) (sink.written p.out) text) first it.written,
        )

module _ {K : Type 0} (sink : Ghosts K) (out : K) where
  -- the line of the end behind the log
  pub printed_told : (old new : PrinterView K) (log : Option Log) (of : Log) (line : List ℕ) (wanted status : ℕ)
      → IsLogPrinted sink (blank out false) old log → log ≡ Some of → IsOver old new → new.waits ≡ []
      → ((text : List ℕ) → HasTaken sink old text → HasTaken sink new (text ++ line))
      → status ≡ cond new.broken 6 wanted
      → IsTold wanted (log_text of ++ line) (written sink out new.out) status
  printed_told old new log of line wanted status printed some over none more status_is =
      let its = subst (IsLogPrinted sink (blank out false) old) some printed in
      taken_told sink out new (log_text of ++ line) wanted status (over.first ∙ its.0.first)
      (over.quiet ∙ its.0.quiet) none (more (log_text of) its.2) status_is

  -- where no call was made the sink is as it was handed in
  pub unprinted_sink : (p : PrinterView K) (log : Option Log) → log ≡ None
      → IsLogPrinted sink (blank out false) p log → p.out ≡ out
  unprinted_sink p log none printed =
      ap (λ (q : PrinterView K). q.out) (subst (IsLogPrinted sink (blank out false) p) none printed)

  -- and where it was to be left alone
  pub quiet_sink : (p : PrinterView K) (log : Option Log) → IsLogPrinted sink (blank out true) p log → p.out ≡ out
  quiet_sink p None printed = ap (λ (q : PrinterView K). q.out) printed
  quiet_sink p (Some log) printed = printed.2.alone printed.0.quiet ∙ printed.0.first
