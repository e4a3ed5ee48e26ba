-- Once each placement has its reply, the whole log is printed.
use Rattle.std.specs.Prelude.{IfSome, slice_get}
use Rattle.std.proofs.Common.{◌≡◌, ◌∙◌, ℕ, zero, suc, ◌+◌, ◌≤◌, min, Bool, false, true, List, [], ◌∷◌, ◌++◌, length, map, take, drop}
use Rattle.std.proofs.Common.{Option, Some, None, refl, sym, ap, subst, arith, append-nil, append_assoc}
use Rattle.std.specs.List.{enumerate_from, flat_map, zip}
use Rattle.std.specs.Io.KnownBytes.{Appends}
use Rattle.std.proofs.lemmas.List.{take-append-le}
use Rattle.tape_edge.specs.declared.traits.Sink.{Ghosts}
use Rattle.plain_tree.specs.declared.calls.Placed.{Placed}
use Rattle.session_script.specs.LogText.{line_text, log_text}
use Rattle.session_script.specs.declared.logs.Log.{Log}
use Rattle.session_script.specs.declared.logs.Reply.{Reply}
use Rattle.event_journal.specs.Placements.{there}
use Rattle.promises.specs.ServingPromise.Ends.{IsLogOf}
use Rattle.promises.specs.ServingPromise.Served.{View}
use Rattle.line_printer.specs.Printing.{HasTaken, IsCutOff, IsOver, IsWritten, PrinterView}
use Rattle.tape_desk.specs.Held.{Constants, HeldView, constants}
use Rattle.tape_desk.specs.Printed.{IsPrinted, lines_of}
use Rattle.session_run.specs.Printed.{IsLogPrinted}

-- ---- replies that stand

-- those that were told are the first of all
told_first : (told replies : List Reply) (n : ℕ) → map Some told ≡ take n (map Some replies)
    → told ++ drop n replies ≡ replies
told_first [] replies zero e = refl
told_first [] [] (suc n) e = refl
told_first [] (r ∷ replies) (suc n) e = absurd (cc e)
told_first (t ∷ told) replies zero e = absurd (cc e)
told_first (t ∷ told) [] (suc n) e = absurd (cc e)
told_first (t ∷ told) (r ∷ replies) (suc n) e =
    let head : Some t ≡ Some r = cc e in
    let rest : map Some told ≡ take n (map Some replies) = cc e in
    let same : t ≡ r = cc head in
    ap (λ x. x ∷ (told ++ drop n replies)) same ∙ ap (λ l. r ∷ l) (told_first told replies n rest)

-- and all, where there is no further one
none_left : (replies : List Reply) (n : ℕ) → there (slice_get (map Some replies) n) ≡ None → drop n replies ≡ []
none_left [] zero e = refl
none_left [] (suc n) e = refl
none_left (r ∷ replies) zero e = absurd (cc e)
none_left (r ∷ replies) (suc n) e = none_left replies n e

-- ---- their lines

abbrev lines_from : ℕ → List Placed → List Reply → List ℕ
lines_from at history replies = flat_map (λ e. line_text e.0 e.1.0 e.1.1) (enumerate_from at (zip history replies))

-- the lines of the first are a front of those of all
front_lines : (at : ℕ) (history : List Placed) (told more : List Reply)
    → (rest : List ℕ) × (lines_from at history told ++ rest ≡ lines_from at history (told ++ more))
front_lines at [] told more = ([], refl)
front_lines at (p ∷ history) [] more = (lines_from at (p ∷ history) more, refl)
front_lines at (p ∷ history) (t ∷ told) more =
    let next = front_lines (at + 1) history told more in (
      next.0,
      append_assoc (line_text at p t) (lines_from (at + 1) history told) next.0
          ∙ ap (λ l. line_text at p t ++ l) next.1,
    )

-- ---- what was written

none_taken : {X : Type 0} (k : ℕ) → take {A = X} k [] ≡ []
none_taken zero = refl
none_taken (suc k) = refl

cut : {X : Type 0} (l : List X) (n : ℕ) → take (min n (length l)) l ≡ take n l
cut {X} [] n = none_taken (min n (length {A = X} [])) ∙ sym (none_taken n)
cut (b ∷ l) zero = ap (λ k. take k (b ∷ l)) none
  where
    none : min zero (length (b ∷ l)) ≡ zero
    none = omega arith
cut (b ∷ l) (suc n) = ap (λ k. take k (b ∷ l)) step ∙ ap (λ k. b ∷ k) (cut l n)
  where
    step : min (suc n) (length (b ∷ l)) ≡ suc (min n (length l))
    step = omega arith

-- a front of a text is one of a longer one
front_longer : (text rest : List ℕ) (n : ℕ) → take (min n (length text)) (text ++ rest) ≡ take n text
front_longer text rest n = take-append-le (min n (length text)) text rest (omega arith) ∙ cut text n

module _ {K : Type 0} (sink : Ghosts K) (p : PrinterView K) where
  -- a sink that has failed holds a front of any longer text as well
  cut_longer : (text rest : List ℕ) → IsCutOff sink p text → IsCutOff sink p (text ++ rest)
  cut_longer text rest is = record {
    written = (
      min is.written.0 (length text),
      subst (λ l. Appends (sink.written p.first) (sink.written p.out) l) (sym (front_longer text rest is.written.0))
          is.written.1,
    );
    failed = is.failed;
  }

  -- A front of a text was taken, and what lies behind it is missing only where a write has failed or the sink is left
  -- alone.
  taken_longer : (text rest : List ℕ) → (p.quiet ≡ false → p.broken ≡ false → rest ≡ []) → HasTaken sink p text
      → HasTaken sink p (text ++ rest)
  taken_longer text rest out taken = record {
    whole = λ loud sound. subst (IsWritten sink p) (sym (ap (λ l. text ++ l) (out loud sound) ∙ append-nil text))
        (taken.whole loud sound);
    cut = λ loud broken. cut_longer text rest (taken.cut loud broken);
    alone = taken.alone;
  }

  -- of a history in which each placement has its reply all lines were taken
  all_taken : (history : List Placed) (replies told : List Reply) → map Some told ≡ take p.lines (map Some replies)
      → (p.quiet ≡ false → p.broken ≡ false → there (slice_get (map Some replies) p.lines) ≡ None)
      → HasTaken sink p (lines_from 0 history told) → HasTaken sink p (lines_from 0 history replies)
  all_taken history replies told first out taken =
      let rest = front_lines 0 history told (drop p.lines replies) in
      let all : told ++ drop p.lines replies ≡ replies = told_first told replies p.lines first in
      let none : p.quiet ≡ false → p.broken ≡ false → rest.0 ≡ [] = λ loud sound.
      nothing (lines_from 0 history told) rest.0
      (rest.1 ∙ ap (λ l. lines_from 0 history (told ++ l)) (none_left replies p.lines (out loud sound))
      ∙ ap (lines_from 0 history) (append-nil told)) in
      subst (HasTaken sink p) (rest.1 ∙ ap (lines_from 0 history) all)
      (taken_longer (lines_from 0 history told) rest.0 none taken)
    where
      nothing : (l rest : List ℕ) → l ++ rest ≡ l → rest ≡ []
      nothing [] rest e = e
      nothing (b ∷ l) rest e = nothing l rest (cc e)

  -- whatever can be printed of the volume was: so the whole log, which has a reply for each placement
  pub log_taken : {D : Type 0} (v : View D) (log : Log) → IsLogOf v log → IsPrinted sink v p
      → (p.waits ≡ []) × HasTaken sink p (log_text log)
  log_taken v log is printed = (
    printed.none,
    subst (λ h. HasTaken sink p (lines_from 0 h log.replies)) (sym is.history)
        (all_taken v.history log.replies printed.taken.told
        (printed.taken.first ∙ ap (take p.lines) (sym is.replies))
        (λ loud sound. ap (λ l. there (slice_get l p.lines)) is.replies ∙ printed.out loud sound) printed.taken.text),
  )

-- the sink is the one that was handed in
over : {D K : Type 0} (old new : HeldView D K) → constants new ≡ constants old → IsOver old.printer new.printer
over {D} {K} old new same = record {
  first = ap (λ (c : Constants D K). c.first) same;
  quiet = ap (λ (c : Constants D K). c.quiet) same;
}

-- what a shelf has printed of which all calls were made, and whose volume was closed with this log
pub log_printed : {D K : Type 0} (sink : Ghosts K) (old new : HeldView D K) (p : PrinterView K) (log : Log)
    (of : Option Log) → constants new ≡ constants old → IsLogOf new.volume log
    → IsPrinted sink new.volume new.printer → p ≡ new.printer → of ≡ Some log → IsLogPrinted sink old.printer p of
log_printed {D} {K} sink old new p log of same is printed p_is of_is =
    let its = log_taken sink new.printer new.volume log is printed in
    subst (λ (e : PrinterView K × Option Log). IsLogPrinted sink old.printer e.0 e.1)
    (λ i. (sym p_is i, sym of_is i)) (over old new same, its.0, its.1)

-- where nothing was asked nothing was printed
pub none_printed : {D K : Type 0} (old new : HeldView D K) → new ≡ old → new.printer ≡ old.printer
none_printed {D} {K} old new same = ap (λ (h : HeldView D K). h.printer) same
