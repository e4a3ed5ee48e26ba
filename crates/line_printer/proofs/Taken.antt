-- What was handed in, as more is handed in and as it is written.
use Rattle.std.proofs.Common.{◌≡◌, ℕ, zero, suc, ◌+◌, ◌≤◌, min, Bool, false, not, ◌&&◌, List, [], ◌∷◌, ◌++◌, length, take, Option, Result, Ok, Err, OnOk, OnErr, is_err, refl, sym, ap, ap₂, subst, ◌∙◌, arith, le_trans, append_assoc, append-nil, length-append, true≢false}
use Rattle.std.specs.Io.KnownBytes.{Appends}
use Rattle.std.proofs.KnownBytes.{Appends-trans}
use Rattle.std.proofs.Math.Seq.{take-append-add}
use Rattle.std.proofs.lemmas.List.{take-append-le}
use Rattle.tape_types.specs.Counts.{HasCause, Rose}
use Rattle.tape_edge.specs.Streams.{AppendsFront}
use Rattle.tape_edge.specs.declared.traits.Sink.{Ghosts}
use Rattle.line_printer.specs.Printing.{HasTaken, IsMoved, IsOver, PrinterView, TakesFirst}

none_taken : (k : ℕ) → take {A = ℕ} k [] ≡ []
none_taken zero = refl
none_taken (suc k) = refl

cut_at : (l : List ℕ) (n : ℕ) → take (min n (length l)) l ≡ take n l
cut_at [] n = none_taken (min n (length {A = ℕ} [])) ∙ sym (none_taken n)
cut_at (b ∷ l) zero = ap (λ k. take k (b ∷ l)) none
  where
    none : min zero (length (b ∷ l)) ≡ zero
    none = omega arith
cut_at (b ∷ l) (suc n) = ap (λ k. take k (b ∷ l)) step ∙ ap (λ k. b ∷ k) (cut_at l n)
  where
    step : min (suc n) (length (b ∷ l)) ≡ suc (min n (length l))
    step = omega arith

-- a front of a text is one of a longer text
front_longer : (a b : Option (List ℕ)) (text more : List ℕ) → AppendsFront a b text → AppendsFront a b (text ++ more)
front_longer a b text more front = (
  min front.0 (length text),
  subst (Appends a b) (sym (take-append-le (min front.0 (length text)) text more (omega arith) ∙ cut_at text front.0)) front.1,
)

-- a whole text, and then a front of another one
front_behind : (a b c : Option (List ℕ)) (x y text : List ℕ) → x ++ y ≡ text → Appends a b x → AppendsFront b c y → AppendsFront a c text
front_behind a b c x y text is all front = subst (AppendsFront a c) is (
  length x + front.0,
  subst (Appends a c) (sym (take-append-add x y front.0)) (Appends-trans a b c x (take front.0 y) all front.1),
)

rose_later : (before mid now : ℕ) → before ≤ mid → Rose mid now → Rose before now
rose_later before mid now later rose = omega (arith, later, rose)

abbrev pub view_of : {K : Type 0} → (first out : K) → (quiet broken : Bool) → (lines : ℕ) → (waits : List ℕ) → PrinterView K
view_of first out quiet broken lines waits =
    record { first = first; quiet = quiet; out = out; lines = lines; waits = waits; broken = broken }

-- what is moved is as long as before
pub moved_lengths : (old new bytes left : List ℕ) → IsMoved old new bytes left → length new + length left ≡ length old + length bytes
moved_lengths old new bytes left moved =
    omega (arith, ap length moved.put, ap length moved.rest, length-append old moved.part, length-append moved.part left)

module _ {K : Type 0} (sink : Ghosts K) where
  -- more waits
  grown : (first out : K) (quiet broken : Bool) (lines : ℕ) (waits new part text : List ℕ) → new ≡ waits ++ part
      → HasTaken sink (view_of first out quiet broken lines waits) text → HasTaken sink (view_of first out quiet broken lines new) (text ++ part)
  grown first out quiet broken lines waits new part text is taken = record {
    whole = λ aloud fine. record {
      done = (taken.whole aloud fine).done;
      all = ap (λ l. (taken.whole aloud fine).done ++ l) is ∙ sym (append_assoc (taken.whole aloud fine).done waits part)
          ∙ ap (λ l. l ++ part) (taken.whole aloud fine).all;
      written = (taken.whole aloud fine).written;
      faults = (taken.whole aloud fine).faults;
    };
    cut = λ aloud broke. record {
      written = front_longer (sink.written first) (sink.written out) text part (taken.cut aloud broke).written;
      failed = (taken.cut aloud broke).failed;
    };
    alone = taken.alone;
  }

  pub more_waits : (first out : K) (quiet broken : Bool) (lines : ℕ) (waits new bytes left : List ℕ) (old : PrinterView K)
      → view_of first out quiet broken lines waits ≡ old → IsMoved waits new bytes left
      → TakesFirst sink old (view_of first out quiet broken lines new) bytes left
  more_waits first out quiet broken lines waits new bytes left old is moved =
      subst (λ v. TakesFirst sink v (view_of first out quiet broken lines new) bytes left) is (record {
        over = record { first = refl; quiet = refl };
        lines = refl;
        part = moved.part;
        rest = moved.rest;
        text = λ text taken. grown first out quiet broken lines waits new moved.part text moved.put taken;
      })

  -- the number of lines alone changes
  pub numbered : (first out : K) (quiet broken : Bool) (lines later : ℕ) (waits text : List ℕ) (old : PrinterView K)
      → view_of first out quiet broken lines waits ≡ old → HasTaken sink old text → HasTaken sink (view_of first out quiet broken later waits) text
  numbered first out quiet broken lines later waits text old is old_taken = record {
    whole = λ aloud fine. record {
      done = (taken.whole aloud fine).done;
      all = (taken.whole aloud fine).all;
      written = (taken.whole aloud fine).written;
      faults = (taken.whole aloud fine).faults;
    };
    cut = λ aloud broke. record { written = (taken.cut aloud broke).written; failed = (taken.cut aloud broke).failed };
    alone = taken.alone;
  }
    where
      taken : HasTaken sink (view_of first out quiet broken lines waits) text
      taken = subst (λ v. HasTaken sink v text) (sym is) old_taken

  -- what waits is dropped where nothing is to be written
  pub dropped : (first out : K) (quiet broken : Bool) (lines : ℕ) (waits left text : List ℕ) (old : PrinterView K)
      → view_of first out quiet broken lines waits ≡ old → (not old.quiet && not old.broken) ≡ false
      → HasTaken sink old text → HasTaken sink (view_of first out quiet broken lines left) text
  dropped first out quiet broken lines waits left text old is old_shut old_taken = record {
    whole = λ aloud fine. absurd (true≢false (sym (ap₂ (λ q b. not q && not b) aloud fine) ∙ shut));
    cut = λ aloud broke. record { written = (taken.cut aloud broke).written; failed = (taken.cut aloud broke).failed };
    alone = taken.alone;
  }
    where
      taken : HasTaken sink (view_of first out quiet broken lines waits) text
      taken = subst (λ v. HasTaken sink v text) (sym is) old_taken

      shut : (not quiet && not broken) ≡ false
      shut = ap (λ v. not v.quiet && not v.broken) is ∙ old_shut

  -- what waits was written, or a front of it where the write failed
  sent_by : {T E : Type 0} (first out now : K) (quiet broken failed : Bool) (lines : ℕ) (waits left text : List ℕ) (r : Result T E) → quiet ≡ false → broken ≡ false → left ≡ []
      → OnOk r (Appends (sink.written out) (sink.written now) waits) → OnErr r (AppendsFront (sink.written out) (sink.written now) waits)
      → HasCause (sink.faults out) (sink.faults now) r → failed ≡ is_err r
      → HasTaken sink (view_of first out quiet broken lines waits) text → HasTaken sink (view_of first now quiet failed lines left) text
  sent_by first out now quiet broken failed lines waits left text (Ok u) aloud fine none ok err cause is taken = record {
    whole = λ q b. record {
      done = text;
      all = ap (λ l. text ++ l) none ∙ append-nil text;
      written = subst (Appends (sink.written first) (sink.written now)) (taken.whole aloud fine).all
          (Appends-trans (sink.written first) (sink.written out) (sink.written now) (taken.whole aloud fine).done waits (taken.whole aloud fine).written ok);
      faults = le_trans (taken.whole aloud fine).faults cause.later;
    };
    cut = λ q broke. absurd (true≢false (sym broke ∙ is));
    alone = λ shut. absurd (true≢false (sym shut ∙ aloud));
  }
  sent_by first out now quiet broken failed lines waits left text (Err e) aloud fine none ok err cause is taken = record {
    whole = λ q b. absurd (true≢false (sym is ∙ b));
    cut = λ q broke. record {
      written = front_behind (sink.written first) (sink.written out) (sink.written now) (taken.whole aloud fine).done waits text
          (taken.whole aloud fine).all (taken.whole aloud fine).written err;
      failed = rose_later (sink.faults first) (sink.faults out) (sink.faults now) (taken.whole aloud fine).faults cause.failed;
    };
    alone = λ shut. absurd (true≢false (sym shut ∙ aloud));
  }

  pub sent : {T E : Type 0} (first out now : K) (quiet broken failed : Bool) (lines : ℕ) (waits bytes left text : List ℕ) (r : Result T E) (old : PrinterView K)
      → view_of first out quiet broken lines waits ≡ old → old.quiet ≡ false → old.broken ≡ false → bytes ≡ waits → left ≡ []
      → OnOk r (Appends (sink.written out) (sink.written now) bytes) → OnErr r (AppendsFront (sink.written out) (sink.written now) bytes)
      → HasCause (sink.faults out) (sink.faults now) r → failed ≡ is_err r
      → HasTaken sink old text → HasTaken sink (view_of first now quiet failed lines left) text
  sent first out now quiet broken failed lines waits bytes left text r old is aloud fine same none ok err cause failed_is taken =
      sent_by first out now quiet broken failed lines bytes left text r (ap (λ v. v.quiet) is ∙ aloud) (ap (λ v. v.broken) is ∙ fine) none ok err cause failed_is
      (subst (λ w. HasTaken sink (view_of first out quiet broken lines w) text) (sym same) (subst (λ v. HasTaken sink v text) (sym is) taken))

  -- ---- the first bytes are taken, one piece behind the other

  pub takes_none : (p : PrinterView K) (bytes : List ℕ) → TakesFirst sink p p bytes bytes
  takes_none p bytes = record {
    over = record { first = refl; quiet = refl };
    lines = refl;
    part = [];
    rest = refl;
    text = λ text taken. subst (HasTaken sink p) (sym (append-nil text)) taken;
  }

  pub takes_on : (a b c : PrinterView K) (bytes rest left : List ℕ) → TakesFirst sink a b bytes rest → TakesFirst sink b c rest left → TakesFirst sink a c bytes left
  takes_on a b c bytes rest left x y = record {
    over = record { first = y.over.first ∙ x.over.first; quiet = y.over.quiet ∙ x.over.quiet };
    lines = y.lines ∙ x.lines;
    part = x.part ++ y.part;
    rest = x.rest ∙ ap (λ l. x.part ++ l) y.rest ∙ sym (append_assoc x.part y.part left);
    text = λ text taken. subst (HasTaken sink c) (append_assoc text x.part y.part) (y.text (text ++ x.part) (x.text text taken));
  }

  pub takes_sent : (a b c : PrinterView K) (bytes left : List ℕ) → TakesFirst sink a b bytes left → IsOver b c → c.lines ≡ b.lines
      → ((text : List ℕ) → HasTaken sink b text → HasTaken sink c text) → TakesFirst sink a c bytes left
  takes_sent a b c bytes left x over lines keeps = record {
    over = record { first = over.first ∙ x.over.first; quiet = over.quiet ∙ x.over.quiet };
    lines = lines ∙ x.lines;
    part = x.part;
    rest = x.rest;
    text = λ text taken. keeps (text ++ x.part) (x.text text taken);
  }

  pub takes_all : (a b : PrinterView K) (bytes left : List ℕ) → left ≡ [] → TakesFirst sink a b bytes left
      → (text : List ℕ) → HasTaken sink a text → HasTaken sink b (text ++ bytes)
  takes_all a b bytes left none x text taken =
      subst (λ l. HasTaken sink b (text ++ l)) (sym (x.rest ∙ ap (λ l. x.part ++ l) none ∙ append-nil x.part)) (x.text text taken)
