-- What a disk that reads ahead keeps.
use Rattle.std.proofs.Common.{◌≡◌, ℕ, ◌+◌, ◌-◌, ◌^◌, ◌<◌, ◌≤◌, ◌⊎◌, ⊎_elim, inl, inr, Bool, true, false, List, [], ◌∷◌, length, take, drop, get_or, Option, Some, None, Result, Ok, Err, refl, sym, ap, ◌∙◌, subst, arith}
use Rattle.std.proofs.lemmas.List.{ext_get_or, get_or-drop, get_or-take, length-drop, length-take, length-take-le}
use Rattle.tape_types.specs.Counts.{HasCause}
use Rattle.crash_steps.specs.Crashes.{Crashes, NothingNew}
use Rattle.byte_disk.specs.Commands.{IsOneMore, WithinWrite}
use Rattle.byte_disk.specs.Files.{AfterWrite, Files, IsBroken, IsWritten, bytes_at, bytes_of, written}
use Rattle.byte_disk.specs.Record.{is_same}
use Rattle.byte_disk.specs.declared.disk.ByteDisk.{Ghosts}
use Rattle.byte_disk.specs.declared.disk.File.{File}
use Rattle.byte_disk.specs.declared.disk.File.TheVariants.{Ip, Dp, Cm}
use Rattle.byte_disk.proofs.Written.{length_written, written_above, written_below}
use Rattle.own_count.proofs.Counting.{reached_over}
use Rattle.own_count.proofs.Running.{runs_once}
use Rattle.disk_layers.specs.Ahead.{AreRight, IsApart, IsBeside, IsForgotten, IsIn, IsKept, IsRight, Looks, RunsIn, Span, Spans, View, leaves_of, span_of}
use Rattle.disk_layers.specs.Layers.{commands_of, since_of}
use Rattle.disk_layers.proofs.Overlaid.{file_cases, other_stays, same_file}

-- no bytes lie in any file
in_none : (span : Span) (file : List ℕ) → span.bytes ≡ [] → IsIn span file
in_none span file none = subst (λ (l : List ℕ). l ≡ bytes_at span.from (length l) file) (sym none) refl

-- ---- what a write leaves of a piece that lies beside it
beside_written : (file : File) (at : ℕ) (bytes : List ℕ) (d e : Files) → at ≤ length (bytes_of file d) → IsWritten file at bytes d e
    → IsBeside file at (length bytes) d e
beside_written file at bytes d e within is = record {
  others = is.others;
  outside = λ i low out. ap (λ (l : List ℕ). get_or l i 0) is.put ∙ ⊎_elim
      (λ (below : i < at). written_below at bytes (bytes_of file d) within i 0 below)
      (λ (above : at + length bytes ≤ i). written_above at bytes (bytes_of file d) within i 0 above)
      out;
  no_shorter =
      let longer : length (bytes_of file e) ≡ length (written at bytes (bytes_of file d)) = ap length is.put in
      omega (arith, longer, length_written at bytes (bytes_of file d) within);
}

beside_broken : (file : File) (at n : ℕ) (d e : Files) → IsBroken file at n d e → IsBeside file at n d e
beside_broken file at n d e is = record {
  others = is.others;
  outside = λ i low out. is.any.outside i low out;
  no_shorter = is.any.no_shorter;
}

pub beside_after : {T E : Type 0} (result : Result T E) (file : File) (at : ℕ) (bytes : List ℕ) (d e : Files) → at ≤ length (bytes_of file d)
    → AfterWrite result file at bytes d e → IsBeside file at (length bytes) d e
beside_after (Ok x) file at bytes d e within after = beside_written file at bytes d e within after
beside_after (Err x) file at bytes d e within after = beside_broken file at (length bytes) d e after

-- a piece that has some bytes ends within its file
ends_in : (span : Span) (file : List ℕ) → IsIn span file → 1 ≤ length span.bytes → span.from + length span.bytes ≤ length file
ends_in span file lies some =
    let size : length span.bytes ≡ length (bytes_at span.from (length span.bytes) file) = ap length lies in
    omega (arith, size, some, length-take (length span.bytes) (drop span.from file), length-drop span.from file)

in_beside : (span : Span) (at n : ℕ) (old new : List ℕ)
    → ((i : ℕ) → i < length old → (i < at) ⊎ (at + n ≤ i) → get_or new i 0 ≡ get_or old i 0) → length old ≤ length new
    → (span.from + length span.bytes ≤ at) ⊎ (at + n ≤ span.from) → 1 ≤ length span.bytes → IsIn span old → IsIn span new
in_beside span at n old new outside longer apart some lies =
    let from : ℕ = span.from in
    let k : ℕ = length span.bytes in
    let end = ends_in span old lies some in
    let size_old : length (bytes_at from k old) ≡ k = length-take-le k (drop from old) (omega (arith, end, length-drop from old)) in
    let size_new : length (bytes_at from k new) ≡ k = length-take-le k (drop from new) (omega (arith, end, longer, length-drop from new)) in
    lies ∙ ext_get_or 0 (bytes_at from k old) (bytes_at from k new) (size_old ∙ sym size_new) (λ i low.
    get_or-take k (drop from old) i 0 (omega (arith, low, size_old)) ∙ get_or-drop from old i 0
    ∙ sym (outside (from + i) (omega (arith, low, size_old, end)) (⊎_elim
    (λ (front : from + k ≤ at). inl (omega (arith, front, low, size_old)))
    (λ (behind : at + n ≤ from). inr (omega (arith, behind)))
    apart))
    ∙ sym (get_or-take k (drop from new) i 0 (omega (arith, low, size_old)) ∙ get_or-drop from new i 0))

-- a piece that lies apart from a write is a piece of the file behind it
in_apart : (span : Span) (file : File) (at n : ℕ) (d e : Files) → IsBeside file at n d e → IsApart at n span
    → IsIn span (bytes_of file d) → IsIn span (bytes_of file e)
in_apart span file at n d e beside (inl none) lies = in_none span (bytes_of file e) none
in_apart span file at n d e beside (inr apart) lies = by span.bytes refl
  where
    by : (l : List ℕ) → span.bytes ≡ l → IsIn span (bytes_of file e)
    by [] none = in_none span (bytes_of file e) none
    by (x ∷ xs) is =
        let size : length span.bytes ≡ length (x ∷ xs) = ap length is in
        in_beside span at n (bytes_of file d) (bytes_of file e) beside.outside beside.no_shorter apart (omega (arith, size)) lies

module _ {D : Type 0} (disk : Ghosts D) where
  pub right_none : (b : D) (file : File) (span : Span) → span.bytes ≡ [] → IsRight disk b file span
  right_none b file span none d is = in_none span (bytes_of file d) none

  -- what only reads leaves a piece right
  pub right_same : (a b : D) (file : File) (span : Span) → disk.held b ≡ disk.held a → IsRight disk a file span → IsRight disk b file span
  right_same a b file span held right d is = right d (sym held ∙ is)

  -- where a piece is forgotten or stays
  forgotten : (b : D) (f : File) (old new : Span) → (new.bytes ≡ []) ⊎ (new ≡ old) → IsRight disk b f old → IsRight disk b f new
  forgotten b f old new (inl none) right = right_none b f new none
  forgotten b f old new (inr same) right = subst (λ (s : Span). IsRight disk b f s) (sym same) right

  pub right_forgotten : (b : D) (file : File) (at n : ℕ) (old new : Spans) → IsForgotten file at n old new → AreRight disk b old → AreRight disk b new
  right_forgotten b file at n old new gone right f = forgotten b f (span_of f old) (span_of f new) (gone.same f) (right f)

  -- behind a write
  pub right_written : {T E : Type 0} (result : Result T E) (file : File) (at : ℕ) (bytes : List ℕ) (a b : D) (spans : Spans)
      → ((d : Files) → disk.held a ≡ Some d → at ≤ length (bytes_of file d))
      → ((d : Files) → disk.held a ≡ Some d → (e : Files) × (disk.held b ≡ Some e) × AfterWrite result file at bytes d e)
      → (disk.held a ≡ None → disk.held b ≡ None) → IsApart at (length bytes) (span_of file spans)
      → AreRight disk a spans → AreRight disk b spans
  right_written result file at bytes a b spans within told_is untold_is apart right f e is = by (disk.held a) refl where
    by : (o : Option Files) → disk.held a ≡ o → IsIn (span_of f spans) (bytes_of f e)
    by None none = absurd (cc (is, untold_is none))
    by (Some d) some =
        let t = told_is d some in
        let same : t.0 ≡ e = cc (t.1, is) in
        let beside = beside_after result file at bytes d t.0 (within d some) t.2 in
        subst (λ (x : Files). IsIn (span_of f spans) (bytes_of f x)) same (⊎_elim
        (λ (here : is_same f file ≡ true).
        let g : f ≡ file = same_file f file here in
        subst (λ (h : File). IsIn (span_of h spans) (bytes_of h t.0)) (sym g)
        (in_apart (span_of file spans) file at (length bytes) d t.0 beside apart (right file d some)))
        (λ (there : is_same f file ≡ false).
        subst (λ (l : List ℕ). IsIn (span_of f spans) l) (sym (other_stays file f d t.0 there beside.others)) (right f d some))
        (file_cases f file))

  -- ---- one command inside
  pub runs_in : {step : Files → Files → Type 0} (a b : D) → IsOneMore (disk.commands a) (disk.commands b)
      → Crashes step (disk.commands a) (disk.leaves a) (disk.leaves b) (disk.left_since a) (disk.left_since b) → RunsIn disk step a b
  runs_in a b more crash =
      runs_once (commands_of disk) (leaves_of disk) (since_of disk) (tt, a) (tt, b) (omega (arith, more.in_range, more.one_more)) crash

  pub looks_once : {T E : Type 0} (result : Result T E) (a b : D) → disk.held b ≡ disk.held a → IsOneMore (disk.commands a) (disk.commands b)
      → HasCause (disk.faults a) (disk.faults b) result
      → Crashes NothingNew (disk.commands a) (disk.leaves a) (disk.leaves b) (disk.left_since a) (disk.left_since b) → Looks disk result a b
  looks_once result a b held more cause crash = record { held = held; runs = runs_in a b more crash; cause = cause }

  -- ---- what is kept
  pub kept : (a b : D) (old new : Spans) (n : ℕ) (past : List (Unit {0} × D))
      → IsKept disk (record { disk = a; spans = old; commands = n; past = past }) → disk.commands a ≤ disk.commands b → AreRight disk b new
      → IsKept disk (record { disk = b; spans = new; commands = n; past = past })
  kept a b old new n past was later right = record {
    counted = record {
      counted = was.counted.counted;
      reached = reached_over (commands_of disk) past (tt, a) (tt, b) later was.counted.reached;
    };
    right = right;
  }

  pub kept_same : (a b : D) (spans : Spans) (n : ℕ) (past : List (Unit {0} × D))
      → IsKept disk (record { disk = a; spans = spans; commands = n; past = past }) → IsOneMore (disk.commands a) (disk.commands b)
      → disk.held b ≡ disk.held a → IsKept disk (record { disk = b; spans = spans; commands = n; past = past })
  kept_same a b spans n past was more held =
      kept a b spans spans n past was (omega (arith, more.in_range, more.one_more)) (λ f. right_same a b f (span_of f spans) held (was.right f))
