-- What is known of a volume once all its sessions are done, and of one without a session.
use Rattle.std.specs.Prelude.{◌≡◌, ◌==◌, ◌<◌, ◌≤◌, ℕ, zero, suc, ◌+◌, ◌-◌, max, Bool, true, false, cond, List, [], ◌∷◌, filter, filter_map, fold, length, map, take, drop, ◌++◌, Option, Some, IfSome, slice_index_or}
use Rattle.std.specs.List.{range_with_len}
use Rattle.std.proofs.Common.{⊎_elim, refl, sym, ap, subst, ◌∙◌, arith, append-nil, drop_of_length-le, ne_eqb}
use Rattle.std.proofs.lemmas.Bool.{cases_lt}
use Rattle.std.proofs.lemmas.List.{take_at}
use Rattle.std.proofs.lemmas.Option.{same_Some}
use Rattle.atomic_table.specs.Seated.{TableId}
use Rattle.tape_types.specs.declared.moments.Moment.{Moment}
use Rattle.plain_tree.specs.History.{IsInterleaving, numbers_of}
use Rattle.session_script.specs.Bounds.{most_sessions}
use Rattle.session_script.specs.Grammar.{calls_of}
use Rattle.session_script.specs.Sessions.{HasSessions, greatest_session}
use Rattle.session_script.specs.declared.scripts.ScriptLine.{ScriptLine}
use Rattle.tape_drive.specs.declared.drive.Drive.{Ghosts}
use Rattle.tape_desk.specs.Held.{Constants, HeldView, constants}
use Rattle.tape_desk.specs.Passes.{AreAll, AreDealt, ArePartsOf, DeskView, IsPartOf, IsRested}
use Rattle.tape_desk.specs.Promised.{IsPromised}
use Rattle.promises.specs.ServingPromise.Ends.{begun}
use Rattle.promises.specs.ServingPromise.Marks.{NothingWaits, idle, phase, place_in}
use Rattle.promises.specs.ServingPromise.Served.{View}
use Rattle.promises.proofs.OrderLaws.Placing.{as_many_places}
use Rattle.session_run.specs.Ran.{IsDone, IsServedWhole}

-- ---- sessions that the script doesn't have

greatest_from : List ScriptLine → ℕ → ℕ
greatest_from lines n = fold max n (map (λ (l : ScriptLine). l.who) lines)

not_less : (n : ℕ) (lines : List ScriptLine) → n ≤ fold max n (map (λ (l : ScriptLine). l.who) lines)
not_less n [] = omega arith
not_less n (l ∷ lines) = omega (arith, not_less (max n l.who) lines)

-- a session above all of a list, or 0, has no call in it
no_calls_from : (n : ℕ) (lines : List ScriptLine) (who : ℕ) → HasSessions lines
    → (1 ≤ who → who ≤ fold max n (map (λ (l : ScriptLine). l.who) lines) → ⊥) → length (calls_of lines who) ≡ 0
no_calls_from n [] who has out = refl
no_calls_from n (l ∷ lines) who has out =
    ap (λ b. length (map (λ (y : ScriptLine). y.call) (cond b (l ∷ filter (λ y. y.who == who) lines) (filter (λ y. y.who == who) lines)))) other
    ∙ no_calls_from (max n l.who) lines who (λ k d lt. has (suc k) d (omega arith)) out
  where
    first : (1 ≤ l.who) × (l.who ≤ most_sessions)
    first = has 0 l (omega arith)

    other : (l.who == who) ≡ false
    other = ne_eqb l.who who
        (λ e. out (omega (arith, first.0, e)) (omega (arith, e, not_less (max n l.who) lines)))

no_calls : (lines : List ScriptLine) (who : ℕ) → HasSessions lines → (1 ≤ who → who ≤ greatest_session lines → ⊥)
    → length (calls_of lines who) ≡ 0
no_calls lines who has out = no_calls_from 0 lines who has out

-- ---- the history

-- as many calls of each session of the script as it has there were placed, so all were
interleaved : {D : Type 0} (drive : Ghosts D) (v : View D) → IsPromised drive v → HasSessions v.fixed.script
    → ((who : ℕ) → 1 ≤ who → who ≤ greatest_session v.fixed.script
    → length (numbers_of v.history who) ≡ length (calls_of v.fixed.script who))
    → IsInterleaving (calls_of v.fixed.script) v.history
interleaved drive v promised has each who = promised.served.orderly.placed.in_order who
    ∙ ap (range_with_len 0) (⊎_elim
    (λ (low : who < 1). outside (λ a b. omega (arith, low, a)))
    (λ (some : 1 ≤ who). ⊎_elim
    (λ (high : greatest_session v.fixed.script < who). outside (λ a b. omega (arith, high, b)))
    (λ (most : who ≤ greatest_session v.fixed.script). each who some most)
    (cases_lt (greatest_session v.fixed.script) who))
    (cases_lt who 1))
  where
    outside : (1 ≤ who → who ≤ greatest_session v.fixed.script → ⊥)
        → length (numbers_of v.history who) ≡ length (calls_of v.fixed.script who)
    outside out = let none = no_calls v.fixed.script who has out in
        omega (arith, none, promised.served.orderly.placed.within who)

-- a session whose pass has placed all its calls
placed_all : {D K : Type 0} (drive : Ghosts D) (h : HeldView D K) (p : DeskView D K) → IsPromised drive h.volume
    → IsPartOf p h → IsRested p → IfSome p.fixed (λ f. p.placed ≡ length (calls_of f.volume.script p.who))
    → length (numbers_of h.volume.history p.who) ≡ length (calls_of h.volume.fixed.script p.who)
placed_all {D} {K} drive h p promised part rested all =
    let marks = promised.served.orderly.marks in
    sym (as_many_places p.who h.volume.history) ∙ sym (ap length (marks.places p.who))
    ∙ ap (λ kinds. length (filter_map place_in kinds)) part.own ∙ sym rested.placed
    ∙ subst (λ (o : Option (Constants D K)). IfSome o (λ f. p.placed ≡ length (calls_of f.volume.script p.who)))
    part.fixed all

-- ---- passes that come back

take_whole : {X : Type 0} (xs ys : List X) → take (length xs) (xs ++ ys) ≡ xs
take_whole xs ys = take_at xs ys (length xs) refl

-- a list that was written over through a slice of its length
pub written_back : {X : Type 0} (n : ℕ) (new old : List X) → length new ≡ length old → n ≡ length old
    → take n (new ++ drop (length new) old) ≡ new
written_back n new old same is =
    let none : drop (length new) old ≡ [] = drop_of_length-le old (omega (arith, same)) in
    ap (λ l. take n (new ++ l)) none ∙ ap (λ k. take k (new ++ [])) (is ∙ sym same) ∙ take_whole new []

module _ {D K : Type 0} (lock : TableId) (n : ℕ) (fixed : Constants D K) (ps qs : List (DeskView D K))
    (dealt : AreDealt lock n fixed ps) (same : length qs ≡ length ps)
    (done : (k : ℕ) (p : DeskView D K) → k < length ps → IsDone (slice_index_or ps k p) (slice_index_or qs k p)) where
  locked : (k : ℕ) (p : DeskView D K) → k < length ps → (slice_index_or ps k p).lock ≡ lock
  locked k p lt = (dealt.1 k p lt).lock_is

  who_is : (k : ℕ) (p : DeskView D K) → k < length ps → (slice_index_or qs k p).who ≡ k + 1
  who_is k p lt = (done k p lt).who ∙ (dealt.1 k p lt).who_is

  -- they are all of the desk
  pub are_all : 1 ≤ n → AreAll lock qs
  are_all some = (
    omega (arith, some, same, dealt.0),
    λ k p lt. let here : k < length ps = omega (arith, lt, same) in (
      (done k p here).lock ∙ (dealt.1 k p here).lock_is,
      who_is k p here,
      (done k p here).sessions ∙ (dealt.1 k p here).sessions_are ∙ sym dealt.0 ∙ sym same,
    ),
  )

  fixed_is : (h : HeldView D K) → ArePartsOf qs h → (k : ℕ) (p : DeskView D K) → k < length ps → constants h ≡ fixed
  fixed_is h parts k p lt = same_Some (constants h) fixed
      (sym (parts k p (omega (arith, lt, same))).fixed ∙ (done k p lt).fixed ∙ (dealt.1 k p lt).fixed_is)

  -- what the desk gives back at its close
  pub served_whole : (drive : Ghosts D) (h : HeldView D K) → 1 ≤ n → n ≡ greatest_session fixed.volume.script
      → HasSessions fixed.volume.script → ArePartsOf qs h
      → NothingWaits (greatest_session h.volume.fixed.script) h.volume.marks → IsPromised drive h.volume
      → (constants h ≡ fixed) × IsServedWhole drive h.volume
  served_whole drive h some most has parts nothing promised = (
    kept,
    record {
      promised = promised;
      history = interleaved drive h.volume promised
          (subst (λ (f : Constants D K). HasSessions f.volume.script) (sym kept) has) each;
      nothing = nothing;
    },
  )
    where
      none : DeskView D K
      none = record { lock = lock; sessions = 0; who = 0; placed = 0; seen = []; fixed = Some fixed }

      kept : constants h ≡ fixed
      kept = fixed_is h parts 0 none (omega (arith, some, dealt.0))

      each : (who : ℕ) → 1 ≤ who → who ≤ greatest_session h.volume.fixed.script
          → length (numbers_of h.volume.history who) ≡ length (calls_of h.volume.fixed.script who)
      each who low high =
          let k : ℕ = who - 1 in
          let all : greatest_session h.volume.fixed.script ≡ n =
          ap (λ (f : Constants D K). greatest_session f.volume.script) kept ∙ sym most in
          let lt : k < length ps = omega (arith, low, high, all, dealt.0) in
          let is : (slice_index_or qs k none).who ≡ who = who_is k none lt ∙ omega (arith, low) in
          subst (λ w. length (numbers_of h.volume.history w) ≡ length (calls_of h.volume.fixed.script w)) is
          (placed_all drive h (slice_index_or qs k none) promised (parts k none (omega (arith, lt, same)))
          (done k none lt).rests (done k none lt).all)

-- ---- a script without a session

module _ {D K : Type 0} (drive : Ghosts D) (old opened : HeldView D K) (is : opened ≡ old)
    (promised : IsPromised drive opened.volume) where
  -- a volume without a session is served whole
  pub none_to_serve : old.volume ≡ begun old.volume.fixed old.volume.next → HasSessions opened.volume.fixed.script
      → greatest_session old.volume.fixed.script ≡ 0
      → (constants opened ≡ constants old) × IsServedWhole drive opened.volume
  none_to_serve fresh has none = (
    ap constants is,
    record {
      promised = promised;
      history = interleaved drive opened.volume promised has (λ who low high. absurd (omega (arith, low, high, most)));
      nothing = λ who low high. ap (λ (w : View D). phase who w.marks) begins;
    },
  )
    where
      begins : opened.volume ≡ begun opened.volume.fixed opened.volume.next
      begins = subst (λ (h : HeldView D K). h.volume ≡ begun h.volume.fixed h.volume.next) (sym is) fresh

      most : greatest_session opened.volume.fixed.script ≡ 0
      most = subst (λ (h : HeldView D K). greatest_session h.volume.fixed.script ≡ 0) (sym is) none

-- of a shelf that was opened
pub opened_whole : {D K : Type 0} (drive : Ghosts D) (old new opened : HeldView D K) → opened ≡ new
    → (constants new ≡ constants old) × IsServedWhole drive new.volume
    → (constants opened ≡ constants old) × IsServedWhole drive opened.volume
opened_whole {D} {K} drive old new opened is whole =
    subst (λ (h : HeldView D K). (constants h ≡ constants old) × IsServedWhole drive h.volume) (sym is) whole
