-- A session that drains does so for a write.
use Rattle.std.specs.Prelude.{◌≡◌, ◌==◌, nat_lt, ℕ, Bool, true, false, cond, List, [], ◌∷◌, ◌++◌, map, filter, filter_map, fold, length, Option, Some, None, slice_get}
use Rattle.std.proofs.Common.{refl, sym, ap, ◌∙◌, subst, append-nil}
use Rattle.std.proofs.lemmas.List.{map-append}
use Rattle.std.proofs.lemmas.List.Elements.{filter-append, filter_map-append}
use Rattle.std.proofs.lemmas.List.Sums.{fold-append}
use Rattle.plain_tree.specs.declared.calls.Call.{Call}
use Rattle.session_script.specs.Grammar.{calls_of}
use Rattle.session_script.specs.declared.logs.Reply.TheVariants as replies
use Rattle.promises.specs.ServingPromise.Asking.{is_write_at}
use Rattle.promises.specs.ServingPromise.Marks.{Phase, after, draining, idle, kinds_of, mark, phase, place_in, places_of, waits}
use Rattle.promises.specs.ServingPromise.Served.{Drive, View}
use Rattle.promises.specs.ServingPromise.Steps.{DrainsOnce, Turns}
use Rattle.promises.specs.ServingPromise.Submits.{CanSubmit, Submits, call_of, is_put_off, standing_ops}
use Rattle.promises.specs.declared.serving_promise.answers.Drained.{Drained}
use Rattle.promises.specs.declared.serving_promise.answers.Drained.TheVariants as drained
use Rattle.promises.specs.declared.serving_promise.answers.Submitted.{Submitted}
use Rattle.promises.specs.declared.serving_promise.answers.Submitted.TheVariants as submitted
use Rattle.promises.specs.declared.serving_promise.answers.Turn.{Turn}
use Rattle.promises.specs.declared.serving_promise.answers.Turn.TheVariants as turns
use Rattle.promises.specs.declared.serving_promise.marks.MarkKind.{MarkKind}
use Rattle.promises.specs.declared.serving_promise.marks.MarkKind.TheVariants.{Places as places, Hands as hands, Begins as begins, Rests as rests}
use Rattle.promises.specs.declared.serving_promise.marks.Mark.{Mark}
use Rattle.promises.specs.ReplyLaws.Draining.{DrainsForWrites, DrainsStayForWrites}
use Rattle.promises.proofs.ReplyLaws.Blocks.{number_is, number_itself}
use Rattle.promises.proofs.ReplyLaws.Lists.{and_first}

-- ---- marks of one session

-- the first of a list is kept or left out by its test
kept_first : {X : Type 0} (p : X → Bool) (x : X) (xs : List X) → p x ≡ true → filter p (x ∷ xs) ≡ x ∷ filter p xs
kept_first p x xs is = rw is refl

left_first : {X : Type 0} (p : X → Bool) (x : X) (xs : List X) → p x ≡ false → filter p (x ∷ xs) ≡ filter p xs
left_first p x xs is = rw is refl

kinds_own : (who : ℕ) (kinds : List MarkKind) → kinds_of who (map (mark who) kinds) ≡ kinds
kinds_own who [] = refl
kinds_own who (k ∷ ks) =
    ap (map (λ (m : Mark). m.kind)) (kept_first (λ (m : Mark). m.who == who) (mark who k) (map (mark who) ks) (number_itself who)) ∙ ap (λ more. k ∷ more) (kinds_own who ks)

kinds_other : (who other : ℕ) (kinds : List MarkKind) → (who == other) ≡ false → kinds_of other (map (mark who) kinds) ≡ []
kinds_other who other [] differ = refl
kinds_other who other (k ∷ ks) differ =
    ap (map (λ (m : Mark). m.kind)) (left_first (λ (m : Mark). m.who == other) (mark who k) (map (mark who) ks) differ) ∙ kinds_other who other ks differ

kinds_append : (who : ℕ) (before added : List Mark) → kinds_of who (before ++ added) ≡ kinds_of who before ++ kinds_of who added
kinds_append who before added =
    ap (map (λ (m : Mark). m.kind)) (filter-append (λ (m : Mark). m.who == who) before added)
    ∙ map-append (λ (m : Mark). m.kind) (filter (λ (m : Mark). m.who == who) before) (filter (λ (m : Mark). m.who == who) added)

phase_append : (who : ℕ) (before added : List Mark) → phase who (before ++ added) ≡ fold after (phase who before) (kinds_of who added)
phase_append who before added = ap (fold after idle) (kinds_append who before added) ∙ fold-append after idle (kinds_of who before) (kinds_of who added)

places_append : (who : ℕ) (before added : List Mark) → places_of who (before ++ added) ≡ places_of who before ++ filter_map place_in (kinds_of who added)
places_append who before added = ap (filter_map place_in) (kinds_append who before added) ∙ filter_map-append place_in (kinds_of who before) (kinds_of who added)

-- ---- a call that marks for one session

-- where that session drains once it is made, it has placed nothing, and was to write
record StillDrains {D : Type 0} (old : View D) (who : ℕ) (kinds : List MarkKind) : Type 0 where
  no_place : filter_map place_in kinds ≡ []
  writes : is_write_at (call_of old who (length (places_of who old.marks))) ≡ true

module _ {D : Type 0} (old new : View D) (who : ℕ) (kinds : List MarkKind) (fixed : new.fixed ≡ old.fixed) (marks : new.marks ≡ old.marks ++ map (mark who) kinds)
    (still : fold after (phase who old.marks) kinds ≡ draining → StillDrains old who kinds) (are : DrainsForWrites old) where
  moved : (w : ℕ) → is_write_at (slice_get (calls_of old.fixed.script w) (length (places_of w (old.marks ++ map (mark who) kinds)))) ≡ true → is_write_at (call_of new w (length (places_of w new.marks))) ≡ true
  moved w is =
      subst (λ ms. is_write_at (slice_get (calls_of new.fixed.script w) (length (places_of w ms))) ≡ true) (sym marks)
      (subst (λ f. is_write_at (slice_get (calls_of f.script w) (length (places_of w (old.marks ++ map (mark who) kinds)))) ≡ true) (sym fixed) is)

  own : phase who (old.marks ++ map (mark who) kinds) ≡ draining → is_write_at (slice_get (calls_of old.fixed.script who) (length (places_of who (old.marks ++ map (mark who) kinds)))) ≡ true
  own drains =
      let s = still (sym (phase_append who old.marks (map (mark who) kinds) ∙ ap (fold after (phase who old.marks)) (kinds_own who kinds)) ∙ drains) in
      let same : places_of who (old.marks ++ map (mark who) kinds) ≡ places_of who old.marks =
      places_append who old.marks (map (mark who) kinds) ∙ ap (λ ks. places_of who old.marks ++ filter_map place_in ks) (kinds_own who kinds)
      ∙ ap (λ ps. places_of who old.marks ++ ps) s.no_place ∙ append-nil (places_of who old.marks) in
      subst (λ ps. is_write_at (slice_get (calls_of old.fixed.script who) (length ps)) ≡ true) (sym same) s.writes

  other : (w : ℕ) → (who == w) ≡ false → phase w (old.marks ++ map (mark who) kinds) ≡ draining
      → is_write_at (slice_get (calls_of old.fixed.script w) (length (places_of w (old.marks ++ map (mark who) kinds)))) ≡ true
  other w differ drains =
      let none = kinds_other who w kinds differ in
      let same : places_of w (old.marks ++ map (mark who) kinds) ≡ places_of w old.marks =
      places_append w old.marks (map (mark who) kinds) ∙ ap (λ ks. places_of w old.marks ++ filter_map place_in ks) none ∙ append-nil (places_of w old.marks) in
      subst (λ ps. is_write_at (slice_get (calls_of old.fixed.script w) (length ps)) ≡ true) (sym same)
      (are w (sym (phase_append w old.marks (map (mark who) kinds) ∙ ap (fold after (phase w old.marks)) none) ∙ drains))

  stay_for_writes : DrainsForWrites new
  stay_for_writes w drains = moved w (by (who == w) refl (ap (phase w) (sym marks) ∙ drains))
    where
      by : (b : Bool) → (who == w) ≡ b → phase w (old.marks ++ map (mark who) kinds) ≡ draining
          → is_write_at (slice_get (calls_of old.fixed.script w) (length (places_of w (old.marks ++ map (mark who) kinds)))) ≡ true
      by true is d =
          subst (λ x. phase x (old.marks ++ map (mark who) kinds) ≡ draining → is_write_at (slice_get (calls_of old.fixed.script x) (length (places_of x (old.marks ++ map (mark who) kinds)))) ≡ true)
          (number_is who w is) own d
      by false is d = other w is d

-- ---- no other call leaves it draining

never : {P : Type 0} (p : ℕ) (b : Bool) → cond b idle (waits p) ≡ draining → P
never p true e = absurd (cc)
never p false e = absurd (cc)

waits_never : {P : Type 0} (p : ℕ) → waits p ≡ draining → P
waits_never p e = absurd (cc)

idle_never : {P : Type 0} → idle ≡ draining → P
idle_never e = absurd (cc)

-- what kinds leave of a phase that is known
from : (before known : Phase) (kinds : List MarkKind) → before ≡ known → fold after before kinds ≡ draining → fold after known kinds ≡ draining
from before known kinds is drains = ap (λ p. fold after p kinds) (sym is) ∙ drains

put_off_writes : {D : Type 0} (v : View D) (call : Option Call) → is_put_off v call ≡ true → is_write_at call ≡ true
put_off_writes v None e = cc
put_off_writes v (Some call) e = and_first (is_write_at (Some call)) (nat_lt 64 (standing_ops v)) e

submits_by : {D : Type 0} (first now : Drive) (old new : View D) (who nth : ℕ) (answer : Submitted) → CanSubmit old who nth → Submits first now old new who nth answer → DrainsForWrites old → DrainsForWrites new
submits_by first now old new who nth (submitted.Ready reply) can s are =
    stay_for_writes old new who (places (length old.history) ∷ hands (length old.history) reply ∷ []) s.fixed s.marks
    (λ d. never (length old.history) (length old.history == length old.history) (from (phase who old.marks) idle (places (length old.history) ∷ hands (length old.history) reply ∷ []) can.free d)) are
submits_by first now old new who nth (submitted.Wait ticket) can s are =
    stay_for_writes old new who (places ticket ∷ []) s.fixed s.marks (λ d. waits_never ticket (from (phase who old.marks) idle (places ticket ∷ []) can.free d)) are
submits_by first now old new who nth submitted.Drain can s are =
    stay_for_writes old new who (begins ∷ []) s.fixed s.marks (λ d. record {
      no_place = refl;
      writes = subst (λ n. is_write_at (call_of old who n) ≡ true) can.next (put_off_writes old (call_of old who nth) (s.drain.only refl));
    }) are

turns_by : {D : Type 0} (most : ℕ) (before now : Drive) (old new : View D) (who ticket : ℕ) (answer : Turn) → phase who old.marks ≡ waits ticket → Turns most before now old new who ticket answer → DrainsForWrites old → DrainsForWrites new
turns_by most before now old new who ticket (turns.Ready reply) is t are =
    stay_for_writes old new who (hands ticket reply ∷ []) t.fixed t.marks (λ d. never ticket (ticket == ticket) (from (phase who old.marks) (waits ticket) (hands ticket reply ∷ []) is d)) are
turns_by most before now old new who ticket turns.More is t are =
    stay_for_writes old new who [] t.fixed t.marks (λ d. waits_never ticket (from (phase who old.marks) (waits ticket) [] is d)) are

drains_by : {D : Type 0} (most : ℕ) (before now : Drive) (old new : View D) (who : ℕ) (answer : Drained) → phase who old.marks ≡ draining → DrainsOnce most before now old new who answer → DrainsForWrites old → DrainsForWrites new
drains_by most before now old new who (drained.Fault counts) is d are =
    stay_for_writes old new who (places (length old.history) ∷ hands (length old.history) (replies.Fault counts) ∷ []) d.fixed d.marks
    (λ e. never (length old.history) (length old.history == length old.history) (from (phase who old.marks) draining (places (length old.history) ∷ hands (length old.history) (replies.Fault counts) ∷ []) is e)) are
drains_by most before now old new who drained.Room is d are =
    stay_for_writes old new who (rests ∷ []) d.fixed d.marks (λ e. idle_never (from (phase who old.marks) draining (rests ∷ []) is e)) are
drains_by most before now old new who drained.More is d are =
    stay_for_writes old new who [] d.fixed d.marks (λ e. record { no_place = refl; writes = are who is }) are

none_drains : {P : Type 0} (who : ℕ) (marks : List Mark) → marks ≡ [] → phase who marks ≡ draining → P
none_drains who marks none drains = idle_never (sym (ap (phase who) none) ∙ drains)

-- the next call of each session that drains is a write, over each call of the volume
pub drains_stay_for_writes : {D : Type 0} (seen : D → Drive) → DrainsStayForWrites seen
drains_stay_for_writes seen = record {
  begins = λ v none who drains. none_drains who v.marks none drains;
  submits = λ first now old new who nth answer can s are. submits_by (seen first) (seen now) old new who nth answer can s are;
  turns = λ most before now old new who ticket answer is t are. turns_by most (seen before) (seen now) old new who ticket answer is t are;
  drains = λ most before now old new who answer is d are. drains_by most (seen before) (seen now) old new who answer is d are;
}
