-- A volume in which nothing waits, and all of whose replies are there, is at rest.
use Rattle.std.specs.Prelude.{◌≡◌, ◌⊎◌, ◌==◌, ◌&&◌, ◌||◌, ◌≤◌, ℕ, true, List, [], ◌∷◌, length, map, Option, Some, None, slice_get}
use Rattle.std.specs.List.{list_any}
use Rattle.std.specs.Option.{option_map}
use Rattle.std.proofs.Common.{⊎_elim, inl, inr, refl, sym, ap, ◌∙◌, arith}
use Rattle.std.proofs.lemmas.Bool.{eq-eqb}
use Rattle.std.proofs.lemmas.Option.{slice_get-map}
use Rattle.tape_types.specs.declared.cartridges.Twin.{Twin}
use Rattle.plain_tree.specs.declared.calls.Placed.{Placed}
use Rattle.session_script.specs.declared.logs.Reply.{Reply}
use Rattle.head_queue.specs.EventLaws.Trail.{drains_now}
use Rattle.head_queue.specs.EventLaws.Waiting.{Request, State, Waiter, is_at_rest, is_calm}
use Rattle.promises.specs.ServingPromise.Faults.{kept_for}
use Rattle.promises.specs.ServingPromise.Marks.{NothingWaits, Phase, draining, idle, phase, waits}
use Rattle.promises.specs.ServingPromise.Served.{AreMarks, AreWaiting}
use Rattle.promises.specs.declared.serving_promise.marks.Mark.{Mark}
use Rattle.promises.proofs.OrderLaws.Marked.{marked}

-- no place of a list of replies that are there has none
none_lacks : (replies : List Reply) (k : ℕ) → slice_get (map Some replies) k ≡ Some None → ⊥
none_lacks replies k e = by (slice_get replies k) (sym (slice_get-map Some replies k) ∙ e)
  where
    by : (o : Option Reply) → option_map Some o ≡ Some None → ⊥
    by None is = cc
    by (Some reply) is = cc

-- nobody waits for the head or a flush
no_waiter : (requests : List Request) (syncs : List Waiter)
    → ((k : ℕ) → (list_any (λ r. r.ticket == k) requests || list_any (λ s. s.ticket == k) syncs) ≡ true → ⊥)
    → (length requests ≡ 0) × (length syncs ≡ 0)
no_waiter [] [] none = (refl, refl)
no_waiter (r ∷ requests) syncs none =
    absurd (none r.ticket (ap (λ b. (b || list_any (λ (r' : Request). r'.ticket == r.ticket) requests)
    || list_any (λ (s : Waiter). s.ticket == r.ticket) syncs) (eq-eqb r.ticket r.ticket refl)))
no_waiter [] (s ∷ syncs) none =
    absurd (none s.ticket (ap (λ b. b || list_any (λ (s' : Waiter). s'.ticket == s.ticket) syncs)
    (eq-eqb s.ticket s.ticket refl)))

no_drain : (drains : List ℕ) → ((who : ℕ) → list_any (λ w. w == who) drains ≡ true → ⊥) → length drains ≡ 0
no_drain [] none = refl
no_drain (w ∷ drains) none =
    absurd (none w (ap (λ b. b || list_any (λ w'. w' == w) drains) (eq-eqb w w refl)))

idle_or : (ph : Phase) → (ph ≡ idle) ⊎ (ph ≡ idle → ⊥)
idle_or idle = inl refl
idle_or draining = inr (λ e. cc)
idle_or (waits p) = inr (λ e. cc)

module _ (sessions : ℕ) (history : List Placed) (replies : List (Option Reply)) (st : State) (kept : List (ℕ × Twin))
    (marks : List Mark) (are : AreMarks sessions history replies st kept marks)
    (nothing : NothingWaits sessions marks) where
  all_idle : (who : ℕ) → phase who marks ≡ idle
  all_idle who =
      ⊎_elim (λ e. e)
      (λ busy.
      let here = marked (λ w. (1 ≤ w) × (w ≤ sessions)) who marks are.sessions_are busy in
      nothing who here.0 here.1)
      (idle_or (phase who marks))

  none_drains : (who : ℕ) → drains_now st who ≡ true → ⊥
  none_drains who drains = let no : idle ≡ draining = sym (all_idle who) ∙ are.drained who (inl drains) in cc

  -- no fault is kept for any session
  pub keeps_none : (who : ℕ) → kept_for who kept ≡ []
  keeps_none who = by (kept_for who kept) refl
    where
      by : (faults : List Twin) → kept_for who kept ≡ faults → kept_for who kept ≡ []
      by [] e = e
      by (t ∷ later) e =
          absurd (let no : idle ≡ draining = sym (all_idle who) ∙ are.drained who (inr (omega (arith, ap length e))) in
          cc)

  -- where all replies are there, nothing waits
  pub at_rest : (there : List Reply) → map Some there ≡ replies → AreWaiting st replies → is_at_rest st ≡ true
  at_rest there are_there waiting =
      let calm = no_waiter st.requests st.syncs
      (λ k waits. none_lacks there k (ap (λ l. slice_get l k) are_there ∙ waiting.waits k waits)) in
      let drained = no_drain st.drains none_drains in
      ap (λ n. n == 0 && is_calm st) calm.0 ∙ ap (λ n. n == 0 && length st.drains == 0) calm.1
      ∙ ap (λ n. n == 0) drained
