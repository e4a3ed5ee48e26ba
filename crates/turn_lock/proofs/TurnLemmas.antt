-- The steps of a turn keep the rule: draw, look, count and next.
use Rattle.std.proofs.Common.{◌≡◌, ◌≢◌, ℕ, ◌+◌, ◌%◌, ◌^◌, ◌<◌, ◌≤◌, Bool, false, List, [], ◌∷◌, ◌++◌, length, get_or, set, Option, Some, sym, refl, ap, ◌∙◌, subst, arith, length-set, get_or-set_other, get_or-set_same, eqb, eq-eqb, ne_eqb}
use Rattle.std.specs.Bool.{MatchBool}
use mathlib.Core.Option.{some, none}
use mathlib.Core.Logic.{dite}
use native.Mathlib.Decide.{ℕ_discrete}
use lib.ListN.{get_elem?}
use lib.Seq.{set-get_or}
use Rattle.std.proofs.lemmas.Bool.Decides.{nat_tests}
use Rattle.std.proofs.lemmas.Option.{same_Some}
use Rattle.atomic_table.specs.Table.{State, Me, step, keeps, takes, gives, stepped, Allows}
use Rattle.atomic_table.proofs.Lists.{set_here, set_again}
use Rattle.turn_lock.specs.declared.rule.Knowledge.{Knowledge}
use Rattle.turn_lock.specs.Histories.{Sees, AddsOwn}
use Rattle.turn_lock.specs.Knowing.{drew, in_turn, ended, IsCalm, IsWaiting, HasTurn}
use Rattle.turn_lock.specs.Rule.{has, holds_ticket, Fits, IsKept}
use Rattle.turn_lock.specs.Steps.{Turns, draws, looks, counts, ends}
use Rattle.turn_lock.proofs.SumLemmas.{total_set, total_zero}
use Rattle.turn_lock.proofs.HistoryLemmas.{sees_all, sees_own}
use Rattle.turn_lock.proofs.RuleLemmas.{no_some, not_both, holds_none, has_some, few_tickets, moved, still_apart, alone, unserved_before, not_home, other_unserved, all_unserved, no_more, others_see}

same_state : {T : Type 0} (x y : T) → ◌≡◌ {A = List (ℕ × Option T)} ((0, Some x) ∷ []) ((0, Some y) ∷ []) → x ≡ y
same_state {T} x y e = let p : ◌≡◌ {A = ℕ × Option T} (0, Some x) (0, Some y) = cc e in let q : Some x ≡ Some y = ap (λ (z : ℕ × Option T). z.1) p in cc q

nothing_joined : {P : Type 0} → 0 < 0 → P
nothing_joined lt = absurd (omega (arith, lt))

module _ {T M F : Type 0} (history : T → List M) (fixed : T → F) (names : M → ℕ) (seats : ℕ) (f : F) where
  abbrev V : Type 0
  V = Knowledge M F

  abbrev St : Type 0
  St = State (Option T) V

  abbrev Mine : Type 0
  Mine = Me (Option T) V

  abbrev Rule : St → Type 0
  Rule = IsKept history fixed names seats f

  draw_fits : (serving ticket : ℕ) (whole : List M) (v : V) → Fits names seats serving ticket whole f v → 0 < length v.numbers → serving ≤ ticket → Fits names seats serving (ticket + 1) whole f (drew v ticket)
  draw_fits a b whole v t some_number le = record {
    ranged = λ n e. let same = same_Some b n e in (omega (arith, le, same), omega (arith, same));
    entitled = omega (arith, some_number);
    sees = t.sees;
    sees_joined = λ lt. nothing_joined lt;
    same = t.same;
    same_joined = λ lt. nothing_joined lt;
    turn = λ e. absurd (not_both false e refl);
  }

  -- a view that draws its ticket keeps the rule
  pub draws_keeps : (id : ℕ) (m : Mine) → IsCalm m → Allows Rule 1 id m 0 (λ n. (n + 1) % 2 ^ 64) (draws (step 1 0 1 0 none) m)
  draws_keeps id m calm s k one at small =
      let v : V = m.0 in
      let t : ℕ = k.ticket in
      let three = k.three_words in
      let is : get_or s.words 0 0 ≡ t = k.ticket_is in
      let few = few_tickets history fixed names seats f s k in
      let low = k.low in
      let narrow = k.few_seats in
      let le : k.serving ≤ t = let d = k.drawn in omega (arith, d) in
      let no_ticket : has v.ticket ≡ 0 = ap has calm.no_ticket in
      let no = no_more history fixed names seats f v calm.none_joined in
      let new : ℕ = (get_or s.words 0 0 + 1) % 2 ^ 64 in
      let new_is : new ≡ t + 1 = omega (arith, is, few, low, narrow) in
      let w : V = drew v t in (
        drew v (get_or s.words 0 0),
        keeps,
        tt,
        subst (λ (n : ℕ). Rule record { words = set s.words 0 new; homes = s.homes; views = set s.views id (drew v n) }) (sym is) (moved history fixed names seats f s k id v w (set s.words 0 new) s.homes (t + 1) k.serving k.whole at (length-set s.words 0 new ∙ k.three_words) (get_or-set_same s.words 0 new 0 (omega arith) ∙ new_is)
            (get_or-set_other s.words 0 1 new 0 (λ z. omega arith) ∙ k.serving_is) (get_or-set_other s.words 0 2 new 0 (λ z. omega arith) ∙ k.count_is) k.one_slot k.low (omega (arith, no_ticket))
            (λ n. dite (ℕ_discrete t n)
            (λ e. let z = total_zero (λ (u : V). holds_ticket n u.ticket) s.views (λ i u there. holds_none n u.ticket (λ j e'. let r = (k.each i u there).ranged j e' in λ bad. omega (arith, r.1, bad, e))) in
            let o : holds_ticket n w.ticket ≤ 1 = grind (arith, nat_tests) in omega (arith, z, o, total_set (λ (u : V). holds_ticket n u.ticket) s.views id v w at))
            (λ ne. let z : holds_ticket n w.ticket ≡ 0 = grind (arith, nat_tests, ne) in let d = k.apart n in omega (arith, z, d, total_set (λ (u : V). holds_ticket n u.ticket) s.views id v w at)))
            (omega (arith, no.0)) (λ n. omega (arith, no.1 n))
            (λ i u ne there r. record { ranged = λ n e. let b = r.ranged n e in (b.0, omega (arith, b.1)); entitled = r.entitled; sees = r.sees; sees_joined = r.sees_joined; same = r.same; same_joined = r.same_joined; turn = r.turn })
            (draw_fits k.serving t k.whole v (k.each id v at) calm.some_number le)
            (λ h. k.home (unserved_before history fixed names seats f s.views id v w at calm.unserved h))),
        (refl, refl),
      )

  -- the turn comes to the seat that waits with the ticket that is served
  turn_fits : (s : St) (k : Rule s) (id n : ℕ) (m : Mine) (x : T) → IsWaiting n m → get_elem? s.views id ≡ some m.0 → k.serving ≡ n → history x ≡ k.whole → Fits names seats k.serving k.ticket k.whole f (in_turn m.0 (history x))
  turn_fits s k id n m x wait at e hist = let t = k.each id m.0 at in let no = no_more history fixed names seats f m.0 wait.none_joined in record {
    ranged = t.ranged;
    entitled = let h = t.entitled in omega (arith, h, no.0);
    sees = λ _. subst (λ (l : List M). Sees names seats m.0.numbers l k.whole) (sym hist) (sees_all names seats m.0.numbers k.whole);
    sees_joined = λ lt. nothing_joined lt;
    same = t.same;
    same_joined = λ lt. nothing_joined lt;
    turn = λ _. (wait.ticket ∙ ap (λ (z : ℕ). Some z) (sym e), hist);
  }

  turn_comes : (s : St) (k : Rule s) (id n : ℕ) (m : Mine) (x : T) → IsWaiting n m → get_elem? s.views id ≡ some m.0 → k.serving ≡ n → history x ≡ k.whole
      → Rule record { words = set s.words 1 (get_or s.words 1 0); homes = set s.homes 0 none; views = set s.views id (in_turn m.0 (history x)) }
  turn_comes s k id n m x wait at e hist = let v : V = m.0 in let w : V = in_turn v (history x) in let no = no_more history fixed names seats f v wait.none_joined in
      subst (λ (ws : List ℕ). Rule record { words = ws; homes = set s.homes 0 none; views = set s.views id w }) (sym (set-get_or s.words 1 0))
      (moved history fixed names seats f s k id v w s.words (set s.homes 0 none) k.ticket k.serving k.whole at k.three_words k.ticket_is k.serving_is k.count_is (length-set s.homes 0 none ∙ k.one_slot) k.low (omega arith)
      (still_apart history fixed names seats f s k id v w at (λ j. omega arith)) (omega (arith, no.0)) (λ j. omega (arith, no.1 j)) (λ i u ne there t. t) (turn_fits s k id n m x wait at e hist) (λ h. absurd (not_home history fixed names seats f s.views id v w at refl h)))

  unmoved : (s : St) (k : Rule s) (i id : ℕ) (v : V) → get_elem? s.views id ≡ some v → Rule record { words = set s.words i (get_or s.words i 0); homes = s.homes; views = set s.views id v }
  unmoved s k i id v at = subst (λ (z : List ℕ × List V). Rule record { words = z.0; homes = s.homes; views = z.1 }) (λ j. (sym (set-get_or s.words i 0) j, sym (set_again s.views id v at) j)) k

  -- a view that has its turn and looks at the state keeps the rule
  pub looks_keeps : (id n : ℕ) (m : Mine) → IsWaiting n m → Allows Rule 1 id m 1 (λ j. j) (looks history fixed names (step 1 1 0 0 none) m)
  looks_keeps id n m wait s k one at small = dite (ℕ_discrete (get_or s.words 1 0) n)
      (λ e. let now : k.serving ≡ n = sym k.serving_is ∙ e in let h = k.home (all_unserved history fixed names seats f s k id n m wait at now) in let x : T = h.0 in let t = k.each id m.0 at in let q = t.same wait.some_number in (
        in_turn m.0 (history x),
        takes 0 (Some x),
        h.1,
        turn_comes s k id n m x wait at now h.2,
        λ j is. let same = same_Some n j (sym wait.ticket ∙ is) in (
          (λ _. let sees : Sees names m.0.seats m.0.numbers m.0.seen (history x) = subst (λ (l : List M). Sees names m.0.seats m.0.numbers m.0.seen l) (sym h.2) (subst (λ (z : ℕ). Sees names z m.0.numbers m.0.seen k.whole) (sym q.1) (t.sees wait.some_number)) in
              record { state = x; known = refl; slot = refl; same = q.0 ∙ ap (λ (z : F). Some z) (sym h.3); sees = sees; own = sees_own names m.0.seats m.0.numbers m.0.seen (history x) sees }),
          λ other. absurd (other (e ∙ same)),
        ),
      ))
      (λ ne. (m.0, keeps, tt, unmoved s k 1 id m.0 at, λ j is. let same = same_Some n j (sym wait.ticket ∙ is) in ((λ e. absurd (ne (e ∙ sym same))), λ _. refl)))

  -- a view that adds to the history in its turn keeps the rule
  pub counts_keeps : (id new : ℕ) (m : Mine) (x : T) → HasTurn (Some x) m → new ≡ length (history x) → AddsOwn names m.0.numbers m.0.seen (history x) → Allows Rule 1 id m 2 (λ _. new) (λ _. counts history (step 1 2 new 0 none) m new)
  counts_keeps id new m x turn long adds s k one at small =
      let v : V = m.0 in let w : V = in_turn v (history x) in let t = k.each id v at in let mine = t.turn turn.served in let three = k.three_words in let no = no_more history fixed names seats f v turn.none_joined in
      let e : k.whole ++ adds.later ≡ history x = ap (λ (l : List M). l ++ adds.later) (sym mine.1) ∙ adds.begins in (
        w,
        keeps,
        tt,
        moved history fixed names seats f s k id v w (set s.words 2 new) s.homes k.ticket k.serving (history x) at (length-set s.words 2 new ∙ k.three_words) (get_or-set_other s.words 2 0 new 0 (λ z. omega arith) ∙ k.ticket_is) (get_or-set_other s.words 2 1 new 0 (λ z. omega arith) ∙ k.serving_is)
            (get_or-set_same s.words 2 new 0 (omega arith) ∙ long) k.one_slot k.low (omega arith) (still_apart history fixed names seats f s k id v w at (λ j. omega arith)) (omega (arith, no.0)) (λ j. omega (arith, no.1 j))
            (λ i u ne there r. let q = others_see history fixed names seats f s k id i v u adds.later (history x) ne at there adds.own e in record { ranged = r.ranged; entitled = r.entitled; sees = q.0; sees_joined = q.1; same = r.same; same_joined = r.same_joined; turn = λ up. absurd (other_unserved history fixed names seats f s k id v at mine.0 i u ne there up) })
            record { ranged = t.ranged; entitled = let h = t.entitled in omega (arith, h, no.0); sees = λ _. sees_all names seats v.numbers (history x); sees_joined = λ lt. nothing_joined lt; same = t.same; same_joined = λ lt. nothing_joined lt; turn = λ _. (mine.0, refl) }
            (λ h. absurd (not_home history fixed names seats f s.views id v w at refl h)),
        (λ y is. (ap (λ (z : T). in_turn v (history z)) (same_state x y (sym turn.has_slot ∙ is)), refl)),
      )

  -- a view that ends its turn, and calls the next ticket, keeps the rule
  pub ends_keeps : (id : ℕ) (m : Mine) (x : T) → HasTurn (Some x) m → m.0.seen ≡ history x → m.0.fixed ≡ Some (fixed x) → Allows Rule 1 id m 1 (λ j. (j + 1) % 2 ^ 64) (ends (step 1 1 1 0 none) m)
  ends_keeps id m x turn hist fix s k one at small =
      let v : V = m.0 in let w : V = ended v in let t = k.each id v at in let mine = t.turn turn.served in let three = k.three_words in let one_slot = k.one_slot in let no = no_more history fixed names seats f v turn.none_joined in
      let now : k.serving ≡ turn.n = same_Some k.serving turn.n (sym mine.0 ∙ turn.ticket) in let low = turn.low in
      let found : get_or s.words 1 0 ≡ k.serving = k.serving_is in
      let new : ℕ = (get_or s.words 1 0 + 1) % 2 ^ 64 in
      let new_is : new ≡ k.serving + 1 = omega (arith, found, now, low) in
      let one_ticket : has v.ticket ≡ 1 = has_some v.ticket k.serving mine.0 in (
        w,
        gives,
        tt,
        subst (λ (c : List (ℕ × Option T)). Rule (stepped s 1 new id c w gives)) (sym turn.has_slot)
            (moved history fixed names seats f s k id v w (set s.words 1 new) (set s.homes 0 (some (Some x))) k.ticket (k.serving + 1) k.whole at (length-set s.words 1 new ∙ k.three_words) (get_or-set_other s.words 1 0 new 0 (λ z. omega arith) ∙ k.ticket_is)
            (get_or-set_same s.words 1 new 0 (omega arith) ∙ new_is) (get_or-set_other s.words 1 2 new 0 (λ z. omega arith) ∙ k.count_is) (length-set s.homes 0 (some (Some x)) ∙ k.one_slot) (omega (arith, now, low)) (omega (arith, one_ticket))
            (still_apart history fixed names seats f s k id v w at (λ j. omega arith)) (omega (arith, no.0)) (λ j. omega (arith, no.1 j))
            (λ i u ne there r. record {
              ranged = λ j e. let b = r.ranged j e in let other : j ≢ k.serving = λ z. ne (alone history fixed names seats f s k i id k.serving u v there at (e ∙ ap (λ (y : ℕ). Some y) z) mine.0) in (omega (arith, b.0, other), b.1);
              entitled = r.entitled;
              sees = r.sees;
              sees_joined = r.sees_joined;
              same = r.same;
              same_joined = r.same_joined;
              turn = λ up. absurd (other_unserved history fixed names seats f s k id v at mine.0 i u ne there up);
            })
            record { ranged = λ j e. absurd (no_some j e); entitled = omega arith; sees = t.sees; sees_joined = λ lt. nothing_joined lt; same = t.same; same_joined = λ lt. nothing_joined lt; turn = λ up. absurd (not_both false up refl) }
            (λ _. (x, set_here s.homes 0 (some (Some x)) (omega arith), sym hist ∙ mine.1, same_Some (fixed x) f (sym fix ∙ (t.same turn.some_number).0)))),
        (refl, refl),
      )

-- what a look tells, where the answer is whether the number found is the ticket
pub looked : {T M F : Type 0} (history : T → List M) (fixed : T → F) (names : M → ℕ) (n found : ℕ) (m w : Me (Option T) (Knowledge M F)) → IsWaiting n m → looks history fixed names (step 1 1 0 0 none) m found w
    → MatchBool (eqb found n) (Turns history fixed names m w) (w ≡ m)
looked history fixed names n found m w h told = let P : Type 0 = Turns history fixed names m w in dite (ℕ_discrete found n)
    (λ e. subst (λ (b : Bool). MatchBool b P (w ≡ m)) (sym (eq-eqb found n e)) ((told n h.ticket).0 e))
    (λ ne. subst (λ (b : Bool). MatchBool b P (w ≡ m)) (sym (ne_eqb found n ne)) ((told n h.ticket).1 ne))
