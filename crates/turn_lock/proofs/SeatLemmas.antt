-- Splitting, joining and merging keep the rule.
use Rattle.std.proofs.Common.{◌≡◌, ℕ, ◌+◌, ◌-◌, ◌<◌, ◌≤◌, false, List, [], ◌∷◌, ◌++◌, length, set, take, drop, Option, None, sym, refl, ap, ◌∙◌, subst, ⊎_elim, arith, length-append, take-append-drop}
use mathlib.Core.Option.{some, none}
use lib.ListN.{get_elem?}
use lib.Seq.{set-get_or}
use Rattle.atomic_table.specs.Table.{State, Me, step, keeps, Allows, Splits, Joins}
use Rattle.atomic_table.proofs.Lists.{set_else, at_snoc, at_longer}
use Rattle.turn_lock.specs.declared.rule.Knowledge.{Knowledge}
use Rattle.turn_lock.specs.Sums.{times}
use Rattle.turn_lock.specs.Histories.{Sees}
use Rattle.turn_lock.specs.Knowing.{owns, owns_times, spent, without_last, last_alone, beside, merged, IsCalm, IsBeside}
use Rattle.turn_lock.specs.Rule.{has, holds_ticket, Fits, IsKept}
use Rattle.turn_lock.specs.Steps.{merges}
use Rattle.turn_lock.proofs.SumLemmas.{total_append, total_set, times_append}
use Rattle.turn_lock.proofs.HistoryLemmas.{sees_fewer, sees_longer}
use Rattle.turn_lock.proofs.RuleLemmas.{no_some, not_both, moved, still_apart, each_set, unserved_before, no_more}

nothing_joined : {P : Type 0} → 0 < 0 → P
nothing_joined lt = absurd (omega (arith, lt))

module _ {T M F : Type 0} (history : T → List M) (fixed : T → F) (names : M → ℕ) (seats : ℕ) (f : F) where
  abbrev V : Type 0
  V = Knowledge M F

  abbrev Mine : Type 0
  Mine = Me (Option T) V

  abbrev Rule : State (Option T) V → Type 0
  Rule = IsKept history fixed names seats f

  -- a view with no ticket, with some of a view's numbers
  part_fits : (serving ticket : ℕ) (whole : List M) (v w : V) → Fits names seats serving ticket whole f v → 0 < length v.numbers → w.ticket ≡ None → w.served ≡ false → w.joined_numbers ≡ [] → w.seen ≡ v.seen → w.fixed ≡ v.fixed → w.seats ≡ v.seats
      → ((n : ℕ) → times n w.numbers ≤ times n v.numbers) → Fits names seats serving ticket whole f w
  part_fits serving ticket whole v w t entitled none_drawn unserved none_joined seen fix count fewer =
      let a : has w.ticket ≡ 0 = ap has none_drawn in let b : length w.joined_numbers ≡ 0 = ap length none_joined in let q = t.same entitled in record {
        ranged = λ j e. absurd (no_some j (sym none_drawn ∙ e));
        entitled = omega (arith, a);
        sees = λ _. subst (λ (l : List M). Sees names seats w.numbers l whole) (sym seen) (sees_fewer names seats v.numbers w.numbers v.seen whole fewer (t.sees entitled));
        sees_joined = λ lt. absurd (omega (arith, lt, b));
        same = λ _. (fix ∙ q.0, count ∙ q.1);
        same_joined = λ lt. absurd (omega (arith, lt, b));
        turn = λ up. absurd (not_both w.served up unserved);
      }

  -- a pass that is split keeps the rule
  pub split_keeps : (id : ℕ) (m : Mine) → IsCalm m → Splits Rule id m.0 (without_last m.0) (last_alone m.0)
  split_keeps id m calm s k at =
      let v : V = m.0 in let l : V = without_last v in let r : V = last_alone v in let vs : List V = s.views in let t = k.each id v at in let no = no_more history fixed names seats f v calm.none_joined in
      let cut : ℕ = length v.numbers - 1 in let all : take cut v.numbers ++ drop cut v.numbers ≡ v.numbers = take-append-drop cut v.numbers in
      let parts : (n : ℕ) → times n (take cut v.numbers) + times n (drop cut v.numbers) ≡ times n v.numbers = λ n. let h : times n (take cut v.numbers ++ drop cut v.numbers) ≡ times n v.numbers = ap (times n) all in omega (arith, h, times_append n (take cut v.numbers) (drop cut v.numbers)) in
      let none_yet : has v.ticket ≡ 0 = ap has calm.no_ticket in
      let fl : Fits names seats k.serving k.ticket k.whole f l = part_fits k.serving k.ticket k.whole v l t calm.some_number refl refl refl refl refl refl (λ n. let p = parts n in omega (arith, p)) in
      let fr : Fits names seats k.serving k.ticket k.whole f r = part_fits k.serving k.ticket k.whole v r t calm.some_number refl refl refl refl refl refl (λ n. let p = parts n in omega (arith, p)) in
      record {
        ticket = k.ticket;
        serving = k.serving;
        whole = k.whole;
        three_words = k.three_words;
        one_slot = k.one_slot;
        ticket_is = k.ticket_is;
        serving_is = k.serving_is;
        count_is = k.count_is;
        low = k.low;
        few_seats = k.few_seats;
        drawn = let d = k.drawn in omega (arith, d, none_yet, total_append (λ (u : V). has u.ticket) (set vs id l) (r ∷ []), total_set (λ (u : V). has u.ticket) vs id v l at);
        apart = λ n. let d = k.apart n in omega (arith, d, total_append (λ (u : V). holds_ticket n u.ticket) (set vs id l) (r ∷ []), total_set (λ (u : V). holds_ticket n u.ticket) vs id v l at);
        shared = let d = k.shared in let h : length (take cut v.numbers ++ drop cut v.numbers) ≡ length v.numbers = ap length all in omega (arith, d, no.0, h, length-append (take cut v.numbers) (drop cut v.numbers), total_append owns (set vs id l) (r ∷ []), total_set owns vs id v l at);
        once = λ n. let d = k.once n in let p = parts n in omega (arith, d, no.1 n, p, total_append (owns_times n) (set vs id l) (r ∷ []), total_set (owns_times n) vs id v l at);
        each = λ i u there. ⊎_elim (each_set history fixed names seats f vs id l (Fits names seats k.serving k.ticket k.whole f) (Fits names seats k.serving k.ticket k.whole f) k.each (λ _ _ _ _ q. q) fl i u) (λ (e : r ≡ u). subst (Fits names seats k.serving k.ticket k.whole f) e fr) (at_snoc (set vs id l) r u i there);
        home = λ h. k.home (unserved_before history fixed names seats f vs id v l at calm.unserved (λ i u there. h i u (at_longer (set vs id l) (r ∷ []) i u there)));
      }

  -- passes that are joined keep the rule
  pub join_keeps : (id other : ℕ) (m o : Mine) → IsCalm m → IsCalm o → Joins Rule id m.0 other o.0 (beside m.0 o.0) spent
  join_keeps id other m o calm calm' s k at apart there =
      let v : V = m.0 in let w : V = o.0 in let b : V = beside v w in let z : V = spent in let vs : List V = s.views in let mid : List V = set vs id b in
      let was : get_elem? vs other ≡ some w = sym (set_else vs id other b apart) ∙ there in
      let t = k.each id v at in let q = k.each other w was in let no = no_more history fixed names seats f v calm.none_joined in let no' = no_more history fixed names seats f w calm'.none_joined in
      let none_yet : has v.ticket ≡ 0 = ap has calm.no_ticket in let none_yet' : has w.ticket ≡ 0 = ap has calm'.no_ticket in
      let fb : Fits names seats k.serving k.ticket k.whole f b = record { ranged = λ j e. absurd (no_some j e); entitled = omega arith; sees = t.sees; sees_joined = q.sees; same = t.same; same_joined = λ lt. (q.same lt).0; turn = λ up. absurd (not_both false up refl) } in
      let fz : Fits names seats k.serving k.ticket k.whole f z = record { ranged = λ j e. absurd (no_some j e); entitled = omega arith; sees = λ lt. nothing_joined lt; sees_joined = λ lt. nothing_joined lt; same = λ lt. nothing_joined lt; same_joined = λ lt. nothing_joined lt; turn = λ up. absurd (not_both false up refl) } in
      record {
        ticket = k.ticket;
        serving = k.serving;
        whole = k.whole;
        three_words = k.three_words;
        one_slot = k.one_slot;
        ticket_is = k.ticket_is;
        serving_is = k.serving_is;
        count_is = k.count_is;
        low = k.low;
        few_seats = k.few_seats;
        drawn = let d = k.drawn in omega (arith, d, none_yet, none_yet', total_set (λ (u : V). has u.ticket) vs id v b at, total_set (λ (u : V). has u.ticket) mid other w z there);
        apart = λ n. let d = k.apart n in omega (arith, d, total_set (λ (u : V). holds_ticket n u.ticket) vs id v b at, total_set (λ (u : V). holds_ticket n u.ticket) mid other w z there);
        shared = let d = k.shared in omega (arith, d, no.0, no'.0, total_set owns vs id v b at, total_set owns mid other w z there);
        once = λ n. let d = k.once n in omega (arith, d, no.1 n, no'.1 n, total_set (owns_times n) vs id v b at, total_set (owns_times n) mid other w z there);
        each = each_set history fixed names seats f mid other z (Fits names seats k.serving k.ticket k.whole f) (Fits names seats k.serving k.ticket k.whole f) (each_set history fixed names seats f vs id b (Fits names seats k.serving k.ticket k.whole f) (Fits names seats k.serving k.ticket k.whole f) k.each (λ _ _ _ _ x. x) fb) (λ _ _ _ _ x. x) fz;
        home = λ h. k.home (unserved_before history fixed names seats f vs id v b at calm.unserved (unserved_before history fixed names seats f mid other w z there calm'.unserved h));
      }

  -- views that are merged keep the rule
  pub merges_keeps : (id : ℕ) (m : Mine) → IsBeside m → Allows Rule 1 id m 0 (λ j. j) (merges names (step 1 0 0 0 none) m)
  merges_keeps id m calm s k one at small =
      let v : V = m.0 in let w : V = merged v in let t = k.each id v at in let q = t.same calm.some_number in
      let j = sees_longer names seats v.numbers v.joined_numbers v.seen v.joined_seen k.whole (t.sees calm.some_number) (t.sees_joined calm.some_joined) in
      let none_yet : has v.ticket ≡ 0 = ap has calm.no_ticket in (
        w,
        keeps,
        tt,
        subst (λ (ws : List ℕ). Rule record { words = ws; homes = s.homes; views = set s.views id w }) (sym (set-get_or s.words 0 0))
            (moved history fixed names seats f s k id v w s.words s.homes k.ticket k.serving k.whole at k.three_words k.ticket_is k.serving_is k.count_is k.one_slot k.low (omega (arith, none_yet)) (still_apart history fixed names seats f s k id v w at (λ n. omega arith))
            (omega (arith, length-append v.numbers v.joined_numbers)) (λ n. omega (arith, times_append n v.numbers v.joined_numbers)) (λ i u ne there r. r)
            record { ranged = λ j e. absurd (no_some j e); entitled = omega arith; sees = λ _. j.2; sees_joined = λ lt. nothing_joined lt; same = λ _. q; same_joined = λ lt. nothing_joined lt; turn = λ up. absurd (not_both false up refl) }
            (λ h. k.home (unserved_before history fixed names seats f s.views id v w at calm.unserved h))),
        subst (λ (n : ℕ). (w ≡ w) × (m.1 ≡ m.1) × Sees names n v.numbers v.seen w.seen × Sees names n v.joined_numbers v.joined_seen w.seen × (v.joined_fixed ≡ v.fixed)) (sym q.1) (refl, refl, j.0, j.1, t.same_joined calm.some_joined ∙ sym q.0),
      )
