-- One placement more.
use Rattle.std.specs.Prelude.{◌≡◌, ◌==◌, ℕ, suc, ◌+◌, ◌≤◌, ◌<◌, Bool, true, false, cond, List, [], ◌∷◌, ◌++◌, filter, filter_map, length, map, Option, Some, None}
use Rattle.std.specs.List.{enumerate_from, range_with_len, cons_option}
use Rattle.std.proofs.Common.{refl, sym, ap, subst, ◌∙◌, arith, append-nil, length-append}
use Rattle.std.proofs.lemmas.Bool.{eqb-true}
use Rattle.std.proofs.lemmas.List.Elements.{filter_map-append}
use Rattle.plain_tree.specs.History.{Calls, call_at, numbers_of}
use Rattle.plain_tree.specs.declared.calls.Call.{Call}
use Rattle.plain_tree.specs.declared.calls.Call.TheVariants.{Sync}
use Rattle.plain_tree.specs.declared.calls.Fate.{Fate}
use Rattle.plain_tree.specs.declared.calls.Fate.TheVariants as fates
use Rattle.plain_tree.specs.declared.calls.Placed.{Placed}
use Rattle.plain_tree.proofs.HistoryLemmas.{numbers_push}
use Rattle.promises.specs.ServingPromise.Acks.{done_syncs}
use Rattle.promises.specs.ServingPromise.Served.{IsPlacedSoFar, placed_by}
use Rattle.promises.proofs.OrderLaws.Lists.{enumerate-push, range-push}
use Rattle.promises.proofs.OrderLaws.Picked.{picked, picked_push}

-- ---- numbers

in_order_push : (b : Bool) (numbers : List ℕ) (nth : ℕ) → numbers ≡ range_with_len 0 (length numbers) → (b ≡ true → nth ≡ length numbers)
    → numbers ++ cond b (nth ∷ []) [] ≡ range_with_len 0 (length (numbers ++ cond b (nth ∷ []) []))
in_order_push true numbers nth so_far next =
    let longer : suc (length numbers) ≡ length (numbers ++ nth ∷ []) = omega (arith, length-append numbers (nth ∷ [])) in
    let last : nth ≡ 0 + length numbers = omega (arith, next refl) in
    ap (λ l. l ++ nth ∷ []) so_far ∙ ap (λ n. range_with_len 0 (length numbers) ++ n ∷ []) last ∙ sym (range-push 0 (length numbers)) ∙ ap (range_with_len 0) longer
in_order_push false numbers nth so_far next = append-nil numbers ∙ so_far ∙ ap (λ l. range_with_len 0 (length l)) (sym (append-nil numbers))

within_push : (b : Bool) (numbers : List ℕ) (nth most : ℕ) → length numbers ≤ most → (b ≡ true → (nth ≡ length numbers) × (nth < most)) → length (numbers ++ cond b (nth ∷ []) []) ≤ most
within_push true numbers nth most so_far next = let n = next refl in omega (arith, length-append numbers (nth ∷ []), n.0, n.1)
within_push false numbers nth most so_far next = omega (arith, length-append numbers [], so_far)

-- it is the session's next call
pub placed_push : (calls : Calls) (history : List Placed) (p : Placed) → IsPlacedSoFar calls history → p.nth ≡ length (numbers_of history p.who) → p.nth < length (calls p.who)
    → IsPlacedSoFar calls (history ++ p ∷ [])
placed_push calls history p so_far next more = record {
  in_order = λ who. subst (λ l. l ≡ range_with_len 0 (length l)) (sym (numbers_push history p who))
      (in_order_push (p.who == who) (numbers_of history who) p.nth (so_far.in_order who) (λ is. next ∙ ap (λ w. length (numbers_of history w)) (eqb-true p.who who is)));
  within = λ who. subst (λ l. length l ≤ length (calls who)) (sym (numbers_push history p who))
      (within_push (p.who == who) (numbers_of history who) p.nth (length (calls who)) (so_far.within who)
      (λ is. (next ∙ ap (λ w. length (numbers_of history w)) (eqb-true p.who who is), subst (λ w. p.nth < length (calls w)) (eqb-true p.who who is) more)));
}

-- ---- places

count_places : (n who : ℕ) (history : List Placed) → length (picked (λ p. p.who == who) n history) ≡ length (numbers_of history who)
count_places n who [] = refl
count_places n who (p ∷ history) = by (p.who == who) (count_places (n + 1) who history)
  where
    by : (b : Bool) → length (picked (λ p. p.who == who) (n + 1) history) ≡ length (numbers_of history who)
        → length (cons_option (cond b (Some n) None) (picked (λ p. p.who == who) (n + 1) history)) ≡ length (map (λ (p : Placed). p.nth) (cond b (p ∷ filter (λ (p : Placed). p.who == who) history) (filter (λ (p : Placed). p.who == who) history)))
    by true e = ap suc e
    by false e = e

-- a session has as many places as it has numbers of calls
pub as_many_places : (who : ℕ) (history : List Placed) → length (placed_by who history) ≡ length (numbers_of history who)
as_many_places who history = count_places 0 who history

-- one more placement adds its place to those of its own session alone
pub places_push : (who : ℕ) (history : List Placed) (p : Placed) → placed_by who (history ++ p ∷ []) ≡ placed_by who history ++ cond (p.who == who) (length history ∷ []) []
places_push who history p = picked_push (λ q. q.who == who) history p

-- ---- syncs that are done

abbrev pub is_sync : Option Call → Bool
is_sync (Some Sync) = true
is_sync _ = false

-- a sync that is done adds its place to the syncs that are done
pub done_push_sync : (calls : Calls) (history : List Placed) (p : Placed) → p.fate ≡ fates.Done → call_at calls p ≡ Some Sync
    → done_syncs calls (history ++ p ∷ []) ≡ done_syncs calls history ++ length history ∷ []
done_push_sync calls history p fate call =
    ap (filter_map _) (enumerate-push 0 history p)
    ∙ filter_map-append _ (enumerate_from 0 history) ((0 + length history, p) ∷ [])
    ∙ ap (λ l. done_syncs calls history ++ l) (rw fate (rw call (same (length history))))
  where
    same : (n : ℕ) → (0 + n) ∷ [] ≡ n ∷ []
    same n = let e : 0 + n ≡ n = omega arith in ap (λ k. k ∷ []) e

-- a placement that isn't a sync that is done adds none to those
pub done_push_other : (calls : Calls) (history : List Placed) (p : Placed) (fate : Fate) (call : Option Call) → p.fate ≡ fate → call_at calls p ≡ call → (fate ≡ fates.Done → is_sync call ≡ false)
    → done_syncs calls (history ++ p ∷ []) ≡ done_syncs calls history
done_push_other calls history p fates.Void call is_fate is_call other =
    ap (filter_map _) (enumerate-push 0 history p)
    ∙ filter_map-append _ (enumerate_from 0 history) ((0 + length history, p) ∷ [])
    ∙ ap (λ l. done_syncs calls history ++ l) (rw is_fate refl)
    ∙ append-nil (done_syncs calls history)
done_push_other calls history p fates.Done None is_fate is_call other =
    ap (filter_map _) (enumerate-push 0 history p)
    ∙ filter_map-append _ (enumerate_from 0 history) ((0 + length history, p) ∷ [])
    ∙ ap (λ l. done_syncs calls history ++ l) (rw is_fate (rw is_call refl))
    ∙ append-nil (done_syncs calls history)
done_push_other calls history p fates.Done (Some Sync) is_fate is_call other = absurd (let h : true ≡ false = other refl in cc)
done_push_other calls history p fates.Done (Some call) is_fate is_call other =
    ap (filter_map _) (enumerate-push 0 history p)
    ∙ filter_map-append _ (enumerate_from 0 history) ((0 + length history, p) ∷ [])
    ∙ ap (λ l. done_syncs calls history ++ l) (rw is_fate (rw is_call refl))
    ∙ append-nil (done_syncs calls history)
