-- What the rule says of one seat beside another, and how it stays when one seat's view changes.
use Rattle.std.proofs.Common.{◌≡◌, ◌≢◌, ℕ, zero, suc, ◌+◌, ◌^◌, ◌<◌, ◌≤◌, Bool, true, false, List, [], ◌∷◌, ◌++◌, length, get_or, set, Option, Some, None, sym, refl, ap, ◌∙◌, subst, ⊎_elim, arith}
use Rattle.std.specs.List.{All, Contains}
use mathlib.Core.Option.{some, none, some-injective, some-ne-none}
use mathlib.Core.Option as maybe
use mathlib.Core.Logic.{dite}
use native.Mathlib.Decide.{ℕ_discrete}
use lib.ListN.{get_elem?}
use Rattle.std.proofs.lemmas.Bool.Decides.{nat_tests}
use Rattle.std.proofs.lemmas.Bool.{false_from_ne_true}
use Rattle.atomic_table.specs.Table.{State, Me}
use Rattle.atomic_table.proofs.Lists.{at_set, set_else}
use Rattle.turn_lock.specs.declared.rule.Knowledge.{Knowledge}
use Rattle.turn_lock.specs.Sums.{total, times}
use Rattle.turn_lock.specs.Histories.{numbers_to, Sees}
use Rattle.turn_lock.specs.Knowing.{owns, owns_times, IsWaiting}
use Rattle.turn_lock.specs.Rule.{has, holds_ticket, Fits, IsHome, IsKept}
use Rattle.turn_lock.proofs.SumLemmas.{total_set, total_two, total_le, number_within, number_at_most_once}
use Rattle.turn_lock.proofs.HistoryLemmas.{sees_more, adds_anothers}

-- what is nothing is not something
pub no_some : (m : ℕ) → None ≡ Some m → ⊥
no_some m e = cc e

-- nothing is both true and false
pub not_both : (b : Bool) → b ≡ true → b ≡ false → ⊥
not_both b t f = let e : true ≡ false = sym t ∙ f in cc e

-- who has no ticket or another one holds this one not at all
pub holds_none : (n : ℕ) (o : Option ℕ) → ((m : ℕ) → o ≡ Some m → m ≢ n) → holds_ticket n o ≡ 0
holds_none n None h = refl
holds_none n (Some m) h = let ne = h m refl in grind (arith, nat_tests)

holds_one : (n : ℕ) (o : Option ℕ) → o ≡ Some n → holds_ticket n o ≡ 1
holds_one n o e = ap (holds_ticket n) e ∙ grind (arith, nat_tests)

-- who has a ticket has one
pub has_some : (o : Option ℕ) (n : ℕ) → o ≡ Some n → has o ≡ 1
has_some o n e = ap has e

set_at : {A : Type 0} (l : List A) (i : ℕ) (a b : A) → get_elem? l i ≡ some a → get_elem? (set l i b) i ≡ some b
set_at [] i a b e = absurd (some-ne-none a (sym e))
set_at (x ∷ xs) zero a b e = refl
set_at (x ∷ xs) (suc i) a b e = set_at xs i a b e

module _ {T M F : Type 0} (history : T → List M) (fixed : T → F) (names : M → ℕ) (seats : ℕ) (f : F) where
  abbrev V : Type 0
  V = Knowledge M F

  abbrev St : Type 0
  St = State (Option T) V

  abbrev Rule : St → Type 0
  Rule = IsKept history fixed names seats f

  -- there are no more tickets than numbers
  pub few_tickets : (s : St) (k : Rule s) → k.ticket ≤ k.serving + seats
  few_tickets s k = let e = k.drawn in let n = k.shared in omega (arith, e, n, total_le (λ (v : V). has v.ticket) owns s.views (λ i v there. (k.each i v there).entitled))

  -- the views where one has changed
  pub each_set : (vs : List V) (id : ℕ) (w : V) (Old New : V → Type 0) → ((i : ℕ) (v : V) → get_elem? vs i ≡ some v → Old v) → ((i : ℕ) (v : V) → i ≢ id → get_elem? vs i ≡ some v → Old v → New v) → New w
      → (i : ℕ) (v : V) → get_elem? (set vs id w) i ≡ some v → New v
  each_set vs id w Old New old other mine i v there = ⊎_elim (λ (t : (i ≡ id) × (w ≡ v)). subst New t.1 mine) (λ (t : (i ≢ id) × (get_elem? vs i ≡ some v)). other i v t.0 t.1 (old i v t.1)) (at_set vs id i w v there)

  -- one seat's view goes from v to w, and it has the same numbers as before
  pub moved : (s : St) (k : Rule s) (id : ℕ) (v w : V) (words' : List ℕ) (homes' : List (maybe.Option (Option T))) (ticket' serving' : ℕ) (whole' : List M) → get_elem? s.views id ≡ some v
      → length words' ≡ 3 → get_or words' 0 0 ≡ ticket' → get_or words' 1 0 ≡ serving' → get_or words' 2 0 ≡ length whole' → length homes' ≡ 1 → serving' ≤ 2 ^ 63
      → serving' + has w.ticket + k.ticket ≡ ticket' + k.serving + has v.ticket → ((n : ℕ) → total (λ (u : V). holds_ticket n u.ticket) (set s.views id w) ≤ 1)
      → owns w ≡ owns v → ((n : ℕ) → owns_times n w ≡ owns_times n v)
      → ((i : ℕ) (u : V) → i ≢ id → get_elem? s.views i ≡ some u → Fits names seats k.serving k.ticket k.whole f u → Fits names seats serving' ticket' whole' f u) → Fits names seats serving' ticket' whole' f w
      → IsHome history fixed whole' f record { words = words'; homes = homes'; views = set s.views id w }
      → Rule record { words = words'; homes = homes'; views = set s.views id w }
  moved s k id v w words' homes' ticket' serving' whole' at three a b c one low sums apart same same_times other mine home = record {
    ticket = ticket';
    serving = serving';
    whole = whole';
    three_words = three;
    one_slot = one;
    ticket_is = a;
    serving_is = b;
    count_is = c;
    low = low;
    few_seats = k.few_seats;
    drawn = let d = k.drawn in omega (arith, sums, d, total_set (λ (u : V). has u.ticket) s.views id v w at);
    apart = apart;
    shared = let d = k.shared in omega (arith, same, d, total_set owns s.views id v w at);
    once = λ n. let d = k.once n in omega (arith, same_times n, d, total_set (owns_times n) s.views id v w at);
    each = each_set s.views id w (Fits names seats k.serving k.ticket k.whole f) (Fits names seats serving' ticket' whole' f) k.each other mine;
    home = home;
  }

  -- where a view's ticket goes or stays
  pub still_apart : (s : St) (k : Rule s) (id : ℕ) (v w : V) → get_elem? s.views id ≡ some v → ((n : ℕ) → holds_ticket n w.ticket ≤ holds_ticket n v.ticket) → (n : ℕ) → total (λ (u : V). holds_ticket n u.ticket) (set s.views id w) ≤ 1
  still_apart s k id v w at less n = let d = k.apart n in omega (arith, d, less n, total_set (λ (u : V). holds_ticket n u.ticket) s.views id v w at)

  -- the seat with a ticket is alone with it
  pub alone : (s : St) (k : Rule s) (i j n : ℕ) (v w : V) → get_elem? s.views i ≡ some v → get_elem? s.views j ≡ some w → v.ticket ≡ Some n → w.ticket ≡ Some n → i ≡ j
  alone s k i j n v w a b p q = dite (ℕ_discrete i j) (λ e. e) (λ ne.
      let d = k.apart n in absurd (omega (arith, d, holds_one n v.ticket p, holds_one n w.ticket q, total_two (λ (u : V). holds_ticket n u.ticket) s.views i j v w ne a b)))

  -- where none of the changed views is served, none was
  pub unserved_before : (vs : List V) (id : ℕ) (v w : V) → get_elem? vs id ≡ some v → v.served ≡ false → ((i : ℕ) (u : V) → get_elem? (set vs id w) i ≡ some u → u.served ≡ false) → (i : ℕ) (u : V) → get_elem? vs i ≡ some u → u.served ≡ false
  unserved_before vs id v w at no_turn h i u there = dite (ℕ_discrete i id) (λ e. let is : u ≡ v = some-injective u v (sym there ∙ (ap (get_elem? vs) e ∙ at)) in ap (λ (z : V). z.served) is ∙ no_turn) (λ ne. h i u (set_else vs id i w ne ∙ there))

  -- a view that is served has the only turn
  pub not_home : (vs : List V) (id : ℕ) (v w : V) → get_elem? vs id ≡ some v → w.served ≡ true → ((i : ℕ) (u : V) → get_elem? (set vs id w) i ≡ some u → u.served ≡ false) → ⊥
  not_home vs id v w at is h = not_both w.served is (h id w (set_at vs id v w at))

  -- no other seat is served while one has the ticket that is served
  pub other_unserved : (s : St) (k : Rule s) (id : ℕ) (v : V) → get_elem? s.views id ≡ some v → v.ticket ≡ Some k.serving → (i : ℕ) (u : V) → i ≢ id → get_elem? s.views i ≡ some u → u.served ≡ true → ⊥
  other_unserved s k id v at is i u ne there up = ne (alone s k i id k.serving u v there at ((k.each i u there).turn up).0 is)

  -- nor is the one that waits for it
  pub all_unserved : (s : St) (k : Rule s) (id n : ℕ) (m : Me (Option T) V) → IsWaiting n m → get_elem? s.views id ≡ some m.0 → k.serving ≡ n → (i : ℕ) (u : V) → get_elem? s.views i ≡ some u → u.served ≡ false
  all_unserved s k id n m wait at e i u there = false_from_ne_true u.served (λ up. dite (ℕ_discrete i id)
      (λ same. not_both u.served up (ap (λ (z : V). z.served) (some-injective u m.0 (sym there ∙ (ap (get_elem? s.views) same ∙ at))) ∙ wait.unserved))
      (λ ne. other_unserved s k id m.0 at (wait.ticket ∙ ap (λ (z : ℕ). Some z) (sym e)) i u ne there up))

  -- a view with nothing beside its own
  pub no_more : (v : V) → v.joined_numbers ≡ [] → (owns v ≡ length v.numbers) × ((n : ℕ) → owns_times n v ≡ times n v.numbers)
  no_more v e = let a : length v.joined_numbers ≡ 0 = ap length e in (omega (arith, a), λ n. let b : times n v.joined_numbers ≡ 0 = ap (times n) e in omega (arith, b))

  -- what one seat adds is another's to each other seat
  pub others_see : (s : St) (k : Rule s) (id i : ℕ) (v u : V) (more whole' : List M) → i ≢ id → get_elem? s.views id ≡ some v → get_elem? s.views i ≡ some u → All (λ e. Contains v.numbers (names e)) more → k.whole ++ more ≡ whole'
      → (0 < length u.numbers → Sees names seats u.numbers u.seen whole') × (0 < length u.joined_numbers → Sees names seats u.joined_numbers u.joined_seen whole')
  others_see s k id i v u more whole' ne at there own e = let t = k.each i u there in
      let two : (n : ℕ) → owns_times n v + owns_times n u ≤ times n (numbers_to seats) = λ n. let d = k.once n in omega (arith, d, total_two (owns_times n) s.views id i v u (λ z. ne (sym z)) at there) in
      let within : (n : ℕ) → 0 < times n (numbers_to seats) → (1 ≤ n) × (n ≤ seats) = λ n h. number_within n seats h in
      let once : (n : ℕ) → times n (numbers_to seats) ≤ 1 = λ n. number_at_most_once n seats in (
        λ some. sees_more names seats u.numbers u.seen k.whole more whole' (t.sees some) e (adds_anothers names seats v.numbers u.numbers more (λ n. let d = two n in omega (arith, d)) within once own),
        λ some. sees_more names seats u.joined_numbers u.joined_seen k.whole more whole' (t.sees_joined some) e (adds_anothers names seats v.numbers u.joined_numbers more (λ n. let d = two n in omega (arith, d)) within once own),
      )
