-- Beginnings of a history.
use Rattle.std.proofs.Common.{◌≡◌, ℕ, ◌+◌, ◌<◌, ◌≤◌, Bool, true, false, List, [], ◌∷◌, ◌++◌, length, sym, refl, ap, ◌∙◌, subst, arith, append_assoc, append-nil, nat_lt, if◌then◌else◌}
use Rattle.std.specs.List.{All, Contains, filter}
use Rattle.std.proofs.lemmas.List.Elements.{All-append, All-cons, All-nil, All-head, All-tail, All-weaker, filter-append}
use Rattle.std.proofs.lemmas.Bool.Decides.{nat_tests}
use Rattle.turn_lock.specs.Sums.{times}
use Rattle.turn_lock.specs.Histories.{numbers_to, IsAnothers, Sees, own_entries, longer}
use Rattle.turn_lock.proofs.SumLemmas.{times_append, stands, stands_not, not_in, number_once}

all_left : {X : Type 0} (P : X → Type 0) (xs ys : List X) → All P (xs ++ ys) → All P xs
all_left P [] ys h = All-nil P
all_left P (x ∷ xs) ys h = All-cons P x xs (All-head P x (xs ++ ys) h) (all_left P xs ys (All-tail P x (xs ++ ys) h))

all_right : {X : Type 0} (P : X → Type 0) (xs ys : List X) → All P (xs ++ ys) → All P ys
all_right P [] ys h = h
all_right P (x ∷ xs) ys h = all_right P xs ys (All-tail P x (xs ++ ys) h)

-- who has fewer numbers knows of as many others
pub fewer : (seats : ℕ) (ns ms : List ℕ) (n : ℕ) → times n ms ≤ times n ns → IsAnothers seats ns n → IsAnothers seats ms n
fewer seats ns ms n le h = let z = stands_not ns n h.not_own in record { from_one = h.from_one; to_seats = h.to_seats; not_own = not_in ms n (omega (arith, le, z)) }

both_lists : (seats : ℕ) (ns ms : List ℕ) (n : ℕ) → IsAnothers seats ns n → IsAnothers seats ms n → IsAnothers seats (ns ++ ms) n
both_lists seats ns ms n a b = record { from_one = a.from_one; to_seats = a.to_seats; not_own = not_in (ns ++ ms) n (omega (arith, times_append n ns ms, stands_not ns n a.not_own, stands_not ms n b.not_own)) }

cons_parts : {M : Type 0} (x y : M) (xs ys : List M) → x ∷ xs ≡ y ∷ ys → (x ≡ y) × (xs ≡ ys)
cons_parts x y xs ys e = (cc e, cc e)

module _ {M : Type 0} where
  -- of two beginnings of one list the shorter begins the longer
  pub between : (xs a ys b : List M) → xs ++ a ≡ ys ++ b → length xs ≤ length ys → (d : List M) × (xs ++ d ≡ ys) × (a ≡ d ++ b)
  between [] a ys b e le = (ys, refl, e)
  between (x ∷ xs) a [] b e le = absurd (omega (arith, le))
  between (x ∷ xs) a (y ∷ ys) b e le = let t = cons_parts x y (xs ++ a) (ys ++ b) e in let r = between xs a ys b t.1 (omega (arith, le)) in (r.0, (λ i. t.0 i ∷ r.1 i), r.2)

  same_rest : (xs a b : List M) → xs ++ a ≡ xs ++ b → a ≡ b
  same_rest [] a b e = e
  same_rest (x ∷ xs) a b e = same_rest xs a b (cons_parts x x (xs ++ a) (xs ++ b) e).1

module _ {M : Type 0} (names : M → ℕ) (seats : ℕ) where
  -- a view that has seen the whole history sees it
  pub sees_all : (ns : List ℕ) (whole : List M) → Sees names seats ns whole whole
  sees_all ns whole = record { later = []; begins = append-nil whole; anothers = All-nil (λ e. IsAnothers seats ns (names e)) }

  -- a view sees a history that goes on by what other numbers add
  pub sees_more : (ns : List ℕ) (seen whole more after : List M) → Sees names seats ns seen whole → whole ++ more ≡ after → All (λ e. IsAnothers seats ns (names e)) more → Sees names seats ns seen after
  sees_more ns seen whole more after s e h = record { later = s.later ++ more; begins = sym (append_assoc seen s.later more) ∙ (ap (λ l. l ++ more) s.begins ∙ e); anothers = All-append (λ e. IsAnothers seats ns (names e)) s.later more s.anothers h }

  -- a view sees with fewer numbers what it sees with more
  pub sees_fewer : (ns ms : List ℕ) (seen whole : List M) → ((n : ℕ) → times n ms ≤ times n ns) → Sees names seats ns seen whole → Sees names seats ms seen whole
  sees_fewer ns ms seen whole le s = record { later = s.later; begins = s.begins; anothers = All-weaker (λ e. IsAnothers seats ns (names e)) (λ e. IsAnothers seats ms (names e)) (λ e h. fewer seats ns ms (names e) (le (names e)) h) s.later s.anothers }

  -- what one adds is another's to all that have none of its numbers
  pub adds_anothers : (ns ms : List ℕ) (more : List M) → ((n : ℕ) → times n ns + times n ms ≤ times n (numbers_to seats)) → ((n : ℕ) → 0 < times n (numbers_to seats) → (1 ≤ n) × (n ≤ seats))
      → ((n : ℕ) → times n (numbers_to seats) ≤ 1) → All (λ e. Contains ns (names e)) more → All (λ e. IsAnothers seats ms (names e)) more
  adds_anothers ns ms more apart within once own = All-weaker (λ e. Contains ns (names e)) (λ e. IsAnothers seats ms (names e))
      (λ e h. let n = names e in let s = stands ns n h in let d = apart n in let w = within n (omega (arith, s, d)) in let o = once n in record { from_one = w.0; to_seats = w.1; not_own = not_in ms n (omega (arith, s, d, o)) }) more own

  sees_between : (n m : List ℕ) (s t whole : List M) → Sees names seats n s whole → Sees names seats m t whole → length s ≤ length t → Sees names seats n s t × Sees names seats n t whole
  sees_between n m s t whole a b le = let P : M → Type 0 = λ e. IsAnothers seats n (names e) in let r = between s a.later t b.later (a.begins ∙ sym b.begins) le in let h : All P (r.0 ++ b.later) = subst (All P) r.2 a.anothers in
      (record { later = r.0; begins = r.1; anothers = all_left P r.0 b.later h }, record { later = b.later; begins = b.begins; anothers = all_right P r.0 b.later h })

  abbrev Merged : List ℕ → List ℕ → List M → List M → List M → List M → Type 0
  Merged n m s t whole l = Sees names seats n s l × Sees names seats m t l × Sees names seats (n ++ m) l whole

  sees_both : (n m : List ℕ) (l whole : List M) → Sees names seats n l whole → Sees names seats m l whole → Sees names seats (n ++ m) l whole
  sees_both n m l whole a b = let e = same_rest l a.later b.later (a.begins ∙ sym b.begins) in let h : All (λ e. IsAnothers seats n (names e)) b.later = subst (All (λ e. IsAnothers seats n (names e))) e a.anothers in
      record { later = b.later; begins = b.begins; anothers = λ k d lt. both_lists seats n m _ (h k d lt) (b.anothers k d lt) }

  longer_at : (n m : List ℕ) (s t whole : List M) → Sees names seats n s whole → Sees names seats m t whole → (b : Bool) → nat_lt (length s) (length t) ≡ b → Merged n m s t whole (if b then t else s)
  longer_at n m s t whole a b true is = let r = sees_between n m s t whole a b (grind (arith, nat_tests, is)) in (r.0, sees_all m t, sees_both n m t whole r.1 b)
  longer_at n m s t whole a b false is = let r = sees_between m n t s whole b a (grind (arith, nat_tests, is)) in (sees_all n s, r.0, sees_both n m s whole a r.1)

  -- of two views of one history, the longer one sees it with the numbers of both
  pub sees_longer : (n m : List ℕ) (s t whole : List M) → Sees names seats n s whole → Sees names seats m t whole → Merged n m s t whole (longer s t)
  sees_longer n m s t whole a b = longer_at n m s t whole a b (nat_lt (length s) (length t)) refl

  -- who has all the numbers has seen all
  pub sees_whole : (ns : List ℕ) (seen whole : List M) → ((n : ℕ) → times n ns ≡ times n (numbers_to seats)) → Sees names seats ns seen whole → whole ≡ seen
  sees_whole ns seen whole same s = sym s.begins ∙ (ap (λ l. seen ++ l) (nothing s.later s.anothers) ∙ append-nil seen) where
    nothing : (later : List M) → All (λ e. IsAnothers seats ns (names e)) later → later ≡ []
    nothing [] h = refl
    nothing (e ∷ es) h = let a = All-head (λ e. IsAnothers seats ns (names e)) e es h in absurd (omega (arith, stands_not ns (names e) a.not_own, same (names e), number_once (names e) seats a.from_one a.to_seats))

  none_own : (ns : List ℕ) (later : List M) → All (λ e. IsAnothers seats ns (names e)) later → own_entries names ns later ≡ []
  none_own ns [] h = refl
  none_own ns (e ∷ es) h = let a = All-head (λ e. IsAnothers seats ns (names e)) e es h in let z : nat_lt 0 (times (names e) ns) ≡ false = ap (nat_lt 0) (stands_not ns (names e) a.not_own) in
      ap (λ b. if b then e ∷ own_entries names ns es else own_entries names ns es) z ∙ none_own ns es (All-tail (λ e. IsAnothers seats ns (names e)) e es h)

  -- the entries of one's own numbers are those that were seen
  pub sees_own : (ns : List ℕ) (seen whole : List M) → Sees names seats ns seen whole → own_entries names ns whole ≡ own_entries names ns seen
  sees_own ns seen whole s = let p : M → Bool = λ e. nat_lt 0 (times (names e) ns) in
      ap (filter p) (sym s.begins) ∙ (filter-append p seen s.later ∙ (ap (λ l. filter p seen ++ l) (none_own ns s.later s.anothers) ∙ append-nil (filter p seen)))
