-- The numbers of a trie as a list, gone over with a stack of branches.
use Rattle.std.proofs.Common.{◌≡◌, ℕ, ◌+◌, ◌<◌, ◌≤◌, eqb, List, [], ◌∷◌, ◌++◌, length, Some, None, slice_get, append_assoc, append-nil, sym, ap, ◌∙◌, refl, subst, arith, inl, inr, ⊎_elim, true, false}
use Rattle.std.specs.Bool.{⊤}
use Rattle.std.specs.List.{AllByRecursion, IsDistinct, list_any}
use Rattle.std.proofs.lemmas.Bool.{eqb-true, ne_eqb, or_cases}
use Rattle.std.proofs.lemmas.List.{length-append}
use Rattle.std.proofs.lemmas.Map.Steps.{length-le_from_distinct_below}
use Rattle.name_tries.specs.Bits.{Name}
use Rattle.name_tries.specs.Keys.{Keys, name_in, AreTries}
use Rattle.name_tries.specs.Listing.{IsIn, numbers_in, IsListed}
use Rattle.name_tries.specs.Tries.{Trie, leaf, inner, HasLeaf, HasFork, AreOnce, Shows}
use Rattle.name_tries.specs.declared.forks.Branch.{Branch}
use Rattle.name_tries.specs.declared.forks.Branch.TheVariants as branch
use Rattle.name_tries.specs.declared.forks.Fork.{Fork}
use Rattle.name_tries.specs.declared.tries.Tries.{Tries}
use Rattle.name_tries.proofs.ItemLemmas.{some_same, none_not, in_either}
use Rattle.name_tries.proofs.CallLemmas.{fork_at, trie_at, no_trie}
use Rattle.name_tries.proofs.OrderLemmas.{listed_leaf, leaf_listed, trie_ascends}
use Rattle.name_tries.proofs.TrieLemmas.{some_leaf}

-- ---- a trie has no more numbers than one for each fork, and one

abbrev forks_in : Trie → List ℕ
forks_in (leaf m) = []
forks_in (inner b w f l r) = f ∷ forks_in l ++ forks_in r

count : (t : Trie) → length (numbers_in t) ≡ length (forks_in t) + 1
count (leaf m) = refl
count (inner b w f l r) = omega (arith, count l, count r, length-append (numbers_in l) (numbers_in r), length-append (forks_in l) (forks_in r))

fork_listed : (t : Trie) (g : ℕ) → IsIn g (forks_in t) → HasFork g t
fork_listed (leaf m) g none = elim none [ ]
fork_listed (inner b w f l r) g (inl self) = inl self
fork_listed (inner b w f l r) g (inr here) = inr (⊎_elim (λ left. inl (fork_listed l g left)) (λ right. inr (fork_listed r g right))
    (in_either g (forks_in l) (forks_in r) here))

-- no number stands there twice
abbrev Differ : List ℕ → Type 0
Differ [] = ⊤
Differ (n ∷ ns) = (IsIn n ns → ⊥) × Differ ns

differ_join : (xs ys : List ℕ) → Differ xs → Differ ys → ((n : ℕ) → IsIn n xs → IsIn n ys → ⊥) → Differ (xs ++ ys)
differ_join [] ys one other apart = other
differ_join (x ∷ xs) ys one other apart = (
  λ here. ⊎_elim (λ front. one.0 front) (λ rest. apart x (inl refl) rest) (in_either x xs ys here),
  differ_join xs ys one.1 other (λ n front rest. apart n (inr front) rest),
)

forks_differ : (t : Trie) → AreOnce t → Differ (forks_in t)
forks_differ (leaf m) once = tt
forks_differ (inner b w f l r) once = (
  λ here. ⊎_elim (λ left. once.0 (fork_listed l f left)) (λ right. once.1 (fork_listed r f right)) (in_either f (forks_in l) (forks_in r) here),
  differ_join (forks_in l) (forks_in r) (forks_differ l once.3) (forks_differ r once.4)
      (λ n left right. once.2 n (fork_listed l n left) (fork_listed r n right)),
)

-- the test for a member tells the truth
is_in : (q : ℕ) (xs : List ℕ) → list_any (eqb q) xs ≡ true → IsIn q xs
is_in q [] e = cc
is_in q (x ∷ xs) e = ⊎_elim (λ here. inl (eqb-true q x here)) (λ more. inr (is_in q xs more)) (or_cases (eqb q x) (list_any (eqb q) xs) e)

unlike : (x : ℕ) (xs : List ℕ) → (IsIn x xs → ⊥) → AllByRecursion (λ y. eqb x y ≡ false) xs
unlike x [] apart = tt
unlike x (y ∷ ys) apart = (ne_eqb x y (λ e. apart (inl e)), unlike x ys (λ here. apart (inr here)))

distinct : (xs : List ℕ) → Differ xs → IsDistinct eqb xs
unfolding IsDistinct
distinct [] d = tt
distinct (x ∷ xs) d = (unlike x xs d.0, distinct xs d.1)

few : (forks : List Fork) (at : Branch) (t : Trie) → AreOnce t → Shows forks at t → length (numbers_in t) ≤ length forks + 1
few forks at t once shown =
    let most = length-le_from_distinct_below (forks_in t) (length forks) (distinct (forks_in t) (forks_differ t once))
    (λ q here. fork_at forks t at q shown (fork_listed t q (is_in q (forks_in t) here))) in
    omega (arith, count t, most)

-- ---- the loop

-- the tries below the branches that are left
abbrev AreShown : List Fork → List Branch → List Trie → Type 0
AreShown forks [] [] = ⊤
AreShown forks [] (t ∷ ts) = ⊥
AreShown forks (at ∷ opened) [] = ⊥
AreShown forks (at ∷ opened) (t ∷ ts) = Shows forks at t × AreShown forks opened ts

-- their numbers, those of the last one first
abbrev rest_of : List Trie → List ℕ
rest_of [] = []
rest_of (t ∷ ts) = rest_of ts ++ numbers_in t

rest_more : (ts : List Trie) (t : Trie) → rest_of (ts ++ t ∷ []) ≡ numbers_in t ++ rest_of ts
rest_more [] t = sym (append-nil (numbers_in t))
rest_more (u ∷ ts) t = ap (λ l. l ++ numbers_in u) (rest_more ts t) ∙ append_assoc (numbers_in t) (rest_of ts) (numbers_in u)

some_numbers : (t : Trie) → 0 < length (numbers_in t)
some_numbers t = omega (arith, count t)

enough : (forks : List Fork) (opened : List Branch) (ts : List Trie) → AreShown forks opened ts → length opened ≤ length (rest_of ts)
enough forks [] [] are = omega arith
enough forks [] (t ∷ ts) are = elim are [ ]
enough forks (at ∷ opened) [] are = elim are [ ]
enough forks (at ∷ opened) (t ∷ ts) are =
    omega (arith, enough forks opened ts are.1, some_numbers t, length-append (rest_of ts) (numbers_in t))

-- the last branch, and those before it
record IsSplit (forks : List Fork) (opened : List Branch) (at : Branch) (ts : List Trie) : Type 0 where
  front : List Trie
  last : Trie
  is : ts ≡ front ++ last ∷ []
  are : AreShown forks opened front
  shown : Shows forks at last

split : (forks : List Fork) (opened : List Branch) (at : Branch) (ts : List Trie) → AreShown forks (opened ++ at ∷ []) ts → IsSplit forks opened at ts
split forks [] at [] are = elim are [ ]
split forks [] at (t ∷ []) are = record { front = []; last = t; is = refl; are = tt; shown = are.0 }
split forks [] at (t ∷ u ∷ ts) are = elim are.1 [ ]
split forks (o ∷ opened) at [] are = elim are [ ]
split forks (o ∷ opened) at (t ∷ ts) are =
    let s = split forks opened at ts are.1 in
    record { front = t ∷ s.front; last = s.last; is = ap (λ l. t ∷ l) s.is; are = (are.0, s.are); shown = s.shown }

joined : (forks : List Fork) (opened more : List Branch) (ts us : List Trie) → AreShown forks opened ts → AreShown forks more us
    → AreShown forks (opened ++ more) (ts ++ us)
joined forks [] more [] us are also = also
joined forks [] more (t ∷ ts) us are also = elim are [ ]
joined forks (o ∷ opened) more [] us are also = elim are [ ]
joined forks (o ∷ opened) more (t ∷ ts) us are also = (are.0, joined forks opened more ts us are.1 also)

-- the numbers so far, and those of what is left, are those of all
pub record IsOver (forks : List Fork) (t : Trie) (numbers : List ℕ) (opened : List Branch) : Type 0 where
  pub tries : List Trie
  pub are : AreShown forks opened tries
  pub all : numbers ++ rest_of tries ≡ numbers_in t

-- going over a trie begins with its root alone on the stack
pub over_begins : (forks : List Fork) (root : Branch) (t : Trie) (numbers : List ℕ) (opened : List Branch) → Shows forks root t → numbers ≡ []
    → opened ≡ root ∷ [] → IsOver forks t numbers opened
over_begins forks root t numbers opened shown none one = record {
  tries = t ∷ [];
  are = subst (λ l. AreShown forks l (t ∷ [])) (sym one) (shown, tt);
  all = ap (λ l. l ++ numbers_in t) none;
}

module _ (forks : List Fork) (t : Trie) (numbers : List ℕ) (opened front : List Branch) (at : Branch) (o : IsOver forks t numbers opened)
    (is : opened ≡ front ++ at ∷ []) where
  last : IsSplit forks front at o.tries
  last = split forks front at o.tries (subst (λ l. AreShown forks l o.tries) is o.are)

  all_left : numbers ++ (numbers_in last.last ++ rest_of last.front) ≡ numbers_in t
  all_left = ap (λ l. numbers ++ l) (sym (ap rest_of last.is ∙ rest_more last.front last.last)) ∙ o.all

  -- a number
  pub over_leaf : (n : ℕ) → at ≡ branch.Leaf n → IsOver forks t (numbers ++ n ∷ []) front
  over_leaf n leaf_is = by last.last last.shown all_left
    where
      by : (u : Trie) → Shows forks at u → numbers ++ (numbers_in u ++ rest_of last.front) ≡ numbers_in t → IsOver forks t (numbers ++ n ∷ []) front
      by (leaf m) shown all = record {
        tries = last.front;
        are = last.are;
        all = append_assoc numbers (n ∷ []) (rest_of last.front) ∙ ap (λ i. numbers ++ i ∷ rest_of last.front) (same (sym leaf_is ∙ shown)) ∙ all;
      }
        where
          same : branch.Leaf n ≡ branch.Leaf m → n ≡ m
          same e = cc
      by (inner b w f l r) shown all = let wrong : branch.Leaf n ≡ branch.Inner f = sym leaf_is ∙ shown.0 in cc

  -- a fork
  pub fork_open : (f : ℕ) → at ≡ branch.Inner f → f < length forks
  fork_open f fork_is = by last.last last.shown
    where
      by : (u : Trie) → Shows forks at u → f < length forks
      by (leaf m) shown = let wrong : branch.Inner f ≡ branch.Leaf m = sym fork_is ∙ shown in cc
      by (inner b w g l r) shown =
          subst (λ (i : ℕ). i < length forks) (sym (same (sym fork_is ∙ shown.0))) (fork_at forks (inner b w g l r) at g shown (inl refl))
        where
          same : branch.Inner f ≡ branch.Inner g → f ≡ g
          same e = cc

  -- at a fork both its branches come on the stack, the one of 0 on top
  pub over_fork : (f : ℕ) (k : Fork) → at ≡ branch.Inner f → slice_get forks f ≡ Some k → IsOver forks t numbers (front ++ k.one ∷ k.zero ∷ [])
  over_fork f k fork_is there = by last.last last.shown all_left
    where
      by : (u : Trie) → Shows forks at u → numbers ++ (numbers_in u ++ rest_of last.front) ≡ numbers_in t
          → IsOver forks t numbers (front ++ k.one ∷ k.zero ∷ [])
      by (leaf m) shown all = let wrong : branch.Inner f ≡ branch.Leaf m = sym fork_is ∙ shown in cc
      by (inner b w g l r) shown all =
          let k_is : k ≡ shown.1 = some_same k shown.1 (sym there ∙ ap (slice_get forks) (same (sym fork_is ∙ shown.0)) ∙ shown.2) in
          record {
            tries = last.front ++ r ∷ l ∷ [];
            are = joined forks front (k.one ∷ k.zero ∷ []) last.front (r ∷ l ∷ []) last.are
                (subst (λ (h : Fork). Shows forks h.one r) (sym k_is) shown.6, (subst (λ (h : Fork). Shows forks h.zero l) (sym k_is) shown.5, tt));
            all = ap (λ i. numbers ++ i) (ap rest_of (sym (append_assoc last.front (r ∷ []) (l ∷ []))) ∙ rest_more (last.front ++ r ∷ []) l
                ∙ ap (λ i. numbers_in l ++ i) (rest_more last.front r) ∙ sym (append_assoc (numbers_in l) (numbers_in r) (rest_of last.front))) ∙ all;
          }
        where
          same : branch.Inner f ≡ branch.Inner g → f ≡ g
          same e = cc

  -- how much is left
  pub open_enough : AreOnce t → (root : Branch) → Shows forks root t
      → (length numbers + length front + 1 ≤ length forks + 1)
  open_enough once root shown =
      omega (
        arith,
        few forks root t once shown,
        ap length o.all,
        length-append numbers (rest_of o.tries),
        enough forks opened o.tries o.are,
        ap length is,
        length-append front (at ∷ []),
      )

over_ends : (forks : List Fork) (t : Trie) (numbers : List ℕ) (opened : List Branch) → IsOver forks t numbers opened → opened ≡ [] → numbers ≡ numbers_in t
over_ends forks t numbers opened o none = by o.tries (subst (λ l. AreShown forks l o.tries) none o.are) o.all
  where
    by : (ts : List Trie) → AreShown forks [] ts → numbers ++ rest_of ts ≡ numbers_in t → numbers ≡ numbers_in t
    by [] are all = sym (append-nil numbers) ∙ all
    by (u ∷ ts) are all = elim are [ ]

-- ---- of a directory

module _ (tries : Tries) (keys : Keys) (w : AreTries tries keys) (dir : ℕ) where
  -- the numbers of a directory's trie are all in it, by their names
  pub listed : (t : Trie) → w.shape dir ≡ Some t → IsListed keys dir (numbers_in t)
  listed t is = record {
    each = λ n here. (name_in keys n, (w.tries dir t is).leaves n (listed_leaf t n here));
    every = λ n name there.
        let was = w.every n dir name there in
        leaf_listed t n (subst (λ (u : Trie). HasLeaf n u) (some_same was.0 t (sym was.1 ∙ is)) was.2);
    ascend = trie_ascends (name_in keys) t (λ n here. w.bytes n dir (name_in keys n) ((w.tries dir t is).leaves n here))
        (w.tries dir t is).rises (w.tries dir t is).parts;
  }

  -- where a directory has no trie, no number is in it
  pub none_listed : w.shape dir ≡ None → IsListed keys dir []
  none_listed none = record {
    each = λ n no. elim no [ ];
    every = λ n name there. let was = w.every n dir name there in absurd (none_not (w.shape dir) was.0 none was.1);
    ascend = tt;
  }

  -- there is one where there is a root, and else none
  pub some_there : (at : Branch) → slice_get tries.roots.items dir ≡ Some (Some at) → (n : ℕ) × (name : Name) × (keys n ≡ Some (dir, name))
  some_there at there =
      let t = trie_at tries keys w dir at there in
      let n = some_leaf t.0 in
      (n.0, name_in keys n.0, (w.tries dir t.0 t.1).leaves n.0 n.1)

  -- where a directory has no root, no number has a name in it
  pub none_there : slice_get tries.roots.items dir ≡ Some None → (n : ℕ) (name : Name) → keys n ≡ Some (dir, name) → ⊥
  none_there there n name is = let was = w.every n dir name is in none_not (w.shape dir) was.0 (no_trie tries keys w dir there) was.1
