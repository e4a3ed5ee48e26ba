-- The numbers of each owner in one chain: one more, and one less.
use Rattle.std.proofs.Common.{◌≡◌, ◌≢◌, ℕ, suc, ◌+◌, ◌≤◌, Bool, true, false, cond, nat_eq, not, ◌&&◌, List, [], ◌∷◌, ◌++◌, length, length-append, map, Option, Some, None, IfSome, IfNone, refl, ap, sym, subst, ◌∙◌, append_assoc, arith, inl, inr, ◌⊎◌}
use Rattle.std.proofs.lemmas.Bool.{eq-eqb, eqb-true}
use Rattle.std.specs.List.{AllByRecursion}
use Rattle.head_queue.specs.declared.newest.Owned.{Owned}
use Rattle.head_queue.specs.Cuts.{last_of, Misses, Differ, IsCut, IsMember}
use Rattle.head_queue.specs.Newest.{lookup, Ascending, owner_at, owned_at, number_or, holds, left_over}
use Rattle.head_queue.specs.Holdings.{owner_of}
use Rattle.head_queue.specs.Grouped.{Lacks, Begins, Grouped, or_else, last_held, AreGrouped}
use Rattle.head_queue.proofs.PathLemmas.{misses_front, misses_behind, misses_here, differ_more, differ_less}
use Rattle.head_queue.proofs.RingLemmas.{all_front, all_behind, all_both, last_holds}
use Rattle.head_queue.proofs.WalkLemmas.{last_is}
use Rattle.head_queue.proofs.NewestLemmas.{one, other, turned}

-- ---- lists of pairs

-- the numbers of a chain, each with its owner
abbrev pub pairs_of : List ℕ → List ℕ → List Owned
pairs_of os ms = map (owned_at os) ms

pairs_both : (os xs ys : List ℕ) → pairs_of os (xs ++ ys) ≡ pairs_of os xs ++ pairs_of os ys
pairs_both os [] ys = refl
pairs_both os (x ∷ xs) ys = ap (λ (ps : List Owned). owned_at os x ∷ ps) (pairs_both os xs ys)

-- ---- whose a number is

-- what is something is not nothing
pub some_not : (k : ℕ) → Some k ≡ None → ⊥
some_not k e = cc

miss_none : (os : List ℕ) (n : ℕ) (ms : List ℕ) → Misses n ms → owner_of n (pairs_of os ms) ≡ None
miss_none os n [] h = refl
miss_none os n (k ∷ ms) h = other (Some (owner_at os k)) (owner_of n (pairs_of os ms)) n k h.0 ∙ miss_none os n ms h.1

-- a number without an owner is none of the chain
pub none_miss : (os : List ℕ) (n : ℕ) (ms : List ℕ) → owner_of n (pairs_of os ms) ≡ None → Misses n ms
none_miss os n [] h = tt
none_miss os n (k ∷ ms) h = (ne, none_miss os n ms (sym (other (Some (owner_at os k)) (owner_of n (pairs_of os ms)) n k ne) ∙ h))
  where
    ne : n ≢ k
    ne e = some_not (owner_at os k) (sym (one (Some (owner_at os k)) (owner_of n (pairs_of os ms)) n k e) ∙ h)

-- a number that is put in gets its owner, and the others keep theirs
pub owner_more : (n o k : ℕ) (xs ys : List Owned) → owner_of n xs ≡ None
    → owner_of k (xs ++ record { owner = o; node = n } ∷ ys) ≡ cond (nat_eq k n) (Some o) (owner_of k (xs ++ ys))
owner_more n o k [] ys h = refl
owner_more n o k (x ∷ xs) ys h =
    ap (λ (q : Option ℕ). cond (nat_eq k x.node) (Some x.owner) q) (owner_more n o k xs ys (sym (other (Some x.owner) (owner_of n xs) n x.node ne) ∙ h))
    ∙ turned (Some x.owner) (Some o) (owner_of k (xs ++ ys)) k x.node n (λ e. ne (sym e))
  where
    ne : n ≢ x.node
    ne e = some_not x.owner (sym (one (Some x.owner) (owner_of n xs) n x.node e) ∙ h)

-- a number that is taken out loses its owner, and the others keep theirs
pub owner_less : (n k : ℕ) (x : Owned) (xs ys : List Owned) → x.node ≡ n → owner_of n xs ≡ None → owner_of n ys ≡ None
    → owner_of k (xs ++ ys) ≡ cond (nat_eq k n) None (owner_of k (xs ++ x ∷ ys))
owner_less n k x [] ys is h g = elim (nat_eq k n) as (λ t. nat_eq k n ≡ t → owner_of k ys ≡ cond t None (cond (nat_eq k x.node) (Some x.owner) (owner_of k ys))) [
  | true ↦ λ e. ap (λ (j : ℕ). owner_of j ys) (eqb-true k n e) ∙ g
  | false ↦ λ e. sym (other (Some x.owner) (owner_of k ys) k x.node (λ f. let t : nat_eq k n ≡ true = eq-eqb k n (f ∙ is) in cc))
] refl
owner_less n k x (y ∷ xs) ys is h g =
    ap (λ (q : Option ℕ). cond (nat_eq k y.node) (Some y.owner) q) (owner_less n k x xs ys is (sym (other (Some y.owner) (owner_of n xs) n y.node ne) ∙ h) g)
    ∙ turned (Some y.owner) None (owner_of k (xs ++ x ∷ ys)) k y.node n (λ e. ne (sym e))
  where
    ne : n ≢ y.node
    ne e = some_not y.owner (sym (one (Some y.owner) (owner_of n xs) n y.node e) ∙ h)

-- a number that is an owner's stands in the chain
pub record IsHeld (os ms : List ℕ) (n o : ℕ) : Type 0 where
  pub member : IsMember ms n
  pub owner : owner_at os n ≡ o

differs : (n k : ℕ) → nat_eq n k ≡ false → n ≢ k
differs n k e f = let t : nat_eq n k ≡ true = eq-eqb n k f in cc

held_more : (os : List ℕ) (n o k : ℕ) (ms : List ℕ) → IsHeld os ms n o → IsHeld os (k ∷ ms) n o
held_more os n o k ms w = record {
  member = record { front = k ∷ w.member.front; behind = w.member.behind; parts = ap (λ (js : List ℕ). k ∷ js) w.member.parts };
  owner = w.owner;
}

-- a number with an owner stands in the chain with that owner
pub held_at : (os : List ℕ) (n o : ℕ) (ms : List ℕ) → owner_of n (pairs_of os ms) ≡ Some o → IsHeld os ms n o
held_at os n o [] h = let e : None ≡ Some o = h in absurd (some_not o (sym e))
held_at os n o (k ∷ ms) h = elim (nat_eq n k) as (λ t. nat_eq n k ≡ t → IsHeld os (k ∷ ms) n o) [
  | true ↦ λ e. here (eqb-true n k e)
  | false ↦ λ e. held_more os n o k ms (held_at os n o ms (sym (other (Some (owner_at os k)) (owner_of n (pairs_of os ms)) n k (differs n k e)) ∙ h))
] refl
  where
    here : n ≡ k → IsHeld os (k ∷ ms) n o
    here e = record {
      member = record { front = []; behind = ms; parts = ap (λ (j : ℕ). j ∷ ms) (sym e) };
      owner = ap (owner_at os) e ∙ ap (λ (q : Option ℕ). number_or q) (sym (one (Some (owner_at os k)) (owner_of n (pairs_of os ms)) n k e) ∙ h);
    }

-- ---- the last number of an owner

or_assoc : (a b c : Option ℕ) → or_else (or_else a b) c ≡ or_else a (or_else b c)
or_assoc None b c = refl
or_assoc (Some k) b c = refl

or_none : (a : Option ℕ) → or_else a None ≡ a
or_none None = refl
or_none (Some k) = refl

last_both : (o : ℕ) (xs ys : List Owned) → last_held o (xs ++ ys) ≡ or_else (last_held o ys) (last_held o xs)
last_both o [] ys = sym (or_none (last_held o ys))
last_both o (x ∷ xs) ys =
    ap (λ (q : Option ℕ). or_else q (cond (nat_eq o x.owner) (Some x.node) None)) (last_both o xs ys)
    ∙ or_assoc (last_held o ys) (last_held o xs) (cond (nat_eq o x.owner) (Some x.node) None)

or_nones : (a b : Option ℕ) → or_else a b ≡ None → (a ≡ None) × (b ≡ None)
or_nones None b h = (refl, h)
or_nones (Some k) b h = absurd (some_not k h)

none_lacks : (o : ℕ) (xs : List Owned) → last_held o xs ≡ None → Lacks o xs
none_lacks o [] h = tt
none_lacks o (x ∷ xs) h =
    let g = or_nones (last_held o xs) (cond (nat_eq o x.owner) (Some x.node) None) h in
    ((λ e. some_not x.node (sym (one (Some x.node) None o x.owner e) ∙ g.1)), none_lacks o xs g.0)

lacks_none : (o : ℕ) (xs : List Owned) → Lacks o xs → last_held o xs ≡ None
lacks_none o [] h = refl
lacks_none o (x ∷ xs) h = ap (λ (q : Option ℕ). or_else q (cond (nat_eq o x.owner) (Some x.node) None)) (lacks_none o xs h.1) ∙ other (Some x.node) None o x.owner h.0

-- the last number of an owner in a chain, with the chain on both sides
pub record IsLast (os ms : List ℕ) (o k : ℕ) : Type 0 where
  pub member : IsMember ms k
  pub owner : owner_at os k ≡ o
  pub lacks : Lacks o (pairs_of os member.behind)

last_at : (os : List ℕ) (o k : ℕ) (ms : List ℕ) → last_held o (pairs_of os ms) ≡ Some k → IsLast os ms o k
last_at os o k [] h = let e : None ≡ Some k = h in absurd (some_not k (sym e))
last_at os o k (m ∷ ms) h = by (λ e. last_at os o k ms e) (last_held o (pairs_of os ms)) refl h
  where
    more : IsLast os ms o k → IsLast os (m ∷ ms) o k
    more w = record {
      member = record { front = m ∷ w.member.front; behind = w.member.behind; parts = ap (λ (js : List ℕ). m ∷ js) w.member.parts };
      owner = w.owner;
      lacks = w.lacks;
    }

    here : last_held o (pairs_of os ms) ≡ None → (b : Bool) → nat_eq o (owner_at os m) ≡ b → cond b (Some m) None ≡ Some k → IsLast os (m ∷ ms) o k
    here none false is e = absurd (some_not k (sym e))
    here none true is e =
        let same : m ≡ k = ap number_or e in
        record {
          member = record { front = []; behind = ms; parts = ap (λ (j : ℕ). j ∷ ms) same };
          owner = ap (owner_at os) (sym same) ∙ sym (eqb-true o (owner_at os m) is);
          lacks = none_lacks o (pairs_of os ms) none;
        }

    by : (last_held o (pairs_of os ms) ≡ Some k → IsLast os ms o k) → (q : Option ℕ) → last_held o (pairs_of os ms) ≡ q
        → or_else q (cond (nat_eq o (owner_at os m)) (Some m) None) ≡ Some k → IsLast os (m ∷ ms) o k
    by on None is e = here is (nat_eq o (owner_at os m)) refl e
    by on (Some j) is e = more (on (is ∙ e))

-- it is one of the numbers
last_in : (os : List ℕ) (o n : ℕ) (ms : List ℕ) → Misses n ms → last_held o (pairs_of os ms) ≡ Some n → ⊥
last_in os o n ms m h = by (last_at os o n ms h)
  where
    by : IsLast os ms o n → ⊥
    by w = (misses_behind n w.member.front (n ∷ w.member.behind) (subst (Misses n) w.member.parts m)).0 refl

-- ---- one more

-- the place for one more number of an owner
pub record IsRoom (os ms : List ℕ) (o at : ℕ) : Type 0 where
  pub cut : IsCut ms at
  pub grouped : (n : ℕ) → Grouped (pairs_of os cut.front ++ record { owner = o; node = n } ∷ pairs_of os cut.behind)
  pub told : (n p : ℕ) → last_held p (pairs_of os cut.front ++ record { owner = o; node = n } ∷ pairs_of os cut.behind)
      ≡ cond (nat_eq p o) (Some n) (last_held p (pairs_of os cut.front ++ pairs_of os cut.behind))

-- where an owner has none, its first stands in front of all
first_told : (n o p : ℕ) (xs : List Owned) → Lacks o xs → last_held p (record { owner = o; node = n } ∷ xs) ≡ cond (nat_eq p o) (Some n) (last_held p xs)
first_told n o p xs lacks = elim (nat_eq p o) as (λ t. nat_eq p o ≡ t → or_else (last_held p xs) (cond t (Some n) None) ≡ cond t (Some n) (last_held p xs)) [
  | true ↦ λ e. ap (λ (q : Option ℕ). or_else q (Some n)) (ap (λ (j : ℕ). last_held j xs) (eqb-true p o e) ∙ lacks_none o xs lacks)
  | false ↦ λ e. or_none (last_held p xs)
] refl

-- behind its last one
next_grouped : (o n : ℕ) (x : Owned) (xs ys : List Owned) → x.owner ≡ o → Lacks o ys → Grouped (xs ++ x ∷ ys) → Grouped (xs ++ x ∷ record { owner = o; node = n } ∷ ys)
next_grouped o n x [] ys is lacks h = (inl is, (inr lacks, h.1))
next_grouped o n x (z ∷ zs) ys is lacks h = (first zs h.0, next_grouped o n x zs ys is lacks h.1)
  where
    lack_more : (us : List Owned) → Lacks z.owner (us ++ x ∷ ys) → Lacks z.owner (us ++ x ∷ record { owner = o; node = n } ∷ ys)
    lack_more [] g = (g.0, ((λ e. g.0 (e ∙ sym is)), g.1))
    lack_more (u ∷ us) g = (g.0, lack_more us g.1)

    first : (us : List Owned) → Begins z.owner (us ++ x ∷ ys) ⊎ Lacks z.owner (us ++ x ∷ ys)
        → Begins z.owner (us ++ x ∷ record { owner = o; node = n } ∷ ys) ⊎ Lacks z.owner (us ++ x ∷ record { owner = o; node = n } ∷ ys)
    first [] (inl b) = inl b
    first (u ∷ us) (inl b) = inl b
    first us (inr l) = inr (lack_more us l)

next_told : (o n p : ℕ) (x : Owned) (xs ys : List Owned) → x.owner ≡ o → Lacks o ys
    → last_held p (xs ++ x ∷ record { owner = o; node = n } ∷ ys) ≡ cond (nat_eq p o) (Some n) (last_held p (xs ++ x ∷ ys))
next_told o n p x xs ys is lacks =
    last_both p xs (x ∷ record { owner = o; node = n } ∷ ys)
    ∙ ap (λ (q : Option ℕ). or_else (or_else q (cond (nat_eq p x.owner) (Some x.node) None)) (last_held p xs)) (first_told n o p ys lacks)
    ∙ elim (nat_eq p o) as (λ t. nat_eq p o ≡ t → or_else (or_else (cond t (Some n) (last_held p ys)) (cond (nat_eq p x.owner) (Some x.node) None)) (last_held p xs) ≡ cond t (Some n) (or_else (last_held p (x ∷ ys)) (last_held p xs))) [
      | true ↦ λ e. refl
      | false ↦ λ e. refl
    ] refl
    ∙ ap (λ (q : Option ℕ). cond (nat_eq p o) (Some n) q) (sym (last_both p xs (x ∷ ys)))

-- behind the newest number of an owner there is room for one more of that owner
pub room_for : (os ms : List ℕ) (size : ℕ) (newest : List Owned) (o : ℕ) → AreGrouped os ms size newest → IsRoom os ms o (number_or (lookup o newest))
room_for os ms size newest o kept = by (lookup o newest) refl
  where
    none : last_held o (pairs_of os ms) ≡ None → IsRoom os ms o 0
    none is =
        let lacks : Lacks o (pairs_of os ms) = none_lacks o (pairs_of os ms) is in
        record {
          cut = record { front = []; behind = ms; parts = refl; last = refl };
          grouped = λ n. (inr lacks, kept.grouped);
          told = λ n p. first_told n o p (pairs_of os ms) lacks;
        }

    some : (k : ℕ) → IsLast os ms o k → IsRoom os ms o k
    some k w =
        let front : pairs_of os (w.member.front ++ k ∷ []) ≡ pairs_of os w.member.front ++ owned_at os k ∷ [] = pairs_both os w.member.front (k ∷ []) in
        let all : pairs_of os ms ≡ pairs_of os w.member.front ++ owned_at os k ∷ pairs_of os w.member.behind = ap (pairs_of os) w.member.parts ∙ pairs_both os w.member.front (k ∷ w.member.behind) in
        let grown : (ps : List Owned) → pairs_of os (w.member.front ++ k ∷ []) ++ ps ≡ pairs_of os w.member.front ++ owned_at os k ∷ ps
        = λ ps. ap (λ (qs : List Owned). qs ++ ps) front ∙ append_assoc (pairs_of os w.member.front) (owned_at os k ∷ []) ps in
        record {
          cut = record { front = w.member.front ++ k ∷ []; behind = w.member.behind; parts = w.member.parts ∙ sym (append_assoc w.member.front (k ∷ []) w.member.behind); last = sym (last_is 0 k w.member.front) };
          grouped = λ n. subst Grouped (sym (grown (record { owner = o; node = n } ∷ pairs_of os w.member.behind)))
              (next_grouped o n (owned_at os k) (pairs_of os w.member.front) (pairs_of os w.member.behind) w.owner w.lacks (subst Grouped all kept.grouped));
          told = λ n p. ap (last_held p) (grown (record { owner = o; node = n } ∷ pairs_of os w.member.behind))
              ∙ next_told o n p (owned_at os k) (pairs_of os w.member.front) (pairs_of os w.member.behind) w.owner w.lacks
              ∙ ap (λ (ps : List Owned). cond (nat_eq p o) (Some n) (last_held p ps)) (sym (grown (pairs_of os w.member.behind)));
        }

    by : (q : Option ℕ) → lookup o newest ≡ q → IsRoom os ms o (number_or q)
    by None is = none (sym (kept.told o) ∙ is)
    by (Some k) is = some k (last_at os o k ms (sym (kept.told o) ∙ is))

-- ---- owners that change at one number

abbrev pub Reowned : List ℕ → List ℕ → ℕ → ℕ → Type 0
Reowned os us n o = (k : ℕ) → owner_at us k ≡ cond (nat_eq k n) o (owner_at os k)

same_pairs : (os us : List ℕ) (n o : ℕ) → Reowned os us n o → (ms : List ℕ) → Misses n ms → pairs_of us ms ≡ pairs_of os ms
same_pairs os us n o h [] m = refl
same_pairs os us n o h (k ∷ ms) m =
    ap (λ (v : ℕ). record { owner = v; node = k } ∷ pairs_of us ms) (h k ∙ kept k m.0)
    ∙ ap (λ (ps : List Owned). owned_at os k ∷ ps) (same_pairs os us n o h ms m.1)
  where
    kept : (k : ℕ) → n ≢ k → cond (nat_eq k n) o (owner_at os k) ≡ owner_at os k
    kept k ne = elim (nat_eq k n) as (λ t. nat_eq k n ≡ t → cond t o (owner_at os k) ≡ owner_at os k) [
      | true ↦ λ e. absurd (ne (sym (eqb-true k n e)))
      | false ↦ λ e. refl
    ] refl

pairs_more : (os us : List ℕ) (n o at : ℕ) (ms : List ℕ) → Reowned os us n o → Misses n ms → (c : IsCut ms at)
    → pairs_of us (c.front ++ n ∷ c.behind) ≡ pairs_of os c.front ++ record { owner = o; node = n } ∷ pairs_of os c.behind
pairs_more os us n o at ms h m c =
    let misses : Misses n (c.front ++ c.behind) = subst (Misses n) c.parts m in
    let here : owner_at us n ≡ o = h n ∙ ap (λ (t : Bool). cond t o (owner_at os n)) (eq-eqb n n refl) in
    pairs_both us c.front (n ∷ c.behind)
    ∙ ap (λ (ps : List Owned). ps ++ owned_at us n ∷ pairs_of us c.behind) (same_pairs os us n o h c.front (misses_front n c.front c.behind misses))
    ∙ ap (λ (ps : List Owned). pairs_of os c.front ++ owned_at us n ∷ ps) (same_pairs os us n o h c.behind (misses_behind n c.front c.behind misses))
    ∙ ap (λ (v : ℕ). pairs_of os c.front ++ record { owner = v; node = n } ∷ pairs_of os c.behind) here

-- with one more number behind its owner's newest, the chain stays in groups
pub grouped_more : (os us : List ℕ) (n o at : ℕ) (ms : List ℕ) (size : ℕ) (newest now : List Owned) → AreGrouped os ms size newest → Reowned os us n o → Misses n (0 ∷ ms)
    → n ≤ size → length us ≡ size → (r : IsRoom os ms o at) → Ascending now
    → ((p : ℕ) → lookup p now ≡ cond (nat_eq p o) (Some n) (lookup p newest))
    → AreGrouped us (r.cut.front ++ n ∷ r.cut.behind) size now
grouped_more os us n o at ms size newest now kept h m fits wide r ascending told =
    let is = pairs_more os us n o at ms h m.1 r.cut in
    let all : pairs_of os ms ≡ pairs_of os r.cut.front ++ pairs_of os r.cut.behind = ap (pairs_of os) r.cut.parts ∙ pairs_both os r.cut.front r.cut.behind in
    let within : AllByRecursion (λ k. k ≤ size) (r.cut.front ++ r.cut.behind) = subst (AllByRecursion (λ (k : ℕ). k ≤ size)) r.cut.parts kept.within in
    record {
      wide = wide;
      differ = differ_more (0 ∷ r.cut.front) r.cut.behind n (subst (λ (ks : List ℕ). Misses n (0 ∷ ks)) r.cut.parts m) (subst (λ (ks : List ℕ). Differ (0 ∷ ks)) r.cut.parts kept.differ);
      within = all_both (λ k. k ≤ size) r.cut.front (n ∷ r.cut.behind) (all_front (λ k. k ≤ size) r.cut.front r.cut.behind within) (fits, all_behind (λ k. k ≤ size) r.cut.front r.cut.behind within);
      grouped = subst Grouped (sym is) (r.grouped n);
      ascending = ascending;
      told = λ p. told p ∙ ap (λ (q : Option ℕ). cond (nat_eq p o) (Some n) q) (kept.told p ∙ ap (last_held p) all) ∙ sym (r.told n p) ∙ ap (last_held p) (sym is);
    }

-- ---- one less

-- the last number of all, if it is an owner's
abbrev tail_of : List ℕ → ℕ → List ℕ → Option ℕ
tail_of os o [] = None
tail_of os o (k ∷ []) = cond (nat_eq o (owner_at os k)) (Some k) None
tail_of os o (k ∷ j ∷ ms) = tail_of os o (j ∷ ms)

-- in front of a number of an owner, the last one of that owner is the last of all
tail_last : (os : List ℕ) (o : ℕ) (ms : List ℕ) (x : Owned) (ys : List Owned) → x.owner ≡ o → Grouped (pairs_of os ms ++ x ∷ ys) → last_held o (pairs_of os ms) ≡ tail_of os o ms
tail_last os o [] x ys is h = refl
tail_last os o (k ∷ []) x ys is h = refl
tail_last os o (k ∷ j ∷ ms) x ys is h = by (last_held o (pairs_of os (j ∷ ms))) refl h.0 ∙ tail_last os o (j ∷ ms) x ys is h.1
  where
    lacks_x : (us : List Owned) → Lacks o (us ++ x ∷ ys) → ⊥
    lacks_x [] g = g.0 (sym is)
    lacks_x (u ∷ us) g = lacks_x us g.1

    ne : last_held o (pairs_of os (j ∷ ms)) ≡ None → Begins (owner_at os k) (pairs_of os (j ∷ ms) ++ x ∷ ys) ⊎ Lacks (owner_at os k) (pairs_of os (j ∷ ms) ++ x ∷ ys) → o ≢ owner_at os k
    ne none (inl b) e = (none_lacks o (pairs_of os (j ∷ ms)) none).0 (e ∙ b)
    ne none (inr l) e = lacks_x (pairs_of os (j ∷ ms)) (subst (λ (v : ℕ). Lacks v (pairs_of os (j ∷ ms) ++ x ∷ ys)) (sym e) l)

    by : (q : Option ℕ) → last_held o (pairs_of os (j ∷ ms)) ≡ q → Begins (owner_at os k) (pairs_of os (j ∷ ms) ++ x ∷ ys) ⊎ Lacks (owner_at os k) (pairs_of os (j ∷ ms) ++ x ∷ ys)
        → or_else (last_held o (pairs_of os (j ∷ ms))) (cond (nat_eq o (owner_at os k)) (Some k) None) ≡ last_held o (pairs_of os (j ∷ ms))
    by None none g = ap (λ (q : Option ℕ). or_else q (cond (nat_eq o (owner_at os k)) (Some k) None)) none ∙ other (Some k) None o (owner_at os k) (ne none g) ∙ sym none
    by (Some i) some g = ap (λ (q : Option ℕ). or_else q (cond (nat_eq o (owner_at os k)) (Some k) None)) some ∙ sym some

not_zero : (k : ℕ) → k ≢ 0 → nat_eq k 0 ≡ false
not_zero k ne = elim (nat_eq k 0) as (λ b. nat_eq k 0 ≡ b → b ≡ false) [
  | true ↦ λ e. absurd (ne (eqb-true k 0 e))
  | false ↦ λ e. refl
] refl

tail_is : (os : List ℕ) (o : ℕ) (ms : List ℕ) → Misses 0 ms → cond (holds os (last_of 0 ms) o) (Some (last_of 0 ms)) None ≡ tail_of os o ms
tail_is os o [] m = refl
tail_is os o (k ∷ []) m = ap (λ (b : Bool). cond (not b && nat_eq o (owner_at os k)) (Some k) None) (not_zero k (λ e. m.0 (sym e)))
tail_is os o (k ∷ j ∷ ms) m = tail_is os o (j ∷ ms) m.1

grouped_less : (x : Owned) (xs ys : List Owned) → Grouped (xs ++ x ∷ ys) → Grouped (xs ++ ys)
grouped_less x [] ys h = h.1
grouped_less x (z ∷ zs) ys h = (first zs h.0 (behind zs h.1), grouped_less x zs ys h.1)
  where
    lack_less : (us : List Owned) → Lacks z.owner (us ++ x ∷ ys) → Lacks z.owner (us ++ ys)
    lack_less [] g = g.1
    lack_less (u ∷ us) g = (g.0, lack_less us g.1)

    behind : (us : List Owned) → Grouped (us ++ x ∷ ys) → Begins x.owner ys ⊎ Lacks x.owner ys
    behind [] g = g.0
    behind (u ∷ us) g = behind us g.1

    begins : (us : List Owned) → z.owner ≡ x.owner → Begins x.owner us → Begins z.owner us
    begins [] e b = absurd b
    begins (u ∷ us) e b = e ∙ b

    over : z.owner ≡ x.owner → Begins x.owner ys ⊎ Lacks x.owner ys → Begins z.owner ys ⊎ Lacks z.owner ys
    over e (inl b) = inl (begins ys e b)
    over e (inr l) = inr (subst (λ (v : ℕ). Lacks v ys) (sym e) l)

    first : (us : List Owned) → Begins z.owner (us ++ x ∷ ys) ⊎ Lacks z.owner (us ++ x ∷ ys) → Begins x.owner ys ⊎ Lacks x.owner ys → Begins z.owner (us ++ ys) ⊎ Lacks z.owner (us ++ ys)
    first [] (inl b) g = over b g
    first (u ∷ us) (inl b) g = inl b
    first us (inr l) g = inr (lack_less us l)

less_told : (os : List ℕ) (o n p : ℕ) (fs bs : List ℕ) → owner_at os n ≡ o → Misses 0 fs → Misses n bs → Grouped (pairs_of os fs ++ owned_at os n ∷ pairs_of os bs)
    → cond (nat_eq p o) (left_over (last_held o (pairs_of os fs ++ owned_at os n ∷ pairs_of os bs)) n (holds os (last_of 0 fs) o) (last_of 0 fs))
    (last_held p (pairs_of os fs ++ owned_at os n ∷ pairs_of os bs))
    ≡ last_held p (pairs_of os fs ++ pairs_of os bs)
less_told os o n p fs bs is some m grouped =
    elim (nat_eq p o) as (λ t. nat_eq p o ≡ t → cond t (left_over (last_held o all) n (holds os (last_of 0 fs) o) (last_of 0 fs)) (last_held p all) ≡ last_held p (pairs_of os fs ++ pairs_of os bs)) [
      | true ↦ λ e. its (last_held o (pairs_of os bs)) refl ∙ ap (λ (j : ℕ). last_held j (pairs_of os fs ++ pairs_of os bs)) (sym (eqb-true p o e))
      | false ↦ λ e. last_both p (pairs_of os fs) (owned_at os n ∷ pairs_of os bs)
          ∙ ap (λ (q : Option ℕ). or_else (or_else (last_held p (pairs_of os bs)) q) (last_held p (pairs_of os fs))) (other (Some n) None p (owner_at os n) (λ f. let t : nat_eq p o ≡ true = eq-eqb p o (f ∙ is) in cc))
          ∙ ap (λ (q : Option ℕ). or_else q (last_held p (pairs_of os fs))) (or_none (last_held p (pairs_of os bs)))
          ∙ sym (last_both p (pairs_of os fs) (pairs_of os bs))
    ] refl
  where
    all : List Owned
    all = pairs_of os fs ++ owned_at os n ∷ pairs_of os bs

    its : (q : Option ℕ) → last_held o (pairs_of os bs) ≡ q
        → left_over (last_held o all) n (holds os (last_of 0 fs) o) (last_of 0 fs) ≡ last_held o (pairs_of os fs ++ pairs_of os bs)
    its None none =
        let here : last_held o all ≡ Some n = last_both o (pairs_of os fs) (owned_at os n ∷ pairs_of os bs)
        ∙ ap (λ (q : Option ℕ). or_else (or_else q (cond (nat_eq o (owner_at os n)) (Some n) None)) (last_held o (pairs_of os fs))) none
        ∙ ap (λ (q : Option ℕ). or_else q (last_held o (pairs_of os fs))) (one (Some n) None o (owner_at os n) (sym is)) in
        ap (λ (q : Option ℕ). left_over q n (holds os (last_of 0 fs) o) (last_of 0 fs)) here
        ∙ one (cond (holds os (last_of 0 fs) o) (Some (last_of 0 fs)) None) (Some n) n n refl
        ∙ tail_is os o fs some
        ∙ sym (tail_last os o fs (owned_at os n) (pairs_of os bs) is grouped)
        ∙ sym (last_both o (pairs_of os fs) (pairs_of os bs) ∙ ap (λ (q : Option ℕ). or_else q (last_held o (pairs_of os fs))) none)
    its (Some j) is_j =
        let here : last_held o all ≡ Some j = last_both o (pairs_of os fs) (owned_at os n ∷ pairs_of os bs)
        ∙ ap (λ (q : Option ℕ). or_else (or_else q (cond (nat_eq o (owner_at os n)) (Some n) None)) (last_held o (pairs_of os fs))) is_j in
        ap (λ (q : Option ℕ). left_over q n (holds os (last_of 0 fs) o) (last_of 0 fs)) here
        ∙ other (cond (holds os (last_of 0 fs) o) (Some (last_of 0 fs)) None) (Some j) j n (λ e. last_in os o n bs m (is_j ∙ ap (λ (i : ℕ). Some i) e))
        ∙ sym (last_both o (pairs_of os fs) (pairs_of os bs) ∙ ap (λ (q : Option ℕ). or_else q (last_held o (pairs_of os fs))) is_j)

-- without a number the chain stays in groups, and the one before it may be the newest
pub grouped_taken : (os : List ℕ) (n o : ℕ) (ms : List ℕ) (size : ℕ) (newest now : List Owned) → AreGrouped os ms size newest → (w : IsHeld os ms n o) → Ascending now
    → ((p : ℕ) → lookup p now ≡ cond (nat_eq p o) (left_over (lookup o newest) n (holds os (last_of 0 w.member.front) o) (last_of 0 w.member.front)) (lookup p newest))
    → AreGrouped os (w.member.front ++ w.member.behind) size now
grouped_taken os n o ms size newest now kept w ascending told =
    let fs = w.member.front in
    let bs = w.member.behind in
    let differ : Differ (0 ∷ (fs ++ n ∷ bs)) = subst (λ (ks : List ℕ). Differ (0 ∷ ks)) w.member.parts kept.differ in
    let misses : Misses n (fs ++ bs) = misses_here fs bs n differ.1 in
    let within : AllByRecursion (λ k. k ≤ size) (fs ++ n ∷ bs) = subst (AllByRecursion (λ (k : ℕ). k ≤ size)) w.member.parts kept.within in
    let all : pairs_of os ms ≡ pairs_of os fs ++ owned_at os n ∷ pairs_of os bs = ap (pairs_of os) w.member.parts ∙ pairs_both os fs (n ∷ bs) in
    let grouped : Grouped (pairs_of os fs ++ owned_at os n ∷ pairs_of os bs) = subst Grouped all kept.grouped in
    record {
      wide = kept.wide;
      differ = differ_less (0 ∷ fs) bs n differ;
      within = all_both (λ k. k ≤ size) fs bs (all_front (λ k. k ≤ size) fs (n ∷ bs) within) (all_behind (λ k. k ≤ size) fs (n ∷ bs) within).1;
      grouped = subst Grouped (sym (pairs_both os fs bs)) (grouped_less (owned_at os n) (pairs_of os fs) (pairs_of os bs) grouped);
      ascending = ascending;
      told = λ p. told p
          ∙ ap (λ (q : Option ℕ). cond (nat_eq p o) (left_over q n (holds os (last_of 0 fs) o) (last_of 0 fs)) (lookup p newest)) (kept.told o ∙ ap (last_held o) all)
          ∙ ap (λ (q : Option ℕ). cond (nat_eq p o) (left_over (last_held o (pairs_of os fs ++ owned_at os n ∷ pairs_of os bs)) n (holds os (last_of 0 fs) o) (last_of 0 fs)) q) (kept.told p ∙ ap (last_held p) all)
          ∙ less_told os o n p fs bs w.owner (misses_front 0 fs (n ∷ bs) differ.0) (misses_behind n fs bs misses) grouped
          ∙ ap (last_held p) (sym (pairs_both os fs bs));
    }

-- ---- what the calls answer

newest_owner : (os ms : List ℕ) (size : ℕ) (newest : List Owned) (o k : ℕ) → AreGrouped os ms size newest → lookup o newest ≡ Some k → owner_of k (pairs_of os ms) ≡ Some o
newest_owner os ms size newest o k kept is = by (last_at os o k ms (sym (kept.told o) ∙ is))
  where
    by : IsLast os ms o k → owner_of k (pairs_of os ms) ≡ Some o
    by w =
        let differ : Differ (w.member.front ++ k ∷ w.member.behind) = subst Differ w.member.parts kept.differ.1 in
        ap (λ (js : List ℕ). owner_of k (pairs_of os js)) w.member.parts
        ∙ ap (owner_of k) (pairs_both os w.member.front (k ∷ w.member.behind))
        ∙ owner_more k (owner_at os k) k (pairs_of os w.member.front) (pairs_of os w.member.behind) (miss_none os k w.member.front (misses_front k w.member.front w.member.behind (misses_here w.member.front w.member.behind k differ)))
        ∙ one (Some (owner_at os k)) (owner_of k (pairs_of os w.member.front ++ pairs_of os w.member.behind)) k k refl
        ∙ ap (λ (v : ℕ). Some v) w.owner

lacks_at : (os : List ℕ) (o k : ℕ) (ms : List ℕ) → Lacks o (pairs_of os ms) → owner_of k (pairs_of os ms) ≡ Some o → ⊥
lacks_at os o k ms l h = by (held_at os k o ms h)
  where
    behind : (xs ys : List Owned) → Lacks o (xs ++ ys) → Lacks o ys
    behind [] ys g = g
    behind (x ∷ xs) ys g = behind xs ys g.1

    by : IsHeld os ms k o → ⊥
    by w = (behind (pairs_of os w.member.front) (owned_at os k ∷ pairs_of os w.member.behind) (subst (Lacks o) (ap (pairs_of os) w.member.parts ∙ pairs_both os w.member.front (k ∷ w.member.behind)) l)).0 (sym w.owner)

-- the newest number that is found for an owner is that owner's
pub newest_some : (os ms : List ℕ) (size : ℕ) (newest : List Owned) (o : ℕ) (r : Option ℕ) → AreGrouped os ms size newest → r ≡ lookup o newest
    → IfSome r (λ k. owner_of k (pairs_of os ms) ≡ Some o)
newest_some os ms size newest o None kept is = tt
newest_some os ms size newest o (Some k) kept is = newest_owner os ms size newest o k kept (sym is)

-- an owner without a newest number has no number at all
pub newest_none : (os ms : List ℕ) (size : ℕ) (newest : List Owned) (o : ℕ) (r : Option ℕ) → AreGrouped os ms size newest → r ≡ lookup o newest
    → IfNone r ((k : ℕ) → owner_of k (pairs_of os ms) ≢ Some o)
newest_none os ms size newest o (Some k) kept is = tt
newest_none os ms size newest o None kept is = λ k h. lacks_at os o k ms (none_lacks o (pairs_of os ms) (sym (kept.told o) ∙ sym is)) h

-- after one more
pub owners_more : (os us : List ℕ) (n o at : ℕ) (ms : List ℕ) → Reowned os us n o → Misses n ms → (c : IsCut ms at)
    → (k : ℕ) → owner_of k (pairs_of us (c.front ++ n ∷ c.behind)) ≡ cond (nat_eq k n) (Some o) (owner_of k (pairs_of os ms))
owners_more os us n o at ms h m c k =
    ap (owner_of k) (pairs_more os us n o at ms h m c)
    ∙ owner_more n o k (pairs_of os c.front) (pairs_of os c.behind) (miss_none os n c.front (misses_front n c.front c.behind (subst (Misses n) c.parts m)))
    ∙ ap (λ (ps : List Owned). cond (nat_eq k n) (Some o) (owner_of k ps)) (sym (ap (pairs_of os) c.parts ∙ pairs_both os c.front c.behind))

-- after one less
pub owners_less : (os : List ℕ) (n o : ℕ) (ms : List ℕ) → Differ ms → (w : IsHeld os ms n o)
    → (k : ℕ) → owner_of k (pairs_of os (w.member.front ++ w.member.behind)) ≡ cond (nat_eq k n) None (owner_of k (pairs_of os ms))
owners_less os n o ms d w k =
    let misses : Misses n (w.member.front ++ w.member.behind) = misses_here w.member.front w.member.behind n (subst Differ w.member.parts d) in
    ap (owner_of k) (pairs_both os w.member.front w.member.behind)
    ∙ owner_less n k (owned_at os n) (pairs_of os w.member.front) (pairs_of os w.member.behind) refl
    (miss_none os n w.member.front (misses_front n w.member.front w.member.behind misses)) (miss_none os n w.member.behind (misses_behind n w.member.front w.member.behind misses))
    ∙ ap (λ (ps : List Owned). cond (nat_eq k n) None (owner_of k ps)) (sym (ap (pairs_of os) w.member.parts ∙ pairs_both os w.member.front (n ∷ w.member.behind)))

-- with their owners there are as many numbers
pub many : (os ms : List ℕ) → length (pairs_of os ms) ≡ length ms
many os [] = refl
many os (m ∷ ms) = ap (λ (k : ℕ). suc k) (many os ms)

-- a number put between makes a list one longer
pub one_longer : (xs ys : List ℕ) (n : ℕ) → length (xs ++ n ∷ ys) ≡ length (xs ++ ys) + 1
one_longer xs ys n = let e = length-append xs (n ∷ ys) in let f = length-append xs ys in omega arith

-- the last number before a cut is within the size
pub last_within : (ms fs bs : List ℕ) (size : ℕ) → AllByRecursion (λ k. k ≤ size) ms → ms ≡ fs ++ bs → last_of 0 fs ≤ size
last_within ms fs bs size h is = last_holds (λ k. k ≤ size) 0 fs (omega arith) (all_front (λ k. k ≤ size) fs bs (subst (AllByRecursion (λ (k : ℕ). k ≤ size)) is h))
