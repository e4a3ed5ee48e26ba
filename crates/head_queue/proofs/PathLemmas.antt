-- Numbers that are linked in both directions: one put between, and one taken out.
use Rattle.std.proofs.Common.{◌≡◌, ◌≢◌, ℕ, List, [], ◌∷◌, ◌++◌, length, refl, ap, sym, ◌∙◌}
use Rattle.head_queue.specs.Cuts.{first_of, last_of, Misses, Differ}
use Rattle.head_queue.specs.Rings.{IsPath, met_from}

-- ---- lists of numbers that differ

-- a number that isn't in a list isn't in the front of it
pub misses_front : (k : ℕ) (xs ys : List ℕ) → Misses k (xs ++ ys) → Misses k xs
misses_front k [] ys h = tt
misses_front k (x ∷ xs) ys h = (h.0, misses_front k xs ys h.1)

-- a number that isn't in a list isn't behind in it
pub misses_behind : (k : ℕ) (xs ys : List ℕ) → Misses k (xs ++ ys) → Misses k ys
misses_behind k [] ys h = h
misses_behind k (x ∷ xs) ys h = misses_behind k xs ys h.1

-- a number that is neither in front nor behind isn't in the list
pub misses_both : (k : ℕ) (xs ys : List ℕ) → Misses k xs → Misses k ys → Misses k (xs ++ ys)
misses_both k [] ys h g = g
misses_both k (x ∷ xs) ys h g = (h.0, misses_both k xs ys h.1 g)

-- the numbers behind a cut differ
pub differ_behind : (xs ys : List ℕ) → Differ (xs ++ ys) → Differ ys
differ_behind [] ys h = h
differ_behind (x ∷ xs) ys h = differ_behind xs ys h.1

-- one that differs from all is put between
pub differ_more : (xs ys : List ℕ) (k : ℕ) → Misses k (xs ++ ys) → Differ (xs ++ ys) → Differ (xs ++ k ∷ ys)
differ_more [] ys k h d = (h, d)
differ_more (x ∷ xs) ys k h d =
    (misses_both x xs (k ∷ ys) (misses_front x xs ys d.0) (λ e. h.0 (sym e), misses_behind x xs ys d.0), differ_more xs ys k h.1 d.1)

-- one is taken out
pub differ_less : (xs ys : List ℕ) (k : ℕ) → Differ (xs ++ k ∷ ys) → Differ (xs ++ ys)
differ_less [] ys k d = d.1
differ_less (x ∷ xs) ys k d =
    (misses_both x xs ys (misses_front x xs (k ∷ ys) d.0) (misses_behind x xs (k ∷ ys) d.0).1, differ_less xs ys k d.1)

-- what stands at one place stands at no other
pub misses_here : (xs ys : List ℕ) (k : ℕ) → Differ (xs ++ k ∷ ys) → Misses k (xs ++ ys)
misses_here [] ys k d = d.0
misses_here (x ∷ xs) ys k d = (λ e. (misses_behind x xs (k ∷ ys) d.0).0 (sym e), misses_here xs ys k d.1)

-- a number that isn't in a list, and isn't the end, isn't its first
pub misses_first : (k e : ℕ) (xs : List ℕ) → k ≢ e → Misses k xs → k ≢ first_of e xs
misses_first k e [] ne h = ne
misses_first k e (x ∷ xs) ne h = h.0

-- a number that isn't in a list, and isn't the begin, isn't its last
pub misses_last : (k p : ℕ) (xs : List ℕ) → k ≢ p → Misses k xs → k ≢ last_of p xs
misses_last k p [] ne h = ne
misses_last k p (x ∷ xs) ne h = misses_last k x xs h.0 h.1

-- ---- paths

-- links elsewhere don't count
path_kept : (f b g c : ℕ → ℕ) (from to also p : ℕ) (xs : List ℕ) (e : ℕ)
    → ((s : ℕ) → s ≢ from → s ≢ also → g s ≡ f s) → ((t : ℕ) → t ≢ to → t ≢ also → c t ≡ b t)
    → from ≢ p → also ≢ p → Misses from xs → Misses also xs → also ≢ e → Misses to xs → to ≢ e
    → IsPath f b p xs e → IsPath g c p xs e
path_kept f b g c from to also p [] e same_after same_before nfp nap mf ma nae mt nte h =
    (same_after p (λ q. nfp (sym q)) (λ q. nap (sym q)) ∙ h.0, same_before e (λ q. nte (sym q)) (λ q. nae (sym q)) ∙ h.1)
path_kept f b g c from to also p (x ∷ xs) e same_after same_before nfp nap mf ma nae mt nte h = (
  same_after p (λ q. nfp (sym q)) (λ q. nap (sym q)) ∙ h.0,
  same_before x (λ q. mt.0 (sym q)) (λ q. ma.0 (sym q)) ∙ h.1,
  path_kept f b g c from to also x xs e same_after same_before mf.0 ma.0 mf.1 ma.1 nae mt.1 nte h.2,
)

-- k stands between at and next now, and all other links are as they were
pub record Puts (f b g c : ℕ → ℕ) (at k next : ℕ) : Type 0 where
  pub to_it : g at ≡ k
  pub from_it : g k ≡ next
  pub back_to_it : c next ≡ k
  pub back_from_it : c k ≡ at
  pub afters : (s : ℕ) → s ≢ at → s ≢ k → g s ≡ f s
  pub befores : (t : ℕ) → t ≢ next → t ≢ k → c t ≡ b t

-- a number that is linked in between two others makes the path one longer
pub path_more : (f b g c : ℕ → ℕ) (k p : ℕ) (xs ys : List ℕ) (e : ℕ) → Puts f b g c (last_of p xs) k (first_of e ys)
    → Differ (p ∷ (xs ++ ys)) → Misses k (p ∷ (xs ++ ys)) → k ≢ e → Misses e (xs ++ ys)
    → IsPath f b p (xs ++ ys) e → IsPath g c p (xs ++ k ∷ ys) e
path_more f b g c k p [] [] e w d m ke me h = (w.to_it, w.back_from_it, (w.from_it, w.back_to_it))
path_more f b g c k p [] (y ∷ ys) e w d m ke me h = (
  w.to_it,
  w.back_from_it,
  (
    w.from_it,
    w.back_to_it,
    path_kept f b g c p y k y ys e w.afters w.befores d.0.0 m.1.0 d.0.1 m.1.1 ke d.1.0 (λ q. me.0 (sym q)) h.2,
  ),
)
path_more f b g c k p (x ∷ xs) ys e w d m ke me h = (
  w.afters p (misses_last p x xs d.0.0 (misses_front p xs ys d.0.1)) (λ q. m.0 (sym q)) ∙ h.0,
  w.befores x (misses_first x e ys (λ q. me.0 (sym q)) (misses_behind x xs ys d.1.0)) (λ q. m.1.0 (sym q)) ∙ h.1,
  path_more f b g c k x xs ys e w d.1 m.1 ke me.1 h.2,
)

-- at and next are linked with each other now, and all other links but those of k are as they were
pub record Joins (f b g c : ℕ → ℕ) (at next : ℕ) : Type 0 where
  pub to_it : g at ≡ next
  pub back_to_it : c next ≡ at
  pub afters : (s : ℕ) → s ≢ at → g s ≡ f s
  pub befores : (t : ℕ) → t ≢ next → c t ≡ b t

-- a number whose neighbours are joined falls out of the path
pub path_less : (f b g c : ℕ → ℕ) (k p : ℕ) (xs ys : List ℕ) (e : ℕ) → Joins f b g c (last_of p xs) (first_of e ys)
    → Differ (p ∷ (xs ++ k ∷ ys)) → Misses e (xs ++ k ∷ ys)
    → IsPath f b p (xs ++ k ∷ ys) e → IsPath g c p (xs ++ ys) e
path_less f b g c k p [] [] e w d me h = (w.to_it, w.back_to_it)
path_less f b g c k p [] (y ∷ ys) e w d me h = (
  w.to_it,
  w.back_to_it,
  path_kept f b g c p y k y ys e (λ s n _. w.afters s n) (λ t n _. w.befores t n) d.0.1.0 d.1.0.0 d.0.1.1 d.1.0.1 (λ q. me.0 (sym q)) d.1.1.0 (λ q. me.1.0 (sym q)) h.2.2,
)
path_less f b g c k p (x ∷ xs) ys e w d me h = (
  w.afters p (misses_last p x xs d.0.0 (misses_front p xs (k ∷ ys) d.0.1)) ∙ h.0,
  w.befores x (misses_first x e ys (λ q. me.0 (sym q)) (misses_behind x xs (k ∷ ys) d.1.0).1) ∙ h.1,
  path_less f b g c k x xs ys e w d.1 me.1 h.2,
)

-- what is linked with a number within
pub path_at : (f b : ℕ → ℕ) (k p : ℕ) (xs ys : List ℕ) (e : ℕ) → IsPath f b p (xs ++ k ∷ ys) e → (b k ≡ last_of p xs) × (f k ≡ first_of e ys)
path_at f b k p [] [] e h = (h.1, h.2.0)
path_at f b k p [] (y ∷ ys) e h = (h.1, h.2.0)
path_at f b k p (x ∷ xs) ys e h = path_at f b k x xs ys e h.2

-- the last number before a cut is linked with the first behind it
pub path_after : (f b : ℕ → ℕ) (p : ℕ) (xs ys : List ℕ) (e : ℕ) → IsPath f b p (xs ++ ys) e → f (last_of p xs) ≡ first_of e ys
path_after f b p [] [] e h = h.0
path_after f b p [] (y ∷ ys) e h = h.0
path_after f b p (x ∷ xs) ys e h = path_after f b x xs ys e h.2

-- the numbers of a path are those that are met along it
pub path_met : (f b : ℕ → ℕ) (p : ℕ) (xs : List ℕ) (e : ℕ) → IsPath f b p xs e → met_from f (length xs) (f p) ≡ xs
path_met f b p [] e h = refl
path_met f b p (x ∷ xs) e h = ap (λ n. n ∷ met_from f (length xs) (f n)) h.0 ∙ ap (λ ns. x ∷ ns) (path_met f b x xs e h.2)

-- links that are alike make the same path
pub path_alike : (f b g c : ℕ → ℕ) (p : ℕ) (xs : List ℕ) (e : ℕ) → ((s : ℕ) → g s ≡ f s) → ((t : ℕ) → c t ≡ b t) → IsPath f b p xs e → IsPath g c p xs e
path_alike f b g c p [] e same_after same_before h = (same_after p ∙ h.0, same_before e ∙ h.1)
path_alike f b g c p (x ∷ xs) e same_after same_before h = (same_after p ∙ h.0, same_before x ∙ h.1, path_alike f b g c x xs e same_after same_before h.2)
