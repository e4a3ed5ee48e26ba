-- How a pattern is followed along a text, and what a `*` makes of it.
use Rattle.std.proofs.Common.{◌≡◌, ◌≢◌, ◌⊎◌, inl, inr, ◌↔◌, ℕ, ◌+◌, List, [], ◌∷◌, ◌++◌, take, drop, length, refl, sym, ap, subst, ◌∙◌, arith, append_assoc}
use Rattle.std.proofs.lemmas.List.{drop-drop, drop_at, take-append-drop}
use Rattle.std.proofs.lemmas.Bool.{cases_eq}
use Rattle.std.proofs.Math.Nat.{add_comm}
use Rattle.tape_layout.specs.PlacementPolicy.Patterns.{IsRunOf, StandsFor}
use Rattle.std.specs.Str.{chars}
use Rattle.tape_layout.specs.PlacementPolicy.Walks.{IsFollowed, IsFound, IsWalk}
use Rattle.tape_layout.specs.declared.placement.patterns.Walk.{Walk}
use Rattle.tape_layout.specs.declared.placement.patterns.Walk.TheVariants.{Star, Whole, Stuck}

-- a list of length 0 is the empty one
pub empty_is : (xs : List ℕ) → length xs ≡ 0 → xs ≡ []
empty_is [] e = refl
empty_is (x ∷ xs) e = absurd (omega arith)

-- ---- one character

-- a character other than `*` stands for the first of a text
pub record IsPassed (p : ℕ) (ps text : List ℕ) : Type 0 where
  pub c : ℕ
  pub behind : List ℕ
  pub whole : text ≡ c ∷ behind
  pub passes : (p ≡ 63) ⊎ (p ≡ c)
  pub rest : StandsFor ps behind

one_long : (run : List ℕ) → length run ≡ 1 → (c : ℕ) × (run ≡ c ∷ [])
one_long (c ∷ []) e = (c, refl)
one_long [] e = absurd (omega arith)
one_long (c ∷ d ∷ run) e = absurd (omega arith)

-- a character of a pattern that isn't `*` is passed by one character of the text
pub passed : (p : ℕ) (ps text : List ℕ) → p ≢ 42 → StandsFor (p ∷ ps) text → IsPassed p ps text
passed p ps text other h = elim h.first [
  | inl star ↦ absurd (other star)
  | inr (inl one) ↦
      let only = one_long h.front one.1 in
      record { c = only.0; behind = h.behind; whole = h.whole ∙ ap (λ run. run ++ h.behind) only.1; passes = inl one.0; rest = h.rest }
  | inr (inr itself) ↦ record { c = p; behind = h.behind; whole = h.whole ∙ ap (λ run. run ++ h.behind) itself.2; passes = inr refl; rest = h.rest }
]

-- a character that fits goes in front of a pattern and of its text
pub passes_on : (p c : ℕ) (ps cs : List ℕ) → p ≢ 42 → (p ≡ 63) ⊎ (p ≡ c) → StandsFor ps cs → StandsFor (p ∷ ps) (c ∷ cs)
passes_on p c ps cs other passes h = record { front = c ∷ []; behind = cs; whole = refl; first = run passes; rest = h }
  where
    run : (p ≡ 63) ⊎ (p ≡ c) → IsRunOf p (c ∷ [])
    run (inl one) = inr (inl (one, refl))
    run (inr itself) = elim (cases_eq p 63) [
      | inl one ↦ inr (inl (one, refl))
      | inr not_one ↦ inr (inr (other, not_one, ap (λ x. x ∷ []) (sym itself)))
    ]

-- ---- a `*`

star_takes : (ps run rest : List ℕ) → StandsFor ps rest → StandsFor (42 ∷ ps) (run ++ rest)
star_takes ps run rest h = record { front = run; behind = rest; whole = refl; first = inl refl; rest = h }

-- a longer run does as well
star_takes_more : (ps text : List ℕ) (n : ℕ) → StandsFor (42 ∷ ps) (drop n text) → StandsFor (42 ∷ ps) text
star_takes_more ps text n h = record {
  front = take n text ++ h.front;
  behind = h.behind;
  whole = sym (take-append-drop n text) ∙ ap (λ t. take n text ++ t) h.whole ∙ sym (append_assoc (take n text) h.front h.behind);
  first = inl refl;
  rest = h.rest;
}

-- behind a `*` the first place serves from which a pattern can be followed up to its next `*`
found_star : (pattern text left at : List ℕ) → IsFollowed pattern text (42 ∷ left) at → StandsFor (42 ∷ pattern) text ↔ StandsFor (42 ∷ left) at
found_star pattern text left at h = (further, λ is. star_takes pattern [] text (h.back is))
  where
    further : StandsFor (42 ∷ pattern) text → StandsFor (42 ∷ left) at
    further is =
        let there : drop (length is.front) text ≡ is.behind = ap (drop (length is.front)) is.whole ∙ drop_at is.front is.behind (length is.front) refl in
        let same : drop h.count is.behind ≡ drop (length is.front) at =
        ap (drop h.count) (sym there) ∙ drop-drop h.count (length is.front) text ∙ ap (λ n. drop n text) (add_comm (length is.front) h.count)
        ∙ sym (drop-drop (length is.front) h.count text) ∙ ap (drop (length is.front)) (sym h.at_is) in
        star_takes_more left at (length is.front) (subst (StandsFor (42 ∷ left)) same (h.along is.behind is.rest))

-- where a pattern doesn't stand for a text, a `*` before it takes its first character
moves : (pattern cs : List ℕ) (c : ℕ) → (StandsFor pattern (c ∷ cs) → ⊥) → StandsFor (42 ∷ pattern) (c ∷ cs) ↔ StandsFor (42 ∷ pattern) cs
moves pattern cs c none = (λ is. taken is.front is.behind is.whole is.rest, star_takes_more pattern (c ∷ cs) 1)
  where
    taken : (front behind : List ℕ) → c ∷ cs ≡ front ++ behind → StandsFor pattern behind → StandsFor (42 ∷ pattern) cs
    taken [] behind whole is = absurd (none (subst (StandsFor pattern) (sym whole) is))
    taken (d ∷ front) behind whole is = let rest : front ++ behind ≡ cs = cc in subst (StandsFor (42 ∷ pattern)) rest (star_takes pattern front behind is)

ends : (pattern : List ℕ) → (StandsFor pattern [] → ⊥) → StandsFor (42 ∷ pattern) [] → ⊥
ends pattern none is = none (left is.front is.behind is.whole is.rest)
  where
    left : (front behind : List ℕ) → [] ≡ front ++ behind → StandsFor pattern behind → StandsFor pattern []
    left [] behind whole is = subst (StandsFor pattern) (sym whole) is
    left (d ∷ front) behind whole is = cc

-- ---- following

begins : (pattern text : List ℕ) → IsFollowed pattern text pattern text
begins pattern text = record { count = 0; at_is = refl; along = λ other h. h; back = λ h. h }

-- where one character fits, the pattern is followed over it on both sides
pub steps : (pattern text ps cs : List ℕ) (p c : ℕ) → p ≢ 42 → (p ≡ 63) ⊎ (p ≡ c) → IsFollowed pattern text (p ∷ ps) (c ∷ cs) → IsFollowed pattern text ps cs
steps pattern text ps cs p c other passes h = record {
  count = h.count + 1;
  at_is = sym (next (c ∷ cs) cs h.count text (sym h.at_is) c refl);
  along = λ t is.
      let one = passed p ps (drop h.count t) other (h.along t is) in
      subst (StandsFor ps) (sym (next (one.c ∷ one.behind) one.behind h.count t one.whole one.c refl)) one.rest;
  back = λ is. h.back (passes_on p c ps cs other passes is);
}
  where
    next : (left behind : List ℕ) (n : ℕ) (t : List ℕ) → drop n t ≡ left → (d : ℕ) → left ≡ d ∷ behind → drop (n + 1) t ≡ behind
    next left behind n t is d whole = sym (drop-drop 1 n t) ∙ ap (drop 1) (is ∙ whole)

stuck : (pattern text left at : List ℕ) → IsFollowed pattern text left at → (StandsFor left at → ⊥) → StandsFor pattern text → ⊥
stuck pattern text left at h none is = none (subst (StandsFor left) (sym h.at_is) (h.along text is))

too_short : (p : ℕ) (ps : List ℕ) → p ≢ 42 → StandsFor (p ∷ ps) [] → ⊥
too_short p ps other is = let one = passed p ps [] other is in let whole = one.whole in cc

-- ---- what the walk along a pattern tells

-- a pattern with a character left stands for no text that is used up
pub short_text : (pattern text left at ps : List ℕ) (p : ℕ) → IsFollowed pattern text left at → left ≡ p ∷ ps → at ≡ [] → p ≢ 42 → StandsFor pattern text → ⊥
short_text pattern text left at ps p h first none other =
    stuck pattern text left at h (λ is. too_short p ps other (subst (StandsFor (p ∷ ps)) none (subst (λ l. StandsFor l at) first is)))

long_text : (pattern text left at cs : List ℕ) (c : ℕ) → IsFollowed pattern text left at → left ≡ [] → at ≡ c ∷ cs → StandsFor pattern text → ⊥
long_text pattern text left at cs c h none first = stuck pattern text left at h (λ is. let ended : at ≡ [] = subst (λ l. StandsFor l at) none is in cc)

-- a `?` or an equal character carries a pattern further along a text
pub goes_on : (pattern text left at ps cs : List ℕ) (p c : ℕ) → IsFollowed pattern text left at → left ≡ p ∷ ps → at ≡ c ∷ cs → p ≢ 42 → ((p ≢ 63) × (p ≡ c)) ⊎ (p ≡ 63) → IsFollowed pattern text ps cs
goes_on pattern text left at ps cs p c h first next other passes =
    steps pattern text ps cs p c other (elim passes [ inl itself ↦ inr itself.1 | inr one ↦ inl one ]) (subst (λ a. IsFollowed pattern text (p ∷ ps) a) next (subst (λ l. IsFollowed pattern text l at) first h))

-- ---- what is found behind a `*`

-- where a walk from some place isn't stuck, the text behind a `*` is found as it says
pub found : (pattern text at : List ℕ) (walk : Walk) → (StandsFor (42 ∷ pattern) text ↔ StandsFor (42 ∷ pattern) at) → IsWalk pattern at walk → (walk ≡ Stuck → ⊥) → IsFound pattern text walk
found pattern text at (Star left rest) same h other = let star = found_star pattern at (chars left.now) (chars rest.now) h in (λ is. star.0 (same.0 is), λ is. same.1 (star.1 is))
found pattern text at Whole same h other = same.1 (star_takes pattern [] at h)
found pattern text at Stuck same h other = absurd (other refl)

-- where the rest doesn't stand from here, a `*` takes one more character
pub goes_further : (pattern text at rest : List ℕ) (c : ℕ) → (StandsFor (42 ∷ pattern) text ↔ StandsFor (42 ∷ pattern) at) → (StandsFor pattern at → ⊥) → at ≡ c ∷ rest → (StandsFor (42 ∷ pattern) text ↔ StandsFor (42 ∷ pattern) rest)
goes_further pattern text at rest c same none first =
    let next = moves pattern rest c (subst (λ t. StandsFor pattern t → ⊥) first none) in
    (λ is. next.0 (subst (StandsFor (42 ∷ pattern)) first (same.0 is)), λ is. same.1 (subst (StandsFor (42 ∷ pattern)) (sym first) (next.1 is)))

-- where nothing is left for a `*` to take, the pattern doesn't stand for the text
pub never_found : (pattern text at : List ℕ) → (StandsFor (42 ∷ pattern) text ↔ StandsFor (42 ∷ pattern) at) → (StandsFor pattern at → ⊥) → at ≡ [] → StandsFor (42 ∷ pattern) text → ⊥
never_found pattern text at same none first is =
    ends pattern (subst (λ t. StandsFor pattern t → ⊥) first none) (subst (StandsFor (42 ∷ pattern)) first (same.0 is))
