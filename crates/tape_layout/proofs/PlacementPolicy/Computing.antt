-- The test tells for which texts a pattern stands, and which files a policy chooses.
use Rattle.std.proofs.Common.{◌≡◌, ◌≢◌, ◌⊎◌, inl, inr, ◌↔◌, ℕ, eqb, leb, Bool, true, false, ◌&&◌, ◌||◌, List, [], ◌∷◌, ◌++◌, length, Option, Some, None, refl, sym, ap, subst, arith, IsTrue}
use Rattle.std.specs.List.{list_any, Any}
use Rattle.std.specs.Str.{chars}
use Rattle.std.proofs.lemmas.Bool.{cases_eq, and_parts, or_cases, or_left, or_right}
use Rattle.std.proofs.lemmas.List.Folds.{Any-from_list_any, list_any-from_Any}
use Rattle.std.proofs.lemmas.Bool.Decides.{nat_tests}
use Rattle.index_model.specs.declared.indexes.Policy.{Policy}
use Rattle.tape_layout.specs.PlacementPolicy.Computed.{suffixes, one_then, stands_for, matches, chooses_ip}
use Rattle.tape_layout.specs.PlacementPolicy.Patterns.{StandsFor, Matches}
use Rattle.tape_layout.specs.PlacementPolicy.Policies.{IsChosen, ChoosesIp, IsComputed}
use Rattle.tape_layout.proofs.PlacementPolicy.Follows.{passed, passes_on, empty_is}

-- ---- what tests tell

-- ---- behind a `*`

pub record IsEnd (test : List ℕ → Bool) (text : List ℕ) : Type 0 where
  pub front : List ℕ
  pub behind : List ℕ
  pub whole : text ≡ front ++ behind
  pub passes : test behind ≡ true

end_of : (test : List ℕ → Bool) (text : List ℕ) → list_any test (suffixes text) ≡ true → IsEnd test text
end_of test [] e = elim (or_cases (test []) false e) [
  | inl is ↦ record { front = []; behind = []; whole = refl; passes = is }
  | inr no_more ↦ cc
]
end_of test (c ∷ cs) e = elim (or_cases (test (c ∷ cs)) (list_any test (suffixes cs)) e) [
  | inl is ↦ record { front = []; behind = c ∷ cs; whole = refl; passes = is }
  | inr more ↦ let end = end_of test cs more in record { front = c ∷ end.front; behind = end.behind; whole = ap (λ t. c ∷ t) end.whole; passes = end.passes }
]

end_is : (test : List ℕ → Bool) (front behind : List ℕ) → test behind ≡ true → list_any test (suffixes (front ++ behind)) ≡ true
end_is test [] [] e = or_left (test []) false e
end_is test [] (c ∷ cs) e = or_left (test (c ∷ cs)) (list_any test (suffixes cs)) e
end_is test (c ∷ front) behind e = or_right (test (c ∷ front ++ behind)) (list_any test (suffixes (front ++ behind))) (end_is test front behind e)

-- ---- patterns

passes_one : (p : ℕ) (ps text : List ℕ) → p ≢ 42 → ((t : List ℕ) → stands_for ps t ≡ true → StandsFor ps t) → one_then (λ c. eqb p 63 || eqb p c) (stands_for ps) text ≡ true → StandsFor (p ∷ ps) text
passes_one p ps [] other all e = absurd cc
passes_one p ps (c ∷ cs) other all e =
    let parts = and_parts (eqb p 63 || eqb p c) (stands_for ps cs) e in
    passes_on p c ps cs other (elim (or_cases (eqb p 63) (eqb p c) parts.0) [
      | inl one ↦ inl (grind (arith, nat_tests, one))
      | inr itself ↦ inr (grind (arith, nat_tests, itself))
    ]) (all cs parts.1)

-- the test says yes only of a text that the pattern stands for
pub stands : (ps text : List ℕ) → stands_for ps text ≡ true → StandsFor ps text
stands [] text e = let none : length text ≡ 0 = grind (arith, nat_tests, e) in empty_is text none
stands (p ∷ ps) text e = elim (cases_eq p 42) [
  | inl star ↦
      let test : eqb p 42 ≡ true = grind (arith, nat_tests) in
      let end = end_of (stands_for ps) text (rw test at e) in
      record { front = end.front; behind = end.behind; whole = end.whole; first = inl star; rest = stands ps end.behind end.passes }
  | inr other ↦
      let test : eqb p 42 ≡ false = grind (arith, nat_tests) in
      passes_one p ps text other (stands ps) (rw test at e)
]

stands_only : (ps text : List ℕ) → StandsFor ps text → stands_for ps text ≡ true
stands_only [] text h = rw h refl
stands_only (p ∷ ps) text h = elim (cases_eq p 42) [
  | inl star ↦
      let test : eqb p 42 ≡ true = grind (arith, nat_tests) in
      rw test (subst (λ t. list_any (stands_for ps) (suffixes t) ≡ true) (sym h.whole) (end_is (stands_for ps) h.front h.behind (stands_only ps h.behind h.rest)))
  | inr other ↦
      let test : eqb p 42 ≡ false = grind (arith, nat_tests) in
      let one = passed p ps text other h in
      rw test (subst (λ t. one_then (λ c. eqb p 63 || eqb p c) (stands_for ps) t ≡ true) (sym one.whole) (one_does p one.c ps one.behind one.passes (stands_only ps one.behind one.rest)))
]
  where
    one_does : (p c : ℕ) (ps cs : List ℕ) → (p ≡ 63) ⊎ (p ≡ c) → stands_for ps cs ≡ true → ((eqb p 63 || eqb p c) && stands_for ps cs) ≡ true
    one_does p c ps cs passes e = rw e (elim passes [
      | inl one ↦ let test : eqb p 63 ≡ true = grind (arith, nat_tests) in rw test refl
      | inr itself ↦ let test : eqb p c ≡ true = grind (arith, nat_tests) in elim (eqb p 63) as (λ b. ((b || eqb p c) && true) ≡ true) [ true ↦ refl | false ↦ rw test refl ]
    ])

-- two tests of one thing are equal
same_test : {P : Type 0} (a b : Bool) → (IsTrue a ↔ P) → (IsTrue b ↔ P) → a ≡ b
same_test true true x y = refl
same_test false false x y = refl
same_test true false x y = absurd (let e : false ≡ true = y.1 (x.0 refl) in cc)
same_test false true x y = absurd (let e : false ≡ true = x.1 (y.0 refl) in cc)

pattern_is : (pattern name : List ℕ) → IsTrue (matches pattern name) ↔ Matches pattern name
pattern_is pattern name = (stands (chars pattern) (chars name), stands_only (chars pattern) (chars name))

-- a test that is right about a pattern and a name agrees with the computed one
pub same_match : (b : Bool) (pattern name : List ℕ) → (IsTrue b ↔ Matches pattern name) → b ≡ matches pattern name
same_match b pattern name h = same_test b (matches pattern name) h (pattern_is pattern name)

-- ---- policies

any_stands : (name : List ℕ) (patterns : List (List ℕ)) → list_any (λ pattern. matches pattern name) patterns ≡ true → Any (λ pattern. Matches pattern name) patterns
any_stands name patterns e =
    let h = Any-from_list_any (λ pattern. matches pattern name) patterns e in
    (h.0, h.1, h.2, h.3, stands (chars h.1) (chars name) h.4)

any_only : (name : List ℕ) (patterns : List (List ℕ)) → Any (λ pattern. Matches pattern name) patterns → list_any (λ pattern. matches pattern name) patterns ≡ true
any_only name patterns h = list_any-from_Any (λ pattern. matches pattern name) patterns (h.0, h.1, h.2, h.3, stands_only (chars h.1) (chars name) h.4)

none_are : (patterns : List (List ℕ)) → length patterns ≡ 0 → patterns ≡ []
none_are [] e = refl
none_are (p ∷ ps) e = absurd (omega arith)

-- the test computes for which texts a pattern stands
pub computed : IsComputed
computed None name size = (λ e. cc, absurd)
computed (Some policy) name size = (chosen, only)
  where
    chosen : IsTrue (chooses_ip (Some policy) name size) → IsChosen policy name size
    chosen e =
        let parts = and_parts (leb size policy.size) (eqb (length policy.names) 0 || list_any (λ pattern. matches pattern name) policy.names) e in
        record {
          short = grind (arith, nat_tests, parts.0);
          named = elim (or_cases (eqb (length policy.names) 0) (list_any (λ pattern. matches pattern name) policy.names) parts.1) [
            | inl none ↦ inl (none_are policy.names (grind (arith, nat_tests, none)))
            | inr some ↦ inr (any_stands name policy.names some)
          ];
        }

    only : IsChosen policy name size → IsTrue (chooses_ip (Some policy) name size)
    only h =
        let short : leb size policy.size ≡ true = grind (arith, nat_tests, h.short) in
        rw short (elim h.named [
          | inl none ↦ or_left (eqb (length policy.names) 0) (list_any (λ pattern. matches pattern name) policy.names) (rw none refl)
          | inr some ↦ or_right (eqb (length policy.names) 0) (list_any (λ pattern. matches pattern name) policy.names) (any_only name policy.names some)
        ])

-- the computed choice says whether a policy puts a file on the index partition
pub same_choice : (b : Bool) (policy : Option Policy) (name : List ℕ) (size : ℕ) → b ≡ chooses_ip policy name size → IsTrue b ↔ ChoosesIp policy name size
same_choice b policy name size is = subst (λ x. IsTrue x ↔ ChoosesIp policy name size) (sym is) (computed policy name size)
