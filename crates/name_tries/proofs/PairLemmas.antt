-- The places of forks that come with numbers.
use Rattle.std.proofs.Common.{◌⊎◌, ◌≡◌, ◌≢◌, ℕ, ◌<◌, List, length, set, Some, slice_get, sym, ap, ◌∙◌, arith, inl, inr}
use Rattle.std.proofs.lemmas.Bool.{cases_eq}
use Rattle.std.proofs.lemmas.List.{length-set}
use Rattle.std.proofs.lemmas.Option.{slice_get_within}
use Rattle.name_tries.specs.Keys.{ArePaired, IsHandedOver}
use Rattle.name_tries.proofs.ItemLemmas.{some_same, set_here, set_other}

-- ---- a place is handed over

module _ (owned next_owned owners next_owners : List ℕ) (places n f : ℕ) (paired : ArePaired owned owners places)
    (over : IsHandedOver owned next_owned owners next_owners n f) (owns : slice_get owned over.owner ≡ Some f) where
  abbrev s : ℕ
  s = over.spare

  n_within : n < length owned
  n_within = slice_get_within owned n s over.spare_is

  s_is : slice_get owners s ≡ Some n
  s_is = paired.pair n s over.spare_is

  owned_at : (k : ℕ) → k ≢ n → k ≢ over.owner → slice_get next_owned k ≡ slice_get owned k
  owned_at k apart other = ap (λ l. slice_get l k) over.owned_is ∙ set_other (set owned over.owner s) n k f apart ∙ set_other owned over.owner k s other

  owned_n : slice_get next_owned n ≡ Some f
  owned_n = ap (λ l. slice_get l n) over.owned_is ∙ set_here (set owned over.owner s) n f (omega (arith, n_within, length-set owned over.owner s))

  owned_m : over.owner ≢ n → slice_get next_owned over.owner ≡ Some s
  owned_m apart = ap (λ l. slice_get l over.owner) over.owned_is ∙ set_other (set owned over.owner s) n over.owner f apart
      ∙ set_here owned over.owner s (slice_get_within owned over.owner f owns)

  owners_at : (g : ℕ) → g ≢ f → g ≢ s → slice_get next_owners g ≡ slice_get owners g
  owners_at g apart other = ap (λ l. slice_get l g) over.owners_is ∙ set_other (set owners s over.owner) f g n apart ∙ set_other owners s g over.owner other

  owners_f : slice_get next_owners f ≡ Some n
  owners_f = ap (λ l. slice_get l f) over.owners_is
      ∙ set_here (set owners s over.owner) f n (omega (arith, slice_get_within owners f over.owner over.owner_is, length-set owners s over.owner))

  owners_s : s ≢ f → slice_get next_owners s ≡ Some over.owner
  owners_s apart = ap (λ l. slice_get l s) over.owners_is ∙ set_other (set owners s over.owner) f s n apart
      ∙ set_here owners s over.owner (slice_get_within owners s n s_is)

  -- the two numbers are one, exactly if the two places are
  same_number : s ≡ f → over.owner ≡ n
  same_number same = some_same over.owner n (sym over.owner_is ∙ ap (slice_get owners) (sym same) ∙ s_is)

  -- a fork with another place comes with the number with which it came, or with the one that had the place
  pub still_owned : (g k : ℕ) → g ≢ f → slice_get owners g ≡ Some k → slice_get owned k ≡ Some g
      → ((k ≢ n) × (slice_get next_owners g ≡ Some k) × (slice_get next_owned k ≡ Some g))
      ⊎ ((k ≡ n) × (over.owner ≢ n) × (slice_get next_owners g ≡ Some over.owner) × (slice_get next_owned over.owner ≡ Some g))
  still_owned g k apart owner owns_g = elim (cases_eq k n) [
    | inl e ↦
        let g_is : s ≡ g = some_same s g (sym over.spare_is ∙ ap (slice_get owned) (sym e) ∙ owns_g) in
        let m_apart : over.owner ≢ n = λ same. apart (some_same g f (sym (ap (slice_get owned) (sym e) ∙ owns_g) ∙ ap (slice_get owned) (sym same) ∙ owns)) in
        let s_apart : s ≢ f = λ same. apart (sym g_is ∙ same) in
        inr (e, m_apart, ap (slice_get next_owners) (sym g_is) ∙ owners_s s_apart, owned_m m_apart ∙ ap (λ i. Some i) g_is)
    | inr other ↦
        let not_m : k ≢ over.owner = λ same. apart (some_same g f (sym owns_g ∙ ap (slice_get owned) same ∙ owns)) in
        let not_s : g ≢ s = λ same. other (some_same k n (sym owner ∙ ap (slice_get owners) same ∙ s_is)) in
        inl (other, owners_at g apart not_s ∙ owner, owned_at k other not_m ∙ owns_g)
  ]

  -- numbers and places are still paired after a place is handed over
  pub still_paired : ArePaired next_owned next_owners places
  still_paired = record {
    pair = λ k g is. pair_at k g is;
    below = λ k g is. omega (arith, below_at k g is, long);
    owners_fit = omega (arith, long, owners_long, paired.owners_fit);
    places_fit = omega (arith, long, paired.places_fit);
  }
    where
      long : length next_owned ≡ length owned
      long = ap length over.owned_is ∙ length-set (set owned over.owner s) n f ∙ length-set owned over.owner s

      owners_long : length next_owners ≡ length owners
      owners_long = ap length over.owners_is ∙ length-set (set owners s over.owner) f n ∙ length-set owners s over.owner

      pair_at : (k g : ℕ) → slice_get next_owned k ≡ Some g → slice_get next_owners g ≡ Some k
      pair_at k g is = elim (cases_eq k n) [
        | inl e ↦
            let g_is : f ≡ g = some_same f g (sym owned_n ∙ ap (slice_get next_owned) (sym e) ∙ is) in
            ap (slice_get next_owners) (sym g_is) ∙ owners_f ∙ ap (λ i. Some i) (sym e)
        | inr apart ↦ elim (cases_eq k over.owner) [
          | inl e ↦
              let m_apart : over.owner ≢ n = λ same. apart (e ∙ same) in
              let g_is : s ≡ g = some_same s g (sym (owned_m m_apart) ∙ ap (slice_get next_owned) (sym e) ∙ is) in
              ap (slice_get next_owners) (sym g_is) ∙ owners_s (λ same. m_apart (same_number same)) ∙ ap (λ i. Some i) (sym e)
          | inr other ↦
              let was : slice_get owned k ≡ Some g = sym (owned_at k apart other) ∙ is in
              let owner = paired.pair k g was in
              let not_f : g ≢ f = λ same. other (some_same k over.owner (sym owner ∙ ap (slice_get owners) same ∙ over.owner_is)) in
              let not_s : g ≢ s = λ same. apart (some_same k n (sym owner ∙ ap (slice_get owners) same ∙ s_is)) in
              owners_at g not_f not_s ∙ owner
        ]
      ]

      below_at : (k g : ℕ) → slice_get next_owned k ≡ Some g → g < length owned
      below_at k g is = elim (cases_eq k n) [
        | inl e ↦
            let g_is : f ≡ g = some_same f g (sym owned_n ∙ ap (slice_get next_owned) (sym e) ∙ is) in
            omega (arith, g_is, paired.below over.owner f owns)
        | inr apart ↦ elim (cases_eq k over.owner) [
          | inl e ↦
              let m_apart : over.owner ≢ n = λ same. apart (e ∙ same) in
              let g_is : s ≡ g = some_same s g (sym (owned_m m_apart) ∙ ap (slice_get next_owned) (sym e) ∙ is) in
              omega (arith, g_is, paired.below n s over.spare_is)
          | inr other ↦ paired.below k g (sym (owned_at k apart other) ∙ is)
        ]
      ]
