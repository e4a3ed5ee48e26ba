-- The space of a volume in which nothing changed is that of its mount.
use Rattle.std.proofs.Common.{◌≡◌, ℕ, Bool, true, false, List, [], ◌∷◌, ◌++◌, length, Option, Some, None, refl, sym}
use Rattle.std.proofs.Common.{ap, subst, ◌∙◌, append_assoc, append-nil, length-append}
use Rattle.plain_tree.specs.History.{call_at}
use Rattle.plain_tree.specs.declared.calls.Call.{Call}
use Rattle.plain_tree.specs.declared.calls.Fate.{Fate}
use Rattle.plain_tree.specs.declared.calls.Fate.TheVariants as fates
use Rattle.plain_tree.specs.declared.calls.Placed.{Placed}
use Rattle.space_laws.specs.Space as space
use Rattle.space_laws.specs.Space.{Ask, Rules, Space, change, first_space, index, nothing, store}
use Rattle.space_laws.specs.Standing.{Given, Standing, after_placed, ask_of, is_on, rules, standing}
use Rattle.promises.proofs.ReplyLaws.Places.{standing_goes_on}

-- as long as nothing changed and no index was admitted
abbrev IsFirst : Space → Space → Type 0
IsFirst first s = s.changed ≡ false → s.admitted ≡ false → s ≡ first

not_so : {X : Type 0} → true ≡ false → X
not_so wrong = absurd (cc wrong)

first_after : (v : Rules) (on : Bool) (first s : Space) (ask : Ask) → IsFirst first s
    → IsFirst first (space.after v on s ask)
first_after v on first s nothing is = is
first_after v on first s change is = λ same without. not_so same
first_after v on first s (store wanted bytes) is = λ same without. not_so same
first_after v on first s (index text) is = λ same without. not_so without

module _ (g : Given) (on : Option ℕ) where
  abbrev first : Space
  first = first_space g.mounted

  first_placed : (here : Bool) (st : Standing) (p : Placed) → IsFirst first st.space
      → IsFirst first (after_placed g here st p).space
  first_placed here st p is = by p.fate (call_at g.calls p) refl refl
    where
      by : (fate : Fate) (call : Option Call) → p.fate ≡ fate → call_at g.calls p ≡ call
          → IsFirst first (after_placed g here st p).space
      by fates.Void call f e = rw f is
      by fates.Done None f e = rw (f, e) is
      by fates.Done (Some call) f e =
          rw (f, e) (first_after (rules g) here first st.space (ask_of g st call p.at) is)

  first_from : (history front behind : List Placed) → history ≡ front ++ behind
      → IsFirst first (standing g on front (length front)).space
      → IsFirst first (standing g on history (length history)).space
  first_from history front [] is so =
      subst (λ (h : List Placed). IsFirst first (standing g on h (length h)).space) (sym (is ∙ append-nil front)) so
  first_from history front (p ∷ behind) is so =
      let next = ap (λ (n : ℕ). standing g on (front ++ p ∷ []) n) (length-append front (p ∷ []))
      ∙ (standing_goes_on g on front p).behind in
      first_from history (front ++ p ∷ []) behind (is ∙ sym (append_assoc front (p ∷ []) behind))
      (subst (λ (st : Standing). IsFirst first st.space) (sym next)
      (first_placed (is_on g.mounted on (length front)) (standing g on front (length front)) p so))

  -- where nothing changed and no index was admitted, the space is that of the mount
  pub unchanged : (history : List Placed) → (standing g on history (length history)).space.changed ≡ false
      → (standing g on history (length history)).space.admitted ≡ false
      → (standing g on history (length history)).space ≡ first_space g.mounted
  unchanged history same without = first_from history [] history refl (λ a b. refl) same without
