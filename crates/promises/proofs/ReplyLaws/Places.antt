-- What stands at the places of a history as it goes on, and as placement on the index partition does.
use Rattle.std.specs.Prelude.{◌≡◌, ◌<◌, ◌≤◌, ◌+◌, ◌||◌, ℕ, nat_le, Bool, true, false, List, [], ◌∷◌, ◌++◌, length, take, fold, Option, Some, None}
use Rattle.std.specs.List.{enumerate_from, flat_map}
use Rattle.std.proofs.Common.{refl, sym, ap, ◌∙◌, arith, length-append, length-take, take_all}
use Rattle.std.proofs.lemmas.Grind.{flat_map-append}
use Rattle.std.proofs.lemmas.List.{append-nil, take-append-le}
use Rattle.std.proofs.lemmas.List.Sums.{fold-append}
use Rattle.plain_tree.specs.History.{call_at, replay}
use Rattle.plain_tree.specs.declared.calls.Call.{Call}
use Rattle.plain_tree.specs.declared.calls.Fate.{Fate}
use Rattle.plain_tree.specs.declared.calls.Fate.TheVariants as fates
use Rattle.plain_tree.specs.declared.calls.Placed.{Placed}
use Rattle.space_laws.specs.Mount.{MountFacts}
use Rattle.space_laws.specs.Space.{limit_of, need_of}
use Rattle.space_laws.specs.Standing.{Given, Standing, admitted, admitted_at, after_placed, ask_of, first_standing, is_on, rules, standing}
use Rattle.space_laws.proofs.TreeLaw.{are_replays}
use Rattle.promises.specs.ReplyLaws.Laws.{PlacementGoesOn, StandingGoesOn}
use Rattle.promises.specs.ReplyLaws.Sides.{ops_here}
use Rattle.promises.proofs.ReplyLaws.Lists.{enumerate_next, flat_map_same, fold_same}

-- two places from which placement is on that agree about the first places of a history
abbrev pub Agree : MountFacts → Option ℕ → Option ℕ → ℕ → Type 0
Agree m on off count = (k : ℕ) → k < count → is_on m on k ≡ is_on m off k

-- a place from which files may go to the index partition agrees with itself
pub agree_always : (m : MountFacts) (on : Option ℕ) (count : ℕ) → Agree m on on count
agree_always m on count k less = refl

not_reached : (count k : ℕ) → k < count → nat_le count k ≡ false
not_reached count k less = by (nat_le count k) refl
  where
    by : (b : Bool) → nat_le count k ≡ b → nat_le count k ≡ false
    by false e = e
    by true e = grind (arith, less, e)

-- placement that goes on here was off before
pub agree_before : (m : MountFacts) (count : ℕ) → Agree m (Some count) None count
agree_before m count k less = ap (λ b. m.ip_on || b) (not_reached count k less)

-- ---- what stands

stands_alike : (g : Given) (on off : Option ℕ) (history : List Placed) (k : ℕ) → Agree g.mounted on off (length history) → standing g on history k ≡ standing g off history k
stands_alike g on off history k agree =
    fold_same (λ st e. after_placed g (is_on g.mounted on e.0) st e.1) (λ st e. after_placed g (is_on g.mounted off e.0) st e.1) 0 (take k history) (first_standing g)
    (λ n st p less. ap (λ b. after_placed g b st p) (agree n (omega (arith, less, length-take k history))))

-- a history that begins alike up to a place
pub stands_on : (g : Given) (on : Option ℕ) (history later : List Placed) (k : ℕ) → take k later ≡ take k history → standing g on later k ≡ standing g on history k
stands_on g on history later k same = ap (λ ps. fold (λ st e. after_placed g (is_on g.mounted on e.0) st e.1) (first_standing g) (enumerate_from 0 ps)) same

-- whatever is made of what stands at a place, and of whether placement is on there
pub at_place : {Y : Type 0} (f : Bool → Standing → Y) (g : Given) (on off : Option ℕ) (history later : List Placed) (k : ℕ) → k < length history → take k later ≡ take k history
    → Agree g.mounted on off (length history) → f (is_on g.mounted on k) (standing g on later k) ≡ f (is_on g.mounted off k) (standing g off history k)
at_place f g on off history later k less same agree =
    ap (f (is_on g.mounted on k)) (stands_on g on history later k same ∙ stands_alike g on off history k agree) ∙ ap (λ b. f b (standing g off history k)) (agree k less)

-- the same at the end of the history too, where placement stays as it is
pub at_end : {Y : Type 0} (f : Bool → Standing → Y) (g : Given) (on : Option ℕ) (history more : List Placed) (k : ℕ) → k ≤ length history
    → f (is_on g.mounted on k) (standing g on (history ++ more) k) ≡ f (is_on g.mounted on k) (standing g on history k)
at_end f g on history more k within = ap (f (is_on g.mounted on k)) (stands_on g on history (history ++ more) k (take-append-le k history more within))

-- ---- what is admitted

-- what a placement admits, said of what stands there
admits_by : (g : Given) (on : Option ℕ) (history : List Placed) (k : ℕ) (p : Placed) (fate : Fate) (call : Option Call) → p.fate ≡ fate → call_at g.calls p ≡ call
    → admitted_at g on history k p ≡ ops_here g (is_on g.mounted on k) (standing g on history k) fate call p.at
admits_by g on history k p fates.Void call f e = rw f refl
admits_by g on history k p fates.Done None f e = rw (f, e) refl
admits_by g on history k p fates.Done (Some call) f e = rw (f, e) refl

-- what a placement admits is what its call asks for where it stands
pub admits : (g : Given) (on : Option ℕ) (history : List Placed) (k : ℕ) (p : Placed) → admitted_at g on history k p ≡ ops_here g (is_on g.mounted on k) (standing g on history k) p.fate (call_at g.calls p) p.at
admits g on history k p = admits_by g on history k p p.fate (call_at g.calls p) refl refl

-- turning placement on at the end leaves what earlier places admit
pub admits_alike : (g : Given) (on off : Option ℕ) (history : List Placed) (k : ℕ) (p : Placed) → k < length history → Agree g.mounted on off (length history)
    → admitted_at g on history k p ≡ admitted_at g off history k p
admits_alike g on off history k p less agree =
    admits g on history k p
    ∙ at_place (λ b st. ops_here g b st p.fate (call_at g.calls p) p.at) g on off history history k less refl agree
    ∙ sym (admits g off history k p)

-- as far as the history begins alike
pub admits_before : (g : Given) (on : Option ℕ) (history later : List Placed) (k : ℕ) (p : Placed) → take k later ≡ take k history → admitted_at g on later k p ≡ admitted_at g on history k p
admits_before g on history later k p same =
    admits g on later k p ∙ ap (λ st. ops_here g (is_on g.mounted on k) st p.fate (call_at g.calls p) p.at) (stands_on g on history later k same) ∙ sym (admits g on history k p)

admits_end : (g : Given) (on : Option ℕ) (history more : List Placed) (k : ℕ) (p : Placed) → k ≤ length history → admitted_at g on (history ++ more) k p ≡ admitted_at g on history k p
admits_end g on history more k p within = admits_before g on history (history ++ more) k p (take-append-le k history more within)

-- the ops of a history under another place from which placement is on
pub admitted_alike : (g : Given) (on off : Option ℕ) (history : List Placed) → Agree g.mounted on off (length history) → admitted g on history ≡ admitted g off history
admitted_alike g on off history agree =
    flat_map_same (λ e. admitted_at g on history e.0 e.1) (λ e. admitted_at g off history e.0 e.1) 0 history
    (λ k p less. admits_alike g on off history k p (omega (arith, less)) agree)

-- with one more placement the admitted ops are those before and its own
pub admitted_next : (g : Given) (on : Option ℕ) (history : List Placed) (p : Placed) → admitted g on (history ++ p ∷ []) ≡ admitted g on history ++ admitted_at g on history (length history) p
admitted_next g on history p =
    ap (flat_map (λ e. admitted_at g on (history ++ p ∷ []) e.0 e.1)) (enumerate_next history p)
    ∙ flat_map-append (λ e. admitted_at g on (history ++ p ∷ []) e.0 e.1) (enumerate_from 0 history) ((length history, p) ∷ [])
    ∙ ap (λ ops. ops ++ (admitted_at g on (history ++ p ∷ []) (length history) p ++ []))
    (flat_map_same (λ e. admitted_at g on (history ++ p ∷ []) e.0 e.1) (λ e. admitted_at g on history e.0 e.1) 0 history
    (λ k q less. admits_end g on history (p ∷ []) k q (omega (arith, less))))
    ∙ ap (λ ops. admitted g on history ++ ops) (append-nil (admitted_at g on (history ++ p ∷ []) (length history) p) ∙ admits_end g on history (p ∷ []) (length history) p (omega arith))

-- ---- the tree

-- the tree at a place is the one that replaying the placements before it gives
pub tree_is : (g : Given) (on : Option ℕ) (history : List Placed) (k : ℕ) → (standing g on history k).tree ≡ replay g.calls g.tree (take k history)
tree_is g on history k = are_replays g on history k

-- ---- the laws

behind : (g : Given) (on : Option ℕ) (history : List Placed) (p : Placed) → standing g on (history ++ p ∷ []) (length history + 1) ≡ after_placed g (is_on g.mounted on (length history)) (standing g on history (length history)) p
behind g on history p =
    ap (λ ps. fold (λ st e. after_placed g (is_on g.mounted on e.0) st e.1) (first_standing g) (enumerate_from 0 ps)) (take_all (length history + 1) (history ++ p ∷ []) (omega (arith, length-append history (p ∷ []))))
    ∙ ap (fold (λ st e. after_placed g (is_on g.mounted on e.0) st e.1) (first_standing g)) (enumerate_next history p)
    ∙ fold-append (λ st e. after_placed g (is_on g.mounted on e.0) st e.1) (first_standing g) (enumerate_from 0 history) ((length history, p) ∷ [])
    ∙ ap (λ ps. after_placed g (is_on g.mounted on (length history)) (fold (λ st e. after_placed g (is_on g.mounted on e.0) st e.1) (first_standing g) (enumerate_from 0 ps)) p) (sym (take_all (length history) history (omega arith)))

-- what stands at each place stays as the history goes on by a placement
pub standing_goes_on : (g : Given) (on : Option ℕ) (history : List Placed) (p : Placed) → StandingGoesOn g on history p
standing_goes_on g on history p = record {
  stands = λ k within. stands_on g on history (history ++ p ∷ []) k (take-append-le k history (p ∷ []) within);
  asks = λ k call at within. at_end (λ b st. ask_of g st call at) g on history (p ∷ []) k within;
  needs = λ k call at within. at_end (λ b st. need_of (rules g) b st.space (ask_of g st call at)) g on history (p ∷ []) k within;
  has = λ k call at within. at_end (λ b st. limit_of (rules g) b st.space (ask_of g st call at)) g on history (p ∷ []) k within;
  admits = λ k q within. admits_end g on history (p ∷ []) k q within;
  behind = behind g on history p;
  all_admitted = admitted_next g on history p;
}

-- what stands at each place stays as placement on the index partition goes on at the end
pub placement_goes_on : (g : Given) (history : List Placed) → PlacementGoesOn g history
placement_goes_on g history =
    let agree = agree_before g.mounted (length history) in
    record {
      stands = λ k. stands_alike g (Some (length history)) None history k agree;
      asks = λ k call at. ap (λ st. ask_of g st call at) (stands_alike g (Some (length history)) None history k agree);
      needs = λ k call at less. at_place (λ b st. need_of (rules g) b st.space (ask_of g st call at)) g (Some (length history)) None history history k less refl agree;
      has = λ k call at less. at_place (λ b st. limit_of (rules g) b st.space (ask_of g st call at)) g (Some (length history)) None history history k less refl agree;
      admits = λ k q less. admits_alike g (Some (length history)) None history k q less agree;
      all_admitted = admitted_alike g (Some (length history)) None history agree;
    }
