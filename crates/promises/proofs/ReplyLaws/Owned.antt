-- A fault that a placement is told is one that it owns, or that its session owns.
use Rattle.std.specs.Prelude.{◌≡◌, ◌==◌, ℕ, zero, suc, cond, List, [], ◌∷◌, filter_map, zip, Contains, Option, Some, None, slice_get}
use Rattle.std.specs.Option.{option_and_then, option_to_list}
use Rattle.std.proofs.Common.{refl, sym, ap, ◌∙◌, subst}
use Rattle.std.proofs.lemmas.List.Elements.{Contains-append_left}
use Rattle.std.proofs.lemmas.Option.{same_Some}
use Rattle.tape_types.specs.declared.cartridges.Twin.{Twin}
use Rattle.plain_tree.specs.declared.calls.Fate.{Fate}
use Rattle.plain_tree.specs.declared.calls.Fate.TheVariants as fates
use Rattle.plain_tree.specs.declared.calls.Placed.{Placed}
use Rattle.session_script.specs.declared.logs.Event.{Event}
use Rattle.session_script.specs.declared.logs.Reply.{Reply}
use Rattle.session_script.specs.declared.logs.Reply.TheVariants as replies
use Rattle.head_queue.specs.EventLaws.Trail.{owned_by}
use Rattle.promises.specs.ServingPromise.Faults.{AreFaults, kept_for, told_at, told_done, told_to, told_void}
use Rattle.promises.specs.ReplyLaws.Laws.{ToldFaultsAreOwned, teller}
use Rattle.promises.proofs.ReplyLaws.Blocks.{number_itself}
use Rattle.promises.proofs.ReplyLaws.Lists.{in_first, in_rest, picks_none, picks_some}

get_both : {X Y : Type 0} (xs : List X) (ys : List Y) (k : ℕ) (x : X) (y : Y) → slice_get xs k ≡ Some x → slice_get ys k ≡ Some y → slice_get (zip xs ys) k ≡ Some (x, y)
get_both [] ys k x y e f = cc
get_both (a ∷ xs) [] k x y e f = cc
get_both (a ∷ xs) (b ∷ ys) zero x y e f = ap Some (ap (λ c. (c, b)) (same_Some a x e) ∙ ap (λ c. (x, c)) (same_Some b y f))
get_both (a ∷ xs) (b ∷ ys) (suc k) x y e f = get_both xs ys k x y e f

-- what is picked at a place is among all that is picked
skip : {X Y : Type 0} (f : X → Option Y) (x : X) (xs : List X) (y : Y) (o : Option Y) → f x ≡ o → Contains (filter_map f xs) y → Contains (filter_map f (x ∷ xs)) y
skip f x xs y None e has = subst (λ ys. Contains ys y) (sym (picks_none f x xs e)) has
skip f x xs y (Some z) e has = subst (λ ys. Contains ys y) (sym (picks_some f x xs z e)) (in_rest z (filter_map f xs) y has)

takes : {X Y : Type 0} (f : X → Option Y) (x : X) (xs : List X) (y : Y) → f x ≡ Some y → Contains (filter_map f (x ∷ xs)) y
takes f x xs y e = subst (λ ys. Contains ys y) (sym (picks_some f x xs y e)) (in_first y (filter_map f xs))

picked_at : {X Y : Type 0} (f : X → Option Y) (xs : List X) (k : ℕ) (x : X) (y : Y) → slice_get xs k ≡ Some x → f x ≡ Some y → Contains (filter_map f xs) y
picked_at f [] k x y e g = cc
picked_at f (a ∷ xs) zero x y e g = takes f a xs y (ap f (same_Some a x e) ∙ g)
picked_at f (a ∷ xs) (suc k) x y e g = skip f a xs y (f a) refl (picked_at f xs k x y e g)

module _ (history : List Placed) (events : List Event) (kept : List (Option Reply)) (waiting : List (ℕ × Twin)) (before now : ℕ) (faults : AreFaults history events kept waiting before now)
    (k : ℕ) (p : Placed) (counts : Twin) (at : slice_get history k ≡ Some p) (told : slice_get kept k ≡ Some (Some (replies.Fault counts))) where
  of_both : slice_get (zip history kept) k ≡ Some (p, Some (replies.Fault counts))
  of_both = get_both history kept k p (Some (replies.Fault counts)) at told

  by_fate : (fate : Fate) → p.fate ≡ fate → Contains (owned_by (teller k p fate) events) counts
  by_fate fates.Done is = subst (λ ts. Contains ts counts) (sym tells ∙ faults.calls k) (in_first counts [])
    where
      tells : told_at history kept k ≡ counts ∷ []
      tells =
          ap (λ o. option_to_list (option_and_then (λ (e : Placed × Option Reply). told_done e.0.fate e.1) o)) of_both
          ∙ ap (λ f. option_to_list (told_done f (Some (replies.Fault counts)))) is
  by_fate fates.Void is = subst (λ ts. Contains ts counts) (faults.sessions p.who) (Contains-append_left (told_to history kept p.who) (kept_for p.who waiting) counts among)
    where
      tells : cond (p.who == p.who) (told_void p.fate (Some (replies.Fault counts))) None ≡ Some counts
      tells = ap (λ b. cond b (told_void p.fate (Some (replies.Fault counts))) None) (number_itself p.who) ∙ ap (λ f. told_void f (Some (replies.Fault counts))) is

      among : Contains (told_to history kept p.who) counts
      among = picked_at (λ (e : Placed × Option Reply). cond (e.0.who == p.who) (told_void e.0.fate e.1) None) (zip history kept) k (p, Some (replies.Fault counts)) counts of_both tells

-- a fault that a placement is told is its own, or, of a void one, its session's
pub told_faults_are_owned : ToldFaultsAreOwned
told_faults_are_owned history events kept waiting before now faults k p counts at told = by_fate history events kept waiting before now faults k p counts at told p.fate refl
