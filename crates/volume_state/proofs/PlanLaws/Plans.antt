-- What is planned, as ops are added and done.
use Rattle.std.proofs.Common.{◌≡◌, ℕ, ◌∙◌, List, [], ◌∷◌, ◌++◌, length, Bool, true, false, ◌==◌, Option, Some, None, slice_get, refl, sym, ap, subst, arith, append_assoc, append-nil}
use Rattle.std.proofs.lemmas.Bool.Decides.{nat_tests}
use Rattle.tape_types.specs.declared.cartridges.Item.{Item}
use Rattle.tape_types.specs.declared.cartridges.Item.TheVariants as item
use Rattle.tape_types.specs.declared.cartridges.Part.{Part}
use Rattle.tape_types.specs.declared.cartridges.Part.TheVariants.{Ip, Dp}
use Rattle.tape_types.specs.declared.cartridges.Place.{Place}
use Rattle.tape_layout.specs.declared.ops.Op.{Op}
use Rattle.tape_layout.specs.declared.ops.Op.TheVariants.{Put, Mark, Flush}
use Rattle.tape_layout.specs.declared.standing.Ends.{Ends}
use Rattle.tape_layout.specs.Ops.{AreNext, after_ops, end_of, held_by, held_in, or_later, place_of}
use Rattle.extent_map.specs.Cells.{byte_in}
use Rattle.extent_map.specs.Replies.{IsBlock}
use Rattle.promises.specs.CrashLaws.Safe.{items_by, put_by}
use Rattle.volume_state.specs.PlanLaws.Laws.{PlansHold}
use Rattle.volume_state.specs.PlanLaws.Planned.{IsPlan, Items, ends_in, tape_on, with_ops}
use Rattle.volume_state.proofs.PlanLaws.Ends.{end_is, ends_alike, next_append, one_by_one, ops_append, ops_end, rest_next, with_op}

-- with no op what is planned is what was made
abbrev pub plan_begins : (made : Items) → IsPlan made []
plan_begins made = record { made = made; leads = λ part. sym (append-nil (made part)); next = tt }

-- the ends of what is planned are those behind the ops
pub plan_ends : (planned : Items) (ops : List Op) (p : IsPlan planned ops)
    → ends_in planned ≡ after_ops (ends_in p.made) ops
plan_ends planned ops p = ends_alike planned (with_ops ops p.made) p.leads ∙ ops_end ops p.made p.next

-- with more ops at its ends a plan grows by what they put
abbrev pub plan_grows : (planned : Items) (ops asked : List Op) → IsPlan planned ops → AreNext (ends_in planned) asked
    → IsPlan (with_ops asked planned) (ops ++ asked)
plan_grows planned ops asked p next = record {
  made = p.made;
  leads = λ part. ap (λ (l : List Item). l ++ items_by part asked) (p.leads part)
      ∙ append_assoc (p.made part) (items_by part ops) (items_by part asked)
      ∙ ap (λ (l : List Item). p.made part ++ l) (sym (ops_append part ops asked));
  next =
      next_append (ends_in p.made) ops asked p.next
      (subst (λ (e : Ends). AreNext e asked) (plan_ends planned ops p) next);
}

-- a plan stays when its first op is done
abbrev pub plan_done : (planned : Items) (op : Op) (ops : List Op) → IsPlan planned (op ∷ ops) → IsPlan planned ops
plan_done planned op ops p = record {
  made = with_op op p.made;
  leads = λ part. p.leads part ∙ one_by_one part op ops p.made;
  next = rest_next op ops p.made p.next;
}

-- ---- what an op holds for a place

-- these bytes are put at the place
pub held_parts : (on part : Part) (at pos : ℕ) (bytes held : List ℕ)
    → held_by (record { part = on; pos = at }) (Put (record { part = part; pos = pos }) bytes) ≡ Some held
    → (part ≡ on) × (pos ≡ at) × (bytes ≡ held)
held_parts Ip Ip at pos bytes held is =
    elim (pos == at) as (λ (b : Bool). pos == at ≡ b → (Ip ≡ Ip) × (pos ≡ at) × (bytes ≡ held)) [
      | true ↦ λ e. let same : Some bytes ≡ Some held = (rw e at is) in (refl, grind (arith, nat_tests, e), (cc same))
      | false ↦ λ e. let none : None ≡ Some held = (rw e at is) in absurd (cc none)
    ] refl
held_parts Dp Dp at pos bytes held is =
    elim (pos == at) as (λ (b : Bool). pos == at ≡ b → (Dp ≡ Dp) × (pos ≡ at) × (bytes ≡ held)) [
      | true ↦ λ e. let same : Some bytes ≡ Some held = (rw e at is) in (refl, grind (arith, nat_tests, e), (cc same))
      | false ↦ λ e. let none : None ≡ Some held = (rw e at is) in absurd (cc none)
    ] refl
held_parts Ip Dp at pos bytes held is = absurd (cc is)
held_parts Dp Ip at pos bytes held is = absurd (cc is)

seam : (l : List Item) (x : Item) (more : List Item) → slice_get (l ++ x ∷ more) (length l) ≡ Some x
seam [] x more = refl
seam (y ∷ l) x more = seam l x more

put_same : (part : Part) (place : Place) (bytes : List ℕ) → place.part ≡ part
    → put_by part (Put place bytes) ≡ item.Block bytes ∷ []
put_same part place bytes is =
    subst (λ (p : Part). put_by p (Put place bytes) ≡ item.Block bytes ∷ []) is (own place.part)
  where
    own : (p : Part) → put_by p (Put (record { part = p; pos = place.pos }) bytes) ≡ item.Block bytes ∷ []
    own Ip = refl
    own Dp = refl

first_held : (op : Op) (later : List Item) (made : Items) (place : Place) (bytes : List ℕ)
    → (place_of op).pos ≡ end_of (place_of op).part (ends_in made)
    → held_by place op ≡ Some bytes
    → slice_get (made place.part ++ (put_by place.part op ++ later)) place.pos ≡ Some (item.Block bytes)
first_held (Put at b) later made place bytes next is =
    let parts = held_parts place.part at.part place.pos at.pos b bytes is in
    let here : place.pos ≡ length (made place.part) =
    sym parts.1 ∙ next ∙ ap (λ (p : Part). end_of p (ends_in made)) parts.0 ∙ end_is place.part made in
    ap (λ (l : List Item). slice_get (made place.part ++ (l ++ later)) place.pos) (put_same place.part at b parts.0)
    ∙ ap (λ (n : ℕ). slice_get (made place.part ++ item.Block b ∷ later) n) here
    ∙ seam (made place.part) (item.Block b) later
    ∙ ap (λ (c : List ℕ). Some (item.Block c)) parts.2
first_held (Mark at) later made place bytes next is = absurd (cc is)
first_held (Flush at) later made place bytes next is = absurd (cc is)

-- what an op holds for a place stands there once all are done
pub held_stands : (ops : List Op) (made : Items) (place : Place) (bytes : List ℕ) → AreNext (ends_in made) ops
    → held_in place ops ≡ Some bytes
    → slice_get (with_ops ops made place.part) place.pos ≡ Some (item.Block bytes)
held_stands [] made place bytes next is = absurd (cc is)
held_stands (op ∷ ops) made place bytes next is =
    by (held_by place op) refl is
    (λ later. held_stands ops (with_op op made) place bytes (rest_next op ops made next) later)
  where
    by : (o : Option (List ℕ)) → held_by place op ≡ o → or_later o (held_in place ops) ≡ Some bytes
        → (held_in place ops ≡ Some bytes
        → slice_get (with_ops ops (with_op op made) place.part) place.pos ≡ Some (item.Block bytes))
        → slice_get (with_ops (op ∷ ops) made place.part) place.pos ≡ Some (item.Block bytes)
    by (Some b) first here rest = first_held op (items_by place.part ops) made place bytes next.0 (first ∙ here)
    by None first here rest =
        ap (λ (l : List Item). slice_get l place.pos) (one_by_one place.part op ops made) ∙ rest here

-- what an op holds for a place is planned there
pub plan_held : (planned : Items) (ops : List Op) (place : Place) (bytes : List ℕ) → IsPlan planned ops
    → held_in place ops ≡ Some bytes → IsBlock (tape_on planned) place bytes
plan_held planned ops place bytes p is byte =
    ap (λ (o : Option Item). byte_in o byte)
    (ap (λ (l : List Item). slice_get l place.pos) (p.leads place.part) ∙ held_stands ops p.made place bytes p.next is)

-- a plan grows by ops, stays as they are done, and has what they hold
pub plans_hold : PlansHold
plans_hold = record { begins = plan_begins; grows = plan_grows; done = plan_done; held = plan_held }
