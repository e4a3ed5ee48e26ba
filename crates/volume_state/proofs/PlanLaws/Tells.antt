-- What the head reads, and what an op holds, is what is planned there.
use Rattle.std.proofs.Common.{◌≡◌, ℕ, ◌+◌, ◌<◌, ◌≤◌, ◌⊎◌, ⊎_elim, inl, inr, ◌∙◌, ◌==◌, Bool, true, false, true≢false, List, [], ◌∷◌, ◌++◌, length, drop, map, Option, Some, None, slice_get, refl, sym, ap, subst, arith, take-append-drop}
use Rattle.std.specs.List.{list_any}
use Rattle.std.proofs.lemmas.Bool.{cases_lt, or_left, or_right}
use Rattle.std.proofs.lemmas.Bool.Decides.{nat_tests}
use Rattle.tape_types.proofs.LongerLists.{slice_get-append}
use Rattle.tape_types.specs.declared.cartridges.Cartridge.{Cartridge}
use Rattle.tape_types.specs.declared.cartridges.Item.{Item}
use Rattle.tape_types.specs.declared.cartridges.Item.TheVariants as item
use Rattle.tape_types.specs.declared.cartridges.Part.{Part}
use Rattle.tape_types.specs.declared.cartridges.Part.TheVariants.{Ip, Dp}
use Rattle.tape_types.specs.declared.cartridges.Place.{Place}
use Rattle.tape_types.specs.Cartridges.{items_of}
use Rattle.tape_drive.specs.Commands.{IsRead, item_at}
use Rattle.tape_drive.specs.declared.drive.Got.{Got}
use Rattle.extent_map.specs.Cells.{byte_in}
use Rattle.extent_map.specs.Replies.{IsBlock}
use Rattle.head_core.specs.Steps.{IsFoundAt}
use Rattle.head_core.specs.declared.work.StepDone.TheVariants as outcome
use Rattle.head_queue.specs.EventLaws.Trail.{puts_at}
use Rattle.tape_layout.specs.declared.ops.Op.{Op}
use Rattle.tape_layout.specs.declared.ops.Op.TheVariants.{Put, Mark, Flush}
use Rattle.tape_layout.specs.declared.standing.Ends.{Ends}
use Rattle.tape_layout.specs.Ops.{AreNext, after_op, after_ops, end_of, place_of, with_end}
use Rattle.promises.specs.CrashLaws.Safe.{items_by}
use Rattle.promises.specs.ServingPromise.Served.{headed}
use Rattle.volume_state.specs.PlanLaws.Laws.{TapesTell}
use Rattle.volume_state.specs.PlanLaws.Planned.{IsDoneAt, IsOnWay, IsPutBy, Items, ends_in, tape_on}
use Rattle.volume_state.proofs.PlanLaws.Ends.{end_is}
use Rattle.volume_state.proofs.PlanLaws.Plans.{plan_ends, plan_held}
use Rattle.volume_state.proofs.PlanLaws.Ways.{made_long, way_reaches}

-- ---- each place between two ends is put by an op

-- an op puts its item at the place, or its partition still doesn't reach past it
put_or_not : (on part : Part) (at pos : ℕ) (e : Ends) → pos ≡ end_of part e → end_of on e ≤ at
    → (puts_at (record { part = on; pos = at }) (record { place = record { part = part; pos = pos }; flush = false })
    ≡ true) ⊎ (end_of on (with_end part (pos + 1) e) ≤ at)
put_or_not Ip Ip at pos e next low = elim (pos == at) as (λ (b : Bool). pos == at ≡ b → (b ≡ true) ⊎ (pos + 1 ≤ at)) [
  | true ↦ λ t. inl refl
  | false ↦ λ t. inr (grind (arith, nat_tests, t, next, low))
] refl
put_or_not Dp Dp at pos e next low = elim (pos == at) as (λ (b : Bool). pos == at ≡ b → (b ≡ true) ⊎ (pos + 1 ≤ at)) [
  | true ↦ λ t. inl refl
  | false ↦ λ t. inr (grind (arith, nat_tests, t, next, low))
] refl
put_or_not Ip Dp at pos e next low = inr low
put_or_not Dp Ip at pos e next low = inr low

op_or_not : (place : Place) (e : Ends) (op : Op) → (place_of op).pos ≡ end_of (place_of op).part e
    → end_of place.part e ≤ place.pos
    → (puts_at place (headed op) ≡ true) ⊎ (end_of place.part (after_op e op) ≤ place.pos)
op_or_not place e (Put at bytes) next low = put_or_not place.part at.part place.pos at.pos e next low
op_or_not place e (Mark at) next low = put_or_not place.part at.part place.pos at.pos e next low
op_or_not place e (Flush at) next low = inr low

-- a place between the ends before and after the ops is put by one of them
pub is_put : (ops : List Op) (e : Ends) (place : Place) → AreNext e ops → end_of place.part e ≤ place.pos
    → place.pos < end_of place.part (after_ops e ops) → IsPutBy ops place
is_put [] e place next low high = absurd (omega (arith, low, high))
is_put (op ∷ ops) e place next low high = ⊎_elim
    (λ (here : puts_at place (headed op) ≡ true).
    or_left (puts_at place (headed op)) (list_any (puts_at place) (map headed ops)) here)
    (λ (further : end_of place.part (after_op e op) ≤ place.pos).
    or_right (puts_at place (headed op)) (list_any (puts_at place) (map headed ops))
    (is_put ops (after_op e op) place next.1 further high))
    (op_or_not place e op next.0 low)

-- ---- a place that is done already

module _ (planned : Items) (ops : List Op) (place : Place) (held : Cartridge) (w : IsOnWay planned ops held)
    (d : IsDoneAt planned ops place) where
  made_at : place.pos < length (w.plan.made place.part)
  made_at = ⊎_elim
      (λ (lt : place.pos < end_of place.part (ends_in w.plan.made)). omega (arith, lt, end_is place.part w.plan.made))
      (λ (ge : end_of place.part (ends_in w.plan.made) ≤ place.pos).
      let put : IsPutBy ops place =
      is_put ops (ends_in w.plan.made) place w.plan.next ge
      (subst (λ (e : Ends). place.pos < end_of place.part e) (plan_ends planned ops w.plan) d.below) in
      absurd (true≢false (sym put ∙ d.free)))
      (cases_lt place.pos (end_of place.part (ends_in w.plan.made)))

  pub place_within : place.pos ≤ length (items_of place.part held)
  place_within =
      omega (arith, made_at, made_long (w.plan.made place.part) (items_of place.part held) (w.reads place.part))

  -- the cartridge goes on behind what was made
  goes_on : items_of place.part held ≡ w.plan.made place.part ++ drop (length (w.plan.made place.part))
      (items_of place.part held)
  goes_on = sym (take-append-drop (length (w.plan.made place.part)) (items_of place.part held))
      ∙ ap (λ (l : List Item). l ++ drop (length (w.plan.made place.part)) (items_of place.part held))
      (w.reads place.part)

  pub place_stands : item_at place held ≡ slice_get (planned place.part) place.pos
  place_stands =
      ap (λ (l : List Item). slice_get l place.pos) goes_on
      ∙ slice_get-append (w.plan.made place.part) (drop (length (w.plan.made place.part)) (items_of place.part held))
      place.pos made_at
      ∙ sym (slice_get-append (w.plan.made place.part) (items_by place.part ops) place.pos made_at)
      ∙ sym (ap (λ (l : List Item). slice_get l place.pos) (w.plan.leads place.part))

-- the bytes that a read leaves are those of the item
read_bytes : (o : Option Item) (got : Got) (block : List ℕ) → IsRead o got block → (byte : ℕ)
    → byte_in o byte ≡ slice_get block byte
read_bytes None got block is byte = sym (ap (λ (l : List ℕ). slice_get l byte) is.1)
read_bytes (Some (item.Block bytes)) got block is byte = sym (ap (λ (l : List ℕ). slice_get l byte) is.1)
read_bytes (Some item.Mark) got block is byte = sym (ap (λ (l : List ℕ). slice_get l byte) is.1)
read_bytes (Some item.Torn) got block is byte = sym (ap (λ (l : List ℕ). slice_get l byte) is.1)

place_found : (planned : Items) (ops : List Op) (place : Place) (got : Got) (block : List ℕ) (held : Cartridge)
    → IsOnWay planned ops held → IsDoneAt planned ops place
    → IsFoundAt place (outcome.Read got) block held → IsBlock (tape_on planned) place block
place_found planned ops place got block held w d found byte =
    ap (λ (o : Option Item). byte_in o byte) (sym (place_stands planned ops place held w d))
    ∙ read_bytes (item_at place held) got block found byte

-- what the head reads, and what an op holds, is what is planned there
pub tapes_tell : TapesTell
tapes_tell = record {
  reaches = way_reaches;
  within = place_within;
  stands = place_stands;
  found = place_found;
  held = λ planned ops place bytes held w is. plan_held planned ops place bytes w.plan is;
}
