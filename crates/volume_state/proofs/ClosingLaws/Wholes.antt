-- That a partition ends where it is planned to.
use Rattle.std.proofs.Common.{◌≡◌, ◌⊎◌, ⊎_elim, ℕ, Bool, List, [], ◌∷◌, ◌++◌, length, take, None, refl, sym, ap, ◌∙◌}
use Rattle.std.proofs.Common.{append-nil}
use Rattle.tape_types.specs.Cartridges.{items_of}
use Rattle.tape_types.specs.declared.cartridges.Cartridge.{Cartridge}
use Rattle.tape_types.specs.declared.cartridges.Item.{Item}
use Rattle.tape_types.specs.declared.cartridges.Item.TheVariants.{Block, Mark}
use Rattle.tape_types.specs.declared.cartridges.Note.{Note}
use Rattle.tape_types.specs.declared.cartridges.Part.{Part}
use Rattle.tape_types.specs.declared.cartridges.Part.TheVariants.{Ip, Dp}
use Rattle.tape_types.specs.declared.cartridges.Place.{Place}
use Rattle.tape_types.specs.declared.cartridges.Twin.{Twin}
use Rattle.tape_drive.specs.Commands.{IsNoted, IsWritten, KeepsRest}
use Rattle.tape_layout.specs.declared.ops.Op.{Op}
use Rattle.tape_layout.specs.declared.ops.Op.TheVariants as ops
use Rattle.tape_layout.specs.Admissions.{flush_first}
use Rattle.tape_layout.specs.Ops.{construct, place_of}
use Rattle.head_core.specs.Steps.{AfterOp, AfterPut}
use Rattle.head_core.specs.declared.work.StepDone.{StepDone}
use Rattle.head_core.specs.declared.work.StepDone.TheVariants as outcome
use Rattle.space_laws.specs.Space.{Rules, Space, index, ops_of}
use Rattle.promises.proofs.ImageLaws.Exact.{begun_exact}
use Rattle.promises.specs.CrashLaws.Changes.{IsWell}
use Rattle.promises.specs.CrashLaws.Safe.{item_on, items_by, put_by}
use Rattle.volume_state.specs.PlanLaws.Planned.{IsOnWay, Items, with_ops}
use Rattle.volume_state.proofs.PlanLaws.Ends.{ops_append}
use Rattle.volume_state.proofs.PlanLaws.Ways.{first_at}
use Rattle.volume_state.specs.ClosingLaws.Laws.{close_ops}
use Rattle.volume_state.specs.ClosingLaws.Whole.{IsWhole, WholesStay}

-- ---- what ops put on a partition

left_nil : (xs ys : List Item) → xs ++ ys ≡ [] → xs ≡ []
left_nil [] ys is = refl
left_nil (x ∷ xs) ys is = absurd (let wrong : x ∷ (xs ++ ys) ≡ [] = is in cc)

right_nil : (xs ys : List Item) → xs ++ ys ≡ [] → ys ≡ []
right_nil [] ys is = is
right_nil (x ∷ xs) ys is = absurd (let wrong : x ∷ (xs ++ ys) ≡ [] = is in cc)

both_nil : (xs ys : List Item) → xs ≡ [] → ys ≡ [] → xs ++ ys ≡ []
both_nil xs ys left right = ap (λ (l : List Item). l ++ ys) left ∙ right

-- with more ops behind these, neither put anything there
fronts_none : (part : Part) (front behind : List Op) → items_by part (front ++ behind) ≡ [] → items_by part front ≡ []
fronts_none part front behind none =
    left_nil (items_by part front) (items_by part behind) (sym (ops_append part front behind) ∙ none)

rests_none : (part : Part) (front behind : List Op) → items_by part (front ++ behind) ≡ [] → items_by part behind ≡ []
rests_none part front behind none =
    right_nil (items_by part front) (items_by part behind) (sym (ops_append part front behind) ∙ none)

-- a partition stays whole as ops are added
pub whole_grows : (part : Part) (planned : Items) (asked more : List Op) (held : Cartridge)
    → IsWhole part planned asked held → IsWhole part (with_ops more planned) (asked ++ more) held
whole_grows part planned asked more held whole none =
    whole (fronts_none part asked more none) ∙ sym (append-nil (planned part))
    ∙ ap (λ (l : List Item). planned part ++ l) (sym (rests_none part asked more none))

-- with the ops of an index the data partition is whole
pub whole_indexed : (planned : Items) (asked : List Op) (rules : Rules) (on : Bool) (space : Space) (text : List ℕ)
    (held : Cartridge) → IsWhole Dp planned (asked ++ ops_of rules on space (index text)) held
whole_indexed planned asked rules on space text held none =
    let firsts = flush_first space.flush_due space.ends.ip in
    let its = construct rules.block_size Dp space.ends.dp text in
    absurd (marked (rests_none Dp firsts its (rests_none Dp asked (firsts ++ its) none)))
  where
    marked : items_by Dp (construct rules.block_size Dp space.ends.dp text) ≡ [] → ⊥
    marked all = cc

whole_closed : (planned : Items) (asked : List Op) (rules : Rules) (space : Space) (text : List ℕ) (held : Cartridge)
    → IsWhole Ip planned (asked ++ close_ops rules space text) held
whole_closed planned asked rules space text held none =
    absurd (marked (rests_none Ip asked (close_ops rules space text) none))
  where
    marked : items_by Ip (close_ops rules space text) ≡ [] → ⊥
    marked all = cc

-- ---- an op that was done

written_whole : (part on : Part) (pos : ℕ) (x : Item) (made : Items) (old new : Cartridge) → pos ≡ length (made on)
    → take (length (made on)) (items_of on old) ≡ made on → IsWritten on pos x old new
    → (item_on part on x ≡ [] → items_of part old ≡ made part) → items_of part new ≡ made part ++ item_on part on x
written_whole Ip Ip pos x made old new at reads w whole =
    w.items ∙ ap (λ (n : ℕ). take n old.ip ++ x ∷ []) at ∙ ap (λ (l : List Item). l ++ x ∷ []) reads
written_whole Ip Dp pos x made old new at reads w whole = w.rest.other_part ∙ whole refl ∙ sym (append-nil (made Ip))
written_whole Dp Ip pos x made old new at reads w whole = w.rest.other_part ∙ whole refl ∙ sym (append-nil (made Dp))
written_whole Dp Dp pos x made old new at reads w whole =
    w.items ∙ ap (λ (n : ℕ). take n old.dp ++ x ∷ []) at ∙ ap (λ (l : List Item). l ++ x ∷ []) reads

module _ (part : Part) (made : Items) (old new : Cartridge) where
  put_whole : (at : Place) (x : Item) (end : StepDone) → at.pos ≡ length (made at.part)
      → take (length (made at.part)) (items_of at.part old) ≡ made at.part → AfterPut at x end old new → IsWell end
      → (item_on part at.part x ≡ [] → items_of part old ≡ made part)
      → items_of part new ≡ made part ++ item_on part at.part x
  put_whole at x (outcome.Read answer) is reads w well whole = absurd w
  put_whole at x outcome.Wrote is reads w well whole = written_whole part at.part at.pos x made old new is reads w whole
  put_whole at x outcome.Flushed is reads w well whole = absurd w
  put_whole at x (outcome.Failed counts) is reads w well whole = absurd well

  op_whole : (op : Op) (end : StepDone) → (place_of op).pos ≡ length (made (place_of op).part)
      → take (length (made (place_of op).part)) (items_of (place_of op).part old) ≡ made (place_of op).part
      → AfterOp op end old new → IsWell end → (put_by part op ≡ [] → items_of part old ≡ made part)
      → items_of part new ≡ made part ++ put_by part op
  op_whole (ops.Put at bytes) end is reads w well whole = put_whole at (Block bytes) end is reads w well whole
  op_whole (ops.Mark at) end is reads w well whole = put_whole at Mark end is reads w well whole
  op_whole (ops.Flush at) end is reads w well whole =
      ap (λ (c : Cartridge). items_of part c) w ∙ whole refl ∙ sym (append-nil (made part))

-- a partition stays whole when the first op is done
pub whole_done : (part : Part) (planned : Items) (op : Op) (later : List Op) (end : StepDone) (old new : Cartridge)
    → IsOnWay planned (op ∷ later) old → AfterOp op end old new → IsWell end → IsWhole part planned (op ∷ later) old
    → IsWhole part planned later new
whole_done part planned op later end old new way after well whole none =
    let made = way.plan.made in
    op_whole part made old new op end (first_at op later made way.plan.next) (way.reads (place_of op).part) after well
    (λ not.
    let all : items_by part (op ∷ later) ≡ [] = both_nil (put_by part op) (items_by part later) not none in
    whole all ∙ way.plan.leads part ∙ ap (λ (l : List Item). made part ++ l) all ∙ append-nil (made part))
    ∙ sym (way.plan.leads part
    ∙ ap (λ (l : List Item). made part ++ l)
    (ap (λ (l : List Item). put_by part op ++ l) none ∙ append-nil (put_by part op)))

-- ---- an op that failed, and a note

rest_same : (part on : Part) (x : Item) (old new : Cartridge) → KeepsRest on old new → item_on part on x ≡ []
    → items_of part new ≡ items_of part old
rest_same Ip Ip x old new rest none = absurd (let wrong : x ∷ [] ≡ [] = none in cc)
rest_same Ip Dp x old new rest none = rest.other_part
rest_same Dp Ip x old new rest none = rest.other_part
rest_same Dp Dp x old new rest none = absurd (let wrong : x ∷ [] ≡ [] = none in cc)

failed_same : (part : Part) (op : Op) (counts : Twin) (old new : Cartridge) → AfterOp op (outcome.Failed counts) old new
    → put_by part op ≡ [] → items_of part new ≡ items_of part old
failed_same part (ops.Put at bytes) counts old new w none = rest_same part at.part (Block bytes) old new w.rest none
failed_same part (ops.Mark at) counts old new w none = rest_same part at.part Mark old new w.rest none
failed_same part (ops.Flush at) counts old new w none = ap (λ (c : Cartridge). items_of part c) w

-- a partition stays whole when the first op failed
pub whole_failed : (part : Part) (planned : Items) (op : Op) (later : List Op) (counts : Twin) (old new : Cartridge)
    → AfterOp op (outcome.Failed counts) old new → IsWhole part planned (op ∷ later) old
    → IsWhole part planned (op ∷ later) new
whole_failed part planned op later counts old new after whole none =
    failed_same part op counts old new after (left_nil (put_by part op) (items_by part later) none) ∙ whole none

noted_same : (part on : Part) (note : Note) (old new : Cartridge) → IsNoted on note old new
    → items_of part new ≡ items_of part old
noted_same Ip on note old new is = is.ip
noted_same Dp on note old new is = is.dp

whole_noted : (part on : Part) (note : Note) (planned : Items) (asked : List Op) (old new : Cartridge)
    → (new ≡ old) ⊎ IsNoted on note old new → IsWhole part planned asked old → IsWhole part planned asked new
whole_noted part on note planned asked old new either whole none =
    ⊎_elim (λ (same : new ≡ old). ap (λ (c : Cartridge). items_of part c) same)
    (λ (is : IsNoted on note old new). noted_same part on note old new is) either
    ∙ whole none

-- a partition that ends where it is planned to does so over each step
pub wholes_stay : WholesStay
wholes_stay = record {
  begins = λ c m mounts done none. begun_exact c None m.index (mounts.dp_done.0 done).ends;
  grows = whole_grows;
  indexed = whole_indexed;
  closed = whole_closed;
  done = whole_done;
  failed = whole_failed;
  noted = whole_noted;
}
