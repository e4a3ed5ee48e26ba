-- A cartridge on its way to what is planned.
use Rattle.std.proofs.Common.{◌≡◌, ℕ, ◌≤◌, ◌∙◌, List, [], ◌∷◌, ◌++◌, length, take, sym, ap, subst, arith, append-nil}
use Rattle.std.proofs.lemmas.List.{length-take, length-take-le, take_all, take_min}
use Rattle.tape_types.specs.declared.cartridges.Cartridge.{Cartridge}
use Rattle.tape_types.specs.declared.cartridges.Item.{Item}
use Rattle.tape_types.specs.declared.cartridges.Item.TheVariants as item
use Rattle.tape_types.specs.declared.cartridges.Part.{Part}
use Rattle.tape_types.specs.declared.cartridges.Part.TheVariants.{Ip, Dp}
use Rattle.tape_types.specs.declared.cartridges.Place.{Place}
use Rattle.tape_types.specs.declared.cartridges.Twin.{Twin}
use Rattle.tape_types.specs.Cartridges.{items_of, other}
use Rattle.content_laws.proofs.Placed.{end_dp_within, end_ip_within}
use Rattle.content_laws.proofs.Whole.{front_within}
use Rattle.tape_drive.specs.Commands.{IsWritten, KeepsRest}
use Rattle.tape_layout.specs.declared.ops.Op.{Op}
use Rattle.tape_layout.specs.declared.ops.Op.TheVariants.{Put, Mark, Flush}
use Rattle.tape_layout.specs.Ops.{AreNext, place_of}
use Rattle.cartridge_meaning.specs.Meaning.{Found, dp_end, ip_end}
use Rattle.cartridge_meaning.specs.Mounts.{Mounts}
use Rattle.cartridge_meaning.specs.declared.mounted.Mounted.{Mounted}
use Rattle.promises.proofs.ImageLaws.Cut.{long_front}
use Rattle.head_core.specs.Laws.{KeepsFront}
use Rattle.head_core.specs.Steps.{AfterOp, AfterPut}
use Rattle.head_core.specs.declared.work.StepDone.{StepDone}
use Rattle.head_core.specs.declared.work.StepDone.TheVariants as outcome
use Rattle.head_core.proofs.Fronts.{ops_keep}
use Rattle.promises.specs.CrashLaws.Changes.{IsWell}
use Rattle.promises.specs.CrashLaws.Safe.{item_on}
use Rattle.volume_state.specs.PlanLaws.Laws.{WaysGoOn}
use Rattle.volume_state.specs.PlanLaws.Planned.{IsOnWay, Items, ends_in, mounted_items}
use Rattle.volume_state.proofs.PlanLaws.Ends.{end_is, with_op}
use Rattle.volume_state.proofs.PlanLaws.Plans.{plan_begins, plan_done, plan_grows}

-- ---- a mount

cut_again : (n : ℕ) (l : List Item) → take (length (take n l)) l ≡ take n l
cut_again n l = ap (λ (k : ℕ). take k l) (length-take n l) ∙ take_min n l

mounted_reads : (c : Cartridge) (part : Part)
    → take (length (mounted_items c part)) (items_of part c) ≡ mounted_items c part
mounted_reads c Ip = cut_again (ip_end c) c.ip
mounted_reads c Dp = cut_again (dp_end c) c.dp

way_begins : (c : Cartridge) → IsOnWay (mounted_items c) [] c
way_begins c = record { plan = plan_begins (mounted_items c); reads = mounted_reads c }

long_ends : (c : Cartridge) (f : Found c)
    → (length (take (ip_end c) c.ip) ≡ ip_end c) × (length (take (dp_end c) c.dp) ≡ dp_end c)
long_ends c f =
    let ip : 4 ≤ length _ = long_front c.ip f.labels.ip_record _ f.forms.has.ip_record f.forms.has.ip in
    let dp : 4 ≤ length _ = long_front c.dp f.labels.dp_record _ f.forms.has.dp_record f.forms.has.dp in (
      length-take-le (ip_end c) c.ip (omega (arith, end_ip_within c.ip ip, front_within c.ip)),
      length-take-le (dp_end c) c.dp (omega (arith, end_dp_within c.dp dp, front_within c.dp)),
    )

mounted_ends : (c : Cartridge) (m : Mounted) → Mounts c m
    → ends_in (mounted_items c) ≡ record { ip = m.end_ip; dp = m.end_dp }
mounted_ends c m h =
    let long = long_ends c h.found in
    let ip : length (take (ip_end c) c.ip) ≡ m.end_ip = long.0 ∙ sym h.ip_end in
    let dp : length (take (dp_end c) c.dp) ≡ m.end_dp = long.1 ∙ sym h.dp_end in
    λ i. record { ip = ip i; dp = dp i }

-- ---- how far the cartridge goes

-- what begins with a list is no shorter than it
pub made_long : (made : List Item) (l : List Item) → take (length made) l ≡ made → length made ≤ length l
made_long made l reads = omega (arith, sym (ap (λ (m : List Item). length m) reads) ∙ length-take (length made) l)

-- the place of the first op is where what was made ends
pub first_at : (op : Op) (ops : List Op) (made : Items) → AreNext (ends_in made) (op ∷ ops)
    → (place_of op).pos ≡ length (made (place_of op).part)
first_at op ops made next = next.0 ∙ end_is (place_of op).part made

-- on the way to what is planned the head reaches the place of the first op
pub way_reaches : (planned : Items) (op : Op) (ops : List Op) (held : Cartridge) → IsOnWay planned (op ∷ ops) held
    → (place_of op).pos ≤ length (items_of (place_of op).part held)
way_reaches planned op ops held w =
    omega (
      arith,
      first_at op ops w.plan.made w.plan.next,
      made_long (w.plan.made (place_of op).part) (items_of (place_of op).part held) (w.reads (place_of op).part),
    )

-- ---- the first op is done

abbrev ReadsAs : Items → Cartridge → Type 0
ReadsAs made c = (part : Part) → take (length (made part)) (items_of part c) ≡ made part

whole : (l : List Item) → take (length l) l ≡ l
whole l = take_all (length l) l (omega arith)

-- what was written is all that stands there
written_front : (pos : ℕ) (x : Item) (made old new : List Item) → pos ≡ length made → take (length made) old ≡ made
    → new ≡ take pos old ++ x ∷ [] → take (length (made ++ x ∷ [])) new ≡ made ++ x ∷ []
written_front pos x made old new at reads is =
    let all : new ≡ made ++ x ∷ [] = is ∙ ap (λ (n : ℕ). take n old ++ x ∷ []) at
    ∙ ap (λ (l : List Item). l ++ x ∷ []) reads in
    ap (λ (l : List Item). take (length (made ++ x ∷ [])) l) all ∙ whole (made ++ x ∷ [])

-- and the other partition stays
same_front : (made old new : List Item) → take (length made) old ≡ made → new ≡ old
    → take (length (made ++ [])) new ≡ made ++ []
same_front made old new reads is =
    subst (λ (l : List Item). take (length l) new ≡ l) (sym (append-nil made))
    (ap (λ (l : List Item). take (length made) l) is ∙ reads)

written_reads : (on : Part) (pos : ℕ) (x : Item) (made : Items) (old new : Cartridge) → pos ≡ length (made on)
    → ReadsAs made old → IsWritten on pos x old new
    → ReadsAs (λ part. made part ++ item_on part on x) new
written_reads Ip pos x made old new at reads w Ip = written_front pos x (made Ip) old.ip new.ip at (reads Ip) w.items
written_reads Ip pos x made old new at reads w Dp = same_front (made Dp) old.dp new.dp (reads Dp) w.rest.other_part
written_reads Dp pos x made old new at reads w Ip = same_front (made Ip) old.ip new.ip (reads Ip) w.rest.other_part
written_reads Dp pos x made old new at reads w Dp = written_front pos x (made Dp) old.dp new.dp at (reads Dp) w.items

put_reads : (at : Place) (x : Item) (end : StepDone) (made : Items) (old new : Cartridge)
    → at.pos ≡ length (made at.part) → ReadsAs made old → AfterPut at x end old new → IsWell end
    → ReadsAs (λ part. made part ++ item_on part at.part x) new
put_reads at x (outcome.Read answer) made old new is reads w well = absurd w
put_reads at x outcome.Wrote made old new is reads w well = written_reads at.part at.pos x made old new is reads w
put_reads at x outcome.Flushed made old new is reads w well = absurd w
put_reads at x (outcome.Failed counts) made old new is reads w well = absurd well

op_reads : (op : Op) (end : StepDone) (made : Items) (old new : Cartridge)
    → (place_of op).pos ≡ length (made (place_of op).part) → ReadsAs made old → AfterOp op end old new → IsWell end
    → ReadsAs (with_op op made) new
op_reads (Put at bytes) end made old new is reads w well =
    put_reads at (item.Block bytes) end made old new is reads w well
op_reads (Mark at) end made old new is reads w well = put_reads at item.Mark end made old new is reads w well
op_reads (Flush at) end made old new is reads w well =
    λ part. same_front (made part) (items_of part old) (items_of part new) (reads part)
    (ap (λ (c : Cartridge). items_of part c) w)

way_done : (planned : Items) (op : Op) (ops : List Op) (end : StepDone) (old new : Cartridge)
    → IsOnWay planned (op ∷ ops) old → AfterOp op end old new → IsWell end
    → IsOnWay planned ops new
way_done planned op ops end old new w after well = record {
  plan = plan_done planned op ops w.plan;
  reads = op_reads op end w.plan.made old new (first_at op ops w.plan.made w.plan.next) w.reads after well;
}

-- ---- the first op failed

-- the front of the op's place stays, and so does the other partition
kept_reads : (on : Part) (pos : ℕ) (made : Items) (old new : Cartridge) → pos ≡ length (made on)
    → take pos (items_of on new) ≡ take pos (items_of on old) → KeepsRest on old new
    → ReadsAs made old → ReadsAs made new
kept_reads Ip pos made old new at front rest reads Ip =
    ap (λ (n : ℕ). take n new.ip) (sym at) ∙ front ∙ ap (λ (n : ℕ). take n old.ip) at ∙ reads Ip
kept_reads Ip pos made old new at front rest reads Dp =
    ap (λ (l : List Item). take (length (made Dp)) l) rest.other_part ∙ reads Dp
kept_reads Dp pos made old new at front rest reads Ip =
    ap (λ (l : List Item). take (length (made Ip)) l) rest.other_part ∙ reads Ip
kept_reads Dp pos made old new at front rest reads Dp =
    ap (λ (n : ℕ). take n new.dp) (sym at) ∙ front ∙ ap (λ (n : ℕ). take n old.dp) at ∙ reads Dp

still_on_way : (planned : Items) (op : Op) (later : List Op) (end : StepDone) (old new : Cartridge)
    → IsOnWay planned (op ∷ later) old → AfterOp op end old new → IsOnWay planned (op ∷ later) new
still_on_way planned op later end old new w after =
    let keeps : KeepsFront (place_of op) old new = ops_keep.kept op end old new (way_reaches planned op later old w)
    after in record {
      plan = w.plan;
      reads =
          kept_reads (place_of op).part (place_of op).pos w.plan.made old new
          (first_at op later w.plan.made w.plan.next) keeps.front keeps.rest w.reads;
    }

way_failed : (planned : Items) (op : Op) (ops later : List Op) (counts : Twin) (old new : Cartridge)
    → IsOnWay planned ops old → ops ≡ op ∷ later → AfterOp op (outcome.Failed counts) old new
    → IsOnWay planned ops new
way_failed planned op ops later counts old new w is after =
    subst (λ (l : List Op). IsOnWay planned l new) (sym is)
    (still_on_way planned op later (outcome.Failed counts) old new
    (subst (λ (l : List Op). IsOnWay planned l old) is w) after)

way_alike : (one other : Items) (ops : List Op) (held : Cartridge) → ((part : Part) → one part ≡ other part)
    → IsOnWay one ops held → IsOnWay other ops held
way_alike one other ops held same w = record {
  plan = record { made = w.plan.made; leads = λ part. sym (same part) ∙ w.plan.leads part; next = w.plan.next };
  reads = w.reads;
}

-- a cartridge stays on its way as ops are admitted, done or failed
pub ways_go_on : WaysGoOn
ways_go_on = record {
  begins = λ c m h. way_begins c;
  mounted = mounted_ends;
  grows = λ planned ops asked held w next. record { plan = plan_grows planned ops asked w.plan next; reads = w.reads };
  done = way_done;
  failed = way_failed;
  alike = way_alike;
}
