-- What is planned, by the ops that were added.
use Rattle.std.proofs.Common.{◌≡◌, List, [], ◌∷◌, ◌++◌, map, Option, refl, sym, ap, ◌∙◌, append_assoc, append-nil}
use Rattle.tape_types.specs.declared.cartridges.Item.{Item}
use Rattle.tape_types.specs.declared.cartridges.Item.TheVariants.{Block, Mark}
use Rattle.tape_types.specs.declared.cartridges.Part.{Part}
use Rattle.tape_types.specs.declared.cartridges.Part.TheVariants.{Ip, Dp}
use Rattle.tape_layout.specs.declared.ops.Op.{Op}
use Rattle.tape_layout.specs.declared.ops.Op.TheVariants as ops
use Rattle.promises.specs.ImageLaws.Made.{CoveredIndex, Job, Made, after, does, makes, part_items, put_on}
use Rattle.promises.specs.CrashLaws.Laws.{PlansGrow}
use Rattle.promises.specs.CrashLaws.Safe.{Follows, Planned, item_on, items_by, put_by}
use Rattle.promises.proofs.CrashLaws.Admits.{op_of}

put_grows : (part on : Part) (x : Item) (whole : Option CoveredIndex) (s : Made) → part_items part (put_on on x whole s) ≡ part_items part s ++ item_on part on x
put_grows Ip Ip x whole s = refl
put_grows Ip Dp x whole s = sym (append-nil s.ip)
put_grows Dp Ip x whole s = sym (append-nil s.dp)
put_grows Dp Dp x whole s = refl

op_grows : (part : Part) (op : Op) (whole : Option CoveredIndex) (s : Made) → part_items part (does op whole s) ≡ part_items part s ++ put_by part op
op_grows part (ops.Put place bytes) whole s = put_grows part place.part (Block bytes) whole s
op_grows part (ops.Mark place) whole s = put_grows part place.part Mark whole s
op_grows Ip (ops.Flush place) whole s = sym (append-nil s.ip)
op_grows Dp (ops.Flush place) whole s = sym (append-nil s.dp)

jobs_grow : (part : Part) (jobs : List Job) (s : Made) → part_items part (after s jobs) ≡ part_items part s ++ items_by part (map op_of jobs)
jobs_grow part [] s = sym (append-nil (part_items part s))
jobs_grow part (job ∷ jobs) s =
    jobs_grow part jobs (makes job s)
    ∙ ap (λ (l : List Item). l ++ items_by part (map op_of jobs)) (op_grows part job.op job.whole s)
    ∙ append_assoc (part_items part s) (put_by part job.op) (items_by part (map op_of jobs))

-- what is planned grows by the items of the ops that were added
pub plans_grow : PlansGrow
plans_grow old new asked f part =
    ap (λ (m : Made). part_items part m) f.made ∙ jobs_grow part f.jobs old.made
    ∙ ap (λ (l : List Op). part_items part old.made ++ items_by part l) f.ops
