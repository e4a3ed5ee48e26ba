-- A served volume of which each crash leaves a tree of its history.
use Rattle.std.specs.Prelude.{ℕ, ◌≤◌, ◌≡◌, true, List, [], ◌∷◌, ◌++◌, length, map, Some, None}
use Rattle.tape_types.specs.declared.cartridges.Cartridge.{Cartridge}
use Rattle.tape_types.specs.declared.cartridges.Limits.{Limits}
use Rattle.tape_types.specs.declared.cartridges.Item.{Item}
use Rattle.tape_types.specs.declared.cartridges.Item.TheVariants.{Block, Mark}
use Rattle.tape_types.specs.declared.cartridges.Part.{Part}
use Rattle.tape_types.specs.declared.cartridges.Part.TheVariants.{Ip, Dp}
use Rattle.tape_drive.specs.declared.drive.Drive.{Ghosts}
use Rattle.tape_layout.specs.declared.ops.Op.{Op}
use Rattle.tape_layout.specs.declared.ops.Op.TheVariants as ops
use Rattle.cartridge_meaning.specs.Carried.{carried}
use Rattle.cartridge_meaning.specs.declared.labels.Labels.{Labels}
use Rattle.session_script.specs.Grammar.{calls_of}
use Rattle.session_script.specs.declared.logs.Event.{Event}
use Rattle.head_queue.specs.EventLaws.Waiting.{Waiter}
use Rattle.head_queue.specs.EventLaws.Trail.{after_all}
use Rattle.space_laws.specs.Space.{Space}
use Rattle.space_laws.specs.Standing.{Given, Standing, is_on, standing}
use Rattle.promises.specs.ImageLaws.Kept.{Wait}
use Rattle.promises.specs.ImageLaws.Laws.{IsServing, State}
use Rattle.promises.specs.ImageLaws.Made.{Job, Made, Trees, Volume, after, makes}
use Rattle.promises.specs.ServingPromise.Mount.{facts_of}
use Rattle.promises.specs.ServingPromise.Served.{Drive, View, tree_after}

-- what contracts see of a drive at a moment
abbrev pub seen_by : {D : Type 0} → Ghosts D → D → Drive
seen_by drive d = record {
  held = drive.held d;
  head = drive.head d;
  limits = drive.limits d;
  commands = drive.commands d;
  faults = drive.faults d;
  leavings = record { now = drive.leaves d; since = drive.left_since d };
}

-- ---- a volume as the theory of crashes knows it

abbrev pub wait_of : Waiter → Wait
wait_of w = record { place = w.ticket; due = w.due }

-- the syncs that wait once these events came
abbrev pub waits_after : List Event → List Wait
waits_after events = map wait_of (after_all events).syncs

abbrev pub volume_of : {D : Type 0} → Labels → View D → Volume
volume_of labels v = record { labels = labels; facts = carried v.fixed.mounted.index }

abbrev pub trees_of : {D : Type 0} → View D → Trees
trees_of v = record { nth = tree_after v; count = length v.history }

abbrev pub state_of : {D : Type 0} → Labels → View D → Made → List Job → State
state_of labels v made jobs = record {
  volume = volume_of labels v;
  trees = trees_of v;
  made = made;
  since = v.fixed.since;
  done = (after_all v.events).done;
  jobs = jobs;
  waits = waits_after v.events;
  acks = v.acks;
}

-- ---- what holds beside

-- the syncs stand in the order in which they are due, and none was due before so many ops were done
abbrev pub AreInOrder : ℕ → List Waiter → Type 0
AreInOrder done [] = Unit {0}
AreInOrder done (w ∷ later) = (done ≤ w.due) × AreInOrder w.due later

abbrev pub IsDpFlush : Op → Type 0
IsDpFlush (ops.Put place bytes) = ⊥
IsDpFlush (ops.Mark place) = ⊥
IsDpFlush (ops.Flush place) = place.part ≡ Dp

-- with each flush of the data partition that stands no index is ahead on the index partition
abbrev pub Settle : Made → List Job → Type 0
Settle s [] = Unit {0}
Settle s (job ∷ jobs) = (IsDpFlush job.op → (makes job s).base.ahead ≡ None) × Settle (makes job s) jobs

-- on what a volume is served: its labels, and what both partitions have once all ops that stand are done
pub record Planned : Type 0 where
  pub labels : Labels
  pub made : Made

-- with more jobs behind those
abbrev pub with_jobs : List Job → Planned → Planned
with_jobs more p = record { labels = p.labels; made = after p.made more }

-- with these ops more
pub record Follows (old new : Planned) (asked : List Op) : Type 0 where
  pub labels : new.labels ≡ old.labels
  pub jobs : List Job
  pub ops : map (λ (job : Job). job.op) jobs ≡ asked
  pub made : new.made ≡ after old.made jobs

-- A volume over a drive that tells its cartridge: the theory of crashes serves it, with the ops that stand as its jobs.
-- The syncs wait in order. From where on files may go to the index partition, no index is ahead there once all ops are
-- done.
pub record IsSafe {D : Type 0} (drive : Ghosts D) (planned : Planned) (space : Space) (v : View D) : Type 0 where
  pub made : Made
  pub jobs : List Job
  pub held : Cartridge
  pub told : drive.held v.drive ≡ Some held
  pub ops : map (λ (job : Job). job.op) jobs ≡ v.ops
  pub plan : after made jobs ≡ planned.made
  pub serving : IsServing drive (state_of planned.labels v made jobs) space v.drive held
  pub in_order : AreInOrder (after_all v.events).done (after_all v.events).syncs
  pub may_write : (place : ℕ) → is_on (facts_of v.fixed.mounted) v.on place ≡ true → (after made jobs).base.ahead ≡ None
  pub settles : Settle made jobs

-- ---- the space of a volume

-- what the definitions of space start from
abbrev pub given_by : {D : Type 0} → Limits → View D → Given
given_by limits v = record {
  calls = calls_of v.fixed.script;
  tree = v.fixed.tree;
  mounted = facts_of v.fixed.mounted;
  limits = limits;
}

-- what stands after the whole history
abbrev pub standing_now : {D : Type 0} → Limits → View D → Standing
standing_now limits v = standing (given_by limits v) v.on v.history (length v.history)

abbrev pub space_now : {D : Type 0} → Limits → View D → Space
space_now limits v = (standing_now limits v).space

-- ---- what is planned, by the ops

-- an item that goes to one partition, as another sees it
abbrev pub item_on : Part → Part → Item → List Item
item_on Ip Ip x = x ∷ []
item_on Ip Dp x = []
item_on Dp Ip x = []
item_on Dp Dp x = x ∷ []

abbrev pub put_by : Part → Op → List Item
put_by part (ops.Put place bytes) = item_on part place.part (Block bytes)
put_by part (ops.Mark place) = item_on part place.part Mark
put_by part (ops.Flush place) = []

-- the items that ops put on a partition
abbrev pub items_by : Part → List Op → List Item
items_by part [] = []
items_by part (op ∷ later) = put_by part op ++ items_by part later
