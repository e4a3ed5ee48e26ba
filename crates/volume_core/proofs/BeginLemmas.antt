-- How a volume begins.
use Rattle.std.specs.Prelude.{◌≡◌, ◌≤◌, ℕ, [], List, Option, Some, None, IfSome, length}
use Rattle.std.proofs.Common.{refl, sym, ap, subst, ◌∙◌}
use Rattle.tape_types.specs.Cartridges.{IsLimits}
use Rattle.tape_types.specs.declared.cartridges.Cartridge.{Cartridge}
use Rattle.tape_types.specs.declared.cartridges.Limits.{Limits}
use Rattle.tape_types.specs.declared.moments.Moment.{Moment}
use Rattle.tape_drive.specs.declared.drive.Drive.{Ghosts}
use Rattle.extent_map.specs.Cells.{Tape}
use Rattle.session_script.specs.Sessions.{HasSessions, greatest_session}
use Rattle.session_script.specs.declared.scripts.ScriptLine.{ScriptLine}
use Rattle.cartridge_meaning.specs.Mounts.{IsMount, Mounts}
use Rattle.cartridge_meaning.specs.declared.mounted.Mounted.{Mounted}
use Rattle.file_tree.specs.Mounts.{IsTreeOf}
use Rattle.file_tree.specs.Tree.{FileTree, plain_of}
use Rattle.space_laws.specs.Standing.{Given, first_standing}
use Rattle.promises.specs.ServingPromise.Ends.{Starts}
use Rattle.promises.specs.ServingPromise.Meanings.{cartridges}
use Rattle.promises.specs.ServingPromise.Served.{Fixed, IsServed}
use Rattle.promises.specs.OrderLaws.Kept.{seen}
use Rattle.held_volume.specs.Mounted.{CanStart, StartsFrom, letters_of}
use Rattle.held_volume.specs.Stocks.{IsStock, Stocked}
use Rattle.held_volume.proofs.MountLaws.{mounts_can_start}
use Rattle.promises.specs.CrashLaws.May.{MayStart}
use Rattle.volume_state.specs.StateLaws.Parts.{Parts, view_of}
use Rattle.volume_state.specs.CallLaws.StartLaws.{IsFresh, first_tape}
use Rattle.volume_state.proofs.CallLaws.Begun.{volumes_run}
use Rattle.volume_state.proofs.CallLaws.Promised.{running_is_promised}
use Rattle.volume_core.specs.Beginning.{BeginsWith}
use Rattle.volume_core.specs.Serving.{IsServing, fixed_of, next_moment}

-- ---- the parts

-- what is found at a mount can be started from
pub can_start : (limits told : Limits) (m : Mounted) → told ≡ limits → IsLimits told → IsMount limits m
    → CanStart told m
can_start limits told m is range mount =
    mounts_can_start told m range (subst (λ (l : Limits). IsMount l m) (sym is) mount)

-- no event has come, nothing waits, nothing was placed, nothing is read and no block is kept; there is room for so many
-- calls of so many sessions
pub record AreNew {D : Type 0} (calls sessions : ℕ) (p : Parts D) : Type 0 where
  pub events : p.trail.events ≡ []
  pub acks : p.trail.acks ≡ []
  pub kept : p.trail.kept ≡ []
  pub waiting : p.queue.waiting ≡ []
  pub arrived : p.queue.arrived ≡ 0
  pub history : p.listed.history ≡ []
  pub replies : p.listed.replies ≡ []
  pub marks : p.listed.marks ≡ []
  pub calls_are : p.listed.calls ≡ calls
  pub sessions_are : p.listed.sessions ≡ sessions
  pub reads : p.reads ≡ []
  pub answered : p.answered ≡ []
  pub on : p.on ≡ None
  pub cached : p.cached ≡ []

-- what is held is what stands first, from this mount on
pub record IsStarted (limits : Limits) (m : Mounted) (stock : Stocked) : Type 0 where
  pub ops : stock.layout.ops ≡ []
  pub stands : (tape : Tape) (g : Given) → StartsFrom tape limits m g → IsStock tape g m.ip_on (first_standing g) stock
  pub tree : IsTreeOf (letters_of m) m.label.block m.index stock.tree

-- so nothing was asked of them yet
pub are_fresh : {D : Type 0} (drive : Ghosts D) (fixed : Fixed D) (first : D) (m : Mounted) (limits : Limits)
    (calls sessions : ℕ) (p : Parts D) → BeginsWith drive fixed first m calls sessions p.stock.tree
    → limits ≡ drive.limits first → p.drive ≡ first → AreNew calls sessions p → IsStarted limits m p.stock
    → IsFresh drive fixed p
are_fresh {D = D} drive fixed first m limits calls sessions p begins limits_are drive_is new stock = record {
  drive_is = drive_is ∙ sym begins.first_is;
  events = new.events;
  acks = new.acks;
  kept = new.kept;
  waiting = new.waiting;
  arrived = new.arrived;
  history = new.history;
  replies = new.replies;
  marks = new.marks;
  calls = new.calls_are ∙ sym begins.calls_are;
  sessions = new.sessions_are ∙ sym begins.sessions_are;
  reads = new.reads;
  answered = new.answered;
  on = new.on;
  cached = new.cached;
  ops = stock.ops;
  stands = λ tape g from.
      let here = subst (λ (l : Limits). StartsFrom tape l fixed.mounted g)
      (ap drive.limits begins.first_is ∙ sym limits_are) from in
      let from_it = subst (λ (k : Mounted). StartsFrom tape limits k g) begins.mounted_is here in
      subst (λ (k : Mounted). IsStock tape g k.ip_on (first_standing g) p.stock) (sym begins.mounted_is)
      (stock.stands tape g from_it);
  tree = subst (λ (k : Mounted). IsTreeOf (letters_of k) k.label.block k.index p.stock.tree) (sym begins.mounted_is)
      stock.tree;
  tree_is = begins.tree_is
      ∙ ap (λ (d : D). plain_of (first_tape (drive.held d)) p.stock.tree) (sym begins.first_is);
}

-- ---- the volume

-- a clock that has one moment gives it
gives_one : (one : Option Moment) → IfSome one (λ m. one ≡ Some m)
gives_one None = tt
gives_one (Some m) = refl

-- a volume is served, and it starts as is promised
pub record BeginsServed {D : Type 0} (drive : Ghosts D) (fixed : Fixed D) (m : Mounted) (first : D)
    (one next : Option Moment) (p : Parts D) : Type 0 where
  pub serving : IsServing drive fixed one next p
  pub starts : Starts cartridges (seen drive first) m first fixed.script fixed.since (next_moment one next) one
      (view_of fixed (next_moment one next) p)
  pub served : IsServed cartridges (seen drive first) (seen drive first) (view_of fixed (next_moment one next) p)

-- what was noted of the start is what the volume begins with
pub record IsNoted {D : Type 0} (m m' : Mounted) (first first' : D) (tree tree' : FileTree) (one one' : Option Moment)
    : Type 0 where
  pub mounted : m' ≡ m
  pub drive : first' ≡ first
  pub stock : tree' ≡ tree
  pub clock : one' ≡ one

-- what a start asks of the script, the mount and the drive
pub record CanBegin {D : Type 0} (drive : Ghosts D) (script : List ScriptLine) (m : Mounted) (first : D) : Type 0 where
  pub sessions : HasSessions script
  pub range : IsLimits (drive.limits first)
  pub mount : IsMount (drive.limits first) m
  pub mounts : IfSome (drive.held first) (λ c. Mounts c m)

module _ {D : Type 0} (drive : Ghosts D)
    (counts_now : (d : D) (t : ℕ) (image : Cartridge) → t ≤ drive.commands d → drive.leaves d image
    → drive.left_since d t image)
    (script : List ScriptLine) (m : Mounted) (first : D) (one next : Option Moment) (since : ℕ) (p : Parts D) where
  begins_now : CanBegin drive script m first → MayStart drive m first script one since
      → IsFresh drive (fixed_of drive.held script m first p.stock.tree one since) p
      → BeginsServed drive (fixed_of drive.held script m first p.stock.tree one since) m first one next p
  begins_now can may fresh =
      let fixed = fixed_of drive.held script m first p.stock.tree one since in
      let then = next_moment one next in
      let b = volumes_run drive counts_now fixed then p can.sessions can.range can.mount can.mounts fresh
      (λ reads. may fixed.tree reads) in
      record {
        serving = record {
          runs = b.runs;
          one_moment = gives_one one;
          untouched = λ _. (fresh.drive_is, fresh.ops);
        };
        starts = b.starts;
        served = subst (λ (d : D). IsServed cartridges (seen drive first) (seen drive d) (view_of fixed then p))
            fresh.drive_is (running_is_promised drive fixed then p b.runs);
      }

  -- so it is with what was noted
  pub begins_served : (m' : Mounted) (first' : D) (tree' : FileTree) (one' : Option Moment) (calls sessions : ℕ)
      → IsNoted m m' first first' p.stock.tree tree' one one' → CanBegin drive script m first
      → MayStart drive m first script one since → calls ≡ length script → sessions ≡ greatest_session script
      → ((fixed : Fixed D) → BeginsWith drive fixed first m calls sessions p.stock.tree → IsFresh drive fixed p)
      → BeginsServed drive (fixed_of drive.held script m' first' tree' one' since) m first one next p
  begins_served m' first' tree' one' calls sessions noted can may calls_are sessions_are fresh =
      let same : ◌≡◌ {A = Mounted × D × FileTree × Option Moment} (m, first, p.stock.tree, one)
      (m', first', tree', one') =
      λ i. (sym noted.mounted i, sym noted.drive i, sym noted.stock i, sym noted.clock i) in
      subst (λ (k : Mounted × D × FileTree × Option Moment).
      BeginsServed drive (fixed_of drive.held script k.0 k.1 k.2 k.3 since) m first one next p)
      same
      (begins_now can may (fresh (fixed_of drive.held script m first p.stock.tree one since) record {
        first_is = refl;
        mounted_is = refl;
        calls_are = sym calls_are;
        sessions_are = sym sessions_are;
        tree_is = refl;
      }))
