-- What is kept while a volume is served, over a drive that tells its content.
use Rattle.std.specs.Prelude.{ℕ, ◌+◌, ◌-◌, ◌^◌, ◌≤◌, ◌<◌, ◌≡◌, List, ◌++◌, length, take}
use Rattle.std.specs.List.{AllByRecursion}
use Rattle.tape_types.specs.declared.cartridges.Cartridge.{Cartridge}
use Rattle.session_script.specs.declared.logs.Ack.{Ack}
use Rattle.content_laws.specs.Content.{content}
use Rattle.content_laws.specs.Ends.{end_ip}
use Rattle.tape_drive.specs.Crashes.{Crashes}
use Rattle.tape_layout.specs.declared.ops.Op.{Op}
use Rattle.tape_layout.specs.declared.ops.Op.TheVariants as ops
use Rattle.cartridge_meaning.specs.Pointers.{indexes_of}
use Rattle.space_laws.specs.Space.{Space}
use Rattle.promises.specs.ImageLaws.Fine.{IsFine, IsSame}
use Rattle.promises.specs.ImageLaws.Images.{AreSafe, AreUpTo, IsImage, IsSound}
use Rattle.promises.specs.ImageLaws.Made.{Base, Job, Made, Trees, Volume, after, cartridge_of, least}
use Rattle.promises.specs.ImageLaws.Plans.{IsPlanned}

-- a drive at a moment: the cartridge as it reads, how many commands it has had, what a crash may leave now, and what
-- it may have left since so many commands
pub record Moment : Type 1 where
  pub held : Cartridge
  pub commands : ℕ
  pub leaves : Cartridge → Type 0
  pub left : ℕ → Cartridge → Type 0

-- from one moment to another a crash may leave what such a step gives
abbrev pub IsStep : (Cartridge → Cartridge → Type 0) → Moment → Moment → Type 0
IsStep step old new = (old.commands ≤ new.commands) × Crashes step old.commands old.leaves new.leaves old.left new.left

-- nothing is pending: a crash leaves the cartridge as it reads
abbrev pub HasNothingPending : Moment → Type 0
HasNothingPending d = (c : Cartridge) → d.leaves c → c ≡ d.held

-- a flush that is done leaves nothing pending
abbrev pub IsSureAfter : Op → Moment → Type 0
IsSureAfter (ops.Put place bytes) d = Unit {0}
IsSureAfter (ops.Mark place) d = Unit {0}
IsSureAfter (ops.Flush place) d = HasNothingPending d

-- a sync that is answered once so many jobs of the whole run are done
pub record Wait : Type 0 where
  pub place : ℕ
  pub due : ℕ

-- with just these jobs done, what is flushed covers the sync
pub record IsServed (t : Trees) (s : Made) (done : ℕ) (jobs : List Job) (w : Wait) : Type 0 where
  pub placed : w.place ≤ t.count
  pub admitted : w.due ≤ done + length jobs
  pub covered : (front behind : List Job) → jobs ≡ front ++ behind → done + length front ≡ w.due
      → IsSame t (least (after s front).base) w.place

-- The cartridge reads as what was made up to both ends. What lies behind them is an image's tail, without an index on
-- the data partition.
pub record ReadsAs (v : Volume) (t : Trees) (plan : Cartridge) (s : Made) (held : Cartridge) : Type 0 where
  pub ip : take (length s.ip) held.ip ≡ s.ip
  pub dp : take (length s.dp) held.dp ≡ s.dp
  pub image : IsImage v t plan s.base held
  pub last_is : image.last ≡ s.last
  pub no_more : indexes_of held.dp ≡ indexes_of s.dp
  pub further : end_ip (content s.ip) ≤ end_ip (content held.ip)

-- an acknowledged sync is covered by what is flushed; it was told at a number of commands that were reached, and each
-- image that a crash may have left since holds what it covers
pub record IsHeld (v : Volume) (t : Trees) (b : Base) (d : Moment) (a : Ack) : Type 0 where
  pub placed : a.place ≤ t.count
  pub reached : a.command ≤ d.commands
  pub covered : IsSame t (least b) a.place
  pub held : a.command < 2 ^ 64 - 1 → (c : Cartridge) → d.left a.command c → IsFine v t a.place c

-- both partitions once all jobs are done
abbrev pub plan_of : Made → List Job → Cartridge
plan_of s jobs = cartridge_of (after s jobs)

-- What is kept: the cartridge reads as what was made; the jobs that stand may be done; each image that a crash may
-- leave is sound, each that it may have left since the start is fine, and each acknowledged sync is held.
pub record Kept (v : Volume) (t : Trees) (s : Made) (since : ℕ) (d : Moment) (done : ℕ) (jobs : List Job)
    (waits : List Wait) (acks : List Ack)
    : Type 0 where
  pub reads : ReadsAs v t (plan_of s jobs) s d.held
  pub sound : IsSound v t (plan_of s jobs) s
  pub safe : AreSafe v t (plan_of s jobs) s jobs
  pub notes : AreUpTo v d.held.vcr d.held
  pub images : (c : Cartridge) → d.leaves c → IsImage v t (plan_of s jobs) s.base c × AreUpTo v d.held.vcr c
  pub begun : since ≤ d.commands
  pub always : (c : Cartridge) → d.left since c → IsFine v t 0 c
  pub waiting : AllByRecursion (IsServed t s done jobs) waits
  pub acked : AllByRecursion (IsHeld v t s.base d) acks

-- a volume that can be asked for more: what is kept, and its space is that of the plan
pub record Serves (v : Volume) (t : Trees) (s : Made) (since : ℕ) (d : Moment) (done : ℕ) (jobs : List Job)
    (waits : List Wait) (acks : List Ack)
    (space : Space) : Type 0 where
  pub kept : Kept v t s since d done jobs waits acks
  pub planned : IsPlanned t (after s jobs) space
