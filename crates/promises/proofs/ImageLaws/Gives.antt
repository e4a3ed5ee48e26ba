-- What is kept gives.
use Rattle.std.proofs.Common.{ap, sym, ◌≡◌, ℕ, ◌-◌, ◌^◌, ◌<◌, ◌≤◌, ◌++◌, List, [], ◌∷◌, length, take, subst, ◌∙◌, arith, Some}
use Rattle.std.specs.List.{AllByRecursion}
use Rattle.tape_types.specs.declared.cartridges.Cartridge.{Cartridge}
use Rattle.tape_types.specs.declared.cartridges.Part.{Part}
use Rattle.tape_types.specs.declared.cartridges.Part.TheVariants.{Ip, Dp}
use Rattle.tape_types.specs.Cartridges.{items_of}
use Rattle.plain_tree.specs.Tree.{Tree}
use Rattle.session_script.specs.declared.logs.Ack.{Ack}
use Rattle.cartridge_meaning.specs.Meaning.{Stands}
use Rattle.cartridge_meaning.specs.Notes.{TellsOfLast}
use Rattle.cartridge_meaning.specs.Pointers.{IsLastOnDp, IsLastOnIp, indexes_of, last_block}
use Rattle.coherency.specs.declared.Coherency.{Coherency}
use Rattle.index_model.specs.declared.indexes.Index.{Index}
use Rattle.content_laws.specs.Ends.{end_dp}
use Rattle.content_laws.specs.Readings.{Construct}
use Rattle.tape_layout.specs.declared.ops.Op.{Op}
use Rattle.tape_layout.specs.declared.ops.Op.TheVariants as ops
use Rattle.promises.specs.ImageLaws.Events.{IsReached}
use Rattle.promises.specs.ImageLaws.Images.{IsNext}
use Rattle.promises.specs.ImageLaws.Fine.{IsFine, IsSame}
use Rattle.promises.specs.ImageLaws.Kept.{IsHeld, Kept, Moment, Wait, plan_of}
use Rattle.promises.specs.ImageLaws.Made.{CoveredIndex, Job, Made, Trees, Volume, least, newest, part_items}
use Rattle.promises.proofs.ImageLaws.Pointing.{counts_point}
use Rattle.promises.proofs.ImageLaws.Fines.{fine, flushed_stands}

-- a list that begins with another is no shorter
long_of : {X : Type 0} (xs ys : List X) → take (length xs) ys ≡ xs → length xs ≤ length ys
long_of [] ys e = omega arith
long_of (x ∷ xs) [] e = absurd (let wrong : [] ≡ x ∷ xs = e in cc)
long_of (x ∷ xs) (y ∷ ys) e = let rest : take (length xs) ys ≡ xs = cc in omega (arith, long_of xs ys rest)

all_at : {X : Type 0} (P : X → Type 0) (front : List X) (x : X) (behind : List X) → AllByRecursion P (front ++ x ∷ behind) → P x
all_at P [] x behind all = all.0
all_at P (y ∷ front) x behind all = all_at P front x behind all.1

module _ (v : Volume) (t : Trees) (s : Made) (since : ℕ) (d : Moment) (done : ℕ) (jobs : List Job) (waits : List Wait) (acks : List Ack)
    (k : Kept v t s since d done jobs waits acks) where
  -- each cartridge that a crash may leave now stands for no fewer placements than what was flushed covers
  pub now_fine : (c : Cartridge) → d.leaves c → IsFine v t (least s.base) c
  now_fine c may = fine v t (plan_of s jobs) s.base k.sound.grounded c (k.images c may).0

  -- so does the one that there is
  pub held_fine : IsFine v t (least s.base) d.held
  held_fine = fine v t (plan_of s jobs) s.base k.sound.grounded d.held k.reads.image

  -- each that it may have left since a sync was acknowledged holds what that covers
  pub acked_fine : (front : List Ack) (a : Ack) (behind : List Ack) → acks ≡ front ++ a ∷ behind → a.command < 2 ^ 64 - 1
      → (c : Cartridge) → d.left a.command c → IsFine v t a.place c
  acked_fine front a behind is short =
      (all_at (IsHeld v t s.base d) front a behind (subst (λ (l : List Ack). AllByRecursion (IsHeld v t s.base d) l) is k.acked)).held short

  -- where the last index was flushed, the cartridge stands for what that covers
  pub base_stands : s.last ≡ s.base.floor → Stands d.held v.facts (t.nth (least s.base)) (newest s.base)
  base_stands indexed = flushed_stands v t (plan_of s jobs) s.base k.sound.grounded d.held k.reads.image (k.reads.last_is ∙ indexed)

  -- and where that is the whole history, for its tree
  pub synced_stands : s.last ≡ s.base.floor → IsSame t (least s.base) t.count → Stands d.held v.facts (t.nth t.count) (newest s.base)
  synced_stands indexed same =
      subst (λ (tree : Tree). Stands d.held v.facts tree (newest s.base)) (same (least s.base) (omega arith) k.sound.grounded.tells.covered) (base_stands indexed)

  -- it stands for the tree of the whole history also where a later index is there that isn't flushed yet
  pub history_stands : IsSame t (least s.base) t.count → (generation : ℕ) × Stands d.held v.facts (t.nth t.count) generation
  history_stands same =
      let f = held_fine in
      (f.generation, subst (λ (tree : Tree). Stands d.held v.facts tree f.generation) (same f.place f.low f.high) f.stands)

  -- each partition has all that was made
  pub reaches : (p : Part) → length (part_items p s) ≤ length (items_of p d.held)
  reaches Ip = long_of s.ip d.held.ip k.reads.ip
  reaches Dp = long_of s.dp d.held.dp k.reads.dp

  -- what the last index of the index partition reads as points right beside that of the data partition
  pub last_on_ip : IsLastOnIp v.labels.ip (indexes_of d.held.ip) (indexes_of d.held.dp) (Some s.last.index) k.reads.image.ip.on_ip
  last_on_ip =
      let i = k.reads.image in
      subst (λ (e : CoveredIndex). IsLastOnIp v.labels.ip (indexes_of d.held.ip) (indexes_of d.held.dp) (Some e.index) i.ip.on_ip) k.reads.last_is
      (subst (λ (ks : List Construct). IsLastOnIp v.labels.ip (indexes_of d.held.ip) ks (Some i.last.index) i.ip.on_ip) (sym i.dp.split)
      (counts_point v t (plan_of s jobs) s.base (end_dp (indexes_of d.held.dp)) (indexes_of d.held.ip) i.dp.more i.last i.ip.on_ip
      k.sound.grounded.some i.ip.behind i.dp.counts i.ip.reads))

  pub last_on_dp : IsLastOnDp v.labels.ip (indexes_of d.held.dp) (Some s.last.index)
  last_on_dp =
      subst (λ (e : CoveredIndex). IsLastOnDp v.labels.ip (indexes_of d.held.dp) (Some e.index)) k.reads.last_is k.reads.image.dp.reads

  -- so a note with the generation and the place of that index tells of it
  pub tells_on_dp : (note : Coherency) → note.generation ≡ s.last.index.generation → last_block (indexes_of s.dp) ≡ Some note.block
      → TellsOfLast d.held v.labels.ip Dp note
  tells_on_dp note generation block = record {
    index = s.last.index;
    last = last_on_dp;
    generation = generation;
    block = ap last_block k.reads.no_more ∙ block;
  }

  pub tells_on_ip : (note : Coherency) (index : Index) → k.reads.image.ip.on_ip ≡ Some index → note.generation ≡ index.generation
      → last_block (indexes_of d.held.ip) ≡ Some note.block → TellsOfLast d.held v.labels.ip Ip note
  tells_on_ip note index is generation block = record {
    index = index;
    last = (
      Some s.last.index,
      last_on_dp,
      subst (IsLastOnIp v.labels.ip (indexes_of d.held.ip) (indexes_of d.held.dp) (Some s.last.index)) is last_on_ip,
    );
    generation = generation;
    block = block;
  }

-- the next op begins where the drive can go
pub next_reached : (v : Volume) (t : Trees) (s : Made) (since : ℕ) (d : Moment) (done : ℕ) (job : Job) (jobs : List Job) (waits : List Wait) (acks : List Ack)
    → Kept v t s since d done (job ∷ jobs) waits acks → IsReached job.op d.held
next_reached v t s since d done job jobs waits acks k = by job.op k.safe.0
  where
    by : (op : Op) → IsNext op s → IsReached op d.held
    by (ops.Put place bytes) next = omega (arith, next.0, reaches v t s since d done (job ∷ jobs) waits acks k place.part)
    by (ops.Mark place) next = omega (arith, next.0, reaches v t s since d done (job ∷ jobs) waits acks k place.part)
    by (ops.Flush place) next = tt
