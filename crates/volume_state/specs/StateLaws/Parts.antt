-- What a served volume is made of, and the view of it that contracts see.
use Rattle.std.specs.Prelude.{ℕ, List, Option}
use Rattle.tape_types.specs.declared.moments.Moment.{Moment}
use Rattle.plain_tree.specs.declared.calls.Answer.{Answer}
use Rattle.held_volume.specs.Stocks.{Stocked}
use Rattle.event_journal.specs.Trails.{Journaled}
use Rattle.event_journal.specs.Placements.{Listed}
use Rattle.head_queue.specs.Queued.{Queued}
use Rattle.waiting_reads.specs.Gathering.{Gathering}
use Rattle.block_cache.specs.Kept.{Kept}
use Rattle.promises.specs.ServingPromise.Served.{Fixed, View}

-- The drive, the bytes of the block that was read last, what is held of the volume, its events, the requests that wait,
-- its placements, the reads that wait, the answers of reads that were not handed out yet, from which place of the
-- history on files may go to the index partition, and the blocks that were read and are kept.
pub record Parts (D : Type 0) : Type 0 where
  pub drive : D
  pub block : List ℕ
  pub stock : Stocked
  pub trail : Journaled
  pub queue : Queued
  pub listed : Listed
  pub reads : List Gathering
  pub answered : List (ℕ × Answer)
  pub on : Option ℕ
  pub cached : List Kept

-- what contracts see of it
abbrev pub view_of : {D : Type 0} → Fixed D → Option Moment → Parts D → View D
view_of fixed next p = record {
  fixed = fixed;
  drive = p.drive;
  next = next;
  history = p.listed.history;
  replies = p.listed.replies;
  acks = p.trail.acks;
  events = p.trail.events;
  marks = p.listed.marks;
  kept = p.trail.kept;
  on = p.on;
  ops = p.stock.layout.ops;
  cached = p.cached;
}
