-- What ops make of both partitions, as far as it counts.
use Rattle.std.specs.Prelude.{ℕ, nat_lt, if◌then◌else◌, List, [], ◌∷◌, ◌++◌, Option, Some, None}
use Rattle.plain_tree.specs.Tree.{Tree}
use Rattle.tape_types.specs.declared.cartridges.Cartridge.{Cartridge}
use Rattle.tape_types.specs.declared.cartridges.Item.{Item}
use Rattle.tape_types.specs.declared.cartridges.Item.TheVariants.{Block, Mark}
use Rattle.tape_types.specs.declared.cartridges.Note.TheVariants.{Absent}
use Rattle.tape_types.specs.declared.cartridges.Part.{Part}
use Rattle.tape_types.specs.declared.cartridges.Part.TheVariants.{Ip, Dp}
use Rattle.index_model.specs.declared.indexes.Index.{Index}
use Rattle.content_laws.specs.Readings.{Construct}
use Rattle.content_laws.specs.Content.{content}
use Rattle.content_laws.specs.Ends.{end_ip}
use Rattle.tape_layout.specs.declared.ops.Op.{Op}
use Rattle.tape_layout.specs.declared.ops.Op.TheVariants as ops
use Rattle.cartridge_meaning.specs.Carried.{Carried}
use Rattle.cartridge_meaning.specs.Pointers.{indexes_of}
use Rattle.cartridge_meaning.specs.declared.labels.Labels.{Labels}

-- what doesn't change while a volume is served: its labels, and what each index carries over
pub record Volume : Type 0 where
  pub labels : Labels
  pub facts : Carried

-- the trees of a history: the one that its first k placements leave, and how many placements there are
pub record Trees : Type 0 where
  pub nth : ℕ → Tree
  pub count : ℕ

-- an index, and so many placements of the history that it covers
pub record CoveredIndex : Type 0 where
  pub index : Index
  pub place : ℕ

-- What stood on both partitions at the last flush, or at the mount: so many items of the index partition, its labels
-- and its data; the indexes of the data partition, the newest first, and what the newest of them covers; and the
-- index of the index partition, where that is newer.
pub record Base : Type 0 where
  pub sure : ℕ
  pub indexes : List Construct
  pub floor : CoveredIndex
  pub ahead : Option CoveredIndex

-- the newer of the two indexes
abbrev pub newer_of : Option CoveredIndex → CoveredIndex → CoveredIndex
newer_of None floor = floor
newer_of (Some ahead) floor = ahead

abbrev pub newest_entry : Base → CoveredIndex
newest_entry b = newer_of b.ahead b.floor

-- how many placements are covered by what was flushed
abbrev pub least : Base → ℕ
least b = (newest_entry b).place

abbrev pub newest : Base → ℕ
newest b = (newest_entry b).index.generation

-- both partitions up to their ends, the newest index of the data partition among that, and what of it is flushed
pub record Made : Type 0 where
  pub ip : List Item
  pub dp : List Item
  pub last : CoveredIndex
  pub base : Base

-- the items as a cartridge, of which labels, indexes and blocks are read
abbrev pub cartridge_of : Made → Cartridge
cartridge_of s = record { ip = s.ip; dp = s.dp; vcr = 0; note_ip = Absent; note_dp = Absent }

-- an op, and the index of the data partition that is whole with it
pub record Job : Type 0 where
  pub op : Op
  pub whole : Option CoveredIndex

abbrev pub or_last : Option CoveredIndex → CoveredIndex → CoveredIndex
or_last None last = last
or_last (Some whole) last = whole

abbrev pub put_on : Part → Item → Option CoveredIndex → Made → Made
put_on Ip x whole s = record { ip = s.ip ++ x ∷ []; dp = s.dp; last = s.last; base = s.base }
put_on Dp x whole s = record { ip = s.ip; dp = s.dp ++ x ∷ []; last = or_last whole s.last; base = s.base }

-- it stays ahead as long as no newer index is flushed
abbrev pub still_ahead : CoveredIndex → Option CoveredIndex → Option CoveredIndex
still_ahead last None = None
still_ahead last (Some ahead) = if nat_lt ahead.index.generation last.index.generation then None else Some ahead

-- what is flushed once all is
abbrev pub flushed : Made → Base
flushed s = record {
  sure = end_ip (content s.ip);
  indexes = indexes_of s.dp;
  floor = s.last;
  ahead = still_ahead s.last s.base.ahead;
}

abbrev pub does : Op → Option CoveredIndex → Made → Made
does (ops.Put place bytes) whole s = put_on place.part (Block bytes) whole s
does (ops.Mark place) whole s = put_on place.part Mark whole s
does (ops.Flush place) whole s = record { ip = s.ip; dp = s.dp; last = s.last; base = flushed s }

abbrev pub makes : Job → Made → Made
makes job s = does job.op job.whole s

-- what a list of jobs makes
abbrev pub after : Made → List Job → Made
after s [] = s
after s (job ∷ jobs) = after (makes job s) jobs

-- a job that makes no index whole
abbrev pub plain : Op → Job
plain op = record { op = op; whole = None }

abbrev pub part_items : Part → Made → List Item
part_items Ip s = s.ip
part_items Dp s = s.dp
