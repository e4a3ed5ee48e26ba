-- What stands once all jobs are done: the state from which more is admitted.
use Rattle.std.specs.Prelude.{ℕ, ◌+◌, ◌≤◌, ◌≡◌, false, List, [], ◌∷◌, ◌++◌, length, map, Some}
use Rattle.std.specs.Option.{option_map}
use Rattle.tape_types.specs.declared.cartridges.Item.{Item}
use Rattle.tape_types.specs.declared.cartridges.Part.{Part}
use Rattle.tape_types.specs.declared.cartridges.Part.TheVariants.{Ip, Dp}
use Rattle.index_model.specs.Grammar.{IndexText}
use Rattle.index_model.specs.declared.indexes.Index.{Index}
use Rattle.content_laws.specs.Readings.{front}
use Rattle.content_laws.specs.Content.{Data, content}
use Rattle.content_laws.specs.Ends.{EndsWithLast}
use Rattle.tape_layout.specs.declared.ops.Op.TheVariants as ops
use Rattle.tape_layout.specs.Admissions.{flush_first}
use Rattle.tape_layout.specs.Ops.{puts}
use Rattle.cartridge_meaning.specs.Pointers.{indexes_of, last_block, letter_of}
use Rattle.space_laws.specs.Space.{Rules, Space, blocks}
use Rattle.promises.specs.ImageLaws.Fine.{IsSame}
use Rattle.promises.specs.ImageLaws.Images.{Tells}
use Rattle.promises.specs.ImageLaws.Made.{CoveredIndex, Job, Made, Trees, Volume, cartridge_of, least, newest, plain}

-- a partition whose next item is data or the mark that opens an index
pub record IsReady (items : List Item) : Type 0 where
  pub whole : front items ≡ items
  pub labels : 4 ≤ length items
  pub since : ℕ
  pub stage : (content items).phase ≡ Data since

-- The space of a volume is that of what was made once all jobs are done. Then all indexes are flushed, and where no
-- flush is due, all data of the index partition; and where the tree hasn't changed since the last index, what was
-- flushed covers it, and the data partition ends with that index.
pub record IsPlanned (t : Trees) (s : Made) (space : Space) : Type 0 where
  pub end_ip : space.ends.ip ≡ length s.ip
  pub end_dp : space.ends.dp ≡ length s.dp
  pub newest_is : space.newest ≡ newest s.base
  pub last_dp : space.last_dp ≡ last_block (indexes_of s.dp)
  pub indexed : s.last ≡ s.base.floor
  pub flushed : space.flush_due ≡ false → s.base.sure ≡ length s.ip
  pub covered : space.changed ≡ false → IsSame t (least s.base) t.count
  pub ended : space.changed ≡ false → EndsWithLast s.dp (indexes_of s.dp)
  pub ready_ip : IsReady s.ip
  pub no_index : indexes_of s.ip ≡ []
  pub ready_dp : IsReady s.dp

-- the jobs of data: a run of blocks at the end of a partition
abbrev pub data_jobs : Rules → Part → ℕ → List ℕ → List Job
data_jobs rules part end bytes = map plain (puts rules.block_size part end bytes)

-- the jobs of an index: what is due on the index partition is flushed; then a mark, the blocks of the text, the mark
-- with which the index is whole, and a flush
abbrev pub index_jobs : Rules → Space → List ℕ → CoveredIndex → List Job
index_jobs rules space text e =
    map plain (flush_first space.flush_due space.ends.ip)
    ++ plain (ops.Mark (record { part = Dp; pos = space.ends.dp })) ∷ []
    ++ map plain (puts rules.block_size Dp (space.ends.dp + 1) text)
    ++ record { op = ops.Mark (record { part = Dp; pos = space.ends.dp + 1 + blocks rules text }); whole = Some e } ∷ []
    ++ plain (ops.Flush (record { part = Dp; pos = space.ends.dp + 2 + blocks rules text })) ∷ []

-- The text of an index that may be admitted on the data partition: it is that of an index of the volume, of the next
-- generation, with its pointers right, which covers the whole history and tells its tree from what is planned.
pub record IsDue (v : Volume) (t : Trees) (s : Made) (space : Space) (text : List ℕ) (e : CoveredIndex) : Type 0 where
  pub some : 1 ≤ length text
  pub reads : IndexText text e.index
  pub uuid : e.index.uuid ≡ v.labels.ip.uuid
  pub generation : e.index.generation ≡ space.newest + 1
  pub here : e.index.here ≡ record { letter = letter_of v.labels.ip Dp; block = space.ends.dp + 1 }
  pub back : e.index.back
      ≡ option_map (λ block. record { letter = letter_of v.labels.ip Dp; block = block }) space.last_dp
  pub all : e.place ≡ t.count
  pub tells : Tells v t (cartridge_of s) space.ends.ip space.ends.dp e

-- The jobs of a close's index: it goes to the end of the index partition.
abbrev pub close_jobs : Rules → Space → List ℕ → List Job
close_jobs rules space text =
    plain (ops.Mark (record { part = Ip; pos = space.ends.ip })) ∷ []
    ++ map plain (puts rules.block_size Ip (space.ends.ip + 1) text)
    ++ plain (ops.Mark (record { part = Ip; pos = space.ends.ip + 1 + blocks rules text })) ∷ []
    ++ plain (ops.Flush (record { part = Ip; pos = space.ends.ip + 2 + blocks rules text })) ∷ []

-- the text of a close's index: it is that of an index of the generation of the data partition's last, points back to
-- that, and tells the tree of the whole history
pub record IsCloseDue (v : Volume) (t : Trees) (s : Made) (space : Space) (text : List ℕ) (index : Index) : Type 0 where
  pub some : 1 ≤ length text
  pub reads : IndexText text index
  pub uuid : index.uuid ≡ v.labels.ip.uuid
  pub generation : index.generation ≡ space.newest
  pub here : index.here ≡ record { letter = letter_of v.labels.ip Ip; block = space.ends.ip + 1 }
  pub back : index.back
      ≡ option_map (λ block. record { letter = letter_of v.labels.ip Dp; block = block }) space.last_dp
  pub tells : Tells v t (cartridge_of s) space.ends.ip space.ends.dp (record { index = index; place = t.count })
