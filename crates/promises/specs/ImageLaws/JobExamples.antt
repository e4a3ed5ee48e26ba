-- The jobs of a small volume, and what a close makes of it.
use Rattle.std.specs.Prelude.{ℕ, ◌≡◌, Bool, true, false, [], ◌∷◌, ◌++◌, Some, None}
use Rattle.tape_types.specs.declared.cartridges.Item.TheVariants.{Mark, Torn}
use Rattle.tape_types.specs.declared.cartridges.Part.TheVariants.{Ip, Dp}
use Rattle.content_laws.specs.Readings.{Construct}
use Rattle.content_laws.specs.Content.{content}
use Rattle.content_laws.specs.Ends.{end_ip}
use Rattle.content_laws.specs.Worked.{block, labels}
use Rattle.tape_layout.specs.declared.ops.Op.TheVariants as ops
use Rattle.cartridge_meaning.specs.Pointers.{indexes_of}
use Rattle.space_laws.specs.Space.{Rules, Space}
use Rattle.promises.specs.ImageLaws.Made.{CoveredIndex, Made, after, least, newest, plain}
use Rattle.promises.specs.ImageLaws.Plans.{close_jobs, data_jobs, index_jobs}
use Rattle.promises.specs.ImageLaws.Worked.{mounted, on_dp, on_ip, put_on_ip, so_far}

-- blocks of so many bytes
abbrev pub blocks_of_size : ℕ → Rules
blocks_of_size size = record { limits = record { cap_ip = 100; cap_dp = 100 }; block_size = size }

-- a volume of one generation whose partitions go on from here
abbrev pub space_at : (ip dp : ℕ) → Bool → Space
space_at ip dp due = record {
  ends = record { ip = ip; dp = dp };
  newest = 1;
  last_dp = Some 5;
  changed = true;
  flush_due = due;
  admitted = false;
}

-- which ops are admitted, and where each goes
pub record TellsJobs (e : CoveredIndex) : Type 0 where
  pub one_block : data_jobs (blocks_of_size 4096) Dp 7 (4 ∷ []) ≡ plain (ops.Put (on_dp 7) (4 ∷ [])) ∷ []
  pub three_blocks : data_jobs (blocks_of_size 2) Dp 7 (1 ∷ 2 ∷ 3 ∷ 4 ∷ 5 ∷ [])
      ≡ plain (ops.Put (on_dp 7) (1 ∷ 2 ∷ []))
      ∷ plain (ops.Put (on_dp 8) (3 ∷ 4 ∷ []))
      ∷ plain (ops.Put (on_dp 9) (5 ∷ []))
      ∷ []
  pub on_index_partition : data_jobs (blocks_of_size 4096) Ip 4 (6 ∷ []) ≡ plain (ops.Put (on_ip 4) (6 ∷ [])) ∷ []
  pub sync : index_jobs (blocks_of_size 4096) (space_at 4 8 false) (5 ∷ []) e
      ≡ plain (ops.Mark (on_dp 8))
      ∷ plain (ops.Put (on_dp 9) (5 ∷ []))
      ∷ record { op = ops.Mark (on_dp 10); whole = Some e }
      ∷ plain (ops.Flush (on_dp 11))
      ∷ []
  pub sync_of_both : index_jobs (blocks_of_size 4096) (space_at 5 7 true) (5 ∷ []) e
      ≡ plain (ops.Flush (on_ip 5))
      ∷ plain (ops.Mark (on_dp 7))
      ∷ plain (ops.Put (on_dp 8) (5 ∷ []))
      ∷ record { op = ops.Mark (on_dp 9); whole = Some e }
      ∷ plain (ops.Flush (on_dp 10))
      ∷ []
  pub close : close_jobs (blocks_of_size 4096) (space_at 5 10 false) (5 ∷ [])
      ≡ plain (ops.Mark (on_ip 5))
      ∷ plain (ops.Put (on_ip 6) (5 ∷ []))
      ∷ plain (ops.Mark (on_ip 7))
      ∷ plain (ops.Flush (on_ip 8))
      ∷ []

-- a block on the index partition, flushed there, and then an index of both
abbrev pub synced : CoveredIndex → CoveredIndex → Made
synced first second =
    after (mounted first None) (put_on_ip ++ index_jobs (blocks_of_size 4096) (space_at 5 7 false) (5 ∷ []) second)

-- a close behind it
abbrev pub closing : CoveredIndex → CoveredIndex → ℕ → Made
closing first second n =
    so_far (synced first second) (close_jobs (blocks_of_size 4096) (space_at 5 10 false) (7 ∷ [])) n

-- the index of the close, behind the block
abbrev pub closing_index : Construct
closing_index = record { mark = 5; blocks = (7 ∷ []) ∷ [] }

-- What a close makes: the index partition has its index with the last mark alone, torn or not, and its data end at 5
-- all along; the data partition stays, and no more is covered.
pub record TellsClose (first second : CoveredIndex) : Type 0 where
  pub before : (closing first second 0).base.sure ≡ 5
  pub opened : indexes_of (closing first second 1).ip ≡ []
  pub filled : indexes_of (closing first second 2).ip ≡ []
  pub torn : indexes_of ((closing first second 2).ip ++ Torn ∷ []) ≡ []
  pub torn_end : end_ip (content ((closing first second 2).ip ++ Torn ∷ [])) ≡ 5
  pub whole : indexes_of (closing first second 3).ip ≡ closing_index ∷ []
  pub whole_end : end_ip (content (closing first second 3).ip) ≡ 5
  pub items : (closing first second 4).ip ≡ labels ++ block 6 ∷ Mark ∷ block 7 ∷ Mark ∷ []
  pub sure : (closing first second 4).base.sure ≡ 5
  pub data_partition : (closing first second 4).dp ≡ (synced first second).dp
  pub covered : least (closing first second 4).base ≡ second.place
  pub generation : newest (closing first second 4).base ≡ second.index.generation
