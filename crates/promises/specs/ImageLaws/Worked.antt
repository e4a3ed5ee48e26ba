-- A small volume with one index, on which the definitions are tried.
use Rattle.std.specs.Prelude.{ℕ, List, [], ◌∷◌, ◌++◌, take, Option, Some, None}
use Rattle.tape_types.specs.declared.cartridges.Item.{Item}
use Rattle.tape_types.specs.declared.cartridges.Part.{Part}
use Rattle.tape_types.specs.declared.cartridges.Part.TheVariants.{Ip, Dp}
use Rattle.tape_types.specs.declared.cartridges.Place.{Place}
use Rattle.index_model.specs.declared.indexes.Index.{Index}
use Rattle.content_laws.specs.Worked.{empty_dp, first_index, labels}
use Rattle.tape_layout.specs.declared.ops.Op.TheVariants as ops
use Rattle.promises.specs.ImageLaws.Made.{Base, CoveredIndex, Job, Made, after, least, plain}

-- an index of this generation that covers so many placements
abbrev pub entry : Index → (generation place : ℕ) → CoveredIndex
entry index generation place = record { index = record index { generation = generation }; place = place }

-- labels, and one index on the data partition; there may be a newer one on the index partition
abbrev pub mounted : CoveredIndex → Option CoveredIndex → Made
mounted first ahead = record {
  ip = labels;
  dp = empty_dp;
  last = first;
  base = record { sure = 4; indexes = first_index ∷ []; floor = first; ahead = ahead };
}

abbrev pub on_ip : ℕ → Place
on_ip pos = record { part = Ip; pos = pos }

abbrev pub on_dp : ℕ → Place
on_dp pos = record { part = Dp; pos = pos }

-- a block of data, and an index that covers it
abbrev pub write_and_sync : CoveredIndex → List Job
write_and_sync second =
    plain (ops.Put (on_dp 7) (4 ∷ []))
    ∷ plain (ops.Mark (on_dp 8))
    ∷ plain (ops.Put (on_dp 9) (5 ∷ []))
    ∷ record { op = ops.Mark (on_dp 10); whole = Some second }
    ∷ plain (ops.Flush (on_dp 11))
    ∷ []

-- once that is done, another block, and another index
abbrev pub write_again : CoveredIndex → CoveredIndex → List Job
write_again second third =
    write_and_sync second
    ++ plain (ops.Put (on_dp 11) (6 ∷ []))
    ∷ plain (ops.Mark (on_dp 12))
    ∷ plain (ops.Put (on_dp 13) (7 ∷ []))
    ∷ record { op = ops.Mark (on_dp 14); whole = Some third }
    ∷ plain (ops.Flush (on_dp 15))
    ∷ []

-- the same, where the block goes to the index partition and is flushed there first
abbrev pub put_on_ip : List Job
put_on_ip = plain (ops.Put (on_ip 4) (6 ∷ [])) ∷ plain (ops.Flush (on_ip 5)) ∷ []

-- what stands once the first of these jobs are done
abbrev pub so_far : Made → List Job → ℕ → Made
so_far s jobs n = after s (take n jobs)

-- how many placements are covered then, whatever a crash leaves
abbrev pub covered : Made → List Job → ℕ → ℕ
covered s jobs n = least (so_far s jobs n).base
