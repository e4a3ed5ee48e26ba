-- What the definitions say of a small volume.
use Rattle.std.specs.Prelude.{ℕ, ◌≡◌, List, [], ◌∷◌, ◌++◌, Option, Some, None}
use Rattle.tape_types.specs.declared.cartridges.Item.TheVariants.{Mark, Torn}
use Rattle.index_model.specs.declared.indexes.Index.{Index}
use Rattle.content_laws.specs.Content.{content}
use Rattle.content_laws.specs.Ends.{end_dp, end_ip}
use Rattle.content_laws.specs.Worked.{block, first_index, labels, second_index, synced_dp}
use Rattle.tape_layout.specs.declared.ops.Op.TheVariants as ops
use Rattle.cartridge_meaning.specs.Pointers.{indexes_of}
use Rattle.promises.specs.ImageLaws.Images.{IsNext}
use Rattle.promises.specs.ImageLaws.Made.{CoveredIndex, Made, after}
use Rattle.promises.specs.ImageLaws.Worked.{covered, entry, mounted, on_dp, on_ip, put_on_ip, so_far, write_again}
use Rattle.promises.specs.ImageLaws.Worked.{write_and_sync}

-- which indexes an image of the data partition has: up to the last mark the first alone, torn or not
pub record TellsImages (s : Made) (second : CoveredIndex) : Type 0 where
  pub at_first : indexes_of s.dp ≡ first_index ∷ []
  pub in_data : indexes_of (so_far s (write_and_sync second) 1).dp ≡ first_index ∷ []
  pub begun : indexes_of (so_far s (write_and_sync second) 2).dp ≡ first_index ∷ []
  pub in_index : indexes_of (so_far s (write_and_sync second) 3).dp ≡ first_index ∷ []
  pub torn : indexes_of ((so_far s (write_and_sync second) 3).dp ++ Torn ∷ []) ≡ first_index ∷ []
  pub whole : indexes_of (so_far s (write_and_sync second) 4).dp ≡ second_index ∷ first_index ∷ []
  pub flushed : (so_far s (write_and_sync second) 5).dp ≡ synced_dp

-- how many placements each image covers: those of the first index, until the second is flushed
pub record TellsCovered (s : Made) (first second : CoveredIndex) : Type 0 where
  pub at_first : covered s (write_and_sync second) 0 ≡ first.place
  pub in_data : covered s (write_and_sync second) 1 ≡ first.place
  pub whole : covered s (write_and_sync second) 4 ≡ first.place
  pub flushed : covered s (write_and_sync second) 5 ≡ second.place
  pub last : (so_far s (write_and_sync second) 4).last ≡ second

-- after a sync each image has its index, and covers what it covers, until the next index is whole, and is flushed
pub record TellsLater (s : Made) (second third : CoveredIndex) : Type 0 where
  pub in_data : indexes_of (so_far s (write_again second third) 6).dp ≡ second_index ∷ first_index ∷ []
  pub torn : indexes_of ((so_far s (write_again second third) 6).dp ++ Torn ∷ []) ≡ second_index ∷ first_index ∷ []
  pub in_index : indexes_of (so_far s (write_again second third) 8).dp ≡ second_index ∷ first_index ∷ []
  pub whole : indexes_of (so_far s (write_again second third) 9).dp
      ≡ record { mark = 12; blocks = (7 ∷ []) ∷ [] } ∷ second_index ∷ first_index ∷ []
  pub covered_before : covered s (write_again second third) 9 ≡ second.place
  pub covered_then : covered s (write_again second third) 10 ≡ third.place

-- a block of data that looks like an index is none: the mark behind it opens one
pub record TellsRoles (s : Made) : Type 0 where
  pub like_an_index : indexes_of (s.dp ++ block 3 ∷ Mark ∷ []) ≡ first_index ∷ []
  pub end : end_dp (indexes_of (s.dp ++ block 3 ∷ Mark ∷ [])) ≡ 7

-- which ops may come next: those at the ends, and on the index partition only where no index there is ahead
pub record TellsNext (on off : Made) : Type 0 where
  pub at_end : IsNext (ops.Put (on_dp 7) (4 ∷ [])) on
  pub too_early : ¬ IsNext (ops.Put (on_dp 6) (4 ∷ [])) on
  pub too_late : ¬ IsNext (ops.Mark (on_dp 8)) on
  pub data_on_ip : IsNext (ops.Put (on_ip 4) (6 ∷ [])) on
  pub over_ahead : ¬ IsNext (ops.Put (on_ip 4) (6 ∷ [])) off
  pub dp_anyway : IsNext (ops.Put (on_dp 7) (4 ∷ [])) off

-- what is flushed of the index partition's data, and what a cut off close leaves of it
pub record TellsIp (s : Made) : Type 0 where
  pub put : (so_far s put_on_ip 1).base.sure ≡ 4
  pub flushed : (so_far s put_on_ip 2).base.sure ≡ 5
  pub no_index : indexes_of (labels ++ block 6 ∷ Mark ∷ Torn ∷ []) ≡ []
  pub end : end_ip (content (labels ++ block 6 ∷ Mark ∷ Torn ∷ [])) ≡ 5

-- the index of the index partition stays ahead until a newer one is flushed
pub record TellsAhead (index : Index) : Type 0 where
  pub stays :
      (so_far (mounted (entry index 1 0) (Some (entry index 2 0))) (write_and_sync (entry index 3 2)) 4).base.ahead
      ≡ Some (entry index 2 0)
  pub passed :
      (so_far (mounted (entry index 1 0) (Some (entry index 2 0))) (write_and_sync (entry index 3 2)) 5).base.ahead
      ≡ None
  pub older :
      (so_far (mounted (entry index 1 0) (Some (entry index 2 0))) (write_and_sync (entry index 2 2)) 5).base.ahead
      ≡ Some (entry index 2 0)
