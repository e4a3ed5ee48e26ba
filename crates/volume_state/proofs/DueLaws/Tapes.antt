-- That what is held goes by the blocks of the tree.
use Rattle.std.proofs.Common.{Bool, sym, ◌∙◌}
use Rattle.extent_map.specs.Blocks.{AreAlikeIn}
use Rattle.extent_map.specs.Cells.{Tape}
use Rattle.file_tree.specs.Blocks.{TreeStandsIn}
use Rattle.file_tree.proofs.BlockLemmas.{blocks_make_the_tree}
use Rattle.space_laws.specs.Standing.{Given, Standing}
use Rattle.held_volume.specs.Stocks.{IsStock, Stocked}
use Rattle.volume_state.specs.DueLaws.Laws.{StocksGoByTheTape}

by_blocks : (one other : Tape) (g : Given) (on : Bool) (st : Standing) (s : Stocked)
    → AreAlikeIn (TreeStandsIn s.tree) one other → IsStock one g on st s → IsStock other g on st s
by_blocks one other g on st s alike i = record {
  plain = sym (blocks_make_the_tree one other s.tree alike) ∙ i.plain;
  files = i.files;
  layout = i.layout;
  frame = i.frame;
  name = i.name;
  block_size = i.block_size;
  below = i.below;
}

-- what is held for one tape is held for another with the same bytes in its blocks
pub go_by_the_tape : StocksGoByTheTape
go_by_the_tape = record {
  everywhere = λ one other g on st s same i. by_blocks one other g on st s (λ part pos byte h. same part pos byte) i;
  below = λ one other g on st s agree i.
      by_blocks one other g on st s (λ part pos byte h. agree part pos byte (i.below part pos h)) i;
  blocks = by_blocks;
}
