-- What a draft of an index stands for.
use Rattle.std.specs.Prelude.{map}
use Rattle.index_model.specs.Values.{value_of, volume_of}
use Rattle.index_read.specs.declared.drafts.Draft.{Draft}
use Rattle.index_read.specs.Told.{State}

abbrev pub state_of : Draft → State
state_of d = record {
  volume = volume_of d.index;
  nodes = map value_of d.nodes.items;
  extent = d.extent;
  xattr = d.xattr;
}
