use Rattle.std.proofs.Common.{◌∙◌, Some}
use Rattle.std.proofs.lemmas.List.{length-set}
use Rattle.file_tree.specs.declared.nodes.Spot.{Spot}
use Rattle.file_tree.proofs.PlaceLemmas.{held_or, held_within, set_kept, used_same}
use Rattle.file_tree.proofs.spots.reserve_spot.Goals as goal

pub returns-clause-changed : goal.returns-clause-changed
returns-clause-changed c =
    let spots = c.args.spots.now.items in
    let lt = held_within spots c.args.number c.requires in
    let new : Spot = record { parent = c.in-Some.spot.parent; name = c.in-Some.spot.name; node = c.reserve_node.new.node } in
    let was = held_or spots c.args.number c.index_mut.result.now lt c.index_mut.ensures.value ∙ c.in-Some.is in
    record {
      old = c.in-Some.spot;
      new = c.reserve_node.new.node;
      was = was;
      changed = (c.reserve_node.ensures.same, c.reserve_node.ensures.room);
      same = c.reserve_node.ensures.number;
      kept = set_kept spots c.args.number (Some new) lt;
      filled = used_same spots c.args.number c.in-Some.spot new was;
      long = length-set spots c.args.number (Some new);
    }
