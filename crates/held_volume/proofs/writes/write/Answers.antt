use Rattle.plain_tree.specs.declared.calls.Call.TheVariants as asks
use Rattle.std.proofs.Common.{◌∙◌}
use Rattle.file_tree.specs.Tree.{plain_of, whole}
use Rattle.held_volume.proofs.Asks.{unlocked_refusal}
use Rattle.held_volume.specs.Stocks.{stocked}
use Rattle.held_volume.proofs.Stands.{refused_too, write_not, write_told}
use Rattle.held_volume.proofs.writes.write.Goals as goal

pub returns-in-Err-clause-applied : goal.returns-in-Err-clause-applied
returns-in-Err-clause-applied c early g on st i =
    refused_too early c.args.tree.now st.tree (asks.Write c.args.path.now c.args.offset c.args.bytes.now) c.in-Err.refusal i.plain
    (unlocked_refusal (plain_of whole c.args.tree.now) (asks.Write c.args.path.now c.args.offset c.args.bytes.now) c.requires ∙ c.in-Err.ensures {u = tt})

pub returns-in-Ok-write_at-clause-applied : goal.returns-in-Ok-write_at-clause-applied
returns-in-Ok-write_at-clause-applied c early g on st i =
    write_told early g on st (asks.Write c.args.path.now c.args.offset c.args.bytes.now) c.args.at
    (stocked c.args.tree.now c.args.layout.now c.args.frame.now) (stocked c.write_at.new.tree c.write_at.new.layout c.write_at.new.frame)
    (unlocked_refusal (plain_of whole c.args.tree.now) (asks.Write c.args.path.now c.args.offset c.args.bytes.now) c.requires ∙ (c.in-Ok.ensures {u = tt}).0) (c.in-Ok-write_at.ensures.applied early g on st i)

pub returns-in-Err-write_at-clause-applied : goal.returns-in-Err-write_at-clause-applied
returns-in-Err-write_at-clause-applied c early g on st i =
    write_not early g on st (asks.Write c.args.path.now c.args.offset c.args.bytes.now) c.args.at
    (stocked c.args.tree.now c.args.layout.now c.args.frame.now) (stocked c.write_at.new.tree c.write_at.new.layout c.write_at.new.frame)
    c.in-Err-write_at.e (unlocked_refusal (plain_of whole c.args.tree.now) (asks.Write c.args.path.now c.args.offset c.args.bytes.now) c.requires ∙ (c.in-Ok.ensures {u = tt}).0) (c.in-Err-write_at.ensures.applied early g on st i)

pub write_at-requires-clause-free : goal.write_at-requires-clause-free
write_at-requires-clause-free c = unlocked_refusal (plain_of whole c.args.tree.now) (asks.Write c.args.path.now c.args.offset c.args.bytes.now) c.requires ∙ (c.in-Ok.ensures {u = tt}).0
