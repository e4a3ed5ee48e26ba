use Rattle.std.proofs.Common.{sym, ap, ◌∙◌}
use Rattle.std.specs.Option.{option_copied}
use Rattle.plain_tree.specs.Links.{child}
use Rattle.plain_tree.proofs.LinkLemmas.{walk_more}
use Rattle.plain_tree.proofs.links.Links.walk.Goals as goal

pub returns-in-None-clause-missing : goal.returns-in-None-clause-missing
returns-in-None-clause-missing c = record {
  names = c.loop-name.name-index;
  shorter = c.loop-name-test.true;
  there = c.loop-name.invariant;
  missing = walk_more (child c.args.self.now) _ c.args.path.now c.loop-name.name-index c.name-item.result _ c.loop-name-test.true c.name-item.is c.loop-name.invariant ∙ sym c.get.ensures ∙ ap option_copied c.in-None.is;
}

pub loop-name-preserved : goal.loop-name-preserved
loop-name-preserved c =
    walk_more (child c.args.self.now) _ c.args.path.now c.loop-name.name-index c.name-item.result _ c.loop-name-test.true c.name-item.is c.loop-name.invariant
    ∙ sym c.get.ensures ∙ ap option_copied c.in-Some.is
