use Rattle.std.proofs.Common.{◌∙◌}
use Rattle.index_model.proofs.Cuts.{piece}
use Rattle.index_model.proofs.text_list.TextList.get.Goals as goal

pub text_between-requires-clause-ordered : goal.text_between-requires-clause-ordered
text_between-requires-clause-ordered c = (piece c.self.inside.ends.items c.self.inside.bytes.items _ _ _ c.args.at _ _ _ c.self.invariant c.self.view_is c.as_slice.ensures.value c.as_slice-2.ensures.value c.requires c.start-from.ensures c.index.ensures).ordered

pub text_between-requires-clause-inside : goal.text_between-requires-clause-inside
text_between-requires-clause-inside c = (piece c.self.inside.ends.items c.self.inside.bytes.items _ _ _ c.args.at _ _ _ c.self.invariant c.self.view_is c.as_slice.ensures.value c.as_slice-2.ensures.value c.requires c.start-from.ensures c.index.ensures).inside

pub text_between-requires-clause-text : goal.text_between-requires-clause-text
text_between-requires-clause-text c = (piece c.self.inside.ends.items c.self.inside.bytes.items _ _ _ c.args.at _ _ _ c.self.invariant c.self.view_is c.as_slice.ensures.value c.as_slice-2.ensures.value c.requires c.start-from.ensures c.index.ensures).text

pub returns : goal.returns
returns c = c.text_between.ensures ∙ (piece c.self.inside.ends.items c.self.inside.bytes.items _ _ _ c.args.at _ _ _ c.self.invariant c.self.view_is c.as_slice.ensures.value c.as_slice-2.ensures.value c.requires c.start-from.ensures c.index.ensures).is
