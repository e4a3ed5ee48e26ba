use Rattle.std.proofs.Common.{length, inr, refl, sym, ap, ◌∙◌}
use Rattle.std.proofs.lemmas.Option.{slice_get_read}
use Rattle.std.specs.Cmp.Lexicographic.{slice_cmp}
use Rattle.std.specs.Ordering.{is_lt, nat_cmp}
use Rattle.index_model.proofs.IndexFaults.RisingNames.{less_from_test}
use Rattle.index_model.proofs.index_faults.names.follows.Goals as goal

pub returns : goal.returns
returns c is =
    inr record {
      node = c.index-nodes-latest.result;
      is = slice_get_read c.args.nodes.now (length c.args.nodes.now) c.args.latest c.index-nodes-latest.result refl c.requires c.index-nodes-latest.is;
      less = less_from_test (slice_cmp nat_cmp c.index-nodes-latest.result.name c.args.node.now.name) (ap (λ n. is_lt (slice_cmp nat_cmp n.name c.args.node.now.name)) c.index-nodes-latest.is ∙ sym c.lt.ensures ∙ is);
    }
