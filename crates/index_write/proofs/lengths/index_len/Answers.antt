use Rattle.std.proofs.Common.{List, ◌∙◌, ap, map, sum}
use Rattle.index_model.specs.declared.nodes.Node.{Node}
use Rattle.index_model.specs.Canonical.{volume_text}
use Rattle.index_model.specs.Values.{NodeValue, VolumeFacts}
use Rattle.index_write.specs.Sizes.{bounded, node_length, nodes_sum, size}
use Rattle.index_write.proofs.SizeLemmas.{document_total}
use Rattle.index_write.proofs.lengths.index_len.Goals as goal

pub returns : goal.returns
returns c = λ v tells.
    let volume = c.volume_len.ensures ∙ ap (λ (f : VolumeFacts). size (volume_text f)) tells.volume in
    let nodes = c.nodes_len.ensures ∙ ap (λ (ns : List Node). bounded (nodes_sum ns)) c.as_slice.ensures ∙ ap (λ (ns : List NodeValue). bounded (sum (map node_length ns))) tells.nodes in
    document_total v _ _ _ volume nodes c.total.ensures
