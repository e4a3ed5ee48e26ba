use Rattle.std.proofs.Common.{List, ℕ, ◌∙◌, ap}
use Rattle.ltfs_documents.specs.DocFields.Written.{escape}
use Rattle.index_write.specs.Sizes.{size}
use Rattle.index_model.specs.Values.{volume_of}
use Rattle.index_write.proofs.SizeLemmas.{front_total}
use Rattle.index_write.proofs.lengths.front_len.Goals as goal

pub returns : goal.returns
returns c =
    let creator = c.escape_len.ensures ∙ ap (λ (x : List ℕ). size (escape x)) (c.as_bytes.ensures.value ∙ c.as_str.ensures) in
    front_total (volume_of c.args.index.now) _ _ _ _ creator c.comment_len.ensures c.digits_len.ensures c.total.ensures
