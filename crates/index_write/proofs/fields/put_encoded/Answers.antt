use Rattle.std.proofs.Common.{rules, ◌≡◌, ◌++◌, ◌∙◌, List, ℕ, [], sym, ap, append-nil}
use Rattle.percent_encoding.specs.Iter.{encoded_text}
use Rattle.percent_encoding.specs.Percent.{percent_encode}
use Rattle.ltfs_documents.specs.DocFields.Written.{escape}
use Rattle.ltfs_documents.proofs.LtfsText.Texts.{encodes_as}
use Rattle.ltfs_documents.specs.declared.ltfs_text.names.TheConstants.{ESCAPED}
use Rattle.index_write.proofs.fields.put_encoded.Goals as goal

pub loop-piece-init : goal.loop-piece-init
loop-piece-init c =
    let pieces : encoded_text c.into_iter-piece-iterator.result ≡ percent_encode ESCAPED c.args.text.now = search rules in
    (ap (λ (s : List ℕ). c.args.out.now.items ++ escape s) (pieces ∙ encodes_as c.args.text.now), ([], sym (append-nil c.args.out.now.items)))
