use Rattle.std.proofs.Common.{◌∙◌, sym, ap, Ok}
use Rattle.ltfs_documents.proofs.DocFields.SimpleTexts.{simple_text}
use Rattle.ltfs_documents.proofs.doc_fields.texts.resolve.Goals as goal

pub returns-then-all_simple : goal.returns-then-all_simple
returns-then-all_simple c =
    simple_text c.args.cut c.args.at c.args.text.now c.utf8.text (sym c.if-all_simple.ensures) ∙ ap Ok (sym (c.from_string.ensures ∙ c.in_ok-from_str.ensures.ok))
