use Rattle.std.proofs.Common.{◌≡◌, ◌∙◌, ℕ, List, Option, IfOk, ap, subst}
use Rattle.std.specs.Option.{option_map}
use Rattle.ltfs_documents.specs.DocElements.Blocks.{behind}
use Rattle.ltfs_documents.proofs.DocElements.Base64Blocks.{decodes_all, decodes_none}
use Rattle.ltfs_documents.proofs.doc_elements.encodings.decode.Goals as goal

pub returns-then-not-branch : goal.returns-then-not-branch
returns-then-not-branch c =
    decodes_none c.args.text.now c.in_ok-out.out.items c.in_ok-block.block.items c.take_bytes.new.out.items c.take_bytes.new.block.items c.in_ok-take_bytes.field-0 c.in_ok-out.ensures.items c.in_ok-block.ensures.items
    (c.in_ok-take_bytes.ensures {u = tt}) c.if-not-branch.true

pub returns : goal.returns
returns c =
    let all = decodes_all c.args.text.now c.in_ok-out.out.items c.in_ok-block.block.items c.take_bytes.new.out.items c.take_bytes.new.block.items c.in_ok-take_bytes.field-0 c.in_ok-out.ensures.items c.in_ok-block.ensures.items
    (c.in_ok-take_bytes.ensures {u = tt}) c.if-not-branch.false in
    subst (λ (o : Option (List ℕ)). IfOk c.take_last.result (λ v. option_map (λ b. b.items) v ≡ o)) (ap (behind c.take_bytes.new.out.items) c.as_slice.ensures.value ∙ all) c.take_last.ensures
