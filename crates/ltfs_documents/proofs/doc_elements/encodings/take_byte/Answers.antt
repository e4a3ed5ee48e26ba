use Rattle.std.proofs.Common.{◌≡◌, false, rules}
use Rattle.ltfs_documents.specs.DocFields.Space.{is_space}
use Rattle.ltfs_documents.proofs.DocElements.Base64Blocks.{Takes, TakesSymbol, symbol_taken, if_ok}
use Rattle.ltfs_documents.proofs.doc_elements.encodings.take_byte.Goals as goal

pub returns-then-len-eq1024 : goal.returns-then-len-eq1024
returns-then-len-eq1024 c =
    let out = c.args.out.now.items in
    let block = c.args.block.now.items in
    let next = c.take_block.new.out.items in
    let more = c.take_block.new.block.items in
    let other : is_space c.args.byte ≡ false = search rules in
    if_ok c.take_block.result (TakesSymbol out block c.args.byte next more) (Takes out block c.args.byte next more) (symbol_taken out block c.args.byte next more other) c.take_block.ensures
