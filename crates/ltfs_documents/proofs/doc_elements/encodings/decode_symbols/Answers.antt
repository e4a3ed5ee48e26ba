use Rattle.std.proofs.Common.{sym, subst}
use Rattle.base64.specs.Engines.{standard}
use Rattle.base64.specs.GeneralPurpose.{IsDecodeFailure}
use Rattle.base64.proofs.Streams.{decoded_of-ok}
use Rattle.ltfs_documents.proofs.DocElements.Base64Blocks.{decoded_none}
use Rattle.ltfs_documents.proofs.doc_elements.encodings.decode_symbols.Goals as goal

pub returns-in-Ok-clause-value : goal.returns-in-Ok-clause-value
returns-in-Ok-clause-value c = sym (decoded_of-ok standard c.args.symbols.now c.in-Ok.bytes.items c.in-Ok.ensures.ok)

pub returns-in-Err-DecodeError-clause-value : goal.returns-in-Err-DecodeError-clause-value
returns-in-Err-DecodeError-clause-value c =
    let failed = subst (IsDecodeFailure standard c.args.symbols.now) c.in-Err-DecodeError.field-0-is c.in-Err-DecodeError.ensures.err in
    sym (decoded_none c.args.symbols.now c.in-Err-DecodeError.field-0-0 failed)
