use Rattle.std.proofs.Common.{rules}
use Rattle.std.proofs.lemmas.Str.{IsUtf8-string_bytes}
use Rattle.ltfs_documents.proofs.ltfs_text.names.read_name.Goals as goal

pub returns-in-Ok : goal.returns-in-Ok
returns-in-Ok c = rw c.from_string-in-Ok.ensures record { bytes = search rules; utf8 = IsUtf8-string_bytes c.in-Ok.name }
