-- How a refusal is told: its kind, and the place, the element or the UID that it has.
use Rattle.std.specs.Prelude.{ℕ, List, ◌++◌, codes, decimal}
use Rattle.ltfs_documents.specs.DocFields.Tags.{spelled}
use Rattle.index_model.specs.declared.errors.IndexErr.{IndexErr}
use Rattle.index_model.specs.declared.errors.IndexErr.TheVariants as errors

abbrev pub refusal_text : IndexErr → List ℕ
refusal_text (errors.Syntax at) = codes "Syntax " ++ decimal at
refusal_text (errors.Unknown at) = codes "Unknown " ++ decimal at
refusal_text (errors.Twice at) = codes "Twice " ++ decimal at
refusal_text errors.Version = codes "Version"
refusal_text (errors.Missing tag) = codes "Missing " ++ spelled tag
refusal_text (errors.Number at) = codes "Number " ++ decimal at
refusal_text (errors.Name at) = codes "Name " ++ decimal at
refusal_text errors.TooMany = codes "TooMany"
refusal_text (errors.Uid uid) = codes "Uid " ++ decimal uid
refusal_text (errors.SameName uid) = codes "SameName " ++ decimal uid
refusal_text (errors.SameKey uid) = codes "SameKey " ++ decimal uid
refusal_text (errors.Extent uid) = codes "Extent " ++ decimal uid
refusal_text (errors.Overlap uid) = codes "Overlap " ++ decimal uid
refusal_text errors.NoMemory = codes "NoMemory"
