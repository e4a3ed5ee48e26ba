-- An end tag: `</`, the element's name, white space or none, `>`.
use Rattle.std.specs.Prelude.{ℕ, List}
use Rattle.ltfs_documents.specs.declared.doc_fields.tags.Tag.{Tag}
use Rattle.ltfs_documents.specs.DocFields.Space.{space_end}
use Rattle.ltfs_documents.specs.DocFields.Tags.{spelled}
use Rattle.ltfs_documents.specs.DocFields.Reading.{◌>>=◌, Read, one_at, literal_at}

unfoldable pub end_at : List ℕ → ℕ → Tag → Read ℕ
end_at text at tag = do
  slash ← one_at 60 text at
  name ← one_at 47 text slash
  end ← literal_at (spelled tag) text name
  one_at 62 text (space_end text end)
