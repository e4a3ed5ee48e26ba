use Rattle.std.proofs.Common.{◌≡◌, ◌++◌, take}
use Rattle.std.specs.List.{flat_map}
use Rattle.ltfs_documents.specs.DocFields.Written.{Keeps}
use Rattle.index_model.specs.Canonical.{xattr}
use Rattle.index_write.proofs.attributes.put_xattrs.Given as goal

abbrev pub invariant-loop-xattr : goal.invariant-loop-xattr
invariant-loop-xattr l = (l.out.items ≡ l.fn.out.items ++ flat_map xattr (take l.xattr-index l.xattrs)) × Keeps l.fn.out.items l.out.items
