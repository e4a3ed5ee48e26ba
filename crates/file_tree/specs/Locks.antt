-- The lock state of a volume, and what an index tells of it (LTFS 2.4 on the lock state).
use Rattle.std.specs.Prelude.{Option, Some, None}
use Rattle.ltfs_documents.specs.declared.doc_fields.values.LockState as told
use Rattle.ltfs_documents.specs.declared.doc_fields.values.LockState.TheVariants as words
use Rattle.plain_tree.specs.declared.calls.LockState.{LockState}
use Rattle.plain_tree.specs.declared.calls.LockState.TheVariants as locks

-- the state that an index tells by its word, or by none
abbrev pub lock_of : Option told.LockState → LockState
lock_of None = locks.Absent
lock_of (Some words.Unlocked) = locks.Unlocked
lock_of (Some words.Locked) = locks.Locked
lock_of (Some words.PermLocked) = locks.PermLocked

-- the word that tells a state, where one does
abbrev pub told_lock : LockState → Option told.LockState
told_lock locks.Absent = None
told_lock locks.Unlocked = Some words.Unlocked
told_lock locks.Locked = Some words.Locked
told_lock locks.PermLocked = Some words.PermLocked
