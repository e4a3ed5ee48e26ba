-- Worked rows of calls with attributes, read-only nodes and locks.
use Rattle.std.specs.Prelude.{◌≡◌, ℕ, List, [], ◌∷◌, true, false, codes, ◌^◌, ◌+◌, None}
use Rattle.tape_types.specs.declared.moments.Moment.{Moment}
use Rattle.plain_tree.specs.declared.nodes.Kind.TheVariants as kinds
use Rattle.plain_tree.specs.declared.calls.Answer.{Answer}
use Rattle.plain_tree.specs.declared.calls.Answer.TheVariants.{Done, Synced, Got, Refused}
use Rattle.plain_tree.specs.declared.calls.Call.{Call}
use Rattle.plain_tree.specs.declared.calls.Call.TheVariants.{Create, Mkdir, Write, Truncate, Read, Listing, Stat, Rename, Remove}
use Rattle.plain_tree.specs.declared.calls.Call.TheVariants.{Setx, Getx, Dropx, Readonly, LockVolume, UnlockVolume, PermLock, Sync}
use Rattle.plain_tree.specs.declared.calls.LockState.TheVariants as locks
use Rattle.plain_tree.specs.declared.calls.Refusal.TheVariants.{BadKey, NoKey, NotFound, NotDir, Locked, ReadOnly, TooLong}
use Rattle.plain_tree.specs.Paths.{Path}
use Rattle.plain_tree.specs.Refusals.{bad_name}
use Rattle.plain_tree.specs.Tree.{Tree, empty_tree}
use Rattle.plain_tree.specs.Calls.{after, answer, with_new}

-- what calls are answered one after the other, all of one moment
abbrev pub answers : Tree → List Call → Moment → List Answer
answers t [] at = []
answers t (call ∷ calls) at = answer t call ∷ answers (after t call at) calls at

abbrev pub a : Path
a = codes "a" ∷ []

abbrev pub b : Path
b = codes "b" ∷ []

-- a volume with the file `/a`
abbrev pub with_a : Moment → Tree
with_a at = with_new (kinds.File []) (empty_tree at) a at

pub record WorkedRows (at : Moment) : Type 0 where
  -- attributes: bytes are read as they were set, one that was dropped isn't there, and none is set where nothing stands
  pub made : bad_name a ≡ None → answers (empty_tree at) (Create a ∷ Setx b (codes "k") [] ∷ []) at
      ≡ Done ∷ Refused NotFound ∷ []
  pub note_set : answers (with_a at)
      (Setx a (codes "user.note") (codes "hi") ∷ Getx a (codes "user.note") ∷ Getx a (codes "user.bin") ∷ []) at
      ≡ Done ∷ Got (104 ∷ 105 ∷ []) ∷ Refused NoKey ∷ []
  pub bin_set : answers (with_a at) (Setx a (codes "user.bin") (0 ∷ 255 ∷ []) ∷ Getx a (codes "user.bin") ∷ []) at
      ≡ Done ∷ Got (0 ∷ 255 ∷ []) ∷ []
  pub dropped : answers (with_a at)
      (Setx a (codes "k") (codes "hi") ∷ Dropx a (codes "k") ∷ Getx a (codes "k") ∷ []) at
      ≡ Done ∷ Done ∷ Refused NoKey ∷ []
  pub bad_keys : answers (with_a at)
      (Setx b (0 ∷ []) [] ∷ Setx a [] [] ∷ Getx a (0 ∷ []) ∷ Getx b (0 ∷ [])
      ∷ Setx (codes "a" ∷ codes "x" ∷ []) (codes "k") [] ∷ []) at
      ≡ Refused BadKey ∷ Refused BadKey ∷ Refused NoKey ∷ Refused NotFound ∷ Refused NotDir ∷ []
  -- a key may be what no name is
  pub any_keys : answers (with_a at)
      (Setx a (codes "a/b") (codes "x") ∷ Setx a (codes "..") [] ∷ Getx a (codes "a/b") ∷ Getx a (codes "..") ∷ []) at
      ≡ Done ∷ Done ∷ Got (codes "x") ∷ Got [] ∷ []
  -- a lock that is taken away
  pub locks : bad_name a ≡ None → answers (empty_tree at) (LockVolume ∷ Mkdir a ∷ UnlockVolume ∷ Mkdir a ∷ []) at
      ≡ Done ∷ Refused Locked ∷ Done ∷ Done ∷ []
  -- one that isn't, over a read-only file
  pub guarded : answers (with_a at) (Readonly a true ∷ Write a 0 (codes "x") ∷ []) at ≡ Done ∷ Refused ReadOnly ∷ []
  pub for_ever : answers (with_a at) (PermLock ∷ UnlockVolume ∷ Read a 0 1 ∷ Sync ∷ []) at
      ≡ Done ∷ Refused Locked ∷ Got [] ∷ Synced ∷ []
  pub sealed : answers (empty_tree at) (PermLock ∷ UnlockVolume ∷ LockVolume ∷ PermLock ∷ Mkdir b ∷ Sync ∷ []) at
      ≡ Done ∷ Refused Locked ∷ Refused Locked ∷ Refused Locked ∷ Refused Locked ∷ Synced ∷ []
  -- the lock stands before all else
  pub locked_first : answers (after (with_a at) LockVolume at)
      (Rename [] [] ∷ Remove [] ∷ Setx b [] [] ∷ Write a 0 [] ∷ Truncate a 0 ∷ Readonly a false ∷ Dropx b []
      ∷ Read a 0 1 ∷ []) at
      ≡ Refused Locked ∷ Refused Locked ∷ Refused Locked ∷ Refused Locked ∷ Refused Locked ∷ Refused Locked
      ∷ Refused Locked ∷ Got [] ∷ []
  -- what is seen is answered under a lock as without one
  pub seen_locked : answers (after (with_a at) LockVolume at) (Getx a (codes "k") ∷ Listing b ∷ Stat b ∷ []) at
      ≡ Refused NoKey ∷ Refused NotFound ∷ Refused NotFound ∷ []
  -- the flag stands behind what is no file and before a length that is too great, also where nothing would change
  pub of_write : answers (with_a at) (Readonly a true ∷ Write a 0 [] ∷ []) at ≡ Done ∷ Refused ReadOnly ∷ []
  pub of_truncate : answers (with_a at) (Readonly a true ∷ Truncate a (2 ^ 40 + 1) ∷ []) at
      ≡ Done ∷ Refused ReadOnly ∷ []
  pub too_long : answers (with_a at) (Readonly a false ∷ Truncate a (2 ^ 40 + 1) ∷ []) at ≡ Done ∷ Refused TooLong ∷ []
  pub of_setx : answers (with_a at) (Readonly a true ∷ Setx a (codes "k") [] ∷ []) at ≡ Done ∷ Refused ReadOnly ∷ []
  pub of_dropx : answers (with_a at) (Readonly a true ∷ Dropx a (codes "k") ∷ []) at ≡ Done ∷ Refused NoKey ∷ []
  pub not_below : answers (with_a at) (Readonly [] true ∷ Write a 0 (codes "x") ∷ []) at ≡ Done ∷ Done ∷ []
