-- The facts that an index carries on.
use Rattle.std.proofs.Common.{◌≡◌, Option, Some, None, refl}
use Rattle.ltfs_documents.specs.declared.doc_fields.values.LockState as told_state
use Rattle.ltfs_documents.specs.declared.doc_fields.values.LockState.TheVariants as words
use Rattle.plain_tree.specs.declared.calls.LockState.{LockState}
use Rattle.plain_tree.specs.declared.calls.LockState.TheVariants as locks
use Rattle.file_tree.specs.Locks.{lock_of, told_lock}
use Rattle.file_tree.specs.Carried.{FactsAreCarried}

-- what is told of a lock state is heard as that state
pub heard : (state : LockState) → lock_of (told_lock state) ≡ state
heard locks.Absent = refl
heard locks.Unlocked = refl
heard locks.Locked = refl
heard locks.PermLocked = refl

-- and what is heard is told again
told_again : (word : Option told_state.LockState) → told_lock (lock_of word) ≡ word
told_again None = refl
told_again (Some words.Unlocked) = refl
told_again (Some words.Locked) = refl
told_again (Some words.PermLocked) = refl

-- an index that tells a tree carries its facts on, and loses none
pub facts_are_carried : FactsAreCarried
facts_are_carried = record {
  tells = λ letters heading carried t. record { nodes = refl; highest = refl; lock = refl };
  same = λ letters heading carried t. refl;
  fit = λ letters heading carried t head facts. record {
    creator = head.creator;
    comment = facts.comment;
    uuid = head.uuid;
    generation_least = head.generation_least;
    generation_most = head.generation_most;
    here = head.here;
    back = head.back;
    policy = facts.policy;
  };
  heard = heard;
  told = told_again;
}
