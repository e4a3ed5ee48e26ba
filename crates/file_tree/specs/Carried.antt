-- What each index of a volume carries on, beside the tree.
use Rattle.std.specs.Prelude.{◌≡◌, ℕ, ◌<◌, ◌≤◌, ◌^◌, List, IfSome, Option}
use Rattle.ltfs_documents.specs.declared.doc_fields.values.LockState as told_state
use Rattle.plain_tree.specs.declared.calls.LockState.{LockState}
use Rattle.index_model.specs.declared.indexes.Index.{Index}
use Rattle.index_model.specs.declared.nodes.Node as told
use Rattle.index_model.specs.Texts.{IsPlainText}
use Rattle.index_model.specs.Valid.{IsFitVolume, IsSpot, IsPolicy}
use Rattle.file_tree.specs.declared.carried.Carried.{Carried}
use Rattle.file_tree.specs.declared.carried.Heading.{Heading}
pub use Rattle.file_tree.specs.Locks.{lock_of, told_lock}
use Rattle.file_tree.specs.Tree.{FileTree}
use Rattle.file_tree.specs.Mounts.{Letters}
use Rattle.file_tree.specs.Told.{told_nodes}
use Rattle.file_tree.specs.Indexes.{TellsTree}

abbrev pub carried_of : Index → Carried
carried_of index = record { comment = index.comment; allow = index.allow; policy = index.policy }

abbrev pub index_of : Heading → Carried → LockState → ℕ → List told.Node → Index
index_of heading carried state highest nodes = record {
  creator = heading.creator;
  comment = carried.comment;
  uuid = heading.uuid;
  generation = heading.generation;
  updated = heading.updated;
  here = heading.here;
  back = heading.back;
  allow = carried.allow;
  policy = carried.policy;
  lock = told_lock state;
  highest = highest;
  nodes = nodes;
}

-- the index that tells a tree under this heading
abbrev pub index_of_tree : Letters → Heading → Carried → FileTree → Index
index_of_tree letters heading carried t = index_of heading carried t.lock t.highest (told_nodes letters t)

-- each is such as an index may tell it
pub record IsFitHeading (heading : Heading) : Type 0 where
  pub creator : IsPlainText heading.creator
  pub uuid : heading.uuid < 2 ^ 128
  pub generation_least : 1 ≤ heading.generation
  pub generation_most : heading.generation ≤ 2 ^ 62
  pub here : IsSpot heading.here
  pub back : IfSome heading.back IsSpot

pub record AreFitFacts (carried : Carried) : Type 0 where
  pub comment : IfSome carried.comment IsPlainText
  pub policy : IfSome carried.policy IsPolicy

-- The index that tells a tree tells it with what it carries on, and nothing of that is lost; it is such as it may be.
-- What it tells of the lock is heard as the lock, and each word is told again.
pub record FactsAreCarried : Type 0 where
  pub tells : (letters : Letters) (heading : Heading) (carried : Carried) (t : FileTree)
      → TellsTree letters t (index_of_tree letters heading carried t)
  pub same : (letters : Letters) (heading : Heading) (carried : Carried) (t : FileTree)
      → carried_of (index_of_tree letters heading carried t) ≡ carried
  pub fit : (letters : Letters) (heading : Heading) (carried : Carried) (t : FileTree)
      → IsFitHeading heading → AreFitFacts carried → IsFitVolume (index_of_tree letters heading carried t)
  pub heard : (state : LockState) → lock_of (told_lock state) ≡ state
  pub told : (word : Option told_state.LockState) → told_lock (lock_of word) ≡ word
