-- What is known of a volume when it was mounted.
use Rattle.std.specs.Prelude.{ℕ, Bool, true, false, Option}
use Rattle.ltfs_label.specs.declared.Label.{Label}
use Rattle.file_tree.specs.Locks.{lock_of}
use Rattle.index_model.specs.declared.indexes.Index.{Index}
use Rattle.plain_tree.specs.Refusals.{is_sealed}
use Rattle.tape_layout.specs.declared.standing.Ends.{Ends}

-- The label, the index that was chosen, the newest generation, where the next item of each partition goes, the first
-- block of the data partition's last index, whether files may go to the index partition from the start, whether the
-- data partition ends with the chosen index, and whether the index partition ends with an index of that generation that
-- points back to it.
pub record MountFacts : Type 0 where
  pub label : Label
  pub index : Index
  pub newest : ℕ
  pub ends : Ends
  pub last_dp : Option ℕ
  pub ip_on : Bool
  pub dp_done : Bool
  pub ip_done : Bool

-- the volume whose index was chosen at the mount is sealed: it was locked for ever before
abbrev pub was_sealed : Index → Bool
was_sealed index = is_sealed (lock_of index.lock)

-- what is to hold where it is sealed, and what where it isn't
abbrev pub where_sealed : Bool → (sealed unsealed : Type 0) → Type 0
where_sealed true sealed unsealed = sealed
where_sealed false sealed unsealed = unsealed
