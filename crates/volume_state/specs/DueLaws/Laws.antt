-- That the index of a sync is due, and what this stands on.
use Rattle.std.specs.Prelude.{ℕ, ◌≡◌, ◌<◌, ◌≤◌, ◌^◌, Bool, true, false, List, length}
use Rattle.tape_types.specs.Cartridges.{IsLimits}
use Rattle.tape_types.specs.declared.cartridges.Cartridge.{Cartridge}
use Rattle.tape_types.specs.declared.cartridges.Limits.{Limits}
use Rattle.tape_types.specs.declared.cartridges.Part.{Part}
use Rattle.tape_types.specs.declared.moments.Moment.{Moment}
use Rattle.plain_tree.specs.declared.calls.Call.TheVariants.{Sync}
use Rattle.index_model.specs.Valid.{IsValid}
use Rattle.index_model.specs.declared.indexes.Index.{Index}
use Rattle.extent_map.specs.Blocks.{AreAlikeIn}
use Rattle.extent_map.specs.Cells.{Tape, tape_of}
use Rattle.file_tree.specs.Blocks.{AgreeBelow, TreeStandsIn}
use Rattle.file_tree.specs.Mounts.{CanMount, IsTreeOf, Letters}
use Rattle.file_tree.specs.Tree.{FileTree}
use Rattle.file_tree.specs.Valid.{IsGood}
use Rattle.cartridge_meaning.specs.Meaning.{Found}
use Rattle.cartridge_meaning.specs.Mounts.{Mounts}
use Rattle.cartridge_meaning.specs.declared.mounted.Mounted.{Mounted}
use Rattle.space_laws.specs.Space.{Rules, Space, index, is_over}
use Rattle.space_laws.specs.Standing.{Given, Standing, ask_of, rules, sync_text}
use Rattle.held_volume.specs.Stocks.{IsStock, Stocked, ends_of}
use Rattle.held_volume.specs.Synced.{CanTell}
use Rattle.promises.specs.ImageLaws.Made.{cartridge_of}
use Rattle.promises.specs.ServingPromise.Served.{View}
use Rattle.promises.specs.CrashLaws.Laws.{IsNextDue}
use Rattle.promises.specs.CrashLaws.Safe.{Planned, given_by, standing_now}
use Rattle.volume_state.specs.DueLaws.Behind.{BeginsBehindLabels}

-- What was mounted is a valid index of the volume with these labels. What is held is what stands at the end of the
-- history, on the tape that there will be once all ops are done, in blocks behind the labels. Its index may be told,
-- with a text of fewer than 2^64 bytes, as each in memory has. Then the index of a sync that is placed next is due.
abbrev pub IndexesAreDue : Type 0 → Type 0
IndexesAreDue D = (p : Planned) (limits : Limits) (v : View D) (on : Bool) (s : Stocked) (at : Moment)
    → IsValid v.fixed.mounted.index → v.fixed.mounted.label ≡ p.labels.ip
    → IsStock (tape_of (cartridge_of p.made)) (given_by limits v) on (standing_now limits v) s
    → IsGood s.tree → BeginsBehindLabels s.tree → CanTell (given_by limits v) (standing_now limits v)
    → length (sync_text (given_by limits v) (standing_now limits v) at) < 2 ^ 64
    → IsNextDue p limits v at

-- the label of a mount is that of whatever is found of its cartridge
abbrev pub MountsTellLabels : Type 0
MountsTellLabels = (c : Cartridge) (m : Mounted) (found : Found c) → Mounts c m → m.label ≡ found.labels.ip

-- each index that can be mounted has a tree
abbrev pub MountsHaveTrees : Type 0
MountsHaveTrees = (letters : Letters) (size : ℕ) (index : Index) → CanMount index letters size
    → (t : FileTree) × IsTreeOf letters size index t

-- What is held for one tape is held for another: where both have the same bytes everywhere, below the ends, or in the
-- blocks of the tree.
pub record StocksGoByTheTape : Type 0 where
  pub everywhere : (one other : Tape) (g : Given) (on : Bool) (st : Standing) (s : Stocked)
      → ((part : Part) (pos byte : ℕ) → one part pos byte ≡ other part pos byte)
      → IsStock one g on st s → IsStock other g on st s
  pub below : (one other : Tape) (g : Given) (on : Bool) (st : Standing) (s : Stocked)
      → AgreeBelow (ends_of st.space.ends) one other → IsStock one g on st s → IsStock other g on st s
  pub blocks : (one other : Tape) (g : Given) (on : Bool) (st : Standing) (s : Stocked)
      → AreAlikeIn (TreeStandsIn s.tree) one other → IsStock one g on st s → IsStock other g on st s

-- The text of an index that fits its partition has fewer than 2^64 bytes; so does that of a sync before which anything
-- changed, where it is admitted.
pub record AdmittedTextsAreShort : Type 0 where
  pub fits : (v : Rules) (on : Bool) (s : Space) (text : List ℕ) → IsLimits v.limits
      → 1 ≤ v.block_size → v.block_size ≤ 1048576 → is_over v on s (index text) ≡ false → length text < 2 ^ 64
  pub synced : (g : Given) (on : Bool) (st : Standing) (at : Moment) → IsLimits g.limits
      → 1 ≤ g.mounted.label.block → g.mounted.label.block ≤ 1048576 → st.space.changed ≡ true
      → is_over (rules g) on st.space (ask_of g st Sync at) ≡ false → length (sync_text g st at) < 2 ^ 64
