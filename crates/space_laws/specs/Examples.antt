-- What the definitions of space say of worked values.
use Rattle.std.specs.Prelude.{◌≡◌, ℕ, ◌+◌, ◌^◌, true, false, List, [], ◌∷◌, map, codes, Some, None}
use Rattle.tape_types.specs.declared.moments.Moment.{Moment}
use Rattle.tape_types.specs.declared.cartridges.Part.TheVariants.{Ip, Dp}
use Rattle.tape_types.specs.declared.cartridges.Extent.{Extent}
use Rattle.extent_map.specs.Laid.{Laid}
use Rattle.file_tree.specs.Locks.{lock_of}
use Rattle.plain_tree.specs.declared.calls.Call.{Call}
use Rattle.plain_tree.specs.declared.calls.Call.TheVariants.{Write, Setx, Getx, Dropx, Readonly, Sync}
use Rattle.plain_tree.specs.declared.calls.Call.TheVariants.{LockVolume, UnlockVolume, PermLock}
use Rattle.plain_tree.specs.declared.calls.LockState.{LockState}
use Rattle.plain_tree.specs.declared.calls.LockState.TheVariants.{Absent, Unlocked, Locked, PermLocked}
use Rattle.tape_layout.specs.declared.ops.Op.TheVariants.{Put}
use Rattle.tape_layout.specs.Ops.{place_of}
use Rattle.space_laws.specs.Files.{index_at}
use Rattle.space_laws.specs.Histories.{done, filling, given, key, overwriting, path, setting, with_blocks, with_lock}
use Rattle.space_laws.specs.Histories.{with_policy, writing}
use Rattle.space_laws.specs.Mount.{was_sealed}
use Rattle.space_laws.specs.Space.{Ask, Rules, Space, after, change, index, is_over, limit_of, need_of, nothing}
use Rattle.space_laws.specs.Space.{ops_of, part_for, store}
use Rattle.space_laws.specs.Standing.{Given, Standing, admitted, asked, first_standing, limit_at, need_at, standing}
use Rattle.space_laws.specs.Standing.{sync_text}
use Rattle.space_laws.specs.Trials.{after_asks, bytes_for_dp, empty_space, empty_volume, first_index, for_ip}
use Rattle.space_laws.specs.Trials.{index_under, on_dp, on_ip, places, short_index, small}

abbrev pub rules : Rules
rules = small 4096

-- the data partition is full but for its reserve
abbrev pub filled : Space
filled = after_asks rules true (bytes_for_dp 65536 ∷ bytes_for_dp 65536 ∷ bytes_for_dp 53248 ∷ [])

-- a block was put on the index partition
abbrev pub flush_due : Space
flush_due = after_asks rules true (for_ip ∷ [])

abbrev pub last_generation : Space
last_generation = record empty_space { newest = 2 ^ 62 }

pub record TellsSpace : Type 0 where
  pub is_full : is_over rules true filled (bytes_for_dp 1) ≡ true
  pub needs_53 : need_of rules true filled (bytes_for_dp 1) ≡ 53
  pub has_52 : limit_of rules true filled (bytes_for_dp 1) ≡ 52
  pub flushed_first : places (ops_of rules true flush_due short_index)
      ≡ on_ip 5 ∷ on_dp 7 ∷ on_dp 8 ∷ on_dp 9 ∷ on_dp 10 ∷ []
  pub not_yet_on : part_for rules false empty_space true (codes "abc") ≡ Dp
  pub index_needs_marks : need_of rules true empty_space short_index ≡ 10
  pub no_generation_left : need_of rules true last_generation short_index ≡ 2 ^ 62 + 1
  pub generations : limit_of rules true last_generation short_index ≡ 2 ^ 62
  pub after_index : after rules true flush_due short_index ≡ record {
    ends = record { ip = 5; dp = 10 };
    newest = 2;
    last_dp = Some 8;
    changed = false;
    flush_due = false;
    admitted = true;
  }
  pub goes_to_ip : part_for rules true empty_space true (codes "abc") ≡ Ip
  pub too_long_for_ip : part_for rules true (record empty_space { ends = record { ip = 52; dp = 7 } }) true
      (codes "abc") ≡ Dp
  pub cut_into_blocks : ops_of (small 2) true empty_space (store false (codes "abc"))
      ≡ Put (on_dp 7) (codes "ab") ∷ Put (on_dp 8) (codes "c") ∷ []

-- ---- histories

-- a run of a file's bytes on the data partition
abbrev pub run : ℕ → ℕ → ℕ → ℕ → Extent
run offset block byte count = record { offset = offset; block = block; count = count; byte = byte; part = Dp }

abbrev pub lies : ℕ → List Extent → Laid
lies length extents = record { block_size = 4096; length = length; extents = extents }

abbrev pub file_after : Moment → List Call → ℕ → Laid
file_after at calls k = (standing (given at (empty_volume at) calls) None (done at) k).files 2

abbrev pub one_byte_more : Call
one_byte_more = Write path 180 (100 ∷ [])

abbrev pub small_blocks : Moment → Given
small_blocks at = given at (with_blocks 4 (empty_volume at)) filling

pub record TellsHistories (at : Moment) : Type 0 where
  pub needs_53 : need_at (small_blocks at) None (done at) 3 one_byte_more at ≡ 53
  pub has_52 : limit_at (small_blocks at) None (done at) 3 one_byte_more at ≡ 52
  pub lies_in_two : file_after at overwriting 2 ≡ lies 10 (run 0 7 0 3 ∷ run 3 8 0 2 ∷ run 5 7 5 5 ∷ [])
  pub lies_cut : file_after at overwriting 3 ≡ lies 4 (run 0 7 0 3 ∷ run 3 8 0 1 ∷ [])
  -- the policy looks at the length that the file has after the write
  pub grows_too_long : map place_of (admitted (given at (with_policy 9 true (empty_volume at)) writing) None (done at))
      ≡ on_ip 4 ∷ on_dp 7 ∷ []
  -- before its place a file that the policy wants on the index partition goes to the data partition
  pub not_before_its_place :
      map place_of (admitted (given at (with_policy 10 false (empty_volume at)) writing) (Some 1) (done at))
      ≡ on_dp 7 ∷ on_ip 4 ∷ []
  pub changes_twice : (standing (given at (empty_volume at) writing) None (done at) 3).space.ends
      ≡ record { ip = 4; dp = 9 }
  pub nothing_to_sync : need_at (given at (empty_volume at) writing) None (done at) 0 Sync at ≡ 0

-- ---- attributes, flags and locks

-- what a call asks of a volume that was mounted with this lock state
abbrev pub ask_under : Moment → LockState → Call → Ask
ask_under at state call = asked (with_lock state (given at (empty_volume at) [])) None [] 0 call at

-- what a call asks behind the first calls of some about a key
abbrev pub ask_behind : Moment → ℕ → Call → Ask
ask_behind at k call = asked (given at (empty_volume at) setting) None (done at) k call at

-- the lock state that the next index tells of a tree that has this one
abbrev pub told_under : Moment → LockState → LockState
told_under at state = by (first_standing (with_lock state (given at (empty_volume at) [])))
  where
    by : Standing → LockState
    by st = lock_of (index_at (empty_volume at) st.tree st.files 2 at Dp 8 (Some 5)).lock

-- a volume that is locked in its first call
abbrev pub locking : Moment → Given
locking at = given at (empty_volume at) (LockVolume ∷ [])

pub record TellsLocks (at : Moment) : Type 0 where
  -- a lock that stands asks nothing, and neither does an unlock without one
  pub locks : ask_under at Absent LockVolume ≡ change
  pub locks_again : ask_under at Unlocked LockVolume ≡ change
  pub is_locked : ask_under at Locked LockVolume ≡ nothing
  pub unlocks : ask_under at Locked UnlockVolume ≡ change
  pub none_to_unlock : ask_under at Absent UnlockVolume ≡ nothing
  pub is_unlocked : ask_under at Unlocked UnlockVolume ≡ nothing
  pub seals : ask_under at Locked PermLock ≡ change
  -- under a lock the tree refuses what would ask for a change, and under a seal also what is about the lock
  pub refuses_bytes : ask_under at Locked (Write path 0 (codes "x")) ≡ nothing
  pub stores_bytes : ask_under at Unlocked (Write path 0 (codes "x")) ≡ store false (codes "x")
  pub refuses_unlock : ask_under at PermLocked UnlockVolume ≡ nothing
  pub refuses_seal : ask_under at PermLocked PermLock ≡ nothing
  -- a sync goes on under a lock
  pub syncs : asked (locking at) None (done at) 1 Sync at
      ≡ index (sync_text (locking at) (standing (locking at) None (done at) 1) at)
  -- the flag that stands asks nothing
  pub flags : ask_under at Absent (Readonly path true) ≡ change
  pub is_flagged : ask_under at Absent (Readonly path false) ≡ nothing
  -- the bytes of a key that stand ask nothing
  pub sets : ask_behind at 0 (Setx path key (codes "one")) ≡ change
  pub is_set : ask_behind at 1 (Setx path key (codes "one")) ≡ nothing
  pub sets_others : ask_behind at 2 (Setx path key (codes "two")) ≡ change
  pub reads : ask_behind at 1 (Getx path key) ≡ nothing
  pub drops : ask_behind at 1 (Dropx path key) ≡ change
  pub none_to_drop : ask_behind at 0 (Dropx path key) ≡ nothing
  -- an index tells the lock of its tree, whatever the mounted one told
  pub tells_none : told_under at Absent ≡ Absent
  pub tells_unlocked : told_under at Unlocked ≡ Unlocked
  pub tells_locked : told_under at Locked ≡ Locked
  pub tells_sealed : told_under at PermLocked ≡ PermLocked
  -- of what a mounted index may tell, the lock for ever alone seals
  pub sealed : was_sealed (index_under at PermLocked) ≡ true
  pub not_by_a_lock : was_sealed (index_under at Locked) ≡ false
  pub not_unlocked : was_sealed (index_under at Unlocked) ≡ false
  pub not_without : was_sealed (first_index at) ≡ false
