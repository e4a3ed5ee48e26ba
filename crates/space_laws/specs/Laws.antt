-- What the definitions of space say together.
use Rattle.std.specs.Prelude.{◌≡◌, ◌⊎◌, ℕ, ◌+◌, ◌++◌, Bool, true, false, List, [], take, Option, Some}
use Rattle.tape_types.specs.declared.moments.Moment.{Moment}
use Rattle.tape_types.specs.declared.cartridges.Part.{Part}
use Rattle.tape_types.specs.declared.cartridges.Part.TheVariants.{Ip, Dp}
use Rattle.tape_types.specs.declared.cartridges.Place.{Place}
use Rattle.plain_tree.specs.History.{replay}
use Rattle.plain_tree.specs.Refusals.{is_sealed}
use Rattle.plain_tree.specs.declared.calls.Call.{Call}
use Rattle.plain_tree.specs.declared.calls.Call.TheVariants.{Write, Truncate, Sync}
use Rattle.plain_tree.specs.declared.calls.Fate.TheVariants as fates
use Rattle.plain_tree.specs.declared.calls.Placed.{Placed}
use Rattle.index_model.specs.Canonical.{canonical}
use Rattle.index_model.specs.Values.{IndexValue, Tells}
use Rattle.index_model.specs.declared.indexes.Index.{Index}
use Rattle.tape_layout.specs.declared.ops.Op.{Op}
use Rattle.tape_layout.specs.Admissions.{Admission, close_admission, data_admission, index_admission}
use Rattle.tape_layout.specs.Ops.{construct, end_of}
use Rattle.space_laws.specs.Files.{canon, value_of}
use Rattle.space_laws.specs.Space.{Ask, Rules, Space, after, after_close, index, index_need, limit_of, need_of}
use Rattle.space_laws.specs.Space.{change, nothing, ops_of, part_for, plan_of, store}
use Rattle.space_laws.specs.Standing.{Given, Standing, after_done, after_placed, ask_of, ask_unrefused, files_after}
use Rattle.space_laws.specs.Standing.{admitted, asked, first_standing, standing}

-- what a layout admits in this space, and where
abbrev pub admission_of : Rules → Bool → Space → List Op → Ask → Place → Admission
admission_of v on s ops ask place = record {
  need = need_of v on s ask;
  limit = limit_of v on s ask;
  place = place;
  after = plan_of v on (after v on s ask) (ops ++ ops_of v on s ask);
}

-- where the next item of a partition goes
abbrev pub end_place : Part → Space → Place
end_place part s = record { part = part; pos = end_of part s.ends }

-- what a layout admits is one step of the space, with the need, the limit and the ops of that step
pub record AreSteps : Type 0 where
  pub stored : (v : Rules) (on : Bool) (s : Space) (ops : List Op) (wanted : Bool) (bytes : List ℕ)
      → data_admission (plan_of v on s ops) wanted bytes
      ≡ admission_of v on s ops (store wanted bytes) (end_place (part_for v on s wanted bytes) s)
  pub indexed : (v : Rules) (on : Bool) (s : Space) (ops : List Op) (text : List ℕ)
      → index_admission (plan_of v on s ops) (s.newest + 1) text
      ≡ admission_of v on s ops (index text) (record { part = Dp; pos = s.ends.dp + 1 })
  pub closed : (v : Rules) (on : Bool) (s : Space) (ops : List Op) (text : List ℕ)
      → close_admission (plan_of v on s ops) text ≡ record {
        need = index_need v Ip s text;
        limit = v.limits.cap_ip;
        place = record { part = Ip; pos = s.ends.ip + 1 };
        after = plan_of v on (after_close v text s) (ops ++ construct v.block_size Ip s.ends.ip text);
      }

-- the tree that stands after the first placements is the one that they leave
abbrev pub TreesAreReplays : Type 0
TreesAreReplays =
    (g : Given) (on : Option ℕ) (history : List Placed) (k : ℕ)
    → (standing g on history k).tree ≡ replay g.calls g.tree (take k history)

-- a void placement is no step, and a call that asks nothing of the tape, which leaves the tree, isn't either
pub record AreStill : Type 0 where
  pub void : (g : Given) (on : Bool) (st : Standing) (p : Placed) → p.fate ≡ fates.Void → after_placed g on st p ≡ st
  pub nothing_asked : (g : Given) (on : Bool) (st : Standing) (call : Call) (at : Moment)
      → ask_of g st call at ≡ nothing → after_done g on st call at ≡ st

-- A sealed volume stands after each history as it was mounted: no call asks anything of the tape or changes the tree.
pub record SealedVolumesStay : Type 0 where
  pub stands : (g : Given) (on : Option ℕ) (history : List Placed) (k : ℕ) → is_sealed g.tree.lock ≡ true
      → standing g on history k ≡ first_standing g
  pub asks : (g : Given) (on : Option ℕ) (history : List Placed) (k : ℕ) (call : Call) (at : Moment)
      → is_sealed g.tree.lock ≡ true → asked g on history k call at ≡ nothing
  pub admits : (g : Given) (on : Option ℕ) (history : List Placed) → is_sealed g.tree.lock ≡ true
      → admitted g on history ≡ []

-- a call that may need room on the tape
abbrev pub may_need_room : Call → Bool
may_need_room (Write path offset bytes) = true
may_need_room Sync = true
may_need_room _ = false

-- a call that may write an index
abbrev pub may_write_index : Call → Bool
may_write_index Sync = true
may_write_index _ = false

-- a call after which a file may lie otherwise
abbrev pub may_lay_anew : Call → Bool
may_lay_anew (Write path offset bytes) = true
may_lay_anew (Truncate path size) = true
may_lay_anew _ = false

-- nothing is asked of the tape, with or without a change of the tree
abbrev pub AsksPlainly : Ask → Type 0
AsksPlainly ask = (ask ≡ nothing) ⊎ (ask ≡ change)

-- no index is asked for
abbrev pub StoresAtMost : Ask → Type 0
StoresAtMost ask = AsksPlainly ask ⊎ ((wanted : Bool) × (bytes : List ℕ) × (ask ≡ store wanted bytes))

-- Only a write and a sync may need room on the tape; any other call asks plainly, refused or not. Only a sync may
-- write an index. Only a write and a truncation may lay a file anew, and none that asks nothing does.
pub record AskPlainly : Type 0 where
  pub unrefused : (g : Given) (st : Standing) (call : Call) (at : Moment) → may_need_room call ≡ false
      → AsksPlainly (ask_unrefused g st call at)
  pub asked : (g : Given) (st : Standing) (call : Call) (at : Moment) → may_need_room call ≡ false
      → AsksPlainly (ask_of g st call at)
  pub stored : (g : Given) (st : Standing) (call : Call) (at : Moment) → may_write_index call ≡ false
      → StoresAtMost (ask_of g st call at)
  pub files : (g : Given) (on : Bool) (st : Standing) (call : Call) (ask : Ask) → may_lay_anew call ≡ false
      → files_after g on st call ask ≡ st.files
  pub files_still : (g : Given) (on : Bool) (st : Standing) (call : Call)
      → files_after g on st call nothing ≡ st.files

-- the value of an index that tells one is that value, and its text is the one text of that
pub record ValuesAreTold : Type 0 where
  pub value : (index : Index) (v : IndexValue) → Tells index v → value_of index ≡ Some v
  pub text : (index : Index) (v : IndexValue) → Tells index v → canon index ≡ canonical v
