-- What the four searches tell together.
use Rattle.std.proofs.Common.{◌≡◌, ◌≢◌, ℕ, ◌≤◌, ◌^◌, Option, Some, None, Result, Ok, Err, IfSome, IfNone, IfOk, inr}
use Rattle.index_model.specs.declared.faults.Fault.{Fault}
use Rattle.index_model.specs.declared.faults.Fault.TheVariants as faults
use Rattle.index_model.specs.declared.indexes.Index.{Index}
use Rattle.index_model.specs.declared.nodes.Node.{Node}
use Rattle.index_model.specs.Keys.{AreKeysApart, HasKeyTwice}
use Rattle.index_model.specs.Names.{HasTakenName}
use Rattle.index_model.specs.Places.{IsAt}
use Rattle.index_model.specs.Refusals.{IsTold, IsToldOf, RefusesKey, RefusesName, RefusesUid}
use Rattle.index_model.specs.Uids.{AreUids, HasBadUid}
use Rattle.index_model.specs.Valid.{Agrees}
use Rattle.index_model.proofs.NoFault.{files_are, names_are, uids_are}
use Rattle.index_model.specs.IndexFaults.Firsts.{TellsBad, TellsFirst}

-- the UIDs of an index behind its highest
module _ (index : Index) (bounded : index.highest ≤ 2 ^ 62) (none : TellsFirst (HasBadUid index.highest index.nodes) index.nodes None) where
  -- a root with another UID than 1 is told as a fault
  pub root_told : (uid : Option ℕ) → IfSome uid (λ n. (n ≢ 1) × IsTold index.nodes 0 n) → IfSome uid (RefusesUid index)
  root_told None h = h
  root_told (Some n) h = inr (inr record { bounded = bounded; others = none; wrong = h.0; told = h.1 })

  -- where the root has UID 1 too, all UIDs are as they must be
  pub uids_right : (uid : Option ℕ) → IfNone uid ((root : Node) → IsAt index.nodes 0 root → root.uid ≡ 1) → IfNone uid (AreUids index.highest index.nodes)
  uids_right None h = uids_are index.highest index.nodes bounded none h
  uids_right (Some n) h = h

-- where the UIDs are right, the first taken name is the fault
pub name_told : (index : Index) (uid : ℕ) → AreUids index.highest index.nodes → TellsFirst (HasTakenName index.nodes) index.nodes (Some uid) → RefusesName index uid
name_told index uid uids h = record { uids = uids; at = h.at; first = h.first; told = h.told }

module _ (index : Index) (uids : AreUids index.highest index.nodes) (none : TellsFirst (HasTakenName index.nodes) index.nodes None) where
  -- where UIDs and names are right, the first key twice is the fault
  pub key_told : (uid : ℕ) → TellsFirst (HasKeyTwice index.nodes) index.nodes (Some uid) → RefusesKey index uid
  key_told uid h = record { uids = uids; names = names_are index.nodes none; at = h.at; first = h.first; told = h.told }

module _ (index : Index) (uids : AreUids index.highest index.nodes) (none : TellsFirst (HasTakenName index.nodes) index.nodes None) (keys : AreKeysApart index.nodes) where
  fault_told : (fault : Fault) → TellsBad index.nodes (Some fault) → IsToldOf index fault
  fault_told (faults.Uid n) h = absurd h
  fault_told (faults.SameName n) h = absurd h
  fault_told (faults.SameKey n) h = absurd h
  fault_told (faults.Extent n) h = record {
    at = h.at;
    bad = record { uids = uids; names = names_are index.nodes none; keys = keys; first = h.first; told = h.told };
    out = h.wrong;
  }
  fault_told (faults.Overlap n) h = record {
    at = h.at;
    bad = record { uids = uids; names = names_are index.nodes none; keys = keys; first = h.first; told = h.told };
    within = h.wrong.0;
    overlap = h.wrong.1;
  }

  file_told : (fault : Option Fault) → TellsBad index.nodes fault → IfSome fault (IsToldOf index)
  file_told None h = tt
  file_told (Some fault) h = fault_told fault h

  agrees : (fault : Option Fault) → TellsBad index.nodes fault → IfNone fault (Agrees index)
  agrees None h = record { uids = uids; names = names_are index.nodes none; keys = keys; files = files_are index.nodes h }
  agrees (Some fault) h = tt

  -- the fault that the last search answers is the index's
  pub told_ok : {E : Type 0} (r : Result (Option Fault) E) → IfOk r (TellsBad index.nodes) → IfOk r (λ fault. IfSome fault (IsToldOf index))
  told_ok (Ok fault) h = file_told fault h
  told_ok (Err e) h = h

  -- where the last search answers none, the index agrees
  pub agrees_ok : {E : Type 0} (r : Result (Option Fault) E) → IfOk r (TellsBad index.nodes) → IfOk r (λ fault. IfNone fault (Agrees index))
  agrees_ok (Ok fault) h = agrees fault h
  agrees_ok (Err e) h = h
