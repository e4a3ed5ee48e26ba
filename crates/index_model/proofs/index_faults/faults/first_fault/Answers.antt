use Rattle.std.proofs.Common.{ℕ, List, Option, Some, None, IfOk, IfNone, subst}
use Rattle.index_model.specs.declared.nodes.Node.{Node}
use Rattle.index_model.specs.Keys.{HasKeyTwice}
use Rattle.index_model.specs.Names.{HasTakenName}
use Rattle.index_model.specs.Uids.{AreUids}
use Rattle.index_model.specs.IndexFaults.Firsts.{TellsBad, TellsFirst}
use Rattle.index_model.proofs.IndexFaults.Whole.{agrees_ok, key_told, name_told, told_ok}
use Rattle.index_model.proofs.index_faults.faults.first_fault.Goals as goal

abbrev names : List Node → Option ℕ → Type 0
names nodes = TellsFirst (HasTakenName nodes) nodes

abbrev keys : List Node → Option ℕ → Type 0
keys nodes = TellsFirst (HasKeyTwice nodes) nodes

pub returns-in-Some-2-clause-told : goal.returns-in-Some-2-clause-told
returns-in-Some-2-clause-told c =
    name_told c.args.index.now c.in-Some-2.uid
    (subst (λ uid. IfNone uid (AreUids c.args.index.now.highest c.args.index.now.nodes)) c.in_default.is c.in_ok-uid.ensures.right)
    (subst (λ nodes. names nodes (Some c.in-Some-2.uid)) c.as_slice-nodes.ensures (subst (names c.as_slice-nodes.result.now) c.in-Some-2.is c.in_ok-uid-2.ensures))

pub returns-in-Some-3-clause-told : goal.returns-in-Some-3-clause-told
returns-in-Some-3-clause-told c =
    key_told c.args.index.now
    (subst (λ uid. IfNone uid (AreUids c.args.index.now.highest c.args.index.now.nodes)) c.in_default.is c.in_ok-uid.ensures.right)
    (subst (λ nodes. names nodes None) c.as_slice-nodes.ensures (subst (names c.as_slice-nodes.result.now) c.in_default-2.is c.in_ok-uid-2.ensures))
    c.in-Some-3.uid
    (subst (λ nodes. keys nodes (Some c.in-Some-3.uid)) c.as_slice-nodes.ensures (subst (keys c.as_slice-nodes.result.now) c.in-Some-3.is c.in_ok-uid-3.ensures))

pub returns-clause-told : goal.returns-clause-told
returns-clause-told c =
    told_ok c.args.index.now
    (subst (λ uid. IfNone uid (AreUids c.args.index.now.highest c.args.index.now.nodes)) c.in_default.is c.in_ok-uid.ensures.right)
    (subst (λ nodes. names nodes None) c.as_slice-nodes.ensures (subst (names c.as_slice-nodes.result.now) c.in_default-2.is c.in_ok-uid-2.ensures))
    (subst (λ nodes. keys nodes None) c.as_slice-nodes.ensures (subst (keys c.as_slice-nodes.result.now) c.in_default-3.is c.in_ok-uid-3.ensures))
    c.first_bad_file.result
    (subst (λ nodes. IfOk c.first_bad_file.result (TellsBad nodes)) c.as_slice-nodes.ensures c.first_bad_file.ensures)

pub returns-clause-agrees : goal.returns-clause-agrees
returns-clause-agrees c =
    agrees_ok c.args.index.now
    (subst (λ uid. IfNone uid (AreUids c.args.index.now.highest c.args.index.now.nodes)) c.in_default.is c.in_ok-uid.ensures.right)
    (subst (λ nodes. names nodes None) c.as_slice-nodes.ensures (subst (names c.as_slice-nodes.result.now) c.in_default-2.is c.in_ok-uid-2.ensures))
    (subst (λ nodes. keys nodes None) c.as_slice-nodes.ensures (subst (keys c.as_slice-nodes.result.now) c.in_default-3.is c.in_ok-uid-3.ensures))
    c.first_bad_file.result
    (subst (λ nodes. IfOk c.first_bad_file.result (TellsBad nodes)) c.as_slice-nodes.ensures c.first_bad_file.ensures)
