use Rattle.std.proofs.Common.{ℕ, List, Option, None, subst, IfSome, IfNone, ◌≡◌, ◌≢◌}
use Rattle.index_model.specs.declared.nodes.Node.{Node}
use Rattle.index_model.specs.Places.{IsAt}
use Rattle.index_model.specs.Refusals.{IsTold}
use Rattle.index_model.specs.Uids.{HasBadUid}
use Rattle.index_model.specs.IndexFaults.Firsts.{TellsFirst}
use Rattle.index_model.proofs.IndexFaults.Whole.{root_told, uids_right}
use Rattle.index_model.proofs.index_faults.uids.refused_uid.Goals as goal

none_bad : (c : goal.After-wrong_root_uid) → TellsFirst (HasBadUid c.args.index.now.highest c.args.index.now.nodes) c.args.index.now.nodes None
none_bad c =
    let tells : (nodes : List Node) → Option ℕ → Type 0 = λ nodes. TellsFirst (HasBadUid c.args.index.now.highest nodes) nodes in
    subst (λ nodes. tells nodes None) c.as_slice-nodes.ensures (subst (tells c.as_slice-nodes.result.now) c.in_default.is c.in_ok-uid.ensures)

pub returns-clause-told : goal.returns-clause-told
returns-clause-told c =
    root_told c.args.index.now c.if-highest-gt-LARGEST.false (none_bad c) c.wrong_root_uid.result
    (subst (λ nodes. IfSome c.wrong_root_uid.result (λ n. (n ≢ 1) × IsTold nodes 0 n)) c.as_slice-nodes.ensures c.wrong_root_uid.ensures.told)

pub returns-clause-right : goal.returns-clause-right
returns-clause-right c =
    uids_right c.args.index.now c.if-highest-gt-LARGEST.false (none_bad c) c.wrong_root_uid.result
    (subst (λ nodes. IfNone c.wrong_root_uid.result ((root : Node) → IsAt nodes 0 root → root.uid ≡ 1)) c.as_slice-nodes.ensures c.wrong_root_uid.ensures.right)
