use Rattle.std.proofs.Common.{refl}
use Rattle.index_model.proofs.index_faults.uids.wrong_root_uid.Goals as goal

pub returns-else-uid-eq-ROOT-clause-told : goal.returns-else-uid-eq-ROOT-clause-told
returns-else-uid-eq-ROOT-clause-told c =
    let first = c.in_ok-root.ensures.value in
    (c.if-uid-eq-ROOT.false, record { node = c.in_ok-root.root.now; is = cc; same = refl })
