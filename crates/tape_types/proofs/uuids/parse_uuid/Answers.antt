use Rattle.std.proofs.Common.{◌≡◌, true, false}
use Rattle.tape_types.proofs.UuidLemmas.{uuid_in-none, uuid_in-other}
use Rattle.tape_types.proofs.uuids.parse_uuid.Goals as goal

pub returns-then-text-ne36 : goal.returns-then-text-ne36
returns-then-text-ne36 c = uuid_in-other c.args.text.now c.if-text-ne36.true

pub returns-in-Err : goal.returns-in-Err
returns-in-Err c =
    uuid_in-none c.args.text.now c.if-text-ne36.false
    (λ u e. let bad : false ≡ true = c.in-Err.ensures.ok.1 (u, e) in absurd (cc bad))
