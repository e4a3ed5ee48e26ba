use Rattle.std.proofs.Common.{sym, ◌∙◌}
use Rattle.mount_recover.proofs.PointerLemmas.{back_none, back_some}
use Rattle.mount_recover.proofs.pointers.points_back.Goals as goal

pub returns-in-None : goal.returns-in-None
returns-in-None c = λ ks dp are told. back_none c.args.label.now c.args.index.now ks c.is_back.result dp (sym c.in-None.is ∙ told) c.is_back.ensures

pub returns-in-Some : goal.returns-in-Some
returns-in-Some c =
    λ ks dp are told. back_some c.args.label.now c.args.index.now ks c.points_back_from.result c.in-Some.generation dp (sym c.in-Some.is ∙ told)
    (c.points_back_from.ensures ks are)
