use Rattle.std.proofs.Common.{ℕ, sym, subst}
use Rattle.std.specs.Vec.{vec_len}
use Rattle.head_queue.specs.Links.{after_of, before_of}
use Rattle.head_queue.specs.Rings.{IsRing, met_from}
use Rattle.head_queue.proofs.RingLemmas.{widened, seen}
use Rattle.head_queue.proofs.chains.Chain.widen.Goals as goal

pub invariant_of-self : goal.invariant_of-self
invariant_of-self c =
    let ring = widened c.self.inside.ends c.self.inside.links.items c.widen.new.links.items (vec_len c.self.inside.links) c.self.inside.count _ c.widen.ensures.items c.self.invariant in
    seen (after_of c.self.inside.ends c.widen.new.links.items) (before_of c.self.inside.ends c.widen.new.links.items) (vec_len c.widen.new.links) c.self.inside.count _
    (subst (λ (n : ℕ). IsRing (after_of c.self.inside.ends c.widen.new.links.items) (before_of c.self.inside.ends c.widen.new.links.items) n (met_from (after_of c.self.inside.ends c.self.inside.links.items) c.self.inside.count ((after_of c.self.inside.ends c.self.inside.links.items) 0)) c.self.inside.count) (sym c.widen.ensures.len) ring)
