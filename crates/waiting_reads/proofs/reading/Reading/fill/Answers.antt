use Rattle.std.proofs.Common.{rules, ◌≡◌, List, ℕ, length, sym, subst}
use Rattle.std.proofs.lemmas.List.{with_items_is}
use Rattle.std.specs.Vec.{with_items}
use Rattle.waiting_reads.specs.Waiting.{IsFilledBy}
use Rattle.waiting_reads.proofs.ReadLemmas.{fills_same, filled_by, gathering}
use Rattle.waiting_reads.proofs.reading.Reading.fill.Goals as goal

pub returns-then-self : goal.returns-then-self
returns-then-self c =
    let i = c.self.inside in
    let next = c.fill_at-self-inside.new.bytes in
    let whole = c.fill_at-self-inside.result in
    let block = c.args.block.now in
    let long : length next ≡ i.bytes.len = search rules in
    let shown : (with_items i.bytes next).items ≡ next = with_items_is i.bytes next long in
    subst (λ (bs : List ℕ). IsFilledBy c.args.place block c.args.self.now (gathering i.ticket i.pieces bs whole)) (sym shown)
    (filled_by c.args.place block i.ticket i.pieces i.bytes.items next whole c.args.self.now (search rules)
    (fills_same c.args.place block c.as_slice.result.now i.pieces c.deref_mut.result.now i.bytes.items next whole
    (search rules) (search rules) c.fill_at-self-inside.ensures.filled)
    (search rules))
