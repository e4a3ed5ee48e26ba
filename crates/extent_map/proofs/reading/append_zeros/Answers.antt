use Rattle.std.proofs.Common.{◌≡◌, ◌+◌, ◌∙◌, ap, length, rules, vec_len}
use Rattle.extent_map.proofs.TakenBytes.{zeros_there, summed, grown, taken}
use Rattle.extent_map.proofs.reading.append_zeros.Goals as goal

pub returns-clause-ok : goal.returns-clause-ok
returns-clause-ok c =
    let long : vec_len c.args.bytes.now ≡ length c.args.bytes.now.items = search rules in
    let sum : c.in_ok-length.length ≡ length c.args.bytes.now.items + c.args.count =
    summed c.checked_add.result _ _ _ c.checked_add.ensures c.in_ok-length.ensures.ok_part ∙ ap (λ n. n + c.args.count) (c.len.ensures ∙ long) in
    taken c.args.bytes.now.items c.resize.new.self.items _ _
    (zeros_there c.args.count)
    (c.in_ok-resize.ensures.items ∙ grown c.args.bytes.now.items c.in_ok-length.length (vec_len c.args.bytes.now) c.args.count long sum)
