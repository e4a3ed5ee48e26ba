use Rattle.std.proofs.Common.{arith, rules, ℕ, ◌∙◌, ap, length, List}
use Rattle.image_format.specs.declared.values.Half.{Half}
use Rattle.image_format.specs.Records.{head_bytes}
use Rattle.image_tape.specs.Halves.{half_of}
use Rattle.image_tape.proofs.Behind.{behind_at, ends_within, head_size, more_hides, next_within, no_hides, record_behind, then_hides}
use Rattle.image_tape.proofs.Blaming.{end_blame}
use Rattle.image_tape.proofs.tape.ImageTape.write_record.Goals as goal

pub returns-then-end-clause-hides : goal.returns-then-end-clause-hides
returns-then-end-clause-hides g c = more_hides g.B.ByteDisk 0 2 _ _ (omega arith) (no_hides g.B.ByteDisk c.args.self.now)

pub write_behind-requires-clause-within : goal.write_behind-requires-clause-within
write_behind-requires-clause-within g c =
    ends_within g.B.ByteDisk c.args.part _ _ c.half_of-end.result.end c.self.view_is c.self.invariant c.requires.settled (ap (λ (h : Half). h.end) c.half_of-end.ensures)

pub returns-in-Err-clause-hides : goal.returns-in-Err-clause-hides
returns-in-Err-clause-hides g c = more_hides g.B.ByteDisk 1 2 _ _ (omega arith) c.write_behind.ensures.hides

pub write_behind-requires-2-clause-within : goal.write_behind-requires-2-clause-within
write_behind-requires-2-clause-within g c =
    next_within g.B.ByteDisk c.args.part c.args.self.now c.write_behind.new.self c.write_behind.result c.half_of-end.result.end c.encode_head.result 5
    (ap (λ (l : List ℕ). length l) c.encode_head.ensures ∙ head_size c.args.head) c.write_behind.ensures.untold c.in_default.ensures.told

pub returns-clause-hides : goal.returns-clause-hides
returns-clause-hides g c = then_hides g.B.ByteDisk 1 1 _ _ _ c.write_behind.ensures.hides c.write_behind-2.ensures.hides

pub returns-clause-behind : goal.returns-clause-behind
returns-clause-behind g c =
    behind_at g.B.ByteDisk c.args.part c.write_behind-2.result c.write_behind-2.new.self c.half_of-end.result.end (half_of c.args.part c.args.self.now.reads).end c.encode_head.result
    (head_bytes c.args.head) c.args.bytes.now (ap (λ (h : Half). h.end) c.half_of-end.ensures ∙ ap (λ v. (half_of c.args.part v.reads).end) c.self.view_is) c.encode_head.ensures
    (record_behind g.B.ByteDisk c.args.part c.args.self.now c.write_behind.new.self c.write_behind-2.new.self c.write_behind-2.result c.half_of-end.result.end c.encode_head.result
    c.args.bytes.now 5 (ap (λ (l : List ℕ). length l) c.encode_head.ensures ∙ head_size c.args.head)
    (ends_within g.B.ByteDisk c.args.part _ _ c.half_of-end.result.end c.self.view_is c.self.invariant c.requires.settled (ap (λ (h : Half). h.end) c.half_of-end.ensures))
    c.write_behind.ensures.untold c.write_behind-2.ensures.untold c.in_default.ensures.told c.write_behind-2.ensures.told)

pub returns-then-end-clause-blamed : goal.returns-then-end-clause-blamed
returns-then-end-clause-blamed g c =
    end_blame g.B.ByteDisk _ c.args.part _ _ c.half_of-end.result.end c.self.view_is c.self.invariant c.requires.settled (ap (λ (h : Half). h.end) c.half_of-end.ensures) (search rules)
