use Rattle.std.proofs.Common.{◌∙◌, ◌∷◌, [], ◌++◌, ap, sym}
use Rattle.image_format.specs.declared.values.Half.{Half}
use Rattle.image_format.specs.Offsets.{offsets_of, with_offsets}
use Rattle.image_format.specs.Records.{head_bytes}
use Rattle.image_tape.proofs.Shaping.{count_at, end_at, puts_more, puts_torn, stand_at}
use Rattle.image_tape.proofs.tape.ImageTape.put.Goals as goal

pub invariant_of-self : goal.invariant_of-self
invariant_of-self g c =
    (puts_more g.B.ByteDisk c.args.part c.args.self.now _ c.write_record.new.self c.self.view_is c.self.invariant c.requires.settled c.in-Ok.ensures.hides c.in-Ok.ensures.alike
    c.saturating_add.result c.saturating_add-more.result c.push.new.self c.ended-self-inside.result c.requires.sound.0 c.requires.sound.1 c.requires.room
    (count_at g.B.ByteDisk c.args.part c.args.self.now _ c.write_record.new.self c.self.view_is c.self.invariant c.requires.settled c.in-Ok.ensures.hides c.in-Ok.ensures.alike
    c.saturating_add.result c.saturating_add-more.result c.push.new.self c.ended-self-inside.result c.requires.sound.0 c.half_of-count.result.count c.saturating_add.result
    (ap (λ (h : Half). h.count) c.half_of-count.ensures) c.saturating_add.ensures)
    (end_at g.B.ByteDisk c.args.part c.args.self.now _ c.write_record.new.self c.self.view_is c.self.invariant c.requires.settled c.in-Ok.ensures.hides c.in-Ok.ensures.alike
    c.saturating_add.result c.saturating_add-more.result c.push.new.self c.ended-self-inside.result c.requires.sound.0 c.args.head c.args.bytes.now c.half_of-count.result.end
    c.saturating_add-more.result c.requires.sound.2 c.requires.size (ap (λ (h : Half). h.end) c.half_of-count.ensures) c.saturating_add-more.ensures)
    (stand_at g.B.ByteDisk c.args.part c.args.self.now _ c.write_record.new.self c.self.view_is c.self.invariant c.requires.settled c.in-Ok.ensures.hides c.in-Ok.ensures.alike
    c.saturating_add.result c.saturating_add-more.result c.push.new.self c.ended-self-inside.result c.requires.sound.0 (head_bytes c.args.head ++ c.args.bytes.now) c.in-Ok.ensures.behind (sym c.requires.sound.2))
    (c.push.ensures ∙ ap (λ (h : Half). with_offsets c.args.part (offsets_of c.args.part c.self.inside.room ++ h.end ∷ []) c.self.inside.room) c.half_of-count.ensures)
    c.ended-self-inside.ensures).0

pub returns-in-Ok-clause-puts : goal.returns-in-Ok-clause-puts
returns-in-Ok-clause-puts g c = λ x sound same.
    (puts_more g.B.ByteDisk c.args.part c.args.self.now _ c.write_record.new.self c.self.view_is c.self.invariant c.requires.settled c.in-Ok.ensures.hides c.in-Ok.ensures.alike
    c.saturating_add.result c.saturating_add-more.result c.push.new.self c.ended-self-inside.result x sound c.requires.room
    (count_at g.B.ByteDisk c.args.part c.args.self.now _ c.write_record.new.self c.self.view_is c.self.invariant c.requires.settled c.in-Ok.ensures.hides c.in-Ok.ensures.alike
    c.saturating_add.result c.saturating_add-more.result c.push.new.self c.ended-self-inside.result x c.half_of-count.result.count c.saturating_add.result
    (ap (λ (h : Half). h.count) c.half_of-count.ensures) c.saturating_add.ensures)
    (end_at g.B.ByteDisk c.args.part c.args.self.now _ c.write_record.new.self c.self.view_is c.self.invariant c.requires.settled c.in-Ok.ensures.hides c.in-Ok.ensures.alike
    c.saturating_add.result c.saturating_add-more.result c.push.new.self c.ended-self-inside.result x c.args.head c.args.bytes.now c.half_of-count.result.end
    c.saturating_add-more.result same c.requires.size (ap (λ (h : Half). h.end) c.half_of-count.ensures) c.saturating_add-more.ensures)
    (stand_at g.B.ByteDisk c.args.part c.args.self.now _ c.write_record.new.self c.self.view_is c.self.invariant c.requires.settled c.in-Ok.ensures.hides c.in-Ok.ensures.alike
    c.saturating_add.result c.saturating_add-more.result c.push.new.self c.ended-self-inside.result x (head_bytes c.args.head ++ c.args.bytes.now) c.in-Ok.ensures.behind (sym same))
    (c.push.ensures ∙ ap (λ (h : Half). with_offsets c.args.part (offsets_of c.args.part c.self.inside.room ++ h.end ∷ []) c.self.inside.room) c.half_of-count.ensures)
    c.ended-self-inside.ensures).1

pub invariant_of-self-in-Err : goal.invariant_of-self-in-Err
invariant_of-self-in-Err g c =
    (puts_torn g.B.ByteDisk c.args.part c.args.self.now _ c.write_record.new.self c.self.view_is c.self.invariant c.requires.settled c.in-Err.ensures.hides
    c.in-Err.ensures.alike c.half_of-count-in-Err.result.count c.half_of-count-in-Err.result.end c.self.inside.room c.ended-self-inside-in-Err.result c.requires.sound.0 c.in-Err.why c.requires.room
    (ap (λ (h : Half). h.count) c.half_of-count-in-Err.ensures) (ap (λ (h : Half). h.end) c.half_of-count-in-Err.ensures) c.ended-self-inside-in-Err.ensures).0

pub returns-in-Err-clause-puts : goal.returns-in-Err-clause-puts
returns-in-Err-clause-puts g c = λ x sound same.
    (puts_torn g.B.ByteDisk c.args.part c.args.self.now _ c.write_record.new.self c.self.view_is c.self.invariant c.requires.settled c.in-Err.ensures.hides
    c.in-Err.ensures.alike c.half_of-count-in-Err.result.count c.half_of-count-in-Err.result.end c.self.inside.room c.ended-self-inside-in-Err.result x c.in-Err.why c.requires.room
    (ap (λ (h : Half). h.count) c.half_of-count-in-Err.ensures) (ap (λ (h : Half). h.end) c.half_of-count-in-Err.ensures) c.ended-self-inside-in-Err.ensures).1
