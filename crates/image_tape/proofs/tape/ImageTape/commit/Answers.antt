use Rattle.std.proofs.Common.{rules, ◌∙◌, Result, Err, ap, refl}
use Rattle.image_slots.specs.declared.errors.SetErr.{SetErr}
use Rattle.image_tape.proofs.Setting.{commit_is_open, commit_is_set, commit_is_spent, commit_kept, commit_open, commit_refused, commit_taken}
use Rattle.image_tape.proofs.Blaming.{spent_blame}
use Rattle.image_tape.proofs.tape.ImageTape.commit.Goals as goal

abbrev failing : SetErr → Result (Unit {0}) SetErr
failing why = Err why

pub returns-in_default-clause-commit : goal.returns-in_default-clause-commit
returns-in_default-clause-commit g c =
    commit_refused g.B.ByteDisk _ _ c.args.value c.args.reads _ c.self.view_is c.self.invariant c.requires.settled c.requires.stands

pub invariant_of-self : goal.invariant_of-self
invariant_of-self g c =
    commit_kept g.B.ByteDisk _ _ c.set.new.self c.args.value c.with_serial-value.result c.args.reads c.in-Some.serial c.encode_value.result c.behind_serial.result c.set.result
    c.self.view_is c.self.invariant c.requires.settled c.requires.stands c.requires.holds (search rules) c.with_serial-value.ensures c.fields_are_sized.ensures c.encode_value.ensures
    c.behind_serial.ensures c.set.ensures c.known_values_are_left.ensures c.get-value.ensures.kept c.cut_to.new.room c.self.inside.doubt c.cut_to.ensures refl c.in-Ok.is

pub invariant_of-self-in-Err-Disk : goal.invariant_of-self-in-Err-Disk
invariant_of-self-in-Err-Disk g c =
    commit_open g.B.ByteDisk _ _ c.set.new.self c.args.value c.with_serial-value.result c.args.reads c.in-Some.serial c.encode_value.result c.behind_serial.result c.set.result
    c.self.view_is c.self.invariant c.requires.settled c.requires.stands c.requires.holds (search rules) c.with_serial-value.ensures c.fields_are_sized.ensures c.encode_value.ensures
    c.behind_serial.ensures c.set.ensures c.requires.vcr

pub returns-in-Ok-clause-commit : goal.returns-in-Ok-clause-commit
returns-in-Ok-clause-commit g c =
    commit_is_set g.B.ByteDisk _ _ c.set.new.self c.args.value c.with_serial-value.result c.args.reads c.in-Some.serial c.encode_value.result c.behind_serial.result c.set.result
    c.self.view_is c.self.invariant c.requires.settled c.requires.stands c.requires.holds (search rules) c.with_serial-value.ensures c.fields_are_sized.ensures c.encode_value.ensures
    c.behind_serial.ensures c.set.ensures c.requires.vcr c.known_values_are_left.ensures c.get-value.ensures.kept c.cut_to.new.room c.self.inside.doubt c.cut_to.ensures refl
    c.in-Ok.is

pub returns-in-Ok-clause-set : goal.returns-in-Ok-clause-set
returns-in-Ok-clause-set g c =
    commit_taken g.B.ByteDisk _ _ c.set.new.self c.args.value c.with_serial-value.result c.args.reads c.in-Some.serial c.encode_value.result c.behind_serial.result c.set.result
    c.self.view_is c.self.invariant c.requires.settled c.requires.stands c.requires.holds (search rules) c.with_serial-value.ensures c.fields_are_sized.ensures c.encode_value.ensures
    c.behind_serial.ensures c.set.ensures c.cut_to.new.room c.self.inside.doubt c.cut_to.ensures refl

pub returns-in-Err-Serial-clause-commit : goal.returns-in-Err-Serial-clause-commit
returns-in-Err-Serial-clause-commit g c =
    commit_is_spent g.B.ByteDisk _ _ c.set.new.self c.args.value c.with_serial-value.result c.args.reads c.in-Some.serial c.encode_value.result c.behind_serial.result c.set.result
    c.self.view_is c.self.invariant c.requires.settled c.requires.stands c.requires.holds (search rules) c.with_serial-value.ensures c.fields_are_sized.ensures c.encode_value.ensures
    c.behind_serial.ensures c.set.ensures _ (c.in-Err-Serial.is ∙ ap (λ (w : SetErr). failing w) c.in-Err-Serial.field-0-is)

pub returns-in-Err-Disk-clause-commit : goal.returns-in-Err-Disk-clause-commit
returns-in-Err-Disk-clause-commit g c =
    commit_is_open g.B.ByteDisk _ _ c.set.new.self c.args.value c.with_serial-value.result c.args.reads c.in-Some.serial c.encode_value.result c.behind_serial.result c.set.result
    c.self.view_is c.self.invariant c.requires.settled c.requires.stands c.requires.holds (search rules) c.with_serial-value.ensures c.fields_are_sized.ensures c.encode_value.ensures
    c.behind_serial.ensures c.set.ensures _ c.requires.later

pub returns-in-Err-Serial-clause-blamed : goal.returns-in-Err-Serial-clause-blamed
returns-in-Err-Serial-clause-blamed g c =
    spent_blame g.B.ByteDisk _ _ _ c.set.new.self c.behind_serial.result c.in-Some.serial c.set.result c.self.view_is c.self.invariant c.requires.settled (search rules) (search rules)
    c.set.ensures (c.in-Err-Serial.is ∙ ap (λ (w : SetErr). failing w) c.in-Err-Serial.field-0-is)
