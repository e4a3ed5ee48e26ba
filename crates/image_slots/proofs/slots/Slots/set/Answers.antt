use Rattle.std.proofs.Common.{rules, arith, ℕ, ◌+◌, ◌-◌, ◌^◌, ◌<◌, ◌≡◌, ◌∙◌, ◌++◌, Err, ap, sym, subst}
use Rattle.std.specs.Int.{w64, to_be_bytes}
use Rattle.image_slots.specs.declared.errors.SetErr.TheVariants.{Serial}
use Rattle.image_slots.specs.Slots.{serial_of}
use Rattle.image_slots.specs.State.{IsSet, next_value}
use Rattle.image_slots.proofs.Upkeep.{kept_failed, kept_set, kept_size, set_done, set_failed, set_spent, steady_ready, steady_at}
use Rattle.image_slots.proofs.slots.Slots.set.Goals as goal

pub commit-requires : goal.commit-requires
commit-requires g c = record { size = kept_size g.B.ByteDisk _ c.self.invariant }

pub returns-then-serial : goal.returns-then-serial
returns-then-serial g c =
    let last : c.serial_of-serial.result ≡ 2 ^ 64 - 1 = search rules in
    subst (λ v. IsSet g.B.ByteDisk c.args.rest.now (Err Serial) v v) c.self.view_is
    (set_spent g.B.ByteDisk _ c.args.rest.now c.self.invariant (steady_at _ _ c.self.view_is c.requires) (sym c.serial_of-serial.ensures ∙ last))

pub invariant_of-self : goal.invariant_of-self
invariant_of-self g c =
    let m = c.self.inside in
    let less : serial_of m.value < serial_of c.value_of-value.result = omega (arith, c.value_of-value.ensures.serial, c.serial_of-serial.ensures) in
    let steady = steady_at _ _ c.self.view_is c.requires in
    let ready = steady_ready g.B.ByteDisk _ c.self.invariant steady in
    kept_set g.B.ByteDisk tt _ c.commit.new.disk c.other-self-inside.result c.value_of-value.result c.other-self-inside.ensures c.self.invariant steady (c.in-Ok.ensures m.value less ready)

pub returns-in-Ok : goal.returns-in-Ok
returns-in-Ok g c =
    let m = c.self.inside in
    let less : serial_of m.value < serial_of c.value_of-value.result = omega (arith, c.value_of-value.ensures.serial, c.serial_of-serial.ensures) in
    let steady = steady_at _ _ c.self.view_is c.requires in
    let ready = steady_ready g.B.ByteDisk _ c.self.invariant steady in
    let is : c.value_of-value.result ≡ next_value m.value c.args.rest.now =
    c.value_of-value.ensures.value ∙ ap (λ (n : ℕ). to_be_bytes w64 (n + 1) ++ c.args.rest.now) c.serial_of-serial.ensures in
    set_done g.B.ByteDisk _ _ c.commit.new.disk c.other-self-inside.result c.args.rest.now c.value_of-value.result tt c.self.view_is c.other-self-inside.ensures is steady (c.in-Ok.ensures m.value less ready)

pub invariant_of-self-in-Err : goal.invariant_of-self-in-Err
invariant_of-self-in-Err g c =
    let m = c.self.inside in
    let less : serial_of m.value < serial_of c.value_of-value.result = omega (arith, c.value_of-value.ensures.serial, c.serial_of-serial.ensures) in
    let steady = steady_at _ _ c.self.view_is c.requires in
    let ready = steady_ready g.B.ByteDisk _ c.self.invariant steady in
    kept_failed g.B.ByteDisk _ _ c.commit.new.disk c.value_of-value.result c.self.invariant (c.in-Err.ensures m.value less ready)

pub returns-in-Err : goal.returns-in-Err
returns-in-Err g c =
    let m = c.self.inside in
    let less : serial_of m.value < serial_of c.value_of-value.result = omega (arith, c.value_of-value.ensures.serial, c.serial_of-serial.ensures) in
    let steady = steady_at _ _ c.self.view_is c.requires in
    let ready = steady_ready g.B.ByteDisk _ c.self.invariant steady in
    let is : c.value_of-value.result ≡ next_value m.value c.args.rest.now =
    c.value_of-value.ensures.value ∙ ap (λ (n : ℕ). to_be_bytes w64 (n + 1) ++ c.args.rest.now) c.serial_of-serial.ensures in
    set_failed g.B.ByteDisk _ _ c.commit.new.disk c.args.rest.now c.value_of-value.result _ c.self.view_is is (c.in-Err.ensures m.value less ready)
