use Rattle.std.proofs.Common.{ℕ, List, [], ◌≡◌, ◌∙◌, ap, subst}
use Rattle.std.specs.Prelude.{IfOk}
use Rattle.byte_disk.specs.Files.{Files}
use Rattle.byte_disk.specs.Images.{crash_image}
use Rattle.byte_disk.specs.Memory.{View, made}
use Rattle.byte_disk.specs.Mixed.{mixed}
use Rattle.byte_disk.proofs.memory.MemDisk.crash_by.Goals as goal

pub returns-clause-image : goal.returns-clause-image
returns-clause-image c =
    let v = c.args.self.now in
    let files : List ℕ → List ℕ → List ℕ → Files = λ ip dp cm. record { ip = ip; dp = dp; cm = cm } in
    let ip : List ℕ = c.as_slice.result.now in
    let dp : List ℕ = c.as_slice-2.result.now in
    let cm : List ℕ = c.as_slice-3.result.now in
    let all : Files = mixed c.args.seed v.held v.acts in
    let is : files ip dp cm ≡ all =
    ap (λ (l : List ℕ). files l dp cm) (c.as_slice.ensures.value ∙ c.in_ok-ip.ensures)
    ∙ ap (λ (l : List ℕ). files all.ip l cm) (c.as_slice-2.ensures.value ∙ c.in_ok-dp.ensures)
    ∙ ap (λ (l : List ℕ). files all.ip all.dp l) (c.as_slice-3.ensures.value ∙ c.in_ok-cm.ensures) in
    subst (λ (choice : Files). IfOk c.crash_with.result (λ (d : View). d ≡ made (crash_image v.held v.acts choice) [])) is c.crash_with.ensures.image
