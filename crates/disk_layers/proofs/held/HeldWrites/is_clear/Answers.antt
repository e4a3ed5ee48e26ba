use Rattle.std.proofs.Common.{◌≡◌, ◌+◌, subst, true}
use Rattle.disk_layers.specs.Held.{IsClear}
use Rattle.disk_layers.proofs.held.HeldWrites.is_clear.Goals as goal

pub returns : goal.returns
returns g c = subst (λ v. c.is_clear.result ≡ true → IsClear v.run c.args.file (c.args.at + c.args.count)) c.self.view_is c.is_clear.ensures
