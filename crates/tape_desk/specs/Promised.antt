-- What stays true of a volume whatever its sessions ask of it.
use Rattle.std.specs.Prelude.{◌≡◌, length}
use Rattle.tape_drive.specs.declared.drive.Drive.{Ghosts}
use Rattle.promises.specs.ServingPromise.Meanings.{cartridges}
use Rattle.promises.specs.ServingPromise.Served.{IsServed, View}
use Rattle.promises.specs.OrderLaws.Kept.{seen}
use Rattle.run_laws.specs.LogLaws.Acts.{IsGone}
use Rattle.run_laws.specs.LogLaws.Logged.{IsLogged}

-- all that is promised of a served volume and of its log; each step of it was an act of the drive; and each placement has
-- its place among the replies
pub record IsPromised {D : Type 0} (drive : Ghosts D) (v : View D) : Type 0 where
  pub served : IsServed cartridges (seen drive v.fixed.first) (seen drive v.drive) v
  pub logged : IsLogged cartridges (seen drive v.fixed.first) v
  pub gone : IsGone drive cartridges v
  pub count : length v.replies ≡ length v.history
