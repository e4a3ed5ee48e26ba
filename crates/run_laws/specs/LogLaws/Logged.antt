-- What the log of a served volume tells beside its replies: which blocks were asked for, when writes were put off,
-- which ops each sync ends, and from where on files may go to the index partition.
use Rattle.std.specs.Prelude.{ℕ, List, Option}
use Rattle.plain_tree.specs.declared.calls.Placed.{Placed}
use Rattle.session_script.specs.Grammar.{calls_of}
use Rattle.session_script.specs.declared.logs.Event.{Event}
use Rattle.cartridge_meaning.specs.Carried.{carried}
use Rattle.space_laws.specs.Standing.{Given}
use Rattle.promises.specs.ServingPromise.Asking.{AreAsked, AreGrouped, AreNeeded, AreOfReads, ArePutOff}
use Rattle.promises.specs.ServingPromise.Crash.{Meaning}
use Rattle.promises.specs.ServingPromise.Headline.{IsOn}
use Rattle.promises.specs.ServingPromise.Served.{CanTell, Drive, View, given}

-- of a history with its events, where the drive told a cartridge that reads as the tree
pub record IsAskedRightly (g : Given) (on : Option ℕ) (history : List Placed) (events : List Event) : Type 0 where
  pub on_is : IsOn g events history on
  pub blocks : AreNeeded g on history events
  pub asked : AreAsked g on history events
  pub groups : AreGrouped g on history events
  pub drains : ArePutOff g on history events

pub record IsLogged {D : Type 0} (m : Meaning) (first : Drive) (v : View D) : Type 0 where
  pub reads : AreOfReads (calls_of v.fixed.script) v.history v.events
  pub truly : CanTell
      (λ c. m.Reads c (carried v.fixed.mounted.index) v.fixed.tree v.fixed.mounted.newest) v.fixed.since first
      → IsAskedRightly (given v first) v.on v.history v.events
