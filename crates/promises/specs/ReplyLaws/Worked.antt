-- A volume with one sync, before and after it, and places, on which the definitions are tried.
use Rattle.std.specs.Prelude.{ℕ, [], ◌∷◌, Some, None}
use Rattle.tape_types.specs.declared.cartridges.Part.TheVariants.{Dp}
use Rattle.tape_types.specs.declared.cartridges.Place.{Place}
use Rattle.tape_types.specs.declared.moments.Moment.{Moment}
use Rattle.plain_tree.specs.declared.calls.Answer.TheVariants as answers
use Rattle.plain_tree.specs.declared.calls.Call.TheVariants.{Sync}
use Rattle.plain_tree.specs.declared.calls.Fate.TheVariants as fates
use Rattle.session_script.specs.declared.logs.Event.TheVariants.{Syncs, Synced}
use Rattle.session_script.specs.declared.logs.Reply.TheVariants as replies
use Rattle.cartridge_meaning.specs.declared.mounted.Mounted.{Mounted}
use Rattle.space_laws.specs.Histories.{with_a}
use Rattle.promises.specs.ServingPromise.Ends.{begun}
use Rattle.promises.specs.ServingPromise.Served.{Drive, View}

abbrev pub at_end : ℕ → Place
at_end pos = record { part = Dp; pos = pos }

-- a drive that tells nothing
abbrev pub silent : Drive
silent = record {
  held = None;
  head = None;
  limits = record { cap_ip = 64; cap_dp = 64 };
  commands = 0;
  faults = 0;
  leavings = record { now = λ image. Unit {0}; since = λ t image. Unit {0} };
}

-- one session, whose one call is a sync
abbrev pub one_sync : Mounted → Moment → View ℕ
one_sync mounted at = begun (record {
  script = record { who = 1; call = Sync } ∷ [];
  tree = with_a at;
  mounted = mounted;
  first = 0;
  moment = None;
  since = 0;
}) None

-- nothing has changed, and it is answered at once
abbrev pub synced : Mounted → Moment → View ℕ
synced mounted at = record (one_sync mounted at) {
  history = record { who = 1; nth = 0; at = at; fate = fates.Done } ∷ [];
  replies = Some (replies.Answer answers.Synced) ∷ [];
  events = Syncs 0 ∷ Synced 0 ∷ [];
}
