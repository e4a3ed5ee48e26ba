use Rattle.std.specs.Prelude.{◌≤◌, vec_capacity}
use Rattle.std.proofs.Common.{sym, subst}
use Rattle.run_laws.proofs.LogLaws.Loading.{submission_adds}
use Rattle.volume_core.specs.VolumeSteps.Seen.{seen_parts}
use Rattle.volume_core.specs.Serving.{fixed_of, next_moment}
use Rattle.volume_core.specs.Turns.{told}
use Rattle.volume_core.proofs.Submissions.{Serves, can_of, serves}
use Rattle.volume_core.proofs.volume.Volume.submit.Given.{Over}
use Rattle.volume_core.proofs.volume.Volume.submit.Goals as goal
use Rattle.volume_core.proofs.volume.Volume.submit.Goals.{After-submit}

-- what holds once the call is placed or put off
module _ (g : Over) (c : After-submit g) where
  done : Serves g.D.Drive
      (fixed_of g.D.Drive.held c.self.inside.script c.self.inside.mounted.value c.self.inside.first.value
      c.self.inside.stock.value.tree (g.C.Clock.one c.self.inside.watch.value) c.self.inside.since.value)
      (told (g.C.Clock.one c.self.inside.clock) (g.C.Clock.next c.self.inside.clock))
      (told (g.C.Clock.one c.submit.new.clock) (g.C.Clock.next c.submit.new.clock)) c.args.who c.args.nth c.submit.result
      c.args.self.now (seen_parts c.self.inside.parts) (seen_parts c.submit.new.parts)
  done =
      let s = c.self.inside in
      let e = c.submit.ensures in
      serves g.D.Drive g.met.D.Drive.only_now
      (fixed_of g.D.Drive.held s.script s.mounted.value s.first.value s.stock.value.tree (g.C.Clock.one s.watch.value)
      s.since.value)
      (told (g.C.Clock.one s.clock) (g.C.Clock.next s.clock))
      (told (g.C.Clock.one c.submit.new.clock) (g.C.Clock.next c.submit.new.clock)) c.args.who c.args.nth
      c.call-call.result.now c.submit.result c.args.self.now (seen_parts s.parts) (seen_parts c.submit.new.parts)
      c.self.invariant.0 e.good c.self.view_is c.requires c.call-call.ensures e.answered e.put_off e.submits

pub call-call-requires : goal.call-call-requires
call-call-requires g c = (can_of c.args.who c.args.nth c.self.view_is c.requires).more

pub submit-requires : goal.submit-requires
submit-requires g c =
    let s = c.self.inside in
    record {
      runs = record {
        fixed = fixed_of g.D.Drive.held s.script s.mounted.value s.first.value s.stock.value.tree
            (g.C.Clock.one s.watch.value) s.since.value;
        next = next_moment (g.C.Clock.one s.clock) (g.C.Clock.next s.clock);
        runs = c.self.invariant.0.runs;
        can = can_of c.args.who c.args.nth c.self.view_is c.requires;
        is_call = c.call-call.ensures;
      };
    }

pub invariant_of-self : goal.invariant_of-self
invariant_of-self g c = (
  (done g c).serving,
  c.self.invariant.1,
  subst (λ n. n ≤ vec_capacity c.self.inside.told) (sym (done g c).calls) c.self.invariant.2,
  c.self.invariant.3,
)

pub returns-clause-served : goal.returns-clause-served
returns-clause-served g c = (done g c).served

pub returns-clause-submits : goal.returns-clause-submits
returns-clause-submits g c = (done g c).submits

pub returns-clause-load : goal.returns-clause-load
returns-clause-load g c =
    submission_adds _ _ _ _ c.args.who c.args.nth c.submit.result (done g c).served.orderly.trail (done g c).submits
