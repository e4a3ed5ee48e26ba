-- A volume of which nothing was asked yet is served rightly.
use Rattle.std.specs.Prelude.{◌≡◌, [], All, IfSome, Option, Some, None}
use Rattle.std.proofs.Common.{refl, arith, sym, subst, ⊎_elim, true≢false}
use Rattle.tape_types.specs.declared.cartridges.Cartridge.{Cartridge}
use Rattle.tape_types.specs.declared.moments.Moment.{Moment}
use Rattle.plain_tree.specs.declared.calls.Placed.{Placed}
use Rattle.cartridge_meaning.specs.Carried.{carried}
use Rattle.block_cache.proofs.LawLemmas.{caches_stay}
use Rattle.promises.specs.ServingPromise.Cached.{AreOnTape}
use Rattle.promises.specs.ServingPromise.Crash.{IsSound, Meaning, SurvivesCrashes}
use Rattle.promises.specs.ServingPromise.Ends.{begun}
use Rattle.promises.specs.ServingPromise.Served.{CanTell, Drive, Fixed, IsOrderly, IsServed, IsTrue, tree_after}

-- no placement has another moment
at_no_place : (moment : Option Moment) → IfSome moment (λ m. All (λ (p : Placed). p.at ≡ m) [])
at_no_place None = tt
at_no_place (Some m) = λ k d less. absurd (omega (arith, less))

orderly : {D : Type 0} (first : Drive) (fixed : Fixed D) (next : Option Moment) → IsOrderly first first (begun fixed next)
orderly first fixed next = record {
  placed = record { in_order = λ who. refl; within = λ who. omega arith };
  moments = at_no_place fixed.moment;
  trail = refl;
  standing = refl;
  waiting = record { none_yet = λ k e. cc; waits = λ k e. cc };
  syncs = refl;
  acks = record { places = refl; events = refl; rising = λ i j d less within. absurd (omega (arith, within)) };
  reached = λ ack has. absurd (omega (arith, has.1));
  faults = record { calls = λ k. refl; sessions = λ who. refl; rises = omega arith };
  marks = record {
    sessions_are = λ k d less. absurd (omega (arith, less));
    places = λ who. refl;
    hands = λ who k reply has. absurd (omega (arith, has.1));
    drains = λ who e. cc;
    drained = λ who either. absurd (⊎_elim (λ e. true≢false (sym e)) (λ less. omega (arith, less)) either);
  };
  limits = refl;
  untold = λ e. e;
  cached = record { read = λ k d less. absurd (omega (arith, less)); kept = caches_stay.begins };
}

-- nothing is kept yet
none_kept : (told : Option Cartridge) → IfSome told (λ c. AreOnTape c [])
none_kept None = tt
none_kept (Some c) = λ k d less. absurd (omega (arith, less))

truly : {D : Type 0} (first : Drive) (fixed : Fixed D) (next : Option Moment) → IsTrue first (begun fixed next)
truly first fixed next = record { replies = record { count = refl; each = λ k p reply e. cc }; ops = refl; standing = refl }

crash : {D : Type 0} (m : Meaning) (first : Drive) (fixed : Fixed D) (next : Option Moment)
    → CanTell (λ c. m.Stands c (carried fixed.mounted.index) fixed.tree fixed.mounted.newest × IsSound m c) fixed.since first
    → SurvivesCrashes m (carried fixed.mounted.index) (tree_after (begun fixed next)) 0 [] first.leavings fixed.since
crash m first fixed next can = record {
  always = λ image left. (record {
    count = 0;
    not_before = omega arith;
    not_after = omega arith;
    generation = fixed.mounted.newest;
    stands = subst (λ (c : Cartridge). m.Stands c (carried fixed.mounted.index) fixed.tree fixed.mounted.newest) (sym (can.sure image left)) can.reads_as.0;
  });
  sound = λ image left. subst (λ (c : Cartridge). IsSound m c) (sym (can.sure image left)) can.reads_as.1;
  acknowledged = λ ack has. absurd (omega (arith, has.1));
}

-- a volume of which nothing was asked yet is served rightly
pub begins_served : {D : Type 0} (m : Meaning) (first : Drive) (fixed : Fixed D) (next : Option Moment) → IsServed m first first (begun fixed next)
begins_served m first fixed next = record { orderly = orderly first fixed next; truly = λ can. truly first fixed next; cached = none_kept first.held; crash = λ can. crash m first fixed next can }
