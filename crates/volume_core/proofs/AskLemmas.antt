-- What a submission needs of the parts of a volume that runs.
use Rattle.std.specs.Prelude.{ℕ, ◌≡◌, ◌&&◌, ◌||◌, not, nat_lt, ◌<◌, ◌≤◌, Bool, true, false, length, map, None}
use Rattle.std.proofs.Common.{inl, refl, sym, ap, subst, ◌∙◌, arith}
use Rattle.std.proofs.lemmas.Bool.{false_from_ne_true, lt-ltb}
use Rattle.std.proofs.lemmas.List.{length-map}
use Rattle.tape_drive.specs.declared.drive.Drive.{Ghosts}
use Rattle.plain_tree.specs.History.{numbers_of}
use Rattle.plain_tree.specs.declared.calls.Call.{Call}
use Rattle.session_script.specs.Grammar.{calls_of}
use Rattle.session_script.specs.Sessions.{greatest_session}
use Rattle.session_script.specs.declared.logs.Event.TheVariants.{Drains}
use Rattle.head_queue.specs.EventLaws.Trail.{allows, drains_now}
use Rattle.head_queue.specs.EventLaws.Waiting.{is_due, ops}
use Rattle.promises.specs.ServingPromise.Marks.{draining, idle, places_of}
use Rattle.promises.specs.ServingPromise.Served.{View, given, headed}
use Rattle.promises.specs.OrderLaws.Kept.{seen}
use Rattle.promises.specs.OrderLaws.Laws.{IsInOrder}
use Rattle.promises.proofs.OrderLaws.Placing.{as_many_places}
use Rattle.promises.proofs.OrderLaws.Views.{session_is}
use Rattle.promises.specs.ReplyLaws.Sides.{on_here, standing_here}
use Rattle.event_journal.specs.Trails.{state}
use Rattle.volume_state.specs.StateLaws.Parts.{Parts, view_of}
use Rattle.volume_core.specs.VolumeSteps.Asking.{CanAsk, CanPlace, Stands}
use Rattle.volume_core.specs.VolumeSteps.Wanted.{CanWantBlocks}
use Rattle.volume_core.proofs.VolumeSteps.QueueLemmas.{none_is_due}
use Rattle.volume_core.proofs.VolumeSteps.TiedLemmas.{can_want}
use Rattle.volume_core.specs.Turns.{RunsFor}
use Rattle.volume_core.proofs.Counting.{calls_left}

allowed : (many drains due : Bool) → many ≡ true → drains ≡ false → due ≡ false
    → ((many && not drains) && (not due || false)) ≡ true
allowed true false false a b c = refl
allowed false drains due a b c = absurd cc
allowed true true due a b c = absurd cc
allowed true false true a b c = absurd cc

module _ {D : Type 0} (drive : Ghosts D) (who nth : ℕ) (call : Call) (p : Parts D)
    (r : RunsFor drive who nth call p) where
  abbrev seen_now : View D
  seen_now = view_of r.fixed r.next p

  in_order : IsInOrder drive seen_now
  in_order = r.runs.kept.order

  -- the ops that stand are those of the events
  ops_stand : map headed p.stock.layout.ops ≡ ops (state p.trail)
  ops_stand = in_order.orderly.standing

  pub ops_count : length (ops (state p.trail)) ≡ length p.stock.layout.ops
  ops_count = sym (ap length ops_stand) ∙ length-map p.stock.layout.ops headed

  in_script : (1 ≤ who) × (who ≤ greatest_session r.fixed.script)
  in_script = session_is who r.fixed.script in_order.sessions (let more = r.can.more in omega (arith, more))

  placed_so_far : length (numbers_of p.listed.history who) < length (calls_of r.fixed.script who)
  placed_so_far =
      let next : nth ≡ length (places_of who p.listed.marks) = r.can.next in
      let more : nth < length (calls_of r.fixed.script who) = r.can.more in
      let count = ap length (in_order.orderly.marks.places who) ∙ as_many_places who p.listed.history in
      omega (arith, next, more, count)

  can_place : CanPlace who p.listed
  can_place = record {
    low = in_script.0;
    high = subst (λ n. who ≤ n) (sym r.runs.tied.sessions) in_script.1;
    free = r.can.free;
    room = subst (λ n. length p.listed.history < n) (sym r.runs.tied.calls)
        (calls_left r.fixed.script p.listed.history who in_order.orderly.placed placed_so_far);
  }

  -- a volume that runs may be asked for the next call of a session
  pub can_ask : CanAsk who p
  can_ask = record { place = can_place; trail = in_order.orderly.trail; none_due = r.runs.tied.none_due }

  -- what is held of a volume that runs is what stands
  pub stands : Stands p
  stands = record {
    planned = r.runs.planned;
    g = given (view_of r.fixed None p) (seen drive r.fixed.first);
    on = on_here (seen drive r.fixed.first) (view_of r.fixed None p);
    st = standing_here (seen drive r.fixed.first) (view_of r.fixed None p);
    stock = r.runs.tied.stock;
    ends = r.runs.tied.ends;
    plan = r.runs.tied.plan;
    ops = ops_count;
  }

  -- a read of a volume that runs may want blocks
  pub can_want_blocks : CanWantBlocks p
  can_want_blocks = can_want drive r.fixed r.runs.planned p r.runs.tied ops_stand

  drains_not : drains_now (state p.trail) who ≡ false
  drains_not = false_from_ne_true (drains_now (state p.trail) who)
      (λ drains. let no : idle ≡ draining = sym r.can.free ∙ in_order.orderly.marks.drained who (inl drains) in cc)

  -- where there is no room, the session may begin to drain
  pub may_drain : 64 < length p.stock.layout.ops → allows (state p.trail) (Drains who) ≡ true
  may_drain many =
      allowed (nat_lt 64 (length (ops (state p.trail)))) (drains_now (state p.trail) who) (is_due (state p.trail))
      (lt-ltb 64 (length (ops (state p.trail))) (omega (arith, many, ops_count))) drains_not
      (none_is_due (state p.trail) r.runs.tied.none_due)
