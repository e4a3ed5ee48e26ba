-- A volume stays tied as a call is placed that is done, and as its ops are admitted.
use Rattle.std.proofs.Common.{All, ◌≡◌, ℕ, ◌+◌, ◌<◌, ◌≤◌, Bool, List, [], ◌∷◌, ◌++◌, length, map, Option, Some, None, IfSome, sym, ap, ◌∙◌, subst, arith, length-append}
use Rattle.std.proofs.lemmas.List.{append_cancel_left}
use Rattle.tape_types.specs.Cartridges.{capacity}
use Rattle.tape_types.specs.declared.cartridges.Cartridge.{Cartridge}
use Rattle.tape_types.specs.declared.cartridges.Part.{Part}
use Rattle.tape_types.specs.declared.cartridges.Part.TheVariants.{Dp}
use Rattle.tape_drive.specs.declared.drive.Drive.{Ghosts}
use Rattle.plain_tree.specs.History.{call_at}
use Rattle.plain_tree.specs.declared.calls.Call.{Call}
use Rattle.plain_tree.specs.declared.calls.Fate.TheVariants as fates
use Rattle.plain_tree.specs.declared.calls.Placed.{Placed}
use Rattle.file_tree.specs.Blocks.{LiesBelow}
use Rattle.head_queue.specs.Waiting.{Waiting, request}
use Rattle.tape_layout.specs.declared.ops.Op.{Op}
use Rattle.tape_layout.specs.declared.standing.Ends.{Ends}
use Rattle.tape_layout.specs.Ops.{AreNext, after_ops, end_of}
use Rattle.space_laws.specs.Space.{Ask, Space, ops_of}
use Rattle.space_laws.specs.Space as space
use Rattle.space_laws.specs.Standing.{Given, Standing, after_done, ask_of, files_after, is_on, rules, standing}
use Rattle.promises.specs.ServingPromise.Served.{Fixed, given_of}
use Rattle.promises.specs.OrderLaws.Kept.{seen}
use Rattle.event_journal.specs.Trails.{due_ticket, state}
use Rattle.held_volume.specs.Applied.{IsDone}
use Rattle.held_volume.specs.Stocks.{IsStock, ends_of}
use Rattle.waiting_reads.specs.Gathering.{Gathering}
use Rattle.promises.specs.GroupLaws.Groups.{IsGrouped}
use Rattle.volume_state.specs.PlanLaws.Planned.{IsOnWay, IsPlan, Items, ends_in, tape_on, with_ops}
use Rattle.volume_state.proofs.PlanLaws.Admits.{ends_go_on}
use Rattle.volume_state.proofs.PlanLaws.Plans.{plans_hold}
use Rattle.volume_state.proofs.PlanLaws.Stays.{tapes_stay}
use Rattle.volume_state.proofs.PlanLaws.Ways.{ways_go_on}
use Rattle.volume_state.specs.StateLaws.Parts.{Parts}
use Rattle.volume_state.specs.StateLaws.Placing.{MovesNothing, WantsNothing}
use Rattle.volume_state.specs.StateLaws.Tied.{AreFilesRight, AreReading, IsKeptRightly, IsTied}
use Rattle.volume_state.proofs.CallLaws.Uses.{cached_more, cached_still}
use Rattle.volume_state.proofs.CallLaws.Grouped.{IsAdmitted}
use Rattle.volume_state.proofs.CallLaws.Reread.{reads_on}
use Rattle.volume_state.proofs.CallLaws.Placed.{on_stays, reached_later}
use Rattle.volume_state.proofs.CallLaws.SubmitStandings.{room_on, stands_next}

-- what the definitions of space start from
abbrev pub given_in : {D : Type 0} → Ghosts D → Fixed D → Given
given_in drive fixed = given_of fixed.script fixed.tree fixed.mounted (seen drive fixed.first)

-- where placement is on, and what stands, at the end of the history
abbrev pub on_in : {D : Type 0} → Ghosts D → Fixed D → Parts D → Bool
on_in drive fixed p = is_on (given_in drive fixed).mounted p.on (length p.listed.history)

-- what stands at the end of the parts' history
abbrev pub standing_in : {D : Type 0} → Ghosts D → Fixed D → Parts D → Standing
standing_in drive fixed p = standing (given_in drive fixed) p.on p.listed.history (length p.listed.history)

-- what the next call asks of the tape
abbrev pub ask_in : {D : Type 0} → Ghosts D → Fixed D → Parts D → Call → Placed → Ask
ask_in drive fixed p call placed = ask_of (given_in drive fixed) (standing_in drive fixed p) call placed.at

-- the space behind a call that is placed next
abbrev pub space_in : {D : Type 0} → Ghosts D → Fixed D → Parts D → Call → Placed → Space
space_in drive fixed p call placed = space.after (rules (given_in drive fixed)) (on_in drive fixed p) (standing_in drive fixed p).space
    (ask_in drive fixed p call placed)

-- a call is placed that is done, and its ops are admitted
pub record IsOne {D : Type 0} (drive : Ghosts D) (fixed : Fixed D) (planned : Items) (call : Call) (placed : Placed)
    (asked : List Op) (old new : Parts D) : Type 0 where
  pub tied : IsTied drive fixed planned old
  pub fate : placed.fate ≡ fates.Done
  pub is_call : call_at (given_in drive fixed).calls placed ≡ Some call
  pub history : new.listed.history ≡ old.listed.history ++ placed ∷ []
  pub calls : new.listed.calls ≡ old.listed.calls
  pub sessions : new.listed.sessions ≡ old.listed.sessions
  pub moves : MovesNothing old new
  pub wants : WantsNothing old new
  pub cached : new.cached ≡ old.cached
  pub done : IsDone (tape_on planned) (given_in drive fixed) (on_in drive fixed old) (standing_in drive fixed old) call placed.at
      old.stock new.stock
  pub ops : new.stock.layout.ops ≡ old.stock.layout.ops ++ asked
  pub group : IsAdmitted asked (space_in drive fixed old call placed) (state old.trail) (state new.trail)
  pub none_due : due_ticket (state new.trail) ≡ None
  pub files : AreFilesRight
      (files_after (given_in drive fixed) (on_in drive fixed old) (standing_in drive fixed old) call (ask_in drive fixed old call placed))
      (ends_in (with_ops asked planned)) (old.stock.layout.ops ++ asked)
  pub back : IfSome (space_in drive fixed old call placed).last_dp (λ pos. pos < length (with_ops asked planned Dp))

module _ {D : Type 0} (drive : Ghosts D) (fixed : Fixed D) (planned : Items) (call : Call) (placed : Placed) (asked : List Op)
    (old new : Parts D) (one : IsOne drive fixed planned call placed asked old new) where
  abbrev g : Given
  g = given_in drive fixed

  abbrev on : Bool
  on = on_in drive fixed old

  abbrev st : Standing
  st = standing_in drive fixed old

  abbrev ask : Ask
  ask = ask_in drive fixed old call placed

  abbrev behind : Standing
  behind = after_done g on st call placed.at

  abbrev tied : IsTied drive fixed planned old
  tied = one.tied

  -- the ops are those of what it asks, and come next
  pub asked_is : asked ≡ ops_of (rules g) on st.space ask
  asked_is = append_cancel_left old.stock.layout.ops asked (ops_of (rules g) on st.space ask) (sym one.ops ∙ one.done.ops)

  follows : AreNext (ends_in planned) asked
  follows = subst (λ (ops : List Op). AreNext (ends_in planned) ops) (sym asked_is)
      (subst (λ (e : Ends). AreNext e (ops_of (rules g) on st.space ask)) tied.ends (ends_go_on.admits (rules g) on st.space ask))

  longer : length new.listed.history ≡ length old.listed.history + 1
  longer = ap length one.history ∙ length-append old.listed.history (placed ∷ [])

  pub on_same : on_in drive fixed new ≡ on
  on_same = ap (λ (o : Option ℕ). is_on g.mounted o (length new.listed.history)) one.moves.on
      ∙ ap (is_on g.mounted old.on) longer
      ∙ on_stays g.mounted old.on (length old.listed.history) tied.on_is

  pub stands_behind : standing_in drive fixed new ≡ behind
  stands_behind = ap (λ (o : Option ℕ). standing g o new.listed.history (length new.listed.history)) one.moves.on
      ∙ ap (standing g old.on new.listed.history) longer
      ∙ ap (λ (h : List Placed). standing g old.on h (length old.listed.history + 1)) one.history
      ∙ stands_next g old.on old.listed.history placed call one.fate one.is_call

  on_is : IfSome new.on (λ first. first ≤ length new.listed.history)
  on_is = subst (λ (o : Option ℕ). IfSome o (λ first. first ≤ length new.listed.history)) (sym one.moves.on)
      (subst (λ (n : ℕ). IfSome old.on (λ first. first ≤ n)) (sym longer) (reached_later old.on (length old.listed.history) tied.on_is))

  some : 1 ≤ g.mounted.label.block
  some = omega (arith, tied.mount.blocks.0)

  below : LiesBelow (ends_of (ends_in planned)) old.stock.tree
  below = subst (λ (e : Ends). LiesBelow (ends_of e) old.stock.tree) tied.ends tied.stock.below

  stock : IsStock (tape_on (with_ops asked planned)) g (on_in drive fixed new) (standing_in drive fixed new) new.stock
  stock = subst (λ (b : Bool). IsStock (tape_on (with_ops asked planned)) g b (standing_in drive fixed new) new.stock) (sym on_same)
      (subst (λ (s : Standing). IsStock (tape_on (with_ops asked planned)) g on s new.stock) (sym stands_behind)
      (one.done.stands (tape_on (with_ops asked planned))
      (tapes_stay.late planned asked old.stock.tree g on st ask below asked_is tied.ends some)))

  ends_now : behind.space.ends ≡ ends_in (with_ops asked planned)
  ends_now = ends_go_on.leaves (rules g) on st.space ask
      ∙ ap (λ (e : Ends). after_ops e (ops_of (rules g) on st.space ask)) tied.ends
      ∙ ap (after_ops (ends_in planned)) (sym asked_is)
      ∙ sym (ends_go_on.ends planned asked follows)

  ends : (standing_in drive fixed new).space.ends ≡ ends_in (with_ops asked planned)
  ends = ap (λ (s : Standing). s.space.ends) stands_behind ∙ ends_now

  way : (c : Cartridge) → drive.held new.drive ≡ Some c → IsOnWay (with_ops asked planned) new.stock.layout.ops c
  way c held = subst (λ (ops : List Op). IsOnWay (with_ops asked planned) ops c) (sym one.ops)
      (ways_go_on.grows planned old.stock.layout.ops asked c (tied.way c (sym (ap drive.held one.moves.drive) ∙ held)) follows)

  abbrev held_first : Option Cartridge
  held_first = drive.held fixed.first

  room : (part : Part) → end_of part (ends_in (with_ops asked planned)) ≤ capacity part (drive.limits fixed.first)
  room part = subst (λ (e : Ends). end_of part e ≤ capacity part (drive.limits fixed.first)) ends_now
      (room_on (rules g) on st.space ask part one.done.fits
      (λ p. subst (λ (e : Ends). end_of p e ≤ capacity p (drive.limits fixed.first)) (sym tied.ends) (tied.room p)))

  reads : AreReading g new.on new.listed.history (with_ops asked planned) held_first new.stock.layout.ops (state new.trail) new.reads
  reads =
      let a = reads_on g old.on old.listed.history placed planned held_first old.stock.layout.ops asked (state old.trail) (state new.trail) follows
      one.group.requests old.reads tied.reads in
      let b = subst (λ (o : Option ℕ). AreReading g o (old.listed.history ++ placed ∷ []) (with_ops asked planned) held_first (old.stock.layout.ops ++ asked)
      (state new.trail) old.reads) (sym one.moves.on) a in
      let c = subst (λ (h : List Placed). AreReading g new.on h (with_ops asked planned) held_first (old.stock.layout.ops ++ asked)
      (state new.trail) old.reads) (sym one.history) b in
      let d = subst (λ (ops : List Op). AreReading g new.on new.listed.history (with_ops asked planned) held_first ops
      (state new.trail) old.reads) (sym one.ops) c in
      subst (λ (rs : List Gathering). AreReading g new.on new.listed.history (with_ops asked planned) held_first new.stock.layout.ops
      (state new.trail) rs) (sym one.wants.reads) d

  -- once a call is placed and its ops are admitted, the volume is tied
  pub tied_on : IsTied drive fixed (with_ops asked planned) new
  tied_on = record {
    limits = tied.limits;
    mount = tied.mount;
    told = λ none. tied.told (sym (ap drive.held one.moves.drive) ∙ none);
    queue = ap (λ (ws : List Waiting). map request ws) one.wants.waiting ∙ tied.queue ∙ sym one.group.requests;
    arrived = one.wants.arrived ∙ tied.arrived ∙ sym one.group.arrived;
    none_due = one.none_due;
    on_is = on_is;
    calls = one.calls ∙ tied.calls;
    sessions = one.sessions ∙ tied.sessions;
    stock = stock;
    ends = ends;
    back = subst (λ (s : Standing). IfSome s.space.last_dp (λ pos. pos < length (with_ops asked planned Dp))) (sym stands_behind) one.back;
    grouped = subst (λ (s : Standing). IsGrouped s.space (state new.trail)) (sym stands_behind) one.group.grouped;
    files = subst (λ (s : Standing). AreFilesRight s.files (ends_in (with_ops asked planned)) new.stock.layout.ops) (sym stands_behind)
        (subst (λ (ops : List Op). AreFilesRight behind.files (ends_in (with_ops asked planned)) ops) (sym one.ops) one.files);
    room = room;
    plan = subst (λ (ops : List Op). IsPlan (with_ops asked planned) ops) (sym one.ops)
        (plans_hold.grows planned old.stock.layout.ops asked tied.plan follows);
    way = way;
    reads = reads;
    cached = subst (λ (ops : List Op). All (IsKeptRightly (with_ops asked planned) ops held_first) new.cached) (sym one.ops)
        (cached_still (with_ops asked planned) (old.stock.layout.ops ++ asked) held_first old.cached new.cached one.cached
        (cached_more planned old.stock.layout.ops asked held_first old.cached follows tied.cached));
  }
