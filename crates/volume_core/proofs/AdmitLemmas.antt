-- What a close admits of what is held, and that its ops can be done.
use Rattle.std.specs.Prelude.{ℕ, ◌≡◌, ◌≤◌, ◌+◌, Bool, true, false, List, All, Option, Some, None, is_some, Result, Ok, Err, length}
use Rattle.std.proofs.Common.{refl, sym, ap, subst, ◌∙◌, arith}
use Rattle.std.proofs.lemmas.List.Elements.{All-append}
use Rattle.std.specs.Int.{div_ceil}
use Rattle.tape_types.specs.declared.cartridges.Cartridge.{Cartridge}
use Rattle.tape_types.specs.declared.cartridges.Limits.{Limits}
use Rattle.tape_types.specs.declared.cartridges.Part.TheVariants.{Ip}
use Rattle.tape_types.specs.declared.moments.Moment.{Moment}
use Rattle.tape_drive.specs.declared.drive.Drive.{Ghosts}
use Rattle.extent_map.specs.Cells.{Tape}
use Rattle.tape_layout.specs.Ops.{AreNext, HasRoom, after_ops, construct, with_end}
use Rattle.tape_layout.specs.Plans.{AreStanding, Lead, Plan as Layout}
use Rattle.tape_layout.specs.declared.errors.AdmitErr.{AdmitErr}
use Rattle.tape_layout.specs.declared.errors.AdmitErr.TheVariants as errors
use Rattle.tape_layout.specs.declared.ops.Op.{Op}
use Rattle.tape_layout.specs.declared.standing.Ends.{Ends}
use Rattle.tape_layout.proofs.Leads.{index_leads}
use Rattle.space_laws.specs.Closing.{close_ask, close_limit, close_need, close_text, is_ip_due}
use Rattle.space_laws.specs.Space.{ops_of}
use Rattle.space_laws.specs.Standing.{Given, Standing, rules}
use Rattle.held_volume.specs.Closed.{IsDpChange, IsDpDocument, IsDpDone, IsIpDocument, IsIpEnd, IsIpFull, closed_dp}
use Rattle.held_volume.specs.Stocks.{IsStock, Stocked}
use Rattle.promises.specs.ServingPromise.Served.{Fixed, given}
use Rattle.promises.specs.OrderLaws.Kept.{seen}
use Rattle.promises.specs.ReplyLaws.Sides.{on_here, standing_here}
use Rattle.volume_state.specs.PlanLaws.Planned.{IsOnWay, ends_in, tape_on, with_ops}
use Rattle.volume_state.proofs.PlanLaws.Admits.{ends_go_on}
use Rattle.volume_state.proofs.PlanLaws.Ways.{ways_go_on}
use Rattle.volume_state.specs.StateLaws.Parts.{Parts, view_of}
use Rattle.volume_state.specs.CallLaws.Running.{IsRunning}
use Rattle.volume_core.specs.Doing.{CanDoAll}
use Rattle.volume_core.specs.Finish.{AdmitsOnDp, AdmitsOnIp, IsAdmittedOnIp, IsShortOnDp, IsShortOnIp}

-- the texts that are due
abbrev pub AreTexts : Moment → Stocked → (dp ip : Option (List ℕ)) → Type 0
AreTexts at held dp ip = (tape : Tape) (g : Given) (on : Bool) (st : Standing) → IsStock tape g on st held
    → IsDpDocument g st at dp × IsIpDocument g (closed_dp g on st at) at ip

-- what the stock says of the first admission, and of the second
abbrev pub AppliesDp : Option (List ℕ) → Stocked → Stocked → Result (Unit {0}) AdmitErr → Type 0
AppliesDp dp old new result = (early : Tape) (g : Given) (on : Bool) (st : Standing) (at : Moment)
    → IsStock early g on st old
    → IsDpDocument g st at dp → IsDpChange early g on st at old new result

-- how the index that is due on the index partition, if one is, was admitted or not
abbrev pub AppliesIp : Option (List ℕ) → Stocked → Stocked → Result (Unit {0}) AdmitErr → Type 0
AppliesIp ip old new result = (early : Tape) (g : Given) (on : Bool) (st : Standing) (at : Moment)
    → IsStock early g on st old
    → IsIpDocument g st at ip → IsIpEnd ip g st at old new result

module _ (at : Moment) (held mid : Stocked) (dp ip : Option (List ℕ)) (texts : AreTexts at held dp ip) where
  -- where nothing went wrong, the index that is due on the data partition was admitted
  pub admits_dp : AppliesDp dp held mid (Ok tt) → AdmitsOnDp at held mid
  admits_dp applied early g on st is = applied early g on st at is (texts early g on st is).0

  pub short_dp : (need limit : ℕ) → AppliesDp dp held mid (Err (errors.Full need limit))
      → IsShortOnDp at held need limit
  short_dp need limit applied early g on st is = applied early g on st at is (texts early g on st is).0

  -- what is held once the index of the data partition was admitted stands for that
  mid_stands : AdmitsOnDp at held mid → (early : Tape) (g : Given) (on : Bool) (st : Standing)
      → IsStock early g on st held
      → IsStock early g on (closed_dp g on st at) mid
  mid_stands did early g on st is = (did early g on st is).stands early (λ part pos byte there. refl)

  ended : (text : Option (List ℕ)) (g : Given) (st : Standing) (last : Stocked) → IsIpDocument g st at text
      → IsIpEnd text g st at mid last (Ok tt) → IsAdmittedOnIp g st at mid last (is_some text)
  ended (Some text) g st last due end = (due.0, end)
  ended None g st last due end = (due, end.0)

  -- where nothing went wrong then, the one that is due on the index partition was admitted
  pub admits_ip : AdmitsOnDp at held mid → (last : Stocked) → AppliesIp ip mid last (Ok tt)
      → AdmitsOnIp at held mid last (is_some ip)
  admits_ip did last applied early g on st is =
      ended ip g (closed_dp g on st at) last (texts early g on st is).1
      (applied early g on (closed_dp g on st at) at (mid_stands did early g on st is) (texts early g on st is).1)

  short : (text : Option (List ℕ)) (need limit : ℕ) (g : Given) (st : Standing) (last : Stocked)
      → IsIpDocument g st at text
      → IsIpEnd text g st at mid last (Err (errors.Full need limit))
      → (is_ip_due g st.space ≡ true) × IsIpFull g st at need limit
  short (Some text) need limit g st last due end = (due.0, end)
  short None need limit g st last due end = let no : Err (errors.Full need limit) ≡ Ok tt = end.1 in absurd cc

  -- where that doesn't fit, the close is short on the index partition
  pub short_ip : AdmitsOnDp at held mid → (last : Stocked) (need limit : ℕ)
      → AppliesIp ip mid last (Err (errors.Full need limit))
      → IsShortOnIp at held need limit
  short_ip did last need limit applied early g on st is =
      short ip need limit g (closed_dp g on st at) last (texts early g on st is).1
      (applied early g on (closed_dp g on st at) at (mid_stands did early g on st is) (texts early g on st is).1)

-- ---- that the ops can be done

module _ {D : Type 0} (drive : Ghosts D) (fixed : Fixed D) (next : Option Moment) (p : Parts D)
    (runs : IsRunning drive fixed next p) (at : Moment) (mid : Stocked) (did : AdmitsOnDp at p.stock mid)
    (stands : AreStanding mid.layout.limits mid.layout.block_size mid.layout.ends mid.layout.ops) where
  abbrev g : Given
  g = given (view_of fixed next p) (seen drive fixed.first)

  abbrev st : Standing
  st = standing_here (seen drive fixed.first) (view_of fixed next p)

  abbrev on : Bool
  on = on_here (seen drive fixed.first) (view_of fixed next p)

  -- what stands once that index is admitted
  abbrev after_dp : Standing
  after_dp = closed_dp g on st at

  abbrev asked : List Op
  asked = ops_of (rules g) on st.space (close_ask g st at)

  dp_done : IsDpDone (tape_on runs.planned) g on st at p.stock mid
  dp_done = did (tape_on runs.planned) g on st runs.tied.stock

  stood : IsStock (tape_on runs.planned) g on after_dp mid
  stood = dp_done.stands (tape_on runs.planned) (λ part pos byte there. refl)

  limits_are : mid.layout.limits ≡ drive.limits p.drive
  limits_are = ap (λ (l : Layout). l.limits) stood.layout ∙ sym runs.kept.order.orderly.limits

  size_is : mid.layout.block_size ≡ fixed.mounted.label.block
  size_is = ap (λ (l : Layout). l.block_size) stood.layout

  room : All (HasRoom (drive.limits p.drive) mid.layout.block_size) mid.layout.ops
  room = subst (λ (l : Limits). All (HasRoom l mid.layout.block_size) mid.layout.ops) limits_are stands.lead.room

  follows : AreNext (ends_in runs.planned) asked
  follows = subst (λ (e : Ends). AreNext e asked) runs.tied.ends (ends_go_on.admits (rules g) on st.space (close_ask
      g st at))

  way : (c : Cartridge) → drive.held p.drive ≡ Some c → IsOnWay (with_ops asked runs.planned) mid.layout.ops c
  way c held = subst (λ (l : List Op). IsOnWay (with_ops asked runs.planned) l c) (sym dp_done.ops)
      (ways_go_on.grows runs.planned p.stock.layout.ops asked c (runs.tied.way c held) follows)

  -- those that stand once the index of the data partition is admitted
  pub can_do_mid : CanDoAll drive mid.layout.ops p.drive
  can_do_mid = record {
    planned = with_ops asked runs.planned;
    size = mid.layout.block_size;
    most = stands.can_be.most;
    room = room;
    way = way;
  }

  ends_are : after_dp.space.ends ≡ ends_in (with_ops asked runs.planned)
  ends_are = ends_go_on.leaves (rules g) on st.space (close_ask g st at)
      ∙ ap (λ (e : Ends). after_ops e asked) runs.tied.ends ∙ sym (ends_go_on.ends runs.planned asked follows)

  -- the ops of the index of the index partition
  abbrev index_ops : List Op
  index_ops = construct fixed.mounted.label.block Ip after_dp.space.ends.ip (close_text g after_dp at)

  leads : close_need g after_dp at ≤ close_limit g
      → Lead (drive.limits fixed.first) fixed.mounted.label.block after_dp.space.ends
      (with_end Ip (after_dp.space.ends.ip + 2 + div_ceil (length (close_text g after_dp at)) fixed.mounted.label.block)
      after_dp.space.ends) index_ops
  leads fits =
      let some : 1 ≤ fixed.mounted.label.block = omega (arith, runs.tied.mount.blocks.0) in
      index_leads (drive.limits fixed.first) fixed.mounted.label.block Ip after_dp.space.ends after_dp.space.ends.ip
      (close_text g after_dp at) some refl fits

  room_for : close_need g after_dp at ≤ close_limit g
      → All (HasRoom (drive.limits p.drive) mid.layout.block_size) index_ops
  room_for fits = subst (λ (l : Limits). All (HasRoom l mid.layout.block_size) index_ops) (sym
      runs.kept.order.orderly.limits)
      (subst (λ (n : ℕ). All (HasRoom (drive.limits fixed.first) n) index_ops) (sym size_is) (leads fits).room)

  admitted : (last : Stocked) (due : Bool) → IsAdmittedOnIp g after_dp at mid last due
      → CanDoAll drive last.layout.ops p.drive
  admitted last false end = subst (λ (s : Stocked). CanDoAll drive s.layout.ops p.drive) (sym end.1) can_do_mid
  admitted last true end = record {
    planned = with_ops index_ops (with_ops asked runs.planned);
    size = mid.layout.block_size;
    most = stands.can_be.most;
    room = subst (λ (l : List Op). All (HasRoom (drive.limits p.drive) mid.layout.block_size) l) (sym end.1.ops)
        (All-append (HasRoom (drive.limits p.drive) mid.layout.block_size) mid.layout.ops index_ops room (room_for
        end.1.fits));
    way = λ c held. subst (λ (l : List Op). IsOnWay (with_ops index_ops (with_ops asked runs.planned)) l c) (sym
        end.1.ops)
        (ways_go_on.grows (with_ops asked runs.planned) mid.layout.ops index_ops c (way c held)
        (subst (λ (e : Ends). AreNext e index_ops) ends_are (leads end.1.fits).next));
  }

  -- and those that stand once that of the index partition is
  pub can_do_last : (last : Stocked) (due : Bool) → AdmitsOnIp at p.stock mid last due
      → CanDoAll drive last.layout.ops p.drive
  can_do_last last due did_too = admitted last due (did_too (tape_on runs.planned) g on st runs.tied.stock)
