-- What both partitions come to once all ops of a close are done.
use Rattle.std.proofs.Common.{◌≡◌, ℕ, ◌+◌, ◌≤◌, Bool, true, false, List, [], ◌∷◌, ◌++◌, map, length, Option, Some, refl, ap}
use Rattle.std.proofs.Common.{subst, ◌∙◌, arith}
use Rattle.std.specs.Int.{div_ceil}
use Rattle.std.proofs.lemmas.List.{map-append}
use Rattle.tape_types.specs.declared.cartridges.Cartridge.{Cartridge}
use Rattle.tape_types.specs.declared.cartridges.Part.TheVariants.{Ip, Dp}
use Rattle.tape_types.specs.declared.moments.Moment.{Moment}
use Rattle.tape_drive.specs.declared.drive.Drive.{Ghosts}
use Rattle.tape_layout.specs.declared.ops.Op.{Op}
use Rattle.tape_layout.specs.declared.standing.Ends.{Ends}
use Rattle.tape_layout.specs.declared.ops.Op.TheVariants as ops
use Rattle.tape_layout.specs.Ops.{AreNext, construct, puts}
use Rattle.tape_layout.proofs.Leads.{index_leads}
use Rattle.space_laws.specs.Closing.{close_limit, close_need, close_text, is_dp_due}
use Rattle.space_laws.specs.Space.{Rules, Space, blocks, index, ops_of}
use Rattle.space_laws.specs.Standing.{Given, Standing, rules, sync_text}
use Rattle.promises.specs.ServingPromise.Served.{Fixed, View}
use Rattle.promises.specs.PromiseLaws.Kept.{CanRead}
use Rattle.volume_state.specs.PlanLaws.Planned.{IsOnWay, Items, ends_in, with_ops}
use Rattle.volume_state.proofs.PlanLaws.Ways.{ways_go_on}
use Rattle.volume_state.specs.StateLaws.Parts.{Parts, view_of}
use Rattle.volume_state.specs.ClosingLaws.Ready.{HasDpIndex}
use Rattle.volume_state.specs.ClosingLaws.Whole.{IsWhole}
use Rattle.volume_state.proofs.ClosingLaws.Asked.{has_by}
use Rattle.volume_state.proofs.ClosingLaws.Wholes.{whole_grows, whole_indexed, wholes_stay}
use Rattle.promises.specs.ImageLaws.Made.{plain}
use Rattle.promises.proofs.CrashLaws.Admits.{op_of, plain_ops}
use Rattle.volume_state.specs.ClosingLaws.Laws.{close_ops}
use Rattle.volume_core.specs.Promised.{CanClose}
use Rattle.volume_core.proofs.Admitted as admitted
use Rattle.volume_state.specs.ClosingLaws.Closing.{IsAtRest}
use Rattle.volume_core.specs.Commands.{DoesOps}
use Rattle.volume_core.proofs.Exact.{IsThere}
use Rattle.volume_core.proofs.Settled.{rests_behind}

-- the ops of a close's index
pub close_ops_are : (v : Rules) (s : Space) (text : List ℕ)
    → close_ops v s text ≡ construct v.block_size Ip s.ends.ip text
close_ops_are v s text = ap (λ (l : List Op). ops.Mark (record { part = Ip; pos = s.ends.ip }) ∷ l)
    (by (puts v.block_size Ip (s.ends.ip + 1) text)
    (ops.Mark (record { part = Ip; pos = s.ends.ip + 1 + blocks v text }))
    (ops.Flush (record { part = Ip; pos = s.ends.ip + 2 + blocks v text })))
  where
    by : (run : List Op) (mark flush : Op)
        → map op_of (map plain run ++ plain mark ∷ [] ++ plain flush ∷ []) ≡ run ++ mark ∷ [] ++ flush ∷ []
    by run mark flush = map-append op_of (map plain run ++ plain mark ∷ []) (plain flush ∷ [])
        ∙ ap (λ (l : List Op). l ++ flush ∷ [])
        (map-append op_of (map plain run) (plain mark ∷ []) ∙ ap (λ (l : List Op). l ++ mark ∷ []) (plain_ops run))

module _ {D : Type 0} (drive : Ghosts D) (fixed : Fixed D) (next : Option Moment) (at : Moment) (p : Parts D)
    (can : CanClose drive fixed next at p) where
  abbrev v : View D
  v = view_of fixed next p

  abbrev g : Given
  g = admitted.g drive fixed next at p

  abbrev on : Bool
  on = admitted.on drive fixed next at p

  abbrev st : Standing
  st = admitted.st drive fixed next at p

  abbrev st1 : Standing
  st1 = admitted.st1 drive fixed next at p

  abbrev asked : List Op
  asked = admitted.asked drive fixed next at p

  abbrev planned : Items
  planned = can.runs.planned

  abbrev planned1 : Items
  planned1 = admitted.planned1 drive fixed next at p can.runs.planned can.runs.tied

  abbrev ops1 : List Op
  ops1 = p.stock.layout.ops ++ asked

  -- the ops of the index that a close writes on the index partition
  abbrev pub closing_ops : List Op
  closing_ops = construct fixed.mounted.label.block Ip st1.space.ends.ip (close_text g st1 at)

  -- what is planned once that index is admitted too
  abbrev pub planned2 : Items
  planned2 = with_ops closing_ops planned1

  -- no index is due on the data partition, since it has one
  pub has_index : is_dp_due g st.space ≡ false → HasDpIndex v st.space
  has_index is = has_by st.space.changed fixed.mounted.dp_done st.space.admitted is

  -- the data partition ends where it is planned to, before that index
  pub dp_whole : CanRead drive fixed → (c : Cartridge) → drive.held p.drive ≡ Some c → IsWhole Dp planned1 ops1 c
  dp_whole read c told = by (is_dp_due g st.space) refl
    where
      by : (due : Bool) → is_dp_due g st.space ≡ due
          → IsWhole Dp (with_ops (ops_of (rules g) on st.space (admitted.ask_by due (sync_text g st at))) planned)
          (p.stock.layout.ops ++ ops_of (rules g) on st.space (admitted.ask_by due (sync_text g st at))) c
      by true is = whole_indexed (with_ops (ops_of (rules g) on st.space (index (sync_text g st at))) planned)
          p.stock.layout.ops (rules g) on st.space (sync_text g st at) c
      by false is = whole_grows Dp planned p.stock.layout.ops [] c
          ((can.runs.closes.tape read).whole (has_index is) c told)

  -- the cartridge is on its way to what is planned, before that index
  pub way_now : (c : Cartridge) → drive.held p.drive ≡ Some c → IsOnWay planned1 ops1 c
  way_now c told = ways_go_on.grows planned p.stock.layout.ops asked c (can.runs.tied.way c told)
      (admitted.next_ops drive fixed next at p planned can.runs.tied)

  next_close : close_need g st1 at ≤ close_limit g → AreNext (ends_in planned1) closing_ops
  next_close room =
      subst (λ (e : Ends). AreNext e closing_ops)
      (admitted.ends_now drive fixed next at p planned can.runs.tied)
      (index_leads g.limits fixed.mounted.label.block Ip st1.space.ends st1.space.ends.ip (close_text g st1 at)
      (omega (arith, can.runs.tied.mount.blocks.0)) refl room).next

  -- with that index the tape is on its way, and both partitions end where they are planned to
  pub there_last : CanRead drive fixed → close_need g st1 at ≤ close_limit g → (c : Cartridge)
      → drive.held p.drive ≡ Some c → IsThere drive planned2 (ops1 ++ closing_ops) p.drive c
  there_last read room c told = record {
    told = told;
    way = ways_go_on.grows planned1 ops1 closing_ops c (way_now c told) (next_close room);
    ip = subst (λ (l : List Op). IsWhole Ip planned2 (ops1 ++ l) c)
        (close_ops_are (rules g) st1.space (close_text g st1 at))
        (wholes_stay.closed planned2 ops1 (rules g) st1.space (close_text g st1 at) c);
    dp = whole_grows Dp planned1 ops1 closing_ops c (dp_whole read c told);
  }

  -- their last one is a flush, so behind them nothing is pending
  pub closed_rests : (before : List Op) (old new : D) → DoesOps drive (before ++ closing_ops) old [] new
      → IsAtRest drive new
  closed_rests before old new does =
      rests_behind drive before
      (ops.Mark (record { part = Ip; pos = st1.space.ends.ip }) ∷ []
      ++ puts fixed.mounted.label.block Ip (st1.space.ends.ip + 1) (close_text g st1 at)
      ++ ops.Mark (record {
        part = Ip;
        pos = st1.space.ends.ip + 1 + div_ceil (length (close_text g st1 at)) fixed.mounted.label.block;
      }) ∷ [])
      (record {
        part = Ip;
        pos = st1.space.ends.ip + 2 + div_ceil (length (close_text g st1 at)) fixed.mounted.label.block;
      })
      old new does
