-- What a close admits: that its indexes are due, and what is planned with them.
use Rattle.std.proofs.Common.{◌≡◌, ℕ, ◌+◌, ◌*◌, ◌^◌, ◌<◌, ◌≤◌, Bool, true, false, nat_lt, List, [], length, Option}
use Rattle.std.proofs.Common.{slice_get, refl, sym, ap, ◌∙◌, subst, arith}
use Rattle.std.specs.Prelude.{if◌then◌else◌}
use Rattle.std.specs.Int.{div_ceil}
use Rattle.std.proofs.Math.Nat.{mul-le-mul}
use Rattle.std.proofs.lemmas.Bool.Decides.{nat_tests}
use Rattle.std.proofs.lemmas.Grind.{div_ceil_times}
use Rattle.tape_types.specs.Bounds.{most_positions}
use Rattle.tape_types.specs.declared.cartridges.Item.{Item}
use Rattle.tape_types.specs.declared.cartridges.Limits.{Limits}
use Rattle.tape_types.specs.declared.cartridges.Part.{Part}
use Rattle.tape_types.specs.declared.cartridges.Part.TheVariants.{Ip, Dp}
use Rattle.tape_types.specs.declared.moments.Moment.{Moment}
use Rattle.tape_drive.specs.declared.drive.Drive.{Ghosts}
use Rattle.index_model.specs.declared.indexes.Index.{Index}
use Rattle.extent_map.specs.Blocks.{FileStandsIn}
use Rattle.extent_map.specs.Cells.{byte_in, tape_of}
use Rattle.extent_map.specs.Laid.{Laid}
use Rattle.file_tree.specs.Blocks.{LiesBelow}
use Rattle.file_tree.specs.Valid.{IsGood}
use Rattle.tape_layout.specs.declared.ops.Op.{Op}
use Rattle.tape_layout.specs.declared.standing.Ends.{Ends}
use Rattle.tape_layout.specs.Ops.{AreNext, after_ops}
use Rattle.space_laws.specs.Closing.{close_ask, close_limit, close_need, close_text, is_dp_due}
use Rattle.space_laws.specs.Space as space
use Rattle.space_laws.specs.Space.{Ask, Rules, Space, index, index_need, is_over, nothing, ops_of, plan_of}
use Rattle.space_laws.specs.Standing.{Given, Standing, is_on, rules, sync_text}
use Rattle.space_laws.proofs.TreeLaw.{are_replays}
use Rattle.promises.specs.ImageLaws.Made.{cartridge_of, part_items}
use Rattle.promises.specs.ImageLaws.Plans.{IsCloseDue}
use Rattle.promises.specs.ServingPromise.Served.{Fixed, View}
use Rattle.promises.specs.CrashLaws.Laws.{IsNextDue}
use Rattle.promises.specs.CrashLaws.Safe.{Planned, given_by, standing_now, trees_of, volume_of}
use Rattle.held_volume.specs.Closed.{closed_dp}
use Rattle.held_volume.specs.Stocks.{IsStock, Stocked, ends_of, frame_of, stocked}
use Rattle.held_volume.specs.Synced.{CanTell}
use Rattle.volume_state.specs.DueLaws.Behind.{BeginsBehindLabels}
use Rattle.volume_state.proofs.DueLaws.Due.{index_due}
use Rattle.volume_state.proofs.DueLaws.Tapes.{go_by_the_tape}
use Rattle.volume_state.proofs.DueLaws.Texts.{are_short}
use Rattle.volume_state.specs.PlanLaws.Planned.{Items, ends_in, tape_on, with_ops}
use Rattle.volume_state.proofs.PlanLaws.Admits.{ends_go_on}
use Rattle.volume_state.proofs.PlanLaws.Agrees.{plans_agree}
use Rattle.volume_state.proofs.PlanLaws.Stays.{further, tapes_stay}
use Rattle.volume_state.specs.StateLaws.Parts.{Parts, view_of}
use Rattle.volume_state.specs.StateLaws.Tied.{IsTied}
use Rattle.volume_state.specs.ClosingLaws.Closing.{CanTellClose, IsNear}
use Rattle.volume_state.proofs.ClosingLaws.Nears.{closes_can_tell}
use Rattle.volume_state.proofs.ClosingLaws.Tells.{close_due}

-- ---- an index that fits

not_over : (a b : ℕ) → nat_lt a b ≡ false → b ≤ a
not_over a b e = grind (arith, nat_tests, e)

-- there is a generation left, and the index ends within the capacity
within : (v : Rules) (on : Bool) (s : Space) (text : List ℕ) → is_over v on s (index text) ≡ false
    → (s.newest + 1 ≤ 2 ^ 62) × (index_need v Dp s text ≤ v.limits.cap_dp)
within v on s text is = by (nat_lt (2 ^ 62) (s.newest + 1)) refl is
  where
    by : (b : Bool) → nat_lt (2 ^ 62) (s.newest + 1) ≡ b
        → nat_lt (if b then 2 ^ 62 else v.limits.cap_dp) (if b then s.newest + 1 else index_need v Dp s text) ≡ false
        → (s.newest + 1 ≤ 2 ^ 62) × (index_need v Dp s text ≤ v.limits.cap_dp)
    by true none over = absurd (let wrong : true ≡ false = sym none ∙ over in cc wrong)
    by false some over =
        (not_over (2 ^ 62) (s.newest + 1) some, not_over v.limits.cap_dp (index_need v Dp s text) over)

short : (size long end cap : ℕ) → 1 ≤ size → size ≤ 1048576 → cap ≤ most_positions → end + 2 + div_ceil long size ≤ cap
    → long < 2 ^ 64
short size long end cap some most near fits =
    let all : long ≤ div_ceil long size * size = (div_ceil_times long size some).0 in
    let blocks : div_ceil long size ≤ most_positions = omega (arith, near, fits) in
    let most_bytes : div_ceil long size * size ≤ most_positions * 1048576 = mul-le-mul blocks most in
    omega (arith, all, most_bytes)

-- what a close asks of the data partition where an index is due there or not
abbrev pub ask_by : Bool → List ℕ → Ask
ask_by due text = if due then index text else nothing

ip_after : (v : Rules) (on : Bool) (s : Space) (text : List ℕ) (due : Bool)
    → (space.after v on s (ask_by due text)).ends.ip ≡ s.ends.ip
ip_after v on s text true = refl
ip_after v on s text false = refl

dp_after : (v : Rules) (on : Bool) (s : Space) (text : List ℕ) (due : Bool) → is_over v on s (ask_by due text) ≡ false
    → s.ends.dp ≤ v.limits.cap_dp → (space.after v on s (ask_by due text)).ends.dp ≤ v.limits.cap_dp
dp_after v on s text true fits old = (within v on s text fits).1
dp_after v on s text false fits old = old

module _ {D : Type 0} (drive : Ghosts D) (fixed : Fixed D) (next : Option Moment) (at : Moment) (p : Parts D) where
  -- the volume that is closed, as its view
  abbrev pub v : View D
  v = view_of fixed next p

  -- how many positions the drive had at the start
  abbrev pub limits : Limits
  limits = drive.limits fixed.first

  -- what the volume's space starts from
  abbrev pub g : Given
  g = given_by (drive.limits fixed.first) (view_of fixed next p)

  -- files may go to the index partition at the end of the history
  abbrev pub on : Bool
  on = is_on g.mounted p.on (length p.listed.history)

  -- what stands at the end of the history
  abbrev pub st : Standing
  st = standing_now (drive.limits fixed.first) (view_of fixed next p)

  -- the ops of the index that is due on the data partition
  abbrev pub asked : List Op
  asked = ops_of (rules g) on st.space (close_ask g st at)

  -- what stands behind the index of the data partition
  abbrev pub st1 : Standing
  st1 = closed_dp g on st at

  module _ (planned : Items) (tied : IsTied drive fixed planned p) where
    -- what is planned once that index is admitted
    abbrev pub planned1 : Items
    planned1 = with_ops asked planned

    -- what is held is what stands, on the tape that is planned
    pub held : IsStock (tape_on planned) g on st p.stock
    held = tied.stock

    -- each block of the tree stands behind the labels
    pub behind : BeginsBehindLabels p.stock.tree
    behind part pos t = tied.files.low part pos (record {
      uid = t.file.node.uid;
      block = subst (λ (l : Laid). FileStandsIn l part pos)
          (sym (tied.stock.files.lies t.file.path t.file.node t.file.room t.file.there t.file.file ∙ t.file.lies))
          t.block;
    })

    -- the ops of that index come next
    pub next_ops : AreNext (ends_in planned) asked
    next_ops = subst (λ (e : Ends). AreNext e asked) tied.ends (ends_go_on.admits (rules g) on st.space
        (close_ask g st at))

    -- the space behind that index has the ends of what is planned then
    pub ends_now : st1.space.ends ≡ ends_in planned1
    ends_now = ends_go_on.leaves (rules g) on st.space (close_ask g st at)
        ∙ ap (λ (e : Ends). after_ops e asked) tied.ends
        ∙ sym (ends_go_on.ends planned asked next_ops)

    below_old : LiesBelow (ends_of (ends_in planned)) p.stock.tree
    below_old = subst (λ (e : Ends). LiesBelow (ends_of e) p.stock.tree) tied.ends tied.stock.below

    below_now : LiesBelow (ends_of st1.space.ends) p.stock.tree
    below_now = subst (λ (e : Ends). LiesBelow (ends_of e) p.stock.tree) (sym ends_now)
        (λ part pos t. further planned asked part pos (below_old part pos t))

    stock_late : IsStock (tape_on planned1) g on st p.stock
    stock_late = go_by_the_tape.blocks (tape_on planned) (tape_on planned1) g on st p.stock
        (λ part pos byte t. sym (tapes_stay.alike planned asked p.stock.tree below_old part pos byte t)) held

    -- what is held then, for the tree that is held now
    abbrev pub stock_now : Stocked
    stock_now = stocked p.stock.tree (plan_of (rules g) on st1.space [])
        (frame_of g.mounted st1.space p.stock.frame.noted)

    held_now : IsStock (tape_on planned1) g on st1 stock_now
    held_now = record {
      plain = stock_late.plain;
      files = stock_late.files;
      layout = refl;
      frame = refl;
      name = stock_late.name;
      block_size = stock_late.block_size;
      below = below_now;
    }

    some : 1 ≤ fixed.mounted.label.block
    some = omega (arith, tied.mount.blocks.0)

    -- ---- the index of the data partition

    module _ (good : IsGood p.stock.tree) (near : IsNear st.space) where
      can_tell : is_over (rules g) on st.space (index (sync_text g st at)) ≡ false → CanTell g st
      can_tell fits =
          let room = within (rules g) on st.space (sync_text g st at) fits in
          record {
            letters_are = record { ip = tied.mount.letters.0; dp = tied.mount.letters.1 };
            differ = tied.mount.letters.2;
            uuid = subst (λ (n : ℕ). n < 2 ^ 128) tied.mount.uuid tied.mount.valid.formed.volume.uuid;
            facts = record { comment = tied.mount.valid.formed.volume.comment; policy = tied.mount.valid.formed.volume.policy };
            generation = room.0;
            here = omega (arith, room.1, tied.limits.dp_most);
            back = near.back;
          }

      -- the index that a close admits on the data partition is due
      pub dp_due : (q : Planned) → fixed.mounted.label ≡ q.labels.ip
          → ((part : Part) → part_items part q.made ≡ planned part)
          → is_over (rules g) on st.space (index (sync_text g st at)) ≡ false → IsNextDue q limits v at
      dp_due q label_is items fits =
          index_due q limits v on p.stock at tied.mount.valid label_is
          (go_by_the_tape.everywhere (tape_on planned) (tape_of (cartridge_of q.made)) g on st p.stock
          (λ part pos byte. sym (plans_agree.tapes q.made part pos byte
          ∙ ap (λ (l : List Item). byte_in (slice_get l pos) byte) (items part))) held)
          good behind (can_tell fits)
          (are_short.fits (rules g) on st.space (sync_text g st at) tied.limits some tied.mount.blocks.1 fits)

      -- ---- the index of the index partition

      module _ (fits : is_over (rules g) on st.space (close_ask g st at) ≡ false) where
        can_close : CanTellClose g st1
        can_close = (closes_can_tell drive).tells limits fixed.mounted g st1
            (record { range = tied.limits; mount = tied.mount; facts = refl; limits_are = refl })
            ((closes_can_tell drive).kept g on st at tied.limits fits near)
            (omega (
              arith,
              ip_after (rules g) on st.space (sync_text g st at) (is_dp_due g st.space),
              tied.room Ip,
              ap (λ (e : Ends). e.ip) tied.ends,
            ))
            (dp_after (rules g) on st.space (sync_text g st at) (is_dp_due g st.space) fits
            (omega (arith, tied.room Dp, ap (λ (e : Ends). e.dp) tied.ends)))

        -- the index that a close admits on the index partition is due
        pub ip_due : (q : Planned) → fixed.mounted.label ≡ q.labels.ip
            → ((part : Part) → part_items part q.made ≡ planned1 part) → close_need g st1 at ≤ close_limit g
            → (on_ip : Index) × IsCloseDue (volume_of q.labels v) (trees_of v) q.made st1.space (close_text g st1 at)
            on_ip
        ip_due q label_is items room =
            close_due q limits v on st1 stock_now at tied.mount.valid label_is
            (go_by_the_tape.everywhere (tape_on planned1) (tape_of (cartridge_of q.made)) g on st1 stock_now
            (λ part pos byte. sym (plans_agree.tapes q.made part pos byte
            ∙ ap (λ (l : List Item). byte_in (slice_get l pos) byte) (items part))) held_now)
            (are_replays g p.on p.listed.history (length p.listed.history)) good behind can_close
            (short fixed.mounted.label.block (length (close_text g st1 at)) st1.space.ends.ip limits.cap_ip some
            tied.mount.blocks.1 tied.limits.ip_most room)
