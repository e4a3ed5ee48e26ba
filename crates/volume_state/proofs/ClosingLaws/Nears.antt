-- That the index of a close can be told.
use Rattle.std.proofs.Common.{◌≡◌, ℕ, ◌+◌, ◌<◌, ◌≤◌, ◌^◌, Bool, true, false, nat_lt, List, [], ◌∷◌, ◌++◌, length}
use Rattle.std.proofs.Common.{Option, Some, None, IfSome, slice_get, get_or, refl, sym, ap, ◌∙◌, subst, arith}
use Rattle.std.proofs.Common.{append_assoc, append-nil}
use Rattle.std.specs.Prelude.{if◌then◌else◌, fold}
use Rattle.std.specs.List.{enumerate_from}
use Rattle.std.proofs.lemmas.Bool.Decides.{nat_tests}
use Rattle.std.proofs.lemmas.List.{take-append-le}
use Rattle.std.proofs.lemmas.Option.{slice_get-get_or, slice_get_within}
use Rattle.tape_types.specs.Bounds.{most_positions}
use Rattle.tape_types.specs.Cartridges.{IsLimits}
use Rattle.tape_types.specs.declared.cartridges.Limits.{Limits}
use Rattle.tape_types.specs.declared.cartridges.Part.TheVariants.{Dp}
use Rattle.tape_types.specs.declared.moments.Moment.{Moment}
use Rattle.tape_drive.specs.declared.drive.Drive.{Ghosts}
use Rattle.cartridge_meaning.specs.Mounts.{IsMount}
use Rattle.cartridge_meaning.specs.declared.mounted.Mounted.{Mounted}
use Rattle.file_tree.specs.Carried.{AreFitFacts, carried_of}
use Rattle.file_tree.specs.Indexes.{AreLetters}
use Rattle.plain_tree.specs.History.{call_at}
use Rattle.plain_tree.specs.declared.calls.Call.{Call}
use Rattle.plain_tree.specs.declared.calls.Fate.{Fate}
use Rattle.plain_tree.specs.declared.calls.Fate.TheVariants as fates
use Rattle.plain_tree.specs.declared.calls.Placed.{Placed}
use Rattle.session_script.specs.declared.logs.Reply.{Reply}
use Rattle.space_laws.specs.Closing.{close_ask}
use Rattle.space_laws.specs.Mount.{MountFacts}
use Rattle.space_laws.specs.Space as space
use Rattle.space_laws.specs.Space.{Ask, Rules, Space, blocks, change, index, index_need, is_over, nothing, store}
use Rattle.space_laws.specs.Standing.{Given, Standing, after_placed, ask_of, first_standing, is_on, rules, standing}
use Rattle.held_volume.specs.Synced.{IsMounted}
use Rattle.promises.specs.ServingPromise.Replies.{IsDoneReply, IsReply, facts_at}
use Rattle.promises.specs.ServingPromise.Served.{Drive, View, given}
use Rattle.promises.specs.CrashLaws.Safe.{seen_by}
use Rattle.promises.proofs.CrashLaws.Placing.{standings_go_on}
use Rattle.promises.specs.ReplyLaws.Sides.{standing_here}
use Rattle.promises.specs.ReplyLaws.Within.{StaysTrue}
use Rattle.volume_state.specs.ClosingLaws.Closing.{CanTellClose, IsNear}
use Rattle.volume_state.specs.ClosingLaws.Near.{ClosesCanTell}

-- ---- one step of the space

-- an index that fits has a generation left, and ends within the capacity
room : (v : Rules) (on : Bool) (s : Space) (text : List ℕ) → is_over v on s (index text) ≡ false
    → (s.newest + 1 ≤ 2 ^ 62) × (index_need v Dp s text ≤ v.limits.cap_dp)
room v on s text is = by (nat_lt (2 ^ 62) (s.newest + 1)) refl is
  where
    not_over : (a b : ℕ) → nat_lt a b ≡ false → b ≤ a
    not_over a b e = grind (arith, nat_tests, e)

    by : (b : Bool) → nat_lt (2 ^ 62) (s.newest + 1) ≡ b
        → nat_lt (if b then 2 ^ 62 else v.limits.cap_dp) (if b then s.newest + 1 else index_need v Dp s text) ≡ false
        → (s.newest + 1 ≤ 2 ^ 62) × (index_need v Dp s text ≤ v.limits.cap_dp)
    by true none over = absurd (let wrong : true ≡ false = sym none ∙ over in cc wrong)
    by false some over = (not_over (2 ^ 62) (s.newest + 1) some, not_over v.limits.cap_dp (index_need v Dp s text) over)

one_more : (n : ℕ) → 1 ≤ n + 1
one_more n = omega arith

near_block : (end count cap : ℕ) → cap ≤ most_positions → end + 2 + count ≤ cap → end + 1 ≤ 2 ^ 62
near_block end count cap most fits = omega (arith, most, fits)

near_after : (v : Rules) (on : Bool) (s : Space) (ask : Ask) → v.limits.cap_dp ≤ most_positions
    → is_over v on s ask ≡ false
    → IsNear s → IsNear (space.after v on s ask)
near_after v on s nothing most fits near = near
near_after v on s change most fits near = record { least = near.least; most = near.most; back = near.back }
near_after v on s (store wanted bytes) most fits near =
    record { least = near.least; most = near.most; back = near.back }
near_after v on s (index text) most fits near =
    let is = room v on s text fits in
    record {
      least = one_more s.newest;
      most = is.0;
      back = near_block s.ends.dp (blocks v text) v.limits.cap_dp most is.1;
    }

-- ---- a history

-- a call that is done is within its limit
abbrev IsFit : Given → Bool → Standing → Placed → Type 0
IsFit g on st p = (call : Call) → call_at g.calls p ≡ Some call → p.fate ≡ fates.Done
    → is_over (rules g) on st.space (ask_of g st call p.at) ≡ false

near_placed : (g : Given) (on : Bool) (st : Standing) (p : Placed) → g.limits.cap_dp ≤ most_positions → IsFit g on st p
    → IsNear st.space → IsNear (after_placed g on st p).space
near_placed g on st p most fits near = by p.fate (call_at g.calls p) refl refl
  where
    by : (fate : Fate) (call : Option Call) → p.fate ≡ fate → call_at g.calls p ≡ call
        → IsNear (after_placed g on st p).space
    by fates.Void call f e = rw f near
    by fates.Done None f e = rw (f, e) near
    by fates.Done (Some call) f e =
        rw (f, e) (near_after (rules g) on st.space (ask_of g st call p.at) most (fits call e f) near)

at_seam : (front : List Placed) (p : Placed) (behind : List Placed)
    → slice_get (front ++ p ∷ behind) (length front) ≡ Some p
at_seam [] p behind = refl
at_seam (x ∷ front) p behind = at_seam front p behind

-- what stands at a place goes by what was placed before it
same_front : (g : Given) (on : Option ℕ) (front behind : List Placed)
    → standing g on (front ++ behind) (length front) ≡ standing g on front (length front)
same_front g on front behind =
    ap (λ (ps : List Placed). fold (λ st e. after_placed g (is_on g.mounted on e.0) st e.1) (first_standing g)
    (enumerate_from 0 ps)) (take-append-le (length front) front behind (omega arith))

module _ {D : Type 0} (first : Drive) (v : View D) (limits : IsLimits first.limits) (stays : StaysTrue first v) where
  abbrev g : Given
  g = given v first

  fit_by : (k : ℕ) (p : Placed) (call : Call) (reply : Option Reply) → slice_get v.history k ≡ Some p
      → slice_get v.replies k ≡ Some reply → call_at g.calls p ≡ Some call → p.fate ≡ fates.Done
      → (facts_at g v.on v.history [] k p call).over ≡ false
  fit_by k p call None is none call_is done =
      let waits = stays.waits k p is none in
      let same : waits.call ≡ call = let both : Some waits.call ≡ Some call = sym waits.is_call ∙ call_is in cc in
      subst (λ (c : Call). (facts_at g v.on v.history [] k p c).over ≡ false) same waits.within
  fit_by k p call (Some reply) is some call_is done =
      let came = stays.truth.replies.each k p reply is some in
      let same : came.0 ≡ call = let both : Some came.0 ≡ Some call = sym came.1 ∙ call_is in cc in
      let told : IsDoneReply (facts_at g v.on v.history v.events k p came.0) came.0 reply =
      subst (λ (fate : Fate). IsReply fate (facts_at g v.on v.history v.events k p came.0) came.0 reply) done came.2 in
      subst (λ (c : Call). (facts_at g v.on v.history [] k p c).over ≡ false) same told.within

  fits : (k : ℕ) (p : Placed) → slice_get v.history k ≡ Some p
      → IsFit g (is_on g.mounted v.on k) (standing g v.on v.history k) p
  fits k p is call call_is done =
      let there : slice_get v.replies k ≡ Some (get_or v.replies k None) =
      slice_get-get_or v.replies k None
      (omega (arith, slice_get_within v.history k p is, stays.truth.replies.count)) in
      fit_by k p call (get_or v.replies k None) is there call_is done

  near_from : (front behind : List Placed) → v.history ≡ front ++ behind
      → IsNear (standing g v.on front (length front)).space → IsNear (standing_here first v).space
  near_from front [] is near =
      let same : v.history ≡ front = is ∙ append-nil front in
      subst (λ (h : List Placed). IsNear (standing g v.on h (length h)).space) (sym same) near
  near_from front (p ∷ behind) is near =
      let k : ℕ = length front in
      let here : standing g v.on v.history k ≡ standing g v.on front k =
      ap (λ (h : List Placed). standing g v.on h k) is ∙ same_front g v.on front (p ∷ behind) in
      let there : slice_get v.history k ≡ Some p =
      ap (λ (h : List Placed). slice_get h k) is ∙ at_seam front p behind in
      let fit = subst (λ (st : Standing). IsFit g (is_on g.mounted v.on k) st p) here (fits k p there) in
      let next = standings_go_on.placed first.limits (record v { history = front })
      (record v { history = front ++ p ∷ [] }) p refl refl refl in
      near_from (front ++ p ∷ []) behind (is ∙ sym (append_assoc front (p ∷ []) behind))
      (subst (λ (st : Standing). IsNear st.space) (sym next)
      (near_placed g (is_on g.mounted v.on k) (standing g v.on front k) p limits.dp_most fit near))

  first_near : IsMount first.limits v.fixed.mounted → IsNear (first_standing g).space
  first_near mount = record {
    least = subst (λ (n : ℕ). 1 ≤ n) (sym mount.newest) mount.valid.formed.volume.generation_least;
    most = subst (λ (n : ℕ). n ≤ 2 ^ 62) (sym mount.newest) mount.valid.formed.volume.generation_most;
    back = back v.fixed.mounted.last_dp mount.last_dp;
  }
    where
      back : (o : Option ℕ) → IfSome o (λ pos. pos < v.fixed.mounted.end_dp) → IfSome o (λ block. block ≤ 2 ^ 62)
      back None h = tt
      back (Some pos) h = omega (arith, h, mount.dp_end.1, limits.dp_most)

-- ---- a close

ask_near : (g : Given) (on : Bool) (st : Standing) (at : Moment) → IsLimits g.limits
    → is_over (rules g) on st.space (close_ask g st at) ≡ false → IsNear st.space
    → IsNear (space.after (rules g) on st.space (close_ask g st at))
ask_near g on st at limits fits near = near_after (rules g) on st.space (close_ask g st at) limits.dp_most fits near

can_tell : (limits : Limits) (m : Mounted) (g : Given) (st : Standing) → IsMounted limits m g → IsNear st.space
    → st.space.ends.ip ≤ g.limits.cap_ip → st.space.ends.dp ≤ g.limits.cap_dp → CanTellClose g st
can_tell limits m g st is near on_ip on_dp =
    let mount = is.mount in
    record {
      letters_are = subst (λ (f : MountFacts). AreLetters (f.label.index, f.label.dpart)) (sym is.facts)
          (record { ip = mount.letters.0; dp = mount.letters.1 });
      differ = subst (λ (f : MountFacts). f.label.index ≡ f.label.dpart → ⊥) (sym is.facts) mount.letters.2;
      uuid = subst (λ (f : MountFacts). f.label.uuid < 2 ^ 128) (sym is.facts)
          (subst (λ (n : ℕ). n < 2 ^ 128) mount.uuid mount.valid.formed.volume.uuid);
      facts = subst (λ (f : MountFacts). AreFitFacts (carried_of f.index)) (sym is.facts)
          (record { comment = mount.valid.formed.volume.comment; policy = mount.valid.formed.volume.policy });
      near = near;
      on_ip = close_to st.space.ends.ip g.limits.cap_ip limits.cap_ip on_ip
          (ap (λ (l : Limits). l.cap_ip) is.limits_are) is.range.ip_most;
      on_dp = close_to st.space.ends.dp g.limits.cap_dp limits.cap_dp on_dp
          (ap (λ (l : Limits). l.cap_dp) is.limits_are) is.range.dp_most;
    }
  where
    close_to : (end cap same : ℕ) → end ≤ cap → cap ≡ same → same ≤ most_positions → end + 1 ≤ 2 ^ 62
    close_to end cap same within is most = omega (arith, within, is, most)

-- the index of a close can be told
pub closes_can_tell : {D : Type 0} (drive : Ghosts D) → ClosesCanTell drive
closes_can_tell drive = record {
  near = λ first v limits mount stays. near_from (seen_by drive first) v limits stays [] v.history refl
      (first_near (seen_by drive first) v limits stays mount);
  kept = ask_near;
  tells = can_tell;
}
