-- That what is held after a call is what stands after it.
use Rattle.std.proofs.Common.{◌≡◌, ℕ, ◌+◌, ◌*◌, ◌/◌, ◌<◌, ◌≤◌, max, Bool, true, false, eqb, nat_lt, drop, List, [], ◌∷◌, ◌++◌, length, Option, Some, None, Result, Ok, Err, IfOk, IfErr, OnErr, sym, ap, ◌∙◌, refl, subst, arith, ⊎_elim}
use Rattle.std.specs.Int.{div_ceil}
use Rattle.std.specs.Option.{unwrap_or}
use Rattle.std.proofs.lemmas.List.{append-nil}
use Rattle.std.proofs.lemmas.Bool.Decides.{nat_tests}
use Rattle.std.proofs.lemmas.Grind.{div_ceil_times}
use Rattle.std.proofs.Math.Nat.{div-mul-le_self, lt_of_mul-lt-mul_right}
use Rattle.tape_types.specs.declared.cartridges.Extent.{Extent}
use Rattle.tape_types.specs.declared.cartridges.Part.{Part}
use Rattle.tape_types.specs.declared.cartridges.Part.TheVariants.{Ip, Dp}
use Rattle.tape_types.specs.declared.cartridges.Place.{Place}
use Rattle.tape_types.specs.declared.moments.Moment.{Moment}
use Rattle.extent_map.specs.Blocks.{AreAlikeIn}
use Rattle.extent_map.specs.Cells.{Tape}
use Rattle.extent_map.specs.Laid.{overlaid}
use Rattle.plain_tree.specs.Calls.{after}
use Rattle.plain_tree.specs.Paths.{Path, last_name}
use Rattle.plain_tree.specs.Refusals.{lock_refusal, no_file, or_else, refusal_of, refusal_within}
use Rattle.plain_tree.specs.Tree as plain
use Rattle.plain_tree.specs.declared.calls.Call.{Call}
use Rattle.plain_tree.specs.declared.calls.Call.TheVariants as asks
use Rattle.plain_tree.specs.declared.calls.Refusal.{Refusal}
use Rattle.file_tree.specs.Blocks.{ExtentLiesBelow, TreeStandsIn}
use Rattle.file_tree.specs.Checks.{IsChecked}
use Rattle.file_tree.specs.Tree.{FileTree, StandsAt, plain_of, whole}
use Rattle.file_tree.specs.Writes.{HoldsBytes}
use Rattle.file_tree.proofs.BlockLemmas.{blocks_make_the_tree, ends_hold}
use Rattle.file_tree.proofs.RefusalLemmas.{refusals_alike, whole_read}
use Rattle.file_tree.proofs.TreeLemmas.{free_too}
use Rattle.tape_layout.specs.PlacementPolicy.Computed.{chooses_ip}
use Rattle.tape_layout.specs.Admissions.{Admission, IsAdmitted, data_admission}
use Rattle.tape_layout.specs.Ops.{end_of, with_end}
use Rattle.tape_layout.specs.Plans.{Plan}
use Rattle.tape_layout.specs.declared.errors.AdmitErr.{AdmitErr}
use Rattle.tape_layout.specs.declared.errors.AdmitErr.TheVariants.{Full, NoMemory}
use Rattle.tape_layout.specs.declared.standing.Ends as layout
use Rattle.space_laws.specs.Files.{Files, with_file}
use Rattle.space_laws.proofs.Steps.{are_still}
use Rattle.space_laws.specs.Laws.{admission_of, end_place}
use Rattle.space_laws.specs.Space as space
use Rattle.space_laws.specs.Space.{Ask, Rules, Space, blocks, change, index, index_need, is_over, limit_of, need_of, nothing, ops_of, part_for, plan_of, store}
use Rattle.space_laws.specs.Standing.{Given, Standing, ask_of, ask_unless, ask_unrefused, files_after, rules, uid_at}
use Rattle.held_volume.specs.declared.volume_sync.frames.Frame.{Frame}
use Rattle.held_volume.specs.Applied.{IsApplied, IsChange, IsDone, IsFull, IsChanging, IsLate, IsNoted, IsTreeStep, IsTried, IsUnchanged, LeavesAll, new_run}
use Rattle.held_volume.specs.Reads.{IsReadable, IsUnreadable}
use Rattle.held_volume.specs.Steps.{IsSameTree, IsWrite, file_changed}
use Rattle.held_volume.specs.Stocks.{IsStock, LieAs, Stocked, ends_of, stocked, with_change}
use Rattle.held_volume.proofs.Asks.{asks_nothing}
use Rattle.held_volume.proofs.TreeSteps.{unchanged}

-- ---- what is held is as it was

same_stands : (before next : FileTree) (l : Plan) (f : Frame) → IsSameTree before next → (tape : Tape) (g : Given) (on : Bool) (st : Standing)
    → IsStock tape g on st (stocked before l f) → IsStock tape g on st (stocked next l f)
same_stands before next l f same tape g on st i = record {
  plain = same.plain tape ∙ i.plain;
  files = same.lies st.files i.files;
  layout = i.layout;
  frame = i.frame;
  name = same.volume.name ∙ i.name;
  block_size = same.volume.block_size ∙ i.block_size;
  below = λ part pos h. i.below part pos (same.blocks part pos h);
}

-- a tree that is the same leaves what is held unchanged
pub is_unchanged : (before next : FileTree) (l : Plan) (f : Frame) → IsSameTree before next → IsUnchanged (stocked before l f) (stocked next l f)
is_unchanged before next l f same = record { layout = refl; frame = refl; stands = same_stands before next l f same }

-- ---- a call that stores nothing

abbrev pub after_ask : Given → Bool → Standing → Call → Moment → Ask → Standing
after_ask g on st call at ask = record {
  tree = after st.tree call at;
  files = files_after g on st call ask;
  space = space.after (rules g) on st.space ask;
}

module _ (before next : FileTree) (l : Plan) (f : Frame) (call : Call) (at : Moment) (step : IsChanging call at before next)
    (early : Tape) (g : Given) (on : Bool) (st : Standing) (i : IsStock early g on st (stocked before l f)) where
  asked : ask_of g st call at ≡ change
  asked = step.asks early g st i.plain

  change_stands : (late : Tape) → AreAlikeIn (TreeStandsIn before) late early → IsStock late g on (after_ask g on st call at change) (stocked next l (with_change true f))
  change_stands late alike = record {
    plain = step.plain late ∙ ap (λ t. after t call at) (blocks_make_the_tree late early before alike ∙ i.plain);
    files = step.lies early g on st i.plain i.files;
    layout = i.layout;
    frame = ap (λ (f : Frame). record f { changed = true }) i.frame;
    name = step.volume.name ∙ i.name;
    block_size = step.volume.block_size ∙ i.block_size;
    below = λ part pos h. i.below part pos (step.blocks part pos h);
  }

  pub change_done : IsDone early g on st call at (stocked before l f) (stocked next l (with_change true f))
  change_done = record {
    fits = ap (is_over (rules g) on st.space) asked;
    ops = sym (append-nil l.ops) ∙ ap (λ ask. l.ops ++ ops_of (rules g) on st.space ask) (sym asked);
    stands = λ late h. subst (λ (s : Standing). IsStock late g on s (stocked next l (with_change true f)))
        (ap (after_ask g on st call at) (sym asked)) (change_stands late h.alike);
  }

-- ---- a call that asks nothing

-- what is held is so on each tape with the same bytes in the blocks of the tree
pub still_stands : (t : FileTree) (l : Plan) (f : Frame) (early late : Tape) (g : Given) (on : Bool) (st : Standing) → IsStock early g on st (stocked t l f)
    → AreAlikeIn (TreeStandsIn t) late early → IsStock late g on st (stocked t l f)
still_stands t l f early late g on st i alike = record {
  plain = blocks_make_the_tree late early t alike ∙ i.plain;
  files = i.files;
  layout = i.layout;
  frame = i.frame;
  name = i.name;
  block_size = i.block_size;
  below = i.below;
}

module _ (t : FileTree) (l : Plan) (f : Frame) (call : Call) (at : Moment) (early : Tape) (g : Given) (on : Bool) (st : Standing)
    (i : IsStock early g on st (stocked t l f)) (asked : ask_of g st call at ≡ nothing) where
  -- a call that asks nothing and changes nothing is done
  pub still_done : IsDone early g on st call at (stocked t l f) (stocked t l f)
  still_done = record {
    fits = ap (is_over (rules g) on st.space) asked;
    ops = sym (append-nil l.ops) ∙ ap (λ ask. l.ops ++ ops_of (rules g) on st.space ask) (sym asked);
    stands = λ late h. subst (λ (s : Standing). IsStock late g on s (stocked t l f)) (sym (are_still.nothing_asked g on st call at asked)) (still_stands t l f early late g on st i h.alike);
  }

-- a call that changes the tree and asks nothing is done with its step
step_done : (before next : FileTree) (l : Plan) (f : Frame) (call : Call) (at : Moment) (changed : Bool) → IsTreeStep call at changed before next
    → (early : Tape) (g : Given) (on : Bool) (st : Standing) → IsStock early g on st (stocked before l f) → IsDone early g on st call at (stocked before l f) (stocked next l (with_change changed f))
step_done before next l f call at true step early g on st i = change_done before next l f call at step early g on st i
step_done before next l f call at false step early g on st i =
    subst (λ t. IsDone early g on st call at (stocked before l f) (stocked t l f)) (sym step.same) (still_done before l f call at early g on st i (step.asks early g st i.plain))

-- ---- a write

-- a byte of a run of blocks stands before the run's end
before_end : (n size byte : ℕ) → 1 ≤ size → byte < n → byte / size < div_ceil n size
before_end n size byte some lt =
    let times = div_ceil_times n size some in
    let low : byte / size * size ≤ byte = div-mul-le_self byte size in
    lt_of_mul-lt-mul_right size (omega (arith, low, lt, times.0))

-- it needs no more than there is, or it does
pub not_over : (limit need : ℕ) → need ≤ limit → nat_lt limit need ≡ false
not_over limit need h = grind (arith, nat_tests, h)

-- a need above its limit is over it
pub over : (limit need : ℕ) → limit < need → nat_lt limit need ≡ true
over limit need h = grind (arith, nat_tests, h)

module _ (part : Part) (n : ℕ) (e : layout.Ends) where
  pub end_here : end_of part (with_end part n e) ≡ n
  end_here = by part
    where
      by : (p : Part) → end_of p (with_end p n e) ≡ n
      by Ip = refl
      by Dp = refl

  -- a later end of one partition leaves no end earlier
  pub ends_grow : (other : Part) → end_of part e ≤ n → end_of other e ≤ end_of other (with_end part n e)
  ends_grow other more = by part other more
    where
      by : (p q : Part) → end_of p e ≤ n → end_of q e ≤ end_of q (with_end p n e)
      by Ip Ip more = more
      by Dp Dp more = more
      by Ip Dp more = omega arith
      by Dp Ip more = omega arith

module _ (before next : FileTree) (l : Plan) (f : Frame) (path : Path) (offset b : ℕ) (rest : List ℕ) (at : Moment) (wanted : Bool) (new : Extent)
    (free : refusal_of (plain_of whole before) (asks.Write path offset (b ∷ rest)) ≡ None)
    (early : Tape) (g : Given) (on : Bool) (st : Standing) (i : IsStock early g on st (stocked before l f))
    (some_block : 1 ≤ before.block_size)
    (wants : wanted ≡ chooses_ip f.carried.policy (unwrap_or (last_name path) []) (max (length (plain.cells_at (plain_of early before).nodes path)) (offset + length (b ∷ rest)))) where
  abbrev bytes : List ℕ
  bytes = b ∷ rest

  abbrev part : Part
  part = part_for (rules g) on st.space wanted bytes

  unrefused : refusal_of st.tree (asks.Write path offset bytes) ≡ None
  unrefused = ap (λ t. refusal_of t (asks.Write path offset bytes)) (sym i.plain) ∙ free_too early before (asks.Write path offset bytes) (λ p o c e. cc) free

  policy : f.carried.policy ≡ g.mounted.index.policy
  policy = ap (λ (f : Frame). f.carried.policy) i.frame

  pub asked_store : ask_of g st (asks.Write path offset bytes) at ≡ store wanted bytes
  asked_store = ap (λ r. ask_unless r (ask_unrefused g st (asks.Write path offset bytes) at)) unrefused
      ∙ ap (λ w. store w bytes) (sym (wants
      ∙ ap (λ p. chooses_ip p (unwrap_or (last_name path) []) (max (length (plain.cells_at (plain_of early before).nodes path)) (offset + length bytes))) policy
      ∙ ap (λ (t : plain.Tree). chooses_ip g.mounted.index.policy (unwrap_or (last_name path) []) (max (length (plain.cells_at t.nodes path)) (offset + length bytes))) i.plain))

  -- what the layout asks is what the space does
  pub data_is : data_admission l wanted bytes ≡ admission_of (rules g) on st.space l.ops (store wanted bytes) (end_place part st.space)
  data_is = ap (λ p. data_admission p wanted bytes) i.layout

  module _ (step : IsWrite path new bytes at before next) (now : Plan) (admitted : now ≡ (data_admission l wanted bytes).after)
      (new_is : new ≡ record { offset = offset; part = part; block = end_of part st.space.ends; byte = 0; count = length bytes }) where
    now_is : now ≡ plan_of (rules g) on (space.after (rules g) on st.space (store wanted bytes)) (l.ops ++ ops_of (rules g) on st.space (store wanted bytes))
    now_is = admitted ∙ ap (λ (a : Admission). a.after) data_is

    now_ops : now.ops ≡ l.ops ++ ops_of (rules g) on st.space (store wanted bytes)
    now_ops = ap (λ (p : Plan). p.ops) now_is

    extent_below : ExtentLiesBelow (ends_of (with_end part (end_of part st.space.ends + blocks (rules g) bytes) st.space.ends)) before.block_size new
    extent_below other pos h =
        let on_part : part ≡ other = sym (ap (λ (e : Extent). e.part) new_is) ∙ h.on in
        let count : new.count ≡ length bytes = ap (λ (e : Extent). e.count) new_is in
        let byte : new.byte ≡ 0 = ap (λ (e : Extent). e.byte) new_is in
        let block : new.block ≡ end_of part st.space.ends = ap (λ (e : Extent). e.block) new_is in
        let sum : new.byte + h.byte ≡ h.byte = omega (arith, byte) in
        let first : (new.byte + h.byte) / before.block_size ≡ h.byte / before.block_size = ap (λ n. n / before.block_size) sum in
        let low : h.byte / before.block_size < div_ceil (length bytes) before.block_size = before_end (length bytes) before.block_size h.byte some_block (omega (arith, h.within, count)) in
        let size : div_ceil (length bytes) before.block_size ≡ div_ceil (length bytes) g.mounted.label.block = ap (div_ceil (length bytes)) i.block_size in
        subst (λ q. pos < end_of q (with_end part (end_of part st.space.ends + blocks (rules g) bytes) st.space.ends)) on_part
        (subst (λ n. pos < n) (sym (end_here part (end_of part st.space.ends + blocks (rules g) bytes) st.space.ends))
        (omega (arith, h.here, first, low, size, block)))

    write_stands : (late : Tape) → AreAlikeIn (TreeStandsIn before) late early → HoldsBytes late g.mounted.label.block (new_run g on st wanted bytes) bytes
        → IsStock late g on (after_ask g on st (asks.Write path offset bytes) at (store wanted bytes)) (stocked next now (with_change true f))
    write_stands late alike holds = record {
      plain = step.plain early late holds_new alike ∙ ap (λ o. after (plain_of early before) (asks.Write path o bytes) at) (ap (λ (e : Extent). e.offset) new_is)
          ∙ ap (λ t. after t (asks.Write path offset bytes) at) i.plain;
      files = subst (λ (fs : Files). LieAs fs next) same_files (step.lies early st.files i.files);
      layout = now_is ∙ ap (plan_of (rules g) on (space.after (rules g) on st.space (store wanted bytes))) (sym now_ops);
      frame = ap (λ (f : Frame). record f { changed = true }) i.frame;
      name = step.volume.name ∙ i.name;
      block_size = step.volume.block_size ∙ i.block_size;
      below = ends_hold.given (ends_of (with_end part (end_of part st.space.ends + blocks (rules g) bytes) st.space.ends)) new before next step.blocks
          (λ other pos h. more (end_of other st.space.ends) _ pos (ends_grow part (end_of part st.space.ends + blocks (rules g) bytes) st.space.ends other (omega arith)) (i.below other pos h))
          extent_below;
    }
      where
        more : (a b pos : ℕ) → a ≤ b → pos < a → pos < b
        more a b pos h lt = omega (arith, h, lt)

        holds_new : HoldsBytes late before.block_size new bytes
        holds_new = subst (λ n. HoldsBytes late n new bytes) (sym i.block_size) (subst (λ (e : Extent). HoldsBytes late g.mounted.label.block e bytes) (sym new_is)
            (record { from_start = refl; all = refl; each = holds.each }))

        same_files : file_changed before path (λ laid. overlaid laid new) early st.files ≡ files_after g on st (asks.Write path offset bytes) (store wanted bytes)
        same_files = ap (λ (e : Extent). file_changed before path (λ laid. overlaid laid e) early st.files) new_is
            ∙ ap (λ (t : plain.Tree). with_file (uid_at t.nodes path) (λ laid. overlaid laid (record { offset = offset; part = part; block = end_of part st.space.ends; byte = 0; count = length bytes })) st.files) i.plain

    pub write_done : (need : (data_admission l wanted bytes).need ≤ (data_admission l wanted bytes).limit)
        → IsDone early g on st (asks.Write path offset bytes) at (stocked before l f) (stocked next now (with_change true f))
    write_done need = record {
      fits = ap (is_over (rules g) on st.space) asked_store ∙ not_over _ _ (subst (λ (a : Admission). a.need ≤ a.limit) data_is need);
      ops = now_ops ∙ ap (λ ask. l.ops ++ ops_of (rules g) on st.space ask) (sym asked_store);
      stands = λ late h. subst (λ (s : Standing). IsStock late g on s (stocked next now (with_change true f)))
          (ap (after_ask g on st (asks.Write path offset bytes) at) (sym asked_store))
          (write_stands late h.alike (subst (λ ask. Rattle.held_volume.specs.Applied.HoldsStored late g on st ask) asked_store h.holds));
    }

  pub write_full : (need limit : ℕ) → (data_admission l wanted bytes).limit < (data_admission l wanted bytes).need → need ≡ (data_admission l wanted bytes).need
      → limit ≡ (data_admission l wanted bytes).limit → IsFull g on st (asks.Write path offset bytes) at need limit
  write_full need limit more need_is limit_is = record {
    over = ap (is_over (rules g) on st.space) asked_store ∙ over _ _ (subst (λ (a : Admission). a.limit < a.need) data_is more);
    need_is = need_is ∙ ap (λ (a : Admission). a.need) data_is ∙ ap (need_of (rules g) on st.space) (sym asked_store);
    limit_is = limit_is ∙ ap (λ (a : Admission). a.limit) data_is ∙ ap (limit_of (rules g) on st.space) (sym asked_store);
  }

-- ---- a write as a whole

-- a write of no bytes asks nothing of the tape
pub empty_asks : (g : Given) (st : Standing) (path : Path) (offset : ℕ) (bytes : List ℕ) (at : Moment) → true ≡ eqb (length bytes) 0 → ask_of g st (asks.Write path offset bytes) at ≡ nothing
empty_asks g st path offset [] at e = asks_nothing (refusal_of st.tree (asks.Write path offset []))
empty_asks g st path offset (b ∷ bytes) at e =
    let test : eqb (length (b ∷ bytes)) 0 ≡ false = grind (arith, nat_tests) in
    absurd (let wrong : true ≡ false = e ∙ test in cc)

-- bytes whose count isn't 0 are one at least
pub some_bytes : (bytes : List ℕ) → false ≡ eqb (length bytes) 0 → 1 ≤ length bytes
some_bytes [] e = absurd cc
some_bytes (b ∷ bytes) e = omega arith

-- a write whose bytes are admitted is done
pub write_all : (old before next : FileTree) (l now : Plan) (f : Frame) (path : Path) (offset : ℕ) (bytes : List ℕ) (at : Moment) (wanted : Bool) (place : Place)
    → IsSameTree old before → 1 ≤ length bytes → refusal_of (plain_of whole before) (asks.Write path offset bytes) ≡ None → 1 ≤ before.block_size
    → ((tape : Tape) → wanted ≡ chooses_ip f.carried.policy (unwrap_or (last_name path) []) (max (length (plain.cells_at (plain_of tape before).nodes path)) (offset + length bytes)))
    → IsWrite path (record { offset = offset; part = place.part; block = place.pos; byte = 0; count = length bytes }) bytes at before next
    → IsAdmitted (data_admission l wanted bytes) l now (Ok place)
    → (early : Tape) (g : Given) (on : Bool) (st : Standing) → IsStock early g on st (stocked old l f)
    → IsDone early g on st (asks.Write path offset bytes) at (stocked old l f) (stocked next now (with_change true f))
write_all old before next l now f path offset [] at wanted place same some free block wants step admitted early g on st i = absurd (omega (arith, some))
write_all old before next l now f path offset (b ∷ rest) at wanted place same some free block wants step admitted early g on st i =
    let j = same_stands old before l f same early g on st i in
    let place_is : place ≡ end_place (part_for (rules g) on st.space wanted (b ∷ rest)) st.space =
    admitted.1 ∙ ap (λ (a : Admission). a.place) (data_is before next l f path offset b rest at wanted (record { offset = offset; part = place.part; block = place.pos; byte = 0; count = length (b ∷ rest) }) free early g on st j block (wants early)) in
    let new_is = ap (λ (p : Place). record { offset = offset; part = p.part; block = p.pos; byte = 0; count = length (b ∷ rest) }) place_is in
    let done = write_done before next l f path offset b rest at wanted (record { offset = offset; part = place.part; block = place.pos; byte = 0; count = length (b ∷ rest) }) free early g on st j block (wants early)
    step now admitted.2 new_is admitted.0 in
    record {
      fits = done.fits;
      ops = done.ops;
      stands = λ late h. done.stands late (record { alike = λ part pos byte there. h.alike part pos byte (same.blocks part pos there); holds = h.holds });
    }

-- a write whose bytes aren't admitted ends as it is told, with all as it was
pub write_refused : (old before : FileTree) (l now : Plan) (f : Frame) (path : Path) (offset : ℕ) (bytes : List ℕ) (at : Moment) (wanted : Bool) (e : AdmitErr)
    → IsSameTree old before → 1 ≤ length bytes → refusal_of (plain_of whole before) (asks.Write path offset bytes) ≡ None → 1 ≤ before.block_size
    → ((tape : Tape) → wanted ≡ chooses_ip f.carried.policy (unwrap_or (last_name path) []) (max (length (plain.cells_at (plain_of tape before).nodes path)) (offset + length bytes)))
    → IsAdmitted (data_admission l wanted bytes) l now (Err e)
    → (early : Tape) (g : Given) (on : Bool) (st : Standing) → IsStock early g on st (stocked old l f)
    → IsChange early g on st (asks.Write path offset bytes) at (stocked old l f) (stocked before now f) (Err e)
write_refused old before l now f path offset [] at wanted e same some free block wants admitted early g on st i = absurd (omega (arith, some))
write_refused old before l now f path offset (b ∷ rest) at wanted (Full need limit) same some free block wants admitted early g on st i =
    write_full before before l f path offset b rest at wanted (record { offset = offset; part = Dp; block = 0; byte = 0; count = 0 }) free early g on st (same_stands old before l f same early g on st i) block (wants early) need limit admitted.0 admitted.1 admitted.2
write_refused old before l now f path offset (b ∷ rest) at wanted NoMemory same some free block wants admitted early g on st i = tt

-- an admission that is refused leaves what is held unchanged
pub refused_leaves : (old before : FileTree) (l now : Plan) (f : Frame) (a : Admission) (e : AdmitErr) → IsSameTree old before → IsAdmitted a l now (Err e) → IsUnchanged (stocked old l f) (stocked before now f)
refused_leaves old before l now f a (Full need limit) same admitted = subst (λ n. IsUnchanged (stocked old l f) (stocked before n f)) (sym admitted.3) (is_unchanged old before l f same)
refused_leaves old before l now f a NoMemory same admitted = subst (λ n. IsUnchanged (stocked old l f) (stocked before n f)) (sym admitted) (is_unchanged old before l f same)

-- ---- a call as a whole

-- a call that the tree refuses is refused, whatever is lost on the tape
pub refused_too : (early : Tape) (t : FileTree) (tree : plain.Tree) (call : Call) (refusal : Refusal) → plain_of early t ≡ tree → refusal_of (plain_of whole t) call ≡ Some refusal → refusal_of tree call ≡ Some refusal
refused_too early t tree call refusal is told =
    ap (λ t. refusal_of t call) (sym is) ∙ ⊎_elim (λ (same : refusal_of (plain_of early t) call ≡ refusal_of (plain_of whole t) call). same ∙ told)
    (λ lost. absurd (let wrong : None ≡ Some refusal = sym lost.1 ∙ told in cc)) (refusals_alike early t call)

-- a call that the lock refuses is refused
pub locked_out : (early : Tape) (t : FileTree) (tree : plain.Tree) (call : Call) (refusal : Refusal) → plain_of early t ≡ tree → Some refusal ≡ lock_refusal t.lock call → refusal_of tree call ≡ Some refusal
locked_out early t tree call refusal is told = ap (λ t. refusal_of t call) (sym is) ∙ ap (λ r. or_else r (refusal_within (plain_of early t) call)) (sym told)

-- what is told of a write that the tree doesn't refuse
pub write_told : (early : Tape) (g : Given) (on : Bool) (st : Standing) (call : Call) (at : Moment) (old new : Stocked) → refusal_of (plain_of whole old.tree) call ≡ None
    → IsDone early g on st call at old new → IsApplied early g on st call at old new (Ok None)
write_told early g on st call at old new free h = (free, h)

-- and of one that is not done
pub write_not : (early : Tape) (g : Given) (on : Bool) (st : Standing) (call : Call) (at : Moment) (old new : Stocked) (e : AdmitErr) → refusal_of (plain_of whole old.tree) call ≡ None
    → IsChange early g on st call at old new (Err e) → IsApplied early g on st call at old new (Err e)
write_not early g on st call at old new (Full need limit) free h = (free, h)
write_not early g on st call at old new NoMemory free h = tt

-- a call that stores nothing is applied once it was tried and noted
pub tried_applied : {E : Type 0} (before next : FileTree) (l : Plan) (f now : Frame) (call want : Call) (at : Moment) (tried : Result (Result Bool Refusal) E) (told : Result (Option Refusal) AdmitErr)
    → call ≡ want → IfOk tried (IsTried want at before next) → IsNoted tried f now told
    → (early : Tape) (g : Given) (on : Bool) (st : Standing) → IsStock early g on st (stocked before l f)
    → IsApplied early g on st call at (stocked before l f) (stocked next l now) told
tried_applied before next l f now call want at (Ok (Ok changed)) told is try note early g on st i =
    subst (λ c. IsApplied early g on st c at (stocked before l f) (stocked next l now) told) (sym is)
    (subst (λ t. IsApplied early g on st want at (stocked before l f) (stocked next l now) t) (sym note.0)
    (try.0, subst (λ n. IsDone early g on st want at (stocked before l f) (stocked next l n)) (sym note.1) (step_done before next l f want at changed try.1 early g on st i)))
tried_applied before next l f now call want at (Ok (Err refusal)) told is try note early g on st i =
    subst (λ c. IsApplied early g on st c at (stocked before l f) (stocked next l now) told) (sym is)
    (subst (λ t. IsApplied early g on st want at (stocked before l f) (stocked next l now) t) (sym note.0)
    (refused_too early before st.tree want refusal i.plain try.0))
tried_applied before next l f now call want at (Err none) told is try note early g on st i =
    subst (λ t. IsApplied early g on st call at (stocked before l f) (stocked next l now) t) (sym note.0) tt

-- and leaves all where it isn't done
pub tried_leaves : {E : Type 0} (before next : FileTree) (l : Plan) (f now : Frame) (want : Call) (at : Moment) (tried : Result (Result Bool Refusal) E) (told : Result (Option Refusal) AdmitErr)
    → IfOk tried (IsTried want at before next) → OnErr tried (IsSameTree before next) → IsNoted tried f now told
    → LeavesAll (stocked before l f) (stocked next l now) told
tried_leaves before next l f now want at (Ok (Ok changed)) told try err note = subst (LeavesAll (stocked before l f) (stocked next l now)) (sym note.0) tt
tried_leaves before next l f now want at (Ok (Err refusal)) told try err note =
    subst (LeavesAll (stocked before l f) (stocked next l now)) (sym note.0)
    (ap (λ t. stocked t l now) try.1 ∙ ap (stocked before l) note.1)
tried_leaves before next l f now want at (Err none) told try err note =
    subst (LeavesAll (stocked before l f) (stocked next l now)) (sym note.0)
    (subst (λ n. IsUnchanged (stocked before l f) (stocked next l n)) (sym note.1) (is_unchanged before next l f err))

-- a file that is found may be read
pub readable : (t : FileTree) (path : Path) (r : Result ℕ Refusal) → IsChecked (no_file (plain_of whole t).nodes path) t path r → IfOk r (IsReadable t path)
readable t path (Ok file) is = record { stands = is.1; free = λ offset count. whole_read t path offset count ∙ is.0 }
readable t path (Err refusal) is = tt

-- and a read of what is none is refused, whatever is lost on the tape
pub not_readable : (t : FileTree) (s : Stocked) (path : Path) (r : Result ℕ Refusal) → t ≡ s.tree → IsChecked (no_file (plain_of whole t).nodes path) t path r
    → IfErr r (IsUnreadable s path)
not_readable t s path (Ok file) same is = tt
not_readable t s path (Err refusal) same is = record {
  found = λ offset count. ap (λ t. refusal_of (plain_of whole t) (asks.Read path offset count)) (sym same) ∙ whole_read t path offset count ∙ is;
  each = λ offset count tape g on st i.
      refused_too tape t st.tree (asks.Read path offset count) refusal (ap (plain_of tape) same ∙ i.plain) (whole_read t path offset count ∙ is);
}

-- a tree that is the same is so whatever stands on tape
pub same_tree : {X E : Type 0} (before next : FileTree) (r : Result X E) → OnErr r (next ≡ before) → OnErr r (IsSameTree before next)
same_tree before next (Ok x) is = tt
same_tree before next (Err e) is = subst (IsSameTree before) (sym is) (unchanged before)

-- ---- ops

-- what is held stays so once files may go to the index partition
pub turned_on : (t : FileTree) (l now : Plan) (f : Frame) (tape : Tape) (g : Given) (on : Bool) (st : Standing) → IsStock tape g on st (stocked t l f) → now ≡ record l { ip_on = true } → IsStock tape g true st (stocked t now f)
turned_on t l now f tape g on st i is = record {
  plain = i.plain;
  files = i.files;
  layout = is ∙ ap (λ (p : Plan). record p { ip_on = true }) i.layout ∙ ap (λ (p : Plan). plan_of (rules g) true st.space p.ops) (sym is);
  frame = i.frame;
  name = i.name;
  block_size = i.block_size;
  below = i.below;
}

-- what is held stays so once the first op is done
pub op_done : (t : FileTree) (l now : Plan) (f : Frame) (tape : Tape) (g : Given) (on : Bool) (st : Standing) → IsStock tape g on st (stocked t l f) → now ≡ record l { ops = drop 1 l.ops } → IsStock tape g on st (stocked t now f)
op_done t l now f tape g on st i is = record {
  plain = i.plain;
  files = i.files;
  layout = is ∙ ap (λ (p : Plan). record p { ops = drop 1 l.ops }) i.layout ∙ ap (λ (p : Plan). plan_of (rules g) on st.space p.ops) (sym is);
  frame = i.frame;
  name = i.name;
  block_size = i.block_size;
  below = i.below;
}
