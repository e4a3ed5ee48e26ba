-- What is held after a sync.
use Rattle.std.proofs.Common.{◌≡◌, ℕ, ◌+◌, ◌<◌, ◌≤◌, max, Bool, true, false, cond, List, [], ◌∷◌, ◌++◌, length, Some, None, Ok, Err, sym, ap, ◌∙◌, refl, subst, arith, length-append}
use Rattle.std.specs.Int.{div_ceil}
use Rattle.std.proofs.lemmas.List.FromFn.{length-map-range_with_len}
use Rattle.tape_types.specs.declared.cartridges.Part.TheVariants.{Dp}
use Rattle.tape_types.specs.declared.cartridges.Place.{Place}
use Rattle.tape_types.specs.declared.moments.Moment.{Moment}
use Rattle.extent_map.specs.Blocks.{AreAlikeIn}
use Rattle.extent_map.specs.Cells.{Tape}
use Rattle.plain_tree.specs.declared.calls.Call.TheVariants as asks
use Rattle.file_tree.specs.Blocks.{TreeStandsIn}
use Rattle.file_tree.specs.Tree.{FileTree}
use Rattle.file_tree.proofs.BlockLemmas.{blocks_make_the_tree}
use Rattle.tape_layout.specs.IndexConstruct.Blocks.{block_at}
use Rattle.tape_layout.specs.Admissions.{Admission, IsAdmitted, flush_first, index_admission}
use Rattle.tape_layout.specs.Ops.{construct, end_of, puts}
use Rattle.tape_layout.specs.Plans.{Plan}
use Rattle.tape_layout.specs.declared.errors.AdmitErr.{AdmitErr}
use Rattle.tape_layout.specs.declared.errors.AdmitErr.TheVariants.{Full, NoMemory}
use Rattle.tape_layout.specs.declared.ops.Op.{Op}
use Rattle.tape_layout.specs.declared.ops.Op.TheVariants.{Flush, Mark, Put}
use Rattle.space_laws.specs.Files.{canon}
use Rattle.space_laws.specs.Laws.{admission_of}
use Rattle.space_laws.specs.Space as space
use Rattle.space_laws.specs.Space.{Ask, Rules, Space, index, index_need, is_over, limit_of, need_of, nothing, ops_of, part_for, plan_of}
use Rattle.space_laws.specs.Standing.{Given, Standing, ask_of, rules, sync_text}
use Rattle.held_volume.specs.VolumeSync.Frames.{IsSync, sync_index, with_sync}
use Rattle.held_volume.specs.declared.volume_sync.frames.Frame.{Frame}
use Rattle.held_volume.specs.Applied.{IsChange, IsDone, IsFull, IsUnchanged}
use Rattle.held_volume.specs.Stocks.{IsStock, Stocked, stocked, with_index}
use Rattle.held_volume.specs.Syncs.{BringsAtMost, IsDocument}
use Rattle.held_volume.proofs.Stands.{ends_grow, not_over, over, still_done}
use Rattle.held_volume.proofs.Texts.{text_is}

-- ---- a sync

asked_nothing : (g : Given) (st : Standing) (at : Moment) → st.space.changed ≡ false → ask_of g st asks.Sync at ≡ nothing
asked_nothing g st at is = ap (λ b. cond b (index (sync_text g st at)) nothing) is

space_changed : (early : Tape) (g : Given) (on : Bool) (st : Standing) (s : Stocked) → IsStock early g on st s → (b : Bool) → s.frame.changed ≡ b → st.space.changed ≡ b
space_changed early g on st s i b is = sym (ap (λ (f : Frame). f.changed) i.frame) ∙ is

module _ (t : FileTree) (l : Plan) (f : Frame) (at : Moment) (text : List ℕ) (early : Tape) (g : Given) (on : Bool) (st : Standing)
    (i : IsStock early g on st (stocked t l f)) (told : text ≡ sync_text g st at) where
  abbrev admission : Admission
  admission = index_admission l (f.generation + 1) text

  index_admitted : admission ≡ admission_of (rules g) on st.space l.ops (index (sync_text g st at)) (record { part = Dp; pos = st.space.ends.dp + 1 })
  index_admitted = ap (λ text. index_admission l (f.generation + 1) text) told
      ∙ ap (λ p. index_admission p (f.generation + 1) (sync_text g st at)) i.layout
      ∙ ap (λ (f : Frame). index_admission (plan_of (rules g) on st.space l.ops) (f.generation + 1) (sync_text g st at)) i.frame

  -- where this is asked
  module _ (ask : Ask) (asked : ask ≡ index (sync_text g st at)) where
    -- an index that needs more than there is is over the limit of the space
    pub asks_more : admission.limit < admission.need → is_over (rules g) on st.space ask ≡ true
    asks_more more = ap (is_over (rules g) on st.space) asked ∙ over _ _ (subst (λ (a : Admission). a.limit < a.need) index_admitted more)

    -- an index that needs no more than there is isn't over the limit of the space
    pub asks_no_more : admission.need ≤ admission.limit → is_over (rules g) on st.space ask ≡ false
    asks_no_more fits = ap (is_over (rules g) on st.space) asked ∙ not_over _ _ (subst (λ (a : Admission). a.need ≤ a.limit) index_admitted fits)

    -- the need of the plan's admission is the one that the space tells
    pub need_asked : admission.need ≡ need_of (rules g) on st.space ask
    need_asked = ap (λ (a : Admission). a.need) index_admitted ∙ ap (need_of (rules g) on st.space) (sym asked)

    -- the limit of the plan's admission is the one that the space tells
    pub limit_asked : admission.limit ≡ limit_of (rules g) on st.space ask
    limit_asked = ap (λ (a : Admission). a.limit) index_admitted ∙ ap (limit_of (rules g) on st.space) (sym asked)

    module _ (now : Plan) (now_is : now ≡ admission.after) where
      plan_is : now ≡ plan_of (rules g) on (space.after (rules g) on st.space (index (sync_text g st at))) (l.ops ++ ops_of (rules g) on st.space (index (sync_text g st at)))
      plan_is = now_is ∙ ap (λ (a : Admission). a.after) index_admitted

      ops_are : now.ops ≡ l.ops ++ ops_of (rules g) on st.space (index (sync_text g st at))
      ops_are = ap (λ (p : Plan). p.ops) plan_is

      -- the ops that are admitted are those that the space asks
      pub ops_asked : now.ops ≡ l.ops ++ ops_of (rules g) on st.space ask
      ops_asked = ops_are ∙ ap (λ ask. l.ops ++ ops_of (rules g) on st.space ask) (sym asked)

      module _ (place : Place) (place_is : place ≡ admission.place) where
        first_block : place.pos ≡ st.space.ends.dp + 1
        first_block = ap (λ (p : Place). p.pos) (place_is ∙ ap (λ (a : Admission). a.place) index_admitted)

        index_stands : (late : Tape) → AreAlikeIn (TreeStandsIn t) late early
            → IsStock late g on (record st { space = space.after (rules g) on st.space (index (sync_text g st at)) }) (stocked t now (with_index (with_sync f place)))
        index_stands late alike = record {
          plain = blocks_make_the_tree late early t alike ∙ i.plain;
          files = i.files;
          layout = plan_is ∙ ap (plan_of (rules g) on (space.after (rules g) on st.space (index (sync_text g st at)))) (sym ops_are);
          frame = ap (λ pos. with_index (with_sync f (record { part = Dp; pos = pos }))) first_block
              ∙ ap (λ (f : Frame). with_index (with_sync f (record { part = Dp; pos = st.space.ends.dp + 1 }))) i.frame;
          name = i.name;
          block_size = i.block_size;
          below = λ part pos h. further (end_of part st.space.ends) _ pos
              (ends_grow Dp (index_need (rules g) Dp st.space (sync_text g st at)) st.space.ends part (omega arith)) (i.below part pos h);
        }
          where
            further : (a b pos : ℕ) → a ≤ b → pos < a → pos < b
            further a b pos h lt = omega (arith, h, lt)

        -- with the index of a sync, what is held is what stands after it
        pub asked_stands : (late : Tape) → AreAlikeIn (TreeStandsIn t) late early
            → IsStock late g on (record st { space = space.after (rules g) on st.space ask }) (stocked t now (with_index (with_sync f place)))
        asked_stands late alike = subst (λ ask. IsStock late g on (record st { space = space.after (rules g) on st.space ask }) (stocked t now (with_index (with_sync f place))))
            (sym asked) (index_stands late alike)

  module _ (changed : st.space.changed ≡ true) where
    asked_index : ask_of g st asks.Sync at ≡ index (sync_text g st at)
    asked_index = ap (λ b. cond b (index (sync_text g st at)) nothing) changed

    pub sync_full : (need limit : ℕ) → admission.limit < admission.need → need ≡ admission.need → limit ≡ admission.limit → IsFull g on st asks.Sync at need limit
    sync_full need limit more need_is limit_is = record {
      over = asks_more (ask_of g st asks.Sync at) asked_index more;
      need_is = need_is ∙ need_asked (ask_of g st asks.Sync at) asked_index;
      limit_is = limit_is ∙ limit_asked (ask_of g st asks.Sync at) asked_index;
    }

    pub sync_done : (now : Plan) (place : Place) → admission.need ≤ admission.limit → place ≡ admission.place → now ≡ admission.after
        → IsDone early g on st asks.Sync at (stocked t l f) (stocked t now (with_index (with_sync f place)))
    sync_done now place fits place_is now_is = record {
      fits = asks_no_more (ask_of g st asks.Sync at) asked_index fits;
      ops = ops_asked (ask_of g st asks.Sync at) asked_index now now_is;
      stands = λ late h. asked_stands (ask_of g st asks.Sync at) asked_index now now_is place place_is late h.alike;
    }

-- ---- results

-- a text is admitted, or isn't
synced : (t : FileTree) (l now : Plan) (f after : Frame) (at : Moment) (text : List ℕ) (early : Tape) (g : Given) (on : Bool) (st : Standing) → IsStock early g on st (stocked t l f)
    → IsDocument g st at (Some text) → (e : AdmitErr) → IsSync text l now f after (Err e) → IsChange early g on st asks.Sync at (stocked t l f) (stocked t now after) (Err e)
synced t l now f after at text early g on st i told (Full need limit) s = sync_full t l f at text early g on st i told.1 told.0 need limit s.admitted.0 s.admitted.1 s.admitted.2
synced t l now f after at text early g on st i told NoMemory s = tt

-- a sync whose index is admitted is done
pub sync_admitted : (t : FileTree) (l now : Plan) (f after : Frame) (at : Moment) (text : List ℕ) (early : Tape) (g : Given) (on : Bool) (st : Standing) → IsStock early g on st (stocked t l f)
    → IsDocument g st at (Some text) → (place : Place) → IsSync text l now f after (Ok place) → IsDone early g on st asks.Sync at (stocked t l f) (stocked t now (with_index after))
sync_admitted t l now f after at text early g on st i told place s =
    subst (λ a. IsDone early g on st asks.Sync at (stocked t l f) (stocked t now (with_index a))) (sym s.frame)
    (sync_done t l f at text early g on st i told.1 told.0 now place s.admitted.0 s.admitted.1 s.admitted.2)

-- a sync before which nothing changed is done, with all as it was
pub sync_still : (t : FileTree) (l : Plan) (f : Frame) (early : Tape) (g : Given) (on : Bool) (st : Standing) (at : Moment) → IsStock early g on st (stocked t l f)
    → IsDocument g st at None → IsDone early g on st asks.Sync at (stocked t l f) (stocked t l f)
sync_still t l f early g on st at i told = still_done t l f asks.Sync at early g on st i (asked_nothing g st at told)

sync_unchanged : (t : FileTree) (l now : Plan) (f after : Frame) (text : List ℕ) (e : AdmitErr) → IsSync text l now f after (Err e) → IsUnchanged (stocked t l f) (stocked t now after)
sync_unchanged t l now f after text e s =
    subst (λ p. IsUnchanged (stocked t l f) (stocked t p after)) (sym (same e s.admitted)) (subst (λ a. IsUnchanged (stocked t l f) (stocked t l a)) (sym s.frame) alike)
  where
    same : (e : AdmitErr) → IsAdmitted (index_admission l (f.generation + 1) text) l now (Err e) → now ≡ l
    same (Full need limit) admitted = admitted.3
    same NoMemory admitted = admitted

    alike : IsUnchanged (stocked t l f) (stocked t l f)
    alike = record { layout = refl; frame = refl; stands = λ tape g on st i. i }

-- ---- the text

-- the text of a sync where something changed is the one that is due
pub document_told : (t : FileTree) (l : Plan) (f : Frame) (at : Moment) (end : ℕ) (text : List ℕ) → f.changed ≡ true → end ≡ l.ends.dp → text ≡ canon (sync_index f t end at)
    → (tape : Tape) (g : Given) (on : Bool) (st : Standing) → IsStock tape g on st (stocked t l f) → IsDocument g st at (Some text)
document_told t l f at end text changed here is tape g on st i =
    (space_changed tape g on st (stocked t l f) i true changed, is ∙ ap (λ n. canon (sync_index f t n at)) here ∙ text_is tape g on st (stocked t l f) i at)

-- ---- how many ops

puts_long : (size : ℕ) (part : Rattle.tape_types.specs.declared.cartridges.Part.Part) (pos : ℕ) (doc : List ℕ) → length (puts size part pos doc) ≡ div_ceil (length doc) size
puts_long size part pos doc = length-map-range_with_len (λ k. Put (record { part = part; pos = pos + k }) (block_at size doc k)) 0 (div_ceil (length doc) size)

-- a write of so many bytes, and an index of such a text, bring at most so many ops
pub brings : (v : Rules) (on : Bool) (s : Space) (count size most : ℕ) → v.block_size ≡ size → most ≡ div_ceil count size + 4 → BringsAtMost v on s count most
brings v on s count size most same is = record {
  stores = λ wanted bytes long.
      let puts_are = puts_long v.block_size (part_for v on s wanted bytes) (end_of (part_for v on s wanted bytes) s.ends) bytes in
      omega (arith, puts_are, blocks_are bytes long, is);
  indexes = λ text long.
      let a : List Op = flush_first s.flush_due s.ends.ip in
      let p : List Op = puts v.block_size Dp (s.ends.dp + 1) text in
      let m : List Op = Mark (record { part = Dp; pos = s.ends.dp }) ∷ [] in
      let n : List Op = Mark (record { part = Dp; pos = s.ends.dp + 1 + div_ceil (length text) v.block_size }) ∷ [] in
      let z : List Op = Flush (record { part = Dp; pos = s.ends.dp + 2 + div_ceil (length text) v.block_size }) ∷ [] in
      omega (
        arith,
        length-append (flush_first s.flush_due s.ends.ip) (construct v.block_size Dp s.ends.dp text),
        length-append (m ++ p ++ n) z,
        length-append (m ++ p) n,
        length-append m p,
        first s.flush_due,
        puts_long v.block_size Dp (s.ends.dp + 1) text,
        blocks_are text long,
        is,
      );
}
  where
    blocks_are : (bytes : List ℕ) → length bytes ≡ count → div_ceil (length bytes) v.block_size ≡ div_ceil count size
    blocks_are bytes long = ap (λ n. div_ceil n v.block_size) long ∙ ap (div_ceil count) same

    first : (due : Bool) → length (flush_first due s.ends.ip) ≤ 1
    first true = omega arith
    first false = omega arith

-- the blocks of the label are those of the tree, which have bytes
pub block_is : (tape : Tape) (g : Given) (on : Bool) (st : Standing) (s : Stocked) → IsStock tape g on st s → 1 ≤ s.tree.block_size → g.mounted.label.block ≡ max s.frame.label.block 1
block_is tape g on st s i some =
    let label : s.frame.label.block ≡ g.mounted.label.block = ap (λ (f : Frame). f.label.block) i.frame in
    omega (arith, label, i.block_size, some)
