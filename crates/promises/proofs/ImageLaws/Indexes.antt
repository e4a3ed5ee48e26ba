-- An index that is admitted on the data partition.
use Rattle.std.proofs.Common.{ℕ, ◌+◌, ◌≤◌, ◌<◌, ◌≡◌, ◌≢◌, inr, Bool, true, false, List, [], ◌∷◌, ◌++◌, length, take, map, Option, Some, None, option_map, refl, sym, ap, subst, ◌∙◌, arith, append_assoc, append-nil, length-append}
use Rattle.std.specs.List.{concat}
use Rattle.std.proofs.lemmas.List.{take-append-le}
use Rattle.tape_types.specs.declared.cartridges.Cartridge.{Cartridge}
use Rattle.tape_types.specs.declared.cartridges.Item.{Item}
use Rattle.tape_types.specs.declared.cartridges.Item.TheVariants.{Block, Mark}
use Rattle.tape_types.specs.declared.cartridges.Part.TheVariants.{Ip, Dp}
use Rattle.session_script.specs.declared.logs.Ack.{Ack}
use Rattle.ltfs_label.specs.declared.Label.{Label}
use Rattle.index_model.specs.Grammar.{IndexText}
use Rattle.index_model.specs.declared.indexes.Index.{Index}
use Rattle.tape_layout.specs.IndexConstruct.Blocks.{blocks_of}
use Rattle.tape_layout.proofs.IndexConstruct.Cuts.{cut_in_one_way}
use Rattle.content_laws.specs.Readings.{Construct, front}
use Rattle.content_laws.specs.Content.{Bad, Content, Data, content}
use Rattle.content_laws.specs.Ends.{EndsWithLast, end_dp, end_ip}
use Rattle.content_laws.proofs.Folded.{in_data}
use Rattle.content_laws.proofs.Grown.{index_appended}
use Rattle.content_laws.proofs.Whole.{front_append, front_blocks}
use Rattle.tape_layout.specs.declared.ops.Op.{Op}
use Rattle.tape_layout.specs.declared.ops.Op.TheVariants as ops
use Rattle.tape_layout.specs.Admissions.{flush_first}
use Rattle.tape_layout.specs.Ops.{puts}
use Rattle.cartridge_meaning.specs.Pointers.{IsLastOnDp, indexes_of, last_block, letter_of, newest_spot}
use Rattle.space_laws.specs.Space.{Rules, Space, blocks, with_index}
use Rattle.promises.specs.ImageLaws.Left.{IsLonger}
use Rattle.promises.specs.ImageLaws.Fine.{IsSame}
use Rattle.promises.specs.ImageLaws.Images.{Counts, IsSound, Tells}
use Rattle.promises.specs.ImageLaws.Kept.{IsServed, Kept, Moment, Serves, Wait, plan_of}
use Rattle.promises.specs.ImageLaws.Made.{Base, CoveredIndex, Job, Made, Trees, Volume, after, cartridge_of, flushed, least, newer_of, newest, newest_entry, plain, put_on, still_ahead}
use Rattle.promises.specs.ImageLaws.Plans.{IsDue, IsPlanned, IsReady, index_jobs}
use Rattle.promises.proofs.ImageLaws.Admits.{kept_sound, served_unchanged, serves_more}
use Rattle.promises.proofs.ImageLaws.Appends.{IsOpened, IsQuiet, LeadsTo, form_of, leads_append, puts_are, quiet_mark, run, sound_put, with_items}
use Rattle.promises.proofs.ImageLaws.Data.{count_is, length_more, ready_opened}
use Rattle.promises.proofs.ImageLaws.Flushes.{CanFlush, IsAbove, above_after, behind_above, end_ready, flush_above, flush_free, newest_stays, none_ahead, tells_further}
use Rattle.promises.proofs.ImageLaws.Longer.{after_append, sound_after, sound_longer, tells_longer}

-- ---- the text of an index in its blocks

-- the blocks of a text together are that text
pub joined : (size : ℕ) (text : List ℕ) → 1 ≤ size → concat (blocks_of size text) ≡ text
joined size text some = (cut_in_one_way.cut size text some).joined

-- a text that isn't empty has a block
pub some_blocks : (size : ℕ) (text : List ℕ) → 1 ≤ size → 1 ≤ length text → blocks_of size text ≢ []
some_blocks size text some long none =
    omega (arith, long, ap (λ (l : List ℕ). length l) (sym (joined size text some)), ap (λ (bs : List (List ℕ)). length (concat bs)) none)

-- ---- what stands behind an index

-- a mark, blocks and a mark at the end of items
abbrev pub with_construct : List Item → List (List ℕ) → List Item
with_construct items bs = items ++ Mark ∷ [] ++ map Block bs ++ Mark ∷ []

-- an index construct is a mark, its blocks and a mark behind the items
pub construct_is : (items : List Item) (bs : List (List ℕ)) → with_construct items bs ≡ items ++ (Mark ∷ (map Block bs ++ Mark ∷ []))
construct_is items bs =
    ap (λ (l : List Item). l ++ Mark ∷ []) (append_assoc items (Mark ∷ []) (map Block bs))
    ∙ append_assoc items (Mark ∷ map Block bs) (Mark ∷ [])

-- the index construct that stands behind some items, with these blocks
abbrev pub new_construct : List Item → List (List ℕ) → Construct
new_construct items bs = record { mark = length items; blocks = bs }

-- a partition that was ready reads with a new index as it did and one index more
pub construct_content : (items : List Item) (bs : List (List ℕ)) → IsReady items → bs ≢ []
    → content (with_construct items bs) ≡ in_data (length items + length bs + 2) 0 (new_construct items bs ∷ indexes_of items)
construct_content items bs r some =
    ap content (construct_is items bs) ∙ index_appended items bs r.since r.whole r.labels r.stage some

-- an index construct makes a partition longer by its blocks and two marks
pub construct_long : (items : List Item) (bs : List (List ℕ)) → length (with_construct items bs) ≡ length items + length bs + 2
construct_long items bs = omega (
  arith,
  length-append (items ++ Mark ∷ [] ++ map Block bs) (Mark ∷ []),
  length_more (items ++ Mark ∷ []) bs,
  length-append items (Mark ∷ []),
)

-- with a new index a partition is ready for the next one
pub construct_ready : (items : List Item) (bs : List (List ℕ)) → IsReady items → bs ≢ [] → IsReady (with_construct items bs)
construct_ready items bs r some = record {
  whole =
      ap front (construct_is items bs)
      ∙ front_append items (Mark ∷ (map Block bs ++ Mark ∷ [])) r.whole
      ∙ ap (λ (l : List Item). items ++ Mark ∷ l) (front_append (map Block bs) (Mark ∷ []) (front_blocks bs))
      ∙ sym (construct_is items bs);
  labels = omega (arith, r.labels, construct_long items bs);
  since = 0;
  stage = ap (λ (s : Content). s.phase) (construct_content items bs r some);
}

-- the spot of the last index is that of the last block that begins one
pub spot_named : (label : Label) (ks : List Construct)
    → option_map (λ (block : ℕ). record { letter = letter_of label Dp; block = block }) (last_block ks) ≡ newest_spot label ks
spot_named label [] = refl
spot_named label (k ∷ older) = refl

-- an index that was put at the end of the data partition is its last, with its pointers right, and it ends the partition
pub new_last : (label : Label) (items : List Item) (bs : List (List ℕ)) (index : Index) → IsReady items → bs ≢ [] → IndexText (concat bs) index
    → index.uuid ≡ label.uuid → index.here ≡ record { letter = letter_of label Dp; block = length items + 1 }
    → index.back ≡ newest_spot label (indexes_of items) → IsLastOnDp label (indexes_of (with_construct items bs)) (Some index)
new_last label items bs index r some reads uuid here back =
    subst (λ (ks : List Construct). IsLastOnDp label ks (Some index)) (sym (ap (λ (s : Content). s.constructs) (construct_content items bs r some))) (
      index,
      refl,
      record { text = reads; uuid = uuid },
      record { here = here; back = back },
    )

-- a partition with a new index ends with that index
pub ends_with_new : (items : List Item) (bs : List (List ℕ)) → IsReady items → bs ≢ []
    → EndsWithLast (with_construct items bs) (indexes_of (with_construct items bs))
ends_with_new items bs r some =
    subst (λ (ks : List Construct). EndsWithLast (with_construct items bs) ks)
    (sym (ap (λ (s : Content). s.constructs) (construct_content items bs r some))) (construct_long items bs)

-- ---- the flush before an index

abbrev pub with_base : Base → Made → Made
with_base b s = record { ip = s.ip; dp = s.dp; last = s.last; base = b }

-- all of the index partition is flushed, and the newest index of all is what it was
pub record IsFlushed (v : Volume) (t : Trees) (plan : Cartridge) (s : Made) (jobs : List Job) : Type 0 where
  pub base : Base
  pub leads : LeadsTo v t plan s jobs (with_base base s)
  pub sound : IsSound v t plan (with_base base s)
  pub above : IsAbove base.floor base.ahead
  pub sure : base.sure ≡ length s.ip
  pub newest_is : newest_entry base ≡ newest_entry s.base

leads_sound : (v : Volume) (t : Trees) (plan : Cartridge) (s made : Made) (jobs : List Job) → LeadsTo v t plan s jobs made → IsSound v t plan s
    → IsSound v t plan made
leads_sound v t plan s made jobs l sound =
    subst (λ (m : Made). IsSound v t plan m) l.to (sound_after v t plan jobs s sound l.safe)

flushed_first : (v : Volume) (t : Trees) (plan : Cartridge) (s : Made) (due : Bool) (end : ℕ) → (due ≡ false → s.base.sure ≡ length s.ip) → s.last ≡ s.base.floor
    → CanFlush plan s → IsReady s.ip → indexes_of s.ip ≡ [] → IsSound v t plan s → IsFlushed v t plan s (map plain (flush_first due end))
flushed_first v t plan s false end sure indexed can ready free sound = record {
  base = s.base;
  leads = record { safe = tt; to = refl };
  sound = sound;
  above = can.above;
  sure = sure refl;
  newest_is = refl;
}
flushed_first v t plan s true end sure indexed can ready free sound =
    let after_it = flush_free v t plan s (record { part = Ip; pos = end }) can free sound in
    record {
      base = flushed s;
      leads = record { safe = (tt, after_it, tt); to = refl };
      sound = after_it;
      above = flush_above s can.above indexed;
      sure = end_ready s.ip ready free;
      newest_is = newest_stays s.base.floor s.last s.base.ahead can.above indexed;
    }

-- ---- the index

module _ (v : Volume) (t : Trees) (s : Made) (space : Space) (rules : Rules) (text : List ℕ) (e : CoveredIndex) (p : IsPlanned t s space)
    (due : IsDue v t s space text e) (size : 1 ≤ rules.block_size) (above : IsAbove s.base.floor s.base.ahead) (sound : IsSound v t (cartridge_of s) s) where
  abbrev bs : List (List ℕ)
  bs = blocks_of rules.block_size text

  abbrev k : Construct
  k = new_construct s.dp bs

  -- the state with the index, and with it flushed
  abbrev indexed : Base → Made
  indexed b = record { ip = s.ip; dp = with_construct s.dp bs; last = e; base = b }

  abbrev plan : Cartridge
  plan = cartridge_of (indexed s.base)

  longer : IsLonger (cartridge_of s) plan
  longer = record {
    more_ip = [];
    ip = sym (append-nil s.ip);
    more_dp = Mark ∷ (map Block bs ++ Mark ∷ []);
    dp = construct_is s.dp bs;
  }

  sound0 : IsSound v t plan s
  sound0 = sound_longer v t (cartridge_of s) plan longer s sound

  some : bs ≢ []
  some = some_blocks rules.block_size text size due.some

  is_content : content (with_construct s.dp bs) ≡ in_data (length s.dp + length bs + 2) 0 (k ∷ indexes_of s.dp)
  is_content = construct_content s.dp bs p.ready_dp some

  is_indexes : indexes_of (with_construct s.dp bs) ≡ k ∷ indexes_of s.dp
  is_indexes = ap (λ (c : Content). c.constructs) is_content

  opened_ip : IsOpened s.ip
  opened_ip = ready_opened s.ip p.ready_ip

  end_of_ip : end_ip (content s.ip) ≡ length s.ip
  end_of_ip = end_ready s.ip p.ready_ip p.no_index

  can_first : CanFlush plan s
  can_first = record { above = above; longer = longer; opened = opened_ip; sure = omega (arith, sound.grounded.on_ip, end_of_ip) }

  -- the flush that comes first, where one is due, leaves all of the index partition flushed
  pub first : IsFlushed v t plan s (map plain (flush_first space.flush_due space.ends.ip))
  first = flushed_first v t plan s space.flush_due space.ends.ip p.flushed p.indexed can_first p.ready_ip p.no_index sound0

  module _ (b : Base) (sound1 : IsSound v t plan (with_base b s)) (sure : b.sure ≡ length s.ip) (newest_is : newest_entry b ≡ newest_entry s.base)
      (above1 : IsAbove b.floor b.ahead) where
    is_newer : newest b < e.index.generation
    is_newer = omega (arith, due.generation, p.newest_is, ap (λ (f : CoveredIndex). f.index.generation) newest_is)

    dp_reads : IsLastOnDp v.labels.ip (indexes_of (with_construct s.dp bs)) (Some e.index)
    dp_reads =
        new_last v.labels.ip s.dp bs e.index p.ready_dp some (subst (λ (w : List ℕ). IndexText w e.index) (sym (joined rules.block_size text size)) due.reads)
        due.uuid (due.here ∙ ap (λ (n : ℕ). record { letter = letter_of v.labels.ip Dp; block = n + 1 }) p.end_dp)
        (due.back
        ∙ ap (option_map (λ (block : ℕ). record { letter = letter_of v.labels.ip Dp; block = block })) p.last_dp
        ∙ spot_named v.labels.ip (indexes_of s.dp))

    dp_tells : Tells v t plan b.sure (end_dp (k ∷ indexes_of s.dp)) e
    dp_tells =
        tells_further v t plan space.ends.ip space.ends.dp b.sure (end_dp (k ∷ indexes_of s.dp)) e (omega (arith, sure, p.end_ip)) (omega (arith, p.end_dp))
        (tells_longer v t (cartridge_of s) plan longer space.ends.ip space.ends.dp e sound.grounded.labels.one_volume.places.letters
        (omega (arith, p.end_ip)) (omega (arith, p.end_dp)) due.tells)

    dp_counts : Counts v t plan b (end_dp (k ∷ indexes_of s.dp)) (k ∷ sound1.dp.more) e
    dp_counts = inr (
      is_newer,
      omega (arith, due.all, sound.grounded.tells.covered, ap (λ (f : CoveredIndex). f.place) newest_is),
      dp_tells,
    )

    with_index_sound : IsSound v t plan (indexed b)
    with_index_sound = record {
      grounded = sound1.grounded;
      dp = record {
        labels =
            ap (take 4) (construct_is s.dp bs)
            ∙ take-append-le 4 s.dp (Mark ∷ (map Block bs ++ Mark ∷ [])) p.ready_dp.labels
            ∙ sound1.dp.labels;
        form = form_of (with_construct s.dp bs) (λ at bad. let no : Data 0 ≡ Bad at = sym (ap (λ (c : Content). c.phase) is_content) ∙ bad in cc no);
        more = k ∷ sound1.dp.more;
        split = is_indexes ∙ ap (λ (ks : List Construct). k ∷ ks) sound1.dp.split;
        reads = dp_reads;
        agrees = refl;
        counts = subst (λ (ks : List Construct). Counts v t plan b (end_dp ks) (k ∷ sound1.dp.more) e) (sym is_indexes) dp_counts;
      };
      ip = sound1.ip;
    }

    abbrev s1 : Made
    s1 = with_base b s

    quiet : IsQuiet s.dp Mark
    quiet = quiet_mark s.dp p.ready_dp.since p.ready_dp.whole p.ready_dp.labels p.ready_dp.stage

    abbrev s2 : Made
    s2 = put_on Dp Mark None s1

    sound2 : IsSound v t plan s2
    sound2 = sound_put v t plan Dp Mark s1 tt tt quiet sound1

    marked : LeadsTo v t plan s1 (plain (ops.Mark (record { part = Dp; pos = space.ends.dp })) ∷ []) s2
    marked = record { safe = ((p.end_dp, tt), sound2, tt); to = refl }

    abbrev s3 : Made
    s3 = with_items Dp (s.dp ++ Mark ∷ [] ++ map Block bs) s2

    filled : LeadsTo v t plan s2 (map plain (puts rules.block_size Dp (space.ends.dp + 1) text)) s3
    filled =
        subst (λ (os : List Op). LeadsTo v t plan s2 (map plain os) s3) (sym (puts_are rules.block_size Dp (space.ends.dp + 1) text))
        (run v t plan Dp bs (space.ends.dp + 1) s2 (omega (arith, p.end_dp, length-append s.dp (Mark ∷ []))) tt tt quiet.opened sound2)

    long3 : space.ends.dp + 1 + blocks rules text ≡ length s3.dp
    long3 = omega (
      arith,
      p.end_dp,
      length_more (s.dp ++ Mark ∷ []) bs,
      length-append s.dp (Mark ∷ []),
      count_is rules.block_size text,
    )

    closed : LeadsTo v t plan s3 (record { op = ops.Mark (record { part = Dp; pos = space.ends.dp + 1 + blocks rules text }); whole = Some e } ∷ []) (indexed b)
    closed = record { safe = ((long3, tt), with_index_sound, tt); to = refl }

    can_last : CanFlush plan (indexed b)
    can_last = record {
      above = above1;
      longer = record { more_ip = []; ip = sym (append-nil s.ip); more_dp = []; dp = sym (append-nil (with_construct s.dp bs)) };
      opened = opened_ip;
      sure = omega (arith, sure, end_of_ip);
    }

    flushed_last : LeadsTo v t plan (indexed b) (plain (ops.Flush (record { part = Dp; pos = space.ends.dp + 2 + blocks rules text })) ∷ [])
        (indexed (flushed (indexed b)))
    flushed_last = record { safe = (tt, flush_free v t plan (indexed b) (record { part = Dp; pos = space.ends.dp + 2 + blocks rules text }) can_last p.no_index with_index_sound, tt); to = refl }

    behind_first : (before : List Job) → LeadsTo v t plan s before s1
        → LeadsTo v t plan s
        (before
        ++ plain (ops.Mark (record { part = Dp; pos = space.ends.dp })) ∷ []
        ++ map plain (puts rules.block_size Dp (space.ends.dp + 1) text)
        ++ record { op = ops.Mark (record { part = Dp; pos = space.ends.dp + 1 + blocks rules text }); whole = Some e } ∷ []
        ++ plain (ops.Flush (record { part = Dp; pos = space.ends.dp + 2 + blocks rules text })) ∷ [])
        (indexed (flushed (indexed b)))
    behind_first before l =
        leads_append v t plan s (indexed b) (indexed (flushed (indexed b))) _ _
        (leads_append v t plan s s3 (indexed b) _ _ (leads_append v t plan s s2 s3 _ _ (leads_append v t plan s s1 s2 before _ l marked) filled) closed)
        flushed_last

    none_is_ahead : still_ahead e b.ahead ≡ None
    none_is_ahead = none_ahead b.floor e b.ahead is_newer

    last_is_newest : newest_entry (flushed (indexed b)) ≡ e
    last_is_newest = ap (λ (o : Option CoveredIndex). newer_of o e) none_is_ahead

    same_here : IsSame t t.count t.count
    same_here j from to = let here : j ≡ t.count = omega (arith, from, to) in ap (λ (n : ℕ). t.nth n) here

    planned_index : IsPlanned t (indexed (flushed (indexed b))) (with_index rules text space)
    planned_index = record {
      end_ip = p.end_ip;
      end_dp = omega (arith, p.end_dp, construct_long s.dp bs, count_is rules.block_size text);
      newest_is = omega (arith, due.generation, ap (λ (f : CoveredIndex). f.index.generation) last_is_newest);
      last_dp = ap (λ (n : ℕ). Some (n + 1)) p.end_dp ∙ ap last_block (sym is_indexes);
      indexed = refl;
      flushed = λ same. end_of_ip;
      covered = λ same.
          let place : least (flushed (indexed b)) ≡ t.count = ap (λ (f : CoveredIndex). f.place) last_is_newest ∙ due.all in
          subst (λ (n : ℕ). IsSame t n t.count) (sym place) same_here;
      ended = λ same. ends_with_new s.dp bs p.ready_dp some;
      ready_ip = p.ready_ip;
      no_index = p.no_index;
      ready_dp = construct_ready s.dp bs p.ready_dp some;
    }

  abbrev index_made : Made
  index_made = indexed (flushed (indexed first.base))

  pub index_leads : LeadsTo v t (cartridge_of index_made) s (index_jobs rules space text e) index_made
  index_leads =
      behind_first first.base first.sound first.sure first.newest_is first.above (map plain (flush_first space.flush_due space.ends.ip)) first.leads

  pub index_planned : IsPlanned t index_made (with_index rules text space)
  index_planned = planned_index first.base first.sound first.sure first.newest_is first.above

  -- behind it no index is ahead
  pub index_settles : index_made.base.ahead ≡ None
  index_settles = none_is_ahead first.base first.sound first.sure first.newest_is first.above

-- ---- admitted

kept_above : (v : Volume) (t : Trees) (s : Made) (since : ℕ) (d : Moment) (done : ℕ) (jobs : List Job) (waits : List Wait) (acks : List Ack)
    → Kept v t s since d done jobs waits acks → IsAbove (after s jobs).base.floor (after s jobs).base.ahead
kept_above v t s since d done jobs waits acks k =
    above_after v t (plan_of s jobs) jobs s k.sound k.safe
    (behind_above s.base.floor s.base.ahead k.reads.image.ip.on_ip k.reads.image.ip.behind)

-- an index that is due and admitted leaves the volume served
pub admitted_index : (v : Volume) (t : Trees) (s : Made) (since : ℕ) (d : Moment) (done : ℕ) (jobs : List Job) (waits : List Wait) (acks : List Ack) (space : Space)
    (rules : Rules) (text : List ℕ) (e : CoveredIndex)
    → Serves v t s since d done jobs waits acks space → IsDue v t (after s jobs) space text e → 1 ≤ rules.block_size
    → Serves v t s since d done (jobs ++ index_jobs rules space text e) waits acks (with_index rules text space)
admitted_index v t s since d done jobs waits acks space rules text e h due size =
    let above = kept_above v t s since d done jobs waits acks h.kept in
    let sound = kept_sound v t s since d done jobs waits acks h.kept in
    serves_more v t s since d done jobs (index_jobs rules space text e) waits acks _ (with_index rules text space) h.kept
    (index_leads v t (after s jobs) space rules text e h.planned due size above sound)
    (index_planned v t (after s jobs) space rules text e h.planned due size above sound)

-- the sync for which it was admitted
pub index_served : (v : Volume) (t : Trees) (s : Made) (since : ℕ) (d : Moment) (done : ℕ) (jobs : List Job) (waits : List Wait) (acks : List Ack) (space : Space)
    (rules : Rules) (text : List ℕ) (e : CoveredIndex)
    → Serves v t s since d done jobs waits acks space → IsDue v t (after s jobs) space text e → 1 ≤ rules.block_size
    → IsServed t s done (jobs ++ index_jobs rules space text e) (record { place = t.count; due = done + length (jobs ++ index_jobs rules space text e) })
index_served v t s since d done jobs waits acks space rules text e h due size =
    served_unchanged v t s since d done (jobs ++ index_jobs rules space text e) waits acks (with_index rules text space)
    (admitted_index v t s since d done jobs waits acks space rules text e h due size)
    refl

-- behind it no index is ahead
pub index_settled : (v : Volume) (t : Trees) (s : Made) (since : ℕ) (d : Moment) (done : ℕ) (jobs : List Job) (waits : List Wait) (acks : List Ack) (space : Space)
    (rules : Rules) (text : List ℕ) (e : CoveredIndex)
    → Serves v t s since d done jobs waits acks space → IsDue v t (after s jobs) space text e → 1 ≤ rules.block_size
    → (after s (jobs ++ index_jobs rules space text e)).base.ahead ≡ None
index_settled v t s since d done jobs waits acks space rules text e h due size =
    let above = kept_above v t s since d done jobs waits acks h.kept in
    let sound = kept_sound v t s since d done jobs waits acks h.kept in
    let l = index_leads v t (after s jobs) space rules text e h.planned due size above sound in
    ap (λ (m : Made). m.base.ahead) (after_append jobs (index_jobs rules space text e) s ∙ l.to)
    ∙ index_settles v t (after s jobs) space rules text e h.planned due size above sound
