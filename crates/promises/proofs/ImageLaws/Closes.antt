-- The index of a close, and what stands behind it.
use Rattle.std.proofs.Common.{ℕ, ◌+◌, ◌≤◌, ◌≡◌, ◌≢◌, inl, inr, false, List, [], ◌∷◌, ◌++◌, length, take, map, Option, Some, None, option_map, refl, sym, ap, subst, ◌∙◌, arith, append-nil, length-append}
use Rattle.std.specs.List.{AllByRecursion}
use Rattle.std.proofs.lemmas.List.{take-append-le}
use Rattle.tape_types.specs.declared.cartridges.Cartridge.{Cartridge}
use Rattle.tape_types.specs.declared.cartridges.Item.{Item}
use Rattle.tape_types.specs.declared.cartridges.Item.TheVariants.{Block, Mark}
use Rattle.tape_types.specs.declared.cartridges.Part.TheVariants.{Ip, Dp}
use Rattle.plain_tree.specs.Tree.{Tree}
use Rattle.session_script.specs.declared.logs.Ack.{Ack}
use Rattle.coherency.specs.declared.Coherency.{Coherency}
use Rattle.index_model.specs.Grammar.{IndexText}
use Rattle.index_model.specs.declared.indexes.Index.{Index}
use Rattle.tape_layout.specs.IndexConstruct.Blocks.{blocks_of}
use Rattle.content_laws.specs.Readings.{Construct, HasForm}
use Rattle.content_laws.specs.Content.{Content, content}
use Rattle.content_laws.specs.Ends.{EndsWithLast, IsOneAtMost, end_dp, end_ip}
use Rattle.content_laws.proofs.Folded.{in_data}
use Rattle.tape_layout.specs.declared.ops.Op.{Op}
use Rattle.tape_layout.specs.declared.ops.Op.TheVariants as ops
use Rattle.tape_layout.specs.Ops.{puts}
use Rattle.cartridge_meaning.specs.Labels.{HasLabels}
use Rattle.cartridge_meaning.specs.Meaning.{AreAlike, FitsNode, IsConsistent, IsTreeOf, Stands}
use Rattle.cartridge_meaning.specs.Notes.{AreNoted, IsCoherent, TellsOfLast}
use Rattle.cartridge_meaning.specs.Pointers.{IsLastOnDp, IsLastOnIp, indexes_of, last_block, letter_of, newest_spot}
use Rattle.cartridge_meaning.proofs.Frame.{labels_stay, tree_stays}
use Rattle.space_laws.specs.Space.{Rules, Space, blocks}
use Rattle.promises.specs.ImageLaws.Left.{IsCloseDone, IsLonger, StandsClosed}
use Rattle.promises.specs.ImageLaws.Closed.{EndsWithClose}
use Rattle.promises.specs.ImageLaws.Images.{Counts, IsBehind, IsIpImage, IsSound, Tells}
use Rattle.promises.specs.ImageLaws.Kept.{Kept, Moment, Serves, Wait}
use Rattle.promises.specs.ImageLaws.Made.{Base, CoveredIndex, Job, Made, Trees, Volume, after, cartridge_of, flushed, newer_of, newest_entry, plain, put_on, still_ahead}
use Rattle.promises.specs.ImageLaws.Plans.{IsCloseDue, IsPlanned, close_jobs}
use Rattle.promises.proofs.ImageLaws.Admits.{kept_more, kept_sound}
use Rattle.promises.proofs.ImageLaws.Appends.{IsOpened, IsQuiet, LeadsTo, form_of, leads_append, puts_are, quiet_mark, run, run_makes, sound_put, with_items}
use Rattle.promises.proofs.ImageLaws.Closed.{close_alike, close_coherent, close_consistent, close_dp_note, close_ip_note, close_stands}
use Rattle.promises.proofs.ImageLaws.Data.{count_is, length_more, ready_opened}
use Rattle.promises.proofs.ImageLaws.Flushes.{CanFlush, IsAbove, flush_sound}
use Rattle.promises.proofs.ImageLaws.Indexes.{construct_content, construct_is, construct_long, construct_ready, joined, new_construct, some_blocks, spot_named, with_construct}
use Rattle.promises.proofs.ImageLaws.Longer.{after_append, sound_longer}

-- the newest index of the data partition is flushed
flushed_indexes : (v : Volume) (t : Trees) (plan : Cartridge) (b : Base) (end : ℕ) (ks more : List Construct) (last : CoveredIndex) → b.ahead ≡ None → last ≡ b.floor
    → ks ≡ more ++ b.indexes → Counts v t plan b end more last → ks ≡ b.indexes
flushed_indexes v t plan b end ks more last none indexed split (inl h) = split ∙ ap (λ (l : List Construct). l ++ b.indexes) h.0
flushed_indexes v t plan b end ks more last none indexed split (inr h) =
    absurd (
    omega (
      arith,
      h.0,
      ap (λ (o : Option CoveredIndex). (newer_of o b.floor).index.generation) none,
      ap (λ (e : CoveredIndex). e.index.generation) indexed,
    )
    )

module _ (v : Volume) (t : Trees) (s : Made) (space : Space) (rules : Rules) (text : List ℕ) (index : Index) (p : IsPlanned t s space)
    (due : IsCloseDue v t s space text index) (none : s.base.ahead ≡ None) (size : 1 ≤ rules.block_size) where
  abbrev bs : List (List ℕ)
  bs = blocks_of rules.block_size text

  abbrev k : Construct
  k = new_construct s.ip bs

  abbrev items : List Item
  items = with_construct s.ip bs

  -- the state with the index, and with it flushed
  abbrev closed : Base → Made
  closed b = record { ip = with_construct s.ip bs; dp = s.dp; last = s.last; base = b }

  abbrev pub close_made : Made
  close_made = closed (flushed (closed s.base))

  abbrev plan : Cartridge
  plan = cartridge_of (closed s.base)

  longer : IsLonger (cartridge_of s) plan
  longer = record {
    more_ip = Mark ∷ (map Block bs ++ Mark ∷ []);
    ip = construct_is s.ip bs;
    more_dp = [];
    dp = sym (append-nil s.dp);
  }

  some : bs ≢ []
  some = some_blocks rules.block_size text size due.some

  is_content : content items ≡ in_data (length s.ip + length bs + 2) 0 (k ∷ indexes_of s.ip)
  is_content = construct_content s.ip bs p.ready_ip some

  is_indexes : indexes_of items ≡ k ∷ []
  is_indexes = ap (λ (c : Content). c.constructs) is_content ∙ ap (λ (ks : List Construct). k ∷ ks) p.no_index

  opened_ip : IsOpened items
  opened_ip = ready_opened items (construct_ready s.ip bs p.ready_ip some)

  end_closed : end_ip (content items) ≡ length s.ip
  end_closed = ap end_ip is_content

  generation_is : index.generation ≡ s.base.floor.index.generation
  generation_is = due.generation ∙ p.newest_is ∙ ap (λ (o : Option CoveredIndex). (newer_of o s.base.floor).index.generation) none

  back_is : index.back ≡ newest_spot v.labels.ip (indexes_of s.dp)
  back_is =
      due.back
      ∙ ap (option_map (λ (block : ℕ). record { letter = letter_of v.labels.ip Dp; block = block })) p.last_dp
      ∙ spot_named v.labels.ip (indexes_of s.dp)

  ip_reads : (dps : List Construct) (on_dp : Index) → index.generation ≡ on_dp.generation → index.back ≡ newest_spot v.labels.ip dps
      → IsLastOnIp v.labels.ip (k ∷ []) dps (Some on_dp) (Some index)
  ip_reads dps on_dp same back = (
    index,
    refl,
    record { text = subst (λ (w : List ℕ). IndexText w index) (sym (joined rules.block_size text size)) due.reads; uuid = due.uuid },
    record {
      here = due.here ∙ ap (λ (n : ℕ). record { letter = letter_of v.labels.ip Ip; block = n + 1 }) p.end_ip;
      back = inl (omega (arith, same), back);
    },
  )

  -- the index partition with the index
  ip_closed : (b : Base) → b.ahead ≡ None → index.generation ≡ b.floor.index.generation → index.back ≡ newest_spot v.labels.ip b.indexes
      → b.sure ≤ length s.ip → IsIpImage v plan b items
  ip_closed b not_ahead same back sure = record {
    form = form_of items opened_ip.good;
    one =
        subst (λ (ks : List Construct). IsOneAtMost items ks) (sym is_indexes)
        (refl, ap (λ (l : List Item). length l) opened_ip.whole ∙ construct_long s.ip bs);
    on_ip = Some index;
    reads =
        subst (λ (ks : List Construct). IsLastOnIp v.labels.ip ks b.indexes (Some b.floor.index) (Some index)) (sym is_indexes)
        (ip_reads b.indexes b.floor.index same back);
    behind = subst (λ (o : Option CoveredIndex). IsBehind b.floor o (Some index)) (sym not_ahead) (omega (arith, same));
    agrees = refl;
    further = omega (arith, sure, end_closed);
  }

  -- ---- the jobs, and what they make

  abbrev s1 : Made
  s1 = put_on Ip Mark None s

  quiet : IsQuiet s.ip Mark
  quiet = quiet_mark s.ip p.ready_ip.since p.ready_ip.whole p.ready_ip.labels p.ready_ip.stage

  abbrev s2 : Made
  s2 = with_items Ip (s.ip ++ Mark ∷ [] ++ map Block bs) s1

  filled_makes : after s1 (map plain (puts rules.block_size Ip (space.ends.ip + 1) text)) ≡ s2
  filled_makes =
      ap (λ (os : List Op). after s1 (map plain os)) (puts_are rules.block_size Ip (space.ends.ip + 1) text)
      ∙ run_makes Ip bs (space.ends.ip + 1) s1

  abbrev filling : List Job
  filling = map plain (puts rules.block_size Ip (space.ends.ip + 1) text)

  abbrev closing : Job
  closing = plain (ops.Mark (record { part = Ip; pos = space.ends.ip + 1 + blocks rules text }))

  abbrev flushing : Job
  flushing = plain (ops.Flush (record { part = Ip; pos = space.ends.ip + 2 + blocks rules text }))

  pub close_makes : after s (close_jobs rules space text) ≡ close_made
  close_makes =
      after_append (filling ++ closing ∷ []) (flushing ∷ []) s1
      ∙ ap (λ (m : Made). after m (flushing ∷ [])) (after_append filling (closing ∷ []) s1)
      ∙ ap (λ (m : Made). after (after m (closing ∷ [])) (flushing ∷ [])) filled_makes

  -- ---- they are safe

  module _ (sound : IsSound v t (cartridge_of s) s) where
    sound0 : IsSound v t plan s
    sound0 = sound_longer v t (cartridge_of s) plan longer s sound

    sound1 : IsSound v t plan s1
    sound1 = sound_put v t plan Ip Mark s none p.no_index quiet sound0

    marked : LeadsTo v t plan s (plain (ops.Mark (record { part = Ip; pos = space.ends.ip })) ∷ []) s1
    marked = record { safe = ((p.end_ip, none), sound1, tt); to = refl }

    filled : LeadsTo v t plan s1 filling s2
    filled =
        subst (λ (os : List Op). LeadsTo v t plan s1 (map plain os) s2) (sym (puts_are rules.block_size Ip (space.ends.ip + 1) text))
        (run v t plan Ip bs (space.ends.ip + 1) s1 (omega (arith, p.end_ip, length-append s.ip (Mark ∷ []))) none (quiet.same ∙ p.no_index) quiet.opened sound1)

    long2 : space.ends.ip + 1 + blocks rules text ≡ length s2.ip
    long2 = omega (
      arith,
      p.end_ip,
      length_more (s.ip ++ Mark ∷ []) bs,
      length-append s.ip (Mark ∷ []),
      count_is rules.block_size text,
    )

    dp_flushed : indexes_of s.dp ≡ s.base.indexes
    dp_flushed =
        flushed_indexes v t plan s.base (end_dp (indexes_of s.dp)) (indexes_of s.dp) sound0.dp.more s.last none p.indexed sound0.dp.split sound0.dp.counts

    closed_sound : IsSound v t plan (closed s.base)
    closed_sound = record {
      grounded = sound0.grounded;
      dp = sound0.dp;
      ip = λ not_ahead.
          ip_closed s.base none generation_is (back_is ∙ ap (λ (ks : List Construct). newest_spot v.labels.ip ks) dp_flushed) sound.grounded.on_ip;
    }

    closed_last : LeadsTo v t plan s2 (closing ∷ []) (closed s.base)
    closed_last = record { safe = ((long2, none), closed_sound, tt); to = refl }

    can_flush : CanFlush plan (closed s.base)
    can_flush = record {
      above = subst (λ (o : Option CoveredIndex). IsAbove s.base.floor o) (sym none) tt;
      longer = record { more_ip = []; ip = sym (append-nil items); more_dp = []; dp = sym (append-nil s.dp) };
      opened = opened_ip;
      sure = omega (arith, sound.grounded.on_ip, end_closed);
    }

    flushed_sound : IsSound v t plan close_made
    flushed_sound =
        flush_sound v t plan (closed s.base) (record { part = Ip; pos = space.ends.ip + 2 + blocks rules text }) can_flush closed_sound
        (λ not_ahead.
        ip_closed (flushed (closed s.base)) not_ahead (generation_is ∙ ap (λ (e : CoveredIndex). e.index.generation) (sym p.indexed)) back_is (omega (arith, end_closed)))

    flushed_last : LeadsTo v t plan (closed s.base) (flushing ∷ []) close_made
    flushed_last = record { safe = (tt, flushed_sound, tt); to = refl }

    pub close_leads : LeadsTo v t (cartridge_of close_made) s (close_jobs rules space text) close_made
    close_leads =
        leads_append v t plan s (closed s.base) close_made _ (flushing ∷ [])
        (leads_append v t plan s s2 (closed s.base) _ (closing ∷ []) (leads_append v t plan s s1 s2 _ filling marked filled) closed_last)
        flushed_last

  -- ---- what stands behind it

  same_generation : index.generation ≡ s.last.index.generation
  same_generation = generation_is ∙ ap (λ (e : CoveredIndex). e.index.generation) (sym p.indexed)

  module _ (c : Cartridge) (ip_is : c.ip ≡ items) (dp_is : c.dp ≡ s.dp) (sound : IsSound v t plan close_made) where
    newest_last : newest_entry (flushed (closed s.base)) ≡ s.last
    newest_last = ap (λ (o : Option CoveredIndex). newer_of (still_ahead s.last o) s.last) none

    tells : Tells v t plan (end_ip (content items)) (end_dp (indexes_of s.dp)) s.last
    tells =
        subst (λ (e : CoveredIndex). Tells v t plan (end_ip (content items)) (end_dp (indexes_of s.dp)) e) newest_last sound.grounded.tells

    has : HasLabels c v.labels
    has =
        labels_stay plan c v.labels (ap (λ (l : List Item). take 4 l) (sym ip_is)) (ap (λ (l : List Item). take 4 l) (sym dp_is)) sound.grounded.labels

    dp_indexes : indexes_of c.dp ≡ indexes_of s.dp
    dp_indexes = ap indexes_of dp_is

    ends : EndsWithClose c v.labels s.last.index index
    ends = record {
      has = has;
      dp_form = subst (λ (l : List Item). HasForm l) (sym dp_is) sound.dp.form;
      dp_some = λ empty. sound.grounded.some (sym dp_indexes ∙ empty);
      dp_reads = subst (λ (l : List Item). IsLastOnDp v.labels.ip (indexes_of l) (Some s.last.index)) (sym dp_is) sound.dp.reads;
      before = s.ip;
      ready = p.ready_ip;
      blocks = bs;
      some = some;
      ip = ip_is;
      reads = subst (λ (w : List ℕ). IndexText w index) (sym (joined rules.block_size text size)) due.reads;
      uuid = due.uuid;
      here = due.here ∙ ap (λ (n : ℕ). record { letter = letter_of v.labels.ip Ip; block = n + 1 }) p.end_ip;
      back = back_is ∙ ap (λ (ks : List Construct). newest_spot v.labels.ip ks) (sym dp_indexes);
      generation = same_generation;
      within =
          subst (λ (ks : List Construct). AllByRecursion (FitsNode v.labels.ip (length s.ip) (end_dp ks)) s.last.index.nodes) (sym dp_indexes)
          (subst (λ (n : ℕ). AllByRecursion (FitsNode v.labels.ip n (end_dp (indexes_of s.dp))) s.last.index.nodes) end_closed tells.within);
    }

    ip_tree : IsTreeOf v.labels.ip c index (t.nth t.count)
    ip_tree =
        tree_stays v.labels.ip space.ends.ip space.ends.dp has.one_volume.places.letters (cartridge_of s) c index (t.nth t.count) due.tells.within
        (sym (take-append-le space.ends.ip s.ip (Mark ∷ (map Block bs ++ Mark ∷ [])) (omega (arith, p.end_ip)))
        ∙ ap (λ (l : List Item). take space.ends.ip l) (sym (ip_is ∙ construct_is s.ip bs)))
        (ap (λ (l : List Item). take space.ends.dp l) (sym dp_is)) due.tells.tree

    last_tree : IsTreeOf v.labels.ip c s.last.index (t.nth s.last.place)
    last_tree =
        tree_stays v.labels.ip (end_ip (content items)) (end_dp (indexes_of s.dp)) has.one_volume.places.letters plan c s.last.index (t.nth s.last.place)
        tells.within
        (ap (λ (l : List Item). take (end_ip (content items)) l) (sym ip_is))
        (ap (λ (l : List Item). take (end_dp (indexes_of s.dp)) l) (sym dp_is)) tells.tree

    covers : space.changed ≡ false → t.nth s.last.place ≡ t.nth t.count
    covers unchanged =
        p.covered unchanged s.last.place
        (omega (
          arith,
          ap (λ (o : Option CoveredIndex). (newer_of o s.base.floor).place) none,
          ap (λ (e : CoveredIndex). e.place) p.indexed,
        ))
        tells.covered

    dp_tree : space.changed ≡ false → IsTreeOf v.labels.ip c s.last.index (t.nth t.count)
    dp_tree unchanged = subst (λ (tree : Tree). IsTreeOf v.labels.ip c s.last.index tree) (covers unchanged) last_tree

    newest_is : s.last.index.generation ≡ space.newest
    newest_is = sym same_generation ∙ due.generation

    pub closed_stands : space.changed ≡ false → Stands c v.facts (t.nth t.count) space.newest
    closed_stands unchanged =
        subst (λ (n : ℕ). Stands c v.facts (t.nth t.count) n) newest_is
        (close_stands c v.labels s.last.index index ends v.facts (t.nth t.count) tells.facts (dp_tree unchanged))

    pub closed_consistent : space.changed ≡ false → IsConsistent c
    closed_consistent unchanged =
        close_consistent c v.labels s.last.index index ends (subst (λ (l : List Item). EndsWithLast l (indexes_of l)) (sym dp_is) (p.ended unchanged))

    pub closed_alike : space.changed ≡ false → AreAlike c v.facts (t.nth t.count) space.newest
    closed_alike unchanged =
        subst (λ (n : ℕ). AreAlike c v.facts (t.nth t.count) n) newest_is
        (close_alike c v.labels s.last.index index ends v.facts (t.nth t.count) due.tells.facts tells.facts ip_tree (dp_tree unchanged))

    pub closed_ip_note : (note : Coherency) → note.generation ≡ space.newest → note.block ≡ space.ends.ip + 1 → TellsOfLast c v.labels.ip Ip note
    closed_ip_note note generation block =
        close_ip_note c v.labels s.last.index index ends note (generation ∙ sym due.generation)
        (due.here ∙ ap (λ (n : ℕ). record { letter = letter_of v.labels.ip Ip; block = n }) (sym block))

    pub closed_dp_note : (note : Coherency) → note.generation ≡ space.newest → space.last_dp ≡ Some note.block → TellsOfLast c v.labels.ip Dp note
    closed_dp_note note generation block =
        close_dp_note c v.labels s.last.index index ends note (generation ∙ sym newest_is) (ap last_block dp_indexes ∙ sym p.last_dp ∙ block)

    pub closed_coherent : AreNoted c v.labels.ip → IsCoherent c
    closed_coherent noted = close_coherent c v.labels s.last.index index ends noted

-- the index of a close, once all of the data partition's is flushed
pub admitted_close : (v : Volume) (t : Trees) (s : Made) (since : ℕ) (d : Moment) (done : ℕ) (jobs : List Job) (waits : List Wait) (acks : List Ack) (space : Space)
    (rules : Rules) (text : List ℕ) (index : Index)
    → Serves v t s since d done jobs waits acks space → IsCloseDue v t (after s jobs) space text index → (after s jobs).base.ahead ≡ None → 1 ≤ rules.block_size
    → Kept v t s since d done (jobs ++ close_jobs rules space text) waits acks
admitted_close v t s since d done jobs waits acks space rules text index h due none size =
    kept_more v t s since d done jobs (close_jobs rules space text) waits acks _ h.kept
    (close_leads v t (after s jobs) space rules text index h.planned due none size (kept_sound v t s since d done jobs waits acks h.kept))

-- a close that is done
pub close_leaves : (v : Volume) (t : Trees) (s made : Made) (space : Space) (rules : Rules) (since : ℕ) (d : Moment) (done : ℕ) (waits : List Wait) (acks : List Ack)
    (text : List ℕ) (index : Index) → Kept v t made since d done [] waits acks → IsCloseDone v t s made space rules text index d.held
    → StandsClosed v t space d.held
close_leaves v t s made space rules since d done waits acks text index k h =
    let there : Made = close_made v t s space rules text index h.planned h.due h.none_ahead h.size in
    let same : made ≡ there = h.made_is ∙ close_makes v t s space rules text index h.planned h.due h.none_ahead h.size in
    let sound : IsSound v t (cartridge_of there) there = subst (λ (m : Made). IsSound v t (cartridge_of m) m) same k.sound in
    let ip : d.held.ip ≡ there.ip = h.ip ∙ ap (λ (m : Made). m.ip) same in
    let dp : d.held.dp ≡ there.dp = h.dp ∙ ap (λ (m : Made). m.dp) same in
    record {
      stands = closed_stands v t s space rules text index h.planned h.due h.none_ahead h.size d.held ip dp sound h.unchanged;
      consistent = closed_consistent v t s space rules text index h.planned h.due h.none_ahead h.size d.held ip dp sound h.unchanged;
      alike = closed_alike v t s space rules text index h.planned h.due h.none_ahead h.size d.held ip dp sound h.unchanged;
      ip_note = closed_ip_note v t s space rules text index h.planned h.due h.none_ahead h.size d.held ip dp sound;
      dp_note = closed_dp_note v t s space rules text index h.planned h.due h.none_ahead h.size d.held ip dp sound;
      coherent = closed_coherent v t s space rules text index h.planned h.due h.none_ahead h.size d.held ip dp sound;
    }
