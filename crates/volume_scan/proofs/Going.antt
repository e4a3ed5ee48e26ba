-- A reading goes on by an item.
use Rattle.std.proofs.Common.{ℕ, true, false, zero, suc, ◌+◌, ◌≤◌, ◌<◌, ◌≡◌, ◌≢◌, List, [], ◌∷◌, ◌++◌, length, map, drop, reverse, slice_get, Option, Some, None, refl, sym, ◌∙◌, ap, subst, arith, length-append}
use Rattle.std.proofs.lemmas.List.{drop_all, map-append, reverse-append}
use Rattle.std.specs.List.{fold}
use Rattle.tape_types.specs.declared.cartridges.Item.{Item}
use Rattle.tape_types.specs.declared.cartridges.Item.TheVariants.{Block, Mark, Torn}
use Rattle.tape_drive.specs.Commands.{IsRead}
use Rattle.tape_drive.specs.declared.drive.Got.{Got}
use Rattle.tape_drive.specs.declared.drive.Got.TheVariants as got
use Rattle.content_laws.specs.Readings.{after_of, first_of, front}
use Rattle.content_laws.specs.Readings as readings
use Rattle.content_laws.specs.Content.{Phase, Data, Index, Bad, content, seen, seen_in, start}
use Rattle.content_laws.specs.Content as content
use Rattle.content_laws.specs.Ends.{lead_of}
use Rattle.content_laws.proofs.Placed.{bad_for_good}
use Rattle.volume_scan.specs.declared.content.Construct.{Construct}
use Rattle.volume_scan.specs.declared.content.Content.{Content}
use Rattle.volume_scan.specs.declared.reading.Reading.{Reading}
use Rattle.volume_scan.specs.Scans.{AreBetween, IsInPlaces, places_of}
use Rattle.volume_scan.specs.Steps.{Goes, IsInOrder, IsPhase, IsReadTo, Marks, between, ends, lead_at}
use Rattle.volume_scan.proofs.Told.{IsRead as IsAllRead}

-- an item that is not torn, at a position up to the end of the front, stands in the front
in_front : (items : List Item) (pos : ℕ) (x : Item) → slice_get items pos ≡ Some x → x ≢ Torn → pos ≤ length (front items)
    → (drop pos (front items) ≡ x ∷ drop (suc pos) (front items)) × (suc pos ≤ length (front items))
in_front [] pos x is whole le = absurd (cc)
in_front (Torn ∷ items) zero x is whole le = absurd (whole (cc))
in_front (Torn ∷ items) (suc pos) x is whole le = absurd (omega (arith, le))
in_front (Mark ∷ items) zero x is whole le = (let same : Mark ≡ x = cc in ap (λ (y : Item). y ∷ front items) same, omega arith)
in_front (Mark ∷ items) (suc pos) x is whole le = let more = in_front items pos x is whole (omega (arith, le)) in (more.0, omega (arith, more.1))
in_front (Block b ∷ items) zero x is whole le = (let same : Block b ≡ x = cc in ap (λ (y : Item). y ∷ front items) same, omega arith)
in_front (Block b ∷ items) (suc pos) x is whole le = let more = in_front items pos x is whole (omega (arith, le)) in (more.0, omega (arith, more.1))

-- where nothing stands, or what is torn, the front has ended
front_ended : (items : List Item) (pos : ℕ) → slice_get items pos ≡ None → length (front items) ≤ pos
front_ended [] pos is = omega arith
front_ended (Torn ∷ items) pos is = omega arith
front_ended (Mark ∷ items) zero is = absurd (cc)
front_ended (Mark ∷ items) (suc pos) is = omega (arith, front_ended items pos is)
front_ended (Block b ∷ items) zero is = absurd (cc)
front_ended (Block b ∷ items) (suc pos) is = omega (arith, front_ended items pos is)

front_torn : (items : List Item) (pos : ℕ) → slice_get items pos ≡ Some Torn → length (front items) ≤ pos
front_torn [] pos is = omega arith
front_torn (Torn ∷ items) pos is = omega arith
front_torn (Mark ∷ items) zero is = absurd (cc)
front_torn (Mark ∷ items) (suc pos) is = omega (arith, front_torn items pos is)
front_torn (Block b ∷ items) zero is = absurd (cc)
front_torn (Block b ∷ items) (suc pos) is = omega (arith, front_torn items pos is)

-- where nothing more can be read, the front ends
pub ended_at : (items : List Item) (pos : ℕ) (x : Option Item) (answer : Got) (buf : List ℕ) → slice_get items pos ≡ x → IsRead x answer buf
    → ends answer ≡ true → length (front items) ≤ pos
ended_at items pos None answer buf is r e = front_ended items pos is
ended_at items pos (Some Torn) answer buf is r e = front_torn items pos is
ended_at items pos (Some Mark) answer buf is r e = absurd (let bad : false ≡ true = sym (ap ends r.0) ∙ e in cc bad)
ended_at items pos (Some (Block b)) answer buf is r e = absurd (let bad : false ≡ true = sym (ap ends r.0) ∙ e in cc bad)

-- the reading of an item further
left_next : (items : List Item) (pos : ℕ) (x : Item) (s : content.Content) → content items ≡ fold seen s (drop pos (front items))
    → slice_get items pos ≡ Some x → x ≢ Torn → pos ≤ length (front items)
    → (content items ≡ fold seen (seen s x) (drop (pos + 1) (front items))) × (pos + 1 ≤ length (front items))
left_next items pos x s left is whole le =
    let f = in_front items pos x is whole le in
    let at : suc pos ≡ pos + 1 = omega arith in (
      left ∙ ap (λ (l : List Item). fold seen s l) f.0 ∙ ap (λ (n : ℕ). fold seen (seen s x) (drop n (front items))) at,
      omega (arith, f.1),
    )

block_seen : (b : List ℕ) (pos : ℕ) (opened : Option ℕ) (phase : Phase) (ks : List readings.Construct) → IsPhase opened pos phase
    → ((seen_in pos phase ks (Block b)).pos ≡ pos + 1) × IsPhase opened (pos + 1) (seen_in pos phase ks (Block b)).phase
    × ((seen_in pos phase ks (Block b)).constructs ≡ ks)
block_seen b pos None (Data since) ks is = (refl, tt, refl)
block_seen b pos None (Index mark blocks) ks is = absurd is
block_seen b pos None (Bad at) ks is = absurd is
block_seen b pos (Some opened) (Data since) ks is = absurd is
block_seen b pos (Some opened) (Index mark blocks) ks is = (refl, (is.0, omega (arith, is.1, length-append blocks (b ∷ []))), refl)
block_seen b pos (Some opened) (Bad at) ks is = absurd is

mark_seen : (pos : ℕ) (opened : Option ℕ) (phase : Phase) (ks : List readings.Construct) (old new : Reading) → old.pos ≡ pos → IsPhase opened pos phase
    → map places_of (reverse ks) ≡ old.constructs → Marks opened old new
    → ((seen_in pos phase ks Mark).pos ≡ pos + 1) × IsPhase new.opened (pos + 1) (seen_in pos phase ks Mark).phase
    × (map places_of (reverse (seen_in pos phase ks Mark).constructs) ≡ new.constructs)
mark_seen pos None (Data since) ks old new at is told goes = (
  refl,
  subst (λ (o : Option ℕ). IsPhase o (pos + 1) (Index pos [])) (sym (goes.1 ∙ ap Some at)) (refl, omega arith),
  told ∙ sym goes.0,
)
mark_seen pos None (Index mark blocks) ks old new at is told goes = absurd is
mark_seen pos None (Bad n) ks old new at is told goes = absurd is
mark_seen pos (Some opened) (Data since) ks old new at is told goes = absurd is
mark_seen pos (Some opened) (Index mark []) ks old new at is told goes = absurd (omega (arith, is.1, goes.0, at))
mark_seen pos (Some opened) (Index mark (b ∷ blocks)) ks old new at is told goes =
    let k : readings.Construct = record { mark = mark; blocks = b ∷ blocks } in
    let after : after_of k ≡ old.pos + 1 = omega (arith, is.0, is.1, at) in
    let same : places_of k ≡ between opened old.pos = λ t. record { mark = is.0 t; first = is.0 t + 1; after = after t } in (
      refl,
      subst (λ (o : Option ℕ). IsPhase o (pos + 1) (Data 0)) (sym goes.2) tt,
      ap (λ (l : List readings.Construct). map places_of l) (reverse-append (k ∷ []) ks)
          ∙ map-append places_of (reverse ks) (k ∷ [])
          ∙ ap (λ (l : List Construct). l ++ places_of k ∷ []) told
          ∙ ap (λ (c : Construct). old.constructs ++ c ∷ []) same
          ∙ sym goes.1,
    )
mark_seen pos (Some opened) (Bad n) ks old new at is told goes = absurd is

-- an item further the reading stands one position further
pub moved_pos : (answer : Got) (old new : Reading) → Goes answer old new → new.pos ≡ old.pos + 1
moved_pos got.Block old new goes = goes.2
moved_pos got.Mark old new goes = by_opened old.opened goes
  where
    by_opened : (o : Option ℕ) → Marks o old new → new.pos ≡ old.pos + 1
    by_opened None goes = goes.2
    by_opened (Some mark) goes = goes.3
moved_pos got.End old new goes = absurd goes
moved_pos got.Torn old new goes = absurd goes

-- the same reading, where its position is that of the stage
stage_at : (s : content.Content) (pos : ℕ) (x : Item) → s.pos ≡ pos → seen s x ≡ seen_in pos s.phase s.constructs x
stage_at s pos x at = ap (λ (n : ℕ). seen_in n s.phase s.constructs x) at

read_block : (items : List Item) (b : List ℕ) (old new : Reading) → IsReadTo items old → slice_get items old.pos ≡ Some (Block b) → Goes got.Block old new
    → IsReadTo items new
read_block items b old new r is goes =
    let n = left_next items old.pos (Block b) r.stage r.left is (λ e. cc) r.within in
    let s = block_seen b old.pos old.opened r.stage.phase r.stage.constructs r.phase in
    let at : new.pos ≡ old.pos + 1 = goes.2 in
    record {
      stage = seen_in old.pos r.stage.phase r.stage.constructs (Block b);
      left =
          n.0
          ∙ ap (λ (c : content.Content). fold seen c (drop (old.pos + 1) (front items))) (stage_at r.stage old.pos (Block b) r.pos)
          ∙ ap (λ (p : ℕ). fold seen (seen_in old.pos r.stage.phase r.stage.constructs (Block b)) (drop p (front items))) (sym at);
      within = omega (arith, n.1, at);
      pos = s.0 ∙ sym at;
      phase =
          subst (λ (o : Option ℕ). IsPhase o new.pos (seen_in old.pos r.stage.phase r.stage.constructs (Block b)).phase) (sym goes.1)
          (subst (λ (p : ℕ). IsPhase old.opened p (seen_in old.pos r.stage.phase r.stage.constructs (Block b)).phase) (sym at) s.1);
      constructs = ap (λ (ks : List readings.Construct). map places_of (reverse ks)) s.2 ∙ r.constructs ∙ sym goes.0;
    }

read_mark : (items : List Item) (old new : Reading) → IsReadTo items old → slice_get items old.pos ≡ Some Mark → Goes got.Mark old new → IsReadTo items new
read_mark items old new r is goes =
    let n = left_next items old.pos Mark r.stage r.left is (λ e. cc) r.within in
    let s = mark_seen old.pos old.opened r.stage.phase r.stage.constructs old new refl r.phase r.constructs goes in
    let at : new.pos ≡ old.pos + 1 = moved_pos got.Mark old new goes in
    record {
      stage = seen_in old.pos r.stage.phase r.stage.constructs Mark;
      left =
          n.0
          ∙ ap (λ (c : content.Content). fold seen c (drop (old.pos + 1) (front items))) (stage_at r.stage old.pos Mark r.pos)
          ∙ ap (λ (p : ℕ). fold seen (seen_in old.pos r.stage.phase r.stage.constructs Mark) (drop p (front items))) (sym at);
      within = omega (arith, n.1, at);
      pos = s.0 ∙ sym at;
      phase = subst (λ (p : ℕ). IsPhase new.opened p (seen_in old.pos r.stage.phase r.stage.constructs Mark).phase) (sym at) s.1;
      constructs = s.2;
    }

-- an item further the reading has told what stands before it
pub read_on : (items : List Item) (x : Option Item) (answer : Got) (buf : List ℕ) (old new : Reading) → IsReadTo items old
    → slice_get items old.pos ≡ x → IsRead x answer buf → Goes answer old new → IsReadTo items new
read_on items None answer buf old new r is read goes = absurd (subst (λ (g : Got). Goes g old new) read.0 goes)
read_on items (Some Torn) answer buf old new r is read goes = absurd (subst (λ (g : Got). Goes g old new) read.0 goes)
read_on items (Some Mark) answer buf old new r is read goes = read_mark items old new r is (subst (λ (g : Got). Goes g old new) read.0 goes)
read_on items (Some (Block b)) answer buf old new r is read goes = read_block items b old new r is (subst (λ (g : Got). Goes g old new) read.0 goes)

-- a mark directly behind one that opens an index stops the reading
bad_seen : (pos opened : ℕ) (phase : Phase) (ks : List readings.Construct) → IsPhase (Some opened) pos phase → pos ≡ opened + 1
    → (seen_in pos phase ks Mark).phase ≡ Bad pos
bad_seen pos opened (Data since) ks is at = absurd is
bad_seen pos opened (Index mark []) ks is at = refl
bad_seen pos opened (Index mark (b ∷ blocks)) ks is at = absurd (omega (arith, is.1, at))
bad_seen pos opened (Bad n) ks is at = absurd is

mark_stops : (items : List Item) (r : Reading) (opened : ℕ) → IsReadTo items r → slice_get items r.pos ≡ Some Mark → r.opened ≡ Some opened
    → r.pos ≡ opened + 1 → (content items).phase ≡ Bad r.pos
mark_stops items r opened t is begun_is at =
    let n = left_next items r.pos Mark t.stage t.left is (λ e. cc) t.within in
    ap (λ (s : content.Content). s.phase) n.0
    ∙ bad_for_good (drop (r.pos + 1) (front items)) (seen t.stage Mark) r.pos
    (ap (λ (s : content.Content). s.phase) (stage_at t.stage r.pos Mark t.pos)
    ∙ bad_seen r.pos opened t.stage.phase t.stage.constructs (subst (λ (o : Option ℕ). IsPhase o r.pos t.stage.phase) begun_is t.phase) at)

-- two marks in a row are where the partition lacks its form
pub stopped : (items : List Item) (x : Option Item) (buf : List ℕ) (r : Reading) (opened : ℕ) → IsReadTo items r → slice_get items r.pos ≡ x
    → IsRead x got.Mark buf → r.opened ≡ Some opened → r.pos ≡ opened + 1 → (content items).phase ≡ Bad r.pos
stopped items None buf r opened t is read begun_is at = absurd (let bad = read.0 in cc bad)
stopped items (Some Torn) buf r opened t is read begun_is at = absurd (let bad = read.0 in cc bad)
stopped items (Some Mark) buf r opened t is read begun_is at = mark_stops items r opened t is begun_is at
stopped items (Some (Block b)) buf r opened t is read begun_is at = absurd (let bad = read.0 in cc bad)

-- at the end of the front all is read
phase_sound : (opened : Option ℕ) (pos : ℕ) (phase : Phase) → IsPhase opened pos phase → (at : ℕ) → phase ≢ Bad at
phase_sound None pos (Data since) is at e = cc e
phase_sound None pos (Index mark blocks) is at e = absurd is
phase_sound None pos (Bad n) is at e = absurd is
phase_sound (Some opened) pos (Data since) is at e = absurd is
phase_sound (Some opened) pos (Index mark blocks) is at e = cc e
phase_sound (Some opened) pos (Bad n) is at e = absurd is

phase_lead : (opened : Option ℕ) (pos : ℕ) (phase : Phase) → IsPhase opened pos phase → lead_at opened pos ≡ lead_of pos phase
phase_lead None pos (Data since) is = refl
phase_lead None pos (Index mark blocks) is = absurd is
phase_lead None pos (Bad n) is = absurd is
phase_lead (Some opened) pos (Data since) is = absurd is
phase_lead (Some opened) pos (Index mark blocks) is = sym is.0
phase_lead (Some opened) pos (Bad n) is = absurd is

-- a reading at the end of the front has read all of it
pub all_read : (items : List Item) (r : Reading) (found : Content) → IsReadTo items r → length (front items) ≤ r.pos → found.constructs ≡ r.constructs
    → found.lead ≡ lead_at r.opened r.pos → found.front ≡ r.pos → IsAllRead items found
all_read items r found t le constructs lead front_is =
    let all : content items ≡ t.stage = t.left ∙ ap (λ (l : List Item). fold seen t.stage l) (drop_all r.pos (front items) le) in
    record {
      sound = λ at bad. phase_sound r.opened r.pos t.stage.phase t.phase at (sym (ap (λ (s : content.Content). s.phase) all) ∙ bad);
      constructs = constructs ∙ sym t.constructs ∙ ap (λ (s : content.Content). map places_of (reverse s.constructs)) (sym all);
      lead =
          lead
          ∙ phase_lead r.opened r.pos t.stage.phase t.phase
          ∙ ap (λ (n : ℕ). lead_of n t.stage.phase) (sym t.pos)
          ∙ ap (λ (s : content.Content). lead_of s.pos s.phase) (sym all);
      front = front_is ∙ sym t.pos ∙ ap (λ (s : content.Content). s.pos) (sym all);
    }

-- behind the labels nothing is told yet
pub begun : (items : List Item) (r : Reading) → 4 ≤ length (front items) → r.constructs ≡ [] → r.opened ≡ None → r.pos ≡ 4 → IsReadTo items r
begun items r long constructs opened pos = record {
  stage = start;
  left = ap (λ (n : ℕ). fold seen start (drop n (front items))) (sym pos);
  within = omega (arith, long, pos);
  pos = sym pos;
  phase = subst (λ (o : Option ℕ). IsPhase o r.pos (Data 0)) (sym opened) tt;
  constructs = sym constructs;
}

-- all lies in its place
between_more : (ks : List Construct) (from to later : ℕ) → AreBetween from to ks → to ≤ later → AreBetween from later ks
between_more [] from to later b le = omega (arith, b, le)
between_more (k ∷ ks) from to later b le = (b.0, b.1, b.2, between_more ks k.after to later b.3 le)

between_one_more : (ks : List Construct) (from mark pos : ℕ) → AreBetween from mark ks → mark + 1 < pos → AreBetween from (pos + 1) (ks ++ between mark pos ∷ [])
between_one_more [] from mark pos b lt = (b, refl, omega (arith, lt), omega arith)
between_one_more (k ∷ ks) from mark pos b lt = (b.0, b.1, b.2, between_one_more ks k.after mark pos b.3 lt)

begun_in_order : (capacity : ℕ) (r : Reading) → 4 ≤ capacity → r.constructs ≡ [] → r.opened ≡ None → r.pos ≡ 4 → IsInOrder capacity r
begun_in_order capacity r le constructs opened pos = record {
  constructs =
      subst (λ (ks : List Construct). AreBetween 4 (lead_at r.opened r.pos) ks) (sym constructs)
      (subst (λ (o : Option ℕ). 4 ≤ lead_at o r.pos) (sym opened) (omega (arith, pos)));
  opened = λ mark e. let no : None ≡ Some mark = sym opened ∙ e in cc no;
  pos = omega (arith, le, pos);
}

module _ (capacity : ℕ) (old new : Reading) (lt : old.pos < capacity) where
  mark_in_order : (o : Option ℕ) → old.opened ≡ o → IsInOrder capacity old → Marks o old new → IsInOrder capacity new
  mark_in_order None is order goes = record {
    constructs =
        subst (λ (ks : List Construct). AreBetween 4 (lead_at new.opened new.pos) ks) (sym goes.0)
        (subst (λ (n : Option ℕ). AreBetween 4 (lead_at n new.pos) old.constructs) (sym goes.1)
        (subst (λ (n : Option ℕ). AreBetween 4 (lead_at n old.pos) old.constructs) is order.constructs));
    opened = λ mark e. let same : Some old.pos ≡ Some mark = sym goes.1 ∙ e in let at : old.pos ≡ mark = cc same in omega (arith, at, goes.2);
    pos = omega (arith, lt, goes.2);
  }
  mark_in_order (Some mark) is order goes = record {
    constructs =
        subst (λ (ks : List Construct). AreBetween 4 (lead_at new.opened new.pos) ks) (sym goes.1)
        (subst (λ (n : Option ℕ). AreBetween 4 (lead_at n new.pos) (old.constructs ++ between mark old.pos ∷ [])) (sym goes.2)
        (subst (λ (n : ℕ). AreBetween 4 n (old.constructs ++ between mark old.pos ∷ [])) (sym goes.3)
        (between_one_more old.constructs 4 mark old.pos (subst (λ (n : Option ℕ). AreBetween 4 (lead_at n old.pos) old.constructs) is order.constructs) goes.0)));
    opened = λ other e. let no : None ≡ Some other = sym goes.2 ∙ e in cc no;
    pos = omega (arith, lt, goes.3);
  }

  lead_rises : (o : Option ℕ) → lead_at o old.pos ≤ lead_at o (old.pos + 1)
  lead_rises None = omega arith
  lead_rises (Some mark) = omega arith

  -- an item further all that is told lies in its place
  pub goes_in_order : (answer : Got) → IsInOrder capacity old → Goes answer old new → IsInOrder capacity new
  goes_in_order got.Block order goes = record {
    constructs =
        subst (λ (ks : List Construct). AreBetween 4 (lead_at new.opened new.pos) ks) (sym goes.0)
        (subst (λ (n : Option ℕ). AreBetween 4 (lead_at n new.pos) old.constructs) (sym goes.1)
        (subst (λ (n : ℕ). AreBetween 4 (lead_at old.opened n) old.constructs) (sym goes.2)
        (between_more old.constructs 4 (lead_at old.opened old.pos) (lead_at old.opened (old.pos + 1)) order.constructs (lead_rises old.opened))));
    opened = λ mark e. omega (arith, order.opened mark (sym goes.1 ∙ e), goes.2);
    pos = omega (arith, lt, goes.2);
  }
  goes_in_order got.Mark order goes = mark_in_order old.opened refl order goes
  goes_in_order got.End order goes = absurd goes
  goes_in_order got.Torn order goes = absurd goes

all_in_places : (capacity : ℕ) (r : Reading) (found : Content) → IsInOrder capacity r → found.constructs ≡ r.constructs
    → found.lead ≡ lead_at r.opened r.pos → found.front ≡ r.pos → IsInPlaces capacity found
all_in_places capacity r found order constructs lead front_is = record {
  constructs = subst (λ (ks : List Construct). AreBetween 4 found.lead ks) (sym constructs) (subst (λ (n : ℕ). AreBetween 4 n r.constructs) (sym lead) order.constructs);
  lead = omega (arith, lead, front_is, at_most r.opened order.opened);
  front = omega (arith, front_is, order.pos);
}
  where
    at_most : (o : Option ℕ) → ((mark : ℕ) → o ≡ Some mark → mark < r.pos) → lead_at o r.pos ≤ r.pos
    at_most None below = omega arith
    at_most (Some mark) below = omega (arith, below mark refl)

between_least : (ks : List Construct) (from to : ℕ) → AreBetween from to ks → from ≤ to
between_least [] from to b = b
between_least (k ∷ ks) from to b = omega (arith, b.0, b.1, b.2, between_least ks k.after to b.3)

-- a reading behind the labels tells nothing before them
pub behind_labels : (capacity : ℕ) (r : Reading) → IsInOrder capacity r → 4 ≤ r.pos
behind_labels capacity r order = omega (arith, between_least r.constructs 4 (lead_at r.opened r.pos) order.constructs, at_most r.opened order.opened)
  where
    at_most : (o : Option ℕ) → ((mark : ℕ) → o ≡ Some mark → mark < r.pos) → lead_at o r.pos ≤ r.pos
    at_most None below = omega arith
    at_most (Some mark) below = omega (arith, below mark refl)
