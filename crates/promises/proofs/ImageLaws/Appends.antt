-- Items at the end of a partition that make no index whole.
use Rattle.std.proofs.Common.{ℕ, zero, suc, ◌+◌, ◌≤◌, ◌≡◌, ◌≢◌, ⊎_elim, List, [], ◌∷◌, ◌++◌, length, take, map, Option, Some, None, refl, sym, ap, subst, ◌∙◌, arith, append_assoc, append-nil, length-append, add-one}
use Rattle.std.proofs.lemmas.List.{take-append-le}
use Rattle.std.specs.Int.{div_ceil}
use Rattle.std.specs.List.{range_with_len}
use Rattle.tape_types.specs.declared.cartridges.Cartridge.{Cartridge}
use Rattle.tape_types.specs.declared.cartridges.Item.{Item}
use Rattle.tape_types.specs.declared.cartridges.Item.TheVariants.{Block, Mark, Torn}
use Rattle.tape_types.specs.declared.cartridges.Part.{Part}
use Rattle.tape_types.specs.declared.cartridges.Part.TheVariants.{Ip, Dp}
use Rattle.tape_layout.specs.IndexConstruct.Blocks.{block_at, blocks_of}
use Rattle.content_laws.specs.Readings.{Construct, HasForm, LacksForm, front}
use Rattle.content_laws.specs.Content.{Bad, Content, Data, Index, Phase, content, seen, seen_in}
use Rattle.content_laws.specs.Ends.{IsOneAtMost, end_dp, end_ip, end_ip_in}
use Rattle.content_laws.proofs.Grown.{content_more}
use Rattle.content_laws.proofs.Placed.{end_ip_within}
use Rattle.content_laws.proofs.ReadForms.{stops}
use Rattle.content_laws.proofs.SomeForm.{either}
use Rattle.content_laws.proofs.Whole.{front_append, front_item, front_within}
use Rattle.tape_layout.specs.declared.ops.Op.{Op}
use Rattle.tape_layout.specs.declared.ops.Op.TheVariants as ops
use Rattle.tape_layout.specs.Ops.{puts}
use Rattle.cartridge_meaning.specs.Pointers.{IsLastOnDp, IsLastOnIp, indexes_of}
use Rattle.promises.specs.ImageLaws.Images.{AreSafe, Counts, IsBehind, IsDpImage, IsIpImage, IsSound, MayWrite}
use Rattle.promises.specs.ImageLaws.Made.{Base, CoveredIndex, Job, Made, Trees, Volume, after, part_items, plain, put_on}
use Rattle.promises.proofs.ImageLaws.Longer.{after_append, image_has_index, indexes_long, end_within, safe_append}

-- ---- a partition on which no index stands in the way of the next item

-- the items of a partition that may be written on: whole, with labels, and nowhere bad
pub record IsOpened (items : List Item) : Type 0 where
  pub whole : front items ≡ items
  pub labels : 4 ≤ length items
  pub good : (at : ℕ) → (content items).phase ≢ Bad at

-- items that are nowhere bad have the form of a partition
pub form_of : (items : List Item) → ((at : ℕ) → (content items).phase ≢ Bad at) → HasForm items
form_of items good =
    ⊎_elim
    (λ (f : HasForm items). f)
    (λ (l : (at : ℕ) × LacksForm items at). absurd (good l.0 (stops items l.0 l.1)))
    (either items)

-- a partition that may be written on has at least four items in its front
pub opened_long : (items : List Item) → IsOpened items → 4 ≤ length (front items)
opened_long items o = subst (λ (l : List Item). 4 ≤ length l) (sym o.whole) o.labels

-- an item at the end leaves the form, the indexes, and where no index stands the end
pub record IsQuiet (items : List Item) (x : Item) : Type 0 where
  pub before : IsOpened items
  pub opened : IsOpened (items ++ x ∷ [])
  pub same : indexes_of (items ++ x ∷ []) ≡ indexes_of items
  pub further : indexes_of items ≡ [] → end_ip (content items) ≤ end_ip (content (items ++ x ∷ []))

record IsQuietStep (pos : ℕ) (phase : Phase) (ks : List Construct) (x : Item) : Type 0 where
  good : (at : ℕ) → (seen_in pos phase ks x).phase ≢ Bad at
  same : (seen_in pos phase ks x).constructs ≡ ks
  further : ks ≡ [] → end_ip_in pos phase ks ≤ end_ip (seen_in pos phase ks x)

behind_block : (pos since : ℕ) (ks : List Construct) → end_ip_in (pos + 1) (Data (since + 1)) ks ≡ pos + 1
behind_block pos since ks = ap (λ (n : ℕ). end_ip_in (pos + 1) (Data n) ks) (add-one since)

pub data_before : (pos since : ℕ) (ks : List Construct) → ks ≡ [] → end_ip_in pos (Data since) ks ≡ pos
data_before pos zero [] none = refl
data_before pos zero (k ∷ ks) none = absurd (cc)
data_before pos (suc since) ks none = refl

block_step : (pos : ℕ) (phase : Phase) (ks : List Construct) (b : List ℕ) → ((at : ℕ) → phase ≢ Bad at) → IsQuietStep pos phase ks (Block b)
block_step pos (Data since) ks b good = record {
  good = λ at bad. cc;
  same = refl;
  further = λ none. omega (arith, behind_block pos since ks, data_before pos since ks none);
}
block_step pos (Index mark blocks) ks b good = record { good = λ at bad. cc; same = refl; further = λ none. omega arith }
block_step pos (Bad at) ks b good = absurd (good at refl)

mark_step : (pos since : ℕ) (ks : List Construct) → IsQuietStep pos (Data since) ks Mark
mark_step pos since ks = record { good = λ at bad. cc; same = refl; further = λ none. omega (arith, data_before pos since ks none) }

front_more : (items : List Item) (x : Item) → front items ≡ items → x ≢ Torn → front (items ++ x ∷ []) ≡ items ++ x ∷ []
front_more items x whole is = front_append items (x ∷ []) whole ∙ ap (λ (l : List Item). items ++ l) (front_item x is)

quiet : (items : List Item) (x : Item) → IsOpened items → x ≢ Torn
    → IsQuietStep (content items).pos (content items).phase (content items).constructs x → IsQuiet items x
quiet items x o is step =
    let now : content (items ++ x ∷ []) ≡ seen (content items) x = content_more items x o.whole o.labels is in
    record {
      before = o;
      opened = record {
        whole = front_more items x o.whole is;
        labels = omega (arith, length-append items (x ∷ []), o.labels);
        good = λ at bad. step.good at (sym (ap (λ (s : Content). s.phase) now) ∙ bad);
      };
      same = ap (λ (s : Content). s.constructs) now ∙ step.same;
      further = λ none. subst (λ (s : Content). end_ip (content items) ≤ end_ip s) (sym now) (step.further none);
    }

quiet_block : (items : List Item) (b : List ℕ) → IsOpened items → IsQuiet items (Block b)
quiet_block items b o =
    quiet items (Block b) o (λ torn. cc)
    (block_step (content items).pos (content items).phase (content items).constructs b o.good)

pub data_opened : (items : List Item) (since : ℕ) → front items ≡ items → 4 ≤ length items → (content items).phase ≡ Data since
    → IsOpened items
data_opened items since whole labels is =
    record { whole = whole; labels = labels; good = λ at bad. let no : Data since ≡ Bad at = sym is ∙ bad in cc no }

-- a mark behind data makes no index whole
pub quiet_mark : (items : List Item) (since : ℕ) → front items ≡ items → 4 ≤ length items → (content items).phase ≡ Data since
    → IsQuiet items Mark
quiet_mark items since whole labels is =
    quiet items Mark (data_opened items since whole labels is) (λ torn. cc)
    (subst (λ (phase : Phase). IsQuietStep (content items).pos phase (content items).constructs Mark) (sym is)
    (mark_step (content items).pos since (content items).constructs))

-- ---- what was made stays sound

dp_more : (v : Volume) (t : Trees) (plan : Cartridge) (b : Base) (dp more : List Item) (last : CoveredIndex) → b.indexes ≢ []
    → HasForm (dp ++ more) → indexes_of (dp ++ more) ≡ indexes_of dp → IsDpImage v t plan b dp last
    → IsDpImage v t plan b (dp ++ more) last
dp_more v t plan b dp more last some form same i =
    let has : indexes_of dp ≢ [] = image_has_index v t plan b dp last some i in
    let long : 4 ≤ length dp = omega (arith, indexes_long dp has, front_within dp) in
    let end : ℕ = end_dp (indexes_of dp) in
    let agree : take end (dp ++ more) ≡ take end plan.dp = take-append-le end dp more (end_within dp has) ∙ i.agrees in
    record {
      labels = take-append-le 4 dp more long ∙ i.labels;
      form = form;
      more = i.more;
      split = same ∙ i.split;
      reads = subst (λ (ks : List Construct). IsLastOnDp v.labels.ip ks (Some last.index)) (sym same) i.reads;
      agrees = subst (λ (ks : List Construct). take (end_dp ks) (dp ++ more) ≡ take (end_dp ks) plan.dp) (sym same) agree;
      counts = subst (λ (ks : List Construct). Counts v t plan b (end_dp ks) i.more last) (sym same) i.counts;
    }

-- an index partition without an index
pub ip_empty : (v : Volume) (plan : Cartridge) (b : Base) (ip : List Item) → b.ahead ≡ None → HasForm ip → indexes_of ip ≡ []
    → take b.sure ip ≡ take b.sure plan.ip → b.sure ≤ end_ip (content ip) → IsIpImage v plan b ip
ip_empty v plan b ip none form empty agrees further = record {
  form = form;
  one = subst (λ (ks : List Construct). IsOneAtMost ip ks) (sym empty) tt;
  on_ip = None;
  reads = subst (λ (ks : List Construct). IsLastOnIp v.labels.ip ks b.indexes (Some b.floor.index) None) (sym empty) refl;
  behind = subst (λ (ahead : Option CoveredIndex). IsBehind b.floor ahead None) (sym none) tt;
  agrees = agrees;
  further = further;
}

-- no index stands on the index partition
abbrev pub IsFree : Part → Made → Type 0
IsFree Ip s = indexes_of s.ip ≡ []
IsFree Dp s = Unit {0}

ip_quiet : (v : Volume) (plan : Cartridge) (b : Base) (ip : List Item) (x : Item) → b.ahead ≡ None → indexes_of ip ≡ [] → IsQuiet ip x
    → IsIpImage v plan b ip → IsIpImage v plan b (ip ++ x ∷ [])
ip_quiet v plan b ip x none free q i =
    let long : b.sure ≤ length ip =
    omega (arith, i.further, end_ip_within ip (opened_long ip q.before), front_within ip) in
    ip_empty v plan b (ip ++ x ∷ []) none (form_of (ip ++ x ∷ []) q.opened.good) (q.same ∙ free)
    (take-append-le b.sure ip (x ∷ []) long ∙ i.agrees)
    (omega (arith, i.further, q.further free))

-- an item that makes no index whole, put at the end of a partition, leaves it sound
pub sound_put : (v : Volume) (t : Trees) (plan : Cartridge) (part : Part) (x : Item) (s : Made) → MayWrite part s.base → IsFree part s
    → IsQuiet (part_items part s) x → IsSound v t plan s → IsSound v t plan (put_on part x None s)
sound_put v t plan Ip x s may free q h =
    record { grounded = h.grounded; dp = h.dp; ip = λ none. ip_quiet v plan s.base s.ip x may free q (h.ip may) }
sound_put v t plan Dp x s may free q h = record {
  grounded = h.grounded;
  dp =
      dp_more v t plan s.base s.dp (x ∷ []) s.last h.grounded.some (form_of (s.dp ++ x ∷ []) q.opened.good) q.same h.dp;
  ip = h.ip;
}

-- ---- jobs that lead from one state to another

-- jobs may be done one after the other, and what they make is this
pub record LeadsTo (v : Volume) (t : Trees) (plan : Cartridge) (s : Made) (jobs : List Job) (made : Made) : Type 0 where
  pub safe : AreSafe v t plan s jobs
  pub to : after s jobs ≡ made

-- jobs that lead somewhere, and more that lead on, lead all the way
pub leads_append : (v : Volume) (t : Trees) (plan : Cartridge) (a b c : Made) (first second : List Job)
    → LeadsTo v t plan a first b → LeadsTo v t plan b second c → LeadsTo v t plan a (first ++ second) c
leads_append v t plan a b c first second l m = record {
  safe = safe_append v t plan first second a l.safe (subst (λ (s : Made). AreSafe v t plan s second) (sym l.to) m.safe);
  to = after_append first second a ∙ ap (λ (s : Made). after s second) l.to ∙ m.to;
}

-- ---- a run of blocks

-- what was made, with other items on one partition
abbrev pub with_items : Part → List Item → Made → Made
with_items Ip items s = record { ip = items; dp = s.dp; last = s.last; base = s.base }
with_items Dp items s = record { ip = s.ip; dp = items; last = s.last; base = s.base }

-- the ops that put blocks on a partition, one behind the other from a position
abbrev pub puts_from : Part → ℕ → List (List ℕ) → List Op
puts_from part pos [] = []
puts_from part pos (b ∷ bs) = ops.Put (record { part = part; pos = pos }) b ∷ puts_from part (pos + 1) bs

puts_run : (f : ℕ → List ℕ) (part : Part) (pos a n : ℕ)
    → map (λ (k : ℕ). ops.Put (record { part = part; pos = pos + k }) (f k)) (range_with_len a n) ≡ puts_from part (pos + a) (map f (range_with_len a n))
puts_run f part pos a zero = refl
puts_run f part pos a (suc n) =
    let at : pos + (a + 1) ≡ pos + a + 1 = omega arith in
    ap (λ (l : List Op). ops.Put (record { part = part; pos = pos + a }) (f a) ∷ l)
    (puts_run f part pos (a + 1) n ∙ ap (λ (p : ℕ). puts_from part p (map f (range_with_len (a + 1) n))) at)

-- the puts of a document are those of its blocks
pub puts_are : (size : ℕ) (part : Part) (pos : ℕ) (doc : List ℕ) → puts size part pos doc ≡ puts_from part pos (blocks_of size doc)
puts_are size part pos doc =
    let at : pos + 0 ≡ pos = omega arith in
    puts_run (block_at size doc) part pos 0 (div_ceil (length doc) size) ∙ ap (λ (p : ℕ). puts_from part p (blocks_of size doc)) at

put_items : (part : Part) (x : Item) (s : Made) → part_items part (put_on part x None s) ≡ part_items part s ++ x ∷ []
put_items Ip x s = refl
put_items Dp x s = refl

may_still : (part : Part) (x : Item) (s : Made) → MayWrite part s.base → MayWrite part (put_on part x None s).base
may_still Ip x s may = may
may_still Dp x s may = may

free_still : (part : Part) (x : Item) (s : Made) → IsFree part s → IsQuiet (part_items part s) x → IsFree part (put_on part x None s)
free_still Ip x s free q = q.same ∙ free
free_still Dp x s free q = tt

with_none : (part : Part) (s : Made) → s ≡ with_items part (part_items part s ++ []) s
with_none Ip s = λ i. with_items Ip (sym (append-nil s.ip) i) s
with_none Dp s = λ i. with_items Dp (sym (append-nil s.dp) i) s

with_both : (part : Part) (x : Item) (more : List Item) (s : Made)
    → with_items part (part_items part (put_on part x None s) ++ more) (put_on part x None s) ≡ with_items part (part_items part s ++ x ∷ more) s
with_both Ip x more s = ap (λ (l : List Item). with_items Ip l s) (append_assoc s.ip (x ∷ []) more)
with_both Dp x more s = ap (λ (l : List Item). with_items Dp l s) (append_assoc s.dp (x ∷ []) more)

-- a run of puts leaves its blocks at the end of the partition
pub run_makes : (part : Part) (bs : List (List ℕ)) (pos : ℕ) (s : Made)
    → after s (map plain (puts_from part pos bs)) ≡ with_items part (part_items part s ++ map Block bs) s
run_makes part [] pos s = with_none part s
run_makes part (b ∷ bs) pos s = run_makes part bs (pos + 1) (put_on part (Block b) None s) ∙ with_both part (Block b) (map Block bs) s

run_safe : (v : Volume) (t : Trees) (plan : Cartridge) (part : Part) (bs : List (List ℕ)) (pos : ℕ) (s : Made) → pos ≡ length (part_items part s)
    → MayWrite part s.base → IsFree part s → IsOpened (part_items part s) → IsSound v t plan s
    → AreSafe v t plan s (map plain (puts_from part pos bs))
run_safe v t plan part [] pos s at may free o sound = tt
run_safe v t plan part (b ∷ bs) pos s at may free o sound =
    let q = quiet_block (part_items part s) b o in
    let s1 : Made = put_on part (Block b) None s in
    let items = put_items part (Block b) s in
    let sound1 : IsSound v t plan s1 = sound_put v t plan part (Block b) s may free q sound in
    let at1 : pos + 1 ≡ length (part_items part s1) =
    omega (arith, at, length-append (part_items part s) (Block b ∷ []), ap (λ (l : List Item). length l) items) in
    let o1 = subst (λ (l : List Item). IsOpened l) (sym items) q.opened in (
      (at, may),
      sound1,
      run_safe v t plan part bs (pos + 1) s1 at1 (may_still part (Block b) s may) (free_still part (Block b) s free q) o1 sound1,
    )

-- blocks put at the end of a partition lead soundly to one that has them
pub run : (v : Volume) (t : Trees) (plan : Cartridge) (part : Part) (bs : List (List ℕ)) (pos : ℕ) (s : Made) → pos ≡ length (part_items part s)
    → MayWrite part s.base → IsFree part s → IsOpened (part_items part s) → IsSound v t plan s
    → LeadsTo v t plan s (map plain (puts_from part pos bs)) (with_items part (part_items part s ++ map Block bs) s)
run v t plan part bs pos s at may free o sound =
    record { safe = run_safe v t plan part bs pos s at may free o sound; to = run_makes part bs pos s }
