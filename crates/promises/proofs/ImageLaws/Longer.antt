-- A plan that goes on: what was sound of it stays sound.
use Rattle.std.proofs.Common.{ℕ, ◌≤◌, ◌≡◌, ◌≢◌, inl, inr, List, [], ◌∷◌, ◌++◌, length, take, Option, refl, sym, ap, subst, ◌∙◌, arith, append_assoc, append-nil, length-append, length-drop, length-take}
use Rattle.std.proofs.lemmas.List.{take-append-le}
use Rattle.std.proofs.lemmas.Option.{slice_get_within}
use Rattle.std.specs.List.{fold}
use Rattle.tape_types.specs.declared.cartridges.Cartridge.{Cartridge}
use Rattle.tape_types.specs.declared.cartridges.Item.{Item}
use Rattle.tape_types.specs.declared.cartridges.Item.TheVariants.{Block, Mark}
use Rattle.tape_types.specs.declared.cartridges.Part.{Part}
use Rattle.tape_types.specs.declared.cartridges.Part.TheVariants.{Ip, Dp}
use Rattle.content_laws.specs.Readings.{Construct, front, readable}
use Rattle.content_laws.specs.Content.{seen, start}
use Rattle.content_laws.specs.Ends.{end_dp}
use Rattle.content_laws.proofs.Placed.{end_dp_within}
use Rattle.content_laws.proofs.Whole.{front_within}
use Rattle.tape_layout.specs.declared.ops.Op.{Op}
use Rattle.tape_layout.specs.declared.ops.Op.TheVariants as ops
use Rattle.cartridge_meaning.specs.Labels.{HasLabels}
use Rattle.cartridge_meaning.specs.Pointers.{indexes_of}
use Rattle.cartridge_meaning.specs.declared.labels.Labels.{Labels}
use Rattle.cartridge_meaning.proofs.Frame.{labels_stay, tree_stays}
use Rattle.promises.specs.ImageLaws.Left.{IsLonger, PlansGoOn}
use Rattle.promises.specs.ImageLaws.Images.{AreSafe, Counts, IsDpImage, IsGrounded, IsImage, IsIpImage, IsSound, Tells}
use Rattle.promises.specs.ImageLaws.Made.{Base, CoveredIndex, Job, Made, Trees, Volume, after, cartridge_of, does, makes, newest_entry, put_on}

-- ---- lengths

labels_long : (c : Cartridge) (l : Labels) → HasLabels c l → (4 ≤ length c.ip) × (4 ≤ length c.dp)
labels_long c l h =
    (omega (arith, slice_get_within c.ip 3 Mark h.ip.stands.mark), omega (arith, slice_get_within c.dp 3 Mark h.dp.stands.mark))

-- a list with an index goes on behind its labels
pub indexes_long : (items : List Item) → indexes_of items ≢ [] → 4 ≤ length (front items)
indexes_long items some = by_rest (readable items) refl
  where
    by_rest : (rest : List Item) → readable items ≡ rest → 4 ≤ length (front items)
    by_rest [] is = absurd (some (ap (λ (l : List Item). (fold seen start l).constructs) is))
    by_rest (x ∷ rest) is = omega (arith, length-drop 4 (front items), ap (λ (l : List Item). length l) is)

-- the end of the newest index lies within the items where there is an index
pub end_within : (items : List Item) → indexes_of items ≢ [] → end_dp (indexes_of items) ≤ length items
end_within items some = omega (arith, end_dp_within items (indexes_long items some), front_within items)

same_length : (n : ℕ) (xs ys : List Item) → take n xs ≡ take n ys → n ≤ length xs → n ≤ length ys
same_length n xs ys same le =
    omega (arith, length-take n xs, length-take n ys, ap (λ (l : List Item). length l) same, le)

some_behind : (more ks : List Construct) → ks ≢ [] → more ++ ks ≢ []
some_behind [] ks some none = some none
some_behind (k ∷ more) ks some none = cc none

-- the end of an image of the data partition lies within the plan
pub image_has_index : (v : Volume) (t : Trees) (plan : Cartridge) (b : Base) (dp : List Item) (last : CoveredIndex) → b.indexes ≢ []
    → IsDpImage v t plan b dp last → indexes_of dp ≢ []
image_has_index v t plan b dp last some i none = some_behind i.more b.indexes some (sym i.split ∙ none)

image_end : (v : Volume) (t : Trees) (plan : Cartridge) (b : Base) (dp : List Item) (last : CoveredIndex) → b.indexes ≢ []
    → IsDpImage v t plan b dp last → end_dp (indexes_of dp) ≤ length plan.dp
image_end v t plan b dp last some i =
    same_length (end_dp (indexes_of dp)) dp plan.dp i.agrees (end_within dp (image_has_index v t plan b dp last some i))

-- ---- what stays as the plan goes on

module _ (v : Volume) (t : Trees) (plan longer : Cartridge) (l : IsLonger plan longer) where
  same_ip : (n : ℕ) → n ≤ length plan.ip → take n plan.ip ≡ take n longer.ip
  same_ip n le = sym (take-append-le n plan.ip l.more_ip le) ∙ ap (λ (xs : List Item). take n xs) (sym l.ip)

  same_dp : (n : ℕ) → n ≤ length plan.dp → take n plan.dp ≡ take n longer.dp
  same_dp n le = sym (take-append-le n plan.dp l.more_dp le) ∙ ap (λ (xs : List Item). take n xs) (sym l.dp)

  not_shorter : (length plan.ip ≤ length longer.ip) × (length plan.dp ≤ length longer.dp)
  not_shorter = (
    omega (arith, ap (λ (xs : List Item). length xs) l.ip, length-append plan.ip l.more_ip),
    omega (arith, ap (λ (xs : List Item). length xs) l.dp, length-append plan.dp l.more_dp),
  )

  -- an index tells the same tree of a plan that goes on
  pub tells_longer : (ip dp : ℕ) (e : CoveredIndex) → v.labels.ip.index ≢ v.labels.ip.dpart → ip ≤ length plan.ip → dp ≤ length plan.dp
      → Tells v t plan ip dp e → Tells v t longer ip dp e
  tells_longer ip dp e differ le_ip le_dp h = record {
    facts = h.facts;
    within = h.within;
    covered = h.covered;
    tree =
        tree_stays v.labels.ip ip dp differ plan longer e.index (t.nth e.place) h.within (same_ip ip le_ip) (same_dp dp le_dp) h.tree;
  }

  pub grounded_longer : (b : Base) → IsGrounded v t plan b → IsGrounded v t longer b
  grounded_longer b g =
      let long = labels_long plan v.labels g.labels in
      let more = not_shorter in
      record {
        labels = labels_stay plan longer v.labels (same_ip 4 long.0) (same_dp 4 long.1) g.labels;
        some = g.some;
        floor_reads = g.floor_reads;
        tells = tells_longer b.sure (end_dp b.indexes) (newest_entry b) g.labels.one_volume.places.letters g.on_ip g.on_dp g.tells;
        low = g.low;
        on_ip = omega (arith, g.on_ip, more.0);
        on_dp = omega (arith, g.on_dp, more.1);
      }

  counts_longer : (b : Base) (end : ℕ) (more : List Construct) (e : CoveredIndex) → IsGrounded v t plan b → end ≤ length plan.dp
      → Counts v t plan b end more e → Counts v t longer b end more e
  counts_longer b end more e g le (inl h) = inl h
  counts_longer b end more e g le (inr h) =
      inr (h.0, h.1, tells_longer b.sure end e g.labels.one_volume.places.letters g.on_ip le h.2)

  pub dp_longer : (b : Base) (dp : List Item) (last : CoveredIndex) → IsGrounded v t plan b → IsDpImage v t plan b dp last
      → IsDpImage v t longer b dp last
  dp_longer b dp last g i =
      let end = image_end v t plan b dp last g.some i in
      record {
        labels = i.labels ∙ same_dp 4 (labels_long plan v.labels g.labels).1;
        form = i.form;
        more = i.more;
        split = i.split;
        reads = i.reads;
        agrees = i.agrees ∙ same_dp (end_dp (indexes_of dp)) end;
        counts = counts_longer b (end_dp (indexes_of dp)) i.more last g end i.counts;
      }

  pub ip_longer : (b : Base) (ip : List Item) → IsGrounded v t plan b → IsIpImage v plan b ip → IsIpImage v longer b ip
  ip_longer b ip g i = record {
    form = i.form;
    one = i.one;
    on_ip = i.on_ip;
    reads = i.reads;
    behind = i.behind;
    agrees = i.agrees ∙ same_ip b.sure g.on_ip;
    further = i.further;
  }

  -- an image of a plan is one of a plan that goes on
  abbrev pub image_longer : (b : Base) (c : Cartridge) → IsGrounded v t plan b → IsImage v t plan b c → IsImage v t longer b c
  image_longer b c g i =
      record { ip = ip_longer b c.ip g i.ip; last = i.last; dp = dp_longer b c.dp i.last g i.dp; honest = i.honest }

  -- what is sound of a plan is sound of one that goes on
  pub sound_longer : (s : Made) → IsSound v t plan s → IsSound v t longer s
  sound_longer s h = record {
    grounded = grounded_longer s.base h.grounded;
    dp = dp_longer s.base s.dp s.last h.grounded h.dp;
    ip = λ none. ip_longer s.base s.ip h.grounded (h.ip none);
  }

  -- jobs that are safe for a plan are safe for one that goes on
  pub safe_longer : (jobs : List Job) (s : Made) → AreSafe v t plan s jobs → AreSafe v t longer s jobs
  safe_longer [] s h = tt
  safe_longer (job ∷ jobs) s h = (h.0, sound_longer (makes job s) h.1, safe_longer jobs (makes job s) h.2)

-- ---- jobs one after the other

-- what two lists of jobs make is what the second makes of what the first made
pub after_append : (jobs more : List Job) (s : Made) → after s (jobs ++ more) ≡ after (after s jobs) more
after_append [] more s = refl
after_append (job ∷ jobs) more s = after_append jobs more (makes job s)

-- jobs that are safe lead from what is sound to what is sound
pub sound_after : (v : Volume) (t : Trees) (plan : Cartridge) (jobs : List Job) (s : Made) → IsSound v t plan s
    → AreSafe v t plan s jobs → IsSound v t plan (after s jobs)
sound_after v t plan [] s sound safe = sound
sound_after v t plan (job ∷ jobs) s sound safe = sound_after v t plan jobs (makes job s) safe.1 safe.2

-- jobs that are safe, and more that are safe behind them, are safe together
pub safe_append : (v : Volume) (t : Trees) (plan : Cartridge) (jobs more : List Job) (s : Made) → AreSafe v t plan s jobs
    → AreSafe v t plan (after s jobs) more → AreSafe v t plan s (jobs ++ more)
safe_append v t plan [] more s safe rest = rest
safe_append v t plan (job ∷ jobs) more s safe rest = (safe.0, safe.1, safe_append v t plan jobs more (makes job s) safe.2 rest)

-- jobs only append
abbrev pub IsGrown : Made → Made → Type 0
IsGrown s made = IsLonger (cartridge_of s) (cartridge_of made)

none_longer : (s : Made) → IsGrown s s
none_longer s = record { more_ip = []; ip = sym (append-nil s.ip); more_dp = []; dp = sym (append-nil s.dp) }

put_longer : (part : Part) (x : Item) (whole : Option CoveredIndex) (s : Made) → IsGrown s (put_on part x whole s)
put_longer Ip x whole s = record { more_ip = x ∷ []; ip = refl; more_dp = []; dp = sym (append-nil s.dp) }
put_longer Dp x whole s = record { more_ip = []; ip = sym (append-nil s.ip); more_dp = x ∷ []; dp = refl }

does_longer : (op : Op) (whole : Option CoveredIndex) (s : Made) → IsGrown s (does op whole s)
does_longer (ops.Put place bytes) whole s = put_longer place.part (Block bytes) whole s
does_longer (ops.Mark place) whole s = put_longer place.part Mark whole s
does_longer (ops.Flush place) whole s =
    record { more_ip = []; ip = sym (append-nil s.ip); more_dp = []; dp = sym (append-nil s.dp) }

longer_trans : (a b c : Cartridge) → IsLonger a b → IsLonger b c → IsLonger a c
longer_trans a b c l m = record {
  more_ip = l.more_ip ++ m.more_ip;
  ip = m.ip ∙ ap (λ (xs : List Item). xs ++ m.more_ip) l.ip ∙ append_assoc a.ip l.more_ip m.more_ip;
  more_dp = l.more_dp ++ m.more_dp;
  dp = m.dp ∙ ap (λ (xs : List Item). xs ++ m.more_dp) l.dp ∙ append_assoc a.dp l.more_dp m.more_dp;
}

after_longer : (jobs : List Job) (s : Made) → IsGrown s (after s jobs)
after_longer [] s = none_longer s
after_longer (job ∷ jobs) s =
    longer_trans (cartridge_of s) (cartridge_of (makes job s)) (cartridge_of (after (makes job s) jobs))
    (does_longer job.op job.whole s) (after_longer jobs (makes job s))

-- with more jobs behind them, what jobs make only grows
pub plan_longer : (jobs more : List Job) (s : Made) → IsGrown (after s jobs) (after s (jobs ++ more))
plan_longer jobs more s =
    subst (λ (m : Made). IsGrown (after s jobs) m) (sym (after_append jobs more s)) (after_longer more (after s jobs))

-- what was sound of a plan stays sound where the plan goes on
pub plans_go_on : (v : Volume) (t : Trees) → PlansGoOn v t
plans_go_on v t = record {
  images = λ plan longer b c l g. image_longer v t plan longer l b c g;
  grounded = λ plan longer b l. grounded_longer v t plan longer l b;
  sound = λ plan longer s l. sound_longer v t plan longer l s;
  safe = λ plan longer jobs s l. safe_longer v t plan longer l jobs s;
  joined = safe_append v t;
  behind = sound_after v t;
  append = after_longer;
  parts = after_append;
}
