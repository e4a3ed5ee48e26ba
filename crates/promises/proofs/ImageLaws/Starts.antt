-- A volume that is mounted is kept.
use Rattle.std.proofs.Common.{◌≡◌, ◌≢◌, ◌⊎◌, ⊎_elim, inl, inr, ℕ, zero, suc, ◌+◌, ◌<◌, ◌≤◌, ◌++◌, Bool, true, false, ltb, cond, List, [], ◌∷◌, length, take, Option, Some, None, refl, sym, ap, subst, ◌∙◌, arith}
use Rattle.std.specs.Prelude.{IfSome}
use Rattle.std.specs.List.{AllByRecursion}
use Rattle.std.proofs.lemmas.Bool.Decides.{nat_tests}
use Rattle.std.proofs.lemmas.List.{length-take-le, take-take}
use Rattle.plain_tree.specs.Tree.{Tree}
use Rattle.tape_types.specs.declared.cartridges.Cartridge.{Cartridge}
use Rattle.tape_types.specs.declared.cartridges.Item.{Item}
use Rattle.tape_types.specs.declared.cartridges.Part.TheVariants.{Dp, Ip}
use Rattle.index_model.specs.declared.indexes.Index.{Index}
use Rattle.content_laws.specs.Readings.{Construct, HasForm, after_of, front}
use Rattle.content_laws.specs.Content.{Bad, Content, Data, Index as begun, Phase, content}
use Rattle.content_laws.specs.Ends.{EndsWithLast, IsOneAtMost, end_dp, end_ip, end_ip_in, kept_in, kept_on_ip}
use Rattle.content_laws.proofs.Cuts.{cut_behind_index, cut_keeps}
use Rattle.content_laws.proofs.Folded.{in_data}
use Rattle.content_laws.proofs.IpEnds.{cut_at_end_ip}
use Rattle.content_laws.proofs.Placed.{EndsAt, content_placed, end_dp_from, end_dp_within, end_ip_from, end_ip_within, pos_is}
use Rattle.content_laws.proofs.Whole.{front_within}
use Rattle.cartridge_meaning.specs.Carried.{Carried, carried}
use Rattle.cartridge_meaning.specs.Labels.{HasLabels}
use Rattle.cartridge_meaning.specs.Meaning.{FitsNode, Found, HasOneIndex, IsTreeOf, Stands, dp_end, ip_end}
use Rattle.cartridge_meaning.specs.Notes.{IsHonest, IsHonestNote}
use Rattle.cartridge_meaning.specs.Pointers.{IsLastOnDp, IsLastOnIp, chosen, indexes_of, last_block}
use Rattle.cartridge_meaning.specs.declared.labels.Labels.{Labels}
use Rattle.cartridge_meaning.proofs.Frame.{labels_stay, tree_stays}
use Rattle.cartridge_meaning.proofs.OneWay.{labels_once}
use Rattle.space_laws.specs.Space.{Space}
use Rattle.promises.specs.ImageLaws.Fine.{IsFine}
use Rattle.promises.specs.ImageLaws.Images.{AreHonest, AreUpTo, IsBehind, IsDpImage, IsGrounded, IsImage, IsIpImage, IsSound, Tells}
use Rattle.promises.specs.ImageLaws.Kept.{IsServed, Kept, Moment, ReadsAs, Serves, plan_of}
use Rattle.promises.specs.ImageLaws.Made.{Base, CoveredIndex, Made, Trees, Volume, cartridge_of, newest_entry, newer_of}
use Rattle.promises.specs.ImageLaws.Plans.{IsPlanned, IsReady}
use Rattle.promises.specs.ImageLaws.Starts.{CanStart, IsFirstSpace, ahead_of, begun_with, first_entry, made_of}
use Rattle.promises.proofs.ImageLaws.Cut.{cut_is_whole, has_form, is_good, long_front}

-- the data partition of a cartridge that stands for a tree has a last index
pub last_on_dp : (label : _) (ks : List Construct) (on_dp : Option Index) → ks ≢ [] → IsLastOnDp label ks on_dp → (index : Index) × (on_dp ≡ Some index)
last_on_dp label [] on_dp some h = absurd (some refl)
last_on_dp label (k ∷ older) on_dp some h = (h.0, h.1)

-- which of the two indexes is chosen
chosen_is : (on_ip : Option Index) (d index : Index) → chosen on_ip (Some d) ≡ Some index → (newer_of (ahead_of on_ip d) (first_entry d)) ≡ first_entry index
chosen_is None d index e = let same : d ≡ index = cc in ap first_entry same
chosen_is (Some i) d index e = by (ltb d.generation i.generation) e
  where
    by : (b : Bool) → Some (cond b i d) ≡ Some index → newer_of (cond b (Some (first_entry i)) None) (first_entry d) ≡ first_entry index
    by true e = let same : i ≡ index = cc in ap first_entry same
    by false e = let same : d ≡ index = cc in ap first_entry same

is_behind : (on_ip : Option Index) (d : Index) → IsBehind (first_entry d) (ahead_of on_ip d) on_ip
is_behind None d = tt
is_behind (Some i) d = by (ltb d.generation i.generation) refl
  where
    by : (b : Bool) → ltb d.generation i.generation ≡ b → IsBehind (first_entry d) (cond b (Some (first_entry i)) None) (Some i)
    by true is = (refl, (let less : d.generation < i.generation = grind (arith, nat_tests) in less))
    by false is = (let le : i.generation ≤ d.generation = grind (arith, nat_tests) in le)

-- where one index at most stands on the index partition, with which its front ends, none is left below the end
kept_none : (pos : ℕ) (phase : Phase) (ks : List Construct) (items : List Item) → EndsAt pos phase ks → pos ≡ length (front items) → IsOneAtMost items ks
    → ((at : ℕ) → phase ≢ Bad at) → kept_in phase ks ≡ []
kept_none pos (Data zero) [] items ends at one sound = refl
kept_none pos (Data zero) (k ∷ older) items ends at one sound = one.0
kept_none pos (Data (suc since)) [] items ends at one sound = refl
kept_none pos (Data (suc since)) (k ∷ older) items ends at one sound = absurd (omega (arith, ends, at, one.1))
kept_none pos (begun mark blocks) [] items ends at one sound = refl
kept_none pos (begun mark blocks) (k ∷ older) items ends at one sound = absurd (omega (arith, ends.0, ends.1, at, one.1))
kept_none pos (Bad n) ks items ends at one sound = absurd (sound n refl)

data_good : (pos since : ℕ) (ks : List Construct) (items : List Item) → content items ≡ in_data pos since ks → (at : ℕ) → (content items).phase ≢ Bad at
data_good pos since ks items is at bad = let no : Data since ≡ Bad at = sym (ap (λ (c : Content). c.phase) is) ∙ bad in cc no

end_of_data : (pos since : ℕ) → end_ip_in pos (Data since) [] ≡ pos
end_of_data pos zero = refl
end_of_data pos (suc since) = refl

module _ (v : Volume) (d : Moment) (since : ℕ) (tree : Tree) (generation : ℕ) (can : CanStart v d since tree generation) where
  abbrev c : Cartridge
  c = d.held

  abbrev f : Found c
  f = can.stands.reads.found

  -- a cartridge that is mounted to be served has an index on its data partition
  pub has_last : (index : Index) × (f.on_dp ≡ Some index)
  has_last = last_on_dp f.labels.ip (indexes_of c.dp) f.on_dp can.stands.has_index f.dp_last

  abbrev s : Made
  s = made_of c f.on_ip has_last.0

  abbrev plan : Cartridge
  plan = cartridge_of s

  abbrev t : Trees
  t = begun_with tree

  same_labels : f.labels ≡ v.labels
  same_labels = labels_once c f.labels v.labels f.forms.has can.labels

  dp_reads : IsLastOnDp v.labels.ip (indexes_of c.dp) (Some has_last.0)
  dp_reads = subst (λ (l : Labels). IsLastOnDp l.ip (indexes_of c.dp) (Some has_last.0)) same_labels (subst (IsLastOnDp f.labels.ip (indexes_of c.dp)) has_last.1 f.dp_last)

  ip_reads : IsLastOnIp v.labels.ip (indexes_of c.ip) (indexes_of c.dp) (Some has_last.0) f.on_ip
  ip_reads = subst (λ (l : Labels). IsLastOnIp l.ip (indexes_of c.ip) (indexes_of c.dp) (Some has_last.0) f.on_ip) same_labels
      (subst (λ (o : Option Index). IsLastOnIp f.labels.ip (indexes_of c.ip) (indexes_of c.dp) o f.on_ip) has_last.1 f.ip_last)

  newest_is : newest_entry s.base ≡ first_entry f.index
  newest_is = chosen_is f.on_ip has_last.0 f.index (subst (λ (o : Option Index). chosen f.on_ip o ≡ Some f.index) has_last.1 f.choice)

  -- the ends lie within the fronts
  front_ip : 4 ≤ length (front c.ip)
  front_ip = long_front c.ip v.labels.ip_record _ can.labels.ip_record can.labels.ip

  front_dp : 4 ≤ length (front c.dp)
  front_dp = long_front c.dp v.labels.dp_record _ can.labels.dp_record can.labels.dp

  ip_within : ip_end c ≤ length (front c.ip)
  ip_within = end_ip_within c.ip front_ip

  dp_within : dp_end c ≤ length (front c.dp)
  dp_within = end_dp_within c.dp front_dp

  ip_long : length s.ip ≡ ip_end c
  ip_long = length-take-le (ip_end c) c.ip (omega (arith, ip_within, front_within c.ip))

  dp_long : length s.dp ≡ dp_end c
  dp_long = length-take-le (dp_end c) c.dp (omega (arith, dp_within, front_within c.dp))

  -- what is read below the ends
  ip_cut : (n : ℕ) × (content s.ip ≡ in_data (ip_end c) n [])
  ip_cut =
      let cut = cut_at_end_ip c.ip (is_good c.ip f.forms.ip) in
      let none = kept_none (content c.ip).pos (content c.ip).phase (content c.ip).constructs c.ip (content_placed c.ip).ends (pos_is c.ip front_ip (is_good c.ip f.forms.ip)) can.one (is_good c.ip f.forms.ip) in
      (cut.0, cut.1 ∙ ap (in_data (ip_end c) cut.0) none)

  ip_sound : (at : ℕ) → (content s.ip).phase ≢ Bad at
  ip_sound = data_good (ip_end c) ip_cut.0 [] s.ip ip_cut.1

  ip_none : indexes_of s.ip ≡ []
  ip_none = ap (λ (x : Content). x.constructs) ip_cut.1

  ip_end_is : end_ip (content s.ip) ≡ ip_end c
  ip_end_is = ap end_ip ip_cut.1 ∙ end_of_data (ip_end c) ip_cut.0

  dp_indexes : indexes_of s.dp ≡ indexes_of c.dp
  dp_indexes = cut_keeps c.dp (dp_end c) (omega arith)

  dp_cut : (ks : List Construct) → indexes_of c.dp ≡ ks → ks ≢ [] → content s.dp ≡ in_data (dp_end c) 0 ks
  dp_cut [] is some = absurd (some refl)
  dp_cut (k ∷ older) is some =
      let at : dp_end c ≡ after_of k = ap end_dp is in
      ap (λ (n : ℕ). content (take n c.dp)) at ∙ cut_behind_index c.dp k [] older is ∙ ap (λ (n : ℕ). in_data n 0 (k ∷ older)) (sym at)

  dp_content : content s.dp ≡ in_data (dp_end c) 0 (indexes_of c.dp)
  dp_content = dp_cut (indexes_of c.dp) refl can.stands.has_index

  dp_sound : (at : ℕ) → (content s.dp).phase ≢ Bad at
  dp_sound = data_good (dp_end c) 0 (indexes_of c.dp) s.dp dp_content

  ip_labels : take 4 c.ip ≡ take 4 plan.ip
  ip_labels = sym (take-take 4 (ip_end c) c.ip (end_ip_from c.ip))

  dp_labels : take 4 c.dp ≡ take 4 plan.dp
  dp_labels = sym (take-take 4 (dp_end c) c.dp (end_dp_from c.dp))

  begun_tells : Tells v t plan (ip_end c) (dp_end c) (first_entry f.index)
  begun_tells = record {
    facts = can.stands.reads.facts_are;
    within = subst (λ (l : Labels). AllByRecursion (FitsNode l.ip (ip_end c) (dp_end c)) f.index.nodes) same_labels f.within;
    covered = omega arith;
    tree = subst (λ (l : Labels). IsTreeOf l.ip plan f.index tree) same_labels (
        tree_stays f.labels.ip (ip_end c) (dp_end c) f.forms.has.one_volume.places.letters c plan f.index tree f.within
        (sym (take-take (ip_end c) (ip_end c) c.ip (omega arith))) (sym (take-take (dp_end c) (dp_end c) c.dp (omega arith))) can.stands.reads.tree_is);
  }

  grounded : IsGrounded v t plan s.base
  grounded = record {
    labels = labels_stay c plan v.labels ip_labels dp_labels can.labels;
    some = can.stands.has_index;
    floor_reads = dp_reads;
    tells = subst (Tells v t plan (ip_end c) (dp_end c)) (sym newest_is) begun_tells;
    low = end_ip_from c.ip;
    on_ip = omega (arith, ip_long);
    on_dp = omega (arith, dp_long);
  }

  made_dp : IsDpImage v t plan s.base s.dp s.last
  made_dp = record {
    labels = refl;
    form = has_form s.dp dp_sound;
    more = [];
    split = dp_indexes;
    reads = subst (λ (ks : List Construct). IsLastOnDp v.labels.ip ks (Some has_last.0)) (sym dp_indexes) dp_reads;
    agrees = refl;
    counts = inl (refl, refl);
  }

  made_ip : s.base.ahead ≡ None → IsIpImage v plan s.base s.ip
  made_ip on = record {
    form = has_form s.ip ip_sound;
    one = subst (IsOneAtMost s.ip) (sym ip_none) tt;
    on_ip = None;
    reads = subst (λ (ks : List Construct). IsLastOnIp v.labels.ip ks (indexes_of c.dp) (Some has_last.0) None) (sym ip_none) refl;
    behind = subst (λ (o : Option CoveredIndex). IsBehind s.base.floor o None) (sym on) tt;
    agrees = refl;
    further = omega (arith, ip_end_is);
  }

  sound : IsSound v t plan s
  sound = record { grounded = grounded; dp = made_dp; ip = made_ip }

  held_honest : AreHonest v c
  held_honest =
      let same : can.honest.labels ≡ v.labels = labels_once c can.honest.labels v.labels can.honest.has can.labels in
      record {
        ip = subst (λ (l : Labels). IsHonestNote c l.ip Ip) same can.honest.ip;
        dp = subst (λ (l : Labels). IsHonestNote c l.ip Dp) same can.honest.dp;
      }

  held_image : IsImage v t plan s.base c
  held_image = record {
    ip = record {
      form = f.forms.ip;
      one = can.one;
      on_ip = f.on_ip;
      reads = ip_reads;
      behind = is_behind f.on_ip has_last.0;
      agrees = sym (take-take (ip_end c) (ip_end c) c.ip (omega arith));
      further = omega arith;
    };
    last = s.last;
    dp = record {
      labels = dp_labels;
      form = f.forms.dp;
      more = [];
      split = refl;
      reads = dp_reads;
      agrees = sym (take-take (dp_end c) (dp_end c) c.dp (omega arith));
      counts = inl (refl, refl);
    };
    honest = held_honest;
  }

  reads_as : ReadsAs v t plan s c
  unfolding held_image
  reads_as = record {
    ip = ap (λ (n : ℕ). take n c.ip) ip_long;
    dp = ap (λ (n : ℕ). take n c.dp) dp_long;
    image = held_image;
    last_is = refl;
    no_more = sym dp_indexes;
    further = omega (arith, ip_end_is);
  }

  up_to : AreUpTo v c.vcr c
  up_to Ip note has uuid = held_honest.ip.not_ahead note has uuid
  up_to Dp note has uuid = held_honest.dp.not_ahead note has uuid

  held_fine : IsFine v t 0 c
  held_fine = record {
    place = 0;
    low = omega arith;
    high = omega arith;
    generation = generation;
    stands = can.stands;
    labels = can.labels;
    one = can.one;
    honest = can.honest;
  }

  -- a volume that was mounted is kept
  pub begins : Kept v t s since d 0 [] [] []
  begins = record {
    reads = reads_as;
    sound = sound;
    safe = tt;
    notes = up_to;
    images = λ other left. subst (λ (x : Cartridge). IsImage v t plan s.base x × AreUpTo v c.vcr x) (sym (can.now other left)) (held_image, up_to);
    begun = can.reached;
    always = λ other left. subst (IsFine v t 0) (sym (can.pending other left)) held_fine;
    waiting = tt;
    acked = tt;
  }

  same_generation : generation ≡ f.index.generation
  same_generation = can.stands.reads.generation_is

  ends_with : (ks : List Construct) → ks ≢ [] → length s.dp ≡ end_dp ks → EndsWithLast s.dp ks
  ends_with [] some long = absurd (some refl)
  ends_with (k ∷ older) some long = long

  pub plans : (space : Space) → IsFirstSpace c generation space → IsPlanned t s space
  plans space is = record {
    end_ip = is.end_ip ∙ sym ip_long;
    end_dp = is.end_dp ∙ sym dp_long;
    newest_is = is.newest ∙ same_generation ∙ ap (λ (e : CoveredIndex). e.index.generation) (sym newest_is);
    last_dp = is.last_dp ∙ ap last_block (sym dp_indexes);
    indexed = refl;
    flushed = λ due. sym ip_long;
    covered = λ unchanged j low high. refl;
    ended = λ unchanged.
        subst (λ (ks : List Construct). EndsWithLast s.dp ks) (sym dp_indexes) (ends_with (indexes_of c.dp) can.stands.has_index dp_long);
    ready_ip = record {
      whole = cut_is_whole c.ip (ip_end c) ip_within;
      labels = omega (arith, ip_long, end_ip_from c.ip);
      since = ip_cut.0;
      stage = ap (λ (x : Content). x.phase) ip_cut.1;
    };
    no_index = ip_none;
    ready_dp = record {
      whole = cut_is_whole c.dp (dp_end c) dp_within;
      labels = omega (arith, dp_long, end_dp_from c.dp);
      since = 0;
      stage = ap (λ (x : Content). x.phase) dp_content;
    };
  }

  -- a volume that is mounted is served, with no job, no sync and the first space
  pub begins_to_serve : (space : Space) → IsFirstSpace c generation space → Serves v t s since d 0 [] [] [] space
  begins_to_serve space is = record { kept = begins; planned = plans space is }
