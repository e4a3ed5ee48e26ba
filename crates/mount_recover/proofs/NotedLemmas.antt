-- The last indexes by the notes.
use Rattle.std.proofs.Common.{ℕ, ◌-◌, ◌≤◌, ◌≡◌, ◌≢◌, inl, Bool, true, false, List, [], ◌∷◌, map, reverse, Option, Some, None, refl, sym, ◌∙◌, ap, subst, arith}
use Rattle.std.proofs.lemmas.Bool.Decides.{nat_tests}
use Rattle.std.specs.Prelude.{IfNone, IfSome, MatchOption, nat_lt, cond}
use Rattle.std.proofs.lemmas.Option.{same_Some}
use Rattle.tape_types.specs.declared.cartridges.Cartridge.{Cartridge}
use Rattle.tape_types.specs.declared.cartridges.Limits.{Limits}
use Rattle.tape_types.specs.declared.cartridges.Part.{Part}
use Rattle.tape_types.specs.declared.cartridges.Part.TheVariants.{Ip, Dp}
use Rattle.tape_types.specs.Cartridges.{IsLimits, items_of}
use Rattle.coherency.specs.declared.Coherency.{Coherency}
use Rattle.index_model.specs.Grammar.{IndexText, Stops}
use Rattle.index_model.specs.declared.errors.IndexErr.{IndexErr}
use Rattle.index_model.specs.declared.errors.IndexErr.TheVariants as index_errors
use Rattle.index_model.specs.declared.indexes.Index.{Index}
use Rattle.index_read.specs.Answers.{UnlessMemory}
use Rattle.index_read.proofs.Exact.{never_both, one_index_text}
use Rattle.index_read.proofs.ValidIndexes.{index_valid}
use Rattle.ltfs_label.specs.declared.Label.{Label}
use Rattle.content_laws.specs.Readings as readings
use Rattle.content_laws.specs.Readings.{first_of}
use Rattle.content_laws.specs.Ends.{EndsWithLast}
use Rattle.cartridge_meaning.specs.Pointers.{IsLastOnDp, IsLastOnIp, chosen, indexes_of, last_block, letter_of, newest_spot, text_of}
use Rattle.cartridge_meaning.specs.declared.labels.Labels.{Labels}
use Rattle.cartridge_meaning.proofs.OneWay.{labels_once, last_dp_once, last_ip_once}
use Rattle.volume_scan.specs.declared.content.Construct.{Construct}
use Rattle.volume_scan.specs.Scans.{places_of}
use Rattle.mount_recover.specs.Known.{IsKnownByNotes}
use Rattle.mount_recover.specs.Labels.{AreLabels}
use Rattle.mount_recover.specs.Lasts.{AreLasts, IsDocument, IsInPlace, IsKnownIp, IsLastDp, IsLastIp, IsTwinAt, newest, twin_of}
use Rattle.mount_recover.specs.Noted.{AreNotedLasts, AreTold, EndWithLasts, EndsAt, Follows, IsEnding, IsLastFrom, IsNotedLast, IsNotedRead, IsNotedText, IsOfNote, IsTold, lacks_memory}
use Rattle.mount_recover.specs.declared.endings.Ending.{Ending}
use Rattle.mount_recover.specs.declared.lasts.LastIndex.{LastIndex}
use Rattle.mount_recover.specs.declared.lasts.Lasts.{Lasts}
use Rattle.mount_recover.specs.declared.lasts.Lasts.TheVariants as found
use Rattle.mount_recover.specs.declared.lasts.TwinIndex.{TwinIndex}
use Rattle.mount_recover.specs.declared.notes.Named.{Named}
use Rattle.mount_recover.proofs.LastLemmas.{of_newest, right_ip}
use Rattle.mount_recover.proofs.MountLemmas.{spot_of}
use Rattle.mount_recover.proofs.TwinLemmas.{right_twin, sound_twin}

-- ---- an index that is as a note says

-- a document that is refused is that of no index
pub text_refused : (document : List ℕ) (fault : IndexErr) (index : Index) → UnlessMemory fault (Stops document fault) → lacks_memory fault ≡ false
    → IndexText document index → ⊥
text_refused document index_errors.NoMemory index stops is text = cc is
text_refused document index_errors.Version index stops is text = never_both document index index_errors.Version text stops
text_refused document fault index stops is text = never_both document index fault text stops

-- a document is that of one index
pub one_noted : (document : List ℕ) (label : Label) (letter : ℕ) (note : Coherency) (place : Construct) (index other : Index) → IndexText document index
    → IsNotedText document label letter note place other → IsOfNote label letter note place index
one_noted document label letter note place index other text noted =
    subst (IsOfNote label letter note place) (one_index_text document other index noted.text text) noted.is_of

-- what follows the last index of the data partition by one reading of a text does so by another
pub one_follows : (document : List ℕ) (label : Label) (index other : Index) (dp : LastIndex) → IndexText document index → IndexText document other
    → Follows label other dp → Follows label index dp
one_follows document label index other dp text others follows =
    subst (λ (x : Index). Follows label x dp) (one_index_text document other index others text) follows

-- ---- what a note tells of its partition

-- the last index of the partition is opened by the mark in front of the place that the note names
pub last_from : (label : Label) (part : Part) (values : Coherency) (c : Cartridge) → IsTold label part values c → IsLastFrom (items_of part c) (values.block - 1)
last_from label part values c told = from (indexes_of (items_of part c)) refl told.tells.block
  where
    from : (ks : List readings.Construct) → indexes_of (items_of part c) ≡ ks → last_block ks ≡ Some values.block → IsLastFrom (items_of part c) (values.block - 1)
    from [] are is = absurd (cc is)
    from (k ∷ older) are is =
        let first : first_of k ≡ values.block = cc is in
        record { form = told.form; long = told.long; k = k; older = older; parts = are; mark_is = omega (arith, first) }

-- the document of the newest of these indexes, which stands there
document_is : (ks : List readings.Construct) (document : List ℕ) (place : Construct) (k : readings.Construct) (older : List readings.Construct) → ks ≡ k ∷ older
    → newest ks ≡ Some place → IsDocument document ks → (document ≡ text_of k) × (places_of k ≡ place)
document_is ks document place k older are stands is =
    let both : Some (places_of k) ≡ Some place = sym (ap newest are) ∙ stands in
    (subst (IsDocument document) are is, (cc both))

module _ (c : Cartridge) (label : Label) (note : Coherency) (document : List ℕ) (place : Construct) where
  -- the last index of the data partition is as its note says
  dp_text : (told : IsTold label Dp note c) → EndsAt c.dp document place → IsNotedText document label label.dpart note place told.tells.index
  dp_text told ends = at (indexes_of c.dp) refl told.tells.last
    where
      at : (ks : List readings.Construct) → indexes_of c.dp ≡ ks → IsLastOnDp label ks (Some told.tells.index) → IsNotedText document label label.dpart note place told.tells.index
      at [] are last = absurd (cc last)
      at (k ∷ older) are last =
          let d = document_is (indexes_of c.dp) document place k older are ends.stands ends.document_is in
          let both : Some told.tells.index ≡ Some last.0 = last.1 in
          let same : last.0 ≡ told.tells.index = sym (same_Some told.tells.index last.0 both) in
          subst (IsNotedText document label label.dpart note place) same
          (record {
            text = subst (λ (t : List ℕ). IndexText t last.0) (sym d.0) last.2.text;
            is_of = record {
              uuid = last.2.uuid;
              noted = record {
                here = last.3.here ∙ ap (λ (p : Construct). record { letter = label.dpart; block = p.first }) d.1;
                generation = ap (λ (x : Index). x.generation) same ∙ sym told.tells.generation;
              };
            };
          })

  -- so is that of the index partition
  ip_text : (told : IsTold label Ip note c) → EndsAt c.ip document place → IsNotedText document label label.index note place told.tells.index
  ip_text told ends = at (indexes_of c.ip) refl told.tells.last.2
    where
      at : (ks : List readings.Construct) → indexes_of c.ip ≡ ks → IsLastOnIp label ks (indexes_of c.dp) told.tells.last.0 (Some told.tells.index)
          → IsNotedText document label label.index note place told.tells.index
      at [] are last = absurd (cc last)
      at (k ∷ older) are last =
          let d = document_is (indexes_of c.ip) document place k older are ends.stands ends.document_is in
          let same : last.0 ≡ told.tells.index = sym (same_Some told.tells.index last.0 last.1) in
          subst (IsNotedText document label label.index note place) same
          (record {
            text = subst (λ (t : List ℕ). IndexText t last.0) (sym d.0) last.2.text;
            is_of = record {
              uuid = last.2.uuid;
              noted = record {
                here = last.3.here ∙ ap (λ (p : Construct). record { letter = label.index; block = p.first }) d.1;
                generation = ap (λ (x : Index). x.generation) same ∙ sym told.tells.generation;
              };
            };
          })

-- ---- the data partition

-- the last index of the data partition, where its document was read: none only where the partition goes on
pub noted_dp : (c : Cartridge) (label : Label) (note : Coherency) (document text : List ℕ) (place : Construct) (found : Option LastIndex) → text ≡ document
    → IfSome found (λ l. (l.place ≡ place) × IsNotedText text label label.dpart note place l.index)
    → ((index : Index) → IsNotedText text label label.dpart note place index → (l : LastIndex) × (found ≡ Some l))
    → IsTold label Dp note c → EndsAt c.dp document place
    → MatchOption found (¬ EndsWithLast c.dp (indexes_of c.dp)) (λ l. IsLastDp label (Some l) c × EndsWithLast c.dp (indexes_of c.dp))
noted_dp c label note document text place None same some all told ends =
    let noted = subst (λ (t : List ℕ). IsNotedText t label label.dpart note place told.tells.index) (sym same) (dp_text c label note document place told ends) in
    let bad = (all told.tells.index noted).1 in
    absurd (cc bad)
noted_dp c label note document text place (Some l) same some all told ends =
    let noted = subst (λ (t : List ℕ). IsNotedText t label label.dpart note place told.tells.index) (sym same) (dp_text c label note document place told ends) in
    let is : told.tells.index ≡ l.index = one_index_text text told.tells.index l.index noted.text some.1.text in (
      record {
        index = subst (λ (x : Index). IsLastOnDp label (indexes_of c.dp) (Some x)) is told.tells.last;
        place = ap Some some.0 ∙ sym ends.stands;
      },
      ends.ends,
    )

-- an index that was read is a last one found by its note
noted_last : (label : Label) (part : Part) (letter capacity : ℕ) (note : Coherency) (text before after : List ℕ) (e : Ending) (found : Option LastIndex)
    → letter ≡ letter_of label part → 5 ≤ note.block
    → IfSome found (λ l. (l.place ≡ e.place) × IsNotedText text label letter note e.place l.index)
    → IsEnding capacity (note.block - 1) before after e → IfSome found (IsNotedLast label part note capacity)
noted_last label part letter capacity note text before after e None letter_is low some any = tt
noted_last label part letter capacity note text before after e (Some l) letter_is low some any = record {
  sound = record {
    index = record { valid = index_valid text l.index some.1.text; uuid = some.1.is_of.uuid };
    place = subst (IsInPlace capacity) (sym some.0) any.place;
  };
  first = ap (λ (p : Construct). p.first) some.0 ∙ first;
  noted = record {
    here =
        some.1.is_of.noted.here
        ∙ ap (λ (n : ℕ). record { letter = n; block = e.place.first }) letter_is
        ∙ ap (λ (p : Construct). record { letter = letter_of label part; block = p.first }) (sym some.0);
    generation = some.1.is_of.noted.generation;
  };
}
  where
    first : e.place.first ≡ note.block
    first = omega (arith, any.place.first, any.mark_is, low)

-- ---- the index partition

-- what is known by the notes is known of the last indexes that the notes tell of
module _ (c : Cartridge) (labels : Labels) (n : Named) (told : AreTold labels n c) (known : IsKnownByNotes c) (dp : LastIndex) (last : IsLastDp labels.ip (Some dp) c) where
  labels_are : known.found.labels ≡ labels
  labels_are = labels_once c known.found.labels labels known.found.forms.has told.has

  on_dp : known.found.on_dp ≡ Some dp.index
  on_dp =
      last_dp_once labels.ip (indexes_of c.dp) known.found.on_dp (Some dp.index)
      (subst (λ (l : Labels). IsLastOnDp l.ip (indexes_of c.dp) known.found.on_dp) labels_are known.found.dp_last) last.index

  noted_ip : IsLastOnIp labels.ip (indexes_of c.ip) (indexes_of c.dp) (Some dp.index) (Some told.ip.tells.index)
  noted_ip =
      subst (λ (o : Option Index). IsLastOnIp labels.ip (indexes_of c.ip) (indexes_of c.dp) o (Some told.ip.tells.index))
      (last_dp_once labels.ip (indexes_of c.dp) told.ip.tells.last.0 (Some dp.index) told.ip.tells.last.1 last.index) told.ip.tells.last.2

  on_ip : known.found.on_ip ≡ Some told.ip.tells.index
  on_ip =
      let here = subst (λ (l : Labels). IsLastOnIp l.ip (indexes_of c.ip) (indexes_of c.dp) known.found.on_dp known.found.on_ip) labels_are known.found.ip_last in
      let there = subst (λ (o : Option Index). IsLastOnIp labels.ip (indexes_of c.ip) (indexes_of c.dp) o known.found.on_ip) on_dp here in
      last_ip_once labels.ip (indexes_of c.ip) (indexes_of c.dp) (Some dp.index) known.found.on_ip (Some told.ip.tells.index) there noted_ip

  done_is : known.ip_done.on_ip ≡ told.ip.tells.index
  done_is = same_Some known.ip_done.on_ip told.ip.tells.index (sym known.ip_done.last ∙ on_ip)

  no_older : (b : Bool) (i d f : Index) → b ≡ nat_lt d.generation i.generation → Some (cond b i d) ≡ Some f → i.generation ≡ f.generation → d.generation ≤ i.generation
  no_older true i d f is chosen_is same = let less : nat_lt d.generation i.generation ≡ true = sym is in grind (arith, nat_tests, less)
  no_older false i d f is chosen_is same =
      let e : d ≡ f = same_Some d f chosen_is in omega (arith, ap (λ (x : Index). x.generation) e, same)

  later : dp.index.generation ≤ told.ip.tells.index.generation
  later =
      let choice : chosen (Some told.ip.tells.index) (Some dp.index) ≡ Some known.found.index =
      ap (λ (o : Option Index). chosen o (Some dp.index)) (sym on_ip) ∙ ap (λ (o : Option Index). chosen known.found.on_ip o) (sym on_dp) ∙ known.found.choice in
      no_older (nat_lt dp.index.generation told.ip.tells.index.generation) told.ip.tells.index dp.index known.found.index refl choice
      (ap (λ (x : Index). x.generation) (sym done_is) ∙ known.ip_done.generation)

  -- its last index on the index partition follows that of the data partition
  pub known_follows : Follows labels.ip told.ip.tells.index dp
  known_follows = record {
    later = later;
    back =
        ap (λ (x : Index). x.back) (sym done_is)
        ∙ known.ip_done.back
        ∙ ap (λ (l : Labels). newest_spot l.ip (indexes_of c.dp)) labels_are
        ∙ spot_of labels.ip dp (indexes_of c.dp) last.place;
  }

-- the last index of the index partition, where it follows that of the data partition
module _ (c : Cartridge) (labels : Labels) (n : Named) (told : AreTold labels n c) (dp : LastIndex) (last : IsLastDp labels.ip (Some dp) c)
    (document : List ℕ) (place : Construct) (ends : EndsAt c.ip document place) where
  -- what is known of the index partition
  pub known_ip : IsKnownIp labels place (map places_of (reverse (indexes_of c.dp))) (Some dp.index) c
  known_ip = record {
    forms = record { has = told.has; ip = told.ip.form; dp = told.dp.form };
    newest = record { form = told.ip.form; long = told.ip.long; stands = ends.stands };
    dps_are = refl;
    dp_last = last.index;
  }

  -- an index that is as its note says, and follows that of the data partition, is its last one
  pub last_ip : (index : Index) → IsNotedText document labels.ip labels.ip.index n.ip place index → Follows labels.ip index dp
      → IsLastIp labels.ip (Some dp.index) (Some (record { index = index; place = place })) c
  last_ip index noted follows =
      right_ip c labels place (map places_of (reverse (indexes_of c.dp))) (Some dp.index) known_ip index
      (of_newest labels.ip (indexes_of c.ip) document index ends.document_is noted.text noted.is_of.uuid)
      (λ k first. record {
        here = noted.is_of.noted.here ∙ ap (λ (m : ℕ). record { letter = labels.ip.index; block = m }) first;
        back = inl (follows.later, follows.back ∙ sym (spot_of labels.ip dp (indexes_of c.dp) last.place));
      })

  -- its last index has the generation of its note
  pub twin_generation : (index : Index) → IsLastIp labels.ip (Some dp.index) (Some (record { index = index; place = place })) c → index.generation ≡ n.ip.generation
  twin_generation index is =
      let here = last_dp_once labels.ip (indexes_of c.dp) told.ip.tells.last.0 (Some dp.index) told.ip.tells.last.1 last.index in
      let there = subst (λ (o : Option Index). IsLastOnIp labels.ip (indexes_of c.ip) (indexes_of c.dp) o (Some told.ip.tells.index)) here told.ip.tells.last.2 in
      let same = same_Some index told.ip.tells.index
      (last_ip_once labels.ip (indexes_of c.ip) (indexes_of c.dp) (Some dp.index) (Some index) (Some told.ip.tells.index) is.index there) in
      ap (λ (x : Index). x.generation) same ∙ sym told.ip.tells.generation

-- both last indexes, where the second one was read
pub noted_both : (c : Cartridge) (labels : Labels) (n : Named) (dp now : LastIndex) (document text : List ℕ) (place : Construct) (found_is : Option Lasts) → text ≡ document
    → now ≡ dp
    → IfSome found_is (λ l. (ip : LastIndex) × (l ≡ found.OnBoth ip now) × (ip.place ≡ place) × IsNotedText text labels.ip labels.ip.index n.ip place ip.index × Follows labels.ip ip.index now)
    → ((index : Index) → IsNotedText text labels.ip labels.ip.index n.ip place index → Follows labels.ip index now → (l : Lasts) × (found_is ≡ Some l))
    → AreTold labels n c → IsLastDp labels.ip (Some dp) c → EndsWithLast c.dp (indexes_of c.dp) → EndsAt c.ip document place
    → MatchOption found_is (¬ IsKnownByNotes c) (λ lasts. AreLasts labels.ip lasts c × EndWithLasts c)
noted_both c labels n dp now document text place None same now_is some all told last dp_ends ends = λ known.
    let noted = subst (λ (t : List ℕ). IsNotedText t labels.ip labels.ip.index n.ip place told.ip.tells.index) (sym same) (ip_text c labels.ip n.ip document place told.ip ends) in
    let follows = subst (Follows labels.ip told.ip.tells.index) (sym now_is) (known_follows c labels n told known dp last) in
    let bad = (all told.ip.tells.index noted follows).1 in
    cc bad
noted_both c labels n dp now document text place (Some l) same now_is some all told last dp_ends ends =
    subst (λ (x : Lasts). AreLasts labels.ip x c × EndWithLasts c) (sym some.1) (
      record {
        dp = subst (λ (x : LastIndex). IsLastDp labels.ip (Some x) c) (sym now_is) last;
        ip =
            subst (λ (x : LastIndex). IsLastIp labels.ip (Some x.index) (Some some.0) c) (sym now_is)
            (subst (λ (p : Construct). IsLastIp labels.ip (Some dp.index) (Some (record { index = some.0.index; place = p })) c) (sym some.2)
            (last_ip c labels n told dp last document place ends some.0.index
            (subst (λ (t : List ℕ). IsNotedText t labels.ip labels.ip.index n.ip place some.0.index) same some.3)
            (subst (Follows labels.ip some.0.index) now_is some.4)));
      },
      record { ip = ends.ends; dp = dp_ends },
    )

-- so were both found by the notes
pub sound_both : (labels : Labels) (n : Named) (limits : Limits) (dp now : LastIndex) (before after text : List ℕ) (e : Ending) (found_is : Option Lasts) → now ≡ dp → 5 ≤ n.ip.block
    → IfSome found_is (λ l. (ip : LastIndex) × (l ≡ found.OnBoth ip now) × (ip.place ≡ e.place) × IsNotedText text labels.ip labels.ip.index n.ip e.place ip.index × Follows labels.ip ip.index now)
    → IsNotedLast labels.ip Dp n.dp limits.cap_dp dp → IsEnding limits.cap_ip (n.ip.block - 1) before after e
    → IfSome found_is (AreNotedLasts labels.ip n limits)
sound_both labels n limits dp now before after text e None now_is low some noted any = tt
sound_both labels n limits dp now before after text e (Some l) now_is low some noted any =
    subst (AreNotedLasts labels.ip n limits) (sym some.1)
    (record {
      dp = now;
      dp_is = refl;
      dp_noted = subst (IsNotedLast labels.ip Dp n.dp limits.cap_dp) (sym now_is) noted;
      ip = some.0;
      ip_is = refl;
      ip_noted =
          noted_last labels.ip Ip labels.ip.index limits.cap_ip n.ip text before after e (Some some.0) refl low (some.2, some.3) any;
      follows = some.4;
    })

-- the last index of a partition was found by its note in a document, which stands there
pub noted_read : (label : Label) (part : Part) (letter capacity : ℕ) (note : Coherency) (text document before after : List ℕ) (e : Ending) (found : Option LastIndex) → text ≡ document
    → letter ≡ letter_of label part → 5 ≤ note.block
    → IfSome found (λ l. (l.place ≡ e.place) × IsNotedText text label letter note e.place l.index)
    → IsEnding capacity (note.block - 1) before after e → IfSome found (IsNotedRead label part note capacity document)
noted_read label part letter capacity note text document before after e None same letter_is low some any = tt
noted_read label part letter capacity note text document before after e (Some l) same letter_is low some any = record {
  last = noted_last label part letter capacity note text before after e (Some l) letter_is low some any;
  text = subst (λ (t : List ℕ). IndexText t l.index) same some.1.text;
}

-- both last indexes, where the second one is the first one but for its pointers
module _ (labels : Labels) (n : Named) (limits : Limits) (dp now : LastIndex) (now_is : now ≡ dp) (e : Ending) (twin : TwinIndex) (low : 5 ≤ n.ip.block)
    (place_is : twin.place ≡ e.place) (here_is : twin.here ≡ record { letter = labels.ip.index; block = n.ip.block })
    (back_is : twin.back ≡ record { letter = labels.ip.dpart; block = dp.place.first })
    (range : IsLimits limits) (spelled : AreLabels labels) (noted : IsNotedLast labels.ip Dp n.dp limits.cap_dp dp)
    (before after : List ℕ) (any : IsEnding limits.cap_ip (n.ip.block - 1) before after e) (found_is : Option Lasts)
    (some : IfSome found_is (λ l. (l ≡ found.Alike twin now) × (now.index.generation ≡ n.ip.generation)))
    (none : IfNone found_is (now.index.generation ≢ n.ip.generation)) where
  first : e.place.first ≡ n.ip.block
  first = omega (arith, any.place.first, any.mark_is, low)

  twin_at : IsTwinAt labels.ip e.place dp.place twin
  twin_at = record {
    place_is = place_is;
    here = here_is ∙ ap (λ (m : ℕ). record { letter = labels.ip.index; block = m }) (sym first);
    back = back_is;
  }

  -- both last indexes, or the cartridge is not known by its notes
  pub alike_found : (c : Cartridge) → AreTold labels n c → IsLastDp labels.ip (Some dp) c → EndsWithLast c.dp (indexes_of c.dp)
      → (document : List ℕ) → EndsAt c.ip document e.place → IndexText document (twin_of dp.index twin)
      → MatchOption found_is (¬ IsKnownByNotes c) (λ lasts. AreLasts labels.ip lasts c × EndWithLasts c)
  alike_found c told last dp_ends document ends text = of found_is some none
    where
      is_last : IsLastIp labels.ip (Some dp.index) (Some (record { index = twin_of dp.index twin; place = twin.place })) c
      is_last =
          right_twin labels limits e.place dp twin twin_at range spelled any.place noted.sound c (map places_of (reverse (indexes_of c.dp)))
          (known_ip c labels n told dp last document e.place ends) last document ends.document_is text

      of : (o : Option Lasts) → IfSome o (λ l. (l ≡ found.Alike twin now) × (now.index.generation ≡ n.ip.generation)) → IfNone o (now.index.generation ≢ n.ip.generation)
          → MatchOption o (¬ IsKnownByNotes c) (λ lasts. AreLasts labels.ip lasts c × EndWithLasts c)
      of None has hasnt = λ known.
          hasnt (ap (λ (x : LastIndex). x.index.generation) now_is
          ∙ twin_generation c labels n told dp last document e.place ends (twin_of dp.index twin)
          (subst (λ (p : Construct). IsLastIp labels.ip (Some dp.index) (Some (record { index = twin_of dp.index twin; place = p })) c) place_is is_last))
      of (Some l) has hasnt =
          subst (λ (x : Lasts). AreLasts labels.ip x c × EndWithLasts c) (ap (found.Alike twin) (sym now_is) ∙ sym has.0)
          (record { dp = last; ip = is_last }, record { ip = ends.ends; dp = dp_ends })

  -- so were both found by the notes
  pub alike_sound : IfSome found_is (AreNotedLasts labels.ip n limits)
  alike_sound = of found_is some
    where
      of : (o : Option Lasts) → IfSome o (λ l. (l ≡ found.Alike twin now) × (now.index.generation ≡ n.ip.generation)) → IfSome o (AreNotedLasts labels.ip n limits)
      of None has = tt
      of (Some l) has =
          subst (AreNotedLasts labels.ip n limits) (ap (found.Alike twin) (sym now_is) ∙ sym has.0)
          (record {
            dp = dp;
            dp_is = refl;
            dp_noted = noted;
            ip = record { index = twin_of dp.index twin; place = twin.place };
            ip_is = refl;
            ip_noted = record {
              sound = sound_twin labels limits e.place dp twin twin_at range spelled any.place noted.sound;
              first = ap (λ (p : Construct). p.first) place_is ∙ first;
              noted = record {
                here = twin_at.here ∙ ap (λ (p : Construct). record { letter = labels.ip.index; block = p.first }) (sym place_is);
                generation = ap (λ (x : LastIndex). x.index.generation) (sym now_is) ∙ has.1;
              };
            };
            follows = record { later = omega arith; back = ap (λ (s : _). Some s) back_is };
          })

-- a cartridge whose index partition goes on behind its last index is not known by its notes
pub ip_goes_on : (c : Cartridge) → ¬ EndsWithLast c.ip (indexes_of c.ip) → ¬ IsKnownByNotes c
ip_goes_on c none known = none known.ip_done.ends

-- nor one whose data partition goes on
pub dp_goes_on : (c : Cartridge) → ¬ EndsWithLast c.dp (indexes_of c.dp) → ¬ IsKnownByNotes c
dp_goes_on c none known = none known.dp_done.ends
