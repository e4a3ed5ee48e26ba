-- Which of the worked notes are honest.
use Rattle.std.proofs.Common.{◌≡◌, ◌≤◌, ℕ, List, [], ◌∷◌, Option, Some, None, refl, sym, ap, subst, ◌∙◌, inl, arith, append-nil}
use Rattle.tape_types.specs.declared.cartridges.Cartridge.{Cartridge}
use Rattle.tape_types.specs.declared.cartridges.Item.{Item}
use Rattle.tape_types.specs.declared.cartridges.Item.TheVariants.{Block}
use Rattle.tape_types.specs.declared.cartridges.Note.{Note}
use Rattle.tape_types.specs.declared.cartridges.Part.TheVariants.{Dp, Ip}
use Rattle.coherency.specs.declared.Coherency.{Coherency}
use Rattle.index_model.specs.Grammar.{IndexText}
use Rattle.index_model.specs.declared.indexes.Index.{Index}
use Rattle.index_model.specs.declared.indexes.Spot.{Spot}
use Rattle.index_read.proofs.Exact.{one_index_text}
use Rattle.ltfs_label.specs.declared.Label.{Label}
use Rattle.content_laws.specs.Readings.{Construct, HasForm}
use Rattle.cartridge_meaning.specs.Notes.{HasHonestNotes, TellsOfLast}
use Rattle.cartridge_meaning.specs.Pointers.{IsLastOnDp, IsLastOnIp, IsOfVolume, indexes_of, last_block, newest_spot}
use Rattle.cartridge_meaning.specs.Worked.{HasOne, IsClosed, note, on_b}
use Rattle.cartridge_meaning.proofs.Honest.{honest_by_values, honest_notes, unlabelled_honest}
use Rattle.cartridge_meaning.proofs.Noted.{ahead_is_dishonest}
use Rattle.cartridge_meaning.proofs.OneWay.{last_dp_once}

-- ---- the worked volume

abbrev at_5 : List ℕ → Construct
at_5 text = record { mark = 4; blocks = text ∷ [] }

module _ {items : List Item} {here : Spot} {back : Option Spot} (h : HasOne items here back) where
  one_index : indexes_of items ≡ at_5 h.text ∷ []
  one_index = ap indexes_of h.items_are

  form : HasForm items
  form = subst HasForm (sym h.items_are) (record {
    groups = record { data_blocks = []; index_blocks = h.text ∷ [] } ∷ [];
    indexes = (λ e. cc, tt);
    lead = [];
    begun = None;
    spelled = refl;
  })

  of_volume : (label : Label) → label.uuid ≡ 7 → IsOfVolume label (at_5 h.text) h.index
  of_volume label uuid = record {
    text = subst (λ (text : List ℕ). IndexText text h.index) (sym (append-nil h.text)) h.spelled;
    uuid = h.uuid ∙ sym uuid;
  }

module _ (c : Cartridge) {values : Coherency} (h : IsClosed c None values) where
  dp_last : IsLastOnDp h.labels.ip (indexes_of c.dp) (Some h.dp.index)
  dp_last =
      subst (λ (dps : List Construct). IsLastOnDp h.labels.ip dps (Some h.dp.index)) (sym (one_index h.dp)) (
        h.dp.index,
        refl,
        of_volume h.dp h.labels.ip h.uuid,
        record {
          here = h.dp.here_is ∙ (λ i. record { letter = sym h.on_b i; block = 5 });
          back = h.dp.back_is;
        },
      )

  back_to_dp : h.ip.index.back ≡ newest_spot h.labels.ip (indexes_of c.dp)
  back_to_dp =
      h.ip.back_is ∙ (λ i. Some (record { letter = sym h.on_b i; block = 5 }))
      ∙ ap (newest_spot h.labels.ip) (sym (one_index h.dp))

  ip_last : IsLastOnIp h.labels.ip (indexes_of c.ip) (indexes_of c.dp) (Some h.dp.index) (Some h.ip.index)
  ip_last =
      let same : h.dp.index.generation ≤ h.ip.index.generation = omega (arith, h.dp.generation, h.ip.generation) in
      subst (λ (ips : List Construct). IsLastOnIp h.labels.ip ips (indexes_of c.dp) (Some h.dp.index) (Some h.ip.index))
      (sym (one_index h.ip)) (
        h.ip.index,
        refl,
        of_volume h.ip h.labels.ip h.uuid,
        record {
          here = h.ip.here_is ∙ (λ i. record { letter = sym h.on_a i; block = 5 });
          back = inl (same, back_to_dp);
        },
      )

-- the notes of the worked volume are honest by their values
by_values : (c : Cartridge) {back : Option Spot} (values : Coherency) (h : IsClosed c back values)
    → (values.uuid ≡ 7 → values.vcr ≤ 3)
    → (values.uuid ≡ 7 → values.vcr ≡ 3 → TellsOfLast c h.labels.ip Ip values × TellsOfLast c h.labels.ip Dp values)
    → HasHonestNotes c
by_values c values h low tells =
    let high : values.uuid ≡ h.labels.ip.uuid → values.vcr ≤ c.vcr =
    λ uuid. subst (λ n. values.vcr ≤ n) (sym h.vcr) (low (uuid ∙ h.uuid)) in
    honest_notes c (record {
      labels = h.labels;
      has = h.has;
      ip = honest_by_values c h.labels.ip Ip values h.ip_note high (λ uuid vcr. (form h.ip, (tells (uuid ∙ h.uuid) (vcr ∙ h.vcr)).0));
      dp = honest_by_values c h.labels.ip Dp values h.dp_note high (λ uuid vcr. (form h.dp, (tells (uuid ∙ h.uuid) (vcr ∙ h.vcr)).1));
    })

-- a note with the cartridge's VCR and its last index is honest
pub right : (c : Cartridge) → IsClosed c None (note 3 2 5 7) → HasHonestNotes c
right c h = by_values c (note 3 2 5 7) h (λ uuid. omega arith) (λ uuid vcr. (
  record {
    index = h.ip.index;
    last = (Some h.dp.index, dp_last c h, ip_last c h);
    generation = sym h.ip.generation;
    block = ap last_block (one_index h.ip);
  },
  record {
    index = h.dp.index;
    last = dp_last c h;
    generation = sym h.dp.generation;
    block = ap last_block (one_index h.dp);
  },
))

-- a note with a lower VCR is honest, whatever else it tells
pub behind : (c : Cartridge) (back : Option Spot) → IsClosed c back (note 2 1 9 7) → HasHonestNotes c
behind c back h = by_values c (note 2 1 9 7) h (λ uuid. omega arith) (λ uuid vcr. absurd (omega (arith, vcr)))

-- a note of another volume is honest, whatever else it tells
pub other_volume : (c : Cartridge) (back : Option Spot) → IsClosed c back (note 4 1 9 8) → HasHonestNotes c
other_volume c back h =
    by_values c (note 4 1 9 8) h (λ uuid. absurd (omega (arith, uuid))) (λ uuid vcr. absurd (omega (arith, uuid)))

-- a note with a greater VCR than the cartridge's is not honest
pub ahead : (c : Cartridge) → IsClosed c None (note 4 2 5 7) → ¬ HasHonestNotes c
ahead c h honest =
    ahead_is_dishonest c h.labels.ip Dp (note 4 2 5 7) h.dp_note (sym h.uuid) (omega (arith, h.vcr)) (honest h.labels h.has).1

-- what an honest and current note tells of the data partition
told_of : (c : Cartridge) {back : Option Spot} (values : Coherency) (h : IsClosed c back values) → values.uuid ≡ 7
    → values.vcr ≡ 3 → HasHonestNotes c → TellsOfLast c h.labels.ip Dp values
told_of c values h uuid vcr honest =
    ((honest h.labels h.has).1.truthful values h.dp_note (uuid ∙ sym h.uuid) (vcr ∙ sym h.vcr)).1

-- a note with the cartridge's VCR and another block is not honest
pub other_block : (c : Cartridge) → IsClosed c None (note 3 2 6 7) → ¬ HasHonestNotes c
other_block c h honest =
    let told = told_of c (note 3 2 6 7) h refl refl honest in
    let wrong : ◌≡◌ {A = Option ℕ} (Some 5) (Some 6) = sym (ap last_block (one_index h.dp)) ∙ told.block in
    cc

-- a note with the cartridge's VCR and another generation is not honest
pub other_generation : (c : Cartridge) → IsClosed c None (note 3 1 5 7) → ¬ HasHonestNotes c
other_generation c h honest =
    let told = told_of c (note 3 1 5 7) h refl refl honest in
    let both : Some told.index ≡ Some h.dp.index =
    last_dp_once h.labels.ip (indexes_of c.dp) (Some told.index) (Some h.dp.index) told.last (dp_last c h) in
    let same : told.index ≡ h.dp.index = cc in
    omega (arith, told.generation, ap (λ (x : Index). x.generation) same, h.dp.generation)

-- a note that tells of an index with a wrong pointer is not honest
pub wrong_back : (c : Cartridge) → IsClosed c (Some (on_b 4)) (note 3 2 5 7) → ¬ HasHonestNotes c
wrong_back c h honest =
    let told = told_of c (note 3 2 5 7) h refl refl honest in
    let last = subst (λ (dps : List Construct). IsLastOnDp h.labels.ip dps (Some told.index)) (one_index h.dp) told.last in
    let text = subst (λ (text : List ℕ). IndexText text last.0) (append-nil h.dp.text) last.2.text in
    let same : last.0 ≡ h.dp.index = one_index_text h.dp.text last.0 h.dp.index text h.dp.spelled in
    let wrong : None ≡ Some (on_b 4) = sym last.3.back ∙ ap (λ (x : Index). x.back) same ∙ h.dp.back_is in
    cc

-- a blank cartridge has honest notes, whatever they tell
pub blank : (vcr : ℕ) (ip dp : Note) → HasHonestNotes (record { ip = []; dp = []; vcr = vcr; note_ip = ip; note_dp = dp })
blank vcr ip dp = unlabelled_honest (record { ip = []; dp = []; vcr = vcr; note_ip = ip; note_dp = dp })
    (λ labels has. let wrong : None ≡ Some (Block has.ip_record.bytes) = has.ip_record.stands.block in cc)
