-- Honest cartridges and honest notes.
use Rattle.std.proofs.Common.{◌≡◌, ◌≤◌, ℕ, List, Some, sym, ap, subst, ◌∙◌}
use Rattle.tape_types.specs.declared.cartridges.Cartridge.{Cartridge}
use Rattle.tape_types.specs.declared.cartridges.Note.{Note}
use Rattle.tape_types.specs.declared.cartridges.Note.TheVariants.{Absent, Kept}
use Rattle.tape_types.specs.declared.cartridges.Part.{Part}
use Rattle.tape_types.specs.declared.cartridges.Part.TheVariants.{Dp, Ip}
use Rattle.tape_types.specs.Cartridges.{items_of, note_of}
use Rattle.coherency.specs.Notes.{HasValues, IsNote}
use Rattle.coherency.specs.declared.Coherency.{Coherency}
use Rattle.ltfs_label.specs.declared.Label.{Label}
use Rattle.content_laws.specs.Readings.{HasForm}
use Rattle.cartridge_meaning.specs.Labels.{HasLabels}
use Rattle.cartridge_meaning.specs.Notes.{HasHonestNotes, IsHonest, IsHonestNote, TellsOfLast}
use Rattle.cartridge_meaning.specs.declared.labels.Labels.{Labels}
use Rattle.cartridge_meaning.proofs.OneWay.{labels_once}

-- ---- with labels, and without

-- an honest cartridge has honest notes
pub honest_notes : (c : Cartridge) → IsHonest c → HasHonestNotes c
honest_notes c h labels has =
    let same : h.labels ≡ labels = labels_once c h.labels labels h.has has in
    subst (λ (l : Labels). IsHonestNote c l.ip Ip × IsHonestNote c l.ip Dp) same (h.ip, h.dp)

-- a cartridge with labels and honest notes is honest
pub labelled_honest : (c : Cartridge) (labels : Labels) → HasLabels c labels → HasHonestNotes c → IsHonest c
labelled_honest c labels has notes =
    let both = notes labels has in
    record { labels = labels; has = has; ip = both.0; dp = both.1 }

no_note : (c : Cartridge) (label : Label) (part : Part) → note_of part c ≡ Absent → IsHonestNote c label part
no_note c label part none = record {
  not_ahead = λ note has uuid. absurd (subst (λ (n : Note). HasValues n note) none has);
  truthful = λ note has uuid vcr. absurd (subst (λ (n : Note). HasValues n note) none has);
}

-- a cartridge without notes has honest notes
pub absent_honest : (c : Cartridge) → c.note_ip ≡ Absent → c.note_dp ≡ Absent → HasHonestNotes c
absent_honest c ip dp labels has = (no_note c labels.ip Ip ip, no_note c labels.ip Dp dp)

-- a cartridge without labels has honest notes
pub unlabelled_honest : (c : Cartridge) → ((labels : Labels) → ¬ HasLabels c labels) → HasHonestNotes c
unlabelled_honest c none labels has = absurd (none labels has)

-- ---- by the values of a note

note_once : (bytes : List ℕ) (a b : Coherency) → IsNote bytes a → IsNote bytes b → a ≡ b
note_once bytes a b h k =
    let vcr = h.vcr ∙ sym k.vcr in
    let generation = h.generation ∙ sym k.generation in
    let block = h.block ∙ sym k.block in
    let uuid : a.uuid ≡ b.uuid = (let both : Some a.uuid ≡ Some b.uuid = sym h.uuid ∙ k.uuid in cc) in
    λ i. record { vcr = vcr i; generation = generation i; block = block i; uuid = uuid i }

-- a note has its values in one way
values_once : (note : Note) (a b : Coherency) → HasValues note a → HasValues note b → a ≡ b
values_once Absent a b h k = absurd h
values_once (Kept bytes) a b h k = note_once bytes a b h k

-- a note is honest by the values that it has
pub honest_by_values : (c : Cartridge) (label : Label) (part : Part) (values : Coherency) → HasValues (note_of part c) values
    → (values.uuid ≡ label.uuid → values.vcr ≤ c.vcr)
    → (values.uuid ≡ label.uuid → values.vcr ≡ c.vcr → HasForm (items_of part c) × TellsOfLast c label part values)
    → IsHonestNote c label part
honest_by_values c label part values has low tells = record {
  not_ahead = λ note is uuid.
      let same : values ≡ note = values_once (note_of part c) values note has is in
      subst (λ (n : Coherency). n.vcr ≤ c.vcr) same (low (ap (λ (n : Coherency). n.uuid) same ∙ uuid));
  truthful = λ note is uuid vcr.
      let same : values ≡ note = values_once (note_of part c) values note has is in
      subst (λ (n : Coherency). HasForm (items_of part c) × TellsOfLast c label part n) same
      (tells (ap (λ (n : Coherency). n.uuid) same ∙ uuid) (ap (λ (n : Coherency). n.vcr) same ∙ vcr));
}
