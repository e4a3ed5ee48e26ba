-- What notes tell.
use Rattle.std.proofs.Common.{◌≡◌, ◌<◌, Option, Some, sym, ap, subst, ◌∙◌, arith}
use Rattle.tape_types.specs.declared.cartridges.Cartridge.{Cartridge}
use Rattle.tape_types.specs.declared.cartridges.Part.{Part}
use Rattle.tape_types.specs.declared.cartridges.Part.TheVariants.{Ip, Dp}
use Rattle.tape_types.specs.Cartridges.{note_of}
use Rattle.coherency.specs.Notes.{HasValues, IsCurrent}
use Rattle.coherency.specs.declared.Coherency.{Coherency}
use Rattle.index_model.specs.declared.indexes.Index.{Index}
use Rattle.ltfs_label.specs.declared.Label.{Label}
use Rattle.cartridge_meaning.specs.Labels.{HasLabels}
use Rattle.cartridge_meaning.specs.Notes.{AreNoted, IsCoherent, IsHonest, IsHonestNote, IsNoted, LastReads, TellsOfLast}
use Rattle.cartridge_meaning.specs.Pointers.{IsLastOnIp, indexes_of}
use Rattle.cartridge_meaning.specs.declared.labels.Labels.{Labels}
use Rattle.cartridge_meaning.proofs.OneWay.{labels_once, last_dp_once, last_ip_once}

last_once : (c : Cartridge) (label : Label) (part : Part) (x y : Index) → LastReads label part c x → LastReads label part c y → x ≡ y
last_once c label Dp x y h k = let both : Some x ≡ Some y = last_dp_once label (indexes_of c.dp) (Some x) (Some y) h k in cc
last_once c label Ip x y h k =
    let on_dp : h.0 ≡ k.0 = last_dp_once label (indexes_of c.dp) h.0 k.0 h.1 k.1 in
    let here = subst (λ (o : Option Index). IsLastOnIp label (indexes_of c.ip) (indexes_of c.dp) o (Some x)) on_dp h.2 in
    let both : Some x ≡ Some y = last_ip_once label (indexes_of c.ip) (indexes_of c.dp) k.0 (Some x) (Some y) here k.2 in
    cc

-- two notes that tell of a partition's last index tell one generation
pub generation_told : (c : Cartridge) (label : Label) (part : Part) (note other : Coherency) → TellsOfLast c label part note → TellsOfLast c label part other
    → note.generation ≡ other.generation
generation_told c label part note other h k =
    h.generation ∙ ap (λ (x : Index). x.generation) (last_once c label part h.index k.index h.last k.last) ∙ sym k.generation

-- two notes that tell of a partition's last index tell one block
pub block_told : (c : Cartridge) (label : Label) (part : Part) (note other : Coherency) → TellsOfLast c label part note → TellsOfLast c label part other
    → note.block ≡ other.block
block_told c label part note other h k = let both : Some note.block ≡ Some other.block = sym h.block ∙ k.block in cc

-- a note of the volume with a greater VCR than the cartridge's is not honest
pub ahead_is_dishonest : (c : Cartridge) (label : Label) (part : Part) (note : Coherency) → HasValues (note_of part c) note → note.uuid ≡ label.uuid
    → c.vcr < note.vcr → ¬ IsHonestNote c label part
ahead_is_dishonest c label part note has uuid ahead h = omega (arith, ahead, h.not_ahead note has uuid)

noted : (c : Cartridge) (label other : Label) (part : Part) → label ≡ other → IsHonestNote c label part → IsCurrent (note_of part c) c.vcr other.uuid → IsNoted c label part
noted c label other part same h k =
    let uuid : k.0.uuid ≡ label.uuid = k.3 ∙ ap (λ (l : Label). l.uuid) (sym same) in
    record { note = k.0; has = k.1; vcr = k.2; uuid = uuid; tells = (h.truthful k.0 k.1 uuid k.2).1 }

-- on an honest cartridge coherent notes tell of the last indexes
pub honest_noted : (c : Cartridge) (l : Labels) → HasLabels c l → IsHonest c → IsCoherent c → AreNoted c l.ip
honest_noted c l has h k =
    let here : h.labels ≡ l = labels_once c h.labels l h.has has in
    let there : l ≡ k.labels = labels_once c l k.labels has k.has in
    let ip = subst (λ (m : Labels). IsHonestNote c m.ip Ip) here h.ip in
    let dp = subst (λ (m : Labels). IsHonestNote c m.ip Dp) here h.dp in
    let same : l.ip ≡ k.labels.ip = ap (λ (m : Labels). m.ip) there in
    record { ip = noted c l.ip k.labels.ip Ip same ip k.ip; dp = noted c l.ip k.labels.ip Dp same dp k.dp }

-- notes that tell of the last indexes are coherent
pub noted_coherent : (c : Cartridge) (l : Labels) → HasLabels c l → AreNoted c l.ip → IsCoherent c
noted_coherent c l has h = record {
  labels = l;
  has = has;
  ip = (h.ip.note, h.ip.has, h.ip.vcr, h.ip.uuid);
  dp = (h.dp.note, h.dp.has, h.dp.vcr, h.dp.uuid);
}
