-- A mount has one outcome, and what is done is consistent.
use Rattle.std.proofs.Common.{◌≡◌, ◌↔◌, Bool, true, false, cond, ltb, List, [], ◌∷◌, Option, Some, None, refl, sym, ap, subst, ◌∙◌}
use Rattle.tape_types.specs.declared.cartridges.Cartridge.{Cartridge}
use Rattle.tape_types.specs.declared.cartridges.Item.{Item}
use Rattle.index_model.specs.Valid.{IsValid}
use Rattle.index_model.specs.declared.indexes.Index.{Index}
use Rattle.index_read.proofs.ValidIndexes.{index_valid}
use Rattle.ltfs_label.specs.declared.Label.{Label}
use Rattle.content_laws.specs.Ends.{EndsWith, EndsWithLast}
use Rattle.content_laws.specs.Readings.{Construct}
use Rattle.cartridge_meaning.specs.Meaning.{Found, IsConsistent}
use Rattle.cartridge_meaning.specs.Mounts.{IsDpDone, IsIpDone, Mounts, chosen_place}
use Rattle.cartridge_meaning.specs.Notes.{AreNoted}
use Rattle.cartridge_meaning.specs.Pointers.{IsLastOnDp, IsLastOnIp, chosen, indexes_of, newest_spot, text_of}
use Rattle.cartridge_meaning.specs.declared.labels.Labels.{Labels}
use Rattle.cartridge_meaning.specs.declared.mounted.Mounted.{Mounted}
use Rattle.cartridge_meaning.proofs.OneWay.{same_index, same_labels, same_on_dp, same_on_ip}

-- ---- two flags that tell the same

flag_once : (a b : Bool) (P Q : Type 0) → ((a ≡ true) ↔ P) → ((b ≡ true) ↔ Q) → (P → Q) → (Q → P) → a ≡ b
flag_once true true P Q h k there back = refl
flag_once true false P Q h k there back = sym (k.1 (there (h.0 refl)))
flag_once false true P Q h k there back = h.1 (back (k.0 refl))
flag_once false false P Q h k there back = refl

module _ (c : Cartridge) (f g : Found c) where
  place_once : chosen_place f.on_ip f.on_dp c ≡ chosen_place g.on_ip g.on_dp c
  place_once =
      ap (λ (o : Option Index). chosen_place o f.on_dp c) (same_on_ip c f g) ∙ ap (λ (o : Option Index). chosen_place g.on_ip o c) (same_on_dp c f g)

  ip_label_once : f.labels.ip ≡ g.labels.ip
  ip_label_once = ap (λ (l : Labels). l.ip) (same_labels c f g)

  dp_done_too : IsDpDone c f → IsDpDone c g
  dp_done_too h = record { ends = h.ends; choice = sym place_once ∙ h.choice }

  ip_done_too : IsIpDone c f → IsIpDone c g
  ip_done_too h = record {
    ends = h.ends;
    on_ip = h.on_ip;
    last = sym (same_on_ip c f g) ∙ h.last;
    generation = h.generation ∙ ap (λ (x : Index). x.generation) (same_index c f g);
    back = h.back ∙ ap (λ (l : Label). newest_spot l (indexes_of c.dp)) ip_label_once;
    has_dp = h.has_dp;
  }

-- a cartridge is mounted in one way
pub mounted_once : (c : Cartridge) (m n : Mounted) → Mounts c m → Mounts c n → m ≡ n
mounted_once c m n h k =
    let index = h.index ∙ same_index c h.found k.found ∙ sym k.index in
    let label = h.label ∙ ip_label_once c h.found k.found ∙ sym k.label in
    let places : Some m.chosen ≡ Some n.chosen = h.chosen ∙ place_once c h.found k.found ∙ sym k.chosen in
    let place : m.chosen ≡ n.chosen = cc in
    let newest = h.newest ∙ ap (λ (x : Index). x.generation) (same_index c h.found k.found) ∙ sym k.newest in
    let end_ip = h.ip_end ∙ sym k.ip_end in
    let end_dp = h.dp_end ∙ sym k.dp_end in
    let last_dp = h.last_dp ∙ sym k.last_dp in
    let there = place_once c h.found k.found in
    let ip_on = flag_once m.ip_on n.ip_on _ _ h.ip_on k.ip_on (λ p. (p.0, sym there ∙ p.1)) (λ p. (p.0, there ∙ p.1)) in
    let dp_done = flag_once m.dp_done n.dp_done _ _ h.dp_done k.dp_done (dp_done_too c h.found k.found) (dp_done_too c k.found h.found) in
    let ip_done = flag_once m.ip_done n.ip_done _ _ h.ip_done k.ip_done (ip_done_too c h.found k.found) (ip_done_too c k.found h.found) in
    let same : h.found.labels.ip ≡ k.found.labels.ip = ip_label_once c h.found k.found in
    let noted = flag_once m.noted n.noted _ _ h.noted k.noted (subst (λ (l : Label). AreNoted c l) same) (subst (λ (l : Label). AreNoted c l) (sym same)) in
    λ i. record {
      label = label i;
      index = index i;
      chosen = place i;
      newest = newest i;
      end_ip = end_ip i;
      end_dp = end_dp i;
      last_dp = last_dp i;
      ip_on = ip_on i;
      dp_done = dp_done i;
      ip_done = ip_done i;
      noted = noted i;
    }

-- the label of a mount is that of the index partition
pub mounted_label : (c : Cartridge) (m : Mounted) → Mounts c m → m.label.location ≡ m.label.index
mounted_label c m h =
    let place : h.found.labels.ip.location ≡ h.found.labels.ip.index = h.found.forms.has.one_volume.places.in_index in
    subst (λ (l : Label). l.location ≡ l.index) (sym h.label) place

-- ---- what is done

-- the last of these indexes ends the items
record Last (items : List Item) (ks : List Construct) : Type 0 where
  k : Construct
  older : List Construct
  are : ks ≡ k ∷ older
  ends : EndsWith items k

last_of : (items : List Item) (ks : List Construct) → EndsWithLast items ks → Last items ks
last_of items [] h = absurd h
last_of items (k ∷ older) h = record { k = k; older = older; are = refl; ends = h }

-- a cartridge with which a close has nothing to do is consistent
pub done_consistent : (c : Cartridge) (f : Found c) → IsDpDone c f → IsIpDone c f → IsConsistent c
done_consistent c f h k =
    let dp = last_of c.dp (indexes_of c.dp) h.ends in
    let ip = last_of c.ip (indexes_of c.ip) k.ends in
    record {
      found = f;
      ip = ip.k;
      ip_older = ip.older;
      ip_is = ip.are;
      ip_ends = ip.ends;
      dp = dp.k;
      dp_older = dp.older;
      dp_is = dp.are;
      dp_ends = dp.ends;
      index = k.on_ip;
      on_ip = k.last;
      back = k.back ∙ ap (newest_spot f.labels.ip) dp.are;
    }

-- ---- the chosen index

record Right (label : Label) (x : Index) : Type 0 where
  valid : IsValid x
  uuid : x.uuid ≡ label.uuid

dp_right : (label : Label) (ks : List Construct) (x : Index) → IsLastOnDp label ks (Some x) → Right label x
dp_right label [] x h = absurd (let wrong : Some x ≡ None = h in cc)
dp_right label (k ∷ older) x h =
    let same : h.0 ≡ x = (let both : Some x ≡ Some h.0 = h.1 in cc) in
    subst (Right label) same (record { valid = index_valid (text_of k) h.0 h.2.text; uuid = h.2.uuid })

ip_right : (label : Label) (ks dps : List Construct) (on_dp : Option Index) (x : Index) → IsLastOnIp label ks dps on_dp (Some x) → Right label x
ip_right label [] dps on_dp x h = absurd (let wrong : Some x ≡ None = h in cc)
ip_right label (k ∷ older) dps on_dp x h =
    let same : h.0 ≡ x = (let both : Some x ≡ Some h.0 = h.1 in cc) in
    subst (Right label) same (record { valid = index_valid (text_of k) h.0 h.2.text; uuid = h.2.uuid })

chosen_right : (label : Label) (ips dps : List Construct) (on_ip on_dp : Option Index) (x : Index) → IsLastOnDp label dps on_dp
    → IsLastOnIp label ips dps on_dp on_ip → chosen on_ip on_dp ≡ Some x → Right label x
chosen_right label ips dps None on_dp x dp ip e = dp_right label dps x (subst (IsLastOnDp label dps) e dp)
chosen_right label ips dps (Some i) None x dp ip e = ip_right label ips dps None x (subst (IsLastOnIp label ips dps None) e ip)
chosen_right label ips dps (Some i) (Some d) x dp ip e = by (ltb d.generation i.generation) e
  where
    by : (b : Bool) → Some (cond b i d) ≡ Some x → Right label x
    by true e = ip_right label ips dps (Some d) x (subst (IsLastOnIp label ips dps (Some d)) e ip)
    by false e = dp_right label dps x (subst (IsLastOnDp label dps) e dp)

-- the index that is chosen is valid
pub found_valid : (c : Cartridge) (f : Found c) → IsValid f.index
found_valid c f = (chosen_right f.labels.ip (indexes_of c.ip) (indexes_of c.dp) f.on_ip f.on_dp f.index f.dp_last f.ip_last f.choice).valid

-- the index that is chosen is of the volume
pub found_uuid : (c : Cartridge) (f : Found c) → f.index.uuid ≡ f.labels.ip.uuid
found_uuid c f = (chosen_right f.labels.ip (indexes_of c.ip) (indexes_of c.dp) f.on_ip f.on_dp f.index f.dp_last f.ip_last f.choice).uuid
