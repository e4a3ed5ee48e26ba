-- The newest index is chosen, and points to the place where it stands.
use Rattle.std.proofs.Common.{◌≡◌, ◌+◌, ◌≤◌, ◌<◌, Bool, true, false, cond, ltb, List, [], ◌∷◌, Option, Some, None, refl, sym, ap, subst, ◌∙◌, arith}
use Rattle.std.specs.Prelude.{IfSome}
use Rattle.std.specs.Option.{option_map}
use Rattle.std.proofs.lemmas.Bool.Decides.{nat_tests}
use Rattle.tape_types.specs.declared.cartridges.Cartridge.{Cartridge}
use Rattle.tape_types.specs.declared.cartridges.Part.TheVariants.{Ip, Dp}
use Rattle.tape_types.specs.declared.cartridges.Place.{Place}
use Rattle.index_model.specs.declared.indexes.Index.{Index}
use Rattle.index_model.specs.declared.indexes.Spot.{Spot}
use Rattle.ltfs_label.specs.declared.Label.{Label}
use Rattle.content_laws.specs.Readings.{Construct}
use Rattle.cartridge_meaning.specs.Mounts.{chosen_place, last_place}
use Rattle.cartridge_meaning.specs.Pointers.{IsLastOnDp, IsLastOnIp, chosen, indexes_of, last_block, letter_of}

-- of two indexes the one or the other
record Picked (b : Bool) (i d x : Index) : Type 0 where
  ip : i.generation ≤ x.generation
  dp : d.generation ≤ x.generation
  tie : d.generation ≡ x.generation → x ≡ d

picked : (i d x : Index) (b : Bool) → ltb d.generation i.generation ≡ b → Some (cond b i d) ≡ Some x → Picked b i d x
picked i d x true lt e =
    let same : i ≡ x = cc in
    let generation : i.generation ≡ x.generation = ap (λ (y : Index). y.generation) same in
    let less : d.generation < i.generation = grind (arith, nat_tests) in
    record { ip = omega (arith, generation); dp = omega (arith, generation, less); tie = λ t. absurd (omega (arith, generation, less, t)) }
picked i d x false lt e =
    let same : d ≡ x = cc in
    let generation : d.generation ≡ x.generation = ap (λ (y : Index). y.generation) same in
    let less : i.generation ≤ d.generation = grind (arith, nat_tests) in
    record { ip = omega (arith, generation, less); dp = omega (arith, generation); tie = λ t. sym same }

-- the chosen index has no lower generation than the index partition's last
pub newest_ip : (on_ip on_dp : Option Index) (x : Index) → chosen on_ip on_dp ≡ Some x → IfSome on_ip (λ i. i.generation ≤ x.generation)
newest_ip None on_dp x e = tt
newest_ip (Some i) None x e = let same : i ≡ x = cc in omega (arith, ap (λ (y : Index). y.generation) same)
newest_ip (Some i) (Some d) x e = (picked i d x (ltb d.generation i.generation) refl e).ip

-- the chosen index has no lower generation than the data partition's last
pub newest_dp : (on_ip on_dp : Option Index) (x : Index) → chosen on_ip on_dp ≡ Some x → IfSome on_dp (λ d. d.generation ≤ x.generation)
newest_dp None None x e = tt
newest_dp None (Some d) x e = let same : d ≡ x = cc in omega (arith, ap (λ (y : Index). y.generation) same)
newest_dp (Some i) None x e = tt
newest_dp (Some i) (Some d) x e = (picked i d x (ltb d.generation i.generation) refl e).dp

-- of two last indexes of one generation the data partition's is chosen
pub tie_is_dp : (on_ip on_dp : Option Index) (x d : Index) → chosen on_ip on_dp ≡ Some x → on_dp ≡ Some d → d.generation ≡ x.generation → x ≡ d
tie_is_dp None on_dp x d e is t = let both : Some x ≡ Some d = sym e ∙ is in cc
tie_is_dp (Some i) None x d e is t = absurd (let wrong : None ≡ Some d = is in cc)
tie_is_dp (Some i) (Some k) x d e is t =
    let same : k ≡ d = cc in
    (picked i k x (ltb k.generation i.generation) refl e).tie (ap (λ (y : Index). y.generation) same ∙ t) ∙ same

-- ---- where it stands

-- a place, as a pointer names it
abbrev spot_at : Label → Place → Spot
spot_at label place = record { letter = letter_of label place.part; block = place.pos }

on_dp_stands : (label : Label) (dps : List Construct) (x : Index) (place : Place) → IsLastOnDp label dps (Some x)
    → option_map (λ pos. record { part = Dp; pos = pos }) (last_block dps) ≡ Some place → x.here ≡ spot_at label place
on_dp_stands label [] x place h e = absurd (let wrong : Some x ≡ None = h in cc)
on_dp_stands label (k ∷ older) x place h e =
    let same : x ≡ h.0 = (let both : Some x ≡ Some h.0 = h.1 in cc) in
    let there : ◌≡◌ {A = Place} (record { part = Dp; pos = k.mark + 1 }) place = cc in
    ap (λ (y : Index). y.here) same ∙ h.3.here ∙ ap (spot_at label) there

on_ip_stands : (label : Label) (ips dps : List Construct) (on_dp : Option Index) (x : Index) (place : Place) → IsLastOnIp label ips dps on_dp (Some x)
    → option_map (λ pos. record { part = Ip; pos = pos }) (last_block ips) ≡ Some place → x.here ≡ spot_at label place
on_ip_stands label [] dps on_dp x place h e = absurd (let wrong : Some x ≡ None = h in cc)
on_ip_stands label (k ∷ older) dps on_dp x place h e =
    let same : x ≡ h.0 = (let both : Some x ≡ Some h.0 = h.1 in cc) in
    let there : ◌≡◌ {A = Place} (record { part = Ip; pos = k.mark + 1 }) place = cc in
    ap (λ (y : Index). y.here) same ∙ h.3.here ∙ ap (spot_at label) there

-- the chosen index says that it stands where it stands
pub stands_there : (c : Cartridge) (label : Label) (on_ip on_dp : Option Index) (x : Index) (place : Place)
    → IsLastOnDp label (indexes_of c.dp) on_dp → IsLastOnIp label (indexes_of c.ip) (indexes_of c.dp) on_dp on_ip
    → chosen on_ip on_dp ≡ Some x → chosen_place on_ip on_dp c ≡ Some place → x.here ≡ spot_at label place
stands_there c label None on_dp x place dp ip e f =
    on_dp_stands label (indexes_of c.dp) x place (subst (IsLastOnDp label (indexes_of c.dp)) e dp) f
stands_there c label (Some i) None x place dp ip e f =
    on_ip_stands label (indexes_of c.ip) (indexes_of c.dp) None x place (subst (IsLastOnIp label (indexes_of c.ip) (indexes_of c.dp) None) e ip) f
stands_there c label (Some i) (Some d) x place dp ip e f = by (ltb d.generation i.generation) e f
  where
    by : (b : Bool) → Some (cond b i d) ≡ Some x → cond b (last_place Ip c) (last_place Dp c) ≡ Some place → x.here ≡ spot_at label place
    by true e f = on_ip_stands label (indexes_of c.ip) (indexes_of c.dp) (Some d) x place (subst (IsLastOnIp label (indexes_of c.ip) (indexes_of c.dp) (Some d)) e ip) f
    by false e f = on_dp_stands label (indexes_of c.dp) x place (subst (IsLastOnDp label (indexes_of c.dp)) e dp) f
