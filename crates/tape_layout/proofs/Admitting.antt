-- What is admitted to a layout: data and indexes.
use Rattle.std.proofs.Common.{◌≡◌, ℕ, ◌+◌, ◌≤◌, Bool, List, [], ◌++◌, length, refl, sym, ap, subst, ◌∙◌, arith}
use Rattle.std.specs.Int.{div_ceil}
use Rattle.tape_types.specs.declared.cartridges.Part.{Part}
use Rattle.tape_types.specs.declared.cartridges.Place.{Place}
use Rattle.tape_types.specs.Cartridges.{capacity}
use Rattle.tape_layout.specs.declared.ops.Op.{Op}
use Rattle.tape_layout.specs.declared.standing.Ends.{Ends}
use Rattle.tape_layout.specs.Admissions.{data_limit, with_ops}
use Rattle.tape_layout.specs.Ops.{after_ops, construct, end_of, puts, with_end}
use Rattle.tape_layout.specs.Plans.{CanAdmit, CanBe, Drafted, Lead, Plan}
use Rattle.tape_layout.proofs.Leads.{can_end, data_leads, index_leads, lead_append}

-- ops are ready to be admitted, up to these ends
pub record IsReady (p : Plan) (to : Ends) (ops : List Op) : Type 0 where
  pub can : CanAdmit p ops
  pub ends_are : after_ops p.ends ops ≡ to

ready : (p : Plan) (to : Ends) (ops : List Op) → Lead p.limits p.block_size p.ends to ops → CanBe p.limits p.block_size to → IsReady p to ops
ready p to ops lead can = record {
  can = record {
    lead = subst (λ e. Lead p.limits p.block_size p.ends e ops) (sym lead.ends_are) lead;
    can_be = subst (CanBe p.limits p.block_size) (sym lead.ends_are) can;
  };
  ends_are = lead.ends_are;
}

-- the layout that is left
pub left_is : (p new : Plan) (ops those : List Op) (to : Ends) (due then : Bool) → new ≡ with_ops p ops (after_ops p.ends ops) due → IsReady p to ops → ops ≡ those → due ≡ then → new ≡ with_ops p those to then
left_is p new ops those to due then is h same due_is =
    is ∙ ap (λ e. with_ops p ops e due) h.ends_are ∙ ap (λ o. with_ops p o to due) same ∙ ap (with_ops p those to) due_is

-- what was asked and what there is, in the layout's own numbers
within : (p : Plan) (part : Part) (doc : List ℕ) (size pos more n limit there : ℕ) → size ≡ p.block_size → pos ≡ end_of part p.ends → n ≡ div_ceil (length doc) size → limit ≡ there → pos + more + n ≤ limit
    → end_of part p.ends + more + div_ceil (length doc) p.block_size ≤ there
within p part doc size pos more n limit there size_is pos_is n_is limit_is le =
    let count : n ≡ div_ceil (length doc) p.block_size = n_is ∙ ap (div_ceil (length doc)) size_is in omega arith

-- ---- data

low_limit : (cap : ℕ) → data_limit cap ≤ cap
low_limit cap = omega arith

pub data_ready : (p : Plan) (part : Part) (bytes : List ℕ) (ops : List Op) → CanBe p.limits p.block_size p.ends → end_of part p.ends + div_ceil (length bytes) p.block_size ≤ data_limit (capacity part p.limits)
    → ops ≡ puts p.block_size part (end_of part p.ends) bytes → IsReady p (with_end part (end_of part p.ends + div_ceil (length bytes) p.block_size) p.ends) ops
data_ready p part bytes ops can fits is =
    let below : end_of part p.ends + div_ceil (length bytes) p.block_size ≤ capacity part p.limits = omega (arith, low_limit (capacity part p.limits)) in
    subst (IsReady p (with_end part (end_of part p.ends + div_ceil (length bytes) p.block_size) p.ends)) (sym is)
    (ready p _ _ (data_leads p.limits p.block_size part p.ends (end_of part p.ends) bytes can.some refl below) (can_end p.limits p.block_size _ part p.ends can (omega arith) below))

pub data_drafted : (p : Plan) (size : ℕ) (part : Part) (place : Place) (bytes : List ℕ) (start : Ends) (old new : Drafted) → size ≡ p.block_size → place ≡ record { part = part; pos = end_of part p.ends }
    → old ≡ record { start = start; ops = [] } → new ≡ record { start = old.start; ops = old.ops ++ puts size place.part place.pos bytes }
    → new.ops ≡ puts p.block_size part (end_of part p.ends) bytes
data_drafted p size part place bytes start old new size_is place_is old_is new_is =
    ap (λ (d : Drafted). d.ops) new_is
    ∙ ap (λ (d : Drafted). d.ops ++ puts size place.part place.pos bytes) old_is
    ∙ ap (λ (at : Place). puts size at.part at.pos bytes) place_is
    ∙ ap (λ n. puts n part (end_of part p.ends) bytes) size_is

-- ---- an index

index_ready : (p : Plan) (part : Part) (doc : List ℕ) (first ops : List Op) → CanBe p.limits p.block_size p.ends → Lead p.limits p.block_size p.ends p.ends first
    → end_of part p.ends + 2 + div_ceil (length doc) p.block_size ≤ capacity part p.limits
    → ops ≡ first ++ construct p.block_size part (end_of part p.ends) doc → IsReady p (with_end part (end_of part p.ends + 2 + div_ceil (length doc) p.block_size) p.ends) ops
index_ready p part doc first ops can before fits is =
    subst (IsReady p (with_end part (end_of part p.ends + 2 + div_ceil (length doc) p.block_size) p.ends)) (sym is)
    (ready p _ _ (lead_append p.limits p.block_size p.ends p.ends _ first _ before (index_leads p.limits p.block_size part p.ends (end_of part p.ends) doc can.some refl fits)) (can_end p.limits p.block_size _ part p.ends can (omega arith) fits))

index_drafted : (p : Plan) (size : ℕ) (part : Part) (place : Place) (doc : List ℕ) (old new : Drafted) → size ≡ p.block_size → place ≡ record { part = part; pos = end_of part p.ends }
    → new ≡ record { start = old.start; ops = old.ops ++ construct size place.part place.pos doc }
    → new.ops ≡ old.ops ++ construct p.block_size part (end_of part p.ends) doc
index_drafted p size part place doc old new size_is place_is new_is =
    ap (λ (d : Drafted). d.ops) new_is
    ∙ ap (λ (at : Place). old.ops ++ construct size at.part at.pos doc) place_is
    ∙ ap (λ n. old.ops ++ construct n part (end_of part p.ends) doc) size_is

-- ---- what the code has found by the time it admits

-- bytes were admitted to a partition: they fit, and their ops are the puts of their blocks
pub record HasData (p : Plan) (part : Part) (bytes : List ℕ) (ops : List Op) : Type 0 where
  pub fits : end_of part p.ends + div_ceil (length bytes) p.block_size ≤ data_limit (capacity part p.limits)
  pub is_ready : IsReady p (with_end part (end_of part p.ends + div_ceil (length bytes) p.block_size) p.ends) ops
  pub same : ops ≡ puts p.block_size part (end_of part p.ends) bytes

-- where bytes fit below the limit of data, the plan that grew by their puts has them
pub has_data : (p view : Plan) (part : Part) (bytes : List ℕ) (n cap limit : ℕ) (place : Place) (start : Ends) (old new : Drafted)
    → view ≡ p → CanBe view.limits view.block_size view.ends → place ≡ record { part = part; pos = end_of part p.ends }
    → n ≡ div_ceil (length bytes) view.block_size → cap ≡ capacity part p.limits → limit ≡ data_limit cap → place.pos + n ≤ limit
    → old ≡ record { start = start; ops = [] } → new ≡ record { start = old.start; ops = old.ops ++ puts view.block_size place.part place.pos bytes }
    → HasData p part bytes new.ops
has_data p view part bytes n cap limit place start old new view_is can place_is n_is cap_is limit_is le old_is new_is = record {
  fits = fit;
  is_ready = data_ready p part bytes new.ops (subst (λ (q : Plan). CanBe q.limits q.block_size q.ends) view_is can) fit drafted;
  same = drafted;
}
  where
    size_is : view.block_size ≡ p.block_size
    size_is = ap (λ (q : Plan). q.block_size) view_is

    fit : end_of part p.ends + div_ceil (length bytes) p.block_size ≤ data_limit (capacity part p.limits)
    fit =
        let h : end_of part p.ends + 0 + div_ceil (length bytes) p.block_size ≤ data_limit (capacity part p.limits) =
        within p part bytes view.block_size place.pos 0 n limit (data_limit (capacity part p.limits)) size_is (ap (λ (at : Place). at.pos) place_is) n_is (limit_is ∙ ap data_limit cap_is) (omega arith) in
        omega arith

    drafted : new.ops ≡ puts p.block_size part (end_of part p.ends) bytes
    drafted = data_drafted p view.block_size part place bytes start old new size_is place_is old_is new_is

-- an index was admitted to a partition: it fits, and its ops are those of its construct
pub record HasIndex (p : Plan) (part : Part) (doc : List ℕ) (first ops : List Op) : Type 0 where
  pub fits : end_of part p.ends + 2 + div_ceil (length doc) p.block_size ≤ capacity part p.limits
  pub is_ready : IsReady p (with_end part (end_of part p.ends + 2 + div_ceil (length doc) p.block_size) p.ends) ops
  pub same : ops ≡ first ++ construct p.block_size part (end_of part p.ends) doc

-- where an index fits, the plan that grew by its construct has it
pub has_index : (p view : Plan) (part : Part) (doc : List ℕ) (n cap : ℕ) (place : Place) (old new : Drafted)
    → view ≡ p → CanBe view.limits view.block_size view.ends → place ≡ record { part = part; pos = end_of part p.ends }
    → n ≡ div_ceil (length doc) view.block_size → cap ≡ capacity part p.limits → place.pos + 2 + n ≤ cap
    → Lead p.limits p.block_size p.ends p.ends old.ops → new ≡ record { start = old.start; ops = old.ops ++ construct view.block_size place.part place.pos doc }
    → HasIndex p part doc old.ops new.ops
has_index p view part doc n cap place old new view_is can place_is n_is cap_is le before new_is = record {
  fits = fit;
  is_ready = index_ready p part doc old.ops new.ops (subst (λ (q : Plan). CanBe q.limits q.block_size q.ends) view_is can) before fit drafted;
  same = drafted;
}
  where
    size_is : view.block_size ≡ p.block_size
    size_is = ap (λ (q : Plan). q.block_size) view_is

    fit : end_of part p.ends + 2 + div_ceil (length doc) p.block_size ≤ capacity part p.limits
    fit = within p part doc view.block_size place.pos 2 n cap (capacity part p.limits) size_is (ap (λ (at : Place). at.pos) place_is) n_is cap_is le

    drafted : new.ops ≡ old.ops ++ construct p.block_size part (end_of part p.ends) doc
    drafted = index_drafted p view.block_size part place doc old new size_is place_is new_is
