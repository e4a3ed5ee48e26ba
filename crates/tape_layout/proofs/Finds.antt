-- Where the bytes stand that are held at a place: each partition's end only rises from op to op.
use Rattle.std.proofs.Common.{◌≡◌, ◌≢◌, ℕ, zero, suc, ◌+◌, ◌<◌, ◌≤◌, true, false, eqb, leb, List, [], ◌∷◌, length, get_or, Option, Some, None, slice_get, refl, sym, ap, subst, ◌∙◌, arith}
use Rattle.std.specs.List.Sorted.{IsPartitionedBy, IsPartitionPoint}
use Rattle.std.proofs.lemmas.Bool.{leb-true}
use Rattle.std.proofs.lemmas.Bool.Decides.{nat_tests}
use Rattle.std.proofs.lemmas.Option.{slice_get-get_or, slice_get_past}
use Rattle.tape_types.specs.declared.cartridges.Part.{Part}
use Rattle.tape_types.specs.declared.cartridges.Part.TheVariants.{Ip, Dp}
use Rattle.tape_types.specs.declared.cartridges.Place.{Place}
use Rattle.tape_layout.specs.declared.ops.Op.{Op}
use Rattle.tape_layout.specs.declared.ops.Op.TheVariants.{Put, Mark, Flush}
use Rattle.tape_layout.specs.declared.standing.Ends.{Ends}
use Rattle.tape_layout.specs.declared.standing.Standing.{Standing}
use Rattle.tape_layout.specs.Ops.{AreNext, after_op, counted, end_of, held_by, held_in, or_later, place_of, with_end}
use Rattle.tape_layout.proofs.Leads.{end_is}

-- ---- one op

behind_higher : (part p : Part) (n : ℕ) (e : Ends) → n ≡ end_of p e → end_of part e ≤ end_of part (with_end p (n + 1) e)
behind_higher Ip Ip n e is = omega arith
behind_higher Dp Dp n e is = omega arith
behind_higher Ip Dp n e is = omega arith
behind_higher Dp Ip n e is = omega arith

rises : (part : Part) (e : Ends) (op : Op) → (place_of op).pos ≡ end_of (place_of op).part e → end_of part e ≤ end_of part (after_op e op)
rises part e (Put place bytes) is = behind_higher part place.part place.pos e is
rises part e (Mark place) is = behind_higher part place.part place.pos e is
rises part e (Flush place) is = omega arith

held_not : (p q : Part) (m n : ℕ) (bytes : List ℕ) → (p ≡ q → m ≢ n) → held_by (record { part = q; pos = n }) (Put (record { part = p; pos = m }) bytes) ≡ None
held_not Ip Ip m n bytes other = let differ : m ≢ n = other refl in let test : eqb m n ≡ false = grind (arith, nat_tests) in rw test refl
held_not Dp Dp m n bytes other = let differ : m ≢ n = other refl in let test : eqb m n ≡ false = grind (arith, nat_tests) in rw test refl
held_not Ip Dp m n bytes other = refl
held_not Dp Ip m n bytes other = refl

-- an op behind which the partition doesn't reach past a place doesn't write there
done_before : (at : Place) (e : Ends) (op : Op) → end_of at.part (after_op e op) ≤ at.pos → held_by at op ≡ None
done_before at e (Put place bytes) le = held_not place.part at.part place.pos at.pos bytes (λ same pos.
    let past : end_of at.part (with_end place.part (place.pos + 1) e) ≡ place.pos + 1 = subst (λ p. end_of p (with_end place.part (place.pos + 1) e) ≡ place.pos + 1) same (end_is place.part (place.pos + 1) e) in
    omega arith)
done_before at e (Mark place) le = refl
done_before at e (Flush place) le = refl

-- nor does one behind an end that is past the place
begun_past : (at : Place) (e : Ends) (op : Op) → at.pos < end_of at.part e → (place_of op).pos ≡ end_of (place_of op).part e → held_by at op ≡ None
begun_past at e (Put place bytes) lt is = held_not place.part at.part place.pos at.pos bytes (λ same pos.
    let here : place.pos ≡ end_of at.part e = is ∙ ap (λ p. end_of p e) same in
    omega arith)
begun_past at e (Mark place) lt is = refl
begun_past at e (Flush place) lt is = refl

-- ---- all of them

none_past : (at : Place) (ops : List Op) (e : Ends) → AreNext e ops → at.pos < end_of at.part e → held_in at ops ≡ None
none_past at [] e h lt = refl
none_past at (op ∷ ops) e h lt =
    let rest = none_past at ops (after_op e op) h.1 (omega (arith, rises at.part e op h.0)) in
    rw (begun_past at e op lt h.0) rest

reach_higher : (part : Part) (ops : List Op) (e : Ends) (k : ℕ) (d : Standing) → AreNext e ops → k < length (counted e ops) → end_of part e ≤ end_of part (get_or (counted e ops) k d).ends
reach_higher part [] e k d h lt = absurd (omega arith)
reach_higher part (op ∷ ops) e zero d h lt = rises part e op h.0
reach_higher part (op ∷ ops) e (suc k) d h lt = omega (arith, rises part e op h.0, reach_higher part ops (after_op e op) k d h.1 (omega arith))

-- no op behind which the partition reaches past a place comes before one behind which it doesn't
parted : (at : Place) (ops : List Op) (e : Ends) → AreNext e ops → IsPartitionedBy (λ (s : Standing). leb (end_of at.part s.ends) at.pos) (counted e ops)
parted at [] e h i j d le lt does = absurd (omega arith)
parted at (op ∷ ops) e h zero zero d le lt does = does
parted at (op ∷ ops) e h zero (suc j) d le lt does =
    let low : end_of at.part (get_or (counted (after_op e op) ops) j d).ends ≤ at.pos = leb-true (end_of at.part (get_or (counted (after_op e op) ops) j d).ends) at.pos does in
    let less : end_of at.part (after_op e op) ≤ at.pos = omega (arith, reach_higher at.part ops (after_op e op) j d h.1 (omega arith)) in
    grind (arith, nat_tests)
parted at (op ∷ ops) e h (suc i) zero d le lt does = absurd (omega arith)
parted at (op ∷ ops) e h (suc i) (suc j) d le lt does = parted at ops (after_op e op) h.1 i j d (omega arith) (omega arith) does

abbrev IsPoint : Place → List Standing → ℕ → Type 0
IsPoint at items k = IsPartitionPoint (λ (s : Standing). leb (end_of at.part s.ends) at.pos ≡ true) (λ (s : Standing). leb (end_of at.part s.ends) at.pos ≡ false) items k

abbrev held_at : Place → Option Standing → Option (List ℕ)
held_at at None = None
held_at at (Some s) = held_by at s.op

no_later : (held : Option (List ℕ)) → or_later held None ≡ held
no_later None = refl
no_later (Some bytes) = refl

found : (at : Place) (ops : List Op) (e : Ends) (k : ℕ) → AreNext e ops → IsPoint at (counted e ops) k → held_in at ops ≡ held_at at (slice_get (counted e ops) k)
found at [] e k h p = refl
found at (op ∷ ops) e zero h p =
    let fails : leb (end_of at.part (after_op e op)) at.pos ≡ false = p.1 0 (record { op = op; ends = e }) (omega arith) (omega arith) in
    let past : at.pos < end_of at.part (after_op e op) = grind (arith, nat_tests) in
    rw (none_past at ops (after_op e op) h.1 past) (no_later (held_by at op))
found at (op ∷ ops) e (suc k) h p =
    let low : end_of at.part (after_op e op) ≤ at.pos = leb-true (end_of at.part (after_op e op)) at.pos (p.0 0 (record { op = op; ends = e }) (omega arith) (omega arith)) in
    rw (done_before at e op low) (found at ops (after_op e op) k h.1 (λ j d le lt. p.0 (suc j) d (omega arith) (omega arith), λ j d le lt. p.1 (suc j) d (omega arith) (omega arith)))

point_of : (at : Place) (ops : List Op) (e : Ends) (items : List Standing) (k : ℕ) → items ≡ counted e ops → AreNext e ops
    → (IsPartitionedBy (λ (s : Standing). leb (end_of at.part s.ends) at.pos) items → IsPoint at items k) → IsPoint at (counted e ops) k
point_of at ops e items k same h parts =
    subst (λ l. IsPoint at l k) same (parts (subst (λ l. IsPartitionedBy (λ (s : Standing). leb (end_of at.part s.ends) at.pos) l) (sym same) (parted at ops e h)))

-- the op found at a place holds the bytes that the list of ops holds there
pub found_some : (at : Place) (ops : List Op) (e : Ends) (items : List Standing) (k : ℕ) (s : Standing) (held : Option (List ℕ)) → items ≡ counted e ops → AreNext e ops
    → (IsPartitionedBy (λ (s : Standing). leb (end_of at.part s.ends) at.pos) items → IsPoint at items k) → k < length items → s ≡ get_or items k s → held ≡ held_by at s.op → held ≡ held_in at ops
found_some at ops e items k s held same h parts lt is holds =
    let item : slice_get (counted e ops) k ≡ Some s = ap (λ l. slice_get l k) (sym same) ∙ slice_get-get_or items k s lt ∙ ap Some (sym is) in
    holds ∙ sym (found at ops e k h (point_of at ops e items k same h parts) ∙ ap (held_at at) item)

-- where the search ends behind all ops, no op holds bytes at the place
pub found_none : (at : Place) (ops : List Op) (e : Ends) (items : List Standing) (k : ℕ) → items ≡ counted e ops → AreNext e ops
    → (IsPartitionedBy (λ (s : Standing). leb (end_of at.part s.ends) at.pos) items → IsPoint at items k) → length items ≤ k → None ≡ held_in at ops
found_none at ops e items k same h parts le =
    let item : slice_get (counted e ops) k ≡ None = ap (λ l. slice_get l k) (sym same) ∙ slice_get_past items k le in
    sym (found at ops e k h (point_of at ops e items k same h parts) ∙ ap (held_at at) item)
