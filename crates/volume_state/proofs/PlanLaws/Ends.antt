-- How the ends of both partitions go on with their items.
use Rattle.std.proofs.Common.{◌≡◌, ℕ, ◌+◌, ◌≤◌, List, [], ◌∷◌, ◌++◌, length, refl, sym, ap, subst, ◌∙◌, arith, append_assoc, append-nil, length-append}
use Rattle.tape_types.specs.declared.cartridges.Item.{Item}
use Rattle.tape_types.specs.declared.cartridges.Item.TheVariants as item
use Rattle.tape_types.specs.declared.cartridges.Part.{Part}
use Rattle.tape_types.specs.declared.cartridges.Part.TheVariants.{Ip, Dp}
use Rattle.tape_layout.specs.declared.ops.Op.{Op}
use Rattle.tape_layout.specs.declared.ops.Op.TheVariants.{Put, Mark, Flush}
use Rattle.tape_layout.specs.declared.standing.Ends.{Ends}
use Rattle.tape_layout.specs.Ops.{AreNext, after_op, after_ops, end_of, place_of, with_end}
use Rattle.promises.specs.CrashLaws.Safe.{item_on, items_by, put_by}
use Rattle.volume_state.specs.PlanLaws.Planned.{Items, ends_in, with_ops}

-- ---- items

-- one op does its item behind these
abbrev pub with_op : Op → Items → Items
with_op op made part = made part ++ put_by part op

-- the items of two lists of ops are those of the first and then of the second
pub ops_append : (part : Part) (xs ys : List Op) → items_by part (xs ++ ys) ≡ items_by part xs ++ items_by part ys
ops_append part [] ys = refl
ops_append part (op ∷ xs) ys = ap (λ (l : List Item). put_by part op ++ l) (ops_append part xs ys)
    ∙ sym (append_assoc (put_by part op) (items_by part xs) (items_by part ys))

-- what a list of ops does is what its first does and then the others
pub one_by_one : (part : Part) (op : Op) (ops : List Op) (made : Items)
    → with_ops (op ∷ ops) made part ≡ with_ops ops (with_op op made) part
one_by_one part op ops made = sym (append_assoc (made part) (put_by part op) (items_by part ops))

-- ---- ends

ends_are : (a b c d : ℕ) → a ≡ c → b ≡ d → ◌≡◌ {A = Ends} (record { ip = a; dp = b }) (record { ip = c; dp = d })
ends_are a b c d one other i = record { ip = one i; dp = other i }

-- items that are alike have the same ends
pub ends_alike : (one other : Items) → ((part : Part) → one part ≡ other part) → ends_in one ≡ ends_in other
ends_alike one other same =
    ends_are (length (one Ip)) (length (one Dp)) (length (other Ip)) (length (other Dp)) (ap long (same Ip))
    (ap long (same Dp))
  where
    long : List Item → ℕ
    long l = length l

-- the end of a partition is the count of its items
pub end_is : (part : Part) (items : Items) → end_of part (ends_in items) ≡ length (items part)
end_is Ip items = refl
end_is Dp items = refl

longer : (l : List Item) (x : Item) (n : ℕ) → n ≡ length l → length (l ++ x ∷ []) ≡ n + 1
longer l x n is = length-append l (x ∷ []) ∙ omega (arith, is)

as_long : (l : List Item) → length (l ++ []) ≡ length l
as_long l = ap (λ (m : List Item). length m) (append-nil l)

-- nothing more
none_ends : (made : Items) → ends_in (λ part. made part ++ []) ≡ ends_in made
none_ends made = ends_alike (λ part. made part ++ []) made (λ part. append-nil (made part))

put_ends : (on : Part) (pos : ℕ) (x : Item) (made : Items) → pos ≡ end_of on (ends_in made)
    → ends_in (λ part. made part ++ item_on part on x) ≡ with_end on (pos + 1) (ends_in made)
put_ends Ip pos x made is =
    ends_are (length (made Ip ++ x ∷ [])) (length (made Dp ++ [])) (pos + 1) (length (made Dp))
    (longer (made Ip) x pos is) (as_long (made Dp))
put_ends Dp pos x made is =
    ends_are (length (made Ip ++ [])) (length (made Dp ++ x ∷ [])) (length (made Ip)) (pos + 1) (as_long (made Ip))
    (longer (made Dp) x pos is)

op_ends : (op : Op) (made : Items) → (place_of op).pos ≡ end_of (place_of op).part (ends_in made)
    → ends_in (with_op op made) ≡ after_op (ends_in made) op
op_ends (Put place bytes) made is = put_ends place.part place.pos (item.Block bytes) made is
op_ends (Mark place) made is = put_ends place.part place.pos item.Mark made is
op_ends (Flush place) made is = none_ends made

-- the rest of the ops come next behind the first one's item
pub rest_next : (op : Op) (ops : List Op) (made : Items) → AreNext (ends_in made) (op ∷ ops)
    → AreNext (ends_in (with_op op made)) ops
rest_next op ops made next = subst (λ (e : Ends). AreNext e ops) (sym (op_ends op made next.0)) next.1

-- the ends after ops are those behind the items that they put
pub ops_end : (ops : List Op) (made : Items) → AreNext (ends_in made) ops
    → ends_in (with_ops ops made) ≡ after_ops (ends_in made) ops
ops_end [] made next = none_ends made
ops_end (op ∷ ops) made next =
    ends_alike (with_ops (op ∷ ops) made) (with_ops ops (with_op op made)) (λ part. one_by_one part op ops made)
    ∙ ops_end ops (with_op op made) (rest_next op ops made next)
    ∙ ap (λ (e : Ends). after_ops e ops) (op_ends op made next.0)

-- ---- ops one after the other

-- ops that come next, and more that come next behind them, come next together
pub next_append : (e : Ends) (xs ys : List Op) → AreNext e xs → AreNext (after_ops e xs) ys → AreNext e (xs ++ ys)
next_append e [] ys one other = other
next_append e (x ∷ xs) ys one other = (one.0, next_append (after_op e x) xs ys one.1 other)

higher : (part on : Part) (n : ℕ) (e : Ends) → n ≡ end_of on e → end_of part e ≤ end_of part (with_end on (n + 1) e)
higher Ip Ip n e is = omega (arith, is)
higher Dp Dp n e is = omega (arith, is)
higher Ip Dp n e is = omega arith
higher Dp Ip n e is = omega arith

-- an end goes no further back
pub rises : (part : Part) (e : Ends) (op : Op) → (place_of op).pos ≡ end_of (place_of op).part e
    → end_of part e ≤ end_of part (after_op e op)
rises part e (Put place bytes) is = higher part place.part place.pos e is
rises part e (Mark place) is = higher part place.part place.pos e is
rises part e (Flush place) is = omega arith
