-- Ops that lead from some ends to others.
use Rattle.std.proofs.Common.{◌≡◌, ℕ, zero, suc, ◌+◌, ◌-◌, ◌*◌, ◌<◌, ◌≤◌, min, Bool, List, [], ◌∷◌, ◌++◌, map, take, drop, length, refl, sym, ap, subst, ◌∙◌, arith}
use Rattle.std.specs.Int.{div_ceil}
use Rattle.std.specs.List.{range_with_len, All}
use Rattle.std.proofs.lemmas.List.{length-take, length-drop, map-append}
use Rattle.std.proofs.lemmas.List.Elements.{All-append}
use Rattle.std.proofs.lemmas.List.FromFn.{length-map-range_with_len, get_or-map-range_with_len}
use Rattle.tape_layout.specs.IndexConstruct.Blocks.{block_at}
use Rattle.tape_layout.proofs.IndexConstruct.Cuts.{is_few}
use Rattle.tape_types.specs.declared.cartridges.Part.{Part}
use Rattle.tape_types.specs.declared.cartridges.Part.TheVariants.{Ip, Dp}
use Rattle.tape_types.specs.declared.cartridges.Limits.{Limits}
use Rattle.tape_types.specs.Cartridges.{capacity}
use Rattle.tape_layout.specs.declared.ops.Op.{Op}
use Rattle.tape_layout.specs.declared.ops.Op.TheVariants.{Put, Mark, Flush}
use Rattle.tape_layout.specs.declared.standing.Ends.{Ends}
use Rattle.tape_layout.specs.declared.standing.Standing.{Standing}
use Rattle.tape_layout.specs.Ops.{AreNext, HasRoom, after_op, after_ops, construct, counted, end_of, puts, with_end}
use Rattle.tape_layout.specs.Plans.{AreKept, CanBe, Lead, Plan, Drafted, IsDraft}
use Rattle.std.proofs.Math.Nat.{mul-le-mul_right}
use Rattle.tape_layout.proofs.Lists.{after_append, counted_append}

-- ---- ends

-- the end that was set on a partition is its end
pub end_is : (part : Part) (n : ℕ) (e : Ends) → end_of part (with_end part n e) ≡ n
end_is Ip n e = refl
end_is Dp n e = refl

-- ends whose end on a partition is set to what it was stay as they were
pub end_same : (part : Part) (n : ℕ) (e : Ends) → end_of part e ≡ n → e ≡ with_end part n e
end_same Ip n e is = ap (λ k. record { ip = k; dp = e.dp }) is
end_same Dp n e is = ap (λ k. record { ip = e.ip; dp = k }) is

end_twice : (part : Part) (n m : ℕ) (e : Ends) → with_end part n (with_end part m e) ≡ with_end part n e
end_twice Ip n m e = refl
end_twice Dp n m e = refl

-- an end that is later, and within the capacity, can be one too
pub can_end : (limits : Limits) (size n : ℕ) (part : Part) (e : Ends) → CanBe limits size e → end_of part e ≤ n → n ≤ capacity part limits → CanBe limits size (with_end part n e)
can_end limits size n Ip e h low high = record { limits_are = h.limits_are; some = h.some; most = h.most; ip = record { low = omega (arith, h.ip.low); high = high }; dp = h.dp }
can_end limits size n Dp e h low high = record { limits_are = h.limits_are; some = h.some; most = h.most; ip = h.ip; dp = record { low = omega (arith, h.dp.low); high = high } }

-- ---- lists

next_append : (e : Ends) (xs ys : List Op) → AreNext e xs → AreNext (after_ops e xs) ys → AreNext e (xs ++ ys)
next_append e [] ys h k = k
next_append e (x ∷ xs) ys h k = (h.0, next_append (after_op e x) xs ys h.1 k)

-- ops that lead from ends to others, and more that lead on, lead all the way
pub lead_append : (limits : Limits) (size : ℕ) (from mid to : Ends) (xs ys : List Op) → Lead limits size from mid xs → Lead limits size mid to ys → Lead limits size from to (xs ++ ys)
lead_append limits size from mid to xs ys h k = record {
  next = next_append from xs ys h.next (subst (λ e. AreNext e ys) (sym h.ends_are) k.next);
  ends_are = after_append from xs ys ∙ ap (λ e. after_ops e ys) h.ends_are ∙ k.ends_are;
  room = All-append (HasRoom limits size) xs ys h.room k.room;
}

-- ---- a run of blocks

block_fits : (size k : ℕ) (doc : List ℕ) → 1 ≤ size → k < div_ceil (length doc) size → (1 ≤ length (block_at size doc k)) × (length (block_at size doc k) ≤ size)
block_fits size k doc some lt =
    let few : (k + 1) * size < length doc + size = at_most (div_ceil (length doc) size) (is_few size (length doc) some) lt in
    let long : length (take size (drop (k * size) doc)) ≡ min size (length doc - k * size) = length-take size (drop (k * size) doc) ∙ ap (min size) (length-drop (k * size) doc) in
    (omega arith, omega arith)
  where
    at_most : (q : ℕ) → q * size < length doc + size → k < q → (k + 1) * size < length doc + size
    at_most q few below = let more : (k + 1) * size ≤ q * size = mul-le-mul_right size (omega arith) in omega arith

run_next : (f : ℕ → List ℕ) (part : Part) (pos a n : ℕ) (e : Ends) → end_of part e ≡ pos + a → AreNext e (map (λ k. Put (record { part = part; pos = pos + k }) (f k)) (range_with_len a n))
run_next f part pos a zero e is = tt
run_next f part pos a (suc n) e is = (sym is, run_next f part pos (a + 1) n (with_end part (pos + a + 1) e) (end_is part (pos + a + 1) e ∙ omega arith))

run_ends : (f : ℕ → List ℕ) (part : Part) (pos a n : ℕ) (e : Ends) → end_of part e ≡ pos + a → after_ops e (map (λ k. Put (record { part = part; pos = pos + k }) (f k)) (range_with_len a n)) ≡ with_end part (pos + a + n) e
run_ends f part pos a zero e is = end_same part (pos + a + 0) e (is ∙ omega arith)
run_ends f part pos a (suc n) e is =
    run_ends f part pos (a + 1) n (with_end part (pos + a + 1) e) (end_is part (pos + a + 1) e ∙ omega arith)
    ∙ end_twice part (pos + (a + 1) + n) (pos + a + 1) e
    ∙ (let same : pos + (a + 1) + n ≡ pos + a + suc n = omega arith in ap (λ m. with_end part m e) same)

pub data_leads : (limits : Limits) (size : ℕ) (part : Part) (e : Ends) (pos : ℕ) (doc : List ℕ) → 1 ≤ size → end_of part e ≡ pos → pos + div_ceil (length doc) size ≤ capacity part limits
    → Lead limits size e (with_end part (pos + div_ceil (length doc) size) e) (puts size part pos doc)
data_leads limits size part e pos doc some is fits = record {
  next = run_next (block_at size doc) part pos 0 count e (is ∙ omega arith);
  ends_are = run_ends (block_at size doc) part pos 0 count e (is ∙ omega arith) ∙ (let same : pos + 0 + count ≡ pos + count = omega arith in ap (λ m. with_end part m e) same);
  room = λ k d lt.
      let low : k < count = subst (λ m. k < m) (length-map-range_with_len put 0 count) lt in
      subst (HasRoom limits size) (sym (get_or-map-range_with_len put 0 count k k d low (let same : 0 + k ≡ k = omega arith in same)))
      (let within : pos + k < capacity part limits = omega arith in let block = block_fits size k doc some low in (within, block.0, block.1));
}
  where
    count : ℕ
    count = div_ceil (length doc) size

    put : ℕ → Op
    put k = Put (record { part = part; pos = pos + k }) (block_at size doc k)

-- ---- an index

all_one : {X : Type 0} (P : X → Type 0) (x : X) → P x → All P (x ∷ [])
all_one P x h zero d lt = h
all_one P x h (suc k) d lt = absurd (omega arith)

mark_leads : (limits : Limits) (size pos : ℕ) (part : Part) (e : Ends) → end_of part e ≡ pos → pos < capacity part limits → Lead limits size e (with_end part (pos + 1) e) (Mark (record { part = part; pos = pos }) ∷ [])
mark_leads limits size pos part e is lt = record { next = (sym is, tt); ends_are = refl; room = all_one (HasRoom limits size) (Mark (record { part = part; pos = pos })) lt }

-- a flush at the end of a partition leads nowhere else
pub flush_leads : (limits : Limits) (size pos : ℕ) (part : Part) (e : Ends) → end_of part e ≡ pos → pos ≤ capacity part limits → Lead limits size e e (Flush (record { part = part; pos = pos }) ∷ [])
flush_leads limits size pos part e is le = record { next = (sym is, tt); ends_are = refl; room = all_one (HasRoom limits size) (Flush (record { part = part; pos = pos })) le }

-- the ops of an index lead to the end behind its blocks and two marks
pub index_leads : (limits : Limits) (size : ℕ) (part : Part) (e : Ends) (pos : ℕ) (doc : List ℕ) → 1 ≤ size → end_of part e ≡ pos → pos + 2 + div_ceil (length doc) size ≤ capacity part limits
    → Lead limits size e (with_end part (pos + 2 + div_ceil (length doc) size) e) (construct size part pos doc)
index_leads limits size part e pos doc some is fits =
    subst (λ to. Lead limits size e to (construct size part pos doc)) last
    (lead_append limits size e behind behind _ _ (lead_append limits size e full behind _ _ (lead_append limits size e marked full _ _ first blocks) second) flush)
  where
    count : ℕ
    count = div_ceil (length doc) size

    marked : Ends
    marked = with_end part (pos + 1) e

    full : Ends
    full = with_end part (pos + 1 + count) marked

    behind : Ends
    behind = with_end part (pos + 1 + count + 1) full

    first : Lead limits size e marked (Mark (record { part = part; pos = pos }) ∷ [])
    first = mark_leads limits size pos part e is (omega arith)

    blocks : Lead limits size marked full (puts size part (pos + 1) doc)
    blocks = data_leads limits size part marked (pos + 1) doc some (end_is part (pos + 1) e) (omega arith)

    second : Lead limits size full behind (Mark (record { part = part; pos = pos + 1 + count }) ∷ [])
    second = mark_leads limits size (pos + 1 + count) part full (end_is part (pos + 1 + count) marked) (omega arith)

    flush : Lead limits size behind behind (Flush (record { part = part; pos = pos + 2 + count }) ∷ [])
    flush = flush_leads limits size (pos + 2 + count) part behind (end_is part (pos + 1 + count + 1) full ∙ omega arith) (omega arith)

    last : behind ≡ with_end part (pos + 2 + count) e
    last = end_twice part (pos + 1 + count + 1) (pos + 1 + count) marked ∙ end_twice part (pos + 1 + count + 1) (pos + 1) e ∙ (let same : pos + 1 + count + 1 ≡ pos + 2 + count = omega arith in ap (λ m. with_end part m e) same)

-- ---- what is kept

-- where no op stands, what stands is rightly kept
pub none_kept : (limits : Limits) (size : ℕ) (ends : Ends) (items : List Standing) → CanBe limits size ends → items ≡ [] → AreKept limits size ends items
none_kept limits size ends items can none = subst (AreKept limits size ends) (sym none) record {
  standing = record { from = ends; lead = record { next = tt; ends_are = refl; room = λ k d lt. absurd (omega arith) }; can_be = can };
  kept = refl;
}

more_kept : (limits : Limits) (size : ℕ) (ends to : Ends) (items more news : List Standing) → AreKept limits size ends items
    → Lead limits size ends to (map (λ (s : Standing). s.op) more) → CanBe limits size to → more ≡ counted ends (map (λ (s : Standing). s.op) more) → news ≡ items ++ more → AreKept limits size to news
more_kept limits size ends to items more news h lead can kept is = subst (AreKept limits size to) (sym is) record {
  standing = record {
    from = h.standing.from;
    lead = subst (Lead limits size h.standing.from to) (sym all) (lead_append limits size h.standing.from ends to (map (λ (s : Standing). s.op) items) (map (λ (s : Standing). s.op) more) h.standing.lead lead);
    can_be = can;
  };
  kept =
      ap (λ l. l ++ more) h.kept
      ∙ ap (λ l. counted h.standing.from (map (λ (s : Standing). s.op) items) ++ l) (kept ∙ ap (λ e. counted e (map (λ (s : Standing). s.op) more)) (sym h.standing.lead.ends_are))
      ∙ sym (counted_append h.standing.from (map (λ (s : Standing). s.op) items) (map (λ (s : Standing). s.op) more))
      ∙ ap (counted h.standing.from) (sym all);
}
  where
    all : map (λ (s : Standing). s.op) (items ++ more) ≡ map (λ (s : Standing). s.op) items ++ map (λ (s : Standing). s.op) more
    all = map-append (λ (s : Standing). s.op) items more

-- once the first op is gone, the others are rightly kept
pub less_kept : (limits : Limits) (size : ℕ) (ends : Ends) (items : List Standing) → AreKept limits size ends items → AreKept limits size ends (drop 1 items)
less_kept limits size ends [] h = h
less_kept limits size ends (s ∷ items) h = record {
  standing = record {
    from = after_op h.standing.from s.op;
    lead = record { next = h.standing.lead.next.1; ends_are = h.standing.lead.ends_are; room = λ k d lt. h.standing.lead.room (suc k) d (omega arith) };
    can_be = h.standing.can_be;
  };
  kept = ap (drop 1) h.kept;
}

-- a draft that is admitted to a layout
pub admitted : (p : Plan) (d : Drafted) (limits : Limits) (size : ℕ) (ends : Ends) (due on : Bool) (start to : Ends) (items more news : List Standing)
    → record { limits = limits; block_size = size; ends = ends; ops = map (λ (s : Standing). s.op) items; flush_due = due; ip_on = on } ≡ p
    → record { start = start; ops = map (λ (s : Standing). s.op) more } ≡ d
    → AreKept limits size ends items → IsDraft (record { start = start; ops = map (λ (s : Standing). s.op) more }) to more
    → d.start ≡ p.ends → Lead p.limits p.block_size p.ends (after_ops p.ends d.ops) d.ops → CanBe p.limits p.block_size (after_ops p.ends d.ops) → news ≡ items ++ more
    → AreKept limits size to news
admitted p d limits size ends due on start to items more news same_p same_d kept draft start_is lead can is =
    more_kept limits size ends to items more news kept
    (subst (λ t. Lead limits size ends t ops) to_is (subst (λ (x : Drafted). Lead limits size ends (after_ops ends x.ops) x.ops) (sym same_d) lead_here))
    (subst (CanBe limits size) to_is (subst (λ (x : Drafted). CanBe limits size (after_ops ends x.ops)) (sym same_d) can_here))
    (draft.kept ∙ ap (λ e. counted e ops) begins) is
  where
    ops : List Op
    ops = map (λ (s : Standing). s.op) more

    begins : start ≡ ends
    begins = ap (λ (x : Drafted). x.start) same_d ∙ start_is ∙ ap (λ (q : Plan). q.ends) (sym same_p)

    to_is : after_ops ends ops ≡ to
    to_is = ap (λ e. after_ops e ops) (sym begins) ∙ sym draft.ends_are

    lead_here : Lead limits size ends (after_ops ends d.ops) d.ops
    lead_here = subst (λ (q : Plan). Lead q.limits q.block_size q.ends (after_ops q.ends d.ops) d.ops) (sym same_p) lead

    can_here : CanBe limits size (after_ops ends d.ops)
    can_here = subst (λ (q : Plan). CanBe q.limits q.block_size (after_ops q.ends d.ops)) (sym same_p) can
