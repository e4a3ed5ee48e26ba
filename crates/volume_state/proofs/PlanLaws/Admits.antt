-- The ops that a space admits come next, and leave its ends.
use Rattle.std.proofs.Common.{◌≡◌, ℕ, zero, suc, ◌+◌, ◌∙◌, Bool, true, false, List, [], ◌∷◌, ◌++◌, length, map, refl, sym, ap, subst, arith}
use Rattle.std.specs.Int.{div_ceil}
use Rattle.std.specs.List.{range_with_len}
use Rattle.tape_layout.specs.IndexConstruct.Blocks.{block_at}
use Rattle.tape_types.specs.declared.cartridges.Part.{Part}
use Rattle.tape_types.specs.declared.cartridges.Part.TheVariants.{Ip, Dp}
use Rattle.tape_layout.specs.declared.ops.Op.{Op}
use Rattle.tape_layout.specs.declared.ops.Op.TheVariants.{Put, Mark, Flush}
use Rattle.tape_layout.specs.declared.standing.Ends.{Ends}
use Rattle.tape_layout.specs.Admissions.{flush_first}
use Rattle.tape_layout.specs.Ops.{AreNext, after_ops, construct, end_of, puts, with_end}
use Rattle.tape_layout.proofs.Leads.{end_is, end_same}
use Rattle.tape_layout.proofs.Lists.{after_append}
use Rattle.space_laws.specs.Space.{Ask, Rules, Space, change, index, nothing, ops_of, part_for, store}
use Rattle.space_laws.specs.Space as space
use Rattle.volume_state.specs.PlanLaws.Laws.{EndsGoOn}
use Rattle.volume_state.proofs.PlanLaws.Ends.{next_append, ops_end}

-- ops come next at these ends, and lead to those
pub record Leads (from to : Ends) (ops : List Op) : Type 0 where
  pub next : AreNext from ops
  pub last : after_ops from ops ≡ to

leads_append : (from mid to : Ends) (xs ys : List Op) → Leads from mid xs → Leads mid to ys → Leads from to (xs ++ ys)
leads_append from mid to xs ys one other = record {
  next = next_append from xs ys one.next (subst (λ (e : Ends). AreNext e ys) (sym one.last) other.next);
  last = after_append from xs ys ∙ ap (λ (e : Ends). after_ops e ys) one.last ∙ other.last;
}

end_twice : (part : Part) (n m : ℕ) (e : Ends) → with_end part n (with_end part m e) ≡ with_end part n e
end_twice Ip n m e = refl
end_twice Dp n m e = refl

-- ---- a run of blocks

run_leads : (f : ℕ → List ℕ) (part : Part) (pos a n : ℕ) (e : Ends) → end_of part e ≡ pos + a
    → Leads e (with_end part (pos + a + n) e)
    (map (λ (k : ℕ). Put (record { part = part; pos = pos + k }) (f k)) (range_with_len a n))
run_leads f part pos a zero e is = record { next = tt; last = end_same part (pos + a + 0) e (is ∙ omega arith) }
run_leads f part pos a (suc n) e is =
    let rest = run_leads f part pos (a + 1) n (with_end part (pos + a + 1) e)
    (end_is part (pos + a + 1) e ∙ omega arith) in
    let same : pos + (a + 1) + n ≡ pos + a + suc n = omega arith in record {
      next = (sym is, rest.next);
      last = rest.last ∙ end_twice part (pos + (a + 1) + n) (pos + a + 1) e ∙ ap (λ (m : ℕ). with_end part m e) same;
    }

-- the puts of a document lead to the end behind its blocks
pub puts_lead : (size : ℕ) (part : Part) (pos : ℕ) (doc : List ℕ) (e : Ends) → end_of part e ≡ pos
    → Leads e (with_end part (pos + div_ceil (length doc) size) e) (puts size part pos doc)
puts_lead size part pos doc e is =
    let zero_more : pos + 0 + div_ceil (length doc) size ≡ pos + div_ceil (length doc) size = omega arith in
    subst (λ (n : ℕ). Leads e (with_end part n e) (puts size part pos doc)) zero_more
    (run_leads (block_at size doc) part pos 0 (div_ceil (length doc) size) e (is ∙ omega arith))

-- ---- an index

mark_leads : (part : Part) (pos : ℕ) (e : Ends) → end_of part e ≡ pos
    → Leads e (with_end part (pos + 1) e) (Mark (record { part = part; pos = pos }) ∷ [])
mark_leads part pos e is = record { next = (sym is, tt); last = refl }

flush_leads : (part : Part) (pos : ℕ) (e : Ends) → end_of part e ≡ pos
    → Leads e e (Flush (record { part = part; pos = pos }) ∷ [])
flush_leads part pos e is = record { next = (sym is, tt); last = refl }

index_leads : (size : ℕ) (part : Part) (pos : ℕ) (doc : List ℕ) (e : Ends) → end_of part e ≡ pos
    → Leads e (with_end part (pos + 2 + div_ceil (length doc) size) e) (construct size part pos doc)
index_leads size part pos doc e is =
    subst (λ (to : Ends). Leads e to (construct size part pos doc)) last
    (leads_append e behind behind _ _
    (leads_append e full behind _ _ (leads_append e marked full _ _ first blocks) second) flush)
  where
    count : ℕ
    count = div_ceil (length doc) size

    marked : Ends
    marked = with_end part (pos + 1) e

    full : Ends
    full = with_end part (pos + 1 + count) marked

    behind : Ends
    behind = with_end part (pos + 1 + count + 1) full

    first : Leads e marked (Mark (record { part = part; pos = pos }) ∷ [])
    first = mark_leads part pos e is

    blocks : Leads marked full (puts size part (pos + 1) doc)
    blocks = puts_lead size part (pos + 1) doc marked (end_is part (pos + 1) e)

    second : Leads full behind (Mark (record { part = part; pos = pos + 1 + count }) ∷ [])
    second = mark_leads part (pos + 1 + count) full (end_is part (pos + 1 + count) marked)

    flush : Leads behind behind (Flush (record { part = part; pos = pos + 2 + count }) ∷ [])
    flush = flush_leads part (pos + 2 + count) behind (end_is part (pos + 1 + count + 1) full ∙ omega arith)

    last : behind ≡ with_end part (pos + 2 + count) e
    last =
        end_twice part (pos + 1 + count + 1) (pos + 1 + count) marked ∙ end_twice part (pos + 1 + count + 1) (pos + 1) e
        ∙ (let same : pos + 1 + count + 1 ≡ pos + 2 + count = omega arith in ap (λ (m : ℕ). with_end part m e) same)

first_leads : (due : Bool) (e : Ends) → Leads e e (flush_first due e.ip)
first_leads true e = flush_leads Ip e.ip e refl
first_leads false e = record { next = tt; last = refl }

-- ---- what a space admits

ask_leads : (rules : Rules) (on : Bool) (s : Space) (ask : Ask)
    → Leads s.ends (space.after rules on s ask).ends (ops_of rules on s ask)
ask_leads rules on s nothing = record { next = tt; last = refl }
ask_leads rules on s change = record { next = tt; last = refl }
ask_leads rules on s (store wanted bytes) =
    puts_lead rules.block_size (part_for rules on s wanted bytes) (end_of (part_for rules on s wanted bytes) s.ends)
    bytes s.ends refl
ask_leads rules on s (index text) =
    leads_append s.ends s.ends _ (flush_first s.flush_due s.ends.ip) (construct rules.block_size Dp s.ends.dp text)
    (first_leads s.flush_due s.ends)
    (index_leads rules.block_size Dp s.ends.dp text s.ends refl)

-- the ends go on with the ops that a space admits
pub ends_go_on : EndsGoOn
ends_go_on = record {
  ends = λ planned asked next. ops_end asked planned next;
  admits = λ rules on s ask. (ask_leads rules on s ask).next;
  leaves = λ rules on s ask. sym (ask_leads rules on s ask).last;
}
