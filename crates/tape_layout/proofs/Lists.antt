-- Lists of ops, and the ends after them.
use Rattle.std.proofs.Common.{◌≡◌, ℕ, ◌+◌, List, [], ◌∷◌, ◌++◌, map, refl, sym, ap, subst, ◌∙◌, arith, append_assoc}
use Rattle.std.specs.List.{range_with_len}
use Rattle.std.proofs.lemmas.List.{map-append}
use Rattle.std.proofs.lemmas.List.FromFn.{map-range_with_len_more}
use Rattle.tape_layout.specs.IndexConstruct.Blocks.{block_at}
use Rattle.tape_types.specs.declared.cartridges.Part.{Part}
use Rattle.tape_layout.specs.declared.ops.Op.{Op}
use Rattle.tape_layout.specs.declared.ops.Op.TheVariants.{Put}
use Rattle.tape_layout.specs.declared.standing.Ends.{Ends}
use Rattle.tape_layout.specs.declared.standing.Standing.{Standing}
use Rattle.tape_layout.specs.Ops.{after_op, after_ops, counted}
use Rattle.tape_layout.specs.Plans.{IsDraft}

-- the ends after two lists of ops are those after the second from those after the first
pub after_append : (e : Ends) (xs ys : List Op) → after_ops e (xs ++ ys) ≡ after_ops (after_ops e xs) ys
after_append e [] ys = refl
after_append e (x ∷ xs) ys = after_append (after_op e x) xs ys

-- of two lists of ops, each op of the second is counted from the ends after the first
pub counted_append : (e : Ends) (xs ys : List Op) → counted e (xs ++ ys) ≡ counted e xs ++ counted (after_ops e xs) ys
counted_append e [] ys = refl
counted_append e (x ∷ xs) ys = ap (λ rest. record { op = x; ends = after_op e x } ∷ rest) (counted_append (after_op e x) xs ys)

-- an op at the end of a draft
pub pushed : (start ends : Ends) (items news : List Standing) (s : Standing) → IsDraft (record { start = start; ops = map (λ (s : Standing). s.op) items }) ends items → news ≡ items ++ s ∷ [] → s.ends ≡ after_op ends s.op
    → IsDraft (record { start = start; ops = map (λ (s : Standing). s.op) news }) s.ends news
pushed start ends items news s h added is = subst (λ l. IsDraft (record { start = start; ops = map (λ (s : Standing). s.op) l }) s.ends l) (sym added) record {
  kept =
      ap (λ l. l ++ s ∷ []) h.kept ∙ ap (λ l. counted start (map (λ (s : Standing). s.op) items) ++ l) last
      ∙ sym (counted_append start (map (λ (s : Standing). s.op) items) (s.op ∷ []))
      ∙ ap (counted start) (sym all);
  ends_are = is ∙ ap (λ e. after_op e s.op) h.ends_are ∙ sym (after_append start (map (λ (s : Standing). s.op) items) (s.op ∷ [])) ∙ ap (after_ops start) (sym all);
}
  where
    all : map (λ (s : Standing). s.op) (items ++ s ∷ []) ≡ map (λ (s : Standing). s.op) items ++ s.op ∷ []
    all = map-append (λ (s : Standing). s.op) items (s ∷ [])

    last : s ∷ [] ≡ counted (after_ops start (map (λ (s : Standing). s.op) items)) (s.op ∷ [])
    last = ap (λ e. record { op = s.op; ends = e } ∷ []) (is ∙ ap (λ e. after_op e s.op) h.ends_are)

-- the next block of a document
pub put_next : (size pos k : ℕ) (part : Part) (doc bytes : List ℕ) (before ops news : List Op)
    → ops ≡ before ++ map (λ k. Put (record { part = part; pos = pos + k }) (block_at size doc k)) (range_with_len 0 k)
    → news ≡ ops ++ Put (record { part = part; pos = pos + k }) bytes ∷ [] → bytes ≡ block_at size doc k
    → news ≡ before ++ map (λ k. Put (record { part = part; pos = pos + k }) (block_at size doc k)) (range_with_len 0 (k + 1))
put_next size pos k part doc bytes before ops news so_far added is =
    added ∙ ap (λ b. ops ++ Put (record { part = part; pos = pos + k }) b ∷ []) is
    ∙ ap (λ l. l ++ put k ∷ []) so_far
    ∙ append_assoc before (map put (range_with_len 0 k)) (put k ∷ [])
    ∙ ap (λ l. before ++ l) (sym (map-range_with_len_more put 0 k k (omega arith)))
  where
    put : ℕ → Op
    put k = Put (record { part = part; pos = pos + k }) (block_at size doc k)
