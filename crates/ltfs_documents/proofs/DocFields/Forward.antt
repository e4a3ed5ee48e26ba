-- What is read of a document lies behind the place where reading began.
use Rattle.std.proofs.Common.{◌≡◌, ◌⊎◌, ℕ, zero, suc, ◌+◌, ◌≤◌, ◌<◌, Bool, true, false, cond, eqb, not, ◌==◌, ◌&&◌, ◌||◌, nat_le, nat_lt, ◌^◌, List, [], ◌∷◌, Option, Some, None, Ok, Err, length, drop, inl, inr, ⊎_elim, refl, sym, ap, subst, arith}
use Rattle.std.specs.Prelude.{IfSome, codes}
use Rattle.std.proofs.lemmas.Bool.{eqb-true}
use Rattle.tape_types.specs.declared.times.Civil.{Civil}
use Rattle.ltfs_documents.specs.declared.doc_fields.errors.FieldErr.{FieldErr}
use Rattle.ltfs_documents.specs.declared.doc_fields.errors.Why.TheVariants as why
use Rattle.ltfs_documents.specs.declared.doc_fields.starts.Attribute.{Attribute}
use Rattle.ltfs_documents.specs.declared.doc_fields.starts.Start.{Start}
use Rattle.ltfs_documents.specs.declared.doc_fields.tags.Tag.{Tag}
use Rattle.ltfs_documents.specs.declared.doc_fields.values.LockState.{LockState}
use Rattle.ltfs_documents.specs.declared.doc_fields.values.LockState.TheVariants.{Unlocked, Locked, PermLocked}
use Rattle.tape_types.specs.Times.{civil_in}
use Rattle.tape_types.specs.Uuids.{uuid_in}
use Rattle.ltfs_documents.specs.DocFields.Reading.{Read, ◌>>=◌, between, byte, fault, literal_at, one_at, syntax_at, unknown_at}
use Rattle.ltfs_documents.specs.DocFields.Space.{is_space, run_end, space_end}
use Rattle.ltfs_documents.specs.DocFields.StartTag.{attribute_at, behind_at, begins_name, closes_at, first_at, in_name, is_known, is_version, name_at, named_at, attribute_of, quoted_at, rest_at, second_at, tag_or_unknown, value_at, version_at}
use Rattle.ltfs_documents.specs.DocFields.EndTag.{end_at}
use Rattle.ltfs_documents.specs.DocFields.Tags.{is_root, spelled, tag_named}
use Rattle.ltfs_documents.specs.DocFields.Numbers.{digits, number_at, number_of}
use Rattle.ltfs_documents.specs.DocFields.Texts.{run_text, text_at, text_end}
use Rattle.ltfs_documents.specs.DocFields.Values.{bool_at, first_word, letter_at, lock_at, lock_word, shown, time_at, time_or_fault, uuid_at, uuid_or_fault, word_at, word_or_fault}
use Rattle.ltfs_documents.proofs.DocFields.Runs.{digits_after}

-- ---- tools

then_ok : {A B : Type 0} (r : Read A) (f : A → Read B) (y : B) → (r >>= f) ≡ Ok y → (x : A) × (r ≡ Ok x) × (f x ≡ Ok y)
then_ok (Ok x) f y e = (x, refl, e)
then_ok (Err d) f y e = absurd cc

if_ok : {A : Type 0} (b : Bool) (r s : Read A) (y : A) → cond b r s ≡ Ok y → (r ≡ Ok y) ⊎ (s ≡ Ok y)
if_ok true r s y e = inl e
if_ok false r s y e = inr e

-- the one case, where the other is a fault
guard : {A : Type 0} (b : Bool) (r : Read A) (d : FieldErr) (y : A) → cond b r (Err d) ≡ Ok y → (b ≡ true) × (r ≡ Ok y)
guard true r d y e = (refl, e)
guard false r d y e = absurd cc

unless : {A : Type 0} (b : Bool) (r : Read A) (d : FieldErr) (y : A) → cond b (Err d) r ≡ Ok y → r ≡ Ok y
unless true r d y e = absurd cc
unless false r d y e = e

same_ok : {A : Type 0} (x y : A) → ◌≡◌ {A = Read A} (Ok x) (Ok y) → x ≡ y
same_ok x y e = cc

no_fault : {A : Type 0} (d : FieldErr) (y : A) → ◌≡◌ {A = Read A} (Err d) (Ok y) → ⊥
no_fault d y e = cc

-- ---- bytes

run_after : (p : ℕ → Bool) (at : ℕ) (bytes : List ℕ) → at ≤ run_end p at bytes
run_after p at [] = omega arith
run_after p at (b ∷ bytes) = elim (p b) as (λ v. at ≤ cond v (run_end p (at + 1) bytes) at) [
  | true ↦ omega (arith, run_after p (at + 1) bytes)
  | false ↦ omega arith
]

-- white space ends no earlier than it begins
pub space_after : (text : List ℕ) (at : ℕ) → at ≤ space_end text at
unfolding space_end
space_after text at = run_after is_space at (drop at text)

-- a byte that isn't 0 is one of the text
within : (text : List ℕ) (at : ℕ) → 0 < byte text at → at < length text
within [] at some = absurd (omega (arith, some))
within (b ∷ text) zero some = omega arith
within (b ∷ text) (suc at) some = omega (arith, within text at some)

one_is : (b : ℕ) (text : List ℕ) (at n : ℕ) → one_at b text at ≡ Ok n → (byte text at ≡ b) × (n ≡ at + 1)
one_is b text at n e =
    let g = guard (eqb (byte text at) b) (Ok (at + 1)) _ n e in
    (eqb-true (byte text at) b g.0, sym (same_ok (at + 1) n g.1))

literal_after : (bytes text : List ℕ) (at n : ℕ) → literal_at bytes text at ≡ Ok n → at ≤ n
literal_after [] text at n e = omega (arith, same_ok at n e)
literal_after (b ∷ bytes) text at n e = omega (arith, literal_after bytes text (at + 1) n (guard (eqb (byte text at) b) (literal_at bytes text (at + 1)) _ n e).1)

-- ---- tags

name_after : (text : List ℕ) (at n : ℕ) → name_at text at ≡ Ok n → at ≤ n
unfolding name_at
name_after text at n e =
    let end : ℕ = run_end in_name at (drop at text) in
    let g = guard (begins_name (byte text at)) (cond (eqb (run_end in_name at (drop at text)) (length text)) (syntax_at (length text)) (Ok (run_end in_name at (drop at text)))) _ n e in
    let h = unless (eqb (run_end in_name at (drop at text)) (length text)) (Ok (run_end in_name at (drop at text))) _ n g.1 in
    let same = same_ok (run_end in_name at (drop at text)) n h in
    omega (arith, same, run_after in_name at (drop at text))

-- where the closing quote stands
abbrev quote_end : List ℕ → ℕ → ℕ
quote_end text at = run_end (λ b. not (b == byte text at)) (at + 1) (drop (at + 1) text)

quoted_after : (text : List ℕ) (at n : ℕ) → quoted_at text at ≡ Ok n → at < n
unfolding quoted_at
quoted_after text at n e =
    let g = guard (byte text at == 34 || byte text at == 39) (cond (quote_end text at == length text) (syntax_at (length text)) (Ok (quote_end text at))) _ n e in
    let h = unless (quote_end text at == length text) (Ok (quote_end text at)) _ n g.1 in
    let same : quote_end text at ≡ n = same_ok (quote_end text at) n h in
    omega (arith, same, run_after (λ b. not (b == byte text at)) (at + 1) (drop (at + 1) text))

value_after : (text : List ℕ) (at : ℕ) (v : ℕ × ℕ) → value_at text at ≡ Ok v → at < v.1
unfolding value_at
value_after text at v e =
    let a = then_ok (one_at 61 text (space_end text at)) _ v e in
    let b = then_ok (quoted_at text (space_end text a.0)) _ v a.2 in
    let one = one_is 61 text (space_end text at) a.0 a.1 in
    let quoted = quoted_after text (space_end text a.0) b.0 b.1 in
    let end : b.0 ≡ v.1 = ap (λ (p : ℕ × ℕ). p.1) (same_ok _ v b.2) in
    omega (arith, one.1, quoted, end, space_after text at, space_after text a.0)

known_after : (tag : Tag) (from : ℕ) (text : List ℕ) (at : ℕ) (o : Option (ℕ × ℕ))
    → cond (space_end text at == at) (syntax_at at) (name_at text (space_end text at) >>= λ end. cond (is_known tag (between text (space_end text at) end)) (Ok (Some (space_end text at, end))) (unknown_at from)) ≡ Ok o
    → IfSome o (λ n. at ≤ n.1)
known_after tag from text at o e =
    let s : ℕ = space_end text at in
    let more = unless (space_end text at == at) (name_at text (space_end text at) >>= λ end. cond (is_known tag (between text (space_end text at) end)) (Ok (Some (space_end text at, end))) (unknown_at from)) _ o e in
    let name = then_ok (name_at text (space_end text at)) (λ end. cond (is_known tag (between text (space_end text at) end)) (Ok (Some (space_end text at, end))) (unknown_at from)) o more in
    let known = guard (is_known tag (between text (space_end text at) name.0)) (Ok (Some (space_end text at, name.0))) _ o name.2 in
    let low : at ≤ name.0 = omega (arith, name_after text (space_end text at) name.0 name.1, space_after text at) in
    subst (λ (p : Option (ℕ × ℕ)). IfSome p (λ n. at ≤ n.1)) (same_ok (Some (space_end text at, name.0)) o known.1) low

attribute_after : (tag : Tag) (from : ℕ) (text : List ℕ) (at : ℕ) (o : Option (ℕ × ℕ)) → attribute_at tag from text at ≡ Ok o → IfSome o (λ n. at ≤ n.1)
unfolding attribute_at
attribute_after tag from text at o e = ⊎_elim
    (λ (none : Ok None ≡ Ok o). subst (λ (p : Option (ℕ × ℕ)). IfSome p (λ n. at ≤ n.1)) (same_ok None o none) tt)
    (λ some. known_after tag from text at o some)
    (if_ok (byte text (space_end text at) == 62 || byte text (space_end text at) == 47) (Ok None)
    (cond (space_end text at == at) (syntax_at at) (name_at text (space_end text at) >>= λ end. cond (is_known tag (between text (space_end text at) end)) (Ok (Some (space_end text at, end))) (unknown_at from))) o e)

whole_after : (tag : Tag) (a : Attribute) (text : List ℕ) (at : ℕ) (s : Start)
    → cond (byte text at == 47) (one_at 62 text (at + 1) >>= λ next. Ok (record { tag = tag; attribute = a; empty = true; next = next })) (syntax_at at) ≡ Ok s → at < s.next
whole_after tag a text at s e =
    let g = guard (byte text at == 47) (one_at 62 text (at + 1) >>= λ next. Ok (record { tag = tag; attribute = a; empty = true; next = next })) _ s e in
    let next = then_ok (one_at 62 text (at + 1)) (λ next. Ok (record { tag = tag; attribute = a; empty = true; next = next })) s g.1 in
    let end : next.0 ≡ s.next = ap (λ (x : Start). x.next) (same_ok (record { tag = tag; attribute = a; empty = true; next = next.0 }) s next.2) in
    omega (arith, (one_is 62 text (at + 1) next.0 next.1).1, end)

closes_after : (tag : Tag) (a : Attribute) (text : List ℕ) (at : ℕ) (s : Start) → closes_at tag a text at ≡ Ok s → at < s.next
unfolding closes_at
closes_after tag a text at s e = ⊎_elim
    (λ (ends : Ok (record { tag = tag; attribute = a; empty = false; next = at + 1 }) ≡ Ok s).
    let end : at + 1 ≡ s.next = ap (λ (x : Start). x.next) (same_ok (record { tag = tag; attribute = a; empty = false; next = at + 1 }) s ends) in
    omega (arith, end))
    (λ more. whole_after tag a text at s more)
    (if_ok (byte text at == 62) (Ok (record { tag = tag; attribute = a; empty = false; next = at + 1 }))
    (cond (byte text at == 47) (one_at 62 text (at + 1) >>= λ next. Ok (record { tag = tag; attribute = a; empty = true; next = next })) (syntax_at at)) s e)

behind_after : (tag : Tag) (a : Attribute) (from : ℕ) (text : List ℕ) (at : ℕ) (s : Start) → behind_at tag a from text at ≡ Ok s → at < s.next
unfolding behind_at
behind_after tag a from text at s e = let o = then_ok (attribute_at tag from text at) _ s e in by o.0 o.2
  where
    by : (o : Option (ℕ × ℕ)) → second_at tag a text at o ≡ Ok s → at < s.next
    by None h = omega (arith, closes_after tag a text (space_end text at) s h, space_after text at)
    by (Some twice) h = absurd (no_fault _ s h)

first_after : (tag : Tag) (from : ℕ) (text : List ℕ) (at : ℕ) (o : Option (ℕ × ℕ)) (s : Start) → IfSome o (λ n. at ≤ n.1) → first_at tag from text at o ≡ Ok s → at < s.next
first_after tag from text at None s low e = omega (arith, closes_after tag _ text (space_end text at) s e, space_after text at)
first_after tag from text at (Some name) s low e =
    let v = then_ok (value_at text name.1) _ s e in
    let a = then_ok (attribute_of tag (between text v.0.0 v.0.1) v.0.0) _ s v.2 in
    omega (arith, low, value_after text name.1 v.0 v.1, behind_after tag a.0 from text (v.0.1 + 1) s a.2)

version_after : (tag : Tag) (from : ℕ) (text : List ℕ) (at : ℕ) (o : Option (ℕ × ℕ)) (s : Start) → IfSome o (λ n. at ≤ n.1) → version_at tag from text at o ≡ Ok s → at < s.next
version_after tag from text at None s low e =
    let a = then_ok (closes_at tag _ text (space_end text at)) _ s e in absurd (no_fault _ s a.2)
version_after tag from text at (Some name) s low e =
    let v = then_ok (value_at text name.1) _ s e in
    let g = guard (is_version (between text v.0.0 v.0.1)) (behind_at tag _ from text (v.0.1 + 1)) _ s v.2 in
    omega (arith, low, value_after text name.1 v.0 v.1, behind_after tag _ from text (v.0.1 + 1) s g.1)

-- the rest of a start tag ends behind the place where it begins
pub rest_after : (tag : Tag) (from : ℕ) (text : List ℕ) (at : ℕ) (s : Start) → rest_at tag from text at ≡ Ok s → at < s.next
unfolding rest_at
rest_after tag from text at s e =
    let o = then_ok (attribute_at tag from text at) _ s e in
    let low = attribute_after tag from text at o.0 o.1 in
    by o.0 low (if_ok (is_root tag) (version_at tag from text at o.0) (first_at tag from text at o.0) s o.2)
  where
    by : (o : Option (ℕ × ℕ)) → IfSome o (λ n. at ≤ n.1) → (version_at tag from text at o ≡ Ok s) ⊎ (first_at tag from text at o ≡ Ok s) → at < s.next
    by o low (inl h) = version_after tag from text at o s low h
    by o low (inr h) = first_after tag from text at o s low h

-- the name of a start tag begins within the text and ends behind its beginning
pub named_after : (text : List ℕ) (at : ℕ) (t : Tag × ℕ) → named_at text at ≡ Ok t → (at < length text) × (at < t.1)
unfolding named_at
named_after text at t e =
    let a = then_ok (one_at 60 text at) _ t e in
    let b = then_ok (name_at text a.0) _ t a.2 in
    let d = then_ok (tag_or_unknown at (tag_named (between text a.0 b.0))) _ t b.2 in
    let one = one_is 60 text at a.0 a.1 in
    let end : b.0 ≡ t.1 = ap (λ (p : Tag × ℕ). p.1) (same_ok _ t d.2) in
    (within text at (omega (arith, one.0)), omega (arith, one.1, name_after text a.0 b.0 b.1, end))

-- an end tag begins within the text and ends behind its beginning
pub end_after : (text : List ℕ) (at : ℕ) (tag : Tag) (n : ℕ) → end_at text at tag ≡ Ok n → (at < length text) × (at < n)
unfolding end_at
end_after text at tag n e =
    let a = then_ok (one_at 60 text at) _ n e in
    let b = then_ok (one_at 47 text a.0) _ n a.2 in
    let d = then_ok (literal_at (spelled tag) text b.0) _ n b.2 in
    let one = one_is 60 text at a.0 a.1 in
    let two = one_is 47 text a.0 b.0 b.1 in
    let three = one_is 62 text (space_end text d.0) n d.2 in
    (within text at (omega (arith, one.0)), omega (arith, one.1, two.1, three.1, literal_after (spelled tag) text b.0 d.0 d.1, space_after text d.0))

-- ---- values

number_of_after : (at : ℕ) (d n : ℕ × ℕ) → number_of at d ≡ Ok n → d ≡ n
number_of_after at d n e =
    let a = unless (d.1 == at) (cond (nat_lt (at + 20) d.1) (fault why.Number at) (cond (nat_lt d.0 (2 ^ 64)) (Ok d) (fault why.Number at))) _ n e in
    let b = unless (nat_lt (at + 20) d.1) (cond (nat_lt d.0 (2 ^ 64)) (Ok d) (fault why.Number at)) _ n a in
    same_ok d n (guard (nat_lt d.0 (2 ^ 64)) (Ok d) _ n b).1

-- a number ends no earlier than it begins
pub number_after : (text : List ℕ) (at : ℕ) (n : ℕ × ℕ) → number_at text at ≡ Ok n → at ≤ n.1
unfolding number_at
number_after text at n e =
    subst (λ (p : ℕ × ℕ). at ≤ p.1) (number_of_after at (digits 0 at (drop at text)) n e) (digits_after 0 at (drop at text))

-- a text ends no earlier than it begins
pub text_after : (text : List ℕ) (at : ℕ) (v : List ℕ × ℕ) → text_at text at ≡ Ok v → at ≤ v.1
unfolding text_at text_end
text_after text at v e =
    let a = then_ok (run_text _ at _) _ v e in
    let end = ap (λ (p : List ℕ × ℕ). p.1) (same_ok _ v a.2) in
    subst (λ (n : ℕ). at ≤ n) end (run_after _ at (drop at text))

-- a date and time of day ends no earlier than it begins
pub time_after : (text : List ℕ) (at : ℕ) (v : Civil × ℕ) → time_at text at ≡ Ok v → at ≤ v.1
unfolding time_at
time_after text at v e = by (shown 30 civil_in text at) e
  where
    by : (o : Option Civil) → time_or_fault text at o ≡ Ok v → at ≤ v.1
    by None h = absurd (no_fault _ v h)
    by (Some c) h = omega (arith, ap (λ (p : Civil × ℕ). p.1) (same_ok _ v h))

-- a UUID ends no earlier than it begins
pub uuid_after : (text : List ℕ) (at : ℕ) (v : ℕ × ℕ) → uuid_at text at ≡ Ok v → at ≤ v.1
unfolding uuid_at
uuid_after text at v e = by (shown 36 uuid_in text at) e
  where
    by : (o : Option ℕ) → uuid_or_fault text at o ≡ Ok v → at ≤ v.1
    by None h = absurd (no_fault _ v h)
    by (Some c) h = omega (arith, ap (λ (p : ℕ × ℕ). p.1) (same_ok _ v h))

-- a letter ends no earlier than it begins
pub letter_after : (text : List ℕ) (at : ℕ) (v : ℕ × ℕ) → letter_at text at ≡ Ok v → at ≤ v.1
unfolding letter_at
letter_after text at v e =
    let g = guard (nat_le 97 (byte text at) && nat_le (byte text at) 122) (Ok (byte text at, at + 1)) _ v e in
    let end : at + 1 ≡ v.1 = ap (λ (p : ℕ × ℕ). p.1) (same_ok (byte text at, at + 1) v g.1) in
    omega (arith, end)

word_after : {A : Type 0} (words : List (List ℕ × A)) (text : List ℕ) (at : ℕ) (v : A × ℕ) → word_at words text at ≡ Ok v → at ≤ v.1
word_after {A} words text at v e = by (first_word words (drop at text)) e
  where
    by : (o : Option (A × ℕ)) → word_or_fault words text at o ≡ Ok v → at ≤ v.1
    by None h = absurd (no_fault _ v h)
    by (Some w) h = omega (arith, ap (λ (p : A × ℕ). p.1) (same_ok _ v h))

-- a truth value ends no earlier than it begins
pub bool_after : (text : List ℕ) (at : ℕ) (v : Bool × ℕ) → bool_at text at ≡ Ok v → at ≤ v.1
unfolding bool_at
bool_after text at v e = word_after ((codes "true", true) ∷ (codes "false", false) ∷ (codes "1", true) ∷ (codes "0", false) ∷ []) text at v e

-- the state of a lock ends no earlier than it begins
pub lock_after : (text : List ℕ) (at : ℕ) (v : LockState × ℕ) → lock_at text at ≡ Ok v → at ≤ v.1
unfolding lock_at
lock_after text at v e = word_after ((lock_word Unlocked, Unlocked) ∷ (lock_word Locked, Locked) ∷ (lock_word PermLocked, PermLocked) ∷ []) text at v e
