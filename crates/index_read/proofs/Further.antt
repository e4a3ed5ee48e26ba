-- What stands one place further on in a text with one byte more is read alike.
use Rattle.std.proofs.Common.{◌≡◌, ℕ, zero, suc, ◌+◌, ◌*◌, ◌-◌, ◌^◌, Bool, true, false, cond, not, ◌==◌, ◌&&◌, ◌||◌, nat_le, nat_lt, List, [], ◌∷◌, length, drop, take, Option, Some, None, Result, Ok, Err, refl, sym, ap, subst, arith}
use Rattle.std.proofs.lemmas.Bool.Decides.{nat_tests}
use lib.Dec.{eqb-suc-suc, leb-suc-suc}
use Rattle.std.specs.Prelude.{codes}
use Rattle.std.specs.Str.{chars, encode_utf8_all}
use Rattle.std.specs.Char.{encode_utf8}
use Rattle.std.specs.Str.Lossy.{utf8_valid_len}
use Rattle.tape_types.specs.declared.times.Civil.{Civil}
use Rattle.tape_types.specs.Times.{civil_in}
use Rattle.tape_types.specs.Uuids.{uuid_in}
use Rattle.ltfs_documents.specs.declared.doc_fields.errors.Why.TheVariants as why
use Rattle.ltfs_documents.specs.declared.doc_fields.starts.Attribute.{Attribute}
use Rattle.ltfs_documents.specs.declared.doc_fields.starts.Attribute.TheVariants as attribute
use Rattle.ltfs_documents.specs.declared.doc_fields.starts.Start.{Start}
use Rattle.ltfs_documents.specs.declared.doc_fields.tags.Tag.{Tag}
use Rattle.ltfs_documents.specs.declared.doc_fields.values.LockState.TheVariants.{Unlocked, Locked, PermLocked}
use Rattle.ltfs_documents.specs.DocFields.Reading.{Read, ◌>>=◌, between, byte, fault, literal_at, one_at, syntax_at, unknown_at}
use Rattle.ltfs_documents.specs.DocFields.Space.{is_space, run_end, space_end}
use Rattle.ltfs_documents.specs.DocFields.StartTag.{attribute_at, attribute_of, behind_at, begins_name, closes_at, first_at, in_name, is_known, is_version, name_at, named_at, percent_of, quoted_at, rest_at, second_at, tag_or_unknown, type_of, value_at, version_at, versioned}
use Rattle.ltfs_documents.specs.DocFields.EndTag.{end_at}
use Rattle.ltfs_documents.specs.DocFields.Tags.{is_root, is_typed, same, spelled, tag_named}
use Rattle.ltfs_documents.specs.DocFields.Numbers.{digits, is_digit, number_at, number_of}
use Rattle.ltfs_documents.specs.DocFields.Texts.{is_allowed, is_cut_reference, line_feeds, put_front, reference, referred, resolved, resolved_text, run_text, text_at, text_end, unit_at, with_unit}
use Rattle.ltfs_documents.specs.DocFields.Values.{bool_at, first_word, letter_at, lock_at, lock_word, shown, time_at, time_or_fault, uuid_at, uuid_or_fault, word_at, word_or_fault}

-- ---- tools

-- both are read, and a change makes what the one gives what the other gives; or neither is
abbrev pub Alike : {A E : Type 0} → (A → A) → Result A E → Result A E → Type 0
Alike up (Ok x) (Ok y) = y ≡ up x
Alike up (Err d) (Err e) = Unit {0}
Alike up (Ok x) (Err e) = ⊥
Alike up (Err d) (Ok y) = ⊥

-- a reading that stays as it is
abbrev pub just : {A : Type 0} → A → A
just x = x

-- a value that is read, and its place, one byte further on
abbrev pub behind : {A : Type 0} → A × ℕ → A × ℕ
behind x = (x.0, suc x.1)

-- a start tag that ends one byte further on
abbrev pub tag_behind : Start → Start
tag_behind s = record { tag = s.tag; attribute = s.attribute; empty = s.empty; next = suc s.next }

-- the one is read behind the other in the same way
then_alike : {A B : Type 0} (up : A → A) (w : B → B) (r s : Read A) (f g : A → Read B) → Alike up r s → ((x : A) → Alike w (f x) (g (up x))) → Alike w (r >>= f) (s >>= g)
then_alike up w (Ok x) (Ok y) f g is more = subst (λ z. Alike w (f x) (g z)) (sym is) (more x)
then_alike up w (Err d) (Err e) f g is more = tt
then_alike up w (Ok x) (Err e) f g is more = absurd is
then_alike up w (Err d) (Ok y) f g is more = absurd is

-- one of two is read, by the same test
pub if_alike : {A E : Type 0} (up : A → A) (b c : Bool) (r s t u : Result A E) → c ≡ b → Alike up r t → Alike up s u → Alike up (cond b r s) (cond c t u)
if_alike up true true r s t u is first other = first
if_alike up false false r s t u is first other = other
if_alike up true false r s t u is first other = absurd cc
if_alike up false true r s t u is first other = absurd cc

abbrev pub both_behind : ℕ × ℕ → ℕ × ℕ
both_behind x = (suc x.0, suc x.1)

abbrev pub name_behind : Option (ℕ × ℕ) → Option (ℕ × ℕ)
name_behind None = None
name_behind (Some x) = Some (suc x.0, suc x.1)

abbrev whole_tag : Tag → Attribute → ℕ → Read Start
whole_tag tag a next = Ok (record { tag = tag; attribute = a; empty = true; next = next })

-- a reading is like itself
pub self_alike : {A E : Type 0} (r : Result A E) → Alike just r r
self_alike (Ok x) = refl
self_alike (Err e) = tt

one_more : (at : ℕ) → suc at + 1 ≡ suc (at + 1)
one_more at = omega arith

so_many_more : (at n : ℕ) → suc at + n ≡ suc (at + n)
so_many_more at n = omega arith

-- ---- bytes

run_further : (p : ℕ → Bool) (at : ℕ) (bytes : List ℕ) → run_end p (suc at) bytes ≡ suc (run_end p at bytes)
run_further p at [] = refl
run_further p at (b ∷ bytes) = elim (p b) as (λ v. cond v (run_end p (suc at + 1) bytes) (suc at) ≡ suc (cond v (run_end p (at + 1) bytes) at)) [
  | true ↦ rw (one_more at) (run_further p (at + 1) bytes)
  | false ↦ refl
]

digits_further : (n at : ℕ) (bytes : List ℕ) → digits n (suc at) bytes ≡ behind (digits n at bytes)
digits_further n at [] = refl
digits_further n at (b ∷ bytes) = elim (is_digit b) as (λ v. cond v (digits (n * 10 + (b - 48)) (suc at + 1) bytes) (n, suc at) ≡ behind (cond v (digits (n * 10 + (b - 48)) (at + 1) bytes) (n, at))) [
  | true ↦ rw (one_more at) (digits_further (n * 10 + (b - 48)) (at + 1) bytes)
  | false ↦ refl
]

number_of_further : (at : ℕ) (d : ℕ × ℕ) → Alike behind (number_of at d) (number_of (suc at) (behind d))
number_of_further at d =
    let far : nat_lt (suc at + 20) (suc d.1) ≡ nat_lt (at + 20) d.1 = rw (so_many_more at 20) (grind (arith, nat_tests)) in
    if_alike behind (d.1 == at) (suc d.1 == suc at) (fault why.Syntax at) _ (fault why.Syntax (suc at)) _ (eqb-suc-suc d.1 at) tt
    (if_alike behind (nat_lt (at + 20) d.1) (nat_lt (suc at + 20) (suc d.1)) (fault why.Number at) _ (fault why.Number (suc at)) _ far tt
    (if_alike behind (nat_lt d.0 (2 ^ 64)) (nat_lt d.0 (2 ^ 64)) (Ok d) (fault why.Number at) (Ok (behind d)) (fault why.Number (suc at)) refl refl tt))

-- how an attribute's value is taken
kind_alike : (tag : Tag) (v : List ℕ) (at later : ℕ) → Alike just (attribute_of tag v at) (attribute_of tag v later)
kind_alike tag v at later =
    if_alike just (is_typed tag) (is_typed tag) (type_of v at) (percent_of v at) (type_of v later) (percent_of v later) refl
    (if_alike just (same v (codes "base64")) (same v (codes "base64")) (Ok attribute.Base64) _ (Ok attribute.Base64) _ refl refl
    (if_alike just (same v (codes "text")) (same v (codes "text")) (Ok attribute.Plain) (syntax_at at) (Ok attribute.Plain) (syntax_at later) refl refl tt))
    (if_alike just (same v (codes "true")) (same v (codes "true")) (Ok (attribute.Percent true)) _ (Ok (attribute.Percent true)) _ refl refl
    (if_alike just (same v (codes "false")) (same v (codes "false")) (Ok (attribute.Percent false)) (syntax_at at) (Ok (attribute.Percent false)) (syntax_at later) refl refl tt))

versioned_alike : (right : Bool) (from later : ℕ) (r s : Read Start) → Alike tag_behind r s → Alike tag_behind (versioned right from r) (versioned right later s)
versioned_alike true from later r s is = is
versioned_alike false from later r s is = tt

known_alike : (from later : ℕ) (o : Option Tag) → Alike just (tag_or_unknown from o) (tag_or_unknown later o)
known_alike from later None = tt
known_alike from later (Some tag) = refl

-- ---- texts, of which the place counts in refusals alone

referred_alike : (cut : Bool) (at later : ℕ) (rest : List ℕ) (o : Option (ℕ × ℕ)) → Alike just (referred cut at rest o) (referred cut later rest o)
referred_alike cut at later rest (Some r) = refl
referred_alike cut at later rest None = if_alike just (cut && is_cut_reference rest) (cut && is_cut_reference rest) (syntax_at (at + 1 + length rest)) (syntax_at at) (syntax_at (later + 1 + length rest)) (syntax_at later) refl tt tt

unit_alike : (cut : Bool) (at later c : ℕ) (rest : List ℕ) → Alike just (unit_at cut at c rest) (unit_at cut later c rest)
unit_alike cut at later c rest =
    if_alike just (c == 38) (c == 38) (referred cut at rest (reference rest)) _ (referred cut later rest (reference rest)) _ refl (referred_alike cut at later rest (reference rest))
    (if_alike just (c == 13) (c == 13) (Ok (10, line_feeds rest)) _ (Ok (10, line_feeds rest)) _ refl refl
    (if_alike just (is_allowed c) (is_allowed c) (Ok (c, 0)) (syntax_at at) (Ok (c, 0)) (syntax_at later) refl refl tt))

front_alike : (c : ℕ) (r s : Read (List ℕ)) → Alike just r s → Alike just (put_front c r) (put_front c s)
front_alike c (Ok x) (Ok y) is = ap (λ cs. c ∷ cs) is
front_alike c (Err d) (Err e) is = tt
front_alike c (Ok x) (Err e) is = absurd is
front_alike c (Err d) (Ok y) is = absurd is

with_alike : (r s : Read (ℕ × ℕ)) (f g : ℕ → Read (List ℕ)) → Alike just r s → ((skip : ℕ) → Alike just (f skip) (g skip)) → Alike just (with_unit r f) (with_unit s g)
with_alike (Ok x) (Ok y) f g is more = subst (λ (z : ℕ × ℕ). Alike just (put_front x.0 (f x.1)) (put_front z.0 (g z.1))) (sym is) (front_alike x.0 (f x.1) (g x.1) (more x.1))
with_alike (Err d) (Err e) f g is more = tt
with_alike (Ok x) (Err e) f g is more = absurd is
with_alike (Err d) (Ok y) f g is more = absurd is

resolved_alike : (cut : Bool) (skip at later : ℕ) (cs : List ℕ) → Alike just (resolved cut skip at cs) (resolved cut skip later cs)
resolved_alike cut skip at later [] = refl
resolved_alike cut (suc skip) at later (c ∷ rest) = resolved_alike cut skip (at + length (encode_utf8 c)) (later + length (encode_utf8 c)) rest
resolved_alike cut zero at later (c ∷ rest) =
    with_alike (unit_at cut at c (encode_utf8_all rest)) (unit_at cut later c (encode_utf8_all rest)) _ _ (unit_alike cut at later c (encode_utf8_all rest))
    (λ skip. resolved_alike cut skip (at + length (encode_utf8 c)) (later + length (encode_utf8 c)) rest)

resolved_text_alike : (cut : Bool) (at later : ℕ) (run : List ℕ) → Alike just (resolved_text cut at run) (resolved_text cut later run)
unfolding resolved_text
resolved_text_alike cut at later run = then_alike just just (resolved cut 0 at (chars run)) (resolved cut 0 later (chars run)) (λ cs. Ok (encode_utf8_all cs)) (λ cs. Ok (encode_utf8_all cs)) (resolved_alike cut 0 at later (chars run)) (λ cs. refl)

run_alike : (ended : Bool) (at later : ℕ) (run : List ℕ) → Alike just (run_text ended at run) (run_text ended later run)
unfolding run_text
run_alike ended at later run =
    let whole : ℕ = utf8_valid_len run in
    if_alike just (utf8_valid_len run == length run) (utf8_valid_len run == length run) (resolved_text ended at run) _ (resolved_text ended later run) _ refl (resolved_text_alike ended at later run)
    (then_alike just just (resolved_text false at (take whole run)) (resolved_text false later (take whole run)) (λ _. syntax_at (at + whole)) (λ _. syntax_at (later + whole)) (resolved_text_alike false at later (take whole run)) (λ _. tt))

-- ---- one place further on

module _ (b : ℕ) (text : List ℕ) where
  -- white space ends one byte further on
  pub space_further : (at : ℕ) → space_end (b ∷ text) (suc at) ≡ suc (space_end text at)
  unfolding space_end
  space_further at = run_further is_space at (drop at text)

  between_further : (from to : ℕ) → between (b ∷ text) (suc from) (suc to) ≡ between text from to
  between_further from to = let same : suc to - suc from ≡ to - from = omega arith in ap (λ n. take n (drop from text)) same

  one_further : (c at : ℕ) → Alike suc (one_at c text at) (one_at c (b ∷ text) (suc at))
  one_further c at = if_alike suc (byte text at == c) (byte text at == c) (Ok (at + 1)) (syntax_at at) (Ok (suc at + 1)) (syntax_at (suc at)) refl (one_more at) tt

  literal_further : (word : List ℕ) (at : ℕ) → Alike suc (literal_at word text at) (literal_at word (b ∷ text) (suc at))
  literal_further [] at = refl
  literal_further (c ∷ word) at =
      if_alike suc (byte text at == c) (byte text at == c) (literal_at word text (at + 1)) (syntax_at at) (literal_at word (b ∷ text) (suc at + 1)) (syntax_at (suc at)) refl (rw (one_more at) (literal_further word (at + 1))) tt

  -- an end before that of the text
  before_end : (end later : ℕ) → later ≡ suc end → Alike suc (cond (end == length text) (syntax_at (length text)) (Ok end)) (cond (later == length (b ∷ text)) (syntax_at (length (b ∷ text))) (Ok later))
  before_end end later is =
      if_alike suc (end == length text) (later == length (b ∷ text)) (syntax_at (length text)) (Ok end) (syntax_at (length (b ∷ text))) (Ok later)
      (rw is (eqb-suc-suc end (length text))) tt is

  name_further : (at : ℕ) → Alike suc (name_at text at) (name_at (b ∷ text) (suc at))
  unfolding name_at
  name_further at =
      if_alike suc (begins_name (byte text at)) (begins_name (byte text at)) _ (syntax_at at) _ (syntax_at (suc at)) refl
      (before_end (run_end in_name at (drop at text)) (run_end in_name (suc at) (drop at text)) (run_further in_name at (drop at text))) tt

  quoted_further : (at : ℕ) → Alike suc (quoted_at text at) (quoted_at (b ∷ text) (suc at))
  unfolding quoted_at
  quoted_further at =
      let p : ℕ → Bool = λ c. not (c == byte text at) in
      let q : Bool = byte text at == 34 || byte text at == 39 in
      rw (one_more at)
      (if_alike suc q q _ (syntax_at at) _ (syntax_at (suc at)) refl
      (before_end (run_end p (at + 1) (drop (at + 1) text)) (run_end p (suc (at + 1)) (drop (at + 1) text)) (run_further p (at + 1) (drop (at + 1) text))) tt)

  -- ---- tags

  attribute_further : (tag : Tag) (from later at : ℕ) → Alike name_behind (attribute_at tag from text at) (attribute_at tag later (b ∷ text) (suc at))
  unfolding attribute_at
  attribute_further tag from later at = rw (space_further at) (by (space_end text at))
    where
      by : (s : ℕ)
          → Alike name_behind (cond (byte text s == 62 || byte text s == 47) (Ok None) (cond (s == at) (syntax_at at) (name_at text s >>= λ end. cond (is_known tag (between text s end)) (Ok (Some (s, end))) (unknown_at from))))
          (cond (byte text s == 62 || byte text s == 47) (Ok None) (cond (suc s == suc at) (syntax_at (suc at)) (name_at (b ∷ text) (suc s) >>= λ end. cond (is_known tag (between (b ∷ text) (suc s) end)) (Ok (Some (suc s, end))) (unknown_at later))))
      by s =
          let q : Bool = byte text s == 62 || byte text s == 47 in
          if_alike name_behind q q (Ok None) _ (Ok None) _ refl refl
          (if_alike name_behind (s == at) (suc s == suc at) (syntax_at at) _ (syntax_at (suc at)) _ (eqb-suc-suc s at) tt
          (then_alike suc name_behind (name_at text s) (name_at (b ∷ text) (suc s)) (λ end. cond (is_known tag (between text s end)) (Ok (Some (s, end))) (unknown_at from))
          (λ end. cond (is_known tag (between (b ∷ text) (suc s) end)) (Ok (Some (suc s, end))) (unknown_at later)) (name_further s)
          (λ end. if_alike name_behind (is_known tag (between text s end)) (is_known tag (between (b ∷ text) (suc s) (suc end))) (Ok (Some (s, end))) (unknown_at from) (Ok (Some (suc s, suc end))) (unknown_at later)
          (ap (is_known tag) (between_further s end)) refl tt)))

  value_further : (at : ℕ) → Alike both_behind (value_at text at) (value_at (b ∷ text) (suc at))
  unfolding value_at
  value_further at =
      rw (space_further at)
      (then_alike suc both_behind (one_at 61 text (space_end text at)) (one_at 61 (b ∷ text) (suc (space_end text at))) _ _ (one_further 61 (space_end text at))
      (λ equals. rw (space_further equals) (quote (space_end text equals))))
    where
      quote : (s : ℕ) → Alike both_behind (quoted_at text s >>= λ end. Ok (s + 1, end)) (quoted_at (b ∷ text) (suc s) >>= λ end. Ok (suc s + 1, end))
      quote s = then_alike suc both_behind (quoted_at text s) (quoted_at (b ∷ text) (suc s)) (λ end. Ok (s + 1, end)) (λ end. Ok (suc s + 1, end)) (quoted_further s) (λ end. ap (λ n. (n, suc end)) (one_more s))

  closes_further : (tag : Tag) (a : Attribute) (at : ℕ) → Alike tag_behind (closes_at tag a text at) (closes_at tag a (b ∷ text) (suc at))
  unfolding closes_at
  closes_further tag a at =
      if_alike tag_behind (byte text at == 62) (byte text at == 62) (Ok (record { tag = tag; attribute = a; empty = false; next = at + 1 })) _ (Ok (record { tag = tag; attribute = a; empty = false; next = suc at + 1 })) _ refl
      (ap (λ n. record { tag = tag; attribute = a; empty = false; next = n }) (one_more at))
      (if_alike tag_behind (byte text at == 47) (byte text at == 47) (one_at 62 text (at + 1) >>= whole_tag tag a) (syntax_at at) (one_at 62 (b ∷ text) (suc at + 1) >>= whole_tag tag a) (syntax_at (suc at)) refl
      (rw (one_more at) (then_alike suc tag_behind (one_at 62 text (at + 1)) (one_at 62 (b ∷ text) (suc (at + 1))) (whole_tag tag a) (whole_tag tag a) (one_further 62 (at + 1)) (λ next. refl))) tt)

  second_further : (tag : Tag) (a : Attribute) (at : ℕ) (o : Option (ℕ × ℕ)) → Alike tag_behind (second_at tag a text at o) (second_at tag a (b ∷ text) (suc at) (name_behind o))
  second_further tag a at None = rw (space_further at) (closes_further tag a (space_end text at))
  second_further tag a at (Some twice) = tt

  behind_further : (tag : Tag) (a : Attribute) (from later at : ℕ) → Alike tag_behind (behind_at tag a from text at) (behind_at tag a later (b ∷ text) (suc at))
  unfolding behind_at
  behind_further tag a from later at =
      then_alike name_behind tag_behind (attribute_at tag from text at) (attribute_at tag later (b ∷ text) (suc at)) (second_at tag a text at) (second_at tag a (b ∷ text) (suc at)) (attribute_further tag from later at)
      (λ o. second_further tag a at o)

  first_further : (tag : Tag) (from later at : ℕ) (o : Option (ℕ × ℕ)) → Alike tag_behind (first_at tag from text at o) (first_at tag later (b ∷ text) (suc at) (name_behind o))
  first_further tag from later at None = rw (space_further at) (closes_further tag attribute.Absent (space_end text at))
  first_further tag from later at (Some name) =
      then_alike both_behind tag_behind (value_at text name.1) (value_at (b ∷ text) (suc name.1)) _ _ (value_further name.1)
      (λ v. rw (between_further v.0 v.1)
      (then_alike just tag_behind (attribute_of tag (between text v.0 v.1) v.0) (attribute_of tag (between text v.0 v.1) (suc v.0)) _ _ (kind_alike tag (between text v.0 v.1) v.0 (suc v.0))
      (λ a. rw (one_more v.1) (behind_further tag a from later (v.1 + 1)))))

  version_further : (tag : Tag) (from later at : ℕ) (o : Option (ℕ × ℕ)) → Alike tag_behind (version_at tag from text at o) (version_at tag later (b ∷ text) (suc at) (name_behind o))
  version_further tag from later at None =
      rw (space_further at)
      (then_alike tag_behind tag_behind (closes_at tag attribute.Absent text (space_end text at)) (closes_at tag attribute.Absent (b ∷ text) (suc (space_end text at))) (λ _. fault why.Version from) (λ _. fault why.Version later)
      (closes_further tag attribute.Absent (space_end text at)) (λ _. tt))
  version_further tag from later at (Some name) =
      then_alike both_behind tag_behind (value_at text name.1) (value_at (b ∷ text) (suc name.1)) _ _ (value_further name.1)
      (λ v. rw (between_further v.0 v.1, one_more v.1)
      (versioned_alike (is_version (between text v.0 v.1)) from later (behind_at tag attribute.Version from text (v.1 + 1)) (behind_at tag attribute.Version later (b ∷ text) (suc (v.1 + 1))) (behind_further tag attribute.Version from later (v.1 + 1))))

  -- the rest of a start tag
  pub rest_further : (tag : Tag) (from later at : ℕ) → Alike tag_behind (rest_at tag from text at) (rest_at tag later (b ∷ text) (suc at))
  unfolding rest_at
  rest_further tag from later at =
      then_alike name_behind tag_behind (attribute_at tag from text at) (attribute_at tag later (b ∷ text) (suc at)) _ _ (attribute_further tag from later at)
      (λ o. if_alike tag_behind (is_root tag) (is_root tag) (version_at tag from text at o) (first_at tag from text at o) (version_at tag later (b ∷ text) (suc at) (name_behind o)) (first_at tag later (b ∷ text) (suc at) (name_behind o)) refl
      (version_further tag from later at o) (first_further tag from later at o))

  -- the name of a start tag
  pub named_further : (at : ℕ) → Alike behind (named_at text at) (named_at (b ∷ text) (suc at))
  unfolding named_at
  named_further at =
      then_alike suc behind (one_at 60 text at) (one_at 60 (b ∷ text) (suc at)) _ _ (one_further 60 at)
      (λ name. then_alike suc behind (name_at text name) (name_at (b ∷ text) (suc name)) _ _ (name_further name)
      (λ end. rw (between_further name end)
      (then_alike just behind (tag_or_unknown at (tag_named (between text name end))) (tag_or_unknown (suc at) (tag_named (between text name end))) _ _ (known_alike at (suc at) (tag_named (between text name end))) (λ tag. refl))))

  -- an end tag
  pub end_further : (tag : Tag) (at : ℕ) → Alike suc (end_at text at tag) (end_at (b ∷ text) (suc at) tag)
  unfolding end_at
  end_further tag at =
      then_alike suc suc (one_at 60 text at) (one_at 60 (b ∷ text) (suc at)) _ _ (one_further 60 at)
      (λ slash. then_alike suc suc (one_at 47 text slash) (one_at 47 (b ∷ text) (suc slash)) _ _ (one_further 47 slash)
      (λ name. then_alike suc suc (literal_at (spelled tag) text name) (literal_at (spelled tag) (b ∷ text) (suc name)) _ _ (literal_further (spelled tag) name)
      (λ end. rw (space_further end) (one_further 62 (space_end text end)))))

  -- ---- values

  -- a number is read alike one byte further on
  pub number_further : (at : ℕ) → Alike behind (number_at text at) (number_at (b ∷ text) (suc at))
  unfolding number_at
  number_further at = rw (digits_further 0 at (drop at text)) (number_of_further at (digits 0 at (drop at text)))

  word_further : {A : Type 0} (words : List (List ℕ × A)) (at : ℕ) → Alike behind (word_at words text at) (word_at words (b ∷ text) (suc at))
  word_further {A} words at = by (first_word words (drop at text))
    where
      by : (o : Option (A × ℕ)) → Alike behind (word_or_fault words text at o) (word_or_fault words (b ∷ text) (suc at) o)
      by None = tt
      by (Some w) = ap (λ n. (w.0, n)) (so_many_more at w.1)

  -- a truth value is read alike one byte further on
  pub bool_further : (at : ℕ) → Alike behind (bool_at text at) (bool_at (b ∷ text) (suc at))
  unfolding bool_at
  bool_further at = word_further ((codes "true", true) ∷ (codes "false", false) ∷ (codes "1", true) ∷ (codes "0", false) ∷ []) at

  -- a lock is read alike one byte further on
  pub lock_further : (at : ℕ) → Alike behind (lock_at text at) (lock_at (b ∷ text) (suc at))
  unfolding lock_at
  lock_further at = word_further ((lock_word Unlocked, Unlocked) ∷ (lock_word Locked, Locked) ∷ (lock_word PermLocked, PermLocked) ∷ []) at

  -- a letter is read alike one byte further on
  pub letter_further : (at : ℕ) → Alike behind (letter_at text at) (letter_at (b ∷ text) (suc at))
  unfolding letter_at
  letter_further at =
      let q : Bool = nat_le 97 (byte text at) && nat_le (byte text at) 122 in
      if_alike behind q q (Ok (byte text at, at + 1)) (syntax_at at) (Ok (byte text at, suc at + 1)) (syntax_at (suc at)) refl (ap (λ n. (byte text at, n)) (one_more at)) tt

  shown_further : {A : Type 0} (size : ℕ) (read : List ℕ → Option A) (at : ℕ) → shown size read (b ∷ text) (suc at) ≡ shown size read text at
  shown_further size read at = rw (so_many_more at size, leb-suc-suc (at + size) (length text), between_further at (at + size)) refl

  -- a time is read alike one byte further on
  pub time_further : (at : ℕ) → Alike behind (time_at text at) (time_at (b ∷ text) (suc at))
  unfolding time_at
  time_further at = rw (shown_further 30 civil_in at) (by (shown 30 civil_in text at))
    where
      by : (o : Option Civil) → Alike behind (time_or_fault text at o) (time_or_fault (b ∷ text) (suc at) o)
      by None = tt
      by (Some c) = ap (λ n. (c, n)) (so_many_more at 30)

  -- a UUID is read alike one byte further on
  pub uuid_further : (at : ℕ) → Alike behind (uuid_at text at) (uuid_at (b ∷ text) (suc at))
  unfolding uuid_at
  uuid_further at = rw (shown_further 36 uuid_in at) (by (shown 36 uuid_in text at))
    where
      by : (o : Option ℕ) → Alike behind (uuid_or_fault text at o) (uuid_or_fault (b ∷ text) (suc at) o)
      by None = tt
      by (Some n) = ap (λ m. (n, m)) (so_many_more at 36)

  text_end_further : (at : ℕ) → text_end (b ∷ text) (suc at) ≡ suc (text_end text at)
  unfolding text_end
  text_end_further at = run_further (λ c. not (c == 60)) at (drop at text)

  -- a text is read alike one byte further on
  pub text_further : (at : ℕ) → Alike behind (text_at text at) (text_at (b ∷ text) (suc at))
  unfolding text_at
  text_further at =
      let end : ℕ = text_end text at in
      rw (text_end_further at, eqb-suc-suc (text_end text at) (length text), between_further at (text_end text at))
      (then_alike just behind (run_text (end == length text) at (between text at end)) (run_text (end == length text) (suc at) (between text at end)) (λ v. Ok (v, end)) (λ v. Ok (v, suc end))
      (run_alike (end == length text) at (suc at) (between text at end)) (λ v. refl))
