-- What tags are: an element with a name is no end tag, and an end tag is one.
use Rattle.std.proofs.Common.{◌≡◌, ℕ, ◌+◌, List, Bool, true, false, cond, ◌==◌, ◌&&◌, Ok, Err, refl, ap, ◌∙◌}
use Rattle.std.proofs.lemmas.Bool.{eqb-true}
use Rattle.ltfs_documents.specs.declared.doc_fields.tags.Tag.{Tag}
use Rattle.ltfs_documents.specs.declared.doc_fields.errors.FieldErr.{FieldErr}
use Rattle.ltfs_documents.specs.DocFields.Reading.{◌>>=◌, Read, byte, one_at, syntax_at}
use Rattle.ltfs_documents.specs.DocFields.StartTag.{name_at, named_at}
use Rattle.ltfs_documents.specs.DocFields.EndTag.{end_at}

bind_ok : {A B : Type 0} (r : Read A) (f : A → Read B) (y : B) → (r >>= f) ≡ Ok y → (x : A) × (r ≡ Ok x) × (f x ≡ Ok y)
bind_ok (Ok x) f y e = (x, refl, e)
bind_ok (Err d) f y e = absurd cc

guard_ok : {A : Type 0} (b : Bool) (d : FieldErr) (x y : A) → cond b (Ok x) (Err d) ≡ Ok y → (b ≡ true) × (x ≡ y)
guard_ok true d x y e = (refl, cc)
guard_ok false d x y e = absurd cc

one_ok : (b : ℕ) (text : List ℕ) (at n : ℕ) → one_at b text at ≡ Ok n → ((byte text at == b) ≡ true) × (at + 1 ≡ n)
one_ok b text at n e = guard_ok (byte text at == b) _ (at + 1) n e

-- a name doesn't begin with a slash
name_begins : (text : List ℕ) (at n : ℕ) → name_at text at ≡ Ok n → (byte text at == 47) ≡ false
unfolding name_at
name_begins text at n e =
    let go : (b : Bool) → (byte text at == 47) ≡ b → (byte text at == 47) ≡ false = λ b. elim b as (λ b. (byte text at == 47) ≡ b → (byte text at == 47) ≡ false) [
      | false ↦ λ h. h
      | true ↦ λ h.
          let is : byte text at ≡ 47 = eqb-true _ _ h in
          let bad : ◌≡◌ {A = Read ℕ} (syntax_at at) (Ok n) = rw is at e in
          absurd (cc)
    ] in
    go (byte text at == 47) refl

-- an element with a name is no end tag
pub named_opens : (text : List ℕ) (at : ℕ) (t : Tag × ℕ) → named_at text at ≡ Ok t → (byte text at == 60 && byte text (at + 1) == 47) ≡ false
unfolding named_at
named_opens text at t e =
    let a = bind_ok (one_at 60 text at) _ t e in
    let b = bind_ok (name_at text a.0) _ t a.2 in
    let o = one_ok 60 text at a.0 a.1 in
    let n : (byte text (at + 1) == 47) ≡ false = name_begins text (at + 1) b.0 (ap (name_at text) o.1 ∙ b.1) in
    rw (o.0, n) refl

-- an end tag begins with a less-than sign and a slash
pub end_closes : (text : List ℕ) (at : ℕ) (tag : Tag) (next : ℕ) → end_at text at tag ≡ Ok next → (byte text at == 60 && byte text (at + 1) == 47) ≡ true
unfolding end_at
end_closes text at tag next e =
    let a = bind_ok (one_at 60 text at) _ next e in
    let b = bind_ok (one_at 47 text a.0) _ next a.2 in
    let o = one_ok 60 text at a.0 a.1 in
    let n = one_ok 47 text (at + 1) b.0 (ap (one_at 47 text) o.1 ∙ b.1) in
    rw (o.0, n.0) refl
