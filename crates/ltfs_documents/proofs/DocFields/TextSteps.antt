-- Reading a text character by character.
use Rattle.std.proofs.Common.{◌≡◌, ℕ, ◌==◌, Bool, List, [], ◌∷◌, ◌++◌, length, Some, None, Ok, Err, refl, sym, ap, ◌∙◌, append_assoc, append-nil}
use Rattle.std.specs.Char.{encode_utf8}
use Rattle.std.specs.Str.{chars, encode_utf8_all}
use Rattle.std.proofs.lemmas.Str.{encodes-append}
use Rattle.ltfs_documents.specs.declared.doc_fields.errors.FieldErr.{FieldErr}
use Rattle.ltfs_documents.specs.declared.doc_fields.errors.Why.{Why}
use Rattle.ltfs_documents.specs.declared.doc_fields.errors.Why.TheVariants as why
use Rattle.ltfs_documents.specs.DocFields.Characters.{IsTaken}
use Rattle.ltfs_documents.specs.DocFields.Reading.{FailsBy, Read, ◌>>=◌, between}
use Rattle.ltfs_documents.specs.DocFields.Texts.{put_front, resolved, resolved_text, run_text, text_at, text_end}

-- characters in front of what is read
abbrev pub put_all : List ℕ → Read (List ℕ) → Read (List ℕ)
put_all done (Ok cs) = Ok (done ++ cs)
put_all done (Err e) = Err e

-- how far a text has been read: some characters are done, and these are left
pub record IsKept (whole left : Read (List ℕ)) (out : List ℕ) : Type 0 where
  pub done : List ℕ
  pub written : out ≡ encode_utf8_all done
  pub so_far : put_all done left ≡ whole

put_none : (r : Read (List ℕ)) → put_all [] r ≡ r
put_none (Ok cs) = refl
put_none (Err e) = refl

put_more : (done : List ℕ) (c : ℕ) (r : Read (List ℕ)) → put_all done (put_front c r) ≡ put_all (done ++ c ∷ []) r
put_more done c (Ok cs) = ap Ok (sym (append_assoc done (c ∷ []) cs))
put_more done c (Err e) = refl

-- at the beginning nothing is done
begins_kept : (whole : Read (List ℕ)) (out : List ℕ) → out ≡ [] → IsKept whole whole out
begins_kept whole out none = record { done = []; written = none; so_far = put_none whole }

-- one character more is done
pub takes_unit : (whole left behind : Read (List ℕ)) (c : ℕ) (out new : List ℕ) → IsKept whole left out → IsTaken (Some (Ok c)) left behind → new ≡ out ++ encode_utf8 c → IsKept whole behind new
takes_unit whole left behind c out new h one add = record {
  done = h.done ++ c ∷ [];
  written = add ∙ ap (λ (b : List ℕ). b ++ encode_utf8 c) h.written ∙ ap (λ (b : List ℕ). encode_utf8_all h.done ++ b) (sym (append-nil (encode_utf8 c))) ∙ sym (encodes-append h.done (c ∷ []));
  so_far = sym (put_more h.done c behind) ∙ sym (ap (put_all h.done) one) ∙ h.so_far;
}

-- none is left
pub ends_text : (cut : Bool) (at : ℕ) (text out : List ℕ) (left behind : Read (List ℕ)) → IsKept (resolved cut 0 at (chars text)) left out → IsTaken None left behind → resolved_text cut at text ≡ Ok out
unfolding resolved_text
ends_text cut at text out left behind h none =
    let all : Ok h.done ≡ resolved cut 0 at (chars text) = ap Ok (sym (append-nil h.done)) ∙ sym (ap (put_all h.done) none) ∙ h.so_far in
    ap (λ (r : Read (List ℕ)). r >>= λ cs. Ok (encode_utf8_all cs)) (sym all) ∙ ap Ok (sym h.written)

-- one may not stand there
pub stops_text : (cut : Bool) (at : ℕ) (text out : List ℕ) (left behind : Read (List ℕ)) (fault : FieldErr) → IsKept (resolved cut 0 at (chars text)) left out → IsTaken (Some (Err fault)) left behind
    → resolved_text cut at text ≡ Err fault
unfolding resolved_text
stops_text cut at text out left behind fault h is = ap (λ (r : Read (List ℕ)). r >>= λ cs. Ok (encode_utf8_all cs)) (sym h.so_far ∙ ap (put_all h.done) is)

-- a refusal is one whatever its cause
pub fails : {A : Type 0} (e : FieldErr) (read : Read A) → read ≡ Err e → FailsBy e.why e read
fails e read is = by_why e.why
  where
    by_why : (w : Why) → FailsBy w e read
    by_why why.Syntax = is
    by_why why.Unknown = is
    by_why why.Version = is
    by_why why.Number = is
    by_why why.NoMemory = tt

-- ---- a text is looked over

-- some characters of the whole have been read, and these are left
abbrev pub AreLooked : Read (List ℕ) → Read (List ℕ) → Type 0
AreLooked whole left = (out : List ℕ) × IsKept whole left out

looks_begin : (whole : Read (List ℕ)) → AreLooked whole whole
looks_begin whole = ([], begins_kept whole [] refl)

-- one character more has been read
pub looks_on : (whole left behind : Read (List ℕ)) (c : ℕ) → AreLooked whole left → IsTaken (Some (Ok c)) left behind → AreLooked whole behind
looks_on whole left behind c h one = (h.0 ++ encode_utf8 c, takes_unit whole left behind c h.0 _ h.1 one refl)

looked_all : (whole left behind : Read (List ℕ)) → AreLooked whole left → IsTaken None left behind → (cs : List ℕ) × (whole ≡ Ok cs)
looked_all whole left behind h none = (h.1.done, sym (ap Ok (sym (append-nil h.1.done)) ∙ sym (ap (put_all h.1.done) none) ∙ h.1.so_far))

looked_till : (whole left behind : Read (List ℕ)) (fault : FieldErr) → AreLooked whole left → IsTaken (Some (Err fault)) left behind → whole ≡ Err fault
looked_till whole left behind fault h is = sym h.1.so_far ∙ ap (put_all h.1.done) is

-- a text that was looked over to its end is that of its characters
pub looked_over : (cut : Bool) (at : ℕ) (text cs : List ℕ) → resolved cut 0 at (chars text) ≡ Ok cs → resolved_text cut at text ≡ Ok (encode_utf8_all cs)
unfolding resolved_text
looked_over cut at text cs is = ap (λ (r : Read (List ℕ)). r >>= λ cs. Ok (encode_utf8_all cs)) is

-- a text is refused where one of its characters is
pub looked_to : (cut : Bool) (at : ℕ) (text : List ℕ) (fault : FieldErr) → resolved cut 0 at (chars text) ≡ Err fault → resolved_text cut at text ≡ Err fault
unfolding resolved_text
looked_to cut at text fault is = ap (λ (r : Read (List ℕ)). r >>= λ cs. Ok (encode_utf8_all cs)) is

-- a text is that of its run of bytes
pub text_read : (text value : List ℕ) (at end : ℕ) → end ≡ text_end text at → run_text (end == length text) at (between text at end) ≡ Ok value → text_at text at ≡ Ok (value, end)
unfolding text_at
text_read text value at end is read =
    ap (λ k. run_text (k == length text) at (between text at k) >>= λ v. Ok (v, k)) (sym is) ∙ ap (λ (r : Read (List ℕ)). r >>= λ v. Ok (v, end)) read

-- a text is refused where its run of bytes is
pub text_refused : (text : List ℕ) (at end : ℕ) (fault : FieldErr) → end ≡ text_end text at → run_text (end == length text) at (between text at end) ≡ Err fault → text_at text at ≡ Err fault
unfolding text_at
text_refused text at end fault is read =
    ap (λ k. run_text (k == length text) at (between text at k) >>= λ v. Ok (v, k)) (sym is) ∙ ap (λ (r : Read (List ℕ)). r >>= λ v. Ok (v, end)) read
