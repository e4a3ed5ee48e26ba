-- Calls, as they are read and as they are spelled.
use Rattle.std.proofs.Common.{◌≡◌, ℕ, ◌≤◌, Bool, true, false, cond, List, [], ◌∷◌, length, sym, ap, ◌∙◌, refl, subst, eqb, Some, None, Ok, Err}
use Rattle.std.specs.Prelude.{Option, Result, ◌||◌, codes}
use Rattle.std.specs.List.{AllByRecursion, list_any}
use Rattle.std.specs.Str.{bytes_eq}
use Rattle.std.proofs.lemmas.Bool.{eq-eqb}
use Rattle.std.proofs.lemmas.Slice.Eq.{bytes_eq-Decides}
use Rattle.plain_tree.specs.declared.calls.Call.{Call}
use Rattle.plain_tree.specs.declared.calls.Call.TheVariants.{Mkdir, Create, Write, Truncate, Read, Listing, Stat, Rename, Remove, Setx, Getx, Dropx, Readonly, LockVolume, UnlockVolume, PermLock, Sync}
use Rattle.session_script.specs.declared.scripts.ScriptWhy.{ScriptWhy}
use Rattle.session_script.specs.declared.scripts.ScriptWhy.TheVariants as reasons
use Rattle.session_script.specs.declared.words.Verb.{Verb}
use Rattle.session_script.specs.declared.words.Verb.TheVariants as verbs
use Rattle.session_script.specs.Forms.{Values, verb_text, forms_of, call_for}
use Rattle.session_script.specs.Words.{is_empty, verb_of}
use Rattle.session_script.specs.Grammar.{read_as, read_forms, call_by, call_with, call_of}
use Rattle.session_script.specs.ScriptRefusals.{HasWords, NamesVerb}
use Rattle.session_script.specs.ScriptText.{SpellValues, SpellsVerb, SpellsCall}
use Rattle.session_script.proofs.PathLaws.{empty_no}
use Rattle.session_script.proofs.FormLaws.{values_full, values_count, forms_found, forms_only}

test : (word text : List ℕ) (v verb : Verb) (o : Option Verb) → verb_text v ≡ text → (o ≡ Some verb → word ≡ verb_text verb) → cond (bytes_eq word text) (Some v) o ≡ Some verb → word ≡ verb_text verb
test word text v verb o named later e = at (bytes_eq word text) refl e
  where
    at : (b : Bool) → bytes_eq word text ≡ b → cond b (Some v) o ≡ Some verb → word ≡ verb_text verb
    at true is h = let same : v ≡ verb = cc in (bytes_eq-Decides word text).0 is ∙ sym named ∙ ap verb_text same
    at false is h = later h

-- a word that is read as a verb is that verb's
pub verb_found : (word : List ℕ) (verb : Verb) → verb_of word ≡ Some verb → word ≡ verb_text verb
verb_found word verb e =
    test word (codes "mkdir") verbs.Mkdir verb _ refl (
    test word (codes "create") verbs.Create verb _ refl (
    test word (codes "write") verbs.Write verb _ refl (
    test word (codes "truncate") verbs.Truncate verb _ refl (
    test word (codes "read") verbs.Read verb _ refl (
    test word (codes "list") verbs.List verb _ refl (
    test word (codes "stat") verbs.Stat verb _ refl (
    test word (codes "rename") verbs.Rename verb _ refl (
    test word (codes "remove") verbs.Remove verb _ refl (
    test word (codes "setx") verbs.Setx verb _ refl (
    test word (codes "getx") verbs.Getx verb _ refl (
    test word (codes "dropx") verbs.Dropx verb _ refl (
    test word (codes "readonly") verbs.Readonly verb _ refl (
    test word (codes "lock") verbs.Lock verb _ refl (
    test word (codes "unlock") verbs.Unlock verb _ refl (
    test word (codes "permlock") verbs.Permlock verb _ refl (
    test word (codes "sync") verbs.Sync verb None refl (λ h. cc))))))))))))))))) e

-- a word that names a verb names that alone
pub verb_only : (verb : Verb) → verb_of (verb_text verb) ≡ Some verb
verb_only verbs.Mkdir = refl
verb_only _ = refl

read_ok : {A B : Type 0} (o : Option A) (why : ScriptWhy) (next : A → Result B ScriptWhy) (r : B) → read_as o why next ≡ Ok r → (v : A) × (o ≡ Some v) × (next v ≡ Ok r)
read_ok None why next r e = cc
read_ok (Some v) why next r e = (v, refl, e)

ok_same : (a b : Call) → (let r : Result Call ScriptWhy = Ok a in r) ≡ Ok b → a ≡ b
ok_same a b e = cc

-- the words of a verb and of values are those of its call
told : (words : List (List ℕ)) (verb : Verb) (values : Values (forms_of verb)) → SpellsVerb words verb values → SpellsCall words (call_for verb values)
told words verbs.Mkdir values h = h
told words _ values h = h

by_found : (verb : Verb) (rest : List (List ℕ)) (call : Call) → call_by verb rest ≡ Ok call → (values : Values (forms_of verb)) × SpellValues (forms_of verb) rest values × (call_for verb values ≡ call)
by_found verb rest call e = at (eqb (length rest) (length (forms_of verb))) e
  where
    at : (b : Bool) → cond b (read_forms (forms_of verb) rest (λ values. Ok (call_for verb values))) (Err reasons.Words) ≡ Ok call
        → (values : Values (forms_of verb)) × SpellValues (forms_of verb) rest values × (call_for verb values ≡ call)
    at true h =
        let read = forms_found (forms_of verb) rest (λ values. Ok (call_for verb values)) call h in (read.0, read.1, ok_same _ call read.2)
    at false h = cc

-- words that are read as a call spell it
pub call_found : (words : List (List ℕ)) (call : Call) → call_of words ≡ Ok call → SpellsCall words call
call_found [] call e = cc
call_found (word ∷ words) call e =
    let verb = read_ok (verb_of word) reasons.Verb (λ v. call_with v words) call e in
    let read = by_found verb.0 words call (full (list_any is_empty words) verb.0 verb.2) in
    subst (SpellsCall (word ∷ words)) read.2 (told (word ∷ words) verb.0 read.0 (record {
      rest = words;
      are = ap (λ w. w ∷ words) (verb_found word verb.0 verb.1);
      spelled = read.1;
    }))
  where
    full : (b : Bool) (v : Verb) → cond b (Err reasons.Words) (call_by v words) ≡ Ok call → call_by v words ≡ Ok call
    full true v h = cc
    full false v h = h

-- of words with a byte or more each none is found empty
pub none_empty : (words : List (List ℕ)) → AllByRecursion (λ w. 1 ≤ length w) words → list_any is_empty words ≡ false
none_empty [] h = refl
none_empty (w ∷ words) h = ap (λ b. b || list_any is_empty words) (empty_no w h.0) ∙ none_empty words h.1

-- the words behind a session are read by their verb
pub by_verb : (words : List (List ℕ)) (verb : Verb) (rest : List (List ℕ)) → NamesVerb words verb rest → call_of words ≡ call_with verb rest
by_verb words verb rest h = ap call_of h ∙ ap (λ o. read_as o reasons.Verb (λ v. call_with v rest)) (verb_only verb)

-- as many words as a verb has forms, none of them empty, are read by these forms
pub by_forms : (verb : Verb) (rest : List (List ℕ)) → HasWords verb rest → call_with verb rest ≡ read_forms (forms_of verb) rest (λ values. Ok (call_for verb values))
by_forms verb rest h =
    ap (λ b. cond b (Err reasons.Words) (call_by verb rest)) (none_empty rest h.full)
    ∙ ap (λ b. cond b (read_forms (forms_of verb) rest (λ values. Ok (call_for verb values))) (Err reasons.Words)) (eq-eqb (length rest) (length (forms_of verb)) h.count)

verb_read : (words : List (List ℕ)) (verb : Verb) (values : Values (forms_of verb)) → SpellsVerb words verb values → call_of words ≡ Ok (call_for verb values)
verb_read words verb values h =
    by_verb words verb h.rest h.are
    ∙ by_forms verb h.rest (record { count = values_count (forms_of verb) h.rest values h.spelled; full = values_full (forms_of verb) h.rest values h.spelled })
    ∙ forms_only (forms_of verb) h.rest (λ more. Ok (call_for verb more)) values h.spelled

-- words that spell a call are read as that call
pub call_only : (words : List (List ℕ)) (call : Call) → SpellsCall words call → call_of words ≡ Ok call
call_only words (Mkdir path) h = verb_read words verbs.Mkdir (path, tt) h
call_only words (Create path) h = verb_read words verbs.Create (path, tt) h
call_only words (Write path offset bytes) h = verb_read words verbs.Write (path, (offset, (bytes, tt))) h
call_only words (Truncate path length) h = verb_read words verbs.Truncate (path, (length, tt)) h
call_only words (Read path offset count) h = verb_read words verbs.Read (path, (offset, (count, tt))) h
call_only words (Listing path) h = verb_read words verbs.List (path, tt) h
call_only words (Stat path) h = verb_read words verbs.Stat (path, tt) h
call_only words (Rename from to) h = verb_read words verbs.Rename (from, (to, tt)) h
call_only words (Remove path) h = verb_read words verbs.Remove (path, tt) h
call_only words (Setx path key bytes) h = verb_read words verbs.Setx (path, (key, (bytes, tt))) h
call_only words (Getx path key) h = verb_read words verbs.Getx (path, (key, tt)) h
call_only words (Dropx path key) h = verb_read words verbs.Dropx (path, (key, tt)) h
call_only words (Readonly path on) h = verb_read words verbs.Readonly (path, (on, tt)) h
call_only words LockVolume h = verb_read words verbs.Lock tt h
call_only words UnlockVolume h = verb_read words verbs.Unlock tt h
call_only words PermLock h = verb_read words verbs.Permlock tt h
call_only words Sync h = verb_read words verbs.Sync tt h
