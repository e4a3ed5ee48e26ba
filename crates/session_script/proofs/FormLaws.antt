-- The words behind a verb, each by its form, as they are read and as they are spelled.
use Rattle.std.proofs.Common.{◌≡◌, ⊎_elim, inl, inr, ℕ, ◌≤◌, Bool, true, false, cond, List, [], ◌∷◌, length, sym, ap, ◌∙◌, refl, subst, arith, Some, None, Ok, Err}
use Rattle.std.specs.Prelude.{Option, Result, codes}
use Rattle.std.specs.List.{AllByRecursion}
use Rattle.std.specs.Str.{bytes_eq}
use Rattle.std.proofs.lemmas.Slice.Eq.{bytes_eq-Decides}
use Rattle.plain_tree.specs.declared.calls.Call.{Call}
use Rattle.session_script.specs.declared.scripts.ScriptWhy.{ScriptWhy}
use Rattle.session_script.specs.Forms.{Form, Value, Values, a_path, a_key, a_flag, a_number, some_bytes, reason_of}
use Rattle.session_script.specs.Words.{flag_of, value_of}
use Rattle.session_script.specs.Grammar.{read_as, read_forms}
use Rattle.session_script.specs.ScriptText.{SpellsPath, SpellsFlag, SpellsValue, SpellValues}
use Rattle.session_script.specs.ScriptRefusals.{HasForm, FirstWrong}
use Rattle.session_script.proofs.NumberLaws.{number_found, number_only}
use Rattle.session_script.proofs.PathLaws.{path_found, path_only, text_found, text_only}
use Rattle.session_script.proofs.BytesLaws.{bytes_found, bytes_only, bytes_some}

flag_found : (word : List ℕ) (on : Bool) → flag_of word ≡ Some on → SpellsFlag word on
flag_found word on e = at (bytes_eq word (codes "true")) refl (bytes_eq word (codes "false")) refl e
  where
    at : (b : Bool) → bytes_eq word (codes "true") ≡ b → (c : Bool) → bytes_eq word (codes "false") ≡ c → cond b (Some true) (cond c (Some false) None) ≡ Some on → SpellsFlag word on
    at true is c also h = let same : true ≡ on = cc in subst (SpellsFlag word) same ((bytes_eq-Decides word (codes "true")).0 is)
    at false is true also h = let same : false ≡ on = cc in subst (SpellsFlag word) same ((bytes_eq-Decides word (codes "false")).0 also)
    at false is false also h = cc

flag_only : (word : List ℕ) (on : Bool) → SpellsFlag word on → flag_of word ≡ Some on
flag_only word true h = ap flag_of h
flag_only word false h = ap flag_of h

-- a word that is read by a form is of that form
pub value_found : (form : Form) (word : List ℕ) (value : Value form) → value_of form word ≡ Some value → SpellsValue form word value
value_found a_path word value e = path_found word value e
value_found a_key word value e = text_found word value e
value_found a_flag word value e = flag_found word value e
value_found a_number word value e = number_found word value e
value_found some_bytes word value e = bytes_found word value e

-- a word of a form is read by that form
pub value_only : (form : Form) (word : List ℕ) (value : Value form) → SpellsValue form word value → value_of form word ≡ Some value
value_only a_path word value h = path_only word value h
value_only a_key word value h = text_only word value h
value_only a_flag word value h = flag_only word value h
value_only a_number word value h = number_only word value h
value_only some_bytes word value h = bytes_only word value h

path_some : (word : List ℕ) (path : List (List ℕ)) → SpellsPath word path → 1 ≤ length word
path_some word [] h = rw h (omega arith)
path_some word (name ∷ names) h = rw h.2 (omega arith)

flag_some : (word : List ℕ) (on : Bool) → SpellsFlag word on → 1 ≤ length word
flag_some word true h = rw h (omega arith)
flag_some word false h = rw h (omega arith)

value_some : (form : Form) (word : List ℕ) (value : Value form) → SpellsValue form word value → 1 ≤ length word
value_some a_path word value h = path_some word value h
value_some a_key word value h = h.some
value_some a_flag word value h = flag_some word value h
value_some a_number word value h = h.some
value_some some_bytes word value h = bytes_some word value h

-- words of forms are not empty
pub values_full : (forms : List Form) (words : List (List ℕ)) (values : Values forms) → SpellValues forms words values → AllByRecursion (λ w. 1 ≤ length w) words
values_full [] [] values h = tt
values_full [] (word ∷ words) values h = absurd h
values_full (form ∷ forms) [] values h = absurd h
values_full (form ∷ forms) (word ∷ words) values h = (value_some form word values.0 h.0, values_full forms words values.1 h.1)

-- words of forms are as many as these
pub values_count : (forms : List Form) (words : List (List ℕ)) (values : Values forms) → SpellValues forms words values → length words ≡ length forms
values_count [] [] values h = refl
values_count [] (word ∷ words) values h = absurd h
values_count (form ∷ forms) [] values h = absurd h
values_count (form ∷ forms) (word ∷ words) values h = omega (arith, values_count forms words values.1 h.1)

-- words that are read by forms are of these, and what they stand for goes on
pub forms_found : (forms : List Form) (words : List (List ℕ)) (next : Values forms → Result Call ScriptWhy) (call : Call) → read_forms forms words next ≡ Ok call
    → (values : Values forms) × SpellValues forms words values × (next values ≡ Ok call)
forms_found [] [] next call e = (tt, tt, e)
forms_found [] (word ∷ words) next call e = cc
forms_found (form ∷ forms) [] next call e = cc
forms_found (form ∷ forms) (word ∷ words) next call e = at (value_of form word) refl e (λ value h. forms_found forms words (λ values. next (value, values)) call h)
  where
    at : (o : Option (Value form)) → value_of form word ≡ o → read_as o (reason_of form) (λ value. read_forms forms words (λ values. next (value, values))) ≡ Ok call
        → ((value : Value form) → read_forms forms words (λ values. next (value, values)) ≡ Ok call → (values : Values forms) × SpellValues forms words values × (next (value, values) ≡ Ok call))
        → (values : Values (form ∷ forms)) × SpellValues (form ∷ forms) (word ∷ words) values × (next values ≡ Ok call)
    at None is h later = cc
    at (Some value) is h later = let more = later value h in ((value, more.0), (value_found form word value is, more.1), more.2)

-- words of forms are read by these
pub forms_only : (forms : List Form) (words : List (List ℕ)) (next : Values forms → Result Call ScriptWhy) (values : Values forms) → SpellValues forms words values
    → read_forms forms words next ≡ next values
forms_only [] [] next values h = refl
forms_only [] (word ∷ words) next values h = absurd h
forms_only (form ∷ forms) [] next values h = absurd h
forms_only (form ∷ forms) (word ∷ words) next values h =
    ap (λ o. read_as o (reason_of form) (λ value. read_forms forms words (λ more. next (value, more)))) (value_only form word values.0 h.0)
    ∙ forms_only forms words (λ more. next (values.0, more)) values.1 h.1

no_value : (form : Form) (word : List ℕ) → value_of form word ≡ None → HasForm form word → ⊥
no_value form word is h = let some : value_of form word ≡ Some h.0 = value_only form word h.0 h.1 in cc

no_form : (form : Form) (word : List ℕ) → (HasForm form word → ⊥) → value_of form word ≡ None
no_form form word never = at (value_of form word) refl
  where
    at : (o : Option (Value form)) → value_of form word ≡ o → value_of form word ≡ None
    at None is = is
    at (Some value) is = absurd (never (value, value_found form word value is))

-- as many words as forms that are refused have a first one that isn't of its form
pub wrong_found : (forms : List Form) (words : List (List ℕ)) (next : Values forms → Result Call ScriptWhy) (told : ScriptWhy) → length words ≡ length forms
    → ((values : Values forms) → next values ≡ Err told → ⊥) → read_forms forms words next ≡ Err told → FirstWrong forms words told
wrong_found [] [] next told count never e = absurd (never tt e)
wrong_found [] (word ∷ words) next told count never e = absurd (omega (arith, count))
wrong_found (form ∷ forms) [] next told count never e = absurd (omega (arith, count))
wrong_found (form ∷ forms) (word ∷ words) next told count never e =
    at (value_of form word) refl e (λ value h. wrong_found forms words (λ values. next (value, values)) told (omega (arith, count)) (λ values. never (value, values)) h)
  where
    at : (o : Option (Value form)) → value_of form word ≡ o → read_as o (reason_of form) (λ value. read_forms forms words (λ values. next (value, values))) ≡ Err told
        → ((value : Value form) → read_forms forms words (λ values. next (value, values)) ≡ Err told → FirstWrong forms words told) → FirstWrong (form ∷ forms) (word ∷ words) told
    at None is h later = let same : told ≡ reason_of form = cc in inl (no_value form word is, same)
    at (Some value) is h later = inr ((value, value_found form word value is), later value h)

-- words of which a first one isn't of its form are refused for it
pub wrong_only : (forms : List Form) (words : List (List ℕ)) (next : Values forms → Result Call ScriptWhy) (why : ScriptWhy) → FirstWrong forms words why → read_forms forms words next ≡ Err why
wrong_only [] [] next why h = absurd h
wrong_only [] (word ∷ words) next why h = absurd h
wrong_only (form ∷ forms) [] next why h = absurd h
wrong_only (form ∷ forms) (word ∷ words) next why h = ⊎_elim
    (λ (here : (HasForm form word → ⊥) × (why ≡ reason_of form)).
    ap (λ o. read_as o (reason_of form) (λ value. read_forms forms words (λ more. next (value, more)))) (no_form form word here.0) ∙ ap Err (sym here.1))
    (λ (later : HasForm form word × FirstWrong forms words why).
    ap (λ o. read_as o (reason_of form) (λ value. read_forms forms words (λ more. next (value, more)))) (value_only form word later.0.0 later.0.1)
    ∙ wrong_only forms words (λ more. next (later.0.0, more)) why later.1)
    h

-- the reason of a first word that isn't of its form is that of a form
pub wrong_reason : (forms : List Form) (words : List (List ℕ)) (why : ScriptWhy) → FirstWrong forms words why → (form : Form) × (why ≡ reason_of form)
wrong_reason [] [] why h = absurd h
wrong_reason [] (word ∷ words) why h = absurd h
wrong_reason (form ∷ forms) [] why h = absurd h
wrong_reason (form ∷ forms) (word ∷ words) why h = ⊎_elim
    (λ (here : (HasForm form word → ⊥) × (why ≡ reason_of form)). (form, here.1))
    (λ (later : HasForm form word × FirstWrong forms words why). wrong_reason forms words why later.1)
    h
