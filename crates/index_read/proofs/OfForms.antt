-- Values that are told, by their kinds: one after the other, and those that must be there.
use Rattle.std.proofs.Common.{◌≡◌, ℕ, List, Bool, Option, Some, None, refl, ap, ◌∙◌}
use Rattle.std.specs.Option.{option_map}
use Rattle.tape_types.specs.declared.times.Civil.{Civil}
use Rattle.ltfs_documents.specs.declared.doc_fields.tags.Tag.{Tag}
use Rattle.ltfs_documents.specs.declared.doc_fields.values.LockState.{LockState}
use Rattle.ltfs_documents.specs.declared.doc_elements.schema.Container.{Container}
use Rattle.ltfs_documents.specs.declared.doc_elements.schema.Form.{Form}
use Rattle.ltfs_documents.specs.declared.doc_elements.schema.Child.TheVariants as child
use Rattle.ltfs_documents.specs.DocElements.Schema.{rule}
use Rattle.ltfs_documents.specs.DocElements.Pieces.{Val, words, time, uuid, letter, number, truth, lock, bytes}
use Rattle.ltfs_documents.specs.DocElements.Elements.{Items}
use Rattle.index_model.specs.Grammar.{or_else, told}
use Rattle.index_read.specs.Told.{words_or, words_told, time_or, uuid_or, letter_or, number_or, truth_or, lock_told, bytes_or}
use Rattle.index_read.proofs.Fits.{HasForm, Fits, told_form}

-- where a value is told, it is of this kind
abbrev pub IsOf : {A : Type 0} → (A → Val) → Option Val → Type 0
IsOf {A} view o = (v : Val) → o ≡ Some v → (x : A) × (v ≡ view x)

-- nothing told later leaves what was told
pub or_none : {X : Type 0} (o : Option X) → or_else o None ≡ o
or_none (Some x) = refl
or_none None = refl

-- a later number replaces the one told before
pub number_step : (a : ℕ) (early late : Option Val) → IsOf number late → number_or a (or_else late early) ≡ number_or (number_or a early) late
number_step a early None of = refl
number_step a early (Some v) of = let h = of v refl in rw h.1 refl

-- a later letter replaces the one told before
pub letter_step : (a : ℕ) (early late : Option Val) → IsOf letter late → letter_or a (or_else late early) ≡ letter_or (letter_or a early) late
letter_step a early None of = refl
letter_step a early (Some v) of = let h = of v refl in rw h.1 refl

-- a later text replaces the one told before
pub words_step : (a : List ℕ) (early late : Option Val) → IsOf words late → words_or a (or_else late early) ≡ words_or (words_or a early) late
words_step a early None of = refl
words_step a early (Some v) of = let h = of v refl in rw h.1 refl

-- a later time replaces the one told before
pub time_step : (a : Civil) (early late : Option Val) → IsOf time late → time_or a (or_else late early) ≡ time_or (time_or a early) late
time_step a early None of = refl
time_step a early (Some v) of = let h = of v refl in rw h.1 refl

-- a later truth value replaces the one told before
pub truth_step : (a : Bool) (early late : Option Val) → IsOf truth late → truth_or a (or_else late early) ≡ truth_or (truth_or a early) late
truth_step a early None of = refl
truth_step a early (Some v) of = let h = of v refl in rw h.1 refl

-- a later UUID replaces the one told before
pub uuid_step : (a : ℕ) (early late : Option Val) → IsOf uuid late → uuid_or a (or_else late early) ≡ uuid_or (uuid_or a early) late
uuid_step a early None of = refl
uuid_step a early (Some v) of = let h = of v refl in rw h.1 refl

-- later bytes replace those told before
pub bytes_step : (a : List ℕ) (early late : Option Val) → IsOf bytes late → bytes_or a (or_else late early) ≡ bytes_or (bytes_or a early) late
bytes_step a early None of = refl
bytes_step a early (Some v) of = let h = of v refl in rw h.1 refl

-- a later state of the lock replaces the one told before
pub lock_step : (a : Option LockState) (early late : Option Val) → IsOf lock late → lock_told a (or_else late early) ≡ lock_told (lock_told a early) late
lock_step a early None of = refl
lock_step a early (Some v) of = let h = of v refl in rw h.1 refl

-- a later text that need not be there replaces the one told before
pub words_told_step : (a : Option (List ℕ)) (early late : Option Val) → IsOf words late → words_told a (or_else late early) ≡ words_told (words_told a early) late
words_told_step a early None of = refl
words_told_step a early (Some v) of = let h = of v refl in rw h.1 refl

-- a value of this kind is told
abbrev pub IsTold : {A : Type 0} → (A → Val) → Option Val → Type 0
IsTold {A} view o = (v : Val) × (o ≡ Some v) × ((x : A) × (v ≡ view x))

-- where a number is told, the one that is taken is the one told
pub number_known : (a : ℕ) (o : Option Val) → IsTold number o → o ≡ Some (number (number_or a o))
number_known a o h = let e : o ≡ Some (number h.2.0) = h.1 ∙ ap (λ (v : Val). Some v) h.2.1 in rw e refl

-- where a letter is told, the one that is taken is the one told
pub letter_known : (a : ℕ) (o : Option Val) → IsTold letter o → o ≡ Some (letter (letter_or a o))
letter_known a o h = let e : o ≡ Some (letter h.2.0) = h.1 ∙ ap (λ (v : Val). Some v) h.2.1 in rw e refl

-- where a text is told, the one that is taken is the one told
pub words_known : (a : List ℕ) (o : Option Val) → IsTold words o → o ≡ Some (words (words_or a o))
words_known a o h = let e : o ≡ Some (words h.2.0) = h.1 ∙ ap (λ (v : Val). Some v) h.2.1 in rw e refl

-- where a time is told, the one that is taken is the one told
pub time_known : (a : Civil) (o : Option Val) → IsTold time o → o ≡ Some (time (time_or a o))
time_known a o h = let e : o ≡ Some (time h.2.0) = h.1 ∙ ap (λ (v : Val). Some v) h.2.1 in rw e refl

-- where a truth value is told, the one that is taken is the one told
pub truth_known : (a : Bool) (o : Option Val) → IsTold truth o → o ≡ Some (truth (truth_or a o))
truth_known a o h = let e : o ≡ Some (truth h.2.0) = h.1 ∙ ap (λ (v : Val). Some v) h.2.1 in rw e refl

-- where a UUID is told, the one that is taken is the one told
pub uuid_known : (a : ℕ) (o : Option Val) → IsTold uuid o → o ≡ Some (uuid (uuid_or a o))
uuid_known a o h = let e : o ≡ Some (uuid h.2.0) = h.1 ∙ ap (λ (v : Val). Some v) h.2.1 in rw e refl

-- where bytes are told, those that are taken are those told
pub bytes_known : (a : List ℕ) (o : Option Val) → IsTold bytes o → o ≡ Some (bytes (bytes_or a o))
bytes_known a o h = let e : o ≡ Some (bytes h.2.0) = h.1 ∙ ap (λ (v : Val). Some v) h.2.1 in rw e refl

-- a value that may be told

-- a text that need not be there is taken as it is told, or not at all
pub words_may : (o : Option Val) → IsOf words o → o ≡ option_map words (words_told None o)
words_may None of = refl
words_may (Some v) of = let h = of v refl in rw h.1 refl

-- a state of the lock that need not be there is taken as told, or not at all
pub lock_may : (o : Option Val) → IsOf lock o → o ≡ option_map lock (lock_told None o)
lock_may None of = refl
lock_may (Some v) of = let h = of v refl in rw h.1 refl

-- what is told of a leaf is of the leaf's kind
pub has_form : (p : Container) (seen : List Tag) (is : Items) (t : Tag) (f : Form) → Fits p seen is → rule p t ≡ child.Leaf f → (v : Val) → told t is ≡ Some v → HasForm f v
has_form p seen is t f fits r v e = told_form p seen is t f v fits r e
