-- Texts that are appended one behind the other, of which the last may fail.
use Rattle.std.proofs.Common.{◌≡◌, List, ℕ, Ok, Err, Result, OnOk, OnErr, ◌++◌, append_assoc, append-nil, ap, ◌∙◌, sym, ◌+◌, ◌<◌, [], ◌∷◌, length, get_or, take}
use Rattle.std.specs.List.{flat_map}
use Rattle.std.proofs.lemmas.Grind.{flat_map-append}
use Rattle.std.proofs.lemmas.List.{take_more}
use Rattle.ltfs_documents.specs.declared.doc_fields.starts.Attribute.TheVariants.{Absent}
use Rattle.ltfs_documents.specs.DocFields.Written.{Keeps, start_text}
use Rattle.ltfs_documents.specs.declared.doc_fields.tags.Tag.TheVariants.{AllowPolicyUpdate, Comment, Creator, File, FileUid, GenerationNumber, HighestFileUid, Length, Location, Name, PreviousGenerationLocation, ReadOnly, UpdateTime, VolumeLockState, VolumeUuid}
use Rattle.ltfs_documents.specs.DocFields.Values.{lock_word}
use Rattle.tape_types.specs.Uuids.{uuid_text}
use Rattle.index_model.specs.Canonical.{attributes, element, if_told, name, number, policy, spot, time, times, truth, volume_text, words}
use Rattle.index_model.specs.Values.{NodeFacts, VolumeFacts}
use Rattle.index_write.specs.Parts.{file_start, traits, volume_front, volume_rear}
use Rattle.tape_types.specs.declared.texts.NoMemory.{NoMemory}

abbrev Done : Type 0
Done = Result (Unit {0}) NoMemory

-- what follows from a success follows where there is one
pub ok : (r : Done) {P Q : Type 0} → (P → Q) → OnOk r P → OnOk r Q
ok (Ok _) f p = f p
ok (Err _) f p = p

-- what follows from a failure follows where there is one
pub err : (r : Done) {P Q : Type 0} → (P → Q) → OnErr r P → OnErr r Q
err (Ok _) f p = p
err (Err _) f p = f p

-- a fact that holds in any case holds after a failure too
pub told : {T : Type 0} (r : Result T NoMemory) {P : Type 0} → P → OnErr r P
told (Ok _) p = tt
told (Err _) p = p

-- what kept a text and then kept the result has kept the text
pub join : (a b c : List ℕ) → Keeps a b → Keeps b c → Keeps a c
join a b c k l = (k.0 ++ l.0, l.1 ∙ ap (λ (x : List ℕ). x ++ l.0) k.1 ∙ append_assoc a k.0 l.0)

ok2 : (r : Done) (t o a b o1 n : List ℕ) → o1 ≡ o ++ a → a ++ b ≡ t → OnOk r (n ≡ o1 ++ b) → OnOk r (n ≡ o ++ t)
ok2 r t o a b o1 n e1 is = ok r (λ e. e ∙ ap (λ (x : List ℕ). x ++ b) e1 ∙ append_assoc o a b ∙ ap (λ (x : List ℕ). o ++ x) is)

-- three texts appended one behind the other make their whole, if the last succeeds
pub ok3 : (r : Done) (t o a b c o1 o2 n : List ℕ) → o1 ≡ o ++ a → o2 ≡ o1 ++ b → a ++ b ++ c ≡ t → OnOk r (n ≡ o2 ++ c) → OnOk r (n ≡ o ++ t)
ok3 r t o a b c o1 o2 n e1 e2 is = ok2 r t o (a ++ b) c o2 n (rw (e2, e1) (append_assoc o a b)) is

-- four texts appended one behind the other make their whole, if the last succeeds
pub ok4 : (r : Done) (t o a b c d o1 o2 o3 n : List ℕ) → o1 ≡ o ++ a → o2 ≡ o1 ++ b → o3 ≡ o2 ++ c → a ++ b ++ c ++ d ≡ t → OnOk r (n ≡ o3 ++ d) → OnOk r (n ≡ o ++ t)
ok4 r t o a b c d o1 o2 o3 n e1 e2 e3 is = ok3 r t o (a ++ b) c d o2 o3 n (rw (e2, e1) (append_assoc o a b)) e3 is

-- five texts appended one behind the other make their whole, if the last succeeds
pub ok5 : (r : Done) (t o a b c d e o1 o2 o3 o4 n : List ℕ) → o1 ≡ o ++ a → o2 ≡ o1 ++ b → o3 ≡ o2 ++ c → o4 ≡ o3 ++ d → a ++ b ++ c ++ d ++ e ≡ t → OnOk r (n ≡ o4 ++ e) → OnOk r (n ≡ o ++ t)
ok5 r t o a b c d e o1 o2 o3 o4 n e1 e2 e3 e4 is = ok4 r t o (a ++ b) c d e o2 o3 o4 n (rw (e2, e1) (append_assoc o a b)) e3 e4 is

err2 : (r : Done) (o a o1 n : List ℕ) → o1 ≡ o ++ a → OnErr r (Keeps o1 n) → OnErr r (Keeps o n)
err2 r o a o1 n e1 = err r (λ k. (a ++ k.0, rw (k.1, e1) (append_assoc o a k.0)))

-- where the last of three texts fails, what stood before is kept
pub err3 : (r : Done) (o a b o1 o2 n : List ℕ) → o1 ≡ o ++ a → o2 ≡ o1 ++ b → OnErr r (Keeps o2 n) → OnErr r (Keeps o n)
err3 r o a b o1 o2 n e1 e2 h = err2 r o a o1 n e1 (err2 r o1 b o2 n e2 h)

-- where the last of four texts fails, what stood before is kept
pub err4 : (r : Done) (o a b c o1 o2 o3 n : List ℕ) → o1 ≡ o ++ a → o2 ≡ o1 ++ b → o3 ≡ o2 ++ c → OnErr r (Keeps o3 n) → OnErr r (Keeps o n)
err4 r o a b c o1 o2 o3 n e1 e2 e3 h = err2 r o a o1 n e1 (err3 r o1 b c o2 o3 n e2 e3 h)

-- where the last of five texts fails, what stood before is kept
pub err5 : (r : Done) (o a b c d o1 o2 o3 o4 n : List ℕ) → o1 ≡ o ++ a → o2 ≡ o1 ++ b → o3 ≡ o2 ++ c → o4 ≡ o3 ++ d → OnErr r (Keeps o4 n) → OnErr r (Keeps o n)
err5 r o a b c d o1 o2 o3 o4 n e1 e2 e3 e4 h = err2 r o a o1 n e1 (err4 r o1 b c d o2 o3 o4 n e2 e3 e4 h)

-- the last of five texts ends with one more
pub joined : (w s d c z : List ℕ) → w ++ (s ++ d ++ (c ++ z)) ≡ (w ++ (s ++ d ++ c)) ++ z
joined w s d c z = simp (append_assoc)

-- an element whose tags stand alone
pub file_joined : (w s d c z : List ℕ) → w ++ s ++ d ++ (c ++ z) ≡ (w ++ (s ++ d ++ c)) ++ z
file_joined w s d c z = simp (append_assoc)

front_joined : (x t r a : List ℕ) → x ++ (t ++ r ++ a) ≡ x ++ t ++ r ++ a
front_joined x t r a = simp (append_assoc)

-- what a file or a link has in front of its own last element
pub traits_joined : (f : NodeFacts) (bytes : ℕ)
    → start_text File Absent ++ number FileUid f.uid ++ name Name f.name ++ number Length bytes ++ traits f ≡ file_start f bytes
unfolding traits file_start
traits_joined f bytes =
    front_joined (start_text File Absent ++ number FileUid f.uid ++ name Name f.name ++ number Length bytes) (times f.times) (truth ReadOnly f.readonly) (attributes f.xattrs)

-- one text more of those of a list
pub one_more : {X : Type 0} (f : X → List ℕ) (old out new : List ℕ) (xs : List X) (i : ℕ) (d : X) → i < length xs → new ≡ out ++ f (get_or xs i d) → out ≡ old ++ flat_map f (take i xs) → new ≡ old ++ flat_map f (take (i + 1) xs)
one_more f old out new xs i d lt e is =
    e ∙ ap (λ (x : List ℕ). x ++ f (get_or xs i d)) is ∙ append_assoc old (flat_map f (take i xs)) (f (get_or xs i d)) ∙ ap (λ (x : List ℕ). old ++ x) (sym step)
  where
    step : flat_map f (take (i + 1) xs) ≡ flat_map f (take i xs) ++ f (get_or xs i d)
    step = ap (flat_map f) (take_more xs i d lt) ∙ flat_map-append f (take i xs) (get_or xs i d ∷ []) ∙ ap (λ (x : List ℕ). flat_map f (take i xs) ++ x) (append-nil (f (get_or xs i d)))

-- an element that is the one child of another
pub policy_joined : (a b x y c d : List ℕ) → (a ++ b) ++ x ++ y ++ (c ++ d) ≡ a ++ (b ++ (x ++ y) ++ c) ++ d
policy_joined a b x y c d = simp (append_assoc)

-- the facts of a volume, in three parts with the pointers between them
volume_joined : (a b c d e f g h i j k : List ℕ) → (a ++ b ++ c ++ d ++ e) ++ f ++ g ++ (h ++ i ++ j ++ k) ≡ a ++ b ++ c ++ d ++ e ++ f ++ g ++ h ++ i ++ j ++ k
volume_joined a b c d e f g h i j k = simp (append_assoc)

-- a whole document
pub four : (o a b c d o1 o2 o3 n : List ℕ) → o1 ≡ o ++ a → o2 ≡ o1 ++ b → o3 ≡ o2 ++ c → n ≡ o3 ++ d → n ≡ o ++ (a ++ (b ++ c) ++ d)
four o a b c d o1 o2 o3 n e1 e2 e3 e4 = rw (e4, e3, e2, e1) (simp (append_assoc))

-- the parts of a volume's text, one behind the other, are that text
pub state_laws : (v : VolumeFacts) → volume_front v ++ spot Location v.here ++ if_told v.back (spot PreviousGenerationLocation) ++ volume_rear v ≡ volume_text v
unfolding volume_front volume_rear
state_laws v = volume_joined (words Creator v.creator) (if_told v.comment (words Comment)) (element VolumeUuid (uuid_text v.uuid)) (number GenerationNumber v.generation) (time UpdateTime v.updated)
    (spot Location v.here) (if_told v.back (spot PreviousGenerationLocation))
    (truth AllowPolicyUpdate v.allow) (if_told v.policy policy) (if_told v.lock (λ state. element VolumeLockState (lock_word state))) (number HighestFileUid v.highest)
