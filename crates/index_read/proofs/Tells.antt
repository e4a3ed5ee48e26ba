-- What the elements of a document tell of the volume is one thing, and it is what a reader takes from them.
use Rattle.std.proofs.Common.{◌≡◌, ℕ, List, [], ◌∷◌, Bool, Option, Some, None, IfSome, refl, sym, ap, subst, ◌∙◌}
use Rattle.std.specs.Option.{option_map}
use Rattle.std.proofs.lemmas.Option.{same_Some}
use Rattle.tape_types.specs.declared.times.Civil.{Civil}
use Rattle.ltfs_documents.specs.declared.doc_fields.tags.Tag.TheVariants.{Creator, Comment, VolumeUuid, Partition, GenerationNumber, UpdateTime, StartBlock, AllowPolicyUpdate, Size, VolumeLockState, HighestFileUid}
use Rattle.ltfs_documents.specs.declared.doc_fields.values.LockState.{LockState}
use Rattle.index_model.specs.declared.indexes.Policy.{Policy}
use Rattle.index_model.specs.declared.indexes.Spot.{Spot}
use Rattle.ltfs_documents.specs.declared.doc_elements.schema.Container.{Container}
use Rattle.ltfs_documents.specs.declared.doc_elements.schema.Container.TheVariants as place
use Rattle.ltfs_documents.specs.declared.doc_elements.schema.Form.TheVariants as form
use Rattle.ltfs_documents.specs.declared.doc_elements.schema.Child.TheVariants as child
use Rattle.ltfs_documents.specs.DocElements.Schema.{rule, required}
use Rattle.index_model.specs.Values.{VolumeFacts}
use Rattle.ltfs_documents.specs.DocElements.Pieces.{Val, words, time, uuid, letter, number, truth, lock}
use Rattle.ltfs_documents.specs.DocElements.Elements.{Items}
use Rattle.index_model.specs.Grammar.{told, inside, names_in, TellsMaybe, TellsSpot, TellsPolicy, TellsVolume}
use Rattle.index_read.specs.Told.{blank_spot, blank_volume}
use Rattle.index_read.proofs.Fits.{Fits, must_tell}
use Rattle.index_read.proofs.Facts.{inside_fits}
use Rattle.index_read.proofs.OfForms.{has_form, words_known, words_may, time_known, uuid_known, letter_known, number_known, truth_known, lock_may}
use Rattle.index_read.proofs.Volume.{spot_told}
use Rattle.index_read.proofs.Within.{must_have, here_or, back_or, criteria_or, policy_or, volume_told}

-- ---- places and the policy

spot_tells : (p : Container) (is : Items) → Fits p [] is → (letter_rule : rule p Partition ≡ child.Leaf form.Letter) → (block_rule : rule p StartBlock ≡ child.Leaf form.Bounded) → (required p ≡ Partition ∷ StartBlock ∷ []) → TellsSpot is (spot_told is blank_spot)
spot_tells p is fits l b r = record {
  letter = letter_known 0 (told Partition is) (must_tell p is Partition form.Letter fits l (rw r refl));
  block = number_known 0 (told StartBlock is) (must_tell p is StartBlock form.Bounded fits b (rw r refl));
}

here_tells : (is : Items) (o : Option Items) → (js : Items) × (o ≡ Some js) × Fits place.Here [] js → TellsMaybe TellsSpot o (Some (here_or blank_spot o))
here_tells is o h = subst (λ x. TellsMaybe TellsSpot x (Some (here_or blank_spot x))) (sym h.1) (spot_tells place.Here h.0 h.2 refl refl refl)

back_tells : (o : Option Items) → IfSome o (λ js. Fits place.Back [] js) → TellsMaybe TellsSpot o (back_or None o)
back_tells None h = tt
back_tells (Some js) h = spot_tells place.Back js h refl refl refl

criteria_tells : (js : Items) (o : Option Items) → inside place.Criteria js ≡ o → (c : Items) × (o ≡ Some c) × Fits place.Criteria [] c → TellsMaybe TellsPolicy (Some js) (criteria_or None o)
criteria_tells js None e h = absurd (let bad : None ≡ Some h.0 = h.1 in cc)
criteria_tells js (Some d) e h =
    let same : h.0 ≡ d = cc (h.1) in
    let fits : Fits place.Criteria [] d = subst (Fits place.Criteria []) same h.2 in
    record { criteria = d; are = e; size = number_known 0 (told Size d) (must_tell place.Criteria d Size form.Bounded fits refl refl); names = refl }

policy_tells : (o : Option Items) → IfSome o (λ js. Fits place.Policy [] js) → TellsMaybe TellsPolicy o (policy_or None o)
policy_tells None h = tt
policy_tells (Some js) h = criteria_tells js (inside place.Criteria js) refl (must_have place.Policy js place.Criteria h refl refl)

if_inside : (is : Items) (p : Container) → Fits place.Index [] is → IfSome (inside p is) (λ js. Fits p [] js)
if_inside is p fits = go (inside p is) refl
  where
    go : (o : Option Items) → inside p is ≡ o → IfSome o (λ js. Fits p [] js)
    go None e = tt
    go (Some js) e = inside_fits place.Index [] is p js fits e

-- the elements of an index tell of the volume what a reader takes from them
pub volume_tells : (is : Items) → Fits place.Index [] is → TellsVolume is (volume_told is blank_volume)
volume_tells is fits =
    let p = place.Index in
    record {
      creator = words_known [] (told Creator is) (must_tell p is Creator form.Text fits refl refl);
      comment = words_may (told Comment is) (has_form p [] is Comment form.Text fits refl);
      uuid = uuid_known 0 (told VolumeUuid is) (must_tell p is VolumeUuid form.Uuid fits refl refl);
      generation = number_known 0 (told GenerationNumber is) (must_tell p is GenerationNumber form.Generation fits refl refl);
      updated = time_known blank_volume.updated (told UpdateTime is) (must_tell p is UpdateTime form.Time fits refl refl);
      here = here_tells is (inside place.Here is) (must_have p is place.Here fits refl refl);
      back = back_tells (inside place.Back is) (if_inside is place.Back fits);
      allow = truth_known blank_volume.allow (told AllowPolicyUpdate is) (must_tell p is AllowPolicyUpdate form.Truth fits refl refl);
      policy = policy_tells (inside place.Policy is) (if_inside is place.Policy fits);
      lock = lock_may (told VolumeLockState is) (has_form p [] is VolumeLockState form.Lock fits refl);
      highest = number_known 0 (told HighestFileUid is) (must_tell p is HighestFileUid form.Number fits refl refl);
    }

-- ---- what is told is one thing

some_words : (o : Option Val) (a b : List ℕ) → o ≡ Some (words a) → o ≡ Some (words b) → a ≡ b
some_words o a b h k = let both : Some (words a) ≡ Some (words b) = sym h ∙ k in cc

some_time : (o : Option Val) (a b : Civil) → o ≡ Some (time a) → o ≡ Some (time b) → a ≡ b
some_time o a b h k = let both : Some (time a) ≡ Some (time b) = sym h ∙ k in cc

some_uuid : (o : Option Val) (a b : ℕ) → o ≡ Some (uuid a) → o ≡ Some (uuid b) → a ≡ b
some_uuid o a b h k = let both : Some (uuid a) ≡ Some (uuid b) = sym h ∙ k in cc

some_letter : (o : Option Val) (a b : ℕ) → o ≡ Some (letter a) → o ≡ Some (letter b) → a ≡ b
some_letter o a b h k = let both : Some (letter a) ≡ Some (letter b) = sym h ∙ k in cc

some_number : (o : Option Val) (a b : ℕ) → o ≡ Some (number a) → o ≡ Some (number b) → a ≡ b
some_number o a b h k = let both : Some (number a) ≡ Some (number b) = sym h ∙ k in cc

some_truth : (o : Option Val) (a b : Bool) → o ≡ Some (truth a) → o ≡ Some (truth b) → a ≡ b
some_truth o a b h k = let both : Some (truth a) ≡ Some (truth b) = sym h ∙ k in cc

maybe_words : (a b : Option (List ℕ)) → option_map words a ≡ option_map words b → a ≡ b
maybe_words None None e = refl
maybe_words None (Some t) e = absurd (let bad : None ≡ Some (words t) = e in cc)
maybe_words (Some s) None e = absurd (let bad : Some (words s) ≡ None = e in cc)
maybe_words (Some s) (Some t) e = let both : Some (words s) ≡ Some (words t) = e in let same : s ≡ t = cc in ap (λ x. Some x) same

maybe_lock : (a b : Option LockState) → option_map lock a ≡ option_map lock b → a ≡ b
maybe_lock None None e = refl
maybe_lock None (Some t) e = absurd (let bad : None ≡ Some (lock t) = e in cc)
maybe_lock (Some s) None e = absurd (let bad : Some (lock s) ≡ None = e in cc)
maybe_lock (Some s) (Some t) e = let both : Some (lock s) ≡ Some (lock t) = e in let same : s ≡ t = cc in ap (λ x. Some x) same

one_spot : (is : Items) (a b : Spot) → TellsSpot is a → TellsSpot is b → a ≡ b
one_spot is a b h k =
    let letter = some_letter (told Partition is) a.letter b.letter h.letter k.letter in
    let block = some_number (told StartBlock is) a.block b.block h.block k.block in
    λ i. record { letter = letter i; block = block i }

one_policy : (is : Items) (a b : Policy) → TellsPolicy is a → TellsPolicy is b → a ≡ b
one_policy is a b h k =
    let both : Some h.criteria ≡ Some k.criteria = sym h.are ∙ k.are in
    let same : h.criteria ≡ k.criteria = cc in
    let size = some_number (told Size k.criteria) a.size b.size (subst (λ c. told Size c ≡ Some (number a.size)) same h.size) k.size in
    let names : a.names ≡ b.names = sym h.names ∙ ap names_in same ∙ k.names in
    λ i. record { size = size i; names = names i }

maybe_one : {X : Type 0} (R : Items → X → Type 0) (o : Option Items) (a b : Option X) → ((is : Items) (x y : X) → R is x → R is y → x ≡ y) → TellsMaybe R o a → TellsMaybe R o b → a ≡ b
maybe_one R None None None one h k = refl
maybe_one R None None (Some y) one h k = absurd k
maybe_one R None (Some x) b one h k = absurd h
maybe_one R (Some is) None b one h k = absurd h
maybe_one R (Some is) (Some x) None one h k = absurd k
maybe_one R (Some is) (Some x) (Some y) one h k = ap (λ z. Some z) (one is x y h k)

-- the elements of an index tell one set of facts of the volume
pub one_volume : (is : Items) (a b : VolumeFacts) → TellsVolume is a → TellsVolume is b → a ≡ b
one_volume is a b h k =
    let creator = some_words (told Creator is) a.creator b.creator h.creator k.creator in
    let comment = maybe_words a.comment b.comment (sym h.comment ∙ k.comment) in
    let uuid = some_uuid (told VolumeUuid is) a.uuid b.uuid h.uuid k.uuid in
    let generation = some_number (told GenerationNumber is) a.generation b.generation h.generation k.generation in
    let updated = some_time (told UpdateTime is) a.updated b.updated h.updated k.updated in
    let here = same_Some a.here b.here (maybe_one TellsSpot (inside place.Here is) (Some a.here) (Some b.here) one_spot h.here k.here) in
    let back = maybe_one TellsSpot (inside place.Back is) a.back b.back one_spot h.back k.back in
    let allow = some_truth (told AllowPolicyUpdate is) a.allow b.allow h.allow k.allow in
    let policy = maybe_one TellsPolicy (inside place.Policy is) a.policy b.policy one_policy h.policy k.policy in
    let lock = maybe_lock a.lock b.lock (sym h.lock ∙ k.lock) in
    let highest = some_number (told HighestFileUid is) a.highest b.highest h.highest k.highest in
    λ i. record {
      creator = creator i;
      comment = comment i;
      uuid = uuid i;
      generation = generation i;
      updated = updated i;
      here = here i;
      back = back i;
      allow = allow i;
      policy = policy i;
      lock = lock i;
      highest = highest i;
    }
