-- Answers that are kept until they are handed out.
use Rattle.std.specs.Prelude.{ℕ, ◌≡◌, zero, suc, ◌⊎◌, ◌==◌, Bool, true, false, cond, List, [], ◌∷◌, ◌++◌, Option, Some, None, slice_get, slice_set}
use Rattle.std.proofs.Common.{inl, inr, refl, sym, ap, subst, ◌∙◌, arith}
use Rattle.std.proofs.lemmas.Bool.Decides.{nat_tests}
use Rattle.tape_types.specs.declared.cartridges.Twin.{Twin}
use Rattle.plain_tree.specs.declared.calls.Answer.{Answer}
use Rattle.plain_tree.specs.declared.calls.Answer.TheVariants as the_answers
use Rattle.session_script.specs.declared.logs.Reply.{Reply}
use Rattle.session_script.specs.declared.logs.Reply.TheVariants as the_replies
use Rattle.event_journal.specs.declared.trails.Waiter.{Waiter}
use Rattle.event_journal.specs.declared.trails.Waiter.TheVariants as waiters
use Rattle.waiting_reads.specs.Gathering.{Gathering}
use Rattle.waiting_reads.specs.Waiting.{answer_for}
use Rattle.volume_state.specs.CallLaws.Handing.{KeepsAnswers}
use Rattle.volume_state.specs.StateLaws.Parts.{Parts}
use Rattle.volume_state.specs.StateLaws.Stepping.{IsReadOn, all_synced, replied, told_fault}
use Rattle.volume_core.specs.VolumeSteps.Moves.{KeepsAnswer}
use Rattle.volume_core.proofs.VolumeSteps.SyncLemmas.{same_number}

-- each answer that is kept is a reply that stands at its place
abbrev pub AreRight : {D : Type 0} → Parts D → Type 0
AreRight p = (k : ℕ) (a : Answer) → answer_for k p.answered ≡ Some a
    → slice_get p.listed.replies k ≡ Some (Some (the_replies.Answer a))

-- ---- replies that come

-- a place has the reply that came there, or what it had
data Now (told : List (Option Reply)) (at k : ℕ) (x : Option Reply) : Type 0 where
  here : k ≡ at → slice_get (slice_set told at x) k ≡ Some x → Now told at k x
  still : slice_get (slice_set told at x) k ≡ slice_get told k → Now told at k x

now : (told : List (Option Reply)) (at k : ℕ) (x : Option Reply) → Now told at k x
now [] at k x = still refl
now (y ∷ ys) zero zero x = here refl refl
now (y ∷ ys) zero (suc k) x = still refl
now (y ∷ ys) (suc at) zero x = still refl
now (y ∷ ys) (suc at) (suc k) x = by (now ys at k x)
  where
    by : Now ys at k x → Now (y ∷ ys) (suc at) (suc k) x
    by (here same is) = here (ap suc same) is
    by (still is) = still is

get_same : (told : List (Option Reply)) (at : ℕ) (x old : Option Reply) → slice_get told at ≡ Some old
    → slice_get (slice_set told at x) at ≡ Some x
get_same [] at x old e = absurd (let wrong : None ≡ Some old = e in cc)
get_same (y ∷ ys) zero x old e = refl
get_same (y ∷ ys) (suc at) x old e = get_same ys at x old e

-- where syncs are answered, a place has what it had, or is told so
data IsTold (told after : List (Option Reply)) (k : ℕ) : Type 0 where
  synced : slice_get after k ≡ Some (Some (the_replies.Answer the_answers.Synced)) → IsTold told after k
  as_it_was : slice_get after k ≡ slice_get told k → IsTold told after k

all_told : (tickets : List ℕ) (told : List (Option Reply)) (k : ℕ) → IsTold told (all_synced tickets told) k
all_told [] told k = as_it_was refl
all_told (t ∷ tickets) told k =
    by (all_told tickets (replied t (the_replies.Answer the_answers.Synced) told) k) (now told t k (Some (the_replies.Answer the_answers.Synced)))
  where
    by : IsTold (replied t (the_replies.Answer the_answers.Synced) told) (all_synced tickets (replied t (the_replies.Answer the_answers.Synced) told)) k
        → Now told t k (Some (the_replies.Answer the_answers.Synced)) → IsTold told (all_synced (t ∷ tickets) told) k
    by (synced is) other = synced is
    by (as_it_was is) (here same there) = synced (is ∙ there)
    by (as_it_was is) (still was) = as_it_was (is ∙ was)

-- ---- steps that bring no answer of a read

keeps_all : {D : Type 0} (old new : Parts D) → new.answered ≡ old.answered
    → ((k : ℕ) (a : Answer) → slice_get old.listed.replies k ≡ Some None
    → slice_get new.listed.replies k ≡ Some (Some (the_replies.Answer a)) → a ≡ the_answers.Synced) → KeepsAnswers old new
keeps_all old new answered only_syncs = record {
  stay = λ k a is. ap (answer_for k) answered ∙ is;
  only = λ k a is. inl (ap (answer_for k) (sym answered) ∙ is);
  came = λ k a none is apart. absurd (apart (only_syncs k a none is));
}

-- where syncs are answered the answers of reads are kept
pub synced_keep : {D : Type 0} (tickets : List ℕ) (old new : Parts D) → new.answered ≡ old.answered
    → new.listed.replies ≡ all_synced tickets old.listed.replies → KeepsAnswers old new
synced_keep tickets old new answered told = keeps_all old new answered (λ k a none is. by k a none is (all_told tickets old.listed.replies k))
  where
    by : (k : ℕ) (a : Answer) → slice_get old.listed.replies k ≡ Some None
        → slice_get new.listed.replies k ≡ Some (Some (the_replies.Answer a))
        → IsTold old.listed.replies (all_synced tickets old.listed.replies) k → a ≡ the_answers.Synced
    by k a none is (synced there) =
        let both : Some (Some (the_replies.Answer a)) ≡ Some (Some (the_replies.Answer the_answers.Synced)) =
        sym is ∙ ap (λ (rs : List (Option Reply)). slice_get rs k) told ∙ there in cc
    by k a none is (as_it_was there) =
        let wrong : Some (Some (the_replies.Answer a)) ≡ Some None =
        sym is ∙ ap (λ (rs : List (Option Reply)). slice_get rs k) told ∙ there ∙ none in cc

no_answer : {D : Type 0} (at : ℕ) (counts : Twin) (old new : Parts D)
    → new.listed.replies ≡ replied at (the_replies.Fault counts) old.listed.replies
    → (k : ℕ) (a : Answer) → slice_get old.listed.replies k ≡ Some None
    → slice_get new.listed.replies k ≡ Some (Some (the_replies.Answer a)) → a ≡ the_answers.Synced
no_answer at counts old new told k a none is = by (now old.listed.replies at k (Some (the_replies.Fault counts)))
  where
    by : Now old.listed.replies at k (Some (the_replies.Fault counts)) → a ≡ the_answers.Synced
    by (here same there) =
        let wrong : Some (Some (the_replies.Answer a)) ≡ Some (Some (the_replies.Fault counts)) =
        sym is ∙ ap (λ (rs : List (Option Reply)). slice_get rs k) told ∙ there in cc
    by (still there) =
        let wrong : Some (Some (the_replies.Answer a)) ≡ Some None =
        sym is ∙ ap (λ (rs : List (Option Reply)). slice_get rs k) told ∙ there ∙ none in cc

same_replies : {D : Type 0} (old new : Parts D) → new.listed.replies ≡ old.listed.replies
    → (k : ℕ) (a : Answer) → slice_get old.listed.replies k ≡ Some None
    → slice_get new.listed.replies k ≡ Some (Some (the_replies.Answer a)) → a ≡ the_answers.Synced
same_replies old new told k a none is =
    let wrong : Some (Some (the_replies.Answer a)) ≡ Some None =
    sym is ∙ ap (λ (rs : List (Option Reply)). slice_get rs k) told ∙ none in cc

-- where a request failed the answers of reads are kept
pub missed_keeps : {D : Type 0} (ticket : ℕ) (counts : Twin) (old new : Parts D) → new.answered ≡ old.answered
    → new.listed.replies ≡ replied ticket (the_replies.Fault counts) old.listed.replies → KeepsAnswers old new
missed_keeps ticket counts old new answered told = keeps_all old new answered (no_answer ticket counts old new told)

-- where an op failed the answers of reads are kept
pub fault_keeps : {D : Type 0} (waiter : Option Waiter) (counts : Twin) (old new : Parts D) → new.answered ≡ old.answered
    → new.listed.replies ≡ told_fault waiter counts old.listed.replies → KeepsAnswers old new
fault_keeps (Some (waiters.Sync ticket)) counts old new answered told = missed_keeps ticket counts old new answered told
fault_keeps (Some (waiters.Drain who)) counts old new answered told = keeps_all old new answered (same_replies old new told)
fault_keeps None counts old new answered told = keeps_all old new answered (same_replies old new told)

-- ---- the answer of a read

for_front : (k : ℕ) (a : Answer) (xs more : List (ℕ × Answer)) → answer_for k xs ≡ Some a → answer_for k (xs ++ more) ≡ Some a
for_front k a [] more e = absurd (let wrong : None ≡ Some a = e in cc)
for_front k a (x ∷ xs) more e = by (for_front k a xs more) (x.0 == k) refl
  where
    by : (answer_for k xs ≡ Some a → answer_for k (xs ++ more) ≡ Some a) → (b : Bool) → (x.0 == k) ≡ b
        → answer_for k (x ∷ xs ++ more) ≡ Some a
    by later true g = rw g (rw g at e)
    by later false g = rw g (later (rw g at e))

record IsNew (k t : ℕ) (a g : Answer) : Type 0 where
  place : k ≡ t
  answer : a ≡ g

for_split : (k t : ℕ) (a g : Answer) (xs : List (ℕ × Answer)) → answer_for k (xs ++ (t, g) ∷ []) ≡ Some a
    → (answer_for k xs ≡ Some a) ⊎ IsNew k t a g
for_split k t a g [] e = by (t == k) refl
  where
    by : (b : Bool) → (t == k) ≡ b → (None ≡ Some a) ⊎ IsNew k t a g
    by true h =
        let both : Some g ≡ Some a = rw h at e in
        inr (record { place = sym (number t k h); answer = cc })
      where
        number : (m n : ℕ) → (m == n) ≡ true → m ≡ n
        number m n i = grind (arith, nat_tests, i)
    by false h = let wrong : None ≡ Some a = rw h at e in cc
for_split k t a g (x ∷ xs) e = by (for_split k t a g xs) (x.0 == k) refl
  where
    by : (answer_for k (xs ++ (t, g) ∷ []) ≡ Some a → (answer_for k xs ≡ Some a) ⊎ IsNew k t a g) → (b : Bool)
        → (x.0 == k) ≡ b → (answer_for k (x ∷ xs) ≡ Some a) ⊎ IsNew k t a g
    by later true h = inl (rw h (rw h at e))
    by later false h = rw h (later (rw h at e))

for_new : (t : ℕ) (g : Answer) (xs : List (ℕ × Answer)) → answer_for t xs ≡ None → answer_for t (xs ++ (t, g) ∷ []) ≡ Some g
for_new t g [] e = rw (same_number t) refl
for_new t g (x ∷ xs) e = by (for_new t g xs) (x.0 == t) refl
  where
    by : (answer_for t xs ≡ None → answer_for t (xs ++ (t, g) ∷ []) ≡ Some g) → (b : Bool) → (x.0 == t) ≡ b
        → answer_for t (x ∷ xs ++ (t, g) ∷ []) ≡ Some g
    by later true h = let wrong : Some x.1 ≡ None = rw h at e in cc
    by later false h = rw h (later (rw h at e))

none_yet : {D : Type 0} (ticket : ℕ) (p : Parts D) → AreRight p → slice_get p.listed.replies ticket ≡ Some None
    → answer_for ticket p.answered ≡ None
none_yet ticket p right none = by (answer_for ticket p.answered) refl
  where
    by : (o : Option Answer) → answer_for ticket p.answered ≡ o → answer_for ticket p.answered ≡ None
    by None e = e
    by (Some a) e =
        let wrong : Some None ≡ Some (Some (the_replies.Answer a)) = sym none ∙ right ticket a e in cc

read_on : {D : Type 0} (ticket : ℕ) (gives : Answer) (old new : Parts D) → AreRight old
    → slice_get old.listed.replies ticket ≡ Some None → new.answered ≡ old.answered ++ (ticket, gives) ∷ []
    → new.listed.replies ≡ replied ticket (the_replies.Answer gives) old.listed.replies → KeepsAnswers old new
read_on ticket gives old new right none answered told = record {
  stay = λ k a is. ap (answer_for k) answered ∙ for_front k a old.answered ((ticket, gives) ∷ []) is;
  only = λ k a is. splits k a (for_split k ticket a gives old.answered (ap (answer_for k) (sym answered) ∙ is));
  came = λ k a empty is apart. comes k a empty is (now old.listed.replies ticket k (Some (the_replies.Answer gives)));
}
  where
    splits : (k : ℕ) (a : Answer) → (answer_for k old.answered ≡ Some a) ⊎ IsNew k ticket a gives
        → (answer_for k old.answered ≡ Some a) ⊎ (slice_get new.listed.replies k ≡ Some (Some (the_replies.Answer a)))
    splits k a (inl is) = inl is
    splits k a (inr is) =
        inr (ap (λ (rs : List (Option Reply)). slice_get rs k) told
        ∙ ap (slice_get (replied ticket (the_replies.Answer gives) old.listed.replies)) is.place
        ∙ get_same old.listed.replies ticket (Some (the_replies.Answer gives)) None none
        ∙ ap (λ (x : Answer). Some (Some (the_replies.Answer x))) (sym is.answer))

    comes : (k : ℕ) (a : Answer) → slice_get old.listed.replies k ≡ Some None
        → slice_get new.listed.replies k ≡ Some (Some (the_replies.Answer a))
        → Now old.listed.replies ticket k (Some (the_replies.Answer gives)) → answer_for k new.answered ≡ Some a
    comes k a empty is (here same there) =
        let both : Some (Some (the_replies.Answer gives)) ≡ Some (Some (the_replies.Answer a)) =
        sym there ∙ ap (λ (rs : List (Option Reply)). slice_get rs k) (sym told) ∙ is in
        let equal : gives ≡ a = cc in
        ap (answer_for k) answered
        ∙ ap (λ (n : ℕ). answer_for n (old.answered ++ (ticket, gives) ∷ [])) same
        ∙ for_new ticket gives old.answered (none_yet ticket old right none)
        ∙ ap (λ (x : Answer). Some x) equal
    comes k a empty is (still there) =
        let wrong : Some (Some (the_replies.Answer a)) ≡ Some None =
        sym is ∙ ap (λ (rs : List (Option Reply)). slice_get rs k) told ∙ there ∙ empty in cc

-- where a read is answered its answer is kept with the others
pub read_keeps : {D : Type 0} (ticket : ℕ) (waits : Bool) (front behind : List Gathering) (next : Gathering) (old new : Parts D)
    → AreRight old → slice_get old.listed.replies ticket ≡ Some None → KeepsAnswer waits ticket old new
    → IsReadOn waits ticket front behind next new.reads old.listed.replies new.listed.replies → KeepsAnswers old new
read_keeps ticket true front behind next old new right none answered reads =
    keeps_all old new answered (same_replies old new reads.1)
read_keeps ticket false front behind next old new right none answered reads =
    read_on ticket answered.0 old new right none answered.1 answered.2
