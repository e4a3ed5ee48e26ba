-- From what a text comes to, to what a run promises.
use Rattle.std.proofs.Common.{◌≡◌, ℕ, List, [], ◌∷◌, ◌++◌, length, get_or, Option, Some, None, IfSome, inl, inr, ⊎_elim, String, refl, sym, ap, subst, ◌∙◌, append-nil, arith}
use Rattle.std.specs.Global.{Global}
use Rattle.std.specs.Io.KnownBytes.{Consumes, IsAtEnd, Appends}
use Rattle.index_model.specs.declared.errors.IndexErr.{IndexErr}
use Rattle.index_model.specs.declared.errors.IndexErr.TheVariants as errors
use Rattle.index_model.specs.declared.indexes.Index.{Index}
use Rattle.index_model.specs.Grammar.{IndexText, Stops}
use Rattle.index_read.specs.Answers.{UnlessMemory}
use Rattle.index_tool.specs.declared.words.Command.{Command}
use Rattle.index_tool.specs.declared.words.Command.TheVariants as commands
use Rattle.index_tool.specs.declared.outcomes.Outcome.{Outcome}
use Rattle.index_tool.specs.declared.outcomes.Outcome.TheVariants as outcomes
use Rattle.index_tool.specs.Tool.{IsCommand, word_of}
use Rattle.index_tool.specs.Outcomes.{ok_text, status_of, text_of, IsAnswer, IsCanon, IsCaused, IsChecked, IsJudged, IsOutcomeOf, IsRefusal, IsTold}

-- an answer that the text of an index gets is what a run promises of it
pub judged_answer : (command : Command) (text : List ℕ) (index : Index) (o : Outcome) → IndexText text index → IsAnswer command index o → IsJudged command text o
judged_answer command text index (outcomes.Sound generation nodes) is a = (a.0, record { index = index; is = is; generation_is = a.1; nodes_are = a.2 })
judged_answer command text index (outcomes.Written canon) is a = (a.0, record { index = index; is = is; same = a.1 is.value is.tells })
judged_answer command text index outcomes.Words is a = absurd a
judged_answer command text index (outcomes.Refused refusal) is a = absurd a
judged_answer command text index (outcomes.Source counts) is a = absurd a
judged_answer command text index outcomes.NoMemory is a = tt

stops_or : (e : IndexErr) (P : Type 0) → (e ≡ errors.NoMemory → ⊥) → UnlessMemory e P → P
stops_or errors.NoMemory P never h = absurd (never refl)
stops_or _ P never h = h

-- a refusal that a text gets is what a run promises of it
pub judged_refusal : (command : Command) (text : List ℕ) (e : IndexErr) (o : Outcome) → UnlessMemory e (Stops text e) → IsRefusal e o → IsJudged command text o
judged_refusal command text e (outcomes.Sound generation nodes) s r = absurd r
judged_refusal command text e (outcomes.Written canon) s r = absurd r
judged_refusal command text e outcomes.Words s r = absurd r
judged_refusal command text e (outcomes.Refused told) s r =
    let stops = stops_or e (Stops text e) r.1 s in
    (subst (Stops text) (sym r.0) stops, λ no. r.1 (sym r.0 ∙ no))
judged_refusal command text e (outcomes.Source counts) s r = absurd r
judged_refusal command text e outcomes.NoMemory s r = tt

-- all that a source had left is the text that was read of it
whole : (left end : Option (List ℕ)) (text : List ℕ) → Consumes left end text → IsAtEnd end → IfSome left (λ bytes. bytes ≡ text)
whole None end text c e = tt
whole (Some bytes) None text c e = absurd c
whole (Some bytes) (Some rest) text c e = c ∙ ap (λ r. text ++ r) e ∙ append-nil text

if_same : (left : Option (List ℕ)) (text : List ℕ) (P : List ℕ → Type 0) → IfSome left (λ bytes. bytes ≡ text) → P text → IfSome left P
if_same None text P h p = tt
if_same (Some bytes) text P h p = subst P (sym h) p

-- what a command makes of a text that was read to its end is the outcome of that command
pub outcome_is : (command : Command) (left end : Option (List ℕ)) (before now : ℕ) (text : List ℕ) (o : Outcome) → Consumes left end text → IsAtEnd end → IsJudged command text o → IsOutcomeOf command left end before now o
outcome_is command left end before now text (outcomes.Sound generation nodes) c e j = (j.0, if_same left text _ (whole left end text c e) j.1, e)
outcome_is command left end before now text (outcomes.Written canon) c e j = (j.0, if_same left text _ (whole left end text c e) j.1, e)
outcome_is command left end before now text outcomes.Words c e j = absurd j
outcome_is command left end before now text (outcomes.Refused refusal) c e j = (if_same left text _ (whole left end text c e) j, e)
outcome_is command left end before now text (outcomes.Source counts) c e j = absurd j
outcome_is command left end before now text outcomes.NoMemory c e j = tt

-- ---- what a run promises

one_command : (words : List (String Global)) (a b : Command) → IsCommand words a → IsCommand words b → word_of a ≡ word_of b
one_command words a b h k = let both : word_of a ∷ [] ≡ word_of b ∷ [] = sym h ∙ k in cc

apart : word_of commands.Check ≡ word_of commands.Canon → ⊥
apart e = let second : 104 ≡ 97 = ap (λ w. get_or w 1 0) e in omega (arith, second)

if_map : (left : Option (List ℕ)) (P Q : List ℕ → Type 0) → ((text : List ℕ) → P text → Q text) → IfSome left P → IfSome left Q
if_map None P Q f h = tt
if_map (Some text) P Q f h = f text h

module _ (words : List (String Global)) (left end old new : Option (List ℕ)) (before now failed_before failed_now status : ℕ) where
  printed : (o : Outcome) → status_of o ≡ 0 → status ≡ 0 → IsTold o old new failed_before failed_now status → Appends old new (text_of o)
  printed o zero is told = ⊎_elim (λ done. done.1) (λ failed. absurd (let bad : 6 ≡ 0 = sym failed.0 ∙ is in cc)) told

  not_zero : (o : Outcome) (s : ℕ) → status_of o ≡ s → (s ≡ 0 → ⊥) → IsTold o old new failed_before failed_now status → status ≡ 0 → ⊥
  not_zero o s of never (inl done) is = never (sym of ∙ sym done.0 ∙ is)
  not_zero o s of never (inr failed) is = let bad : 6 ≡ 0 = sym failed.0 ∙ is in cc

  -- a check that ends with status 0 has told the text's generation and count of nodes
  pub checked : (o : Outcome) → IsCaused words left end before now o → IsTold o old new failed_before failed_now status → status ≡ 0 → IsCommand words commands.Check → IfSome left (λ text. IsChecked text old new)
  checked (outcomes.Sound generation nodes) (inl never) told is check = absurd (let bad = never.0 in cc)
  checked (outcomes.Sound generation nodes) (inr known) told is check =
      let p = printed (outcomes.Sound generation nodes) refl is told in
      if_map left _ _ (λ text s. record { index = s.index; is = s.is; printed = subst (λ g. Appends old new (ok_text g (length s.index.nodes))) (sym s.generation_is) (subst (λ n. Appends old new (ok_text generation n)) (sym s.nodes_are) p) }) known.2.1
  checked (outcomes.Written canon) (inl never) told is check = absurd (let bad = never.0 in cc)
  checked (outcomes.Written canon) (inr known) told is check =
      absurd (apart (one_command words commands.Check commands.Canon check (subst (IsCommand words) known.2.0 known.1)))
  checked outcomes.Words c told is check = absurd (not_zero outcomes.Words 1 refl (λ bad. cc) told is)
  checked (outcomes.Refused refusal) c told is check = absurd (not_zero (outcomes.Refused refusal) 2 refl (λ bad. cc) told is)
  checked (outcomes.Source counts) c told is check = absurd (not_zero (outcomes.Source counts) 5 refl (λ bad. cc) told is)
  checked outcomes.NoMemory c told is check = absurd (not_zero outcomes.NoMemory 7 refl (λ bad. cc) told is)

  -- a rewriting that ends with status 0 has printed the one text of the index
  pub canon : (o : Outcome) → IsCaused words left end before now o → IsTold o old new failed_before failed_now status → status ≡ 0 → IsCommand words commands.Canon → IfSome left (λ text. IsCanon text old new)
  canon (outcomes.Sound generation nodes) (inl never) told is command = absurd (let bad = never.0 in cc)
  canon (outcomes.Sound generation nodes) (inr known) told is command =
      absurd (apart (one_command words commands.Check commands.Canon (subst (IsCommand words) known.2.0 known.1) command))
  canon (outcomes.Written text) (inl never) told is command = absurd (let bad = never.0 in cc)
  canon (outcomes.Written text) (inr known) told is command =
      let p = printed (outcomes.Written text) refl is told in
      if_map left _ _ (λ bytes s. record { index = s.index; is = s.is; printed = subst (Appends old new) s.same p }) known.2.1
  canon outcomes.Words c told is command = absurd (not_zero outcomes.Words 1 refl (λ bad. cc) told is)
  canon (outcomes.Refused refusal) c told is command = absurd (not_zero (outcomes.Refused refusal) 2 refl (λ bad. cc) told is)
  canon (outcomes.Source counts) c told is command = absurd (not_zero (outcomes.Source counts) 5 refl (λ bad. cc) told is)
  canon outcomes.NoMemory c told is command = absurd (not_zero outcomes.NoMemory 7 refl (λ bad. cc) told is)
