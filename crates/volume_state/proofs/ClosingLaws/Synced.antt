-- Only a sync before which anything changed asks for an index.
use Rattle.std.proofs.Common.{◌≡◌, ℕ, cond, Bool, true, false, List, Option, Some, None, refl, sym}
use Rattle.tape_types.specs.declared.moments.Moment.{Moment}
use Rattle.plain_tree.specs.Refusals.{refusal_of}
use Rattle.plain_tree.specs.declared.calls.Call.{Call}
use Rattle.plain_tree.specs.declared.calls.Call.TheVariants.{Sync}
use Rattle.plain_tree.specs.declared.calls.Refusal.{Refusal}
use Rattle.space_laws.proofs.PlainAsks.{of_other}
use Rattle.space_laws.specs.Space.{Ask, index, nothing}
use Rattle.space_laws.specs.Standing.{Given, Standing, ask_of, ask_unless, ask_unrefused, sync_text}

-- an ask of the index with this text is refused none
unrefused : (r : Option Refusal) (ask : Ask) (text : List ℕ) → ask_unless r ask ≡ index text → ask ≡ index text
unrefused None ask text is = is
unrefused (Some refusal) ask text is = absurd (let wrong : nothing ≡ index text = is in cc)

by_change : (b : Bool) (due text : List ℕ) → cond b (index due) nothing ≡ index text → (b ≡ true) × (text ≡ due)
by_change true due text is = (
  refl,
  (let same : index due ≡ index text = is in let texts : due ≡ text = cc in sym
      texts),
)
by_change false due text is = absurd (let wrong : nothing ≡ index text = is in cc)

-- what is known of such a call
abbrev IsSync : Given → Standing → Moment → List ℕ → Call → Type 0
IsSync g st at text call = (call ≡ Sync) × (st.space.changed ≡ true) × (text ≡ sync_text g st at)

-- only a sync before which something changed asks for an index
pub only_syncs : (g : Given) (st : Standing) (call : Call) (at : Moment) (text : List ℕ)
    → ask_of g st call at ≡ index text
    → IsSync g st at text call
only_syncs g st Sync at text is =
    let asked : cond st.space.changed (index (sync_text g st at)) nothing ≡ index text =
    unrefused (refusal_of st.tree Sync) (ask_unrefused g st Sync at) text is in
    let its = by_change st.space.changed (sync_text g st at) text asked in (refl, its.0, its.1)
only_syncs g st call at text is =
    absurd (of_other (λ (ask : Ask). ask ≡ index text → ⊥) (λ is. cc is) (λ is. cc is) (λ wanted bytes is. cc is) g st call at refl is)
