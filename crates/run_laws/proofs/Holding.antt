-- What each image of a run holds of what was acknowledged.
use Rattle.std.specs.Prelude.{◌≡◌, ◌≤◌, ◌<◌, ◌-◌, ◌^◌, nat_le, nat_lt, ℕ, All, Bool, true, Contains, List, [], ◌∷◌, filter, length}
use Rattle.std.proofs.Common.{⊎_elim, arith}
use Rattle.std.proofs.lemmas.Bool.{cases_lt, leb-true, ltb-true}
use Rattle.std.proofs.lemmas.List.Elements.{All-cons, All-contains, All-contains_itself, All-filter, All-head, All-nil, All-tail, filter_passes}
use Rattle.std.specs.List.{slice_index_or}
use Rattle.tape_types.specs.declared.cartridges.Cartridge.{Cartridge}
use Rattle.plain_tree.specs.Tree.{Tree}
use Rattle.session_script.specs.declared.logs.Ack.{Ack}
use Rattle.session_script.specs.declared.logs.Log.{Log}
use Rattle.session_script.specs.declared.scripts.ScriptLine.{ScriptLine}
use Rattle.cartridge_meaning.specs.Carried.{Carried}
use Rattle.promises.specs.ServingPromise.Crash.{Leavings, StandsWithin, SurvivesCrashes}
use Rattle.promises.specs.ServingPromise.Headline.{tree_of_log}
use Rattle.promises.specs.ServingPromise.Meanings.{cartridges}
use Rattle.run_laws.specs.Memory.{HoldsAcked, acked_by, acked_in_count}

abbrev IsUpTo : ℕ → Ack → Type 0
IsUpTo n a = a.place ≤ n

-- what holds of 0 and of the place of each holds of a place up to which all of them are
furthest : (Holds : ℕ → Type 0) → Holds 0 → (acks : List Ack) → All (λ (a : Ack). Holds a.place) acks
    → (n : ℕ) × Holds n × All (IsUpTo n) acks
furthest Holds first [] each = (0, first, All-nil (IsUpTo 0))
furthest Holds first (a ∷ acks) each =
    let more = furthest Holds first acks (All-tail (λ (b : Ack). Holds b.place) a acks each) in
    ⊎_elim
    (λ (further : more.0 < a.place). (
      a.place,
      All-head (λ (b : Ack). Holds b.place) a acks each,
      All-cons (IsUpTo a.place) a acks (omega arith) (λ k d within. omega (arith, further, more.2 k d within)),
    ))
    (λ (not_further : a.place ≤ more.0). (more.0, more.1, All-cons (IsUpTo more.0) a acks not_further more.2))
    (cases_lt more.0 a.place)

module _ (script : List ScriptLine) (log : Log) (facts : Carried) (tree : Tree) (leavings : Leavings) (start : ℕ)
    (survives : SurvivesCrashes cartridges facts (tree_of_log script tree log) (length log.history) log.acks leavings start)
    (lower : (t u : ℕ) (image : Cartridge) → t ≤ u → leavings.since u image → leavings.since t image) where
  abbrev IsWithin : Cartridge → ℕ → Type 0
  IsWithin image n = StandsWithin cartridges facts (tree_of_log script tree log) n (length log.history) image

  holds : (image : Cartridge) → leavings.since start image → (acks : List Ack) → All (λ (a : Ack). IsWithin image a.place) acks
      → HoldsAcked facts script tree log acks image
  holds image left acks each =
      let f = furthest (IsWithin image) (survives.always image left) acks each in
      record {
        count = f.1.count;
        within = f.1.not_after;
        acked = λ ack there. omega (arith, f.1.not_before, All-contains (IsUpTo f.0) acks ack f.2 there);
        generation = f.1.generation;
        stands = f.1.stands;
        sound = survives.sound image left;
      }

  -- each acknowledgement that passes a test, where those that pass are of a moment since which the image counts
  each_that : (passes : Ack → Bool) (image : Cartridge)
      → ((a : Ack) → passes a ≡ true → (a.command < 2 ^ 64 - 1) × leavings.since a.command image)
      → All (λ (a : Ack). IsWithin image a.place) (filter passes log.acks)
  each_that passes image good k d within =
      let all = All-filter passes (λ (a : Ack). passes a ≡ true → IsWithin image a.place) log.acks
      (λ k' d' within'. λ is.
      let ack = slice_index_or log.acks k' d' in
      let g = good ack is in
      survives.acknowledged ack (All-contains_itself log.acks k' d' within') g.0 image g.1) in
      all k d within (filter_passes passes log.acks k d within)

  -- each image since a number of commands holds what was acknowledged by then
  pub holds_then : (count : ℕ) → start ≤ count → count < 2 ^ 64 - 1 → (image : Cartridge) → leavings.since count image
      → HoldsAcked facts script tree log (acked_by count log.acks) image
  holds_then count began less image left = holds image (lower start count image began left) (acked_by count log.acks)
      (each_that (λ (a : Ack). nat_le a.command count) image (λ a is.
      let by_then = leb-true a.command count is in
      (omega (arith, by_then, less), lower a.command count image by_then left)))

  -- an image that counts since each number
  pub holds_now : (image : Cartridge) → ((t : ℕ) → leavings.since t image) → ((ack : Ack) → Contains log.acks ack → ack.command < 2 ^ 64 - 1)
      → HoldsAcked facts script tree log log.acks image
  holds_now image left reached = holds image (left start) log.acks (λ k d within.
      let ack = slice_index_or log.acks k d in
      let there = All-contains_itself log.acks k d within in
      survives.acknowledged ack there (reached ack there) image (left ack.command))

  -- the same wherever the number of commands stands, of what was acknowledged while it could rise
  pub holds_in_count : (image : Cartridge) → ((t : ℕ) → leavings.since t image)
      → HoldsAcked facts script tree log (acked_in_count log.acks) image
  holds_in_count image left = holds image (left start) (acked_in_count log.acks)
      (each_that (λ (a : Ack). nat_lt a.command (2 ^ 64 - 1)) image
      (λ a is. (ltb-true a.command (2 ^ 64 - 1) is, left a.command)))
