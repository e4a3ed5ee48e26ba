-- A walk back over a record goes by the definitions of what was, what reaches and what is chosen.
use Rattle.std.proofs.Common.{ℕ, ◌+◌, ◌-◌, ◌≤◌, ◌<◌, ◌≡◌, Bool, true, false, max, List, [], ◌∷◌, take, length, get_or, refl, ◌∙◌, ap, subst, arith}
use Rattle.std.specs.Prelude.{if◌then◌else◌, reverse}
use Rattle.std.proofs.lemmas.List.{reverse-append, take_more}
use Rattle.byte_disk.specs.declared.disk.File.{File}
use Rattle.byte_disk.specs.declared.record.Change.{Change}
use Rattle.byte_disk.specs.declared.record.Act.{Act}
use Rattle.byte_disk.specs.declared.record.Act.TheVariants.{Wrote, Synced}
use Rattle.byte_disk.specs.declared.record.DoneCommand.{DoneCommand}
use Rattle.byte_disk.specs.Record.{is_same, pending_after, unwritten, AreKept}
use Rattle.byte_disk.specs.Images.{original, reach, chosen, chosen_in}
use Rattle.byte_disk.specs.Walks.{is_sync_of, undone_by, reach_by, chosen_by, IsKeptIf, IsKeptBy}

-- the newest entry of the record's front
last_entry : (acts : List DoneCommand) (i : ℕ) (d : DoneCommand) → i < length acts → reverse (take (i + 1) acts) ≡ get_or acts i d ∷ reverse (take i acts)
last_entry acts i d lt = ap reverse (take_more acts i d lt) ∙ reverse-append (take i acts) (get_or acts i d ∷ [])

-- the last act of those that are left is the newest
pub newest_at : (acts : List DoneCommand) (left : ℕ) (d : DoneCommand) → 0 < left → left ≤ length acts
    → reverse (take left acts) ≡ get_or acts (left - 1) d ∷ reverse (take (left - 1) acts)
newest_at acts left d some le =
    let one : left - 1 + 1 ≡ left = omega (arith, some) in
    subst (λ (n : ℕ). reverse (take n acts) ≡ get_or acts (left - 1) d ∷ reverse (take (left - 1) acts)) one (last_entry acts (left - 1) d (omega (arith, some, le)))

module _ (file : File) (ws : List Change) where
  back_by : (b : Bool) (w : Change) (bytes : List ℕ) → original bytes (if b then w ∷ ws else ws) ≡ original (if b then unwritten w bytes else bytes) ws
  back_by true w bytes = refl
  back_by false w bytes = refl

  -- a step back over an act, other than a sync, leads to the same bytes of the last sync
  pub back_step : (act : Act) (bytes : List ℕ) → is_sync_of file act ≡ false → original bytes (pending_after file act ws) ≡ original (undone_by file act bytes) ws
  back_step (Wrote other w) bytes is = back_by (is_same file other) w bytes
  back_step (Synced other) bytes is = rw is refl

  kept_by : (b : Bool) (w : Change) (bytes : List ℕ) → AreKept bytes (if b then w ∷ ws else ws)
      → IsKeptIf b w bytes × AreKept (if b then unwritten w bytes else bytes) ws
  kept_by true w bytes kept = kept
  kept_by false w bytes kept = (tt, kept)

  -- a step back over an act leaves bytes that the older writes have kept
  pub kept_step : (act : Act) (bytes : List ℕ) → is_sync_of file act ≡ false → AreKept bytes (pending_after file act ws)
      → IsKeptBy file act bytes × AreKept (undone_by file act bytes) ws
  kept_step (Wrote other w) bytes is kept = kept_by (is_same file other) w bytes kept
  kept_step (Synced other) bytes is kept = (tt, subst (λ (b : Bool). AreKept bytes (if b then [] else ws)) is kept)

  choose_by : (b : Bool) (w : Change) (choice bytes : List ℕ) → chosen (if b then w ∷ ws else ws) choice bytes ≡ chosen ws choice (if b then chosen_in w choice bytes else bytes)
  choose_by true w choice bytes = refl
  choose_by false w choice bytes = refl

  -- a step back over an act chooses its bytes, and then those of older acts
  pub choose_step : (act : Act) (choice bytes : List ℕ) → is_sync_of file act ≡ false
      → chosen (pending_after file act ws) choice bytes ≡ chosen ws choice (chosen_by file act choice bytes)
  choose_step (Wrote other w) choice bytes is = choose_by (is_same file other) w choice bytes
  choose_step (Synced other) choice bytes is = rw is refl

  reach_with : (b : Bool) (w : Change) (n : ℕ) → max n (reach (if b then w ∷ ws else ws)) ≡ max (if b then max (w.at + w.count) n else n) (reach ws)
  reach_with true w n = omega arith
  reach_with false w n = refl

  -- a step back over an act adds how far its range reaches
  pub reach_step : (act : Act) (n : ℕ) → is_sync_of file act ≡ false → max n (reach (pending_after file act ws)) ≡ max (reach_by file act n) (reach ws)
  reach_step (Wrote other w) n is = reach_with (is_same file other) w n
  reach_step (Synced other) n is = rw is refl

  -- behind a sync no range reaches any further
  pub reach_stop : (act : Act) → is_sync_of file act ≡ true → reach (pending_after file act ws) ≡ 0
  reach_stop (Wrote other w) is = cc
  reach_stop (Synced other) is = rw is refl
