-- The record of a disk in memory stays sound, and what reads is among what a crash may leave.
use Rattle.std.proofs.Common.{ℕ, ◌+◌, ◌-◌, ◌^◌, ◌≤◌, ◌<◌, ◌≡◌, min, List, [], ◌∷◌, ◌++◌, length, refl, sym, ◌∙◌, ap, subst, arith}
use Rattle.std.specs.Prelude.{reverse}
use Rattle.std.proofs.lemmas.List.{reverse-append}
use Rattle.byte_disk.specs.declared.disk.File.{File}
use Rattle.byte_disk.specs.declared.disk.File.TheVariants.{Ip, Dp, Cm}
use Rattle.byte_disk.specs.declared.record.Change.{Change}
use Rattle.byte_disk.specs.declared.record.Act.{Act}
use Rattle.byte_disk.specs.declared.record.Act.TheVariants.{Wrote, Synced}
use Rattle.byte_disk.specs.declared.record.DoneCommand.{DoneCommand}
use Rattle.byte_disk.specs.Files.{Files, bytes_of, with_bytes, written, AreBytes}
use Rattle.byte_disk.proofs.Any.{any_bytes}
use Rattle.byte_disk.specs.Record.{change_of, unwritten, undo, pending_after, pending, LeavesFile, Numbered, AreKept, IsActKept, IsRecordOf, IsSound}
use Rattle.byte_disk.proofs.Written.{put_back, put_kept}

-- the number of commands rises
numbered_later : (count count2 : ℕ) (es : List DoneCommand) → count2 ≡ min (count + 1) (2 ^ 64 - 1) → Numbered count es → Numbered count2 es
numbered_later count count2 [] is n = tt
numbered_later count count2 (e ∷ es) is n = ((λ lt. omega (arith, n.0 (omega arith))), numbered_later count count2 es is n.1)

-- a sound record is so with one command more
pub sound_later : (count count2 : ℕ) (held : Files) (es : List DoneCommand) → count2 ≡ min (count + 1) (2 ^ 64 - 1) → IsSound count held es → IsSound count2 held es
sound_later count count2 held es is sound = record { numbers = numbered_later count count2 es is sound.numbers; kept = sound.kept }

-- the newest entry comes first
pub newest : (acts acts2 : List DoneCommand) (e : DoneCommand) → acts2 ≡ acts ++ e ∷ [] → reverse acts2 ≡ e ∷ reverse acts
newest acts acts2 e is = ap reverse is ∙ reverse-append acts (e ∷ [])

-- bytes were put into a file
module _ (at count : ℕ) (bytes : List ℕ) (few : length bytes ≤ count) (are : AreBytes bytes) (end : at + count < 2 ^ 62) where
  put_record : (file : File) (d : Files) (es : List DoneCommand) → at ≤ length (bytes_of file d) → IsRecordOf d es
      → IsActKept (Wrote file (change_of at count bytes (bytes_of file d))) (with_bytes file (written at bytes (bytes_of file d)) d)
      × IsRecordOf (undo (Wrote file (change_of at count bytes (bytes_of file d))) (with_bytes file (written at bytes (bytes_of file d)) d)) es
  put_record Ip d es within kept = (
    put_kept at bytes d.ip within count few are end,
    subst (λ (l : List ℕ). IsRecordOf (record { ip = l; dp = d.dp; cm = d.cm }) es) (sym (put_back at bytes d.ip within count)) kept,
  )
  put_record Dp d es within kept = (
    put_kept at bytes d.dp within count few are end,
    subst (λ (l : List ℕ). IsRecordOf (record { ip = d.ip; dp = l; cm = d.cm }) es) (sym (put_back at bytes d.dp within count)) kept,
  )
  put_record Cm d es within kept = (
    put_kept at bytes d.cm within count few are end,
    subst (λ (l : List ℕ). IsRecordOf (record { ip = d.ip; dp = d.dp; cm = l }) es) (sym (put_back at bytes d.cm within count)) kept,
  )

  -- a write that is put into the record leaves it sound
  pub put_sound : (file : File) (number commands : ℕ) (d : Files) (es : List DoneCommand) → at ≤ length (bytes_of file d)
      → (commands < 2 ^ 64 - 1 → number < commands) → IsSound commands d es
      → IsSound commands (with_bytes file (written at bytes (bytes_of file d)) d)
      (record { number = number; act = Wrote file (change_of at count bytes (bytes_of file d)) } ∷ es)
  put_sound file number commands d es within low sound =
      record { numbers = (low, sound.numbers); kept = put_record file d es within sound.kept }

-- to go back over it gives the files from before
pub put_undone : (at count : ℕ) (bytes : List ℕ) (file : File) (d : Files) → at ≤ length (bytes_of file d)
    → undo (Wrote file (change_of at count bytes (bytes_of file d))) (with_bytes file (written at bytes (bytes_of file d)) d) ≡ d
put_undone at count bytes Ip d within = ap (λ (l : List ℕ). record { ip = l; dp = d.dp; cm = d.cm }) (put_back at bytes d.ip within count)
put_undone at count bytes Dp d within = ap (λ (l : List ℕ). record { ip = d.ip; dp = l; cm = d.cm }) (put_back at bytes d.dp within count)
put_undone at count bytes Cm d within = ap (λ (l : List ℕ). record { ip = d.ip; dp = d.dp; cm = l }) (put_back at bytes d.cm within count)

-- bytes stay bytes
pub kept_bytes : (bytes : List ℕ) (ws : List Change) → AreKept bytes ws → AreBytes bytes
kept_bytes bytes [] kept = kept
kept_bytes bytes (w ∷ ws) kept = any_bytes w.at w.count (unwritten w bytes) bytes kept.0.any (kept_bytes (unwritten w bytes) ws kept.1)

act_kept : (file : File) (act : Act) (d : Files) (ws : List Change) → IsActKept act d → AreKept (bytes_of file (undo act d)) ws
    → AreKept (bytes_of file d) (pending_after file act ws)
act_kept Ip (Wrote Ip w) d ws kept rest = (kept, rest)
act_kept Ip (Wrote Dp w) d ws kept rest = rest
act_kept Ip (Wrote Cm w) d ws kept rest = rest
act_kept Dp (Wrote Ip w) d ws kept rest = rest
act_kept Dp (Wrote Dp w) d ws kept rest = (kept, rest)
act_kept Dp (Wrote Cm w) d ws kept rest = rest
act_kept Cm (Wrote Ip w) d ws kept rest = rest
act_kept Cm (Wrote Dp w) d ws kept rest = rest
act_kept Cm (Wrote Cm w) d ws kept rest = (kept, rest)
act_kept Ip (Synced Ip) d ws kept rest = kept_bytes d.ip ws rest
act_kept Ip (Synced Dp) d ws kept rest = rest
act_kept Ip (Synced Cm) d ws kept rest = rest
act_kept Dp (Synced Ip) d ws kept rest = rest
act_kept Dp (Synced Dp) d ws kept rest = kept_bytes d.dp ws rest
act_kept Dp (Synced Cm) d ws kept rest = rest
act_kept Cm (Synced Ip) d ws kept rest = rest
act_kept Cm (Synced Dp) d ws kept rest = rest
act_kept Cm (Synced Cm) d ws kept rest = kept_bytes d.cm ws rest

pub record_kept : (file : File) (d : Files) (es : List DoneCommand) → IsRecordOf d es → AreKept (bytes_of file d) (pending file es)
record_kept Ip d [] kept = kept.0
record_kept Dp d [] kept = kept.1
record_kept Cm d [] kept = kept.2
record_kept file d (e ∷ es) kept =
    act_kept file e.act d (pending file es) kept.0 (record_kept file (undo e.act d) es kept.1)

-- a crash may leave what reads
pub held_left : (bytes : List ℕ) (ws : List Change) → AreKept bytes ws → LeavesFile bytes ws bytes
held_left bytes [] kept = refl
held_left bytes (w ∷ ws) kept = (unwritten w bytes, held_left (unwritten w bytes) ws kept.1, kept.0.any)
