-- A walk from the mount on.
use Rattle.std.proofs.Common.{◌≡◌, ℕ, List, refl, subst, ◌∙◌}
use Rattle.tape_types.specs.declared.cartridges.Cartridge.{Cartridge}
use Rattle.tape_types.specs.declared.cartridges.Part.TheVariants.{Dp}
use Rattle.cartridge_meaning.specs.Meaning.{Found}
use Rattle.cartridge_meaning.specs.declared.errors.MountErr.{MountErr}
use Rattle.cartridge_meaning.specs.declared.errors.MountErr.TheVariants as errors
use Rattle.volume_scan.specs.declared.content.Construct.{Construct}
use Rattle.mount_recover.specs.Labels.{AreCounts as mount_counts}
use Rattle.mount_recover.specs.Lasts.{IsScannedMount}
use Rattle.mount_recover.specs.Steps.{Blames}
use Rattle.mount_recover.specs.declared.mounting.Scanned.{Scanned}
use Rattle.mount_recover.proofs.ScanLemmas.{long_front}
use Rattle.generation_view.specs.Told.{AreCounts, AreKnown, RefusesChain, TellsChain, TellsWalk, refusal}
use Rattle.generation_view.specs.declared.errors.BreakWhy.{BreakWhy}
use Rattle.generation_view.specs.declared.errors.ViewErr.TheVariants as view_errors
use Rattle.generation_view.specs.declared.telling.Generation.{Generation}
use Rattle.generation_view.specs.declared.telling.Walked.{Walked}
use Rattle.generation_view.specs.declared.telling.Walked.TheVariants as walks

-- what is known of a mounted cartridge where a walk begins
pub known_of : (c : Cartridge) (s : Scanned) (places : List Construct) → IsScannedMount s c → places ≡ s.places → AreKnown s.mounted.end_ip places c
known_of c s places is same = record {
  form = is.mounts.found.forms.dp;
  long = long_front Dp c (is.mounts.found.labels, is.mounts.found.forms.has);
  places_are = same ∙ is.places_are;
  end_is = is.mounts.ip_end;
}

-- ---- what is told of a walk

-- a walk that came to the end tells the whole chain
pub whole_told : (c : Cartridge) (walk : Walked) (told : List Generation) → walk ≡ walks.Whole told → (found : Found c) × TellsWalk c found walk
    → TellsChain told c
whole_told c walk told is t =
    let s = subst (λ (w : Walked). TellsWalk c t.0 w) is t.1 in
    record { found = t.0; links = s.0; chain = s.1; told_is = s.2 }

-- a walk that broke tells where and why the chain breaks
pub broken_told : (c : Cartridge) (walk : Walked) (block : ℕ) (why : BreakWhy) → walk ≡ walks.Broken block why
    → (found : Found c) × TellsWalk c found walk → RefusesChain (view_errors.Broken (record { part = Dp; pos = block }) why) c
broken_told c walk block why is t =
    let s = subst (λ (w : Walked). TellsWalk c t.0 w) is t.1 in (refl, (t.0, s.0, s.1))

-- a cartridge that doesn't mount has no chain to tell
pub refuses_chain : (c : Cartridge) (e : MountErr) → Blames e c → RefusesChain (refusal e) c
refuses_chain c (errors.Drive counts) blames = tt
refuses_chain c errors.NoMemory blames = tt
refuses_chain c e blames = blames

-- the counts that a mount's refusal tells
pub counts_told : (before now : ℕ) (e : MountErr) → mount_counts before now e → AreCounts before now (refusal e)
counts_told before now (errors.Drive counts) is = is
counts_told before now errors.NoMemory is = tt
counts_told before now e is = tt
