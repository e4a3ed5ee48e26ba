-- What one index is to a chain.
use Rattle.std.proofs.Common.{◌≡◌, ℕ, List, Option, Some, None, Ok, Err, sym, ap, subst}
use Rattle.std.specs.List.{AllByRecursion}
use Rattle.tape_types.specs.declared.cartridges.Cartridge.{Cartridge}
use Rattle.tape_types.specs.declared.cartridges.Place.{Place}
use Rattle.tape_drive.specs.declared.drive.Drive.{Ghosts}
use Rattle.index_model.specs.declared.indexes.Index.{Index}
use Rattle.ltfs_label.specs.declared.Label.{Label}
use Rattle.content_laws.specs.Readings as readings
use Rattle.cartridge_meaning.specs.Meaning.{FitsNode, ip_end}
use Rattle.cartridge_meaning.specs.Pointers.{IsOfVolume, PointsOnDp, text_of}
use Rattle.cartridge_meaning.specs.declared.errors.MountErr.{MountErr}
use Rattle.cartridge_meaning.specs.declared.errors.MountErr.TheVariants as errors
use Rattle.volume_scan.specs.declared.content.Construct.{Construct}
use Rattle.volume_scan.specs.Scans.{places_of}
use Rattle.mount_recover.specs.Lasts.{IsFirstOutside, IsNoText}
use Rattle.mount_recover.specs.Steps.{IsFree, IsStep}
use Rattle.mount_recover.specs.declared.starts.Start.{Start}
use Rattle.generation_view.specs.Chain.{Breaks, IsLink, IsOlder}
use Rattle.generation_view.specs.Steps.{why_in}
use Rattle.generation_view.specs.declared.errors.BreakWhy.{BreakWhy}
use Rattle.generation_view.specs.declared.errors.BreakWhy.TheVariants as breaks

module _ (label : Label) (c : Cartridge) (k : readings.Construct) (ks : List readings.Construct) (after : Option ℕ) (end_ip : ℕ) (place : Construct)
    (end_is : end_ip ≡ ip_end c) (there : places_of k ≡ place) where
  mark_is : place.mark ≡ k.mark
  mark_is = ap (λ (p : Construct). p.mark) (sym there)

  -- an index whose tests all pass is a link of the chain
  pub all_before : (index : Index) → IsOfVolume label k index → PointsOnDp label k ks index → IsOlder index after
      → AllByRecursion (FitsNode label end_ip place.mark) index.nodes → IsLink label c k ks after index
  all_before index of points older within = record {
    of_volume = of;
    points = points;
    rises = older;
    within =
        subst (λ (n : ℕ). AllByRecursion (FitsNode label (ip_end c) n) index.nodes) mark_is
        (subst (λ (n : ℕ). AllByRecursion (FitsNode label n place.mark) index.nodes) end_is within);
  }

  -- an index whose file has an extent that ends too late breaks the chain there
  pub one_behind : (index : Index) (uid : ℕ) → IsOfVolume label k index → PointsOnDp label k ks index → IsOlder index after
      → IsFirstOutside label end_ip place.mark index.nodes uid → Breaks label c k ks after (breaks.Extent uid)
  one_behind index uid of points older outside = (
    index,
    of,
    points,
    older,
    subst (λ (n : ℕ). IsFirstOutside label (ip_end c) n index.nodes uid) mark_is
        (subst (λ (n : ℕ). IsFirstOutside label n place.mark index.nodes uid) end_is outside),
  )

-- a text that is refused breaks the chain
pub breaks_by : (label : Label) (c : Cartridge) (k : readings.Construct) (ks : List readings.Construct) (after : Option ℕ) (at : Place)
    (e : MountErr) (why : BreakWhy) → why_in e ≡ Some why → IsNoText (text_of k) label.uuid at e → Breaks label c k ks after why
breaks_by label c k ks after at (errors.BadIndex p f) why is none =
    let same : breaks.Text f ≡ why = cc is in subst (Breaks label c k ks after) same none.1
breaks_by label c k ks after at (errors.WrongVolume p) why is none =
    let same : breaks.Volume ≡ why = cc is in subst (Breaks label c k ks after) same none.1
breaks_by label c k ks after at e why is none = absurd (cc is)

-- an end of a reading that isn't the text's fault says nothing of the cartridge
pub free_by : (c : Cartridge) (text : List ℕ) (uuid : ℕ) (at : Place) (e : MountErr) → why_in e ≡ None → IsNoText text uuid at e → IsFree e c
free_by c text uuid at (errors.Drive counts) is none = tt
free_by c text uuid at errors.NoMemory is none = tt
free_by c text uuid at (errors.BadIndex p f) is none = absurd (cc is)
free_by c text uuid at (errors.WrongVolume p) is none = absurd (cc is)
free_by c text uuid at e is none = absurd none

-- what is told of what a step refuses
pub turned : {D T U : Type 0} (drive : Ghosts D) (start : Start) {m : ℕ} {a b : D} {F : T → Cartridge → Type 0} {A : T → Type 0}
    {R V : MountErr → Cartridge → Type 0} {H : U → Cartridge → Type 0} {C : U → Type 0} {e : MountErr} {y : U}
    → IsStep drive start m a b F A R (Err e) → ((c : Cartridge) → drive.held a ≡ Some c → R e c → H y c) → C y → IsStep drive start m a b H C V (Ok y)
turned drive start step finds holds = record {
  found = λ c h. finds c h (step.refused c h);
  any = holds;
  refused = tt;
  counts = record { later = step.counts.later; told = tt };
  looks = step.looks;
  since = step.since;
}
