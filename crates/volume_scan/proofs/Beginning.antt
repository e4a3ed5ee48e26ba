-- Where the reading of a partition begins.
use Rattle.std.proofs.Common.{◌≤◌, ◌≡◌, [], length, Option, Some, None, subst, arith}
use Rattle.std.specs.Prelude.{IfSome}
use Rattle.tape_types.specs.Cartridges.{FitsLimits, IsLimits, capacity, items_of}
use Rattle.tape_types.specs.declared.cartridges.Cartridge.{Cartridge}
use Rattle.tape_types.specs.declared.cartridges.Limits.{Limits}
use Rattle.tape_types.specs.declared.cartridges.Part.{Part}
use Rattle.tape_types.specs.declared.cartridges.Part.TheVariants.{Ip, Dp}
use Rattle.content_laws.specs.Readings.{front}
use Rattle.content_laws.proofs.Whole.{front_within}
use Rattle.volume_scan.specs.declared.content.Content.{Content}
use Rattle.volume_scan.specs.declared.reading.Reading.{Reading}
use Rattle.volume_scan.specs.Scans.{IsContent}
use Rattle.volume_scan.specs.Steps.{IsReadTo, lead_at}
use Rattle.volume_scan.proofs.Told.{read_told}
use Rattle.volume_scan.proofs.Going.{all_read, begun}

told_of : (o : Option Cartridge) (P : Cartridge → Type 0) → IfSome o P → (c : Cartridge) → o ≡ Some c → P c
told_of o P holds c is = subst (λ (x : Option Cartridge). IfSome x P) is holds

-- the items behind which the reading begins are there
pub labels_there : (o : Option Cartridge) (part : Part) → IfSome o (λ c. 4 ≤ length (front (items_of part c))) → IfSome o (λ c. 4 ≤ length (items_of part c))
labels_there None part long = tt
labels_there (Some c) part long = omega (arith, long, front_within (items_of part c))

fits : (part : Part) (limits : Limits) (c : Cartridge) → FitsLimits limits c → length (items_of part c) ≤ capacity part limits
fits Ip limits c f = f.ip.count
fits Dp limits c f = f.dp.count

-- a partition has room for its labels
pub least : (part : Part) (limits : Limits) → IsLimits limits → 4 ≤ capacity part limits
least Ip limits range = range.ip_least
least Dp limits range = range.dp_least

module _ (o : Option Cartridge) (part : Part) (limits : Limits) (r : Reading)
    (long : IfSome o (λ c. 4 ≤ length (front (items_of part c)))) (fit : IfSome o (λ c. FitsLimits limits c))
    (constructs : r.constructs ≡ []) (opened : r.opened ≡ None) (pos : r.pos ≡ 4) where
  -- a reading begins behind the labels, within the capacity
  pub begins : (c : Cartridge) → o ≡ Some c → (length (items_of part c) ≤ capacity part limits) × IsReadTo (items_of part c) r
  begins c is = (
    fits part limits c (told_of o (λ c. FitsLimits limits c) fit c is),
    begun (items_of part c) r (told_of o (λ c. 4 ≤ length (front (items_of part c))) long c is) constructs opened pos,
  )

  -- a partition with room for its labels alone has nothing else
  pub has_labels_alone : (found : Content) → capacity part limits ≡ 4 → found.constructs ≡ r.constructs → found.lead ≡ lead_at r.opened r.pos
      → found.front ≡ r.pos → (c : Cartridge) → o ≡ Some c → IsContent (items_of part c) found
  has_labels_alone found four found_constructs lead front_is c is =
      let b = begins c is in
      read_told (items_of part c) found (told_of o (λ c. 4 ≤ length (front (items_of part c))) long c is)
      (all_read (items_of part c) r found b.1 (omega (arith, front_within (items_of part c), b.0, four, pos)) found_constructs lead front_is)
