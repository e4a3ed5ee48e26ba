-- How the fields of a drive in memory make up its cartridge.
use Rattle.std.specs.Prelude.{ℕ, ◌≡◌, List, [], ◌∷◌, ◌++◌, take, drop}
use Rattle.tape_types.specs.declared.cartridges.Part.{Part}
use Rattle.tape_types.specs.declared.cartridges.Part.TheVariants.{Ip, Dp}
use Rattle.tape_types.specs.declared.cartridges.Item.{Item}
use Rattle.tape_types.specs.declared.cartridges.Note.{Note}
use Rattle.tape_types.specs.declared.cartridges.Cartridge.{Cartridge}

abbrev pub reads_as : List Item → List Item → ℕ → Note → Note → Cartridge
reads_as ip dp vcr note_ip note_dp = record { ip = ip; dp = dp; vcr = vcr; note_ip = note_ip; note_dp = note_dp }

-- one of two lists was cut and got an item, and `gone` is what the cut has taken away
abbrev pub IsPlaced : Part → ℕ → Item → List Item → List Item → List Item → List Item → List Item → Type 0
IsPlaced Ip pos x gone ip dp new_ip new_dp = (gone ≡ drop pos ip) × (new_ip ≡ take pos ip ++ x ∷ []) × (new_dp ≡ dp)
IsPlaced Dp pos x gone ip dp new_ip new_dp = (gone ≡ drop pos dp) × (new_ip ≡ ip) × (new_dp ≡ take pos dp ++ x ∷ [])

-- one of two attributes was replaced, and `before` is what it was
abbrev pub IsNotePlaced : Part → Note → Note → Note → Note → Note → Note → Type 0
IsNotePlaced Ip note before ip dp new_ip new_dp = (before ≡ ip) × (new_ip ≡ note) × (new_dp ≡ dp)
IsNotePlaced Dp note before ip dp new_ip new_dp = (before ≡ dp) × (new_ip ≡ ip) × (new_dp ≡ note)
