-- The cartridge of three files, or why there is none.
use Rattle.std.specs.Prelude.{ℕ, ◌+◌, ◌≡◌, ◌≤◌, ◌⊎◌, ◌==◌, ◌&&◌, Bool, true, false, nat_lt, nat_le, if◌then◌else◌, List, [], ◌∷◌, ◌++◌}
use Rattle.std.specs.Prelude.{length, Option, Some, None, Result, Ok, Err}
use Rattle.tape_types.specs.declared.cartridges.Cartridge.{Cartridge}
use Rattle.tape_types.specs.declared.cartridges.Item.{Item}
use Rattle.tape_types.specs.declared.cartridges.Item.TheVariants as item
use Rattle.tape_types.specs.declared.cartridges.Limits.{Limits}
use Rattle.tape_types.specs.declared.cartridges.Note.TheVariants.{Absent}
use Rattle.tape_types.specs.declared.cartridges.Part.TheVariants.{Ip, Dp}
use Rattle.byte_disk.specs.Files.{Files}
use Rattle.image_slots.specs.Sides.{chosen}
use Rattle.image_slots.specs.Slots.{HasValue, IsBlank}
use Rattle.image_format.specs.declared.refusal.Refusal.{Refusal}
use Rattle.image_format.specs.declared.refusal.Refusal.TheVariants.{Header, Record}
use Rattle.image_format.specs.declared.values.Half.{Half}
use Rattle.image_format.specs.declared.values.SlotValue.{SlotValue}
use Rattle.image_format.specs.Records.{AreRecords, IsFaultAt, items_in}
use Rattle.image_format.specs.Values.{IsValue, flag, value_of}

-- nothing was made yet
abbrev pub is_blank : Files → Bool
is_blank d = (length d.ip == 0) && (length d.dp == 0) && nat_lt (length d.cm) 512

-- the records fit the capacity, with the Torn behind them
abbrev pub Fits : ℕ → Half → Type 0
Fits cap h = h.count + flag h.torn ≤ cap

abbrev pub fits : ℕ → Half → Bool
fits cap h = if h.torn then nat_lt h.count cap else nat_le h.count cap

-- what the header says: the value that counts is in form, and fits the capacities
pub record IsHeader (limits : Limits) (cm : List ℕ) (s : SlotValue) : Type 0 where
  pub raw : List ℕ
  pub counts : HasValue cm raw
  pub told : IsValue raw s
  pub ip : Fits limits.cap_ip s.ip
  pub dp : Fits limits.cap_dp s.dp

abbrev pub fitting : Limits → Option SlotValue → Option SlotValue
fitting limits None = None
fitting limits (Some s) = if fits limits.cap_ip s.ip && fits limits.cap_dp s.dp then Some s else None

abbrev pub header_by : Limits → Option (List ℕ) → Option SlotValue
header_by limits None = None
header_by limits (Some raw) = fitting limits (value_of raw)

abbrev pub header : Limits → List ℕ → Option SlotValue
header limits cm = header_by limits (chosen cm)

-- what stands behind the records
abbrev pub tail_of : Bool → List Item
tail_of true = item.Torn ∷ []
tail_of false = []

abbrev pub cartridge_of : SlotValue → List Item → List Item → Cartridge
cartridge_of s ip dp = record {
  ip = ip ++ tail_of s.ip.torn;
  dp = dp ++ tail_of s.dp.torn;
  vcr = s.vcr;
  note_ip = s.ip.note;
  note_dp = s.dp.note;
}

abbrev pub blank : Cartridge
blank = record { ip = []; dp = []; vcr = 0; note_ip = Absent; note_dp = Absent }

-- the files are those of this cartridge
pub record IsImage (limits : Limits) (d : Files) (c : Cartridge) : Type 0 where
  pub s : SlotValue
  pub ip : List Item
  pub dp : List Item
  pub head : IsHeader limits d.cm s
  pub in_ip : AreRecords s.ip d.ip ip
  pub in_dp : AreRecords s.dp d.dp dp
  pub is : c ≡ cartridge_of s ip dp

-- what the files of a disk that isn't blank lack
abbrev pub Lacks : Limits → Files → Refusal → Type 0
Lacks limits d Header = (s : SlotValue) → ¬ (IsHeader limits d.cm s)
Lacks limits d (Record Ip n) = (s : SlotValue) × IsHeader limits d.cm s × IsFaultAt s.ip d.ip n
Lacks limits d (Record Dp n) =
    (s : SlotValue) × IsHeader limits d.cm s × ((ip : List Item) × AreRecords s.ip d.ip ip) × IsFaultAt s.dp d.dp n

abbrev pub joined : SlotValue → Result (List Item) ℕ → Result (List Item) ℕ → Result Cartridge Refusal
joined s (Err n) dp = Err (Record Ip n)
joined s (Ok ip) (Err n) = Err (Record Dp n)
joined s (Ok ip) (Ok dp) = Ok (cartridge_of s ip dp)

abbrev pub image_by : Files → Option SlotValue → Result Cartridge Refusal
image_by d None = Err Header
image_by d (Some s) = joined s (items_in s.ip d.ip) (items_in s.dp d.dp)

-- the cartridge that lies in the files, or why there is none
abbrev pub image : Limits → Files → Result Cartridge Refusal
image limits d = if is_blank d then Ok blank else image_by d (header limits d.cm)

-- a disk opens as this cartridge
abbrev pub Opens : Limits → Files → Cartridge → Type 0
Opens limits d c = image limits d ≡ Ok c

-- what may be said of a disk
abbrev pub IsSaid : Limits → Files → Result Cartridge Refusal → Type 0
IsSaid limits d (Ok c) = (IsBlank d × (c ≡ blank)) ⊎ ((¬ (IsBlank d)) × IsImage limits d c)
IsSaid limits d (Err why) = (¬ (IsBlank d)) × Lacks limits d why
