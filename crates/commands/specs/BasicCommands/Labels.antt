-- The labels of a volume as they are printed, and why they were not read.
use Rattle.std.specs.Prelude.{ℕ, List, [], ◌∷◌, ◌++◌, Bool, true, false, codes, decimal}
use Rattle.tape_types.specs.Times.{time_text}
use Rattle.tape_types.specs.Uuids.{uuid_text}
use Rattle.tape_types.specs.declared.cartridges.Part.{Part}
use Rattle.tape_types.specs.declared.cartridges.Part.TheVariants as parts
use Rattle.session_script.specs.Escapes.{escaped}
use Rattle.vol_label.specs.declared.Vol1.{Vol1}
use Rattle.ltfs_label.specs.declared.Label.{Label}
use Rattle.tape_types.specs.declared.cartridges.Place.{Place}
use Rattle.index_model.specs.Telling.{refusal_text}
use Rattle.cartridge_meaning.specs.declared.labels.Labels.{Labels}
use Rattle.cartridge_meaning.specs.declared.errors.MountErr.{MountErr}
use Rattle.cartridge_meaning.specs.declared.errors.MountErr.TheVariants as errors

abbrev pub part_name : Part → List ℕ
part_name parts.Ip = codes "ip"
part_name parts.Dp = codes "dp"

abbrev pub truth_name : Bool → List ℕ
truth_name true = codes "true"
truth_name false = codes "false"

-- `PART VOLUME `, the volume's identifier with controls, spaces and percent signs escaped
abbrev pub volume_text : Part → Vol1 → List ℕ
volume_text part label = part_name part ++ codes " " ++ escaped label.volume ++ codes " "

-- ` SIZE COMPRESSION `
abbrev pub facts_text : Label → List ℕ
facts_text label = codes " " ++ decimal label.block ++ codes " " ++ truth_name label.compression ++ codes " "

-- `PART VOLUME LETTER UUID SIZE COMPRESSION TIME`
abbrev pub label_line : Part → Vol1 → Label → List ℕ
label_line part vol1 label =
    volume_text part vol1 ++ (label.location ∷ []) ++ codes " " ++ uuid_text label.uuid ++ facts_text label
    ++ time_text label.formatted ++ codes "\n"

-- the line of the index partition, and that of the data partition
abbrev pub labels_text : Labels → List ℕ
labels_text labels = label_line parts.Ip labels.ip_record labels.ip ++ label_line parts.Dp labels.dp_record labels.dp

-- a place of a cartridge, behind the name of a check
abbrev pub place_line : List ℕ → Place → List ℕ
place_line check place = check ++ (part_name place.part ++ (codes " " ++ (decimal place.pos ++ codes "\n")))

-- the line of a check that failed, of a drive that failed, and of memory that was refused
abbrev pub mount_text : MountErr → List ℕ
mount_text (errors.Vol1 part) = codes "volume Vol1 " ++ part_name part ++ codes "\n"
mount_text (errors.Label part) = codes "volume Label " ++ part_name part ++ codes "\n"
mount_text errors.LabelsDiffer = codes "volume LabelsDiffer\n"
mount_text (errors.Layout place) = place_line (codes "volume Layout ") place
mount_text errors.NoIndex = codes "volume NoIndex\n"
mount_text (errors.BadIndex place why) =
    codes "volume BadIndex " ++ (part_name place.part ++ (codes " " ++ (decimal place.pos ++ codes " ")))
    ++ refusal_text why ++ codes "\n"
mount_text (errors.WrongVolume place) = place_line (codes "volume WrongVolume ") place
mount_text (errors.WrongPointer place) = place_line (codes "volume WrongPointer ") place
mount_text (errors.BadExtent uid) = codes "volume BadExtent " ++ (decimal uid ++ codes "\n")
mount_text (errors.Drive counts) =
    codes "drive " ++ (decimal counts.before ++ (codes " " ++ (decimal counts.after ++ codes "\n")))
mount_text errors.NoMemory = codes "memory\n"

-- 3 for a check that failed, 4 for a drive that failed, 7 for want of memory
abbrev pub mount_status : MountErr → ℕ
mount_status (errors.Vol1 part) = 3
mount_status (errors.Label part) = 3
mount_status errors.LabelsDiffer = 3
mount_status (errors.Layout place) = 3
mount_status errors.NoIndex = 3
mount_status (errors.BadIndex place why) = 3
mount_status (errors.WrongVolume place) = 3
mount_status (errors.WrongPointer place) = 3
mount_status (errors.BadExtent uid) = 3
mount_status (errors.Drive counts) = 4
mount_status errors.NoMemory = 7
