-- What a mount finds by the notes of a cartridge.
use Rattle.std.specs.Prelude.{ℕ, ◌+◌, ◌*◌, ◌≤◌, ◌<◌, ◌≡◌, List, ◌∷◌, Bool, true, false, length, Option}
use Rattle.std.specs.Prelude.{Some, IfSome}
use Rattle.std.specs.List.{concat}
use Rattle.tape_types.specs.declared.cartridges.Cartridge.{Cartridge}
use Rattle.tape_types.specs.declared.cartridges.Item.{Item}
use Rattle.tape_types.specs.declared.cartridges.Item.TheVariants.{Block, Mark}
use Rattle.tape_types.specs.declared.cartridges.Limits.{Limits}
use Rattle.tape_types.specs.declared.cartridges.Note.{Note}
use Rattle.tape_types.specs.declared.cartridges.Part.{Part}
use Rattle.tape_types.specs.declared.cartridges.Part.TheVariants.{Ip, Dp}
use Rattle.tape_types.specs.declared.cartridges.Place.{Place}
use Rattle.tape_types.specs.Cartridges.{items_of}
use Rattle.tape_drive.specs.Looks.{Looks}
use Rattle.tape_drive.specs.declared.drive.Drive.{Ghosts}
use Rattle.coherency.specs.Notes.{HasValues}
use Rattle.coherency.specs.declared.Coherency.{Coherency}
use Rattle.index_model.specs.Grammar.{IndexText}
use Rattle.index_model.specs.declared.errors.IndexErr.{IndexErr}
use Rattle.index_model.specs.declared.errors.IndexErr.TheVariants as index_errors
use Rattle.index_model.specs.declared.indexes.Index.{Index}
use Rattle.ltfs_label.specs.declared.Label.{Label}
use Rattle.content_laws.specs.Readings as readings
use Rattle.content_laws.specs.Readings.{HasForm, IsIndexAt, front}
use Rattle.content_laws.specs.Ends.{EndsWithLast}
use Rattle.cartridge_meaning.specs.Meaning.{dp_end, ip_end}
use Rattle.cartridge_meaning.specs.Labels.{HasLabels}
use Rattle.cartridge_meaning.specs.Notes.{TellsOfLast}
use Rattle.cartridge_meaning.specs.Pointers.{indexes_of, letter_of}
use Rattle.cartridge_meaning.specs.declared.labels.Labels.{Labels}
use Rattle.volume_scan.specs.declared.content.Construct.{Construct}
use Rattle.mount_recover.specs.Lasts.{EndsAs, IsDecided, IsDocument, IsInPlace, IsPut, IsSoundLast, TellsBoth}
use Rattle.mount_recover.specs.Lasts.{dp_in, ip_in, newest}
use Rattle.mount_recover.specs.declared.choices.Choice.{Choice}
use Rattle.mount_recover.specs.declared.choices.Standing.{Standing}
use Rattle.mount_recover.specs.declared.extents.Ends.{Ends}
use Rattle.mount_recover.specs.declared.documents.Beside.{Beside}
use Rattle.mount_recover.specs.declared.endings.Ending.{Ending}
use Rattle.mount_recover.specs.declared.endings.Next.{Next}
use Rattle.mount_recover.specs.declared.endings.Next.TheVariants as nexts
use Rattle.mount_recover.specs.declared.endings.Run.{Run}
use Rattle.mount_recover.specs.declared.lasts.LastIndex.{LastIndex}
use Rattle.mount_recover.specs.declared.lasts.Lasts.{Lasts}
use Rattle.mount_recover.specs.declared.notes.Named.{Named}
use Rattle.mount_recover.specs.declared.notes.Notes.{Notes}

-- the volume change reference and the notes of a cartridge were read
pub record AreNotes (notes : Notes) (c : Cartridge) : Type 0 where
  pub vcr : notes.vcr ≡ c.vcr
  pub ip : notes.ip ≡ c.note_ip
  pub dp : notes.dp ≡ c.note_dp

-- a note has these values, and they have this volume change reference and this UUID
pub record IsCurrentAs (note : Note) (vcr uuid : ℕ) (values : Coherency) : Type 0 where
  pub has : HasValues note values
  pub vcr_is : values.vcr ≡ vcr
  pub uuid_is : values.uuid ≡ uuid

-- an index may have its first block there, in a partition of this capacity: behind the labels and a mark
abbrev pub CanBegin : ℕ → ℕ → Type 0
CanBegin capacity block = (5 ≤ block) × (block < capacity)

-- these are the values of both notes, which are coherent and name places at which an index may begin
pub record AreNamed (notes : Notes) (uuid : ℕ) (limits : Limits) (n : Named) : Type 0 where
  pub ip : IsCurrentAs notes.ip notes.vcr uuid n.ip
  pub dp : IsCurrentAs notes.dp notes.vcr uuid n.dp
  pub ip_begins : CanBegin limits.cap_ip n.ip.block
  pub dp_begins : CanBegin limits.cap_dp n.dp.block

-- ---- an index with which a partition ends

-- an index whose opening mark the head of a drive stands at, or behind it, ends before a position
pub record IsAhead {D : Type 0} (drive : Ghosts D) (now : D) (pos mark positions : ℕ) (c : Cartridge)
    (blocks : List (List ℕ)) : Type 0 where
  pub part : Part
  pub head : drive.head now ≡ Some (record { part = part; pos = pos })
  pub held : drive.held now ≡ Some c
  pub index : IsIndexAt (items_of part c) mark blocks
  pub within : mark + 1 + length blocks < positions

-- some commands only read: so many at most, and so many as is told
pub record Took {D : Type 0} (drive : Ghosts D) (old new : D) (most : ℕ) (Told : ℕ → Type 0) : Type 0 where
  pub count : ℕ
  pub looks : Looks drive (count * drive.MOST) old new
  pub most_is : count ≤ most
  pub told : Told count

-- what an item further does to what is read of a document
abbrev pub IsPutNext : Beside → (block before after : List ℕ) → Next → Type 0
IsPutNext read block before after (nexts.Block next) = IsPut read block before after next
IsPutNext read block before after nexts.Mark = after ≡ before
IsPutNext read block before after nexts.Other = after ≡ before

-- an item further: where the head stands then
abbrev pub IsPast : {D : Type 0} (drive : Ghosts D) → Next → Place → D → Type 0
IsPast drive (nexts.Block next) at new = drive.head new ≡ Some (record { part = at.part; pos = at.pos + 1 })
IsPast drive nexts.Mark at new = drive.head new ≡ Some (record { part = at.part; pos = at.pos + 1 })
IsPast drive nexts.Other at new = Unit {0}

-- what is told of the item that stands there
pub record IsNext (item : Option Item) (next : Next) (buffer : List ℕ) : Type 0 where
  pub block : (b : List ℕ) → item ≡ Some (Block b) → (read : Beside) × (next ≡ nexts.Block read) × (buffer ≡ b)
  pub mark : item ≡ Some Mark → next ≡ nexts.Mark

-- blocks were read up to the mark behind them, from a position on
pub record IsRun (first positions : ℕ) (before after : List ℕ) (run : Run) : Type 0 where
  pub low : first + 1 ≤ run.after
  pub high : run.after ≤ positions
  pub same : run.same ≡ true → after ≡ before

pub record IsRunOf (first : ℕ) (document : List ℕ) (blocks : List (List ℕ)) (run : Run) : Type 0 where
  pub after : run.after ≡ first + length blocks + 1
  pub text : document ≡ concat blocks

-- an index was read with which the items of a partition end, where this tells them
pub record IsReadToEnd (items : List Item) (mark : ℕ) (document : List ℕ) (blocks : List (List ℕ)) (e : Ending)
    : Type 0 where
  pub ends : length items ≡ mark + length blocks + 2
  pub after : e.place.after ≡ mark + length blocks + 2
  pub text : document ≡ concat blocks

-- it stands there within a capacity; and it may be the text in place of which it was read
pub record IsEnding (capacity mark : ℕ) (before after : List ℕ) (e : Ending) : Type 0 where
  pub place : IsInPlace capacity e.place
  pub mark_is : e.place.mark ≡ mark
  pub same : e.same ≡ true → after ≡ before

-- the last index of a partition is opened there
pub record IsLastFrom (items : List Item) (mark : ℕ) : Type 0 where
  pub form : HasForm items
  pub long : 4 ≤ length (front items)
  pub k : readings.Construct
  pub older : List readings.Construct
  pub parts : indexes_of items ≡ k ∷ older
  pub mark_is : k.mark ≡ mark

-- a partition ends with its last index, which stands there, and this is its document
pub record EndsAt (items : List Item) (document : List ℕ) (place : Construct) : Type 0 where
  pub ends : EndsWithLast items (indexes_of items)
  pub stands : newest (indexes_of items) ≡ Some place
  pub document_is : IsDocument document (indexes_of items)

-- ---- the last indexes

-- a note tells of the last index of its partition, which has its form
pub record IsTold (label : Label) (part : Part) (values : Coherency) (c : Cartridge) : Type 0 where
  pub long : 4 ≤ length (front (items_of part c))
  pub form : HasForm (items_of part c)
  pub tells : TellsOfLast c label part values

-- these are the values of the notes of a cartridge with these labels, and they tell of its last indexes
pub record AreTold (labels : Labels) (n : Named) (c : Cartridge) : Type 0 where
  pub has : HasLabels c labels
  pub ip_current : IsCurrentAs c.note_ip c.vcr labels.ip.uuid n.ip
  pub dp_current : IsCurrentAs c.note_dp c.vcr labels.ip.uuid n.dp
  pub ip : IsTold labels.ip Ip n.ip c
  pub dp : IsTold labels.ip Dp n.dp c

-- an index is as a note says: it points to its place, and has the note's generation
pub record IsAsNoted (letter : ℕ) (values : Coherency) (place : Construct) (index : Index) : Type 0 where
  pub here : index.here ≡ record { letter = letter; block = place.first }
  pub generation : index.generation ≡ values.generation

-- it is of the volume with a label, too
pub record IsOfNote (label : Label) (letter : ℕ) (values : Coherency) (place : Construct) (index : Index) : Type 0 where
  pub uuid : index.uuid ≡ label.uuid
  pub noted : IsAsNoted letter values place index

-- a document is that of such an index
pub record IsNotedText (document : List ℕ) (label : Label) (letter : ℕ) (values : Coherency) (place : Construct)
    (index : Index) : Type 0 where
  pub text : IndexText document index
  pub is_of : IsOfNote label letter values place index

-- the last index of a partition was found by its note
pub record IsNotedLast (label : Label) (part : Part) (values : Coherency) (capacity : ℕ) (l : LastIndex) : Type 0 where
  pub sound : IsSoundLast label capacity l
  pub first : l.place.first ≡ values.block
  pub noted : IsAsNoted (letter_of label part) values l.place l.index

-- the same of one that was read of a document
pub record IsNotedRead (label : Label) (part : Part) (values : Coherency) (capacity : ℕ) (document : List ℕ)
    (l : LastIndex) : Type 0 where
  pub last : IsNotedLast label part values capacity l
  pub text : IndexText document l.index

-- an index of the index partition is no older than the last one of the data partition, and points back to it
pub record Follows (label : Label) (index : Index) (dp : LastIndex) : Type 0 where
  pub later : dp.index.generation ≤ index.generation
  pub back : index.back ≡ Some (record { letter = label.dpart; block = dp.place.first })

-- whether memory was refused to the reader of a document
abbrev pub lacks_memory : IndexErr → Bool
lacks_memory index_errors.NoMemory = true
lacks_memory e = false

-- the partitions end with their last indexes
pub record EndWithLasts (c : Cartridge) : Type 0 where
  pub ip : EndsWithLast c.ip (indexes_of c.ip)
  pub dp : EndsWithLast c.dp (indexes_of c.dp)

-- the last indexes of both partitions were found by the notes
pub record AreNotedLasts (label : Label) (n : Named) (limits : Limits) (lasts : Lasts) : Type 0 where
  pub dp : LastIndex
  pub dp_is : dp_in lasts ≡ Some dp
  pub dp_noted : IsNotedLast label Dp n.dp limits.cap_dp dp
  pub ip : LastIndex
  pub ip_is : ip_in lasts ≡ Some ip
  pub ip_noted : IsNotedLast label Ip n.ip limits.cap_ip ip
  pub follows : Follows label ip.index dp

-- the ends of the partitions of a cartridge
pub record AreEndsOf (c : Cartridge) (ends : Ends) : Type 0 where
  pub ip : ends.ip ≡ ip_end c
  pub dp : ends.dp ≡ dp_end c

-- ends within capacities, the second behind the last index of the data partition
pub record AreEndsWithin (limits : Limits) (last : Option Standing) (ends : Ends) : Type 0 where
  pub ip : (4 ≤ ends.ip) × (ends.ip ≤ limits.cap_ip)
  pub dp : (4 ≤ ends.dp) × (ends.dp ≤ limits.cap_dp)
  pub last_dp : IfSome last (λ s. s.place.first < ends.dp)

-- the ends of partitions that end with these indexes
abbrev pub AreEndsBy : (ip dp : Option Standing) → Ends → Type 0
AreEndsBy (Some ip) (Some dp) ends = (ends.ip ≡ ip.place.mark) × (ends.dp ≡ dp.place.after)
AreEndsBy ip dp ends = ⊥

-- an index was chosen by the notes, both of which tell of the last indexes, and with these both partitions end
pub record IsChosenByNotes (labels : Labels) (choice : Choice) (c : Cartridge) : Type 0 where
  pub lasts : Lasts
  pub decided : IsDecided labels lasts choice c
  pub ip_ends : EndsAs c.ip choice.ip
  pub dp_ends : EndsAs c.dp choice.dp
  pub noted : TellsBoth c labels.ip.uuid choice.ip choice.dp
