-- What `list` promises, from what it comes to and what is told of that.
use Rattle.std.proofs.Common.{◌≡◌, ℕ, ◌+◌, ◌*◌, ◌≤◌, Bool, List, [], ◌∷◌, ◌++◌, length, take, arith, Option, Some, None, codes, refl, sym, subst, inl, inr, ◌⊎◌}
use Rattle.std.specs.Prelude.{IfSome}
use Rattle.std.specs.Io.KnownBytes.{Appends}
use Rattle.tape_types.specs.Counts.{Rose}
use Rattle.tape_types.specs.declared.cartridges.Cartridge.{Cartridge}
use Rattle.session_script.specs.declared.logs.Log.{Log}
use Rattle.extent_map.specs.Cells.{Tape, tape_of}
use Rattle.std.proofs.Math.Seq.{take-append-add}
use Rattle.file_tree.specs.Tree.{plain_of, whole}
use Rattle.tape_drive.specs.Looks.{Looks}
use Rattle.tape_drive.specs.declared.drive.Drive.{Ghosts}
use Rattle.mount_recover.specs.Known.{mount_most}
use Rattle.mount_recover.specs.Labels.{AreCounts}
use Rattle.mount_recover.specs.Steps.{Blames}
use Rattle.tape_edge.specs.Streams.{AppendsFront}
use Rattle.cartridge_meaning.specs.declared.errors.MountErr.{MountErr}
use Rattle.cartridge_meaning.specs.declared.errors.MountErr.TheVariants as errors
use Rattle.cartridge_meaning.specs.Meaning.{Found}
use Rattle.tree_listing.specs.Listing.{IsCutShort, first_lines, listing_text}
use Rattle.tree_listing.specs.declared.errors.ListErr.{ListErr}
use Rattle.tree_listing.specs.declared.errors.ListErr.TheVariants as list_errors
use Rattle.tree_listing.proofs.Listed.{appends_more}
use Rattle.commands.specs.BasicCommands.Headline.{IsDriveFaultPrinted, IsListingPrinted, IsMountFaultPrinted, IsPartPrinted}
use Rattle.commands.specs.BasicCommands.Labels.{mount_status, mount_text}
use Rattle.commands.specs.BasicCommands.Listings.{IsListingFor, IsListingOf, Listing, listing_of}
use Rattle.commands.specs.BasicCommands.Outcomes.{EndsAs, IsListEnd, IsListingTold, IsTold, ListEnd, cut_short, list_status, list_text, listed, of_list, unlisted}
use Rattle.commands.specs.BasicCommands.Promises.{DoesList, ReadsAsNone}
use Rattle.commands.specs.BasicCommands.Runs.{IsOneOf, Looked, Written, looked}
use Rattle.commands.specs.declared.basic_commands.lists.FoundTree.{FoundTree}
use Rattle.commands.proofs.BasicCommands.MountClauses.{among_all, among_refused, blamed, drive_told, found_done, memory_told, mount_isnt, mount_known}
use Rattle.commands.proofs.BasicCommands.Told.{by_six, by_status, by_text, if_some, of_some}

status_is : (end : ListEnd) → IsOneOf (list_status end) (0 ∷ 3 ∷ 4 ∷ 6 ∷ 7 ∷ [])
status_is (listed l) = inl refl
status_is (cut_short l count) = inr (inr (inr (inr (inl refl))))
status_is (unlisted e) = among_all (mount_status e) (mount_known e)

not_six : (end : ListEnd) → list_status end ≡ 6 → ⊥
not_six (listed l) six = absurd (cc six)
not_six (cut_short l count) six = absurd (cc six)
not_six (unlisted e) six = mount_isnt e 6 (λ x. cc x) (λ x. cc x) (λ x. cc x) six

module _ (all : Bool) (drive : Looked) (sink : Written) where
  printed_is : (end : ListEnd) → IsListEnd all drive end → (list_status end ≡ 0) × Appends sink.old sink.new (list_text end)
      → IsListingPrinted all drive.held sink.old sink.new
  printed_is (listed l) is told = (l, is, told.1)
  printed_is (cut_short l count) is told = absurd (cc told.0)
  printed_is (unlisted e) is told = absurd (mount_isnt e 0 (λ x. cc x) (λ x. cc x) (λ x. cc x) told.0)

  check_told : (end : ListEnd) → IsListEnd all drive end → (list_status end ≡ 3) × Appends sink.old sink.new (list_text end)
      → IsMountFaultPrinted drive.held sink.old sink.new
  check_told (listed l) is told = absurd (cc told.0)
  check_told (cut_short l count) is told = absurd (cc told.0)
  check_told (unlisted e) is told = (e, told.0, blamed e drive.held told.0 is.0, told.1)

  fault_told : (end : ListEnd) → IsListEnd all drive end → (list_status end ≡ 4) × Appends sink.old sink.new (list_text end)
      → IsDriveFaultPrinted drive.before drive.now sink.old sink.new
  fault_told (listed l) is told = absurd (cc told.0)
  fault_told (cut_short l count) is told = absurd (cc told.0)
  fault_told (unlisted e) is told = drive_told e drive.before drive.now sink.old sink.new is.1 told

  memory_is : (end : ListEnd) → IsListEnd all drive end → (list_status end ≡ 7) × Appends sink.old sink.new (list_text end)
      → IsPartPrinted all drive.held sink.old sink.new
  memory_is (listed l) is told = absurd (cc told.0)
  memory_is (cut_short l count) is told = inr (l, is, count, told.1)
  memory_is (unlisted e) is told = inl (memory_told e sink.old sink.new told)

no_tree : (all : Bool) (drive : Looked) (end : ListEnd) (c : Cartridge) → IsListEnd all drive end → drive.held ≡ Some c → ReadsAsNone c
    → IsOneOf (list_status end) (3 ∷ 4 ∷ 6 ∷ 7 ∷ [])
no_tree all drive (listed l) c is held none =
    let known : IsListingOf c l = of_some drive.held (λ c. IsListingOf c l) c held is.known in
    absurd (none known.facts l.tree l.generation known.reads)
no_tree all drive (cut_short l count) c is held none = inr (inr (inr (inl refl)))
no_tree all drive (unlisted e) c is held none = among_refused (mount_status e) (mount_known e)

all_done : (all : Bool) (drive : Looked) (end : ListEnd) (c : Cartridge) → IsListEnd all drive end → drive.held ≡ Some c → Found c → ¬ (Rose drive.before drive.now)
    → IsOneOf (list_status end) (0 ∷ 7 ∷ [])
all_done all drive (listed l) c is held found still = inl refl
all_done all drive (cut_short l count) c is held found still = inr (inl refl)
all_done all drive (unlisted e) c is held found still =
    found_done c drive.before drive.now e (of_some drive.held (λ c. Blames e c) c held is.0) is.1 found still

-- how a listing came to its end, and what was told of it, are what `list` promises
pub list_does : {D : Type 0} (all : Bool) (drive : Ghosts D) (old new : D) (sink : Written) (status : ℕ) (log : Option Log) (end : ListEnd)
    → IsListEnd all (looked drive old new) end → Looks drive (mount_most (drive.limits old) * drive.MOST) old new
    → EndsAs (of_list end) sink status log → DoesList all drive old new sink status log
list_does all drive old new sink status log end is looks told =
    let seen = looked drive old new in
    let w = list_status end in
    let t = list_text end in record {
      statuses = by_status (λ n. IsOneOf n (0 ∷ 3 ∷ 4 ∷ 6 ∷ 7 ∷ [])) w t sink status told.1 (status_is end) (λ rose. inr (inr (inr (inl refl))));
      printed = λ zero. printed_is all seen sink end is (by_text 0 w t sink status told.1 (λ e. cc e) zero);
      volume = if_some (drive.held old) (λ c. ReadsAsNone c → IsOneOf status (3 ∷ 4 ∷ 6 ∷ 7 ∷ []))
          (λ c held none. by_status (λ n. IsOneOf n (3 ∷ 4 ∷ 6 ∷ 7 ∷ [])) w t sink status told.1 (no_tree all seen end c is held none) (λ rose. inr (inr (inl refl))));
      only_volume = λ three. check_told all seen sink end is (by_text 3 w t sink status told.1 (λ e. cc e) three);
      only_drive = λ four. fault_told all seen sink end is (by_text 4 w t sink status told.1 (λ e. cc e) four);
      only_write = by_six w t sink status told.1 (not_six end);
      memory = λ seven. memory_is all seen sink end is (by_text 7 w t sink status told.1 (λ e. cc e) seven);
      complete = λ still quiet. if_some (drive.held old) (λ c. Found c → IsOneOf status (0 ∷ 7 ∷ []))
          (λ c held found. by_status (λ n. IsOneOf n (0 ∷ 7 ∷ [])) w t sink status told.1 (all_done all seen end c is held found still) (λ rose. absurd (quiet rose)));
      looks = looks;
      no_log = told.0;
      told = (end, is, told);
    }

-- a listing of what was found is told, of what the drive told where it did
of_told : (all : Bool) (held : Option Cartridge) (found : FoundTree) (sink : Written) (status : ℕ)
    → ((c : Cartridge) → held ≡ Some c → IsListingOf c (listing_of all (tape_of c) found)) → ((tape : Tape) → IsListingTold (listing_of all tape found) sink status)
    → (l : Listing) × IsListingFor all held l × IsListingTold l sink status
of_told all None found sink status is told = (listing_of all whole found, record { told = refl; known = tt }, told whole)
of_told all (Some c) found sink status is told = (listing_of all (tape_of c) found, record { told = refl; known = is c refl }, told (tape_of c))

-- a tree that was found and told is what `list` promises
pub found_listed : {D : Type 0} (all : Bool) (drive : Ghosts D) (old new : D) (sink : Written) (status wanted : ℕ) (found : FoundTree)
    → ((c : Cartridge) → drive.held old ≡ Some c → IsListingOf c (listing_of all (tape_of c) found))
    → status ≡ wanted → ((tape : Tape) → IsListingTold (listing_of all tape found) sink wanted)
    → Looks drive (mount_most (drive.limits old) * drive.MOST) old new
    → DoesList all drive old new sink status None
found_listed all drive old new sink status wanted found is status_is told looks =
    by_told (of_told all (drive.held old) found sink status is (λ tape. subst (λ n. IsListingTold (listing_of all tape found) sink n) (sym status_is) (told tape)))
  where
    by_end : (l : Listing) → IsListingFor all (drive.held old) l → IsListingTold l sink status → DoesList all drive old new sink status None
    by_end l known (inl text) = list_does all drive old new sink status None (listed l) known looks (refl, text)
    by_end l known (inr part) = list_does all drive old new sink status None (cut_short l part.0) known looks (refl, part.1)

    by_told : (l : Listing) × IsListingFor all (drive.held old) l × IsListingTold l sink status → DoesList all drive old new sink status None
    by_told all = by_end all.0 all.1 all.2

-- a check that failed is told, or that memory was refused for that
pub list_unread : {D : Type 0} (all : Bool) (drive : Ghosts D) (old mid new : D) (sink : Written) (status : ℕ) (log : Option Log) (e : MountErr)
    → new ≡ mid → log ≡ None → ((c : Cartridge) → drive.held old ≡ Some c → Blames e c) → AreCounts (drive.faults old) (drive.faults mid) e
    → Looks drive (mount_most (drive.limits old) * drive.MOST) old mid
    → (wanted : ℕ) → wanted ≡ mount_status e → IsTold wanted (mount_text e) sink status ⊎ IsTold 7 (codes "memory\n") sink status → DoesList all drive old new sink status log
list_unread all drive old mid new sink status log e same none is counts looks wanted status_is_that (inl told) = subst (λ d. DoesList all drive old d sink status log) (sym same)
    (list_does all drive old mid sink status log (unlisted e) (if_some (drive.held old) (λ c. Blames e c) is, counts) looks (none, subst (λ w. IsTold w (mount_text e) sink status) status_is_that told))
list_unread all drive old mid new sink status log e same none is counts looks wanted status_is_that (inr told) = subst (λ d. DoesList all drive old d sink status log) (sym same)
    (list_does all drive old mid sink status log (unlisted errors.NoMemory) (if_some (drive.held old) (λ c. Blames errors.NoMemory c) (λ c held. tt), tt) looks (none, told))

-- ---- what was written of a listing

front_more : (a b c : Option (List ℕ)) (x y : List ℕ) → Appends a b x → AppendsFront b c y → AppendsFront a c (x ++ y)
front_more a b c x y all front = (length x + front.0, subst (Appends a c) (sym (take-append-add x y front.0)) (appends_more a b c x (take front.0 y) all front.1))

rose_later : (before mid now : ℕ) → before ≤ mid → Rose mid now → Rose before now
rose_later before mid now later rose = omega (arith, later, rose)

all_told : (all : Bool) (sink : Written) (found : FoundTree)
    → ((tape : Tape) → Appends sink.old sink.new (listing_text all found.generation found.spot (plain_of tape found.tree)))
    → (tape : Tape) → IsListingTold (listing_of all tape found) sink 0
all_told all sink found text tape = inl (inl (refl, text tape))

sink_told : (all : Bool) (sink : Written) (found : FoundTree) → Rose sink.before sink.now
    → ((tape : Tape) → AppendsFront sink.old sink.new (listing_text all found.generation found.spot (plain_of tape found.tree)))
    → (tape : Tape) → IsListingTold (listing_of all tape found) sink 6
sink_told all sink found rose front tape = inl (inr (refl, rose, front tape))

part_told : (all : Bool) (sink : Written) (mid : Option (List ℕ)) (found : FoundTree)
    → ((tape : Tape) → (count : ℕ) × Appends sink.old mid (first_lines all count (plain_of tape found.tree))) → Appends mid sink.new (codes "memory\n")
    → (tape : Tape) → IsListingTold (listing_of all tape found) sink 7
part_told all sink mid found lines memory tape =
    inr ((lines tape).0, inl (refl, appends_more sink.old mid sink.new (first_lines all (lines tape).0 (plain_of tape found.tree)) (codes "memory\n") (lines tape).1 memory))

-- where memory is refused and then the sink fails, whole lines and a front of the rest are told
pub part_failed : (all : Bool) (sink : Written) (mid : Option (List ℕ)) (faults : ℕ) (found : FoundTree) → sink.before ≤ faults → Rose faults sink.now
    → ((tape : Tape) → (count : ℕ) × Appends sink.old mid (first_lines all count (plain_of tape found.tree))) → AppendsFront mid sink.new (codes "memory\n")
    → (tape : Tape) → IsListingTold (listing_of all tape found) sink 6
part_failed all sink mid faults found later rose lines memory tape =
    inr (
      (lines tape).0,
      inr (
        refl,
        rose_later sink.before faults sink.now later rose,
        front_more sink.old mid sink.new (first_lines all (lines tape).0 (plain_of tape found.tree)) (codes "memory\n") (lines tape).1 memory,
      ),
    )

-- where memory is refused, whole lines from the front of the listing were written
pub lines_of : (all : Bool) (found : FoundTree) (old mid : Option (List ℕ)) (e : ListErr) → e ≡ list_errors.NoMemory
    → ((tape : Tape) → IsCutShort all e (listing_text all found.generation found.spot (plain_of tape found.tree)) (plain_of tape found.tree) old mid)
    → (tape : Tape) → (count : ℕ) × Appends old mid (first_lines all count (plain_of tape found.tree))
lines_of all found old mid e same cut =
    subst (λ (x : ListErr). (tape : Tape) → IsCutShort all x (listing_text all found.generation found.spot (plain_of tape found.tree)) (plain_of tape found.tree) old mid) same cut
