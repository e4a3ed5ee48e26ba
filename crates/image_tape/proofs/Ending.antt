-- The end of a command.
use Rattle.std.proofs.Common.{◌≡◌, ℕ, ◌-◌, ◌^◌, ◌≤◌, inl, List, Option, Some, None, Result, Ok, Err, IfOk, refl, sym, ap, ◌∙◌, subst, arith}
use Rattle.std.proofs.lemmas.Option.{same_Some}
use Rattle.crash_steps.proofs.Joined.{alone, behind_looks}
use Rattle.tape_types.specs.Counts.{Rose}
use Rattle.byte_disk.specs.Files.{Files}
use Rattle.tape_types.specs.Cartridges.{capacity, next}
use Rattle.tape_types.specs.declared.cartridges.Cartridge.{Cartridge}
use Rattle.tape_types.specs.declared.cartridges.Item.{Item}
use Rattle.tape_types.specs.declared.cartridges.Limits.{Limits}
use Rattle.tape_types.specs.declared.cartridges.Note.{Note}
use Rattle.tape_types.specs.declared.cartridges.Part.{Part}
use Rattle.tape_types.specs.declared.cartridges.Place.{Place}
use Rattle.tape_drive.specs.Commands.{Counted, IsRead, after_read, item_at}
use Rattle.tape_drive.specs.Crashes.{IsSure, WithinFlush, WithinNote}
use Rattle.tape_drive.specs.declared.drive.DriveErr.{DriveErr}
use Rattle.tape_drive.specs.declared.drive.Got.{Got}
use Rattle.tape_drive.specs.declared.drive.Got.TheVariants as got
use Rattle.byte_disk.specs.declared.disk.ByteDisk.{Ghosts}
use Rattle.image_slots.specs.Pieces.{AtMost}
use Rattle.image_slots.proofs.Chains.{then_at_most}
use Rattle.image_slots.specs.State as slot
use Rattle.image_tape.specs.declared.doubt.Doubt.TheVariants.{Settled}
use Rattle.image_tape.specs.Ends.{Ends, Flushed, HasRead, IsEnded, IsFailed, IsLooked, Noted, Wrote, failed, with_head}
use Rattle.image_tape.specs.Steps.{IsNoteSet, IsReading, IsSteady, IsStored, Looks, Stays}
use Rattle.image_tape.specs.Tape.{AreEarlier, CrashesOn, LeavesOf, Remembers, View, held_by, held_of}
use Rattle.image_tape.specs.Writes.{Writes}
use Rattle.image_tape.proofs.Moments.{remembered}
use Rattle.image_tape.proofs.Surely.{then_looks}
use Rattle.image_tape.proofs.Writings.{written_after}

abbrev place_is : Place → Option Place
place_is p = Some p

module _ {D : Type 0} (disk : Ghosts D) where
  counted : (m : ℕ) (a b : View D) → m ≤ 16 → AtMost m (disk.commands a.slots.disk) (disk.commands b.slots.disk)
      → Rose (disk.commands a.slots.disk) (disk.commands b.slots.disk) → disk.commands b.slots.disk ≤ 2 ^ 64 - 1
      → Counted 16 (disk.commands a.slots.disk) (disk.commands b.slots.disk)
  counted m a b le count rose most = record {
    later = count.later;
    at_least = rose;
    at_most = omega (arith, le, count.bound, most);
  }

  held_head : (head : Option Place) (past : List (ℕ × slot.View D)) (v : View D) (o : Option Files) → held_by (with_head head past v) o ≡ held_by v o
  held_head head past v None = refl
  held_head head past v (Some d) = refl

  held_failed : (past : List (ℕ × slot.View D)) (v : View D) (o : Option Files) → held_by (failed past v) o ≡ held_by v o
  held_failed past v None = refl
  held_failed past v (Some d) = refl

  -- a command that succeeded
  module _ {T E : Type 0} (x : T) (m : ℕ) (head : Option Place) (a b c : View D) (le : m ≤ 16) (stays : Stays a b)
      (count : AtMost m (disk.commands a.slots.disk) (disk.commands b.slots.disk)) (rose : Rose (disk.commands a.slots.disk) (disk.commands b.slots.disk))
      (past : List (ℕ × slot.View D)) (same_past : Remembers disk past a) (ended : IsEnded disk head past b c) where
    pub ends_well : Ends {T = T} {E = E} disk (Ok x) a c
    ends_well = subst (λ (v : View D). Ends {T = T} {E = E} disk (Ok x) a v) (sym ended.after) (record {
      opened = stays.opened;
      past = same_past.are;
      early = same_past.early;
      reached = same_past.reached;
      lost = tt;
      command = record { limits = stays.limits; count = counted m a b le count rose ended.count; cause = record { later = omega (arith, stays.faults); failed = tt } };
    })

  -- one that failed
  module _ {T E : Type 0} (why : E) (m : ℕ) (a b c : View D) (le : m ≤ 16) (stays : Stays a b) (count : AtMost m (disk.commands a.slots.disk) (disk.commands b.slots.disk))
      (rose : Rose (disk.commands a.slots.disk) (disk.commands b.slots.disk)) (past : List (ℕ × slot.View D)) (same_past : Remembers disk past a)
      (ended : IsFailed disk past b c) where
    pub ends_badly : Ends {T = T} {E = E} disk (Err why) a c
    ends_badly = subst (λ (v : View D). Ends {T = T} {E = E} disk (Err why) a v) (sym ended.after) (record {
      opened = stays.opened;
      past = same_past.are;
      early = same_past.early;
      reached = same_past.reached;
      lost = refl;
      command = record { limits = stays.limits; count = counted m a b le count rose ended.count; cause = record { later = omega (arith, stays.faults, ended.faults); failed = omega (arith, stays.faults) } };
    })

  ended_held : (head : Option Place) (past : List (ℕ × slot.View D)) (b c : View D) → IsEnded disk head past b c → held_of disk c ≡ held_of disk b
  ended_held head past b c ended = ap (λ (v : View D). held_of disk v) ended.after ∙ held_head head past b (disk.held b.slots.disk)

  failed_held : (past : List (ℕ × slot.View D)) (b c : View D) → IsFailed disk past b c → held_of disk c ≡ held_of disk b
  failed_held past b c ended = ap (λ (v : View D). held_of disk v) ended.after ∙ held_failed past b (disk.held b.slots.disk)

  at_end : {step : Cartridge → Cartridge → Type 0} (limits : Limits) (head : Option Place) (past : List (ℕ × slot.View D)) (a b c : View D) → IsEnded disk head past b c
      → CrashesOn disk limits step a b → CrashesOn disk limits step a c
  at_end {step = step} limits head past a b c ended crash = subst (λ (v : View D). CrashesOn disk limits step a v) (sym ended.after) crash

  at_fail : {step : Cartridge → Cartridge → Type 0} (limits : Limits) (past : List (ℕ × slot.View D)) (a b c : View D) → IsFailed disk past b c
      → CrashesOn disk limits step a b → CrashesOn disk limits step a c
  at_fail {step = step} limits past a b c ended crash = subst (λ (v : View D). CrashesOn disk limits step a v) (sym ended.after) crash

  -- the end of a command leaves a known header known
  pub steady_end : (head : Option Place) (past : List (ℕ × slot.View D)) (b c : View D) → IsEnded disk head past b c → IsSteady b → IsSteady c
  steady_end head past b c ended steady = subst (λ (v : View D). IsSteady v) (sym ended.after) (record { doubt = steady.doubt; vcr = steady.vcr })

  -- that only read
  pub looked_well : {T E : Type 0} (x : T) (m : ℕ) (head : Option Place) (a b c : View D) → m ≤ 16 → Looks disk m a b
      → Rose (disk.commands a.slots.disk) (disk.commands b.slots.disk) → (past : List (ℕ × slot.View D)) → Remembers disk past a → IsEnded disk head past b c → IsLooked {T = T} {E = E} disk (Ok x) a c
  looked_well x m head a b c le looks rose past same_past ended = record {
    ends = ends_well x m head a b c le looks.stays looks.count rose past same_past ended;
    held = ended_held head past b c ended ∙ looks.held;
    crash = at_end a.room.limits head past a b c ended looks.crash;
  }

  -- a command that only read and failed has only looked
  pub looked_badly : {T E : Type 0} (why : E) (m : ℕ) (a b c : View D) → m ≤ 16 → Looks disk m a b → Rose (disk.commands a.slots.disk) (disk.commands b.slots.disk)
      → (past : List (ℕ × slot.View D)) → Remembers disk past a → IsFailed disk past b c → IsLooked {T = T} {E = E} disk (Err why) a c
  looked_badly why m a b c le looks rose past same_past ended = record {
    ends = ends_badly why m a b c le looks.stays looks.count rose past same_past ended;
    held = failed_held past b c ended ∙ looks.held;
    crash = at_fail a.room.limits past a b c ended looks.crash;
  }

  rose_on : (a b c : View D) → Rose (disk.commands a.slots.disk) (disk.commands b.slots.disk) → disk.commands b.slots.disk ≤ disk.commands c.slots.disk
      → Rose (disk.commands a.slots.disk) (disk.commands c.slots.disk)
  rose_on a b c rose later = omega (arith, rose, later)

  -- that made the reference durable
  pub surely_well : {T E : Type 0} (u : T) (head : Option Place) (a b c e : View D) → Looks disk 3 a b → Rose (disk.commands a.slots.disk) (disk.commands b.slots.disk)
      → Looks disk 6 b c → (past : List (ℕ × slot.View D)) → Remembers disk past a → IsEnded disk head past c e → IsLooked {T = T} {E = E} disk (Ok u) a e
  surely_well u head a b c e looks rose more past same_past ended =
      looked_well u 9 head a c e (omega arith) (then_looks disk 3 6 a b c looks more) (rose_on a b c rose more.count.later) past same_past ended

  -- a command that only read, also the header anew, and failed has only looked
  pub surely_badly : {T E : Type 0} (why : E) (a b c e : View D) → Looks disk 3 a b → Rose (disk.commands a.slots.disk) (disk.commands b.slots.disk)
      → Looks disk 6 b c → (past : List (ℕ × slot.View D)) → Remembers disk past a → IsFailed disk past c e → IsLooked {T = T} {E = E} disk (Err why) a e
  surely_badly why a b c e looks rose more past same_past ended =
      looked_badly why 9 a c e (omega arith) (then_looks disk 3 6 a b c looks more) (rose_on a b c rose more.count.later) past same_past ended

  -- what is past once a command has begun and gone on
  pub early_then : (w b c : View D) (past : List (ℕ × slot.View D)) → Remembers disk past w → Looks disk 3 w b
      → Rose (disk.commands w.slots.disk) (disk.commands b.slots.disk) → disk.commands b.slots.disk ≤ disk.commands c.slots.disk
      → AreEarlier disk past (disk.commands c.slots.disk)
  early_then w b c past same looks rose later =
      remembered disk w past (disk.commands c.slots.disk) same (omega (arith, looks.count.later, later)) (rose_on w b c rose later)

  -- an item was written
  module _ {T E : Type 0} (at : Place) (x : Item) (a b c e : View D) (looks : Looks disk 3 a b) (rose : Rose (disk.commands a.slots.disk) (disk.commands b.slots.disk))
      (past : List (ℕ × slot.View D)) (same_past : Remembers disk past a) where
    -- a write that succeeded, at the end of its command
    pub wrote_well : (u : T) → Writes {T = T} {E = E} disk 10 at x (Ok u) b c → IsEnded disk (Some (next at)) past c e → Wrote {T = T} {E = E} disk at x (Ok u) a e
    wrote_well u done ended =
        let all = written_after disk at x (Ok u) 3 10 a b c looks done in
        record {
          ends = ends_well u 13 (Some (next at)) a c e (omega arith) all.stays all.count (rose_on a b c rose done.count.later) past same_past ended;
          head = ap (λ (v : View D). v.head) ended.after;
          untold = λ none. ended_held (Some (next at)) past c e ended ∙ all.untold none;
          told = λ y held. let t = all.told y held in (t.0, ended_held (Some (next at)) past c e ended ∙ t.1, t.2);
          at_end = λ y held most. let t = all.at_end y held most in (t.0, ended_held (Some (next at)) past c e ended ∙ t.1);
          crash = λ y held. at_end a.room.limits (Some (next at)) past a c e ended (all.crash y held);
        }

    -- a write that failed, at the end of its command
    pub wrote_badly : (why : E) → Writes {T = T} {E = E} disk 10 at x (Err why) b c → IsFailed disk past c e → Wrote {T = T} {E = E} disk at x (Err why) a e
    wrote_badly why done ended =
        let all = written_after disk at x (Err why) 3 10 a b c looks done in
        record {
          ends = ends_badly why 13 a c e (omega arith) all.stays all.count (rose_on a b c rose done.count.later) past same_past ended;
          head = tt;
          untold = λ none. failed_held past c e ended ∙ all.untold none;
          told = λ y held. let t = all.told y held in (t.0, failed_held past c e ended ∙ t.1, t.2);
          at_end = λ y held most. let t = all.at_end y held most in (t.0, failed_held past c e ended ∙ t.1);
          crash = λ y held. at_fail a.room.limits past a c e ended (all.crash y held);
        }

  -- a write that failed before it wrote anything
  pub wrote_not : {T E : Type 0} (at : Place) (x : Item) (a b e : View D) → Looks disk 3 a b → Rose (disk.commands a.slots.disk) (disk.commands b.slots.disk)
      → (past : List (ℕ × slot.View D)) → Remembers disk past a → (why : E) → IsFailed disk past b e → Wrote {T = T} {E = E} disk at x (Err why) a e
  wrote_not at x a b e looks rose past same_past why ended = record {
    ends = ends_badly why 3 a b e (omega arith) looks.stays looks.count rose past same_past ended;
    head = tt;
    untold = λ none. failed_held past b e ended ∙ looks.held ∙ none;
    told = λ y held. (
      y,
      failed_held past b e ended ∙ looks.held ∙ held,
      record { items = inl (refl, inl refl); rest = record { other_part = refl; note_ip = refl; note_dp = refl } },
    );
    at_end = λ y held most. (refl, failed_held past b e ended ∙ looks.held ∙ held);
    crash = λ y held. at_fail a.room.limits past a b e ended
        (alone (λ image. record { items = inl (refl, inl refl); rest = record { other_part = refl; note_ip = refl; note_dp = refl } }) looks.crash);
  }

  -- all was made durable
  module _ {T E : Type 0} (a b c e : View D) (looks : Looks disk 3 a b) (rose : Rose (disk.commands a.slots.disk) (disk.commands b.slots.disk))
      (past : List (ℕ × slot.View D)) (same_past : Remembers disk past a) where
    stored_crash : (r : Result T E) → IsStored disk 8 r b c → (x : Cartridge) → held_of disk a ≡ Some x → CrashesOn disk a.room.limits (WithinFlush x) a c
    stored_crash r done x held = behind_looks (λ image. inl refl) looks.count.later looks.crash
        (subst (λ (l : Limits). CrashesOn disk l (WithinFlush x) b c) looks.stays.limits (done.crash x (looks.held ∙ held)))

    stored_stays : (r : Result T E) → IsStored disk 8 r b c → Stays a c
    stored_stays r done = record {
      limits = done.stays.limits ∙ looks.stays.limits;
      faults = done.stays.faults ∙ looks.stays.faults;
      opened = done.stays.opened ∙ looks.stays.opened;
    }

    -- a flush that succeeded, at the end of its command
    pub flushed_well : (u : T) (head : Option Place) → head ≡ a.head → IsStored {T = T} {E = E} disk 8 (Ok u) b c → IsEnded disk head past c e → Flushed {T = T} {E = E} disk (Ok u) a e
    flushed_well u head same done ended = record {
      ends = ends_well u 11 head a c e (omega arith) (stored_stays (Ok u) done) (then_at_most looks.count done.count) (rose_on a b c rose done.count.later) past same_past ended;
      head = ap (λ (v : View D). v.head) ended.after ∙ same;
      held = ended_held head past c e ended ∙ done.held ∙ looks.held;
      sure = subst (λ (v : View D). IsSure (held_of disk v) (LeavesOf disk v)) (sym ended.after)
          (subst (λ (o : Option Cartridge). IsSure o (LeavesOf disk c)) (sym (held_head head past c (disk.held c.slots.disk))) done.sure);
      crash = λ x held. at_end a.room.limits head past a c e ended (stored_crash (Ok u) done x held);
    }

    -- a flush that failed, at the end of its command
    pub flushed_badly : (why : E) → IsStored {T = T} {E = E} disk 8 (Err why) b c → IsFailed disk past c e → Flushed {T = T} {E = E} disk (Err why) a e
    flushed_badly why done ended = record {
      ends = ends_badly why 11 a c e (omega arith) (stored_stays (Err why) done) (then_at_most looks.count done.count) (rose_on a b c rose done.count.later) past same_past ended;
      head = tt;
      held = failed_held past c e ended ∙ done.held ∙ looks.held;
      sure = tt;
      crash = λ x held. at_fail a.room.limits past a c e ended (stored_crash (Err why) done x held);
    }

  -- a flush that failed before it began
  pub flushed_not : {T E : Type 0} (a b e : View D) → Looks disk 3 a b → Rose (disk.commands a.slots.disk) (disk.commands b.slots.disk) → (past : List (ℕ × slot.View D)) → Remembers disk past a → (why : E) → IsFailed disk past b e
      → Flushed {T = T} {E = E} disk (Err why) a e
  flushed_not a b e looks rose past same_past why ended = record {
    ends = ends_badly why 3 a b e (omega arith) looks.stays looks.count rose past same_past ended;
    head = tt;
    held = failed_held past b e ended ∙ looks.held;
    sure = tt;
    crash = λ x held. at_fail a.room.limits past a b e ended (alone (λ image. inl refl) looks.crash);
  }

  -- an attribute was set
  module _ {T E : Type 0} (part : Part) (note : Note) (a b c e : View D) (looks : Looks disk 3 a b) (rose : Rose (disk.commands a.slots.disk) (disk.commands b.slots.disk))
      (past : List (ℕ × slot.View D)) (same_past : Remembers disk past a) where
    noted_crash : (r : Result T E) → IsNoteSet disk part note r b c → (x : Cartridge) → held_of disk a ≡ Some x
        → CrashesOn disk a.room.limits (WithinNote part note) a c
    noted_crash r done x held = behind_looks (λ image. inl refl) looks.count.later looks.crash
        (subst (λ (l : Limits). CrashesOn disk l (WithinNote part note) b c) looks.stays.limits (done.crash x (looks.held ∙ held)))

    noted_stays : (r : Result T E) → IsNoteSet disk part note r b c → Stays a c
    noted_stays r done = record {
      limits = done.stays.limits ∙ looks.stays.limits;
      faults = done.stays.faults ∙ looks.stays.faults;
      opened = done.stays.opened ∙ looks.stays.opened;
    }

    -- an attribute that was set, at the end of its command
    pub noted_well : (u : T) (head : Option Place) → head ≡ a.head → IsNoteSet {T = T} {E = E} disk part note (Ok u) b c → IsEnded disk head past c e
        → Noted {T = T} {E = E} disk part note (Ok u) a e
    noted_well u head same done ended = record {
      ends = ends_well u 9 head a c e (omega arith) (noted_stays (Ok u) done) (then_at_most looks.count done.count) (rose_on a b c rose done.count.later) past same_past ended;
      head = ap (λ (v : View D). v.head) ended.after ∙ same;
      settled = steady_end head past c e ended done.settled;
      untold = λ none. ended_held head past c e ended ∙ done.untold (looks.held ∙ none);
      told = λ x held. let t = done.told x (looks.held ∙ held) in (t.0, ended_held head past c e ended ∙ t.1, t.2);
      crash = λ x held. at_end a.room.limits head past a c e ended (noted_crash (Ok u) done x held);
    }

    -- an attribute that was not set for sure, at the end of its command
    pub noted_badly : (why : E) → IsNoteSet {T = T} {E = E} disk part note (Err why) b c → IsFailed disk past c e → Noted {T = T} {E = E} disk part note (Err why) a e
    noted_badly why done ended = record {
      ends = ends_badly why 9 a c e (omega arith) (noted_stays (Err why) done) (then_at_most looks.count done.count) (rose_on a b c rose done.count.later) past same_past ended;
      head = tt;
      settled = tt;
      untold = λ none. failed_held past c e ended ∙ done.untold (looks.held ∙ none);
      told = λ x held. let t = done.told x (looks.held ∙ held) in (t.0, failed_held past c e ended ∙ t.1, t.2);
      crash = λ x held. at_fail a.room.limits past a c e ended (noted_crash (Err why) done x held);
    }

  -- an attribute whose setting failed before it began
  pub noted_not : {T E : Type 0} (part : Part) (note : Note) (a b e : View D) → Looks disk 3 a b → Rose (disk.commands a.slots.disk) (disk.commands b.slots.disk)
      → (past : List (ℕ × slot.View D)) → Remembers disk past a → (why : E) → IsFailed disk past b e → Noted {T = T} {E = E} disk part note (Err why) a e
  noted_not part note a b e looks rose past same_past why ended = record {
    ends = ends_badly why 3 a b e (omega arith) looks.stays looks.count rose past same_past ended;
    head = tt;
    settled = tt;
    untold = λ none. failed_held past b e ended ∙ looks.held ∙ none;
    told = λ x held. (x, failed_held past b e ended ∙ looks.held ∙ held, inl refl);
    crash = λ x held. at_fail a.room.limits past a b e ended (alone (λ image. inl refl) looks.crash);
  }

  -- an item was read
  pub read_well : (at : Place) (found : Got) (place : Place) (buf : List ℕ) (a b c e : View D) → Looks disk 3 a b → Rose (disk.commands a.slots.disk) (disk.commands b.slots.disk)
      → b.doubt ≡ Settled → IsReading disk at found buf b → Looks disk 2 b c → place ≡ after_read found at
      → (past : List (ℕ × slot.View D)) → Remembers disk past a → IsEnded disk (Some place) past c e
      → HasRead {E = DriveErr} disk at (Ok found) buf a e
  read_well at found place buf a b c e looks rose settled reading more is past same_past ended = record {
    looked = looked_well found 5 (Some place) a c e (omega arith) (then_looks disk 3 2 a b c looks more) (rose_on a b c rose more.count.later) past same_past ended;
    head = ap (λ (v : View D). v.head) ended.after ∙ ap (λ (p : Place). place_is p) is;
    item = λ x held. reading.item settled x (looks.held ∙ held);
    bytes = reading.bytes;
    at_capacity = λ le. reading.at_capacity (subst (λ (l : Limits). capacity at.part l ≤ at.pos) (sym looks.stays.limits) le);
  }

  -- a read that failed, at the end of its command
  pub read_badly : (at : Place) (why : DriveErr) (buf : List ℕ) (m : ℕ) (a c e : View D) → m ≤ 16 → Looks disk m a c → Rose (disk.commands a.slots.disk) (disk.commands c.slots.disk)
      → (past : List (ℕ × slot.View D)) → Remembers disk past a → IsFailed disk past c e → HasRead {E = DriveErr} disk at (Err why) buf a e
  read_badly at why buf m a c e le looks rose past same_past ended = record {
    looked = looked_badly why m a c e le looks rose past same_past ended;
    head = tt;
    item = tt;
    bytes = tt;
    at_capacity = tt;
  }

  -- a read that failed behind other reads, at the end of its command
  pub read_late : (at : Place) (why : DriveErr) (buf : List ℕ) (a b c e : View D) → Looks disk 3 a b → Rose (disk.commands a.slots.disk) (disk.commands b.slots.disk) → Looks disk 2 b c
      → (past : List (ℕ × slot.View D)) → Remembers disk past a → IsFailed disk past c e → HasRead {E = DriveErr} disk at (Err why) buf a e
  read_late at why buf a b c e looks rose more past same_past ended =
      read_badly at why buf 5 a c e (omega arith) (then_looks disk 3 2 a b c looks more) (rose_on a b c rose more.count.later) past same_past ended

  -- the end of a command leaves the head at this place by another name
  pub ended_at : (place other : Place) (past : List (ℕ × slot.View D)) (b c : View D) → place ≡ other → IsEnded disk (Some place) past b c → IsEnded disk (Some other) past b c
  ended_at place other past b c same ended = subst (λ (p : Place). IsEnded disk (Some p) past b c) same ended

  -- the head is the same by another name of the view
  pub head_in : (v w : View D) → v ≡ w → v.head ≡ w.head
  head_in v w is = ap (λ (x : View D). x.head) is

  -- at the place where the head stands
  one_place : (v w : View D) (place at : Place) → v ≡ w → v.head ≡ Some place → w.head ≡ Some at → place ≡ at
  one_place v w place at is there head = same_Some place at (sym there ∙ head_in v w is ∙ head)

  -- a write at the head's place is one at that place
  pub wrote_there : {T E : Type 0} (x : Item) (r : Result T E) (v w e : View D) (place : Place) → v ≡ w → v.head ≡ Some place → Wrote disk place x r w e
      → (at : Place) → w.head ≡ Some at → Wrote disk at x r w e
  wrote_there x r v w e place is there done at head = subst (λ (p : Place). Wrote disk p x r w e) (one_place v w place at is there head) done

  -- a read at the head's place is one at that place
  pub read_there : {E : Type 0} (r : Result Got E) (buf : List ℕ) (v w e : View D) (place : Place) → v ≡ w → v.head ≡ Some place → HasRead disk place r buf w e
      → (at : Place) → w.head ≡ Some at → HasRead disk at r buf w e
  read_there r buf v w e place is there done at head = subst (λ (p : Place). HasRead disk p r buf w e) (one_place v w place at is there head) done

-- of a read at whatever place the head has
module _ {D : Type 0} (disk : Ghosts D) (r : Result Got DriveErr) (buf : List ℕ) (a b : View D) (ran : (at : Place) → a.head ≡ Some at → HasRead disk at r buf a b) where
  -- a read answers the item at the head
  pub items_read : IfOk r (λ found. (at : Place) (c : Cartridge) → a.head ≡ Some at → held_of disk a ≡ Some c → IsRead (item_at at c) found buf)
  items_read = by r ran
    where
      by : (r : Result Got DriveErr) → ((at : Place) → a.head ≡ Some at → HasRead disk at r buf a b)
          → IfOk r (λ found. (at : Place) (c : Cartridge) → a.head ≡ Some at → held_of disk a ≡ Some c → IsRead (item_at at c) found buf)
      by (Ok found) ran = λ at c head held. (ran at head).item c held
      by (Err why) ran = tt

  -- a read at or past the capacity answers the end
  pub ends_read : IfOk r (λ found. (at : Place) → a.head ≡ Some at → capacity at.part a.room.limits ≤ at.pos → found ≡ got.End)
  ends_read = by r ran
    where
      by : (r : Result Got DriveErr) → ((at : Place) → a.head ≡ Some at → HasRead disk at r buf a b)
          → IfOk r (λ found. (at : Place) → a.head ≡ Some at → capacity at.part a.room.limits ≤ at.pos → found ≡ got.End)
      by (Ok found) ran = λ at head le. (ran at head).at_capacity le
      by (Err why) ran = tt

  -- a read leaves the head past a block or mark, and else where it stood
  pub heads_read : IfOk r (λ found. (at : Place) → a.head ≡ Some at → b.head ≡ Some (after_read found at))
  heads_read = by r ran
    where
      by : (r : Result Got DriveErr) → ((at : Place) → a.head ≡ Some at → HasRead disk at r buf a b)
          → IfOk r (λ found. (at : Place) → a.head ≡ Some at → b.head ≡ Some (after_read found at))
      by (Ok found) ran = λ at head. (ran at head).head
      by (Err why) ran = tt
