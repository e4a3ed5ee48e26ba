-- A whole write: the reference, the cut and the item.
use Rattle.std.proofs.Common.{◌≡◌, ℕ, ◌+◌, ◌⊎◌, ⊎_elim, inl, inr, List, [], ◌∷◌, ◌++◌, take, Result, Ok, Err, refl, sym, ap, ◌∙◌, subst, arith}
use Rattle.std.proofs.lemmas.List.{take-take}
use Rattle.crash_steps.specs.Crashes.{NothingNew}
use Rattle.crash_steps.proofs.Joined.{behind_looks, joined}
use Rattle.tape_types.specs.Cartridges.{items_of}
use Rattle.tape_types.specs.declared.cartridges.Cartridge.{Cartridge}
use Rattle.tape_types.specs.declared.cartridges.Item.{Item}
use Rattle.tape_types.specs.declared.cartridges.Item.TheVariants as item
use Rattle.tape_types.specs.declared.cartridges.Limits.{Limits}
use Rattle.tape_types.specs.declared.cartridges.Part.{Part}
use Rattle.tape_types.specs.declared.cartridges.Place.{Place}
use Rattle.tape_drive.specs.Commands.{AfterWrite, IsBroken, KeepsRest}
use Rattle.tape_drive.specs.Crashes.{WithinWrite}
use Rattle.byte_disk.specs.declared.disk.ByteDisk.{Ghosts}
use Rattle.image_slots.proofs.Chains.{more_at_most, no_step, then_at_most}
use Rattle.image_slots.specs.Pieces.{AtMost}
use Rattle.image_tape.specs.Steps.{Looks, Stays}
use Rattle.image_tape.specs.Tape.{CrashesAt, CrashesOn, View}
use Rattle.image_tape.specs.Writes.{Appended, Appends, Cuts, HasItems, HasRisen, Replaces, Rises, Writes}

then_rest : (part : Part) (a b c : Cartridge) → KeepsRest part a b → KeepsRest part b c → KeepsRest part a c
then_rest part a b c one two = record {
  other_part = two.other_part ∙ one.other_part;
  note_ip = two.note_ip ∙ one.note_ip;
  note_dp = two.note_dp ∙ one.note_dp;
}

then_stays : {D : Type 0} (a b c : View D) → Stays a b → Stays b c → Stays a c
then_stays a b c one two = record {
  limits = two.limits ∙ one.limits;
  faults = two.faults ∙ one.faults;
  opened = two.opened ∙ one.opened;
}

same_take : (part : Part) (pos : ℕ) (c m : Cartridge) → HasRisen part pos c m → take pos (items_of part m) ≡ take pos (items_of part c)
same_take part pos c m risen = ⊎_elim
    (λ (same : items_of part m ≡ items_of part c). ap (λ (l : List Item). take pos l) same)
    (λ (cut : items_of part m ≡ take pos (items_of part c)).
    ap (λ (l : List Item). take pos l) cut ∙ take-take pos pos (items_of part c) (omega arith))
    risen.items

still : (part : Part) (pos : ℕ) (x : Item) (c image : Cartridge) → WithinWrite part pos x c image image
still part pos x c image = record { items = inl (refl, inl refl); rest = record { other_part = refl; note_ip = refl; note_dp = refl } }

-- what stands once the reference went up, the partition was cut and the item appended
after_write : {T E : Type 0} (r : Result T E) (part : Part) (pos : ℕ) (x : Item) (c m e : Cartridge) (items : List Item) → HasRisen part pos c m
    → Appended r x (take pos (items_of part m)) items → HasItems part items m e → AfterWrite r part pos x c e
after_write (Ok y) part pos x c m e items risen added has = record {
  items = has.are ∙ added ∙ ap (λ (l : List Item). l ++ x ∷ []) (same_take part pos c m risen);
  vcr = record { by_one = has.vcr ∙ risen.vcr.by_one; in_range = omega (arith, has.vcr, risen.vcr.in_range) };
  rest = then_rest part c m e risen.rest has.rest;
}
after_write (Err why) part pos x c m e items risen added has = record {
  items = inr (
    ⊎_elim
        (λ (cut : items ≡ take pos (items_of part m)). inl (has.are ∙ cut ∙ same_take part pos c m risen))
        (λ (torn : items ≡ take pos (items_of part m) ++ item.Torn ∷ []).
        inr (has.are ∙ torn ∙ ap (λ (l : List Item). l ++ item.Torn ∷ []) (same_take part pos c m risen)))
        added,
    record { by_one = has.vcr ∙ risen.vcr.by_one; in_range = omega (arith, has.vcr, risen.vcr.in_range) },
  );
  rest = then_rest part c m e risen.rest has.rest;
}

-- what stands where the reference was to go up
after_no_rise : (part : Part) (pos : ℕ) (c e : Cartridge) → (e ≡ c) ⊎ HasRisen part pos c e → IsBroken part pos c e
after_no_rise part pos c e (inl same) = subst (λ (y : Cartridge). IsBroken part pos c y) (sym same)
    (record { items = inl (refl, inl refl); rest = record { other_part = refl; note_ip = refl; note_dp = refl } })
after_no_rise part pos c e (inr risen) = record {
  items = ⊎_elim
      (λ (same : items_of part e ≡ items_of part c). inl (same, inr risen.vcr))
      (λ (cut : items_of part e ≡ take pos (items_of part c)). inr (inl cut, risen.vcr))
      risen.items;
  rest = risen.rest;
}

module _ {D T E : Type 0} (disk : Ghosts D) (at : Place) (x : Item) (r : Result T E) (a b n : View D) where
  -- a cut and an item behind it replace what stood there
  pub replaces_by : Cuts disk at a b → Appends disk 4 at.part x r b n → Replaces disk at x r a n
  replaces_by cut appended = record {
    stays = then_stays a b n cut.stays appended.stays;
    count = subst (λ (k : ℕ). AtMost 4 k (disk.commands n.slots.disk)) (ap (λ s. disk.commands s.disk) cut.disk_is) appended.count;
    untold = λ none. appended.untold (cut.untold none);
    told = λ c held.
        let m = cut.told c held in
        let t = appended.told m.0 m.1 in (
          t.0,
          t.1,
          t.2,
          subst (λ (l : List Item). Appended r x l t.2) m.2.are t.3,
          record {
            are = t.4.are;
            vcr = t.4.vcr ∙ m.2.vcr;
            rest = then_rest at.part c m.0 t.0 m.2.rest t.4.rest;
          },
        );
    crash = λ c held.
        let m = cut.told c held in
        subst (λ (k : ℕ). CrashesAt disk a.room.limits NothingNew k a.slots.disk n.reads.vcr n.slots.disk) cut.vcr
        (subst (λ (k : D). CrashesAt disk a.room.limits NothingNew b.reads.vcr k n.reads.vcr n.slots.disk) (ap (λ s. s.disk) cut.disk_is)
        (subst (λ (l : Limits). CrashesOn disk l NothingNew b n) cut.stays.limits (appended.crash m.0 m.1)));
  }

  -- a reference that went up and an item in place are a write
  pub writes_by : {U : Type 0} (first : Result U E) (u : U) → Rises {T = U} {E = E} disk at (Ok u) a b → Replaces disk at x r b n → Writes disk 10 at x r a n
  writes_by first u rise replaced = record {
    stays = then_stays a b n rise.stays replaced.stays;
    count = then_at_most rise.count replaced.count;
    untold = λ none. replaced.untold (rise.untold none);
    told = λ c held.
        let m = rise.told c held in
        let t = replaced.told m.0 m.1 in
        (t.0, t.1, after_write r at.part at.pos x c m.0 t.0 t.2 m.2 t.3 t.4);
    at_end = λ c held most. absurd (let bad = (rise.at_end c held most).0 in cc bad);
    crash = λ c held.
        let m = rise.told c held in
        joined (λ y z step. step) (λ y z w step same. subst (λ (k : Cartridge). WithinWrite at.part at.pos x c y k) (sym same) step) rise.count.later (rise.crash x c held)
        (subst (λ (l : Limits). CrashesOn disk l NothingNew b n) rise.stays.limits (replaced.crash m.0 m.1));
  }

-- where the reference failed to go up, the write failed
pub not_written : {D T E : Type 0} (disk : Ghosts D) (at : Place) (x : Item) (why : E) (a b : View D) → Rises {T = T} disk at (Err why) a b
    → Writes {T = T} disk 10 at x (Err why) a b
not_written disk at x why a b rise = record {
  stays = rise.stays;
  count = more_at_most 6 10 (omega arith) rise.count;
  untold = rise.untold;
  told = λ c held. let m = rise.told c held in (m.0, m.1, after_no_rise at.part at.pos c m.0 m.2);
  at_end = rise.at_end;
  crash = λ c held. rise.crash x c held;
}

-- where nothing was tried, nothing was written
pub nothing_written : {D T E : Type 0} (disk : Ghosts D) (at : Place) (x : Item) (why : E) (v : View D) → Writes {T = T} disk 10 at x (Err why) v v
nothing_written disk at x why v = record {
  stays = record { limits = refl; faults = refl; opened = refl };
  count = record { later = omega arith; bound = omega arith };
  untold = λ none. none;
  told = λ c held. (c, held, record { items = inl (refl, inl refl); rest = record { other_part = refl; note_ip = refl; note_dp = refl } });
  at_end = λ c held most. (refl, held);
  crash = λ c held. no_step (disk.commands v.slots.disk) _ _ (λ image left. still at.part at.pos x c image);
}

-- behind what only reads
pub written_after : {D T E : Type 0} (disk : Ghosts D) (at : Place) (x : Item) (r : Result T E) (m n : ℕ) (a b c : View D) → Looks disk m a b → Writes disk n at x r b c
    → Writes disk (m + n) at x r a c
written_after disk at x r m n a b c first second = record {
  stays = then_stays a b c first.stays second.stays;
  count = then_at_most first.count second.count;
  untold = λ none. second.untold (first.held ∙ none);
  told = λ y held. second.told y (first.held ∙ held);
  at_end = λ y held most. second.at_end y (first.held ∙ held) most;
  crash = λ y held. behind_looks (λ image. still at.part at.pos x y image) first.count.later first.crash
      (subst (λ (l : Limits). CrashesOn disk l (WithinWrite at.part at.pos x y) b c) first.stays.limits (second.crash y (first.held ∙ held)));
}
