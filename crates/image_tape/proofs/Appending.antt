-- An item is appended, behind a Torn that has become a record.
use Rattle.std.proofs.Common.{◌≡◌, ◌+◌, inl, inr, Bool, true, false, List, [], ◌∷◌, ◌++◌, Option, Some, None, Result, Ok, Err, OnOk, refl, sym, ap, ◌∙◌, subst, arith}
use Rattle.std.proofs.lemmas.List.{append-nil}
use Rattle.tape_types.specs.Cartridges.{items_of}
use Rattle.tape_types.specs.declared.cartridges.Cartridge.{Cartridge}
use Rattle.tape_types.specs.declared.cartridges.Item.{Item}
use Rattle.tape_types.specs.declared.cartridges.Item.TheVariants as item
use Rattle.tape_types.specs.declared.cartridges.Limits.{Limits}
use Rattle.tape_types.specs.declared.cartridges.Part.{Part}
use Rattle.tape_types.specs.declared.cartridges.Part.TheVariants.{Ip, Dp}
use Rattle.tape_drive.specs.Commands.{KeepsRest}
use Rattle.crash_steps.specs.Crashes.{NothingNew}
use Rattle.byte_disk.specs.declared.disk.ByteDisk.{Ghosts}
use Rattle.image_slots.proofs.Chains.{both_steps, join_same, more_at_most, then_at_most}
use Rattle.image_format.specs.Images.{tail_of}
use Rattle.image_format.specs.Values.{flag}
use Rattle.image_tape.specs.Halves.{half_of}
use Rattle.image_tape.specs.Tape.{CrashesOn, View, held_of}
use Rattle.image_tape.specs.Writes.{Appended, Appends, Fills, Hides, Puts, put_items}

-- cartridges with the same in each place are one
one_cartridge : (part : Part) (c e : Cartridge) → items_of part e ≡ items_of part c → e.vcr ≡ c.vcr → KeepsRest part c e → e ≡ c
one_cartridge Ip c e items vcr rest = λ i. record { ip = items i; dp = rest.other_part i; vcr = vcr i; note_ip = rest.note_ip i; note_dp = rest.note_dp i }
one_cartridge Dp c e items vcr rest = λ i. record { ip = rest.other_part i; dp = items i; vcr = vcr i; note_ip = rest.note_ip i; note_dp = rest.note_dp i }

abbrev told_is : Cartridge → Option Cartridge
told_is c = Some c

same_torn : {T E : Type 0} (r : Result T E) (items : List Item) → put_items r item.Torn items ≡ items ++ item.Torn ∷ []
same_torn (Ok x) items = refl
same_torn (Err why) items = refl

module _ {D T E : Type 0} (disk : Ghosts D) (part : Part) (r : Result T E) (a n : View D) where
  held_on : Puts disk part item.Torn r a n → (half_of part a.reads).torn ≡ true → (o : Option Cartridge) → held_of disk a ≡ o → held_of disk n ≡ o
  held_on done torn None is = done.untold is
  held_on done torn (Some c) is =
      let t = done.told c is in
      let h = t.4 in
      let same : items_of part t.1 ≡ items_of part c =
      h.are ∙ same_torn r t.0 ∙ sym (t.2 ∙ ap (λ (b : Bool). t.0 ++ tail_of b) torn) in
      t.3 ∙ ap (λ (y : Cartridge). told_is y) (one_cartridge part c t.1 same h.vcr h.rest)

  count_on : (r : Result T E) → (half_of part a.reads).torn ≡ true → OnOk r ((half_of part n.reads).count ≡ (half_of part a.reads).count + 1)
      → OnOk r ((half_of part n.reads).count ≡ (half_of part a.reads).count + flag (half_of part a.reads).torn)
  count_on (Ok x) torn more = more ∙ ap (λ (b : Bool). (half_of part a.reads).count + flag b) (sym torn)
  count_on (Err why) torn more = tt

  -- a Torn that is put behind a partition that ends with one makes it a record
  pub fills_by : Puts disk part item.Torn r a n → (half_of part a.reads).torn ≡ true → Fills disk part r a n
  fills_by done torn = record {
    hides = record {
      stays = done.stays;
      held = held_on done torn (held_of disk a) refl;
      count = done.count;
      crash = done.crash;
    };
    settled = done.settled;
    whole = done.whole;
    count = count_on r torn done.one_more;
  }

  -- where the Torn did not become a record
  pub not_appended : (x : Item) (why : E) → Fills disk part r a n → Appends {T = T} disk 4 part x (Err why) a n
  not_appended x why filled = record {
    stays = filled.hides.stays;
    count = more_at_most 2 4 (omega arith) filled.hides.count;
    settled = filled.settled;
    untold = λ none. filled.hides.held ∙ none;
    told = λ c held. (
      c,
      filled.hides.held ∙ held,
      items_of part c,
      inl refl,
      record {
        are = refl;
        vcr = refl;
        rest = record { other_part = refl; note_ip = refl; note_dp = refl };
      },
    );
    crash = filled.hides.crash;
  }

module _ {D T E : Type 0} (disk : Ghosts D) (part : Part) (x : Item) (r : Result T E) (a b n : View D) where
  appended : (r : Result T E) (old items : List Item) → old ≡ items → Appended r x old (put_items r x items)
  appended (Ok y) old items same = ap (λ (l : List Item). l ++ x ∷ []) (sym same)
  appended (Err why) old items same = inr (ap (λ (l : List Item). l ++ item.Torn ∷ []) (sym same))

  -- an item that is put behind a partition that ends with no Torn is appended
  pub appends_by : Hides disk 2 a b → (half_of part b.reads).torn ≡ false → Puts disk part x r b n → Appends disk 4 part x r a n
  appends_by first whole second = record {
    stays = record {
      limits = second.stays.limits ∙ first.stays.limits;
      faults = second.stays.faults ∙ first.stays.faults;
      opened = second.stays.opened ∙ first.stays.opened;
    };
    count = then_at_most first.count second.count;
    settled = second.settled;
    untold = λ none. second.untold (first.held ∙ none);
    told = λ c held.
        let t = second.told c (first.held ∙ held) in
        let same : items_of part c ≡ t.0 = t.2 ∙ ap (λ (y : Bool). t.0 ++ tail_of y) whole ∙ append-nil t.0 in
        (t.1, t.3, put_items r x t.0, appended r (items_of part c) t.0 same, t.4);
    crash = λ c held. both_steps join_same first.count.later (first.crash c held)
        (subst (λ (l : Limits). CrashesOn disk l NothingNew b n) first.stays.limits (second.crash c (first.held ∙ held)));
  }
