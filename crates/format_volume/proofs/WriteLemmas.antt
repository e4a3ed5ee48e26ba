-- Writes one behind the other.
use Rattle.std.proofs.Common.{ℕ, ◌+◌, ◌≡◌, ◌≤◌, ◌∙◌, List, [], ◌∷◌, ◌++◌, take, length}
use Rattle.std.proofs.Common.{Some, None, refl, sym, ap, subst, arith, append_assoc, append-nil, length-append}
use Rattle.std.proofs.Common.{map, slice_get, zero, suc, ◌<◌}
use Rattle.std.specs.Int.{div_ceil}
use Rattle.tape_layout.specs.IndexConstruct.Blocks.{blocks_of}
use Rattle.tape_layout.proofs.IndexConstruct.Cuts.{cut_in_one_way}
use Rattle.tape_types.specs.declared.cartridges.Item.TheVariants.{Block, Mark}
use Rattle.std.proofs.lemmas.List.{length-map, length-take, map-append, take_all}
use Rattle.tape_types.specs.declared.cartridges.Cartridge.{Cartridge}
use Rattle.tape_types.specs.declared.cartridges.Item.{Item}
use Rattle.tape_types.specs.declared.cartridges.Part.{Part}
use Rattle.tape_types.specs.declared.cartridges.Place.{Place}
use Rattle.tape_types.specs.Cartridges.{capacity, items_of, next}
use Rattle.tape_types.specs.declared.cartridges.Limits.{Limits}
use Rattle.tape_drive.specs.Commands.{Counted, HasRoom, IsWritten, KeepsRest}
use Rattle.tape_drive.specs.declared.drive.Drive.{Ghosts}
use Rattle.format_volume.specs.Writes.{Goes, IsAppended, Writes}

take_suc : {X : Type 0} (xs : List X) (k : ℕ) (x : X) → slice_get xs k ≡ Some x → take (suc k) xs ≡ take k xs ++ x ∷ []
take_suc [] k x is = absurd (cc is)
take_suc (y ∷ xs) zero x is = let e : y ≡ x = cc is in ap (λ z. z ∷ []) e
take_suc (y ∷ xs) (suc k) x is = ap (λ l. y ∷ l) (take_suc xs k x is)

take_next : {X : Type 0} (xs : List X) (k : ℕ) (x : X) → slice_get xs k ≡ Some x → take (k + 1) xs ≡ take k xs ++ x ∷ []
take_next xs k x is = let one : k + 1 ≡ suc k = omega arith in ap (λ (n : ℕ). take n xs) one ∙ take_suc xs k x is

-- what was kept and appended is no longer than both together
kept_all : (pos : ℕ) (items more : List Item) → take (pos + length more) (take pos items ++ more) ≡ take pos items ++ more
kept_all pos items more =
    take_all (pos + length more) (take pos items ++ more)
    (omega (arith, length-append (take pos items) more, length-take pos items))

rest_then : (part : Part) (c d e : Cartridge) → KeepsRest part c d → KeepsRest part d e → KeepsRest part c e
rest_then part c d e first second = record {
  other_part = second.other_part ∙ first.other_part;
  note_ip = second.note_ip ∙ first.note_ip;
  note_dp = second.note_dp ∙ first.note_dp;
}

appended_then : (part : Part) (pos : ℕ) (xs ys : List Item) (c d e : Cartridge)
    → IsAppended part pos xs c d → IsAppended part (pos + length xs) ys d e → IsAppended part pos (xs ++ ys) c e
appended_then part pos xs ys c d e first second = record {
  items = second.items
      ∙ ap (λ (l : List Item). take (pos + length xs) l ++ ys) first.items
      ∙ ap (λ (l : List Item). l ++ ys) (kept_all pos (items_of part c) xs)
      ∙ append_assoc (take pos (items_of part c)) xs ys;
  vcr = omega (arith, second.vcr, first.vcr, length-append xs ys);
  rest = rest_then part c d e first.rest second.rest;
}

module _ {D : Type 0} (drive : Ghosts D) where
  -- one item, as a command of the drive writes it
  pub one_written : (at : Place) (x : Item) (a b : D)
      → ((c : Cartridge) → drive.held a ≡ Some c → (d : Cartridge) × (drive.held b ≡ Some d) × IsWritten at.part at.pos x c d)
      → drive.head b ≡ Some (next at) → Writes drive at.part at.pos (x ∷ []) a b
  one_written at x a b told head = record {
    told = λ c held. let t = told c held in (t.0, t.1, record { items = t.2.items; vcr = t.2.vcr.by_one; rest = t.2.rest });
    head = head;
  }

  -- writes behind others
  pub then_written : (part : Part) (pos : ℕ) (xs ys : List Item) (a b c : D)
      → Writes drive part pos xs a b → Writes drive part (pos + length xs) ys b c → Writes drive part pos (xs ++ ys) a c
  then_written part pos xs ys a b c first second = record {
    told = λ (k : Cartridge) held.
        let one = first.told k held in
        let two = second.told one.0 one.1 in
        (two.0, two.1, appended_then part pos xs ys k one.0 two.0 one.2 two.2);
    head = second.head ∙ ap (λ (n : ℕ). Some (record { part = part; pos = n })) (omega (arith, length-append xs ys));
  }

  -- a drive that has only looked at its cartridge writes then
  pub located : (part : Part) (pos : ℕ) (xs : List Item) (a b c : D)
      → drive.held b ≡ drive.held a → Writes drive part pos xs b c → Writes drive part pos xs a c
  located part pos xs a b c looks writes = record {
    told = λ (k : Cartridge) held. writes.told k (looks ∙ held);
    head = writes.head;
  }

  -- a drive that writes makes it durable then
  pub flushed : (part : Part) (pos : ℕ) (xs : List Item) (a b c : D)
      → Writes drive part pos xs a b → drive.held c ≡ drive.held b → drive.head c ≡ drive.head b → Writes drive part pos xs a c
  flushed part pos xs a b c writes looks head = record {
    told = λ (k : Cartridge) held. let t = writes.told k held in (t.0, looks ∙ t.1, t.2);
    head = head ∙ writes.head;
  }

  -- one command
  pub goes : {most : ℕ} (a b : D) → (drive.held a ≡ None → drive.held b ≡ None) → drive.limits b ≡ drive.limits a
      → Counted most (drive.commands a) (drive.commands b) → Goes drive a b
  goes a b untold limits counted = record { untold = untold; limits = limits; later = counted.later }

  -- one command that changes nothing
  pub looked : {most : ℕ} (a b : D) → drive.held b ≡ drive.held a → drive.limits b ≡ drive.limits a
      → Counted most (drive.commands a) (drive.commands b) → Goes drive a b
  looked a b held limits counted = record { untold = λ none. held ∙ none; limits = limits; later = counted.later }

  -- none
  pub goes_still : (a : D) → Goes drive a a
  goes_still a = record { untold = λ none. none; limits = refl; later = omega arith }

  -- where a drive goes on twice, it goes on from the first state to the last
  pub then_goes : (a b c : D) → Goes drive a b → Goes drive b c → Goes drive a c
  then_goes a b c first second = record {
    untold = λ none. second.untold (first.untold none);
    limits = second.limits ∙ first.limits;
    later = omega (arith, first.later, second.later);
  }

  -- what is known while the blocks of a document are written
  pub record Putting (size : ℕ) (doc : List ℕ) (done : ℕ) (old now : D) : Type 0 where
    pub most : done ≤ div_ceil (length doc) size
    pub head : (at : Place) → drive.head old ≡ Some at
        → drive.head now ≡ Some (record { part = at.part; pos = at.pos + done })
    pub goes : Goes drive old now
    pub faults : drive.faults old ≤ drive.faults now
    pub told : (part : Part) (pos : ℕ) (more : List Item) (start : D) → Writes drive part pos more start old
        → Writes drive part pos (more ++ map Block (take done (blocks_of size doc))) start now

  pub putting_begins : (size : ℕ) (doc : List ℕ) (old : D) → Putting size doc 0 old old
  putting_begins size doc old = record {
    most = omega arith;
    head = λ at head. head ∙ ap (λ (n : ℕ). Some (record { part = at.part; pos = n })) (omega arith);
    goes = goes_still old;
    faults = omega arith;
    told = λ part pos more start writes.
        subst (λ (l : List Item). Writes drive part pos l start old) (sym (append-nil more)) writes;
  }

  -- once one more block is written, one more block of the document stands written
  pub putting_goes_on : (size : ℕ) (doc : List ℕ) (done : ℕ) (old now then : D) (at : Place) (piece : List ℕ)
      → drive.head old ≡ Some at → Putting size doc done old now → done < div_ceil (length doc) size
      → slice_get (blocks_of size doc) done ≡ Some piece
      → ((place : Place) → drive.head now ≡ Some place → Writes drive place.part place.pos (Block piece ∷ []) now then)
      → Goes drive now then → drive.faults now ≤ drive.faults then
      → Putting size doc (done + 1) old then
  putting_goes_on size doc done old now then at piece located p lt is put going faults = record {
    most = omega (arith, lt);
    head = λ place head.
        (put (record { part = place.part; pos = place.pos + done }) (p.head place head)).head
        ∙ ap (λ (n : ℕ). Some (record { part = place.part; pos = n })) (omega arith);
    goes = then_goes old now then p.goes going;
    faults = omega (arith, p.faults, faults);
    told = λ part pos more start writes.
        let taken : List Item = map Block (take done (blocks_of size doc)) in
        let before : Writes drive part pos (more ++ taken) start now = p.told part pos more start writes in
        let one = put (record { part = part; pos = pos + length (more ++ taken) }) before.head in
        let longer : (more ++ taken) ++ Block piece ∷ [] ≡ more ++ map Block (take (done + 1) (blocks_of size doc)) =
        append_assoc more taken (Block piece ∷ [])
        ∙ ap (λ (l : List Item). more ++ l) (sym (ap (λ (l : List (List ℕ)). map Block l) (take_next (blocks_of size doc) done piece is) ∙ map-append Block (take done (blocks_of size doc)) (piece ∷ []))) in
        subst (λ (l : List Item). Writes drive part pos l start then) longer
        (then_written part pos (more ++ taken) (Block piece ∷ []) start now then before one);
  }

  -- once every block is written, the whole document stands behind what was there
  pub putting_ends : (size : ℕ) (doc : List ℕ) (done : ℕ) (old now : D) → 1 ≤ size
      → Putting size doc done old now → div_ceil (length doc) size ≤ done
      → (part : Part) (pos : ℕ) (more : List Item) (start : D) → Writes drive part pos more start old
      → Writes drive part pos (more ++ map Block (blocks_of size doc)) start now
  putting_ends size doc done old now some p over = λ part pos more start writes.
      let count : length (blocks_of size doc) ≡ div_ceil (length doc) size =
      cut_in_one_way.count size doc (blocks_of size doc) some (cut_in_one_way.cut size doc some) in
      subst (λ (l : List (List ℕ)). Writes drive part pos (more ++ map Block l) start now)
      (take_all done (blocks_of size doc) (omega (arith, count, over))) (p.told part pos more start writes)

  -- behind the blocks of a construct there is room for its last mark
  pub construct_room : (size : ℕ) (doc : List ℕ) → 1 ≤ size → (at : Place) (a b : D)
      → at.pos + (2 + div_ceil (length doc) size) ≤ capacity at.part (drive.limits a)
      → Writes drive at.part at.pos (Mark ∷ map Block (blocks_of size doc)) a b → drive.limits b ≡ drive.limits a
      → HasRoom (drive.head b) (drive.limits b)
  construct_room size doc some at a b room writes same =
      let before : List Item = Mark ∷ map Block (blocks_of size doc) in
      let count : length (blocks_of size doc) ≡ div_ceil (length doc) size =
      cut_in_one_way.count size doc (blocks_of size doc) some (cut_in_one_way.cut size doc some) in
      let long : length before ≡ 1 + div_ceil (length doc) size = omega (arith, length-map (blocks_of size doc) Block, count) in
      let place : Place = record { part = at.part; pos = at.pos + length before } in
      (place, writes.head, subst (λ (l : Limits). place.pos < capacity place.part l) (sym same) (omega (arith, room, long)))
