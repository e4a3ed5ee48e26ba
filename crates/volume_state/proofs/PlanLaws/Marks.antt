-- Where no mark is put.
use Rattle.std.proofs.Common.{◌≡◌, ℕ, ◌+◌, ◌*◌, ◌/◌, ◌<◌, ◌≤◌, ◌⊎◌, ⊎_elim, ◌∙◌, true, false, List, [], ◌∷◌, ◌++◌, length, map, Option, Some, None, refl, sym, ap, subst, arith, div-mul-le_self}
use Rattle.std.specs.List.{list_any}
use Rattle.std.proofs.lemmas.Bool.Decides.{nat_tests}
use Rattle.std.proofs.lemmas.List.{map-append}
use Rattle.std.proofs.lemmas.List.Folds.{list_any-append}
use Rattle.std.proofs.lemmas.Bool.{or_right, or_cases}
use Rattle.tape_types.specs.declared.cartridges.Extent.{Extent}
use Rattle.tape_types.specs.declared.cartridges.Part.{Part}
use Rattle.tape_types.specs.declared.cartridges.Part.TheVariants.{Ip, Dp}
use Rattle.tape_types.specs.declared.cartridges.Place.{Place}
use Rattle.extent_map.specs.Blocks.{StandsIn}
use Rattle.file_tree.specs.Blocks.{AddsBlocksOf, LiesBelow, TreeStandsIn}
use Rattle.file_tree.specs.Tree.{FileTree}
use Rattle.head_queue.specs.EventLaws.Trail.{puts_at}
use Rattle.head_queue.specs.EventLaws.Waiting as waiting
use Rattle.tape_layout.specs.IndexConstruct.Blocks.{block_at}
use Rattle.tape_layout.specs.declared.ops.Op.{Op}
use Rattle.tape_layout.specs.declared.ops.Op.TheVariants.{Put, Mark, Flush}
use Rattle.tape_layout.specs.declared.standing.Ends.{Ends}
use Rattle.tape_layout.specs.Ops.{AreNext, after_op, end_of, held_by, held_in, or_later, place_of, puts, with_end}
use Rattle.promises.specs.ServingPromise.Served.{headed}
use Rattle.held_volume.specs.Stocks.{ends_of}
use Rattle.volume_state.specs.PlanLaws.Laws.{MarksStay}
use Rattle.volume_state.specs.PlanLaws.Planned.{IsPutBy, NoMarks}
use Rattle.volume_state.proofs.PlanLaws.Admits.{puts_lead}
use Rattle.volume_state.proofs.PlanLaws.Ends.{rises}
use Rattle.volume_state.proofs.PlanLaws.Plans.{held_parts}
use Rattle.volume_state.proofs.PlanLaws.Stored.{puts_held}

-- this holds bytes
abbrev HasBytes : Option (List ℕ) → Type 0
HasBytes held = (bytes : List ℕ) × (held ≡ Some bytes)

-- ---- ops that come next put nothing before the ends

put_here : (on part : Part) (at pos : ℕ) (e : Ends)
    → puts_at (record { part = on; pos = at }) (record { place = record { part = part; pos = pos }; flush = false })
    ≡ true
    → pos ≡ end_of part e
    → end_of on e ≤ at
put_here Ip Ip at pos e is next = grind (arith, nat_tests, is, next)
put_here Dp Dp at pos e is next = grind (arith, nat_tests, is, next)
put_here Ip Dp at pos e is next = absurd (cc is)
put_here Dp Ip at pos e is next = absurd (cc is)

op_behind : (place : Place) (e : Ends) (op : Op) → puts_at place (headed op) ≡ true
    → (place_of op).pos ≡ end_of (place_of op).part e → end_of place.part e ≤ place.pos
op_behind place e (Put at bytes) is next = put_here place.part at.part place.pos at.pos e is next
op_behind place e (Mark at) is next = put_here place.part at.part place.pos at.pos e is next
op_behind place e (Flush at) is next = absurd (cc is)

-- an op puts at or behind the end that its partition had
pub puts_behind : (ops : List Op) (e : Ends) (place : Place) → AreNext e ops → IsPutBy ops place
    → end_of place.part e ≤ place.pos
puts_behind [] e place next is = absurd (cc is)
puts_behind (op ∷ ops) e place next is = ⊎_elim
    (λ (here : puts_at place (headed op) ≡ true). op_behind place e op here next.0)
    (λ (later : IsPutBy ops place).
    omega (arith, rises place.part e op next.0, puts_behind ops (after_op e op) place next.1 later))
    (or_cases (puts_at place (headed op)) (list_any (puts_at place) (map headed ops)) is)

-- ---- the first op is done

-- an op that holds bytes for a place leaves the end of its partition behind it
past_held : (on part : Part) (at pos : ℕ) (bytes held : List ℕ) (e : Ends)
    → held_by (record { part = on; pos = at }) (Put (record { part = part; pos = pos }) bytes) ≡ Some held
    → at < end_of on (with_end part (pos + 1) e)
past_held on part at pos bytes held e is =
    let parts = held_parts on part at pos bytes held is in by on part parts.0 parts.1
  where
    by : (one other : Part) → other ≡ one → pos ≡ at → at < end_of one (with_end other (pos + 1) e)
    by Ip Ip same here = omega (arith, here)
    by Dp Dp same here = omega (arith, here)
    by Ip Dp same here = absurd (cc same)
    by Dp Ip same here = absurd (cc same)

op_past : (place : Place) (e : Ends) (op : Op) (held : List ℕ) → held_by place op ≡ Some held
    → place.pos < end_of place.part (after_op e op)
op_past place e (Put at bytes) held is = past_held place.part at.part place.pos at.pos bytes held e is
op_past place e (Mark at) held is = absurd (cc is)
op_past place e (Flush at) held is = absurd (cc is)

-- where a later op puts at a place, the bytes that are held for it are held by the later ops
pub rest_holds : (place : Place) (e : Ends) (op : Op) (ops : List Op) → AreNext e (op ∷ ops) → IsPutBy ops place
    → HasBytes (held_in place (op ∷ ops)) → HasBytes (held_in place ops)
rest_holds place e op ops next put has = by (held_by place op) refl has.1
  where
    by : (o : Option (List ℕ)) → held_by place op ≡ o → or_later o (held_in place ops) ≡ Some has.0
        → HasBytes (held_in place ops)
    by (Some held) first is =
        absurd (omega (arith, op_past place e op held first, puts_behind ops (after_op e op) place next.1 put))
    by None first is = (has.0, is)

marks_done : (ends : Ends) (op : Op) (ops : List Op) (tree : FileTree) → AreNext ends (op ∷ ops)
    → NoMarks (op ∷ ops) tree → NoMarks ops tree
marks_done ends op ops tree next none part pos stands put =
    rest_holds (record { part = part; pos = pos }) ends op ops next put
    (none part pos stands
    (or_right (puts_at (record { part = part; pos = pos }) (headed op))
    (list_any (puts_at (record { part = part; pos = pos })) (map headed ops)) put))

-- ---- ops are added

held_first : (place : Place) (ops asked : List Op) → HasBytes (held_in place ops)
    → HasBytes (held_in place (ops ++ asked))
held_first place [] asked has = absurd (cc has.1)
held_first place (op ∷ ops) asked has = by (held_by place op) has.1 (λ rest. held_first place ops asked rest)
  where
    by : (o : Option (List ℕ)) → or_later o (held_in place ops) ≡ Some has.0
        → (HasBytes (held_in place ops) → HasBytes (held_in place (ops ++ asked)))
        → HasBytes (or_later o (held_in place (ops ++ asked)))
    by (Some held) is later = (held, refl)
    by None is later = later (has.0, is)

held_last : (place : Place) (ops asked : List Op) → HasBytes (held_in place asked)
    → HasBytes (held_in place (ops ++ asked))
held_last place [] asked has = has
held_last place (op ∷ ops) asked has = by (held_by place op) (held_last place ops asked has)
  where
    by : (o : Option (List ℕ)) → HasBytes (held_in place (ops ++ asked))
        → HasBytes (or_later o (held_in place (ops ++ asked)))
    by (Some held) later = (held, refl)
    by None later = later

-- of two lists of ops that put at a place, one does
pub put_by_either : (place : Place) (ops asked : List Op) → IsPutBy (ops ++ asked) place
    → IsPutBy ops place ⊎ IsPutBy asked place
put_by_either place ops asked is =
    or_cases (list_any (puts_at place) (map headed ops)) (list_any (puts_at place) (map headed asked))
    (sym (list_any-append (puts_at place) (map headed ops) (map headed asked))
    ∙ sym (ap (λ (l : List waiting.Op). list_any (puts_at place) l) (map-append headed ops asked)) ∙ is)

marks_added : (ends : Ends) (ops asked : List Op) (tree : FileTree) → AreNext ends asked
    → LiesBelow (ends_of ends) tree → NoMarks ops tree → NoMarks (ops ++ asked) tree
marks_added ends ops asked tree next below none part pos stands put = ⊎_elim
    (λ (old : IsPutBy ops (record { part = part; pos = pos })).
    held_first (record { part = part; pos = pos }) ops asked (none part pos stands old))
    (λ (new : IsPutBy asked (record { part = part; pos = pos })).
    absurd (omega (arith, below part pos stands, puts_behind asked ends (record { part = part; pos = pos }) next new)))
    (put_by_either (record { part = part; pos = pos }) ops asked put)

-- ---- bytes are put into new blocks

stored_block : (size : ℕ) (new : Extent) (bytes : List ℕ) (part : Part) (pos : ℕ) → 1 ≤ size → new.byte ≡ 0
    → new.count ≡ length bytes → StandsIn size new part pos
    → HasBytes (held_in (record { part = part; pos = pos }) (puts size new.part new.block bytes))
stored_block size new bytes part pos some start all s =
    let k = (new.byte + s.byte) / size in
    let low : k * size ≤ new.byte + s.byte = div-mul-le_self (new.byte + s.byte) size in
    let held : held_in (record { part = new.part; pos = new.block + k }) (puts size new.part new.block bytes) ≡ Some
    (block_at size bytes k) =
    puts_held size new.part new.block bytes k some (omega (arith, low, s.within, start, all)) in (
      block_at size bytes k,
      subst (λ (p : Part).
          held_in (record { part = p; pos = pos }) (puts size new.part new.block bytes) ≡ Some (block_at size bytes k)) s.on
          (subst (λ (n : ℕ).
          held_in (record { part = new.part; pos = n }) (puts size new.part new.block bytes) ≡ Some
          (block_at size bytes k)) s.here held),
    )

marks_stored : (ends : Ends) (ops : List Op) (before next : FileTree) (new : Extent) (bytes : List ℕ)
    → LiesBelow (ends_of ends) before → NoMarks ops before → AddsBlocksOf new before next
    → 1 ≤ before.block_size → new.block ≡ end_of new.part ends → new.byte ≡ 0 → new.count ≡ length bytes
    → NoMarks (ops ++ puts before.block_size new.part new.block bytes) next
marks_stored ends ops before next new bytes below none adds some at start all part pos stands put = ⊎_elim
    (λ (old : TreeStandsIn before part pos).
    marks_added ends ops (puts before.block_size new.part new.block bytes) before
    (puts_lead before.block_size new.part new.block bytes ends (sym at)).next below none part pos old put)
    (λ (more : StandsIn before.block_size new part pos).
    held_last (record { part = part; pos = pos }) ops (puts before.block_size new.part new.block bytes)
    (stored_block before.block_size new bytes part pos some start all more))
    (adds part pos stands)

-- no mark is put where a block of the tree stands
pub marks_stay : MarksStay
marks_stay = record {
  none = λ tree part pos stands put. absurd (cc put);
  done = marks_done;
  kept = λ ops before next fewer none part pos stands put. none part pos (fewer part pos stands) put;
  added = marks_added;
  stored = marks_stored;
}
