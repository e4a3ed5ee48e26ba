-- What stands of the ops after each call and each event.
use Rattle.std.proofs.Common.{◌≡◌, ℕ, ◌+◌, Bool, true, false, ◌||◌, List, [], ◌∷◌, ◌++◌, length, map, drop, Option, Some, None, sym, ap, ◌∙◌, refl, subst, append_assoc, append-nil}
use Rattle.std.proofs.lemmas.List.{map-append}
use Rattle.std.proofs.lemmas.List.Folds.{list_any-append}
use Rattle.std.proofs.lemmas.List.Sums.{fold-append}
use Rattle.std.proofs.lemmas.Bool.{or_from}
use Rattle.tape_types.specs.declared.cartridges.Part.{Part}
use Rattle.tape_types.specs.declared.cartridges.Part.TheVariants.{Ip, Dp}
use Rattle.tape_types.specs.declared.cartridges.Place.{Place}
use Rattle.session_script.specs.declared.logs.Event.{Event}
use Rattle.session_script.specs.declared.logs.Event.TheVariants as events
use Rattle.head_queue.specs.EventLaws.Trail.{after, after_op, with_sync, without_first_op, without_first_waiter}
use Rattle.head_queue.specs.EventLaws.Waiting.{Op, State, Waiter, ops, put_at, same_part, waiting_op, with_flushes}
use Rattle.tape_layout.specs.Ops.{construct, end_of, puts}
use Rattle.space_laws.specs.Space.{Rules, Space, first_space, index, ops_of, part_for, store, with_data}
use Rattle.space_laws.specs.Space as space
use Rattle.promises.specs.ServingPromise.Served.{headed}
use Rattle.promises.specs.ServingPromise.Submits.{queues_at}
use Rattle.promises.specs.GroupLaws.Groups.{AdmitsNothing, IsGrouped, has_part, ops_after, places_of, without_done}
use Rattle.promises.specs.GroupLaws.Laws.{GroupsBegin, IsEnded, IsQueued, OthersKeepGroups, SyncsEndTheirOps, SyncsOfNothingEndNone, WritesQueueTheirOps, queued, synced}
use Rattle.promises.proofs.GroupLaws.Flushes.{ended_so, is_index, puts_headed, puts_off}

-- of a volume of which nothing was asked yet no op is without its sync
pub groups_begin : GroupsBegin
groups_begin m = record { due = λ is. refl; changed = λ is. refl }

-- ---- ops that are queued

abbrev pub with_group : State → List Place → State
with_group st places = record st { group = st.group ++ places }

queued_is : (places : List Place) (st : State) → queued places st ≡ with_group st places
queued_is [] st = ap (λ g. record st { group = g }) (sym (append-nil st.group))
queued_is (p ∷ ps) st = queued_is ps (with_group st (p ∷ [])) ∙ ap (λ g. record st { group = g }) (append_assoc st.group (p ∷ []) ps)

queued_so : (st : State) (places : List Place) (asked : List Op) → map put_at places ≡ asked → IsQueued asked st (with_group st places)
queued_so st places asked is = record {
  standing = ap (λ l. st.ended ++ l) (map-append put_at st.group places ∙ ap (λ l. map put_at st.group ++ l) is) ∙ sym (append_assoc st.ended (map put_at st.group) asked);
  ended = refl;
  syncs = refl;
  alike = record { head = refl; arrived = refl; requests = refl; done = refl; drains = refl };
}

-- where a write puts its bytes
grouped_on : (v : Rules) (part : Part) (bytes : List ℕ) (s : Space) (st : State) → IsGrouped s st
    → IsGrouped (with_data v part bytes s) (with_group st (places_of (puts v.block_size part (end_of part s.ends) bytes)))
grouped_on v Ip bytes s st g = record { due = λ is. let wrong : true ≡ false = is in cc; changed = λ is. let wrong : true ≡ false = is in cc }
grouped_on v Dp bytes s st g = record {
  due = λ is. list_any-append (λ (p : Place). same_part Ip p.part) st.group (places_of (puts v.block_size Dp s.ends.dp bytes))
      ∙ or_from (has_part Ip st.group) (has_part Ip (places_of (puts v.block_size Dp s.ends.dp bytes))) (g.due is) (puts_off v.block_size s.ends.dp bytes);
  changed = λ is. let wrong : true ≡ false = is in cc;
}

-- a write queues its ops, and no sync has ended them yet
pub writes_queue_their_ops : WritesQueueTheirOps
writes_queue_their_ops = record {
  queued_are = λ v on s st wanted bytes. let part = part_for v on s wanted bytes in
      subst (IsQueued (map headed (ops_of v on s (store wanted bytes))) st) (sym (queued_is (places_of (ops_of v on s (store wanted bytes))) st))
      (queued_so st (places_of (ops_of v on s (store wanted bytes))) (map headed (ops_of v on s (store wanted bytes)))
      (sym (puts_headed v.block_size part (end_of part s.ends) bytes)));
  grouped = λ v on s st wanted bytes g. subst (IsGrouped (space.after v on s (store wanted bytes))) (sym (queued_is (places_of (ops_of v on s (store wanted bytes))) st))
      (grouped_on v (part_for v on s wanted bytes) bytes s st g);
}

-- ---- a sync

synced_is : (here : ℕ) (places : List Place) (st : State) → synced here places st ≡ with_sync here (with_group st places)
synced_is here places st = fold-append after st (queues_at places) (events.Syncs here ∷ []) ∙ ap (λ t. after t (events.Syncs here)) (queued_is places st)

ended_at : (here : ℕ) (st : State) (places : List Place) (asked : List Op) → with_flushes (st.group ++ places) ≡ map put_at st.group ++ asked
    → IsEnded here asked st (with_sync here (with_group st places))
ended_at here st places asked is = record {
  standing = append-nil (st.ended ++ with_flushes (st.group ++ places)) ∙ ap (λ l. st.ended ++ l) is ∙ sym (append_assoc st.ended (map put_at st.group) asked);
  none_left = refl;
  syncs = ap (λ l. st.syncs ++ record { ticket = here; due = st.done + length l } ∷ []) (sym (append-nil (st.ended ++ with_flushes (st.group ++ places))));
  alike = record { head = refl; arrived = refl; requests = refl; done = refl; drains = refl };
}

-- a sync queues the ops of its index, and ends all that no other had
pub syncs_end_their_ops : SyncsEndTheirOps
syncs_end_their_ops = record {
  ended = λ v on s st here text g. let asked = ops_of v on s (index text) in
      subst (IsEnded here (map headed asked) st) (sym (synced_is here (places_of asked) st))
      (ended_at here st (places_of asked) (map headed asked) (ended_so s.flush_due s.ends.ip st.group (construct v.block_size Dp s.ends.dp text) g.due (is_index v.block_size s.ends.dp text)));
  grouped = λ v on s st here text g. let asked = ops_of v on s (index text) in
      subst (IsGrouped (space.after v on s (index text))) (sym (synced_is here (places_of asked) st)) (record { due = λ is. refl; changed = λ is. refl });
}

-- none stands that no sync has ended
no_group : (here : ℕ) (st : State) → st.group ≡ [] → IsEnded here [] st (after st (events.Syncs here))
no_group here st none = subst (λ g. IsEnded here [] (record st { group = g }) (after (record st { group = g }) (events.Syncs here))) (sym none)
    (ended_at here (record st { group = [] }) [] [] refl)

-- a sync before which nothing changed ends no op and waits for those that stand
pub syncs_of_nothing_end_none : SyncsOfNothingEndNone
syncs_of_nothing_end_none = record {
  ended = λ s st here g same. no_group here st (g.changed same);
  standing = λ s st here g same. let e = no_group here st (g.changed same) in e.standing ∙ append-nil (ops st);
  grouped = λ s st here g same. record { due = λ is. refl; changed = λ is. refl };
}

-- ---- all else

drop_off : (group : List Place) → has_part Ip group ≡ false → has_part Ip (drop 1 group) ≡ false
drop_off [] off = refl
drop_off (p ∷ ps) off = by (same_part Ip p.part) off
  where
    by : (b : Bool) → (b || has_part Ip ps) ≡ false → has_part Ip ps ≡ false
    by true is = cc
    by false is = is

drop_none : (group : List Place) → group ≡ [] → drop 1 group ≡ []
drop_none group none = ap (λ g. drop 1 g) none

done_grouped : (s : Space) (st : State) (ended : List Op) → IsGrouped s st → IsGrouped s (without_first_op (record st { ended = ended }))
done_grouped s st [] g = record { due = λ is. drop_off st.group (g.due is); changed = λ is. drop_none st.group (g.changed is) }
done_grouped s st (op ∷ more) g = record { due = g.due; changed = g.changed }

after_grouped : (s : Space) (st : State) (op : Option Op) → IsGrouped s st → IsGrouped s (after_op op st)
after_grouped s st None g = g
after_grouped s st (Some op) g = let d = done_grouped s st st.ended g in record { due = d.due; changed = d.changed }

waiter_grouped : (s : Space) (st : State) (syncs : List Waiter) → IsGrouped s st → IsGrouped s (without_first_waiter (record st { syncs = syncs }))
waiter_grouped s st [] g = record { due = g.due; changed = g.changed }
waiter_grouped s st (w ∷ more) g = record { due = g.due; changed = g.changed }

grouped_again : (s : Space) (st : State) (e : Event) → AdmitsNothing e → IsGrouped s st → IsGrouped s (after st e)
grouped_again s st (events.Wants ticket place) is g = record { due = g.due; changed = g.changed }
grouped_again s st (events.Queues place) is g = absurd is
grouped_again s st (events.Syncs ticket) is g = absurd is
grouped_again s st (events.Synced ticket) is g = record { due = g.due; changed = g.changed }
grouped_again s st (events.Drains who) is g = record { due = g.due; changed = g.changed }
grouped_again s st (events.Rests who) is g = record { due = g.due; changed = g.changed }
grouped_again s st (events.Served ticket place None) is g = record { due = g.due; changed = g.changed }
grouped_again s st (events.Served ticket place (Some counts)) is g = record { due = g.due; changed = g.changed }
grouped_again s st (events.Worked place None) is g = after_grouped s st (waiting_op st) g
grouped_again s st (events.Worked place (Some counts)) is g = let w = waiter_grouped s st st.syncs g in record { due = w.due; changed = w.changed }

done_ops : (st : State) (ended : List Op) (group : List Place) → ops (without_first_op (record st { ended = ended; group = group })) ≡ drop 1 (ended ++ map put_at group)
done_ops st [] [] = refl
done_ops st [] (p ∷ ps) = refl
done_ops st (op ∷ more) group = refl

done_left : (st : State) (op : Option Op) → ops (after_op op st) ≡ without_done op (ops st)
done_left st None = refl
done_left st (Some op) = done_ops st st.ended st.group

waiter_ops : (st : State) (syncs : List Waiter) → ops (without_first_waiter (record st { syncs = syncs })) ≡ ops st
waiter_ops st [] = refl
waiter_ops st (w ∷ more) = refl

standing_again : (st : State) (e : Event) → AdmitsNothing e → ops (after st e) ≡ ops_after st e
standing_again st (events.Wants ticket place) is = refl
standing_again st (events.Queues place) is = absurd is
standing_again st (events.Syncs ticket) is = absurd is
standing_again st (events.Synced ticket) is = refl
standing_again st (events.Drains who) is = refl
standing_again st (events.Rests who) is = refl
standing_again st (events.Served ticket place None) is = refl
standing_again st (events.Served ticket place (Some counts)) is = refl
standing_again st (events.Worked place None) is = done_left st (waiting_op st)
standing_again st (events.Worked place (Some counts)) is = waiter_ops st st.syncs

-- what admits no op leaves those that no sync has ended
pub others_keep_groups : OthersKeepGroups
others_keep_groups = record {
  changed = λ v on s st g. record { due = g.due; changed = λ is. let wrong : true ≡ false = is in cc };
  asked_nothing = λ v on s st g. g;
  grouped = grouped_again;
  standing = standing_again;
}
