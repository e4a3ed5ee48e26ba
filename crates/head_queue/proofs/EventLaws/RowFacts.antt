-- The trails of worked runs are trails, of so many steps and so much travel, and no damaged one is.
use Rattle.std.specs.Prelude.{◌≡◌, true, false, [], ◌∷◌}
use Rattle.std.proofs.Common.{refl}
use Rattle.head_queue.specs.EventLaws.Waiting.{is_at_rest, is_least, keys, op_key, put_at, request_key}
use Rattle.head_queue.specs.EventLaws.Trail.{IsCost, is_trail, is_trail_from, after_all, owned, owned_by, of_call, of_session}
use Rattle.head_queue.specs.EventLaws.Rows.{twin, dp, request, three_requests, two_reads, reads_backwards, with_requests, two_faults, one_sync, two_sessions, two_sessions_early, placed_on_ip, full_partition, failed_write, drained, failed_drain, failed_flush, op_out_of_order, read_too_early, answered_early, answered_late, answered_over_another, op_for_nobody, op_for_a_read, op_dropped, drains_early, rests_early, wants_what_is_held, read_after_fault, ip_after_dp, both_wait, with_op, ip}

-- a file written, synchronised and read is a trail of 6 steps and travel 11
pub one_sync_is : IsCost one_sync 6 11
one_sync_is = record { trail = refl; steps = refl; travel = refl }

-- two sessions of which one waits while the other synchronises make 10 steps and travel 14
pub two_sessions_is : IsCost two_sessions 10 14
two_sessions_is = record { trail = refl; steps = refl; travel = refl }

-- where the directory stood before the first sync, 6 steps and travel 11 do
pub two_sessions_early_is : IsCost two_sessions_early 6 11
two_sessions_early_is = record { trail = refl; steps = refl; travel = refl }

-- a file on the index partition takes 6 steps and travel 6
pub placed_on_ip_is : IsCost placed_on_ip 6 6
placed_on_ip_is = record { trail = refl; steps = refl; travel = refl }

-- a partition filled but for its reserve takes 49 steps and travel 7
pub full_partition_is : IsCost full_partition 49 7
full_partition_is = record { trail = refl; steps = refl; travel = refl }

-- a write that fails and is done by the next sync takes 6 steps and travel 7
pub failed_write_is : IsCost failed_write 6 7
failed_write_is = record { trail = refl; steps = refl; travel = refl }

-- 80 ops of which 16 are drained take 16 steps and travel 7
pub drained_is : IsCost drained 16 7
drained_is = record { trail = refl; steps = refl; travel = refl }

-- a drain whose second op fails takes 2 steps and travel 7
pub failed_drain_is : IsCost failed_drain 2 7
failed_drain_is = record { trail = refl; steps = refl; travel = refl }

-- a flush that fails and isn't done again takes 6 steps and travel 11
pub failed_flush_is : IsCost failed_flush 6 11
failed_flush_is = record { trail = refl; steps = refl; travel = refl }

-- ops done in another order than theirs are no trail
pub op_out_of_order_is_none : is_trail op_out_of_order ≡ false
op_out_of_order_is_none = refl

-- a read served before an op with the lesser key is no trail
pub read_too_early_is_none : is_trail read_too_early ≡ false
read_too_early_is_none = refl

-- a sync answered before its flush is no trail
pub answered_early_is_none : is_trail answered_early ≡ false
answered_early_is_none = refl

-- a read between a sync's flush and its answer is no trail
pub answered_late_is_none : is_trail answered_late ≡ false
answered_late_is_none = refl

-- a sync answered while an op of an earlier one stands is no trail
pub answered_over_another_is_none : is_trail answered_over_another ≡ false
answered_over_another_is_none = refl

-- an op done though nobody waits for it is no trail
pub op_for_nobody_is_none : is_trail op_for_nobody ≡ false
op_for_nobody_is_none = refl

-- a failed flush done again while a read alone waits is no trail
pub op_for_a_read_is_none : is_trail op_for_a_read ≡ false
op_for_a_read_is_none = refl

-- a failed op left out, and the next one done, is no trail
pub op_dropped_is_none : is_trail op_dropped ≡ false
op_dropped_is_none = refl

-- a drain while no more than 64 ops stand is no trail
pub drains_early_is_none : is_trail drains_early ≡ false
drains_early_is_none = refl

-- a rest while 65 ops stand is no trail
pub rests_early_is_none : is_trail rests_early ≡ false
rests_early_is_none = refl

-- a block read from tape that an op holds is no trail
pub wants_what_is_held_is_none : is_trail wants_what_is_held ≡ false
wants_what_is_held_is_none = refl

-- the other block of a read whose one block failed can't be read in a trail
pub read_after_fault_is_none : is_trail read_after_fault ≡ false
read_after_fault_is_none = refl

-- what is flushed on the index partition after the index that names it is no trail
pub ip_after_dp_is_none : is_trail ip_after_dp ≡ false
ip_after_dp_is_none = refl

-- from position 20, the block at 30 is read before the one at 10
pub swept : is_trail_from (with_requests 20 []) two_reads ≡ true
swept = refl

-- from position 20, the block at 10 isn't read before the one at 30
pub backwards : is_trail_from (with_requests 20 []) reads_backwards ≡ false
backwards = refl

-- of three requests a head at 30 picks the one at 50
pub picks_50 : is_least (request_key (dp 30) (request 3 50 2)) (keys (with_requests 30 three_requests)) ≡ true
picks_50 = refl

-- a head at 30 doesn't pick the request at 90 while one at 50 waits
pub not_90 : is_least (request_key (dp 30) (request 1 90 0)) (keys (with_requests 30 three_requests)) ≡ false
not_90 = refl

-- once the head is at 51, it picks the request at 90
pub then_90 : is_least (request_key (dp 51) (request 1 90 0)) (keys (with_requests 51 (request 1 90 0 ∷ request 2 20 1 ∷ []))) ≡ true
then_90 = refl

-- of two requests for one place, the earlier is served first
pub earlier_first : is_least (request_key (dp 30) (request 1 50 0)) (keys (with_requests 30 (request 1 50 0 ∷ request 2 50 1 ∷ []))) ≡ true
earlier_first = refl

-- of two requests for one place, the later isn't served first
pub not_the_later : is_least (request_key (dp 30) (request 2 50 1)) (keys (with_requests 30 (request 1 50 0 ∷ request 2 50 1 ∷ []))) ≡ false
not_the_later = refl

-- the fault of a failed write is owned by the call that waits
pub write_owned : owned failed_write ≡ (of_call 2, twin 0 1) ∷ []
write_owned = refl

-- the fault of a failed drain is owned by the session that drains
pub drain_owned : owned failed_drain ≡ (of_session 1, twin 0 1) ∷ []
drain_owned = refl

-- of two faults, each is owned by the sync that waits longest then
pub each_its_own : owned two_faults ≡ (of_call 2, twin 0 1) ∷ (of_call 3, twin 1 2) ∷ []
each_its_own = refl

-- a fault is not owned by a call that didn't wait for it first
pub not_anothers : owned_by (of_call 3) failed_write ≡ []
not_anothers = refl

-- after a run with one sync nothing waits
pub rests : is_at_rest (after_all one_sync) ≡ true
rests = refl

-- of a sync that waits and a session that drains, the sync owns the first fault
pub sync_before_session : owned both_wait ≡ (of_call 3, twin 0 1) ∷ (of_session 2, twin 1 2) ∷ []
sync_before_session = refl

-- an op and a request at one place: the op comes first
pub op_before_request : is_least (op_key (dp 30) (put_at (dp 50))) (keys (with_op (dp 30) (dp 50))) ≡ true
op_before_request = refl

-- a request doesn't come before an op at the same place
pub request_after_op : is_least (request_key (dp 30) (request 1 50 0)) (keys (with_op (dp 30) (dp 50))) ≡ false
request_after_op = refl

-- what waits on the head's partition comes before what waits on the other
pub same_partition_first : is_least (request_key (ip 3) (record { ticket = 1; place = ip 2; arrival = 0 })) (op_key (ip 3) (put_at (dp 5)) ∷ request_key (ip 3) (record { ticket = 1; place = ip 2; arrival = 0 }) ∷ []) ≡ true
same_partition_first = refl
