-- Replies over a whole history: each is that of the tree at its place.
use Rattle.std.specs.Prelude.{◌≡◌, ◌≢◌, take, ℕ, List, [], ◌∷◌, map, codes, Some, None}
use Rattle.std.proofs.Common.{refl, inl, inr, arith, sym, ap, ◌∙◌}
use Rattle.tape_types.specs.declared.moments.Moment.{Moment}
use Rattle.plain_tree.specs.declared.calls.Fate.TheVariants as fates
use Rattle.tape_types.specs.declared.cartridges.Place.{Place}
use Rattle.plain_tree.specs.declared.calls.Call.TheVariants.{Write}
use Rattle.session_script.specs.declared.logs.Reply.TheVariants as replies
use Rattle.head_queue.specs.EventLaws.Rows.{queues}
use Rattle.tape_layout.specs.declared.ops.Op.{Op}
use Rattle.tape_layout.specs.declared.ops.Op.TheVariants.{Put}
use Rattle.tape_layout.specs.Ops.{place_of}
use Rattle.space_laws.specs.Standing.{admitted, standing}
use Rattle.space_laws.specs.Trials.{on_dp, on_ip}
use Rattle.promises.specs.ServingPromise.Replies.{IsReply, facts_at}
use Rattle.promises.specs.ServingPromise.Served.{AreStanding}
use Rattle.promises.specs.ServingPromise.Trials.{filling, last_void, path, small_volume, twice_written, with_policy, with_small_blocks, four_done, placed, read, got}
use Rattle.promises.proofs.ServingPromise.ReplyFacts.{get_put}

-- the first read answers the bytes of the first write
pub first_read : (at : Moment) → IsReply fates.Done (facts_at (small_volume at twice_written) None (four_done at) [] 1 (placed at 1 1 fates.Done) read) read (got (codes "hello"))
first_read at = record { within = simp (get_put) refl; answered = inl (simp (get_put) refl) }

-- the second read answers the bytes of the second write
pub second_read : (at : Moment) → IsReply fates.Done (facts_at (small_volume at twice_written) None (four_done at) [] 3 (placed at 1 3 fates.Done) read) read (got (codes "world"))
second_read at = record { within = simp (get_put) refl; answered = inl (simp (get_put) refl) }

-- both writes are admitted one behind the other on the data partition
pub both_stored : (at : Moment) → map place_of (admitted (small_volume at twice_written) None (four_done at)) ≡ on_dp 7 ∷ on_dp 8 ∷ []
both_stored at = simp (get_put) refl

-- after the whole history the data partition ends at position 9
pub end_after : (at : Moment) → (standing (small_volume at twice_written) None (four_done at) 4).space.ends.dp ≡ 9
end_after at = simp (get_put) refl

-- the write for which there is no room is told what it needs and what there is
pub filled : (at : Moment) → IsReply fates.Void (facts_at (with_small_blocks at filling) None (last_void at) [] 3 (placed at 1 3 fates.Void) (Write path 180 (100 ∷ []))) (Write path 180 (100 ∷ [])) (replies.Full 53 52)
filled at = inr (inl (simp (get_put) refl, simp (get_put) refl))

-- before the first flush of the data partition a file that the policy puts on the index partition goes to the data partition
pub not_on_yet : (at : Moment) → map place_of (admitted (with_policy at twice_written) None (take 1 (four_done at))) ≡ on_dp 7 ∷ []
not_on_yet at = simp (get_put) refl

-- where files may go to the index partition from place 2 on, the write before stays off it
pub not_before_its_place : (at : Moment) → map place_of (admitted (with_policy at twice_written) (Some 2) (four_done at)) ≡ on_dp 7 ∷ on_ip 4 ∷ []
not_before_its_place at = simp (get_put) refl

-- a write isn't admitted to the index partition before files may go there
pub ip_before_flush_isnt : (at : Moment) → map place_of (admitted (with_policy at twice_written) None (take 1 (four_done at))) ≢ on_ip 4 ∷ []
ip_before_flush_isnt at e = omega (arith, ap (λ ps. first ps) (sym (not_on_yet at) ∙ e))
  where
    first : List Place → ℕ
    first [] = 0
    first (p ∷ ps) = p.pos

-- the op of a write stands with its bytes, and with no others
pub standing_is : (at : Moment) → AreStanding (small_volume at twice_written) None (take 1 (four_done at)) (queues 7 1) (Put (on_dp 7) (codes "hello") ∷ [])
standing_is at = simp (get_put) refl

-- an op with other bytes than those written doesn't stand
pub other_bytes_isnt : (at : Moment) → ¬ AreStanding (small_volume at twice_written) None (take 1 (four_done at)) (queues 7 1) (Put (on_dp 7) (codes "world") ∷ [])
other_bytes_isnt at e = omega (arith, ap first_byte (e ∙ sym (standing_is at)))
  where
    first_byte : List Op → ℕ
    first_byte (Put place (b ∷ bytes) ∷ ops) = b
    first_byte _ = 0
