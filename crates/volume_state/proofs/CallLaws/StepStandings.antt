-- What stands at the end of the history, once an op was done.
use Rattle.std.specs.Prelude.{◌≡◌, ℕ, ◌≤◌, nat_le, Bool, true, false, cond, List, length, Option, Some, None, IfSome}
use Rattle.std.proofs.Common.{refl, ap, arith}
use Rattle.std.proofs.lemmas.Bool.Decides.{nat_tests}
use Rattle.std.proofs.lemmas.Bool.{or_right}
use Rattle.extent_map.specs.Cells.{Tape}
use Rattle.plain_tree.specs.declared.calls.Placed.{Placed}
use Rattle.tape_layout.specs.Plans.{Plan}
use Rattle.tape_layout.specs.declared.ops.Op.{Op}
use Rattle.space_laws.specs.Mount.{MountFacts}
use Rattle.space_laws.specs.Standing.{Given, Standing, is_on, standing}
use Rattle.held_volume.specs.Stocks.{IsStock, Stocked}
use Rattle.promises.proofs.ReplyLaws.Places.{placement_goes_on}
use Rattle.volume_state.specs.StateLaws.Stepping.{on_done, settles_dp}

turned : (b : Bool) (g : Given) (history : List Placed) (k : ℕ)
    → standing g (cond b (Some (length history)) None) history k ≡ standing g None history k
turned true g history k = (placement_goes_on g history).stands k
turned false g history k = refl

-- what stood at a place of the history stands there as placement goes on behind it
pub same_standing : (op : Op) (g : Given) (on : Option ℕ) (history : List Placed) (k : ℕ)
    → standing g (on_done op (length history) on) history k ≡ standing g on history k
same_standing op g (Some first) history k = refl
same_standing op g None history k = turned (settles_dp op) g history k

-- ---- whether placement is on

le_is : (a b : ℕ) → a ≤ b → nat_le a b ≡ true
le_is a b h = grind (arith, nat_tests)

always : (b x : Bool) → x ≡ true → x ≡ cond b true x
always true x e = e
always false x e = refl

may_turn : (b : Bool) (m : MountFacts) (n : ℕ) → is_on m (cond b (Some n) None) n ≡ cond b true (is_on m None n)
may_turn true m n = or_right m.ip_on (nat_le n n) (le_is n n (omega arith))
may_turn false m n = refl

-- placement on the index partition turns on with the first flush of the data partition
pub on_turns : (op : Op) (m : MountFacts) (on : Option ℕ) (n : ℕ) → IfSome on (λ first. first ≤ n)
    → is_on m (on_done op n on) n ≡ cond (settles_dp op) true (is_on m on n)
on_turns op m (Some first) n le = always (settles_dp op) (is_on m (Some first) n) (or_right m.ip_on (nat_le first n) (le_is first n le))
on_turns op m None n le = may_turn (settles_dp op) m n

may_be : (b : Bool) (n : ℕ) → IfSome (cond b (Some n) None) (λ first. first ≤ n)
may_be true n = omega arith
may_be false n = tt

-- the place from where placement is on is one that the history has reached
pub on_within : (op : Op) (on : Option ℕ) (n : ℕ) → IfSome on (λ first. first ≤ n)
    → IfSome (on_done op n on) (λ first. first ≤ n)
on_within op (Some first) n le = le
on_within op None n le = may_be (settles_dp op) n

-- ---- what is held

-- the stock with fewer ops, and with placement turned on
abbrev pub less_stock : Op → List Op → Stocked → Stocked
less_stock op later s = record s {
  layout = record s.layout {
    ops = later;
    ip_on = cond (settles_dp op) true s.layout.ip_on;
  };
}

-- what is held stays what stands once the first op was done
pub stock_done : (tape : Tape) (g : Given) (on : Bool) (st : Standing) (s : Stocked) (op : Op) (later : List Op)
    → IsStock tape g on st s
    → IsStock tape g (cond (settles_dp op) true on) st (less_stock op later s)
stock_done tape g on st s op later is = record {
  plain = is.plain;
  files = is.files;
  layout = ap (λ (l : Plan). record l { ops = later; ip_on = cond (settles_dp op) true l.ip_on }) is.layout;
  frame = is.frame;
  name = is.name;
  block_size = is.block_size;
  below = is.below;
}
