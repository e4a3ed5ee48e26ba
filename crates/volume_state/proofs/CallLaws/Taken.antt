-- Reads that wait, once a request was served or failed.
use Rattle.std.specs.Prelude.{◌≡◌, ◌⊎◌, ◌==◌, not, ℕ, suc, Bool, true, false, cond, List, [], ◌∷◌, ◌++◌, All, AllPairs, Contains, filter, Option, IfSome}
use Rattle.std.specs.List.{list_any}
use Rattle.std.proofs.Common.{⊎_elim, inl, inr, sym, ap, subst, ◌∙◌, arith}
use Rattle.std.proofs.lemmas.Bool.{and_parts, both_ways, eqb-true, eq-eqb, or_parts}
use Rattle.std.proofs.lemmas.List.Elements.{All-cons, All-head, All-tail, All-weaker}
use Rattle.std.proofs.lemmas.List.Kept.{AllPairs-cons}
use Rattle.tape_types.specs.declared.cartridges.Cartridge.{Cartridge}
use Rattle.extent_map.specs.Replies.{Places}
use Rattle.plain_tree.specs.declared.calls.Placed.{Placed}
use Rattle.head_queue.specs.EventLaws.Trail.{asks}
use Rattle.head_queue.specs.EventLaws.Waiting.{Request, State, same_place}
use Rattle.tape_layout.specs.declared.ops.Op.{Op}
use Rattle.waiting_reads.specs.Gathering.{Gathering, IsGathering}
use Rattle.waiting_reads.specs.Waiting.{has_ticket}
use Rattle.promises.proofs.OrderLaws.Lists.{any_filter_same}
use Rattle.space_laws.specs.Standing.{Given}
use Rattle.volume_state.specs.PlanLaws.Planned.{Items, tape_on}
use Rattle.promises.proofs.ReplyLaws.Lists.{in_cases, in_first, in_rest}
use Rattle.volume_state.specs.StateLaws.Tied.{AreReading, IsAsked, IsReading, is_of, was_met}
use Rattle.volume_state.proofs.CallLaws.Splits.{flip}

-- ---- lists

none : {X : Type 0} (P : X → Type 0) → All P []
none P = λ k d less. absurd (omega (arith, less))

all_front : {X : Type 0} (P : X → Type 0) (xs ys : List X) → All P (xs ++ ys) → All P xs
all_front P [] ys all = none P
all_front P (x ∷ xs) ys all = All-cons P x xs (All-head P x (xs ++ ys) all) (all_front P xs ys (All-tail P x (xs ++ ys) all))

all_behind : {X : Type 0} (P : X → Type 0) (xs ys : List X) → All P (xs ++ ys) → All P ys
all_behind P [] ys all = all
all_behind P (x ∷ xs) ys all = all_behind P xs ys (All-tail P x (xs ++ ys) all)

all_join : {X : Type 0} (P : X → Type 0) (xs ys : List X) → All P xs → All P ys → All P (xs ++ ys)
all_join P [] ys all more = more
all_join P (x ∷ xs) ys all more = All-cons P x (xs ++ ys) (All-head P x xs all) (all_join P xs ys (All-tail P x xs all) more)

-- of two things that hold of each another holds of each
all_both : {X : Type 0} (P N Q : X → Type 0) → ((x : X) → P x → N x → Q x) → (xs : List X) → All P xs → All N xs
    → All Q xs
all_both P N Q w [] all nots = none Q
all_both P N Q w (x ∷ xs) all nots =
    All-cons Q x xs (w x (All-head P x xs all) (All-head N x xs nots)) (all_both P N Q w xs (All-tail P x xs all) (All-tail N x xs nots))

some_by : {X : Type 0} (P : X → Type 0) (b : Bool) (x : X) (rest : List X) → P x → All P rest
    → All P (cond b (x ∷ rest) rest)
some_by P true x rest one all = All-cons P x rest one all
some_by P false x rest one all = all

all_some : {X : Type 0} (P : X → Type 0) (p : X → Bool) (xs : List X) → All P xs → All P (filter p xs)
all_some P p [] all = all
all_some P p (x ∷ xs) all = some_by P (p x) x (filter p xs) (All-head P x xs all) (all_some P p xs (All-tail P x xs all))

all_none : {X : Type 0} (p : X → Bool) (xs : List X) → list_any p xs ≡ false → All (λ (x : X). p x ≡ false) xs
all_none {X = X} p [] h = none (λ (x : X). p x ≡ false)
all_none {X = X} p (x ∷ xs) h = let parts = or_parts (p x) (list_any p xs) h in All-cons (λ (x : X). p x ≡ false) x xs parts.0 (all_none p xs parts.1)

-- ---- each once

abbrev Apart : Gathering → Gathering → Type 0
Apart a b = (a.ticket == b.ticket) ≡ false

apart_head : (r : Gathering) (rs : List Gathering) → AllPairs Apart (r ∷ rs) → All (Apart r) rs
apart_head r rs pairs = λ k d less. pairs 0 (suc k) d (omega arith) (omega (arith, less))

apart_tail : (r : Gathering) (rs : List Gathering) → AllPairs Apart (r ∷ rs) → AllPairs Apart rs
apart_tail r rs pairs = λ i j d lt less. pairs (suc i) (suc j) d (omega (arith, lt)) (omega (arith, less))

apart_join : (r : Gathering) (front : List Gathering) (one : Gathering) (behind : List Gathering)
    → All (Apart r) (front ++ one ∷ behind) → All (Apart r) (front ++ behind)
apart_join r front one behind all =
    all_join (Apart r) front behind (all_front (Apart r) front (one ∷ behind) all) (All-tail (Apart r) one behind (all_behind (Apart r) front (one ∷ behind) all))

apart_without : (front : List Gathering) (one : Gathering) (behind : List Gathering)
    → AllPairs Apart (front ++ one ∷ behind) → AllPairs Apart (front ++ behind)
apart_without [] one behind pairs = apart_tail one behind pairs
apart_without (r ∷ front) one behind pairs =
    AllPairs-cons Apart r (front ++ behind) (apart_join r front one behind (apart_head r (front ++ one ∷ behind) pairs))
    (apart_without front one behind (apart_tail r (front ++ one ∷ behind) pairs))

apart_other : (r : Gathering) (front : List Gathering) (one next : Gathering) (behind : List Gathering)
    → next.ticket ≡ one.ticket → All (Apart r) (front ++ one ∷ behind) → All (Apart r) (front ++ next ∷ behind)
apart_other r front one next behind same all =
    let later = all_behind (Apart r) front (one ∷ behind) all in
    all_join (Apart r) front (next ∷ behind) (all_front (Apart r) front (one ∷ behind) all)
    (All-cons (Apart r) next behind (ap (λ t. r.ticket == t) same ∙ All-head (Apart r) one behind later) (All-tail (Apart r) one behind later))

apart_with : (front : List Gathering) (one next : Gathering) (behind : List Gathering) → next.ticket ≡ one.ticket
    → AllPairs Apart (front ++ one ∷ behind) → AllPairs Apart (front ++ next ∷ behind)
apart_with [] one next behind same pairs =
    AllPairs-cons Apart next behind (subst (λ t. All (λ (b : Gathering). (t == b.ticket) ≡ false) behind) (sym same) (apart_head one behind pairs)) (apart_tail one behind pairs)
apart_with (r ∷ front) one next behind same pairs =
    AllPairs-cons Apart r (front ++ next ∷ behind) (apart_other r front one next behind same (apart_head r (front ++ one ∷ behind) pairs))
    (apart_with front one next behind same (apart_tail r (front ++ one ∷ behind) pairs))

-- those behind one have other tickets
others_behind : (front : List Gathering) (one : Gathering) (behind : List Gathering)
    → AllPairs Apart (front ++ one ∷ behind) → All (Apart one) behind
others_behind [] one behind pairs = apart_head one behind pairs
others_behind (r ∷ front) one behind pairs = others_behind front one behind (apart_tail r (front ++ one ∷ behind) pairs)

-- ---- which are there

in_other : {X : Type 0} (front : List X) (one next : X) (behind : List X) (x : X) → Contains (front ++ one ∷ behind) x
    → Contains (front ++ next ∷ behind) x ⊎ (one ≡ x)
in_other [] one next behind x has = ⊎_elim (λ same. inr same) (λ later. inl (in_rest next behind x later)) (in_cases one behind x has)
in_other (y ∷ front) one next behind x has = ⊎_elim
    (λ same. inl (subst (Contains (y ∷ (front ++ next ∷ behind))) same (in_first y (front ++ next ∷ behind))))
    (λ later. ⊎_elim (λ there. inl (in_rest y (front ++ next ∷ behind) x there)) (λ same. inr same) (in_other front one next behind x later))
    (in_cases y (front ++ one ∷ behind) x has)

in_mid : {X : Type 0} (front : List X) (x : X) (behind : List X) → Contains (front ++ x ∷ behind) x
in_mid [] x behind = in_first x behind
in_mid (y ∷ front) x behind = in_rest y (front ++ x ∷ behind) x (in_mid front x behind)

in_left : {X : Type 0} (front : List X) (one : X) (behind : List X) (x : X) → Contains (front ++ one ∷ behind) x
    → Contains (front ++ behind) x ⊎ (one ≡ x)
in_left [] one behind x has = ⊎_elim (λ same. inr same) (λ later. inl later) (in_cases one behind x has)
in_left (y ∷ front) one behind x has = ⊎_elim
    (λ same. inl (subst (Contains (y ∷ (front ++ behind))) same (in_first y (front ++ behind))))
    (λ later. ⊎_elim (λ there. inl (in_rest y (front ++ behind) x there)) (λ same. inr same) (in_left front one behind x later))
    (in_cases y (front ++ one ∷ behind) x has)

-- ---- reads

-- requests of one read are gone, and those of no other
module _ (g : Given) (on : Option ℕ) (history : List Placed) (planned : Items) (told : Option Cartridge) (ops : List Op) (old new : State)
    (ticket : ℕ) (p : Request → Bool) (passes : (r : Request) → (r.ticket == ticket) ≡ false → p r ≡ true) (asked : new.requests ≡ filter p old.requests) where
  others_pass : (t : ℕ) → (t == ticket) ≡ false → (test : Request → Bool)
      → ((r : Request) → test r ≡ true → (r.ticket == t) ≡ true)
      → list_any test new.requests ≡ list_any test old.requests
  others_pass t other test is_its =
      ap (list_any test) asked
      ∙ any_filter_same test p old.requests (λ r h. passes r (subst (λ n. (n == ticket) ≡ false) (sym (eqb-true r.ticket t (is_its r h))) other))

  pub same_met : (t : ℕ) → (t == ticket) ≡ false → was_met old t ≡ was_met new t
  same_met t other = λ i place. (ap not (sym (others_pass t other (asks t place) (λ r h. (and_parts (r.ticket == t) (same_place r.place place) h).0)))) i

  other_reads : (r : Gathering) → IsReading g on history planned told old r → (r.ticket == ticket) ≡ false
      → IsReading g on history planned told new r
  other_reads r is other = record {
    placed = is.placed;
    placed_is = is.placed_is;
    call = is.call;
    call_is = is.call_is;
    answers = is.answers;
    below = is.below;
    gathering = subst (λ (met : Places). IfSome told (λ c. IsGathering (tape_on planned) met r)) (same_met r.ticket other) is.gathering;
    asked = others_pass r.ticket other (is_of r.ticket) (λ r h. h) ∙ is.asked;
  }

  module _ (front : List Gathering) (one : Gathering) (behind : List Gathering) (its : one.ticket ≡ ticket) (others : has_ticket ticket front ≡ false)
      (are : AreReading g on history planned told ops old (front ++ one ∷ behind)) where
    abbrev Old : Gathering → Type 0
    Old = IsReading g on history planned told old

    abbrev New : Gathering → Type 0
    New = IsReading g on history planned told new

    front_reads : All New front
    front_reads = all_both Old (λ (r : Gathering). (r.ticket == ticket) ≡ false) New other_reads front
        (all_front Old front (one ∷ behind) are.each) (all_none (λ (r : Gathering). r.ticket == ticket) front others)

    behind_reads : All New behind
    behind_reads = all_both Old (Apart one) New (λ r is apart. other_reads r is (subst (λ t. (r.ticket == t) ≡ false) its (flip one.ticket r.ticket apart))) behind
        (All-tail Old one behind (all_behind Old front (one ∷ behind) are.each)) (others_behind front one behind are.apart)

    -- the read waits no more, as nothing is asked for it any more
    pub reads_without : list_any (is_of ticket) new.requests ≡ false
        → AreReading g on history planned told ops new (front ++ behind)
    reads_without gone = record {
      each = all_join New front behind front_reads behind_reads;
      apart = apart_without front one behind are.apart;
      asked = all_both (IsAsked planned ops (front ++ one ∷ behind)) (λ (r : Request). is_of ticket r ≡ false) (IsAsked planned ops (front ++ behind)) left new.requests
          (subst (All (IsAsked planned ops (front ++ one ∷ behind))) (sym asked) (all_some (IsAsked planned ops (front ++ one ∷ behind)) p old.requests are.asked))
          (all_none (is_of ticket) new.requests gone);
    }
      where
        left : (r : Request) → IsAsked planned ops (front ++ one ∷ behind) r → is_of ticket r ≡ false
            → IsAsked planned ops (front ++ behind) r
        left r a other = record {
          stands = a.stands;
          reading = a.reading;
          waits = ⊎_elim (λ there. there)
              (λ same. absurd (both_ways (r.ticket == ticket) other (eq-eqb r.ticket ticket (sym a.ticket ∙ ap (λ (x : Gathering). x.ticket) (sym same) ∙ its))))
              (in_left front one behind a.reading a.waits);
          ticket = a.ticket;
        }

    -- it waits on, with what it has now
    pub reads_with : (next : Gathering) → next.ticket ≡ one.ticket → New next
        → AreReading g on history planned told ops new (front ++ next ∷ behind)
    reads_with next same is = record {
      each = all_join New front (next ∷ behind) front_reads (All-cons New next behind is behind_reads);
      apart = apart_with front one next behind same are.apart;
      asked = subst (All (IsAsked planned ops (front ++ next ∷ behind))) (sym asked)
          (all_some (IsAsked planned ops (front ++ next ∷ behind)) p old.requests
          (All-weaker (IsAsked planned ops (front ++ one ∷ behind)) (IsAsked planned ops (front ++ next ∷ behind)) stays old.requests are.asked));
    }
      where
        stays : (r : Request) → IsAsked planned ops (front ++ one ∷ behind) r
            → IsAsked planned ops (front ++ next ∷ behind) r
        stays r a = by (in_other front one next behind a.reading a.waits)
          where
            by : Contains (front ++ next ∷ behind) a.reading ⊎ (one ≡ a.reading)
                → IsAsked planned ops (front ++ next ∷ behind) r
            by (inl there) = record { stands = a.stands; reading = a.reading; waits = there; ticket = a.ticket }
            by (inr its) = record { stands = a.stands; reading = next; waits = in_mid front next behind; ticket = same ∙ ap (λ (x : Gathering). x.ticket) its ∙ a.ticket }
