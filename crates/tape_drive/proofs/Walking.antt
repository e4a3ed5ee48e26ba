-- A walk back over a record goes by the definitions of what stood and what was written next.
use Rattle.std.proofs.Common.{ℕ, ◌+◌, ◌-◌, ◌≤◌, ◌<◌, ◌≡◌, inl, inr, Bool, true, false, List, [], ◌∷◌, take, length, get_or, Option, Some, None, refl, sym, ◌∙◌, ap, arith}
use Rattle.std.specs.Prelude.{nat_lt, if◌then◌else◌, reverse}
use Rattle.std.proofs.lemmas.Bool.{lt-ltb, le-ltb}
use Rattle.std.proofs.lemmas.List.{reverse-append, take_more}
use Rattle.tape_types.specs.declared.cartridges.Part.{Part}
use Rattle.tape_types.specs.declared.cartridges.Item.{Item}
use Rattle.tape_drive.specs.declared.record.Act.{Act}
use Rattle.tape_drive.specs.declared.record.Act.TheVariants.{Put, Flushed, Noted, Settled}
use Rattle.tape_drive.specs.declared.record.DoneCommand.{DoneCommand}
use Rattle.tape_drive.specs.declared.crash.Walk.{Walk}
use Rattle.tape_drive.specs.Images.{is_same, moments, moments_after, undone, stood_by, stood, earlier_or, next_by, next_put}
use Rattle.tape_drive.specs.Walks.{PutSteps, Steps}
use Rattle.tape_drive.proofs.Stood.{none_after}

-- the newest entry of the record's front
pub last_entry : (acts : List DoneCommand) (i : ℕ) (d : DoneCommand) → i < length acts → reverse (take (i + 1) acts) ≡ get_or acts i d ∷ reverse (take i acts)
last_entry acts i d lt = ap reverse (take_more acts i d lt) ∙ reverse-append (take i acts) (get_or acts i d ∷ [])

-- what is reached
pub record Reaches (part : Part) (m : ℕ) (e : DoneCommand) (es : List DoneCommand) (old new : Walk) : Type 0 where
  pub items : stood part old.items.items (e ∷ es) m ≡ new.items.items
  pub next : earlier_or (next_put part old.items.items (e ∷ es) m) old.next ≡ new.next

-- what is left to go back over
pub record GoesOn (part : Part) (m : ℕ) (e : DoneCommand) (es : List DoneCommand) (old new : Walk) : Type 0 where
  pub count : new.count ≡ moments es
  pub moment : m < new.count
  pub items : stood part old.items.items (e ∷ es) m ≡ stood part new.items.items es m
  pub next : earlier_or (next_put part old.items.items (e ∷ es) m) old.next ≡ earlier_or (next_put part new.items.items es m) new.next

later_own : (own : Bool) (k : ℕ) (earlier later : Option ℕ) → earlier_or (earlier_or earlier (if own then Some k else None)) later ≡ earlier_or earlier (if own then Some k else later)
later_own true k (Some pos) later = refl
later_own true k None later = refl
later_own false k (Some pos) later = refl
later_own false k None later = refl

module _ (part : Part) (m n : ℕ) (p : Part) (gone : List Item) (failed : Bool) (old new : Walk) (counted : old.count ≡ n + 2) where
  abbrev items : List Item
  items = old.items.items

  put_reached : (s : List Item) (earlier : Option ℕ) → (n ≤ m → earlier ≡ None) → PutSteps true (is_same part p) m gone old new
      → (stood_by part (Put p gone failed) n m items s ≡ new.items.items) × (earlier_or (next_by part (Put p gone failed) n m items earlier) old.next ≡ new.next)
  put_reached s earlier none (inl after) =
      let t : nat_lt n m ≡ true = lt-ltb n m (omega (arith, counted, after.0)) in
      let e : earlier ≡ None = none (omega (arith, counted, after.0)) in
      (rw t (sym after.1), rw (e, t) (sym after.2))
  put_reached s earlier none (inr cut) =
      let same : n ≡ m = omega (arith, counted, cut.0) in
      let t : nat_lt n m ≡ false = le-ltb n m (omega arith) in
      let u : nat_lt m n ≡ false = le-ltb m n (omega arith) in
      let e : earlier ≡ None = none (omega arith) in (
        rw (t, u) (sym cut.1),
        rw (e, t) (later_own (is_same part p) (length items - 1) None old.next ∙ sym cut.2),
      )

  put_goes_on : (f : List Item → List Item) (g : List Item → Option ℕ) → PutSteps false (is_same part p) m gone old new
      → (stood_by part (Put p gone failed) n m items (f (undone part (Put p gone failed) items)) ≡ f new.items.items)
      × (earlier_or (next_by part (Put p gone failed) n m items (g (undone part (Put p gone failed) items))) old.next ≡ earlier_or (g new.items.items) new.next)
  put_goes_on f g steps =
      let t : nat_lt n m ≡ false = le-ltb n m (omega (arith, counted, steps.0)) in
      let u : nat_lt m n ≡ true = lt-ltb m n (omega (arith, counted, steps.0)) in (
        rw (t, u) (ap f (sym steps.2)),
        rw t (later_own (is_same part p) (length items - 1) (g (undone part (Put p gone failed) items)) old.next
            ∙ ap (λ (o : Option ℕ). earlier_or (g (undone part (Put p gone failed) items)) o) (sym steps.3)
            ∙ ap (λ (l : List Item). earlier_or (g l) new.next) (sym steps.2)),
      )

reaches_by : (part : Part) (m n : ℕ) (act : Act) (old new : Walk) (s : List Item) (earlier : Option ℕ) → old.count ≡ moments_after act n → (n ≤ m → earlier ≡ None) → m < old.count
    → Steps true part m act old new → (stood_by part act n m old.items.items s ≡ new.items.items) × (earlier_or (next_by part act n m old.items.items earlier) old.next ≡ new.next)
reaches_by part m n (Put p gone failed) old new s earlier counted none lt steps = put_reached part m n p gone failed old new counted s earlier none steps
reaches_by part m n Flushed old new s earlier counted none lt steps = (sym steps.items, sym steps.next)
reaches_by part m n (Noted p before) old new s earlier counted none lt steps = absurd steps
reaches_by part m n Settled old new s earlier counted none lt steps = absurd steps

-- a step back that reaches the moment finds what stood then
pub reaches : (part : Part) (m : ℕ) (e : DoneCommand) (es : List DoneCommand) (old new : Walk) → old.count ≡ moments (e ∷ es) → m < old.count → Steps true part m e.act old new → Reaches part m e es old new
reaches part m e es old new counted lt steps =
    let l = undone part e.act old.items.items in
    let is = reaches_by part m (moments es) e.act old new (stood part l es m) (next_put part l es m) counted (λ (h : moments es ≤ m). none_after part l es m h) lt steps in
    record { items = is.0; next = is.1 }

goes_by : (part : Part) (m n : ℕ) (act : Act) (old new : Walk) (f : List Item → List Item) (g : List Item → Option ℕ) → old.count ≡ moments_after act n → m < old.count → Steps false part m act old new
    → (new.count ≡ n) × (m < new.count) × (stood_by part act n m old.items.items (f (undone part act old.items.items)) ≡ f new.items.items)
    × (earlier_or (next_by part act n m old.items.items (g (undone part act old.items.items))) old.next ≡ earlier_or (g new.items.items) new.next)
goes_by part m n (Put p gone failed) old new f g counted lt steps =
    let is = put_goes_on part m n p gone failed old new counted f g steps in
    (omega (arith, counted, steps.1), omega (arith, steps.0, steps.1), is.0, is.1)
goes_by part m n Flushed old new f g counted lt steps = absurd steps
goes_by part m n (Noted p before) old new f g counted lt steps = (
  steps.count ∙ counted,
  omega (arith, steps.count, lt),
  ap f (sym steps.items),
  ap (λ (o : Option ℕ). earlier_or (g old.items.items) o) (sym steps.next) ∙ ap (λ (l : List Item). earlier_or (g l) new.next) (sym steps.items),
)
goes_by part m n Settled old new f g counted lt steps = (
  steps.count ∙ counted,
  omega (arith, steps.count, lt),
  ap f (sym steps.items),
  ap (λ (o : Option ℕ). earlier_or (g old.items.items) o) (sym steps.next) ∙ ap (λ (l : List Item). earlier_or (g l) new.next) (sym steps.items),
)

-- a step back that does not reach the moment goes on to older acts
pub goes_on : (part : Part) (m : ℕ) (e : DoneCommand) (es : List DoneCommand) (old new : Walk) → old.count ≡ moments (e ∷ es) → m < old.count → Steps false part m e.act old new → GoesOn part m e es old new
goes_on part m e es old new counted lt steps =
    let is = goes_by part m (moments es) e.act old new (λ (l : List Item). stood part l es m) (λ (l : List Item). next_put part l es m) counted lt steps in
    record { count = is.0; moment = is.1; items = is.2; next = is.3 }
