-- Lines that were printed stay those of the first placements, and each further line is that of the next one.
use Rattle.std.specs.Prelude.{◌≡◌, ◌≤◌, ◌<◌, ◌+◌, ◌-◌, ◌^◌, ℕ, zero, suc, List, [], ◌∷◌, ◌++◌, length, map, take, drop, Option, Some, None, slice_get}
use Rattle.std.specs.List.{flat_map, enumerate_from, zip}
use Rattle.std.proofs.Common.{refl, sym, ap, subst, ◌∙◌, append_assoc, append-nil, arith, true≢false}
use Rattle.std.proofs.KnownBytes.{Appends-nil}
use Rattle.std.proofs.lemmas.List.{length-map, length-take, length_push, map-append, take_more}
use Rattle.std.proofs.lemmas.Option.{get_or_from_slice_get, none-some, same_Some, slice_get_within}
use Rattle.tape_edge.specs.declared.traits.Sink.{Ghosts}
use Rattle.plain_tree.specs.declared.calls.Placed.{Placed}
use Rattle.session_script.specs.LogText.{line_text}
use Rattle.session_script.specs.declared.logs.Reply.{Reply}
use Rattle.line_printer.specs.Printing.{HasTaken, IsOver, PrinterView, blank}
use Rattle.event_journal.specs.Placements.{there}
use Rattle.promises.specs.ServingPromise.Ends.{begun}
use Rattle.promises.specs.ServingPromise.Served.{View}
use Rattle.tape_desk.specs.Printed.{IsPrinted, IsTakenTo, lines_of}

-- ---- lines

-- the lines of these placements and replies, where the first has this place
abbrev lines_from : ℕ → List Placed → List Reply → List ℕ
lines_from n history told = flat_map (λ e. line_text e.0 e.1.0 e.1.1) (enumerate_from n (zip history told))

lines_front : (n : ℕ) (history more : List Placed) (told : List Reply) → length told ≤ length history
    → lines_from n (history ++ more) told ≡ lines_from n history told
lines_front n [] [] [] within = refl
lines_front n [] (p ∷ more) [] within = refl
lines_front n [] more (t ∷ told) within = absurd (omega (arith, within))
lines_front n (p ∷ history) more [] within = refl
lines_front n (p ∷ history) more (t ∷ told) within =
    ap (λ (l : List ℕ). line_text n p t ++ l) (lines_front (n + 1) history more told (omega (arith, within)))

lines_none : (n : ℕ) (history : List Placed) → lines_from n history [] ≡ []
lines_none n [] = refl
lines_none n (p ∷ history) = refl

lines_next : (n : ℕ) (history : List Placed) (told : List Reply) (p : Placed) (t : Reply)
    → slice_get history (length told) ≡ Some p
    → lines_from n history (told ++ t ∷ []) ≡ lines_from n history told ++ line_text (n + length told) p t
lines_next n [] told p t at = absurd (none-some p at)
lines_next n (q ∷ history) [] p t at =
    ap (λ (l : List ℕ). line_text n q t ++ l) (lines_none (n + 1) history)
    ∙ append-nil (line_text n q t)
    ∙ ap (λ (r : Placed). line_text n r t) (same_Some q p at)
    ∙ ap (λ (k : ℕ). line_text k p t) (let h : n ≡ n + length {A = Reply} [] = omega arith in h)
lines_next n (q ∷ history) (u ∷ told) p t at =
    ap (λ (l : List ℕ). line_text n q u ++ l) (lines_next (n + 1) history told p t at)
    ∙ sym (append_assoc (line_text n q u) (lines_from (n + 1) history told) (line_text (n + 1 + length told) p t))
    ∙ ap (λ (k : ℕ). (line_text n q u ++ lines_from (n + 1) history told) ++ line_text k p t)
    (let h : n + 1 + length told ≡ n + length (u ∷ told) = omega arith in h)

-- ---- replies

-- the replies that stood first stand there where each that was there stays
front_stays : (told : List Reply) (old new : List (Option Reply)) → map Some told ≡ take (length told) old
    → ((k : ℕ) (t : Reply) → slice_get old k ≡ Some (Some t) → slice_get new k ≡ Some (Some t))
    → map Some told ≡ take (length told) new
front_stays [] old new is each = refl
front_stays (t ∷ told) [] new is each = absurd (let h : suc (length (map Some told)) ≡ 0 = ap length is in omega (arith, h))
front_stays (t ∷ told) (o ∷ old) [] is each =
    absurd (none-some (Some t) (each 0 t (sym (ap (λ (l : List (Option Reply)). slice_get l 0) is))))
front_stays (t ∷ told) (o ∷ old) (n ∷ new) is each =
    let head : Some t ≡ n =
    sym (same_Some n (Some t) (each 0 t (sym (ap (λ (l : List (Option Reply)). slice_get l 0) is)))) in
    let tail : map Some told ≡ take (length told) new =
    front_stays told old new (ap (drop 1) is) (λ k u at. each (suc k) u at) in
    λ i. head i ∷ tail i

-- what stands at a place stands there with more behind all
pub stands_in_front : {X : Type 0} (xs more : List X) (k : ℕ) (x : X) → slice_get xs k ≡ Some x
    → slice_get (xs ++ more) k ≡ Some x
stands_in_front [] more k x at = absurd (none-some x at)
stands_in_front (y ∷ xs) more zero x at = at
stands_in_front (y ∷ xs) more (suc k) x at = stands_in_front xs more k x at

front_length : (told : List Reply) (n : ℕ) (replies : List (Option Reply)) → map Some told ≡ take n replies
    → length told ≤ length replies
front_length told n replies is =
    let same : length (map Some told) ≡ length (take n replies) = ap length is in
    let long : length (map Some told) ≡ length told = length-map told (λ (t : Reply). Some t) in
    omega (arith, same, long, length-take n replies)

-- one reply more
front_more : (told : List Reply) (n : ℕ) (replies : List (Option Reply)) (t : Reply) → map Some told ≡ take n replies
    → slice_get replies n ≡ Some (Some t) → map Some (told ++ t ∷ []) ≡ take (n + 1) replies
front_more told n replies t is at =
    map-append (λ (u : Reply). Some u) told (t ∷ [])
    ∙ ap (λ (l : List (Option Reply)). l ++ Some t ∷ []) is
    ∙ ap (λ (o : Option Reply). take n replies ++ o ∷ []) (sym (get_or_from_slice_get replies n (Some t) (Some t) at))
    ∙ sym (take_more replies n (Some t) (slice_get_within replies n (Some t) at))

-- a reply that was found is there
pub reply_there : (replies : List (Option Reply)) (n k : ℕ) (t : Reply) → k ≡ n → Some t ≡ there (slice_get replies k)
    → slice_get replies n ≡ Some (Some t)
reply_there replies n k t same found =
    subst (λ (j : ℕ). slice_get replies j ≡ Some (Some t)) same (here (slice_get replies k) found)
  where
    here : (o : Option (Option Reply)) → Some t ≡ there o → o ≡ Some (Some t)
    here None is = absurd (none-some t (sym is))
    here (Some None) is = absurd (none-some t (sym is))
    here (Some (Some u)) is = ap (λ (q : Option Reply). Some q) (sym is)

-- a place that has a reply is one of the history
pub placed_there : (history : List Placed) (replies : List (Option Reply)) (k : ℕ) (t : Reply)
    → length replies ≡ length history → Some t ≡ there (slice_get replies k) → k < length history
placed_there history replies k t count found =
    let within : k < length replies = slice_get_within replies k (Some t) (reply_there replies k k t refl found) in
    omega (arith, count, within)

-- where the places are counted in 64 bits, a place that has a reply isn't the last number
pub few_before : (history : List Placed) (replies : List (Option Reply)) (n many : ℕ) (t : Reply)
    → length replies ≡ length history → many ≡ length history → many < 2 ^ 64 → slice_get replies n ≡ Some (Some t)
    → n < 2 ^ 64 - 1
few_before history replies n many t count is less at =
    let within : n < length replies = slice_get_within replies n (Some t) at in omega (arith, count, is, less, within)

-- ---- what was taken

pub over_then : {K : Type 0} (a b c : PrinterView K) → IsOver a b → IsOver b c → IsOver a c
over_then a b c first later = record { first = later.first ∙ first.first; quiet = later.quiet ∙ first.quiet }

module _ {K : Type 0} (sink : Ghosts K) where
  -- lines that were taken stay taken where placements come behind the others, and the replies that are there stay
  pub taken_stays : (p : PrinterView K) (old new more : List Placed) (replies later : List (Option Reply))
      → length replies ≡ length old → new ≡ old ++ more
      → ((k : ℕ) (t : Reply) → slice_get replies k ≡ Some (Some t) → slice_get later k ≡ Some (Some t))
      → IsTakenTo sink old replies p → IsTakenTo sink new later p
  taken_stays p old new more replies later count grown each taken = record {
    told = taken.told;
    many = taken.many;
    first = subst (λ (n : ℕ). map Some taken.told ≡ take n later) taken.many
        (front_stays taken.told replies later
        (subst (λ (n : ℕ). map Some taken.told ≡ take n replies) (sym taken.many) taken.first) each);
    text = subst (λ (l : List ℕ). HasTaken sink p l)
        (sym (ap (λ (hs : List Placed). lines_from 0 hs taken.told) grown ∙ lines_front 0 old more taken.told within))
        taken.text;
  } where
    within : length taken.told ≤ length old
    within = omega (arith, count, front_length taken.told p.lines replies taken.first)

  -- the line of the next placement is taken
  pub taken_next : (old new : PrinterView K) (history : List Placed) (replies : List (Option Reply)) (p : Placed) (t : Reply)
      → slice_get history old.lines ≡ Some p → slice_get replies old.lines ≡ Some (Some t)
      → new.lines ≡ old.lines + 1
      → ((text : List ℕ) → HasTaken sink old text → HasTaken sink new (text ++ line_text old.lines p t))
      → IsTakenTo sink history replies old → IsTakenTo sink history replies new
  taken_next old new history replies p t placed replied lines puts taken = record {
    told = taken.told ++ t ∷ [];
    many = let many = taken.many in omega (arith, many, lines, length_push taken.told t);
    first = subst (λ (n : ℕ). map Some (taken.told ++ t ∷ []) ≡ take n replies) (sym lines)
        (front_more taken.told old.lines replies t taken.first replied);
    text = subst (λ (l : List ℕ). HasTaken sink new l) (sym next) (puts (lines_of history taken.told) taken.text);
  } where
    next : lines_of history (taken.told ++ t ∷ []) ≡ lines_of history taken.told ++ line_text old.lines p t
    next = lines_next 0 history taken.told p t
        (subst (λ (n : ℕ). slice_get history n ≡ Some p) (sym taken.many) placed)
        ∙ ap (λ (n : ℕ). lines_of history taken.told ++ line_text n p t)
        (let many = taken.many in let h : 0 + length taken.told ≡ old.lines = omega (arith, many) in h)

  -- the line of a place is taken, where that is the next one
  pub taken_at : (old new : PrinterView K) (history : List Placed) (replies : List (Option Reply)) (p : Placed) (t : Reply)
      (k : ℕ) → k ≡ old.lines → slice_get history k ≡ Some p → Some t ≡ there (slice_get replies k)
      → new.lines ≡ old.lines + 1
      → ((text : List ℕ) → HasTaken sink old text → HasTaken sink new (text ++ line_text old.lines p t))
      → IsTakenTo sink history replies old → IsTakenTo sink history replies new
  taken_at old new history replies p t k same placed found lines puts taken =
      taken_next old new history replies p t (subst (λ (n : ℕ). slice_get history n ≡ Some p) same placed)
      (reply_there replies old.lines k t same found) lines puts taken

  -- of a volume of which nothing was asked nothing was printed
  pub begun_printed : {D : Type 0} (v : View D) (p : PrinterView K) → v ≡ begun v.fixed v.next
      → p ≡ blank p.first p.quiet → IsPrinted sink v p
  begun_printed {D} v p fresh none =
      subst (λ (w : View D). IsPrinted sink w p) (sym fresh)
      (subst (λ (q : PrinterView K). IsPrinted sink (begun v.fixed v.next) q) (sym none) record {
        taken = record {
          told = [];
          many = refl;
          first = refl;
          text = record {
            whole = λ loud sound. record { done = []; all = refl; written = Appends-nil (sink.written p.first); faults = omega arith };
            cut = λ loud broken. absurd (true≢false (sym broken));
            alone = λ quiet. refl;
          };
        };
        none = refl;
        out = λ loud sound. refl;
      })
