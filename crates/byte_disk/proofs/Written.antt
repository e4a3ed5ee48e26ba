-- What `written` makes of a list, place by place.
use Rattle.std.proofs.Common.{ℕ, ◌+◌, ◌-◌, ◌^◌, ◌≤◌, ◌<◌, ◌≡◌, ⊎_elim, inl, inr, max, min, List, ◌++◌, take, drop, length, get_or, sym, ◌∙◌, ap, subst, arith}
use Rattle.std.proofs.lemmas.Bool.{cases_lt}
use Rattle.std.proofs.lemmas.List.{length-append, length-take, length-drop, length-take-le, get_or-append_right, get_or_append_left, get_or-take, get_or-drop, same_lists}
use Rattle.std.proofs.lemmas.List.Elements.{All-append, All-get_or, All-take, All-drop}
use Rattle.byte_disk.specs.Files.{AreBytes, IsAnyIn, bytes_at, written}
use Rattle.byte_disk.specs.Record.{change_of, unwritten, IsKept}

module _ (at : ℕ) (bytes old : List ℕ) (within : at ≤ length old) where
  abbrev end : ℕ
  end = at + length bytes

  front : length (take at old) ≡ at
  front = length-take-le at old within

  put : length (take at old ++ bytes) ≡ at + length bytes
  put = omega (arith, length-append (take at old) bytes, front)

  -- how long a file is once bytes were put into it
  pub length_written : length (written at bytes old) ≡ max (length old) (at + length bytes)
  length_written = omega (arith, length-append (take at old ++ bytes) (drop end old), put, length-drop end old)

  -- below its range a write leaves the bytes
  pub written_below : (i d : ℕ) → i < at → get_or (written at bytes old) i d ≡ get_or old i d
  written_below i d lt =
      get_or_append_left (take at old ++ bytes) (drop end old) d i (omega (arith, put))
      ∙ get_or_append_left (take at old) bytes d i (omega (arith, front))
      ∙ get_or-take at old i d lt

  -- in its range a write leaves its own bytes
  pub written_inside : (i d : ℕ) → at ≤ i → i < at + length bytes → get_or (written at bytes old) i d ≡ get_or bytes (i - at) d
  written_inside i d le lt =
      get_or_append_left (take at old ++ bytes) (drop end old) d i (omega (arith, put))
      ∙ get_or-append_right (take at old) bytes at i d front le

  -- above its range a write leaves the bytes
  pub written_above : (i d : ℕ) → at + length bytes ≤ i → get_or (written at bytes old) i d ≡ get_or old i d
  written_above i d le =
      let place : end + (i - end) ≡ i = omega (arith, le) in
      get_or-append_right (take at old ++ bytes) (drop end old) end i d put le
      ∙ get_or-drop end old (i - end) d
      ∙ ap (λ (n : ℕ). get_or old n d) place

-- bytes written over bytes leave bytes
pub written_bytes : (at : ℕ) (bytes old : List ℕ) → AreBytes bytes → AreBytes old → AreBytes (written at bytes old)
written_bytes at bytes old are_new are_old =
    All-append (λ (b : ℕ). b < 2 ^ 8) (take at old ++ bytes) (drop (at + length bytes) old)
    (All-append (λ (b : ℕ). b < 2 ^ 8) (take at old) bytes (All-take (λ (b : ℕ). b < 2 ^ 8) at old are_old) are_new)
    (All-drop (λ (b : ℕ). b < 2 ^ 8) (at + length bytes) old are_old)

module _ (at : ℕ) (bytes old : List ℕ) (within : at ≤ length old) where
  abbrev gone : List ℕ
  gone = bytes_at at (length bytes) old

  abbrev new : List ℕ
  new = written at bytes old

  gone_length : length gone ≡ min (length bytes) (length old - at)
  gone_length = omega (arith, length-take (length bytes) (drop at old), length-drop at old)

  new_length : length new ≡ max (length old) (at + length bytes)
  new_length = length_written at bytes old within

  back_length : length (written at gone new) ≡ max (length new) (at + length gone)
  back_length = length_written at gone new (omega (arith, within, new_length))

  -- what was overwritten, put back and cut to the length from before, gives what stood before
  pub put_back : (count : ℕ) → unwritten (change_of at count bytes old) new ≡ old
  put_back count = same_lists (take (length old) (written at gone new)) old
      (omega (arith, length-take (length old) (written at gone new), back_length, new_length))
      (λ i d lt. get_or-take (length old) (written at gone new) i d (omega (arith, lt, length-take (length old) (written at gone new))) ∙ place i d (omega (arith, lt, length-take (length old) (written at gone new))))
    where
      place : (i d : ℕ) → i < length old → get_or (written at gone new) i d ≡ get_or old i d
      place i d lt = ⊎_elim
          (λ (less : i < at). written_below at gone new (omega (arith, within, new_length)) i d less ∙ written_below at bytes old within i d less)
          (λ (more : at ≤ i). ⊎_elim
          (λ (inside : i < at + length gone).
          let here : at + (i - at) ≡ i = omega (arith, more) in
          written_inside at gone new (omega (arith, within, new_length)) i d more inside
          ∙ get_or-take (length bytes) (drop at old) (i - at) d (omega (arith, inside, gone_length))
          ∙ get_or-drop at old (i - at) d
          ∙ ap (λ (n : ℕ). get_or old n d) here)
          (λ (behind : at + length gone ≤ i).
          written_above at gone new (omega (arith, within, new_length)) i d behind
          ∙ written_above at bytes old within i d (omega (arith, behind, gone_length, lt)))
          (cases_lt i (at + length gone)))
          (cases_lt i at)

  -- it is one of what a write over a range of at least as many bytes may leave
  pub put_any : (count : ℕ) → length bytes ≤ count → AreBytes bytes → IsAnyIn at count old new
  put_any count few are = record {
    outside = λ i lt out. ⊎_elim
        (λ (less : i < at). written_below at bytes old within i 0 less)
        (λ (more : at + count ≤ i). written_above at bytes old within i 0 (omega (arith, more, few)))
        out;
    no_shorter = omega (arith, new_length);
    no_longer = omega (arith, new_length, few);
    each = λ i lt. ⊎_elim
        (λ (less : i < at). inr (omega (arith, less, within), written_below at bytes old within i 0 less))
        (λ (more : at ≤ i). ⊎_elim
        (λ (inside : i < at + length bytes). inl (subst (λ (x : ℕ). x < 2 ^ 8) (sym (written_inside at bytes old within i 0 more inside))
        (All-get_or (λ (b : ℕ). b < 2 ^ 8) bytes (i - at) 0 (omega (arith, more, inside)) are)))
        (λ (behind : at + length bytes ≤ i). inr (omega (arith, lt, new_length, behind), written_above at bytes old within i 0 behind))
        (cases_lt i (at + length bytes)))
        (cases_lt i at);
  }

  -- what is kept of a write says what it may leave
  pub put_kept : (count : ℕ) → length bytes ≤ count → AreBytes bytes → at + count < 2 ^ 62 → IsKept (change_of at count bytes old) new
  put_kept count few are end = record {
    within = subst (λ (l : List ℕ). at ≤ length l) (sym (put_back count)) within;
    any = subst (λ (l : List ℕ). IsAnyIn at count l new) (sym (put_back count)) (put_any count few are);
    gone = omega (arith, within, gone_length, new_length);
    end = end;
  }
