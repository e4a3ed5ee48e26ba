-- What calls make of the blocks of a file.
use Rattle.std.proofs.Common.{◌≡◌, ◌⊎◌, ℕ, ◌+◌, ◌-◌, ◌/◌, ◌%◌, ◌<◌, ◌≤◌, Bool, true, false, cond, eqb, List, [], ◌∷◌, ◌++◌, map, ap, ◌∙◌, refl, arith, ⊎_elim, inl, inr}
use Rattle.std.specs.List.{range_with_len}
use Rattle.std.proofs.lemmas.Bool.Decides.{nat_tests}
use Rattle.tape_types.specs.declared.cartridges.Extent.{Extent}
use Rattle.tape_types.specs.declared.cartridges.Part.{Part}
use Rattle.plain_tree.specs.Cells.{Cell}
use Rattle.extent_map.specs.Laid.{unless_empty, front_of, rest_of, before, past, cut, left_from}
use Rattle.extent_map.specs.Cells.{Tape, cell_of, covers, cell_at}
use Rattle.extent_map.specs.Blocks.{StandsIn, SomeStandsIn, AreAlikeIn, BlocksMakeTheFile, NoOtherBlocks}
use Rattle.extent_map.proofs.CellLemmas.{div_on}

module _ (size : ℕ) (part : Part) (pos : ℕ) where
  abbrev Some_in : List Extent → Type 0
  Some_in es = SomeStandsIn size es part pos

  -- of two lists, one has it
  pub in_joined : (xs ys : List Extent) → Some_in (xs ++ ys) → Some_in xs ⊎ Some_in ys
  in_joined [] ys h = inr h
  in_joined (e ∷ xs) ys (inl here) = inl (inl here)
  in_joined (e ∷ xs) ys (inr more) = ⊎_elim (λ a. inl (inr a)) (λ b. inr b) (in_joined xs ys more)

  of_some : (e : Extent) → Some_in (unless_empty e) → StandsIn size e part pos
  of_some e h = by (eqb e.count 0) h
    where
      by : (b : Bool) → Some_in (cond b [] (e ∷ [])) → StandsIn size e part pos
      by true h = absurd h
      by false (inl here) = here
      by false (inr none) = absurd none

  pub in_front : (n : ℕ) (e : Extent) → StandsIn size (front_of n e) part pos → StandsIn size e part pos
  in_front n e h = record { byte = h.byte; within = omega (arith, h.within); on = h.on; here = h.here }

  in_rest : (n : ℕ) (e : Extent) → 1 ≤ size → StandsIn size (rest_of size n e) part pos → StandsIn size e part pos
  in_rest n e some h =
      let sum : e.byte + n + h.byte ≡ e.byte + (n + h.byte) = omega arith in
      let place : (e.byte + n) / size + ((e.byte + n) % size + h.byte) / size ≡ (e.byte + (n + h.byte)) / size = div_on (e.byte + n) h.byte size some ∙ ap (λ x. x / size) sum in
      record { byte = n + h.byte; within = omega (arith, h.within); on = h.on; here = omega (arith, place, h.here) }

  -- a block with a byte of a cut extent has one of the whole extent
  pub in_cut : (at : ℕ) (es : List Extent) → Some_in (cut at es) → Some_in es
  in_cut at [] h = h
  in_cut at (e ∷ es) h = ⊎_elim (λ a. inl (in_front (at - e.offset) e (of_some (front_of (at - e.offset) e) a))) (λ b. inr (in_cut at es b)) (in_joined (before at e) (cut at es) h)

  in_left : (at : ℕ) (es : List Extent) → 1 ≤ size → Some_in (left_from size at es) → Some_in es
  in_left at [] some h = h
  in_left at (e ∷ es) some h =
      ⊎_elim (λ a. inl (in_rest (at - e.offset) e some (of_some (rest_of size (at - e.offset) e) a))) (λ b. inr (in_left at es some b)) (in_joined (past size at e) (left_from size at es) h)

-- overlays add only the new extent's blocks, and new lengths add none
pub no_other_blocks : NoOtherBlocks
no_other_blocks = record {
  overlays = λ f new part pos laid h.
      let end : ℕ = new.offset + new.count in
      ⊎_elim (λ a. inl (in_cut f.block_size part pos new.offset f.extents a))
      (λ b. ⊎_elim (λ this. inr this) (λ c. inl (in_left f.block_size part pos end f.extents laid.some_block c)) b)
      (in_joined f.block_size part pos (cut new.offset f.extents) (new ∷ left_from f.block_size end f.extents) h);
  lengths = λ f length part pos h. in_cut f.block_size part pos length f.extents h;
}

-- ---- the same blocks make the same file

module _ (one other : Tape) (size : ℕ) where
  same_cell : (e : Extent) (i : ℕ) → i < e.count → ((part : Part) (pos byte : ℕ) → StandsIn size e part pos → one part pos byte ≡ other part pos byte) → cell_of one size e i ≡ cell_of other size e i
  same_cell e i within alike = alike e.part (e.block + (e.byte + i) / size) ((e.byte + i) % size) (record { byte = i; within = within; on = refl; here = refl })

  pub same_cell_at : (es : List Extent) (i : ℕ) → AreAlikeIn (SomeStandsIn size es) one other → cell_at one size es i ≡ cell_at other size es i
  same_cell_at [] i alike = refl
  same_cell_at (e ∷ es) i alike = by (covers e i) refl (same_cell_at es i (λ part pos byte h. alike part pos byte (inr h)))
    where
      by : (b : Bool) → covers e i ≡ b → cell_at one size es i ≡ cell_at other size es i
          → cond b (cell_of one size e (i - e.offset)) (cell_at one size es i) ≡ cond b (cell_of other size e (i - e.offset)) (cell_at other size es i)
      by true is more = same_cell e (i - e.offset) (inside is) (λ part pos byte h. alike part pos byte (inl h))
        where
          inside : covers e i ≡ true → i - e.offset < e.count
          inside is = grind (arith, nat_tests)
      by false is more = more

same_maps : (f g : ℕ → Cell) (xs : List ℕ) → ((i : ℕ) → f i ≡ g i) → map f xs ≡ map g xs
same_maps f g [] same = refl
same_maps f g (x ∷ xs) same = ap (λ c. c ∷ map f xs) (same x) ∙ ap (λ cs. g x ∷ cs) (same_maps f g xs same)

-- tapes alike in the blocks of a file have the same file
pub blocks_make_the_file : BlocksMakeTheFile
blocks_make_the_file one other f alike =
    same_maps (cell_at one f.block_size f.extents) (cell_at other f.block_size f.extents) (range_with_len 0 f.length) (λ i. same_cell_at one other f.block_size f.extents i alike)
