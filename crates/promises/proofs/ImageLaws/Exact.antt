-- Where a partition that is written ends.
use Rattle.std.proofs.Common.{ℕ, ◌≡◌, ◌⊎◌, inl, inr, List, [], ◌∷◌, ◌++◌, length, take, Option, refl, ap, ◌∙◌, sym, arith}
use Rattle.std.proofs.lemmas.List.{take_all}
use Rattle.tape_types.specs.declared.cartridges.Cartridge.{Cartridge}
use Rattle.tape_types.specs.declared.cartridges.Item.{Item}
use Rattle.tape_types.specs.declared.cartridges.Item.TheVariants.{Block, Mark}
use Rattle.tape_types.specs.declared.cartridges.Part.{Part}
use Rattle.tape_types.specs.declared.cartridges.Part.TheVariants.{Ip, Dp}
use Rattle.tape_types.specs.declared.cartridges.Place.{Place}
use Rattle.tape_types.specs.Cartridges.{items_of}
use Rattle.index_model.specs.declared.indexes.Index.{Index}
use Rattle.content_laws.specs.Readings.{Construct, after_of}
use Rattle.content_laws.specs.Ends.{EndsWithLast, end_dp}
use Rattle.tape_drive.specs.Commands.{IsWritten, KeepsRest}
use Rattle.tape_layout.specs.declared.ops.Op.{Op}
use Rattle.tape_layout.specs.declared.ops.Op.TheVariants as ops
use Rattle.cartridge_meaning.specs.Pointers.{indexes_of}
use Rattle.promises.specs.ImageLaws.Closed.{Begins, IsExact, PutsOn}
use Rattle.promises.specs.ImageLaws.Events.{IsDone, IsFailed}
use Rattle.promises.specs.ImageLaws.Images.{IsNext}
use Rattle.promises.specs.ImageLaws.Starts.{made_of}
use Rattle.promises.specs.ImageLaws.Made.{CoveredIndex, Made, does, makes, part_items, put_on}

rest_exact : (written part : Part) (s : Made) (old new : Cartridge) → (written ≡ part → ⊥) → KeepsRest written old new → IsExact part s old
    → IsExact part s new
rest_exact Ip Ip s old new differ rest exact = absurd (differ refl)
rest_exact Ip Dp s old new differ rest exact = rest.other_part ∙ exact
rest_exact Dp Ip s old new differ rest exact = rest.other_part ∙ exact
rest_exact Dp Dp s old new differ rest exact = absurd (differ refl)

flushed_exact : (part : Part) (place : Place) (whole : Option CoveredIndex) (s : Made) (old new : Cartridge) → new ≡ old → IsExact part s old
    → IsExact part (does (ops.Flush place) whole s) new
flushed_exact Ip place whole s old new same exact = ap (λ (c : Cartridge). c.ip) same ∙ exact
flushed_exact Dp place whole s old new same exact = ap (λ (c : Cartridge). c.dp) same ∙ exact

put_exact : (written part : Part) (pos : ℕ) (x : Item) (whole : Option CoveredIndex) (s : Made) (old new : Cartridge) → pos ≡ length (part_items written s)
    → Begins written s old → IsWritten written pos x old new → ((written ≡ part) ⊎ IsExact part s old) → IsExact part (put_on written x whole s) new
put_exact Ip Ip pos x whole s old new at begins w which =
    w.items ∙ ap (λ (n : ℕ). take n old.ip ++ x ∷ []) at ∙ ap (λ (l : List Item). l ++ x ∷ []) begins
put_exact Dp Dp pos x whole s old new at begins w which =
    w.items ∙ ap (λ (n : ℕ). take n old.dp ++ x ∷ []) at ∙ ap (λ (l : List Item). l ++ x ∷ []) begins
put_exact Ip Dp pos x whole s old new at begins w (inl same) = absurd (cc)
put_exact Ip Dp pos x whole s old new at begins w (inr exact) = w.rest.other_part ∙ exact
put_exact Dp Ip pos x whole s old new at begins w (inl same) = absurd (cc)
put_exact Dp Ip pos x whole s old new at begins w (inr exact) = w.rest.other_part ∙ exact

-- a partition ends where it was made to once an item is put on it, and as long as no op on it fails
pub done_exact : (part : Part) (op : Op) (whole : Option CoveredIndex) (s : Made) (old new : Cartridge) → IsNext op s → ((written : Part) → Begins written s old)
    → IsDone op old new → (PutsOn part op ⊎ IsExact part s old) → IsExact part (makes (record { op = op; whole = whole }) s) new
done_exact part (ops.Put place bytes) whole s old new next begins done which =
    put_exact place.part part place.pos (Block bytes) whole s old new next.0 (begins place.part) done which
done_exact part (ops.Mark place) whole s old new next begins done which =
    put_exact place.part part place.pos Mark whole s old new next.0 (begins place.part) done which
done_exact part (ops.Flush place) whole s old new next begins done (inl puts) = absurd puts
done_exact part (ops.Flush place) whole s old new next begins done (inr exact) = flushed_exact part place whole s old new done exact

-- an op on the other partition that fails leaves the end of this one exact
pub failed_exact : (part : Part) (op : Op) (s : Made) (old new : Cartridge) → ¬ PutsOn part op → IsFailed op old new → IsExact part s old
    → IsExact part s new
failed_exact part (ops.Put place bytes) s old new other failed exact = rest_exact place.part part s old new other failed.rest exact
failed_exact part (ops.Mark place) s old new other failed exact = rest_exact place.part part s old new other failed.rest exact
failed_exact part (ops.Flush place) s old new other failed exact = ap (λ (c : Cartridge). items_of part c) failed ∙ exact

-- a data partition that ends with its last index is served as it stands
begun_from : (c : Cartridge) (ks : List Construct) → EndsWithLast c.dp ks → take (end_dp ks) c.dp ≡ c.dp
begun_from c [] ends = absurd ends
begun_from c (k ∷ older) ends = take_all (after_of k) c.dp (omega (arith, ends))

-- at the begin the end of the data partition is exact
pub begun_exact : (c : Cartridge) (on_ip : Option Index) (on_dp : Index) → EndsWithLast c.dp (indexes_of c.dp) → IsExact Dp (made_of c on_ip on_dp) c
begun_exact c on_ip on_dp ends = sym (begun_from c (indexes_of c.dp) ends)
