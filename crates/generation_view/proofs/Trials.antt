-- A cartridge with three indexes.
use Rattle.std.proofs.Common.{◌≡◌, ℕ, ◌<◌, ◌≤◌, ◌+◌, ◌*◌, [], ◌∷◌, Option, Some, None, inl, inr, refl, sym, ap, subst, arith}
use Rattle.index_model.specs.Grammar.{Stops}
use Rattle.index_model.specs.declared.errors.IndexErr.{IndexErr}
use Rattle.index_model.specs.declared.indexes.Index.{Index}
use Rattle.index_model.specs.declared.indexes.Spot.{Spot}
use Rattle.ltfs_label.specs.declared.Label.{Label}
use Rattle.tape_types.specs.declared.cartridges.Part.{Part}
use Rattle.tape_types.specs.declared.cartridges.Part.TheVariants.{Ip, Dp}
use Rattle.content_laws.specs.Worked.{first_index, second_index}
use Rattle.cartridge_meaning.specs.Meaning.{Found, Fits, end_on}
use Rattle.cartridge_meaning.specs.Pointers.{IsOfVolume, PointsOnDp, letter_of, text_of}
use Rattle.cartridge_meaning.specs.Worked.{extent, index, label, on_b, third_index, two}
use Rattle.generation_view.specs.Chain.{AreLinks, Breaks, IsBrokenBehind, IsBrokenOnWay, IsChain, IsLink, IsWayTo, LacksGeneration}
use Rattle.generation_view.specs.Worked.{Reads, all_three, crossed, file, middle, newest, oldest, three}
use Rattle.generation_view.specs.declared.errors.BreakWhy.{BreakWhy}
use Rattle.generation_view.specs.declared.errors.BreakWhy.TheVariants as breaks

-- the data of a file in the block before the second index
data_fits : (mark : ℕ) → 8 ≤ mark → 0 < 4096 → Fits label 4 mark (extent 98 7 0 4096)
data_fits mark le some = record { part = Dp; letter = refl; byte = omega arith; low = omega arith; high = omega (arith, le) }

abbrev block_in : Option Spot → ℕ
block_in None = 0
block_in (Some spot) = spot.block

module _ (third second first : Index) (r : Reads third second first) where
  third_of : third.uuid ≡ 7 → IsOfVolume label third_index third
  third_of same = record { text = r.third_is; uuid = same }

  second_of : second.uuid ≡ 7 → IsOfVolume label second_index second
  second_of same = record { text = r.second_is; uuid = same }

  -- what is so for the label of the trial is so for that of the cartridge
  for_label : (P : Label → Type 0) → P label → P r.found.labels.ip
  for_label P is = subst P (sym r.label_is) is

module _ (second first : Index) (r : Reads newest second first) where
  newest_links : IsLink label three third_index two None newest
  newest_links = record {
    of_volume = third_of newest second first r refl;
    points = record { here = refl; back = refl };
    rises = tt;
    within = ((data_fits 11 (omega arith), tt), tt);
  }

module _ (r : Reads newest middle oldest) where
  middle_links : IsLink label three second_index (first_index ∷ []) (Some 4) middle
  middle_links = record {
    of_volume = second_of newest middle oldest r refl;
    points = record { here = refl; back = refl };
    rises = omega arith;
    within = ((data_fits 8 (omega arith), tt), tt);
  }

  oldest_links : IsLink label three first_index [] (Some 2) oldest
  oldest_links = record {
    of_volume = record { text = r.first_is; uuid = refl };
    points = record { here = refl; back = refl };
    rises = omega arith;
    within = tt;
  }

  -- three indexes, each a link, are a whole chain
  pub whole : IsChain three r.found (newest ∷ middle ∷ oldest ∷ [])
  whole = record {
    links_are = for_label newest middle oldest r (λ (l : Label). AreLinks l three None all_three (newest ∷ middle ∷ oldest ∷ []))
        (newest_links middle oldest r, (middle_links, (oldest_links, tt)));
    whole = refl;
  }

  -- the way to the generations 2 and 3 leads to the second index
  pub to_middle : (g : ℕ) → 2 ≤ g → g < 4 → IsWayTo three r.found g (newest ∷ []) middle
  to_middle g least most = record {
    links_are = for_label newest middle oldest r (λ (l : Label). AreLinks l three None all_three (newest ∷ middle ∷ []))
        (newest_links middle oldest r, (middle_links, tt));
    are_newer = (most, tt);
    is_not = λ lt. omega (arith, lt, least);
  }

  -- the way to generation 1 leads to the oldest index
  pub to_oldest : IsWayTo three r.found 1 (newest ∷ middle ∷ []) oldest
  to_oldest = record {
    links_are = for_label newest middle oldest r (λ (l : Label). AreLinks l three None all_three (newest ∷ middle ∷ oldest ∷ []))
        (newest_links middle oldest r, (middle_links, (oldest_links, tt)));
    are_newer = (omega arith, (omega arith, tt));
    is_not = λ lt. omega (arith, lt);
  }

  -- the way to generation 4 or a later one leads to the newest index
  pub to_newest : (g : ℕ) → 4 ≤ g → IsWayTo three r.found g [] newest
  to_newest g least = record {
    links_are = for_label newest middle oldest r (λ (l : Label). AreLinks l three None all_three (newest ∷ [])) (newest_links middle oldest r, tt);
    are_newer = tt;
    is_not = λ lt. omega (arith, lt, least);
  }

  -- a generation between two indexes is lacking
  pub gap : LacksGeneration three r.found 3
  gap = inl (newest ∷ [], middle, to_middle 3 (omega arith) (omega arith), omega arith)

  -- a generation above the newest index is lacking
  pub above : LacksGeneration three r.found 7
  above = inl ([], newest, to_newest 7 (omega arith), omega arith)

  -- a generation below the oldest index is lacking
  pub below : LacksGeneration three r.found 0
  below = inr (newest ∷ middle ∷ oldest ∷ [], whole, (omega arith, (omega arith, (omega arith, tt))))

-- ---- where it breaks

at_newest : (found : Found three) → found.labels.ip ≡ label → (why : BreakWhy) → Breaks label three third_index two None why
    → IsBrokenBehind three found [] 12 why
at_newest found is why b = record {
  links_are = tt;
  k = third_index;
  older = two;
  stands = refl;
  block_is = refl;
  fails = subst (λ (l : Label). Breaks l three third_index two None why) (sym is) b;
}

at_second : (second first : Index) (r : Reads newest second first) (why : BreakWhy)
    → Breaks label three second_index (first_index ∷ []) (Some 4) why → IsBrokenBehind three r.found (newest ∷ []) 9 why
at_second second first r why b = record {
  links_are = for_label newest second first r (λ (l : Label). AreLinks l three None all_three (newest ∷ [])) (newest_links second first r, tt);
  k = second_index;
  older = first_index ∷ [];
  stands = refl;
  block_is = refl;
  fails = for_label newest second first r (λ (l : Label). Breaks l three second_index (first_index ∷ []) (Some 4) why) b;
}

-- a newest index whose text stops breaks the chain with that text
pub text : (found : Found three) (e : IndexErr) → found.labels.ip ≡ label → Stops (text_of third_index) e
    → IsBrokenBehind three found [] 12 (breaks.Text e)
text found e is stops = at_newest found is (breaks.Text e) stops

-- an index of another volume breaks the chain
pub volume : (r : Reads newest (record middle { uuid = 8; back = None }) oldest) → IsBrokenBehind three r.found (newest ∷ []) 9 breaks.Volume
volume r = at_second _ oldest r breaks.Volume (record middle { uuid = 8; back = None }, r.second_is, (λ (same : ◌≡◌ {A = ℕ} 8 7). omega (arith, same)))

-- an index that points back past the one before it breaks the chain
pub skips : (r : Reads (index 4 (on_b 12) (Some (on_b 5))) middle oldest) → IsBrokenBehind three r.found [] 12 breaks.Pointer
skips r = at_newest r.found r.label_is breaks.Pointer (
  index 4 (on_b 12) (Some (on_b 5)),
  third_of (index 4 (on_b 12) (Some (on_b 5))) middle oldest r refl,
  (λ (p : PointsOnDp label third_index two (index 4 (on_b 12) (Some (on_b 5)))). omega (arith, ap block_in p.back)),
)

-- an index whose own place is its mark breaks the chain by its pointer
pub mark : (r : Reads (index 4 (on_b 11) (Some (on_b 9))) middle oldest) → IsBrokenBehind three r.found [] 12 breaks.Pointer
mark r = at_newest r.found r.label_is breaks.Pointer (
  index 4 (on_b 11) (Some (on_b 9)),
  third_of (index 4 (on_b 11) (Some (on_b 9))) middle oldest r refl,
  (λ (p : PointsOnDp label third_index two (index 4 (on_b 11) (Some (on_b 9)))). omega (arith, ap (λ (spot : Spot). spot.block) p.here)),
)

-- of a wrong pointer and a generation that rises, the pointer is told
pub pointer_first : (r : Reads newest (index 5 (on_b 9) None) oldest) → IsBrokenBehind three r.found (newest ∷ []) 9 breaks.Pointer
pointer_first r = at_second _ oldest r breaks.Pointer (
  index 5 (on_b 9) None,
  second_of newest (index 5 (on_b 9) None) oldest r refl,
  (λ (p : PointsOnDp label second_index (first_index ∷ []) (index 5 (on_b 9) None)). cc p.back),
)

module _ (r : Reads newest (index 4 (on_b 9) (Some (on_b 5))) oldest) where
  -- two indexes of one generation break the chain
  pub same : IsBrokenBehind three r.found (newest ∷ []) 9 breaks.Rises
  same = at_second _ oldest r breaks.Rises (
    index 4 (on_b 9) (Some (on_b 5)),
    second_of newest (index 4 (on_b 9) (Some (on_b 5))) oldest r refl,
    record { here = refl; back = refl },
    (λ (lt : 4 < 4). omega (arith, lt)),
  )

  -- a way to a newer generation doesn't come to the break
  pub not_so_far : IsWayTo three r.found 4 [] newest
  not_so_far = record {
    links_are = for_label newest _ oldest r (λ (l : Label). AreLinks l three None all_three (newest ∷ [])) (newest_links _ oldest r, tt);
    are_newer = tt;
    is_not = λ lt. omega (arith, lt);
  }

  -- a way to an older generation comes to the break
  pub on_way : IsBrokenOnWay three r.found 1 9 breaks.Rises
  on_way = (newest ∷ [], same, (omega arith, tt))

-- an extent that begins on the mark of its own index is none of those before it
mark_is_none : Fits label 4 8 (extent 98 8 0 1) → ⊥
mark_is_none f = by f.part f.letter f.high
  where
    by : (part : Part) → ◌≡◌ {A = ℕ} 98 (letter_of label part) → 8 * 4096 + 0 + 1 ≤ end_on part 4 8 * 4096 → ⊥
    by Ip letter high = omega (arith, letter)
    by Dp letter high = omega (arith, high)

-- a file with a block at its index's mark breaks the chain, with the uid of the first such file
pub crosses : (r : Reads newest crossed oldest) → IsBrokenBehind three r.found (newest ∷ []) 9 (breaks.Extent 3)
crosses r = at_second crossed oldest r (breaks.Extent 3) (
  crossed,
  second_of newest crossed oldest r refl,
  record { here = refl; back = refl },
  (omega arith),
  record {
    before = file 2 98 7 0 4096 ∷ [];
    node = file 3 98 8 0 1;
    behind = file 4 98 9 0 1 ∷ [];
    parts = refl;
    within = ((data_fits 8 (omega arith), tt), tt);
    outside = λ fits. mark_is_none (fits.0 (omega arith));
    told = refl;
  },
)
