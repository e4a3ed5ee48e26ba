-- A walk through the directories meets the nodes in the order of their paths.
use Rattle.std.proofs.Common.{Option, ◌⊎◌, ◌≡◌, ℕ, zero, suc, ◌<◌, List, [], ◌∷◌, ◌++◌, length, map, Some, sym, ap, ◌∙◌, refl, subst, arith, inl, inr, ⊎_elim}
use Rattle.std.specs.List.{AllByRecursion, slice_get}
use Rattle.std.specs.List.Sorted.{IsStrictlySortedBy}
use Rattle.std.specs.Ordering.{ordering_then}
use Rattle.std.specs.declared.cmp.Ordering.TheVariants.{Less, Equal}
use Rattle.std.specs.FinMap as fin
use Rattle.std.proofs.lemmas.Cmp.{tied_itself, nat_list_cmp_total}
use Rattle.std.proofs.lemmas.List.{length-append, length-map, append-nil}
use Rattle.plain_tree.specs.Links.{name_cmp}
use Rattle.plain_tree.specs.Paths.{Name, Path, path_cmp}
use Rattle.plain_tree.proofs.NodeLemmas.{path_total}
use Rattle.file_tree.specs.declared.nodes.Node.{Node}
use Rattle.file_tree.specs.Tree.{Nodes, number_at}
use Rattle.file_tree.specs.Places.{IsThere}
use Rattle.file_tree.specs.Order.{IsIn, IsRunAt}
use Rattle.name_tries.proofs.ItemLemmas.{some_same}
use Rattle.file_tree.proofs.PathLemmas.{number_is, node_at}
use Rattle.file_tree.proofs.MemberLemmas.{Up, of_all, to_all, in_front, in_rest, in_either, up_join, same_up, no_longer}
use Rattle.file_tree.proofs.ToldLemmas.{OnePath, entry_get, get_entry, sorted_map_entries}
use Rattle.file_tree.proofs.OrderLemmas.{parent_less, ascends}

-- ---- paths

not_less : (p : Path) → path_cmp p p ≡ Less → ⊥
not_less p less = let wrong : Equal ≡ Less = sym (tied_itself path_total p) ∙ less in cc

goes_on : (p : Path) (x : Name) (q : Path) → (p ++ x ∷ []) ++ q ≡ p ++ x ∷ q
goes_on [] x q = refl
goes_on (y ∷ p) x q = ap (λ l. y ∷ l) (goes_on p x q)

-- what goes on by an earlier name comes before the later one
earlier_name : (p : Path) (x y : Name) (r : Path) → name_cmp x y ≡ Less → path_cmp (p ++ x ∷ r) (p ++ y ∷ []) ≡ Less
earlier_name [] x y r less = ap (λ o. ordering_then o (path_cmp r [])) less
earlier_name (z ∷ p) x y r less = ap (λ o. ordering_then o (path_cmp (p ++ x ∷ r) (p ++ y ∷ []))) (tied_itself nat_list_cmp_total z) ∙ earlier_name p x y r less

module _ (m : Nodes) where
  -- the node with one number stands before that with another; all that is below it does, too
  pub record Before (a b : ℕ) : Type 0 where
    pub p : Path
    pub q : Path
    pub p_is : number_at m p ≡ Some a
    pub q_is : number_at m q ≡ Some b
    pub less : path_cmp p q ≡ Less

  pub record Past (a b : ℕ) : Type 0 where
    pub p : Path
    pub q : Path
    pub p_is : number_at m p ≡ Some a
    pub q_is : number_at m q ≡ Some b
    pub less : (r : Path) → path_cmp (p ++ r) q ≡ Less

  -- at or below a node of a list
  pub record Under (q : Path) (rest : List ℕ) : Type 0 where
    pub number : ℕ
    pub within : IsIn number rest
    pub p : Path
    pub p_is : number_at m p ≡ Some number
    pub r : Path
    pub is : q ≡ p ++ r

  -- some nodes were met, and those at and below these others are to come
  pub record Walked (done rest : List ℕ) : Type 0 where
    pub done_up : Up Before done
    pub done_there : AllByRecursion (IsThere m) done
    pub across : (a b : ℕ) → IsIn a done → IsIn b rest → Before a b
    pub rest_up : Up Past rest
    pub rest_there : AllByRecursion (IsThere m) rest
    pub cover : (q : Path) (n : ℕ) → number_at m q ≡ Some n → IsIn n done ⊎ Under q rest

  -- a walk begins at the root
  pub walk_begins : (n : ℕ) → number_at m [] ≡ Some n → Walked [] (n ∷ [])
  walk_begins n root = record {
    done_up = tt;
    done_there = tt;
    across = λ a b none. absurd none;
    rest_up = (tt, tt);
    rest_there = (([], root), tt);
    cover = λ q k is. inr (record { number = n; within = inl refl; p = []; p_is = root; r = q; is = refl });
  }

  module _ (one : OnePath m) where
    as_before : (a b : ℕ) → Past a b → Before a b
    as_before a b past = record { p = past.p; q = past.q; p_is = past.p_is; q_is = past.q_is; less = ap (λ p. path_cmp p past.q) (sym (append-nil past.p)) ∙ past.less [] }

    pub not_both : (a b : ℕ) → Before a b → Before b a → ⊥
    not_both a b x y =
        let same_p : x.p ≡ y.q = one x.p y.q a x.p_is y.q_is in
        let same_q : x.q ≡ y.p = one x.q y.p b x.q_is y.p_is in
        let back : path_cmp x.q x.p ≡ Less = ap (λ p. path_cmp p x.p) same_q ∙ ap (path_cmp y.p) same_p ∙ y.less in
        not_less x.p (path_total.trans x.p x.q x.p x.less back)

    -- ---- the nodes in a directory

    module _ (n : ℕ) (p : Path) (p_is : number_at m p ≡ Some n) where
      named : (names : List Name) (ns : List ℕ) → map (λ (name : Name). number_at m (p ++ name ∷ [])) names ≡ map (λ k. Some k) ns → (k : ℕ) → IsIn k ns → (x : Name) × IsIn x names × (number_at m (p ++ x ∷ []) ≡ Some k)
      named [] [] each k none = elim none [ ]
      named [] (j ∷ ns) each k here = cc
      named (y ∷ names) [] each k none = elim none [ ]
      named (y ∷ names) (j ∷ ns) each k (inl same) = (y, inl refl, first (number_at m (p ++ y ∷ [])) (Some j) _ _ each ∙ ap (λ z. Some z) (sym same))
        where
          first : (a b : Option ℕ) (xs bs : List (Option ℕ)) → a ∷ xs ≡ b ∷ bs → a ≡ b
          first a b xs bs e = cc
      named (y ∷ names) (j ∷ ns) each k (inr more) = let found = named names ns (tails _ _ _ _ each) k more in (found.0, inr found.1, found.2)
        where
          tails : (a b : Option ℕ) (xs bs : List (Option ℕ)) → a ∷ xs ≡ b ∷ bs → xs ≡ bs
          tails a b xs bs e = cc

      numbered : (names : List Name) (ns : List ℕ) → map (λ (name : Name). number_at m (p ++ name ∷ [])) names ≡ map (λ k. Some k) ns → (x : Name) → IsIn x names → (k : ℕ) × IsIn k ns × (number_at m (p ++ x ∷ []) ≡ Some k)
      numbered [] ns each x none = elim none [ ]
      numbered (y ∷ names) [] each x here = cc
      numbered (y ∷ names) (j ∷ ns) each x (inl same) = (j, inl refl, ap (λ z. number_at m (p ++ z ∷ [])) same ∙ first (number_at m (p ++ y ∷ [])) (Some j) _ _ each)
        where
          first : (a b : Option ℕ) (xs bs : List (Option ℕ)) → a ∷ xs ≡ b ∷ bs → a ≡ b
          first a b xs bs e = cc
      numbered (y ∷ names) (j ∷ ns) each x (inr more) = let found = numbered names ns (tails _ _ _ _ each) x more in (found.0, inr found.1, found.2)
        where
          tails : (a b : Option ℕ) (xs bs : List (Option ℕ)) → a ∷ xs ≡ b ∷ bs → xs ≡ bs
          tails a b xs bs e = cc

      run_past : (names : List Name) (ns : List ℕ) → map (λ (name : Name). number_at m (p ++ name ∷ [])) names ≡ map (λ k. Some k) ns → IsStrictlySortedBy name_cmp names → Up Past ns
      unfolding IsStrictlySortedBy
      run_past [] [] each up = tt
      run_past [] (j ∷ ns) each up = cc
      run_past (y ∷ names) [] each up = tt
      run_past (y ∷ names) (j ∷ ns) each up = (
        to_all (Past j) ns (λ k here.
            let found = named names ns (tails _ _ _ _ each) k here in
            record {
              p = p ++ y ∷ [];
              q = p ++ found.0 ∷ [];
              p_is = first (number_at m (p ++ y ∷ [])) (Some j) _ _ each;
              q_is = found.2;
              less = λ r. ap (λ l. path_cmp l (p ++ found.0 ∷ [])) (goes_on p y r) ∙ earlier_name p y found.0 r (of_all (λ z. name_cmp y z ≡ Less) found.0 names up.0 found.1);
            }),
        run_past names ns (tails _ _ _ _ each) up.1,
      )
        where
          first : (a b : Option ℕ) (xs bs : List (Option ℕ)) → a ∷ xs ≡ b ∷ bs → a ≡ b
          first a b xs bs e = cc

          tails : (a b : Option ℕ) (xs bs : List (Option ℕ)) → a ∷ xs ≡ b ∷ bs → xs ≡ bs
          tails a b xs bs e = cc

      -- one node more is met, and what is in it is to come
      module _ (done rest run : List ℕ) (w : Walked done (n ∷ rest)) (r : IsRunAt m p run) (above : (q : Path) (x : Path) (k : ℕ) → number_at m (q ++ x) ≡ Some k → (j : ℕ) × (number_at m q ≡ Some j)) where
        to_done : (a b : ℕ) → IsIn a done → IsIn b (n ∷ []) → Before a b
        to_done a b here (inl same) = subst (Before a) (sym same) (w.across a n here (inl refl))
        to_done a b here (inr none) = elim none [ ]

        below : (k : ℕ) → IsIn k run → Before n k
        below k here =
            let found = named r.names run r.each k here in
            record { p = p; q = p ++ found.0 ∷ []; p_is = p_is; q_is = found.2; less = parent_less p found.0 }

        pub joins : (a b c : ℕ) → Before a b → Before b c → Before a c
        joins a b c x y = record {
          p = x.p;
          q = y.q;
          p_is = x.p_is;
          q_is = y.q_is;
          less = path_total.trans x.p x.q y.q x.less (ap (λ z. path_cmp z y.q) (one x.q y.p b x.q_is y.p_is) ∙ y.less);
        }

        next_across : (a b : ℕ) → IsIn a (done ++ n ∷ []) → IsIn b (run ++ rest) → Before a b
        next_across a b here there = ⊎_elim
            (λ (old : IsIn a done). ⊎_elim
            (λ child. joins a n b (w.across a n old (inl refl)) (below b child))
            (λ more. w.across a b old (inr more))
            (in_either b run rest there))
            (λ (new : IsIn a (n ∷ [])). ⊎_elim
            (λ (same : a ≡ n). subst (λ z. Before z b) (sym same) (⊎_elim
            (λ child. below b child)
            (λ more. as_before n b (of_all (Past n) b rest w.rest_up.0 more))
            (in_either b run rest there)))
            (λ none. absurd none) new)
            (in_either a done (n ∷ []) here)

        child_past : (a b : ℕ) → IsIn a run → IsIn b rest → Past a b
        child_past a b child more =
            let found = named r.names run r.each a child in
            let past = of_all (Past n) b rest w.rest_up.0 more in
            let same : p ≡ past.p = one p past.p n p_is past.p_is in
            record {
              p = p ++ found.0 ∷ [];
              q = past.q;
              p_is = found.2;
              q_is = past.q_is;
              less = λ t. ap (λ l. path_cmp l past.q) (goes_on p found.0 t ∙ ap (λ z. z ++ found.0 ∷ t) same) ∙ past.less (found.0 ∷ t);
            }

        next_cover : (q : Path) (k : ℕ) → number_at m q ≡ Some k → IsIn k (done ++ n ∷ []) ⊎ Under q (run ++ rest)
        next_cover q k is = ⊎_elim
            (λ old. inl (in_front k done (n ∷ []) old))
            (λ (u : Under q (n ∷ rest)). ⊎_elim
            (λ (same : u.number ≡ n). by u.r (u.is ∙ ap (λ z. z ++ u.r) (one u.p p n (u.p_is ∙ ap (λ z. Some z) same) p_is)))
            (λ (more : IsIn u.number rest). inr (record { number = u.number; within = in_rest u.number run rest more; p = u.p; p_is = u.p_is; r = u.r; is = u.is }))
            u.within)
            (w.cover q k is)
          where
            by : (t : Path) → q ≡ p ++ t → IsIn k (done ++ n ∷ []) ⊎ Under q (run ++ rest)
            by [] e =
                let same : k ≡ n = some_same k n (sym is ∙ ap (number_at m) (e ∙ append-nil p) ∙ p_is) in
                inl (in_rest k done (n ∷ []) (inl same))
            by (x ∷ t) e =
                let path : q ≡ (p ++ x ∷ []) ++ t = e ∙ sym (goes_on p x t) in
                let up = above (p ++ x ∷ []) t k (ap (number_at m) (sym path) ∙ is) in
                let found = numbered r.names run r.each x (r.every x up.0 up.1) in
                inr (record { number = found.0; within = in_front found.0 run rest found.1; p = p ++ x ∷ []; p_is = found.2; r = t; is = path })

        -- a walk goes from a node on to what is in it
        pub walk_steps : Walked (done ++ n ∷ []) (run ++ rest)
        walk_steps = record {
          done_up = up_join Before done (n ∷ []) w.done_up (tt, tt) to_done;
          done_there = to_all (IsThere m) (done ++ n ∷ []) (λ k here. ⊎_elim
              (λ old. of_all (IsThere m) k done w.done_there old)
              (λ (new : IsIn k (n ∷ [])). ⊎_elim (λ (same : k ≡ n). (p, p_is ∙ ap (λ z. Some z) (sym same))) (λ none. absurd none) new)
              (in_either k done (n ∷ []) here));
          across = next_across;
          rest_up = up_join Past run rest (run_past r.names run r.each r.ascend) w.rest_up.1 child_past;
          rest_there = to_all (IsThere m) (run ++ rest) (λ k here. ⊎_elim
              (λ child. let found = named r.names run r.each k child in (p ++ found.0 ∷ [], found.2))
              (λ more. of_all (IsThere m) k rest w.rest_there.1 more)
              (in_either k run rest here));
          cover = next_cover;
        }

    -- ---- all nodes in order

    abbrev pub all_numbers : List ℕ
    all_numbers = map (λ (e : Path × Node). e.1.number) (fin.entries m)

    entries_up : (es : List (Path × Node)) → ((i j : ℕ) (a b : Path × Node) → i < j → slice_get es i ≡ Some a → slice_get es j ≡ Some b → path_cmp a.0 b.0 ≡ Less)
        → ((i : ℕ) (a : Path × Node) → slice_get es i ≡ Some a → number_at m a.0 ≡ Some a.1.number) → Up Before (map (λ (e : Path × Node). e.1.number) es)
    entries_up [] less is = tt
    entries_up (e ∷ es) less is = (
      all es (λ j b at. less 0 (suc j) e b (omega arith) refl at) (λ j b at. is (suc j) b at),
      entries_up es (λ i j a b lt at_i at_j. less (suc i) (suc j) a b (omega (arith, lt)) at_i at_j) (λ i a at. is (suc i) a at),
    )
      where
        all : (ds : List (Path × Node)) → ((j : ℕ) (b : Path × Node) → slice_get ds j ≡ Some b → path_cmp e.0 b.0 ≡ Less) → ((j : ℕ) (b : Path × Node) → slice_get ds j ≡ Some b → number_at m b.0 ≡ Some b.1.number)
            → AllByRecursion (Before e.1.number) (map (λ (e : Path × Node). e.1.number) ds)
        all [] f g = tt
        all (d ∷ ds) f g = (
          record { p = e.0; q = d.0; p_is = is 0 e refl; q_is = g 0 d refl; less = f 0 d refl },
          all ds (λ j b at. f (suc j) b at) (λ j b at. g (suc j) b at),
        )

    all_up : Up Before all_numbers
    all_up = entries_up (fin.entries m)
        (λ i j a b lt at_i at_j. ascends (fin.entries m) i j a.0 b.0 a.1 b.1 (sorted_map_entries m) lt at_i at_j)
        (λ i a at. number_is m a.0 a.1 (entry_get m i a.0 a.1 at))

    number_in : (es : List (Path × Node)) (i : ℕ) (e : Path × Node) → slice_get es i ≡ Some e → IsIn e.1.number (map (λ (e : Path × Node). e.1.number) es)
    number_in [] i e is = cc
    number_in (d ∷ es) zero e is = inl (ap (λ (x : Path × Node). x.1.number) (sym (some_same d e is)))
    number_in (d ∷ es) (suc i) e is = inr (number_in es i e is)

    there_in : (n : ℕ) → IsThere m n → IsIn n all_numbers
    there_in n there =
        let node = node_at m there.0 n there.1 in
        let entry = get_entry m there.0 node.0 node.1 in
        subst (λ k. IsIn k all_numbers) node.2 (number_in (fin.entries m) entry.0 (there.0, node.0) entry.1)

    in_there : (es : List (Path × Node)) → ((i : ℕ) (a : Path × Node) → slice_get es i ≡ Some a → number_at m a.0 ≡ Some a.1.number) → (n : ℕ) → IsIn n (map (λ (e : Path × Node). e.1.number) es) → IsThere m n
    in_there [] is n none = elim none [ ]
    in_there (e ∷ es) is n (inl same) = (e.0, is 0 e refl ∙ ap (λ k. Some k) (sym same))
    in_there (e ∷ es) is n (inr more) = in_there es (λ i a at. is (suc i) a at) n more

    -- where nothing is to come, all nodes were met, in their order
    pub walk_ends : (done : List ℕ) → Walked done [] → done ≡ all_numbers
    walk_ends done w = same_up Before not_both done all_numbers w.done_up all_up
        (λ n here. there_in n (of_all (IsThere m) n done w.done_there here))
        (λ n here.
        let there = in_there (fin.entries m) (λ i a at. number_is m a.0 a.1 (entry_get m i a.0 a.1 at)) n here in
        ⊎_elim (λ met. met) (λ (u : Under there.0 []). absurd u.within) (w.cover there.0 n there.1))

    -- while one is to come, fewer were met than there are
    pub walk_shorter : (done rest : List ℕ) (n : ℕ) → Walked done (n ∷ rest) → length done < fin.len m
    walk_shorter done rest n w =
        let more = no_longer Before not_both (done ++ n ∷ []) all_numbers
        (up_join Before done (n ∷ []) w.done_up (tt, tt) (λ a b here there. ⊎_elim (λ (same : b ≡ n). subst (Before a) (sym same) (w.across a n here (inl refl))) (λ none. absurd none) there)) all_up
        (λ k here. ⊎_elim
        (λ old. there_in k (of_all (IsThere m) k done w.done_there old))
        (λ (new : IsIn k (n ∷ [])). ⊎_elim (λ (same : k ≡ n). subst (λ z. IsIn z all_numbers) (sym same) (there_in n w.rest_there.0)) (λ none. absurd none) new)
        (in_either k done (n ∷ []) here)) in
        omega (arith, more, length-append done (n ∷ []), length-map (fin.entries m) (λ (e : Path × Node). e.1.number), fin.len-entries m)
