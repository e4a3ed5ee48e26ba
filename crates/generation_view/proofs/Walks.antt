-- A walk along a chain, from the newest index back.
use Rattle.std.proofs.Common.{◌≡◌, ℕ, ◌+◌, ◌-◌, ◌*◌, ◌<◌, ◌≤◌, ◌++◌, List, [], ◌∷◌, length, map, reverse, Option, Some, None, Result, Ok, Err, refl, sym, ap, subst, ◌∙◌, arith}
use Rattle.std.specs.Prelude.{IfSome}
use Rattle.std.specs.List.{AllByRecursion}
use Rattle.tape_types.specs.declared.cartridges.Cartridge.{Cartridge}
use Rattle.tape_drive.specs.Looks.{Looks}
use Rattle.tape_drive.specs.declared.drive.Drive.{Ghosts}
use Rattle.tape_drive.proofs.Looking.{no_looks, then_looks}
use Rattle.index_model.specs.declared.indexes.Index.{Index}
use Rattle.ltfs_label.specs.declared.Label.{Label}
use Rattle.content_laws.specs.Readings as readings
use Rattle.content_laws.specs.Readings.{first_of}
use Rattle.cartridge_meaning.specs.Meaning.{Found, ip_end}
use Rattle.cartridge_meaning.specs.Pointers.{indexes_of}
use Rattle.cartridge_meaning.specs.declared.errors.MountErr.{MountErr}
use Rattle.cartridge_meaning.specs.declared.errors.MountErr.TheVariants as mount_errors
use Rattle.volume_scan.specs.declared.content.Construct.{Construct}
use Rattle.volume_scan.specs.Scans.{AreBetween, places_of}
use Rattle.mount_recover.specs.Lasts.{HasIndexAt, IsInPlace}
use Rattle.mount_recover.specs.Steps.{IsFree, IsSince, IsStep}
use Rattle.mount_recover.specs.declared.starts.Start.{Start}
use Rattle.mount_recover.proofs.ScanLemmas.{none_left, parted}
use Rattle.mount_recover.proofs.StepLemmas.{at_told, looks_more}
use Rattle.generation_view.specs.Chain.{AreLinks, AreNewer, Breaks, IsBefore, IsBrokenBehind, IsChain, IsLink, behind, last_generation}
use Rattle.generation_view.specs.Views.{EndsAt}
use Rattle.generation_view.specs.Steps.{IsSoundStep, IsStepTo}
use Rattle.generation_view.specs.declared.errors.BreakWhy.{BreakWhy}
use Rattle.generation_view.specs.declared.links.Step.{Step}
use Rattle.generation_view.specs.declared.links.Step.TheVariants as steps
use Rattle.generation_view.specs.Told.{AreKnown, HasCome, IsToldOf, generation_of, told_of}
use Rattle.generation_view.specs.declared.telling.Generation.{Generation}

-- ---- one link more

module _ (label : Label) (c : Cartridge) (k : readings.Construct) (older : List readings.Construct) (index : Index) where
  links_more : (after : Option ℕ) (ks : List readings.Construct) (done : List Index) → AreLinks label c after ks done → behind ks done ≡ k ∷ older
      → IsLink label c k older (last_generation after done) index → AreLinks label c after ks (done ++ index ∷ [])
  links_more after ks [] a at link = subst (λ (l : List readings.Construct). AreLinks label c after l (index ∷ [])) (sym at) (link, tt)
  links_more after [] (i ∷ done) a at link = absurd a
  links_more after (q ∷ ks) (i ∷ done) a at link = (a.0, links_more (Some i.generation) ks done a.1 at link)

  behind_more : (ks : List readings.Construct) (done : List Index) → behind ks done ≡ k ∷ older → behind ks (done ++ index ∷ []) ≡ older
  behind_more ks [] at = ap (λ (l : List readings.Construct). behind l (index ∷ [])) at
  behind_more [] (i ∷ done) at = absurd (cc at)
  behind_more (q ∷ ks) (i ∷ done) at = behind_more ks done at

  last_more : (after : Option ℕ) (done : List Index) → last_generation after (done ++ index ∷ []) ≡ Some index.generation
  last_more after [] = refl
  last_more after (i ∷ done) = last_more (Some i.generation) done

  told_more : (ks : List readings.Construct) (done : List Index) → behind ks done ≡ k ∷ older
      → told_of ks (done ++ index ∷ []) ≡ told_of ks done ++ generation_of k index ∷ []
  told_more ks [] at = ap (λ (l : List readings.Construct). told_of l (index ∷ [])) at
  told_more [] (i ∷ done) at = absurd (cc at)
  told_more (q ∷ ks) (i ∷ done) at = ap (λ (l : List Generation). generation_of q i ∷ l) (told_more ks done at)

parts_behind : (ks : List readings.Construct) (done : List Index) (older : List readings.Construct) → behind ks done ≡ older
    → (newer : List readings.Construct) × (ks ≡ newer ++ older)
parts_behind ks [] older at = ([], at)
parts_behind [] (i ∷ done) older at = ([], at)
parts_behind (q ∷ ks) (i ∷ done) older at =
    let rest = parts_behind ks done older at in (q ∷ rest.0, ap (λ (l : List readings.Construct). q ∷ l) rest.1)

-- ---- the places that are left

popped : (rest : List Construct) (place : Construct) (from to : ℕ) → AreBetween from to (rest ++ place ∷ [])
    → AreBetween from place.mark rest × (from ≤ place.mark) × (place.first ≡ place.mark + 1) × (place.first + 2 ≤ place.after) × (place.after ≤ to)
popped [] place from to b = (b.0, b.0, b.1, b.2, b.3)
popped (k ∷ rest) place from to b =
    let p = popped rest place k.after to b.3 in ((b.0, b.1, b.2, p.0), omega (arith, b.0, b.1, b.2, p.1), p.2, p.3, p.4)

module _ (end_ip : ℕ) (places : List Construct) (label : Label) (c : Cartridge) (known : AreKnown end_ip places c) where
  pub begins : (So : List Index → Type 0) → So [] → HasCome label c places None So
  begins So so = record { done = []; links_are = tt; left_are = known.places_are; after_is = refl; so = so }

  module _ (left rest : List Construct) (place : Construct) (after : Option ℕ) (So : List Index → Type 0) (come : HasCome label c left after So)
      (split : left ≡ rest ++ place ∷ []) where
    abbrev pub next_is : (k : readings.Construct) × (older : List readings.Construct) × (behind (indexes_of c.dp) come.done ≡ k ∷ older)
        × (place ≡ places_of k) × (rest ≡ map places_of (reverse older))
    next_is = parted (behind (indexes_of c.dp) come.done) left rest place come.left_are split

    pub parts_there : (newer : List readings.Construct) × (indexes_of c.dp ≡ newer ++ next_is.0 ∷ next_is.1)
    parts_there = parts_behind (indexes_of c.dp) come.done (next_is.0 ∷ next_is.1) next_is.2

    pub stands_there : HasIndexAt c.dp place
    stands_there = record {
      form = known.form;
      long = known.long;
      newer = parts_there.0;
      k = next_is.0;
      older = next_is.1;
      parts = parts_there.1;
      place_is = sym next_is.3;
    }

    -- one link more
    pub links_on : (index : Index) → IsLink label c next_is.0 next_is.1 after index → AreLinks label c None (indexes_of c.dp) (come.done ++ index ∷ [])
    links_on index link = links_more label c next_is.0 next_is.1 index None (indexes_of c.dp) come.done come.links_are next_is.2
        (subst (λ (o : Option ℕ). IsLink label c next_is.0 next_is.1 o index) come.after_is link)

    pub goes_on : (index : Index) (Next : List Index → Type 0) → IsLink label c next_is.0 next_is.1 after index
        → Next (come.done ++ index ∷ []) → HasCome label c rest (Some index.generation) Next
    goes_on index Next link so = record {
      done = come.done ++ index ∷ [];
      links_are = links_on index link;
      left_are = next_is.4 ∙ ap (λ (ks : List readings.Construct). map places_of (reverse ks))
          (sym (behind_more label c next_is.0 next_is.1 index (indexes_of c.dp) come.done next_is.2));
      after_is = sym (last_more label c next_is.0 next_is.1 index None come.done);
      so = so;
    }

-- what is told of one link more
pub told_on : (label : Label) (c : Cartridge) (k : readings.Construct) (older : List readings.Construct) (index : Index) (done : List Index)
    (block : ℕ) (t : Generation) (told more : List Generation) → behind (indexes_of c.dp) done ≡ k ∷ older → block ≡ first_of k → IsToldOf block index t
    → more ≡ told ++ t ∷ [] → told ≡ told_of (indexes_of c.dp) done → more ≡ told_of (indexes_of c.dp) (done ++ index ∷ [])
told_on label c k older index done block t told more there at is more_is so =
    more_is
    ∙ ap (λ (l : List Generation). l ++ t ∷ []) so
    ∙ ap (λ (x : Generation). told_of (indexes_of c.dp) done ++ x ∷ []) (is ∙ ap (λ (n : ℕ). record { number = index.generation; block = n; updated = index.updated; nodes = length index.nodes }) at)
    ∙ sym (told_more label c k older index (indexes_of c.dp) done there)

-- newer indexes and one more that is newer
pub newer_on : (g : ℕ) (done : List Index) (index : Index) → AreNewer g done → g < index.generation → AreNewer g (done ++ index ∷ [])
newer_on g [] index all newer = (newer, tt)
newer_on g (i ∷ done) index all newer = (all.0, newer_on g done index all.1 newer)

-- places up to one are places up to a later one
-- ---- a walk over a drive

module _ {D : Type 0} (drive : Ghosts D) (start : Start) (label : Label) (end_ip : ℕ) where
  -- what is left stands before a bound, what is behind that was read, and so far the walk has come
  pub record Going (first now : D) (places left : List Construct) (after : Option ℕ) (So : Cartridge → List Index → Type 0) : Type 0 where
    pub bound : ℕ
    pub between : AreBetween 4 bound left
    pub within : bound ≤ start.limits.cap_dp
    pub looks : Looks drive ((start.limits.cap_dp - bound) * drive.MOST) first now
    pub since : IsSince drive start now
    pub come : (c : Cartridge) → drive.held first ≡ Some c → AreKnown end_ip places c × HasCome label c left after (So c)

  -- a walk begins at the newest index, with no link yet
  pub begun : (first : D) (places : List Construct) (So : Cartridge → List Index → Type 0) → ((c : Cartridge) → So c []) → IsSince drive start first
      → AreBetween 4 start.limits.cap_dp places → IfSome (drive.held first) (AreKnown end_ip places) → Going first first places places None So
  begun first places So so since between known = record {
    bound = start.limits.cap_dp;
    between = between;
    within = omega arith;
    looks = subst (λ (most : ℕ). Looks drive most first first) (none start.limits.cap_dp drive.MOST) (no_looks drive first since.commands);
    since = since;
    come = λ c h. let is = at_told (AreKnown end_ip places) h known in (is, begins end_ip places label c is (So c) (so c));
  }
    where
      none : (n k : ℕ) → 0 ≡ (n - n) * k
      none n k = let zero : n - n ≡ 0 = omega arith in subst (λ (m : ℕ). 0 ≡ m * k) (sym zero) (omega arith)

  module _ (first now : D) (places left rest : List Construct) (place : Construct) (after : Option ℕ) (So : Cartridge → List Index → Type 0)
      (going : Going first now places left after So) (split : left ≡ rest ++ place ∷ []) where
    pops : AreBetween 4 place.mark rest × (4 ≤ place.mark) × (place.first ≡ place.mark + 1) × (place.first + 2 ≤ place.after) × (place.after ≤ going.bound)
    pops = popped rest place 4 going.bound (subst (AreBetween 4 going.bound) split going.between)

    abbrev pub ReadsTo : D → Result Step MountErr → Type 0
    ReadsTo next r =
        IsStep drive start (place.after - place.first) now next
        (λ step c. (newer : List readings.Construct) (k : readings.Construct) (ks : List readings.Construct)
        → indexes_of c.dp ≡ newer ++ k ∷ ks → places_of k ≡ place → rest ≡ map places_of (reverse ks) → IsStepTo label c k ks after step)
        (IsSoundStep label end_ip place.mark) IsFree r

    -- the index to which a walk comes lies between the labels and the capacity
    pub in_place : IsInPlace start.limits.cap_dp place
    in_place = record { mark = pops.1; first = pops.2; block = pops.3; after = omega (arith, pops.4, going.within) }

    -- the mark of what was read lies within the capacity
    pub mark_within : place.mark ≤ start.limits.cap_dp
    mark_within = omega (arith, pops.2, pops.3, pops.4, going.within)

    -- on a cartridge that is told an index stands where the walk comes to
    pub known_there : IfSome (drive.held now) (λ c. HasIndexAt c.dp place × (end_ip ≡ ip_end c))
    known_there = by (drive.held now) refl
      where
        by : (o : Option Cartridge) → drive.held now ≡ o → IfSome o (λ c. HasIndexAt c.dp place × (end_ip ≡ ip_end c))
        by None is = tt
        by (Some c) is =
            let come = going.come c (sym going.looks.held ∙ is) in
            (stands_there end_ip places label c come.0 left rest place after (So c) come.1 split, come.0.end_is)

    all_looks : (next : D) → Looks drive ((place.after - place.first) * drive.MOST) now next
        → Looks drive ((start.limits.cap_dp - place.mark) * drive.MOST) first next
    all_looks next more =
        looks_more drive start _ (start.limits.cap_dp - place.mark) first next
        (omega (arith, pops.2, pops.3, pops.4, going.within))
        (subst (λ (most : ℕ). Looks drive most first next) (sum (start.limits.cap_dp - going.bound) (place.after - place.first) drive.MOST)
        (then_looks drive _ _ first now next going.looks more))
      where
        sum : (m n k : ℕ) → m * k + n * k ≡ (m + n) * k
        sum m n k = omega arith

    -- what was read of the index that stands there
    module _ (next : D) (r : Step) (read : ReadsTo next (Ok r)) (c : Cartridge) (h : drive.held first ≡ Some c) where
      abbrev come_to : AreKnown end_ip places c × HasCome label c left after (So c)
      come_to = going.come c h

      abbrev stands_next : (k : readings.Construct) × (older : List readings.Construct) × (behind (indexes_of c.dp) come_to.1.done ≡ k ∷ older)
          × (place ≡ places_of k) × (rest ≡ map places_of (reverse older))
      stands_next = next_is end_ip places label c come_to.0 left rest place after (So c) come_to.1 split

      read_to : IsStepTo label c stands_next.0 stands_next.1 after r
      read_to =
          let there = parts_there end_ip places label c come_to.0 left rest place after (So c) come_to.1 split in
          read.found c (going.looks.held ∙ h) there.0 stands_next.0 stands_next.1 there.1 (sym stands_next.3) stands_next.4

    -- an index that is a link, and what holds behind it
    pub goes : (next : D) (r : Step) (block : ℕ) (index : Index) (Next : Cartridge → List Index → Type 0) → r ≡ steps.Link block index
        → ReadsTo next (Ok r)
        → ((c : Cartridge) (done : List Index) (k : readings.Construct) (older : List readings.Construct) → behind (indexes_of c.dp) done ≡ k ∷ older
        → block ≡ first_of k → So c done → Next c (done ++ index ∷ []))
        → Going first next places rest (Some index.generation) Next
    goes next r block index Next linked read on = record {
      bound = place.mark;
      between = pops.0;
      within = mark_within;
      looks = all_looks next read.looks;
      since = read.since;
      come = λ c h.
          let come = going.come c h in
          let n = next_is end_ip places label c come.0 left rest place after (So c) come.1 split in
          let to = subst (IsStepTo label c n.0 n.1 after) linked (read_to next r read c h) in
          (come.0, goes_on end_ip places label c come.0 left rest place after (So c) come.1 split index (Next c) to.1 (on c come.1.done n.0 n.1 n.2 to.0 come.1.so));
    }

    -- ---- what is told of the way, and how it ends

    module _ {T : Type 0} (Tells : (c : Cartridge) → Found c → T → Type 0) (Holds : T → Type 0) where
      abbrev pub EndsAs : D → Result T MountErr → Type 0
      EndsAs next r =
          IsStep drive start start.limits.cap_dp first next
          (λ x c. (found : Found c) → found.labels.ip ≡ label → Tells c found x) Holds IsFree r

      -- the chain breaks here
      pub broken : (next : D) (r : Step) (block : ℕ) (why : BreakWhy) (x : T) → r ≡ steps.Broken block why
          → ReadsTo next (Ok r)
          → ((c : Cartridge) (found : Found c) (done : List Index) → IsBrokenBehind c found done block why → So c done → Tells c found x) → Holds x
          → EndsAs next (Ok x)
      broken next r block why x breaks_here read tells holds = record {
        found = λ c h. λ found same.
            let come = going.come c h in
            let n = next_is end_ip places label c come.0 left rest place after (So c) come.1 split in
            let to = subst (IsStepTo label c n.0 n.1 after) breaks_here (read_to next r read c h) in
            tells c found come.1.done
            (record {
              links_are = subst (λ (l : Label). AreLinks l c None (indexes_of c.dp) come.1.done) (sym same) come.1.links_are;
              k = n.0;
              older = n.1;
              stands = n.2;
              block_is = to.0;
              fails = subst (λ (l : Label). Breaks l c n.0 n.1 (last_generation None come.1.done) why) (sym same)
                  (subst (λ (o : Option ℕ). Breaks label c n.0 n.1 o why) come.1.after_is to.1);
            })
            come.1.so;
        any = holds;
        refused = tt;
        counts = record { later = read.counts.later; told = tt };
        looks = looks_more drive start (start.limits.cap_dp - place.mark) start.limits.cap_dp first next (omega arith) (all_looks next read.looks);
        since = read.since;
      }

      -- the way ends at this link
      pub reached : (next : D) (r : Step) (block : ℕ) (index : Index) (x : T) → r ≡ steps.Link block index
          → ReadsTo next (Ok r)
          → ((c : Cartridge) (found : Found c) (done : List Index) → EndsAt c found done block index → So c done → Tells c found x)
          → Holds x
          → EndsAs next (Ok x)
      reached next r block index x linked read tells holds = record {
        found = λ c h. λ found same.
            let come = going.come c h in
            let n = next_is end_ip places label c come.0 left rest place after (So c) come.1 split in
            let to = subst (IsStepTo label c n.0 n.1 after) linked (read_to next r read c h) in
            tells c found come.1.done
            (record {
              links_are = subst (λ (l : Label). AreLinks l c None (indexes_of c.dp) (come.1.done ++ index ∷ [])) (sym same)
                  (links_on end_ip places label c come.0 left rest place after (So c) come.1 split index to.1);
              k = n.0;
              older = n.1;
              stands = n.2;
              block_is = to.0;
              within = subst (λ (l : Label). AllByRecursion (IsBefore l c n.0) index.nodes) (sym same) to.1.within;
            })
            come.1.so;
        any = holds;
        refused = tt;
        counts = record { later = read.counts.later; told = tt };
        looks = looks_more drive start (start.limits.cap_dp - place.mark) start.limits.cap_dp first next (omega arith) (all_looks next read.looks);
        since = read.since;
      }

      -- the drive fails, or memory is refused
      pub stopped : (next : D) (e : MountErr)
          → ReadsTo next (Err e)
          → EndsAs next (Err e)
      stopped next e step = record {
        found = tt;
        any = tt;
        refused = λ c h. step.refused c (going.looks.held ∙ h);
        counts = record { later = step.counts.later; told = step.counts.told };
        looks = looks_more drive start (start.limits.cap_dp - place.mark) start.limits.cap_dp first next (omega arith) (all_looks next step.looks);
        since = step.since;
      }

      -- memory for what is told is refused
      pub unheard : (next : D) (r : Step)
          → ReadsTo next (Ok r)
          → EndsAs next (Err mount_errors.NoMemory)
      unheard next r step = record {
        found = tt;
        any = tt;
        refused = λ c h. tt;
        counts = record { later = step.counts.later; told = tt };
        looks = looks_more drive start (start.limits.cap_dp - place.mark) start.limits.cap_dp first next (omega arith) (all_looks next step.looks);
        since = step.since;
      }

  -- nothing is left
  pub ended : {T : Type 0} (Tells : (c : Cartridge) → Found c → T → Type 0) (Holds : T → Type 0) (first now : D) (places left : List Construct) (after : Option ℕ)
      (So : Cartridge → List Index → Type 0) (x : T) → Going first now places left after So → length left ≡ 0
      → ((c : Cartridge) (found : Found c) (links : List Index) → IsChain c found links → So c links → Tells c found x) → Holds x
      → IsStep drive start start.limits.cap_dp first now (λ x c. (found : Found c) → found.labels.ip ≡ label → Tells c found x) Holds IsFree (Ok x)
  ended Tells Holds first now places left after So x going none tells holds = record {
    found = λ c h. λ found same.
        let come = (going.come c h).1 in
        tells c found come.done
        (record {
          links_are = subst (λ (l : Label). AreLinks l c None (indexes_of c.dp) come.done) (sym same) come.links_are;
          whole = none_left (behind (indexes_of c.dp) come.done) left come.left_are none;
        })
        come.so;
    any = holds;
    refused = tt;
    counts = record { later = going.since.faults; told = tt };
    looks = looks_more drive start (start.limits.cap_dp - going.bound) start.limits.cap_dp first now (omega arith) going.looks;
    since = going.since;
  }
