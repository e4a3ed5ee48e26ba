-- What an end of a command says of its status and of what is told.
use Rattle.std.proofs.Common.{◌≡◌, ◌∙◌, ℕ, ◌≤◌, ◌++◌, List, [], ◌∷◌, Option, Some, None, codes, refl, sym, ap, subst, inl, inr, arith}
use Rattle.std.specs.Prelude.{IfSome}
use Rattle.std.specs.Io.KnownBytes.{Appends}
use Rattle.tape_types.specs.Counts.{IsRise, Rose}
use Rattle.tape_types.specs.declared.cartridges.Cartridge.{Cartridge}
use Rattle.tape_types.specs.declared.cartridges.Twin.{Twin}
use Rattle.index_model.specs.declared.indexes.Index.{Index}
use Rattle.ltfs_label.specs.declared.Label.{Label}
use Rattle.plain_tree.specs.Tree.{Tree}
use Rattle.cartridge_meaning.specs.Meaning.{Found, IsTreeOf}
use Rattle.cartridge_meaning.specs.Pointers.{indexes_of}
use Rattle.cartridge_meaning.specs.declared.labels.Labels.{Labels}
use Rattle.cartridge_meaning.specs.declared.errors.MountErr.{MountErr}
use Rattle.cartridge_meaning.specs.declared.errors.MountErr.TheVariants as mounts
use Rattle.cartridge_meaning.proofs.OneFault.{found_no_fault}
use Rattle.cartridge_meaning.proofs.OneWay.{same_labels}
use Rattle.generation_view.specs.Chain.{AreLinks, GenTree, IsChain, IsWayTo}
use Rattle.generation_view.specs.Told.{AreCounts, IsCheck, RefusesChain}
use Rattle.generation_view.specs.Views.{RefusesView}
use Rattle.generation_view.specs.declared.errors.ViewErr.{ViewErr}
use Rattle.generation_view.specs.declared.errors.ViewErr.TheVariants as errors
use Rattle.generation_view.proofs.Ends.{has_or_lacks, way_or_broken, whole_or_broken}
use Rattle.commands.specs.BasicCommands.Headline.{IsDriveFaultPrinted}
use Rattle.commands.specs.BasicCommands.Labels.{mount_status, mount_text}
use Rattle.commands.specs.BasicCommands.Runs.{IsOneOf}
use Rattle.commands.proofs.BasicCommands.MountClauses.{mount_known}
use Rattle.generation_view.specs.ViewCommands.Promises.{IsFaultPrinted}
use Rattle.generation_view.specs.ViewCommands.Texts.{view_status, view_text}

-- ---- statuses

-- 3 for what is wrong, 4 for the drive, 7 for want of memory
pub view_known : (e : ViewErr) → IsOneOf (view_status e) (3 ∷ 4 ∷ 7 ∷ [])
view_known (errors.Mount e) = mount_known e
view_known (errors.Broken place why) = inl refl
view_known (errors.NoGeneration number) = inl refl
view_known (errors.Drive counts) = inr (inl refl)
view_known errors.NoMemory = inr (inr (inl refl))

isnt : (n m : ℕ) → IsOneOf n (3 ∷ 4 ∷ 7 ∷ []) → (3 ≡ m → ⊥) → (4 ≡ m → ⊥) → (7 ≡ m → ⊥) → n ≡ m → ⊥
isnt n m (inl is) three four seven same = three (sym is ∙ same)
isnt n m (inr (inl is)) three four seven same = four (sym is ∙ same)
isnt n m (inr (inr (inl is))) three four seven same = seven (sym is ∙ same)
isnt n m (inr (inr (inr none))) three four seven same = none

-- so it is none of the others
pub view_isnt : (e : ViewErr) (n : ℕ) → (3 ≡ n → ⊥) → (4 ≡ n → ⊥) → (7 ≡ n → ⊥) → view_status e ≡ n → ⊥
view_isnt e n = isnt (view_status e) n (view_known e)

-- a check has the status 3
check_three : (e : MountErr) → IsCheck e → mount_status e ≡ 3
check_three (mounts.Drive counts) check = absurd check
check_three mounts.NoMemory check = absurd check
check_three (mounts.Vol1 part) check = refl
check_three (mounts.Label part) check = refl
check_three mounts.LabelsDiffer check = refl
check_three (mounts.Layout place) check = refl
check_three mounts.NoIndex check = refl
check_three (mounts.BadIndex place why) check = refl
check_three (mounts.WrongVolume place) check = refl
check_three (mounts.WrongPointer place) check = refl
check_three (mounts.BadExtent uid) check = refl

-- ---- what is told with 4 and with 7

abbrev drive_line : (before after : ℕ) → List ℕ
drive_line before after = mount_text (mounts.Drive (record { before = before; after = after }))

-- where a view ends with status 4, the fault of the drive is printed
pub drive_told : (e : ViewErr) (before now : ℕ) (old new : Option (List ℕ)) → AreCounts before now e → (view_status e ≡ 4) × Appends old new (view_text e)
    → IsDriveFaultPrinted before now old new
drive_told (errors.Mount e) before now old new counts told = let clash : 3 ≡ 4 = sym (check_three e counts) ∙ told.0 in absurd (cc clash)
drive_told (errors.Broken place why) before now old new counts told = absurd (cc told.0)
drive_told (errors.NoGeneration number) before now old new counts told = absurd (cc told.0)
drive_told (errors.Drive said) before now old new counts told = (
  counts.2,
  subst (λ n. Appends old new (drive_line n now)) counts.0 (subst (λ n. Appends old new (drive_line said.before n)) counts.1 told.1),
)
drive_told errors.NoMemory before now old new counts told = absurd (cc told.0)

-- the same, with the numbers as they are told
pub fault_told : (before now : ℕ) (old new : Option (List ℕ)) → IsDriveFaultPrinted before now old new → IsFaultPrinted before now old new
fault_told before now old new (rose, told) =
    (record { before = before; after = now }, record { lowest = omega arith; rose = rose; highest = omega arith }, told)

-- where a view ends with status 7, the want of memory is printed
pub memory_told : (e : ViewErr) (before now : ℕ) (old new : Option (List ℕ)) → AreCounts before now e → (view_status e ≡ 7) × Appends old new (view_text e)
    → Appends old new (codes "memory\n")
memory_told (errors.Mount e) before now old new counts told = let clash : 3 ≡ 7 = sym (check_three e counts) ∙ told.0 in absurd (cc clash)
memory_told (errors.Broken place why) before now old new counts told = absurd (cc told.0)
memory_told (errors.NoGeneration number) before now old new counts told = absurd (cc told.0)
memory_told (errors.Drive said) before now old new counts told = absurd (cc told.0)
memory_told errors.NoMemory before now old new counts told = told.1

-- ---- what is found of a cartridge in one way is found in another

module _ (c : Cartridge) (f g : Found c) where
  one_label : f.labels.ip ≡ g.labels.ip
  one_label = ap (λ (l : Labels). l.ip) (same_labels c f g)

  pub way_moves : (generation : ℕ) (newer : List Index) (index : Index) → IsWayTo c f generation newer index → IsWayTo c g generation newer index
  way_moves generation newer index way = record {
    links_are = subst (λ (l : Label). AreLinks l c None (indexes_of c.dp) (newer ++ index ∷ [])) one_label way.links_are;
    are_newer = way.are_newer;
    is_not = way.is_not;
  }

  pub chain_moves : (links : List Index) → IsChain c f links → IsChain c g links
  chain_moves links chain = record {
    links_are = subst (λ (l : Label). AreLinks l c None (indexes_of c.dp) links) one_label chain.links_are;
    whole = chain.whole;
  }

-- ---- nothing is refused that is there

-- where the chain is whole and no command failed, `generations` ends with status 0 or 7
pub chain_done : (c : Cartridge) (before now : ℕ) (e : ViewErr) (found : Found c) (links : List Index) → IsChain c found links → RefusesChain e c
    → AreCounts before now e → ¬ (Rose before now) → IsOneOf (view_status e) (0 ∷ 7 ∷ [])
chain_done c before now (errors.Mount e) found links chain fault counts still = absurd (found_no_fault c e found fault)
chain_done c before now (errors.Broken place why) found links chain broken counts still =
    absurd (whole_or_broken c broken.1.0 links broken.1.1 place.pos why (chain_moves c found broken.1.0 links chain) broken.1.2)
chain_done c before now (errors.NoGeneration number) found links chain none counts still = absurd none
chain_done c before now (errors.Drive said) found links chain free counts still = absurd (still counts.2)
chain_done c before now errors.NoMemory found links chain free counts still = inr (inl refl)

-- where the generation is there and no command failed, `view` ends with status 0 or 7
pub view_done : (c : Cartridge) (generation before now : ℕ) (e : ViewErr) (found : Found c) (tree : Tree) → GenTree c found generation tree
    → RefusesView generation e c → AreCounts before now e → ¬ (Rose before now) → IsOneOf (view_status e) (0 ∷ 7 ∷ [])
view_done c generation before now (errors.Mount e) found tree gen fault counts still = absurd (found_no_fault c e found fault)
view_done c generation before now (errors.Broken place why) found tree gen broken counts still =
    absurd (way_or_broken c broken.1.0 generation gen.newer gen.index place.pos why (way_moves c found broken.1.0 generation gen.newer gen.index gen.way) broken.1.1)
view_done c generation before now (errors.NoGeneration number) found tree gen lacks counts still =
    absurd (has_or_lacks c lacks.1.0 generation gen.newer gen.index (way_moves c found lacks.1.0 generation gen.newer gen.index gen.way) gen.generation_is lacks.1.1)
view_done c generation before now (errors.Drive said) found tree gen free counts still = absurd (still counts.2)
view_done c generation before now errors.NoMemory found tree gen free counts still = inr (inl refl)
