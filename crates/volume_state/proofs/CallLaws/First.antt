-- What is planned first: what the mount found, or blocks of zeros up to its ends where the drive tells no cartridge.
use Rattle.std.specs.Prelude.{ℕ, zero, suc, ◌≡◌, ◌<◌, ◌≤◌, List, [], ◌∷◌, take, Option, Some, None, IfSome, slice_get}
use Rattle.std.proofs.Common.{refl, sym, ap, subst, ◌∙◌, arith}
use Rattle.std.proofs.lemmas.Option.{same_Some}
use Rattle.tape_types.specs.declared.cartridges.Cartridge.{Cartridge}
use Rattle.tape_types.specs.declared.cartridges.Limits.{Limits}
use Rattle.tape_types.specs.declared.cartridges.Part.{Part}
use Rattle.tape_types.specs.declared.cartridges.Part.TheVariants.{Dp, Ip}
use Rattle.extent_map.specs.Cells.{Tape, byte_in, tape_of}
use Rattle.file_tree.specs.Blocks.{AgreeBelow, LiesBelow}
use Rattle.file_tree.specs.Mounts.{IsTreeOf}
use Rattle.file_tree.specs.Tree.{plain_of, whole}
use Rattle.ltfs_label.specs.declared.Label.{Label}
use Rattle.cartridge_meaning.specs.Carried.{carried}
use Rattle.cartridge_meaning.specs.Meaning.{Reads, dp_end, ip_end}
use Rattle.cartridge_meaning.specs.Mounts.{Mounts}
use Rattle.cartridge_meaning.specs.declared.mounted.Mounted.{Mounted}
use Rattle.plain_tree.specs.Tree.{Tree}
use Rattle.space_laws.specs.Standing.{Given, first_standing}
use Rattle.held_volume.specs.Mounted.{StartsFrom, letters_of, mounted_ends, mounted_facts}
use Rattle.held_volume.specs.Stocks.{IsStock, Stocked, ends_of}
use Rattle.held_volume.proofs.MountLaws.{mounts_are_stock}
use Rattle.volume_state.specs.PlanLaws.Planned.{IsOnWay, Items, ends_in, mounted_items, tape_on}
use Rattle.volume_state.proofs.PlanLaws.Ways.{ways_go_on}
use Rattle.volume_state.proofs.DueLaws.Tapes.{go_by_the_tape}
use Rattle.volume_state.specs.CallLaws.StartLaws.{first_tape}
use Rattle.volume_state.proofs.CallLaws.Near.{blank_ends, blanks, blanks_are_whole}

-- the same stands before the place where a list is cut
cut_get : {X : Type 0} (n : ℕ) (l : List X) (i : ℕ) → i < n → slice_get l i ≡ slice_get (take n l) i
cut_get zero l i less = absurd (omega (arith, less))
cut_get (suc n) [] i less = refl
cut_get (suc n) (x ∷ l) zero less = refl
cut_get (suc n) (x ∷ l) (suc i) less = cut_get n l i (omega (arith, less))

-- below the ends the cartridge has what was mounted
agrees : (c : Cartridge) (m : Mounted) → Mounts c m
    → AgreeBelow (ends_of (mounted_ends m)) (tape_of c) (tape_on (mounted_items c))
agrees c m h Ip pos byte within =
    ap (λ o. byte_in o byte) (cut_get (ip_end c) c.ip pos (omega (arith, within, h.ip_end)))
agrees c m h Dp pos byte within =
    ap (λ o. byte_in o byte) (cut_get (dp_end c) c.dp pos (omega (arith, within, h.dp_end)))

-- what is planned, from what the drive told
abbrev pub first_items : Option Cartridge → Mounted → Items
first_items (Some c) m = mounted_items c
first_items None m = blanks m.label.block (mounted_ends m)

-- what is known of it
pub record IsFirst (told : Option Cartridge) (m : Mounted) (tree : Tree) (g : Given) (s : Stocked) : Type 0 where
  pub ends : ends_in (first_items told m) ≡ mounted_ends m
  pub stock : IsStock (tape_on (first_items told m)) g m.ip_on (first_standing g) s
  pub way : (c : Cartridge) → told ≡ Some c → IsOnWay (first_items told m) [] c
  pub items : (c : Cartridge) → told ≡ Some c → (part : Part) → mounted_items c part ≡ first_items told m part
  pub mounts : (c : Cartridge) → told ≡ Some c → Mounts c m
  pub reads_as : IfSome told (λ c. Reads c (carried m.index) tree m.newest)

module _ (limits : Limits) (m : Mounted) (some : 1 ≤ m.label.block) (tree : Tree) (g : Given)
    (mounted_is : g.mounted ≡ mounted_facts m) (limits_are : g.limits ≡ limits) (tree_is : g.tree ≡ tree) (s : Stocked)
    (stands : (tape : Tape) → StartsFrom tape limits m g → IsStock tape g m.ip_on (first_standing g) s)
    (is : IsTreeOf (letters_of m) m.label.block m.index s.tree) where
  stands_on : (told : Option Cartridge) → tree ≡ plain_of (first_tape told) s.tree
      → IsStock (first_tape told) g m.ip_on (first_standing g) s
  stands_on told plain = stands (first_tape told)
      (mounts_are_stock (first_tape told) limits m g s.tree is mounted_is limits_are (tree_is ∙ plain))

  ends_are : (first_standing g).space.ends ≡ mounted_ends m
  ends_are = ap (λ f. f.ends) mounted_is

  reads : (c : Cartridge) → Mounts c m → tree ≡ plain_of (tape_of c) s.tree → Reads c (carried m.index) tree m.newest
  reads c h plain =
      let label = h.found.labels.ip in
      let mounted = subst (λ (l : Label). IsTreeOf (l.index, l.dpart) l.block m.index s.tree) h.label is in
      record {
        found = h.found;
        facts_are = ap (λ index. carried index) h.index;
        tree_is = (
          s.tree,
          subst (λ index. IsTreeOf (label.index, label.dpart) label.block index s.tree) h.index mounted,
          plain,
        );
        generation_is = h.newest;
      }

  is_first_told : (c : Cartridge) → Mounts c m → tree ≡ plain_of (tape_of c) s.tree → IsFirst (Some c) m tree g s
  is_first_told c h plain = record {
    ends = ways_go_on.mounted c m h;
    stock = go_by_the_tape.below (tape_of c) (tape_on (mounted_items c)) g m.ip_on (first_standing g) s
        (subst (λ e. AgreeBelow (ends_of e) (tape_of c) (tape_on (mounted_items c))) (sym ends_are) (agrees c m h))
        (stands_on (Some c) plain);
    way = λ d e. subst (λ d. IsOnWay (mounted_items c) [] d) (same_Some c d e) (ways_go_on.begins c m h);
    items = λ d e part. ap (λ d. mounted_items d part) (sym (same_Some c d e));
    mounts = λ d e. subst (λ d. Mounts d m) (same_Some c d e) h;
    reads_as = reads c h plain;
  }

  is_first_untold : tree ≡ plain_of whole s.tree → IsFirst None m tree g s
  is_first_untold plain =
      let i = stands_on None plain in
      record {
        ends = blank_ends m.label.block (mounted_ends m);
        stock = record {
          plain = blanks_are_whole (letters_of m) m.label.block m.index s.tree (mounted_ends m) some is
              (subst (λ e. LiesBelow (ends_of e) s.tree) ends_are i.below)
              ∙ i.plain;
          files = i.files;
          layout = i.layout;
          frame = i.frame;
          name = i.name;
          block_size = i.block_size;
          below = i.below;
        };
        way = λ d e. absurd (let wrong : None ≡ Some d = e in cc);
        items = λ d e part. absurd (let wrong : None ≡ Some d = e in cc);
        mounts = λ d e. absurd (let wrong : None ≡ Some d = e in cc);
        reads_as = tt;
      }

  -- what is planned first has the ends of the mount, and holds and reads as its tree
  pub is_first : (told : Option Cartridge) → IfSome told (λ c. Mounts c m) → tree ≡ plain_of (first_tape told) s.tree
      → IsFirst told m tree g s
  is_first (Some c) mounts plain = is_first_told c mounts plain
  is_first None mounts plain = is_first_untold plain
