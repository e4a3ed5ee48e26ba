-- What was mounted has a tree.
use Rattle.std.proofs.Common.{◌≡◌, ◌∙◌, Bool, refl, sym, ap, subst, arith}
use Rattle.tape_types.specs.Cartridges.{IsLimits}
use Rattle.tape_types.specs.declared.cartridges.Cartridge.{Cartridge}
use Rattle.tape_types.specs.declared.cartridges.Limits.{Limits}
use Rattle.extent_map.specs.Cells.{tape_of}
use Rattle.file_tree.specs.Mounts.{CanMount}
use Rattle.file_tree.specs.Mounts as mounts
use Rattle.ltfs_label.specs.declared.Label.{Label}
use Rattle.mount_recover.specs.Lasts.{IsSoundMount}
use Rattle.mount_recover.proofs.MountedTree.{fits_can_mount}
use Rattle.cartridge_meaning.specs.Carried.{carried}
use Rattle.cartridge_meaning.specs.Mounts.{Mounts}
use Rattle.cartridge_meaning.specs.Pointers.{letter_of}
use Rattle.cartridge_meaning.specs.declared.mounted.Mounted.{Mounted}
use Rattle.commands.specs.BasicCommands.Listings.{IsListingOf, listing_of}
use Rattle.commands.specs.declared.basic_commands.lists.FoundTree.{FoundTree}

-- the index that was mounted can be made a tree
pub can_mount : (limits : Limits) (m : Mounted) → IsLimits limits → IsSoundMount limits m → CanMount m.index (m.label.index, m.label.dpart) m.label.block
can_mount limits m range sound =
    fits_can_mount m.label m.end_ip m.end_dp m.index sound.spelled sound.letters sound.valid (omega (arith, sound.ip_end.1, range.ip_most))
    (omega (arith, sound.dp_end.1, range.dp_most)) sound.fits

-- the tree of the index that is found is what the cartridge reads as
pub is_listing : (c : Cartridge) (m : Mounted) (found : FoundTree) → Mounts c m → mounts.IsTreeOf (m.label.index, m.label.dpart) m.label.block m.index found.tree
    → found.generation ≡ m.newest → found.spot ≡ record { letter = letter_of m.label m.chosen.part; block = m.chosen.pos }
    → (all : Bool) → IsListingOf c (listing_of all (tape_of c) found)
is_listing c m found is tree generation spot all = record {
  facts = carried is.found.index;
  reads = record {
    found = is.found;
    facts_are = refl;
    tree_is = (
      found.tree,
      subst (λ (l : Label). mounts.IsTreeOf (l.index, l.dpart) l.block is.found.index found.tree) is.label
          (subst (λ index. mounts.IsTreeOf (m.label.index, m.label.dpart) m.label.block index found.tree) is.index tree),
      refl,
    );
    generation_is = generation ∙ is.newest;
  };
  place = m.chosen;
  stands = sym is.chosen;
  spot = spot ∙ ap (λ (l : Label). record { letter = letter_of l m.chosen.part; block = m.chosen.pos }) is.label;
}
