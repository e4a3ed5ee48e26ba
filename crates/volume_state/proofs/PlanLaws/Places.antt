-- What is done at a place stays so.
use Rattle.std.proofs.Common.{◌≡◌, ⊎_elim, ◌∙◌, ◌||◌, Bool, true, false, List, ◌∷◌, ◌++◌, map, None, sym, arith}
use Rattle.std.specs.List.{list_any}
use Rattle.std.proofs.lemmas.Bool.{or_right, false_from_ne_true}
use Rattle.tape_types.specs.declared.cartridges.Place.{Place}
use Rattle.file_tree.specs.Blocks.{LiesBelow, TreeStandsIn}
use Rattle.file_tree.specs.Tree.{FileTree}
use Rattle.head_queue.specs.EventLaws.Trail.{puts_at}
use Rattle.tape_layout.specs.declared.ops.Op.{Op}
use Rattle.tape_layout.specs.Ops.{AreNext, held_in}
use Rattle.promises.specs.ServingPromise.Served.{headed}
use Rattle.held_volume.specs.Stocks.{ends_of}
use Rattle.volume_state.specs.PlanLaws.Laws.{PlacesStay}
use Rattle.volume_state.specs.PlanLaws.Planned.{IsDoneAt, IsPutBy, Items, NoMarks, ends_in, with_ops}
use Rattle.volume_state.proofs.PlanLaws.Marks.{put_by_either, puts_behind}
use Rattle.volume_state.proofs.PlanLaws.Stays.{further}

passed_not : (b : Bool) → b ≡ false → b ≡ true → ⊥
passed_not true failed passed = cc failed
passed_not false failed passed = cc passed

place_wanted : (planned : Items) (ops : List Op) (tree : FileTree) (place : Place)
    → LiesBelow (ends_of (ends_in planned)) tree → NoMarks ops tree → TreeStandsIn tree place.part place.pos
    → held_in place ops ≡ None → IsDoneAt planned ops place
place_wanted planned ops tree place below none stands free = record {
  below = below place.part place.pos stands;
  free =
      false_from_ne_true (list_any (puts_at place) (map headed ops))
      (λ put. let has = none place.part place.pos stands put in cc (sym has.1 ∙ free));
}

place_added : (planned : Items) (ops asked : List Op) (place : Place) → AreNext (ends_in planned) asked
    → IsDoneAt planned ops place → IsDoneAt (with_ops asked planned) (ops ++ asked) place
place_added planned ops asked place next d = record {
  below = further planned asked place.part place.pos d.below;
  free = false_from_ne_true (list_any (puts_at place) (map headed (ops ++ asked))) (λ put. ⊎_elim
      (λ (old : IsPutBy ops place). passed_not (list_any (puts_at place) (map headed ops)) d.free old)
      (λ (new : IsPutBy asked place). omega (arith, d.below, puts_behind asked (ends_in planned) place next new))
      (put_by_either place ops asked put));
}

place_done : (planned : Items) (op : Op) (ops : List Op) (place : Place) → IsDoneAt planned (op ∷ ops) place
    → IsDoneAt planned ops place
place_done planned op ops place d = record {
  below = d.below;
  free = false_from_ne_true (list_any (puts_at place) (map headed ops)) (λ put.
      passed_not (puts_at place (headed op) || list_any (puts_at place) (map headed ops)) d.free
      (or_right (puts_at place (headed op)) (list_any (puts_at place) (map headed ops)) put));
}

-- what is done at a place stays done as ops are added and done
pub places_stay : PlacesStay
places_stay = record { wanted = place_wanted; added = place_added; done = place_done }
