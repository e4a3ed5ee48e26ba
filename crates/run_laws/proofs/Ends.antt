-- What a close says of the drive as its volume began it says of the drive as the run began.
use Rattle.std.specs.Prelude.{◌≡◌, ℕ, IfSome}
use Rattle.std.proofs.Common.{⊎_elim, inl, inr, subst}
use Rattle.tape_types.specs.declared.cartridges.Cartridge.{Cartridge}
use Rattle.plain_tree.specs.Tree.{Tree}
use Rattle.cartridge_meaning.specs.Carried.{carried}
use Rattle.cartridge_meaning.specs.declared.mounted.Mounted.{Mounted}
use Rattle.promises.specs.ServingPromise.Crash.{IsSound, Meaning}
use Rattle.promises.specs.ServingPromise.Ends.{IsDoneClose}
use Rattle.promises.specs.ServingPromise.Served.{Drive}

-- a close that is done says the same of the drive as the run began
pub done_since : (m : Meaning) (first start now : Drive) (mounted : Mounted) (before tree : Tree)
    (newest generation : ℕ) → first.held ≡ start.held → IsDoneClose m first now mounted before tree newest generation
    → IsDoneClose m start now mounted before tree newest generation
done_since m first start now mounted before tree newest generation same d = record {
  generation_is = d.generation_is;
  held = d.held;
  told = d.told;
  closed = d.closed;
  sound = subst (λ held. IfSome held (λ c. IsSound m c) → IsSound m d.held) same d.sound;
  alike = ⊎_elim inl
      (λ apart. inr (
        apart.0,
        apart.1,
        subst
            (λ held. IfSome held (λ (c : Cartridge). ¬ m.AreAlike c (carried mounted.index) before mounted.newest)) same
            apart.2,
      )) d.alike;
}
