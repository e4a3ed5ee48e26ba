-- What the owner of a drive allows.
use Rattle.std.specs.Prelude.{ℕ, ◌≡◌, ◌<◌, ◌+◌, ◌-◌, ◌^◌, List, [], Option, Some, None, slice_get}
use Rattle.std.proofs.Common.{refl, sym, ap, ◌∙◌, arith, inl, inr}
use Rattle.tape_types.specs.declared.cartridges.Cartridge.{Cartridge}
use Rattle.tape_types.specs.declared.cartridges.Item.{Item}
use Rattle.tape_types.specs.declared.cartridges.Part.TheVariants.{Dp}
use Rattle.tape_types.specs.declared.moments.Moment.{Moment}
use Rattle.plain_tree.specs.Tree.{Tree}
use Rattle.session_script.specs.declared.scripts.ScriptLine.{ScriptLine}
use Rattle.tape_drive.specs.Crashes.{LeavesAllowed, WithinWrite}
use Rattle.cartridge_meaning.specs.Carried.{Carried}
use Rattle.promises.specs.CrashLaws.May.{IsLeftBy}
use Rattle.fenced_drive.specs.Laws.{AllowsThePromise, ForbidsErasing}

-- each image that the owner allows is sound, and stands for a tree of some history
pub allows_the_promise : AllowsThePromise
allows_the_promise script moment facts tree image left = (
  left.sound,
  (
    left.history,
    left.placed,
    left.moments,
    record {
      count = left.count;
      not_before = omega arith;
      not_after = left.within;
      generation = left.generation;
      stands = left.stands;
    },
  ),
)

-- the data partition as a crash leaves it that comes directly after it was cut at its beginning
abbrev emptied : Cartridge → Cartridge → Cartridge
emptied held before = record {
  ip = before.ip;
  dp = [];
  vcr = held.vcr + 1;
  note_ip = before.note_ip;
  note_dp = before.note_dp;
}

is_within : (held before : Cartridge) (x : Item) → held.vcr < 2 ^ 64 - 1
    → WithinWrite Dp 0 x held before (emptied held before)
is_within held before x low = record {
  items = inr (inl (inl refl), record { by_one = refl; in_range = omega (arith, low) });
  rest = record { other_part = refl; note_ip = refl; note_dp = refl };
}

-- it has no label
pub forbids_erasing : (leaves : Cartridge → Type 0) → ForbidsErasing leaves
forbids_erasing leaves script moment facts tree held before x low left allowed =
    let image = emptied held before in
    let is = allowed before image left (is_within held before x low) in
    let none : None ≡ Some _ = is.stands.reads.found.forms.has.dp_record.stands.block in
    absurd (cc none)
