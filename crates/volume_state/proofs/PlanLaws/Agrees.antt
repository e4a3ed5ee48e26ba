-- What the theory of crashes plans with.
use Rattle.std.proofs.Common.{◌≡◌, ℕ, ◌∙◌, List, ◌++◌, Option, refl, ap}
use Rattle.tape_types.specs.declared.cartridges.Cartridge.{Cartridge}
use Rattle.tape_types.specs.declared.cartridges.Item.{Item}
use Rattle.tape_types.specs.declared.cartridges.Part.{Part}
use Rattle.tape_types.specs.declared.cartridges.Part.TheVariants.{Ip, Dp}
use Rattle.index_model.specs.declared.indexes.Index.{Index}
use Rattle.extent_map.specs.Cells.{tape_of}
use Rattle.tape_layout.specs.declared.ops.Op.{Op}
use Rattle.promises.specs.ImageLaws.Made.{Made, cartridge_of, part_items}
use Rattle.promises.specs.ImageLaws.Starts.{made_of}
use Rattle.promises.specs.CrashLaws.Safe.{Follows, Planned, items_by}
use Rattle.promises.proofs.CrashLaws.Grown.{plans_grow}
use Rattle.volume_state.specs.PlanLaws.Laws.{PlansAgree}
use Rattle.volume_state.specs.PlanLaws.Planned.{Items, mounted_items, tape_on, with_ops}

agrees_at_start : (c : Cartridge) (on_ip : Option Index) (on_dp : Index) (part : Part)
    → mounted_items c part ≡ part_items part (made_of c on_ip on_dp)
agrees_at_start c on_ip on_dp Ip = refl
agrees_at_start c on_ip on_dp Dp = refl

agrees_on : (planned : Items) (p q : Planned) (asked : List Op)
    → ((part : Part) → part_items part p.made ≡ planned part) → Follows p q asked
    → (part : Part) → part_items part q.made ≡ with_ops asked planned part
agrees_on planned p q asked same follows part =
    plans_grow p q asked follows part ∙ ap (λ (l : List Item). l ++ items_by part asked) (same part)

same_tape : (s : Made) (part : Part) (pos byte : ℕ)
    → tape_of (cartridge_of s) part pos byte ≡ tape_on (λ (on : Part). part_items on s) part pos byte
same_tape s Ip pos byte = refl
same_tape s Dp pos byte = refl

-- what the theory of crashes plans with is this: at a start, with more ops, and as a tape
pub plans_agree : PlansAgree
plans_agree = record { begins = agrees_at_start; follows = agrees_on; tapes = same_tape }
