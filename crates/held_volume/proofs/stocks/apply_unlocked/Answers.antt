use Rattle.std.proofs.Common.{Ok, ap, refl, sym, subst, ◌∙◌}
use Rattle.tape_types.specs.declared.texts.NoMemory.{NoMemory}
use Rattle.plain_tree.specs.Calls.{call_of_change}
use Rattle.plain_tree.specs.Refusals.{lock_refusal}
use Rattle.plain_tree.specs.declared.calls.Call.{Call}
use Rattle.plain_tree.specs.declared.calls.Call.TheVariants as asks
use Rattle.file_tree.proofs.PathLemmas.{some_same}
use Rattle.held_volume.specs.Applied.{IsApplied}
use Rattle.held_volume.specs.Stocks.{stocked}
use Rattle.held_volume.proofs.Asks.{dir_tried, file_tried}
use Rattle.held_volume.proofs.Stands.{same_tree, tried_applied, tried_leaves}
use Rattle.held_volume.proofs.stocks.apply_unlocked.Goals as goal

pub make-requires-clause-makes : goal.make-requires-clause-makes
make-requires-clause-makes c = (asks.Mkdir c.in-Mkdir.path.now, refl)

pub make-requires-clause-unlocked : goal.make-requires-clause-unlocked
make-requires-clause-unlocked c call made =
    ap (λ (asked : Call). lock_refusal c.args.tree.now.lock asked) (sym (some_same (asks.Mkdir c.in-Mkdir.path.now) call made)) ∙ ap (λ ch. lock_refusal c.args.tree.now.lock (call_of_change ch)) (sym c.in-Mkdir.is) ∙ c.requires

pub returns-in-Mkdir-clause-applied : goal.returns-in-Mkdir-clause-applied
returns-in-Mkdir-clause-applied c early g on st i =
    tried_applied c.args.tree.now c.make.new.tree c.args.layout.now c.args.frame.now c.note.new.frame (call_of_change c.args.change) (asks.Mkdir c.in-Mkdir.path.now) c.args.at
    c.make.result c.note.result (ap call_of_change c.in-Mkdir.is) (dir_tried c.args.tree.now c.make.new.tree c.args.at c.in-Mkdir.path.now c.make.result c.make.ensures.ok) c.note.ensures early g on st i

pub returns-in-Mkdir-clause-leaves : goal.returns-in-Mkdir-clause-leaves
returns-in-Mkdir-clause-leaves c =
    tried_leaves c.args.tree.now c.make.new.tree c.args.layout.now c.args.frame.now c.note.new.frame (asks.Mkdir c.in-Mkdir.path.now) c.args.at
    c.make.result c.note.result (dir_tried c.args.tree.now c.make.new.tree c.args.at c.in-Mkdir.path.now c.make.result c.make.ensures.ok) (c.make.ensures.err) c.note.ensures

pub make-requires-in-Create-clause-makes : goal.make-requires-in-Create-clause-makes
make-requires-in-Create-clause-makes c = (asks.Create c.in-Create.path.now, refl)

pub make-requires-in-Create-clause-unlocked : goal.make-requires-in-Create-clause-unlocked
make-requires-in-Create-clause-unlocked c call made =
    ap (λ (asked : Call). lock_refusal c.args.tree.now.lock asked) (sym (some_same (asks.Create c.in-Create.path.now) call made)) ∙ ap (λ ch. lock_refusal c.args.tree.now.lock (call_of_change ch)) (sym c.in-Create.is) ∙ c.requires

pub returns-in-Create-clause-applied : goal.returns-in-Create-clause-applied
returns-in-Create-clause-applied c early g on st i =
    tried_applied c.args.tree.now c.make-in-Create.new.tree c.args.layout.now c.args.frame.now c.note-in-Create.new.frame (call_of_change c.args.change) (asks.Create c.in-Create.path.now) c.args.at
    c.make-in-Create.result c.note-in-Create.result (ap call_of_change c.in-Create.is) (file_tried c.args.tree.now c.make-in-Create.new.tree c.args.at c.in-Create.path.now c.make-in-Create.result c.make-in-Create.ensures.ok) c.note-in-Create.ensures early g on st i

pub returns-in-Create-clause-leaves : goal.returns-in-Create-clause-leaves
returns-in-Create-clause-leaves c =
    tried_leaves c.args.tree.now c.make-in-Create.new.tree c.args.layout.now c.args.frame.now c.note-in-Create.new.frame (asks.Create c.in-Create.path.now) c.args.at
    c.make-in-Create.result c.note-in-Create.result (file_tried c.args.tree.now c.make-in-Create.new.tree c.args.at c.in-Create.path.now c.make-in-Create.result c.make-in-Create.ensures.ok) (c.make-in-Create.ensures.err) c.note-in-Create.ensures

pub truncate-requires : goal.truncate-requires
truncate-requires c = ap (λ ch. lock_refusal c.args.tree.now.lock (call_of_change ch)) (sym c.in-Truncate.is) ∙ c.requires

pub returns-in-Truncate-clause-applied : goal.returns-in-Truncate-clause-applied
returns-in-Truncate-clause-applied c early g on st i =
    tried_applied {E = NoMemory} c.args.tree.now c.truncate.new.tree c.args.layout.now c.args.frame.now c.note-in-Truncate.new.frame (call_of_change c.args.change) (asks.Truncate c.in-Truncate.path.now c.in-Truncate.length) c.args.at
    (Ok c.truncate.result) c.note-in-Truncate.result (ap call_of_change c.in-Truncate.is) (c.truncate.ensures) c.note-in-Truncate.ensures early g on st i

pub returns-in-Truncate-clause-leaves : goal.returns-in-Truncate-clause-leaves
returns-in-Truncate-clause-leaves c =
    tried_leaves {E = NoMemory} c.args.tree.now c.truncate.new.tree c.args.layout.now c.args.frame.now c.note-in-Truncate.new.frame (asks.Truncate c.in-Truncate.path.now c.in-Truncate.length) c.args.at
    (Ok c.truncate.result) c.note-in-Truncate.result (c.truncate.ensures) (tt) c.note-in-Truncate.ensures

pub rename-requires : goal.rename-requires
rename-requires c = ap (λ ch. lock_refusal c.args.tree.now.lock (call_of_change ch)) (sym c.in-Rename.is) ∙ c.requires

pub returns-in-Rename-clause-applied : goal.returns-in-Rename-clause-applied
returns-in-Rename-clause-applied c early g on st i =
    tried_applied c.args.tree.now c.rename.new.tree c.args.layout.now c.args.frame.now c.note-in-Rename.new.frame (call_of_change c.args.change) (asks.Rename c.in-Rename.from.now c.in-Rename.to.now) c.args.at
    c.rename.result c.note-in-Rename.result (ap call_of_change c.in-Rename.is) (c.rename.ensures.ok) c.note-in-Rename.ensures early g on st i

pub returns-in-Rename-clause-leaves : goal.returns-in-Rename-clause-leaves
returns-in-Rename-clause-leaves c =
    tried_leaves c.args.tree.now c.rename.new.tree c.args.layout.now c.args.frame.now c.note-in-Rename.new.frame (asks.Rename c.in-Rename.from.now c.in-Rename.to.now) c.args.at
    c.rename.result c.note-in-Rename.result (c.rename.ensures.ok) (same_tree c.args.tree.now c.rename.new.tree c.rename.result c.rename.ensures.err) c.note-in-Rename.ensures

pub remove-requires : goal.remove-requires
remove-requires c = ap (λ ch. lock_refusal c.args.tree.now.lock (call_of_change ch)) (sym c.in-Remove.is) ∙ c.requires

pub returns-in-Remove-clause-applied : goal.returns-in-Remove-clause-applied
returns-in-Remove-clause-applied c early g on st i =
    tried_applied {E = NoMemory} c.args.tree.now c.remove.new.tree c.args.layout.now c.args.frame.now c.note-in-Remove.new.frame (call_of_change c.args.change) (asks.Remove c.in-Remove.path.now) c.args.at
    (Ok c.remove.result) c.note-in-Remove.result (ap call_of_change c.in-Remove.is) (c.remove.ensures) c.note-in-Remove.ensures early g on st i

pub returns-in-Remove-clause-leaves : goal.returns-in-Remove-clause-leaves
returns-in-Remove-clause-leaves c =
    tried_leaves {E = NoMemory} c.args.tree.now c.remove.new.tree c.args.layout.now c.args.frame.now c.note-in-Remove.new.frame (asks.Remove c.in-Remove.path.now) c.args.at
    (Ok c.remove.result) c.note-in-Remove.result (c.remove.ensures) (tt) c.note-in-Remove.ensures

pub set_key-requires : goal.set_key-requires
set_key-requires c = ap (λ ch. lock_refusal c.args.tree.now.lock (call_of_change ch)) (sym c.in-Setx.is) ∙ c.requires

pub returns-in-Setx-clause-applied : goal.returns-in-Setx-clause-applied
returns-in-Setx-clause-applied c early g on st i =
    tried_applied c.args.tree.now c.set_key.new.tree c.args.layout.now c.args.frame.now c.note-in-Setx.new.frame (call_of_change c.args.change) (asks.Setx c.in-Setx.path.now c.in-Setx.key.now c.in-Setx.bytes.now) c.args.at
    c.set_key.result c.note-in-Setx.result (ap call_of_change c.in-Setx.is) (c.set_key.ensures.ok) c.note-in-Setx.ensures early g on st i

pub returns-in-Setx-clause-leaves : goal.returns-in-Setx-clause-leaves
returns-in-Setx-clause-leaves c =
    tried_leaves c.args.tree.now c.set_key.new.tree c.args.layout.now c.args.frame.now c.note-in-Setx.new.frame (asks.Setx c.in-Setx.path.now c.in-Setx.key.now c.in-Setx.bytes.now) c.args.at
    c.set_key.result c.note-in-Setx.result (c.set_key.ensures.ok) (c.set_key.ensures.err) c.note-in-Setx.ensures

pub drop_key-requires : goal.drop_key-requires
drop_key-requires c = ap (λ ch. lock_refusal c.args.tree.now.lock (call_of_change ch)) (sym c.in-Dropx.is) ∙ c.requires

pub returns-in-Dropx-clause-applied : goal.returns-in-Dropx-clause-applied
returns-in-Dropx-clause-applied c early g on st i =
    tried_applied {E = NoMemory} c.args.tree.now c.drop_key.new.tree c.args.layout.now c.args.frame.now c.note-in-Dropx.new.frame (call_of_change c.args.change) (asks.Dropx c.in-Dropx.path.now c.in-Dropx.key.now) c.args.at
    (Ok c.drop_key.result) c.note-in-Dropx.result (ap call_of_change c.in-Dropx.is) (c.drop_key.ensures) c.note-in-Dropx.ensures early g on st i

pub returns-in-Dropx-clause-leaves : goal.returns-in-Dropx-clause-leaves
returns-in-Dropx-clause-leaves c =
    tried_leaves {E = NoMemory} c.args.tree.now c.drop_key.new.tree c.args.layout.now c.args.frame.now c.note-in-Dropx.new.frame (asks.Dropx c.in-Dropx.path.now c.in-Dropx.key.now) c.args.at
    (Ok c.drop_key.result) c.note-in-Dropx.result (c.drop_key.ensures) (tt) c.note-in-Dropx.ensures

pub set_readonly-requires : goal.set_readonly-requires
set_readonly-requires c = ap (λ ch. lock_refusal c.args.tree.now.lock (call_of_change ch)) (sym c.in-Readonly.is) ∙ c.requires

pub returns-in-Readonly-clause-applied : goal.returns-in-Readonly-clause-applied
returns-in-Readonly-clause-applied c early g on st i =
    tried_applied {E = NoMemory} c.args.tree.now c.set_readonly.new.tree c.args.layout.now c.args.frame.now c.note-in-Readonly.new.frame (call_of_change c.args.change) (asks.Readonly c.in-Readonly.path.now c.in-Readonly.on) c.args.at
    (Ok c.set_readonly.result) c.note-in-Readonly.result (ap call_of_change c.in-Readonly.is) (c.set_readonly.ensures) c.note-in-Readonly.ensures early g on st i

pub returns-in-Readonly-clause-leaves : goal.returns-in-Readonly-clause-leaves
returns-in-Readonly-clause-leaves c =
    tried_leaves {E = NoMemory} c.args.tree.now c.set_readonly.new.tree c.args.layout.now c.args.frame.now c.note-in-Readonly.new.frame (asks.Readonly c.in-Readonly.path.now c.in-Readonly.on) c.args.at
    (Ok c.set_readonly.result) c.note-in-Readonly.result (c.set_readonly.ensures) (tt) c.note-in-Readonly.ensures

pub lock_volume-requires : goal.lock_volume-requires
lock_volume-requires c = ap (λ ch. lock_refusal c.args.tree.now.lock (call_of_change ch)) (sym c.in-LockVolume.is) ∙ c.requires

pub returns-in-LockVolume-clause-applied : goal.returns-in-LockVolume-clause-applied
returns-in-LockVolume-clause-applied c early g on st i =
    tried_applied {E = NoMemory} c.args.tree.now c.lock_volume.new.tree c.args.layout.now c.args.frame.now c.note-in-LockVolume.new.frame (call_of_change c.args.change) asks.LockVolume c.args.at
    (Ok (Ok c.lock_volume.result)) c.note-in-LockVolume.result (ap call_of_change c.in-LockVolume.is) (c.lock_volume.ensures) c.note-in-LockVolume.ensures early g on st i

pub returns-in-LockVolume-clause-leaves : goal.returns-in-LockVolume-clause-leaves
returns-in-LockVolume-clause-leaves c =
    tried_leaves {E = NoMemory} c.args.tree.now c.lock_volume.new.tree c.args.layout.now c.args.frame.now c.note-in-LockVolume.new.frame asks.LockVolume c.args.at
    (Ok (Ok c.lock_volume.result)) c.note-in-LockVolume.result (c.lock_volume.ensures) (tt) c.note-in-LockVolume.ensures

pub unlock_volume-requires : goal.unlock_volume-requires
unlock_volume-requires c = ap (λ ch. lock_refusal c.args.tree.now.lock (call_of_change ch)) (sym c.in-UnlockVolume.is) ∙ c.requires

pub returns-in-UnlockVolume-clause-applied : goal.returns-in-UnlockVolume-clause-applied
returns-in-UnlockVolume-clause-applied c early g on st i =
    tried_applied {E = NoMemory} c.args.tree.now c.unlock_volume.new.tree c.args.layout.now c.args.frame.now c.note-in-UnlockVolume.new.frame (call_of_change c.args.change) asks.UnlockVolume c.args.at
    (Ok (Ok c.unlock_volume.result)) c.note-in-UnlockVolume.result (ap call_of_change c.in-UnlockVolume.is) (c.unlock_volume.ensures) c.note-in-UnlockVolume.ensures early g on st i

pub returns-in-UnlockVolume-clause-leaves : goal.returns-in-UnlockVolume-clause-leaves
returns-in-UnlockVolume-clause-leaves c =
    tried_leaves {E = NoMemory} c.args.tree.now c.unlock_volume.new.tree c.args.layout.now c.args.frame.now c.note-in-UnlockVolume.new.frame asks.UnlockVolume c.args.at
    (Ok (Ok c.unlock_volume.result)) c.note-in-UnlockVolume.result (c.unlock_volume.ensures) (tt) c.note-in-UnlockVolume.ensures

pub seal_volume-requires : goal.seal_volume-requires
seal_volume-requires c = ap (λ ch. lock_refusal c.args.tree.now.lock (call_of_change ch)) (sym c.in-PermLock.is) ∙ c.requires

pub returns-in-PermLock-clause-applied : goal.returns-in-PermLock-clause-applied
returns-in-PermLock-clause-applied c early g on st i =
    tried_applied {E = NoMemory} c.args.tree.now c.seal_volume.new.tree c.args.layout.now c.args.frame.now c.note-in-PermLock.new.frame (call_of_change c.args.change) asks.PermLock c.args.at
    (Ok (Ok c.seal_volume.result)) c.note-in-PermLock.result (ap call_of_change c.in-PermLock.is) (c.seal_volume.ensures) c.note-in-PermLock.ensures early g on st i

pub returns-in-PermLock-clause-leaves : goal.returns-in-PermLock-clause-leaves
returns-in-PermLock-clause-leaves c =
    tried_leaves {E = NoMemory} c.args.tree.now c.seal_volume.new.tree c.args.layout.now c.args.frame.now c.note-in-PermLock.new.frame asks.PermLock c.args.at
    (Ok (Ok c.seal_volume.result)) c.note-in-PermLock.result (c.seal_volume.ensures) (tt) c.note-in-PermLock.ensures

pub write-requires : goal.write-requires
write-requires c = ap (λ ch. lock_refusal c.args.tree.now.lock (call_of_change ch)) (sym c.in-Write.is) ∙ c.requires

pub returns-in-Write-clause-applied : goal.returns-in-Write-clause-applied
returns-in-Write-clause-applied c early g on st i =
    subst (λ call. IsApplied early g on st call c.args.at (stocked c.args.tree.now c.args.layout.now c.args.frame.now) (stocked c.write.new.tree c.write.new.layout c.write.new.frame) c.write.result)
    (sym (ap call_of_change c.in-Write.is)) (c.write.ensures.applied early g on st i)
