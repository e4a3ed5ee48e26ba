use Rattle.std.proofs.Common.{refl, Ok}
use Rattle.plain_tree.specs.declared.calls.Call.TheVariants.{LockVolume, UnlockVolume, PermLock, Sync}
use Rattle.session_script.specs.declared.drafts.Draft.TheVariants.{Whole}
use Rattle.session_script.proofs.Arguments.{drafted}
use Rattle.session_script.proofs.drafts.read_call.Goals as goal

pub returns-in-Mkdir-One : goal.returns-in-Mkdir-One
returns-in-Mkdir-One c = drafted c.read_mkdir.result c.in-Mkdir-One.is-0 c.in-Mkdir-One.is-1 c.read_mkdir.ensures

pub returns-in-Create-One : goal.returns-in-Create-One
returns-in-Create-One c = drafted c.read_create.result c.in-Create-One.is-0 c.in-Create-One.is-1 c.read_create.ensures

pub returns-in-Write-Three : goal.returns-in-Write-Three
returns-in-Write-Three c = drafted c.read_write.result c.in-Write-Three.is-0 c.in-Write-Three.is-1 c.read_write.ensures

pub returns-in-Truncate-Two : goal.returns-in-Truncate-Two
returns-in-Truncate-Two c = drafted c.read_truncate.result c.in-Truncate-Two.is-0 c.in-Truncate-Two.is-1 c.read_truncate.ensures

pub returns-in-Read-Three : goal.returns-in-Read-Three
returns-in-Read-Three c = drafted c.read_read.result c.in-Read-Three.is-0 c.in-Read-Three.is-1 c.read_read.ensures

pub returns-in-List-One : goal.returns-in-List-One
returns-in-List-One c = drafted c.read_list.result c.in-List-One.is-0 c.in-List-One.is-1 c.read_list.ensures

pub returns-in-Stat-One : goal.returns-in-Stat-One
returns-in-Stat-One c = drafted c.read_stat.result c.in-Stat-One.is-0 c.in-Stat-One.is-1 c.read_stat.ensures

pub returns-in-Rename-Two : goal.returns-in-Rename-Two
returns-in-Rename-Two c = drafted c.read_rename.result c.in-Rename-Two.is-0 c.in-Rename-Two.is-1 c.read_rename.ensures

pub returns-in-Remove-One : goal.returns-in-Remove-One
returns-in-Remove-One c = drafted c.read_remove.result c.in-Remove-One.is-0 c.in-Remove-One.is-1 c.read_remove.ensures

pub returns-in-Setx-Three : goal.returns-in-Setx-Three
returns-in-Setx-Three c = drafted c.read_setx.result c.in-Setx-Three.is-0 c.in-Setx-Three.is-1 c.read_setx.ensures

pub returns-in-Getx-Two : goal.returns-in-Getx-Two
returns-in-Getx-Two c = drafted c.read_getx.result c.in-Getx-Two.is-0 c.in-Getx-Two.is-1 c.read_getx.ensures

pub returns-in-Dropx-Two : goal.returns-in-Dropx-Two
returns-in-Dropx-Two c = drafted c.read_dropx.result c.in-Dropx-Two.is-0 c.in-Dropx-Two.is-1 c.read_dropx.ensures

pub returns-in-Readonly-Two : goal.returns-in-Readonly-Two
returns-in-Readonly-Two c = drafted c.read_readonly.result c.in-Readonly-Two.is-0 c.in-Readonly-Two.is-1 c.read_readonly.ensures

pub returns-in-Lock-Nothing : goal.returns-in-Lock-Nothing
returns-in-Lock-Nothing c = drafted (Ok (Whole LockVolume)) c.in-Lock-Nothing.is-0 c.in-Lock-Nothing.is-1 refl

pub returns-in-Unlock-Nothing : goal.returns-in-Unlock-Nothing
returns-in-Unlock-Nothing c = drafted (Ok (Whole UnlockVolume)) c.in-Unlock-Nothing.is-0 c.in-Unlock-Nothing.is-1 refl

pub returns-in-Permlock-Nothing : goal.returns-in-Permlock-Nothing
returns-in-Permlock-Nothing c = drafted (Ok (Whole PermLock)) c.in-Permlock-Nothing.is-0 c.in-Permlock-Nothing.is-1 refl

pub returns-in-Sync-Nothing : goal.returns-in-Sync-Nothing
returns-in-Sync-Nothing c = drafted (Ok (Whole Sync)) c.in-Sync-Nothing.is-0 c.in-Sync-Nothing.is-1 refl
