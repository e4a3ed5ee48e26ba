use Rattle.index_model.proofs.DamagedFacts.{highest_over, in_file, key_twice, late, name_taken, overlap, too_long, touching_fine, uid_over}
use Rattle.index_model.proofs.ArchiveFacts.{archive_is_valid}
use Rattle.index_model.proofs.examples.the_definitions_tell_valid_from_damaged.Goals as goal

pub returns-clause-valid : goal.returns-clause-valid
returns-clause-valid c = archive_is_valid

pub returns-clause-late : goal.returns-clause-late
returns-clause-late c = late

pub returns-clause-in_file : goal.returns-clause-in_file
returns-clause-in_file c = in_file

pub returns-clause-highest : goal.returns-clause-highest
returns-clause-highest c = highest_over

pub returns-clause-uid : goal.returns-clause-uid
returns-clause-uid c = uid_over

pub returns-clause-name : goal.returns-clause-name
returns-clause-name c = name_taken

pub returns-clause-key : goal.returns-clause-key
returns-clause-key c = key_twice

pub returns-clause-long : goal.returns-clause-long
returns-clause-long c = too_long

pub returns-clause-overlap : goal.returns-clause-overlap
returns-clause-overlap c = overlap

pub returns-clause-touching : goal.returns-clause-touching
returns-clause-touching c = touching_fine
