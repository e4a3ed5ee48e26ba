use Rattle.promises.proofs.ReplyLaws.SideFacts.{fault_isnt, full_isnt, other_bytes_isnt, it_is_true, read_is, sync_stays_true, synced_is}
use Rattle.promises.proofs.reply_laws.examples.the_sides_tell_replies.Goals as goal

pub returns-clause-read_is : goal.returns-clause-read_is
returns-clause-read_is c = read_is

pub returns-clause-other_bytes_isnt : goal.returns-clause-other_bytes_isnt
returns-clause-other_bytes_isnt c = other_bytes_isnt

pub returns-clause-fault_isnt : goal.returns-clause-fault_isnt
returns-clause-fault_isnt c = fault_isnt

pub returns-clause-full_isnt : goal.returns-clause-full_isnt
returns-clause-full_isnt c = full_isnt

pub returns-clause-synced_is : goal.returns-clause-synced_is
returns-clause-synced_is c = synced_is

pub returns-clause-sync_stays_true : goal.returns-clause-sync_stays_true
returns-clause-sync_stays_true c = sync_stays_true

pub returns-clause-it_is_true : goal.returns-clause-it_is_true
returns-clause-it_is_true c = it_is_true
