use Rattle.std.proofs.Common.{rules, ◌≡◌, length}
use Rattle.vol_label.proofs.TableLemmas.{written, record_of-record}
use Rattle.vol_label.proofs.encode.Goals as goal

pub returns-clause-bytes : goal.returns-clause-bytes
returns-clause-bytes c =
    let volume : length c.args.label.now.volume ≡ 6 = search rules in
    let owner : length c.args.label.now.owner ≡ 14 = search rules in
    written c.put.new.bytes c.put-2.new.bytes c.put-3.new.bytes c.put-4.new.bytes c.put-5.new.bytes c.put-6.new.bytes c.args.label.now volume owner
    c.put.ensures c.put-2.ensures c.put-3.ensures c.put-4.ensures c.put-5.ensures c.put-6.ensures

pub returns-clause-decodes : goal.returns-clause-decodes
returns-clause-decodes c =
    let volume : length c.args.label.now.volume ≡ 6 = search rules in
    let owner : length c.args.label.now.owner ≡ 14 = search rules in
    rw (returns-clause-bytes c) (record_of-record c.args.label.now volume owner c.requires)
