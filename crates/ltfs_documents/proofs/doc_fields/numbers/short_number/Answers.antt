use Rattle.std.proofs.Common.{sym, arith}
use Rattle.ltfs_documents.specs.DocFields.Numbers.{number_at}
use Rattle.ltfs_documents.proofs.DocFields.NumberLemmas.{of_none, of_good}
use Rattle.ltfs_documents.proofs.doc_fields.numbers.short_number.Goals as goal

pub returns-then-end-at-clause-value : goal.returns-then-end-at-clause-value
unfolding number_at
returns-then-end-at-clause-value c = rw (c.requires.is, c.if-end-at.true, c.syntax.ensures) (sym (of_none c.args.at c.args.number))

pub returns-clause-value : goal.returns-clause-value
unfolding number_at
returns-clause-value c = rw c.requires.is (sym (of_good c.args.at c.args.number c.args.end (omega arith) (omega arith) (omega (arith, c.ranges.number.fits))))
