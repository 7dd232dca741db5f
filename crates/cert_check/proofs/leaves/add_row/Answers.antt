use Rattle.clause_form.specs.Derivations.{rows_of, terms_of}
use Rattle.cert_check.proofs.SumLaws.{added_row}
use Rattle.cert_check.proofs.LeafLaws.{far_terms}
use Rattle.cert_check.proofs.leaves.add_row.Goals as goal

pub returns-else-row-clauses-clause-sums : goal.returns-else-row-clauses-clause-sums
returns-else-row-clauses-clause-sums c = λ j. added_row c.args.mult c.args.row.factor c.as_slice-else-row-clauses.result.now (terms_of (rows_of c.args.clauses.now) c.args.row.form) j _ _ c.ranges.mult c.requires.small.factor (far_terms (rows_of c.args.clauses.now) c.args.row.form _ c.as_slice.result.now c.as_slice-else-row-clauses.result.now c.if-row-clauses.false c.requires.small.form c.as_slice.ensures c.as_slice-else-row-clauses.ensures) (c.add_terms-else-row-clauses.ensures.sums j)
