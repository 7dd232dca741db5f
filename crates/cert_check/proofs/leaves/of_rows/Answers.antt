use Rattle.std.proofs.Common.{sym}
use Rattle.clause_form.specs.Derivations.{rows_of}
use Rattle.cert_check.proofs.LeafLaws.{rows_overflow}
use Rattle.cert_check.proofs.leaves.of_rows.Goals as goal

pub returns-in-Some-clause-found : goal.returns-in-Some-clause-found
returns-in-Some-clause-found c = λ parts are totals. sym (rows_overflow (rows_of c.args.clauses.now) parts c.args.sums.now c.in-Some.column are c.in-Some.ensures)
