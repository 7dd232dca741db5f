use Rattle.std.proofs.Common.{to_z, of_z, sym, ◌∙◌, ap, ◌&&◌, ℤ, Bool}
use Rattle.std.specs.Int.{w128}
use Rattle.clause_form.specs.Derivations.{rows_of}
use Rattle.cert_check.specs.Causes.{asked}
use Rattle.cert_check.proofs.LeafLaws.{bound_overflows, rows_closed, closed_cancels}
use Rattle.cert_check.proofs.leaves.of_bound.Goals as goal

pub returns-in-None-clause-found : goal.returns-in-None-clause-found
returns-in-None-clause-found c = λ parts are totals. sym (bound_overflows (rows_of c.args.clauses.now) parts c.args.sums.now c.args.total are c.requires totals c.in-None.is)

pub returns-in-Some-clause-found : goal.returns-in-Some-clause-found
returns-in-Some-clause-found c = λ parts are totals. rows_closed (rows_of c.args.clauses.now) parts c.args.sums.now c.args.total c.in-Some.bound c.cancel.result c.impossible.result c.closed.result are c.requires totals c.in-Some.is c.cancel.ensures c.impossible.ensures c.closed.ensures

pub returns-in-Some-clause-cleared : goal.returns-in-Some-clause-cleared
returns-in-Some-clause-cleared c = λ e. c.cancel.ensures.0 (closed_cancels c.cancel.result c.impossible.result (sym c.closed.ensures ∙ e))
