use Rattle.std.proofs.Common.{◌≡◌, ◌++◌, List, get_or, ap, ◌∙◌, string_bytes}
use Rattle.farkas_cert.specs.declared.literals.Lit.{Lit}
use Rattle.smt_text.specs.Texts.{listed, clause_text}
use Rattle.smt_text.proofs.WritingLaws.{listed_goes_on, listed_is_done}
use Rattle.smt_text.proofs.problems.put_clauses.Goals as goal

pub loop-clause-preserved : goal.loop-clause-preserved
loop-clause-preserved c =
    let now = string_bytes c.loop-clause.out in
    listed_goes_on clause_text c.clause-item.result c.args.clauses.now c.loop-clause.clause-index (string_bytes c.args.out.now) now (string_bytes c.put_clause.new.out) (listed clause_text c.args.clauses.now)
    c.loop-clause-test.true c.loop-clause.invariant (c.in_ok-put_clause.ensures ∙ ap (λ (lits : List Lit). now ++ clause_text lits) (c.as_slice.ensures ∙ c.clause-item.is))

pub returns : goal.returns
returns c =
    listed_is_done clause_text c.args.clauses.now c.loop-clause.clause-index (string_bytes c.args.out.now) (string_bytes c.loop-clause.out) (listed clause_text c.args.clauses.now) c.loop-clause-test.false c.loop-clause.invariant
