use Rattle.std.proofs.Common.{◌≤◌, ◌∙◌, List, length, ap, subst, arith}
use Rattle.farkas_cert.specs.declared.literals.Lit.{Lit}
use Rattle.clause_search.proofs.ExampleLaws.{AllBelow, are_below_all, named_formed, with_atoms}
use Rattle.clause_search.proofs.tests.named.Goals as goal

pub returns : goal.returns
returns c =
    let few : c.args.atoms ≤ 4096 = omega arith in
    let some : length c.args.clauses ≤ 1048576 = omega (arith, c.len.ensures) in
    named_formed c.args.atoms c.args.clauses c.over.result few some (are_below_all c.args.atoms c.args.clauses (subst (λ (cs : List (List Lit)). AllBelow c.args.atoms cs) c.as_slice.ensures (c.are_below.ensures.0 c.if-not-are_below.false))) (c.over.ensures ∙ ap (with_atoms c.args.clauses) c.in_ok-rows.ensures)
