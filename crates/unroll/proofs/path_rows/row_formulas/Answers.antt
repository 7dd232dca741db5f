use Rattle.std.proofs.Common.{[], get_or, take, sym, subst}
use Rattle.std.specs.Prelude.{flat_map}
use Rattle.std.proofs.lemmas.List.{take_all, take_more}
use Rattle.claims.specs.Subjects.{part}
use Rattle.path_server.specs.Places.{rules}
use Rattle.path_server.specs.RowClaims.{claims_of_rule, row_claims}
use Rattle.path_server.specs.Servers.{server_of}
use Rattle.path_server.specs.declared.path_rules.PathRule.TheVariants.{Start}
use Rattle.unroll.specs.ClaimFormulas.{Adds}
use Rattle.unroll.proofs.FormulaLists.{added_more}
use Rattle.unroll.proofs.path_rows.row_formulas.Goals as goal

pub loop-rule-preserved : goal.loop-rule-preserved
loop-rule-preserved c =
    let s = c.args.shape.now in
    let k = c.loop-rule.rule-index in
    let claims = claims_of_rule part s.flows (server_of c.args.path.now) c.args.row in
    subst (λ xs. Adds s [] (flat_map claims xs) c.in_ok-formulas.formulas.items) (sym (take_more rules k Start c.loop-rule-test.true))
    (added_more s [] c.loop-rule.formulas.items c.in_ok-formulas.formulas.items claims (take k rules) (get_or rules k Start)
    c.loop-rule.invariant c.in_ok-formulas.ensures)

pub returns : goal.returns
unfolding row_claims
returns c =
    let s = c.args.shape.now in
    subst (λ xs. Adds s [] (flat_map (claims_of_rule part s.flows (server_of c.args.path.now) c.args.row) xs) c.loop-rule.formulas.items)
    (take_all c.loop-rule.rule-index rules c.loop-rule-test.false) c.loop-rule.invariant
