use Rattle.std.proofs.Common.{◌≡◌, ◌∙◌, sym, subst, IfErr, Ok, take}
use Rattle.std.proofs.lemmas.Result.{err_from_is_err_and}
use Rattle.std.proofs.lemmas.List.{take_all}
use Rattle.weighing.specs.First.{first}
use Rattle.weighing.proofs.Events.{first-flat_map, first_stops_at}
use Rattle.path_server.specs.Places.{Finds, examined, places_of_row, places_of_rule, rules}
use Rattle.path_server.specs.declared.admission.Admit.TheVariants.{Yes}
use Rattle.path_server.specs.declared.path_rules.PathRule.TheVariants.{Start}
use Rattle.path_server.proofs.AdmissionLaws.{finds_law, stops_law}
use Rattle.path_server.proofs.admission.examine_row.Goals as goal

pub returns-in_err-examine_rule-clause-exact : goal.returns-in_err-examine_rule-clause-exact
unfolding places_of_row
returns-in_err-examine_rule-clause-exact c =
    let p = err_from_is_err_and c.from_residual.result c.from_residual.ensures.1 in
    rw (p.1, p.2) (sym (first-flat_map (examined c.args.path.now c.args.run.now) (places_of_rule c.args.run.now c.args.row) rules
    ∙ first_stops_at (λ rule. first (examined c.args.path.now c.args.run.now) (places_of_rule c.args.run.now c.args.row rule)) _ rules
    c.loop-rule.rule-index Start c.loop-rule-test.true c.loop-rule.invariant
    (sym c.examine_rule.ensures ∙ c.in_err-examine_rule.was)))

pub returns-clause-exact : goal.returns-clause-exact
unfolding places_of_row
returns-clause-exact c =
    let all : take c.loop-rule.rule-index rules ≡ rules = take_all c.loop-rule.rule-index rules c.loop-rule-test.false in
    sym (first-flat_map (examined c.args.path.now c.args.run.now) (places_of_rule c.args.run.now c.args.row) rules
    ∙ subst (λ xs. first (λ rule. first (examined c.args.path.now c.args.run.now) (places_of_rule c.args.run.now c.args.row rule)) xs ≡ Ok tt) all c.loop-rule.invariant)

pub returns-in_err-examine_rule-clause-means : goal.returns-in_err-examine_rule-clause-means
returns-in_err-examine_rule-clause-means c =
    subst (Finds c.args.path.now c.args.run.now (places_of_row c.args.run.now c.args.row)) (sym (returns-in_err-examine_rule-clause-exact c))
    (finds_law c.args.path.now c.args.run.now (places_of_row c.args.run.now c.args.row) c.requires.path_in)

pub returns-clause-means : goal.returns-clause-means
returns-clause-means c =
    subst (Finds c.args.path.now c.args.run.now (places_of_row c.args.run.now c.args.row)) (sym (returns-clause-exact c))
    (finds_law c.args.path.now c.args.run.now (places_of_row c.args.run.now c.args.row) c.requires.path_in)

pub returns-in_err-examine_rule-clause-stops : goal.returns-in_err-examine_rule-clause-stops
returns-in_err-examine_rule-clause-stops c =
    subst (λ found. IfErr found (λ stop. stop ≡ Yes → ⊥)) (sym (returns-in_err-examine_rule-clause-exact c))
    (stops_law c.args.path.now c.args.run.now (places_of_row c.args.run.now c.args.row))
