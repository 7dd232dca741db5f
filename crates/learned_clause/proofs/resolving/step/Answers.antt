use Rattle.std.proofs.Common.{◌≡◌, ◌+◌, List, sym, ◌∙◌}
use Rattle.std.proofs.lemmas.Result.{IfOk-weaker}
use Rattle.farkas_cert.specs.Trees.{tree_of}
use Rattle.farkas_cert.specs.declared.literals.Lit.{Lit}
use Rattle.clause_form.specs.Derivations.{rows_of}
use Rattle.learned_clause.specs.Trails.{entries, entry, known_with}
use Rattle.learned_clause.specs.Resolvents.{IsResolved, IsWalk, resolved}
use Rattle.learned_clause.proofs.ResolutionLaws.{skip_resolved, step_resolved}
use Rattle.learned_clause.proofs.StepLaws.{step_below, step_known, walk_back, walk_skip}
use Rattle.learned_clause.proofs.resolving.step.Goals as goal

pub returns-then-not-is_on-clause-walk : goal.returns-then-not-is_on-clause-walk
returns-then-not-is_on-clause-walk c =
    let K = known_with c.args.clauses.now.clauses c.args.lemmas.now in
    let T = entries c.args.trail.now in
    walk_skip (rows_of c.args.clauses.now) K T c.args.marks.now (tree_of c.args.tree) c.args.k (entry c.at-entry.result) c.requires.walk c.requires.above c.at-entry.ensures (sym c.is_on.ensures ∙ c.if-not-is_on.true)

pub known-requires : goal.known-requires
known-requires c =
    let K = known_with c.args.clauses.now.clauses c.args.lemmas.now in
    let T = entries c.args.trail.now in
    step_known _ K T c.requires.trail c.args.k (entry c.at-entry.result) c.in-Some.number c.at-entry.ensures c.in-Some.is

pub mark_all-requires : goal.mark_all-requires
mark_all-requires c =
    let K = known_with c.args.clauses.now.clauses c.args.lemmas.now in
    let T = entries c.args.trail.now in
    step_below (rows_of c.args.clauses.now) K T c.args.marks.now c.args.k (entry c.at-entry.result) c.in-Some.number c.known.result.now c.requires.trail c.requires.walk.sized c.at-entry.ensures c.in-Some.is c.known.ensures

pub returns-clause-walk : goal.returns-clause-walk
returns-clause-walk c =
    let K = known_with c.args.clauses.now.clauses c.args.lemmas.now in
    let T = entries c.args.trail.now in
    let C = rows_of c.args.clauses.now in
    IfOk-weaker c.resolved.result (λ next. tree_of next ≡ resolved c.at-entry.result.lit c.in-Some.number (tree_of c.args.tree)) (λ next. IsWalk C K T c.mark_all.new.self (tree_of next) c.args.k) (λ next made. walk_back C K T c.args.marks.now c.mark_all.new.self (tree_of c.args.tree) (tree_of next) c.args.k (entry c.at-entry.result) c.in-Some.number c.known.result.now c.requires.trail c.requires.walk c.requires.above c.at-entry.ensures c.in-Some.is c.known.ensures c.mark_all.ensures made) c.resolved.ensures

pub returns-then-not-is_on-clause-resolved : goal.returns-then-not-is_on-clause-resolved
returns-then-not-is_on-clause-resolved c lits =
    let K = known_with c.args.clauses.now.clauses c.args.lemmas.now in
    let T = entries c.args.trail.now in
    skip_resolved K T lits c.args.marks.now c.args.k (entry c.at-entry.result) c.at-entry.ensures (sym c.is_on.ensures ∙ c.if-not-is_on.true)

pub returns-clause-resolved : goal.returns-clause-resolved
returns-clause-resolved c =
    let K = known_with c.args.clauses.now.clauses c.args.lemmas.now in
    let T = entries c.args.trail.now in
    let C = rows_of c.args.clauses.now in
    IfOk-weaker c.resolved.result (λ next. tree_of next ≡ resolved c.at-entry.result.lit c.in-Some.number (tree_of c.args.tree)) (λ next. (lits : List Lit) → IsResolved K T lits c.args.marks.now (c.args.k + 1) → IsResolved K T lits c.mark_all.new.self c.args.k) (λ next made lits. step_resolved C K T c.args.marks.now c.mark_all.new.self (tree_of c.args.tree) c.args.k (entry c.at-entry.result) c.in-Some.number c.known.result.now c.requires.trail c.requires.walk c.requires.above c.at-entry.ensures (sym c.is_on.ensures ∙ c.if-not-is_on.false) c.in-Some.is c.known.ensures c.mark_all.ensures lits) c.resolved.ensures
