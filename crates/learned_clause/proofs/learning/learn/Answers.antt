use Rattle.std.proofs.Common.{ℕ, length, sym, subst}
use Rattle.farkas_cert.specs.Trees.{tree_of}
use Rattle.clause_form.specs.Derivations.{rows_of}
use Rattle.clause_form.specs.Journals.{literals}
use Rattle.learned_clause.specs.Trails.{entries, known_with}
use Rattle.learned_clause.specs.Resolvents.{AreApart}
use Rattle.learned_clause.proofs.EndLaws.{exact_law, learned_law}
use Rattle.learned_clause.proofs.PlaceLaws.{trail_apart}
use Rattle.learned_clause.proofs.ResolutionLaws.{start_has}
use Rattle.learned_clause.proofs.learning.learn.Goals as goal

pub new-requires : goal.new-requires
new-requires c =
    let K = known_with c.args.clauses.now.clauses c.args.lemmas.now in
    let T = entries c.args.trail.now in
    subst (λ (n : ℕ). AreApart n T) (sym c.len.ensures) (trail_apart (length c.args.clauses.now.atoms) K T c.requires.trail)

pub resolve-requires-clause-walk : goal.resolve-requires-clause-walk
resolve-requires-clause-walk c =
    let K = known_with c.args.clauses.now.clauses c.args.lemmas.now in
    c.set_level.ensures.walk (rows_of c.args.clauses.now) K (tree_of c.begin-leaf.result) c.begin-leaf.ensures.begun

pub returns-clause-follows : goal.returns-clause-follows
returns-clause-follows c =
    let K = known_with c.args.clauses.now.clauses c.args.lemmas.now in
    let T = entries c.args.trail.now in
    learned_law (rows_of c.args.clauses.now) K T c.resolve.new.marks (tree_of c.in_ok-proof.proof) c.requires.trail c.in_ok-proof.ensures.walk c.in_ok-clause.clause c.least_cut-keep.result c.in_ok-clause.ensures c.least_cut-keep.ensures

pub returns-clause-exact : goal.returns-clause-exact
returns-clause-exact c =
    let K = known_with c.args.clauses.now.clauses c.args.lemmas.now in
    let T = entries c.args.trail.now in
    let atoms = length c.args.clauses.now.atoms in
    let lits = start_has (rows_of c.args.clauses.now) K (literals T) c.args.start c.requires.start in
    let on = c.begin-leaf.ensures.on lits.0 lits.1 in
    let level = c.set_level.ensures.resolved atoms K lits.0 c.requires.trail on in
    exact_law (rows_of c.args.clauses.now) K T c.resolve.new.marks (tree_of c.in_ok-proof.proof) c.requires.trail c.in_ok-proof.ensures.walk c.args.start lits.0 c.in_ok-clause.clause c.least_cut-keep.result c.in_ok-clause.ensures c.least_cut-keep.ensures lits.1 (c.in_ok-proof.ensures.resolved lits.0 level)
