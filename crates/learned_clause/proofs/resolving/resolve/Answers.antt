use Rattle.std.proofs.Common.{◌≡◌, ℕ, ◌+◌, ◌-◌, arith, subst}
use Rattle.learned_clause.specs.Trails.{entries, known_with}
use Rattle.learned_clause.specs.Resolvents.{IsResolved}
use Rattle.learned_clause.proofs.resolving.resolve.Goals as goal

pub loop-marks-preserved : goal.loop-marks-preserved
loop-marks-preserved c =
    let K = known_with c.args.clauses.now.clauses c.args.lemmas.now in
    let T = entries c.args.trail.now in
    let more : c.loop-marks.k ≡ c.loop-marks.k - 1 + 1 = omega arith in record {
      walk = c.in_ok-tree.ensures.walk;
      resolved = λ lits start. c.in_ok-tree.ensures.resolved lits (subst (λ (n : ℕ). IsResolved K T lits c.loop-marks.marks n) more (c.loop-marks.invariant.resolved lits start));
    }

pub returns-clause-resolved : goal.returns-clause-resolved
returns-clause-resolved c lits start =
    let K = known_with c.args.clauses.now.clauses c.args.lemmas.now in
    let T = entries c.args.trail.now in
    let same : c.loop-marks.k ≡ c.loop-marks.marks.lowest = omega (arith, c.loop-marks.invariant.walk.above) in
    subst (λ (n : ℕ). IsResolved K T lits c.loop-marks.marks n) same (c.loop-marks.invariant.resolved lits start)
