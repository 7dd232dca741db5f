use Rattle.std.proofs.Common.{FitsSigned, to_z-of_z, take}
use Rattle.std.specs.Int.{w128}
use Rattle.lra_theory.proofs.SumLaws.{all-added, term-step, term-stuck}
use Rattle.lra_theory.proofs.TotalLaws.{Adding}
use Rattle.lra_theory.proofs.sums.add_terms.Goals as goal

pub returns-in-Err-clause-stuck : goal.returns-in-Err-clause-stuck
returns-in-Err-clause-stuck c =
    let mult : FitsSigned w128 c.args.mult = c.ranges.mult in
    let factor : FitsSigned w128 c.args.factor = c.ranges.factor in
    let adding : Adding c.args.mult c.args.factor c.args.sums.now.items (take c.loop-term.term-index c.args.terms.now) c.loop-term.sums.items = simp to_z-of_z at c.loop-term.invariant in
    term-stuck c.args.mult c.args.factor c.args.sums.now.items c.requires.within c.args.terms.now c.requires.reduced c.loop-term.term-index _ c.loop-term-test.true c.loop-term.sums.items adding c.args.position c.in-Err.stuck (c.requires.columns c.loop-term.term-index _ c.loop-term-test.true) (simp to_z-of_z at c.in-Err.ensures.stuck)

pub loop-term-preserved : goal.loop-term-preserved
loop-term-preserved c =
    let mult : FitsSigned w128 c.args.mult = c.ranges.mult in
    let factor : FitsSigned w128 c.args.factor = c.ranges.factor in
    let adding : Adding c.args.mult c.args.factor c.args.sums.now.items (take c.loop-term.term-index c.args.terms.now) c.loop-term.sums.items = simp to_z-of_z at c.loop-term.invariant in
    let ok = c.in-Ok.ensures.ok in
    simp to_z-of_z (term-step c.args.mult c.args.factor c.args.sums.now.items c.requires.within c.args.terms.now c.requires.reduced c.loop-term.term-index _ c.loop-term-test.true c.loop-term.sums.items adding ok.0 c.add.new.sums.items (c.requires.columns c.loop-term.term-index _ c.loop-term-test.true) (simp to_z-of_z at ok.1) ok.2)

pub returns-clause-sums : goal.returns-clause-sums
returns-clause-sums c =
    let mult : FitsSigned w128 c.args.mult = c.ranges.mult in
    let factor : FitsSigned w128 c.args.factor = c.ranges.factor in
    all-added c.args.mult c.args.factor c.args.sums.now.items c.args.terms.now c.loop-term.term-index c.loop-term.sums.items c.loop-term-test.false (simp to_z-of_z at c.loop-term.invariant)
