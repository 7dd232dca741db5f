use Rattle.std.proofs.Common.{rules, ◌∙◌}
use Rattle.learned_clause.specs.Trails.{entries, entry}
use Rattle.learned_clause.proofs.StepLaws.{ranked_next, started}
use Rattle.learned_clause.proofs.marks.Marks.new.Goals as goal

pub loop-k-preserved : goal.loop-k-preserved
loop-k-preserved c =
    ranked_next c.args.atoms (entries c.args.trail.now) c.loop-k.ranks c.set.new.self c.loop-k.k (entry c.at.result) c.requires c.loop-k.invariant.0 c.at.ensures c.loop-k.invariant.1 c.set.ensures

pub returns : goal.returns
returns c =
    started c.args.atoms c.args.trail.now c.from_vec-on.result c.loop-k.ranks c.loop-k.k (c.from_vec-on.ensures ∙ c.in_ok-from_elem-2.ensures.items_if_clones_equal (λ y q. search rules)) c.loop-k.invariant.1 c.loop-k-test.false
