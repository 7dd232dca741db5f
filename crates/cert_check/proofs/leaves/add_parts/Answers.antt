use Rattle.std.proofs.Common.{◌+◌, List, drop, subst}
use Rattle.farkas_cert.specs.declared.trees.Part.{Part}
use Rattle.clause_form.specs.Derivations.{rows_of}
use Rattle.cert_check.specs.Desks.{NoneNegative, Running}
use Rattle.cert_check.proofs.LeafLaws.{cut_at}
use Rattle.cert_check.proofs.leaves.add_parts.Goals as goal

pub add_part-total-requires-clause-mult : goal.add_part-total-requires-clause-mult
add_part-total-requires-clause-mult c =
    (subst NoneNegative (cut_at c.args.parts.now c.loop-part.part-index _ c.loop-part-test.true) c.loop-part.invariant.mults).0

pub loop-part-preserved : goal.loop-part-preserved
loop-part-preserved c =
    c.add_part-total.ensures c.args.parts.now (drop (c.loop-part.part-index + 1) c.args.parts.now) (subst (λ (l : List Part). Running (rows_of c.args.clauses.now) c.args.parts.now l c.loop-part.sums c.loop-part.total) (cut_at c.args.parts.now c.loop-part.part-index _ c.loop-part-test.true) c.loop-part.invariant)
