use Rattle.lra_solve.proofs.CoefficientLaws.{never_stuck_fault}
use Rattle.lra_solve.proofs.solving.theory_of.Goals as goal

pub unreachable-requires : goal.unreachable-requires
unreachable-requires c =
    never_stuck_fault c.args.clauses.now c.in-Err-Stuck.field-0 c.in-Err-Stuck.field-0-0 c.in-Err-Stuck.field-0-is c.requires c.in-Err-Stuck.ensures.stuck
