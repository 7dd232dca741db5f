use Rattle.std.proofs.Common.{inl, inr}
use Rattle.tableau.proofs.OperationLaws.{if_stuck}
use Rattle.simplex.specs.States.{corner}
use Rattle.simplex.proofs.BoundLaws.{if_ok, on_ok}
use Rattle.corner_values.specs.Faults.{IsStuckAfterEpsilon, IsStuckValue}
use Rattle.corner_values.proofs.EpsilonLaws.{if_err}
use Rattle.corner_values.proofs.SolutionLaws.{solution_at}
use Rattle.corner_values.proofs.FaultLaws.{value_kept}
use Rattle.corner_values.proofs.corner.values.Goals as goal

pub returns-in-Ok-clause-solution : goal.returns-in-Ok-clause-solution
returns-in-Ok-clause-solution g c =
    let value = g.F.OrderedField.value in
    if_ok c.at_epsilon.result (λ v h. solution_at value (corner value c.args.simplex.now) _ _ c.variables-variables.ensures.sound.at c.requires h) c.at_epsilon.ensures.exact

pub returns-in-Ok-clause-kept : goal.returns-in-Ok-clause-kept
returns-in-Ok-clause-kept g c =
    on_ok c.at_epsilon.result (λ kept s. value_kept g.F.OrderedField.LIMIT (corner g.F.OrderedField.value c.args.simplex.now) s (c.in-Ok.ensures.kept s) (kept s)) c.at_epsilon.ensures.kept

pub returns-in-Ok-clause-stuck : goal.returns-in-Ok-clause-stuck
returns-in-Ok-clause-stuck g c =
    let at = corner g.F.OrderedField.value c.args.simplex.now in
    if_err c.at_epsilon.result (λ fault h. if_stuck fault (IsStuckAfterEpsilon g.F.OrderedField.LIMIT at) (IsStuckValue g.F.OrderedField.LIMIT at) (λ s x. inr x) h) c.at_epsilon.ensures.stuck

pub returns-in-Err-clause-stuck : goal.returns-in-Err-clause-stuck
returns-in-Err-clause-stuck g c = inl c.in-Err.ensures.stuck
