use Rattle.std.proofs.Common.{◌≡◌, ◌<◌, sym, subst, ◌∙◌, ap, ◌^◌}
use Rattle.tableau.specs.Tables.{variables}
use Rattle.tableau.proofs.TableLaws.{variables-is}
use Rattle.tableau.proofs.tableau.Tableau.variables.Goals as goal

pub overflow_cast-result : goal.overflow_cast-result
overflow_cast-result g c =
    record { fits = subst (λ n. n < 2 ^ 32) (variables-is _ ∙ sym (c.len.ensures ∙ c.self.inside.rows.ok.0)) c.self.invariant.table.few }

pub returns-clause-count : goal.returns-clause-count
returns-clause-count g c =
    c.len.ensures ∙ c.self.inside.rows.ok.0 ∙ sym (variables-is _) ∙ ap variables c.self.view_is
