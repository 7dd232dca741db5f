use Rattle.std.proofs.Common.{ℕ, sym, subst}
use Rattle.tableau.specs.Terms.{AreTerms, form}
use Rattle.lra_theory.proofs.FormLaws.{defining_forms, is_opened, is_stuck}
use Rattle.lra_theory.proofs.theory.opened.Goals as goal

pub new-requires-clause-terms : goal.new-requires-clause-terms
new-requires-clause-terms g c =
    subst (λ n. (j : ℕ) → AreTerms n (form c.in-Ok.defining.items j)) (sym c.columns.ensures) (defining_forms c.args.rows.now c.requires c.in-Ok.defining.items c.in-Ok.ensures)

pub returns-in-Ok-new-clause-opened : goal.returns-in-Ok-new-clause-opened
returns-in-Ok-new-clause-opened g c =
    is_opened c.args.rows.now c.requires c.in-Ok.defining.items c.in-Ok.ensures g.F.OrderedField.value c.in-Ok-new.simplex c.columns.result c.columns.ensures c.in-Ok-new.ensures.opening c.in-Ok-new.ensures.exact c.in-Ok-new.ensures.zero c.in-Ok-new.ensures.unbounded c.in-Ok-new.ensures.works.0

pub returns-in-Err-Stuck-clause-stuck : goal.returns-in-Err-Stuck-clause-stuck
returns-in-Err-Stuck-clause-stuck g c =
    let stuck = rw c.in-Err-Stuck.field-0-is at c.in-Err-Stuck.ensures.stuck in
    is_stuck c.args.rows.now c.requires c.in-Ok.defining.items c.in-Ok.ensures g.F.OrderedField.LIMIT c.columns.result c.columns.ensures c.in-Err-Stuck.stuck stuck
