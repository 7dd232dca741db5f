-- A coefficient of a form of well formed clauses is far below the largest number.
use Rattle.std.proofs.Common.{◌≡◌, ◌<◌, ◌^◌, unsigned_abs, subst, arith}
use Rattle.std.proofs.lemmas.List.Elements.{All-contains}
use Rattle.whole.specs.declared.answers.Stuck.{Stuck}
use Rattle.fraction.specs.Mixed.{limit}
use Rattle.clause_form.specs.Derivations.{rows_of}
use Rattle.clause_form.specs.WellFormed.{IsWellFormed}
use Rattle.clause_form.specs.declared.clauses.Clauses.{Clauses}
use Rattle.lra_theory.specs.Forms.{IsStuckCoefficient}
use Rattle.lra_theory.specs.Standings.{IfStuck}
use Rattle.lra_theory.specs.declared.fault.LraFault.{LraFault}
use Rattle.lra_theory.specs.declared.fault.LraFault.TheVariants as faults

pub never_stuck : (c : Clauses) (stuck : Stuck) → IsWellFormed c → IsStuckCoefficient limit (rows_of c) stuck → ⊥
never_stuck c stuck formed is =
    let good = formed.forms is.number is.form is.listed in
    let small : unsigned_abs is.term.coef < 10 ^ 16 = All-contains (λ t. unsigned_abs t.coef < 10 ^ 16) is.form.terms is.term good.small is.of_form in
    let overflows = is.overflows in
    omega arith

pub never_stuck_fault : (c : Clauses) (fault : LraFault) (stuck : Stuck) → fault ≡ faults.Stuck stuck → IsWellFormed c
    → IfStuck fault (IsStuckCoefficient limit (rows_of c)) → ⊥
never_stuck_fault c fault stuck is formed says =
    never_stuck c stuck formed (subst (λ (f : LraFault). IfStuck f (IsStuckCoefficient limit (rows_of c))) is says)
