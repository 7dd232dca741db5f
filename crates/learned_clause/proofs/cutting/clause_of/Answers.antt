use Rattle.std.proofs.Common.{◌∷◌, [], ◌++◌, sym, ◌∙◌, ap}
use Rattle.farkas_cert.specs.declared.literals.Lit.{Lit}
use Rattle.learned_clause.specs.Trails.{entries, entry}
use Rattle.learned_clause.proofs.StepLaws.{clause_with, clause_without}
use Rattle.learned_clause.proofs.cutting.clause_of.Goals as goal
use Rattle.learned_clause.proofs.cutting.clause_of.Goals.{then-is_on+in_ok-push, else-is_on}

pub loop-k-preserved : goal.loop-k-preserved
loop-k-preserved c =
    let T = entries c.args.trail.now in
    elim c.if-is_on.branch [
      | then-is_on+in_ok-push w ↦
          ap (λ d. d.items) w.clause-is ∙ w.in_ok-push.ensures.items ∙ ap (λ (l : Lit). c.loop-k.clause.items ++ l ∷ []) w.negated.ensures ∙ clause_with c.args.marks.now.on T c.loop-k.k (entry c.at.result) c.loop-k.clause.items c.at.ensures (sym c.is_on.ensures ∙ w.if-is_on.true) c.loop-k.invariant
      | else-is_on w ↦
          ap (λ d. d.items) w.clause-is ∙ clause_without c.args.marks.now.on T c.loop-k.k (entry c.at.result) c.loop-k.clause.items c.at.ensures (sym c.is_on.ensures ∙ w.if-is_on.false) c.loop-k.invariant
    ]
