use Rattle.std.proofs.Common.{sym, subst}
use Rattle.lra_theory.specs.Clashes.{AnswersClash}
use Rattle.lra_theory.specs.Standings.{lits_of}
use Rattle.lra_theory.proofs.AnswerLaws.{leaf-answers, fault-answers}
use Rattle.lra_theory.proofs.clash.answer.Goals as goal

pub returns-in-Ok : goal.returns-in-Ok
returns-in-Ok g c = λ s ws rows told are of_clash farkas.
    leaf-answers g.F.OrderedField.pair g.F.OrderedField.value g.met.F.OrderedField.meaning c.args.rows.now (lits_of c.args.trail.now.told.items c.args.trail.now.refused) c.requires.good c.args.shares.now s ws rows told are of_clash farkas c.in-Ok.parts c.in-Ok.ensures.parts c.in-Ok.ensures.fit

pub returns-in-Err : goal.returns-in-Err
returns-in-Err g c = λ s ws rows told are of_clash farkas.
    subst (λ answer. AnswersClash g.F.OrderedField.value s answer) (sym c.heard.ensures) (fault-answers g.F.OrderedField.pair g.F.OrderedField.value g.met.F.OrderedField.meaning c.args.rows.now (lits_of c.args.trail.now.told.items c.args.trail.now.refused) c.requires.good c.args.shares.now s ws rows told are of_clash farkas c.in-Err.fault c.in-Err.ensures.stuck)
