-- The charged moves are the decisions, the propagated literals and the pivots.
use Rattle.std.proofs.Common.{◌≡◌, List, [], ◌∷◌, refl, arith}
use Rattle.whole.specs.Budget.{Counts, spent}
use Rattle.farkas_cert.specs.declared.journals.Move.{Move}
use Rattle.farkas_cert.specs.declared.journals.Move.TheVariants.{Decide, Propagate, Pivot, Conflict}
use Rattle.clause_form.specs.Journals.{is_charged}
use Rattle.clause_form.specs.Theories.{Relations}
use Rattle.clause_form.specs.declared.clauses.Clauses.{Clauses}
use Rattle.cert_text.specs.Journals.{how_many}
use Rattle.clause_search.specs.Answers.{IsTally}
use Rattle.lra_solve.specs.Solving.{charged_moves}

pub charged_are : {S : Type 0} (R : Relations S) (c : Clauses) (ms : List Move) → how_many (is_charged R c) ms ≡ charged_moves ms
charged_are R c [] = refl
charged_are R c (Decide l ∷ ms) = omega (arith, charged_are R c ms)
charged_are R c (Propagate l n ∷ ms) = omega (arith, charged_are R c ms)
charged_are R c (Pivot b o ∷ ms) = omega (arith, charged_are R c ms)
charged_are R c (Conflict clause keep ∷ ms) = charged_are R c ms

-- the moves that are charged are what is spent
pub charged_spent : (ms : List Move) (n : Counts) → IsTally ms n → charged_moves ms ≡ spent n
charged_spent ms n tally =
    let decisions = tally.decisions in
    let propagations = tally.propagations in
    let pivots = tally.pivots in
    omega arith
