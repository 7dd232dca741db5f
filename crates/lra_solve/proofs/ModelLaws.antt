-- Values that meet every literal told are a model, where each atom is told with its truth.
use Rattle.std.proofs.Common.{◌≡◌, ℕ, ◌<◌, ◌↔◌, ℤ, Bool, true, false, IsTrue, List, [], ◌∷◌, length, slice_get, refl, sym, subst, inl, inr, arith}
use Rattle.std.specs.Prelude.{IfSome}
use Rattle.std.proofs.lemmas.Int.{ints}
use Rattle.std.proofs.lemmas.Bool.{false≢true}
use Rattle.std.proofs.lemmas.Option.{slice_get_within}
use Rattle.linear_form.specs.NormalForm.{Bounds}
use Rattle.farkas_cert.specs.declared.literals.Lit.{Lit}
use Rattle.clause_form.specs.Derivations.{Has, Rows, rows_of}
use Rattle.clause_form.specs.Models.{IsModel, RowHolds, RowsAgree, Satisfies}
use Rattle.clause_form.specs.Theories.{AreMet}
use Rattle.clause_form.specs.declared.clauses.Atom.TheVariants.{Row}
use Rattle.clause_form.specs.declared.clauses.Clauses.{Clauses}
use Rattle.clause_search.specs.Answers.{IsAssignment, truth_in}

-- what is met by all literals is met by each
met_at : (rows : Rows) (value : ℕ → ℤ) (over : ℕ) (told : List Lit) (l : Lit) → AreMet rows value over told → Has l told
    → IfSome (slice_get rows.atoms l.atom) (RowHolds rows.columns rows.forms value over l.positive)
met_at rows value over [] l met has = absurd has
met_at rows value over (m ∷ ms) l met (inl same) =
    subst (λ (x : Lit). IfSome (slice_get rows.atoms x.atom) (RowHolds rows.columns rows.forms value over x.positive)) (sym same) met.0
met_at rows value over (m ∷ ms) l met (inr has) = met_at rows value over ms l met.1 has

opposed : (strict : Bool) (a b : ℤ) → Bounds strict false a b → Bounds strict true a b → ⊥
opposed true a b below above = omega (arith, ints)
opposed false a b below above = omega (arith, ints)

-- the row of a literal that has the atom's truth tells the truth
by_truth : (truth strict : Bool) (a b : ℤ) → Bounds strict truth a b → (IsTrue truth ↔ Bounds strict true a b)
by_truth true strict a b held = (λ is. held, λ holds. refl)
by_truth false strict a b held = (λ is. absurd (false≢true is), λ holds. absurd (opposed strict a b held holds))

pub told_agree : (c : Clauses) (value : ℕ → ℤ) (over : ℕ) (truths : List Bool) (told : List Lit) → length truths ≡ length c.atoms
    → IsAssignment truths told → AreMet (rows_of c) value over told → RowsAgree c value over (truth_in truths)
told_agree c value over truths told same assigned met = λ n form num den strict is.
    let inside : n < length truths = let low = slice_get_within c.atoms n (Row form num den strict) is in omega arith in
    let here = met_at (rows_of c) value over told (record { atom = n; positive = truth_in truths n }) met (assigned.each n inside) in
    by_truth (truth_in truths n) strict _ _ (subst (λ atom. IfSome atom (RowHolds c.columns c.forms value over (truth_in truths n))) is here)

pub told_model : (c : Clauses) (value : ℕ → ℤ) (over : ℕ) (truths : List Bool) (told : List Lit) → length truths ≡ length c.atoms
    → IsAssignment truths told → Satisfies (truth_in truths) c.clauses → AreMet (rows_of c) value over told
    → IsModel c value over (truth_in truths)
told_model c value over truths told same assigned satisfied met = record {
  rows = told_agree c value over truths told same assigned met;
  clauses = satisfied;
}
