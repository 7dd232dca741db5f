-- What a certificate that proves means: its clauses have no model.
use Rattle.std.specs.Prelude.{ℕ, ◌<◌, ◌≤◌, ℤ, Bool, List, [], ◌∷◌}
use Rattle.linear_form.specs.declared.lists.Form.{Form}
use Rattle.linear_form.specs.declared.lists.Term.{Term}
use Rattle.farkas_cert.specs.declared.certificates.Cert.{Cert}
use Rattle.clause_form.specs.declared.clauses.Clauses.{Clauses}
use Rattle.clause_form.specs.Derivations.{Proves}
use Rattle.clause_form.specs.Models.{IsModel}

abbrev pub TermsBelow : ℕ → List Term → Type 0
TermsBelow columns [] = Unit {0}
TermsBelow columns (t ∷ ts) = (t.column < columns) × TermsBelow columns ts

-- the terms of each form are of columns below this number
abbrev pub HasColumnsBelow : ℕ → List Form → Type 0
HasColumnsBelow columns [] = Unit {0}
HasColumnsBelow columns (f ∷ fs) = TermsBelow columns f.terms × HasColumnsBelow columns fs

-- there are no values of the columns over any denominator, with truths of the atoms, that are a model
abbrev pub HasNoModel : Clauses → Type 0
HasNoModel c = (value : ℕ → ℤ) (over : ℕ) (truth : ℕ → Bool) → 1 ≤ over → IsModel c value over truth → ⊥

-- what is proved has no model
abbrev pub ProvedHaveNoModel : Type 0
ProvedHaveNoModel = (c : Clauses) (cert : Cert) → HasColumnsBelow c.columns c.forms → Proves c cert → HasNoModel c
