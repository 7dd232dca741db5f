-- Where each form's columns are below the number of columns, a contradiction cancels each column.
use Rattle.std.proofs.Common.{◌≡◌, ℕ, zero, suc, ◌-◌, ◌<◌, ◌≤◌, nat_lt, nat_eq, ℤ, pos, neg_ℤ, ◌+ℤ◌, ◌*ℤ◌, Bool, true, false, cond, List, [], ◌∷◌, Option, None, Some, slice_get, refl, sym, ◌∙◌, ap, arith}
use Rattle.std.specs.Option.{option_map_or}
use Rattle.std.proofs.lemmas.Bool.{ltb-true, lt-ltb, eqb-true}
use Rattle.std.proofs.Math.IntN.{*ℤ-zero}
use Rattle.linear_form.specs.declared.lists.Form.{Form}
use Rattle.linear_form.specs.declared.lists.Term.{Term}
use Rattle.linear_form.specs.Sums.{coef_at}
use Rattle.linear_form.proofs.ReducedLists.{true_not_false}
use Rattle.farkas_cert.specs.declared.literals.Lit.{Lit}
use Rattle.farkas_cert.specs.declared.trees.Part.{Part}
use Rattle.clause_form.specs.declared.clauses.Atom.{Atom}
use Rattle.clause_form.specs.declared.clauses.Atom.TheVariants.{Row, Named}
use Rattle.clause_form.specs.Derivations.{Rows, terms_of, row_of_atom, row_coef, number_in, coef_sum, IsContradiction}
use Rattle.cert_check.specs.NoModel.{TermsBelow, HasColumnsBelow}

not_less : (a b : ℕ) → (a < b → ⊥) → b ≤ a
not_less a b refuted = omega (arith, refuted)

-- a form's terms, and so each literal's, are of columns below the number of columns
coef_at-beyond : (columns : ℕ) (ts : List Term) → TermsBelow columns ts → (j : ℕ) → columns ≤ j → coef_at j ts ≡ pos 0
coef_at-beyond columns [] less j beyond = refl
coef_at-beyond columns (t ∷ ts) less j beyond = by (nat_eq t.column j) refl (coef_at-beyond columns ts less.1 j beyond)
  where
    by : (here : Bool) → nat_eq t.column j ≡ here → coef_at j ts ≡ pos 0 → cond here (t.coef +ℤ coef_at j ts) (coef_at j ts) ≡ pos 0
    by true e rest =
        let same : t.column ≡ j = eqb-true t.column j e in let low : t.column < columns = less.0 in absurd (omega (arith, same, low, beyond))
    by false e rest = rest

form_below : (columns : ℕ) (forms : List Form) → HasColumnsBelow columns forms → (k : ℕ) → TermsBelow columns (option_map_or (λ f. f.terms) (slice_get forms k) [])
form_below columns [] less k = tt
form_below columns (f ∷ fs) less zero = less.0
form_below columns (f ∷ fs) less (suc k) = form_below columns fs less.1 k

terms_below : (c : Rows) → HasColumnsBelow c.columns c.forms → (form : ℕ) → TermsBelow c.columns (terms_of c form)
terms_below c less form = by (nat_lt form c.columns) refl
  where
    by : (alone : Bool) → nat_lt form c.columns ≡ alone → TermsBelow c.columns (cond alone (record { column = form; coef = pos 1 } ∷ []) (option_map_or (λ f. f.terms) (slice_get c.forms (form - c.columns)) []))
    by true e = (ltb-true form c.columns e, tt)
    by false e = form_below c.columns c.forms less (form - c.columns)

scaled : (c : Rows) → HasColumnsBelow c.columns c.forms → (j : ℕ) → c.columns ≤ j → (form : ℕ) (factor : ℤ) → factor *ℤ coef_at j (terms_of c form) ≡ pos 0
scaled c less j beyond form factor =
    ap (λ z. factor *ℤ z) (coef_at-beyond c.columns (terms_of c form) (terms_below c less form) j beyond) ∙ *ℤ-zero factor

-- what a literal's row has at a column beyond is 0
coef_beyond : (c : Rows) → HasColumnsBelow c.columns c.forms → (j : ℕ) → c.columns ≤ j → (sign : Bool) (atom : Option Atom) → number_in (row_coef j) (option_map_or (row_of_atom c sign) atom None) ≡ pos 0
coef_beyond c less j beyond sign None = refl
coef_beyond c less j beyond true (Some Named) = refl
coef_beyond c less j beyond false (Some Named) = refl
coef_beyond c less j beyond true (Some (Row form num den strict)) = scaled c less j beyond form den
coef_beyond c less j beyond false (Some (Row form num den strict)) = scaled c less j beyond form (neg_ℤ den)

-- beyond the columns nothing is left to cancel
beyond_none : (c : Rows) → HasColumnsBelow c.columns c.forms → (j : ℕ) → c.columns ≤ j → (ps : List Part) → coef_sum c j ps ≡ pos 0
beyond_none c less j beyond [] = refl
beyond_none c less j beyond (p ∷ ps) =
    ap (λ z. p.mult *ℤ z +ℤ coef_sum c j ps) (coef_beyond c less j beyond p.lit.positive (slice_get c.atoms p.lit.atom)) ∙ ap (λ z. z +ℤ coef_sum c j ps) (*ℤ-zero p.mult) ∙ ap (λ z. pos 0 +ℤ z) (beyond_none c less j beyond ps)

-- so each column of a contradiction cancels
pub all_cancel : (c : Rows) → HasColumnsBelow c.columns c.forms → (path : List Lit) (ps : List Part) → IsContradiction c path ps → (j : ℕ) → coef_sum c j ps ≡ pos 0
all_cancel c less path ps contradiction j = by (nat_lt j c.columns) refl
  where
    by : (low : Bool) → nat_lt j c.columns ≡ low → coef_sum c j ps ≡ pos 0
    by true e = contradiction.columns j (ltb-true j c.columns e)
    by false e = beyond_none c less j (not_less j c.columns (λ low. true_not_false (sym (lt-ltb j c.columns low) ∙ e))) ps
