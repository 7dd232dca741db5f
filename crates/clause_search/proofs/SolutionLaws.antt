-- Literals whose rows have a common solution are no contradiction.
use Rattle.std.proofs.Common.{◌≡◌, ◌↔◌, ℕ, zero, suc, ◌<◌, ℤ, pos, ◌*ℤ◌, Bool, true, false, IsTrue, inl, inr, List, [], ◌∷◌, map, Option, None, Some, IfSome, slice_get, All, refl, sym, subst, arith}
use Rattle.std.specs.Option.{option_map_or}
use Rattle.std.proofs.lemmas.Bool.{true≢false}
use Rattle.std.proofs.lemmas.List.Elements.{All-head, All-tail}
use Rattle.whole.proofs.Integers.{<ℤ-not-≤ℤ, ≤ℤ_or_>}
use Rattle.linear_form.specs.NormalForm.{Bounds}
use Rattle.linear_form.specs.declared.lists.Form.{Form}
use Rattle.linear_form.specs.declared.lists.Term.{Term}
use Rattle.farkas_cert.specs.declared.literals.Lit.{Lit}
use Rattle.farkas_cert.specs.declared.trees.Part.{Part}
use Rattle.clause_form.specs.declared.clauses.Atom.{Atom}
use Rattle.clause_form.specs.declared.clauses.Atom.TheVariants.{Row, Named}
use Rattle.clause_form.specs.declared.clauses.Clauses.{Clauses}
use Rattle.clause_form.specs.Derivations.{ArePartsOf, Has, IsContradiction, LitRow, Rows, row_of_atom, rows_of}
use Rattle.clause_form.specs.Models.{RowHolds, form_value}
use Rattle.clause_form.specs.Theories.{AreMet, HasSolution}
use Rattle.clause_form.specs.WellFormed.{IsGoodForm, IsWellFormed}
use Rattle.cert_check.specs.NoModel.{HasColumnsBelow, TermsBelow}
use Rattle.cert_check.proofs.Columns.{all_cancel}
use Rattle.cert_check.proofs.WeighedRows.{Agree, AllTrue, no_contradiction}

-- ---- the columns of well formed clauses

terms_below : (columns : ℕ) (ts : List Term) → All (λ t. t.column < columns) ts → TermsBelow columns ts
terms_below columns [] all = tt
terms_below columns (t ∷ ts) all = (All-head (λ t. t.column < columns) t ts all, terms_below columns ts (All-tail (λ t. t.column < columns) t ts all))

columns_below : (columns : ℕ) (fs : List Form) → ((j : ℕ) (f : Form) → slice_get fs j ≡ Some f → IsGoodForm columns f) → HasColumnsBelow columns fs
columns_below columns [] good = tt
columns_below columns (f ∷ fs) good = (terms_below columns f.terms (good zero f refl).in_range, columns_below columns fs (λ j g e. good (suc j) g e))

-- ---- the truth of each row at these values

not_both : (strict : Bool) (a b : ℤ) → Bounds strict true a b → Bounds strict false a b → ⊥
not_both true a b less more = <ℤ-not-≤ℤ a b less more
not_both false a b most above = <ℤ-not-≤ℤ b a above most

decided : (strict : Bool) (a b : ℤ) → (t : Bool) × (IsTrue t ↔ Bounds strict true a b)
decided true a b = elim (≤ℤ_or_> b a) [
  | inl more ↦ (false, (λ e. absurd (true≢false (sym e)), λ less. absurd (<ℤ-not-≤ℤ a b less more)))
  | inr less ↦ (true, (λ e. less, λ h. refl))
]
decided false a b = elim (≤ℤ_or_> a b) [
  | inl most ↦ (true, (λ e. most, λ h. refl))
  | inr above ↦ (false, (λ e. absurd (true≢false (sym e)), λ most. absurd (<ℤ-not-≤ℤ b a above most)))
]

abbrev Tells : Rows → (ℕ → ℤ) → ℕ → Option Atom → Bool → Type 0
Tells c value over atom truth =
    (form : ℕ) (num den : ℤ) (strict : Bool) → atom ≡ Some (Row form num den strict) → (IsTrue truth ↔ RowHolds c.columns c.forms value over true (Row form num den strict))

row_truth : (c : Rows) (value : ℕ → ℤ) (over : ℕ) (atom : Option Atom) → (truth : Bool) × Tells c value over atom truth
row_truth c value over None = (true, λ form num den strict e. absurd (cc))
row_truth c value over (Some Named) = (true, λ form num den strict e. absurd (cc))
row_truth c value over (Some (Row form num den strict)) =
    let d = decided strict (den *ℤ form_value c.columns c.forms value form) (num *ℤ pos over) in
    (d.0, λ f m n t e. let same : Row form num den strict ≡ Row f m n t = cc in subst (λ (a : Atom). IsTrue d.0 ↔ RowHolds c.columns c.forms value over true a) same d.1)

-- a literal whose row holds is true
is_true : (c : Rows) (value : ℕ → ℤ) (over : ℕ) (atom : Option Atom) (sign truth : Bool) (row : LitRow) → Tells c value over atom truth
    → option_map_or (row_of_atom c sign) atom None ≡ Some row → IfSome atom (RowHolds c.columns c.forms value over sign) → truth ≡ sign
is_true c value over None sign truth row tells is holds = absurd (cc)
is_true c value over (Some Named) true truth row tells is holds = absurd (cc)
is_true c value over (Some Named) false truth row tells is holds = absurd (cc)
is_true c value over (Some (Row form num den strict)) true truth row tells is holds = (tells form num den strict refl).1 holds
is_true c value over (Some (Row form num den strict)) false true row tells is holds =
    absurd (not_both strict (den *ℤ form_value c.columns c.forms value form) (num *ℤ pos over) ((tells form num den strict refl).0 refl) holds)
is_true c value over (Some (Row form num den strict)) false false row tells is holds = refl

met_at : (rows : Rows) (value : ℕ → ℤ) (over : ℕ) (lits : List Lit) (l : Lit) → AreMet rows value over lits → Has l lits
    → IfSome (slice_get rows.atoms l.atom) (RowHolds rows.columns rows.forms value over l.positive)
met_at rows value over [] l met h = absurd h
met_at rows value over (x ∷ xs) l met (inl e) =
    subst (λ (m : Lit). IfSome (slice_get rows.atoms m.atom) (RowHolds rows.columns rows.forms value over m.positive)) (sym e) met.0
met_at rows value over (x ∷ xs) l met (inr h) = met_at rows value over xs l met.1 h

module _ (c : Rows) (value : ℕ → ℤ) (over : ℕ) (lits : List Lit) (met : AreMet c value over lits) where
  abbrev truth : ℕ → Bool
  truth n = (row_truth c value over (slice_get c.atoms n)).0

  agree : Agree c value over truth
  agree n form num den strict e = (row_truth c value over (slice_get c.atoms n)).1 form num den strict e

  all_true : (ps : List Part) → ArePartsOf c lits ps → AllTrue truth (map (λ p. p.lit) ps)
  all_true [] are = tt
  all_true (p ∷ ps) are = (
    is_true c value over (slice_get c.atoms p.lit.atom) p.lit.positive (truth p.lit.atom) are.0.0 (row_truth c value over (slice_get c.atoms p.lit.atom)).1 are.0.1 (met_at c value over lits p.lit met are.1),
    all_true ps are.3,
  )

-- the parts' own literals are path enough
of_themselves : (c : Rows) (lits path : List Lit) (ps : List Part) → ((l : Lit) → Has l (map (λ p. p.lit) ps) → Has l path) → ArePartsOf c lits ps
    → ArePartsOf c path ps
of_themselves c lits path [] inside are = tt
of_themselves c lits path (p ∷ ps) inside are = (are.0, inside p.lit (inl refl), are.2, of_themselves c lits path ps (λ l h. inside l (inr h)) are.3)

pub no_clash : (c : Clauses) → IsWellFormed c → (lits : List Lit) (parts : List Part) → HasSolution (rows_of c) lits
    → IsContradiction (rows_of c) lits parts → ⊥
no_clash c formed lits parts (value, over, some, met) contradiction =
    no_contradiction (rows_of c) value over (truth (rows_of c) value over lits met) (map (λ p. p.lit) parts) (omega arith) (agree (rows_of c) value over lits met) (all_true (rows_of c) value over lits met parts contradiction.rows) parts (all_cancel (rows_of c) (columns_below c.columns c.forms formed.forms) (map (λ p. p.lit) parts) parts itself) itself
  where
    itself : IsContradiction (rows_of c) (map (λ p. p.lit) parts) parts
    itself = record {
      rows = of_themselves (rows_of c) lits (map (λ p. p.lit) parts) parts (λ l h. h) contradiction.rows;
      columns = contradiction.columns;
      bound = contradiction.bound;
    }
