-- The theory's answers, at work and at rest.
use Rattle.std.proofs.Common.{◌≡◌, ℕ, ◌+◌, List, [], Bool, true, false, Option, None, Some, refl, sym, ap, subst, ◌∙◌, arith}
use Rattle.std.proofs.lemmas.List.{append-nil}
use Rattle.ordered_field.specs.Rational.{ℚ}
use Rattle.whole.specs.Budget.{counts}
use Rattle.whole.specs.declared.budget.Budget.{Budget}
use Rattle.farkas_cert.specs.declared.journals.Journal.{Journal}
use Rattle.farkas_cert.specs.declared.literals.Lit.{Lit}
use Rattle.clause_form.specs.declared.theory.Heard.{Heard}
use Rattle.clause_form.specs.declared.theory.Heard.TheVariants as heard
use Rattle.clause_form.specs.Derivations.{Rows}
use Rattle.clause_form.specs.Theories.{HearsCheck, HearsCheckAtWork, HearsLiteral, HearsLiteralAtWork, Relations, Repeats, works}
use Rattle.simplex.specs.States.{State as SimplexState}
use Rattle.lra_theory.specs.declared.fault.LraFault.{LraFault}
use Rattle.lra_theory.specs.declared.fault.LraFault.TheVariants as fault
use Rattle.lra_theory.specs.declared.trail.Told.{Told}
use Rattle.lra_theory.specs.Relations.{HasViolated, relations}
use Rattle.lra_theory.specs.Soundness.{IsSettled}
use Rattle.lra_theory.specs.Standings.{Standing, after, at_work, heard_of, is_clash, is_fine, lits_of, rest_after, rest_of, seen, state_of}

rests-not : (f : LraFault) → rest_of (Some f) ≡ works → ⊥
rests-not (fault.Stuck k) e = absurd (cc)
rests-not fault.NoMemory e = absurd (cc)

repeats : {S : Type 0} (R : Relations S) (f : LraFault) → Repeats R (rest_of (Some f)) (heard_of f) (rest_of (Some f))
repeats R (fault.Stuck k) = (refl, refl)
repeats R fault.NoMemory = (refl, refl)

module _ {F : Type 0} (most : ℕ) (value : F → ℚ) where
  pub hears-literal : (rows : Rows) (told : List Told) (refused : Option Lit) (simplex : SimplexState F) (fine owes : Bool) (rest : Option LraFault) (l : Lit) (answer : Heard) (new_told : List Told) (left : Option Lit) (new : SimplexState F) (new_owes : Bool) (new_rest : Option LraFault) → refused ≡ None → rest ≡ None → new_owes ≡ is_clash answer → new_rest ≡ rest_after answer → HearsLiteralAtWork (relations most value) (seen value (at_work fine owes rows told None simplex)) l answer (seen value (after false answer rows new_told left new)) → HearsLiteral (relations most value) (seen value (record { rows = rows; told = told; refused = refused; simplex = simplex; fine = fine; owes = owes; rest = rest })) l answer (seen value (record { rows = rows; told = new_told; refused = left; simplex = new; fine = false; owes = new_owes; rest = new_rest }))
  hears-literal rows told refused simplex fine owes rest l answer new_told left new new_owes new_rest none going owes_is rest_is hears =
      subst (λ o. HearsLiteral (relations most value) (seen value (record { rows = rows; told = told; refused = refused; simplex = simplex; fine = fine; owes = owes; rest = rest })) l answer (seen value (record { rows = rows; told = new_told; refused = left; simplex = new; fine = false; owes = o; rest = new_rest }))) (sym owes_is)
      (subst (λ o. HearsLiteral (relations most value) (seen value (record { rows = rows; told = told; refused = refused; simplex = simplex; fine = fine; owes = owes; rest = rest })) l answer (seen value (record { rows = rows; told = new_told; refused = left; simplex = new; fine = false; owes = is_clash answer; rest = o }))) (sym rest_is)
      (subst (λ r. HearsLiteral (relations most value) (seen value (record { rows = rows; told = told; refused = r; simplex = simplex; fine = fine; owes = owes; rest = rest })) l answer (seen value (after false answer rows new_told left new))) (sym none)
      (subst (λ r. HearsLiteral (relations most value) (seen value (record { rows = rows; told = told; refused = None; simplex = simplex; fine = fine; owes = owes; rest = r })) l answer (seen value (after false answer rows new_told left new))) (sym going) (record { at_work = λ _. hears; at_rest = tt }))))

  pub literal-at_rest : (old : Standing F) (f : LraFault) (l : Lit) → old.rest ≡ Some f → HearsLiteral (relations most value) (seen value old) l (heard_of f) (seen value old)
  literal-at_rest old f l rests = record {
    at_work = λ e. absurd (rests-not f (ap rest_of (sym rests) ∙ e));
    at_rest = subst (λ r. Repeats (relations most value) (rest_of r) (heard_of f) (rest_of r)) (sym rests) (repeats (relations most value) f);
  }

  pub hears-check : (rows : Rows) (told : List Told) (refused : Option Lit) (simplex : SimplexState F) (fine owes : Bool) (rest : Option LraFault) (answer : Heard) (new : SimplexState F) (new_fine new_owes : Bool) (new_rest : Option LraFault) (before after' : Budget) (journal written : Journal) → refused ≡ None → rest ≡ None → new_fine ≡ is_fine answer → new_owes ≡ is_clash answer → new_rest ≡ rest_after answer → HearsCheck (relations most value) (seen value (at_work fine owes rows told None simplex)) answer (seen value (after (is_fine answer) answer rows told None new)) before after' journal written → HearsCheck (relations most value) (seen value (record { rows = rows; told = told; refused = refused; simplex = simplex; fine = fine; owes = owes; rest = rest })) answer (seen value (record { rows = rows; told = told; refused = refused; simplex = new; fine = new_fine; owes = new_owes; rest = new_rest })) before after' journal written
  hears-check rows told refused simplex fine owes rest answer new new_fine new_owes new_rest before after' journal written none going fine_is owes_is rest_is hears =
      subst (λ o. HearsCheck (relations most value) (seen value (record { rows = rows; told = told; refused = refused; simplex = simplex; fine = fine; owes = owes; rest = rest })) answer (seen value (record { rows = rows; told = told; refused = refused; simplex = new; fine = o; owes = new_owes; rest = new_rest })) before after' journal written) (sym fine_is)
      (subst (λ o. HearsCheck (relations most value) (seen value (record { rows = rows; told = told; refused = refused; simplex = simplex; fine = fine; owes = owes; rest = rest })) answer (seen value (record { rows = rows; told = told; refused = refused; simplex = new; fine = is_fine answer; owes = o; rest = new_rest })) before after' journal written) (sym owes_is)
      (subst (λ o. HearsCheck (relations most value) (seen value (record { rows = rows; told = told; refused = refused; simplex = simplex; fine = fine; owes = owes; rest = rest })) answer (seen value (record { rows = rows; told = told; refused = refused; simplex = new; fine = is_fine answer; owes = is_clash answer; rest = o })) before after' journal written) (sym rest_is)
      (subst (λ r. HearsCheck (relations most value) (seen value (record { rows = rows; told = told; refused = r; simplex = simplex; fine = fine; owes = owes; rest = rest })) answer (seen value (after (is_fine answer) answer rows told r new)) before after' journal written) (sym none)
      (subst (λ r. HearsCheck (relations most value) (seen value (record { rows = rows; told = told; refused = None; simplex = simplex; fine = fine; owes = owes; rest = r })) answer (seen value (after (is_fine answer) answer rows told None new)) before after' journal written) (sym going) hears))))

  -- a check that finds no violated variable settles the theory
  pub check-settled : (rows : Rows) (told : List Told) (refused : Option Lit) (simplex new : SimplexState F) (fine owes new_fine : Bool) (rest : Option LraFault) (answer : Heard) (before after' : Budget) (journal written : Journal) → refused ≡ None → new_fine ≡ is_fine answer → rest ≡ rest_after answer → HearsCheck (relations most value) (seen value (at_work fine owes rows told None simplex)) answer (seen value (after (is_fine answer) answer rows told None new)) before after' journal written → new_fine ≡ true → IsSettled value rows told refused new rest
  check-settled rows told refused simplex new fine owes new_fine rest answer before after' journal written none fine_is rest_is hears settles =
      by answer (sym fine_is ∙ settles) rest_is (hears.at_work refl)
    where
      by : (a : Heard) → is_fine a ≡ true → rest ≡ rest_after a → HearsCheckAtWork (relations most value) (seen value (at_work fine owes rows told None simplex)) hears.pivots a (seen value (after (is_fine a) a rows told None new)) (counts after') → IsSettled value rows told refused new rest
      by heard.Fine e going (made, is, owed, agrees, calm, solved) = record {
        agrees = none;
        works = going;
        calm = subst (λ r. HasViolated (state_of value rows (lits_of told r) new) → ⊥) (sym none) calm;
      }
      by (heard.Clash parts) e going at_work = absurd (cc)
      by heard.Spent e going at_work = absurd (cc)
      by (heard.Stuck k) e going at_work = absurd (cc)
      by heard.NoMemory e going at_work = absurd (cc)

  pub check-at_rest : (old : Standing F) (f : LraFault) (budget : Budget) (journal : Journal) → old.rest ≡ Some f → HearsCheck (relations most value) (seen value old) (heard_of f) (seen value old) budget budget journal journal
  check-at_rest old f budget journal rests = record {
    pivots = [];
    charged = let n : budget.pivots ≡ budget.pivots + 0 = omega arith in ap (λ p. record { limit = budget.limit; decisions = budget.decisions; propagations = budget.propagations; pivots = p; conflicts = budget.conflicts }) n;
    moves = sym (append-nil journal.moves);
    at_work = λ e. absurd (rests-not f (ap rest_of (sym rests) ∙ e));
    at_rest = subst (λ r. Repeats (relations most value) (rest_of r) (heard_of f) (rest_of r)) (sym rests) (repeats (relations most value) f);
  }
