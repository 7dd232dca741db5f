-- The clauses of the small examples are well formed.
use Rattle.std.proofs.Common.{◌≡◌, ℕ, zero, suc, ◌+◌, ◌^◌, ◌<◌, ◌≤◌, ℤ, pos, unsigned_abs, ◌≤ℤ◌, Bool, true, false, List, [], ◌∷◌, length, replicate, Some, slice_get, refl, ap, sym, ◌∙◌, subst, arith}
use Rattle.std.proofs.lemmas.Int.{ints}
use Rattle.linear_form.specs.declared.lists.Form.{Form}
use Rattle.farkas_cert.specs.declared.literals.Lit.{Lit}
use Rattle.clause_form.specs.declared.clauses.Atom.{Atom}
use Rattle.clause_form.specs.declared.clauses.Atom.TheVariants.{Row, Named}
use Rattle.clause_form.specs.declared.clauses.Clauses.{Clauses}
use Rattle.clause_form.specs.WellFormed.{Below, IsGoodForm, IsGoodRow, IsWellFormed}
use Rattle.cert_check.specs.Examples.{problem}

abbrev first_atom : Atom
first_atom = Row 0 (pos 0) (pos 1) false

abbrev second_atom : Bool → ℤ → Atom
second_atom strict bound = Row 0 bound (pos 1) strict

abbrev GoodAtom : Atom → Type 0
GoodAtom (Row form num den strict) = IsGoodRow 1 form num den
GoodAtom Named = Unit {0}

good_row : (num : ℤ) → unsigned_abs num < 10 ^ 16 → IsGoodRow 1 0 num (pos 1)
good_row num small = record {
  in_range = omega arith;
  num_small = small;
  den_small = omega arith;
  den_some = omega (arith, ints);
}

each_good : (strict : Bool) (bound : ℤ) → unsigned_abs bound < 10 ^ 16 → (n : ℕ) (a : Atom) → slice_get (first_atom ∷ second_atom strict bound ∷ []) n ≡ Some a → GoodAtom a
each_good strict bound small zero a e =
    let same : first_atom ≡ a = cc in subst GoodAtom same (good_row (pos 0) (omega arith))
each_good strict bound small (suc zero) a e =
    let same : second_atom strict bound ≡ a = cc in subst GoodAtom same (good_row bound small)
each_good strict bound small (suc (suc n)) a e = absurd (cc)

each_once : (strict : Bool) (bound : ℤ) → (first_atom ≡ second_atom strict bound → ⊥) → (m n : ℕ) (a : Atom) → slice_get (first_atom ∷ second_atom strict bound ∷ []) m ≡ Some a → slice_get (first_atom ∷ second_atom strict bound ∷ []) n ≡ Some a → m ≡ n
each_once strict bound apart zero zero a e f = refl
each_once strict bound apart zero (suc zero) a e f =
    let one : first_atom ≡ a = cc in
    let two : second_atom strict bound ≡ a = cc in absurd (apart (one ∙ sym two))
each_once strict bound apart (suc zero) zero a e f =
    let one : first_atom ≡ a = cc in
    let two : second_atom strict bound ≡ a = cc in absurd (apart (one ∙ sym two))
each_once strict bound apart (suc zero) (suc zero) a e f = refl
each_once strict bound apart (suc (suc m)) n a e f = absurd (cc)
each_once strict bound apart zero (suc (suc n)) a e f = absurd (cc)
each_once strict bound apart (suc zero) (suc (suc n)) a e f = absurd (cc)

abbrev lone : ℕ → Bool → List Lit
lone atom positive = record { atom = atom; positive = positive } ∷ []

each_below : (k : ℕ) (clause : List Lit) → slice_get (lone 0 true ∷ lone 1 false ∷ []) k ≡ Some clause → Below 2 clause
each_below zero clause e =
    let same : lone 0 true ≡ clause = cc in subst (Below 2) same (omega arith, tt)
each_below (suc zero) clause e =
    let same : lone 1 false ≡ clause = cc in subst (Below 2) same (omega arith, tt)
each_below (suc (suc k)) clause e = absurd (cc)

no_form : (j : ℕ) (f : Form) → slice_get [] j ≡ Some f → ⊥
no_form j f e = cc

pub problem_formed : (strict : Bool) (bound : ℤ) → unsigned_abs bound < 10 ^ 16 → (first_atom ≡ second_atom strict bound → ⊥) → IsWellFormed (problem strict bound)
problem_formed strict bound small apart = record {
  few_forms = omega arith;
  few_atoms = omega arith;
  few_clauses = omega arith;
  forms = λ j f e. absurd (no_form j f e);
  forms_differ = λ i j f e g. absurd (no_form i f e);
  rows = λ n form num den s e. each_good strict bound small n (Row form num den s) e;
  rows_differ = λ m n form num den s e f. each_once strict bound apart m n (Row form num den s) e f;
  in_range = each_below;
}

-- as the code makes them
pub made_formed : (c : Clauses) (strict : Bool) (bound : ℤ) → c ≡ problem strict bound → unsigned_abs bound < 10 ^ 16 → (first_atom ≡ second_atom strict bound → ⊥) → IsWellFormed c
made_formed c strict bound same small apart = subst IsWellFormed (sym same) (problem_formed strict bound small apart)

-- ---- names alone

no_row : (n k : ℕ) (form : ℕ) (num den : ℤ) (strict : Bool) → slice_get (replicate n Named) k ≡ Some (Row form num den strict) → ⊥
no_row zero k form num den strict e = cc
no_row (suc n) zero form num den strict e = cc
no_row (suc n) (suc k) form num den strict e = no_row n k form num den strict e

long : (n : ℕ) → length (replicate n Named) ≡ n
long zero = refl
long (suc n) = ap (λ (k : ℕ). suc k) (long n)

only_empty : (atoms k : ℕ) (clause : List Lit) → slice_get ([] ∷ []) k ≡ Some clause → Below atoms clause
only_empty atoms zero clause e =
    let same : [] ≡ clause = cc in subst (Below atoms) same tt
only_empty atoms (suc k) clause e = absurd (cc)

abbrev pub named_only : ℕ → Clauses
named_only n = record { columns = 0; forms = []; atoms = replicate n Named; clauses = [] ∷ [] }

pub named_formed : (n : ℕ) → n ≤ 4096 → IsWellFormed (named_only n)
named_formed n few = record {
  few_forms = omega arith;
  few_atoms = subst (λ (k : ℕ). k ≤ 4096) (sym (long n)) few;
  few_clauses = omega arith;
  forms = λ j f e. absurd (no_form j f e);
  forms_differ = λ i j f e g. absurd (no_form i f e);
  rows = λ k form num den s e. absurd (no_row n k form num den s e);
  rows_differ = λ m k form num den s e f. absurd (no_row n m form num den s e);
  in_range = only_empty (length (replicate n Named));
}

pub made_named : (c : Clauses) (n : ℕ) → c ≡ named_only n → n ≤ 4096 → IsWellFormed c
made_named c n same few = subst IsWellFormed (sym same) (named_formed n few)
