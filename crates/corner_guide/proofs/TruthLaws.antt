-- Truths that agree with the rows, atom by atom, and the clauses that they make true.
use Rattle.std.proofs.Common.{◌≡◌, ℕ, zero, suc, ◌+◌, ◌<◌, ◌≤◌, ℤ, pos, ◌*ℤ◌, ◌≤ℤ◌, ◌↔◌, unsigned_abs, Bool, true, false, List, [], ◌∷◌, ◌++◌, length, get_or, take, Option, None, Some, slice_get, refl, sym, ◌∙◌, ap, subst, inl, inr, arith}
use Rattle.std.specs.Prelude.{IfSome, IsTrue}
use Rattle.std.proofs.Math.Bool.{beq}
use Rattle.std.proofs.lemmas.Int.{ints}
use Rattle.std.proofs.lemmas.List.{take_all, take_more}
use Rattle.farkas_cert.specs.declared.literals.Lit.{Lit}
use Rattle.linear_form.specs.NormalForm.{Bounds}
use Rattle.clause_form.specs.Models.{HasTrue, form_value, RowsAgree, Satisfies}
use Rattle.clause_form.specs.declared.clauses.Atom.{Atom}
use Rattle.clause_form.specs.declared.clauses.Atom.TheVariants.{Row}
use Rattle.clause_form.specs.declared.clauses.Clauses.{Clauses}
use Rattle.clause_search.specs.Answers.{truth_in}
use Rattle.corner_guide.specs.Truths.{Agrees}

module _ (c : Clauses) (value : ℕ → ℤ) (over : ℕ) where
  -- each truth agrees with its atom
  abbrev pub AgreeAll : List Atom → List Bool → Type 0
  AgreeAll [] [] = Unit {0}
  AgreeAll [] (t ∷ ts) = ⊥
  AgreeAll (a ∷ xs) [] = ⊥
  AgreeAll (a ∷ xs) (t ∷ ts) = Agrees c value over a t × AgreeAll xs ts

  pub agree_more : (xs : List Atom) (ts : List Bool) (a : Atom) (t : Bool) → AgreeAll xs ts → Agrees c value over a t
      → AgreeAll (xs ++ a ∷ []) (ts ++ t ∷ [])
  agree_more [] [] a t all one = (one, tt)
  agree_more [] (u ∷ ts) a t all one = absurd all
  agree_more (b ∷ xs) [] a t all one = absurd all
  agree_more (b ∷ xs) (u ∷ ts) a t all one = (all.0, agree_more xs ts a t all.1 one)

  pub agree_count : (xs : List Atom) (ts : List Bool) → AgreeAll xs ts → length ts ≡ length xs
  agree_count [] [] all = refl
  agree_count [] (t ∷ ts) all = absurd all
  agree_count (a ∷ xs) [] all = absurd all
  agree_count (a ∷ xs) (t ∷ ts) all = ap suc (agree_count xs ts all.1)

  agree_at : (xs : List Atom) (ts : List Bool) (n : ℕ) (a : Atom) → AgreeAll xs ts → slice_get xs n ≡ Some a → Agrees c value over a (truth_in ts n)
  agree_at [] ts n a all is = absurd (cc)
  agree_at (b ∷ xs) [] n a all is = absurd all
  agree_at (b ∷ xs) (t ∷ ts) zero a all is =
      let same : b ≡ a = cc in
      subst (λ (x : Atom). Agrees c value over x t) same all.0
  agree_at (b ∷ xs) (t ∷ ts) (suc n) a all is = agree_at xs ts n a all.1 is

  -- one atom more, of the atoms that are read
  pub agree_next : (n : ℕ) (d : Atom) (items : List Atom) → items ≡ c.atoms → (ts : List Bool) (t : Bool) → n < length items → AgreeAll (take n c.atoms) ts
      → Agrees c value over (get_or items n d) t → AgreeAll (take (n + 1) c.atoms) (ts ++ t ∷ [])
  agree_next n d items is ts t within all one =
      let inside : n < length c.atoms = subst (λ (xs : List Atom). n < length xs) is within in
      let next : Agrees c value over (get_or c.atoms n d) t = subst (λ (xs : List Atom). Agrees c value over (get_or xs n d) t) is one in
      subst (λ (xs : List Atom). AgreeAll xs (ts ++ t ∷ [])) (sym (take_more c.atoms n d inside)) (agree_more (take n c.atoms) ts (get_or c.atoms n d) t all next)

  -- and at their end
  pub agree_all : (n : ℕ) (items : List Atom) → items ≡ c.atoms → (ts : List Bool) → length items ≤ n → AgreeAll (take n c.atoms) ts → AgreeAll c.atoms ts
  agree_all n items is ts past all =
      let whole : length c.atoms ≤ n = subst (λ (xs : List Atom). length xs ≤ n) is past in
      subst (λ (xs : List Atom). AgreeAll xs ts) (take_all n c.atoms whole) all

  pub rows_agree : (ts : List Bool) → AgreeAll c.atoms ts → RowsAgree c value over (truth_in ts)
  rows_agree ts all = λ n form num den strict is. agree_at c.atoms ts n (Row form num den strict) all is

same_truth : (a b : Bool) → beq a b ≡ true → a ≡ b
same_truth true true is = refl
same_truth true false is = absurd (cc)
same_truth false true is = absurd (cc)
same_truth false false is = refl

over_is : (z : ℤ) → pos 1 ≤ℤ z → z ≡ pos (unsigned_abs z)
over_is z some = omega (arith, ints)

-- a row's truth agrees with its atom
pub row_agrees : (c : Clauses) (value : ℕ → ℤ) (over : ℤ) (atom : Atom) (form : ℕ) (num den : ℤ) (strict : Bool) (held : Option Bool) → pos 1 ≤ℤ over
    → atom ≡ Row form num den strict
    → IfSome held (λ holds. IsTrue holds ↔ Bounds strict true (den *ℤ form_value c.columns c.forms value form) (num *ℤ over))
    → IfSome held (Agrees c value (unsigned_abs over) atom)
row_agrees c value over atom form num den strict None some is agrees = tt
row_agrees c value over atom form num den strict (Some holds) some is agrees =
    subst (λ (a : Atom). Agrees c value (unsigned_abs over) a holds) (sym is)
    (subst (λ (z : ℤ). IsTrue holds ↔ Bounds strict true (den *ℤ form_value c.columns c.forms value form) (num *ℤ z)) (over_is over some) agrees)

module _ (truth : ℕ → Bool) where
  -- the literal has this truth
  pub literal_true : (l : Lit) (t : Bool) → t ≡ truth l.atom → beq t l.positive ≡ true → truth l.atom ≡ l.positive
  literal_true l t is same = sym is ∙ same_truth t l.positive same

  -- a literal of the clause is true
  pub has_true_at : (clause : List Lit) (i : ℕ) (d : Lit) → i < length clause → truth (get_or clause i d).atom ≡ (get_or clause i d).positive
      → HasTrue truth clause
  has_true_at [] i d within is = absurd (omega arith)
  has_true_at (l ∷ clause) zero d within is = inl is
  has_true_at (l ∷ clause) (suc i) d within is = inr (has_true_at clause i d (omega arith) is)

  pub satisfies_more : (clauses : List (List Lit)) (clause : List Lit) → Satisfies truth clauses → HasTrue truth clause → Satisfies truth (clauses ++ clause ∷ [])
  satisfies_more [] clause all one = (one, tt)
  satisfies_more (first ∷ clauses) clause all one = (all.0, satisfies_more clauses clause all.1 one)
