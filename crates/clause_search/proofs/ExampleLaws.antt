-- The theory of names answers as a theory does, and clauses over named atoms are well formed.
use Rattle.std.proofs.Common.{◌≡◌, ℕ, zero, suc, ◌+◌, ◌<◌, ◌≤◌, ◌^◌, ℤ, pos, Bool, true, false, List, [], ◌∷◌, ◌++◌, length, replicate, Some, IfSome, slice_get, All, refl, sym, ap, subst, arith}
use Rattle.std.proofs.lemmas.List.{append-nil, length-replicate}
use Rattle.std.proofs.lemmas.List.Elements.{All-head, All-tail}
use Rattle.whole.specs.Budget.{Counts, opening}
use Rattle.whole.specs.declared.budget.Budget.{Budget}
use Rattle.farkas_cert.specs.declared.journals.Journal.{Journal}
use Rattle.farkas_cert.specs.declared.literals.Lit.{Lit}
use Rattle.clause_form.specs.declared.clauses.Atom.{Atom}
use Rattle.clause_form.specs.declared.clauses.Atom.TheVariants.{Named, Row}
use Rattle.clause_form.specs.declared.clauses.Clauses.{Clauses}
use Rattle.clause_form.specs.declared.theory.Heard.TheVariants as heard
use Rattle.clause_form.specs.Models.{RowHolds}
use Rattle.clause_form.specs.Theories.{AreMet, HearsCheck, HearsLiteral, TheoryView, works, without_memory}
use Rattle.clause_form.specs.WellFormed.{Below}
use Rattle.clause_search.specs.Answers.{IsStart}
use Rattle.clause_search.specs.Examples.{AreBelow, IsNamed, named_rows, names, seen_names}

not_both : without_memory ≡ works → ⊥
not_both e = cc

pub tell_fine : (n : ℕ) (told told' : List Lit) (fine working : Bool) (l : Lit) → working ≡ true → told' ≡ told ++ l ∷ []
    → HearsLiteral names (seen_names n told fine working) l heard.Fine (seen_names n told' false working)
tell_fine n told told' fine true l w e = record {
  at_work = λ work. (record { rows = refl; told = e; state = tt; fine = refl; rest = refl }, refl, λ h. h);
  at_rest = tt;
}
tell_fine n told told' fine false l w e = absurd (cc)

pub tell_failed : (n : ℕ) (told told' : List Lit) (fine working : Bool) (l : Lit) → working ≡ true
    → HearsLiteral names (seen_names n told fine working) l heard.NoMemory (seen_names n told' fine false)
tell_failed n told told' fine true l w = record { at_work = λ work. (refl, refl); at_rest = tt }
tell_failed n told told' fine false l w = absurd (cc)

pub tell_refused : (n : ℕ) (told : List Lit) (fine working : Bool) (l : Lit) → working ≡ false
    → HearsLiteral names (seen_names n told fine working) l heard.NoMemory (seen_names n told fine working)
tell_refused n told fine true l w = absurd (cc)
tell_refused n told fine false l w = record { at_work = λ work. absurd (not_both work); at_rest = (refl, refl) }

named_holds : (n atom : ℕ) (value : ℕ → ℤ) (over : ℕ) (positive : Bool) → IfSome (slice_get (replicate n Named) atom) (RowHolds 0 [] value over positive)
named_holds zero atom value over positive = tt
named_holds (suc n) zero value over positive = tt
named_holds (suc n) (suc atom) value over positive = named_holds n atom value over positive

names_met : (n : ℕ) (value : ℕ → ℤ) (over : ℕ) (told : List Lit) → AreMet (named_rows n) value over told
names_met n value over [] = tt
names_met n value over (l ∷ ls) = (named_holds n l.atom value over l.positive, names_met n value over ls)

plus_zero : (n : ℕ) → n ≡ n + 0
plus_zero n = omega arith

with_pivots : Budget → ℕ → Counts
with_pivots b k = record { limit = b.limit; decisions = b.decisions; propagations = b.propagations; pivots = k; conflicts = b.conflicts }

pub check_fine : (n : ℕ) (told : List Lit) (fine working : Bool) (b : Budget) (j : Journal) → working ≡ true
    → HearsCheck names (seen_names n told fine working) heard.Fine (seen_names n told true working) b b j j
unfolding with_pivots
check_fine n told fine true b j w = record {
  pivots = [];
  charged = ap (with_pivots b) (plus_zero b.pivots);
  moves = sym (append-nil j.moves);
  at_work = λ work. (record { rows = refl; told = refl; state = refl; rest = refl }, refl, refl, λ h. h, λ h. h, (λ column. pos 0, 1, omega arith, names_met n (λ column. pos 0) 1 told));
  at_rest = tt;
}
check_fine n told fine false b j w = absurd (cc)

pub check_refused : (n : ℕ) (told : List Lit) (fine working : Bool) (b : Budget) (j : Journal) → working ≡ false
    → HearsCheck names (seen_names n told fine working) heard.NoMemory (seen_names n told fine working) b b j j
unfolding with_pivots
check_refused n told fine true b j w = absurd (cc)
check_refused n told fine false b j w = record {
  pivots = [];
  charged = ap (with_pivots b) (plus_zero b.pivots);
  moves = sym (append-nil j.moves);
  at_work = λ work. absurd (not_both work);
  at_rest = (refl, refl);
}

-- ---- clauses over named atoms

no_form : {T : Type 0} (j : ℕ) (f : T) → slice_get [] j ≡ Some f → ⊥
no_form j f e = cc

no_row : (n k form : ℕ) (num den : ℤ) (strict : Bool) → slice_get (replicate n Named) k ≡ Some (Row form num den strict) → ⊥
no_row zero k form num den strict e = cc
no_row (suc n) zero form num den strict e = cc
no_row (suc n) (suc k) form num den strict e = no_row n k form num den strict e

below_at : (n : ℕ) (cs : List (List Lit)) → AreBelow n cs → (k : ℕ) (clause : List Lit) → slice_get cs k ≡ Some clause → Below n clause
below_at n [] below k clause e = absurd (cc)
below_at n (x ∷ xs) below zero clause e = let same : x ≡ clause = cc in subst (λ (ls : List Lit). Below n ls) same below.0
below_at n (x ∷ xs) below (suc k) clause e = below_at n xs below.1 k clause e

abbrev over_names : ℕ → List (List Lit) → Clauses
over_names n cs = record { columns = 0; forms = []; atoms = replicate n Named; clauses = cs }

abbrev pub with_atoms : List (List Lit) → List Atom → Clauses
with_atoms cs atoms = record { columns = 0; forms = []; atoms = atoms; clauses = cs }

pub named_formed : (n : ℕ) (cs : List (List Lit)) (c : Clauses) → n ≤ 4096 → length cs ≤ 1048576 → AreBelow n cs → c ≡ over_names n cs → IsNamed n c
named_formed n cs c few some below e = subst (λ (d : Clauses). IsNamed n d) (sym e) (record {
  formed = record {
    few_forms = omega arith;
    few_atoms = subst (λ (k : ℕ). k ≤ 4096) (sym (length-replicate n Named)) few;
    few_clauses = some;
    forms = λ j f e. absurd (no_form j f e);
    forms_differ = λ i j f e g. absurd (no_form i f e);
    rows = λ k form num den strict e. absurd (no_row n k form num den strict e);
    rows_differ = λ k m form num den strict e g. absurd (no_row n k form num den strict e);
    in_range = λ k clause e. subst (λ (m : ℕ). Below m clause) (sym (length-replicate n Named)) (below_at n cs below k clause e);
  };
  rows = refl;
})

pub below_all : (n : ℕ) (xs : List Lit) → All (λ l. l.atom < n) xs → Below n xs
below_all n [] all = tt
below_all n (x ∷ xs) all = (All-head (λ l. l.atom < n) x xs all, below_all n xs (All-tail (λ l. l.atom < n) x xs all))

abbrev pub AllBelow : ℕ → List (List Lit) → Type 0
AllBelow n cs = All (λ c. All (λ l. l.atom < n) c) cs

pub are_below_all : (n : ℕ) (cs : List (List Lit)) → All (λ c. All (λ l. l.atom < n) c) cs → AreBelow n cs
are_below_all n [] all = tt
are_below_all n (c ∷ cs) all = (below_all n c (All-head (λ ls. All (λ l. l.atom < n) ls) c cs all), are_below_all n cs (All-tail (λ ls. All (λ l. l.atom < n) ls) c cs all))

pub named_start : (n limit : ℕ) (c : Clauses) (seen : TheoryView (Unit {0})) (k : Counts) → IsNamed n c → seen ≡ seen_names n [] false true → k ≡ opening limit
    → limit ≤ 2 ^ 31 → IsStart names c seen k
named_start n limit c seen k named e f few =
    subst (λ (s : TheoryView (Unit {0})). IsStart names c s k) (sym e) (subst (λ (m : Counts). IsStart names c (seen_names n [] false true) m) (sym f) (record {
      formed = named.formed;
      rows = sym named.rows;
      untold = refl;
      paid = refl;
      at_work = refl;
      opens = tt;
      unspent = refl;
      limit = few;
    }))
