-- What the definitions say of small certificates.
use Rattle.std.specs.Prelude.{◌≡◌, ◌-◌, ◌^◌, ℤ, pos, negsuc, Bool, true, false, List, [], ◌∷◌, ◌++◌}
use Rattle.farkas_cert.specs.Trees.{Tree, split, farkas, clause, Derived}
use Rattle.farkas_cert.specs.declared.trees.Part.{Part}
use Rattle.clause_form.specs.declared.clauses.Atom.TheVariants.{Row}
use Rattle.clause_form.specs.declared.clauses.Clauses.{Clauses}
use Rattle.clause_form.specs.Derivations.{rows_of}
use Rattle.cert_check.specs.Causes.{lemma_events, end_event}
use Rattle.cert_check.specs.Verdicts.{Verdict, proved, fails, wide, first_of}

-- over one column x: atom 0 is `x <= 0`, atom 1 is `x <= bound` or `x < bound`; atom 0 is true and atom 1 false
abbrev pub problem : Bool → ℤ → Clauses
problem strict bound = record {
  columns = 1;
  forms = [];
  atoms =
      Row 0 (pos 0) (pos 1) false ∷ Row 0 bound (pos 1) strict ∷ [];
  clauses =
      (record { atom = 0; positive = true } ∷ []) ∷ (record { atom = 1; positive = false } ∷ []) ∷ [];
}

-- the verdict on lemmas for clauses of the same sizes
abbrev pub judged : Clauses → List Derived → Verdict
judged c lemmas = first_of (lemma_events (rows_of c) c.clauses 0 lemmas ++ end_event 0 lemmas ∷ [])

-- a lemma that is the empty clause
abbrev pub empty_by : Tree → Derived
empty_by tree = record { lits = []; tree = tree }

-- nodes: 1 splits atom 0, 2 splits atom 1, 3 and 5 cite the clauses, 4 is the leaf
abbrev pub by_leaf : List Part → List Derived
by_leaf parts = empty_by (split 0 (split 1 (clause 1) (farkas parts)) (clause 0)) ∷ []

-- atom 0 and not atom 1, with these multipliers
abbrev pub both_rows : ℤ → ℤ → List Part
both_rows m n =
    record { lit = record { atom = 0; positive = true }; mult = m } ∷ record { lit = record { atom = 1; positive = false }; mult = n } ∷ []

abbrev pub one_row : ℤ → List Part
one_row m = record { lit = record { atom = 1; positive = true }; mult = m } ∷ []

-- node 2 is a leaf on the path of atom 1, node 3 cites a clause
abbrev pub by_second : List Part → List Derived
by_second parts = empty_by (split 1 (farkas parts) (clause 0)) ∷ []

pub record Examples : Type 0 where
  -- the leaf `0 <= 0`, and `0 < -1`
  pub none_strict : judged (problem true (pos 0)) (by_leaf (both_rows (pos 1) (pos 1))) ≡ fails 0 4 3
  pub closed : judged (problem false (pos 1)) (by_leaf (both_rows (pos 1) (pos 1))) ≡ proved
  pub negative : judged (problem false (pos 1)) (by_leaf (both_rows (pos 1) (negsuc 0))) ≡ fails 0 4 4
  -- a later lemma is cited, and the lemma itself
  pub later : judged (problem true (pos 0)) (empty_by (clause 3) ∷ empty_by (clause 0) ∷ []) ≡ fails 0 1 6
  pub itself : judged (problem true (pos 0)) (empty_by (clause 2) ∷ empty_by (clause 0) ∷ []) ≡ fails 0 1 6
  -- a clause that names an atom twice
  pub twice : judged (problem true (pos 0)) (record { lits = record { atom = 0; positive = true } ∷ record { atom = 0; positive = true } ∷ []; tree = clause 0 } ∷ []) ≡ fails 0 0 2
  -- the sum `0 <= 0` with a strict row whose multiplier is 0, and `x <= -1` alone
  pub unused : judged (problem true (pos 0)) (by_second (one_row (pos 0))) ≡ fails 0 2 3
  pub uncancelled : judged (problem false (negsuc 0)) (by_second (one_row (pos 1))) ≡ fails 0 2 3
  -- a literal that was assumed in the first tree of a split alone
  pub undone : judged (problem true (pos 0)) (empty_by (split 1 (clause 1) (clause 1)) ∷ []) ≡ fails 0 3 5
  pub not_there : judged (problem true (pos 0)) (by_second (both_rows (pos 1) (pos 1))) ≡ fails 0 2 7
  -- the greatest multiplier, twice
  pub too_wide : judged (problem true (pos 0)) (by_second (one_row (pos (2 ^ 127 - 1)) ++ one_row (pos (2 ^ 127 - 1)))) ≡ wide 0 2 0
