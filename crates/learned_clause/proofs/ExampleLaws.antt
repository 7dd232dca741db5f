-- The examples are trails, and what they begin with is false on them.
use Rattle.std.proofs.Common.{◌≡◌, ℕ, zero, suc, ◌<◌, pos, List, [], ◌∷◌, take, Option, None, Some, slice_get, refl, sym, ◌∙◌, ap, subst, inl, inr, arith, false, true, negsuc, is_some}
use Rattle.std.proofs.lemmas.Int.{ints}
use Rattle.std.proofs.lemmas.Option.{same_Some}
use Rattle.farkas_cert.specs.declared.certificates.Lemma.{Lemma}
use Rattle.farkas_cert.specs.declared.literals.Lit.{Lit}
use Rattle.farkas_cert.specs.declared.trees.Part.{Part}
use Rattle.clause_form.specs.declared.clauses.Clauses.{Clauses}
use Rattle.clause_form.specs.Derivations.{Rows, SumsFit, coef_running, coef_sum, rows_of}
use Rattle.clause_form.specs.Journals.{Entry, literals}
use Rattle.learned_clause.specs.Examples.{IsGiven, four_clauses, no_lit, three_assigned, two_assigned, two_parts, two_rows, yes_lit}
use Rattle.learned_clause.specs.Learning.{IsFalseStart}
use Rattle.learned_clause.specs.Trails.{IsFounded, IsTrail, Stands, entries, known_with}
use Rattle.learned_clause.specs.declared.learning.Start.TheVariants.{Clause, Clash}
use Rattle.learned_clause.specs.declared.trails.Assigned.{Assigned}

-- ---- three atoms

given_founded : (by : Option ℕ) → IsGiven by → IsFounded (known_with four_clauses []) [] (yes_lit 0) by
given_founded None given = tt
given_founded (Some number) given = (yes_lit 0 ∷ [], ap (slice_get (known_with four_clauses [])) given, inl refl, (inl refl, tt))

three_stand : (by : Option ℕ) → IsGiven by → (k : ℕ) (e : Entry) → slice_get (entries (three_assigned by)) k ≡ Some e
    → Stands 3 (known_with four_clauses []) (literals (take k (entries (three_assigned by)))) e
three_stand by given zero e g =
    subst (Stands 3 (known_with four_clauses []) []) (same_Some _ e g) (record { free = (omega arith, λ h. h); founded = given_founded by given })
three_stand by given (suc zero) e g =
    subst (Stands 3 (known_with four_clauses []) (yes_lit 0 ∷ [])) (same_Some _ e g) (record {
      free = (omega arith, λ h. elim h [ inl s ↦ absurd (omega arith) | inr t ↦ t ]);
      founded = (no_lit 0 ∷ yes_lit 1 ∷ [], refl, inr (inl refl), (inr (inl refl), (inl refl, tt)));
    })
three_stand by given (suc (suc zero)) e g =
    subst (Stands 3 (known_with four_clauses []) (yes_lit 0 ∷ yes_lit 1 ∷ [])) (same_Some _ e g) (record {
      free = (omega arith, λ h. elim h [ inl s ↦ absurd (omega arith) | inr t ↦ elim t [ inl s ↦ absurd (omega arith) | inr u ↦ u ] ]);
      founded = (no_lit 1 ∷ yes_lit 2 ∷ [], refl, inr (inl refl), (inr (inr (inl refl)), (inl refl, tt)));
    })
three_stand by given (suc (suc (suc k))) e g = absurd (cc)

pub three_trail : (n : ℕ) (clauses : List (List Lit)) (trail : List Assigned) (by : Option ℕ) → IsGiven by → n ≡ 3 → clauses ≡ four_clauses
    → trail ≡ three_assigned by → IsTrail n (known_with clauses []) (entries trail)
three_trail n clauses trail by given en ec et =
    subst (λ (m : ℕ). IsTrail m (known_with clauses []) (entries trail)) (sym en) (subst (λ (cs : List (List Lit)). IsTrail 3 (known_with cs []) (entries trail)) (sym ec) (subst (λ (t : List Assigned). IsTrail 3 (known_with four_clauses []) (entries t)) (sym et) (record { few = omega arith; stands = three_stand by given })))

pub three_false : (c : Rows) (clauses : List (List Lit)) (trail : List Assigned) (by : Option ℕ) → clauses ≡ four_clauses → trail ≡ three_assigned by
    → IsFalseStart c (known_with clauses []) (literals (entries trail)) (Clause 2)
three_false c clauses trail by ec et =
    subst (λ (cs : List (List Lit)). IsFalseStart c (known_with cs []) (literals (entries trail)) (Clause 2)) (sym ec) (subst (λ (t : List Assigned). IsFalseStart c (known_with four_clauses []) (literals (entries t)) (Clause 2)) (sym et) (no_lit 1 ∷ no_lit 2 ∷ [], refl, (inr (inl refl), (inr (inr (inl refl)), tt))))

-- ---- two rows

two_stand : (k : ℕ) (e : Entry) → slice_get (entries two_assigned) k ≡ Some e → Stands 2 [] (literals (take k (entries two_assigned))) e
two_stand zero e g = subst (Stands 2 [] []) (same_Some _ e g) (record { free = (omega arith, λ h. h); founded = tt })
two_stand (suc zero) e g =
    subst (Stands 2 [] (yes_lit 0 ∷ [])) (same_Some _ e g) (record { free = (omega arith, λ h. elim h [ inl s ↦ absurd (omega arith) | inr t ↦ t ]); founded = tt })
two_stand (suc (suc k)) e g = absurd (cc)

pub two_trail : (c : Clauses) (trail : List Assigned) (n : ℕ) (known : List (List Lit)) → c ≡ two_rows → trail ≡ two_assigned → n ≡ 2 → known ≡ []
    → IsTrail n known (entries trail)
two_trail c trail n known ec et en ek =
    subst (λ (m : ℕ). IsTrail m known (entries trail)) (sym en) (subst (λ (ks : List (List Lit)). IsTrail 2 ks (entries trail)) (sym ek) (subst (λ (t : List Assigned). IsTrail 2 [] (entries t)) (sym et) (record { few = omega arith; stands = two_stand })))

no_sum : (column : ℕ) → column < 1 → coef_sum (rows_of two_rows) column two_parts ≡ pos 0
no_sum zero less = refl
no_sum (suc k) less = absurd (omega arith)

sums_fit : SumsFit (rows_of two_rows) two_parts
sums_fit = record { columns = fits; bound = refl }
  where
    fits : (column : ℕ) → column < 1 → is_some (coef_running (rows_of two_rows) column (pos 0) two_parts) ≡ true
    fits zero less = refl
    fits (suc k) less = absurd (omega arith)

two_false : (known : List (List Lit)) → IsFalseStart (rows_of two_rows) known (literals (entries two_assigned)) (Clash two_parts)
two_false known = (
  omega arith,
  record {
    rows = (
      (record { terms = record { column = 0; coef = pos 1 } ∷ []; factor = pos 1; bound = pos 0; strict = false }, refl),
      inl refl,
      omega (arith, ints),
      (
        (record { terms = record { column = 0; coef = pos 1 } ∷ []; factor = negsuc 0; bound = negsuc 0; strict = true }, refl),
        inr (inl refl),
        omega (arith, ints),
        tt,
      ),
    );
    columns = no_sum;
    bound = inl (omega (arith, ints));
  },
  sums_fit,
)

pub rows_false : (c : Clauses) (known : List (List Lit)) (trail : List Assigned) (parts : List Part) → c ≡ two_rows → trail ≡ two_assigned
    → parts ≡ two_parts → IsFalseStart (rows_of c) known (literals (entries trail)) (Clash parts)
rows_false c known trail parts ec et ep =
    subst (λ (d : Clauses). IsFalseStart (rows_of d) known (literals (entries trail)) (Clash parts)) (sym ec) (subst (λ (t : List Assigned). IsFalseStart (rows_of two_rows) known (literals (entries t)) (Clash parts)) (sym et) (subst (λ (ps : List Part). IsFalseStart (rows_of two_rows) known (literals (entries two_assigned)) (Clash ps)) (sym ep) (two_false known)))

-- ---- lists of entries

pub three_same : (a b d : Assigned) (by : Option ℕ) → a ≡ record { lit = yes_lit 0; by = by } → b ≡ record { lit = yes_lit 1; by = Some 0 } → d ≡ record { lit = yes_lit 2; by = Some 1 } → a ∷ b ∷ d ∷ [] ≡ three_assigned by
three_same a b d by ea eb ed =
    ap (λ (x : Assigned). x ∷ b ∷ d ∷ []) ea ∙ ap (λ (x : Assigned). record { lit = yes_lit 0; by = by } ∷ x ∷ d ∷ []) eb ∙ ap (λ (x : Assigned). record { lit = yes_lit 0; by = by } ∷ record { lit = yes_lit 1; by = Some 0 } ∷ x ∷ []) ed

pub two_same : {T : Type 0} (a b x y : T) → a ≡ x → b ≡ y → a ∷ b ∷ [] ≡ x ∷ y ∷ []
two_same {T} a b x y ea eb = ap (λ (z : T). z ∷ b ∷ []) ea ∙ ap (λ (z : T). x ∷ z ∷ []) eb

-- an entry or a part by its literal
abbrev entry_of : Option ℕ → Lit → Assigned
entry_of by l = record { lit = l; by = by }

abbrev part_of : Lit → Part
part_of l = record { lit = l; mult = pos 1 }

pub with_literal : (e : Assigned) (l m : Lit) (by : Option ℕ) → e ≡ record { lit = l; by = by } → l ≡ m → e ≡ record { lit = m; by = by }
with_literal e l m by is same = is ∙ ap (entry_of by) same

pub with_part : (p : Part) (l m : Lit) → p ≡ record { lit = l; mult = pos 1 } → l ≡ m → p ≡ record { lit = m; mult = pos 1 }
with_part p l m is same = is ∙ ap part_of same
