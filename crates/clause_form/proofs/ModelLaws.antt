-- The models of the clauses are the values at which all formulas are true.
use Rattle.std.proofs.Common.{◌≡◌, ℕ, zero, suc, ◌+◌, ◌-◌, ◌<◌, ◌≤◌, ◌==◌, nat_lt, ℤ, pos, ◌+ℤ◌, ◌*ℤ◌, ◌<ℤ◌, unsigned_abs, Bool, true, false, not, ◌&&◌, ◌||◌, ◌↔◌, List, [], ◌∷◌, ◌++◌, map, length, All, slice_get, Option, None, Some, Result, Ok, Err, IfOk, refl, sym, ap, subst, ◌∙◌, if◌then◌else◌, arith}
use Rattle.std.specs.Option.{option_map, option_map_or}
use Rattle.std.specs.Int.{◌∣◌}
use Rattle.std.proofs.lemmas.Int.{ints}
use Rattle.std.proofs.lemmas.Nat.Gcd.{dvd_refl}
use Rattle.std.proofs.lemmas.Bool.{eq-eqb, eqb-true, ltb-true, ltb-false}
use Rattle.std.proofs.lemmas.Option.{slice_get-map}
use Rattle.condition_tree.specs.Trees.{Tree, always, never, leaf, opposite, end_of_all, all_of, end_of_any, any_of, conjunction, disjunction, is_true, EachLeaf, Says, Truth}
use Rattle.condition_tree.proofs.Trees.{each_leaf_gives, truth_is_decided}
use Rattle.linear_form.specs.declared.lists.Form.{Form}
use Rattle.linear_form.specs.declared.lists.Term.{Term}
use Rattle.linear_form.specs.declared.relations.Comparison.{Comparison}
use Rattle.linear_form.specs.declared.relations.Normal.{Normal}
use Rattle.linear_form.specs.declared.relations.Normal.TheVariants.{Always, Never, Bound}
use Rattle.linear_form.specs.Sums.{sum_of}
use Rattle.linear_form.specs.NormalForm.{Bounds, DividesAll, HasColumnsBelow, IsNormal, IsNormalForm, Meets, StartsPositive, is_related, normal_of}
use Rattle.linear_form.proofs.LiteralBounds.{HasColumnsBelow-normal_of}
use Rattle.linear_form.proofs.NormalLiterals.{IsNormal-normal_of}
use Rattle.linear_form.proofs.Truth.{is_related-Related}
use Rattle.farkas_cert.specs.declared.literals.Lit.{Lit}
use Rattle.clause_form.specs.declared.clauses.Atom.{Atom}
use Rattle.clause_form.specs.declared.clauses.Atom.TheVariants as atoms
use Rattle.clause_form.specs.declared.clauses.BuildFault.{BuildFault}
use Rattle.clause_form.specs.declared.clauses.Clauses.{Clauses}
use Rattle.clause_form.specs.Answers.{Gives}
use Rattle.clause_form.specs.declared.clauses.What.{What}
use Rattle.clause_form.specs.declared.keys.Connective.{Connective}
use Rattle.clause_form.specs.declared.keys.Connective.TheVariants.{And, Or}
use Rattle.clause_form.specs.declared.keys.Key.{Key}
use Rattle.clause_form.specs.declared.keys.Key.TheVariants.{Row, Named}
use Rattle.clause_form.specs.declared.simple.RowLit.{RowLit}
use Rattle.clause_form.specs.Building.{Build, and_then, built, clauses_made, clauses_of, demanded_known, nothing}
use Rattle.clause_form.specs.Formulas.{AreTrueAt, CanTake, EachComparison, IsTrueAt}
use Rattle.clause_form.specs.Keys.{atom_of}
use Rattle.clause_form.specs.Models.{IsModel, RowHolds, form_value}
use Rattle.clause_form.specs.Simplified.{Trimmed, yes, no, shown, Node, whole, all_parts, any_parts, closed, conjunct, conjuncts, disjunct, disjuncts, node, simplified, trimmed_all, trimmed_any, trimmed_leaf, trimmed_opposite}
use Rattle.linear_form.specs.NormalForm.{HasSmallNumbers}
use Rattle.clause_form.specs.WellFormed.{IsGoodForm, IsGoodRow, IsWellFormed}
use Rattle.clause_form.proofs.SmallNumbers.{small_literal}
use Rattle.clause_form.proofs.DemandLaws.{Demanded, TrimmedRows, demanded_on, known_law, nothing_demanded}
use Rattle.clause_form.specs.WellFormed.{Below}
use Rattle.std.proofs.lemmas.List.{length-map}
use Rattle.clause_form.proofs.Growth.{each_below_at, Fits, KeyBelow, Sound, key_true, same_ok, went_on}
use Rattle.clause_form.proofs.Steps.{IsRow}
use Rattle.clause_form.proofs.Truths.{Satisfies-sat, all_true, any_true, by_sign, holds, holds-Bounds, joined, lit_true, meets, row_true, same_test, sat, sat-Satisfies, sat-definitions, simplified_truth, trimmed_truth}

-- ---- the rows of formulas

same_some : {X : Type 0} (x y : X) → ◌≡◌ {A = Option X} (Some x) (Some y) → x ≡ y
same_some x y e = cc

unit_coef : (z : ℤ) → pos 0 <ℤ z → unsigned_abs z ≡ 1 → z ≡ pos 1
unit_coef z some one = omega (arith, ints)

leaf_rows : (columns : ℕ) (c : Comparison) → CanTake columns c → TrimmedRows columns (trimmed_leaf (normal_of c))
leaf_rows columns c can = by (normal_of c) (IsNormal-normal_of c) (HasColumnsBelow-normal_of c columns can.in_range) (small_literal c can.small)
  where
    by : (n : Normal) → IsNormal n → HasColumnsBelow columns n → HasSmallNumbers n → TrimmedRows columns (trimmed_leaf n)
    by Always is below small = tt
    by Never is below small = tt
    by (Bound form num den strict positive) is below small = record {
      alone = λ t only.
          let starts : StartsPositive (t ∷ []) = subst StartsPositive only is.0.starts_positive in
          let divides : DividesAll (unsigned_abs t.coef) form.terms = subst (DividesAll (unsigned_abs t.coef)) (sym only) (dvd_refl (unsigned_abs t.coef), tt) in
          let low = subst (λ (ts : List Term). All (λ u. u.column < columns) ts) only below in
          (unit_coef t.coef starts (is.0.primitive (unsigned_abs t.coef) divides), low 0 t (omega arith));
      normal = is.0;
      in_range = below;
      small = small.0;
      num_small = small.1;
      den_small = small.2;
      den_some = is.1;
    }

abbrev AllRows : ℕ → Option (List (Tree RowLit)) → Type 0
AllRows columns None = Unit {0}
AllRows columns (Some ts) = EachLeaf (IsRow columns) (conjunction ts)

abbrev AnyRows : ℕ → Option (List (Tree RowLit)) → Type 0
AnyRows columns None = Unit {0}
AnyRows columns (Some ts) = EachLeaf (IsRow columns) (disjunction ts)

abbrev NodeRows : ℕ → Node → Type 0
NodeRows columns (whole t) = TrimmedRows columns t
NodeRows columns (all_parts ts) = AllRows columns ts
NodeRows columns (any_parts ts) = AnyRows columns ts

module _ (columns : ℕ) where
  trimmed_all_rows : (ts : Option (List (Tree RowLit))) → AllRows columns ts → TrimmedRows columns (trimmed_all ts)
  trimmed_all_rows None rows = tt
  trimmed_all_rows (Some []) rows = tt
  trimmed_all_rows (Some (t ∷ [])) rows = rows.0
  trimmed_all_rows (Some (t ∷ u ∷ ts)) rows = rows

  trimmed_any_rows : (ts : Option (List (Tree RowLit))) → AnyRows columns ts → TrimmedRows columns (trimmed_any ts)
  trimmed_any_rows None rows = tt
  trimmed_any_rows (Some []) rows = tt
  trimmed_any_rows (Some (t ∷ [])) rows = rows.0
  trimmed_any_rows (Some (t ∷ u ∷ ts)) rows = rows

  closed_rows : (v : Node) → NodeRows columns v → TrimmedRows columns (closed v)
  closed_rows (whole t) rows = rows
  closed_rows (all_parts ts) rows = trimmed_all_rows ts rows
  closed_rows (any_parts ts) rows = trimmed_any_rows ts rows

  conjunct_rows : (t : Trimmed) (rest : Option (List (Tree RowLit))) → TrimmedRows columns t → AllRows columns rest → AllRows columns (conjunct t rest)
  conjunct_rows yes rest first rows = rows
  conjunct_rows no rest first rows = tt
  conjunct_rows (shown t) None first rows = tt
  conjunct_rows (shown t) (Some ts) first rows = (first, rows)

  disjunct_rows : (t : Trimmed) (rest : Option (List (Tree RowLit))) → TrimmedRows columns t → AnyRows columns rest → AnyRows columns (disjunct t rest)
  disjunct_rows yes rest first rows = tt
  disjunct_rows no rest first rows = rows
  disjunct_rows (shown t) None first rows = tt
  disjunct_rows (shown t) (Some ts) first rows = (first, rows)

  conjuncts_rows : (v : Node) → NodeRows columns v → AllRows columns (conjuncts v)
  conjuncts_rows (whole t) rows = conjunct_rows t (Some []) rows tt
  conjuncts_rows (all_parts ts) rows = rows
  conjuncts_rows (any_parts ts) rows = conjunct_rows (trimmed_any ts) (Some []) (trimmed_any_rows ts rows) tt

  disjuncts_rows : (v : Node) → NodeRows columns v → AnyRows columns (disjuncts v)
  disjuncts_rows (whole t) rows = disjunct_rows t (Some []) rows tt
  disjuncts_rows (all_parts ts) rows = disjunct_rows (trimmed_all ts) (Some []) (trimmed_all_rows ts rows) tt
  disjuncts_rows (any_parts ts) rows = rows

  opposite_rows : (t : Trimmed) → TrimmedRows columns t → TrimmedRows columns (trimmed_opposite t)
  opposite_rows yes rows = tt
  opposite_rows no rows = tt
  opposite_rows (shown t) rows = rows

  node_rows : (f : Tree Comparison) → EachLeaf (CanTake columns) f → NodeRows columns (node f)
  node_rows always can = tt
  node_rows never can = tt
  node_rows (leaf c) can = leaf_rows columns c can
  node_rows (opposite f) can = opposite_rows (closed (node f)) (closed_rows (node f) (node_rows f can))
  node_rows end_of_all can = tt
  node_rows (all_of f rest) can =
      conjunct_rows (closed (node f)) (conjuncts (node rest)) (closed_rows (node f) (node_rows f can.0)) (conjuncts_rows (node rest) (node_rows rest can.1))
  node_rows end_of_any can = tt
  node_rows (any_of f rest) can =
      disjunct_rows (closed (node f)) (disjuncts (node rest)) (closed_rows (node f) (node_rows f can.0)) (disjuncts_rows (node rest) (node_rows rest can.1))

  simplified_rows : (f : Tree Comparison) → EachLeaf (CanTake columns) f → TrimmedRows columns (simplified f)
  unfolding simplified
  simplified_rows f can = closed_rows (node f) (node_rows f can)

-- ---- all formulas together

abbrev all_trimmed : (ℕ → ℤ) → ℕ → List (Tree Comparison) → Bool
all_trimmed value over [] = true
all_trimmed value over (f ∷ fs) = trimmed_truth (row_true value over) (simplified f) && all_trimmed value over fs

built_law : (fs : List (Tree Comparison)) (s t : Build) → EachComparison (CanTake s.columns) fs → built fs s ≡ Ok t → Demanded s t (λ value over. all_trimmed value over fs)
built_law [] s t can e = nothing_demanded s t e
built_law (f ∷ fs) s t can e =
    let w = went_on (demanded_known (simplified f) s) (λ u. built fs u) t e in
    let first = known_law (simplified f) s w.0 (simplified_rows s.columns f can.0) w.1 in
    demanded_on s w.0 t (λ value over. trimmed_truth (row_true value over) (simplified f)) (λ value over. all_trimmed value over fs) first
    (built_law fs w.0 t (subst (λ (c : ℕ). EachComparison (CanTake c) fs) (sym first.grows.columns) can.1) w.2)

both_true : (a b : Bool) → (a && b) ≡ true → (a ≡ true) × (b ≡ true)
both_true true b e = (refl, e)
both_true false b e = absurd (cc)

says_true : (b : Bool) (P : Type 0) → Says b P → b ≡ true → P
says_true true P says e = says
says_true false P says e = absurd (cc)

true_says : (b : Bool) (P : Type 0) → Says b P → P → b ≡ true
true_says true P says h = refl
true_says false P says h = absurd (says h)

module _ (value : ℕ → ℤ) (over : ℕ) (some : 0 < over) (columns : ℕ) where
  meets_says : (c : Comparison) → Says (meets value over c) (Meets value over c)
  meets_says c = by (meets value over c) (is_related-Related c.rel (sum_of value c.terms +ℤ c.constant *ℤ pos over))
    where
      by : (b : Bool) → Meets value over c ↔ (b ≡ true) → Says b (Meets value over c)
      by true same = same.1 refl
      by false same = λ h. absurd (let e = same.0 h in cc)

  formula_says : (f : Tree Comparison) → EachLeaf (CanTake columns) f → Says (is_true (meets value over) f) (IsTrueAt value over f)
  formula_says f can = truth_is_decided (meets value over) (Meets value over) f (each_leaf_gives (CanTake columns) (λ c. Says (meets value over c) (Meets value over c)) f (λ c small. meets_says c) can)

  all_hold : (fs : List (Tree Comparison)) → EachComparison (CanTake columns) fs → all_trimmed value over fs ≡ true → AreTrueAt value over fs
  all_hold [] can e = tt
  all_hold (f ∷ fs) can e =
      let both = both_true (trimmed_truth (row_true value over) (simplified f)) (all_trimmed value over fs) e in
      (says_true (is_true (meets value over) f) (IsTrueAt value over f) (formula_says f can.0) (sym (simplified_truth value over some f) ∙ both.0), all_hold fs can.1 both.1)

  all_held : (fs : List (Tree Comparison)) → EachComparison (CanTake columns) fs → AreTrueAt value over fs → all_trimmed value over fs ≡ true
  all_held [] can h = refl
  all_held (f ∷ fs) can h =
      let first = simplified_truth value over some f ∙ true_says (is_true (meets value over) f) (IsTrueAt value over f) (formula_says f can.0) h.0 in
      let rest = all_held fs can.1 h.1 in
      (λ i. first i && rest i)

-- ---- truths for the atoms that were made

put : ℕ → Bool → (ℕ → Bool) → ℕ → Bool
put n b truth m = if m == n then b else truth m

put-there : (n : ℕ) (b : Bool) (truth : ℕ → Bool) → put n b truth n ≡ b
unfolding put
put-there n b truth = by (n == n) refl
  where
    by : (e : Bool) → (n == n) ≡ e → (if e then b else truth n) ≡ b
    by true e = refl
    by false e = absurd (let self : (n == n) ≡ true = eq-eqb n n refl in cc)

put-elsewhere : (n : ℕ) (b : Bool) (truth : ℕ → Bool) (m : ℕ) → m < n → put n b truth m ≡ truth m
unfolding put
put-elsewhere n b truth m below = by (m == n) refl
  where
    by : (e : Bool) → (m == n) ≡ e → (if e then b else truth m) ≡ truth m
    by true e = absurd (let at : m ≡ n = eqb-true m n e in omega arith)
    by false e = refl

module _ (fv : ℕ → ℤ) (over : ℕ) where
  -- each key's truth is taken from those before it
  assigned : List Key → ℕ → (ℕ → Bool) → ℕ → Bool
  assigned [] n truth = truth
  assigned (k ∷ ks) n truth = assigned ks (suc n) (put n (key_true fv over truth k) truth)

  assigned-before : (ks : List Key) (n : ℕ) (truth : ℕ → Bool) (m : ℕ) → m < n → assigned ks n truth m ≡ truth m
  unfolding assigned
  assigned-before [] n truth m below = refl
  assigned-before (k ∷ ks) n truth m below =
      assigned-before ks (suc n) (put n (key_true fv over truth k) truth) m (omega arith) ∙ put-elsewhere n (key_true fv over truth k) truth m below

  module _ (f g : ℕ → Bool) (n : ℕ) (same : (m : ℕ) → m < n → f m ≡ g m) where
    same_all : (ls : List Lit) → Below n ls → all_true f ls ≡ all_true g ls
    same_all [] below = refl
    same_all (l ∷ ls) below =
        let first = same l.atom below.0 in
        let rest = same_all ls below.1 in
        (λ i. by_sign l.positive (first i) && rest i)

    same_any : (ls : List Lit) → Below n ls → any_true f ls ≡ any_true g ls
    same_any [] below = refl
    same_any (l ∷ ls) below =
        let first = same l.atom below.0 in
        let rest = same_any ls below.1 in
        (λ i. by_sign l.positive (first i) || rest i)

    same_key_true : (k : Key) → KeyBelow n k → key_true fv over f k ≡ key_true fv over g k
    same_key_true (Row form num den strict) below = refl
    same_key_true (Named And parts) below = same_all parts below
    same_key_true (Named Or parts) below = same_any parts below

  assigned-right : (ks : List Key) (n : ℕ) (truth : ℕ → Bool) → ((i : ℕ) (k : Key) → slice_get ks i ≡ Some k → KeyBelow (n + i) k)
      → (i : ℕ) (k : Key) → slice_get ks i ≡ Some k → assigned ks n truth (n + i) ≡ key_true fv over (assigned ks n truth) k
  unfolding assigned
  assigned-right [] n truth founded i k e = absurd (cc)
  assigned-right (k ∷ ks) n truth founded zero j e =
      let is : k ≡ j = same_some k j e in
      let final : ℕ → Bool = assigned ks (suc n) (put n (key_true fv over truth k) truth) in
      let none : n + 0 ≡ n = omega arith in
      let below : KeyBelow n k = subst (λ (m : ℕ). KeyBelow m k) none (founded zero k refl) in
      let before : (m : ℕ) → m < n → truth m ≡ final m =
      λ m h. sym (assigned-before ks (suc n) (put n (key_true fv over truth k) truth) m (omega arith) ∙ put-elsewhere n (key_true fv over truth k) truth m h) in
      ap final none
      ∙ assigned-before ks (suc n) (put n (key_true fv over truth k) truth) n (omega arith)
      ∙ put-there n (key_true fv over truth k) truth
      ∙ same_key_true truth final n before k below
      ∙ ap (key_true fv over final) is
  assigned-right (k ∷ ks) n truth founded (suc i) j e =
      let along : n + suc i ≡ suc n + i = omega arith in
      let final : ℕ → Bool = assigned ks (suc n) (put n (key_true fv over truth k) truth) in
      ap final along
      ∙ assigned-right ks (suc n) (put n (key_true fv over truth k) truth)
      (λ m l here. let step : n + suc m ≡ suc n + m = omega arith in subst (λ (x : ℕ). KeyBelow x l) step (founded (suc m) l here)) i j e

-- ---- the clauses and their models

nothing_sound : (columns : ℕ) → columns ≤ 2048 → Sound (nothing columns)
nothing_sound columns room = record {
  founded = λ n key e. absurd (cc);
  named = λ n key e truth all. absurd (cc);
  few_forms = (omega arith);
  few_atoms = (omega arith);
  few_clauses = (omega arith);
  forms = λ j f e. absurd (cc);
  forms_differ = λ i j f e h. absurd (cc);
  rows = λ n key e. absurd (cc);
  keys_differ = λ i j key e h. absurd (cc);
  in_range = tt;
}

row_back : (k : Key) (form : ℕ) (num den : ℤ) (strict : Bool) → atom_of k ≡ atoms.Row form num den strict → k ≡ Row form num den strict
row_back (Row f n d t) form num den strict e = cc
row_back (Named connective parts) form num den strict e = absurd (cc)

-- a row among the atoms is a row among what they stand for
key_of_row : (ks : List Key) (n form : ℕ) (num den : ℤ) (strict : Bool) → slice_get (map atom_of ks) n ≡ Some (atoms.Row form num den strict) → slice_get ks n ≡ Some (Row form num den strict)
key_of_row ks n form num den strict e = by (slice_get ks n) (sym (slice_get-map atom_of ks n) ∙ e)
  where
    by : (o : Option Key) → option_map atom_of o ≡ Some (atoms.Row form num den strict) → o ≡ Some (Row form num den strict)
    by None e = absurd (cc)
    by (Some k) e = ap (λ (x : Key). Some x) (row_back k form num den strict (same_some (atom_of k) (atoms.Row form num den strict) e))

well_formed : (s : Build) → Sound s → IsWellFormed (clauses_made s)
well_formed s sound =
    let long : length (map atom_of s.keys) ≡ length s.keys = length-map s.keys atom_of in
    record {
      few_forms = sound.few_forms;
      few_atoms = (let few = sound.few_atoms in omega arith);
      few_clauses = sound.few_clauses;
      forms = sound.forms;
      forms_differ = sound.forms_differ;
      rows = λ n form num den strict e. sound.rows n (Row form num den strict) (key_of_row s.keys n form num den strict e);
      rows_differ = λ m n form num den strict e h.
          sound.keys_differ m n (Row form num den strict) (key_of_row s.keys m form num den strict e) (key_of_row s.keys n form num den strict h);
      in_range = λ k clause e. subst (λ (n : ℕ). Below n clause) (sym long) (each_below_at (length s.keys) s.clauses k clause sound.in_range e);
    }

module _ (s : Build) (value : ℕ → ℤ) (over : ℕ) (truth : ℕ → Bool) where
  abbrev forms_at : ℕ → ℤ
  forms_at = form_value s.columns s.forms value

  columns_at : (n : ℕ) → n < s.columns → forms_at n ≡ value n
  columns_at n below = by (nat_lt n s.columns) refl
    where
      by : (b : Bool) → nat_lt n s.columns ≡ b → (if b then value n else option_map_or (λ f. sum_of value f.terms) (slice_get s.forms (n - s.columns)) (pos 0)) ≡ value n
      by true lt = refl
      by false lt = absurd (let far = ltb-false n s.columns lt in omega arith)

  several_at : (j : ℕ) (f : Form) → slice_get s.forms j ≡ Some f → forms_at (s.columns + j) ≡ sum_of value f.terms
  several_at j f e = by (nat_lt (s.columns + j) s.columns) refl
    where
      by : (b : Bool) → nat_lt (s.columns + j) s.columns ≡ b
          → (if b then value (s.columns + j) else option_map_or (λ f. sum_of value f.terms) (slice_get s.forms (s.columns + j - s.columns)) (pos 0)) ≡ sum_of value f.terms
      by true lt = absurd (let near = ltb-true (s.columns + j) s.columns lt in omega arith)
      by false lt =
          let back : s.columns + j - s.columns ≡ j = omega arith in
          ap (λ (m : ℕ). option_map_or (λ f. sum_of value f.terms) (slice_get s.forms m) (pos 0)) back
          ∙ ap (λ (o : Option Form). option_map_or (λ f. sum_of value f.terms) o (pos 0)) e

  atom_at : (n : ℕ) (key : Key) → slice_get s.keys n ≡ Some key → slice_get (map atom_of s.keys) n ≡ Some (atom_of key)
  atom_at n key e = slice_get-map atom_of s.keys n ∙ ap (option_map atom_of) e

  model_fits : Sound s → IsModel (clauses_made s) value over truth → Fits value forms_at over truth s
  model_fits sound model = record { columns = columns_at; forms = several_at; keys = by }
    where
      by : (n : ℕ) (key : Key) → slice_get s.keys n ≡ Some key → truth n ≡ key_true forms_at over truth key
      by n (Row form num den strict) e =
          let row = model.rows n form num den strict (atom_at n (Row form num den strict) e) in
          let bound = holds-Bounds strict true (den *ℤ forms_at form) (num *ℤ pos over) in
          same_test (truth n) (holds strict true (den *ℤ forms_at form) (num *ℤ pos over)) (λ h. bound.0 (row.0 h)) (λ h. row.1 (bound.1 h))
      by n (Named connective parts) e =
          (sat-definitions truth connective n parts).1 (sound.named n (Named connective parts) e truth (sat-Satisfies truth s.clauses model.clauses))

  fits_model : Fits value forms_at over truth s → sat truth s.clauses ≡ true → IsModel (clauses_made s) value over truth
  fits_model fits all = record { rows = by; clauses = Satisfies-sat truth s.clauses all }
    where
      by : (n form : ℕ) (num den : ℤ) (strict : Bool) → slice_get (map atom_of s.keys) n ≡ Some (atoms.Row form num den strict)
          → (truth n ≡ true) ↔ Bounds strict true (den *ℤ forms_at form) (num *ℤ pos over)
      by n form num den strict e =
          let says : truth n ≡ holds strict true (den *ℤ forms_at form) (num *ℤ pos over) = fits.keys n (Row form num den strict) (key_of_row s.keys n form num den strict e) in
          let bound = holds-Bounds strict true (den *ℤ forms_at form) (num *ℤ pos over) in
          (λ h. bound.1 (sym says ∙ h), λ h. says ∙ bound.0 h)

module _ (columns : ℕ) (room : columns ≤ 2048) (fs : List (Tree Comparison)) (c : Clauses) (can : EachComparison (CanTake columns) fs) (made : clauses_of columns fs ≡ Ok c) where
  build : (s : Build) × (built fs (nothing columns) ≡ Ok s) × (c ≡ clauses_made s)
  unfolding clauses_of
  build =
      let w = went_on (built fs (nothing columns)) (λ s. Ok (clauses_made s)) c made in
      (w.0, w.1, sym (same_ok (clauses_made w.0) c w.2))

  module _ (value : ℕ → ℤ) (over : ℕ) (some : 0 < over) where
    -- the columns of a model make all formulas true
    model_is_true : (truth : ℕ → Bool) → IsModel c value over truth → AreTrueAt value over fs
    model_is_true truth model =
        let s = build.0 in
        let law = built_law fs (nothing columns) s can build.1 in
        let here : IsModel (clauses_made s) value over truth = subst (λ (d : Clauses). IsModel d value over truth) build.2 model in
        let fits = model_fits s value over truth (law.sound (nothing_sound columns room)) here in
        all_hold value over some columns fs can (sym (law.says value (forms_at s value over truth) over truth fits) ∙ sat-Satisfies truth s.clauses here.clauses)

    -- values that make all formulas true have truths with which they are a model
    true_has_model : AreTrueAt value over fs → (truth : ℕ → Bool) × IsModel c value over truth
    true_has_model holds =
        let s = build.0 in
        let law = built_law fs (nothing columns) s can build.1 in
        let sound = law.sound (nothing_sound columns room) in
        let fv = form_value s.columns s.forms value in
        let truth = assigned fv over s.keys 0 (λ n. false) in
        let fits : Fits value fv over truth s = record {
          columns = columns_at s value over truth;
          forms = several_at s value over truth;
          keys = λ n key e.
              let start : 0 + n ≡ n = omega arith in
              ap truth (sym start)
              ∙ assigned-right fv over s.keys 0 (λ n. false) (λ i k here. let at : 0 + i ≡ i = omega arith in subst (λ (m : ℕ). KeyBelow m k) (sym at) (sound.founded i k here)) n key e;
        } in
        let all = law.says value fv over truth fits ∙ all_held value over some columns fs can holds in
        (truth, subst (λ (d : Clauses). IsModel d value over truth) (sym build.2) (fits_model s value over truth fits all))

-- the clauses that are made are well formed
module _ (columns : ℕ) (room : columns ≤ 2048) (fs : List (Tree Comparison)) (c : Clauses) (can : EachComparison (CanTake columns) fs) (made : clauses_of columns fs ≡ Ok c) where
  made_well : IsWellFormed c
  made_well =
      let b = build columns room fs c can made in
      subst IsWellFormed (sym b.2) (well_formed b.0 ((built_law fs (nothing columns) b.0 can b.1).sound (nothing_sound columns room)))

-- the same of what the code answers
module _ (columns : ℕ) (room : columns ≤ 2048) (fs : List (Tree Comparison)) (can : EachComparison (CanTake columns) fs) where
  pub models_are_true : (r : Result Clauses BuildFault) → Gives (λ c. c) r (clauses_of columns fs)
      → IfOk r (λ c. (value : ℕ → ℤ) (over : ℕ) (truth : ℕ → Bool) → 0 < over → IsModel c value over truth → AreTrueAt value over fs)
  models_are_true (Ok c) made = λ value over truth some model. model_is_true columns room fs c can made value over some truth model
  models_are_true (Err fault) made = tt

  pub true_have_models : (r : Result Clauses BuildFault) → Gives (λ c. c) r (clauses_of columns fs)
      → IfOk r (λ c. (value : ℕ → ℤ) (over : ℕ) → 0 < over → AreTrueAt value over fs → (truth : ℕ → Bool) × IsModel c value over truth)
  true_have_models (Ok c) made = λ value over some holds. true_has_model columns room fs c can made value over some holds
  true_have_models (Err fault) made = tt

  pub are_well_formed : (r : Result Clauses BuildFault) → Gives (λ c. c) r (clauses_of columns fs) → IfOk r IsWellFormed
  are_well_formed (Ok c) made = made_well columns room fs c can made
  are_well_formed (Err fault) made = tt
