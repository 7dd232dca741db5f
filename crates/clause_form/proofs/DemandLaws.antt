-- What a formula that is demanded adds: clauses that hold exactly where the formula does.
use Rattle.std.proofs.Common.{◌≡◌, ℕ, ◌<◌, ◌≤◌, ℤ, Bool, true, false, not, ◌&&◌, ◌||◌, List, [], ◌∷◌, ◌++◌, map, length, slice_get, Option, None, Some, Result, Ok, Err, refl, sym, ap, subst, ◌∙◌, arith}
use Rattle.std.proofs.lemmas.List.{append-nil}
use Rattle.condition_tree.specs.Trees.{Tree, always, never, leaf, opposite, end_of_all, all_of, end_of_any, any_of, is_true, EachLeaf}
use Rattle.farkas_cert.specs.declared.literals.Lit.{Lit}
use Rattle.clause_form.specs.declared.clauses.What.{What}
use Rattle.clause_form.specs.declared.keys.Connective.TheVariants.{And, Or}
use Rattle.clause_form.specs.declared.keys.Key.{Key}
use Rattle.clause_form.specs.declared.simple.RowLit.{RowLit}
use Rattle.clause_form.specs.Building.{Build, and_then, conjunct_lits, demanded, demanded_known, disjunct_lits, one_of, row_literal, value, with_clause, with_lits}
use Rattle.clause_form.specs.Keys.{signed}
use Rattle.clause_form.specs.Simplified.{Trimmed, yes, no, shown}
use Rattle.clause_form.specs.WellFormed.{Below}
use Rattle.clause_form.proofs.Growth.{below_signed, each_below_append, with_clause-room, Fits, Grows, Sound, Took, fits_before, grows_on, same_ok, stays, took_none, took_on, went_on, with_clause-all}
use Rattle.clause_form.proofs.Steps.{EachRow, IsRow, conjuncts_law, disjuncts_law, row_law, value_law}
use Rattle.clause_form.proofs.Truths.{all_true, and_true, any_true, any_true-kept, any_true-negated, by_sign, lit_true, lit_true-signed, not_not, or_false, row_true, sat, sat-append, trimmed_truth}

both_true : (a b : Bool) → (a && b) ≡ true → a ≡ true
both_true true b e = refl
both_true false b e = absurd (cc)

-- what was made stays, and the clauses that came hold exactly where the test does
pub record Demanded (s t : Build) (test : (ℕ → ℤ) → ℕ → Bool) : Type 0 where
  pub grows : Grows s t
  pub sound : Sound s → Sound t
  pub says : (value fv : ℕ → ℤ) (over : ℕ) (truth : ℕ → Bool) → Fits value fv over truth t → sat truth t.clauses ≡ (sat truth s.clauses && test value over)

pub nothing_demanded : (s t : Build) → ◌≡◌ {A = Result Build What} (Ok s) (Ok t) → Demanded s t (λ value over. true)
nothing_demanded s t e = subst (λ (u : Build). Demanded s u (λ value over. true)) (same_ok s t e) (record {
  grows = stays s;
  sound = λ h. h;
  says = λ value fv over truth fits. sym (and_true (sat truth s.clauses));
})

abbrev one_clause : Build → List Lit → Build
one_clause s lits = record s { clauses = s.clauses ++ lits ∷ [] }

sat_one : (truth : ℕ → Bool) (s : Build) (lits : List Lit) → sat truth (s.clauses ++ lits ∷ []) ≡ (sat truth s.clauses && any_true truth lits)
sat_one truth s lits = sat-append truth s.clauses (lits ∷ []) ∙ ap (λ (b : Bool). sat truth s.clauses && b) (and_true (any_true truth lits))

one_sound : (s : Build) (lits : List Lit) → Below (length s.keys) lits → length (s.clauses ++ lits ∷ []) ≤ 1048576 → Sound s → Sound (one_clause s lits)
one_sound s lits below room sound = record {
  founded = sound.founded;
  named = λ n key e truth all. sound.named n key e truth (both_true (sat truth s.clauses) (any_true truth lits) (sym (sat_one truth s lits) ∙ all));
  few_forms = sound.few_forms;
  few_atoms = sound.few_atoms;
  few_clauses = room;
  forms = sound.forms;
  forms_differ = sound.forms_differ;
  rows = sound.rows;
  keys_differ = sound.keys_differ;
  in_range = each_below_append (length s.keys) s.clauses (lits ∷ []) sound.in_range (below, tt);
}

-- literals are taken, and then one clause is made of them
clause_law : (s u t : Build) (lits : List Lit) (test : (ℕ → ℤ) → ℕ → Bool) → Took s u → Below (length u.keys) lits
    → ((value fv : ℕ → ℤ) (over : ℕ) (truth : ℕ → Bool) → Fits value fv over truth u → any_true truth lits ≡ test value over)
    → with_lits u lits ≡ Ok t → Demanded s t test
clause_law s u t lits test took below says e =
    let w = went_on (with_clause u.clauses lits) (λ all. Ok (record u { clauses = all })) t e in
    let all = with_clause-all u.clauses lits w.0 w.1 in
    let room = subst (λ (cs : List (List Lit)). length cs ≤ 1048576) all (with_clause-room u.clauses lits w.0 w.1) in
    let here : t ≡ one_clause u lits = sym (same_ok (record u { clauses = w.0 }) t w.2) ∙ ap (λ (cs : List (List Lit)). record u { clauses = cs }) (with_clause-all u.clauses lits w.0 w.1) in
    subst (λ (v : Build). Demanded s v test) (sym here) (record {
      grows = grows_on s u (one_clause u lits) took.grows (grows_one u);
      sound = λ sound. one_sound u lits below room (took.sound sound);
      says = λ value fv over truth fits.
          let before = fits_before value fv over truth u (one_clause u lits) (grows_one u) fits in
          let first = took.same value fv over truth before in
          let last = says value fv over truth before in
          sat_one truth u lits ∙ (λ i. first i && last i);
    })
  where
    grows_one : (u : Build) → Grows u (one_clause u lits)
    grows_one u = record { columns = refl; more_forms = []; forms = sym (append-nil u.forms); more_keys = []; keys = sym (append-nil u.keys) }

empty_law : (s t : Build) → with_lits s [] ≡ Ok t → Demanded s t (λ value over. false)
empty_law s t e = clause_law s s t [] (λ value over. false) (took_none s) tt (λ value fv over truth fits. refl) e

pub demanded_on : (s u t : Build) (first rest : (ℕ → ℤ) → ℕ → Bool) → Demanded s u first → Demanded u t rest → Demanded s t (λ value over. first value over && rest value over)
demanded_on s u t first rest a b = record {
  grows = grows_on s u t a.grows b.grows;
  sound = λ sound. b.sound (a.sound sound);
  says = λ value fv over truth fits.
      b.says value fv over truth fits
      ∙ ap (λ (x : Bool). x && rest value over) (a.says value fv over truth (fits_before value fv over truth u t b.grows fits))
      ∙ assoc (sat truth s.clauses) (first value over) (rest value over);
}
  where
    assoc : (x y z : Bool) → ((x && y) && z) ≡ (x && (y && z))
    assoc true y z = refl
    assoc false y z = refl

same_says : (s t : Build) (test other : (ℕ → ℤ) → ℕ → Bool) → ((value : ℕ → ℤ) (over : ℕ) → test value over ≡ other value over) → Demanded s t test → Demanded s t other
same_says s t test other same d = record {
  grows = d.grows;
  sound = d.sound;
  says = λ value fv over truth fits. d.says value fv over truth fits ∙ ap (λ (b : Bool). sat truth s.clauses && b) (same value over);
}

later_rows : (s t : Build) (r : Tree RowLit) (test : (ℕ → ℤ) → ℕ → Bool) → Demanded s t test → EachRow s.columns r → EachRow t.columns r
later_rows s t r test d rows = subst (λ (c : ℕ). EachRow c r) (sym d.grows.columns) rows

leaf_law : (sign : Bool) (r : RowLit) (s t : Build) → IsRow s.columns r → and_then (row_literal s r) (λ p. with_lits p.0 (signed sign p.1 ∷ [])) ≡ Ok t
    → Demanded s t (λ value over. by_sign sign (row_true value over r))
leaf_law sign r s t row e =
    let w = went_on (row_literal s r) (λ p. with_lits p.0 (signed sign p.1 ∷ [])) t e in
    let says = row_law s r w.0.0 w.0.1 row w.1 in
    clause_law s w.0.0 t (signed sign w.0.1 ∷ []) (λ value over. by_sign sign (row_true value over r)) says.took (below_signed (length w.0.0.keys) sign (w.0.1 ∷ []) (says.below, tt))
    (λ value fv over truth fits. or_false (lit_true truth (signed sign w.0.1)) ∙ lit_true-signed truth sign w.0.1 ∙ ap (by_sign sign) (says.says value fv over truth fits))
    w.2

both_negated : (a b : Bool) → (not a && not b) ≡ not (a || b)
both_negated true b = refl
both_negated false b = refl

pub demanded_law : (sign : Bool) (r : Tree RowLit) (s t : Build) → EachRow s.columns r → demanded sign r s ≡ Ok t
    → Demanded s t (λ value over. by_sign sign (is_true (row_true value over) r))
demanded_law true always s t rows e = nothing_demanded s t e
demanded_law false always s t rows e = empty_law s t e
demanded_law true never s t rows e = empty_law s t e
demanded_law false never s t rows e = nothing_demanded s t e
demanded_law true (leaf r) s t rows e = leaf_law true r s t rows e
demanded_law false (leaf r) s t rows e = leaf_law false r s t rows e
demanded_law true (opposite r) s t rows e = demanded_law false r s t rows e
demanded_law false (opposite r) s t rows e =
    same_says s t (λ value over. is_true (row_true value over) r) (λ value over. not (not (is_true (row_true value over) r)))
    (λ value over. sym (not_not (is_true (row_true value over) r))) (demanded_law true r s t rows e)
demanded_law true end_of_all s t rows e = nothing_demanded s t e
demanded_law false end_of_all s t rows e = empty_law s t e
demanded_law true (all_of r rest) s t rows e =
    let w = went_on (demanded true r s) (λ u. demanded true rest u) t e in
    let first = demanded_law true r s w.0 rows.0 w.1 in
    demanded_on s w.0 t (λ value over. is_true (row_true value over) r) (λ value over. is_true (row_true value over) rest) first
    (demanded_law true rest w.0 t (later_rows s w.0 rest (λ value over. is_true (row_true value over) r) first rows.1) w.2)
demanded_law false (all_of r rest) s t rows e =
    let w = went_on (and_then (value (all_of r rest) s) (λ v. conjunct_lits v.0 v.1)) (λ q. with_lits q.0 (map (signed false) q.1)) t e in
    let v = went_on (value (all_of r rest) s) (λ v. conjunct_lits v.0 v.1) w.0 w.1 in
    let node = value_law (all_of r rest) s v.0.0 v.0.1 rows v.1 in
    let parts = conjuncts_law v.0.0 v.0.1 w.0.0 w.0.1 node.below v.2 in
    clause_law s w.0.0 t (map (signed false) w.0.1) (λ value over. not (is_true (row_true value over) r && is_true (row_true value over) rest))
    (took_on s v.0.0 w.0.0 node.took parts.took) (below_signed (length w.0.0.keys) false w.0.1 parts.below)
    (λ value fv over truth fits.
    any_true-negated truth w.0.1
    ∙ ap not (parts.says value fv over truth fits ∙ node.says value fv over truth (fits_before value fv over truth v.0.0 w.0.0 parts.took.grows fits)))
    w.2
demanded_law true end_of_any s t rows e = empty_law s t e
demanded_law false end_of_any s t rows e = nothing_demanded s t e
demanded_law true (any_of r rest) s t rows e =
    let w = went_on (and_then (value (any_of r rest) s) (λ v. disjunct_lits v.0 v.1)) (λ q. with_lits q.0 (map (signed true) q.1)) t e in
    let v = went_on (value (any_of r rest) s) (λ v. disjunct_lits v.0 v.1) w.0 w.1 in
    let node = value_law (any_of r rest) s v.0.0 v.0.1 rows v.1 in
    let parts = disjuncts_law v.0.0 v.0.1 w.0.0 w.0.1 node.below v.2 in
    clause_law s w.0.0 t (map (signed true) w.0.1) (λ value over. is_true (row_true value over) r || is_true (row_true value over) rest)
    (took_on s v.0.0 w.0.0 node.took parts.took) (below_signed (length w.0.0.keys) true w.0.1 parts.below)
    (λ value fv over truth fits.
    any_true-kept truth w.0.1
    ∙ parts.says value fv over truth fits ∙ node.says value fv over truth (fits_before value fv over truth v.0.0 w.0.0 parts.took.grows fits))
    w.2
demanded_law false (any_of r rest) s t rows e =
    let w = went_on (demanded false r s) (λ u. demanded false rest u) t e in
    let first = demanded_law false r s w.0 rows.0 w.1 in
    same_says s t (λ value over. not (is_true (row_true value over) r) && not (is_true (row_true value over) rest)) (λ value over. not (is_true (row_true value over) r || is_true (row_true value over) rest))
    (λ value over. both_negated (is_true (row_true value over) r) (is_true (row_true value over) rest))
    (demanded_on s w.0 t (λ value over. not (is_true (row_true value over) r)) (λ value over. not (is_true (row_true value over) rest)) first
    (demanded_law false rest w.0 t (later_rows s w.0 rest (λ value over. not (is_true (row_true value over) r)) first rows.1) w.2))

-- the rows of a formula without constants
abbrev pub TrimmedRows : ℕ → Trimmed → Type 0
TrimmedRows columns yes = Unit {0}
TrimmedRows columns no = Unit {0}
TrimmedRows columns (shown r) = EachRow columns r

pub known_law : (k : Trimmed) (s t : Build) → TrimmedRows s.columns k → demanded_known k s ≡ Ok t → Demanded s t (λ value over. trimmed_truth (row_true value over) k)
known_law yes s t rows e = nothing_demanded s t e
known_law no s t rows e = empty_law s t e
known_law (shown r) s t rows e = demanded_law true r s t rows e
