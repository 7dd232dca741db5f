-- A certificate whose trees are light can be written, and no sum of a checker overflows in it.
use Rattle.std.proofs.Common.{◌≡◌, ◌≢◌, ℕ, zero, suc, ◌+◌, ◌<◌, ◌≤◌, ◌^◌, ℤ, pos, Bool, true, false, not, ◌⊎◌, inl, inr, List, [], ◌∷◌, ◌++◌, length, map, Option, None, Some, slice_get, refl, sym, ap, subst, length-append, arith}
use Rattle.std.specs.Prelude.{IsSome, is_some, nat_lt, ◌&&◌, if◌then◌else◌}
use Rattle.std.specs.Int.{is_negative}
use Rattle.std.specs.List.{AllByRecursion}
use Rattle.std.specs.Option.{option_map_or}
use Rattle.std.proofs.lemmas.Bool.{ltb-true}
use Rattle.std.proofs.lemmas.Option.{slice_get_within}
use Rattle.text_lines.specs.Steps.{AllNumbered}
use Rattle.farkas_cert.specs.Literals.{negation}
use Rattle.farkas_cert.specs.Trees.{Derived, Tree, clause, derived, farkas, lemmas_of, split, tree_of}
use Rattle.farkas_cert.specs.declared.certificates.Cert.{Cert}
use Rattle.farkas_cert.specs.declared.certificates.Lemma.{Lemma}
use Rattle.farkas_cert.specs.declared.literals.Lit.{Lit}
use Rattle.farkas_cert.specs.declared.trees.Part.{Part}
use Rattle.clause_form.specs.Derivations.{ArePartsOf, Closes, EndsEmpty, Follow, LitRow, NamesOnce, Proves, Rows, SumsFit, row_coef, row_of, row_of_atom, rows_of, running_sum}
use Rattle.clause_form.specs.WellFormed.{IsWellFormed}
use Rattle.clause_form.specs.declared.clauses.Atom.{Atom}
use Rattle.clause_form.specs.declared.clauses.Clauses.{Clauses}
use Rattle.learned_clause.specs.LightTrees.{AreWithin, HasLightLeaves, depth}
use Rattle.clause_search.specs.Answers.{AreLight}
use Rattle.cert_check.specs.Causes.{Event, asked, end_event, events, founds, has_sizes, is_contradiction, is_empty, is_false_on, is_free, is_on_path, lemma_events, names_once, truth_on, lemma_founds, numbered, number_at, of_cited, of_leaf, of_part, of_parts, of_rows, of_sum, of_sums, then_ask}
use Rattle.cert_check.specs.Verdicts.{EachFound, IsSound, StaysWithin, Verdict, fails, first_of, proved, wide}
use Rattle.cert_check.proofs.FirstLaws.{Each, Each-append, EachFound-append, EachFound-numbered, first_sound, sound_first}
use Rattle.cert_check.proofs.LemmaLaws.{then_fault}
use Rattle.cert_text.specs.Spelling.{IsWithin, LemmaFits, LitFits, PartFits, TreeFits, certificate}

-- ---- no sum overflows

asked_stays : (k : ℕ) (test : Bool) → StaysWithin (asked k test)
asked_stays k true = λ column is. cc
asked_stays k false = λ column is. cc

-- something is found, or nothing
sound_or_not : (a : _) → IsSound a ⊎ (IsSound a → ⊥)
sound_or_not a = by (first_of (record { lemma = 0; node = 0; found = a } ∷ [])) refl
  where
    by : (v : Verdict) → first_of (record { lemma = 0; node = 0; found = a } ∷ []) ≡ v → IsSound a ⊎ (IsSound a → ⊥)
    by proved is = inl (first_sound (record { lemma = 0; node = 0; found = a } ∷ []) is).0
    by (fails lemma node cause) is = inr (λ sound. let none = sound_first (record { lemma = 0; node = 0; found = a } ∷ []) (sound, tt) in cc)
    by (wide lemma node column) is = inr (λ sound. let none = sound_first (record { lemma = 0; node = 0; found = a } ∷ []) (sound, tt) in cc)

then_stays : (a b : _) → StaysWithin a → StaysWithin b → StaysWithin (then_ask a b)
then_stays a b first next =
    elim (sound_or_not a) [
      | inl sound ↦ subst StaysWithin (sym (ap (λ f. then_ask f b) sound)) next
      | inr some ↦ subst StaysWithin (sym (then_fault a b some)) first
    ]

part_stays : (c : Rows) (path : List Lit) (p : Part) → StaysWithin (of_part c path p)
part_stays c path p =
    let in_range : Bool = nat_lt p.lit.atom (length c.atoms) in
    let on_path : Bool = is_on_path path p.lit && is_some (row_of c p.lit) in
    let positive : Bool = not (is_negative p.mult) in
    then_stays (asked 2 in_range) (then_ask (asked 7 on_path) (asked 4 positive)) (asked_stays 2 in_range)
    (then_stays (asked 7 on_path) (asked 4 positive) (asked_stays 7 on_path) (asked_stays 4 positive))

parts_stay : (c : Rows) (path : List Lit) (ps : List Part) → StaysWithin (of_parts c path ps)
parts_stay c path [] = λ column is. cc
parts_stay c path (p ∷ ps) = then_stays (of_part c path p) (of_parts c path ps) (part_stays c path p) (parts_stay c path ps)

sum_stays : (n : ℕ) (sum : Option ℤ) → IsSome sum → StaysWithin (of_sum n sum)
sum_stays n None some = absurd (cc)
sum_stays n (Some sum) some = λ column is. cc

-- the running sum under a column's number, or the bound's
number_fits : (c : Rows) (parts : List Part) (n : ℕ) (column : Bool) → SumsFit c parts → nat_lt n c.columns ≡ column
    → IsSome (running_sum c (λ row. if column then row_coef n row else row.bound) (pos 0) parts)
number_fits c parts n true fits is = fits.columns n (ltb-true n c.columns is)
number_fits c parts n false fits is = fits.bound

sums_stay : (c : Rows) (parts : List Part) (n : ℕ) → SumsFit c parts → StaysWithin (of_sums c parts n)
sums_stay c parts zero fits = λ column is. cc
sums_stay c parts (suc n) fits =
    then_stays (of_sums c parts n) (of_sum n (running_sum c (number_at c n) (pos 0) parts)) (sums_stay c parts n fits)
    (sum_stays n (running_sum c (number_at c n) (pos 0) parts) (number_fits c parts n (nat_lt n c.columns) fits refl))

rows_stay : (c : Rows) (parts : List Part) → SumsFit c parts → StaysWithin (of_rows c parts)
unfolding of_rows
rows_stay c parts fits =
    then_stays (of_sums c parts (suc c.columns)) (asked 3 (is_contradiction c parts)) (sums_stay c parts (suc c.columns) fits)
    (asked_stays 3 (is_contradiction c parts))

leaf_stays : (c : Rows) (path : List Lit) (parts : List Part) → SumsFit c parts → StaysWithin (of_leaf c path parts)
unfolding of_leaf
leaf_stays c path parts fits = then_stays (of_parts c path parts) (of_rows c parts) (parts_stay c path parts) (rows_stay c parts fits)

cited_stays : (path : List Lit) (cited : Option (List Lit)) → StaysWithin (of_cited path cited)
cited_stays path None = λ column is. cc
cited_stays path (Some lits) = asked_stays 5 (is_false_on path lits)

tree_stays : (c : Rows) (known : List (List Lit)) (path : List Lit) (tree : Tree) → HasLightLeaves c tree → Each StaysWithin (founds c known path tree)
tree_stays c known path (split a held failed) light =
    let on : List Lit = record { atom = a; positive = true } ∷ path in
    let off : List Lit = record { atom = a; positive = false } ∷ path in (
      asked_stays 2 (nat_lt a (length c.atoms) && is_free (truth_on path a)),
      (Each-append StaysWithin (founds c known on held) (founds c known off failed)).1
          (tree_stays c known on held light.0, tree_stays c known off failed light.1),
    )
tree_stays c known path (farkas parts) light = (leaf_stays c path parts light.fits, tt)
tree_stays c known path (clause n) light = (cited_stays path (slice_get known n), tt)

lemmas_stay : (c : Rows) (known : List (List Lit)) (lemma : ℕ) (ls : List Lemma) → AreLight c ls
    → EachFound StaysWithin (lemma_events c known lemma (map derived ls))
lemmas_stay c known lemma [] light = tt
lemmas_stay c known lemma (l ∷ ls) light =
    let later : List Event = lemma_events c (known ++ l.clause ∷ []) (suc lemma) (map derived ls) in
    (EachFound-append StaysWithin (numbered lemma 0 (lemma_founds c known (derived l))) later).1 (
      (EachFound-numbered StaysWithin lemma 0 (lemma_founds c known (derived l))).1
          (asked_stays 2 (names_once (length c.atoms) l.clause), tree_stays c known (map negation l.clause) (tree_of l.proof) light.0.leaves),
      lemmas_stay c (known ++ l.clause ∷ []) (suc lemma) ls light.1,
    )

end_stays : (lemma : ℕ) (ds : List Derived) → StaysWithin (end_event lemma ds).found
end_stays lemma [] = λ column is. cc
end_stays lemma (d ∷ []) = asked_stays 8 (is_empty d.lits)
end_stays lemma (d ∷ e ∷ ds) = end_stays (suc lemma) (e ∷ ds)

pub light_stays : (c : Clauses) (cert : Cert) → AreLight (rows_of c) cert.lemmas → EachFound StaysWithin (events c cert)
unfolding events
light_stays c cert light = (
  asked_stays 1 (has_sizes c cert),
  (EachFound-append StaysWithin (lemma_events (rows_of c) c.clauses 0 (lemmas_of cert)) (end_event 0 (lemmas_of cert) ∷ [])).1
      (lemmas_stay (rows_of c) c.clauses 0 cert.lemmas light, (end_stays 0 (lemmas_of cert), tt)),
)

-- ---- the text

lits_fit : (atoms : ℕ) (lits : List Lit) → atoms ≤ 2 ^ 32 → NamesOnce atoms lits → AllByRecursion LitFits lits
lits_fit atoms [] few once = tt
lits_fit atoms (l ∷ ls) few once = (let below = once.0 in omega arith, lits_fit atoms ls few once.2)

-- the atom of a row is in range
row_in_range : (c : Rows) (l : Lit) (row : LitRow) → row_of c l ≡ Some row → l.atom < length c.atoms
row_in_range c l row is = by (slice_get c.atoms l.atom) refl is
  where
    by : (atom : Option Atom) → slice_get c.atoms l.atom ≡ atom → option_map_or (row_of_atom c l.positive) atom None ≡ Some row → l.atom < length c.atoms
    by None at is = absurd (cc)
    by (Some atom) at is = slice_get_within c.atoms l.atom atom at

parts_fit : (c : Rows) (path : List Lit) (ps : List Part) → length c.atoms ≤ 2 ^ 32 → ArePartsOf c path ps → AreWithin ps → AllByRecursion PartFits ps
parts_fit c path [] few are within = tt
parts_fit c path (p ∷ ps) few are within = (
  (let below = row_in_range c p.lit are.0.0 are.0.1 in omega arith, (are.2, within.0)),
  parts_fit c path ps few are.3 within.1,
)

tree_fits : (c : Rows) (known : List (List Lit)) (path : List Lit) (above : ℕ) (tree : Tree) → length c.atoms ≤ 2 ^ 32 → length known ≤ 2 ^ 32
    → above + depth tree ≤ 4096 → HasLightLeaves c tree → Closes c known tree path → TreeFits above tree
unfolding TreeFits
tree_fits c known path above (split a held failed) few all shallow light closes = (
  omega arith,
  (
    let below = closes.0 in omega arith,
    (
      tree_fits c known (record { atom = a; positive = true } ∷ path) (above + 1) held few all (omega arith) light.0 closes.2,
      tree_fits c known (record { atom = a; positive = false } ∷ path) (above + 1) failed few all (omega arith) light.1 closes.3,
    ),
  ),
)
tree_fits c known path above (farkas parts) few all shallow light closes = (
  omega arith,
  (let most = light.few in omega arith, parts_fit c path parts few closes.rows light.within),
)
tree_fits c known path above (clause n) few all shallow light closes = (
  omega arith,
  let below = slice_get_within known n closes.0 closes.1 in omega arith,
)

lemmas_fit : (c : Rows) (known : List (List Lit)) (j : ℕ) (ls : List Lemma) → length c.atoms ≤ 2 ^ 32
    → length known + length ls ≤ 2 ^ 32 → j + length ls ≤ 2 ^ 32
    → AreLight c ls → Follow c known (map derived ls) → AllNumbered LemmaFits j (map derived ls)
unfolding AllNumbered
lemmas_fit c known j [] few all numbers light follow = tt
lemmas_fit c known j (l ∷ ls) few all numbers light follow = (
  record {
    number = omega arith;
    lits = lits_fit (length c.atoms) l.clause few follow.0;
    tree = tree_fits c known (map negation l.clause) 0 (tree_of l.proof) few (omega arith) (let most = light.0.shallow in omega arith) light.0.leaves follow.1;
  },
  lemmas_fit c (known ++ l.clause ∷ []) (j + 1) ls few (let longer = length-append known (l.clause ∷ []) in omega arith) (omega arith) light.1 follow.2,
)

some_lemma : (ds : List Derived) → EndsEmpty ds → ds ≢ []
some_lemma [] ends = absurd ends
some_lemma (d ∷ ds) ends = λ none. cc

pub light_within : (c : Clauses) (cert : Cert) → IsWellFormed c → Proves c cert → length c.clauses + length cert.lemmas ≤ 2 ^ 32
    → AreLight (rows_of c) cert.lemmas → IsWithin (certificate cert)
light_within c cert formed proves few light =
    let forms = formed.few_forms in
    let atoms = formed.few_atoms in
    let clauses = formed.few_clauses in
    let columns_is = proves.columns in
    let atoms_is = proves.atoms in
    let clauses_is = proves.clauses in
    record {
      columns = omega arith;
      atoms = omega arith;
      clauses = omega arith;
      lemmas = lemmas_fit (rows_of c) c.clauses 0 cert.lemmas (omega arith) few (omega arith) light proves.lemmas;
      some = some_lemma (lemmas_of cert) proves.ends;
    }
