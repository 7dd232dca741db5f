-- Literals, parts and leaves, and the numbers of their lines.
use Rattle.std.proofs.Common.{◌≡◌, ℕ, zero, suc, ◌^◌, ◌<◌, ◌≤◌, ℤ, pos, negsuc, ◌≤ℤ◌, unsigned_abs, Bool, true, false, cond, leb, get_or, Some, Ok, List, [], ◌∷◌, length, map, refl, sym, ap, subst, ◌∙◌, arith}
use Rattle.std.specs.List.{AllByRecursion}
use Rattle.std.specs.Fmt.{signed_decimal}
use Rattle.std.proofs.lemmas.Bool.{le-leb, leb-true}
use Rattle.std.proofs.lemmas.Int.{ints}
use Rattle.text_machine.specs.Items.{literal, below, index, one_of, literal_number, atom_of, IsWithin, spell_item, place_among}
use Rattle.text_machine.specs.Lines.{spell_many, AllWithin, spell_line, Suits}
use Rattle.text_machine.specs.Texts.{HasItems, SuitsBy, spell_by}
use Rattle.farkas_cert.specs.declared.literals.Lit.{Lit}
use Rattle.farkas_cert.specs.declared.trees.Part.{Part}
use Rattle.cert_text.specs.declared.wants.Want.TheVariants.{Node}
use Rattle.cert_text.specs.Spelling.{literal_item, part_items, LitFits, PartFits}
use Rattle.cert_text.specs.Rules.{index_limit, words, form_at, pairs, node_forms, deep_forms, node_form, deep_form, form_of}
use Rattle.cert_text.specs.Tables.{lit_number, lit_of, part_from, part_numbers, farkas_numbers, one_number}
use Rattle.cert_text.proofs.LineLaws.{lit_back}

-- ---- literals

of_number : (atom : ℕ) (positive : Bool) → lit_of (literal_number atom positive) ≡ record { atom = atom; positive = positive }
of_number atom true = refl
of_number atom false = refl

pub lit_again : (l : Lit) → lit_of (lit_number l) ≡ l
lit_again l = of_number l.atom l.positive

pub lits_again : (ls : List Lit) → map lit_of (map lit_number ls) ≡ ls
lits_again [] = refl
lits_again (l ∷ ls) = ap (λ (x : Lit). x ∷ map lit_of (map lit_number ls)) (lit_again l) ∙ ap (λ (xs : List Lit). l ∷ xs) (lits_again ls)

number_within : (atom : ℕ) (positive : Bool) → atom < 2 ^ 32 → IsWithin (literal index_limit) (literal_number atom positive)
number_within atom true lt = (lt, omega arith)
number_within atom false lt = (lt, omega arith)

number_spelled : (atom : ℕ) (positive : Bool) → spell_item (literal index_limit) (literal_number atom positive) ≡ literal_item (record { atom = atom; positive = positive })
number_spelled atom true = refl
number_spelled atom false = refl

pub lits_within : (ls : List Lit) → AllByRecursion LitFits ls → AllWithin (literal index_limit) (map lit_number ls)
lits_within [] all = tt
lits_within (l ∷ ls) all = (number_within l.atom l.positive all.0, lits_within ls all.1)

pub lits_spelled : (ls : List Lit) → spell_many (literal index_limit) (map lit_number ls) ≡ map literal_item ls
lits_spelled [] = refl
lits_spelled (l ∷ ls) =
    ap (λ (i : List ℕ). i ∷ spell_many (literal index_limit) (map lit_number ls)) (number_spelled l.atom l.positive) ∙ ap (λ (is : List (List ℕ)). literal_item l ∷ is) (lits_spelled ls)

lit_fits : (z : ℤ) → atom_of z < 2 ^ 32 → LitFits (lit_of z)
lit_fits (pos n) lt = lt
lit_fits (negsuc n) lt = lt

pub lits_found : (zs : List ℤ) → AllWithin (literal index_limit) zs → (ls : List Lit) × ((map lit_number ls ≡ zs) × AllByRecursion LitFits ls)
lits_found [] all = ([], (refl, tt))
lits_found (z ∷ zs) all =
    let others = lits_found zs all.1 in
    (lit_of z ∷ others.0, (ap (λ (y : ℤ). y ∷ map lit_number others.0) (lit_back z) ∙ ap (λ (ys : List ℤ). z ∷ ys) others.1.0, (lit_fits z all.0.0, others.1.1)))

-- ---- parts

mult_within : (z : ℤ) → pos 0 ≤ℤ z → unsigned_abs z < 2 ^ 127 → IsWithin (below (2 ^ 127)) z
mult_within (pos n) le lt = (n, (refl, lt, lt))
mult_within (negsuc n) le lt = absurd (omega (arith, ints))

mult_fits : (z : ℤ) (n : ℕ) → z ≡ pos n → n < 2 ^ 127 → (pos 0 ≤ℤ z) × (unsigned_abs z < 2 ^ 127)
mult_fits z n is lt = subst (λ (y : ℤ). (pos 0 ≤ℤ y) × (unsigned_abs y < 2 ^ 127)) (sym is) (omega (arith, ints), lt)

parts_suit : (ps : List Part) → AllByRecursion PartFits ps → Suits (pairs (length ps)) (part_numbers ps)
unfolding Suits pairs
parts_suit [] all = tt
parts_suit (p ∷ ps) all = (number_within p.lit.atom p.lit.positive all.0.0, (mult_within p.mult all.0.1.0 all.0.1.1, parts_suit ps all.1))

parts_spelled : (ps : List Part) → spell_line (pairs (length ps)) (part_numbers ps) ≡ part_items ps
unfolding spell_line pairs
parts_spelled [] = refl
parts_spelled (p ∷ ps) =
    ap (λ (i : List ℕ). i ∷ signed_decimal p.mult ∷ spell_line (pairs (length ps)) (part_numbers ps)) (number_spelled p.lit.atom p.lit.positive)
    ∙ ap (λ (is : List (List ℕ)). literal_item p.lit ∷ signed_decimal p.mult ∷ is) (parts_spelled ps)

record PartsOf (count : ℕ) (zs : List ℤ) : Type 0 where
  parts : List Part
  is : part_numbers parts ≡ zs
  counted : length parts ≡ count
  fit : AllByRecursion PartFits parts

parts_found : (count : ℕ) (zs : List ℤ) → Suits (pairs count) zs → PartsOf count zs
unfolding Suits pairs
parts_found zero [] s = record { parts = []; is = refl; counted = refl; fit = tt }
parts_found zero (z ∷ zs) s = absurd s
parts_found (suc count) [] s = absurd s
parts_found (suc count) (z ∷ []) s = absurd s.1
parts_found (suc count) (z ∷ m ∷ zs) (lit_in, ((n, (is, lt, small)), rest)) =
    let others = parts_found count zs rest in
    record {
      parts = part_from z m ∷ others.parts;
      is = ap (λ (y : ℤ). y ∷ m ∷ part_numbers others.parts) (lit_back z) ∙ ap (λ (ys : List ℤ). z ∷ m ∷ ys) others.is;
      counted = ap suc others.counted;
      fit = ((lit_fits z lit_in.0, mult_fits m n is small), others.fit);
    }

parts_of : List ℤ → List Part
parts_of [] = []
parts_of (z ∷ []) = []
parts_of (z ∷ m ∷ zs) = part_from z m ∷ parts_of zs

parts_again : (ps : List Part) → parts_of (part_numbers ps) ≡ ps
unfolding parts_of
parts_again [] = refl
parts_again (p ∷ ps) = ap (λ (l : Lit). record { lit = l; mult = p.mult } ∷ parts_of (part_numbers ps)) (lit_again p.lit) ∙ ap (λ (qs : List Part). p ∷ qs) (parts_again ps)

pub same_parts : (ps qs : List Part) → part_numbers ps ≡ part_numbers qs → ps ≡ qs
same_parts ps qs e = sym (parts_again ps) ∙ ap parts_of e ∙ parts_again qs

pub same_lits : (ls ms : List Lit) → map lit_number ls ≡ map lit_number ms → ls ≡ ms
same_lits ls ms e = sym (lits_again ls) ∙ ap (λ (zs : List ℤ). map lit_of zs) e ∙ lits_again ms

-- ---- the line of a node

pub index_suits : (n : ℕ) → n < 2 ^ 32 → IsWithin (index index_limit) (pos n)
index_suits n lt = (n, (refl, lt, omega arith))

abbrev NodeSuits : List ℤ → Type 0
NodeSuits zs = Suits node_form zs × HasItems (spell_line node_form zs)

pub node_suits : (depth : ℕ) (zs : List ℤ) → depth ≤ 4096 → Suits node_form zs × HasItems (spell_line node_form zs) → SuitsBy (form_of (Node depth)) zs
unfolding form_of
node_suits depth zs le suits = subst (λ t. SuitsBy (Some (cond t node_form deep_form)) zs) (sym (le-leb depth 4096 le)) suits

pub node_spelled : (depth : ℕ) (zs : List ℤ) → depth ≤ 4096 → spell_by (form_of (Node depth)) zs ≡ spell_line node_form zs
unfolding form_of
node_spelled depth zs le = ap (λ t. spell_by (Some (cond t node_form deep_form)) zs) (le-leb depth 4096 le)

pub split_suits : (atom : ℕ) → atom < 2 ^ 32 → NodeSuits (pos 2 ∷ one_number atom)
unfolding Suits spell_line
split_suits atom lt = (((2, (refl, refl)), (index_suits atom lt, tt)), tt)

pub clause_suits : (n : ℕ) → n < 2 ^ 32 → NodeSuits (pos 3 ∷ one_number n)
unfolding Suits spell_line
clause_suits n lt = (((3, (refl, refl)), (index_suits n lt, tt)), tt)

pub farkas_suits : (ps : List Part) → length ps < 2 ^ 32 → AllByRecursion PartFits ps → NodeSuits (pos 4 ∷ farkas_numbers ps)
unfolding Suits spell_line
farkas_suits ps lt all = (((4, (refl, refl)), (index_suits (length ps) lt, parts_suit ps all)), tt)

pub farkas_spelled : (ps : List Part) → spell_line node_form (pos 4 ∷ farkas_numbers ps) ≡ spell_item (one_of words refl) (pos 4) ∷ signed_decimal (pos (length ps)) ∷ part_items ps
unfolding spell_line
farkas_spelled ps = ap (λ (is : List (List ℕ)). spell_item (one_of words refl) (pos 4) ∷ signed_decimal (pos (length ps)) ∷ is) (parts_spelled ps)

pub data NodeLine (zs : List ℤ) : Type 0 where
  is_split : (atom : ℕ) → atom < 2 ^ 32 → zs ≡ pos 2 ∷ one_number atom → NodeLine zs
  is_clause : (n : ℕ) → n < 2 ^ 32 → zs ≡ pos 3 ∷ one_number n → NodeLine zs
  is_farkas : (ps : List Part) → length ps < 2 ^ 32 → AllByRecursion PartFits ps → zs ≡ pos 4 ∷ farkas_numbers ps → NodeLine zs

one_found : (zs : List ℤ) → Suits (form_at node_forms (pos 2)) zs → (n : ℕ) × ((n < 2 ^ 32) × (zs ≡ one_number n))
unfolding Suits
one_found [] s = absurd s
one_found (z ∷ []) ((n, (is, lt, small)), done) = (n, (lt, ap (λ (y : ℤ). y ∷ []) is))
one_found (z ∷ y ∷ zs) s = absurd s.1

-- behind a word that isn't one of the five nothing may stand
no_word : (i : ℕ) → place_among words (get_or words (suc (suc (suc (suc (suc i))))) []) ≡ Ok (suc (suc (suc (suc (suc i))))) → ⊥
no_word i e = cc

by_place : (z : ℤ) (zs : List ℤ) (i : ℕ) → z ≡ pos i → place_among words (get_or words i []) ≡ Ok i → Suits (form_at node_forms (pos i)) zs → NodeLine (z ∷ zs)
unfolding Suits
by_place z zs zero is place s = absurd s
by_place z zs (suc zero) is place s = absurd s
by_place z zs (suc (suc zero)) is place s =
    let n = one_found zs s in
    is_split n.0 n.1.0 (ap (λ (y : ℤ). y ∷ zs) is ∙ ap (λ (ys : List ℤ). pos 2 ∷ ys) n.1.1)
by_place z zs (suc (suc (suc zero))) is place s =
    let n = one_found zs s in
    is_clause n.0 n.1.0 (ap (λ (y : ℤ). y ∷ zs) is ∙ ap (λ (ys : List ℤ). pos 3 ∷ ys) n.1.1)
by_place z [] (suc (suc (suc (suc zero)))) is place s = absurd s
by_place z (c ∷ zs) (suc (suc (suc (suc zero)))) is place ((n, (is_n, lt, small)), rest) =
    let ps = parts_found n zs (subst (λ (y : ℤ). Suits (pairs (unsigned_abs y)) zs) is_n rest) in
    is_farkas ps.parts (omega (arith, lt, ps.counted)) ps.fit
    (ap (λ (y : ℤ). y ∷ c ∷ zs) is ∙ ap (λ (y : ℤ). pos 4 ∷ y ∷ zs) (is_n ∙ ap (λ k. pos k) (sym ps.counted)) ∙ ap (λ (ys : List ℤ). pos 4 ∷ pos (length ps.parts) ∷ ys) (sym ps.is))
by_place z zs (suc (suc (suc (suc (suc i))))) is place s = absurd (no_word i place)

node_line : (zs : List ℤ) → Suits node_form zs → NodeLine zs
unfolding Suits
node_line [] s = absurd s
node_line (z ∷ zs) ((i, (is, place)), rest) = by_place z zs i is place (subst (λ (y : ℤ). Suits (form_at node_forms y) zs) is rest)

deep_none : (zs : List ℤ) → Suits deep_form zs → ⊥
unfolding Suits
deep_none [] s = s
deep_none (z ∷ zs) ((i, (is, place)), rest) = by_word i place (subst (λ (y : ℤ). Suits (form_at deep_forms y) zs) is rest)
  where
    by_word : (k : ℕ) → place_among words (get_or words k []) ≡ Ok k → Suits (form_at deep_forms (pos k)) zs → ⊥
    by_word zero p s = s
    by_word (suc zero) p s = s
    by_word (suc (suc zero)) p s = s
    by_word (suc (suc (suc zero))) p s = s
    by_word (suc (suc (suc (suc zero)))) p s = s
    by_word (suc (suc (suc (suc (suc k))))) p s = no_word k p

-- a node stands below at most 4,096 splits
pub node_found : (depth : ℕ) (zs : List ℤ) → SuitsBy (form_of (Node depth)) zs → (depth ≤ 4096) × NodeLine zs
unfolding form_of
node_found depth zs suits = by_depth (leb depth 4096) refl suits
  where
    by_depth : (t : Bool) → leb depth 4096 ≡ t → SuitsBy (Some (cond t node_form deep_form)) zs → (depth ≤ 4096) × NodeLine zs
    by_depth true e s = (leb-true depth 4096 e, node_line zs s.0)
    by_depth false e s = absurd (deep_none zs s.0)
