-- Trees and lemmas, and the lines that are read of them: which tables are theirs, and that they are told apart by them.
use Rattle.std.proofs.Common.{◌≡◌, ℕ, zero, suc, ◌+◌, ◌^◌, ◌<◌, ◌≤◌, ℤ, pos, unsigned_abs, Bool, true, false, cond, eqb, eq-eqb, get_or, Option, None, Some, Ok, List, [], ◌∷◌, ◌++◌, length, map, refl, sym, ap, subst, ◌∙◌, append_assoc, arith}
use Rattle.std.specs.List.{AllByRecursion}
use Rattle.std.proofs.lemmas.List.{length-append}
use Rattle.text_lines.specs.Steps.{numbered, AllNumbered}
use Rattle.text_machine.specs.declared.faults.Fault.TheVariants.{Early}
use Rattle.text_machine.specs.Items.{one_of, spell_item, place_among}
use Rattle.text_machine.specs.Lines.{LineForm, stop, ends, spell_line, Suits}
use Rattle.text_machine.specs.Texts.{Table, SuitsBy, spell_by, spell_lines, IsWhole}
use Rattle.farkas_cert.specs.declared.literals.Lit.{Lit}
use Rattle.farkas_cert.specs.declared.trees.Part.{Part}
use Rattle.farkas_cert.specs.Trees.{Tree, split, farkas, clause, Derived}
use Rattle.cert_text.specs.declared.wants.Want.TheVariants.{Next}
use Rattle.cert_text.specs.Spelling.{split_line, clause_line, farkas_line, tree_lines, lemma_line, lemma_lines, end_line, TreeFits, LitFits, LemmaFits}
use Rattle.cert_text.specs.Rules.{words, form_at, next_forms, end_form, form_of, Stage, between, within, over, want_at, behind_tree, behind_line, cert_format}
use Rattle.cert_text.specs.Tables.{lit_number, one_number, clause_numbers, farkas_numbers, part_numbers, tree_table, lemma_table}
use Rattle.cert_text.proofs.Numbers.{lits_within, lits_spelled, lits_found, same_parts, same_lits, node_suits, node_spelled, split_suits, clause_suits, farkas_suits, farkas_spelled, NodeLine, is_split, is_clause, is_farkas, node_found}

-- ---- the lines of what fits are read

-- from this state on the table is whole, and these are its lines
pub record Reads (s : Stage) (table : Table) (lines : List (List (List ℕ))) : Type 0 where
  pub whole : IsWhole cert_format s table
  pub spelled : spell_lines cert_format s table ≡ lines

pub reads_line : (s : Stage) (zs : List ℤ) (table : Table) (items : List (List ℕ)) (lines : List (List (List ℕ))) → SuitsBy (form_of (want_at s)) zs → spell_by (form_of (want_at s)) zs ≡ items
    → Reads (behind_line s zs) table lines → Reads s (zs ∷ table) (items ∷ lines)
unfolding IsWhole spell_lines
reads_line s zs table items lines suits spelled rest = record {
  whole = (suits, rest.whole);
  spelled = ap (λ (i : List (List ℕ)). i ∷ spell_lines cert_format (behind_line s zs) table) spelled ∙ ap (λ (ls : List (List (List ℕ))). items ∷ ls) rest.spelled;
}

regroup : (s : Stage) (a b c : Table) (x y z : List (List (List ℕ))) → Reads s (a ++ (b ++ c)) (x ++ (y ++ z)) → Reads s ((a ++ b) ++ c) ((x ++ y) ++ z)
regroup s a b c x y z r = subst (λ (t : Table). Reads s t ((x ++ y) ++ z)) (sym (append_assoc a b c)) (subst (Reads s (a ++ (b ++ c))) (sym (append_assoc x y z)) r)

tree_reads : (j : ℕ) (tree : Tree) (depth : ℕ) (due : List ℕ) (table : Table) (lines : List (List (List ℕ))) → TreeFits depth tree → Reads (behind_tree j due) table lines
    → Reads (within j depth due) (tree_table tree ++ table) (tree_lines tree ++ lines)
unfolding TreeFits tree_table tree_lines behind_line spell_line
tree_reads j (split atom held failed) depth due table lines fits rest =
    reads_line (within j depth due) (pos 2 ∷ one_number atom) ((tree_table held ++ tree_table failed) ++ table) (split_line atom) ((tree_lines held ++ tree_lines failed) ++ lines)
    (node_suits depth (pos 2 ∷ one_number atom) fits.0 (split_suits atom fits.1.0)) (node_spelled depth (pos 2 ∷ one_number atom) fits.0)
    (regroup (within j (depth + 1) ((depth + 1) ∷ due)) (tree_table held) (tree_table failed) table (tree_lines held) (tree_lines failed) lines
    (tree_reads j held (depth + 1) ((depth + 1) ∷ due) (tree_table failed ++ table) (tree_lines failed ++ lines) fits.1.1.0
    (tree_reads j failed (depth + 1) due table lines fits.1.1.1 rest)))
tree_reads j (farkas parts) depth due table lines fits rest =
    reads_line (within j depth due) (pos 4 ∷ farkas_numbers parts) table (farkas_line parts) lines
    (node_suits depth (pos 4 ∷ farkas_numbers parts) fits.0 (farkas_suits parts fits.1.0 fits.1.1)) (node_spelled depth (pos 4 ∷ farkas_numbers parts) fits.0 ∙ farkas_spelled parts) rest
tree_reads j (clause number) depth due table lines fits rest =
    reads_line (within j depth due) (pos 3 ∷ one_number number) table (clause_line number) lines
    (node_suits depth (pos 3 ∷ one_number number) fits.0 (clause_suits number fits.1)) (node_spelled depth (pos 3 ∷ one_number number) fits.0) rest

lemma_suits : (j : ℕ) (lits : List Lit) → j < 2 ^ 127 → AllByRecursion LitFits lits → SuitsBy (form_of (Next j)) (pos 0 ∷ clause_numbers j lits)
unfolding form_of Suits spell_line
lemma_suits j lits small all = (((0, (refl, refl)), ((j, (refl, omega arith, omega arith, small)), lits_within lits all)), tt)

lemma_spelled : (j : ℕ) (lits : List Lit) → spell_by (form_of (Next j)) (pos 0 ∷ clause_numbers j lits) ≡ lemma_line j lits
unfolding form_of spell_line
lemma_spelled j lits = ap (λ (is : List (List ℕ)). lemma_line j [] ++ is) (lits_spelled lits)

some_is : (j : ℕ) → 0 < j → eqb j 0 ≡ false
some_is zero lt = absurd (omega arith)
some_is (suc j) lt = grind (arith)

end_suits : (j : ℕ) → 0 < j → SuitsBy (form_of (Next j)) (one_number 1)
unfolding form_of Suits spell_line
end_suits j lt = (((1, (refl, refl)), subst (λ t. Suits (cond t (ends Early) stop) []) (sym (some_is j lt)) tt), tt)

end_spelled : (j : ℕ) → 0 < j → spell_by (form_of (Next j)) (one_number 1) ≡ end_line
unfolding form_of spell_line
end_spelled j lt = by_test (eqb j 0)
  where
    by_test : (t : Bool) → (spell_item (one_of words refl) (pos 1) ∷ spell_line (cond t (ends Early) stop) []) ≡ end_line
    by_test true = refl
    by_test false = refl

lemmas_read : (ds : List Derived) (j : ℕ) → AllNumbered LemmaFits j ds → 0 < j + length ds → Reads (between j) (numbered lemma_table j ds ++ one_number 1 ∷ []) (numbered lemma_lines j ds ++ end_line ∷ [])
unfolding AllNumbered numbered behind_line IsWhole spell_lines form_of
lemmas_read [] j all some =
    reads_line (between j) (one_number 1) [] end_line [] (end_suits j (omega (arith, some))) (end_spelled j (omega (arith, some))) (record { whole = refl; spelled = refl })
lemmas_read (d ∷ ds) j all some =
    regroup (between j) (lemma_table j d) (numbered lemma_table (j + 1) ds) (one_number 1 ∷ []) (lemma_lines j d) (numbered lemma_lines (j + 1) ds) (end_line ∷ [])
    (reads_line (between j) (pos 0 ∷ clause_numbers j d.lits) (tree_table d.tree ++ (numbered lemma_table (j + 1) ds ++ one_number 1 ∷ [])) (lemma_line j d.lits) (tree_lines d.tree ++ (numbered lemma_lines (j + 1) ds ++ end_line ∷ []))
    (lemma_suits j d.lits all.0.number all.0.lits) (lemma_spelled j d.lits)
    (tree_reads j d.tree 0 [] (numbered lemma_table (j + 1) ds ++ one_number 1 ∷ []) (numbered lemma_lines (j + 1) ds ++ end_line ∷ []) all.0.tree (lemmas_read ds (j + 1) all.1 (omega arith))))

pub all_read : (ds : List Derived) → AllNumbered LemmaFits 0 ds → 0 < length ds → Reads (between 0) (numbered lemma_table 0 ds ++ one_number 1 ∷ []) (numbered lemma_lines 0 ds ++ end_line ∷ [])
all_read ds all some = lemmas_read ds 0 all (omega (arith, some))

-- ---- a table that is whole is that of trees that fit

record Grown (j depth : ℕ) (due : List ℕ) (table : Table) : Type 0 where
  tree : Tree
  rest : Table
  is : tree_table tree ++ rest ≡ table
  fits : TreeFits depth tree
  left : IsWhole cert_format (behind_tree j due) rest

no_end : {form : LineForm} → ◌≡◌ {A = Option LineForm} (Some form) None → ⊥
no_end e = cc

shorter : (front rest table : Table) (fuel : ℕ) → front ++ rest ≡ table → length table ≤ fuel → length rest ≤ fuel
shorter front rest table fuel is le = omega (arith, length-append front rest, ap (λ (t : Table). length t) is)

tree_found : (fuel j depth : ℕ) (due : List ℕ) (table : Table) → length table ≤ fuel → IsWhole cert_format (within j depth due) table → Grown j depth due table
unfolding IsWhole TreeFits tree_table behind_line form_of
tree_found fuel j depth due [] le whole = absurd (no_end whole)
tree_found zero j depth due (zs ∷ table) le whole = absurd (omega arith)
tree_found (suc fuel) j depth due (zs ∷ table) le whole =
    let f = node_found depth zs whole.0 in
    by_line (λ (d : ℕ) (later : List ℕ) (t : Table) (short_enough : length t ≤ fuel) (w : IsWhole cert_format (within j d later) t). tree_found fuel j d later t short_enough w) f.0 f.1
  where
    short : length table ≤ fuel
    short = omega arith

    next : (ys : List ℤ) → zs ≡ ys → IsWhole cert_format (behind_line (within j depth due) ys) table
    next ys e = subst (λ (xs : List ℤ). IsWhole cert_format (behind_line (within j depth due) xs) table) e whole.1

    by_split : (atom : ℕ) → depth ≤ 4096 → atom < 2 ^ 32 → zs ≡ pos 2 ∷ one_number atom → (held : Grown j (depth + 1) ((depth + 1) ∷ due) table) → Grown j (depth + 1) due held.rest → Grown j depth due (zs ∷ table)
    by_split atom shallow lt e held failed = record {
      tree = split atom held.tree failed.tree;
      rest = failed.rest;
      is =
          ap (λ (ys : List ℤ). ys ∷ ((tree_table held.tree ++ tree_table failed.tree) ++ failed.rest)) (sym e)
          ∙ ap (λ (t : Table). zs ∷ t) (append_assoc (tree_table held.tree) (tree_table failed.tree) failed.rest ∙ ap (λ (t : Table). tree_table held.tree ++ t) failed.is ∙ held.is);
      fits = (shallow, (lt, (held.fits, failed.fits)));
      left = failed.left;
    }

    by_line : ((d : ℕ) (later : List ℕ) (t : Table) → length t ≤ fuel → IsWhole cert_format (within j d later) t → Grown j d later t) → depth ≤ 4096 → NodeLine zs → Grown j depth due (zs ∷ table)
    by_line again shallow (is_split atom lt e) =
        let held = again (depth + 1) ((depth + 1) ∷ due) table short (next (pos 2 ∷ one_number atom) e) in
        by_split atom shallow lt e held (again (depth + 1) due held.rest (shorter (tree_table held.tree) held.rest table fuel held.is short) held.left)
    by_line again shallow (is_clause n lt e) =
        record { tree = clause n; rest = table; is = ap (λ (ys : List ℤ). ys ∷ table) (sym e); fits = (shallow, lt); left = next (pos 3 ∷ one_number n) e }
    by_line again shallow (is_farkas ps lt all e) =
        record { tree = farkas ps; rest = table; is = ap (λ (ys : List ℤ). ys ∷ table) (sym e); fits = (shallow, (lt, all)); left = next (pos 4 ∷ farkas_numbers ps) e }

data OuterLine (j : ℕ) (zs : List ℤ) : Type 0 where
  is_lemma : (lits : List Lit) → j < 2 ^ 127 → AllByRecursion LitFits lits → zs ≡ pos 0 ∷ clause_numbers j lits → OuterLine j zs
  is_end : 0 < j → zs ≡ one_number 1 → OuterLine j zs

no_word : (i : ℕ) → place_among words (get_or words (suc (suc (suc (suc (suc i))))) []) ≡ Ok (suc (suc (suc (suc (suc i))))) → ⊥
no_word i e = cc

end_found : (j : ℕ) (zs : List ℤ) → Suits (end_form j) zs → (0 < j) × (zs ≡ [])
unfolding Suits
end_found zero zs s = absurd s
end_found (suc j) [] s = (omega arith, refl)
end_found (suc j) (z ∷ zs) s = absurd (by_test (eqb (suc j) 0) s)
  where
    by_test : (t : Bool) → Suits (cond t (ends Early) stop) (z ∷ zs) → ⊥
    by_test true s = s
    by_test false s = s

by_place : (j : ℕ) (z : ℤ) (zs : List ℤ) (i : ℕ) → z ≡ pos i → place_among words (get_or words i []) ≡ Ok i → Suits (form_at (next_forms j) (pos i)) zs → OuterLine j (z ∷ zs)
unfolding Suits
by_place j z [] zero is place s = absurd s
by_place j z (y ∷ zs) zero is place ((n, (is_n, low, high, small)), all) =
    let same : n ≡ j = omega (arith, low, high) in
    let ls = lits_found zs all in
    is_lemma ls.0 (omega (arith, small, same)) ls.1.1
    (ap (λ (x : ℤ). x ∷ y ∷ zs) is ∙ ap (λ (x : ℤ). pos 0 ∷ x ∷ zs) (is_n ∙ ap (λ k. pos k) same) ∙ ap (λ (xs : List ℤ). pos 0 ∷ pos j ∷ xs) (sym ls.1.0))
by_place j z zs (suc zero) is place s =
    let e = end_found j zs s in
    is_end e.0 (ap (λ (x : ℤ). x ∷ zs) is ∙ ap (λ (xs : List ℤ). pos 1 ∷ xs) e.1)
by_place j z zs (suc (suc zero)) is place s = absurd s
by_place j z zs (suc (suc (suc zero))) is place s = absurd s
by_place j z zs (suc (suc (suc (suc zero)))) is place s = absurd s
by_place j z zs (suc (suc (suc (suc (suc i))))) is place s = absurd (no_word i place)

outer_line : (j : ℕ) (zs : List ℤ) → SuitsBy (form_of (Next j)) zs → OuterLine j zs
unfolding form_of Suits
outer_line j [] s = absurd s.0
outer_line j (z ∷ zs) (((i, (is, place)), rest), some) = by_place j z zs i is place (subst (λ (y : ℤ). Suits (form_at (next_forms j) y) zs) is rest)

pub record LemmasOf (j : ℕ) (table : Table) : Type 0 where
  pub lemmas : List Derived
  pub is : numbered lemma_table j lemmas ++ one_number 1 ∷ [] ≡ table
  pub fit : AllNumbered LemmaFits j lemmas
  pub some : 0 < j + length lemmas

lemmas_found : (fuel j : ℕ) (table : Table) → length table ≤ fuel → IsWhole cert_format (between j) table → LemmasOf j table
unfolding IsWhole behind_line numbered AllNumbered form_of
lemmas_found fuel j [] le whole = absurd (no_end whole)
lemmas_found zero j (zs ∷ table) le whole = absurd (omega arith)
lemmas_found (suc fuel) j (zs ∷ table) le whole = by_line (λ (t : Table) (short_enough : length t ≤ fuel) (w : IsWhole cert_format (between (j + 1)) t). lemmas_found fuel (j + 1) t short_enough w) (outer_line j zs whole.0)
  where
    short : length table ≤ fuel
    short = omega arith

    next : (ys : List ℤ) → zs ≡ ys → IsWhole cert_format (behind_line (between j) ys) table
    next ys e = subst (λ (xs : List ℤ). IsWhole cert_format (behind_line (between j) xs) table) e whole.1

    nothing_left : (left : Table) → IsWhole cert_format over left → left ≡ []
    nothing_left [] w = refl
    nothing_left (xs ∷ left) w = absurd w.0

    by_lemma : (lits : List Lit) → j < 2 ^ 127 → AllByRecursion LitFits lits → zs ≡ pos 0 ∷ clause_numbers j lits → (tree : Grown j 0 [] table) → LemmasOf (j + 1) tree.rest → LemmasOf j (zs ∷ table)
    by_lemma lits small all e tree others =
        let one : Derived = record { lits = lits; tree = tree.tree } in
        record {
          lemmas = one ∷ others.lemmas;
          is =
              append_assoc (lemma_table j one) (numbered lemma_table (j + 1) others.lemmas) (one_number 1 ∷ [])
              ∙ ap (λ (t : Table). lemma_table j one ++ t) others.is
              ∙ ap (λ (ys : List ℤ). ys ∷ (tree_table tree.tree ++ tree.rest)) (sym e) ∙ ap (λ (t : Table). zs ∷ t) tree.is;
          fit = (record { number = small; lits = all; tree = tree.fits }, others.fit);
          some = omega (arith, others.some);
        }

    by_line : ((t : Table) → length t ≤ fuel → IsWhole cert_format (between (j + 1)) t → LemmasOf (j + 1) t) → OuterLine j zs → LemmasOf j (zs ∷ table)
    by_line again (is_lemma lits small all e) =
        let tree = tree_found fuel j 0 [] table short (next (pos 0 ∷ clause_numbers j lits) e) in
        by_lemma lits small all e tree (again tree.rest (shorter (tree_table tree.tree) tree.rest table fuel tree.is short) tree.left)
    by_line again (is_end some e) = record {
      lemmas = [];
      is = ap (λ (ys : List ℤ). ys ∷ []) (sym e) ∙ ap (λ (t : Table). zs ∷ t) (sym (nothing_left table (next (one_number 1) e)));
      fit = tt;
      some = omega (arith, some);
    }

pub all_found : (table : Table) → IsWhole cert_format (between 0) table → LemmasOf 0 table
all_found table whole = lemmas_found (length table) 0 table (omega arith) whole

-- ---- trees and lemmas are told apart by their lines

cons_is : {A : Type 0} (x y : A) (xs ys : List A) → x ∷ xs ≡ y ∷ ys → (x ≡ y) × (xs ≡ ys)
cons_is x y xs ys e = (cc, cc)

-- the word of the first line
abbrev tag : Table → ℕ
tag [] = 9
tag ([] ∷ table) = 9
tag ((z ∷ zs) ∷ table) = unsigned_abs z

not_both : {t : Bool} → t ≡ true → t ≡ false → ⊥
not_both p q = cc

apart : (m n : ℕ) → eqb m n ≡ false → m ≡ n → ⊥
apart m n differ e = not_both (eq-eqb m n e) differ

one_same : (word : ℤ) (a b : ℕ) → word ∷ one_number a ≡ word ∷ one_number b → a ≡ b
one_same word a b e = cc

farkas_same : (word : ℤ) (m n : ℤ) (us vs : List ℤ) → word ∷ m ∷ us ≡ word ∷ n ∷ vs → us ≡ vs
farkas_same word m n us vs e = cc

split_same : (a b : ℕ) (t u v w : Tree) → a ≡ b → t ≡ u → v ≡ w → split a t v ≡ split b u w
split_same a b t u v w p q r = cc

tree_same : (t u : Tree) (vs ws : Table) → tree_table t ++ vs ≡ tree_table u ++ ws → (t ≡ u) × (vs ≡ ws)
unfolding tree_table
tree_same (split a t v) (split b u w) vs ws e =
    let c = cons_is (pos 2 ∷ one_number a) (pos 2 ∷ one_number b) ((tree_table t ++ tree_table v) ++ vs) ((tree_table u ++ tree_table w) ++ ws) e in
    let held = tree_same t u (tree_table v ++ vs) (tree_table w ++ ws) (sym (append_assoc (tree_table t) (tree_table v) vs) ∙ c.1 ∙ append_assoc (tree_table u) (tree_table w) ws) in
    let failed = tree_same v w vs ws held.1 in
    (split_same a b t u v w (one_same (pos 2) a b c.0) held.0 failed.0, failed.1)
tree_same (split a t v) (farkas qs) vs ws e = absurd (apart 2 4 refl (ap tag e))
tree_same (split a t v) (clause n) vs ws e = absurd (apart 2 3 refl (ap tag e))
tree_same (farkas ps) (split b u w) vs ws e = absurd (apart 4 2 refl (ap tag e))
tree_same (farkas ps) (farkas qs) vs ws e =
    let c = cons_is (pos 4 ∷ farkas_numbers ps) (pos 4 ∷ farkas_numbers qs) vs ws e in
    (ap (λ (xs : List Part). farkas xs) (same_parts ps qs (farkas_same (pos 4) (pos (length ps)) (pos (length qs)) (part_numbers ps) (part_numbers qs) c.0)), c.1)
tree_same (farkas ps) (clause n) vs ws e = absurd (apart 4 3 refl (ap tag e))
tree_same (clause m) (split b u w) vs ws e = absurd (apart 3 2 refl (ap tag e))
tree_same (clause m) (farkas qs) vs ws e = absurd (apart 3 4 refl (ap tag e))
tree_same (clause m) (clause n) vs ws e =
    let c = cons_is (pos 3 ∷ one_number m) (pos 3 ∷ one_number n) vs ws e in
    (ap (λ k. clause k) (one_same (pos 3) m n c.0), c.1)

derived_same : (ls ms : List Lit) (t u : Tree) (ds es : List Derived) → ls ≡ ms → t ≡ u → ds ≡ es → ◌≡◌ {A = List Derived} (record { lits = ls; tree = t } ∷ ds) (record { lits = ms; tree = u } ∷ es)
derived_same ls ms t u ds es p q r = cc

pub lemmas_same : (j : ℕ) (ds es : List Derived) → numbered lemma_table j ds ++ one_number 1 ∷ [] ≡ numbered lemma_table j es ++ one_number 1 ∷ [] → ds ≡ es
unfolding numbered
lemmas_same j [] [] e = refl
lemmas_same j [] (d ∷ es) e = absurd (apart 1 0 refl (ap tag e))
lemmas_same j (d ∷ ds) [] e = absurd (apart 0 1 refl (ap tag e))
lemmas_same j (d ∷ ds) (f ∷ es) e =
    let end = one_number 1 ∷ [] in
    let us = numbered lemma_table (j + 1) ds in
    let vs = numbered lemma_table (j + 1) es in
    let c = cons_is (pos 0 ∷ clause_numbers j d.lits) (pos 0 ∷ clause_numbers j f.lits) (tree_table d.tree ++ (us ++ end)) (tree_table f.tree ++ (vs ++ end))
    (sym (append_assoc (lemma_table j d) us end) ∙ e ∙ append_assoc (lemma_table j f) vs end) in
    let trees = tree_same d.tree f.tree (us ++ end) (vs ++ end) c.1 in
    derived_same d.lits f.lits d.tree f.tree ds es (same_lits d.lits f.lits (farkas_same (pos 0) (pos j) (pos j) (map lit_number d.lits) (map lit_number f.lits) c.0)) trees.0 (lemmas_same (j + 1) ds es trees.1)
