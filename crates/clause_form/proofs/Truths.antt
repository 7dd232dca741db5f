-- Rows, literals and clauses as tests, and what the clauses of a name say.
use Rattle.std.proofs.Common.{◌≡◌, ℕ, ◌<◌, ℤ, pos, ◌+ℤ◌, ◌*ℤ◌, ◌≤ℤ◌, ◌<ℤ◌, Bool, true, false, not, ◌&&◌, ◌||◌, ◌↔◌, ◌⊎◌, inl, inr, List, [], ◌∷◌, ◌++◌, map, Option, None, Some, refl, sym, ap, ◌∙◌, arith}
use Rattle.std.specs.Int.{is_negative, is_positive}
use Rattle.std.specs.Prelude.{int_lt}
use Rattle.std.proofs.lemmas.Int.{ints}
use Rattle.condition_tree.specs.Trees.{Tree, always, never, leaf, opposite, end_of_all, all_of, end_of_any, any_of, conjunction, disjunction, is_true}
use Rattle.linear_form.specs.declared.relations.Comparison.{Comparison}
use Rattle.linear_form.specs.declared.relations.Normal.{Normal}
use Rattle.linear_form.specs.declared.relations.Normal.TheVariants.{Always, Never, Bound}
use Rattle.linear_form.specs.Sums.{sum_of}
use Rattle.linear_form.specs.NormalForm.{Bounds, Meets, MeetsNormal, is_related, normal_of}
use Rattle.linear_form.proofs.Truth.{is_related-Related, normal_of-truth}
use Rattle.farkas_cert.specs.Literals.{negation}
use Rattle.farkas_cert.specs.declared.literals.Lit.{Lit}
use Rattle.clause_form.specs.declared.keys.Connective.{Connective}
use Rattle.clause_form.specs.declared.keys.Connective.TheVariants.{And, Or}
use Rattle.clause_form.specs.declared.simple.RowLit.{RowLit}
use Rattle.clause_form.specs.Keys.{apart, definitions, is_and, signed, together}
use Rattle.clause_form.specs.Models.{HasTrue, Satisfies}
use Rattle.clause_form.specs.Simplified.{Trimmed, yes, no, shown, Node, whole, all_parts, any_parts, closed, conjunct, conjuncts, disjunct, disjuncts, node, simplified, trimmed_all, trimmed_any, trimmed_leaf, trimmed_opposite}

-- ---- tests

pub same_test : (a b : Bool) → (a ≡ true → b ≡ true) → (b ≡ true → a ≡ true) → a ≡ b
same_test true b there back = sym (there refl)
same_test false true there back = back refl
same_test false false there back = refl

pub not_not : (b : Bool) → not (not b) ≡ b
not_not true = refl
not_not false = refl

pub and_true : (b : Bool) → (b && true) ≡ b
and_true true = refl
and_true false = refl

pub and_false : (b : Bool) → (b && false) ≡ false
and_false true = refl
and_false false = refl

pub or_false : (b : Bool) → (b || false) ≡ b
or_false true = refl
or_false false = refl

pub or_true : (b : Bool) → (b || true) ≡ true
or_true true = refl
or_true false = refl

-- ---- rows

-- what a literal of a row says of the row's sum and bound
abbrev pub holds : Bool → Bool → ℤ → ℤ → Bool
holds false true sum bound = not (int_lt bound sum)
holds true true sum bound = int_lt sum bound
holds false false sum bound = int_lt bound sum
holds true false sum bound = not (int_lt sum bound)

less : (a b : ℤ) → (a <ℤ b) ↔ (int_lt a b ≡ true)
less a b = by (int_lt a b) refl
  where
    by : (t : Bool) → int_lt a b ≡ t → (a <ℤ b) ↔ (t ≡ true)
    by true e = (λ h. refl, λ p. omega (arith, ints))
    by false e = (λ h. absurd (omega (arith, ints)), λ p. absurd (cc))

not_less : (a b : ℤ) → (b ≤ℤ a) ↔ (not (int_lt a b) ≡ true)
not_less a b = by (int_lt a b) refl
  where
    by : (t : Bool) → int_lt a b ≡ t → (b ≤ℤ a) ↔ (not t ≡ true)
    by true e = (λ h. absurd (omega (arith, ints)), λ p. absurd (cc))
    by false e = (λ h. refl, λ p. omega (arith, ints))

pub holds-Bounds : (strict positive : Bool) (sum bound : ℤ) → Bounds strict positive sum bound ↔ (holds strict positive sum bound ≡ true)
holds-Bounds false true sum bound = not_less bound sum
holds-Bounds true true sum bound = less sum bound
holds-Bounds false false sum bound = less bound sum
holds-Bounds true false sum bound = not_less sum bound

-- the truth, or its opposite where the sign is false
abbrev pub by_sign : Bool → Bool → Bool
by_sign true b = b
by_sign false b = not b

pub holds-sign : (strict positive : Bool) (sum bound : ℤ) → by_sign positive (holds strict true sum bound) ≡ holds strict positive sum bound
holds-sign strict true sum bound = refl
holds-sign true false sum bound = refl
holds-sign false false sum bound = not_not (int_lt bound sum)

module _ (value : ℕ → ℤ) (over : ℕ) where
  abbrev pub row_true : RowLit → Bool
  row_true r = holds r.strict r.positive (r.den *ℤ sum_of value r.form.terms) (r.num *ℤ pos over)

  abbrev pub meets : Comparison → Bool
  meets c = is_related c.rel (sum_of value c.terms +ℤ c.constant *ℤ pos over)

-- ---- what is taken out changes no truth

module _ (test : RowLit → Bool) where
  abbrev pub trimmed_truth : Trimmed → Bool
  trimmed_truth yes = true
  trimmed_truth no = false
  trimmed_truth (shown t) = is_true test t

  abbrev all_truth : Option (List (Tree RowLit)) → Bool
  all_truth None = false
  all_truth (Some ts) = is_true test (conjunction ts)

  abbrev any_truth : Option (List (Tree RowLit)) → Bool
  any_truth None = true
  any_truth (Some ts) = is_true test (disjunction ts)

module _ (value : ℕ → ℤ) (over : ℕ) (some : 0 < over) where
  leaf_truth : (c : Comparison) → trimmed_truth (row_true value over) (trimmed_leaf (normal_of c)) ≡ meets value over c
  leaf_truth c = by (normal_of c) (normal_of-truth c value over some)
    where
      by : (n : Normal) → Meets value over c ↔ MeetsNormal value over n → trimmed_truth (row_true value over) (trimmed_leaf n) ≡ meets value over c
      by Always same = sym ((is_related-Related c.rel (sum_of value c.terms +ℤ c.constant *ℤ pos over)).0 (same.1 tt))
      by Never same = same_test false (meets value over c) (λ h. absurd (cc)) (λ h. absurd (same.0 ((is_related-Related c.rel (sum_of value c.terms +ℤ c.constant *ℤ pos over)).1 h)))
      by (Bound form num den strict positive) same =
          let bounds = holds-Bounds strict positive (den *ℤ sum_of value form.terms) (num *ℤ pos over) in
          let related = is_related-Related c.rel (sum_of value c.terms +ℤ c.constant *ℤ pos over) in
          same_test _ _ (λ h. related.0 (same.1 (bounds.1 h))) (λ h. bounds.0 (same.0 (related.1 h)))

module _ (test : RowLit → Bool) where
  abbrev node_truth : Node → Bool
  node_truth (whole t) = trimmed_truth test t
  node_truth (all_parts ts) = all_truth test ts
  node_truth (any_parts ts) = any_truth test ts

  trimmed_all_truth : (ts : Option (List (Tree RowLit))) → trimmed_truth test (trimmed_all ts) ≡ all_truth test ts
  trimmed_all_truth None = refl
  trimmed_all_truth (Some []) = refl
  trimmed_all_truth (Some (t ∷ [])) = sym (and_true (is_true test t))
  trimmed_all_truth (Some (t ∷ u ∷ ts)) = refl

  trimmed_any_truth : (ts : Option (List (Tree RowLit))) → trimmed_truth test (trimmed_any ts) ≡ any_truth test ts
  trimmed_any_truth None = refl
  trimmed_any_truth (Some []) = refl
  trimmed_any_truth (Some (t ∷ [])) = sym (or_false (is_true test t))
  trimmed_any_truth (Some (t ∷ u ∷ ts)) = refl

  closed_truth : (v : Node) → trimmed_truth test (closed v) ≡ node_truth v
  closed_truth (whole t) = refl
  closed_truth (all_parts ts) = trimmed_all_truth ts
  closed_truth (any_parts ts) = trimmed_any_truth ts

  conjunct_truth : (t : Trimmed) (rest : Option (List (Tree RowLit))) → all_truth test (conjunct t rest) ≡ (trimmed_truth test t && all_truth test rest)
  conjunct_truth yes rest = refl
  conjunct_truth no rest = refl
  conjunct_truth (shown t) None = sym (and_false (is_true test t))
  conjunct_truth (shown t) (Some ts) = refl

  disjunct_truth : (t : Trimmed) (rest : Option (List (Tree RowLit))) → any_truth test (disjunct t rest) ≡ (trimmed_truth test t || any_truth test rest)
  disjunct_truth yes rest = refl
  disjunct_truth no rest = refl
  disjunct_truth (shown t) None = sym (or_true (is_true test t))
  disjunct_truth (shown t) (Some ts) = refl

  conjuncts_truth : (v : Node) → all_truth test (conjuncts v) ≡ node_truth v
  conjuncts_truth (whole t) = conjunct_truth t (Some []) ∙ and_true (trimmed_truth test t)
  conjuncts_truth (all_parts ts) = refl
  conjuncts_truth (any_parts ts) = conjunct_truth (trimmed_any ts) (Some []) ∙ and_true (trimmed_truth test (trimmed_any ts)) ∙ trimmed_any_truth ts

  disjuncts_truth : (v : Node) → any_truth test (disjuncts v) ≡ node_truth v
  disjuncts_truth (whole t) = disjunct_truth t (Some []) ∙ or_false (trimmed_truth test t)
  disjuncts_truth (all_parts ts) = disjunct_truth (trimmed_all ts) (Some []) ∙ or_false (trimmed_truth test (trimmed_all ts)) ∙ trimmed_all_truth ts
  disjuncts_truth (any_parts ts) = refl

  opposite_truth : (t : Trimmed) → trimmed_truth test (trimmed_opposite t) ≡ not (trimmed_truth test t)
  opposite_truth yes = refl
  opposite_truth no = refl
  opposite_truth (shown t) = refl

  module _ (other : Comparison → Bool) (leaves : (c : Comparison) → trimmed_truth test (trimmed_leaf (normal_of c)) ≡ other c) where
    node_is_true : (f : Tree Comparison) → node_truth (node f) ≡ is_true other f
    node_is_true always = refl
    node_is_true never = refl
    node_is_true (leaf c) = leaves c
    node_is_true (opposite f) = opposite_truth (closed (node f)) ∙ ap not (closed_truth (node f) ∙ node_is_true f)
    node_is_true end_of_all = refl
    node_is_true (all_of f rest) =
        let left : trimmed_truth test (closed (node f)) ≡ is_true other f = closed_truth (node f) ∙ node_is_true f in
        let right : all_truth test (conjuncts (node rest)) ≡ is_true other rest = conjuncts_truth (node rest) ∙ node_is_true rest in
        conjunct_truth (closed (node f)) (conjuncts (node rest)) ∙ (λ i. left i && right i)
    node_is_true end_of_any = refl
    node_is_true (any_of f rest) =
        let left : trimmed_truth test (closed (node f)) ≡ is_true other f = closed_truth (node f) ∙ node_is_true f in
        let right : any_truth test (disjuncts (node rest)) ≡ is_true other rest = disjuncts_truth (node rest) ∙ node_is_true rest in
        disjunct_truth (closed (node f)) (disjuncts (node rest)) ∙ (λ i. left i || right i)

    simplified_by : (f : Tree Comparison) → trimmed_truth test (simplified f) ≡ is_true other f
    unfolding simplified
    simplified_by f = closed_truth (node f) ∙ node_is_true f

-- a formula without constants has the formula's truth
pub simplified_truth : (value : ℕ → ℤ) (over : ℕ) (some : 0 < over) (f : Tree Comparison)
    → trimmed_truth (row_true value over) (simplified f) ≡ is_true (meets value over) f
simplified_truth value over some = simplified_by (row_true value over) (meets value over) (leaf_truth value over some)

-- ---- literals and clauses

module _ (truth : ℕ → Bool) where
  abbrev pub lit_true : Lit → Bool
  lit_true l = by_sign l.positive (truth l.atom)

  abbrev pub any_true : List Lit → Bool
  any_true [] = false
  any_true (l ∷ ls) = lit_true l || any_true ls

  abbrev pub all_true : List Lit → Bool
  all_true [] = true
  all_true (l ∷ ls) = lit_true l && all_true ls

  -- each clause has a true literal
  abbrev pub sat : List (List Lit) → Bool
  sat [] = true
  sat (clause ∷ more) = any_true clause && sat more

module _ (truth : ℕ → Bool) where
  pub lit_true-negation : (l : Lit) → lit_true truth (negation l) ≡ not (lit_true truth l)
  lit_true-negation l = by l.positive (truth l.atom)
    where
      by : (p b : Bool) → by_sign (not p) b ≡ not (by_sign p b)
      by true b = refl
      by false b = sym (not_not b)

  pub lit_true-signed : (sign : Bool) (l : Lit) → lit_true truth (signed sign l) ≡ by_sign sign (lit_true truth l)
  lit_true-signed true l = refl
  lit_true-signed false l = lit_true-negation l

  not_and : (a b : Bool) → (not a || not b) ≡ not (a && b)
  not_and true b = refl
  not_and false b = refl

  pub any_true-kept : (ls : List Lit) → any_true truth (map (signed true) ls) ≡ any_true truth ls
  any_true-kept [] = refl
  any_true-kept (l ∷ ls) = ap (λ (b : Bool). lit_true truth l || b) (any_true-kept ls)

  pub any_true-negated : (ls : List Lit) → any_true truth (map (signed false) ls) ≡ not (all_true truth ls)
  any_true-negated [] = refl
  any_true-negated (l ∷ ls) =
      let first = lit_true-negation l in
      let rest = any_true-negated ls in
      (λ i. first i || rest i) ∙ not_and (lit_true truth l) (all_true truth ls)

  pub sat-append : (xs ys : List (List Lit)) → sat truth (xs ++ ys) ≡ (sat truth xs && sat truth ys)
  sat-append [] ys = refl
  sat-append (x ∷ xs) ys = ap (λ (b : Bool). any_true truth x && b) (sat-append xs ys) ∙ assoc (any_true truth x) (sat truth xs) (sat truth ys)
    where
      assoc : (a b c : Bool) → (a && (b && c)) ≡ ((a && b) && c)
      assoc true b c = refl
      assoc false b c = refl

  -- the clauses of the parts of a conjunction's name, and of a disjunction's
  each_part : (p : ℕ) (ls : List Lit) → sat truth (map (apart And p) ls) ≡ (not (truth p) || all_true truth ls)
  each_part p [] = sym (or_true (not (truth p)))
  each_part p (l ∷ ls) = ap (λ (b : Bool). any_true truth (apart And p l) && b) (each_part p ls) ∙ by (truth p) (lit_true truth l) (all_true truth ls)
    where
      by : (t a b : Bool) → ((not t || (a || false)) && (not t || b)) ≡ (not t || (a && b))
      by true true b = refl
      by true false b = refl
      by false a b = refl

  no_part : (p : ℕ) (ls : List Lit) → sat truth (map (apart Or p) ls) ≡ (truth p || not (any_true truth ls))
  no_part p [] = sym (or_true (truth p))
  no_part p (l ∷ ls) =
      let first : any_true truth (apart Or p l) ≡ (truth p || (not (lit_true truth l) || false)) = ap (λ (b : Bool). truth p || (b || false)) (lit_true-negation l) in
      let rest = no_part p ls in
      (λ i. first i && rest i) ∙ by (truth p) (lit_true truth l) (any_true truth ls)
    where
      by : (t a b : Bool) → ((t || (not a || false)) && (t || not b)) ≡ (t || not (a || b))
      by true a b = refl
      by false true b = refl
      by false false b = refl

  -- a conjunction is true where all its parts are, a disjunction where one is
  abbrev pub joined : Connective → List Lit → Bool
  joined And ls = all_true truth ls
  joined Or ls = any_true truth ls

  pub sat-definitions : (connective : Connective) (p : ℕ) (ls : List Lit)
      → (truth p ≡ joined connective ls → sat truth (definitions connective p ls) ≡ true)
      × (sat truth (definitions connective p ls) ≡ true → truth p ≡ joined connective ls)
  sat-definitions And p ls =
      let first = any_true-negated ls in
      let rest = each_part p ls in
      let all : sat truth (definitions And p ls) ≡ ((truth p || not (all_true truth ls)) && (not (truth p) || all_true truth ls)) = (λ i. (truth p || first i) && rest i) in
      let both = by (truth p) (all_true truth ls) in
      (λ e. all ∙ both.0 e, λ e. both.1 (sym all ∙ e))
    where
      by : (t a : Bool) → (t ≡ a → ((t || not a) && (not t || a)) ≡ true) × (((t || not a) && (not t || a)) ≡ true → t ≡ a)
      by true true = (λ e. refl, λ e. refl)
      by true false = (λ e. absurd (cc), λ e. absurd (cc))
      by false true = (λ e. absurd (cc), λ e. absurd (cc))
      by false false = (λ e. refl, λ e. refl)
  sat-definitions Or p ls =
      let first = any_true-kept ls in
      let rest = no_part p ls in
      let all : sat truth (definitions Or p ls) ≡ ((not (truth p) || any_true truth ls) && (truth p || not (any_true truth ls))) = (λ i. (not (truth p) || first i) && rest i) in
      let both = by (truth p) (any_true truth ls) in
      (λ e. all ∙ both.0 e, λ e. both.1 (sym all ∙ e))
    where
      by : (t a : Bool) → (t ≡ a → ((not t || a) && (t || not a)) ≡ true) × (((not t || a) && (t || not a)) ≡ true → t ≡ a)
      by true true = (λ e. refl, λ e. refl)
      by true false = (λ e. absurd (cc), λ e. absurd (cc))
      by false true = (λ e. absurd (cc), λ e. absurd (cc))
      by false false = (λ e. refl, λ e. refl)

-- ---- the same as facts

sign_is : (p b : Bool) → (b ≡ p → by_sign p b ≡ true) × (by_sign p b ≡ true → b ≡ p)
sign_is true b = (λ e. e, λ e. e)
sign_is false true = (λ e. absurd (cc), λ e. absurd (cc))
sign_is false false = (λ e. refl, λ e. refl)

either_true : (a b : Bool) → (a || b) ≡ true → (a ≡ true) ⊎ (b ≡ true)
either_true true b e = inl refl
either_true false b e = inr e

both_true : (a b : Bool) → (a && b) ≡ true → (a ≡ true) × (b ≡ true)
both_true true b e = (refl, e)
both_true false b e = absurd (cc)

module _ (truth : ℕ → Bool) where
  has_true : (ls : List Lit) → HasTrue truth ls → any_true truth ls ≡ true
  has_true [] h = absurd h
  has_true (l ∷ ls) h =
      elim h [
        | inl here ↦ ap (λ (b : Bool). b || any_true truth ls) ((sign_is l.positive (truth l.atom)).0 here)
        | inr later ↦ ap (λ (b : Bool). lit_true truth l || b) (has_true ls later) ∙ or_true (lit_true truth l)
      ]

  true_one : (ls : List Lit) → any_true truth ls ≡ true → HasTrue truth ls
  true_one [] e = absurd (cc)
  true_one (l ∷ ls) e =
      elim (either_true (lit_true truth l) (any_true truth ls) e) [ inl here ↦ inl ((sign_is l.positive (truth l.atom)).1 here) | inr later ↦ inr (true_one ls later) ]

  pub sat-Satisfies : (cs : List (List Lit)) → Satisfies truth cs → sat truth cs ≡ true
  sat-Satisfies [] h = refl
  sat-Satisfies (c ∷ cs) h = ap (λ (b : Bool). b && sat truth cs) (has_true c h.0) ∙ sat-Satisfies cs h.1

  pub Satisfies-sat : (cs : List (List Lit)) → sat truth cs ≡ true → Satisfies truth cs
  Satisfies-sat [] e = tt
  Satisfies-sat (c ∷ cs) e = let both = both_true (any_true truth c) (sat truth cs) e in (true_one c both.0, Satisfies-sat cs both.1)
