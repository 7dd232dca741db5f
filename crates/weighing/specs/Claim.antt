-- Claims: comparisons, joined. What they mean over all whole numbers, and what comes of weighing them within 128 bits.
use Rattle.std.specs.Prelude.{ℕ, ℤ, pos, ◌+ℤ◌, ◌*ℤ◌, Bool, true, false, ◌&&◌, ◌||◌, not, Result, Ok, Err, List, [], ◌∷◌}
use Rattle.whole.specs.declared.answers.Stuck.{Stuck}
use Rattle.condition_tree.specs.Trees.{Tree, leaf, all_of, end_of_all, Algebra, Truth, folded}
use Rattle.weighing.specs.Weighed.{related, weighed, Stands}
use Rattle.weighing.specs.declared.weighings.Summand.{Summand}
use Rattle.weighing.specs.declared.weighings.Rel5.{Rel5}

-- a comparison: terms of some kind, and the relation to zero in which their sum has to stand
pub record Compared (T : Type 0) : Type 0 where
  pub terms : List T
  pub rel : Rel5

abbrev pub Claims : Type 0 → Type 0
Claims T = Tree (Compared T)

abbrev pub compare : {T : Type 0} → List T → Rel5 → Tree (Compared T)
compare terms rel = leaf (record { terms = terms; rel = rel })

-- claims one after another: one alone is the whole
abbrev pub joined : {T : Type 0} → Tree (Compared T) → List (Tree (Compared T)) → Tree (Compared T)
joined c [] = c
joined c (d ∷ ds) = all_of c (joined d ds)

abbrev pub all_claims : {T : Type 0} → List (Tree (Compared T)) → Tree (Compared T)
all_claims [] = end_of_all
all_claims (c ∷ cs) = joined c cs

-- a claim on terms whose values are known
abbrev pub Claim : Type 0
Claim = Claims Summand

-- the exact sum of a comparison's terms
abbrev pub total : List Summand → ℤ
total [] = pos 0
total (t ∷ terms) = (t.0 *ℤ t.1) +ℤ total terms

abbrev pub ComparedHolds : Compared Summand → Type 0
ComparedHolds c = Stands c.rel (total c.terms)

-- what a claim means
abbrev pub Holds : Claim → Type 0
Holds c = Truth ComparedHolds c

abbrev pub both_outcomes : Result Bool Stuck → Result Bool Stuck → Result Bool Stuck
both_outcomes (Err stuck) q = Err stuck
both_outcomes (Ok a) (Err stuck) = Err stuck
both_outcomes (Ok a) (Ok b) = Ok (a && b)

abbrev pub either_outcome : Result Bool Stuck → Result Bool Stuck → Result Bool Stuck
either_outcome (Err stuck) q = Err stuck
either_outcome (Ok a) (Err stuck) = Err stuck
either_outcome (Ok a) (Ok b) = Ok (a || b)

abbrev pub not_outcome : Result Bool Stuck → Result Bool Stuck
not_outcome (Err stuck) = Err stuck
not_outcome (Ok a) = Ok (not a)

abbrev pub outcomes : Algebra (Result Bool Stuck)
outcomes = record {
  on_always = Ok true;
  on_never = Ok false;
  on_opposite = not_outcome;
  on_end_of_all = Ok true;
  on_all = both_outcomes;
  on_end_of_any = Ok false;
  on_any = either_outcome;
}

-- what comes of weighing a claim on a row: all its comparisons are weighed, in order, before its truth is taken
abbrev pub outcome : ℕ → Claim → Result Bool Stuck
outcome row c = folded outcomes (λ (d : Compared Summand). related d.rel (weighed row d.terms).sum) c
