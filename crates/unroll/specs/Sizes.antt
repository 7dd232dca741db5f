-- Claims whose numbers are small enough for their formulas to be turned into clauses.
use Rattle.std.specs.Prelude.{ℕ, suc, ◌≤◌, ◌^◌, unsigned_abs, List, [], ◌∷◌, length, All}
use Rattle.condition_tree.specs.Trees.{EachLeaf}
use Rattle.weighing.specs.Claim.{Compared}
use Rattle.claims.specs.Subjects.{Part, Subject, Symbolic, constant, entry}

abbrev pub IsSmallPart : Part → Type 0
IsSmallPart p = unsigned_abs p.coefficient ≤ 10 ^ 13

-- how many parts become terms of columns: all but the constants
abbrev pub counted_with : Subject → ℕ → ℕ
counted_with constant n = n
counted_with (entry e) n = suc n

abbrev pub entries_in : List Part → ℕ
entries_in [] = 0
entries_in (p ∷ ps) = counted_with p.of (entries_in ps)

pub record IsSmall (c : Compared Part) : Type 0 where
  pub entries : entries_in c.terms ≤ 128
  pub count : length c.terms ≤ 900
  pub sizes : All IsSmallPart c.terms

-- each comparison of each claim is
abbrev pub AreSmall : List Symbolic → Type 0
AreSmall [] = Unit {0}
AreSmall (c ∷ cs) = EachLeaf IsSmall c × AreSmall cs
