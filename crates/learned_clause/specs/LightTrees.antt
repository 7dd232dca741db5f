-- Trees that a certificate's text can hold and a checker can add up.
use Rattle.std.specs.Prelude.{ℕ, ◌+◌, ◌<◌, ◌≤◌, ◌^◌, max, unsigned_abs, List, [], ◌∷◌, length}
use Rattle.farkas_cert.specs.Trees.{Tree, split, farkas, clause}
use Rattle.farkas_cert.specs.declared.trees.Part.{Part}
use Rattle.clause_form.specs.Derivations.{Rows, SumsFit}

-- how many splits lie in one another at most
abbrev pub depth : Tree → ℕ
depth (split a held failed) = 1 + max (depth held) (depth failed)
depth (farkas parts) = 0
depth (clause n) = 0

-- each multiplier fits 128 bits
abbrev pub AreWithin : List Part → Type 0
AreWithin [] = Unit {0}
AreWithin (p ∷ ps) = (unsigned_abs p.mult < 2 ^ 127) × AreWithin ps

pub record IsLightSum (c : Rows) (parts : List Part) : Type 0 where
  pub few : length parts ≤ 2049
  pub fits : SumsFit c parts
  pub within : AreWithin parts

abbrev pub HasLightLeaves : Rows → Tree → Type 0
HasLightLeaves c (split a held failed) = HasLightLeaves c held × HasLightLeaves c failed
HasLightLeaves c (farkas parts) = IsLightSum c parts
HasLightLeaves c (clause n) = Unit {0}

pub record IsLight (c : Rows) (deepest : ℕ) (tree : Tree) : Type 0 where
  pub shallow : depth tree ≤ deepest
  pub leaves : HasLightLeaves c tree
