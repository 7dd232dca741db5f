-- What is kept while a clause is resolved backwards along a trail: the atoms that it names, where each atom stands, and a tree.
use Rattle.std.specs.Prelude.{◌≡◌, ℕ, ◌+◌, ◌<◌, ◌≤◌, ◌⊎◌, Bool, true, false, List, [], ◌∷◌, map, take, length, None, Some, slice_get, slice_index, slice_index_or, slice_set, pos, ◌≤ℤ◌, if◌then◌else◌}
use Rattle.farkas_cert.specs.Literals.{negation}
use Rattle.farkas_cert.specs.Trees.{Tree, split, clause}
use Rattle.farkas_cert.specs.declared.literals.Lit.{Lit}
use Rattle.farkas_cert.specs.declared.trees.Part.{Part}
use Rattle.clause_form.specs.Derivations.{Closes, Has, HasAtom, IsFalseOn, Rows}
use Rattle.clause_form.specs.Journals.{Entry, literals}
use Rattle.learned_clause.specs.LightTrees.{HasLightLeaves, depth}
use Rattle.learned_clause.specs.Resolutions.{HasNoLevel, IsLevelOf, Resolve}
use Rattle.learned_clause.specs.Trails.{DecidedAt}
use Rattle.learned_clause.specs.declared.marks.Marks.{Marks}

-- ---- places

-- each atom is in range and stands once
pub record AreApart (atoms : ℕ) (trail : List Entry) : Type 0 where
  pub in_range : (k : ℕ) (e : Entry) → slice_get trail k ≡ Some e → e.lit.atom < atoms
  pub apart : (i j : ℕ) (d e : Entry) → slice_get trail i ≡ Some d → slice_get trail j ≡ Some e → d.lit.atom ≡ e.lit.atom → i ≡ j

-- an atom's place among these many entries, counted from 1, or 0 where it isn't there
pub record AreRanked (trail : List Entry) (many : ℕ) (ranks : List ℕ) : Type 0 where
  pub each : (k : ℕ) (e : Entry) → k < many → slice_get trail k ≡ Some e → slice_index ranks e.lit.atom ≡ k + 1
  pub only : (atom k : ℕ) → slice_index ranks atom ≡ k + 1 → (e : Entry) × (slice_get trail k ≡ Some e) × (e.lit.atom ≡ atom) × (k < many)

-- ---- marks

abbrev pub is_on : List Bool → ℕ → Bool
is_on on atom = slice_index_or on atom false

-- `lowest` is the least rank at or above `level` of an atom that is on
pub record IsLowest (m : Marks) : Type 0 where
  pub least : (atom : ℕ) → is_on m.on atom ≡ true → m.level ≤ slice_index m.ranks atom → m.lowest ≤ slice_index m.ranks atom
  pub reached : (m.lowest ≡ 0) ⊎ ((atom : ℕ) × (is_on m.on atom ≡ true) × (slice_index m.ranks atom ≡ m.lowest))
  pub level : m.level ≤ m.lowest

-- the lower of the two, where the rank counts
abbrev pub IsLower : ℕ → ℕ → ℕ → ℕ → Type 0
IsLower level lowest rank new = ((new ≡ lowest) × (level ≤ rank → lowest ≤ rank)) ⊎ ((new ≡ rank) × (level ≤ rank) × (rank ≤ lowest))

-- one atom is turned on
pub record IsMarked (old : Marks) (atom : ℕ) (new : Marks) : Type 0 where
  pub on : new.on ≡ slice_set old.on atom true
  pub ranks : new.ranks ≡ old.ranks
  pub level : new.level ≡ old.level
  pub lowest : IsLower old.level old.lowest (slice_index old.ranks atom) new.lowest

-- the atoms of some literals are turned on
pub record AreMarked (old : Marks) (lits : List Lit) (new : Marks) : Type 0 where
  pub sized : length new.on ≡ length old.on
  pub ranks : new.ranks ≡ old.ranks
  pub level : new.level ≡ old.level
  pub lowest : IsLowest old → IsLowest new
  pub lower : new.lowest ≤ old.lowest
  pub keeps : (atom : ℕ) → is_on old.on atom ≡ true → is_on new.on atom ≡ true
  pub each : (l : Lit) → Has l lits → is_on new.on l.atom ≡ true
  pub only : (atom : ℕ) → is_on new.on atom ≡ true → (is_on old.on atom ≡ true) ⊎ HasAtom atom lits

-- no atom is on, and no level is set
pub record AreFresh (atoms : ℕ) (trail : List Entry) (m : Marks) : Type 0 where
  pub sized : length m.on ≡ atoms
  pub off : (atom : ℕ) → is_on m.on atom ≡ false
  pub ranked : AreRanked trail (length trail) m.ranks
  pub level : m.level ≡ 0
  pub lowest : m.lowest ≡ 0

-- the literals whose atoms are on
abbrev pub held : List Bool → List Lit → List Lit
held on [] = []
held on (l ∷ ls) = if is_on on l.atom then l ∷ held on ls else held on ls

-- no multiplier is below 0
abbrev pub NoneNegative : List Part → Type 0
NoneNegative [] = Unit {0}
NoneNegative (p ∷ ps) = (pos 0 ≤ℤ p.mult) × NoneNegative ps

-- ---- places of the trail

-- no atom of these entries is on, or none of them is a decision
abbrev pub NoneOn : List Entry → List Bool → ℕ → ℕ → Type 0
NoneOn trail on from to = (k : ℕ) (e : Entry) → from ≤ k → k < to → slice_get trail k ≡ Some e → is_on on e.lit.atom ≡ false

abbrev pub NoneDecided : List Entry → ℕ → ℕ → Type 0
NoneDecided trail from to = (k : ℕ) (e : Entry) → from ≤ k → k < to → slice_get trail k ≡ Some e → e.by ≡ None → ⊥

abbrev pub OnAt : List Entry → List Bool → ℕ → Type 0
OnAt trail on k = (e : Entry) × (slice_get trail k ≡ Some e) × (is_on on e.lit.atom ≡ true)

-- the last of so many entries whose atom is on, counted from 1, or 0
pub record IsLastOn (trail : List Entry) (on : List Bool) (many last : ℕ) : Type 0 where
  pub within : last ≤ many
  pub none : NoneOn trail on last many
  pub at : (last ≡ 0) ⊎ ((k : ℕ) × (last ≡ k + 1) × OnAt trail on k)

-- the last of so many entries that is a decision, counted from 1, or 0
pub record IsLastDecision (trail : List Entry) (many last : ℕ) : Type 0 where
  pub within : last ≤ many
  pub none : NoneDecided trail last many
  pub at : (last ≡ 0) ⊎ ((k : ℕ) × (last ≡ k + 1) × DecidedAt trail k)

-- the first place in a range with an atom that is on, or with a decision; else the range's end
pub record IsFirstOn (trail : List Entry) (on : List Bool) (from to first : ℕ) : Type 0 where
  pub after : from ≤ first
  pub within : first ≤ to
  pub none : NoneOn trail on from first
  pub at : (first ≡ to) ⊎ OnAt trail on first

pub record IsFirstDecision (trail : List Entry) (from to first : ℕ) : Type 0 where
  pub after : from ≤ first
  pub within : first ≤ to
  pub none : NoneDecided trail from first
  pub at : (first ≡ to) ⊎ DecidedAt trail first

-- the least rank from the level on of an atom that is on, if there is a level
abbrev pub IsLowestRank : List Entry → List Bool → ℕ → ℕ → ℕ → Type 0
IsLowestRank trail on level many lowest =
    ((level ≡ 0) × (lowest ≡ 0)) ⊎ ((from : ℕ) × (first : ℕ) × (level ≡ from + 1) × (lowest ≡ first + 1) × IsFirstOn trail on from many first)

-- ---- the walk

-- every path of literals of the front that has those that are on is closed
abbrev pub ClosesAll : Rows → List (List Lit) → Tree → List Bool → List Lit → Type 0
ClosesAll c known tree on front =
    (path : List Lit) → ((l : Lit) → Has l front → is_on on l.atom ≡ true → Has l path) → ((l : Lit) → Has l path → Has l front)
    → Closes c known tree path

-- the tree after one step back over a literal that follows from a clause
abbrev pub resolved : Lit → ℕ → Tree → Tree
resolved l number tree = if l.positive then split l.atom tree (clause number) else split l.atom (clause number) tree

-- the level is that of a decision, or there is none
abbrev pub IsLevel : List Entry → Marks → Type 0
IsLevel trail m = ((m.level ≡ 0) × (m.lowest ≡ 0)) ⊎ ((k : ℕ) × (m.level ≡ k + 1) × DecidedAt trail k)

-- what is false, and its leaf
pub record IsBegun (c : Rows) (known : List (List Lit)) (trail : List Entry) (m : Marks) (tree : Tree) : Type 0 where
  pub sized : length m.on ≡ length c.atoms
  pub ranked : AreRanked trail (length trail) m.ranks
  pub closes : ClosesAll c known tree m.on (literals trail)
  pub shallow : depth tree ≡ 0
  pub leaves : HasLightLeaves c tree

-- after the walk back to this length of the trail
pub record IsWalk (c : Rows) (known : List (List Lit)) (trail : List Entry) (m : Marks) (tree : Tree) (many : ℕ) : Type 0 where
  pub sized : length m.on ≡ length c.atoms
  pub ranked : AreRanked trail (length trail) m.ranks
  pub lowest : IsLowest m
  pub level : IsLevel trail m
  pub within : many ≤ length trail
  pub above : m.lowest ≤ many
  pub follow : NoneDecided trail m.level many
  pub closes : ClosesAll c known tree m.on (literals (take many trail))
  pub shallow : depth tree + many ≤ length trail
  pub leaves : HasLightLeaves c tree

-- the least decision after the last atom that is on before this place
pub record IsLeastCut (trail : List Entry) (on : List Bool) (decision keep : ℕ) : Type 0 where
  pub within : keep ≤ decision
  pub decided : DecidedAt trail keep
  pub none : NoneOn trail on keep decision
  pub earlier : (k : ℕ) → k < keep → DecidedAt trail k → (j : ℕ) × (k ≤ j) × (j < keep) × OnAt trail on j

-- ---- what is resolved

-- the atoms that are on are those of these literals, all of them false on the trail
pub record AreOn (trail : List Entry) (lits : List Lit) (on : List Bool) : Type 0 where
  pub false_here : IsFalseOn (literals trail) lits
  pub each : (l : Lit) → Has l lits → is_on on l.atom ≡ true
  pub only : (atom : ℕ) → is_on on atom ≡ true → HasAtom atom lits

-- the clause so far: the negations of the front's literals whose atoms are on
abbrev pub so_far : List Entry → Marks → ℕ → List Lit
so_far trail m many = map negation (held m.on (literals (take many trail)))

-- from this level on, the start is resolved to the clause so far
pub record IsResolvedFrom (known : List (List Lit)) (trail : List Entry) (start : List Lit) (m : Marks) (many level : ℕ) : Type 0 where
  pub is : m.level ≡ level + 1
  pub reached : IsLevelOf trail start level
  pub between : List (List Lit)
  pub resolved : Resolve known trail level start between (so_far trail m many)

abbrev pub IsResolved : List (List Lit) → List Entry → List Lit → Marks → ℕ → Type 0
IsResolved known trail start m many =
    ((m.level ≡ 0) × HasNoLevel trail start) ⊎ ((level : ℕ) × IsResolvedFrom known trail start m many level)
