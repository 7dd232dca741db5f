-- The text of a journal, by lines.
use Rattle.std.specs.Prelude.{ℕ, Bool, true, false, List, [], ◌∷◌, ◌++◌, map, length, codes}
use Rattle.std.specs.Fmt.{decimal}
use Rattle.std.specs.List.{filter}
use Rattle.farkas_cert.specs.declared.journals.Move.{Move}
use Rattle.farkas_cert.specs.declared.journals.Move.TheVariants.{Decide, Propagate, Pivot, Conflict}
use Rattle.cert_text.specs.Spelling.{Line, literal_item, end_line}

-- a decision, a propagation with the clause's number, a pivot, or a conflict with the length to which the trail is cut
-- and the literals of its lemma
abbrev pub move_line : Move → Line
move_line (Decide lit) = codes "d" ∷ literal_item lit ∷ []
move_line (Propagate lit clause) = codes "p" ∷ literal_item lit ∷ decimal clause ∷ []
move_line (Pivot basic other) = codes "v" ∷ decimal basic ∷ decimal other ∷ []
move_line (Conflict lits keep) = codes "k" ∷ decimal keep ∷ map literal_item lits

abbrev pub is_decide : Move → Bool
is_decide (Decide lit) = true
is_decide _ = false

abbrev pub is_propagate : Move → Bool
is_propagate (Propagate lit clause) = true
is_propagate _ = false

abbrev pub is_pivot : Move → Bool
is_pivot (Pivot basic other) = true
is_pivot _ = false

abbrev pub is_conflict : Move → Bool
is_conflict (Conflict lits keep) = true
is_conflict _ = false

abbrev pub how_many : (Move → Bool) → List Move → ℕ
how_many test moves = length (filter test moves)

-- how many moves there are of each kind
abbrev pub counts_line : List Move → Line
counts_line moves = codes "counts" ∷ decimal (how_many is_decide moves) ∷ decimal (how_many is_propagate moves) ∷ decimal (how_many is_pivot moves) ∷ decimal (how_many is_conflict moves) ∷ []

unfoldable pub journal_lines : List Move → List Line
journal_lines moves = counts_line moves ∷ (map move_line moves ++ end_line ∷ [])
