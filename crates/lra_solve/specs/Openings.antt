-- Relations of states with other openings.
use Rattle.clause_form.specs.Theories.{Relations}

-- the same relations, with these states as the openings
abbrev pub opening_with : {S : Type 0} → (S → Type 0) → Relations S → Relations S
opening_with Opens R = record R { opening = Opens }
