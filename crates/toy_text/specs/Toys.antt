-- Lists of numbers, nested: a small format with the parts that formats have, by its table.
use Rattle.std.specs.Prelude.{List, [], ◌∷◌, codes}
use Rattle.whole.specs.declared.answers.Refusal.{Refusal}
use Rattle.text_machine.specs.Texts.{Format}
use Rattle.line_tables.specs.declared.spots.Spot.{Spot}
use Rattle.line_tables.specs.declared.tables.Item.TheVariants.{Natural, Wholes}
use Rattle.line_tables.specs.declared.tables.Place.TheVariants.{Header, Within, Opens, Closes, Ends}
use Rattle.line_tables.specs.Tables.{Rule, rule, format}

-- the version; up to 9 numbers behind their count; parts in version 2, at most 9 within one another
abbrev pub rules : List Rule
rules =
    rule (codes "toy") (Natural 1 2 ∷ []) Header
    ∷ rule (codes "list") (Wholes 9 ∷ []) (Within 1)
    ∷ rule (codes "open") [] (Opens 2 9)
    ∷ rule (codes "close") [] Closes
    ∷ rule (codes "end") [] Ends
    ∷ []

-- its rules of refusal are T1 to T4
abbrev pub toy : Format Spot Refusal
toy = format 84 rules
