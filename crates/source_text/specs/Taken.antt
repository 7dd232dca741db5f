-- What a line that was taken says.
use Rattle.std.specs.Prelude.{◌≡◌, List, [], ◌∷◌, Option, None, Some}
use Rattle.source_text.specs.declared.all_lines.SourceLine.{SourceLine}
use Rattle.source_text.specs.Lines.{Line, kept}

abbrev pub line_of : SourceLine → Line
line_of line = record { number = line.number; bytes = line.bytes.now }

-- the line that was found, if one was, before those that are kept of the others
abbrev pub found_then : Option SourceLine → List Line → List Line
found_then None others = []
found_then (Some line) others = line_of line ∷ kept others

-- the first line was taken, if one was there
abbrev pub Takes : Option SourceLine → List Line → List Line → Type 0
Takes None old new = (old ≡ []) × (new ≡ [])
Takes (Some line) old new = old ≡ line_of line ∷ new

-- the first line that is kept was taken, if one was there, with all before it
abbrev pub TakesKept : Option SourceLine → List Line → List Line → Type 0
TakesKept None old new = (kept old ≡ []) × (new ≡ [])
TakesKept (Some line) old new = kept old ≡ line_of line ∷ kept new
