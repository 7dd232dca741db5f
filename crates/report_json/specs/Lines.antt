-- A report as one line of JSON.
use Rattle.std.specs.Prelude.{ℕ, List, [], ◌∷◌, ◌++◌, codes, decimal}
use Rattle.json.specs.Print.{quoted}

-- the object of a status and a text, in this order and with no space, and LF (10)
abbrev pub json_line : ℕ → List ℕ → List ℕ
json_line status text = codes "{\"status\":" ++ (decimal status ++ (codes ",\"text\":" ++ (quoted text ++ (codes "}" ++ 10 ∷ []))))
