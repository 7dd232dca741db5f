-- The compact text of a status and a text, with LF, is the line.
use Rattle.std.proofs.Common.{◌≡◌, ◌∙◌, ◌++◌, ℕ, false, List, [], ◌∷◌, ap, append_assoc, codes, refl}
use Rattle.serde_json.specs.Data.{Data, member, no_members, number, object, string, unsigned}
use Rattle.serde_json.specs.Written.{compact_text, has_float}
use Rattle.serde_json.proofs.OnLiterals.{serde_json_on_literals}
use Rattle.report_json.specs.Lines.{json_line}

abbrev pub data_of : ℕ → List ℕ → Data
data_of status text = object (member (codes "status") (number (unsigned status)) (member (codes "text") (string text) no_members))

no_float : (status : ℕ) (text : List ℕ) → has_float (data_of status text) ≡ false
no_float status text = refl

compact_is : (status : ℕ) (text : List ℕ) → compact_text (data_of status text) ++ 10 ∷ [] ≡ json_line status text
unfolding serde_json_on_literals
compact_is status text = simp append_assoc

pub line_is : (status : ℕ) (text line new : List ℕ) (d : Data) → d ≡ data_of status text → (has_float d ≡ false → line ≡ compact_text d) → new ≡ line ++ 10 ∷ []
    → new ≡ json_line status text
line_is status text line new d same texts is =
    is ∙ ap (λ (l : List ℕ). l ++ 10 ∷ []) (texts (ap has_float same ∙ no_float status text) ∙ ap compact_text same) ∙ compact_is status text
