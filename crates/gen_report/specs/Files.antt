-- The files of a generated problem, and the words that judge them.
use Rattle.std.specs.Prelude.{◌≡◌, ℕ, List, [], ◌∷◌, Option, Some, codes}
use Rattle.ctrl_gen.specs.Problems.{controller_text, question_text}
use Rattle.gen_report.specs.Words.{Seeded}

-- the content of a folder has the two texts
pub record Holds (content : List ℕ → Option (List ℕ)) (s : Seeded) : Type 0 where
  pub controller : content (codes "controller") ≡ Some (controller_text s.seed)
  pub question : content (codes "question") ≡ Some (question_text s.seed s.size)

abbrev pub check_words : List (List ℕ)
check_words = codes "check" ∷ codes "controller" ∷ codes "question" ∷ []
