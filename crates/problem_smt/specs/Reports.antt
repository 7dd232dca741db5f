-- The reports: a status, and a text. Of files that are refused, and of a problem that is too large, they are those of `ccac check`.
use Rattle.std.specs.Prelude.{ℕ, List, ◌++◌, codes, encode_utf8}
use Rattle.std.specs.Fmt.{decimal}
use Rattle.whole.specs.declared.answers.Refusal.{Refusal}
use Rattle.clause_form.specs.declared.clauses.What.{What}
use Rattle.clause_form.specs.declared.clauses.What.TheVariants.{Forms, Atoms, Clauses}
use Rattle.problem_smt.specs.declared.reports.Source.{Source}
use Rattle.problem_smt.specs.declared.reports.Source.TheVariants.{Controller, Question}

pub record Answer : Type 0 where
  pub status : ℕ
  pub text : List ℕ

-- how many bytes a file may have
abbrev pub most_bytes : ℕ
most_bytes = 65536

-- the word for a file in a report
abbrev pub word_of : Source → List ℕ
word_of Controller = codes "controller"
word_of Question = codes "question"

unfoldable pub usage : Answer
usage = record { status = 4; text = codes "usage: problem_smt [--counts] CTRL QUEST\n" }

unfoldable pub read_fault : Source → Answer
read_fault source = record { status = 5; text = codes "read fault " ++ (word_of source ++ codes "\n") }

unfoldable pub too_long : Source → Answer
too_long source = record { status = 3; text = codes "refused " ++ (word_of source ++ codes " too long\n") }

unfoldable pub refused : Source → Refusal → Answer
refused source refusal = record {
  status = 3;
  text = codes "refused " ++ (word_of source ++ (codes " " ++ (encode_utf8 refusal.letter ++ (decimal refusal.number
      ++ (codes " line " ++ (decimal refusal.line ++ codes "\n"))))));
}

-- what of a problem there is too much of
abbrev pub size_word : What → List ℕ
size_word Forms = codes "forms"
size_word Atoms = codes "atoms"
size_word Clauses = codes "clauses"

unfoldable pub too_large : What → ℕ → Answer
too_large what limit = record { status = 3; text = codes "refused large " ++ (size_word what ++ (codes " " ++ (decimal limit ++ codes "\n"))) }
