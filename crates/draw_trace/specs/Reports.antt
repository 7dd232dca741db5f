-- The reports: a status, and a text. Of files that are refused they are those of `ccac admit`.
use Rattle.std.specs.Prelude.{ℕ, List, ◌++◌, codes, encode_utf8}
use Rattle.std.specs.Fmt.{decimal}
use Rattle.whole.specs.declared.answers.Refusal.{Refusal}
use Rattle.draw_trace.specs.declared.reports.Source.{Source}
use Rattle.draw_trace.specs.declared.reports.Source.TheVariants.{Question, Trace}

pub record Answer : Type 0 where
  pub status : ℕ
  pub text : List ℕ

-- how many bytes a file may have
abbrev pub most_bytes : ℕ
most_bytes = 65536

-- the word for a file in a report
abbrev pub word_of : Source → List ℕ
word_of Question = codes "question"
word_of Trace = codes "trace"

unfoldable pub usage : Answer
usage = record { status = 4; text = codes "usage: draw_trace QUEST TRACE\n" }

unfoldable pub read_fault : Source → Answer
read_fault source = record { status = 5; text = codes "read fault " ++ (word_of source ++ codes "\n") }

unfoldable pub too_long : Source → Answer
too_long source = record { status = 3; text = codes "refused " ++ (word_of source ++ codes " too long\n") }

unfoldable pub refused : Source → Refusal → Answer
refused source refusal = record {
  status = 3;
  text = codes "refused " ++ (word_of source ++ (codes " " ++ (encode_utf8 refusal.letter ++ (decimal refusal.number
      ++ (codes " line " ++ (decimal refusal.line ++ codes "\n"))))));
}

unfoldable pub too_wide : Answer
too_wide = record { status = 3; text = codes "refused trace too wide\n" }
