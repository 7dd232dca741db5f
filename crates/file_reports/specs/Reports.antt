-- Reports, each a status and a text: those on words that are no command, and on files that can't be had or are refused.
use Rattle.std.specs.Prelude.{ℕ, List, ◌++◌, codes, encode_utf8}
use Rattle.std.specs.Fmt.{decimal}
use Rattle.whole.specs.declared.answers.Refusal.{Refusal}
use Rattle.file_reports.specs.Sources.{word_of}
use Rattle.file_reports.specs.declared.sources.Source.{Source}

pub record Answer : Type 0 where
  pub status : ℕ
  pub text : List ℕ

unfoldable pub usage : Answer
usage = record { status = 4; text = codes "usage\n" }

unfoldable pub read_fault : Source → Answer
read_fault source = record { status = 5; text = codes "read fault " ++ (word_of source ++ codes "\n") }

unfoldable pub too_long : Source → Answer
too_long source = record { status = 3; text = codes "refused " ++ (word_of source ++ codes " too long\n") }

unfoldable pub refused : Source → Refusal → Answer
refused source refusal = record {
  status = 3;
  text = codes "refused " ++ (word_of source ++ (codes " " ++ (encode_utf8 refusal.letter ++ (decimal refusal.number
      ++ (codes " line " ++ (decimal refusal.line ++ codes "\n"))))));
}
