-- The files that commands read.
use Rattle.std.specs.Prelude.{ℕ, List, codes}
use Rattle.file_reports.specs.declared.sources.Source.{Source}
use Rattle.file_reports.specs.declared.sources.Source.TheVariants.{Controller, Question, Trace, Cert}

-- the word for a file in a report
abbrev pub word_of : Source → List ℕ
word_of Controller = codes "controller"
word_of Question = codes "question"
word_of Trace = codes "trace"
word_of Cert = codes "cert"

-- how many bytes it may have
abbrev pub limit_of : Source → ℕ
limit_of Controller = 65536
limit_of Question = 65536
limit_of Trace = 262144
limit_of Cert = 268435456
