-- The reports of the commands: a status, and a text of one line.
use Rattle.std.specs.Prelude.{◌≡◌, ℕ, List, ◌++◌, codes}
use Rattle.std.specs.Fmt.{decimal}
use Rattle.whole.specs.declared.answers.Stuck.{Stuck}
use Rattle.path_server.specs.declared.admission.Admit.{Admit}
use Rattle.path_server.specs.declared.admission.Admit.TheVariants.{Yes, Broken, Wide}
use Rattle.trace_replay.specs.declared.replaying.RunRule.{RunRule}
use Rattle.trace_replay.specs.declared.replaying.RunRule.TheVariants.{Shape, P, Opening, Step, Send}
use Rattle.trace_replay.specs.declared.replaying.Replayed.{Replayed}
use Rattle.trace_replay.specs.declared.replaying.Replayed.TheVariants.{Violating, Keeps, Broken as BrokenRun, Wide as WideRun}
use Rattle.clause_form.specs.declared.clauses.What.{What}
use Rattle.clause_form.specs.declared.clauses.What.TheVariants.{Forms, Atoms, Clauses}
use Rattle.cert_check.specs.Answers.{named}
use Rattle.cert_check.specs.Verdicts.{Verdict, proved, fails, wide as wide_at}
use Rattle.cert_check.specs.declared.found.Checked.{Checked}
use Rattle.cert_check.specs.declared.found.Checked.TheVariants.{Proved, Fails, Wide as WideSum, NoMemory}
use Rattle.file_reports.specs.Reports.{Answer}

-- what of a problem there is too much of
abbrev pub size_word : What → List ℕ
size_word Forms = codes "forms"
size_word Atoms = codes "atoms"
size_word Clauses = codes "clauses"

unfoldable pub too_large : What → ℕ → Answer
too_large what limit = record { status = 3; text = codes "refused large " ++ (size_word what ++ (codes " " ++ (decimal limit ++ codes "\n"))) }

-- the rule as a report names it
abbrev pub rule_word : RunRule → List ℕ
rule_word Shape = codes "shape"
rule_word (P number) = codes "P" ++ decimal number
rule_word Opening = codes "opening"
rule_word Step = codes "step"
rule_word Send = codes "send"

unfoldable pub broken : RunRule → ℕ → ℕ → Answer
broken rule row flow = record {
  status = 1;
  text = codes "broken " ++ (rule_word rule ++ (codes " row " ++ (decimal row ++ (codes " flow " ++ (decimal flow ++ codes "\n")))));
}

unfoldable pub wide : Stuck → Answer
wide stuck = record { status = 2; text = codes "wide row " ++ (decimal stuck.at ++ codes "\n") }

-- what is answered to the path's verdict
unfoldable pub verdict : Admit → Answer
verdict Yes = record { status = 0; text = codes "admitted\n" }
verdict (Broken rule row flow) = broken (P rule) row flow
verdict (Wide stuck) = wide stuck

-- what is answered to the replay of a run
unfoldable pub replay_verdict : Replayed → Answer
replay_verdict Violating = record { status = 0; text = codes "violating\n" }
replay_verdict Keeps = record { status = 1; text = codes "keeps\n" }
replay_verdict (BrokenRun rule row flow) = broken rule row flow
replay_verdict (WideRun stuck) = wide stuck

-- the place at which a certificate fails, and the cause
unfoldable pub unproved : ℕ → ℕ → ℕ → Answer
unproved lemma node cause = record {
  status = 1;
  text = codes "fails lemma " ++ (decimal lemma ++ (codes " node " ++ (decimal node ++ (codes " cause K" ++ (decimal cause ++ codes "\n")))));
}

-- the place at which a sum of a certificate overflows 128 bits
unfoldable pub wide_sum : ℕ → ℕ → ℕ → Answer
wide_sum lemma node column = record {
  status = 2;
  text = codes "wide lemma " ++ (decimal lemma ++ (codes " node " ++ (decimal node ++ (codes " column " ++ (decimal column ++ codes "\n")))));
}

-- what is answered to the check of a certificate
unfoldable pub check_report : Verdict → Answer
check_report proved = record { status = 0; text = codes "proved\n" }
check_report (fails lemma node cause) = unproved (named lemma) (named node) cause
check_report (wide_at lemma node column) = wide_sum (named lemma) (named node) column

-- the answer says what a check came to, which had memory
abbrev pub SaysOfCheck : Checked → Answer → Type 0
SaysOfCheck Proved a = a ≡ record { status = 0; text = codes "proved\n" }
SaysOfCheck (Fails lemma node cause) a = a ≡ unproved lemma node cause
SaysOfCheck (WideSum lemma node column) a = a ≡ wide_sum lemma node column
SaysOfCheck NoMemory a = ⊥
