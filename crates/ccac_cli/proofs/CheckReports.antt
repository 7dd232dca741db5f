-- The report on the code's answer to a certificate is that on the verdict.
use Rattle.std.proofs.Common.{◌≡◌, ◌∙◌, ℕ, ap}
use Rattle.std.specs.Prelude.{codes}
use Rattle.cert_check.specs.Answers.{IsAnswer, answer_of, named}
use Rattle.cert_check.specs.Verdicts.{Verdict, fails, proved, wide}
use Rattle.cert_check.specs.declared.found.Checked.{Checked}
use Rattle.cert_check.specs.declared.found.Checked.TheVariants.{Fails, NoMemory, Proved, Wide}
use Rattle.file_reports.specs.Reports.{Answer}
use Rattle.ccac_cli.specs.Reports.{SaysOfCheck, check_report, unproved, wide_sum}

proved_reported : (v : Verdict) (a : Answer) → Proved ≡ answer_of v → a ≡ record { status = 0; text = codes "proved\n" } → a ≡ check_report v
unfolding answer_of check_report
proved_reported proved a is shows = shows
proved_reported (fails lemma node cause) a is shows = absurd (cc)
proved_reported (wide lemma node column) a is shows = absurd (cc)

failure_reported : (v : Verdict) (a : Answer) (l n k : ℕ) → Fails l n k ≡ answer_of v → a ≡ unproved l n k → a ≡ check_report v
unfolding answer_of check_report
failure_reported proved a l n k is shows = absurd (cc)
failure_reported (fails lemma node cause) a l n k is shows =
    let first : l ≡ named lemma = cc in
    let second : n ≡ named node = cc in
    let third : k ≡ cause = cc in
    shows ∙ ap (λ x. unproved x n k) first ∙ ap (λ x. unproved (named lemma) x k) second ∙ ap (unproved (named lemma) (named node)) third
failure_reported (wide lemma node column) a l n k is shows = absurd (cc)

overflow_reported : (v : Verdict) (a : Answer) (l n k : ℕ) → Wide l n k ≡ answer_of v → a ≡ wide_sum l n k → a ≡ check_report v
unfolding answer_of check_report
overflow_reported proved a l n k is shows = absurd (cc)
overflow_reported (fails lemma node cause) a l n k is shows = absurd (cc)
overflow_reported (wide lemma node column) a l n k is shows =
    let first : l ≡ named lemma = cc in
    let second : n ≡ named node = cc in
    let third : k ≡ column = cc in
    shows ∙ ap (λ x. wide_sum x n k) first ∙ ap (λ x. wide_sum (named lemma) x k) second ∙ ap (wide_sum (named lemma) (named node)) third

-- what is said of a check's answer is said of its verdict
pub check_reported : (v : Verdict) (checked : Checked) (a : Answer) → IsAnswer checked (answer_of v) → SaysOfCheck checked a → a ≡ check_report v
check_reported v Proved a is says = proved_reported v a is says
check_reported v (Fails l n k) a is says = failure_reported v a l n k is says
check_reported v (Wide l n k) a is says = overflow_reported v a l n k is says
check_reported v NoMemory a is says = absurd says
