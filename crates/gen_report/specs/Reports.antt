-- The report on a generated problem.
use Rattle.std.specs.Prelude.{ℕ, List, [], ◌++◌, codes, decimal, nat_le, ◌==◌, if◌then◌else◌}
use Rattle.gen_report.specs.Words.{Seeded}

-- a report: its status, and its text
pub record Reported : Type 0 where
  pub status : ℕ
  pub text : List ℕ

-- the first word of the verdict that has this status
abbrev pub verdict_word : ℕ → List ℕ
verdict_word status = if status == 0 then codes "verified" else if status == 1 then codes "violated" else codes "unknown"

-- the words, how many bytes the two texts have, and the first word of their verdict
unfoldable pub head_lines : Seeded → ℕ → ℕ → ℕ → List ℕ
head_lines s controller question status =
    codes "gen " ++ (decimal s.seed ++ (codes " " ++ (decimal s.size ++ (codes "\ncontroller " ++ (decimal controller
    ++ (codes "\nquestion " ++ (decimal question ++ (codes "\nverdict " ++ (verdict_word status ++ codes "\n")))))))))

-- the report where `check` gives this status and this text: four lines, and behind them the report of an Unknown; a refusal stays
-- as it is
abbrev pub report_of : Seeded → ℕ → ℕ → ℕ → List ℕ → Reported
report_of s controller question status text =
    if nat_le status 2 then record { status = 0; text = head_lines s controller question status ++ (if status == 2 then text else []) }
    else record { status = status; text = text }
