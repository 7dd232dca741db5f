-- The names of drawn states.
use Rattle.std.proofs.Common.{◌≡◌, ℕ, zero, suc, ◌≤◌, List, length, true, false, refl, arith}
use Rattle.std.specs.Fmt.{digits}
use Rattle.source_text.specs.Spelling.{is_word}
use Rattle.condition_syntax.specs.Words.{is_keyword}
use Rattle.ctrl_gen.specs.Problems.{state_name}

pub record IsName (w : List ℕ) : Type 0 where
  pub spelled : is_word w ≡ true
  pub short : length w ≤ 16
  pub free : is_keyword w ≡ false

pub name_is : (j : ℕ) → 1 ≤ j → j ≤ 3 → IsName (state_name j)
unfolding is_keyword digits
name_is zero from to = absurd (omega arith)
name_is (suc zero) from to = record { spelled = refl; short = omega arith; free = refl }
name_is (suc (suc zero)) from to = record { spelled = refl; short = omega arith; free = refl }
name_is (suc (suc (suc zero))) from to = record { spelled = refl; short = omega arith; free = refl }
name_is (suc (suc (suc (suc j)))) from to = absurd (omega arith)
