-- The sections that are drawn, on whatever lines they stand.
use Rattle.std.proofs.Common.{ℕ, zero, suc, ◌≤◌, List, [], ◌∷◌, Some, None}
use Rattle.std.specs.Prelude.{codes}
use Rattle.condition_syntax.specs.Trees.{Condition, delay}
use Rattle.ctrl_syntax.specs.declared.syntax.StateLine.{StateLine}
use Rattle.ctrl_syntax.specs.declared.syntax.SetLine.{SetLine}
use Rattle.ctrl_syntax.specs.Sections.{Rule, Sections, state_at, set_at}
use Rattle.ctrl_gen.specs.Problems.{over, alone, name_term, sum_of, state_name, state_of, signal_above, set_of}
use Rattle.made_problems.proofs.Numbered.{Numbered}

pub data IsState (j : ℕ) : StateLine → Type 0 where
  state : (lo spread line : ℕ) → lo ≤ 3 → spread ≤ 2 → IsState j (state_at line (state_of j lo spread))

-- a times the state plus c, with the denominators b and d
pub record IsSum (a b c d : ℕ) : Type 0 where
  pub a_to : a ≤ 3
  pub b_from : 1 ≤ b
  pub b_to : b ≤ 4
  pub c_to : c ≤ 2
  pub d_from : 1 ≤ d
  pub d_to : d ≤ 4

pub data IsSet (j : ℕ) : SetLine → Type 0 where
  assigned : (a b c d line : ℕ) → IsSum a b c d → IsSet j (set_at line (set_of j (over a b) (over c d)))

pub data IsGuard : Condition → Type 0 where
  lost : IsGuard (signal_above (codes "lost") 0)
  acked : (c : ℕ) → c ≤ 3 → IsGuard (signal_above (codes "acked") c)
  waits : (k : ℕ) → k ≤ 2 → IsGuard (delay (over k 1))

pub data IsRule (n : ℕ) : Rule → Type 0 where
  rule : {guard : Condition} {sets : List SetLine} (line : ℕ) → IsGuard guard → Numbered IsSet 1 n sets → IsRule n (record { guard = Some guard; sets = sets; line = line })

-- so many rules over n states, and `otherwise` behind them
pub data AreRules (n : ℕ) : ℕ → List Rule → Type 0 where
  otherwise : (line : ℕ) → AreRules n zero (record { guard = None; sets = []; line = line } ∷ [])
  before : {count : ℕ} {r : Rule} {rules : List Rule} → IsRule n r → AreRules n count rules → AreRules n (suc count) (r ∷ rules)

-- so many states, from 1 to 3
pub data AreFew : ℕ → Type 0 where
  one : AreFew (suc zero)
  two : AreFew (suc (suc zero))
  three : AreFew (suc (suc (suc zero)))

pub data AreSections : Sections → Type 0 where
  sections : {n count : ℕ} {states : List StateLine} {rules : List Rule} (line : ℕ) → AreFew n → Numbered IsState 1 n states → count ≤ 2 → AreRules n count rules
      → AreSections (record { states = states; rules = rules; window = sum_of (name_term (over 1 1) (alone (state_name 1)) ∷ []); window_line = line; rate = None })
