-- What is spelled is within the limits of settings.
use Rattle.std.proofs.Common.{ℕ, pos, ◌≤ℤ◌, ◌≤◌, Option, List, sym, subst, arith}
use Rattle.std.specs.Prelude.{unwrap_or}
use Rattle.std.proofs.lemmas.Int.{ints}
use Rattle.whole.specs.declared.answers.Pair.{Pair}
use Rattle.source_text.specs.Tokens.{Token}
use Rattle.source_text.specs.Shown.{Ahead}
use Rattle.weighing.specs.declared.scales.Num.{Num}
use Rattle.condition_syntax.specs.Words.{fraction}
use Rattle.condition_syntax.specs.Grammar.{IsNumber}
use Rattle.path_server.specs.declared.settings.Setting.{Setting}
use Rattle.path_server.specs.Limits.{IsNumber as IsFraction, IsBuffer, IsSetting}
use Rattle.question_syntax.specs.Sections.{Sections}
use Rattle.question_syntax.specs.Grammar.{SpellsCount, count, pair_of, SpellsRate, rate, SpellsBuffer, no_buffer, buffer, SpellsSetting, IsText}

record InRange (low high n : ℕ) : Type 0 where
  from : low ≤ n
  to : n ≤ high

in_range : {low high n : ℕ} {front : List Token} → SpellsCount low high front n → InRange low high n
in_range (count from to) = record { from = from; to = to }

fraction_within : (n d : ℕ) → n ≤ 1000000 → 1 ≤ d → d ≤ 1000 → IsFraction (pair_of (fraction n d))
fraction_within n d num from to = record { num_from = omega (arith, ints); num_to = omega (arith, ints); den_from = omega (arith, ints); den_to = omega (arith, ints) }

number_within : (n : ℕ) (d : Option ℕ) (q : Num) → IsNumber n d q → IsFraction (pair_of q)
number_within n d q is = subst (λ (x : Num). IsFraction (pair_of x)) (sym is.value) (fraction_within n (unwrap_or d 1) is.num_to is.den_from is.den_to)

record IsRate (p : Pair) : Type 0 where
  is : IsFraction p
  above : pos 1 ≤ℤ p.num

above_zero : (n : ℕ) (d : Option ℕ) (q : Num) → IsNumber n d q → 1 ≤ n → pos 1 ≤ℤ q.num
above_zero n d q is from = subst (λ (x : Num). pos 1 ≤ℤ x.num) (sym is.value) (omega (arith, ints))

rate_within : {front : List Token} {p : Pair} → SpellsRate front p → IsRate p
rate_within (rate {n} {d} {q} is from) = record { is = number_within n d q is; above = above_zero n d q is from }

buffer_within : {front : List Token} {p : Option Pair} → SpellsBuffer front p → IsBuffer p
buffer_within no_buffer = tt
buffer_within (buffer {n} {d} {q} is) = number_within n d q is

setting_within : (lines : List Ahead) (s : Setting) (r b : ℕ) → SpellsSetting lines s r b → IsSetting s
setting_within lines s r b is =
    let flows = in_range is.flows_is.spelled in
    let steps = in_range is.steps_is.spelled in
    let rate = rate_within is.rate_is.spelled in
    let jitter = in_range is.jitter_is.spelled in
    let rtt = in_range is.rtt_is.spelled in
    let budget = in_range is.budget_is.spelled in
    record {
      flows_from = flows.from;
      flows_to = flows.to;
      steps_from = steps.from;
      steps_to = steps.to;
      rtt_from = rtt.from;
      rtt_to = rtt.to;
      path = record { rate = rate.is; rate_from = rate.above; jitter_to = jitter.to; buffer = buffer_within is.buffer_is.spelled };
      budget_from = budget.from;
      budget_to = budget.to;
    }

pub text_within : (bytes : List ℕ) (s : Sections) → IsText bytes s → IsSetting s.setting
text_within bytes s is = setting_within is.spelled.setting_lines s.setting s.rate_line s.buffer_line is.spelled.setting_is
