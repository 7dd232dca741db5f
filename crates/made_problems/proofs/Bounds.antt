-- The numbers of a drawn question are within their limits.
use Rattle.std.proofs.Common.{ℕ, zero, suc, ◌+◌, ◌≤◌, Option, Some, None, arith}
use Rattle.ctrl_gen.specs.Draws.{draw, each}
use Rattle.ctrl_gen.specs.Problems.{Problem, buffer_by, drawn_buffer, drawn_state, drawn_rules, drawn_problem, problem_of}
use Rattle.made_problems.proofs.Numbered.{draw_below}

pub data IsBuffer : Option ℕ → Type 0 where
  unlimited : IsBuffer None
  limited : (n : ℕ) → n ≤ 4 → IsBuffer (Some n)

pub record IsBounded (p : Problem) : Type 0 where
  pub flows_from : 1 ≤ p.flows
  pub flows_to : p.flows ≤ 2
  pub jitter_to : p.jitter ≤ 2
  pub rtt_from : 1 ≤ p.rtt
  pub rtt_to : p.rtt ≤ 2
  pub buffer_is : IsBuffer p.buffer
  pub least_to : p.least ≤ 2

buffer_kind : (kind x : ℕ) → IsBuffer (buffer_by kind x).0
unfolding buffer_by
buffer_kind zero x = unlimited
buffer_kind (suc n) x = let below = draw_below 4 x (omega arith) in limited (1 + (draw 4 x).0) (omega arith)

buffer_bounded : (x : ℕ) → IsBuffer (drawn_buffer x).0
unfolding drawn_buffer
buffer_bounded x = buffer_kind (draw 2 x).0 (draw 2 x).1

pub problem_bounded : (seed : ℕ) → IsBounded (problem_of seed)
unfolding drawn_problem
problem_bounded seed =
    let flows = draw 2 seed in
    let jitter = draw 3 flows.1 in
    let rtt = draw 2 jitter.1 in
    let states = draw 3 rtt.1 in
    let lines = each drawn_state (1 + states.0) states.1 in
    let rules = drawn_rules (1 + states.0) lines.1 in
    let buffer = drawn_buffer rules.1 in
    let flows_is = draw_below 2 seed (omega arith) in
    let jitter_is = draw_below 3 flows.1 (omega arith) in
    let rtt_is = draw_below 2 jitter.1 (omega arith) in
    let least_is = draw_below 3 buffer.1 (omega arith) in
    record {
      flows_from = omega arith;
      flows_to = omega arith;
      jitter_to = omega arith;
      rtt_from = omega arith;
      rtt_to = omega arith;
      buffer_is = buffer_bounded rules.1;
      least_to = omega arith;
    }
