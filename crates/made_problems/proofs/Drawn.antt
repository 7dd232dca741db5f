-- What is drawn has the shape.
use Rattle.std.proofs.Common.{ℕ, zero, suc, ◌+◌, ◌<◌, List, [], ◌∷◌, ◌++◌, arith}
use Rattle.ctrl_syntax.specs.Sections.{Rule}
use Rattle.ctrl_gen.specs.Draws.{draw, each}
use Rattle.ctrl_gen.specs.Problems.{drawn_state, guard_by, drawn_guard, drawn_set, drawn_rule, drawn_rules, drawn_problem, otherwise, controller_of, problem_of}
use Rattle.made_problems.proofs.Numbered.{Numbered, none, next, each_numbered, draw_below}
use Rattle.made_problems.proofs.Shapes.{IsState, state, IsSet, assigned, IsGuard, lost, acked, waits, IsRule, rule, AreRules, otherwise as last, before, AreFew, one, two, three, AreSections, sections}

state_drawn : (j x : ℕ) → IsState j (drawn_state j x).0
unfolding drawn_state
state_drawn j x =
    let lo = draw 3 x in
    let spread = draw 3 lo.1 in
    let low = draw_below 3 x (omega arith) in
    let wide = draw_below 3 lo.1 (omega arith) in
    state (1 + lo.0) spread.0 0 (omega arith) (omega arith)

guard_kind : (kind x : ℕ) → kind < 3 → IsGuard (guard_by kind x).0
unfolding guard_by
guard_kind zero x below = lost
guard_kind (suc zero) x below = let c = draw_below 4 x (omega arith) in acked (draw 4 x).0 (omega arith)
guard_kind (suc (suc n)) x below = let k = draw_below 2 x (omega arith) in waits (1 + (draw 2 x).0) (omega arith)

guard_drawn : (x : ℕ) → IsGuard (drawn_guard x).0
unfolding drawn_guard
guard_drawn x = guard_kind (draw 3 x).0 (draw 3 x).1 (draw_below 3 x (omega arith))

set_drawn : (j x : ℕ) → IsSet j (drawn_set j x).0
unfolding drawn_set
set_drawn j x =
    let a = draw 3 x in
    let b = draw 4 a.1 in
    let c = draw 3 b.1 in
    let d = draw 4 c.1 in
    let a_is = draw_below 3 x (omega arith) in
    let b_is = draw_below 4 a.1 (omega arith) in
    let c_is = draw_below 3 b.1 (omega arith) in
    let d_is = draw_below 4 c.1 (omega arith) in
    assigned (1 + a.0) (1 + b.0) c.0 (1 + d.0) 0
    (record { a_to = omega arith; b_from = omega arith; b_to = omega arith; c_to = omega arith; d_from = omega arith; d_to = omega arith })

rule_drawn : (n x : ℕ) → IsRule n (drawn_rule n x).0
unfolding drawn_rule
rule_drawn n x = let guard = drawn_guard x in rule 0 (guard_drawn x) (each_numbered IsSet drawn_set set_drawn n guard.1)

with_otherwise : {n k count : ℕ} {rules : List Rule} → Numbered (λ _ r. IsRule n r) k count rules → AreRules n count (rules ++ otherwise ∷ [])
with_otherwise none = last 0
with_otherwise (next first rest) = before first (with_otherwise rest)

few : (n : ℕ) → n < 3 → AreFew (1 + n)
few zero below = one
few (suc zero) below = two
few (suc (suc zero)) below = three
few (suc (suc (suc n))) below = absurd (omega arith)

pub controller_drawn : (seed : ℕ) → AreSections (controller_of (problem_of seed))
unfolding drawn_problem drawn_rules
controller_drawn seed =
    let flows = draw 2 seed in
    let jitter = draw 3 flows.1 in
    let rtt = draw 2 jitter.1 in
    let states = draw 3 rtt.1 in
    let lines = each drawn_state (1 + states.0) states.1 in
    let count = draw 3 lines.1 in
    let count_is = draw_below 3 lines.1 (omega arith) in
    sections 0 (few states.0 (draw_below 3 rtt.1 (omega arith))) (each_numbered IsState drawn_state state_drawn (1 + states.0) states.1) (omega arith)
    (with_otherwise (each_numbered (λ _ r. IsRule (1 + states.0) r) (λ _. drawn_rule (1 + states.0)) (λ _ x. rule_drawn (1 + states.0) x) count.0 count.1))
