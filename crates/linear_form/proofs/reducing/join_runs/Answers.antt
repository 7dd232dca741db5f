use Rattle.std.proofs.Common.{◌≤◌, ◌+◌, ◌*◌, ◌^◌, pos, unsigned_abs, List, take, slice_index_or, All, sym, ◌∙◌, ap, subst, arith}
use Rattle.linear_form.specs.declared.lists.Term.{Term}
use Rattle.linear_form.proofs.JoinedRuns.{Keeps, Follows, joined_bits, keeps_joined, keeps_closed, closed_is_reduced, closed_small}
use Rattle.linear_form.proofs.reducing.join_runs.Goals as goal
use Rattle.linear_form.proofs.reducing.join_runs.Goals.{then-term-run, else-term-run+in_ok-close_run}

pub loop-term-preserved : goal.loop-term-preserved
loop-term-preserved c =
    let sorted = c.args.sorted.now in
    let i = c.loop-term.term-index in
    let P : List Term → Term → Type 0 =
    λ items run. Keeps (take (i + 1) sorted) (i + 1) items run × Follows sorted (i + 1) run in
    let start = c.loop-term.invariant in
    let zero_term : Term = record { column = 0; coef = pos 0 } in
    let run_small : unsigned_abs c.loop-term.run.coef ≤ 128 * 10 ^ 13 =
    omega (arith, start.0.run_small, c.loop-term-test.true, c.requires.count) in
    elim c.if-term-run.branch [ then-term-run w ↦ let sum = joined_bits c.loop-term.run.coef _ run_small (c.requires.coefs i zero_term c.loop-term-test.true) in let is = w.run-is ∙ ap (λ z. record { column = c.loop-term.run.column; coef = z }) sum in subst (λ d. P d.items c.if-term-run.run) (sym w.done-is) (subst (P c.loop-term.done.items) (sym is) (keeps_joined sorted i zero_term c.loop-term.done.items c.loop-term.run c.loop-term-test.true c.requires.coefs w.if-term-run.true start.0 start.1)) | else-term-run+in_ok-close_run w ↦ let is = ap (λ d. d.items) w.done-is ∙ w.in_ok-close_run.ensures in subst (P c.if-term-run.done.items) (sym w.run-is) (subst (λ items. P items (slice_index_or sorted i zero_term)) (sym is) (keeps_closed sorted i zero_term c.loop-term.done.items c.loop-term.run c.requires.count c.loop-term-test.true c.requires.coefs c.requires.order w.if-term-run.false start.0 start.1)) ]

pub returns-clause-sum : goal.returns-clause-sum
returns-clause-sum c =
    c.in_ok-close_run-2.ensures ∙ closed_is_reduced c.args.sorted.now c.loop-term.term-index _ c.loop-term.run c.loop-term-test.false c.loop-term.invariant.0

pub returns-clause-coefs : goal.returns-clause-coefs
returns-clause-coefs c =
    subst (All (λ t. unsigned_abs t.coef ≤ 128 * 10 ^ 13)) (sym c.in_ok-close_run-2.ensures) (closed_small c.args.sorted.now c.loop-term.term-index _ c.loop-term.run c.requires.count c.loop-term.auto.term-index-end c.loop-term.invariant.0)
