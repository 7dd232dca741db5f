use Rattle.std.proofs.Common.{rules, ◌≡◌, ◌<◌, ◌≤◌, length, ℕ, ◌+◌, Bool, true, false, cond, nat_lt, List, get_or, sym, ◌∙◌, ap, subst, arith}
use Rattle.std.proofs.lemmas.Bool.Decides.{nat_tests}
use Rattle.std.proofs.lemmas.List.{get_or_default}
use borrow.Author.Count.{below_more}
use Rattle.std.specs.Prelude.{if◌then◌else◌}
use Rattle.run_rows.specs.Runs.{RowFits, no_row, state_count}
use Rattle.run_rows.specs.declared.rows.Row.{Row}
use Rattle.run_rows.specs.declared.shapes.Shape.{Shape}
use Rattle.run_rows.proofs.rows.Run.fits.Goals.{then-i-shape, else-i-shape}
use Rattle.run_rows.proofs.rows.Run.fits.Goals as goal

none_before : (shape : Shape) (i : ℕ) → i < shape.h → state_count shape i ≡ 0
none_before shape i less = let is : nat_lt i shape.h ≡ true = grind (arith, nat_tests, less) in ap (λ b. if b then 0 else shape.states) is

some_later : (shape : Shape) (i : ℕ) → shape.h ≤ i → state_count shape i ≡ shape.states
some_later shape i most = let is : nat_lt i shape.h ≡ false = grind (arith, nat_tests, most) in ap (λ b. if b then 0 else shape.states) is

-- one row more
one_more : (shape : Shape) (rows : List Row) (i states : ℕ) (row : Row) → i < length rows → row ≡ get_or rows i row
    → states ≡ state_count shape i → RowFits shape.flows states row
    → ((k : ℕ) → k < i → RowFits shape.flows (state_count shape k) (get_or rows k no_row))
    → (k : ℕ) → k < i + 1 → RowFits shape.flows (state_count shape k) (get_or rows k no_row)
one_more shape rows i states row inside read counted fits before =
    below_more (λ k. RowFits shape.flows (state_count shape k) (get_or rows k no_row)) i before
    (subst (λ n. RowFits shape.flows n (get_or rows i no_row)) counted
    (subst (RowFits shape.flows states) (read ∙ get_or_default rows i row no_row inside) fits))

pub loop-i-preserved : goal.loop-i-preserved
loop-i-preserved c =
    let go : c.if-i-shape.states ≡ state_count c.args.shape.now c.loop-i.i
    → (k : ℕ) → k < c.loop-i.i + 1 → RowFits c.args.shape.now.flows (state_count c.args.shape.now k) (get_or c.as_slice-row-items.result.now k no_row) = λ counted.
    one_more c.args.shape.now c.as_slice-row-items.result.now c.loop-i.i c.if-i-shape.states c.row-item.result c.loop-i-test.true c.row-item.is
    counted (c.fits.ensures.0 c.if-not-fits.false) c.loop-i.invariant in
    elim c.if-i-shape.branch [
      | then-i-shape w ↦ go (w.states-is ∙ sym (none_before c.args.shape.now c.loop-i.i w.if-i-shape.true))
      | else-i-shape w ↦ go (w.states-is ∙ sym (some_later c.args.shape.now c.loop-i.i w.if-i-shape.false))
    ]
