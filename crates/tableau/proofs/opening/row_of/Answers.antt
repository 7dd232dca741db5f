use Rattle.std.proofs.Common.{◌≡◌, ℕ, ◌≤◌, [], unsigned_abs, take, sym, ap, subst, ◌∙◌, arith}
use Rattle.std.specs.List.{All}
use Rattle.std.proofs.lemmas.List.{take_all, get_or_default}
use Rattle.std.proofs.lemmas.List.Elements.{All-more}
use Rattle.ordered_field.specs.Rational.{whole}
use Rattle.field_rows.specs.Rows.{coefficient, IsRow}
use Rattle.field_rows.proofs.RowLaws.{coefficient-none}
use Rattle.tableau.specs.Terms.{coefficient_of}
use Rattle.tableau.proofs.TermLaws.{coefficient_of-none}
use Rattle.tableau.proofs.OpeningLaws.{more_entries, stuck_term}
use Rattle.tableau.proofs.LayoutLaws.{IsRow-none}
use Rattle.tableau.proofs.opening.row_of.Goals as goal

pub loop-term-init : goal.loop-term-init
loop-term-init g c =
    let value = g.F.OrderedField.value in
    record {
      is_row = subst (IsRow value) (sym c.new-row.ensures.items) (IsRow-none value);
      entries = λ v. ap (λ r. coefficient value r v) c.new-row.ensures.items ∙ coefficient-none value v ∙ ap whole (sym (coefficient_of-none v));
      fits = λ k d inside. absurd (omega arith);
    }

pub returns-in-Err-clause-stuck : goal.returns-in-Err-clause-stuck
returns-in-Err-clause-stuck g c =
    stuck_term g.F.OrderedField.LIMIT c.args.variable c.args.terms.now c.loop-term.term-index _ c.in-Err.fault c.loop-term-test.true (get_or_default c.args.terms.now c.loop-term.term-index _ _ c.loop-term-test.true) c.in-Err.ensures.stuck

pub loop-term-preserved : goal.loop-term-preserved
loop-term-preserved g c =
    let value = g.F.OrderedField.value in
    record {
      is_row = c.in-Ok.ensures.row;
      entries = more_entries value c.requires.0 c.args.terms.now c.loop-term.term-index _ c.loop-term.row.items c.in-Ok.more.items c.requires.1 c.loop-term-test.true (get_or_default c.args.terms.now c.loop-term.term-index _ _ c.loop-term-test.true)
          c.loop-term.invariant.entries c.in-Ok.ensures.entries;
      fits = All-more (λ t. unsigned_abs t.coef ≤ g.F.OrderedField.LIMIT) c.args.terms.now c.loop-term.term-index _ c.loop-term-test.true c.loop-term.invariant.fits c.in-Ok.ensures.kept;
    }

pub returns-clause-row : goal.returns-clause-row
returns-clause-row g c =
    let value = g.F.OrderedField.value in
    record {
      is_row = subst (IsRow value) (sym c.from_vec.ensures) c.loop-term.invariant.is_row;
      entries = λ v. ap (λ r. coefficient value r v) c.from_vec.ensures ∙ c.loop-term.invariant.entries v
          ∙ ap (λ l. whole (coefficient_of l v)) (take_all c.loop-term.term-index c.args.terms.now c.loop-term-test.false);
    }

pub returns-clause-kept : goal.returns-clause-kept
returns-clause-kept g c =
    subst (λ l. All (λ t. unsigned_abs t.coef ≤ g.F.OrderedField.LIMIT) l) (take_all c.loop-term.term-index c.args.terms.now c.loop-term-test.false) c.loop-term.invariant.fits
