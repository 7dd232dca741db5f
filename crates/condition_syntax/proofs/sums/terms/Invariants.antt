use Rattle.std.proofs.Common.{◌≡◌, ◌-◌}
use Rattle.text_lines.proofs.StepLaws.{with_front}
use Rattle.condition_syntax.specs.Expressions.{terms_by}
use Rattle.condition_syntax.proofs.sums.terms.Given as goal

abbrev pub invariant-loop-i : goal.invariant-loop-i
invariant-loop-i l = record {
  told : with_front l.terms (terms_by l.style (16 - l._i) l.negative l.cursor.tokens) ≡ terms_by l.style 16 l.initial.negative l.initial.cursor.tokens;
  line : l.cursor.line ≡ l.initial.cursor.line;
}
