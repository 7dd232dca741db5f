use Rattle.std.proofs.Common.{◌≡◌, ◌++◌, drop}
use Rattle.std.specs.Prelude.{flat_map}
use Rattle.condition_syntax.specs.CanonicalText.{later_text}
use Rattle.condition_syntax.proofs.sum_texts.put_others.Given as goal

abbrev pub invariant-loop-term : goal.invariant-loop-term
invariant-loop-term l = l.out.items ++ flat_map later_text (drop l.term-index l.terms) ≡ l.fn.out.items ++ flat_map later_text l.terms
