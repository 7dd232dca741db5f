use Rattle.std.proofs.Common.{◌≡◌, ◌++◌, drop, map}
use Rattle.std.specs.Prelude.{codes}
use Rattle.condition_syntax.specs.Trees.{condition_of, conjunction, disjunction}
use Rattle.condition_syntax.specs.CanonicalText.{condition_text}
use Rattle.condition_syntax.proofs.TextLaws.{and_part, or_part, listed}
use Rattle.condition_syntax.proofs.printing.+texts.Given as goal

-- the text so far and that of the parts to come
abbrev pub invariant-put_all-loop-part : goal.invariant-put_all-loop-part
invariant-put_all-loop-part l =
    l.out.items ++ listed l.joint (codes " and ") and_part (map condition_of (drop l.part-index l.part-items))
    ≡ l.fn.out.items ++ condition_text (conjunction (map condition_of l.part-items))

abbrev pub invariant-put_any-loop-part : goal.invariant-put_any-loop-part
invariant-put_any-loop-part l =
    l.out.items ++ listed l.joint (codes " or ") or_part (map condition_of (drop l.part-index l.part-items))
    ≡ l.fn.out.items ++ condition_text (disjunction (map condition_of l.part-items))
