use Rattle.std.proofs.Common.{◌≡◌, drop}
use Rattle.std.specs.List.{list_any}
use Rattle.ctrl_types.specs.Names.{is_kind}
use Rattle.question_text.specs.declared.conditions.QTerm.{QTerm}
use Rattle.question_text.specs.StatementRules.{kind_of}
use Rattle.question_text.proofs.kinds.lin_has.Given as goal

abbrev pub invariant-loop-term : goal.invariant-loop-term
invariant-loop-term l =
    list_any (λ (t : QTerm). is_kind l.kind (kind_of l.states t.of)) (drop l.term-index l.term-items)
    ≡ list_any (λ (t : QTerm). is_kind l.kind (kind_of l.states t.of)) l.term-items
