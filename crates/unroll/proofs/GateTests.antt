-- The trees of guards and of conditions that join others.
use Rattle.std.proofs.Common.{◌≡◌, map, sym, ap, ◌∙◌}
use Rattle.std.specs.Global.{Vec}
use Rattle.condition_tree.specs.Trees.{conjunction, disjunction}
use Rattle.ctrl_types.specs.Tests.{Test, test_of, test_step}
use Rattle.ctrl_types.specs.declared.gates.Gate.{Gate}
use Rattle.ctrl_types.specs.declared.gates.Gate.TheOpen.{Gate-F}
use Rattle.ctrl_types.specs.declared.gates.Gate.TheFolds.{fold-roll-Gate}
use Rattle.ctrl_types.specs.declared.gates.Gate.TheVariants.{And, Or, rolls-And, rolls-Or}
use Rattle.question_text.specs.Conditions.{Condition, condition_of, condition_step}
use Rattle.question_text.specs.declared.conditions.QCond.{QCond}
use Rattle.question_text.specs.declared.conditions.QCond.TheOpen.{QCond-F}
use Rattle.question_text.specs.declared.conditions.QCond.TheFolds.{fold-roll-QCond}
use Rattle.question_text.specs.declared.conditions.QCond.TheVariants as asked

pub and_test : (parts : Vec Gate) → test_of (And parts) ≡ conjunction (map test_of parts.items)
and_test parts = ap test_of (sym (rolls-And parts)) ∙ fold-roll-Gate Test test_step (Gate-F.And parts)

pub or_test : (parts : Vec Gate) → test_of (Or parts) ≡ disjunction (map test_of parts.items)
or_test parts = ap test_of (sym (rolls-Or parts)) ∙ fold-roll-Gate Test test_step (Gate-F.Or parts)

pub and_condition : (parts : Vec QCond) → condition_of (asked.And parts) ≡ conjunction (map condition_of parts.items)
and_condition parts = ap condition_of (sym (asked.rolls-And parts)) ∙ fold-roll-QCond Condition condition_step (QCond-F.And parts)

pub or_condition : (parts : Vec QCond) → condition_of (asked.Or parts) ≡ disjunction (map condition_of parts.items)
or_condition parts = ap condition_of (sym (asked.rolls-Or parts)) ∙ fold-roll-QCond Condition condition_step (QCond-F.Or parts)
