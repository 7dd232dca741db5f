use Rattle.std.proofs.Common.{◌≡◌, ◌++◌, drop}
use Rattle.std.specs.Prelude.{flat_map}
use Rattle.ctrl_syntax.specs.Sections.{rules_of}
use Rattle.ctrl_syntax.specs.Printed.{rule_text}
use Rattle.ctrl_syntax.proofs.printing.put_rules.Given as goal

abbrev pub invariant-loop-rule : goal.invariant-loop-rule
invariant-loop-rule l = l.out.items ++ flat_map rule_text (rules_of (drop l.rule-index l.rules)) ≡ l.fn.out.items ++ flat_map rule_text (rules_of l.rules)
