use Rattle.std.proofs.Common.{◌≡◌, drop, map}
use Rattle.text_lines.proofs.StepLaws.{with_front}
use Rattle.ctrl_syntax.specs.Sections.{rules_of}
use Rattle.ctrl_types.specs.Denominators.{IsScale}
use Rattle.ctrl_types.specs.Resolving.{rules_by, rule_seen}
use Rattle.ctrl_types.proofs.resolving.rules.Given as goal

abbrev pub invariant-loop-number : goal.invariant-loop-number
invariant-loop-number l = record {
  told : with_front (map rule_seen l.rules) (rules_by l.scope.states.now (rules_of (drop l.number l.lines)) l.totals) ≡ rules_by l.scope.states.now (rules_of l.lines) l.initial.totals;
  within : IsScale l.totals.den;
}
