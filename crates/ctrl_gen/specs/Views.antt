-- A drawn problem of the code as one of the logic.
use Rattle.ctrl_syntax.specs.Sections.{rules_of}
use Rattle.ctrl_gen.specs.Problems.{Problem}
use Rattle.ctrl_gen.specs.declared.making.Problem.{Problem as DrawnProblem}

abbrev pub seen : DrawnProblem → Problem
seen d = record {
  flows = d.flows;
  jitter = d.jitter;
  rtt = d.rtt;
  states = d.states;
  rules = rules_of d.rules;
  buffer = d.buffer;
  least = d.least;
}
