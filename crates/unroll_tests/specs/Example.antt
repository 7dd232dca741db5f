-- A small setting, by which the formulas of a path are tried.
use Rattle.std.specs.Prelude.{pos, Option}
use Rattle.whole.specs.declared.answers.Pair.{Pair}
use Rattle.path_server.specs.declared.settings.Setting.{Setting}

abbrev pub setting : Option Pair → Setting
setting buffer = record {
  flows = 1;
  steps = 1;
  rtt = 1;
  path = record { rate = record { num = pos 3; den = pos 2 }; jitter = 1; buffer = buffer };
  budget = 1;
}
