-- What the rules read of a path: the numbers of one server. Where several servers stand on the way, each has these of
-- its own; what a further rule reads joins them here.
use Rattle.std.specs.Prelude.{ℕ, Option}
use Rattle.whole.specs.declared.answers.Pair.{Pair}
use Rattle.path_server.specs.declared.settings.Path.{Path}

pub record Server : Type 0 where
  pub rate : Pair
  pub jitter : ℕ
  pub buffer : Option Pair

abbrev pub server_of : Path → Server
server_of p = record { rate = p.rate; jitter = p.jitter; buffer = p.buffer }
