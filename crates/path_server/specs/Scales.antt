-- The code's factors, and the sizes that they have.
use Rattle.std.specs.Prelude.{◌≡◌, ◌≤◌, Some, unsigned_abs}
use Rattle.whole.specs.declared.answers.Pair.{Pair}
use Rattle.path_server.specs.Claims.{Factors, common_scale, rate_scale}
use Rattle.path_server.specs.Servers.{server_of}
use Rattle.path_server.specs.declared.scales.PathScales.{PathScales}
use Rattle.path_server.specs.declared.scales.Scale.{Scale}
use Rattle.path_server.specs.declared.settings.Path.{Path}

abbrev pub factors : Scale → Factors
factors s = record { unit = s.unit; minus = s.minus; rate = s.rate; buffer = s.buffer }

pub record IsScale (s : Scale) : Type 0 where
  pub unit_to : unsigned_abs s.unit ≤ 1000000
  pub minus_to : unsigned_abs s.minus ≤ 1000000
  pub rate_to : unsigned_abs s.rate ≤ 1000
  pub buffer_to : unsigned_abs s.buffer ≤ 1000

-- the scales of the path's rules
pub record AreScales (p : Path) (s : PathScales) : Type 0 where
  pub rate_value : factors s.rate ≡ rate_scale (server_of p)
  pub rate_within : IsScale s.rate
  pub buffer_value : (b : Pair) → p.buffer ≡ Some b → factors s.buffer ≡ common_scale (server_of p) b
  pub buffer_within : IsScale s.buffer
