-- The limits within which the product works.
use Rattle.std.specs.Prelude.{◌≤◌, pos, ◌≤ℤ◌, Option, Some, None}
use Rattle.whole.specs.declared.answers.Pair.{Pair}
use Rattle.path_server.specs.Servers.{Server, server_of}
use Rattle.path_server.specs.declared.settings.Path.{Path}
use Rattle.path_server.specs.declared.settings.Setting.{Setting}

-- a fraction as files write it, at least 0
pub record IsNumber (n : Pair) : Type 0 where
  pub num_from : pos 0 ≤ℤ n.num
  pub num_to : n.num ≤ℤ pos 1000000
  pub den_from : pos 1 ≤ℤ n.den
  pub den_to : n.den ≤ℤ pos 1000

abbrev pub IsBuffer : Option Pair → Type 0
IsBuffer None = Unit {0}
IsBuffer (Some b) = IsNumber b

pub record IsServer (p : Server) : Type 0 where
  pub rate : IsNumber p.rate
  pub rate_from : pos 1 ≤ℤ p.rate.num
  pub jitter_to : p.jitter ≤ 8
  pub buffer : IsBuffer p.buffer

abbrev pub IsPath : Path → Type 0
IsPath p = IsServer (server_of p)

pub record IsSetting (s : Setting) : Type 0 where
  pub flows_from : 1 ≤ s.flows
  pub flows_to : s.flows ≤ 4
  pub steps_from : 1 ≤ s.steps
  pub steps_to : s.steps ≤ 32
  pub rtt_from : 1 ≤ s.rtt
  pub rtt_to : s.rtt ≤ 8
  pub path : IsPath s.path
  pub budget_from : 1 ≤ s.budget
  pub budget_to : s.budget ≤ 16777216
