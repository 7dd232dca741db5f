use Rattle.std.proofs.Common.{◌≡◌}
use Rattle.path_server.specs.Servers.{server_of}
use Rattle.trace_picture.specs.Places.{points_of}
use Rattle.trace_picture.proofs.places.points_of.Given as goal

abbrev pub invariant-loop-index : goal.invariant-loop-index
invariant-loop-index l = l.points ≡ points_of (server_of l.path) l.run l.fn.quantity l.scale l.fn.rows.last l.fn.rows.first l.index
