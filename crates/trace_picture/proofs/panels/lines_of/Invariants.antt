use Rattle.std.proofs.Common.{◌≡◌, map, take}
use Rattle.path_server.specs.Servers.{server_of}
use Rattle.trace_picture.specs.Panels.{line_of}
use Rattle.trace_picture.proofs.panels.lines_of.Given as goal

abbrev pub invariant-loop-quantity : goal.invariant-loop-quantity
invariant-loop-quantity l = l.lines ≡ map (line_of (server_of l.path) l.shape l.run l.fn.title l.scale) (take l.quantity-index l.quantities)
