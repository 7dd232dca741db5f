use Rattle.std.proofs.Common.{◌≡◌, sym, ap, List, [], ℕ, Option, None, Some, refl, append-nil}
use Rattle.ccac_ports.specs.Ports.{Appends}
use Rattle.draw_trace.specs.Ended.{delivered, no_memory}
use Rattle.draw_trace.proofs.running.run.Goals as goal

nothing_put : (text : Option (List ℕ)) → Appends text text []
nothing_put None = refl
nothing_put (Some text) = ap Some (sym (append-nil text))

pub returns-in-Ok : goal.returns-in-Ok
returns-in-Ok g c = delivered _ c.in-Ok.ensures c.deliver.ensures

pub returns-in-Err : goal.returns-in-Err
returns-in-Err g c = no_memory (nothing_put (g.S.Sink.got c.args.out.now).text) refl
