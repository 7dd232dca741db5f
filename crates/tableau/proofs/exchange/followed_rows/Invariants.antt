use Rattle.std.proofs.Common.{take}
use Rattle.std.specs.List.{All}
use Rattle.field_rows.specs.Rows.{coefficient}
use Rattle.tableau.specs.Layout.{IsFollowed, IsVisited}
use Rattle.tableau.proofs.exchange.followed_rows.Given as goal

abbrev pub invariant-loop-user : goal.invariant-loop-user
invariant-loop-user g l =
    let value = g.F.OrderedField.value in
    record {
      each : All (IsFollowed g.F.OrderedField.LIMIT value l.fn.basic l.fn.other l.rows (coefficient value l.solved)) l.followed.items;
      all : All (IsVisited value l.fn.basic l.fn.other l.rows l.followed.items) (take l.user-index l.users);
    }
