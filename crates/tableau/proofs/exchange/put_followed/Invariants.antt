use Rattle.std.proofs.Common.{◌≡◌, ◌<◌, length}
use Rattle.std.specs.List.{All}
use Rattle.tableau.specs.Layout.{placed}
use Rattle.tableau.proofs.exchange.put_followed.Given as goal

abbrev pub invariant-loop-change : goal.invariant-loop-change
invariant-loop-change g l =
    record {
      rows_are : placed l.fn.rows.items l.fn.followed.items ≡ placed l.rows.items l.followed.items;
      count : length l.rows.items ≡ length l.fn.rows.items;
      inside : All (λ f. f.variable < length l.fn.rows.items) l.followed.items;
    }

abbrev pub decreases-loop-change : goal.decreases-loop-change
decreases-loop-change g l = length l.followed.items
