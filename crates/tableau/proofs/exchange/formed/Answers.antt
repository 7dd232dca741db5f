use Rattle.std.proofs.Common.{◌≡◌, [], get_or, inr, sym, ap, subst, ◌∙◌}
use Rattle.std.specs.List.{All}
use Rattle.field_rows.specs.Rows.{coefficient, AreQuotients, SomeQuotientIsWide}
use Rattle.tableau.specs.Layout.{IsFollowed, IsStuckRow, IsStuckForming}
use Rattle.tableau.proofs.OperationLaws.{if_stuck}
use Rattle.tableau.proofs.exchange.formed.Goals as goal

pub returns-in-Err-followed_rows-clause-stuck : goal.returns-in-Err-followed_rows-clause-stuck
returns-in-Err-followed_rows-clause-stuck g c =
    let value = g.F.OrderedField.value in
    let limit = g.F.OrderedField.LIMIT in
    let rows = c.args.rows.now in
    let b = c.args.basic in
    let o = c.args.other in
    let d = coefficient value c.as_slice.result.now in
    let quotients : AreQuotients b o (coefficient value (get_or rows b [])) d = subst (λ s. AreQuotients b o (coefficient value (get_or rows b [])) (coefficient value s)) (sym c.as_slice.ensures) (subst (λ r. AreQuotients b o (coefficient value r) (coefficient value c.in-Ok.solved)) c.list_at.ensures c.in-Ok.ensures.quotients) in
    if_stuck c.in-Err-followed_rows.fault (IsStuckRow limit value b o rows d) (IsStuckForming limit value b o rows) (λ s stuck. inr (d, quotients, stuck)) c.in-Err-followed_rows.ensures.stuck

pub returns-clause-formed : goal.returns-clause-formed
returns-clause-formed g c =
    let value = g.F.OrderedField.value in
    let limit = g.F.OrderedField.LIMIT in
    let rows = c.args.rows.now in
    let b = c.args.basic in
    let o = c.args.other in
    record {
      is_row = c.in-Ok.ensures.row;
      quotients = subst (λ r. AreQuotients b o (coefficient value r) (coefficient value c.in-Ok.solved)) c.list_at.ensures c.in-Ok.ensures.quotients;
      fits = subst (λ r. SomeQuotientIsWide limit b o (coefficient value r) → ⊥) c.list_at.ensures c.in-Ok.ensures.kept;
      each = subst (λ s. All (IsFollowed limit value b o rows (coefficient value s)) c.in-Ok-followed_rows.followed.items) c.as_slice.ensures c.in-Ok-followed_rows.ensures.each;
      all = c.in-Ok-followed_rows.ensures.all;
    }
