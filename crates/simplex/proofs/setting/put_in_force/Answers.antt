use Rattle.simplex.proofs.SettingLaws.{IsPut-stays, IsPut-moves}
use Rattle.simplex.proofs.setting.put_in_force.Goals as goal

pub returns-in-Ok-clause-put : goal.returns-in-Ok-clause-put
returns-in-Ok-clause-put g c =
    IsPut-moves g.F.OrderedField.value c.args.assignment.now c.args.limits.now c.args.limit c.requires.built c.requires.agrees c.requires.stronger _ c.in_ok-put.ensures.put c.if-must_move.ensures _ c.in-Ok.ensures.moved

pub returns-else-must_move-clause-put : goal.returns-else-must_move-clause-put
returns-else-must_move-clause-put g c =
    IsPut-stays g.F.OrderedField.value c.args.assignment.now c.args.limits.now c.args.limit c.requires.built c.requires.agrees c.requires.stronger _ c.in_ok-put.ensures.put c.if-must_move.ensures
