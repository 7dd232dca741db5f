use Rattle.clause_form.specs.Journals.{literals}
use Rattle.learned_clause.specs.Trails.{known_with}
use Rattle.clause_search.proofs.LiteralLaws.{settled_at}
use Rattle.clause_search.proofs.cursor.Cursor.wish.Goals as goal

pub unreachable-requires : goal.unreachable-requires
unreachable-requires c =
    let at = c.in-Unit.ensures in
    let opens = settled_at (known_with c.args.clauses.now.clauses c.args.lemmas.now) (literals c.args.trail.now.entries) c.loop-self.self.next at.clause c.requires.settled at.is in
    opens.not_unit c.in-Unit.field-0 at.stands.0 at.stands.1 at.stands.2

pub unreachable-requires-in-False : goal.unreachable-requires-in-False
unreachable-requires-in-False c =
    let at = c.in-False.ensures in
    let opens = settled_at (known_with c.args.clauses.now.clauses c.args.lemmas.now) (literals c.args.trail.now.entries) c.loop-self.self.next at.clause c.requires.settled at.is in
    opens.not_false at.stands
