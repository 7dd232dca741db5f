use Rattle.whole.specs.Budget.{counts}
use Rattle.clause_search.specs.Opened.{charge_of}
use Rattle.clause_search.proofs.CourseLaws.{asks_told, charged_at, refused_at}
use Rattle.clause_search.proofs.UpkeepLaws.{covering_asked, covering_told}
use Rattle.clause_search.proofs.asking.assume.Goals as goal

pub returns-then-not-charge-clause-asks : goal.returns-then-not-charge-clause-asks
returns-then-not-charge-clause-asks g c d s legal =
    refused_at g.T.Theory.relations d s c.args.course.now.trail c.args.course.now.lemmas c.args.course.now.journal.moves (g.T.Theory.seen c.args.theory.now) (counts c.args.budget.now) (counts c.charge.new.self) c.args.lit c.args.by c.charge_for.result c.charge.result c.charge.ensures.answer c.charge.ensures.counted c.if-not-charge.true c.args.budget.now.within legal

pub returns-in-Ok-clause-asks : goal.returns-in-Ok-clause-asks
returns-in-Ok-clause-asks g c d s legal =
    let paid = charged_at (counts c.args.budget.now) (counts c.charge.new.self) c.charge_for.result (charge_of c.args.by) c.charge.result c.charge.ensures.answer c.charge.ensures.counted c.if-not-charge.false c.charge_for.ensures in
    asks_told g.T.Theory.relations d s c.args.course.now c.put.new.self (g.T.Theory.seen c.args.theory.now) (g.T.Theory.seen c.tell.new.self) (counts c.args.budget.now) (counts c.charge.new.self) c.args.lit c.args.by c.tell.result legal c.in-Ok.ensures paid.0 paid.1 (c.tell.ensures.at_work legal.underway.at_work)

pub returns-in-Ok-clause-covering : goal.returns-in-Ok-clause-covering
returns-in-Ok-clause-covering g c d covering =
    covering_asked d c.put.new.self c.tell.result (covering_told d c.args.course.now c.put.new.self c.args.lit c.args.by c.requires.in_range c.in-Ok.ensures covering)
