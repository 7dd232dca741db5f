use Rattle.std.proofs.Common.{refl, ap, length}
use Rattle.whole.specs.Budget.{Counts, counts}
use Rattle.clause_search.specs.declared.course.Phase.TheVariants.{Checked}
use Rattle.clause_search.proofs.CourseLaws.{asks_checked, checked_rows, less_checked}
use Rattle.clause_search.proofs.UpkeepLaws.{covering_asked}
use Rattle.clause_search.proofs.asking.check.Goals as goal

pub returns-in-Fine-clause-asks : goal.returns-in-Fine-clause-asks
returns-in-Fine-clause-asks g c d s at =
    asks_checked g.T.Theory.relations d s c.args.course.now (record { trail = c.args.course.now.trail; lemmas = c.args.course.now.lemmas; journal = c.check-heard.new.journal; agenda = c.args.course.now.agenda; cursor = c.args.course.now.cursor; phase = Checked }) (g.T.Theory.seen c.args.theory.now) (g.T.Theory.seen c.check-heard.new.self) (counts c.args.budget.now) (counts c.check-heard.new.budget) c.check-heard.ensures.pivots c.check-heard.result g.T.Theory.pivots_mend c.requires.told at refl refl c.check-heard.ensures.moves (λ e. refl) c.check-heard.ensures.charged (c.check-heard.ensures.at_work c.requires.at_work)

pub returns-in_default : goal.returns-in_default
returns-in_default g c = record {
  asks = λ d s at. asks_checked g.T.Theory.relations d s c.args.course.now (record { trail = c.args.course.now.trail; lemmas = c.args.course.now.lemmas; journal = c.check-heard.new.journal; agenda = c.args.course.now.agenda; cursor = c.args.course.now.cursor; phase = c.args.course.now.phase }) (g.T.Theory.seen c.args.theory.now) (g.T.Theory.seen c.check-heard.new.self) (counts c.args.budget.now) (counts c.check-heard.new.budget) c.check-heard.ensures.pivots c.check-heard.result g.T.Theory.pivots_mend c.requires.told at refl refl c.check-heard.ensures.moves (λ e. absurd (c.in_default.not-Fine e)) c.check-heard.ensures.charged (c.check-heard.ensures.at_work c.requires.at_work);
  covering = λ d covering. covering_asked d (record { trail = c.args.course.now.trail; lemmas = c.args.course.now.lemmas; journal = c.check-heard.new.journal; agenda = c.args.course.now.agenda; cursor = c.args.course.now.cursor; phase = c.args.course.now.phase }) c.check-heard.result covering;
  less = less_checked c.args.course.now (record { trail = c.args.course.now.trail; lemmas = c.args.course.now.lemmas; journal = c.check-heard.new.journal; agenda = c.args.course.now.agenda; cursor = c.args.course.now.cursor; phase = c.args.course.now.phase }) (counts c.args.budget.now) (counts c.check-heard.new.budget) (length c.check-heard.ensures.pivots) c.check-heard.result c.requires.told refl (λ e. absurd (c.in_default.not-Fine e)) c.check-heard.ensures.charged;
  rows = checked_rows g.T.Theory.relations (g.T.Theory.seen c.args.theory.now) (g.T.Theory.seen c.check-heard.new.self) c.check-heard.ensures.pivots c.check-heard.result (counts c.check-heard.new.budget) (c.check-heard.ensures.at_work c.requires.at_work);
  limit = ap (λ (n : Counts). n.limit) c.check-heard.ensures.charged;
}
