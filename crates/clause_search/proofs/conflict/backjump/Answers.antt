use Rattle.std.proofs.Common.{List, length, ◌∙◌, ap}
use Rattle.whole.specs.Budget.{counts}
use Rattle.farkas_cert.specs.declared.certificates.Lemma.{Lemma}
use Rattle.learned_clause.specs.Trails.{known_with}
use Rattle.clause_search.proofs.ConflictLaws.{cut_less, cut_stage}
use Rattle.clause_search.proofs.UpkeepLaws.{covering_cut}
use Rattle.clause_search.proofs.conflict.backjump.Goals as goal

pub returns-in-Ok-clause-steps : goal.returns-in-Ok-clause-steps
returns-in-Ok-clause-steps g c s jump work most = (
  cut_stage g.T.Theory.relations c.args.clauses.now s c.args.course.now c.cut.new.self (g.T.Theory.seen c.args.theory.now) (g.T.Theory.seen c.undo.new.self) (counts c.args.budget.now) (counts c.note_conflict.new.self) c.args.lemma c.args.keep c.how_many-number.result jump c.in-Ok.ensures c.undo.ensures.told c.undo.ensures.state c.undo.ensures.rows c.undo.ensures.rest c.undo.ensures.owes c.note_conflict.ensures,
  cut_less c.args.course.now c.cut.new.self (counts c.args.budget.now) (counts c.note_conflict.new.self) c.args.lemma c.args.keep c.how_many-number.result work jump.cuts.within c.in-Ok.ensures c.note_conflict.ensures most,
)

pub returns-in-Ok-clause-covering : goal.returns-in-Ok-clause-covering
returns-in-Ok-clause-covering g c s jump =
    covering_cut g.T.Theory.relations c.args.clauses.now s c.args.course.now c.cut.new.self (g.T.Theory.seen c.args.theory.now) (counts c.args.budget.now) c.args.lemma c.args.keep c.how_many-number.result jump c.in-Ok.ensures (c.how_many-number.ensures ∙ ap (λ (ls : List Lemma). length (known_with c.args.clauses.now.clauses ls)) c.as_slice.ensures) c.requires.kept
