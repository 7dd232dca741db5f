use Rattle.std.proofs.Common.{◌≡◌, All, None, length, map, refl, sym, ap, subst, ◌∙◌, arith}
use Rattle.whole.specs.Budget.{counts}
use Rattle.clause_form.specs.declared.theory.Heard.TheVariants as heard
use Rattle.simplex.specs.Shares.{AreShares}
use Rattle.lra_theory.specs.Clashes.{IsTold}
use Rattle.lra_theory.specs.Standings.{lits_of, state_of}
use Rattle.lra_theory.proofs.CheckLaws.{answered, checked-sound, clash-answers, conflict-farkas, conflict-of_clash, fine-answers, spent-answers, spent-same, stuck-answers, written-all}
use Rattle.lra_theory.proofs.FarkasLaws.{shares_count, shares_told}
use Rattle.lra_theory.proofs.checking.checked.Goals as goal

pub returns-then-write-pivots-clause-sound : goal.returns-then-write-pivots-clause-sound
returns-then-write-pivots-clause-sound g c =
    checked-sound g.F.OrderedField.LIMIT g.F.OrderedField.value c.args.rows.now c.args.trail.now.told.items c.args.simplex.now c.check-outcome.new.self _ _ c.check-outcome.result c.requires.sound c.requires.works c.check-outcome.ensures.answers c.check-outcome.ensures.same

pub answer-requires-clause-told : goal.answer-requires-clause-told
answer-requires-clause-told g c =
    let most = g.F.OrderedField.LIMIT in
    let value = g.F.OrderedField.value in
    let rows = c.args.rows.now in
    let ts = c.args.trail.now.told.items in
    let t = c.check-outcome.new.self in
    let sound = checked-sound most value rows ts c.args.simplex.now t _ _ c.check-outcome.result c.requires.sound c.requires.works c.check-outcome.ensures.answers c.check-outcome.ensures.same in
    let both = c.in-Conflict.ensures.answers.at_work c.requires.works in
    let farkas = conflict-farkas most value rows ts t sound both.0.rest c.check-outcome.ensures.sound c.in-Conflict.shares.items both.1 in
    subst (λ r. All (IsTold rows (lits_of ts r)) c.as_slice.result.now) (sym c.requires.agrees) (subst (λ ss. All (IsTold rows (lits_of ts None)) ss) (sym c.as_slice.ensures.value) (shares_told value rows (map (λ t. t.lit) ts) both.1.1.1.2.weights c.in-Conflict.shares.items both.1.1.1.2.shares farkas.of_told))

pub answer-requires-clause-few : goal.answer-requires-clause-few
answer-requires-clause-few g c =
    let most = g.F.OrderedField.LIMIT in
    let value = g.F.OrderedField.value in
    let rows = c.args.rows.now in
    let ts = c.args.trail.now.told.items in
    let t = c.check-outcome.new.self in
    let sound = checked-sound most value rows ts c.args.simplex.now t _ _ c.check-outcome.result c.requires.sound c.requires.works c.check-outcome.ensures.answers c.check-outcome.ensures.same in
    let both = c.in-Conflict.ensures.answers.at_work c.requires.works in
    let farkas = conflict-farkas most value rows ts t sound both.0.rest c.check-outcome.ensures.sound c.in-Conflict.shares.items both.1 in
    let count = shares_count value both.1.1.1.2.weights c.in-Conflict.shares.items both.1.1.1.2.shares in
    let same = ap length c.as_slice.ensures.value in
    let few = farkas.few in omega (arith, count, same, few)

pub returns-in-Fine-clause-answers : goal.returns-in-Fine-clause-answers
returns-in-Fine-clause-answers g c = λ fine owes.
    let most = g.F.OrderedField.LIMIT in
    let value = g.F.OrderedField.value in
    let rows = c.args.rows.now in
    let ts = c.args.trail.now.told.items in
    let s = c.args.simplex.now in
    let t = c.check-outcome.new.self in
    let sound = checked-sound most value rows ts s t _ _ c.check-outcome.result c.requires.sound c.requires.works c.check-outcome.ensures.answers c.check-outcome.ensures.same in
    let both = c.in-Fine.ensures.answers.at_work c.requires.works in
    let charged = written-all t.pivots c.as_slice-pivots.result.now c.write.result c.args.budget.now c.write.new.budget c.args.journal.now c.write.new.journal (c.as_slice-pivots.ensures.value ∙ c.pivots.ensures) c.write.ensures.count c.if-write-pivots.false c.write.ensures.charged c.write.ensures.moves in
    answered most value rows ts s t c.args.budget.now c.write.new.budget c.args.journal.now c.write.new.journal t.pivots heard.Fine fine owes charged
    (fine-answers most value rows ts s t c.args.budget.now c.write.new.budget c.args.journal.now c.write.new.journal sound c.check-outcome.ensures.sound both.0 both.1 fine owes)

pub returns-in-Fine-clause-sound : goal.returns-in-Fine-clause-sound
returns-in-Fine-clause-sound g c =
    checked-sound g.F.OrderedField.LIMIT g.F.OrderedField.value c.args.rows.now c.args.trail.now.told.items c.args.simplex.now c.check-outcome.new.self _ _ c.check-outcome.result c.requires.sound c.requires.works c.check-outcome.ensures.answers c.check-outcome.ensures.same

pub returns-in-Conflict-clause-answers : goal.returns-in-Conflict-clause-answers
returns-in-Conflict-clause-answers g c = λ fine owes.
    let most = g.F.OrderedField.LIMIT in
    let value = g.F.OrderedField.value in
    let rows = c.args.rows.now in
    let ts = c.args.trail.now.told.items in
    let s = c.args.simplex.now in
    let t = c.check-outcome.new.self in
    let sound = checked-sound most value rows ts s t _ _ c.check-outcome.result c.requires.sound c.requires.works c.check-outcome.ensures.answers c.check-outcome.ensures.same in
    let both = c.in-Conflict.ensures.answers.at_work c.requires.works in
    let farkas = conflict-farkas most value rows ts t sound both.0.rest c.check-outcome.ensures.sound c.in-Conflict.shares.items both.1 in
    let of_clash = conflict-of_clash most value rows ts t sound both.0.rest c.check-outcome.ensures.sound c.in-Conflict.shares.items both.1 in
    let charged = written-all t.pivots c.as_slice-pivots.result.now c.write.result c.args.budget.now c.write.new.budget c.args.journal.now c.write.new.journal (c.as_slice-pivots.ensures.value ∙ c.pivots.ensures) c.write.ensures.count c.if-write-pivots.false c.write.ensures.charged c.write.ensures.moves in
    let says = c.answer.ensures (state_of value rows (map (λ t. t.lit) ts) t) both.1.1.1.2.weights refl (sym (ap (λ r. lits_of ts r) c.requires.agrees)) (subst (λ ss. AreShares value both.1.1.1.2.weights ss) (sym c.as_slice.ensures.value) both.1.1.1.2.shares) of_clash farkas in
    answered most value rows ts s t c.args.budget.now c.write.new.budget c.args.journal.now c.write.new.journal t.pivots c.answer.result fine owes charged
    (clash-answers most value rows ts s t c.args.budget.now c.write.new.budget c.args.journal.now c.write.new.journal c.answer.result both.0 says fine owes)

pub returns-in-Conflict-clause-sound : goal.returns-in-Conflict-clause-sound
returns-in-Conflict-clause-sound g c =
    checked-sound g.F.OrderedField.LIMIT g.F.OrderedField.value c.args.rows.now c.args.trail.now.told.items c.args.simplex.now c.check-outcome.new.self _ _ c.check-outcome.result c.requires.sound c.requires.works c.check-outcome.ensures.answers c.check-outcome.ensures.same

pub returns-in-Spent-clause-answers : goal.returns-in-Spent-clause-answers
returns-in-Spent-clause-answers g c = λ fine owes.
    let most = g.F.OrderedField.LIMIT in
    let value = g.F.OrderedField.value in
    let rows = c.args.rows.now in
    let ts = c.args.trail.now.told.items in
    let s = c.args.simplex.now in
    let t = c.check-outcome.new.self in
    let all = c.in-Spent.ensures.answers.at_work c.requires.works in
    let same = c.as_slice-pivots.ensures.value ∙ c.pivots.ensures in
    let charged = written-all t.pivots c.as_slice-pivots.result.now c.write.result c.args.budget.now c.write.new.budget c.args.journal.now c.write.new.journal same c.write.ensures.count c.if-write-pivots.false c.write.ensures.charged c.write.ensures.moves in
    let most_count = c.write.ensures.count in
    let least_count = c.if-write-pivots.false in
    let lengths = ap length same in
    let count : c.write.result ≡ length c.check-outcome.new.self.pivots = omega (arith, most_count, least_count, lengths) in
    let spent = spent-same c.write.result (length t.pivots) (counts c.args.budget.now) (counts c.write.new.budget) (counts c.check-outcome.new.budget) count c.write.ensures.charged c.check-outcome.ensures.answers.charged all.1 in
    answered most value rows ts s t c.args.budget.now c.write.new.budget c.args.journal.now c.write.new.journal t.pivots heard.Spent fine owes charged
    (spent-answers most value rows ts s t c.args.budget.now c.write.new.budget c.args.journal.now c.write.new.journal all.0 spent all.2 fine owes)

pub returns-in-Spent-clause-sound : goal.returns-in-Spent-clause-sound
returns-in-Spent-clause-sound g c =
    checked-sound g.F.OrderedField.LIMIT g.F.OrderedField.value c.args.rows.now c.args.trail.now.told.items c.args.simplex.now c.check-outcome.new.self _ _ c.check-outcome.result c.requires.sound c.requires.works c.check-outcome.ensures.answers c.check-outcome.ensures.same

pub returns-in-Stuck-clause-answers : goal.returns-in-Stuck-clause-answers
returns-in-Stuck-clause-answers g c = λ fine owes.
    let most = g.F.OrderedField.LIMIT in
    let value = g.F.OrderedField.value in
    let rows = c.args.rows.now in
    let ts = c.args.trail.now.told.items in
    let s = c.args.simplex.now in
    let t = c.check-outcome.new.self in
    let ends = (c.in-Stuck.ensures.answers.at_work c.requires.works).0 in
    let charged = written-all t.pivots c.as_slice-pivots.result.now c.write.result c.args.budget.now c.write.new.budget c.args.journal.now c.write.new.journal (c.as_slice-pivots.ensures.value ∙ c.pivots.ensures) c.write.ensures.count c.if-write-pivots.false c.write.ensures.charged c.write.ensures.moves in
    answered most value rows ts s t c.args.budget.now c.write.new.budget c.args.journal.now c.write.new.journal t.pivots (heard.Stuck c.in-Stuck.stuck) fine owes charged
    (stuck-answers most value rows ts s t c.args.budget.now c.write.new.budget c.args.journal.now c.write.new.journal c.in-Stuck.stuck ends fine owes)
