use Rattle.std.proofs.Common.{All, Some, [], sym, subst, arith}
use Rattle.simplex.specs.Bounds.{IsRefused, IsSet, IsStuckSetting}
use Rattle.simplex.specs.Shares.{AreShares}
use Rattle.simplex.specs.States.{limits_in}
use Rattle.lra_theory.specs.Clashes.{IsTold}
use Rattle.lra_theory.specs.Standings.{lits_of}
use Rattle.lra_theory.proofs.GivenLaws.{given-few}
use Rattle.lra_theory.proofs.TellLaws.{limits-length, refused-returns, refused-told, set-keeps, set-returns, stuck-returns, tag-is}
use Rattle.lra_theory.proofs.telling.set.Goals as goal

pub set_bound-requires-clause-room : goal.set_bound-requires-clause-room
set_bound-requires-clause-room g c =
    let value = g.F.OrderedField.value in
    let few = given-few c.args.rows.now 0 [] c.args.trail.now.told.items (limits_in value c.args.simplex.now.limits) c.requires.sound.given in
    let same = limits-length value c.args.simplex.now.limits in
    let most = c.requires.few in omega (arith, few, same, most)

pub answer-heard-requires-clause-told : goal.answer-heard-requires-clause-told
answer-heard-requires-clause-told g c =
    let most = g.F.OrderedField.LIMIT in
    let value = g.F.OrderedField.value in
    let ts = c.args.trail.now.told.items in
    let s = c.args.simplex.now in
    let t = c.set_bound.new.self in
    let tag = tag-is ts c.args.trail.now.refused c.len.result c.requires.agrees c.len.ensures in
    let refused = subst (λ n. IsRefused most value s c.args.bound n c.in-Conflict.shares.items t) tag (c.in-Conflict.ensures.answers.at_work c.requires.works) in
    subst (λ ss. All (IsTold c.args.rows.now (lits_of ts (Some c.args.lit))) ss) (sym c.as_slice.ensures.value) (refused-told most value c.args.rows.now ts s c.requires.sound c.args.lit c.args.bound c.requires.bound t c.in-Conflict.shares.items refused)

pub returns-in-Fine-clause-answers : goal.returns-in-Fine-clause-answers
returns-in-Fine-clause-answers g c =
    let most = g.F.OrderedField.LIMIT in
    let value = g.F.OrderedField.value in
    let ts = c.args.trail.now.told.items in
    let s = c.args.simplex.now in
    let t = c.set_bound.new.self in
    let tag = tag-is ts c.args.trail.now.refused c.len.result c.requires.agrees c.len.ensures in
    let set = subst (λ n. IsSet most value s c.args.bound n t) tag (c.in-Fine.ensures.answers.at_work c.requires.works) in
    set-returns most value c.args.rows.now ts s c.requires.sound c.args.lit c.args.bound c.requires.bound t c.requires.works set c.set_bound.ensures.sound.orderly c.push_reserved.new.self.items c.mark-mark.result c.args.trail.now.refused c.push_reserved.ensures.items c.mark-mark.ensures.count c.requires.agrees

pub returns-in-Fine-clause-sound : goal.returns-in-Fine-clause-sound
returns-in-Fine-clause-sound g c =
    let most = g.F.OrderedField.LIMIT in
    let value = g.F.OrderedField.value in
    let ts = c.args.trail.now.told.items in
    let s = c.args.simplex.now in
    let t = c.set_bound.new.self in
    let tag = tag-is ts c.args.trail.now.refused c.len.result c.requires.agrees c.len.ensures in
    let set = subst (λ n. IsSet most value s c.args.bound n t) tag (c.in-Fine.ensures.answers.at_work c.requires.works) in
    set-keeps most value c.args.rows.now ts s c.requires.sound c.args.lit c.args.bound c.requires.bound t c.requires.works set c.push_reserved.new.self.items c.mark-mark.result c.push_reserved.ensures.items c.mark-mark.ensures.count

pub returns-in-Conflict-clause-answers : goal.returns-in-Conflict-clause-answers
returns-in-Conflict-clause-answers g c =
    let most = g.F.OrderedField.LIMIT in
    let value = g.F.OrderedField.value in
    let ts = c.args.trail.now.told.items in
    let s = c.args.simplex.now in
    let t = c.set_bound.new.self in
    let tag = tag-is ts c.args.trail.now.refused c.len.result c.requires.agrees c.len.ensures in
    let refused = subst (λ n. IsRefused most value s c.args.bound n c.in-Conflict.shares.items t) tag (c.in-Conflict.ensures.answers.at_work c.requires.works) in
    refused-returns most value c.args.rows.now ts s c.requires.sound c.args.lit c.args.bound c.requires.bound t c.in-Conflict.shares.items refused c.answer-heard.result c.kept-trail.result (λ st ws r d a o f. c.answer-heard.ensures st ws r d (subst (λ ss. AreShares value ws ss) (sym c.as_slice.ensures.value) a) o f) c.kept-trail.ensures

pub returns-in-Stuck-clause-answers : goal.returns-in-Stuck-clause-answers
returns-in-Stuck-clause-answers g c =
    let most = g.F.OrderedField.LIMIT in
    let value = g.F.OrderedField.value in
    let ts = c.args.trail.now.told.items in
    let s = c.args.simplex.now in
    let t = c.set_bound.new.self in
    let tag = tag-is ts c.args.trail.now.refused c.len.result c.requires.agrees c.len.ensures in
    let stuck = subst (λ n. IsStuckSetting most value s c.args.bound n c.in-Stuck.stuck) tag (c.in-Stuck.ensures.answers.at_work c.requires.works).0 in
    stuck-returns most value c.args.rows.now ts s c.requires.sound c.args.lit c.args.bound c.requires.bound t c.in-Stuck.stuck c.args.trail.now.refused c.requires.agrees stuck
