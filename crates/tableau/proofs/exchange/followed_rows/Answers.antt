use Rattle.std.proofs.Common.{◌≡◌, ℕ, ◌<◌, ◌∷◌, ◌++◌, [], get_or, take, length, pos, refl, sym, ap, subst, ◌∙◌, arith}
use Rattle.std.specs.List.{All, Any}
use Rattle.std.proofs.lemmas.Bool.{true≢false}
use Rattle.std.proofs.lemmas.List.{take_all}
use Rattle.std.proofs.lemmas.List.Elements.{All-more, All-push, All-weaker}
use Rattle.std.proofs.lemmas.List.Quantifiers.{Any-push}
use Rattle.ordered_field.specs.Rational.{whole}
use Rattle.field_rows.specs.Rows.{coefficient}
use Rattle.tableau.specs.Exchange.{IsStuckStep}
use Rattle.tableau.specs.Layout.{IsFollowed, IsVisited, IsStuckRow}
use Rattle.tableau.proofs.PlacedLaws.{Any-more}
use Rattle.tableau.proofs.OperationLaws.{if_stuck, followed_is, stuck_row}
use Rattle.tableau.proofs.exchange.followed_rows.Goals as goal

pub returns-in-Err-clause-stuck : goal.returns-in-Err-clause-stuck
returns-in-Err-clause-stuck g c =
    let value = g.F.OrderedField.value in
    let limit = g.F.OrderedField.LIMIT in
    let user = get_or c.args.users.now c.loop-user.user-index 0 in
    let d = coefficient value c.args.solved.now in
    let row = c.list_at-row.result.now in
    if_stuck c.in-Err.fault (IsStuckStep limit user c.args.other d (coefficient value row)) (IsStuckRow limit value c.args.basic c.args.other c.args.rows.now d)
    (λ s step. stuck_row limit value c.args.basic c.args.other c.args.rows.now d user row s c.list_at-row.ensures c.if-user-basic.false (λ none. true≢false (sym (c.lacks.ensures.1 none) ∙ c.if-lacks.false)) step) c.in-Err.ensures.stuck

pub loop-user-preserved : goal.loop-user-preserved
loop-user-preserved g c =
    let value = g.F.OrderedField.value in
    let limit = g.F.OrderedField.LIMIT in
    let i = c.loop-user.user-index in
    let users = c.args.users.now in
    let rows = c.args.rows.now in
    let b = c.args.basic in
    let o = c.args.other in
    let d = coefficient value c.args.solved.now in
    let fs = c.loop-user.followed.items in
    let f = c.in-Ok.change in
    let more = sym c.in_ok-push-in-Ok.ensures.items in
    record {
      each = subst (λ l. All (IsFollowed limit value b o rows d) l) more (All-push (IsFollowed limit value b o rows d) fs f c.loop-user.invariant.each
          (followed_is limit value b o rows d (get_or users i 0) f c.list_at-row.result.now c.list_at-row.ensures (c.requires.users_within i 0 c.loop-user-test.true) c.if-user-basic.false c.in-Ok.ensures.variable c.in-Ok.ensures.row c.in-Ok.ensures.substituted c.in-Ok.ensures.kept));
      all = All-more (IsVisited value b o rows c.push.new.self.items) users i 0 c.loop-user-test.true
          (All-weaker (IsVisited value b o rows fs) (IsVisited value b o rows c.push.new.self.items) (λ r visited not_b some. subst (λ l. Any (λ f. f.variable ≡ r) l) more (Any-more (λ f. f.variable ≡ r) fs f (visited not_b some))) (take i users) c.loop-user.invariant.all)
          (λ not_b some. subst (λ l. Any (λ f. f.variable ≡ get_or users i 0) l) more (Any-push (λ f. f.variable ≡ get_or users i 0) fs f c.in-Ok.ensures.variable));
    }

pub loop-user-preserved-then-user-basic : goal.loop-user-preserved-then-user-basic
loop-user-preserved-then-user-basic g c =
    let value = g.F.OrderedField.value in
    record {
      each = c.loop-user.invariant.each;
      all = All-more (IsVisited value c.args.basic c.args.other c.args.rows.now c.loop-user.followed.items) c.args.users.now c.loop-user.user-index 0 c.loop-user-test.true c.loop-user.invariant.all (λ not_b some. absurd (not_b c.if-user-basic.true));
    }

pub loop-user-preserved-then-lacks : goal.loop-user-preserved-then-lacks
loop-user-preserved-then-lacks g c =
    let value = g.F.OrderedField.value in
    record {
      each = c.loop-user.invariant.each;
      all = All-more (IsVisited value c.args.basic c.args.other c.args.rows.now c.loop-user.followed.items) c.args.users.now c.loop-user.user-index 0 c.loop-user-test.true c.loop-user.invariant.all
          (λ not_b some. absurd (some (ap (λ r. coefficient value r c.args.other) (sym c.list_at-row.ensures) ∙ c.lacks.ensures.0 c.if-lacks.true)));
    }

pub returns-clause-all : goal.returns-clause-all
returns-clause-all g c =
    subst (λ l. All (IsVisited g.F.OrderedField.value c.args.basic c.args.other c.args.rows.now c.loop-user.followed.items) l) (take_all c.loop-user.user-index c.args.users.now c.loop-user-test.false) c.loop-user.invariant.all
