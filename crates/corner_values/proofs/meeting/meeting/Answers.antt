use Rattle.std.proofs.Common.{◌≡◌, pos, sym, ap, subst, ◌∙◌}
use Rattle.ordered_field.specs.Rational.{whole, neg_ℚ}
use Rattle.ordered_field.specs.Delta.{delta_value}
use Rattle.simplex.proofs.BoundLaws.{on_ok}
use Rattle.corner_values.specs.Epsilon.{difference}
use Rattle.corner_values.proofs.MeetingLaws.{difference-apart}
use Rattle.corner_values.proofs.FaultLaws.{wide_same, meeting_kept}
use Rattle.corner_values.proofs.meeting.meeting.Goals as goal

pub quotient-requires : goal.quotient-requires
quotient-requires g c = λ none.
    let value = g.F.OrderedField.value in
    let pace : value c.in_ok-pace.pace ≡ difference (value c.args.lesser.inf) (value c.args.greater.inf) = c.in_ok-pace.ensures.exact ∙ ap (λ f. difference (value f) (value c.inf-2.result)) c.inf.ensures ∙ ap (λ f. difference (value c.args.lesser.inf) (value f)) c.inf-2.ensures in
    difference-apart (value c.args.lesser.inf) (value c.args.greater.inf) c.requires.faster (sym pace ∙ none)

pub returns-clause-kept : goal.returns-clause-kept
returns-clause-kept g c =
    let value = g.F.OrderedField.value in
    let pace : value c.in_ok-pace.pace ≡ difference (value c.args.lesser.inf) (value c.args.greater.inf) = c.in_ok-pace.ensures.exact ∙ ap (λ f. difference (value f) (value c.inf-2.result)) c.inf.ensures ∙ ap (λ f. difference (value c.args.lesser.inf) (value f)) c.inf-2.ensures in
    let distance : value c.in_ok-distance.distance ≡ difference (value c.args.greater.real) (value c.args.lesser.real) = c.in_ok-distance.ensures.exact ∙ ap (λ f. difference (value f) (value c.real-2.result)) c.real.ensures ∙ ap (λ f. difference (value c.args.greater.real) (value f)) c.real-2.ensures in
    let near : value c.real.result ≡ value c.args.greater.real = ap value c.real.ensures in
    let far : value c.real-2.result ≡ value c.args.lesser.real = ap value c.real-2.ensures in
    let fast : value c.inf.result ≡ value c.args.lesser.inf = ap value c.inf.ensures in
    let slow : value c.inf-2.result ≡ value c.args.greater.inf = ap value c.inf-2.ensures in
    on_ok c.quotient.result (λ kept s. meeting_kept g.F.OrderedField.LIMIT c.args.variable (delta_value value c.args.lesser) (delta_value value c.args.greater) (value c.in_ok-distance.distance) (value c.in_ok-pace.pace) s
    (wide_same g.F.OrderedField.LIMIT _ _ _ _ near far c.in_ok-distance.ensures.kept) (wide_same g.F.OrderedField.LIMIT _ _ _ _ fast slow c.in_ok-pace.ensures.kept) distance pace (kept s)) c.quotient.ensures.kept
