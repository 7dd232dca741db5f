use Rattle.std.proofs.Common.{◌≡◌, ◌+◌, ℕ, ℤ, List, [], ◌∷◌, ◌++◌, map, refl, ap, ◌∙◌, rules, FitsSigned}
use Rattle.std.specs.Int.{w128}
use Rattle.std.proofs.lemmas.Int.{to_z-of_z}
use Rattle.std.specs.List.{range_with_len}
use Rattle.run_rows.specs.declared.rows.Run.{Run}
use Rattle.path_server.specs.Servers.{Server, server_of}
use Rattle.trace_picture.specs.Measures.{measured}
use Rattle.trace_picture.specs.Places.{across_of, point_of, points_of, up_of}
use Rattle.trace_picture.specs.declared.lines.Quantity.{Quantity}
use Rattle.trace_picture.specs.declared.places.Point.{Point}
use Rattle.trace_picture.specs.declared.scales.Scale.{Scale}
use Rattle.trace_picture.proofs.MadeLists.{made_goes_on}
use Rattle.trace_picture.proofs.places.points_of.Goals as goal

none : (p : Server) (r : Run) (q : Quantity) (s : Scale) (last first : ℕ) (made : List Point) → made ≡ [] → made ≡ points_of p r q s last first 0
unfolding points_of
none p r q s last first made is = is

one_more : (p : Server) (r : Run) (q : Quantity) (s : Scale) (last first n across up : ℕ) (amount : ℤ) (old new : List Point)
    → old ≡ points_of p r q s last first n → new ≡ old ++ record { across = across; up = up } ∷ []
    → across ≡ across_of last (first + n) → up ≡ up_of s amount → amount ≡ measured p r q (first + n) → new ≡ points_of p r q s last first (n + 1)
unfolding points_of
one_more p r q s last first n across up amount old new before pushed right high is =
    made_goes_on (point_of p r q s last) first n (first + n) old new (record { across = across; up = up }) refl before pushed
    (ap (λ (x : ℕ). let point : Point = record { across = x; up = up } in point) right
    ∙ ap (λ (u : ℕ). let point : Point = record { across = across_of last (first + n); up = u } in point) (high ∙ ap (up_of s) is))

pub loop-index-init : goal.loop-index-init
loop-index-init c = none _ _ _ _ _ _ _ c.new-points.ensures

pub loop-index-preserved : goal.loop-index-preserved
loop-index-preserved c =
    let fits : FitsSigned w128 c.in_ok-amount.amount = search rules in
    one_more (server_of c.args.path.now) c.args.run.now c.args.quantity c.args.scale.now c.args.rows.last c.args.rows.first c.loop-index.index _ _ _ _ _
    c.loop-index.invariant c.in_ok-push.ensures.ok c.across.ensures
    (c.in_ok-up.ensures.exact ∙ ap (up_of c.args.scale.now) (to_z-of_z w128 c.in_ok-amount.amount fits)) c.in_ok-amount.ensures
