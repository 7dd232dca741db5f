use Rattle.std.proofs.Common.{◌≡◌, ◌<◌, ◌^◌, length, map, inl, inr, sym, subst, arith}
use Rattle.tableau.specs.Tables.{variables}
use Rattle.tableau.proofs.OperationLaws.{if_stuck}
use Rattle.simplex.specs.States.{corner}
use Rattle.simplex.proofs.BoundLaws.{if_ok, on_ok}
use Rattle.corner_values.specs.Scale.{AreNumbers, AreInLowestTerms}
use Rattle.corner_values.specs.Values.{value_at}
use Rattle.corner_values.specs.Faults.{IsStuckColumnAt, IsStuckScaling, IsStuckAfterEpsilon}
use Rattle.corner_values.proofs.EpsilonLaws.{if_err}
use Rattle.corner_values.proofs.ScaleLaws.{lowest_of_numbers}
use Rattle.corner_values.proofs.FaultLaws.{after_epsilon_kept, stuck_scale}
use Rattle.corner_values.proofs.corner.at_epsilon.Goals as goal

pub over_scale-requires : goal.over_scale-requires
over_scale-requires g c =
    let table = c.variables-variables.ensures.sound.at.table in
    let count : length c.as_slice.result.now ≡ c.args.simplex.now.table.columns = subst (λ fs. length fs ≡ c.args.simplex.now.table.columns) (sym c.as_slice.ensures.value) c.in-Ok.ensures.exact.count in
    omega (arith, count, table.columns, table.few)

pub returns-in-Ok-clause-exact : goal.returns-in-Ok-clause-exact
returns-in-Ok-clause-exact g c =
    let value = g.F.OrderedField.value in
    let pair = g.F.OrderedField.pair in
    let at = corner value c.args.simplex.now in
    let e = value c.args.epsilon in
    let n = c.args.simplex.now.table.columns in
    let numbers : AreNumbers value n (value_at at e) c.as_slice.result.now = subst (λ fs. AreNumbers value n (value_at at e) fs) (sym c.as_slice.ensures.value) c.in-Ok.ensures.exact in
    let lowest : AreInLowestTerms n (value_at at e) (map pair c.as_slice.result.now) = lowest_of_numbers value pair g.met.F.OrderedField.meaning n (value_at at e) c.as_slice.result.now numbers in
    if_ok c.over_scale.result (λ v h. record { epsilon = e; is_epsilon = c.requires; lowest = map pair c.as_slice.result.now; in_lowest_terms = lowest; over_scale = h }) c.over_scale.ensures.exact

pub returns-in-Ok-clause-kept : goal.returns-in-Ok-clause-kept
returns-in-Ok-clause-kept g c =
    let value = g.F.OrderedField.value in
    let pair = g.F.OrderedField.pair in
    let at = corner value c.args.simplex.now in
    let e = value c.args.epsilon in
    let n = c.args.simplex.now.table.columns in
    let numbers : AreNumbers value n (value_at at e) c.as_slice.result.now = subst (λ fs. AreNumbers value n (value_at at e) fs) (sym c.as_slice.ensures.value) c.in-Ok.ensures.exact in
    let lowest : AreInLowestTerms n (value_at at e) (map pair c.as_slice.result.now) = lowest_of_numbers value pair g.met.F.OrderedField.meaning n (value_at at e) c.as_slice.result.now numbers in
    on_ok c.over_scale.result (λ kept s. after_epsilon_kept g.F.OrderedField.LIMIT at e (map pair c.as_slice.result.now) s c.requires lowest (c.in-Ok.ensures.kept s) (kept s)) c.over_scale.ensures.kept

pub returns-in-Ok-clause-stuck : goal.returns-in-Ok-clause-stuck
returns-in-Ok-clause-stuck g c =
    let value = g.F.OrderedField.value in
    let pair = g.F.OrderedField.pair in
    let at = corner value c.args.simplex.now in
    let e = value c.args.epsilon in
    let n = c.args.simplex.now.table.columns in
    let ps = map pair c.as_slice.result.now in
    let numbers : AreNumbers value n (value_at at e) c.as_slice.result.now = subst (λ fs. AreNumbers value n (value_at at e) fs) (sym c.as_slice.ensures.value) c.in-Ok.ensures.exact in
    let lowest : AreInLowestTerms n (value_at at e) (map pair c.as_slice.result.now) = lowest_of_numbers value pair g.met.F.OrderedField.meaning n (value_at at e) c.as_slice.result.now numbers in
    if_err c.over_scale.result (λ fault h. if_stuck fault (IsStuckScaling ps) (IsStuckAfterEpsilon g.F.OrderedField.LIMIT at) (λ s x. inr (stuck_scale at e ps s c.requires lowest x)) h) c.over_scale.ensures.stuck

pub returns-in-Err-clause-stuck : goal.returns-in-Err-clause-stuck
returns-in-Err-clause-stuck g c =
    let value = g.F.OrderedField.value in
    let at = corner value c.args.simplex.now in
    let e = value c.args.epsilon in
    if_stuck c.in-Err.fault (IsStuckColumnAt g.F.OrderedField.LIMIT at e) (IsStuckAfterEpsilon g.F.OrderedField.LIMIT at) (λ s x. inl (record { epsilon = e; is_epsilon = c.requires; at_epsilon = x })) c.in-Err.ensures.stuck
