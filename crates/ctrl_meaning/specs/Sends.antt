-- What the sender's rule claims of the arrivals of a row.
use Rattle.std.specs.Prelude.{◌-◌, ℤ, pos, negsuc, neg_ℤ, Option, Some, None, List, [], ◌∷◌, ◌++◌, Result, Bool}
use Rattle.whole.specs.declared.answers.Stuck.{Stuck}
use Rattle.condition_tree.specs.Trees.{all_of, any_of}
use Rattle.claims.specs.Subjects.{Subject, of_arrivals, of_service}
use Rattle.weighing.specs.Claim.{Claims, compare, both_outcomes, either_outcome}
use Rattle.weighing.specs.Weighed.{related}
use Rattle.weighing.specs.declared.scales.Side.TheVariants.{Right}
use Rattle.weighing.specs.declared.weighings.Rel5.TheVariants.{AtLeast, AtMost}
use Rattle.ctrl_types.specs.declared.expressions.Lin.{Lin}
use Rattle.ctrl_meaning.specs.Expressions.{lin_terms, scale_with}
use Rattle.ctrl_meaning.specs.Readings.{losses_heard}
use Rattle.ctrl_meaning.specs.declared.readings.ReadPoint.{ReadPoint}

-- what the flow sent in this row
abbrev pub growth_terms : {T : Type 0} → (ℤ → Subject → T) → ReadPoint → List T
growth_terms term at = term (pos 1) (of_arrivals at.row at.flow) ∷ term (negsuc 0) (of_arrivals (at.row - 1) at.flow) ∷ []

-- the arrivals less what was served, what was lost and the window, as the sender hears of them
abbrev pub window_terms : {T : Type 0} → (ℤ → Subject → T) → ReadPoint → Lin → List T
window_terms term at window =
    let scale = scale_with 1 window.terms in
    (term (pos scale) (of_arrivals at.row at.flow) ∷ term (neg_ℤ (pos scale)) (of_service at.heard at.flow)
    ∷ term (neg_ℤ (pos scale)) (losses_heard at) ∷ []) ++ lin_terms term at Right scale window.terms

-- what the flow sent in this row less the rate
abbrev pub rate_terms : {T : Type 0} → (ℤ → Subject → T) → ReadPoint → Lin → List T
rate_terms term at rate =
    let scale = scale_with 1 rate.terms in
    (term (pos scale) (of_arrivals at.row at.flow) ∷ term (neg_ℤ (pos scale)) (of_arrivals (at.row - 1) at.flow) ∷ [])
    ++ lin_terms term at Right scale rate.terms

-- the arrivals are the greater of the two: at least both, and at most one of them
abbrev pub unpaced_claim : {T : Type 0} → List T → List T → Claims T
unpaced_claim growth window =
    all_of (compare growth AtLeast)
    (all_of (compare window AtLeast) (any_of (compare growth AtMost) (compare window AtMost)))

-- the arrivals are the lesser of the above and of what the rate allows
abbrev pub paced_claim : {T : Type 0} → List T → List T → List T → Claims T
paced_claim growth window rate =
    all_of (any_of (compare growth AtMost) (compare window AtMost))
    (all_of (any_of (compare growth AtMost) (compare rate AtMost))
    (any_of (all_of (compare growth AtLeast) (compare window AtLeast)) (all_of (compare growth AtLeast) (compare rate AtLeast))))

abbrev pub send_claim : {T : Type 0} → (ℤ → Subject → T) → ReadPoint → Lin → Option Lin → Claims T
send_claim term at window None = unpaced_claim (growth_terms term at) (window_terms term at window)
send_claim term at window (Some rate) = paced_claim (growth_terms term at) (window_terms term at window) (rate_terms term at rate)

-- what comes of the claims, whose sums are weighed once
abbrev pub unpaced_outcome : Result ℤ Stuck → Result ℤ Stuck → Result Bool Stuck
unpaced_outcome growth window =
    both_outcomes (related AtLeast growth)
    (both_outcomes (related AtLeast window) (either_outcome (related AtMost growth) (related AtMost window)))

abbrev pub paced_outcome : Result ℤ Stuck → Result ℤ Stuck → Result ℤ Stuck → Result Bool Stuck
paced_outcome growth window rate =
    both_outcomes (either_outcome (related AtMost growth) (related AtMost window))
    (both_outcomes (either_outcome (related AtMost growth) (related AtMost rate))
    (either_outcome (both_outcomes (related AtLeast growth) (related AtLeast window))
    (both_outcomes (related AtLeast growth) (related AtLeast rate))))
