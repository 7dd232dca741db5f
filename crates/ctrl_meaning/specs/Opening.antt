-- The opening row: each state within the range of its `init`.
use Rattle.std.specs.Prelude.{ℕ, ℤ, pos, neg_ℤ, List, [], ◌∷◌, length, Option, Some, None, Result, Ok, Err, Bool, false}
use Rattle.std.proofs.Common.{get_or}
use Rattle.whole.specs.declared.answers.Stuck.{Stuck}
use Rattle.weighing.specs.Queries.{asked}
use Rattle.claims.specs.Subjects.{constant, in_run, of_state}
use Rattle.weighing.specs.Claim.{Claim, Claims, all_claims, compare, outcome}
use Rattle.weighing.specs.declared.weighings.Rel5.TheVariants.{AtLeast, AtMost}
use Rattle.run_rows.specs.declared.rows.Run.{Run}
use Rattle.path_server.specs.Shapes.{shape_of}
use Rattle.path_server.specs.declared.settings.Setting.{Setting}
use Rattle.ctrl_types.specs.declared.controllers.Controller.{Controller}
use Rattle.ctrl_types.specs.declared.controllers.State.{State}
use Rattle.ctrl_types.specs.declared.controllers.Kind.TheVariants.{Count}
use Rattle.ctrl_meaning.specs.declared.opening.OpeningHolds.{OpeningHolds}
use Rattle.ctrl_meaning.specs.declared.opening.OpeningHolds.TheVariants.{Yes, State as Differs, Wide}

abbrev pub no_state : State
no_state = record { name = []; kind = Count; lo = record { num = pos 0; den = pos 1 }; hi = record { num = pos 0; den = pos 1 } }

abbrev pub declared_state : Controller → ℕ → State
declared_state c j = get_or c.states j no_state

-- lo <= x <= hi, each comparison at the scale of its own denominator
abbrev pub range_claims : {S T : Type 0} → (ℤ → S → T) → State → S → S → List (Claims T)
range_claims term s x over =
    compare (term s.lo.den x ∷ term (neg_ℤ s.lo.num) over ∷ []) AtLeast
    ∷ compare (term s.hi.den x ∷ term (neg_ℤ s.hi.num) over ∷ []) AtMost ∷ []

-- the row on which the states stand first
abbrev pub opening_row : Controller → Setting → ℕ
opening_row c s = (shape_of s (length c.states) c.delay_max).h

-- that state j of the flow lies within its range on the row
abbrev pub range_claim : Controller → Run → ℕ → ℕ → ℕ → Claim
range_claim c r row flow j = all_claims (range_claims (in_run r) (declared_state c j) (of_state row flow j) constant)

abbrev pub state_in_range : Controller → Run → ℕ → ℕ → ℕ → Result Bool Stuck
state_in_range c r row flow j = outcome row (range_claim c r row flow j)

abbrev pub opening_answer : Result (Option ℕ) Stuck → OpeningHolds
opening_answer (Err stuck) = Wide stuck
opening_answer (Ok (Some j)) = Differs j
opening_answer (Ok None) = Yes

-- all states are weighed before any is out of its range
unfoldable pub opening : Controller → Setting → Run → ℕ → OpeningHolds
opening c s r flow =
    opening_answer (asked false (state_in_range c r (opening_row c s) flow) (length c.states))
