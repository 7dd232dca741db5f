-- What the answers about the opening row say.
use Rattle.weighing.specs.Weighed.{times}
use Rattle.std.proofs.Common.{◌≡◌, ℕ, ℤ, pos, neg_ℤ, ◌+ℤ◌, ◌*ℤ◌, ◌≤ℤ◌, ◌⊎◌, inl, inr, false, Option, Some, None, Result, Ok, Err, length, refl, ap, arith}
use Rattle.std.proofs.lemmas.Int.{ints}
use Rattle.whole.specs.declared.answers.Stuck.{Stuck}
use Rattle.whole.proofs.Integers.{neg_ℤ-*ℤ}
use Rattle.weighing.specs.Queries.{Tells, asked}
use Rattle.weighing.specs.Claim.{all_claims, Holds}
use Rattle.weighing.proofs.AskedClaims.{tells_law}
use Rattle.run_rows.specs.Runs.{state_of}
use Rattle.run_rows.specs.declared.rows.Run.{Run}
use Rattle.path_server.proofs.RuleLaws.{Means}
use Rattle.path_server.specs.declared.settings.Setting.{Setting}
use Rattle.ctrl_types.specs.declared.controllers.Controller.{Controller}
use Rattle.ctrl_types.specs.declared.controllers.State.{State}
use Rattle.ctrl_meaning.specs.Meaning.{IsFirstOut, IsInRange, IsStuckInOpening, NothingOverflowsInOpening, OpensInRange, OpensWithin}
use Rattle.ctrl_meaning.specs.Opening.{declared_state, opening, opening_answer, opening_row, range_claim, range_claims, state_in_range}
use Rattle.ctrl_meaning.specs.declared.opening.OpeningHolds.{OpeningHolds}
use Rattle.ctrl_meaning.specs.declared.opening.OpeningHolds.TheVariants.{Yes, State as Differs, Wide}

from_means : (d x n o : ℤ) → Means (pos 0 ≤ℤ (d *ℤ x +ℤ (neg_ℤ n *ℤ o +ℤ pos 0))) ((n *ℤ o) ≤ℤ (d *ℤ x))
from_means d x n o = let turned = neg_ℤ-*ℤ n o in (λ h. omega (arith, ints), λ h. omega (arith, ints))

to_means : (d x n o : ℤ) → Means ((d *ℤ x +ℤ (neg_ℤ n *ℤ o +ℤ pos 0)) ≤ℤ pos 0) ((d *ℤ x) ≤ℤ (n *ℤ o))
to_means d x n o = let turned = neg_ℤ-*ℤ n o in (λ h. omega (arith, ints), λ h. omega (arith, ints))

pub range_means : (s : State) (x over : ℤ) → Means (Holds (all_claims (range_claims times s x over))) (IsInRange s x over)
range_means s x over =
    let low = from_means s.lo.den x s.lo.num over in
    let high = to_means s.hi.den x s.hi.num over in
    (λ h. record { from = low.0 h.0; to = high.0 h.1 }, λ h. (low.1 h.from, high.1 h.to))

yes_found : (t : Result (Option ℕ) Stuck) → opening_answer t ≡ Yes → t ≡ Ok None
yes_found (Err stuck) is = absurd (cc)
yes_found (Ok None) is = refl
yes_found (Ok (Some j)) is = absurd (cc)

state_found : (t : Result (Option ℕ) Stuck) (j : ℕ) → opening_answer t ≡ Differs j → t ≡ Ok (Some j)
state_found (Err stuck) j is = absurd (cc)
state_found (Ok None) j is = absurd (cc)
state_found (Ok (Some i)) j is = let same : i ≡ j = cc in ap (λ n. let r : Result (Option ℕ) Stuck = Ok (Some n) in r) same

wide_found : (t : Result (Option ℕ) Stuck) (stuck : Stuck) → opening_answer t ≡ Wide stuck → t ≡ Err stuck
wide_found (Err other) stuck is = let same : other ≡ stuck = cc in ap (λ e. let r : Result (Option ℕ) Stuck = Err e in r) same
wide_found (Ok None) stuck is = absurd (cc)
wide_found (Ok (Some i)) stuck is = absurd (cc)

module _ (c : Controller) (s : Setting) (r : Run) (flow : ℕ) where
  -- what is found of the states' ranges
  tells : Tells false (opening_row c s) (range_claim c r (opening_row c s) flow) (OpensInRange c s r flow) (length c.states)
      (asked false (state_in_range c r (opening_row c s) flow) (length c.states))
  tells =
      tells_law false (opening_row c s) (range_claim c r (opening_row c s) flow) (length c.states) (OpensInRange c s r flow)
      (λ j among. range_means (declared_state c j) (state_of r (opening_row c s) flow j) r.over)

  pub yes_law : opening c s r flow ≡ Yes → NothingOverflowsInOpening c s r flow × OpensWithin c s r flow
  unfolding opening
  yes_law is = tells.none.0 (yes_found (asked false (state_in_range c r (opening_row c s) flow) (length c.states)) is)

  -- states within their ranges are found to be so, unless a weighing overflows
  pub yes_again : NothingOverflowsInOpening c s r flow → OpensWithin c s r flow → opening c s r flow ≡ Yes
  unfolding opening
  yes_again small within = ap opening_answer (tells.none.1 (small, within))

  pub state_law : (j : ℕ) → opening c s r flow ≡ Differs j → IsFirstOut c s r flow j
  unfolding opening
  state_law j is =
      let both = (tells.some j).0 (state_found (asked false (state_in_range c r (opening_row c s) flow) (length c.states)) j is) in
      record { within = both.1.within; before = both.1.before; out = both.1.here; weighed = both.0 }

  pub state_again : (j : ℕ) → IsFirstOut c s r flow j → opening c s r flow ≡ Differs j
  unfolding opening
  state_again j one =
      ap opening_answer ((tells.some j).1 (one.weighed, record { within = one.within; before = one.before; here = one.out }))

  pub wide_law : (stuck : Stuck) → opening c s r flow ≡ Wide stuck → IsStuckInOpening c s r flow stuck
  unfolding opening
  wide_law stuck is = (tells.stuck stuck).0 (wide_found (asked false (state_in_range c r (opening_row c s) flow) (length c.states)) stuck is)

  pub wide_again : (stuck : Stuck) → IsStuckInOpening c s r flow stuck → opening c s r flow ≡ Wide stuck
  unfolding opening
  wide_again stuck one = ap opening_answer ((tells.stuck stuck).1 one)

  -- no state is found to be out of its range where none is, whatever overflows
  pub found_law : OpensWithin c s r flow → (opening c s r flow ≡ Yes) ⊎ ((stuck : Stuck) × (opening c s r flow ≡ Wide stuck))
  found_law within = by (opening c s r flow) refl
    where
      by : (answer : OpeningHolds) → opening c s r flow ≡ answer → (answer ≡ Yes) ⊎ ((stuck : Stuck) × (answer ≡ Wide stuck))
      by Yes q = inl refl
      by (Differs j) q = let one = state_law j q in absurd (one.out (within j one.within))
      by (Wide stuck) q = inr (stuck, refl)
