-- What is claimed of the arrivals holds exactly where they are the greater, or with a rate the lesser, of what is allowed.
use Rattle.claims.specs.Subjects.{in_run}
use Rattle.std.proofs.Common.{◌≡◌, ℕ, ◌-◌, ◌/◌, ◌<◌, ℤ, pos, negsuc, neg_ℤ, ◌+ℤ◌, ◌-ℤ◌, ◌*ℤ◌, ◌≤ℤ◌, ◌<ℤ◌, ◌⊎◌, inl, inr, Bool, true, false, Option, Some, None, refl, ◌∙◌, ap, arith}
use Rattle.std.specs.Prelude.{int_le, if◌then◌else◌}
use Rattle.std.proofs.lemmas.Int.{ints}
use Rattle.whole.proofs.Integers.{≤ℤ_or_>, *ℤ-+ℤ, *ℤ-neg_ℤ, neg_ℤ-*ℤ}
use Rattle.weighing.specs.Claim.{Holds, total}
use Rattle.weighing.specs.Weighed.{Stands}
use Rattle.weighing.specs.declared.scales.Side.TheVariants.{Right}
use Rattle.weighing.specs.declared.weighings.Rel5.TheVariants.{AtMost, AtLeast}
use Rattle.run_rows.specs.Runs.{arrived, lost, served}
use Rattle.run_rows.specs.declared.rows.Run.{Run}
use Rattle.path_server.proofs.RuleLaws.{Means}
use Rattle.ctrl_types.specs.Limits.{OptionalLin}
use Rattle.ctrl_types.specs.declared.expressions.Lin.{Lin}
use Rattle.ctrl_meaning.specs.Expressions.{lin_terms, scale_with}
use Rattle.ctrl_meaning.specs.Meaning.{allowed, greater, lesser, value}
use Rattle.ctrl_meaning.specs.Sends.{growth_terms, rate_terms, send_claim, window_terms}
use Rattle.ctrl_meaning.specs.declared.readings.ReadPoint.{ReadPoint}
use Rattle.ctrl_meaning.proofs.Readiness.{IsReady, one_divides}
use Rattle.ctrl_meaning.proofs.TestLaws.{factor_of, over_value}
use Rattle.claim_values.proofs.ClaimLists.{both_mean, either_means}
use Rattle.claim_values.proofs.ValueLaws.{stands_means}

pub record IsGreater (x y m : ℤ) : Type 0 where
  pub left : x ≤ℤ m
  pub right : y ≤ℤ m
  pub one : (m ≡ x) ⊎ (m ≡ y)

pub record IsLesser (x y m : ℤ) : Type 0 where
  pub left : m ≤ℤ x
  pub right : m ≤ℤ y
  pub one : (m ≡ x) ⊎ (m ≡ y)

most_of : (x y : ℤ) → int_le x y ≡ true → x ≤ℤ y
most_of x y e = grind (arith, ints, e)

not_most : (x y : ℤ) → int_le x y ≡ false → x ≤ℤ y → ⊥
not_most x y e h = grind (arith, ints, e, h)

less_of : (x y : ℤ) → int_le x y ≡ false → y <ℤ x
less_of x y e = elim (≤ℤ_or_> x y) [ inl most ↦ absurd (not_most x y e most) | inr less ↦ less ]

greater_is : (x y : ℤ) → IsGreater x y (greater x y)
greater_is x y = by (int_le x y) refl
  where
    by : (t : Bool) → int_le x y ≡ t → IsGreater x y (if t then y else x)
    by true e = let h = most_of x y e in record { left = h; right = omega (arith, ints); one = inr refl }
    by false e = let h = less_of x y e in record { left = omega (arith, ints); right = omega (arith, ints); one = inl refl }

lesser_is : (x y : ℤ) → IsLesser x y (lesser x y)
lesser_is x y = by (int_le x y) refl
  where
    by : (t : Bool) → int_le x y ≡ t → IsLesser x y (if t then x else y)
    by true e = let h = most_of x y e in record { left = omega (arith, ints); right = h; one = inl refl }
    by false e = let h = less_of x y e in record { left = omega (arith, ints); right = omega (arith, ints); one = inr refl }

shifted : (y v m : ℤ) → IsGreater v (pos 0) m → IsGreater y (y +ℤ v) (y +ℤ m)
shifted y v m is =
    let left = is.left in
    let right = is.right in
    record {
      left = omega (arith, ints);
      right = omega (arith, ints);
      one = elim is.one [ inl e ↦ inr (ap (λ z. y +ℤ z) e) | inr e ↦ inl (omega (arith, ints, e)) ];
    }

below_one : (x y w g : ℤ) → IsGreater y w g → ((x ≤ℤ y) ⊎ (x ≤ℤ w)) → x ≤ℤ g
below_one x y w g is h =
    let left = is.left in
    let right = is.right in
    elim h [ inl a ↦ omega (arith, ints) | inr a ↦ omega (arith, ints) ]

above_both : (x y w g : ℤ) → IsGreater y w g → y ≤ℤ x → w ≤ℤ x → g ≤ℤ x
above_both x y w g is one two = elim is.one [ inl e ↦ omega (arith, ints) | inr e ↦ omega (arith, ints) ]

at_most_one : (x y w g : ℤ) → IsGreater y w g → x ≤ℤ g → (x ≤ℤ y) ⊎ (x ≤ℤ w)
at_most_one x y w g is h = elim is.one [ inl e ↦ inl (omega (arith, ints)) | inr e ↦ inr (omega (arith, ints)) ]

unpaced_means : (x y w g : ℤ) → IsGreater y w g
    → Means ((y ≤ℤ x) × ((w ≤ℤ x) × ((x ≤ℤ y) ⊎ (x ≤ℤ w)))) (x ≡ g)
unpaced_means x y w g is = (there, back)
  where
    there : ((y ≤ℤ x) × ((w ≤ℤ x) × ((x ≤ℤ y) ⊎ (x ≤ℤ w)))) → x ≡ g
    there h =
        let low = above_both x y w g is h.0 h.1.0 in
        let high = below_one x y w g is h.1.1 in omega (arith, ints)

    back : x ≡ g → ((y ≤ℤ x) × ((w ≤ℤ x) × ((x ≤ℤ y) ⊎ (x ≤ℤ w))))
    back e =
        let left = is.left in
        let right = is.right in
        (omega (arith, ints), (omega (arith, ints), at_most_one x y w g is (omega (arith, ints))))

paced_means : (x y w z g h m : ℤ) → IsGreater y w g → IsGreater y z h → IsLesser g h m
    → Means (((x ≤ℤ y) ⊎ (x ≤ℤ w)) × (((x ≤ℤ y) ⊎ (x ≤ℤ z)) × (((y ≤ℤ x) × (w ≤ℤ x)) ⊎ ((y ≤ℤ x) × (z ≤ℤ x))))) (x ≡ m)
paced_means x y w z g h m one two least = (there, back)
  where
    low : (((y ≤ℤ x) × (w ≤ℤ x)) ⊎ ((y ≤ℤ x) × (z ≤ℤ x))) → m ≤ℤ x
    low (inl p) =
        let most = above_both x y w g one p.0 p.1 in
        let left = least.left in omega (arith, ints)
    low (inr p) =
        let most = above_both x y z h two p.0 p.1 in
        let right = least.right in omega (arith, ints)

    high : x ≤ℤ g → x ≤ℤ h → x ≤ℤ m
    high p q = elim least.one [ inl e ↦ omega (arith, ints) | inr e ↦ omega (arith, ints) ]

    there : (((x ≤ℤ y) ⊎ (x ≤ℤ w)) × (((x ≤ℤ y) ⊎ (x ≤ℤ z)) × (((y ≤ℤ x) × (w ≤ℤ x)) ⊎ ((y ≤ℤ x) × (z ≤ℤ x))))) → x ≡ m
    there p =
        let from = low p.1.1 in
        let to = high (below_one x y w g one p.0) (below_one x y z h two p.1.0) in omega (arith, ints)

    third : x ≡ m → ((y ≤ℤ x) × (w ≤ℤ x)) ⊎ ((y ≤ℤ x) × (z ≤ℤ x))
    third e =
        let a = one.left in
        let b = one.right in
        let c = two.left in
        let d = two.right in
        elim least.one [
          | inl same ↦ inl (omega (arith, ints), omega (arith, ints))
          | inr same ↦ inr (omega (arith, ints), omega (arith, ints))
        ]

    back : x ≡ m → (((x ≤ℤ y) ⊎ (x ≤ℤ w)) × (((x ≤ℤ y) ⊎ (x ≤ℤ z)) × (((y ≤ℤ x) × (w ≤ℤ x)) ⊎ ((y ≤ℤ x) × (z ≤ℤ x)))))
    back e =
        let left = least.left in
        let right = least.right in
        (at_most_one x y w g one (omega (arith, ints)), (at_most_one x y z h two (omega (arith, ints)), third e))

then_means : (P Q R : Type 0) → Means P Q → Means Q R → Means P R
then_means P Q R one two = (λ h. two.0 (one.0 h), λ h. one.1 (two.1 h))

growth_value : (d a b : ℤ) → d *ℤ (pos 1 *ℤ a +ℤ (negsuc 0 *ℤ b +ℤ pos 0)) ≡ d *ℤ a -ℤ d *ℤ b
growth_value d a b =
    let flat : pos 1 *ℤ a +ℤ (negsuc 0 *ℤ b +ℤ pos 0) ≡ a +ℤ neg_ℤ b = omega (arith, ints) in
    let split = *ℤ-+ℤ d a (neg_ℤ b) in
    let turned = *ℤ-neg_ℤ d b in
    ap (λ z. d *ℤ z) flat ∙ omega (arith, ints)

two_off : (m a s l t : ℤ) → m *ℤ a +ℤ (neg_ℤ m *ℤ s +ℤ (neg_ℤ m *ℤ l +ℤ t)) ≡ m *ℤ (a -ℤ (s +ℤ l)) +ℤ t
two_off m a s l t =
    let one = neg_ℤ-*ℤ m s in
    let two = neg_ℤ-*ℤ m l in
    let both = *ℤ-+ℤ m s l in
    let turned = *ℤ-neg_ℤ m (s +ℤ l) in
    let split = *ℤ-+ℤ m a (neg_ℤ (s +ℤ l)) in omega (arith, ints)

one_off : (m a b t : ℤ) → m *ℤ a +ℤ (neg_ℤ m *ℤ b +ℤ t) ≡ m *ℤ (a -ℤ b) +ℤ t
one_off m a b t =
    let one = neg_ℤ-*ℤ m b in
    let turned = *ℤ-neg_ℤ m b in
    let split = *ℤ-+ℤ m a (neg_ℤ b) in omega (arith, ints)

spread : (d a b v : ℤ) → d *ℤ (a -ℤ b) -ℤ v ≡ d *ℤ a -ℤ (d *ℤ b +ℤ v)
spread d a b v =
    let turned = *ℤ-neg_ℤ d b in
    let split = *ℤ-+ℤ d a (neg_ℤ b) in omega (arith, ints)

window_value : (r : Run) (at : ReadPoint) (d : ℕ) (lin : Lin) → 0 < d → IsReady r at d lin
    → pos (d / scale_with 1 lin.terms) *ℤ total (window_terms (in_run r) at lin)
    ≡ pos d *ℤ arrived r at.row at.flow
    -ℤ (pos d *ℤ (served r at.heard at.flow +ℤ lost r at.heard at.flow) +ℤ value r at d lin.terms)
window_value r at d lin some ready =
    let m : ℕ = scale_with 1 lin.terms in
    let a : ℤ = arrived r at.row at.flow in
    let s : ℤ = served r at.heard at.flow in
    let l : ℤ = lost r at.heard at.flow in
    ap (λ z. pos (d / m) *ℤ z) (two_off (pos m) a s l (total (lin_terms (in_run r) at Right m lin.terms)))
    ∙ over_value r at d lin (a -ℤ (s +ℤ l)) some ready
    ∙ spread (pos d) a (s +ℤ l) (value r at d lin.terms)

rate_value : (r : Run) (at : ReadPoint) (d : ℕ) (lin : Lin) → 0 < d → IsReady r at d lin
    → pos (d / scale_with 1 lin.terms) *ℤ total (rate_terms (in_run r) at lin)
    ≡ pos d *ℤ arrived r at.row at.flow -ℤ (pos d *ℤ arrived r (at.row - 1) at.flow +ℤ value r at d lin.terms)
rate_value r at d lin some ready =
    let m : ℕ = scale_with 1 lin.terms in
    let a : ℤ = arrived r at.row at.flow in
    let b : ℤ = arrived r (at.row - 1) at.flow in
    ap (λ z. pos (d / m) *ℤ z) (one_off (pos m) a b (total (lin_terms (in_run r) at Right m lin.terms)))
    ∙ over_value r at d lin (a -ℤ b) some ready
    ∙ spread (pos d) a b (value r at d lin.terms)

-- the claim on the arrivals holds exactly where they are what is allowed
pub send_means : (r : Run) (at : ReadPoint) (d : ℕ) (window : Lin) (rate : Option Lin) → 0 < d → IsReady r at d window
    → OptionalLin (IsReady r at d) rate
    → Means (Holds (send_claim (in_run r) at window rate)) (pos d *ℤ arrived r at.row at.flow ≡ allowed r at d window rate)
send_means r at d window None some ready paced =
    let x : ℤ = pos d *ℤ arrived r at.row at.flow in
    let y : ℤ = pos d *ℤ arrived r (at.row - 1) at.flow in
    let w : ℤ = pos d *ℤ (served r at.heard at.flow +ℤ lost r at.heard at.flow) +ℤ value r at d window.terms in
    let growth = growth_value (pos d) (arrived r at.row at.flow) (arrived r (at.row - 1) at.flow) in
    let over = window_value r at d window some ready in
    let k : ℤ = pos (d / scale_with 1 window.terms) in
    let positive : pos 0 <ℤ pos d = omega (arith, ints) in
    let factor = (factor_of d (scale_with 1 window.terms) some (one_divides r at d window ready)).some in
    let t : ℤ = total (growth_terms (in_run r) at) in
    let u : ℤ = total (window_terms (in_run r) at window) in
    then_means (Holds (send_claim (in_run r) at window None)) ((y ≤ℤ x) × ((w ≤ℤ x) × ((x ≤ℤ y) ⊎ (x ≤ℤ w)))) (x ≡ greater y w)
    (both_mean (Stands AtLeast t) (y ≤ℤ x) (Stands AtLeast u × (Stands AtMost t ⊎ Stands AtMost u)) ((w ≤ℤ x) × ((x ≤ℤ y) ⊎ (x ≤ℤ w)))
    (stands_means AtLeast (pos d) t x y positive growth)
    (both_mean (Stands AtLeast u) (w ≤ℤ x) (Stands AtMost t ⊎ Stands AtMost u) ((x ≤ℤ y) ⊎ (x ≤ℤ w))
    (stands_means AtLeast k u x w factor over)
    (either_means (Stands AtMost t) (x ≤ℤ y) (Stands AtMost u) (x ≤ℤ w)
    (stands_means AtMost (pos d) t x y positive growth) (stands_means AtMost k u x w factor over))))
    (unpaced_means x y w (greater y w) (greater_is y w))
send_means r at d window (Some rate) some ready paced =
    let x : ℤ = pos d *ℤ arrived r at.row at.flow in
    let y : ℤ = pos d *ℤ arrived r (at.row - 1) at.flow in
    let w : ℤ = pos d *ℤ (served r at.heard at.flow +ℤ lost r at.heard at.flow) +ℤ value r at d window.terms in
    let v : ℤ = value r at d rate.terms in
    let z : ℤ = y +ℤ v in
    let growth = growth_value (pos d) (arrived r at.row at.flow) (arrived r (at.row - 1) at.flow) in
    let over = window_value r at d window some ready in
    let faster = rate_value r at d rate some paced in
    let k : ℤ = pos (d / scale_with 1 window.terms) in
    let j : ℤ = pos (d / scale_with 1 rate.terms) in
    let positive : pos 0 <ℤ pos d = omega (arith, ints) in
    let factor = (factor_of d (scale_with 1 window.terms) some (one_divides r at d window ready)).some in
    let factor' = (factor_of d (scale_with 1 rate.terms) some (one_divides r at d rate paced)).some in
    let t : ℤ = total (growth_terms (in_run r) at) in
    let u : ℤ = total (window_terms (in_run r) at window) in
    let s : ℤ = total (rate_terms (in_run r) at rate) in
    let from_growth = stands_means AtLeast (pos d) t x y positive growth in
    let to_growth = stands_means AtMost (pos d) t x y positive growth in
    let from_window = stands_means AtLeast k u x w factor over in
    let to_window = stands_means AtMost k u x w factor over in
    let from_rate = stands_means AtLeast j s x z factor' faster in
    let to_rate = stands_means AtMost j s x z factor' faster in
    then_means (Holds (send_claim (in_run r) at window (Some rate)))
    (((x ≤ℤ y) ⊎ (x ≤ℤ w)) × (((x ≤ℤ y) ⊎ (x ≤ℤ z)) × (((y ≤ℤ x) × (w ≤ℤ x)) ⊎ ((y ≤ℤ x) × (z ≤ℤ x)))))
    (x ≡ lesser (greater y w) (y +ℤ greater v (pos 0)))
    (both_mean (Stands AtMost t ⊎ Stands AtMost u) ((x ≤ℤ y) ⊎ (x ≤ℤ w))
    ((Stands AtMost t ⊎ Stands AtMost s) × ((Stands AtLeast t × Stands AtLeast u) ⊎ (Stands AtLeast t × Stands AtLeast s)))
    (((x ≤ℤ y) ⊎ (x ≤ℤ z)) × (((y ≤ℤ x) × (w ≤ℤ x)) ⊎ ((y ≤ℤ x) × (z ≤ℤ x))))
    (either_means (Stands AtMost t) (x ≤ℤ y) (Stands AtMost u) (x ≤ℤ w) to_growth to_window)
    (both_mean (Stands AtMost t ⊎ Stands AtMost s) ((x ≤ℤ y) ⊎ (x ≤ℤ z))
    ((Stands AtLeast t × Stands AtLeast u) ⊎ (Stands AtLeast t × Stands AtLeast s))
    (((y ≤ℤ x) × (w ≤ℤ x)) ⊎ ((y ≤ℤ x) × (z ≤ℤ x)))
    (either_means (Stands AtMost t) (x ≤ℤ y) (Stands AtMost s) (x ≤ℤ z) to_growth to_rate)
    (either_means (Stands AtLeast t × Stands AtLeast u) ((y ≤ℤ x) × (w ≤ℤ x)) (Stands AtLeast t × Stands AtLeast s) ((y ≤ℤ x) × (z ≤ℤ x))
    (both_mean (Stands AtLeast t) (y ≤ℤ x) (Stands AtLeast u) (w ≤ℤ x) from_growth from_window)
    (both_mean (Stands AtLeast t) (y ≤ℤ x) (Stands AtLeast s) (z ≤ℤ x) from_growth from_rate))))
    (paced_means x y w z (greater y w) (y +ℤ greater v (pos 0)) (lesser (greater y w) (y +ℤ greater v (pos 0)))
    (greater_is y w) (shifted y v (greater v (pos 0)) (greater_is v (pos 0))) (lesser_is (greater y w) (y +ℤ greater v (pos 0))))
