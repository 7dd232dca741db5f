-- Where two numbers with infinitesimals meet, and that they keep their order up to there.
use Rattle.std.proofs.Common.{◌≡◌, ◌⊎◌, inl, inr, refl, sym, ap, subst, ◌∙◌, pos, arith}
use Rattle.ordered_field.specs.Rational.{ℚ, whole, ◌+ℚ◌, ◌*ℚ◌, neg_ℚ, by_one, by_two}
use Rattle.ordered_field.specs.Order.{◌≤ℚ◌, ◌<ℚ◌}
use Rattle.ordered_field.specs.Delta.{DeltaValue, delta_at, ◌≤δ◌}
use Rattle.ordered_field.proofs.Points.{same_point, equal_3}
use Rattle.ordered_field.proofs.RingLaws.{+ℚ-zero, +ℚ-neg, *ℚ_comm, *ℚ_assoc, *ℚ-one, *ℚ-zero, +ℚ-*ℚ, neg_ℚ-*ℚ}
use Rattle.ordered_field.proofs.FieldLaws.{inverse_of, *ℚ_cancel}
use Rattle.ordered_field.proofs.OrderLaws.{≤ℚ_refl, ≤ℚ_trans, <ℚ-≤ℚ, trichotomy}
use Rattle.ordered_field.proofs.OrderFacts.{≤ℚ_from_same, <ℚ-apart, <ℚ-not_≥, <ℚ_from_not_≥, <ℚ-≤ℚ_trans, ≤ℚ-<ℚ_trans, +ℚ-<ℚ_right, +ℚ-≤ℚ_right, +ℚ-≤ℚ_left, +ℚ-<ℚ_left, +ℚ-≤ℚ, *ℚ-≤ℚ_left, *ℚ-<ℚ_left, *ℚ-≥zero, *ℚ-positive}
use Rattle.ordered_field.proofs.DeltaOrder.{≤δ-parts}
use Rattle.corner_values.specs.Epsilon.{IsLeastOf, difference, Approaches, MeetAt}
use Rattle.corner_values.specs.Values.{IsAtLeast, IsAtMost}
use Rattle.corner_values.proofs.LeastLaws.{least_like}

pub difference-positive : (y x : ℚ) → x <ℚ y → whole (pos 0) <ℚ difference y x
difference-positive y x less = subst (λ w. w <ℚ difference y x) (+ℚ-neg x) (+ℚ-<ℚ_right x y (neg_ℚ x) less)

pub difference-apart : (y x : ℚ) → x <ℚ y → difference y x ≡ whole (pos 0) → ⊥
difference-apart y x less e = <ℚ-apart _ _ (difference-positive y x less) (sym e)

pub meet_unique : (x y : DeltaValue) (p q : ℚ) → MeetAt x y p → MeetAt x y q → p ≡ q
meet_unique x y p q one other =
    *ℚ_cancel p q (difference x.inf y.inf) (difference-apart x.inf y.inf one.approach.faster) (one.quotient ∙ sym other.quotient)

-- a product above zero with a factor above zero
quotient_positive : (q d r : ℚ) → whole (pos 0) <ℚ d → whole (pos 0) <ℚ r → q *ℚ d ≡ r → whole (pos 0) <ℚ q
quotient_positive q d r some more e =
    <ℚ_from_not_≥ (whole (pos 0)) q (λ g. <ℚ-not_≥ _ _ more (subst (λ w. w ≤ℚ whole (pos 0)) (*ℚ_comm d q ∙ e) (subst (λ w. d *ℚ q ≤ℚ w) (*ℚ-zero d) (*ℚ-≤ℚ_left d q (whole (pos 0)) (<ℚ-≤ℚ _ _ some) g))))

pub meet_positive : (x y : DeltaValue) (q : ℚ) → MeetAt x y q → whole (pos 0) <ℚ q
meet_positive x y q meet =
    quotient_positive q _ _ (difference-positive x.inf y.inf meet.approach.faster) (difference-positive y.real x.real meet.approach.below) meet.quotient

-- numbers that approach each other meet
pub meets : (x y : DeltaValue) → Approaches x y → (q : ℚ) × MeetAt x y q
meets x y approach =
    let d = difference x.inf y.inf in
    let r = difference y.real x.real in
    let i = inverse_of d (difference-apart x.inf y.inf approach.faster) in
    (r *ℚ i.0, record { approach = approach; quotient = *ℚ_assoc r i.0 d ∙ ap (λ w. r *ℚ w) i.1 ∙ *ℚ-one r })

-- ---- the order is kept up to there

add_left : (p t a : ℚ) → (p +ℚ neg_ℚ t) +ℚ (a +ℚ t) ≡ a +ℚ p
unfolding ◌+ℚ◌ neg_ℚ by_two by_one
add_left = equal_3 (λ p t a. (p +ℚ neg_ℚ t) +ℚ (a +ℚ t)) (λ p t a. a +ℚ p) (λ a b c. same_point _ _ (omega arith))

add_right : (y x t : ℚ) → (y +ℚ neg_ℚ x) +ℚ (x +ℚ t) ≡ y +ℚ t
unfolding ◌+ℚ◌ neg_ℚ by_two by_one
add_right = equal_3 (λ y x t. (y +ℚ neg_ℚ x) +ℚ (x +ℚ t)) (λ y x t. y +ℚ t) (λ a b c. same_point _ _ (omega arith))

-- (b - c) * e at most y - a
from_difference : (a b y c e : ℚ) → difference b c *ℚ e ≤ℚ difference y a → a +ℚ b *ℚ e ≤ℚ y +ℚ c *ℚ e
from_difference a b y c e h =
    let parted : difference b c *ℚ e ≡ b *ℚ e +ℚ neg_ℚ (c *ℚ e) = +ℚ-*ℚ b (neg_ℚ c) e ∙ ap (λ w. b *ℚ e +ℚ w) (neg_ℚ-*ℚ c e) in
    let both : difference b c *ℚ e +ℚ (a +ℚ c *ℚ e) ≤ℚ difference y a +ℚ (a +ℚ c *ℚ e) = +ℚ-≤ℚ_right _ _ (a +ℚ c *ℚ e) h in
    subst (λ w. w ≤ℚ y +ℚ c *ℚ e) (ap (λ w. w +ℚ (a +ℚ c *ℚ e)) parted ∙ add_left (b *ℚ e) (c *ℚ e) a) (subst (λ w. difference b c *ℚ e +ℚ (a +ℚ c *ℚ e) ≤ℚ w) (add_right y a (c *ℚ e)) both)

scaled : (a b e : ℚ) → whole (pos 0) ≤ℚ e → a ≤ℚ b → a *ℚ e ≤ℚ b *ℚ e
scaled a b e some h = rw (*ℚ_comm a e, *ℚ_comm b e) (*ℚ-≤ℚ_left e a b some h)

pub order_kept : (x y : DeltaValue) (e : ℚ) → x ≤δ y → whole (pos 0) <ℚ e → ((q : ℚ) → MeetAt x y q → e ≤ℚ q) → delta_at x e ≤ℚ delta_at y e
order_kept x y e h some least = by (≤δ-parts x y h).either
  where
    by_both : x.real ≤ℚ y.real → x.inf ≤ℚ y.inf → delta_at x e ≤ℚ delta_at y e
    by_both real inf = +ℚ-≤ℚ _ _ _ _ real (scaled x.inf y.inf e (<ℚ-≤ℚ _ _ some) inf)

    by_meeting : x.real <ℚ y.real → y.inf <ℚ x.inf → delta_at x e ≤ℚ delta_at y e
    by_meeting real inf =
        let m = meets x y (record { below = real; faster = inf }) in
        let d = difference x.inf y.inf in
        let up : d *ℚ e ≤ℚ d *ℚ m.0 = *ℚ-≤ℚ_left d e m.0 (<ℚ-≤ℚ _ _ (difference-positive x.inf y.inf inf)) (least m.0 m.1) in
        from_difference x.real x.inf y.real y.inf e (subst (λ w. d *ℚ e ≤ℚ w) (*ℚ_comm d m.0 ∙ m.1.quotient) up)

    by_infs : x.real <ℚ y.real → (x.inf <ℚ y.inf) ⊎ ((x.inf ≡ y.inf) ⊎ (y.inf <ℚ x.inf)) → delta_at x e ≤ℚ delta_at y e
    by_infs real (inl less) = by_both (<ℚ-≤ℚ _ _ real) (<ℚ-≤ℚ _ _ less)
    by_infs real (inr (inl same)) = by_both (<ℚ-≤ℚ _ _ real) (≤ℚ_from_same _ _ same)
    by_infs real (inr (inr more)) = by_meeting real more

    by : (x.real <ℚ y.real) ⊎ ((x.real ≡ y.real) × (x.inf ≤ℚ y.inf)) → delta_at x e ≤ℚ delta_at y e
    by (inl less) = by_infs less (trichotomy x.inf y.inf)
    by (inr k) = by_both (≤ℚ_from_same _ _ k.0) k.1

-- ---- what a number within a limit with an infinitesimal part keeps

pub at_least_by : (x e : ℚ) (limit : DeltaValue) → whole (pos 0) <ℚ e → delta_at limit e ≤ℚ x → IsAtLeast x limit
at_least_by x e limit some h = record {
  not_below = λ j. ≤ℚ_trans _ _ _ (subst (λ w. w ≤ℚ delta_at limit e) (+ℚ-zero limit.real) (+ℚ-≤ℚ_left _ _ limit.real (*ℚ-≥zero limit.inf e j (<ℚ-≤ℚ _ _ some)))) h;
  above = λ j. <ℚ-≤ℚ_trans _ _ _ (subst (λ w. w <ℚ delta_at limit e) (+ℚ-zero limit.real) (+ℚ-<ℚ_left _ _ limit.real (*ℚ-positive limit.inf e j some))) h;
}

below_zero : (j e : ℚ) → whole (pos 0) <ℚ e → j ≤ℚ whole (pos 0) → j *ℚ e ≤ℚ whole (pos 0)
below_zero j e some h = subst (λ w. w ≤ℚ whole (pos 0)) (*ℚ_comm e j) (subst (λ w. e *ℚ j ≤ℚ w) (*ℚ-zero e) (*ℚ-≤ℚ_left e j _ (<ℚ-≤ℚ _ _ some) h))

negative_product : (j e : ℚ) → whole (pos 0) <ℚ e → j <ℚ whole (pos 0) → j *ℚ e <ℚ whole (pos 0)
negative_product j e some h = subst (λ w. w <ℚ whole (pos 0)) (*ℚ_comm e j) (subst (λ w. e *ℚ j <ℚ w) (*ℚ-zero e) (*ℚ-<ℚ_left e j _ some h))

pub at_most_by : (x e : ℚ) (limit : DeltaValue) → whole (pos 0) <ℚ e → x ≤ℚ delta_at limit e → IsAtMost x limit
at_most_by x e limit some h = record {
  not_above = λ j. ≤ℚ_trans _ _ _ h (subst (λ w. delta_at limit e ≤ℚ w) (+ℚ-zero limit.real) (+ℚ-≤ℚ_left _ _ limit.real (below_zero limit.inf e some j)));
  below = λ j. ≤ℚ-<ℚ_trans _ _ _ h (subst (λ w. delta_at limit e <ℚ w) (+ℚ-zero limit.real) (+ℚ-<ℚ_left _ _ limit.real (negative_product limit.inf e some j)));
}

-- ---- the least number up to a meeting

pub least_up_to_meeting : (x y : DeltaValue) (old n new : ℚ) → MeetAt x y n → IsLeastOf old (λ q. q ≡ n) new → IsLeastOf old (MeetAt x y) new
least_up_to_meeting x y old n new meet least =
    least_like old (λ q. q ≡ n) (MeetAt x y) new (λ q e. subst (MeetAt x y) (sym e) meet) (λ q other. meet_unique x y q n other meet) least

-- a product with an inverse, times the number itself
pub divided : (n d i q : ℚ) → i *ℚ d ≡ whole (pos 1) → q ≡ n *ℚ i → q *ℚ d ≡ n
divided n d i q inverts e = ap (λ w. w *ℚ d) e ∙ *ℚ_assoc n i d ∙ ap (λ w. n *ℚ w) inverts ∙ *ℚ-one n
