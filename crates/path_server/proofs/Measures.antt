-- The parts of the comparisons, measured in the unit of the path's inequalities: a positive number of times their exact sums.
use Rattle.std.proofs.Common.{◌≡◌, ℕ, ℤ, pos, ◌+ℤ◌, ◌-ℤ◌, ◌*ℤ◌, ◌-◌, neg_ℤ, sym, ◌∙◌, ap, arith}
use Rattle.std.proofs.lemmas.Int.{ints}
use Rattle.std.proofs.Math.IntN.{*ℤ_comm}
use Rattle.whole.specs.declared.answers.Pair.{Pair}
use Rattle.whole.proofs.Integers.{*ℤ-+ℤ, *ℤ_assoc, neg_ℤ-*ℤ, *ℤ-neg_ℤ}
use Rattle.weighing.specs.Claim.{total}
use Rattle.claims.specs.Subjects.{in_run}
use Rattle.run_rows.specs.Runs.{arrived, flow_count, lost, over_flows, served, waste}
use Rattle.run_rows.specs.declared.rows.Run.{Run}
use Rattle.path_server.specs.Claims.{Factors, accepted, allowance, opposite, room, service}
use Rattle.path_server.specs.Rules.{all_accepted, all_served, allowed, buffer, buffer_den, unit}
use Rattle.path_server.specs.Servers.{Server}
use Rattle.path_server.proofs.Totals.{total-each_flow, total-each_flow_2}

-- k times the factors are those of the inequalities
pub record Measures (p : Server) (s : Factors) (k : ℤ) : Type 0 where
  pub unit_is : k *ℤ s.unit ≡ unit p
  pub minus_is : k *ℤ s.minus ≡ neg_ℤ (unit p)
  pub rate_is : k *ℤ s.rate ≡ buffer_den p.buffer

-- so are -k times the opposite factors
pub opposite_factor : (k c u : ℤ) → k *ℤ c ≡ u → neg_ℤ k *ℤ neg_ℤ c ≡ u
opposite_factor k c u e =
    let turned = neg_ℤ-*ℤ k (neg_ℤ c) in
    let twice = *ℤ-neg_ℤ k c in omega (arith, ints)

swapped_factor : (k c u : ℤ) → k *ℤ c ≡ u → neg_ℤ k *ℤ c ≡ neg_ℤ u
swapped_factor k c u e = neg_ℤ-*ℤ k c ∙ ap neg_ℤ e

neg_neg : (a : ℤ) → neg_ℤ (neg_ℤ a) ≡ a
neg_neg a = omega (arith, ints)

pub opposite_measures : (p : Server) (s : Factors) (k : ℤ) → Measures p s k → Measures p (opposite s) (neg_ℤ k)
opposite_measures p s k m = record {
  unit_is = swapped_factor k s.minus (neg_ℤ (unit p)) m.minus_is ∙ neg_neg (unit p);
  minus_is = swapped_factor k s.unit (unit p) m.unit_is;
  rate_is = opposite_factor k s.rate (buffer_den p.buffer) m.rate_is;
}

-- a factor goes into a term
pub into_term : (k c u y : ℤ) → k *ℤ c ≡ u → k *ℤ (c *ℤ y) ≡ u *ℤ y
into_term k c u y e = sym (*ℤ_assoc k c y) ∙ ap (λ n. n *ℤ y) e

-- and into the rate's multiple
into_rate : (k n z c b o : ℤ) → k *ℤ c ≡ b → k *ℤ (n *ℤ z *ℤ c *ℤ o) ≡ n *ℤ b *ℤ z *ℤ o
into_rate k n z c b o e =
    into_term k (n *ℤ z *ℤ c) (n *ℤ b *ℤ z) o (
    sym (*ℤ_assoc k (n *ℤ z) c)
    ∙ ap (λ w. w *ℤ c) (*ℤ_comm k (n *ℤ z))
    ∙ *ℤ_assoc (n *ℤ z) k c
    ∙ ap (λ w. n *ℤ z *ℤ w) e
    ∙ *ℤ_assoc n z b
    ∙ ap (λ w. n *ℤ w) (*ℤ_comm z b)
    ∙ sym (*ℤ_assoc n b z)
    )

-- the unit, once added and once taken off
unit_of_both : (u x y : ℤ) → u *ℤ x +ℤ neg_ℤ u *ℤ y ≡ u *ℤ (x -ℤ y)
unit_of_both u x y =
    let split = *ℤ-+ℤ u x (neg_ℤ y) in
    let one = neg_ℤ-*ℤ u y in
    let two = *ℤ-neg_ℤ u y in omega (arith, ints)

-- two terms, whose factors k brings to the unit and to the unit with its sign turned
pub two_terms : (k c d u x y : ℤ) → k *ℤ c ≡ u → k *ℤ d ≡ neg_ℤ u → k *ℤ (c *ℤ x +ℤ (d *ℤ y +ℤ pos 0)) ≡ u *ℤ (x -ℤ y)
two_terms k c d u x y e g =
    let parts : k *ℤ (c *ℤ x +ℤ (d *ℤ y +ℤ pos 0)) ≡ k *ℤ (c *ℤ x) +ℤ k *ℤ (d *ℤ y) = simp *ℤ-+ℤ (omega (arith, ints)) in
    let one = into_term k c u x e in
    let two = into_term k d (neg_ℤ u) y g in
    let both = unit_of_both u x y in cc

-- three terms, the last followed by nothing
three_terms : (k a b c : ℤ) → k *ℤ (a +ℤ (b +ℤ (c +ℤ pos 0))) ≡ k *ℤ a +ℤ (k *ℤ b +ℤ k *ℤ c)
three_terms k a b c = simp *ℤ-+ℤ (omega (arith, ints))

pub allowance_measured : (p : Server) (r : Run) (s : Factors) (k : ℤ) (i d : ℕ) → Measures p s k
    → k *ℤ total (allowance (in_run r) p s i d) ≡ allowed p r i d
allowance_measured p r s k i d m =
    let span : ℤ = pos i -ℤ pos d in
    let parts = three_terms k (p.rate.num *ℤ span *ℤ s.rate *ℤ r.over) (s.unit *ℤ r.credit) (s.minus *ℤ waste r (i - d)) in
    let rate = into_rate k p.rate.num span s.rate (buffer_den p.buffer) r.over m.rate_is in
    let credit = into_term k s.unit (unit p) r.credit m.unit_is in
    let wasted = into_term k s.minus (neg_ℤ (unit p)) (waste r (i - d)) m.minus_is in
    let both = unit_of_both (unit p) r.credit (waste r (i - d)) in
    cc

pub service_measured : (p : Server) (r : Run) (s : Factors) (k : ℤ) (i : ℕ) → Measures p s k
    → k *ℤ total (service (in_run r) (flow_count r 0) s i) ≡ unit p *ℤ all_served r i
service_measured p r s k i m =
    ap (λ n. k *ℤ n) (total-each_flow s.unit (served r i) (flow_count r 0)) ∙ into_term k s.unit (unit p) (all_served r i) m.unit_is

pub accepted_measured : (p : Server) (r : Run) (s : Factors) (k : ℤ) (i : ℕ) → Measures p s k
    → k *ℤ total (accepted (in_run r) (flow_count r 0) s i) ≡ unit p *ℤ all_accepted r i
accepted_measured p r s k i m =
    let arrivals : ℤ = over_flows (arrived r i) (flow_count r 0) in
    let losses : ℤ = over_flows (lost r i) (flow_count r 0) in
    ap (λ n. k *ℤ n) (total-each_flow_2 s.unit s.minus (arrived r i) (lost r i) (flow_count r 0))
    ∙ *ℤ-+ℤ k (s.unit *ℤ arrivals) (s.minus *ℤ losses)
    ∙ (let one = into_term k s.unit (unit p) arrivals m.unit_is in
    let two = into_term k s.minus (neg_ℤ (unit p)) losses m.minus_is in
    let both = unit_of_both (unit p) arrivals losses in cc)

pub room_measured : (p : Server) (b : Pair) (r : Run) (s : Factors) (k : ℤ) → k *ℤ s.buffer ≡ p.rate.den
    → k *ℤ total (room (in_run r) b s) ≡ buffer p b *ℤ r.over
room_measured p b r s k e =
    let inner : k *ℤ (b.num *ℤ s.buffer) ≡ b.num *ℤ p.rate.den =
    (sym (*ℤ_assoc k b.num s.buffer) ∙ ap (λ w. w *ℤ s.buffer) (*ℤ_comm k b.num) ∙ *ℤ_assoc b.num k s.buffer ∙ ap (λ w. b.num *ℤ w) e) in
    ap (λ n. k *ℤ n) (plus_none (b.num *ℤ s.buffer *ℤ r.over)) ∙ into_term k (b.num *ℤ s.buffer) (b.num *ℤ p.rate.den) r.over inner
  where
    plus_none : (x : ℤ) → x +ℤ pos 0 ≡ x
    plus_none x = omega (arith, ints)
