-- The weighed comparisons of a rule mean the rule's inequalities.
use Rattle.std.proofs.Common.{◌≡◌, ℕ, zero, suc, ◌-◌, ℤ, pos, negsuc, ◌+ℤ◌, ◌-ℤ◌, ◌*ℤ◌, ◌≤ℤ◌, ◌<ℤ◌, neg_ℤ, ◌⊎◌, inl, inr, Option, Some, None, List, [], ◌∷◌, ◌++◌, refl, ◌∙◌, ap, subst, arith, append_assoc}
use Rattle.std.proofs.lemmas.Int.{ints}
use Rattle.std.proofs.lemmas.Bool.{lt-ltb, ne_eqb}
use Rattle.std.specs.Prelude.{◌==◌, nat_lt, true, false}
use Rattle.std.proofs.Math.IntN.{*ℤ_comm}
use Rattle.whole.specs.declared.answers.Pair.{Pair}
use Rattle.whole.proofs.Integers.{<ℤ-not-≤ℤ, *ℤ-≤ℤ, ≤ℤ_of_*ℤ, ≤ℤ_or_>, *ℤ-+ℤ, neg_ℤ-*ℤ}
use Rattle.weighing.specs.Claim.{Holds, all_claims, compare, total}
use Rattle.weighing.specs.Weighed.{times}
use Rattle.weighing.specs.declared.weighings.Summand.{Summand}
use Rattle.weighing.specs.declared.weighings.Rel5.TheVariants.{AtMost, AtLeast}
use Rattle.run_rows.specs.Runs.{flow_count, lost, waste}
use Rattle.run_rows.specs.declared.rows.Run.{Run}
use Rattle.claims.specs.Subjects.{in_run}
use Rattle.path_server.specs.Claims.{Factors, acceptance_claims, accepted, allowance, buffer_claims, ceiling_claims, common_scale, floor_claims, full_or_none, growth_claims, loss_claims, new_losses, nothing_waits, opposite, queue_fits, queue_was_full, rate_scale, room, rule_claims, service, service_claims, start_claims, waste_claims, waste_rate_claims}
use Rattle.path_server.specs.Limits.{IsBuffer, IsNumber, IsServer}
use Rattle.path_server.specs.Rules.{FilledBuffer, FitsBuffer, RuleHolds, all_accepted, all_lost, all_served, allowed, buffer, buffer_den, rate, unit}
use Rattle.path_server.specs.Servers.{Server}
use Rattle.path_server.specs.declared.path_rules.PathRule.{PathRule}
use Rattle.path_server.specs.declared.path_rules.PathRule.TheVariants.{Start, Growth, Service, Ceiling, Floor, Waste, Acceptance, Buffer, Loss, WasteRate}
use Rattle.path_server.proofs.Measures.{opposite_factor, into_term, two_terms, accepted_measured, allowance_measured, opposite_measures, room_measured, service_measured}
use Rattle.path_server.proofs.ScaleLaws.{common_cofactor, common_measures, rate_measures}
use Rattle.path_server.proofs.Totals.{total-append, total-each_flow_2}

-- the one says what the other says
abbrev pub Means : Type 0 → Type 0 → Type 0
Means P Q = (P → Q) × (Q → P)

nothing_said : Means (Unit {0}) (Unit {0})
nothing_said = (λ h. tt, λ h. tt)

-- what is added and what is taken off, both measured by the same k above 0
pub difference_means : (k t x y e f : ℤ) → pos 0 <ℤ k → t ≡ x +ℤ y → k *ℤ x ≡ e → neg_ℤ k *ℤ y ≡ f → Means (pos 0 ≤ℤ t) (f ≤ℤ e)
difference_means k t x y e f some parts added taken =
    let split : k *ℤ t ≡ e -ℤ f = (ap (λ n. k *ℤ n) parts ∙ *ℤ-+ℤ k x y ∙ (let turned = neg_ℤ-*ℤ k y in omega (arith, ints))) in
    let none : k *ℤ pos 0 ≡ pos 0 = omega (arith, ints) in (
      λ h. let scaled = *ℤ-≤ℤ k (pos 0) t (omega (arith, ints)) h in omega (arith, ints),
      λ h. ≤ℤ_of_*ℤ k (pos 0) t some (omega (arith, ints)),
    )

-- a row after row 0, and a flow, are not numbered 0
some_is_not_none : (n : ℕ) → (suc n == 0) ≡ false
some_is_not_none n = ne_eqb (suc n) 0 (λ e. omega arith)

none_is_less : (n : ℕ) → nat_lt 0 (suc n) ≡ true
none_is_less n = lt-ltb 0 (suc n) (omega arith)

row_before : (i : ℕ) → suc i - 1 ≡ i
row_before i = omega arith

start_means : (p : Server) (r : Run) (i f : ℕ) → Means (Holds (all_claims (start_claims (in_run r) i f))) (RuleHolds p r Start i f)
unfolding start_claims
start_means p r zero zero = (λ h. (omega (arith, ints), omega (arith, ints)), λ h. (omega (arith, ints), omega (arith, ints)))
start_means p r zero (suc f) =
    rw some_is_not_none
    (λ h. (omega (arith, ints), omega (arith, ints), omega (arith, ints)), λ h. (omega (arith, ints), (omega (arith, ints), omega (arith, ints))))
start_means p r (suc i) f = rw none_is_less nothing_said

growth_means : (p : Server) (r : Run) (i f : ℕ) → Means (Holds (all_claims (growth_claims (in_run r) i f))) (RuleHolds p r Growth i f)
unfolding growth_claims
growth_means p r zero f = nothing_said
growth_means p r (suc i) zero = rw (some_is_not_none, row_before i) (λ h. omega (arith, ints), λ h. omega (arith, ints))
growth_means p r (suc i) (suc f) =
    rw (some_is_not_none i, some_is_not_none f, row_before i)
    (λ h. (omega (arith, ints), omega (arith, ints), omega (arith, ints)), λ h. (omega (arith, ints), (omega (arith, ints), omega (arith, ints))))

service_means : (p : Server) (r : Run) (i f : ℕ) → Means (Holds (all_claims (service_claims (in_run r) i f))) (RuleHolds p r Service i f)
unfolding service_claims
service_means p r i zero = nothing_said
service_means p r i (suc f) = rw some_is_not_none (λ h. omega (arith, ints), λ h. omega (arith, ints))

-- the buffer's denominator is above 0
some_buffer_den : (p : Server) → IsServer p → pos 0 <ℤ buffer_den p.buffer
some_buffer_den p path = by p.buffer path.buffer
  where
    by : (b : Option Pair) → IsBuffer b → pos 0 <ℤ buffer_den b
    by None number = omega (arith, ints)
    by (Some b) number = let from = number.den_from in omega (arith, ints)

ceiling_means : (p : Server) (r : Run) (i f : ℕ) → IsServer p → Means (Holds (all_claims (ceiling_claims (in_run r) (flow_count r 0) p i f))) (RuleHolds p r Ceiling i f)
unfolding ceiling_claims
ceiling_means p r i zero path =
    let m = rate_measures p in
    let o = opposite_measures p (rate_scale p) (buffer_den p.buffer) m in
    difference_means (buffer_den p.buffer) _ _ _ (allowed p r i 0) (unit p *ℤ all_served r i) (some_buffer_den p path)
    (total-append (allowance (in_run r) p (rate_scale p) i 0) (service (in_run r) (flow_count r 0) (opposite (rate_scale p)) i))
    (allowance_measured p r (rate_scale p) (buffer_den p.buffer) i 0 m)
    (service_measured p r (opposite (rate_scale p)) (neg_ℤ (buffer_den p.buffer)) i o)
ceiling_means p r i (suc f) path = rw none_is_less nothing_said

floor_means : (p : Server) (r : Run) (i f : ℕ) → IsServer p → Means (Holds (all_claims (floor_claims (in_run r) (flow_count r 0) p i f))) (RuleHolds p r Floor i f)
unfolding floor_claims
floor_means p r i zero path =
    let m = rate_measures p in
    let o = opposite_measures p (rate_scale p) (buffer_den p.buffer) m in
    difference_means (buffer_den p.buffer) _ _ _ (unit p *ℤ all_served r i) (allowed p r i p.jitter) (some_buffer_den p path)
    (total-append (service (in_run r) (flow_count r 0) (rate_scale p) i) (allowance (in_run r) p (opposite (rate_scale p)) i p.jitter))
    (service_measured p r (rate_scale p) (buffer_den p.buffer) i m)
    (allowance_measured p r (opposite (rate_scale p)) (neg_ℤ (buffer_den p.buffer)) i p.jitter o)
floor_means p r i (suc f) path = rw none_is_less nothing_said

-- one of two comparisons, of which the first denies a premise
either_means : (a b : ℤ) (P Q R : Type 0) → Means P (a ≤ℤ b) → Means Q R → Means (P ⊎ Q) (b <ℤ a → R)
either_means a b P Q R first second = (there, back (≤ℤ_or_> a b))
  where
    there : P ⊎ Q → b <ℤ a → R
    there (inl h) less = absurd (<ℤ-not-≤ℤ b a less (first.0 h))
    there (inr h) less = second.0 h

    back : (a ≤ℤ b) ⊎ (b <ℤ a) → (b <ℤ a → R) → P ⊎ Q
    back (inl le) rule = inl (first.1 le)
    back (inr less) rule = inr (second.1 (rule less))

no_waste_means : (r : Run) (i h : ℕ)
    → Means (Holds (compare (times (pos 1) (waste r i) ∷ times (negsuc 0) (waste r h) ∷ []) AtMost)) (waste r i ≤ℤ waste r h)
no_waste_means r i h = (λ c. omega (arith, ints), λ c. omega (arith, ints))

empty_means : (p : Server) (r : Run) (i : ℕ) → IsServer p
    → Means (Holds (nothing_waits (in_run r) (flow_count r 0) p i)) ((unit p *ℤ all_accepted r i) ≤ℤ allowed p r i 0)
unfolding nothing_waits
empty_means p r i path =
    let m = rate_measures p in
    let o = opposite_measures p (rate_scale p) (buffer_den p.buffer) m in
    difference_means (buffer_den p.buffer) _ _ _ (allowed p r i 0) (unit p *ℤ all_accepted r i) (some_buffer_den p path)
    (total-append (allowance (in_run r) p (rate_scale p) i 0) (accepted (in_run r) (flow_count r 0) (opposite (rate_scale p)) i))
    (allowance_measured p r (rate_scale p) (buffer_den p.buffer) i 0 m)
    (accepted_measured p r (opposite (rate_scale p)) (neg_ℤ (buffer_den p.buffer)) i o)

waste_means : (p : Server) (r : Run) (i f : ℕ) → IsServer p → Means (Holds (all_claims (waste_claims (in_run r) (flow_count r 0) p i f))) (RuleHolds p r Waste i f)
unfolding waste_claims
waste_means p r zero f path = nothing_said
waste_means p r (suc i) zero path =
    rw (some_is_not_none i, row_before i)
    (either_means (waste r (suc i)) (waste r i) _ _ _ (no_waste_means r (suc i) i) (empty_means p r (suc i) path))
waste_means p r (suc i) (suc f) path = rw (some_is_not_none i, none_is_less f) nothing_said

acceptance_means : (p : Server) (r : Run) (i f : ℕ) → Means (Holds (all_claims (acceptance_claims (in_run r) i f))) (RuleHolds p r Acceptance i f)
unfolding acceptance_claims
acceptance_means p r zero f = nothing_said
acceptance_means p r (suc i) zero = rw some_is_not_none nothing_said
acceptance_means p r (suc i) (suc f) =
    rw (some_is_not_none i, some_is_not_none f, row_before i) (λ h. omega (arith, ints), λ h. omega (arith, ints))

waste_rate_row : (p : Server) (r : Run) (i h : ℕ) → IsServer p
    → Means (Holds (compare (times p.rate.num r.over ∷ times (neg_ℤ p.rate.den) (waste r i) ∷ times p.rate.den (waste r h) ∷ []) AtLeast))
    ((unit p *ℤ (waste r i -ℤ waste r h)) ≤ℤ (rate p *ℤ r.over))
waste_rate_row p r i h path =
    let k : ℤ = buffer_den p.buffer in
    let o = opposite_measures p (rate_scale p) k (rate_measures p) in
    let wasted : ℤ = neg_ℤ p.rate.den *ℤ waste r i +ℤ (p.rate.den *ℤ waste r h +ℤ pos 0) in
    let taken : neg_ℤ k *ℤ wasted ≡ unit p *ℤ (waste r i -ℤ waste r h) =
    two_terms (neg_ℤ k) (neg_ℤ p.rate.den) p.rate.den (unit p) (waste r i) (waste r h) o.unit_is o.minus_is in
    difference_means k _ (p.rate.num *ℤ r.over) wasted (rate p *ℤ r.over) (unit p *ℤ (waste r i -ℤ waste r h)) (some_buffer_den p path)
    refl (into_term k p.rate.num (rate p) r.over (*ℤ_comm k p.rate.num)) taken

waste_rate_means : (p : Server) (r : Run) (i f : ℕ) → IsServer p → Means (Holds (all_claims (waste_rate_claims (in_run r) p i f))) (RuleHolds p r WasteRate i f)
unfolding waste_rate_claims
waste_rate_means p r zero f path = nothing_said
waste_rate_means p r (suc i) zero path = rw (some_is_not_none i, row_before i) (waste_rate_row p r (suc i) i path)
waste_rate_means p r (suc i) (suc f) path = rw (some_is_not_none i, none_is_less f) nothing_said

-- a path's buffer is a number of the files
buffer_number : (p : Server) (b : Pair) → IsServer p → p.buffer ≡ Some b → IsNumber b
buffer_number p b path is = subst IsBuffer is path.buffer

-- two parts that k measures, joined
joined_measures : (k : ℤ) (xs ys : List Summand) (e f : ℤ) → k *ℤ total xs ≡ e → k *ℤ total ys ≡ f → k *ℤ total (xs ++ ys) ≡ e +ℤ f
joined_measures k xs ys e f one two =
    ap (λ n. k *ℤ n) (total-append xs ys) ∙ *ℤ-+ℤ k (total xs) (total ys) ∙ (omega (arith, ints))

-- what the rule of the buffer says, for each buffer that a path may have
abbrev BufferHolds : Server → Run → ℕ → ℕ → Option Pair → Type 0
BufferHolds p r i zero b = FitsBuffer p r i b
BufferHolds p r i (suc f) b = Unit {0}

not_less : (a b : ℤ) → (a <ℤ b → ⊥) → b ≤ℤ a
not_less a b denied = elim (≤ℤ_or_> b a) [ inl le ↦ le | inr lt ↦ absurd (denied lt) ]

queue_fits_means : (p : Server) (b : Pair) (r : Run) (i : ℕ) → IsServer p → p.buffer ≡ Some b
    → Means (Holds (queue_fits (in_run r) (flow_count r 0) p b i)) (FitsBuffer p r i (Some b))
unfolding queue_fits
queue_fits_means p b r i path is =
    let s : Factors = common_scale p b in
    let k : ℤ = common_cofactor p b in
    let m = common_measures p b path (buffer_number p b path is) is in
    let o = opposite_measures p s k m.measures in
    difference_means k _ _ _ (allowed p r i 0 +ℤ buffer p b *ℤ r.over) (unit p *ℤ all_accepted r i) m.some
    (total-append (allowance (in_run r) p s i 0 ++ room (in_run r) b s) (accepted (in_run r) (flow_count r 0) (opposite s) i))
    (joined_measures k (allowance (in_run r) p s i 0) (room (in_run r) b s) _ _ (allowance_measured p r s k i 0 m.measures) (room_measured p b r s k m.buffer_is))
    (accepted_measured p r (opposite s) (neg_ℤ k) i o)

buffer_means_at : (p : Server) (r : Run) (i f : ℕ) (b : Option Pair) → IsServer p → p.buffer ≡ b
    → Means (Holds (all_claims (buffer_claims (in_run r) (flow_count r 0) p b i f))) (BufferHolds p r i f b)
unfolding buffer_claims
buffer_means_at p r i zero None path is = nothing_said
buffer_means_at p r i (suc f) None path is = nothing_said
buffer_means_at p r i zero (Some b) path is = queue_fits_means p b r i path is
buffer_means_at p r i (suc f) (Some b) path is = rw none_is_less nothing_said

no_loss_means : (r : Run) (i h : ℕ) → Means (Holds (compare (new_losses (in_run r) (flow_count r 0) i h) AtMost)) (all_lost r i ≤ℤ all_lost r h)
no_loss_means r i h =
    let sums = total-each_flow_2 (pos 1) (negsuc 0) (lost r i) (lost r h) (flow_count r 0) in
    (λ c. omega (arith, ints), λ c. omega (arith, ints))

queue_was_full_means : (p : Server) (b : Pair) (r : Run) (i h : ℕ) → IsServer p → p.buffer ≡ Some b
    → Means (Holds (queue_was_full (in_run r) (flow_count r 0) p b i h)) (FilledBuffer p r i h (Some b))
unfolding queue_was_full
queue_was_full_means p b r i h path is =
    let s : Factors = common_scale p b in
    let k : ℤ = common_cofactor p b in
    let m = common_measures p b path (buffer_number p b path is) is in
    let o = opposite_measures p s k m.measures in
    let queue : List Summand = accepted (in_run r) (flow_count r 0) s i in
    let served : List Summand = allowance (in_run r) p (opposite s) h 0 in
    let room_left : List Summand = room (in_run r) b (opposite s) in
    let parts : total ((queue ++ served) ++ room_left) ≡ total queue +ℤ total (served ++ room_left) =
    (ap total (append_assoc queue served room_left) ∙ total-append queue (served ++ room_left)) in
    difference_means k _ _ _ (unit p *ℤ all_accepted r i) (allowed p r h 0 +ℤ buffer p b *ℤ r.over) m.some parts
    (accepted_measured p r s k i m.measures)
    (joined_measures (neg_ℤ k) served room_left _ _ (allowance_measured p r (opposite s) (neg_ℤ k) h 0 o)
    (room_measured p b r (opposite s) (neg_ℤ k) (opposite_factor k s.buffer p.rate.den m.buffer_is)))

loss_means_at : (p : Server) (r : Run) (i h : ℕ) (b : Option Pair) → IsServer p → p.buffer ≡ b
    → Means (Holds (full_or_none (in_run r) (flow_count r 0) p b i h)) (all_lost r h <ℤ all_lost r i → FilledBuffer p r i h b)
unfolding full_or_none
loss_means_at p r i h None path is =
    let m = no_loss_means r i h in
    (λ c less. <ℤ-not-≤ℤ (all_lost r h) (all_lost r i) less (m.0 c), λ rule. m.1 (not_less (all_lost r h) (all_lost r i) rule))
loss_means_at p r i h (Some b) path is =
    either_means (all_lost r i) (all_lost r h) _ _ _ (no_loss_means r i h) (queue_was_full_means p b r i h path is)

loss_means : (p : Server) (r : Run) (i f : ℕ) → IsServer p → Means (Holds (all_claims (loss_claims (in_run r) (flow_count r 0) p p.buffer i f))) (RuleHolds p r Loss i f)
unfolding loss_claims
loss_means p r zero f path = nothing_said
loss_means p r (suc i) zero path = rw (some_is_not_none i, row_before i) (loss_means_at p r (suc i) i p.buffer path refl)
loss_means p r (suc i) (suc f) path = rw (some_is_not_none i, none_is_less f) nothing_said

-- each rule's comparisons hold exactly where its inequalities do
pub claims_mean_rules : (p : Server) (r : Run) (rule : PathRule) (i f : ℕ) → IsServer p
    → (Holds (all_claims (rule_claims (in_run r) (flow_count r 0) p rule i f)) → RuleHolds p r rule i f) × (RuleHolds p r rule i f → Holds (all_claims (rule_claims (in_run r) (flow_count r 0) p rule i f)))
claims_mean_rules p r Start i f path = start_means p r i f
claims_mean_rules p r Growth i f path = growth_means p r i f
claims_mean_rules p r Service i f path = service_means p r i f
claims_mean_rules p r Ceiling i f path = ceiling_means p r i f path
claims_mean_rules p r Floor i f path = floor_means p r i f path
claims_mean_rules p r Waste i f path = waste_means p r i f path
claims_mean_rules p r Acceptance i f path = acceptance_means p r i f
claims_mean_rules p r Buffer i zero path = buffer_means_at p r i zero p.buffer path refl
claims_mean_rules p r Buffer i (suc f) path = buffer_means_at p r i (suc f) p.buffer path refl
claims_mean_rules p r Loss i f path = loss_means p r i f path
claims_mean_rules p r WasteRate i f path = waste_rate_means p r i f path
