-- The claims of a path within the limits are small.
use Rattle.std.proofs.Common.{◌≡◌, ℕ, zero, suc, ◌+◌, ◌-◌, ◌*◌, ◌<◌, ◌≤◌, ◌==◌, ◌^◌, ℤ, pos, negsuc, ◌-ℤ◌, ◌*ℤ◌, neg_ℤ, unsigned_abs, Option, Some, None, List, [], ◌∷◌, ◌++◌, length, length-append, subst, arith}
use Rattle.std.specs.Prelude.{All, nat_lt, ◌≤ℤ◌, flat_map}
use Rattle.std.proofs.lemmas.Int.{ints}
use Rattle.std.proofs.lemmas.List.Elements.{All-append, All-cons, All-head, All-nil, All-tail}
use Rattle.whole.specs.Numbers.{lcm_of}
use Rattle.whole.specs.declared.answers.Pair.{Pair}
use Rattle.whole.proofs.Integers.{unsigned_abs-neg_ℤ}
use Rattle.weighing.specs.First.{below}
use Rattle.weighing.specs.declared.weighings.Rel5.{Rel5}
use Rattle.claims.specs.Subjects.{Part, Subject, Symbolic, constant, each_flow, entry, of_arrivals, of_losses, of_service, part}
use Rattle.path_server.specs.Claims.{Factors, acceptance_claims, accepted, allowance, buffer_claims, ceiling_claims, common_scale, floor_claims, full_or_none, growth_claims, loss_claims, new_losses, nothing_waits, opposite, queue_fits, queue_was_full, rate_scale, room, rule_claims, service, service_claims, start_claims, waste_claims, waste_rate_claims}
use Rattle.path_server.specs.Limits.{IsBuffer, IsNumber, IsServer}
use Rattle.path_server.specs.Places.{rules}
use Rattle.path_server.specs.RowClaims.{claims_of_rule, row_claims}
use Rattle.path_server.specs.Servers.{Server}
use Rattle.path_server.specs.declared.path_rules.PathRule.{PathRule}
use Rattle.path_server.specs.declared.path_rules.PathRule.TheVariants.{Start, Growth, Service, Ceiling, Floor, Waste, Acceptance, Buffer, Loss, WasteRate}
use Rattle.path_server.proofs.AdmissionLaws.{all_below}
use Rattle.path_server.proofs.RowColumns.{each_rule}
use Rattle.path_server.proofs.RuleColumns.{chosen_over}
use Rattle.path_server.proofs.Sizes.{lcm_size, product_size, size_of_difference, size_of_natural}
use Rattle.unroll.specs.Sizes.{AreSmall, IsSmall, IsSmallPart, counted_with, entries_in}

-- ---- lists of parts

-- at most m parts, each small
pub record IsShort (m : ℕ) (ps : List Part) : Type 0 where
  pub count : length ps ≤ m
  pub sizes : All IsSmallPart ps

pub none_short : IsShort 0 []
none_short = record { count = omega arith; sizes = All-nil IsSmallPart }

pub one_more : (m : ℕ) (k : ℤ) (of : Subject) (ps : List Part) → unsigned_abs k ≤ 10 ^ 13 → IsShort m ps → IsShort (suc m) (part k of ∷ ps)
one_more m k of ps small short = record {
  count = omega (arith, short.count);
  sizes = All-cons IsSmallPart (part k of) ps small short.sizes;
}

pub both_short : (m n : ℕ) (ps qs : List Part) → IsShort m ps → IsShort n qs → IsShort (m + n) (ps ++ qs)
both_short m n ps qs one two = record {
  count = omega (arith, one.count, two.count, length-append ps qs);
  sizes = All-append IsSmallPart ps qs one.sizes two.sizes;
}

pub each_flow_short : (m : ℕ) (parts : ℕ → List Part) (n : ℕ) → ((f : ℕ) → IsShort m (parts f)) → IsShort (n * m) (each_flow parts n)
each_flow_short m parts zero each = subst (λ (k : ℕ). IsShort k []) (let e : 0 ≡ 0 * m = omega arith in e) none_short
each_flow_short m parts (suc n) each =
    subst (λ (k : ℕ). IsShort k (each_flow parts (suc n))) (let e : n * m + m ≡ suc n * m = omega arith in e)
    (both_short (n * m) m (each_flow parts n) (parts (suc n)) (each_flow_short m parts n each) (each (suc n)))

-- no more parts are of entries than there are
counted_most : (of : Subject) (m n : ℕ) → m ≤ n → counted_with of m ≤ suc n
counted_most constant m n most = omega arith
counted_most (entry e) m n most = omega arith

pub some_entries : (ps : List Part) → entries_in ps ≤ length ps
some_entries [] = omega arith
some_entries (p ∷ ps) = counted_most p.of (entries_in ps) (length ps) (some_entries ps)

pub small_of_short : (m : ℕ) (ps : List Part) (rel : Rel5) → m ≤ 128 → IsShort m ps → IsSmall (record { terms = ps; rel = rel })
small_of_short m ps rel few short = record { entries = omega (arith, some_entries ps, short.count); count = omega (arith, short.count); sizes = short.sizes }

-- ---- factors

record SmallFactors (k : Factors) : Type 0 where
  unit_to : unsigned_abs k.unit ≤ 1000000
  minus_to : unsigned_abs k.minus ≤ 1000000
  rate_to : unsigned_abs k.rate ≤ 1000
  buffer_to : unsigned_abs k.buffer ≤ 1000

rate_factors : (p : Server) → IsServer p → SmallFactors (rate_scale p)
rate_factors p server =
    let size : unsigned_abs p.rate.den ≤ 1000 = size_of_natural p.rate.den 1000 (omega (arith, ints, server.rate.den_from)) server.rate.den_to in record {
      unit_to = omega (arith, size);
      minus_to = omega (arith, size, unsigned_abs-neg_ℤ p.rate.den);
      rate_to = omega arith;
      buffer_to = omega arith;
    }

some_size : (z : ℤ) → pos 1 ≤ℤ z → 0 < unsigned_abs z
some_size z h = omega (arith, ints)

common_factors : (p : Server) (b : Pair) → IsServer p → IsNumber b → SmallFactors (common_scale p b)
common_factors p b server number =
    let u : ℕ = unsigned_abs p.rate.den in
    let v : ℕ = unsigned_abs b.den in
    let few : u ≤ 1000 = size_of_natural p.rate.den 1000 (omega (arith, ints, server.rate.den_from)) server.rate.den_to in
    let few' : v ≤ 1000 = size_of_natural b.den 1000 (omega (arith, ints, number.den_from)) number.den_to in
    let sizes = lcm_size u v (some_size p.rate.den server.rate.den_from) few (some_size b.den number.den_from) few' in record {
      unit_to = sizes.0;
      minus_to = omega (arith, sizes.0, unsigned_abs-neg_ℤ (pos (lcm_of u v)));
      rate_to = sizes.1;
      buffer_to = sizes.2;
    }

opposite_factors : (k : Factors) → SmallFactors k → SmallFactors (opposite k)
opposite_factors k small = record {
  unit_to = small.minus_to;
  minus_to = small.unit_to;
  rate_to = omega (arith, small.rate_to, unsigned_abs-neg_ℤ k.rate);
  buffer_to = omega (arith, small.buffer_to, unsigned_abs-neg_ℤ k.buffer);
}

-- ---- the parts of the rules

allowance_short : (p : Server) (k : Factors) (i d : ℕ) → IsServer p → SmallFactors k → i < 64 → d ≤ 8 → IsShort 3 (allowance part p k i d)
allowance_short p k i d server small row back =
    let num : unsigned_abs p.rate.num ≤ 1000000 = size_of_natural p.rate.num 1000000 server.rate.num_from server.rate.num_to in
    let steps : unsigned_abs (pos i -ℤ pos d) ≤ 64 + 8 = size_of_difference i d 64 8 (omega arith) back in
    let served : unsigned_abs (p.rate.num *ℤ (pos i -ℤ pos d)) ≤ 1000000 * 72 = product_size p.rate.num (pos i -ℤ pos d) 1000000 72 num steps in
    let size : unsigned_abs (p.rate.num *ℤ (pos i -ℤ pos d) *ℤ k.rate) ≤ 72000000 * 1000 =
    product_size (p.rate.num *ℤ (pos i -ℤ pos d)) k.rate 72000000 1000 served small.rate_to in
    one_more 2 _ _ _ (omega (arith, size)) (one_more 1 k.unit _ _ (omega (arith, small.unit_to)) (one_more 0 k.minus _ [] (omega (arith, small.minus_to)) none_short))

room_short : (b : Pair) (k : Factors) → IsNumber b → SmallFactors k → IsShort 1 (room part b k)
room_short b k number small =
    let num : unsigned_abs b.num ≤ 1000000 = size_of_natural b.num 1000000 number.num_from number.num_to in
    let size : unsigned_abs (b.num *ℤ k.buffer) ≤ 1000000 * 1000 = product_size b.num k.buffer 1000000 1000 num small.buffer_to in
    one_more 0 (b.num *ℤ k.buffer) _ [] (omega (arith, size)) none_short

service_short : (n : ℕ) (k : Factors) (i : ℕ) → SmallFactors k → IsShort (n * 1) (service part n k i)
service_short n k i small =
    each_flow_short 1 (λ f. part k.unit (of_service i f) ∷ []) n (λ f. one_more 0 k.unit _ [] (omega (arith, small.unit_to)) none_short)

accepted_short : (n : ℕ) (k : Factors) (i : ℕ) → SmallFactors k → IsShort (n * 2) (accepted part n k i)
accepted_short n k i small =
    each_flow_short 2 (λ f. part k.unit (of_arrivals i f) ∷ part k.minus (of_losses i f) ∷ []) n
    (λ f. one_more 1 k.unit _ _ (omega (arith, small.unit_to)) (one_more 0 k.minus _ [] (omega (arith, small.minus_to)) none_short))

new_losses_short : (n i h : ℕ) → IsShort (n * 2) (new_losses part n i h)
new_losses_short n i h =
    each_flow_short 2 (λ f. part (pos 1) (of_losses i f) ∷ part (negsuc 0) (of_losses h f) ∷ []) n
    (λ f. one_more 1 (pos 1) _ _ (omega arith) (one_more 0 (negsuc 0) _ [] (omega arith) none_short))

-- entries once each
one_entry : (of : Subject) → IsShort 1 (part (pos 1) of ∷ [])
one_entry of = one_more 0 (pos 1) of [] (omega arith) none_short

two_entries : (of other : Subject) → IsShort 2 (part (pos 1) of ∷ part (negsuc 0) other ∷ [])
two_entries of other = one_more 1 (pos 1) of _ (omega arith) (one_more 0 (negsuc 0) other [] (omega arith) none_short)

small_one : (of : Subject) (rel : Rel5) → IsSmall (record { terms = part (pos 1) of ∷ []; rel = rel })
small_one of rel = small_of_short 1 _ rel (omega arith) (one_entry of)

small_two : (of other : Subject) (rel : Rel5) → IsSmall (record { terms = part (pos 1) of ∷ part (negsuc 0) other ∷ []; rel = rel })
small_two of other rel = small_of_short 2 _ rel (omega arith) (two_entries of other)

-- ---- the rules

start_small : (i f : ℕ) → AreSmall (start_claims part i f)
unfolding start_claims
start_small i f =
    chosen_over AreSmall (nat_lt 0 i) _ _ (λ _. tt) (λ _. chosen_over AreSmall (f == 0) _ _
    (λ _. (small_one _ _, (small_one _ _, tt)))
    (λ _. (small_one _ _, (small_one _ _, (small_one _ _, tt)))))

growth_small : (i f : ℕ) → AreSmall (growth_claims part i f)
unfolding growth_claims
growth_small i f =
    chosen_over AreSmall (i == 0) _ _ (λ _. tt) (λ _. chosen_over AreSmall (f == 0) _ _
    (λ _. (small_two _ _ _, tt))
    (λ _. (small_two _ _ _, (small_two _ _ _, (small_two _ _ _, tt)))))

service_small : (i f : ℕ) → AreSmall (service_claims part i f)
unfolding service_claims
service_small i f =
    chosen_over AreSmall (f == 0) _ _ (λ _. tt)
    (λ _. (
      small_of_short 3 _ _ (omega arith)
          (one_more 2 (pos 1) _ _ (omega arith) (one_more 1 (negsuc 0) _ _ (omega arith) (one_more 0 (negsuc 0) _ [] (omega arith) none_short))),
      tt,
    ))

ceiling_small : (n : ℕ) (p : Server) (i f : ℕ) → IsServer p → n ≤ 4 → i < 64 → AreSmall (ceiling_claims part n p i f)
unfolding ceiling_claims
ceiling_small n p i f server few row =
    let k = rate_factors p server in
    chosen_over AreSmall (nat_lt 0 f) _ _ (λ _. tt)
    (λ _. (
      small_of_short (3 + n * 1) _ _ (omega arith)
          (both_short 3 (n * 1) _ _ (allowance_short p (rate_scale p) i 0 server k row (omega arith))
          (service_short n (opposite (rate_scale p)) i (opposite_factors (rate_scale p) k))),
      tt,
    ))

floor_small : (n : ℕ) (p : Server) (i f : ℕ) → IsServer p → n ≤ 4 → i < 64 → AreSmall (floor_claims part n p i f)
unfolding floor_claims
floor_small n p i f server few row =
    let k = rate_factors p server in
    chosen_over AreSmall (nat_lt 0 f) _ _ (λ _. tt)
    (λ _. (
      small_of_short (n * 1 + 3) _ _ (omega arith)
          (both_short (n * 1) 3 _ _ (service_short n (rate_scale p) i k)
          (allowance_short p (opposite (rate_scale p)) i p.jitter server (opposite_factors (rate_scale p) k) row server.jitter_to)),
      tt,
    ))

nothing_waits_small : (n : ℕ) (p : Server) (i : ℕ) → IsServer p → n ≤ 4 → i < 64 → AreSmall (nothing_waits part n p i ∷ [])
unfolding nothing_waits
nothing_waits_small n p i server few row =
    let k = rate_factors p server in (
      small_of_short (3 + n * 2) _ _ (omega arith)
          (both_short 3 (n * 2) _ _ (allowance_short p (rate_scale p) i 0 server k row (omega arith))
          (accepted_short n (opposite (rate_scale p)) i (opposite_factors (rate_scale p) k))),
      tt,
    )

waste_small : (n : ℕ) (p : Server) (i f : ℕ) → IsServer p → n ≤ 4 → i < 64 → AreSmall (waste_claims part n p i f)
unfolding waste_claims
waste_small n p i f server few row =
    chosen_over AreSmall (i == 0) _ _ (λ _. tt) (λ _. chosen_over AreSmall (nat_lt 0 f) _ _ (λ _. tt)
    (λ _. ((small_two _ _ _, (nothing_waits_small n p i server few row).0), tt)))

acceptance_small : (i f : ℕ) → AreSmall (acceptance_claims part i f)
unfolding acceptance_claims
acceptance_small i f =
    chosen_over AreSmall (i == 0) _ _ (λ _. tt) (λ _. chosen_over AreSmall (f == 0) _ _ (λ _. tt)
    (λ _. (
      small_of_short 4 _ _ (omega arith)
          (one_more 3 (pos 1) _ _ (omega arith) (one_more 2 (negsuc 0) _ _ (omega arith)
          (one_more 1 (negsuc 0) _ _ (omega arith) (one_more 0 (pos 1) _ [] (omega arith) none_short)))),
      tt,
    )))

queue_fits_small : (n : ℕ) (p : Server) (b : Pair) (i : ℕ) → IsServer p → IsNumber b → n ≤ 4 → i < 64 → AreSmall (queue_fits part n p b i ∷ [])
unfolding queue_fits
queue_fits_small n p b i server number few row =
    let k = common_factors p b server number in (
      small_of_short (3 + 1 + n * 2) _ _ (omega arith)
          (both_short (3 + 1) (n * 2) _ _
          (both_short 3 1 _ _ (allowance_short p (common_scale p b) i 0 server k row (omega arith)) (room_short b (common_scale p b) number k))
          (accepted_short n (opposite (common_scale p b)) i (opposite_factors (common_scale p b) k))),
      tt,
    )

buffer_small : (n : ℕ) (p : Server) (b : Option Pair) (i f : ℕ) → IsServer p → IsBuffer b → n ≤ 4 → i < 64 → AreSmall (buffer_claims part n p b i f)
unfolding buffer_claims
buffer_small n p None i f server number few row = tt
buffer_small n p (Some b) i f server number few row =
    chosen_over AreSmall (nat_lt 0 f) _ _ (λ _. tt) (λ _. queue_fits_small n p b i server number few row)

queue_was_full_small : (n : ℕ) (p : Server) (b : Pair) (i h : ℕ) → IsServer p → IsNumber b → n ≤ 4 → h < 64 → AreSmall (queue_was_full part n p b i h ∷ [])
unfolding queue_was_full
queue_was_full_small n p b i h server number few row =
    let k = common_factors p b server number in
    let o = opposite_factors (common_scale p b) k in (
      small_of_short (n * 2 + 3 + 1) _ _ (omega arith)
          (both_short (n * 2 + 3) 1 _ _
          (both_short (n * 2) 3 _ _ (accepted_short n (common_scale p b) i k) (allowance_short p (opposite (common_scale p b)) h 0 server o row (omega arith)))
          (room_short b (opposite (common_scale p b)) number o)),
      tt,
    )

full_or_none_small : (n : ℕ) (p : Server) (b : Option Pair) (i h : ℕ) → IsServer p → IsBuffer b → n ≤ 4 → h < 64 → AreSmall (full_or_none part n p b i h ∷ [])
unfolding full_or_none
full_or_none_small n p None i h server number few row = (small_of_short (n * 2) _ _ (omega arith) (new_losses_short n i h), tt)
full_or_none_small n p (Some b) i h server number few row = (
  (small_of_short (n * 2) _ _ (omega arith) (new_losses_short n i h), (queue_was_full_small n p b i h server number few row).0),
  tt,
)

loss_small : (n : ℕ) (p : Server) (b : Option Pair) (i f : ℕ) → IsServer p → IsBuffer b → n ≤ 4 → i < 64 → AreSmall (loss_claims part n p b i f)
unfolding loss_claims
loss_small n p b i f server number few row =
    chosen_over AreSmall (i == 0) _ _ (λ _. tt) (λ _. chosen_over AreSmall (nat_lt 0 f) _ _ (λ _. tt)
    (λ _. full_or_none_small n p b i (i - 1) server number few (omega arith)))

waste_rate_small : (p : Server) (i f : ℕ) → IsServer p → AreSmall (waste_rate_claims part p i f)
unfolding waste_rate_claims
waste_rate_small p i f server =
    let k = rate_factors p server in
    let num : unsigned_abs p.rate.num ≤ 1000000 = size_of_natural p.rate.num 1000000 server.rate.num_from server.rate.num_to in
    chosen_over AreSmall (i == 0) _ _ (λ _. tt) (λ _. chosen_over AreSmall (nat_lt 0 f) _ _ (λ _. tt)
    (λ _. (
      small_of_short 3 _ _ (omega arith)
          (one_more 2 p.rate.num _ _ (omega (arith, num)) (one_more 1 (neg_ℤ p.rate.den) _ _ (omega (arith, k.minus_to))
          (one_more 0 p.rate.den _ [] (omega (arith, k.unit_to)) none_short))),
      tt,
    )))

rule_small : (n : ℕ) (p : Server) (rule : PathRule) (i f : ℕ) → IsServer p → n ≤ 4 → i < 64 → AreSmall (rule_claims part n p rule i f)
rule_small n p Start i f server few row = start_small i f
rule_small n p Growth i f server few row = growth_small i f
rule_small n p Service i f server few row = service_small i f
rule_small n p Ceiling i f server few row = ceiling_small n p i f server few row
rule_small n p Floor i f server few row = floor_small n p i f server few row
rule_small n p Waste i f server few row = waste_small n p i f server few row
rule_small n p Acceptance i f server few row = acceptance_small i f
rule_small n p Buffer i f server few row = buffer_small n p p.buffer i f server server.buffer few row
rule_small n p Loss i f server few row = loss_small n p p.buffer i f server server.buffer few row
rule_small n p WasteRate i f server few row = waste_rate_small p i f server

-- ---- the claims of a row

pub small_joined : (cs ds : List Symbolic) → AreSmall cs → AreSmall ds → AreSmall (cs ++ ds)
small_joined [] ds one two = two
small_joined (c ∷ cs) ds one two = (one.0, small_joined cs ds one.1 two)

pub small_flat_map : {A : Type 0} (g : A → List Symbolic) (xs : List A) → All (λ x. AreSmall (g x)) xs → AreSmall (flat_map g xs)
small_flat_map g [] each = tt
small_flat_map g (x ∷ xs) each =
    small_joined (g x) (flat_map g xs) (All-head (λ y. AreSmall (g y)) x xs each) (small_flat_map g xs (All-tail (λ y. AreSmall (g y)) x xs each))

pub row_small : (n : ℕ) (p : Server) (i : ℕ) → IsServer p → n ≤ 4 → i < 64 → AreSmall (row_claims part n p i)
unfolding row_claims claims_of_rule
row_small n p i server few row =
    small_flat_map (claims_of_rule part n p i) rules (each_rule (λ rule. AreSmall (claims_of_rule part n p i rule)) (λ rule.
    small_flat_map (rule_claims part n p rule i) (below (n + 1))
    (all_below (λ f. AreSmall (rule_claims part n p rule i f)) (n + 1) (λ f less. rule_small n p rule i f server few row))))
