-- The rules over columns: a rule's claims under any values are its written claims under them, and name entries of the
-- shape alone. So the path admits the run of some columns exactly where the rules' claims hold of these columns.
use Rattle.std.proofs.Common.{◌≡◌, ℕ, ◌-◌, ◌<◌, ◌≤◌, ◌==◌, Bool, true, false, ℤ, pos, negsuc, Option, Some, None, List, [], ◌∷◌, ◌++◌, map, length, refl, sym, ◌∙◌, ap, subst, arith}
use Rattle.std.specs.Prelude.{All, nat_lt, if◌then◌else◌}
use Rattle.std.specs.List.{range_with_len}
use Rattle.std.proofs.lemmas.Bool.Decides.{nat_tests}
use Rattle.std.proofs.lemmas.List.Elements.{All-cons, All-head, All-nil, All-tail}
use Rattle.std.proofs.lemmas.List.{map-append, length-map}
use Rattle.std.proofs.lemmas.List.FromFn.{length-range_with_len}
use Rattle.whole.specs.declared.answers.Pair.{Pair}
use Rattle.condition_tree.specs.Trees.{any_of}
use Rattle.weighing.specs.declared.weighings.Rel5.TheVariants.{AtMost, AtLeast}
use Rattle.weighing.specs.Claim.{Claim, Claims, Holds, all_claims, compare, joined}
use Rattle.run_rows.specs.Columns.{HasFlow, rows_of}
use Rattle.run_rows.specs.Runs.{flow_count}
use Rattle.run_rows.specs.declared.rows.Run.{Run}
use Rattle.run_rows.specs.declared.shapes.Shape.{Shape}
use Rattle.run_rows.specs.declared.rows.Row.{Row}
use Rattle.claims.specs.Subjects.{Part, Subject, by_values, in_run, made, of_arrivals, of_losses, of_service, of_waste, part, with_terms}
use Rattle.claims.specs.Columns.{EachIn, EachOver, IsOver, column_value, flow_made, row_made, run_of}
use Rattle.claims.proofs.Made.{both_in, claims_made, each_flow_in, map-each_flow, row_is}
use Rattle.path_server.specs.Claims.{Factors, acceptance_claims, accepted, allowance, buffer_claims, ceiling_claims, common_scale, floor_claims, full_or_none, growth_claims, loss_claims, new_losses, nothing_waits, opposite, queue_fits, queue_was_full, rate_scale, room, rule_claims, service, service_claims, start_claims, waste_claims, waste_rate_claims}
use Rattle.path_server.specs.Limits.{IsPath, IsServer}
use Rattle.path_server.specs.Rules.{Admitted, RuleHolds}
use Rattle.path_server.specs.Servers.{Server, server_of}
use Rattle.path_server.specs.declared.settings.Path.{Path}
use Rattle.path_server.specs.declared.path_rules.PathRule.{PathRule}
use Rattle.path_server.specs.declared.path_rules.PathRule.TheVariants.{Start, Growth, Service, Ceiling, Floor, Waste, Acceptance, Buffer, Loss, WasteRate}
use Rattle.path_server.proofs.RuleLaws.{Means, claims_mean_rules}

-- ---- a rule's claims by any terms are its written claims with these terms

pub chosen : {X Y : Type 0} (g : X → Y) (b : Bool) (x y : X) (u v : Y) → g x ≡ u → g y ≡ v → g (if b then x else y) ≡ (if b then u else v)
chosen g true x y u v one two = one
chosen g false x y u v one two = two

two_lists : {T U : Type 0} (make : T → U) (xs ys : List T) (us vs : List U) → map make xs ≡ us → map make ys ≡ vs → map make (xs ++ ys) ≡ us ++ vs
two_lists make xs ys us vs one two = map-append make xs ys ∙ ap (λ zs. zs ++ map make ys) one ∙ ap (λ zs. us ++ zs) two

service_made : {T : Type 0} (term : ℤ → Subject → T) (n : ℕ) (s : Factors) (i : ℕ) → map (made term) (service part n s i) ≡ service term n s i
service_made term n s i = map-each_flow (made term) (λ f. part s.unit (of_service i f) ∷ []) n

accepted_made : {T : Type 0} (term : ℤ → Subject → T) (n : ℕ) (s : Factors) (i : ℕ) → map (made term) (accepted part n s i) ≡ accepted term n s i
accepted_made term n s i = map-each_flow (made term) (λ f. part s.unit (of_arrivals i f) ∷ part s.minus (of_losses i f) ∷ []) n

new_losses_made : {T : Type 0} (term : ℤ → Subject → T) (n i h : ℕ) → map (made term) (new_losses part n i h) ≡ new_losses term n i h
new_losses_made term n i h = map-each_flow (made term) (λ f. part (pos 1) (of_losses i f) ∷ part (negsuc 0) (of_losses h f) ∷ []) n

abbrev rewritten : {T : Type 0} → (ℤ → Subject → T) → List (Claims Part) → List (Claims T)
rewritten term cs = map (with_terms (made term)) cs

start_made : {T : Type 0} (term : ℤ → Subject → T) (i f : ℕ) → rewritten term (start_claims part i f) ≡ start_claims term i f
unfolding start_claims
start_made term i f = chosen (rewritten term) (nat_lt 0 i) _ _ _ _ refl (chosen (rewritten term) (f == 0) _ _ _ _ refl refl)

growth_made : {T : Type 0} (term : ℤ → Subject → T) (i f : ℕ) → rewritten term (growth_claims part i f) ≡ growth_claims term i f
unfolding growth_claims
growth_made term i f = chosen (rewritten term) (i == 0) _ _ _ _ refl (chosen (rewritten term) (f == 0) _ _ _ _ refl refl)

each_service_made : {T : Type 0} (term : ℤ → Subject → T) (i f : ℕ) → rewritten term (service_claims part i f) ≡ service_claims term i f
unfolding service_claims
each_service_made term i f = chosen (rewritten term) (f == 0) _ _ _ _ refl refl

ceiling_made : {T : Type 0} (term : ℤ → Subject → T) (n : ℕ) (p : Server) (i f : ℕ) → rewritten term (ceiling_claims part n p i f) ≡ ceiling_claims term n p i f
unfolding ceiling_claims
ceiling_made term n p i f =
    chosen (rewritten term) (nat_lt 0 f) _ _ _ _ refl
    (ap (λ ts. compare ts AtLeast ∷ []) (ap (λ ts. allowance term p (rate_scale p) i 0 ++ ts) (service_made term n (opposite (rate_scale p)) i)))

floor_made : {T : Type 0} (term : ℤ → Subject → T) (n : ℕ) (p : Server) (i f : ℕ) → rewritten term (floor_claims part n p i f) ≡ floor_claims term n p i f
unfolding floor_claims
floor_made term n p i f =
    chosen (rewritten term) (nat_lt 0 f) _ _ _ _ refl
    (ap (λ ts. compare ts AtLeast ∷ [])
    (two_lists (made term) (service part n (rate_scale p) i) (allowance part p (opposite (rate_scale p)) i p.jitter) _ _ (service_made term n (rate_scale p) i) refl))

nothing_waits_made : {T : Type 0} (term : ℤ → Subject → T) (n : ℕ) (p : Server) (i : ℕ) → with_terms (made term) (nothing_waits part n p i) ≡ nothing_waits term n p i
unfolding nothing_waits
nothing_waits_made term n p i =
    ap (λ ts. compare (allowance term p (rate_scale p) i 0 ++ ts) AtLeast) (accepted_made term n (opposite (rate_scale p)) i)

waste_made : {T : Type 0} (term : ℤ → Subject → T) (n : ℕ) (p : Server) (i f : ℕ) → rewritten term (waste_claims part n p i f) ≡ waste_claims term n p i f
unfolding waste_claims
waste_made term n p i f =
    chosen (rewritten term) (i == 0) _ _ _ _ refl (chosen (rewritten term) (nat_lt 0 f) _ _ _ _ refl
    (ap (λ c. any_of (compare (term (pos 1) (of_waste i) ∷ term (negsuc 0) (of_waste (i - 1)) ∷ []) AtMost) c ∷ []) (nothing_waits_made term n p i)))

acceptance_made : {T : Type 0} (term : ℤ → Subject → T) (i f : ℕ) → rewritten term (acceptance_claims part i f) ≡ acceptance_claims term i f
unfolding acceptance_claims
acceptance_made term i f = chosen (rewritten term) (i == 0) _ _ _ _ refl (chosen (rewritten term) (f == 0) _ _ _ _ refl refl)

queue_fits_made : {T : Type 0} (term : ℤ → Subject → T) (n : ℕ) (p : Server) (b : Pair) (i : ℕ) → with_terms (made term) (queue_fits part n p b i) ≡ queue_fits term n p b i
unfolding queue_fits
queue_fits_made term n p b i =
    ap (λ ts. compare ((allowance term p (common_scale p b) i 0 ++ room term b (common_scale p b)) ++ ts) AtLeast) (accepted_made term n (opposite (common_scale p b)) i)

buffer_made : {T : Type 0} (term : ℤ → Subject → T) (n : ℕ) (p : Server) (b : Option Pair) (i f : ℕ) → rewritten term (buffer_claims part n p b i f) ≡ buffer_claims term n p b i f
unfolding buffer_claims
buffer_made term n p None i f = refl
buffer_made term n p (Some b) i f = chosen (rewritten term) (nat_lt 0 f) _ _ _ _ refl (ap (λ c. c ∷ []) (queue_fits_made term n p b i))

queue_was_full_made : {T : Type 0} (term : ℤ → Subject → T) (n : ℕ) (p : Server) (b : Pair) (i h : ℕ)
    → with_terms (made term) (queue_was_full part n p b i h) ≡ queue_was_full term n p b i h
unfolding queue_was_full
queue_was_full_made term n p b i h =
    let s : Factors = common_scale p b in
    ap (λ ts. compare ts AtLeast)
    (two_lists (made term) (accepted part n s i ++ allowance part p (opposite s) h 0) (room part b (opposite s)) _ _
    (two_lists (made term) (accepted part n s i) (allowance part p (opposite s) h 0) _ _ (accepted_made term n s i) refl) refl)

full_or_none_made : {T : Type 0} (term : ℤ → Subject → T) (n : ℕ) (p : Server) (b : Option Pair) (i h : ℕ)
    → with_terms (made term) (full_or_none part n p b i h) ≡ full_or_none term n p b i h
unfolding full_or_none
full_or_none_made term n p None i h = ap (λ ts. compare ts AtMost) (new_losses_made term n i h)
full_or_none_made term n p (Some b) i h =
    ap (λ ts. any_of (compare ts AtMost) (with_terms (made term) (queue_was_full part n p b i h))) (new_losses_made term n i h)
    ∙ ap (any_of (compare (new_losses term n i h) AtMost)) (queue_was_full_made term n p b i h)

loss_made : {T : Type 0} (term : ℤ → Subject → T) (n : ℕ) (p : Server) (b : Option Pair) (i f : ℕ) → rewritten term (loss_claims part n p b i f) ≡ loss_claims term n p b i f
unfolding loss_claims
loss_made term n p b i f =
    chosen (rewritten term) (i == 0) _ _ _ _ refl (chosen (rewritten term) (nat_lt 0 f) _ _ _ _ refl (ap (λ c. c ∷ []) (full_or_none_made term n p b i (i - 1))))

waste_rate_made : {T : Type 0} (term : ℤ → Subject → T) (p : Server) (i f : ℕ) → rewritten term (waste_rate_claims part p i f) ≡ waste_rate_claims term p i f
unfolding waste_rate_claims
waste_rate_made term p i f = chosen (rewritten term) (i == 0) _ _ _ _ refl (chosen (rewritten term) (nat_lt 0 f) _ _ _ _ refl refl)

-- a rule's claims by any terms are its written claims with these terms
pub rule_made : {T : Type 0} (term : ℤ → Subject → T) (n : ℕ) (p : Server) (rule : PathRule) (i f : ℕ)
    → rewritten term (rule_claims part n p rule i f) ≡ rule_claims term n p rule i f
rule_made term n p Start i f = start_made term i f
rule_made term n p Growth i f = growth_made term i f
rule_made term n p Service i f = each_service_made term i f
rule_made term n p Ceiling i f = ceiling_made term n p i f
rule_made term n p Floor i f = floor_made term n p i f
rule_made term n p Waste i f = waste_made term n p i f
rule_made term n p Acceptance i f = acceptance_made term i f
rule_made term n p Buffer i f = buffer_made term n p p.buffer i f
rule_made term n p Loss i f = loss_made term n p p.buffer i f
rule_made term n p WasteRate i f = waste_rate_made term p i f

-- ---- a rule's claims at a row and a flow of the shape name its entries alone

pub chosen_over : {X : Type 0} (P : X → Type 0) (b : Bool) (x y : X) → (b ≡ true → P x) → (b ≡ false → P y) → P (if b then x else y)
chosen_over P true x y one two = one refl
chosen_over P false x y one two = two refl

some_flow : (f : ℕ) → (f == 0) ≡ false → 1 ≤ f
some_flow f is = grind (arith, nat_tests, is)

flow_has : (s : Shape) (i f : ℕ) → i < rows_of s → 1 ≤ f → f ≤ s.flows → HasFlow s i f
flow_has s i f row from to = record { row_in = row; flow_from = from; flow_to = to }

row_has : (s : Shape) (i d : ℕ) → i < rows_of s → i - d < rows_of s
row_has s i d row = omega arith

start_over : (s : Shape) (i f : ℕ) → f ≤ s.flows → EachOver s (start_claims part i f)
unfolding start_claims
start_over s i f to =
    chosen_over (EachOver s) (nat_lt 0 i) _ _ (λ _. tt) (λ _. chosen_over (EachOver s) (f == 0) _ _
    (λ _. ((omega arith, tt), ((tt, tt), tt)))
    (λ is. let has = flow_has s 0 f (omega arith) (some_flow f is) to in ((has, tt), ((has, tt), ((has, tt), tt)))))

growth_over : (s : Shape) (i f : ℕ) → i < rows_of s → f ≤ s.flows → EachOver s (growth_claims part i f)
unfolding growth_claims
growth_over s i f row to =
    chosen_over (EachOver s) (i == 0) _ _ (λ _. tt) (λ _. chosen_over (EachOver s) (f == 0) _ _
    (λ _. ((row, (row_has s i 1 row, tt)), tt))
    (λ is.
    let has = flow_has s i f row (some_flow f is) to in
    let had = flow_has s (i - 1) f (row_has s i 1 row) (some_flow f is) to in
    ((has, (had, tt)), ((has, (had, tt)), ((has, (had, tt)), tt)))))

service_over : (s : Shape) (i f : ℕ) → i < rows_of s → f ≤ s.flows → EachOver s (service_claims part i f)
unfolding service_claims
service_over s i f row to =
    chosen_over (EachOver s) (f == 0) _ _ (λ _. tt)
    (λ is. let has = flow_has s i f row (some_flow f is) to in ((has, (has, (has, tt))), tt))

allowance_in : (s : Shape) (p : Server) (k : Factors) (i d : ℕ) → i < rows_of s → EachIn s (allowance part p k i d)
allowance_in s p k i d row = (tt, (tt, (row_has s i d row, tt)))

all_service_in : (s : Shape) (k : Factors) (i : ℕ) → i < rows_of s → EachIn s (service part s.flows k i)
all_service_in s k i row =
    each_flow_in s (λ f. part k.unit (of_service i f) ∷ []) s.flows (λ f from to. (flow_has s i f row from to, tt))

accepted_in : (s : Shape) (k : Factors) (i : ℕ) → i < rows_of s → EachIn s (accepted part s.flows k i)
accepted_in s k i row =
    each_flow_in s (λ f. part k.unit (of_arrivals i f) ∷ part k.minus (of_losses i f) ∷ []) s.flows
    (λ f from to. let has = flow_has s i f row from to in (has, (has, tt)))

new_losses_in : (s : Shape) (i h : ℕ) → i < rows_of s → h < rows_of s → EachIn s (new_losses part s.flows i h)
new_losses_in s i h row before =
    each_flow_in s (λ f. part (pos 1) (of_losses i f) ∷ part (negsuc 0) (of_losses h f) ∷ []) s.flows
    (λ f from to. (flow_has s i f row from to, (flow_has s h f before from to, tt)))

ceiling_over : (s : Shape) (p : Server) (i f : ℕ) → i < rows_of s → EachOver s (ceiling_claims part s.flows p i f)
unfolding ceiling_claims
ceiling_over s p i f row =
    chosen_over (EachOver s) (nat_lt 0 f) _ _ (λ _. tt)
    (λ _. (
      both_in s (allowance part p (rate_scale p) i 0) (service part s.flows (opposite (rate_scale p)) i)
          (allowance_in s p (rate_scale p) i 0 row) (all_service_in s (opposite (rate_scale p)) i row),
      tt,
    ))

floor_over : (s : Shape) (p : Server) (i f : ℕ) → i < rows_of s → EachOver s (floor_claims part s.flows p i f)
unfolding floor_claims
floor_over s p i f row =
    chosen_over (EachOver s) (nat_lt 0 f) _ _ (λ _. tt)
    (λ _. (
      both_in s (service part s.flows (rate_scale p) i) (allowance part p (opposite (rate_scale p)) i p.jitter)
          (all_service_in s (rate_scale p) i row) (allowance_in s p (opposite (rate_scale p)) i p.jitter row),
      tt,
    ))

nothing_waits_over : (s : Shape) (p : Server) (i : ℕ) → i < rows_of s → IsOver s (nothing_waits part s.flows p i)
unfolding nothing_waits
nothing_waits_over s p i row =
    both_in s (allowance part p (rate_scale p) i 0) (accepted part s.flows (opposite (rate_scale p)) i)
    (allowance_in s p (rate_scale p) i 0 row) (accepted_in s (opposite (rate_scale p)) i row)

waste_over : (s : Shape) (p : Server) (i f : ℕ) → i < rows_of s → EachOver s (waste_claims part s.flows p i f)
unfolding waste_claims
waste_over s p i f row =
    chosen_over (EachOver s) (i == 0) _ _ (λ _. tt) (λ _. chosen_over (EachOver s) (nat_lt 0 f) _ _ (λ _. tt)
    (λ _. (((row, (row_has s i 1 row, tt)), nothing_waits_over s p i row), tt)))

acceptance_over : (s : Shape) (i f : ℕ) → i < rows_of s → f ≤ s.flows → EachOver s (acceptance_claims part i f)
unfolding acceptance_claims
acceptance_over s i f row to =
    chosen_over (EachOver s) (i == 0) _ _ (λ _. tt) (λ _. chosen_over (EachOver s) (f == 0) _ _ (λ _. tt)
    (λ is.
    let has = flow_has s i f row (some_flow f is) to in
    let had = flow_has s (i - 1) f (row_has s i 1 row) (some_flow f is) to in
    ((has, (has, (had, (had, tt)))), tt)))

queue_fits_over : (s : Shape) (p : Server) (b : Pair) (i : ℕ) → i < rows_of s → IsOver s (queue_fits part s.flows p b i)
unfolding queue_fits
queue_fits_over s p b i row =
    let k : Factors = common_scale p b in
    both_in s (allowance part p k i 0 ++ room part b k) (accepted part s.flows (opposite k) i)
    (both_in s (allowance part p k i 0) (room part b k) (allowance_in s p k i 0 row) (tt, tt)) (accepted_in s (opposite k) i row)

buffer_over : (s : Shape) (p : Server) (b : Option Pair) (i f : ℕ) → i < rows_of s → EachOver s (buffer_claims part s.flows p b i f)
unfolding buffer_claims
buffer_over s p None i f row = tt
buffer_over s p (Some b) i f row = chosen_over (EachOver s) (nat_lt 0 f) _ _ (λ _. tt) (λ _. (queue_fits_over s p b i row, tt))

queue_was_full_over : (s : Shape) (p : Server) (b : Pair) (i h : ℕ) → i < rows_of s → h < rows_of s → IsOver s (queue_was_full part s.flows p b i h)
unfolding queue_was_full
queue_was_full_over s p b i h row before =
    let k : Factors = common_scale p b in
    both_in s (accepted part s.flows k i ++ allowance part p (opposite k) h 0) (room part b (opposite k))
    (both_in s (accepted part s.flows k i) (allowance part p (opposite k) h 0) (accepted_in s k i row) (allowance_in s p (opposite k) h 0 before)) (tt, tt)

full_or_none_over : (s : Shape) (p : Server) (b : Option Pair) (i h : ℕ) → i < rows_of s → h < rows_of s → IsOver s (full_or_none part s.flows p b i h)
unfolding full_or_none
full_or_none_over s p None i h row before = new_losses_in s i h row before
full_or_none_over s p (Some b) i h row before = (new_losses_in s i h row before, queue_was_full_over s p b i h row before)

loss_over : (s : Shape) (p : Server) (b : Option Pair) (i f : ℕ) → i < rows_of s → EachOver s (loss_claims part s.flows p b i f)
unfolding loss_claims
loss_over s p b i f row =
    chosen_over (EachOver s) (i == 0) _ _ (λ _. tt) (λ _. chosen_over (EachOver s) (nat_lt 0 f) _ _ (λ _. tt)
    (λ _. (full_or_none_over s p b i (i - 1) row (row_has s i 1 row), tt)))

waste_rate_over : (s : Shape) (p : Server) (i f : ℕ) → i < rows_of s → EachOver s (waste_rate_claims part p i f)
unfolding waste_rate_claims
waste_rate_over s p i f row =
    chosen_over (EachOver s) (i == 0) _ _ (λ _. tt) (λ _. chosen_over (EachOver s) (nat_lt 0 f) _ _ (λ _. tt)
    (λ _. ((tt, (row, (row_has s i 1 row, tt))), tt)))

pub rule_over : (s : Shape) (p : Server) (rule : PathRule) (i f : ℕ) → i < rows_of s → f ≤ s.flows → EachOver s (rule_claims part s.flows p rule i f)
rule_over s p Start i f row to = start_over s i f to
rule_over s p Growth i f row to = growth_over s i f row to
rule_over s p Service i f row to = service_over s i f row to
rule_over s p Ceiling i f row to = ceiling_over s p i f row
rule_over s p Floor i f row to = floor_over s p i f row
rule_over s p Waste i f row to = waste_over s p i f row
rule_over s p Acceptance i f row to = acceptance_over s i f row to
rule_over s p Buffer i f row to = buffer_over s p p.buffer i f row
rule_over s p Loss i f row to = loss_over s p p.buffer i f row
rule_over s p WasteRate i f row to = waste_rate_over s p i f row

-- ---- claims that are joined hold where each does

pub each_holds : (cs : List Claim) → Means (Holds (all_claims cs)) (All Holds cs)
each_holds [] = (λ h. All-nil Holds, λ h. tt)
each_holds (c ∷ cs) = by c cs
  where
    by : (c : Claim) (cs : List Claim) → Means (Holds (joined c cs)) (All Holds (c ∷ cs))
    by c [] = (λ h. All-cons Holds c [] h (All-nil Holds), λ h. All-head Holds c [] h)
    by c (d ∷ ds) =
        let rest = by d ds in
        (λ h. All-cons Holds c (d ∷ ds) h.0 (rest.0 h.1), λ h. (All-head Holds c (d ∷ ds) h, rest.1 (All-tail Holds c (d ∷ ds) h)))

-- ---- the path admits the run of some columns exactly where each rule's claims hold of these columns

-- each claim of a rule at the columns' values
abbrev pub Meets : Shape → (ℕ → ℤ) → ℤ → Server → PathRule → ℕ → ℕ → Type 0
Meets s value den p rule i f = All Holds (rule_claims (by_values (column_value s value den)) s.flows p rule i f)

pub rows_are : (s : Shape) (value : ℕ → ℤ) (den : ℤ) → length (run_of s value den).rows ≡ rows_of s
unfolding run_of
rows_are s value den = length-map (range_with_len 0 (rows_of s)) (row_made s value) ∙ length-range_with_len 0 (rows_of s)

pub flows_are : (s : Shape) (value : ℕ → ℤ) (den : ℤ) → flow_count (run_of s value den) 0 ≡ s.flows
flows_are s value den =
    ap (λ (r : Row). length r.flows) (row_is s value den 0 (omega arith))
    ∙ length-map (range_with_len 1 s.flows) (flow_made s value 0) ∙ length-range_with_len 1 s.flows

-- the claims that are weighed in the run of the columns are those of the columns
pub claims_are : (s : Shape) (value : ℕ → ℤ) (den : ℤ) (p : Server) (rule : PathRule) (i f : ℕ) → i < rows_of s → f ≤ s.flows
    → rule_claims (in_run (run_of s value den)) s.flows p rule i f ≡ rule_claims (by_values (column_value s value den)) s.flows p rule i f
claims_are s value den p rule i f row to =
    sym (rule_made (in_run (run_of s value den)) s.flows p rule i f)
    ∙ claims_made s value den (rule_claims part s.flows p rule i f) (rule_over s p rule i f row to)
    ∙ rule_made (by_values (column_value s value den)) s.flows p rule i f

pub rule_meets : (s : Shape) (value : ℕ → ℤ) (den : ℤ) (p : Server) (rule : PathRule) (i f : ℕ) → IsServer p → i < rows_of s → f ≤ s.flows
    → Means (Meets s value den p rule i f) (RuleHolds p (run_of s value den) rule i f)
rule_meets s value den p rule i f path row to =
    let r : Run = run_of s value den in
    let laws = claims_mean_rules p r rule i f path in
    let each = each_holds (rule_claims (in_run r) (flow_count r 0) p rule i f) in
    let same : rule_claims (in_run r) (flow_count r 0) p rule i f ≡ rule_claims (by_values (column_value s value den)) s.flows p rule i f =
    ap (λ n. rule_claims (in_run r) n p rule i f) (flows_are s value den) ∙ claims_are s value den p rule i f row to in
    (λ h. laws.0 (each.1 (subst (All Holds) (sym same) h)), λ h. subst (All Holds) same (each.0 (laws.1 h)))

pub formulas_mean : (s : Shape) (value : ℕ → ℤ) (den : ℤ) (p : Path) → IsPath p
    → Means ((rule : PathRule) (i f : ℕ) → i < rows_of s → f ≤ s.flows → Meets s value den (server_of p) rule i f) (Admitted p (run_of s value den))
unfolding Admitted
formulas_mean s value den p path =
    let rows = rows_are s value den in
    let flows = flows_are s value den in (
      λ h. λ rule i f row to.
          (rule_meets s value den (server_of p) rule i f path (omega (arith, rows)) (omega (arith, flows))).0 (h rule i f (omega (arith, rows)) (omega (arith, flows))),
      λ h. λ rule i f row to.
          (rule_meets s value den (server_of p) rule i f path row to).1 (h rule i f (omega (arith, rows)) (omega (arith, flows))),
    )
