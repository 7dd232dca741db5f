-- The claims of a row, all rules and flows together: they hold exactly where every rule holds at that row, in a run, in
-- the run that is made of columns, and at the columns of a run that is read.
use Rattle.std.proofs.Common.{◌≡◌, ℕ, zero, suc, ◌+◌, ◌<◌, ◌≤◌, ℤ, List, [], ◌∷◌, ◌++◌, get_or, map, inl, inr, refl, sym, ◌∙◌, ap, subst, arith}
use Rattle.std.specs.Prelude.{All, flat_map}
use Rattle.std.proofs.lemmas.List.Elements.{All-cons, All-from_get_or, All-get_or, All-head, All-nil, All-tail}
use Rattle.std.proofs.lemmas.Bool.{cases_lt}
use Rattle.std.proofs.lemmas.List.{map-append}
use Rattle.weighing.specs.Claim.{Claim, Holds}
use Rattle.weighing.specs.First.{below}
use Rattle.run_rows.specs.Columns.{rows_of, value_at}
use Rattle.run_rows.specs.Runs.{flow_count}
use Rattle.run_rows.specs.declared.rows.Run.{Run}
use Rattle.run_rows.specs.declared.shapes.Shape.{Shape}
use Rattle.claims.specs.Subjects.{Subject, Symbolic, at, in_run, made, part, with_terms, with_values}
use Rattle.claims.specs.Columns.{EachOver, column_value, run_of}
use Rattle.claims.proofs.Made.{claim_read, claims_made}
use Rattle.path_server.specs.Claims.{rule_claims}
use Rattle.path_server.specs.Limits.{IsServer}
use Rattle.path_server.specs.Places.{number, rules}
use Rattle.path_server.specs.RowClaims.{claims_of_rule, row_claims}
use Rattle.path_server.specs.Rules.{RowHolds, RuleHolds}
use Rattle.path_server.specs.Servers.{Server}
use Rattle.path_server.specs.declared.path_rules.PathRule.{PathRule}
use Rattle.path_server.specs.declared.path_rules.PathRule.TheVariants.{Start}
use Rattle.path_server.proofs.AdmissionLaws.{all_below, all_flat_map, listed, number_below}
use Rattle.path_server.proofs.RuleColumns.{each_holds, flows_are, rule_made, rule_over}
use Rattle.path_server.proofs.RuleLaws.{Means, claims_mean_rules}

-- ---- all of lists that are joined

all_front : {X : Type 0} (P : X → Type 0) (xs ys : List X) → All P (xs ++ ys) → All P xs
all_front P [] ys each = All-nil P
all_front P (x ∷ xs) ys each = All-cons P x xs (All-head P x (xs ++ ys) each) (all_front P xs ys (All-tail P x (xs ++ ys) each))

all_back : {X : Type 0} (P : X → Type 0) (xs ys : List X) → All P (xs ++ ys) → All P ys
all_back P [] ys each = each
all_back P (x ∷ xs) ys each = all_back P xs ys (All-tail P x (xs ++ ys) each)

pub each_of_joined : {A B : Type 0} (P : B → Type 0) (g : A → List B) (xs : List A) → All P (flat_map g xs) → All (λ x. All P (g x)) xs
each_of_joined P g [] each = All-nil (λ x. All P (g x))
each_of_joined P g (x ∷ xs) each =
    All-cons (λ y. All P (g y)) x xs (all_front P (g x) (flat_map g xs) each)
    (each_of_joined P g xs (all_back P (g x) (flat_map g xs) each))

pub each_below : (P : ℕ → Type 0) (n : ℕ) → All P (below n) → (k : ℕ) → k < n → P k
each_below P zero each k less = absurd (omega arith)
each_below P (suc n) each k less =
    elim (cases_lt k n) [
      | inl lower ↦ each_below P n (all_front P (below n) (n ∷ []) each) k lower
      | inr upper ↦
          let same : n ≡ k = omega arith in subst P same (All-head P n [] (all_back P (below n) (n ∷ []) each))
    ]

-- each rule stands in the list of all
all_rules : (P : PathRule → Type 0) → All P rules → (rule : PathRule) → P rule
all_rules P each rule = subst P (listed rule) (All-get_or P rules (number rule) Start (number_below rule) each)

pub each_rule : (P : PathRule → Type 0) → ((rule : PathRule) → P rule) → All P rules
each_rule P each = All-from_get_or P rules Start (λ k _. each (get_or rules k Start))

-- ---- the claims of a row in a run

rule_means : (p : Server) (r : Run) (rule : PathRule) (i : ℕ) → IsServer p
    → Means (All Holds (claims_of_rule (in_run r) (flow_count r 0) p i rule)) ((f : ℕ) → f ≤ flow_count r 0 → RuleHolds p r rule i f)
unfolding claims_of_rule
rule_means p r rule i server = (
  λ all. λ f to. (claims_mean_rules p r rule i f server).0 ((each_holds (claims f)).1
      (each_below (λ g. All Holds (claims g)) (flow_count r 0 + 1) (each_of_joined Holds claims (below (flow_count r 0 + 1)) all) f (omega arith))),
  λ keeps. all_flat_map Holds claims (below (flow_count r 0 + 1)) (all_below (λ g. All Holds (claims g)) (flow_count r 0 + 1)
      (λ f less. (each_holds (claims f)).0 ((claims_mean_rules p r rule i f server).1 (keeps f (omega arith))))),
)
  where
    claims : ℕ → List Claim
    claims f = rule_claims (in_run r) (flow_count r 0) p rule i f

pub row_means : (p : Server) (r : Run) (i : ℕ) → IsServer p → Means (All Holds (row_claims (in_run r) (flow_count r 0) p i)) (RowHolds p r i)
unfolding row_claims
row_means p r i server = (
  λ all. λ rule f to. (rule_means p r rule i server).0 (all_rules (λ k. All Holds (claims k)) (each_of_joined Holds claims rules all) rule) f to,
  λ keeps. all_flat_map Holds claims rules (each_rule (λ k. All Holds (claims k)) (λ rule. (rule_means p r rule i server).1 (keeps rule))),
)
  where
    claims : PathRule → List Claim
    claims rule = claims_of_rule (in_run r) (flow_count r 0) p i rule

-- ---- the claims of a row are the written ones, over the shape alone

pub map-flat_map : {A B C : Type 0} (h : B → C) (g : A → List B) (k : A → List C) → ((x : A) → map h (g x) ≡ k x) → (xs : List A)
    → map h (flat_map g xs) ≡ flat_map k xs
map-flat_map h g k each [] = refl
map-flat_map h g k each (x ∷ xs) =
    map-append h (g x) (flat_map g xs) ∙ ap (λ ys. ys ++ map h (flat_map g xs)) (each x) ∙ ap (λ ys. k x ++ ys) (map-flat_map h g k each xs)

pub row_made : {T : Type 0} (term : ℤ → Subject → T) (n : ℕ) (p : Server) (i : ℕ)
    → map (with_terms (made term)) (row_claims part n p i) ≡ row_claims term n p i
unfolding row_claims claims_of_rule
row_made term n p i =
    map-flat_map (with_terms (made term)) (claims_of_rule part n p i) (claims_of_rule term n p i)
    (λ rule. map-flat_map (with_terms (made term)) (rule_claims part n p rule i) (rule_claims term n p rule i)
    (λ f. rule_made term n p rule i f) (below (n + 1))) rules

over_joined : (s : Shape) (cs ds : List Symbolic) → EachOver s cs → EachOver s ds → EachOver s (cs ++ ds)
over_joined s [] ds one two = two
over_joined s (c ∷ cs) ds one two = (one.0, over_joined s cs ds one.1 two)

over_flat_map : {A : Type 0} (s : Shape) (g : A → List Symbolic) (xs : List A) → All (λ x. EachOver s (g x)) xs → EachOver s (flat_map g xs)
over_flat_map s g [] each = tt
over_flat_map s g (x ∷ xs) each =
    over_joined s (g x) (flat_map g xs) (All-head (λ y. EachOver s (g y)) x xs each)
    (over_flat_map s g xs (All-tail (λ y. EachOver s (g y)) x xs each))

pub row_over : (s : Shape) (p : Server) (i : ℕ) → i < rows_of s → EachOver s (row_claims part s.flows p i)
unfolding row_claims claims_of_rule
row_over s p i row =
    over_flat_map s (claims_of_rule part s.flows p i) rules (each_rule (λ rule. EachOver s (claims_of_rule part s.flows p i rule)) (λ rule.
    over_flat_map s (rule_claims part s.flows p rule i) (below (s.flows + 1))
    (all_below (λ f. EachOver s (rule_claims part s.flows p rule i f)) (s.flows + 1) (λ f less. rule_over s p rule i f row (omega arith)))))

-- ---- the claims of a row over columns

claims_read : (s : Shape) (r : Run) (cs : List Symbolic) → EachOver s cs
    → map (at r) cs ≡ map (with_values (column_value s (value_at s r) r.over)) cs
claims_read s r [] over = refl
claims_read s r (c ∷ cs) over =
    ap (λ d. d ∷ map (at r) cs) (claim_read s r c over.0)
    ∙ ap (λ ds. with_values (column_value s (value_at s r) r.over) c ∷ ds) (claims_read s r cs over.1)

-- where the written claims are those of the run, they hold exactly where every rule does at that row of it
row_says : (r : Run) (p : Server) (n i : ℕ) (v : Subject → ℤ) → IsServer p → flow_count r 0 ≡ n
    → map (at r) (row_claims part n p i) ≡ map (with_values v) (row_claims part n p i)
    → Means (All Holds (map (with_values v) (row_claims part n p i))) (RowHolds p r i)
row_says r p n i v server flows same =
    let law = row_means p r i server in
    let is : row_claims (in_run r) (flow_count r 0) p i ≡ map (with_values v) (row_claims part n p i) =
    ap (λ m. row_claims (in_run r) m p i) flows ∙ sym (row_made (in_run r) n p i) ∙ same in
    (λ h. law.0 (subst (All Holds) (sym is) h), λ h. subst (All Holds) is (law.1 h))

-- of the run that is made of columns
pub row_meets : (s : Shape) (value : ℕ → ℤ) (den : ℤ) (p : Server) (i : ℕ) → IsServer p → i < rows_of s
    → Means (All Holds (map (with_values (column_value s value den)) (row_claims part s.flows p i))) (RowHolds p (run_of s value den) i)
row_meets s value den p i server row =
    row_says (run_of s value den) p s.flows i (column_value s value den) server (flows_are s value den)
    (claims_made s value den (row_claims part s.flows p i) (row_over s p i row))

-- of a run, at the values of its columns
pub row_read : (s : Shape) (r : Run) (p : Server) (i : ℕ) → IsServer p → i < rows_of s → flow_count r 0 ≡ s.flows
    → Means (All Holds (map (with_values (column_value s (value_at s r) r.over)) (row_claims part s.flows p i))) (RowHolds p r i)
row_read s r p i server row flows =
    row_says r p s.flows i (column_value s (value_at s r) r.over) server flows (claims_read s r (row_claims part s.flows p i) (row_over s p i row))
