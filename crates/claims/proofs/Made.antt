-- Claims and the ways to make their terms: other terms, values that agree, and the run of columns.
use Rattle.std.proofs.Common.{◌≡◌, ℕ, zero, suc, ◌+◌, ◌-◌, ◌<◌, ◌≤◌, ℤ, pos, Some, List, [], ◌∷◌, ◌++◌, map, length, get_or, refl, sym, ◌∙◌, ap, arith}
use Rattle.std.specs.List.{range_with_len}
use Rattle.std.proofs.lemmas.List.{map-append}
use Rattle.condition_tree.specs.Trees.{Tree, always, never, leaf, opposite, end_of_all, all_of, end_of_any, any_of}
use Rattle.weighing.specs.Claim.{Claim, Claims, Compared}
use Rattle.weighing.specs.Weighed.{times}
use Rattle.weighing.specs.declared.weighings.Summand.{Summand}
use Rattle.run_rows.specs.Columns.{HasEntry, HasFlow, column_of, rows_of, value_at, value_of}
use Rattle.run_rows.specs.Runs.{flow_of, row_of, no_flow, no_row, state_count}
use Rattle.run_rows.specs.declared.columns.Entry.{Entry}
use Rattle.run_rows.specs.declared.columns.Entry.TheVariants.{Credit, W, A, S, L, X}
use Rattle.run_rows.specs.declared.shapes.Shape.{Shape}
use Rattle.run_rows.specs.declared.rows.Run.{Run}
use Rattle.run_rows.specs.declared.rows.Row.{Row}
use Rattle.run_rows.specs.declared.rows.FlowRow.{FlowRow}
use Rattle.run_rows.proofs.ColumnLaws.{value_at-column_of}
use Rattle.claims.specs.Subjects.{Subject, constant, entry, Part, Symbolic, at, by_values, each_flow, made, with_terms, with_values, worth}
use Rattle.claims.specs.Columns.{EachIn, EachOver, IsIn, IsOver, column_value, entry_value, flow_made, row_made, run_of}

-- ---- terms for each flow, made otherwise

pub map-each_flow : {T U : Type 0} (make : T → U) (terms : ℕ → List T) (n : ℕ) → map make (each_flow terms n) ≡ each_flow (λ f. map make (terms f)) n
map-each_flow make terms zero = refl
map-each_flow make terms (suc n) =
    map-append make (each_flow terms n) (terms (suc n)) ∙ ap (λ xs. xs ++ map make (terms (suc n))) (map-each_flow make terms n)

-- ---- values that agree on the shape

abbrev Agree : Shape → (Subject → ℤ) → (Subject → ℤ) → Type 0
Agree s v w = (of : Subject) → IsIn s of → v of ≡ w of

same_terms : (s : Shape) (v w : Subject → ℤ) → Agree s v w → (ps : List Part) → EachIn s ps
    → map (made (by_values v)) ps ≡ map (made (by_values w)) ps
same_terms s v w agree [] each = refl
same_terms s v w agree (p ∷ ps) each =
    ap (λ x. times p.coefficient x ∷ map (made (by_values v)) ps) (agree p.of each.0)
    ∙ ap (λ ts. times p.coefficient (w p.of) ∷ ts) (same_terms s v w agree ps each.1)

-- a claim over the shape is the same under values that agree there
pub same_claim : (s : Shape) (v w : Subject → ℤ) → Agree s v w → (c : Symbolic) → IsOver s c → with_values v c ≡ with_values w c
same_claim s v w agree always over = refl
same_claim s v w agree never over = refl
same_claim s v w agree (leaf c) over =
    ap (λ ts. let d : Compared Summand = record { terms = ts; rel = c.rel } in leaf d) (same_terms s v w agree c.terms over)
same_claim s v w agree (opposite c) over = ap opposite (same_claim s v w agree c over)
same_claim s v w agree end_of_all over = refl
same_claim s v w agree (all_of c d) over =
    ap (λ x. all_of x (with_values v d)) (same_claim s v w agree c over.0) ∙ ap (all_of (with_values w c)) (same_claim s v w agree d over.1)
same_claim s v w agree end_of_any over = refl
same_claim s v w agree (any_of c d) over =
    ap (λ x. any_of x (with_values v d)) (same_claim s v w agree c over.0) ∙ ap (any_of (with_values w c)) (same_claim s v w agree d over.1)

-- ---- the run of columns has the values of its columns

-- what stands in a list that is made of the first numbers
range_made : {X : Type 0} (make : ℕ → X) (first n i : ℕ) (d : X) → i < n → get_or (map make (range_with_len first n)) i d ≡ make (first + i)
range_made make first zero i d inside = absurd (omega arith)
range_made make first (suc n) zero d inside = ap make (let e : first ≡ first + 0 = omega arith in e)
range_made make first (suc n) (suc i) d inside =
    range_made make (first + 1) n i d (omega arith) ∙ ap make (let e : first + 1 + i ≡ first + suc i = omega arith in e)

pub row_is : (s : Shape) (value : ℕ → ℤ) (den : ℤ) (i : ℕ) → i < rows_of s → row_of (run_of s value den) i ≡ row_made s value i
unfolding run_of
row_is s value den i inside = range_made (row_made s value) 0 (rows_of s) i no_row inside ∙ ap (row_made s value) (let e : 0 + i ≡ i = omega arith in e)

flow_is : (s : Shape) (value : ℕ → ℤ) (den : ℤ) (i f : ℕ) → HasFlow s i f → flow_of (run_of s value den) i f ≡ flow_made s value i f
flow_is s value den i f has =
    let from = has.flow_from in
    let to = has.flow_to in
    ap (λ (r : Row). get_or r.flows (f - 1) no_flow) (row_is s value den i has.row_in)
    ∙ range_made (flow_made s value i) 1 s.flows (f - 1) no_flow (omega arith)
    ∙ ap (flow_made s value i) (let e : 1 + (f - 1) ≡ f = omega arith in e)

pub entry_is : (s : Shape) (value : ℕ → ℤ) (den : ℤ) (e : Entry) → HasEntry s e → value_of (run_of s value den) e ≡ entry_value s value e
unfolding run_of
entry_is s value den Credit has = refl
entry_is s value den (W i) has = ap (λ (r : Row). r.w) (row_is s value den i has)
entry_is s value den (A i f) has = ap (λ (r : FlowRow). r.a) (flow_is s value den i f has)
entry_is s value den (S i f) has = ap (λ (r : FlowRow). r.s) (flow_is s value den i f has)
entry_is s value den (L i f) has = ap (λ (r : FlowRow). r.l) (flow_is s value den i f has)
entry_is s value den (X i f j) has =
    ap (λ (r : FlowRow). get_or r.x j (pos 0)) (flow_is s value den i f has.0)
    ∙ range_made (λ k. entry_value s value (X i f k)) 0 (state_count s i) j (pos 0) has.1
    ∙ ap (λ k. entry_value s value (X i f k)) (let e : 0 + j ≡ j = omega arith in e)

worth_is : (s : Shape) (value : ℕ → ℤ) (den : ℤ) → Agree s (worth (run_of s value den)) (column_value s value den)
unfolding run_of
worth_is s value den constant has = refl
worth_is s value den (entry e) has = entry_is s value den e has

read_is : (s : Shape) (r : Run) → Agree s (worth r) (column_value s (value_at s r) r.over)
read_is s r constant has = refl
read_is s r (entry e) has = sym (value_at-column_of s r e has)

-- ---- the laws: a claim of the run that is made of columns is the claim of the columns, and so is that of a run that is read

pub claim_made : (s : Shape) (value : ℕ → ℤ) (den : ℤ) (c : Symbolic) → IsOver s c → at (run_of s value den) c ≡ with_values (column_value s value den) c
claim_made s value den c over = same_claim s (worth (run_of s value den)) (column_value s value den) (worth_is s value den) c over

pub claim_read : (s : Shape) (r : Run) (c : Symbolic) → IsOver s c → at r c ≡ with_values (column_value s (value_at s r) r.over) c
claim_read s r c over = same_claim s (worth r) (column_value s (value_at s r) r.over) (read_is s r) c over

-- ---- parts one after another are each in the shape

pub both_in : (s : Shape) (ps qs : List Part) → EachIn s ps → EachIn s qs → EachIn s (ps ++ qs)
both_in s [] qs one two = two
both_in s (p ∷ ps) qs one two = (one.0, both_in s ps qs one.1 two)

pub each_flow_in : (s : Shape) (terms : ℕ → List Part) (n : ℕ) → ((f : ℕ) → 1 ≤ f → f ≤ n → EachIn s (terms f)) → EachIn s (each_flow terms n)
each_flow_in s terms zero each = tt
each_flow_in s terms (suc n) each =
    both_in s (each_flow terms n) (terms (suc n)) (each_flow_in s terms n (λ f from to. each f from (omega arith))) (each (suc n) (omega arith) (omega arith))

-- claims of columns, one after another
pub claims_made : (s : Shape) (value : ℕ → ℤ) (den : ℤ) (cs : List Symbolic) → EachOver s cs
    → map (at (run_of s value den)) cs ≡ map (with_values (column_value s value den)) cs
claims_made s value den [] over = refl
claims_made s value den (c ∷ cs) over =
    ap (λ d. d ∷ map (at (run_of s value den)) cs) (claim_made s value den c over.0)
    ∙ ap (λ ds. with_values (column_value s value den) c ∷ ds) (claims_made s value den cs over.1)
