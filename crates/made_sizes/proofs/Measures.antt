-- How many sums claims have, and what their formulas weigh.
use Rattle.std.proofs.Common.{◌≡◌, ℕ, zero, suc, ◌+◌, ◌*◌, ◌<◌, ◌≤◌, ◌⊎◌, inl, inr, List, [], ◌∷◌, ◌++◌, map, length, length-append, refl, sym, subst, arith}
use Rattle.std.specs.Prelude.{flat_map}
use Rattle.std.proofs.lemmas.Bool.{cases_lt}
use Rattle.std.proofs.lemmas.Grind.{flat_map-append}
use Rattle.condition_tree.specs.Trees.{always, never, leaf, opposite, end_of_all, all_of, end_of_any, any_of, conjunction, EachLeaf}
use Rattle.condition_tree.proofs.Trees.{each_leaf_gives}
use Rattle.weighing.specs.Claim.{Compared}
use Rattle.weighing.specs.First.{below}
use Rattle.weighing.specs.declared.weighings.Rel5.{Rel5}
use Rattle.weighing.specs.declared.weighings.Rel5.TheVariants.{AtMost, Below, AtLeast, Above, Equal}
use Rattle.claims.specs.Subjects.{Part, Symbolic, each_flow}
use Rattle.clause_limits.specs.Limits.{IsAmong, open_all, open_any}

-- ---- what stands in a list

pub among_left : {X : Type 0} (xs ys : List X) (x : X) → IsAmong xs x → IsAmong (xs ++ ys) x
among_left [] ys x among = absurd among
among_left (y ∷ xs) ys x (inl is) = inl is
among_left (y ∷ xs) ys x (inr among) = inr (among_left xs ys x among)

pub among_right : {X : Type 0} (xs ys : List X) (x : X) → IsAmong ys x → IsAmong (xs ++ ys) x
among_right [] ys x among = among
among_right (y ∷ xs) ys x among = inr (among_right xs ys x among)

among_either : {X : Type 0} (xs ys : List X) (x : X) → IsAmong (xs ++ ys) x → IsAmong xs x ⊎ IsAmong ys x
among_either [] ys x among = inr among
among_either (y ∷ xs) ys x (inl is) = inl (inl is)
among_either (y ∷ xs) ys x (inr among) = elim (among_either xs ys x among) [ inl front ↦ inl (inr front) | inr back ↦ inr back ]

pub among_flat : {A X : Type 0} (g : A → List X) (zs : List A) (a : A) (x : X) → IsAmong zs a → IsAmong (g a) x → IsAmong (flat_map g zs) x
among_flat g [] a x at among = absurd at
among_flat g (b ∷ zs) a x (inl is) among = among_left (g b) (flat_map g zs) x (subst (λ c. IsAmong (g c) x) is among)
among_flat g (b ∷ zs) a x (inr at) among = among_right (g b) (flat_map g zs) x (among_flat g zs a x at among)

pub in_below : (n k : ℕ) → k < n → IsAmong (below n) k
in_below zero k to = absurd (omega arith)
in_below (suc n) k to = by (cases_lt k n) (in_below n k)
  where
    by : (k < n) ⊎ (n ≤ k) → (k < n → IsAmong (below n) k) → IsAmong (below (suc n)) k
    by (inl before) there = among_left (below n) (n ∷ []) k (there before)
    by (inr last) there = let same : k ≡ n = omega arith in among_right (below n) (n ∷ []) k (inl same)

pub below_in : (n k : ℕ) → IsAmong (below n) k → k < n
below_in zero k among = absurd among
below_in (suc n) k among =
    elim (among_either (below n) (n ∷ []) k among) [
      | inl front ↦ let before = below_in n k front in omega arith
      | inr back ↦ elim back [ inl is ↦ omega arith | inr none ↦ absurd none ]
    ]

pub length_below : (n : ℕ) → length (below n) ≡ n
length_below zero = refl
length_below (suc n) = omega (arith, length_below n, length-append (below n) (n ∷ []))

-- ---- the sums of claims

abbrev pub sums_in : Symbolic → List (List Part)
sums_in always = []
sums_in never = []
sums_in (leaf c) = c.terms ∷ []
sums_in (opposite c) = sums_in c
sums_in end_of_all = []
sums_in (all_of c rest) = sums_in c ++ sums_in rest
sums_in end_of_any = []
sums_in (any_of c rest) = sums_in c ++ sums_in rest

abbrev pub sums_of : List Symbolic → List (List Part)
sums_of [] = []
sums_of (c ∷ cs) = sums_in c ++ sums_of cs

-- each comparison is of one of the sums
abbrev pub IsOf : List (List Part) → Symbolic → Type 0
IsOf sums c = EachLeaf (λ (d : Compared Part). IsAmong sums d.terms) c

abbrev pub AreOf : List (List Part) → List Symbolic → Type 0
AreOf sums [] = Unit {0}
AreOf sums (c ∷ cs) = IsOf sums c × AreOf sums cs

pub of_left : (xs ys : List (List Part)) (c : Symbolic) → IsOf xs c → IsOf (xs ++ ys) c
of_left xs ys c are =
    each_leaf_gives (λ (d : Compared Part). IsAmong xs d.terms) (λ (d : Compared Part). IsAmong (xs ++ ys) d.terms) c
    (λ d among. among_left xs ys d.terms among) are

pub of_right : (xs ys : List (List Part)) (c : Symbolic) → IsOf ys c → IsOf (xs ++ ys) c
of_right xs ys c are =
    each_leaf_gives (λ (d : Compared Part). IsAmong ys d.terms) (λ (d : Compared Part). IsAmong (xs ++ ys) d.terms) c
    (λ d among. among_right xs ys d.terms among) are

are_left : (xs ys : List (List Part)) (cs : List Symbolic) → AreOf xs cs → AreOf (xs ++ ys) cs
are_left xs ys [] are = tt
are_left xs ys (c ∷ cs) are = (of_left xs ys c are.0, are_left xs ys cs are.1)

are_right : (xs ys : List (List Part)) (cs : List Symbolic) → AreOf ys cs → AreOf (xs ++ ys) cs
are_right xs ys [] are = tt
are_right xs ys (c ∷ cs) are = (of_right xs ys c are.0, are_right xs ys cs are.1)

pub are_joined : (sums : List (List Part)) (cs ds : List Symbolic) → AreOf sums cs → AreOf sums ds → AreOf sums (cs ++ ds)
are_joined sums [] ds one two = two
are_joined sums (c ∷ cs) ds one two = (one.0, are_joined sums cs ds one.1 two)

pub are_mapped : {A : Type 0} (sums : List (List Part)) (f : A → Symbolic) (zs : List A) → ((a : A) → IsAmong zs a → IsOf sums (f a)) → AreOf sums (map f zs)
are_mapped sums f [] each = tt
are_mapped sums f (a ∷ zs) each = (each a (inl refl), are_mapped sums f zs (λ b among. each b (inr among)))

pub conjunction_of : (sums : List (List Part)) (cs : List Symbolic) → AreOf sums cs → IsOf sums (conjunction cs)
conjunction_of sums [] are = tt
conjunction_of sums (c ∷ cs) are = (are.0, conjunction_of sums cs are.1)

own_sums : (c : Symbolic) → IsOf (sums_in c) c
own_sums always = tt
own_sums never = tt
own_sums (leaf c) = inl refl
own_sums (opposite c) = own_sums c
own_sums end_of_all = tt
own_sums (all_of c rest) = (of_left (sums_in c) (sums_in rest) c (own_sums c), of_right (sums_in c) (sums_in rest) rest (own_sums rest))
own_sums end_of_any = tt
own_sums (any_of c rest) = (of_left (sums_in c) (sums_in rest) c (own_sums c), of_right (sums_in c) (sums_in rest) rest (own_sums rest))

-- the sums of a claim stand in the list
pub through : (c : Symbolic) (xs : List (List Part)) → ((sum : List Part) → IsAmong (sums_in c) sum → IsAmong xs sum) → IsOf xs c
through c xs there =
    each_leaf_gives (λ (d : Compared Part). IsAmong (sums_in c) d.terms) (λ (d : Compared Part). IsAmong xs d.terms) c (λ d among. there d.terms among)
    (own_sums c)

all_sums : (cs : List Symbolic) → AreOf (sums_of cs) cs
all_sums [] = tt
all_sums (c ∷ cs) = (of_left (sums_in c) (sums_of cs) c (own_sums c), are_right (sums_in c) (sums_of cs) cs (all_sums cs))

-- ---- what the formulas of claims weigh

-- an equation becomes a conjunction of two comparisons
abbrev pub rel_weight : ℕ → ℕ → Rel5 → ℕ
rel_weight ends parts AtMost = 1
rel_weight ends parts Below = 1
rel_weight ends parts AtLeast = 1
rel_weight ends parts Above = 1
rel_weight ends parts Equal = 1 + (parts + (1 + (parts + ends)))

abbrev pub claim_weight : ℕ → ℕ → Symbolic → ℕ
claim_weight ends parts always = ends
claim_weight ends parts never = ends
claim_weight ends parts (leaf c) = rel_weight ends parts c.rel
claim_weight ends parts (opposite c) = claim_weight ends parts c
claim_weight ends parts end_of_all = ends
claim_weight ends parts (all_of c rest) = claim_weight ends parts c + (parts + (claim_weight ends parts rest + open_all (ends + parts) rest))
claim_weight ends parts end_of_any = ends
claim_weight ends parts (any_of c rest) = claim_weight ends parts c + (parts + (claim_weight ends parts rest + open_any (ends + parts) rest))

abbrev pub claim_weights : ℕ → ℕ → List Symbolic → ℕ
claim_weights ends parts [] = 0
claim_weights ends parts (c ∷ cs) = claim_weight ends parts c + claim_weights ends parts cs

weights_joined : (ends parts : ℕ) (cs ds : List Symbolic) → claim_weights ends parts (cs ++ ds) ≡ claim_weights ends parts cs + claim_weights ends parts ds
weights_joined ends parts [] ds = omega arith
weights_joined ends parts (c ∷ cs) ds = let rest = weights_joined ends parts cs ds in omega arith

-- each weighs at most so much
abbrev pub AreLight : ℕ → ℕ → ℕ → List Symbolic → Type 0
AreLight ends parts most [] = Unit {0}
AreLight ends parts most (c ∷ cs) = (claim_weight ends parts c ≤ most) × AreLight ends parts most cs

pub light_joined : (ends parts most : ℕ) (cs ds : List Symbolic) → AreLight ends parts most cs → AreLight ends parts most ds
    → AreLight ends parts most (cs ++ ds)
light_joined ends parts most [] ds one two = two
light_joined ends parts most (c ∷ cs) ds one two = (one.0, light_joined ends parts most cs ds one.1 two)

pub light_mapped : {A : Type 0} (ends parts most : ℕ) (f : A → Symbolic) (zs : List A) → ((a : A) → claim_weight ends parts (f a) ≤ most)
    → AreLight ends parts most (map f zs)
light_mapped ends parts most f [] each = tt
light_mapped ends parts most f (a ∷ zs) each = (each a, light_mapped ends parts most f zs each)

open_conjunction : (more : ℕ) (cs : List Symbolic) → open_all more (conjunction cs) ≡ 0
open_conjunction more [] = refl
open_conjunction more (c ∷ cs) = refl

pub conjunction_weight : (ends parts most : ℕ) (cs : List Symbolic) → AreLight ends parts most cs
    → claim_weight ends parts (conjunction cs) ≤ length cs * (most + parts) + ends
conjunction_weight ends parts most [] light = omega arith
conjunction_weight ends parts most (c ∷ cs) light =
    let first = light.0 in
    let rest = conjunction_weight ends parts most cs light.1 in
    let none = open_conjunction (ends + parts) cs in
    omega arith

-- numbers of so many things, one after another
abbrev pub total_over : {A : Type 0} → (A → ℕ) → List A → ℕ
total_over g [] = 0
total_over g (a ∷ zs) = g a + total_over g zs

pub mapped_weights : {A : Type 0} (ends parts : ℕ) (f : A → Symbolic) (most : A → ℕ) (zs : List A)
    → ((a : A) → IsAmong zs a → claim_weight ends parts (f a) ≤ most a)
    → claim_weights ends parts (map f zs) ≤ total_over most zs
mapped_weights ends parts f most [] each = omega arith
mapped_weights ends parts f most (a ∷ zs) each =
    let first = each a (inl refl) in
    let rest = mapped_weights ends parts f most zs (λ b among. each b (inr among)) in
    omega arith

-- ---- claims with at most n sums, whose formulas weigh at most a as atoms and c as clauses

pub record Measured (claims : List Symbolic) (n a c : ℕ) : Type 0 where
  pub sums : List (List Part)
  pub few : length sums ≤ n
  pub of : AreOf sums claims
  pub atoms : claim_weights 1 0 claims ≤ a
  pub clauses : claim_weights 2 2 claims ≤ c

pub measured_to : (claims : List Symbolic) (n a c m b d : ℕ) → Measured claims n a c → n ≤ m → a ≤ b → c ≤ d → Measured claims m b d
measured_to claims n a c m b d is more_sums more_atoms more_clauses = record {
  sums = is.sums;
  few = (let few = is.few in omega arith);
  of = is.of;
  atoms = (let atoms = is.atoms in omega arith);
  clauses = (let clauses = is.clauses in omega arith);
}

pub measured_own : (claims : List Symbolic) (n a c : ℕ) → length (sums_of claims) ≤ n → claim_weights 1 0 claims ≤ a → claim_weights 2 2 claims ≤ c
    → Measured claims n a c
measured_own claims n a c few atoms clauses = record { sums = sums_of claims; few = few; of = all_sums claims; atoms = atoms; clauses = clauses }

pub measured_none : Measured [] 0 0 0
measured_none = record { sums = []; few = omega arith; of = tt; atoms = omega arith; clauses = omega arith }

pub measured_joined : (cs ds : List Symbolic) (n a c m b d : ℕ) → Measured cs n a c → Measured ds m b d → Measured (cs ++ ds) (n + m) (a + b) (c + d)
measured_joined cs ds n a c m b d one two = record {
  sums = one.sums ++ two.sums;
  few = (let long : length (one.sums ++ two.sums) ≡ length one.sums + length two.sums = length-append one.sums two.sums in omega (arith, one.few, two.few));
  of = are_joined (one.sums ++ two.sums) cs ds (are_left one.sums two.sums cs one.of) (are_right one.sums two.sums ds two.of);
  atoms = (let first = one.atoms in let second = two.atoms in let both = weights_joined 1 0 cs ds in omega arith);
  clauses = (let first = one.clauses in let second = two.clauses in let both = weights_joined 2 2 cs ds in omega arith);
}

pub measured_flows : (g : ℕ → List Symbolic) (n a c k : ℕ) → ((f : ℕ) → Measured (g f) n a c) → Measured (each_flow g k) (k * n) (k * a) (k * c)
measured_flows g n a c zero each = measured_to [] 0 0 0 (0 * n) (0 * a) (0 * c) measured_none (omega arith) (omega arith) (omega arith)
measured_flows g n a c (suc k) each =
    measured_to (each_flow g k ++ g (suc k)) (k * n + n) (k * a + a) (k * c + c) (suc k * n) (suc k * a) (suc k * c)
    (measured_joined (each_flow g k) (g (suc k)) (k * n) (k * a) (k * c) n a c (measured_flows g n a c k each) (each (suc k)))
    (omega arith) (omega arith) (omega arith)

-- one more at the end
measured_next : (g : ℕ → List Symbolic) (k n a c m b d : ℕ) → Measured (flat_map g (below k)) n a c → Measured (g k) m b d
    → Measured (flat_map g (below (suc k))) (n + m) (a + b) (c + d)
measured_next g k n a c m b d before last =
    subst (λ (cs : List Symbolic). Measured cs (n + m) (a + b) (c + d)) (sym (flat_map-append g (below k) (k ∷ [])))
    (measured_joined (flat_map g (below k)) (g k ++ []) n a c m b d before
    (measured_to (g k ++ []) (m + 0) (b + 0) (d + 0) m b d (measured_joined (g k) [] m b d 0 0 0 last measured_none) (omega arith) (omega arith) (omega arith)))

pub measured_more : (g : ℕ → List Symbolic) (k m n a c n' a' c' : ℕ) → Measured (flat_map g (below k)) n' a' c'
    → ((j : ℕ) → k ≤ j → j < m + k → Measured (g j) n a c)
    → Measured (flat_map g (below (m + k))) (n' + m * n) (a' + m * a) (c' + m * c)
measured_more g k zero n a c n' a' c' before each =
    subst (λ (i : ℕ). Measured (flat_map g (below i)) (n' + 0 * n) (a' + 0 * a) (c' + 0 * c)) (let e : k ≡ 0 + k = omega arith in e)
    (measured_to (flat_map g (below k)) n' a' c' (n' + 0 * n) (a' + 0 * a) (c' + 0 * c) before (omega arith) (omega arith) (omega arith))
measured_more g k (suc m) n a c n' a' c' before each =
    subst (λ (i : ℕ). Measured (flat_map g (below i)) (n' + suc m * n) (a' + suc m * a) (c' + suc m * c)) (let e : suc (m + k) ≡ suc m + k = omega arith in e)
    (measured_to (flat_map g (below (suc (m + k)))) (n' + m * n + n) (a' + m * a + a) (c' + m * c + c) (n' + suc m * n) (a' + suc m * a) (c' + suc m * c)
    (measured_next g (m + k) (n' + m * n) (a' + m * a) (c' + m * c) n a c (measured_more g k m n a c n' a' c' before (λ j from to. each j from (omega arith)))
    (each (m + k) (omega arith) (omega arith)))
    (omega arith) (omega arith) (omega arith))

pub measured_below : (g : ℕ → List Symbolic) (n a c k : ℕ) → ((j : ℕ) → Measured (g j) n a c) → Measured (flat_map g (below k)) (k * n) (k * a) (k * c)
measured_below g n a c k each =
    subst (λ (i : ℕ). Measured (flat_map g (below i)) (k * n) (k * a) (k * c)) (let e : k + 0 ≡ k = omega arith in e)
    (measured_to (flat_map g (below (k + 0))) (0 + k * n) (0 + k * a) (0 + k * c) (k * n) (k * a) (k * c)
    (measured_more g 0 k n a c 0 0 0 measured_none (λ j from to. each j)) (omega arith) (omega arith) (omega arith))
