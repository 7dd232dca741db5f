-- Keys that pass for the same are the same, and so are forms.
use Rattle.std.proofs.Common.{◌≡◌, ℕ, ℤ, Bool, true, false, ◌&&◌, nat_eq, List, [], ◌∷◌, refl, sym, ap}
use Rattle.std.specs.Cmp.Lexicographic.{pointwise}
use Rattle.std.specs.Ordering.{int_eq}
use Rattle.std.proofs.Math.Bool.{beq}
use Rattle.std.specs.Cmp.{booleans_Decides}
use Rattle.std.proofs.lemmas.Bool.Decides.{Decides-eqb, Decides-int_eq}
use Rattle.farkas_cert.specs.declared.literals.Lit.{Lit}
use Rattle.farkas_cert.specs.contracts.literals.LitPartialEq.TheImpl as lit_eq
use Rattle.linear_form.specs.declared.lists.Form.{Form}
use Rattle.linear_form.specs.declared.lists.Term.{Term}
use Rattle.linear_form.specs.contracts.lists.TermPartialEq.TheImpl as term_eq
use Rattle.clause_form.specs.declared.keys.Connective.{Connective}
use Rattle.clause_form.specs.declared.keys.Connective.TheVariants.{And, Or}
use Rattle.clause_form.specs.declared.keys.Key.{Key}
use Rattle.clause_form.specs.declared.keys.Key.TheVariants.{Row, Named}
use Rattle.clause_form.specs.contracts.keys.ConnectivePartialEq.TheImpl as connective_eq
use Rattle.clause_form.specs.Keys.{same_form, same_key}

both : (a b : Bool) → (a && b) ≡ true → (a ≡ true) × (b ≡ true)
both true b e = (refl, e)
both false b e = absurd (cc)

same_bool : (a b : Bool) → beq a b ≡ true → b ≡ a
same_bool a b e = sym ((booleans_Decides a b).0 e)

same_connective : (a b : Connective) → (connective_eq.ghosts).eq a b ≡ true → b ≡ a
same_connective And And e = refl
same_connective And Or e = absurd (cc)
same_connective Or And e = absurd (cc)
same_connective Or Or e = refl

same_items : {T : Type 0} (same : T → T → Bool) → ((x y : T) → same x y ≡ true → y ≡ x) → (xs ys : List T) → pointwise same xs ys ≡ true → ys ≡ xs
same_items same exact [] [] e = refl
same_items same exact [] (y ∷ ys) e = absurd (cc)
same_items same exact (x ∷ xs) [] e = absurd (cc)
same_items same exact (x ∷ xs) (y ∷ ys) e =
    let p = both (same x y) (pointwise same xs ys) e in
    let first = exact x y p.0 in
    let rest = same_items same exact xs ys p.1 in
    λ i. first i ∷ rest i

same_number : (x y : ℕ) → nat_eq x y ≡ true → y ≡ x
same_number x y e = sym ((Decides-eqb x y).0 e)

same_integer : (x y : ℤ) → int_eq x y ≡ true → y ≡ x
same_integer x y e = sym ((Decides-int_eq x y).0 e)

same_lit : (x y : Lit) → (lit_eq.ghosts).eq x y ≡ true → y ≡ x
same_lit x y e =
    let p = both (nat_eq x.atom y.atom) (beq x.positive y.positive) e in
    let atom = same_number x.atom y.atom p.0 in
    let positive = same_bool x.positive y.positive p.1 in
    λ i. record { atom = atom i; positive = positive i }

same_term : (x y : Term) → (term_eq.ghosts).eq x y ≡ true → y ≡ x
same_term x y e =
    let p = both (nat_eq x.column y.column) (int_eq x.coef y.coef) e in
    let column = same_number x.column y.column p.0 in
    let coef = same_integer x.coef y.coef p.1 in
    λ i. record { column = column i; coef = coef i }

pub same_key-exact : (x y : Key) → same_key x y ≡ true → y ≡ x
same_key-exact (Row f n d s) (Row g m e t) h =
    let p = both (nat_eq f g) (int_eq n m && (int_eq d e && beq s t)) h in
    let q = both (int_eq n m) (int_eq d e && beq s t) p.1 in
    let r = both (int_eq d e) (beq s t) q.1 in
    let form = same_number f g p.0 in
    let num = same_integer n m q.0 in
    let den = same_integer d e r.0 in
    let strict = same_bool s t r.1 in
    λ i. Row (form i) (num i) (den i) (strict i)
same_key-exact (Row f n d s) (Named c ps) h = absurd (cc)
same_key-exact (Named c ps) (Row g m e t) h = absurd (cc)
same_key-exact (Named c ps) (Named k qs) h =
    let p = both ((connective_eq.ghosts).eq c k) (pointwise (lit_eq.ghosts).eq ps qs) h in
    let connective = same_connective c k p.0 in
    let parts = same_items (lit_eq.ghosts).eq same_lit ps qs p.1 in
    λ i. Named (connective i) (parts i)

pub same_form-exact : (x y : Form) → same_form x y ≡ true → y ≡ x
same_form-exact x y h =
    let terms = same_items (term_eq.ghosts).eq same_term x.terms y.terms h in
    λ i. record { terms = terms i }

-- ---- and each overflows for itself

same_items-itself : {T : Type 0} (same : T → T → Bool) → ((x : T) → same x x ≡ true) → (xs : List T) → pointwise same xs xs ≡ true
same_items-itself same itself [] = refl
same_items-itself same itself (x ∷ xs) =
    let first = itself x in
    let rest = same_items-itself same itself xs in
    λ i. first i && rest i

same_connective-itself : (a : Connective) → (connective_eq.ghosts).eq a a ≡ true
same_connective-itself And = refl
same_connective-itself Or = refl

number_itself : (x : ℕ) → nat_eq x x ≡ true
number_itself x = (Decides-eqb x x).1 refl

integer_itself : (x : ℤ) → int_eq x x ≡ true
integer_itself x = (Decides-int_eq x x).1 refl

flag_itself : (x : Bool) → beq x x ≡ true
flag_itself x = (booleans_Decides x x).1 refl

same_lit-itself : (x : Lit) → (lit_eq.ghosts).eq x x ≡ true
same_lit-itself x =
    let atom = number_itself x.atom in
    let positive = flag_itself x.positive in
    λ i. atom i && positive i

same_term-itself : (x : Term) → (term_eq.ghosts).eq x x ≡ true
same_term-itself x =
    let column = number_itself x.column in
    let coef = integer_itself x.coef in
    λ i. column i && coef i

pub same_key-itself : (x : Key) → same_key x x ≡ true
same_key-itself (Row f n d s) =
    let form = number_itself f in
    let num = integer_itself n in
    let den = integer_itself d in
    let strict = flag_itself s in
    λ i. form i && (num i && (den i && strict i))
same_key-itself (Named c ps) =
    let connective = same_connective-itself c in
    let parts = same_items-itself (lit_eq.ghosts).eq same_lit-itself ps in
    λ i. connective i && parts i

pub same_form-itself : (x : Form) → same_form x x ≡ true
same_form-itself x = same_items-itself (term_eq.ghosts).eq same_term-itself x.terms
