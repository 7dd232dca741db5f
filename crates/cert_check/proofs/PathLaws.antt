-- The path's table of truths follows the path.
use Rattle.std.proofs.Common.{◌≡◌, ◌≢◌, ℕ, zero, suc, ◌-◌, ◌+◌, ◌<◌, ◌≤◌, nat_lt, nat_eq, Bool, true, false, cond, not, ◌&&◌, List, [], ◌∷◌, ◌++◌, map, length, drop, set, get_or, replicate, reverse, Option, None, Some, slice_get, refl, sym, ◌∙◌, ap, subst, arith, add-one, drop-cons}
use Rattle.std.proofs.lemmas.Bool.{eqb-true, eq-eqb, ltb-true}
use Rattle.std.proofs.lemmas.List.{get_or-set_same, get_or-set_other, length-set, reverse-append, drop_all}
use Rattle.linear_form.proofs.ReducedLists.{true_not_false}
use Rattle.farkas_cert.specs.Literals.{negation}
use Rattle.farkas_cert.specs.declared.literals.Lit.{Lit}
use Rattle.clause_form.specs.Derivations.{HasAtom, NamesOnce}
use Rattle.cert_check.specs.Causes.{truth_on, is_free, is_sign, is_on_path, is_false_on, names_once}
use Rattle.cert_check.specs.Tables.{Assumed, Shows, without_first}
use Rattle.cert_check.proofs.CauseLaws.{is_free-off, both_true}

abbrev unnamed : Option Bool
unnamed = None

none_at : (n atom : ℕ) → get_or (replicate n unnamed) atom unnamed ≡ unnamed
none_at zero atom = refl
none_at (suc n) zero = refl
none_at (suc n) (suc atom) = none_at n atom

-- the empty path
pub shows_none : (n : ℕ) (truths : List (Option Bool)) → truths ≡ replicate n None → Shows [] truths
shows_none n truths e = record { once = tt; truth = λ atom. ap (λ t. get_or t atom None) e ∙ none_at n atom }

truth_here : (l : Lit) (path : List Lit) (atom : ℕ) → nat_eq l.atom atom ≡ true → truth_on (l ∷ path) atom ≡ Some l.positive
truth_here l path atom e = ap (λ b. cond b (Some l.positive) (truth_on path atom)) e

truth_later : (l : Lit) (path : List Lit) (atom : ℕ) → nat_eq l.atom atom ≡ false → truth_on (l ∷ path) atom ≡ truth_on path atom
truth_later l path atom e = ap (λ b. cond b (Some l.positive) (truth_on path atom)) e

other_atom : (a b : ℕ) → nat_eq a b ≡ false → b ≢ a
other_atom a b e same = true_not_false (sym (eq-eqb a b (sym same)) ∙ e)

off_path : (path : List Lit) (atom : ℕ) → truth_on path atom ≡ None → HasAtom atom path → ⊥
off_path path atom e = (is_free-off path atom).0 (ap is_free e)

free_again : (truth : Option Bool) → is_free truth ≡ true → truth ≡ None
free_again None e = refl
free_again (Some b) e = absurd (cc)

off_none : (path : List Lit) (atom : ℕ) → (HasAtom atom path → ⊥) → truth_on path atom ≡ None
off_none path atom off = free_again (truth_on path atom) ((is_free-off path atom).1 off)

-- one literal more
pub shows_more : (l : Lit) (path : List Lit) (truths : List (Option Bool)) → l.atom < length truths → truth_on path l.atom ≡ None → Shows path truths → Shows (l ∷ path) (set truths l.atom (Some l.positive))
shows_more l path truths less free shows = record {
  once = (subst (λ (n : ℕ). l.atom < n) (sym same_length) less, off_path path l.atom free, subst (λ (n : ℕ). NamesOnce n path) (sym same_length) shows.once);
  truth = λ atom. by atom (nat_eq l.atom atom) refl;
}
  where
    same_length : length (set truths l.atom (Some l.positive)) ≡ length truths
    same_length = length-set truths l.atom (Some l.positive)

    by : (atom : ℕ) (here : Bool) → nat_eq l.atom atom ≡ here → get_or (set truths l.atom (Some l.positive)) atom None ≡ truth_on (l ∷ path) atom
    by atom true e =
        ap (λ a. get_or (set truths l.atom (Some l.positive)) a None) (sym (eqb-true l.atom atom e)) ∙ get_or-set_same truths l.atom (Some l.positive) None less ∙ sym (truth_here l path atom e)
    by atom false e =
        get_or-set_other truths l.atom atom (Some l.positive) None (other_atom l.atom atom e) ∙ shows.truth atom ∙ sym (truth_later l path atom e)

-- one literal less
pub shows_less : (l : Lit) (path : List Lit) (truths : List (Option Bool)) → Shows (l ∷ path) truths → Shows path (set truths l.atom None)
shows_less l path truths shows = record {
  once = subst (λ (n : ℕ). NamesOnce n path) (sym (length-set truths l.atom None)) shows.once.2;
  truth = λ atom. by atom (nat_eq l.atom atom) refl;
}
  where
    by : (atom : ℕ) (here : Bool) → nat_eq l.atom atom ≡ here → get_or (set truths l.atom None) atom None ≡ truth_on path atom
    by atom true e =
        ap (λ a. get_or (set truths l.atom None) a None) (sym (eqb-true l.atom atom e)) ∙ get_or-set_same truths l.atom None None shows.once.0 ∙ sym (off_none path l.atom shows.once.1) ∙ ap (truth_on path) (eqb-true l.atom atom e)
    by atom false e =
        get_or-set_other truths l.atom atom None None (other_atom l.atom atom e) ∙ shows.truth atom ∙ truth_later l path atom e

-- the stack with one literal more, read from its end
pub reverse_push : (lits : List Lit) (l : Lit) → reverse (lits ++ l ∷ []) ≡ l ∷ reverse lits
reverse_push lits l = reverse-append lits (l ∷ [])

pub drop_first : (lits : List Lit) (n : ℕ) → without_first (drop n lits) ≡ drop (n + 1) lits
drop_first lits n = by lits n ∙ ap (λ k. drop k lits) (sym (add-one n))
  where
    by : (ls : List Lit) (n : ℕ) → without_first (drop n ls) ≡ drop (suc n) ls
    by [] zero = refl
    by [] (suc n) = refl
    by (l ∷ ls) zero = refl
    by (l ∷ ls) (suc n) = by ls n

-- ---- over what contracts see

pub assume_law : (lits more : List Lit) (truths : List (Option Bool)) (value : Assumed) (l : Lit) → record { atoms = length truths; lits = reverse lits } ≡ value → Shows (reverse lits) truths → l.atom < value.atoms → truth_on value.lits l.atom ≡ None → more ≡ lits ++ l ∷ [] → Shows (reverse more) (set truths l.atom (Some l.positive))
assume_law lits more truths value l view shows less free e =
    subst (λ (p : List Lit). Shows p (set truths l.atom (Some l.positive))) (sym (ap reverse e ∙ reverse_push lits l)) (shows_more l (reverse lits) truths (subst (λ (n : ℕ). l.atom < n) (sym (ap (λ (v : Assumed). v.atoms) view)) less) (ap (λ (v : Assumed). truth_on v.lits l.atom) view ∙ free) shows)

pub retract_law : (lits less : List Lit) (truths : List (Option Bool)) (l : Lit) → Shows (reverse lits) truths → lits ≡ less ++ l ∷ [] → Shows (reverse less) (set truths l.atom None)
retract_law lits less truths l shows e =
    shows_less l (reverse less) truths (subst (λ (p : List Lit). Shows p truths) (ap reverse e ∙ reverse_push less l) shows)

pub same_assumed : (p : Assumed) (n : ℕ) (lits : List Lit) → p.atoms ≡ n → p.lits ≡ lits → p ≡ record { atoms = n; lits = lits }
same_assumed p n lits e f = ap (λ (a : ℕ). assumed a p.lits) e ∙ ap (assumed n) f
  where
    assumed : ℕ → List Lit → Assumed
    assumed a ls = record { atoms = a; lits = ls }

-- the literals of a clause from the last on
pub cut_more : (xs : List Lit) (l : Lit) (i : ℕ) → i < length xs → slice_get xs (length xs - 1 - i) ≡ Some l → drop (length xs - (i + 1)) xs ≡ l ∷ drop (length xs - i) xs
cut_more xs l i less e =
    ap (λ (k : ℕ). drop k xs) here ∙ first xs (length xs - 1 - i) l e ∙ ap (λ (k : ℕ). l ∷ drop k xs) next
  where
    first : (ys : List Lit) (k : ℕ) (y : Lit) → slice_get ys k ≡ Some y → drop k ys ≡ y ∷ drop (suc k) ys
    first [] k y e = absurd (cc)
    first (x ∷ ys) zero y e = let same : x ≡ y = cc in ap (λ (z : Lit). z ∷ ys) same
    first (x ∷ ys) (suc k) y e = first ys k y e

    here : length xs - (i + 1) ≡ length xs - 1 - i
    here = omega arith

    next : suc (length xs - 1 - i) ≡ length xs - i
    next = omega arith

both : Bool → Bool → Bool
both a b = a && b

free_negation : (lits : List Lit) (atom : ℕ) → is_free (truth_on (map negation lits) atom) ≡ is_free (truth_on lits atom)
free_negation [] atom = refl
free_negation (l ∷ ls) atom = by (nat_eq l.atom atom) (free_negation ls atom)
  where
    by : (b : Bool) → is_free (truth_on (map negation ls) atom) ≡ is_free (truth_on ls atom) → is_free (cond b (Some (not l.positive)) (truth_on (map negation ls) atom)) ≡ is_free (cond b (Some l.positive) (truth_on ls atom))
    by true e = refl
    by false e = e

-- a clause that names an atom twice, or one out of range, does so with more literals in front
names_later : (atoms : ℕ) (xs : List Lit) (k : ℕ) → names_once atoms (drop k xs) ≡ false → names_once atoms xs ≡ false
names_later atoms [] zero e = e
names_later atoms [] (suc k) e = e
names_later atoms (x ∷ xs) zero e = e
names_later atoms (x ∷ xs) (suc k) e =
    ap (λ (b : Bool). (nat_lt x.atom atoms && is_free (truth_on xs x.atom)) && b) (names_later atoms xs k e) ∙ and_false (nat_lt x.atom atoms && is_free (truth_on xs x.atom))
  where
    and_false : (b : Bool) → (b && false) ≡ false
    and_false true = refl
    and_false false = refl

-- one literal more, whose atom is free or not
pub names_step : (atoms : ℕ) (xs path : List Lit) (l : Lit) (i : ℕ) → i < length xs → slice_get xs (length xs - 1 - i) ≡ Some l → path ≡ map negation (drop (length xs - i) xs) → names_once atoms (drop (length xs - i) xs) ≡ true → names_once atoms (drop (length xs - (i + 1)) xs) ≡ (nat_lt l.atom atoms && is_free (truth_on path l.atom))
names_step atoms xs path l i less e is once =
    ap (names_once atoms) (cut_more xs l i less e) ∙ ap (λ (b : Bool). (nat_lt l.atom atoms && is_free (truth_on (drop (length xs - i) xs) l.atom)) && b) once ∙ and_true (nat_lt l.atom atoms && is_free (truth_on (drop (length xs - i) xs) l.atom)) ∙ ap (λ (b : Bool). nat_lt l.atom atoms && b) (sym (free_negation (drop (length xs - i) xs) l.atom) ∙ ap (λ (p : List Lit). is_free (truth_on p l.atom)) (sym is))
  where
    and_true : (b : Bool) → (b && true) ≡ b
    and_true true = refl
    and_true false = refl

pub names_fault : (atoms : ℕ) (xs path : List Lit) (l : Lit) (i : ℕ) → i < length xs → slice_get xs (length xs - 1 - i) ≡ Some l → path ≡ map negation (drop (length xs - i) xs) → names_once atoms (drop (length xs - i) xs) ≡ true → (nat_lt l.atom atoms && is_free (truth_on path l.atom)) ≡ false → names_once atoms xs ≡ false
names_fault atoms xs path l i less e is once fault =
    names_later atoms xs (length xs - (i + 1)) (names_step atoms xs path l i less e is once ∙ fault)

-- what may be assumed
pub may_law : (l n : Lit) (p : Assumed) (may : Bool) → may ≡ (nat_lt l.atom p.atoms && is_free (truth_on p.lits l.atom)) → may ≡ true → n ≡ negation l → (n.atom < p.atoms) × (truth_on p.lits n.atom ≡ None)
may_law l n p may e is same =
    let two = both_true (nat_lt l.atom p.atoms) (is_free (truth_on p.lits l.atom)) (sym e ∙ is) in
    let at : n.atom ≡ l.atom = ap (λ (m : Lit). m.atom) same in
    (subst (λ (a : ℕ). a < p.atoms) (sym at) (ltb-true l.atom p.atoms two.0), ap (truth_on p.lits) at ∙ free_again (truth_on p.lits l.atom) two.1)
