-- What an agenda covers: where the trail grows, where it is cut, and where nothing is left to look at.
use Rattle.std.proofs.Common.{◌≡◌, ℕ, zero, suc, ◌+◌, ◌*◌, ◌<◌, ◌≤◌, Bool, true, false, not, ◌⊎◌, inl, inr, List, [], ◌∷◌, ◌++◌, length, get_or, set, Option, None, Some, IsSome, IfSome, ◌↔◌, slice_get, refl, sym, ◌∙◌, ap, subst, arith, if◌then◌else◌, get_or-set_same, get_or-set_other}
use Rattle.std.specs.List.{Contains}
use Rattle.std.specs.List.Sorted.{IsPermutation}
use Rattle.std.proofs.lemmas.Bool.{cases_eq}
use Rattle.std.proofs.lemmas.List.{length-set}
use Rattle.std.proofs.lemmas.List.Sorted.{Contains-permutation, length_permutation}
use Rattle.std.proofs.lemmas.List.Elements.{Contains-append_left, Contains-append_right, Contains-push, Contains-push_cases}
use Rattle.farkas_cert.specs.Literals.{negation}
use Rattle.farkas_cert.specs.declared.literals.Lit.{Lit}
use Rattle.clause_form.specs.Derivations.{Has, IsFalseOn, NamesOnce}
use Rattle.clause_form.specs.Journals.{IsOpenClause, IsSettled}
use Rattle.clause_search.specs.declared.agenda.Waiting.{Waiting}
use Rattle.clause_search.specs.declared.standing.Standing.TheVariants.{Satisfied, Open, Unit as Single, False}
use Rattle.clause_search.specs.Agendas.{Covers, GivesNone, HasGrown, IsIndexed, IsListed, IsCovered, Waits, list_of, place_of}
use Rattle.clause_search.specs.Standings.{StandsAt}
use Rattle.clause_search.proofs.LiteralLaws.{atom_front, false_has, has_atom, has_either, others_each, others_has, same_lit, settled_at, settled_each, true_not_false}
use Rattle.clause_search.proofs.StandingLaws.{open_by_true, open_by_two}
use Rattle.clause_search.proofs.TrailLaws.{get_either, get_within, same_some}

-- ---- lists that grow

pub grown_more : (a b c : List (List ℕ)) → HasGrown a b → HasGrown b c → HasGrown a c
grown_more a b c first second = record {
  count = second.count ∙ first.count;
  kept = λ place n has. second.kept place n (first.kept place n has);
}

-- one list has one number more
pub grown_at : (lists : List (List ℕ)) (place n : ℕ) → place < length lists → HasGrown lists (set lists place (get_or lists place [] ++ n ∷ []))
grown_at lists place n inside = record {
  count = length-set lists place (get_or lists place [] ++ n ∷ []);
  kept = λ at m has. kept at m has (cases_eq at place);
}
  where
    more : List ℕ
    more = get_or lists place [] ++ n ∷ []

    kept : (at m : ℕ) → Contains (get_or lists at []) m → (at ≡ place) ⊎ (at ≡ place → ⊥) → Contains (get_or (set lists place more) at []) m
    kept at m has (inl here) =
        subst (λ (l : List ℕ). Contains l m) (sym (ap (λ (k : ℕ). get_or (set lists place more) k []) here ∙ get_or-set_same lists place more [] inside)) (Contains-append_left (get_or lists place []) (n ∷ []) m (subst (λ (k : ℕ). Contains (get_or lists k []) m) here has))
    kept at m has (inr apart) = subst (λ (l : List ℕ). Contains l m) (sym (get_or-set_other lists place at more [] apart)) has

pub listed_at : (lists : List (List ℕ)) (place n : ℕ) → place < length lists
    → Contains (get_or (set lists place (get_or lists place [] ++ n ∷ [])) place []) n
listed_at lists place n inside =
    subst (λ (l : List ℕ). Contains l n) (sym (get_or-set_same lists place (get_or lists place [] ++ n ∷ []) [] inside)) (Contains-push (get_or lists place []) n)

pub listed_still : (old new : List (List ℕ)) (n : ℕ) (clause : List Lit) → HasGrown old new → IsListed old n clause → IsListed new n clause
listed_still old new n clause grown listed l has inside =
    grown.kept (place_of l) n (listed l has (subst (λ (k : ℕ). place_of l < k) grown.count inside))

-- one literal more
pub listed_more : (lists : List (List ℕ)) (n : ℕ) (front : List Lit) (l : Lit) → IsListed lists n front
    → (place_of l < length lists → Contains (list_of lists l) n) → IsListed lists n (front ++ l ∷ [])
listed_more lists n front l before own m has inside = elim (has_either m l front has) [
  | inl earlier ↦ before m earlier inside
  | inr same ↦ subst (λ (k : Lit). Contains (list_of lists k) n) (sym same) (own (subst (λ (k : Lit). place_of k < length lists) same inside))
]

-- one clause more
pub indexed_more : (atoms : ℕ) (known : List (List Lit)) (old new : List (List ℕ)) (n : ℕ) (clause : List Lit) → IsIndexed atoms known old
    → HasGrown old new → IsListed new n clause → n ≡ length known → IsIndexed atoms (known ++ clause ∷ []) new
indexed_more atoms known old new n clause before grown own last = record {
  count = grown.count ∙ before.count;
  listed = λ k other is. elim (get_either known clause k other is) [
    | inl earlier ↦ listed_still old new k other grown (before.listed k other earlier)
    | inr at ↦ subst (λ (ls : List Lit). IsListed new k ls) at.1 (subst (λ (j : ℕ). IsListed new j clause) (last ∙ sym at.0) own)
  ];
}

place_within : (a atoms : ℕ) (positive : Bool) → a < atoms → (if positive then 2 * a + 1 else 2 * a) < 2 * atoms
place_within a atoms true less = omega arith
place_within a atoms false less = omega arith

-- ---- a clause without the negation of a literal stays as it is

false_each : (p xs : List Lit) → ((m : Lit) → Has m xs → Has (negation m) p) → IsFalseOn p xs
false_each p [] each = tt
false_each p (x ∷ xs) each = (each x (inl refl), false_each p xs (λ m h. each m (inr h)))

twice : (b : Bool) → not (not b) ≡ b
twice true = refl
twice false = refl

double : (l : Lit) → negation (negation l) ≡ l
double l = ap (λ (b : Bool). record { atom = l.atom; positive = b }) (twice l.positive)

module _ (lits clause : List Lit) (l : Lit) (free : Has (negation l) clause → ⊥) where
  false_earlier : (m : Lit) → Has m clause → Has (negation m) (lits ++ l ∷ []) → Has (negation m) lits
  false_earlier m h f = elim (has_either (negation m) l lits f) [
    | inl k ↦ k
    | inr e ↦ absurd (free (subst (λ (x : Lit). Has x clause) (sym (double m) ∙ ap negation e) h))
  ]

  not_false_kept : (IsFalseOn lits clause → ⊥) → IsFalseOn (lits ++ l ∷ []) clause → ⊥
  not_false_kept some f = some (false_each lits clause (λ m h. false_earlier m h (false_has (lits ++ l ∷ []) clause m f h)))

  open_kept : IsOpenClause lits clause → IsOpenClause (lits ++ l ∷ []) clause
  open_kept opens = record {
    not_false = not_false_kept opens.not_false;
    not_unit = λ m h off others.
        opens.not_unit m h (λ a. off (atom_front m.atom lits (l ∷ []) a)) (others_each lits clause m (λ k has. elim (others_has (lits ++ l ∷ []) clause m k others has) [
          | inl e ↦ inl e
          | inr f ↦ inr (false_earlier k has f)
        ]));
  }

-- ---- a literal is told

same_or : (l m : Lit) → (l ≡ m) ⊎ (l ≡ m → ⊥)
same_or l m = elim (cases_eq l.atom m.atom) [
  | inl a ↦ by_sign a l.positive m.positive refl refl
  | inr ne ↦ inr (λ e. ne (ap (λ (k : Lit). k.atom) e))
]
  where
    by_sign : l.atom ≡ m.atom → (p q : Bool) → l.positive ≡ p → m.positive ≡ q → (l ≡ m) ⊎ (l ≡ m → ⊥)
    by_sign a true true e f = inl (same_lit l m a (e ∙ sym f))
    by_sign a true false e f = inr (λ same. true_not_false (sym e ∙ ap (λ (k : Lit). k.positive) same ∙ f))
    by_sign a false true e f = inr (λ same. true_not_false (sym f ∙ sym (ap (λ (k : Lit). k.positive) same) ∙ e))
    by_sign a false false e f = inl (same_lit l m a (e ∙ sym f))

by_place : (l x : Lit) (xs : List Lit) → (l ≡ x → ⊥) → (Has l xs → ⊥) → Has l (x ∷ xs) → ⊥
by_place l x xs ne off (inl e) = ne e
by_place l x xs ne off (inr h) = off h

has_or : (l : Lit) (xs : List Lit) → Has l xs ⊎ (Has l xs → ⊥)
has_or l [] = inr (λ h. h)
has_or l (x ∷ xs) = elim (same_or l x) [
  | inl e ↦ inl (inl e)
  | inr ne ↦ (elim (has_or l xs) [ inl h ↦ inl (inr h) | inr off ↦ inr (λ h. by_place l x xs ne off h) ])
]

pub covers_told : (atoms : ℕ) (known : List (List Lit)) (lits : List Lit) (l : Lit) (lists : List (List ℕ)) (fresh fresh' : List ℕ) (units units' : List Waiting)
    → l.atom < atoms → IsIndexed atoms known lists → Covers known lits fresh units → fresh' ≡ fresh ++ list_of lists (negation l) → units' ≡ units
    → Covers known (lits ++ l ∷ []) fresh' units'
covers_told atoms known lits l lists fresh fresh' units units' less indexed covers more same n clause is =
    subst (λ (f : List ℕ). IsCovered (lits ++ l ∷ []) f units' n clause) (sym more) (subst (λ (u : List Waiting). IsCovered (lits ++ l ∷ []) (fresh ++ list_of lists (negation l)) u n clause) (sym same) (by (has_or (negation l) clause) (covers n clause is)))
  where
    inside : place_of (negation l) < length lists
    inside = subst (λ (k : ℕ). place_of (negation l) < k) (sym indexed.count) (place_within l.atom atoms (not l.positive) less)

    by : Has (negation l) clause ⊎ (Has (negation l) clause → ⊥) → IsCovered lits fresh units n clause
        → IsCovered (lits ++ l ∷ []) (fresh ++ list_of lists (negation l)) units n clause
    by (inl has) covered = inl (Contains-append_right fresh (list_of lists (negation l)) n (indexed.listed n clause is (negation l) has inside))
    by (inr free) (inl next) = inl (Contains-append_left fresh (list_of lists (negation l)) n next)
    by (inr free) (inr (inl opens)) = inr (inl (open_kept lits clause l free opens))
    by (inr free) (inr (inr (waits, some))) = inr (inr (waits, not_false_kept lits clause l free some))

-- ---- a clause is learned

none_there : {X : Type 0} (x : X) → Contains [] x → ⊥
none_there x h = let less : h.0 < 0 = h.1 in absurd (omega arith)

pub covers_learned : (known : List (List Lit)) (clause lits : List Lit) (n : ℕ) (fresh : List ℕ) (units : List Waiting) → IsSettled known lits
    → n ≡ length known → fresh ≡ n ∷ [] → Covers (known ++ clause ∷ []) lits fresh units
covers_learned known clause lits n fresh units settled last only k other is = elim (get_either known clause k other is) [
  | inl earlier ↦ inr (inl (settled_at known lits k other settled earlier))
  | inr at ↦ inl (subst (λ (f : List ℕ). Contains f k) (sym only) (subst (λ (j : ℕ). Contains (j ∷ []) k) (sym (last ∙ sym at.0)) (Contains-push [] k)))
]

-- a clause is looked at next, too
pub covers_entered : (known : List (List Lit)) (clause lits : List Lit) (n : ℕ) (fresh fresh' : List ℕ) (units units' : List Waiting)
    → Covers known lits fresh units → n ≡ length known → fresh' ≡ fresh ++ n ∷ [] → units' ≡ units → Covers (known ++ clause ∷ []) lits fresh' units'
covers_entered known clause lits n fresh fresh' units units' covers last more same k other is =
    subst (λ (f : List ℕ). IsCovered lits f units' k other) (sym more) (subst (λ (u : List Waiting). IsCovered lits (fresh ++ n ∷ []) u k other) (sym same) (elim (get_either known clause k other is) [
      | inl earlier ↦ by (covers k other earlier)
      | inr at ↦ inl (subst (λ (j : ℕ). Contains (fresh ++ n ∷ []) j) (last ∙ sym at.0) (Contains-push fresh n))
    ]))
  where
    by : IsCovered lits fresh units k other → IsCovered lits (fresh ++ n ∷ []) units k other
    by (inl next) = inl (Contains-append_left fresh (n ∷ []) k next)
    by (inr rest) = inr rest

-- ---- a clause is looked at

-- it is neither false nor unit
pub covers_dropped : (known : List (List Lit)) (lits : List Lit) (fresh : List ℕ) (units : List Waiting) (n : ℕ)
    → ((clause : List Lit) → slice_get known n ≡ Some clause → IsOpenClause lits clause) → Covers known lits (fresh ++ n ∷ []) units
    → Covers known lits fresh units
covers_dropped known lits fresh units n opens covers k clause is = by (covers k clause is)
  where
    by : IsCovered lits (fresh ++ n ∷ []) units k clause → IsCovered lits fresh units k clause
    by (inl next) = elim (Contains-push_cases fresh n k next) [
      | inl h ↦ inl h
      | inr e ↦ inr (inl (opens clause (subst (λ (j : ℕ). slice_get known j ≡ Some clause) (sym e) is)))
    ]
    by (inr rest) = inr rest

-- it waits, and isn't false
pub covers_kept : (known : List (List Lit)) (lits : List Lit) (fresh : List ℕ) (units units' : List Waiting) (n : ℕ) (w : Waiting) → w.by ≡ n
    → ((clause : List Lit) → slice_get known n ≡ Some clause → IsFalseOn lits clause → ⊥) → IsPermutation (w ∷ units) units'
    → Covers known lits (fresh ++ n ∷ []) units → Covers known lits fresh units'
covers_kept known lits fresh units units' n w number some moved covers k clause is = by (covers k clause is)
  where
    waits : Waits units k → Waits units' k
    waits (u, has, e) = (u, Contains-permutation (w ∷ units) units' u moved (Contains-append_right (w ∷ []) units u has), e)

    by : IsCovered lits (fresh ++ n ∷ []) units k clause → IsCovered lits fresh units' k clause
    by (inl next) = elim (Contains-push_cases fresh n k next) [
      | inl h ↦ inl h
      | inr e ↦ inr (inr ((w, Contains-permutation (w ∷ units) units' w moved (Contains-append_left (w ∷ []) units w (Contains-push [] w)), number ∙ e), some clause (subst (λ (j : ℕ). slice_get known j ≡ Some clause) (sym e) is)))
    ]
    by (inr (inl opens)) = inr (inl opens)
    by (inr (inr (has, not_false))) = inr (inr (waits has, not_false))

-- there is no such clause
pub past : (known : List (List Lit)) (n : ℕ) (clause : List Lit) → length known ≤ n → slice_get known n ≡ Some clause → ⊥
past known n clause most is = let less : n < length known = get_within known n clause is in absurd (omega arith)

clause_at : (known : List (List Lit)) (n : ℕ) (x clause : List Lit) → slice_get known n ≡ Some x → slice_get known n ≡ Some clause → x ≡ clause
clause_at known n x clause e f = same_some x clause (sym e ∙ f)

pub opens_true : (known : List (List Lit)) (lits : List Lit) (atoms n : ℕ) (clause : List Lit) → NamesOnce atoms lits → StandsAt known lits n Satisfied
    → slice_get known n ≡ Some clause → IsOpenClause lits clause
opens_true known lits atoms n clause once at is =
    subst (λ (ls : List Lit). IsOpenClause lits ls) (clause_at known n at.clause clause at.is is) (open_by_true atoms lits at.clause once at.stands)

pub opens_two : (known : List (List Lit)) (lits : List Lit) (n : ℕ) (l : Lit) (clause : List Lit) → StandsAt known lits n (Open l)
    → slice_get known n ≡ Some clause → IsOpenClause lits clause
opens_two known lits n l clause at is = subst (λ (ls : List Lit). IsOpenClause lits ls) (clause_at known n at.clause clause at.is is) (open_by_two lits at.clause l at.stands)

pub single_not_false : (known : List (List Lit)) (lits : List Lit) (n : ℕ) (l : Lit) (clause : List Lit) → StandsAt known lits n (Single l)
    → slice_get known n ≡ Some clause → IsFalseOn lits clause → ⊥
single_not_false known lits n l clause at is f =
    at.stands.1 (has_atom (negation l) lits (false_has lits at.clause l (subst (λ (ls : List Lit). IsFalseOn lits ls) (sym (clause_at known n at.clause clause at.is is)) f) at.stands.0))

pub false_gives_none : (known : List (List Lit)) (lits : List Lit) (n : ℕ) → StandsAt known lits n False → GivesNone known lits n
false_gives_none known lits n at clause is l has off others =
    off (has_atom (negation l) lits (false_has lits at.clause l at.stands (subst (λ (ls : List Lit). Has l ls) (sym (clause_at known n at.clause clause at.is is)) has)))

-- ---- a clause that waits gives nothing any more

same_top : {X : Type 0} (xs ys : List X) (x y : X) → IsPermutation xs (y ∷ ys) → x ≡ get_or xs 0 x → y ≡ get_or xs 0 y → x ≡ y
same_top [] ys x y moved e f = absurd (let size : length (y ∷ ys) ≡ 0 = length_permutation [] (y ∷ ys) moved in omega arith)
same_top (z ∷ xs) ys x y moved e f = e ∙ sym f

first_or_other : {X : Type 0} (xs : List X) (x y : X) → Contains (x ∷ xs) y → Contains xs y ⊎ (y ≡ x)
first_or_other xs x y (zero, less, e) = inr (sym e)
first_or_other xs x y (suc k, less, e) = inl (k, (let less : suc k < suc (length xs) = less in omega arith), e)

-- the first of those that wait is taken away
pub covers_popped : (known : List (List Lit)) (lits : List Lit) (units units' : List Waiting) (first : Waiting) (popped : Option Waiting) (n : ℕ)
    → GivesNone known lits first.by → first ≡ get_or units 0 first → 0 < n → IsSome popped ↔ (0 < n) → IfSome popped (λ w. w ≡ get_or units 0 w)
    → IfSome popped (λ w. IsPermutation units (w ∷ units')) → Covers known lits [] units → Covers known lits [] units'
covers_popped known lits units units' first None n none e some variant f moved covers k clause is = absurd (true_not_false (sym (variant.1 some)))
covers_popped known lits units units' first (Some top) n none e some variant f moved covers k clause is = by (covers k clause is)
  where
    number : top ≡ first
    number = sym (same_top units units' first top moved e f)

    still : (w : Waiting) → w.by ≡ k → Contains units' w ⊎ (w ≡ top) → (IsFalseOn lits clause → ⊥) → IsCovered lits [] units' k clause
    still w at (inl has) not_false = inr (inr ((w, has, at), not_false))
    still w at (inr is_top) not_false = inr (inl (record {
      not_false = not_false;
      not_unit = none clause (subst (λ (j : ℕ). slice_get known j ≡ Some clause) (sym at ∙ ap (λ (u : Waiting). u.by) (is_top ∙ number)) is);
    }))

    by : IsCovered lits [] units k clause → IsCovered lits [] units' k clause
    by (inl next) = absurd (none_there k next)
    by (inr (inl opens)) = inr (inl opens)
    by (inr (inr ((w, has, at), not_false))) = still w at (first_or_other units' top w (Contains-permutation units (top ∷ units') w moved has)) not_false

-- where none waits, nothing is left to look at
pub settled_of : (known : List (List Lit)) (lits : List Lit) (units : List Waiting) → length units ≤ 0 → Covers known lits [] units → IsSettled known lits
settled_of known lits (w ∷ units) empty covers = absurd (omega arith)
settled_of known lits [] empty covers = settled_each known lits (λ k clause is. by k clause (covers k clause is))
  where
    by : (k : ℕ) (clause : List Lit) → IsCovered lits [] [] k clause → IsOpenClause lits clause
    by k clause (inl next) = absurd (none_there k next)
    by k clause (inr (inl opens)) = opens
    by k clause (inr (inr ((w, has, at), some))) = absurd (none_there w has)
