-- Names of states: which state one names, and that no two states share one.
use Rattle.std.proofs.Common.{◌≡◌, ℕ, zero, suc, ◌+◌, ◌≤◌, Bool, true, false, cond, ◌||◌, Option, Some, None, List, [], ◌∷◌, ◌++◌, map, refl, sym, ap, ◌∙◌, arith}
use Rattle.std.specs.Prelude.{is_some, slice_get, slice_set}
use Rattle.std.specs.List.{list_any, find, position_from}
use Rattle.std.specs.Option.{option_and_then}
use Rattle.std.specs.Str.{bytes_eq}
use Rattle.std.proofs.lemmas.List.Folds.{list_any-append}
use Rattle.std.proofs.lemmas.Slice.Eq.{bytes_eq-Decides}
use Rattle.ctrl_syntax.specs.declared.syntax.StateLine.{StateLine}
use Rattle.ctrl_syntax.specs.declared.syntax.SetLine.{SetLine}
use Rattle.ctrl_types.specs.declared.expressions.Lin.{Lin}
use Rattle.ctrl_types.specs.Names.{has_name, lin_of, state_named}
use Rattle.ctrl_types.specs.Resolved.{place_of}
use Rattle.ctrl_types.specs.Resolving.{is_filled, unset}
use Rattle.ctrl_types.specs.Statements.{sets_name}

-- ---- equal names

same_name : (v w : List ℕ) → bytes_eq v w ≡ true → v ≡ w
same_name v w e = (bytes_eq-Decides v w).0 e

pub name_again : (v w : List ℕ) → v ≡ w → bytes_eq v w ≡ true
name_again v w e = (bytes_eq-Decides v w).1 e

pub turned : (v w : List ℕ) → bytes_eq v w ≡ bytes_eq w v
turned v w = by (bytes_eq v w) refl (bytes_eq w v) refl
  where
    by : (a : Bool) → bytes_eq v w ≡ a → (b : Bool) → bytes_eq w v ≡ b → a ≡ b
    by true p true q = refl
    by false p false q = refl
    by true p false q = let again = name_again w v (sym (same_name v w p)) in absurd (cc)
    by false p true q = let again = name_again v w (sym (same_name w v q)) in absurd (cc)

-- ---- states with names of their own

-- no state has the name of an earlier one, or of one of these
abbrev pub AreApart : List StateLine → List StateLine → Type 0
AreApart earlier [] = Unit {0}
AreApart earlier (s ∷ states) = (list_any (has_name s.name) earlier ≡ false) × AreApart (earlier ++ s ∷ []) states

-- no later state has the name of a state
abbrev pub AreDistinct : List StateLine → Type 0
AreDistinct [] = Unit {0}
AreDistinct (s ∷ states) = (list_any (has_name s.name) states ≡ false) × AreDistinct states

or_left : (a b : Bool) → (a || b) ≡ false → a ≡ false
or_left true b e = absurd (cc)
or_left false b e = refl

pub or_right : (a b : Bool) → (a || b) ≡ false → b ≡ false
or_right true b e = absurd (cc)
or_right false b e = e

-- one of the earlier states has a name that no state here has
none_later : (e : StateLine) (earlier states : List StateLine) → list_any (has_name e.name) earlier ≡ true → AreApart earlier states → list_any (has_name e.name) states ≡ false
none_later e earlier [] has apart = refl
none_later e earlier (s ∷ states) has apart =
    let kept : list_any (has_name e.name) (earlier ++ s ∷ []) ≡ true = list_any-append (has_name e.name) earlier (s ∷ []) ∙ ap (λ b. b || list_any (has_name e.name) (s ∷ [])) has in
    by (bytes_eq s.name e.name) refl (none_later e (earlier ++ s ∷ []) states kept apart.1)
  where
    by : (b : Bool) → bytes_eq s.name e.name ≡ b → list_any (has_name e.name) states ≡ false → (b || list_any (has_name e.name) states) ≡ false
    by false p rest = rest
    by true p rest =
        let same = same_name s.name e.name p in
        let clash : list_any (has_name e.name) earlier ≡ false = ap (λ (w : List ℕ). list_any (has_name w) earlier) (sym same) ∙ apart.0 in
        absurd (cc)

pub distinct : (earlier states : List StateLine) → AreApart earlier states → AreDistinct states
distinct earlier [] apart = tt
distinct earlier (s ∷ states) apart =
    let here : list_any (has_name s.name) (earlier ++ s ∷ []) ≡ true =
    list_any-append (has_name s.name) earlier (s ∷ [])
    ∙ ap (λ b. b || (bytes_eq s.name s.name || false)) apart.0 ∙ ap (λ b. b || false) (name_again s.name s.name refl) in
    (none_later s (earlier ++ s ∷ []) states here apart.1, distinct (earlier ++ s ∷ []) states apart.1)

-- ---- the place of a name

-- what holds of the places that one list of states has, and what of another's
record AreChanged (w : List ℕ) (f g : StateLine → Option Lin) (y : Option Lin) : Type 0 where
  here : (s : StateLine) → has_name w s ≡ true → g s ≡ y
  others : (s : StateLine) → has_name w s ≡ false → g s ≡ f s

unchanged : (w : List ℕ) (f g : StateLine → Option Lin) (y : Option Lin) → AreChanged w f g y → (states : List StateLine) → list_any (has_name w) states ≡ false → map f states ≡ map g states
unchanged w f g y change [] none = refl
unchanged w f g y change (s ∷ states) none =
    let one = change.others s (or_left (has_name w s) (list_any (has_name w) states) none) in
    let rest = unchanged w f g y change states (or_right (has_name w s) (list_any (has_name w) states) none) in
    cc

-- the first place is none before the start
from_start : (p : StateLine → Bool) (i k : ℕ) (states : List StateLine) → position_from p i states ≡ Some k → i ≤ k
from_start p i k [] e = absurd (cc)
from_start p i k (s ∷ states) e = by (p s) e (λ q. from_start p (i + 1) k states q)
  where
    by : (b : Bool) → cond b (Some i) (position_from p (i + 1) states) ≡ Some k → (position_from p (i + 1) states ≡ Some k → i + 1 ≤ k) → i ≤ k
    by true q rest = let same : i ≡ k = cc in omega arith
    by false q rest = let later = rest q in omega arith

changed_from : (w : List ℕ) (f g : StateLine → Option Lin) (y : Option Lin) → AreChanged w f g y → (states : List StateLine) (i k : ℕ) → AreDistinct states
    → position_from (has_name w) i states ≡ Some (i + k) → slice_set (map f states) k y ≡ map g states
changed_from w f g y change [] i k apart named = absurd (cc)
changed_from w f g y change (s ∷ states) i k apart named =
    by (has_name w s) refl k named (λ m p. changed_from w f g y change states (i + 1) m apart.1 p)
  where
    by : (b : Bool) → has_name w s ≡ b → (m : ℕ) → cond b (Some i) (position_from (has_name w) (i + 1) states) ≡ Some (i + m)
        → ((n : ℕ) → position_from (has_name w) (i + 1) states ≡ Some (i + 1 + n) → slice_set (map f states) n y ≡ map g states)
        → slice_set (f s ∷ map f states) m y ≡ g s ∷ map g states
    by true p zero q rest =
        let unlike : list_any (has_name w) states ≡ false = ap (λ (v : List ℕ). list_any (has_name v) states) (sym (same_name s.name w p)) ∙ apart.0 in
        let head = change.here s p in
        let tail = unchanged w f g y change states unlike in
        cc
    by true p (suc m) q rest = let same : i ≡ i + suc m = cc in absurd (omega arith)
    by false p zero q rest = let after = from_start (has_name w) (i + 1) (i + 0) states q in absurd (omega arith)
    by false p (suc m) q rest =
        let head = change.others s p in
        let moved : i + suc m ≡ i + 1 + m = omega arith in
        let tail = rest m (q ∙ ap (λ n. Some n) moved) in
        cc

-- ---- what a place holds

found_or_not : (w : List ℕ) (sets : List SetLine) → is_some (find (sets_name w) sets) ≡ list_any (sets_name w) sets
found_or_not w [] = refl
found_or_not w (l ∷ sets) = by (sets_name w l) (found_or_not w sets)
  where
    by : (b : Bool) → is_some (find (sets_name w) sets) ≡ list_any (sets_name w) sets → is_some (cond b (Some l) (find (sets_name w) sets)) ≡ (b || list_any (sets_name w) sets)
    by true rest = refl
    by false rest = rest

-- the lines of a rule whose expressions are found
abbrev pub AreResolved : List StateLine → List SetLine → Type 0
AreResolved states [] = Unit {0}
AreResolved states (l ∷ sets) = (is_some (lin_of states true l.expr) ≡ true) × AreResolved states sets

pub resolved_push : (states : List StateLine) (sets : List SetLine) (l : SetLine) → AreResolved states sets → is_some (lin_of states true l.expr) ≡ true → AreResolved states (sets ++ l ∷ [])
resolved_push states [] l are is = (is, tt)
resolved_push states (k ∷ sets) l are is = (are.0, resolved_push states sets l are.1 is)

place_filled : (states : List StateLine) (sets : List SetLine) (s : StateLine) → AreResolved states sets → is_some (place_of states sets s) ≡ list_any (sets_name s.name) sets
place_filled states [] s are = refl
place_filled states (l ∷ sets) s are = by (sets_name s.name l) (place_filled states sets s are.1)
  where
    by : (b : Bool) → is_some (place_of states sets s) ≡ list_any (sets_name s.name) sets
        → is_some (option_and_then (λ (k : SetLine). lin_of states true k.expr) (cond b (Some l) (find (sets_name s.name) sets))) ≡ (b || list_any (sets_name s.name) sets)
    by true rest = are.0
    by false rest = rest

-- the state with a name
state_is : (w : List ℕ) (states : List StateLine) (i k : ℕ) → position_from (has_name w) i states ≡ Some (i + k)
    → (s : StateLine) × (slice_get states k ≡ Some s) × (s.name ≡ w)
state_is w [] i k named = absurd (cc)
state_is w (s ∷ states) i k named = by (has_name w s) refl k named (λ m p. state_is w states (i + 1) m p)
  where
    by : (b : Bool) → has_name w s ≡ b → (m : ℕ) → cond b (Some i) (position_from (has_name w) (i + 1) states) ≡ Some (i + m)
        → ((n : ℕ) → position_from (has_name w) (i + 1) states ≡ Some (i + 1 + n) → (t : StateLine) × (slice_get states n ≡ Some t) × (t.name ≡ w))
        → (t : StateLine) × (slice_get (s ∷ states) m ≡ Some t) × (t.name ≡ w)
    by true p zero q rest = (s, refl, same_name s.name w p)
    by true p (suc m) q rest = let same : i ≡ i + suc m = cc in absurd (omega arith)
    by false p zero q rest = let after = from_start (has_name w) (i + 1) (i + 0) states q in absurd (omega arith)
    by false p (suc m) q rest = let moved : i + suc m ≡ i + 1 + m = omega arith in rest m (q ∙ ap (λ n. Some n) moved)

get-map : (f : StateLine → Option Lin) (states : List StateLine) (k : ℕ) (s : StateLine) → slice_get states k ≡ Some s → slice_get (map f states) k ≡ Some (f s)
get-map f [] k s e = absurd (cc)
get-map f (t ∷ states) zero s e = let same : t ≡ s = cc in ap (λ (x : StateLine). Some (f x)) same
get-map f (t ∷ states) (suc k) s e = get-map f states k s e

-- a place is filled where a line has set the state
pub filled_is : (states : List StateLine) (sets : List SetLine) (w : List ℕ) (j : ℕ) → AreResolved states sets → state_named states w ≡ Some j
    → is_filled (slice_get (map (place_of states sets) states) j) ≡ list_any (sets_name w) sets
unfolding state_named
filled_is states sets w j are named =
    let zero_plus : j ≡ 0 + j = omega arith in
    let at = state_is w states 0 j (named ∙ ap (λ n. Some n) zero_plus) in
    ap is_filled (get-map (place_of states sets) states j at.0 at.1)
    ∙ place_filled states sets at.0 are
    ∙ ap (λ (v : List ℕ). list_any (sets_name v) sets) at.2

find-append : (w : List ℕ) (sets : List SetLine) (l : SetLine) → list_any (sets_name w) sets ≡ false → find (sets_name w) (sets ++ l ∷ []) ≡ cond (sets_name w l) (Some l) None
find-append w [] l none = refl
find-append w (k ∷ sets) l none =
    rw (or_left (sets_name w k) (list_any (sets_name w) sets) none) (find-append w sets l (or_right (sets_name w k) (list_any (sets_name w) sets) none))

find_kept : (w : List ℕ) (sets : List SetLine) (l : SetLine) → sets_name w l ≡ false → find (sets_name w) (sets ++ l ∷ []) ≡ find (sets_name w) sets
find_kept w [] l unlike = rw unlike refl
find_kept w (k ∷ sets) l unlike = by (sets_name w k) (find_kept w sets l unlike)
  where
    by : (b : Bool) → find (sets_name w) (sets ++ l ∷ []) ≡ find (sets_name w) sets → cond b (Some k) (find (sets_name w) (sets ++ l ∷ [])) ≡ cond b (Some k) (find (sets_name w) sets)
    by true rest = refl
    by false rest = rest

-- one line more fills its state's place
pub filled_with : (states : List StateLine) (sets : List SetLine) (l : SetLine) (j : ℕ) (lin : Lin) → AreDistinct states → state_named states l.name ≡ Some j
    → list_any (sets_name l.name) sets ≡ false → lin_of states true l.expr ≡ Some lin
    → slice_set (map (place_of states sets) states) j (Some lin) ≡ map (place_of states (sets ++ l ∷ [])) states
unfolding state_named
filled_with states sets l j lin apart named once is =
    let zero_plus : j ≡ 0 + j = omega arith in
    changed_from l.name (place_of states sets) (place_of states (sets ++ l ∷ [])) (Some lin)
    (record { here = here; others = others }) states 0 j apart (named ∙ ap (λ n. Some n) zero_plus)
  where
    here : (s : StateLine) → has_name l.name s ≡ true → place_of states (sets ++ l ∷ []) s ≡ Some lin
    here s p =
        let same = same_name s.name l.name p in
        ap (λ (w : List ℕ). option_and_then (λ (k : SetLine). lin_of states true k.expr) (find (sets_name w) (sets ++ l ∷ []))) same
        ∙ ap (option_and_then (λ (k : SetLine). lin_of states true k.expr)) (find-append l.name sets l once)
        ∙ ap (λ b. option_and_then (λ (k : SetLine). lin_of states true k.expr) (cond b (Some l) None)) (name_again l.name l.name refl)
        ∙ is

    others : (s : StateLine) → has_name l.name s ≡ false → place_of states (sets ++ l ∷ []) s ≡ place_of states sets s
    others s p = ap (option_and_then (λ (k : SetLine). lin_of states true k.expr)) (find_kept s.name sets l (turned l.name s.name ∙ p))

pub nothing_set : (states : List StateLine) → unset states ≡ map (place_of states []) states
nothing_set states = refl

pub state_at : (states : List StateLine) (w : List ℕ) (j : ℕ) → state_named states w ≡ Some j → (s : StateLine) × (slice_get states j ≡ Some s) × (s.name ≡ w)
unfolding state_named
state_at states w j named = let zero_plus : j ≡ 0 + j = omega arith in state_is w states 0 j (named ∙ ap (λ n. Some n) zero_plus)
