-- What each step of the building adds, and what it leaves as it was.
use Rattle.std.proofs.Common.{◌≡◌, ℕ, zero, suc, ◌+◌, ◌<◌, ◌≤◌, ℤ, pos, ◌+ℤ◌, ◌*ℤ◌, Bool, true, false, not, ◌&&◌, ◌||◌, cond, nat_lt, ◌⊎◌, inl, inr, List, [], ◌∷◌, ◌++◌, map, length, slice_get, Option, None, Some, Result, Ok, Err, refl, sym, ap, subst, ◌∙◌, append_assoc, length-append, if◌then◌else◌, arith}
use Rattle.std.specs.List.{list_any, position_or_len}
use Rattle.std.proofs.lemmas.List.{append-nil}
use Rattle.linear_form.specs.declared.lists.Form.{Form}
use Rattle.linear_form.specs.declared.lists.Term.{Term}
use Rattle.linear_form.specs.Sums.{sum_of}
use Rattle.farkas_cert.specs.declared.literals.Lit.{Lit}
use Rattle.clause_form.specs.declared.clauses.What.{What}
use Rattle.clause_form.specs.declared.clauses.What.TheVariants as too_many
use Rattle.clause_form.specs.declared.keys.Connective.{Connective}
use Rattle.clause_form.specs.declared.keys.Key.{Key}
use Rattle.clause_form.specs.declared.keys.Key.TheVariants.{Row, Named}
use Rattle.clause_form.specs.Building.{Build, and_then, atom_numbered, defined, numbered, with_clause, with_clauses}
use Rattle.clause_form.specs.Keys.{apart, definitions, definitions_of, is_and, same_key, signed, together}
use Rattle.clause_form.specs.WellFormed.{Below, IsGoodForm, IsGoodRow}
use Rattle.clause_form.proofs.Numbering.{place_after, place_within, get_last}
use Rattle.std.proofs.lemmas.Bool.{ltb-true}
use Rattle.clause_form.proofs.Truths.{all_true, any_true, and_true, holds, joined, or_true, sat, sat-append, sat-definitions}

-- ---- lists and answers

pub get_front : {T : Type 0} (xs ys : List T) (n : ℕ) (x : T) → slice_get xs n ≡ Some x → slice_get (xs ++ ys) n ≡ Some x
get_front [] ys n x e = absurd (cc)
get_front (y ∷ xs) ys zero x e = e
get_front (y ∷ xs) ys (suc n) x e = get_front xs ys n x e

pub get_within : {T : Type 0} (xs : List T) (n : ℕ) (x : T) → slice_get xs n ≡ Some x → n < length xs
get_within [] n x e = absurd (cc)
get_within (y ∷ xs) zero x e = omega arith
get_within (y ∷ xs) (suc n) x e = let rest : n < length xs = get_within xs n x e in omega arith

-- what stands in a list with one item more stood there before, or is that item
pub get_either : {T : Type 0} (xs : List T) (x : T) (n : ℕ) (y : T) → slice_get (xs ++ x ∷ []) n ≡ Some y
    → (slice_get xs n ≡ Some y) ⊎ ((n ≡ length xs) × (x ≡ y))
get_either [] x zero y e = inr (refl, same y e)
  where
    same : (z : _) → ◌≡◌ {A = Option _} (Some x) (Some z) → x ≡ z
    same z e = cc
get_either [] x (suc n) y e = absurd (cc)
get_either (z ∷ xs) x zero y e = inl e
get_either (z ∷ xs) x (suc n) y e =
    elim (get_either xs x n y e) [ inl before ↦ inl before | inr last ↦ inr (let at : n ≡ length xs = last.0 in omega arith, last.1) ]

pub same_ok : {X : Type 0} (x y : X) → ◌≡◌ {A = Result X What} (Ok x) (Ok y) → x ≡ y
same_ok x y e = cc

not_err : {X : Type 0} (what : What) (x : X) → ◌≡◌ {A = Result X What} (Err what) (Ok x) → ⊥
not_err what x e = cc

-- an answer that went on came from an answer
pub went_on : {X Y : Type 0} (r : Result X What) (f : X → Result Y What) (y : Y) → and_then r f ≡ Ok y → (x : X) × (r ≡ Ok x) × (f x ≡ Ok y)
went_on (Ok x) f y e = (x, refl, e)
went_on {X} {Y} (Err what) f y e = absurd (not_err {X = Y} what y e)

pub with_clause-all : (cs : List (List Lit)) (c : List Lit) (all : List (List Lit)) → with_clause cs c ≡ Ok all → all ≡ cs ++ c ∷ []
unfolding with_clause
with_clause-all cs c all e = by (nat_lt (length cs) 1048576) e
  where
    by : (b : Bool) → (if b then Ok (cs ++ c ∷ []) else Err too_many.Clauses) ≡ Ok all → all ≡ cs ++ c ∷ []
    by true e = sym (same_ok (cs ++ c ∷ []) all e)
    by false e = absurd (not_err {X = List (List Lit)} too_many.Clauses all e)

pub with_clauses-all : (cs more : List (List Lit)) (all : List (List Lit)) → with_clauses cs more ≡ Ok all → all ≡ cs ++ more
with_clauses-all cs [] all e = sym (same_ok cs all e) ∙ sym (append-nil cs)
with_clauses-all cs (c ∷ more) all e =
    let p = went_on (with_clause cs c) (λ longer. with_clauses longer more) all e in
    with_clauses-all p.0 more all p.2 ∙ ap (λ (xs : List (List Lit)). xs ++ more) (with_clause-all cs c p.0 p.1) ∙ append_assoc cs (c ∷ []) more

pub with_clause-room : (cs : List (List Lit)) (c : List Lit) (all : List (List Lit)) → with_clause cs c ≡ Ok all → length all ≤ 1048576
unfolding with_clause
with_clause-room cs c all e = by (nat_lt (length cs) 1048576) refl e
  where
    by : (b : Bool) → nat_lt (length cs) 1048576 ≡ b → (if b then Ok (cs ++ c ∷ []) else Err too_many.Clauses) ≡ Ok all → length all ≤ 1048576
    by true lt e =
        let near = ltb-true (length cs) 1048576 lt in
        let long : length all ≡ length cs + 1 = sym (ap length (same_ok (cs ++ c ∷ []) all e)) ∙ length-append cs (c ∷ []) in
        omega arith
    by false lt e = absurd (not_err {X = List (List Lit)} too_many.Clauses all e)

pub with_clauses-room : (cs more : List (List Lit)) (all : List (List Lit)) → with_clauses cs more ≡ Ok all → length cs ≤ 1048576 → length all ≤ 1048576
with_clauses-room cs [] all e few = let long : length cs ≡ length all = ap length (same_ok cs all e) in omega arith
with_clauses-room cs (c ∷ more) all e few =
    let p = went_on (with_clause cs c) (λ longer. with_clauses longer more) all e in
    with_clauses-room p.0 more all p.2 (with_clause-room cs c p.0 p.1)

-- ---- what was made stays

pub record Grows (s t : Build) : Type 0 where
  pub columns : t.columns ≡ s.columns
  pub more_forms : List Form
  pub forms : t.forms ≡ s.forms ++ more_forms
  pub more_keys : List Key
  pub keys : t.keys ≡ s.keys ++ more_keys

pub stays : (s : Build) → Grows s s
stays s = record { columns = refl; more_forms = []; forms = sym (append-nil s.forms); more_keys = []; keys = sym (append-nil s.keys) }

longer : {T : Type 0} (xs ys zs more rest : List T) → ys ≡ xs ++ more → zs ≡ ys ++ rest → zs ≡ xs ++ (more ++ rest)
longer {T} xs ys zs more rest e f = f ∙ ap (λ (l : List T). l ++ rest) e ∙ append_assoc xs more rest

pub grows_on : (s t u : Build) → Grows s t → Grows t u → Grows s u
grows_on s t u g h = record {
  columns = h.columns ∙ g.columns;
  more_forms = g.more_forms ++ h.more_forms;
  forms = longer s.forms t.forms u.forms g.more_forms h.more_forms g.forms h.forms;
  more_keys = g.more_keys ++ h.more_keys;
  keys = longer s.keys t.keys u.keys g.more_keys h.more_keys g.keys h.keys;
}

pub more_keys : (s t : Build) → Grows s t → length s.keys ≤ length t.keys
more_keys s t g =
    let long : length t.keys ≡ length s.keys + length g.more_keys = ap length g.keys ∙ length-append s.keys g.more_keys in
    omega arith

pub below_more : (n m : ℕ) (ls : List Lit) → n ≤ m → Below n ls → Below m ls
below_more n m [] h below = tt
below_more n m (l ∷ ls) h below = (let one = below.0 in omega arith, below_more n m ls h below.1)

abbrev pub KeyBelow : ℕ → Key → Type 0
KeyBelow n (Row form num den strict) = Unit {0}
KeyBelow n (Named connective parts) = Below n parts

-- a row's numbers are small, and its form is in range
abbrev pub KeyGood : ℕ → Key → Type 0
KeyGood forms (Row form num den strict) = IsGoodRow forms form num den
KeyGood forms (Named connective parts) = Unit {0}

-- each item stands once
abbrev pub Differ : {T : Type 0} → List T → Type 0
Differ {T} xs = (i j : ℕ) (x : T) → slice_get xs i ≡ Some x → slice_get xs j ≡ Some x → i ≡ j

abbrev pub Absent : {T : Type 0} → List T → T → Type 0
Absent xs x = (i : ℕ) → slice_get xs i ≡ Some x → ⊥

pub differ_more : {T : Type 0} (xs : List T) (x : T) → Absent xs x → Differ xs → Differ (xs ++ x ∷ [])
differ_more {T} xs x absent differ i j y e f =
    elim (get_either xs x i y e) [
      | inl a ↦ elim (get_either xs x j y f) [
        | inl b ↦ differ i j y a b
        | inr b ↦ absurd (absent i (a ∙ ap (λ (z : T). Some z) (sym b.1)))
      ]
      | inr a ↦ elim (get_either xs x j y f) [
        | inl b ↦ absurd (absent j (b ∙ ap (λ (z : T). Some z) (sym a.1)))
        | inr b ↦ a.0 ∙ sym b.0
      ]
    ]

-- each literal of each clause is of an atom below this number
abbrev pub EachBelow : ℕ → List (List Lit) → Type 0
EachBelow n [] = Unit {0}
EachBelow n (c ∷ cs) = Below n c × EachBelow n cs

each_below_more : (n m : ℕ) (cs : List (List Lit)) → n ≤ m → EachBelow n cs → EachBelow m cs
each_below_more n m [] h below = tt
each_below_more n m (c ∷ cs) h below = (below_more n m c h below.0, each_below_more n m cs h below.1)

pub each_below_append : (n : ℕ) (cs ds : List (List Lit)) → EachBelow n cs → EachBelow n ds → EachBelow n (cs ++ ds)
each_below_append n [] ds first rest = rest
each_below_append n (c ∷ cs) ds first rest = (first.0, each_below_append n cs ds first.1 rest)

pub each_below_at : (n : ℕ) (cs : List (List Lit)) (k : ℕ) (c : List Lit) → EachBelow n cs → slice_get cs k ≡ Some c → Below n c
each_below_at n [] k c below e = absurd (cc)
each_below_at n (d ∷ ds) zero c below e = let same : d ≡ c = cc in subst (Below n) same below.0
each_below_at n (d ∷ ds) (suc k) c below e = each_below_at n ds k c below.1 e

pub below_signed : (n : ℕ) (sign : Bool) (ls : List Lit) → Below n ls → Below n (map (signed sign) ls)
below_signed n sign [] below = tt
below_signed n true (l ∷ ls) below = (below.0, below_signed n true ls below.1)
below_signed n false (l ∷ ls) below = (below.0, below_signed n false ls below.1)

below_apart : (connective : Connective) (n : ℕ) (ls : List Lit) → Below n ls → EachBelow (n + 1) (map (apart connective n) ls)
below_apart connective n [] below = tt
below_apart connective n (l ∷ ls) below =
    let one = below_more n (n + 1) (map (signed (is_and connective)) (l ∷ [])) (omega arith) (below_signed n (is_and connective) (l ∷ []) (below.0, tt)) in
    ((omega arith, one), below_apart connective n ls below.1)

below_definitions : (key : Key) (n : ℕ) → KeyBelow n key → EachBelow (n + 1) (definitions_of key n)
below_definitions (Row form num den strict) n below = tt
below_definitions (Named connective parts) n below = (
  (omega arith, below_more n (n + 1) (map (signed (not (is_and connective))) parts) (omega arith) (below_signed n (not (is_and connective)) parts below)),
  below_apart connective n parts below,
)

-- the parts of a name come before it, and its clauses are among the clauses; all is within its limits, in range and once
pub record Sound (s : Build) : Type 0 where
  pub founded : (n : ℕ) (key : Key) → slice_get s.keys n ≡ Some key → KeyBelow n key
  pub named : (n : ℕ) (key : Key) → slice_get s.keys n ≡ Some key → (truth : ℕ → Bool) → sat truth s.clauses ≡ true → sat truth (definitions_of key n) ≡ true
  pub few_forms : s.columns + length s.forms ≤ 2048
  pub few_atoms : length s.keys ≤ 4096
  pub few_clauses : length s.clauses ≤ 1048576
  pub forms : (j : ℕ) (f : Form) → slice_get s.forms j ≡ Some f → IsGoodForm s.columns f
  pub forms_differ : Differ s.forms
  pub rows : (n : ℕ) (key : Key) → slice_get s.keys n ≡ Some key → KeyGood (s.columns + length s.forms) key
  pub keys_differ : Differ s.keys
  pub in_range : EachBelow (length s.keys) s.clauses

-- the truth that an atom has by what it stands for, where forms have these values
abbrev pub key_true : (ℕ → ℤ) → ℕ → (ℕ → Bool) → Key → Bool
key_true fv over truth (Row form num den strict) = holds strict true (den *ℤ fv form) (num *ℤ pos over)
key_true fv over truth (Named connective parts) = joined truth connective parts

-- values of columns and forms and truths of atoms that fit what was made
pub record Fits (value fv : ℕ → ℤ) (over : ℕ) (truth : ℕ → Bool) (s : Build) : Type 0 where
  pub columns : (n : ℕ) → n < s.columns → fv n ≡ value n
  pub forms : (j : ℕ) (f : Form) → slice_get s.forms j ≡ Some f → fv (s.columns + j) ≡ sum_of value f.terms
  pub keys : (n : ℕ) (key : Key) → slice_get s.keys n ≡ Some key → truth n ≡ key_true fv over truth key

module _ (value fv : ℕ → ℤ) (over : ℕ) (truth : ℕ → Bool) where
  pub fits_before : (s t : Build) → Grows s t → Fits value fv over truth t → Fits value fv over truth s
  fits_before s t g fits = record {
    columns = λ n h. fits.columns n (subst (λ (c : ℕ). n < c) (sym g.columns) h);
    forms = λ j f e.
        ap (λ (c : ℕ). fv (c + j)) (sym g.columns)
        ∙ fits.forms j f (ap (λ (fs : List Form). slice_get fs j) g.forms ∙ get_front s.forms g.more_forms j f e);
    keys = λ n key e. fits.keys n key (ap (λ (ks : List Key). slice_get ks n) g.keys ∙ get_front s.keys g.more_keys n key e);
  }

-- a step that adds atoms with their clauses and no other clause
pub record Took (s t : Build) : Type 0 where
  pub grows : Grows s t
  pub sound : Sound s → Sound t
  pub same : (value fv : ℕ → ℤ) (over : ℕ) (truth : ℕ → Bool) → Fits value fv over truth t → sat truth t.clauses ≡ sat truth s.clauses

pub took_none : (s : Build) → Took s s
took_none s = record { grows = stays s; sound = λ h. h; same = λ value fv over truth fits. refl }

pub took_on : (s t u : Build) → Took s t → Took t u → Took s u
took_on s t u g h = record {
  grows = grows_on s t u g.grows h.grows;
  sound = λ sound. h.sound (g.sound sound);
  same = λ value fv over truth fits.
      h.same value fv over truth fits ∙ g.same value fv over truth (fits_before value fv over truth t u h.grows fits);
}

-- ---- one atom more

abbrev pub added : Build → Key → Build
added s key = record s { keys = s.keys ++ key ∷ []; clauses = s.clauses ++ definitions_of key (length s.keys) }

both_true : (a b : Bool) → (a && b) ≡ true → (a ≡ true) × (b ≡ true)
both_true true b e = (refl, e)
both_true false b e = absurd (cc)

-- what an atom that is put last needs
pub record CanAdd (s : Build) (key : Key) : Type 0 where
  pub below : KeyBelow (length s.keys) key
  pub good : KeyGood (s.columns + length s.forms) key
  pub absent : Absent s.keys key
  pub room : length s.keys < 4096
  pub clause_room : length s.clauses ≤ 1048576 → length (s.clauses ++ definitions_of key (length s.keys)) ≤ 1048576

module _ (s : Build) (key : Key) (can : CanAdd s key) where
  longer_keys : length (s.keys ++ key ∷ []) ≡ length s.keys + 1
  longer_keys = length-append s.keys (key ∷ [])

  added_sound : Sound s → Sound (added s key)
  added_sound sound = record {
    founded = λ n k e. elim (get_either s.keys key n k e) [
      | inl before ↦ sound.founded n k before
      | inr last ↦ subst (λ (m : ℕ). KeyBelow m k) (sym last.0) (subst (λ (x : Key). KeyBelow (length s.keys) x) last.1 can.below)
    ];
    named = λ n k e truth all.
        let both = both_true (sat truth s.clauses) (sat truth (definitions_of key (length s.keys))) (sym (sat-append truth s.clauses (definitions_of key (length s.keys))) ∙ all) in
        elim (get_either s.keys key n k e) [
          | inl before ↦ sound.named n k before truth both.0
          | inr last ↦ subst (λ (m : ℕ). sat truth (definitions_of k m) ≡ true) (sym last.0) (subst (λ (x : Key). sat truth (definitions_of x (length s.keys)) ≡ true) last.1 both.1)
        ];
    few_forms = sound.few_forms;
    few_atoms = (let long = longer_keys in let room = can.room in omega arith);
    few_clauses = can.clause_room sound.few_clauses;
    forms = sound.forms;
    forms_differ = sound.forms_differ;
    rows = λ n k e. elim (get_either s.keys key n k e) [
      | inl before ↦ sound.rows n k before
      | inr last ↦ subst (KeyGood (s.columns + length s.forms)) last.1 can.good
    ];
    keys_differ = differ_more s.keys key can.absent sound.keys_differ;
    in_range =
        (let long = longer_keys in
        subst (λ (m : ℕ). EachBelow m (s.clauses ++ definitions_of key (length s.keys))) (sym long)
        (each_below_append (length s.keys + 1) s.clauses (definitions_of key (length s.keys))
        (each_below_more (length s.keys) (length s.keys + 1) s.clauses (omega arith) sound.in_range)
        (below_definitions key (length s.keys) can.below)));
  }

  holds_all : (value fv : ℕ → ℤ) (over : ℕ) (truth : ℕ → Bool) (k : Key) (n : ℕ) → truth n ≡ key_true fv over truth k → sat truth (definitions_of k n) ≡ true
  holds_all value fv over truth (Row form num den strict) n e = refl
  holds_all value fv over truth (Named connective parts) n e = (sat-definitions truth connective n parts).0 e

  pub took_added : Took s (added s key)
  took_added = record {
    grows = record { columns = refl; more_forms = []; forms = sym (append-nil s.forms); more_keys = key ∷ []; keys = refl };
    sound = added_sound;
    same = λ value fv over truth fits.
        sat-append truth s.clauses (definitions_of key (length s.keys))
        ∙ ap (λ (b : Bool). sat truth s.clauses && b) (holds_all value fv over truth key (length s.keys) (fits.keys (length s.keys) key (get_last s.keys key)))
        ∙ and_true (sat truth s.clauses);
  }

-- ---- numbers

one_plus : (n : ℕ) → 1 + n ≡ suc n
one_plus n = omega arith

found_at : {T : Type 0} (test : T → Bool) (xs : List T) → list_any test xs ≡ true
    → (y : T) × (slice_get xs (position_or_len test xs) ≡ Some y) × (test y ≡ true)
found_at test [] h = absurd (cc)
found_at {T} test (x ∷ xs) h = by (test x) refl h (found_at test xs)
  where
    by : (b : Bool) → test x ≡ b → (b || list_any test xs) ≡ true
        → (list_any test xs ≡ true → (y : T) × (slice_get xs (position_or_len test xs) ≡ Some y) × (test y ≡ true))
        → (y : T) × (slice_get (x ∷ xs) (cond (not b) (1 + position_or_len test xs) 0) ≡ Some y) × (test y ≡ true)
    by true is found more = (x, refl, is)
    by false is found more =
        let rest = more found in
        (rest.0, ap (λ (n : ℕ). slice_get (x ∷ xs) n) (one_plus (position_or_len test xs)) ∙ rest.1, rest.2)

any_at : {T : Type 0} (test : T → Bool) (xs : List T) (i : ℕ) (x : T) → slice_get xs i ≡ Some x → test x ≡ true → list_any test xs ≡ true
any_at test [] i x e is = absurd (cc)
any_at {T} test (y ∷ xs) zero x e is =
    let here : y ≡ x = cc in
    ap (λ (b : Bool). b || list_any test xs) (ap test here ∙ is)
any_at test (y ∷ xs) (suc i) x e is = ap (λ (b : Bool). test y || b) (any_at test xs i x e is) ∙ or_true (test y)

module _ {T : Type 0} (same : T → T → Bool) (exact : (x y : T) → same x y ≡ true → y ≡ x) (itself : (x : T) → same x x ≡ true) (room : ℕ) (what : What) (items : List T) (item : T) (more : List T) (n : ℕ) where
  -- the item stood there before, or it comes last
  pub numbered-either : numbered same room what items item ≡ Ok (more, n)
      → ((more ≡ items) × (n < length items) × (slice_get items n ≡ Some item)) ⊎ ((more ≡ items ++ item ∷ []) × (n ≡ length items) × (n < room) × Absent items item)
  unfolding numbered
  numbered-either e = by_room (nat_lt (position_or_len (same item) items) room) refl e
    where
      by_place : (b : Bool) → list_any (same item) items ≡ b → (if b then items else items ++ item ∷ []) ≡ more → position_or_len (same item) items ≡ n → n < room
          → ((more ≡ items) × (n < length items) × (slice_get items n ≡ Some item)) ⊎ ((more ≡ items ++ item ∷ []) × (n ≡ length items) × (n < room) × Absent items item)
      by_place true is all at near =
          let found = found_at (same item) items is in
          let within = place_within (same item) items is in
          inl (
            sym all,
            subst (λ (m : ℕ). m < length items) at within,
            ap (slice_get items) (sym at) ∙ found.1 ∙ ap (λ (y : T). Some y) (exact item found.0 found.2),
          )
      by_place false is all at near =
          inr (
            sym all,
            sym at ∙ place_after (same item) items is,
            near,
            λ i e. absurd (let there : list_any (same item) items ≡ true = any_at (same item) items i item e (itself item) in cc),
          )

      found : List T × ℕ
      found = (if list_any (same item) items then items else items ++ item ∷ [], position_or_len (same item) items)

      by_room : (b : Bool) → nat_lt (position_or_len (same item) items) room ≡ b → (if b then Ok found else Err what) ≡ Ok (more, n)
          → ((more ≡ items) × (n < length items) × (slice_get items n ≡ Some item)) ⊎ ((more ≡ items ++ item ∷ []) × (n ≡ length items) × (n < room) × Absent items item)
      by_room true lt e =
          let p = same_ok {X = List T × ℕ} found (more, n) e in
          let at : position_or_len (same item) items ≡ n = ap (λ q. q.1) p in
          by_place (list_any (same item) items) refl (ap (λ q. q.0) p) at (subst (λ (m : ℕ). m < room) at (ltb-true (position_or_len (same item) items) room lt))
      by_room false lt e = absurd (not_err {X = List T × ℕ} what (more, n) e)
