-- What each step of the building says: the literal of a formula is true exactly where the formula is, and the clauses of a
-- formula that is demanded hold exactly where it does.
use Rattle.std.proofs.Common.{◌≡◌, ℕ, ◌+◌, ◌-◌, ◌<◌, ◌≤◌, ℤ, pos, ◌+ℤ◌, ◌*ℤ◌, ◌≤ℤ◌, ◌^◌, unsigned_abs, All, Bool, true, false, not, ◌&&◌, ◌||◌, nat_lt, ◌⊎◌, inl, inr, List, [], ◌∷◌, ◌++◌, map, length, length-append, slice_get, Option, None, Some, Result, Ok, Err, refl, sym, ap, subst, ◌∙◌, if◌then◌else◌, arith}
use Rattle.std.proofs.lemmas.List.{append-nil}
use Rattle.std.proofs.lemmas.Int.{ints}
use Rattle.std.proofs.Math.IntN.{*ℤ_comm, +ℤ_idl}
use Rattle.std.proofs.lemmas.Bool.{ltb-true, ltb-false}
use Rattle.condition_tree.specs.Trees.{Tree, always, never, leaf, opposite, end_of_all, all_of, end_of_any, any_of, is_true, EachLeaf}
use Rattle.linear_form.specs.declared.lists.Form.{Form}
use Rattle.linear_form.specs.declared.lists.Term.{Term}
use Rattle.linear_form.specs.Sums.{sum_of}
use Rattle.farkas_cert.specs.Literals.{negation}
use Rattle.farkas_cert.specs.declared.literals.Lit.{Lit}
use Rattle.clause_form.specs.declared.clauses.What.{What}
use Rattle.clause_form.specs.declared.clauses.What.TheVariants as too_many
use Rattle.clause_form.specs.declared.keys.Connective.{Connective}
use Rattle.clause_form.specs.declared.keys.Connective.TheVariants.{And, Or}
use Rattle.clause_form.specs.declared.keys.Key.{Key}
use Rattle.clause_form.specs.declared.keys.Key.TheVariants.{Row, Named}
use Rattle.clause_form.specs.declared.simple.RowLit.{RowLit}
use Rattle.clause_form.specs.Building.{Build, Value, one, all_lits, any_lits, and_then, atom_numbered, conjunct_lits, defined, demanded, demanded_known, disjunct_lits, form_numbered, form_numbered_by, lone_column, named, numbered, one_of, row_literal, sealed, value, with_clause, with_clauses, with_lits}
use Rattle.clause_form.specs.Keys.{definitions_of, same_form, same_key, signed}
use Rattle.clause_form.specs.Simplified.{Trimmed, yes, no, shown}
use Rattle.clause_form.specs.WellFormed.{Below, IsGoodForm, IsGoodRow}
use Rattle.linear_form.specs.NormalForm.{IsNormalForm, StartsPositive}
use Rattle.clause_form.proofs.Growth.{Absent, CanAdd, KeyGood, Sound, differ_more, get_either, with_clauses-room, Fits, Grows, KeyBelow, Took, added, below_more, fits_before, get_within, grows_on, more_keys, numbered-either, same_ok, stays, took_added, took_none, took_on, went_on, with_clause-all, with_clauses-all}
use Rattle.clause_form.proofs.Numbering.{get_last}
use Rattle.clause_form.proofs.SameKeys.{same_form-exact, same_form-itself, same_key-exact, same_key-itself}
use Rattle.clause_form.proofs.Truths.{all_true, and_true, any_true, any_true-kept, any_true-negated, by_sign, holds, holds-sign, joined, lit_true, lit_true-negation, lit_true-signed, not_not, or_false, row_true, sat, sat-append, trimmed_truth}

-- ---- atoms

-- the atom stood there before, or it comes last with its clauses
pub record Atom (s : Build) (key : Key) (t : Build) (p : ℕ) : Type 0 where
  pub took : Took s t
  pub there : slice_get t.keys p ≡ Some key
  pub columns : t.columns ≡ s.columns

atom : (s : Build) (key : Key) (t : Build) (p : ℕ) → KeyBelow (length s.keys) key → KeyGood (s.columns + length s.forms) key → atom_numbered s key ≡ Ok (t, p) → Atom s key t p
unfolding atom_numbered
atom s key t p below good e =
    let first = went_on (numbered same_key 4096 too_many.Atoms s.keys key) (λ n. defined (length s.keys) key (record s { keys = n.0 }) n.1) (t, p) e in
    elim (numbered-either same_key same_key-exact same_key-itself 4096 too_many.Atoms s.keys key first.0.0 first.0.1 first.1) [
      | inl old ↦ stood first.0.0 first.0.1 old.0 old.1 old.2 first.2
      | inr new ↦ last first.0.0 first.0.1 new.0 new.1 new.2 new.3 first.2
    ]
  where
    stood : (ks : List Key) (n : ℕ) → ks ≡ s.keys → n < length s.keys → slice_get s.keys n ≡ Some key
        → defined (length s.keys) key (record s { keys = ks }) n ≡ Ok (t, p) → Atom s key t p
    stood ks n same within there made = by (nat_lt n (length s.keys)) refl made
      where
        by : (b : Bool) → nat_lt n (length s.keys) ≡ b
            → if◌then◌else◌ {A = Result (Build × ℕ) What} b (Ok (record s { keys = ks }, n)) (and_then (with_clauses s.clauses (definitions_of key n)) (λ longer. Ok (record s { keys = ks; clauses = longer }, n))) ≡ Ok (t, p)
            → Atom s key t p
        by true lt made =
            let q = same_ok {X = Build × ℕ} (record s { keys = ks }, n) (t, p) made in
            let here : t ≡ s = sym (ap (λ r. r.0) q) ∙ ap (λ (xs : List Key). record s { keys = xs }) same in
            let at : n ≡ p = ap (λ r. r.1) q in
            record {
              took = subst (λ (u : Build). Took s u) (sym here) (took_none s);
              there = ap (λ (u : Build). slice_get u.keys p) here ∙ ap (slice_get s.keys) (sym at) ∙ there;
              columns = ap (λ (u : Build). u.columns) here;
            }
        by false lt made = absurd (let far = ltb-false n (length s.keys) lt in omega arith)

    last : (ks : List Key) (n : ℕ) → ks ≡ s.keys ++ key ∷ [] → n ≡ length s.keys → n < 4096 → Absent s.keys key
        → defined (length s.keys) key (record s { keys = ks }) n ≡ Ok (t, p) → Atom s key t p
    last ks n same at near absent made = by (nat_lt n (length s.keys)) refl made
      where
        by : (b : Bool) → nat_lt n (length s.keys) ≡ b
            → if◌then◌else◌ {A = Result (Build × ℕ) What} b (Ok (record s { keys = ks }, n)) (and_then (with_clauses s.clauses (definitions_of key n)) (λ longer. Ok (record s { keys = ks; clauses = longer }, n))) ≡ Ok (t, p)
            → Atom s key t p
        by true lt made = absurd (let near = ltb-true n (length s.keys) lt in omega arith)
        by false lt made =
            let w = went_on (with_clauses s.clauses (definitions_of key n)) (λ longer. Ok (record s { keys = ks; clauses = longer }, n)) (t, p) made in
            let all : w.0 ≡ s.clauses ++ definitions_of key (length s.keys) = with_clauses-all s.clauses (definitions_of key n) w.0 w.1 ∙ ap (λ (m : ℕ). s.clauses ++ definitions_of key m) at in
            let q = same_ok {X = Build × ℕ} (record s { keys = ks; clauses = w.0 }, n) (t, p) w.2 in
            let here : t ≡ added s key = sym (ap (λ r. r.0) q) ∙ (λ i. record s { keys = same i; clauses = all i }) in
            let place : p ≡ length s.keys = sym (ap (λ r. r.1) q) ∙ at in
            record {
              took = subst (λ (u : Build). Took s u) (sym here) (took_added s key (record {
                below = below;
                good = good;
                absent = absent;
                room = (omega arith);
                clause_room = λ few. subst (λ (cs : List (List Lit)). length cs ≤ 1048576) all (with_clauses-room s.clauses (definitions_of key n) w.0 w.1 few);
              }));
              there = ap (λ (u : Build). slice_get u.keys p) here ∙ ap (slice_get (s.keys ++ key ∷ [])) place ∙ get_last s.keys key;
              columns = ap (λ (u : Build). u.columns) here;
            }

-- ---- forms

-- a form of one column is that column itself; forms are in normal form, with columns in range, and numbers are small
pub record IsRow (columns : ℕ) (r : RowLit) : Type 0 where
  pub alone : (t : Term) → r.form.terms ≡ t ∷ [] → (t.coef ≡ pos 1) × (t.column < columns)
  pub normal : IsNormalForm r.form.terms
  pub in_range : All (λ t. t.column < columns) r.form.terms
  pub small : All (λ t. unsigned_abs t.coef < 10 ^ 16) r.form.terms
  pub num_small : unsigned_abs r.num < 10 ^ 16
  pub den_small : unsigned_abs r.den < 10 ^ 16
  pub den_some : pos 1 ≤ℤ r.den

pub record Numbered (s : Build) (form : Form) (t : Build) (n : ℕ) : Type 0 where
  pub took : Took s t
  pub keys : t.keys ≡ s.keys
  pub below : n < t.columns + length t.forms
  pub says : (value fv : ℕ → ℤ) (over : ℕ) (truth : ℕ → Bool) → Fits value fv over truth t → fv n ≡ sum_of value form.terms

key_good_more : (n m : ℕ) (key : Key) → n ≤ m → KeyGood n key → KeyGood m key
key_good_more n m (Row form num den strict) h good = record {
  in_range = (let near = good.in_range in omega arith);
  num_small = good.num_small;
  den_small = good.den_small;
  den_some = good.den_some;
}
key_good_more n m (Named connective parts) h good = tt

one_form_more : (s : Build) (form : Form) → IsGoodForm s.columns form → Absent s.forms form → s.columns + length s.forms < 2048 → Took s (record s { forms = s.forms ++ form ∷ [] })
one_form_more s form good absent room = record {
  grows = record { columns = refl; more_forms = form ∷ []; forms = refl; more_keys = []; keys = sym (append-nil s.keys) };
  sound = λ sound. record {
    founded = sound.founded;
    named = sound.named;
    few_forms = (let long = length-append s.forms (form ∷ []) in omega arith);
    few_atoms = sound.few_atoms;
    few_clauses = sound.few_clauses;
    forms = λ j f e. elim (get_either s.forms form j f e) [ inl before ↦ sound.forms j f before | inr last ↦ subst (IsGoodForm s.columns) last.1 good ];
    forms_differ = differ_more s.forms form absent sound.forms_differ;
    rows = λ n key e. key_good_more (s.columns + length s.forms) (s.columns + length (s.forms ++ form ∷ [])) key (let long = length-append s.forms (form ∷ []) in omega arith) (sound.rows n key e);
    keys_differ = sound.keys_differ;
    in_range = sound.in_range;
  };
  same = λ value fv over truth fits. refl;
}

one_times : (z : ℤ) → pos 1 *ℤ z +ℤ pos 0 ≡ z
one_times z = omega (arith, ints)

form_law : (s : Build) (r : RowLit) (t : Build) (n : ℕ) → IsRow s.columns r → form_numbered s r.form ≡ Ok (t, n) → Numbered s r.form t n
unfolding form_numbered
form_law s r t n row e = by r.form.terms refl e
  where
    several : 2 ≤ length r.form.terms → form_numbered_by None s r.form ≡ Ok (t, n) → Numbered s r.form t n
    several many e =
        let w = went_on (numbered same_form (2048 - s.columns) too_many.Forms s.forms r.form) (λ m. Ok (record s { forms = m.0 }, s.columns + m.1)) (t, n) e in
        let q = same_ok {X = Build × ℕ} (record s { forms = w.0.0 }, s.columns + w.0.1) (t, n) w.2 in
        let here = sym (ap (λ x. x.0) q) in
        let at : n ≡ s.columns + w.0.1 = sym (ap (λ x. x.1) q) in
        elim (numbered-either same_form same_form-exact same_form-itself (2048 - s.columns) too_many.Forms s.forms r.form w.0.0 w.0.1 w.1) [
          | inl old ↦
              let same : t ≡ s = here ∙ ap (λ (fs : List Form). record s { forms = fs }) old.0 in
              record {
                took = subst (λ (u : Build). Took s u) (sym same) (took_none s);
                keys = ap (λ (u : Build). u.keys) same;
                below = subst (λ (u : Build). n < u.columns + length u.forms) (sym same) (let within = old.1 in omega arith);
                says = λ value fv over truth fits.
                    let fits_here : Fits value fv over truth s = subst (λ (u : Build). Fits value fv over truth u) same fits in
                    ap fv at ∙ fits_here.forms w.0.1 r.form old.2;
              }
          | inr new ↦
              let same : t ≡ record s { forms = s.forms ++ r.form ∷ [] } = here ∙ ap (λ (fs : List Form). record s { forms = fs }) new.0 in
              record {
                took = subst (λ (u : Build). Took s u) (sym same)
                    (one_form_more s r.form (record { normal = row.normal; several = many; in_range = row.in_range; small = row.small }) new.3
                    (let near = new.2 in let place = new.1 in omega arith));
                keys = ap (λ (u : Build). u.keys) same;
                below = subst (λ (u : Build). n < u.columns + length u.forms) (sym same) (let place = new.1 in let long = length-append s.forms (r.form ∷ []) in omega arith);
                says = λ value fv over truth fits.
                    let fits_here : Fits value fv over truth (record s { forms = s.forms ++ r.form ∷ [] }) = subst (λ (u : Build). Fits value fv over truth u) same fits in
                    ap fv at ∙ fits_here.forms w.0.1 r.form (ap (slice_get (s.forms ++ r.form ∷ [])) new.1 ∙ get_last s.forms r.form);
              }
        ]

    by : (ts : List Term) → r.form.terms ≡ ts → form_numbered_by (lone_column ts) s r.form ≡ Ok (t, n) → Numbered s r.form t n
    by [] is e = absurd (subst StartsPositive is row.normal.starts_positive)
    by (x ∷ y ∷ ts) is e = several (let long = ap length is in omega arith) e
    by (x ∷ []) is e =
        let q = same_ok {X = Build × ℕ} (s, x.column) (t, n) e in
        let same = sym (ap (λ z. z.0) q) in
        let at : n ≡ x.column = sym (ap (λ z. z.1) q) in
        let alone = row.alone x is in
        record {
          took = subst (λ (u : Build). Took s u) (sym same) (took_none s);
          keys = ap (λ (u : Build). u.keys) same;
          below = subst (λ (u : Build). n < u.columns + length u.forms) (sym same) (let within = alone.1 in omega arith);
          says = λ value fv over truth fits.
              let fits_here : Fits value fv over truth s = subst (λ (u : Build). Fits value fv over truth u) same fits in
              ap fv at ∙ fits_here.columns x.column alone.1
              ∙ sym (ap (sum_of value) is ∙ ap (λ (c : ℤ). c *ℤ value x.column +ℤ pos 0) alone.0 ∙ one_times (value x.column));
        }

-- ---- literals

-- a literal that says the same as a test, of an atom that is there
pub record Says (s t : Build) (l : Lit) (test : (ℕ → ℤ) → ℕ → (ℕ → Bool) → Bool) : Type 0 where
  pub took : Took s t
  pub below : l.atom < length t.keys
  pub says : (value fv : ℕ → ℤ) (over : ℕ) (truth : ℕ → Bool) → Fits value fv over truth t → lit_true truth l ≡ test value over truth

pub row_law : (s : Build) (r : RowLit) (t : Build) (l : Lit) → IsRow s.columns r → row_literal s r ≡ Ok (t, l) → Says s t l (λ value over truth. row_true value over r)
unfolding row_literal
row_law s r t l row e =
    let f = went_on (form_numbered s r.form) (λ g. and_then (atom_numbered g.0 (Row g.1 r.num r.den r.strict)) (λ a. Ok (a.0, record { atom = a.1; positive = r.positive }))) (t, l) e in
    let a = went_on (atom_numbered f.0.0 (Row f.0.1 r.num r.den r.strict)) (λ a. Ok (a.0, record { atom = a.1; positive = r.positive })) (t, l) f.2 in
    let q = same_ok {X = Build × Lit} (a.0.0, record { atom = a.0.1; positive = r.positive }) (t, l) a.2 in
    let form = form_law s r f.0.0 f.0.1 row f.1 in
    let good : KeyGood (f.0.0.columns + length f.0.0.forms) (Row f.0.1 r.num r.den r.strict) =
    record { in_range = form.below; num_small = row.num_small; den_small = row.den_small; den_some = row.den_some } in
    let made = atom f.0.0 (Row f.0.1 r.num r.den r.strict) a.0.0 a.0.1 tt good a.1 in
    let here : a.0.0 ≡ t = ap (λ x. x.0) q in
    let lit : record { atom = a.0.1; positive = r.positive } ≡ l = ap (λ x. x.1) q in
    ends f.0.0 f.0.1 a.0.0 a.0.1 form made here lit
  where
    ends : (u : Build) (n : ℕ) (v : Build) (p : ℕ) → Numbered s r.form u n → Atom u (Row n r.num r.den r.strict) v p → v ≡ t
        → record { atom = p; positive = r.positive } ≡ l → Says s t l (λ value over truth. row_true value over r)
    ends u n v p form made here lit =
        subst (λ (w : Build). Says s w l (λ value over truth. row_true value over r)) here
        (subst (λ (m : Lit). Says s v m (λ value over truth. row_true value over r)) lit (record {
          took = took_on s u v form.took made.took;
          below = get_within v.keys p (Row n r.num r.den r.strict) made.there;
          says = λ value fv over truth fits.
              ap (by_sign r.positive) (fits.keys p (Row n r.num r.den r.strict) made.there)
              ∙ ap (λ (z : ℤ). by_sign r.positive (holds r.strict true (r.den *ℤ z) (r.num *ℤ pos over))) (form.says value fv over truth (fits_before value fv over truth u v made.took.grows fits))
              ∙ holds-sign r.strict r.positive (r.den *ℤ sum_of value r.form.terms) (r.num *ℤ pos over);
        }))

pub named_law : (s : Build) (connective : Connective) (parts : List Lit) (t : Build) (l : Lit) → Below (length s.keys) parts → named s connective parts ≡ Ok (t, l)
    → Says s t l (λ value over truth. joined truth connective parts)
unfolding named
named_law s connective parts t l below e =
    let a = went_on (atom_numbered s (Named connective parts)) (λ a. Ok (a.0, record { atom = a.1; positive = true })) (t, l) e in
    let q = same_ok {X = Build × Lit} (a.0.0, record { atom = a.0.1; positive = true }) (t, l) a.2 in
    ends a.0.0 a.0.1 (atom s (Named connective parts) a.0.0 a.0.1 below tt a.1) (ap (λ x. x.0) q) (ap (λ x. x.1) q)
  where
    ends : (v : Build) (p : ℕ) → Atom s (Named connective parts) v p → v ≡ t → record { atom = p; positive = true } ≡ l
        → Says s t l (λ value over truth. joined truth connective parts)
    ends v p made here lit =
        subst (λ (w : Build). Says s w l (λ value over truth. joined truth connective parts)) here
        (subst (λ (m : Lit). Says s v m (λ value over truth. joined truth connective parts)) lit (record {
          took = made.took;
          below = get_within v.keys p (Named connective parts) made.there;
          says = λ value fv over truth fits. fits.keys p (Named connective parts) made.there;
        }))

-- ---- nodes

-- what a node says, by its literals
abbrev pub value_true : (ℕ → Bool) → Value → Bool
value_true truth (one l) = lit_true truth l
value_true truth (all_lits ls) = all_true truth ls
value_true truth (any_lits ls) = any_true truth ls

abbrev pub ValueBelow : ℕ → Value → Type 0
ValueBelow n (one l) = l.atom < n
ValueBelow n (all_lits ls) = Below n ls
ValueBelow n (any_lits ls) = Below n ls

-- a node that says the same as a test
pub record Node (s t : Build) (v : Value) (test : (ℕ → ℤ) → ℕ → Bool) : Type 0 where
  pub took : Took s t
  pub below : ValueBelow (length t.keys) v
  pub says : (value fv : ℕ → ℤ) (over : ℕ) (truth : ℕ → Bool) → Fits value fv over truth t → value_true truth v ≡ test value over

-- literals that together say the same as a node
pub record Parts (connective : Connective) (s t : Build) (v : Value) (ls : List Lit) : Type 0 where
  pub took : Took s t
  pub below : Below (length t.keys) ls
  pub says : (value fv : ℕ → ℤ) (over : ℕ) (truth : ℕ → Bool) → Fits value fv over truth t → joined truth connective ls ≡ value_true truth v

none_more : (s : Build) (l : Lit) → l.atom < length s.keys → Says s s l (λ value over truth. lit_true truth l)
none_more s l below = record { took = took_none s; below = below; says = λ value fv over truth fits. refl }

sealed_law : (s : Build) (v : Value) (t : Build) (l : Lit) → ValueBelow (length s.keys) v → sealed s v ≡ Ok (t, l) → Says s t l (λ value over truth. value_true truth v)
sealed_law s (one m) t l below e =
    let q = same_ok {X = Build × Lit} (s, m) (t, l) e in
    subst (λ (w : Build). Says s w l (λ value over truth. lit_true truth m)) (ap (λ x. x.0) q)
    (subst (λ (k : Lit). Says s s k (λ value over truth. lit_true truth m)) (ap (λ x. x.1) q) (none_more s m below))
sealed_law s (all_lits ls) t l below e = named_law s And ls t l below e
sealed_law s (any_lits ls) t l below e = named_law s Or ls t l below e

alone_law : (connective : Connective) (s : Build) (v : Value) (l : Lit) (t : Build) (ls : List Lit) → Says s t l (λ value over truth. value_true truth v) → l ∷ [] ≡ ls → Parts connective s t v ls
alone_law And s v l t ls says is = subst (λ (ms : List Lit). Parts And s t v ms) is (record {
  took = says.took;
  below = (says.below, tt);
  says = λ value fv over truth fits. and_true (lit_true truth l) ∙ says.says value fv over truth fits;
})
alone_law Or s v l t ls says is = subst (λ (ms : List Lit). Parts Or s t v ms) is (record {
  took = says.took;
  below = (says.below, tt);
  says = λ value fv over truth fits. or_false (lit_true truth l) ∙ says.says value fv over truth fits;
})

same_parts : (connective : Connective) (s : Build) (v : Value) (ls ms : List Lit) (t : Build) → Below (length s.keys) ls
    → ((truth : ℕ → Bool) → joined truth connective ls ≡ value_true truth v) → s ≡ t → ls ≡ ms → Parts connective s t v ms
same_parts connective s v ls ms t below says here is =
    subst (λ (u : Build). Parts connective s u v ms) here (subst (λ (ks : List Lit). Parts connective s s v ks) is (record {
      took = took_none s;
      below = below;
      says = λ value fv over truth fits. says truth;
    }))

pub conjuncts_law : (s : Build) (v : Value) (t : Build) (ls : List Lit) → ValueBelow (length s.keys) v → conjunct_lits s v ≡ Ok (t, ls) → Parts And s t v ls
conjuncts_law s (one l) t ls below e =
    let q = same_ok {X = Build × List Lit} (s, l ∷ []) (t, ls) e in
    same_parts And s (one l) (l ∷ []) ls t (below, tt) (λ truth. and_true (lit_true truth l)) (ap (λ x. x.0) q) (ap (λ x. x.1) q)
conjuncts_law s (all_lits ms) t ls below e =
    let q = same_ok {X = Build × List Lit} (s, ms) (t, ls) e in
    same_parts And s (all_lits ms) ms ls t below (λ truth. refl) (ap (λ x. x.0) q) (ap (λ x. x.1) q)
conjuncts_law s (any_lits ms) t ls below e =
    let w = went_on (named s Or ms) (λ p. Ok (p.0, p.1 ∷ [])) (t, ls) e in
    let q = same_ok {X = Build × List Lit} (w.0.0, w.0.1 ∷ []) (t, ls) w.2 in
    let says : Says s w.0.0 w.0.1 (λ value over truth. any_true truth ms) = named_law s Or ms w.0.0 w.0.1 below w.1 in
    subst (λ (u : Build). Parts And s u (any_lits ms) ls) (ap (λ x. x.0) q) (alone_law And s (any_lits ms) w.0.1 w.0.0 ls says (ap (λ x. x.1) q))

pub disjuncts_law : (s : Build) (v : Value) (t : Build) (ls : List Lit) → ValueBelow (length s.keys) v → disjunct_lits s v ≡ Ok (t, ls) → Parts Or s t v ls
disjuncts_law s (one l) t ls below e =
    let q = same_ok {X = Build × List Lit} (s, l ∷ []) (t, ls) e in
    same_parts Or s (one l) (l ∷ []) ls t (below, tt) (λ truth. or_false (lit_true truth l)) (ap (λ x. x.0) q) (ap (λ x. x.1) q)
disjuncts_law s (any_lits ms) t ls below e =
    let q = same_ok {X = Build × List Lit} (s, ms) (t, ls) e in
    same_parts Or s (any_lits ms) ms ls t below (λ truth. refl) (ap (λ x. x.0) q) (ap (λ x. x.1) q)
disjuncts_law s (all_lits ms) t ls below e =
    let w = went_on (named s And ms) (λ p. Ok (p.0, p.1 ∷ [])) (t, ls) e in
    let q = same_ok {X = Build × List Lit} (w.0.0, w.0.1 ∷ []) (t, ls) w.2 in
    let says : Says s w.0.0 w.0.1 (λ value over truth. all_true truth ms) = named_law s And ms w.0.0 w.0.1 below w.1 in
    subst (λ (u : Build). Parts Or s u (all_lits ms) ls) (ap (λ x. x.0) q) (alone_law Or s (all_lits ms) w.0.1 w.0.0 ls says (ap (λ x. x.1) q))

-- the rows of a tree, over this many columns
abbrev pub EachRow : ℕ → Tree RowLit → Type 0
EachRow columns t = EachLeaf (IsRow columns) t

constant : (s t : Build) (v w : Value) (test : (ℕ → ℤ) → ℕ → Bool) → ValueBelow (length s.keys) v → ((truth : ℕ → Bool) (value : ℕ → ℤ) (over : ℕ) → value_true truth v ≡ test value over)
    → ◌≡◌ {A = Result (Build × Value) What} (Ok (s, v)) (Ok (t, w)) → Node s t w test
constant s t v w test below says e =
    let q = same_ok {X = Build × Value} (s, v) (t, w) e in
    subst (λ (u : Build). Node s u w test) (ap (λ x. x.0) q) (subst (λ (x : Value). Node s s x test) (ap (λ x. x.1) q) (record {
      took = took_none s;
      below = below;
      says = λ value fv over truth fits. says truth value over;
    }))

sealed_node : (s u t : Build) (v : Value) (l : Lit) (test : (ℕ → ℤ) → ℕ → Bool) → Node s u v test → sealed u v ≡ Ok (t, l) → Says s t l (λ value over truth. test value over)
sealed_node s u t v l test node e =
    let says = sealed_law u v t l node.below e in
    record {
      took = took_on s u t node.took says.took;
      below = says.below;
      says = λ value fv over truth fits.
          says.says value fv over truth fits ∙ node.says value fv over truth (fits_before value fv over truth u t says.took.grows fits);
    }

same_columns : (s t : Build) (r : Tree RowLit) → Took s t → EachRow s.columns r → EachRow t.columns r
same_columns s t r took rows = subst (λ (c : ℕ). EachRow c r) (sym took.grows.columns) rows

joined_node : (connective : Connective) (s u w t : Build) (l : Lit) (v : Value) (ls : List Lit) (first rest : (ℕ → ℤ) → ℕ → Bool)
    → Says s u l (λ value over truth. first value over) → Node u w v rest → Parts connective w t v ls
    → Took s t × Below (length t.keys) (l ∷ ls)
    × ((value fv : ℕ → ℤ) (over : ℕ) (truth : ℕ → Bool) → Fits value fv over truth t → (lit_true truth l ≡ first value over) × (joined truth connective ls ≡ rest value over))
joined_node connective s u w t l v ls first rest says node parts =
    let later = took_on u w t node.took parts.took in (
      took_on s u t says.took later,
      (let long = more_keys u t later.grows in let below = says.below in omega arith, parts.below),
      λ value fv over truth fits. (
        says.says value fv over truth (fits_before value fv over truth u t later.grows fits),
        parts.says value fv over truth fits ∙ node.says value fv over truth (fits_before value fv over truth w t parts.took.grows fits),
      ),
    )

pub value_law : (r : Tree RowLit) (s t : Build) (v : Value) → EachRow s.columns r → value r s ≡ Ok (t, v) → Node s t v (λ value over. is_true (row_true value over) r)
value_law always s t v rows e = constant s t (all_lits []) v (λ value over. true) tt (λ truth value over. refl) e
value_law never s t v rows e = constant s t (any_lits []) v (λ value over. false) tt (λ truth value over. refl) e
value_law (leaf r) s t v rows e =
    let w = went_on (row_literal s r) (λ p. Ok (p.0, one p.1)) (t, v) e in
    let q = same_ok {X = Build × Value} (w.0.0, one w.0.1) (t, v) w.2 in
    let says = row_law s r w.0.0 w.0.1 rows w.1 in
    subst (λ (u : Build). Node s u v (λ value over. row_true value over r)) (ap (λ x. x.0) q)
    (subst (λ (x : Value). Node s w.0.0 x (λ value over. row_true value over r)) (ap (λ x. x.1) q) (record { took = says.took; below = says.below; says = says.says }))
value_law (opposite r) s t v rows e =
    let w = went_on (value r s) (λ x. and_then (sealed x.0 x.1) (λ p. Ok (p.0, one (negation p.1)))) (t, v) e in
    let p = went_on (sealed w.0.0 w.0.1) (λ p. Ok (p.0, one (negation p.1))) (t, v) w.2 in
    let q = same_ok {X = Build × Value} (p.0.0, one (negation p.0.1)) (t, v) p.2 in
    let node = value_law r s w.0.0 w.0.1 rows w.1 in
    let says = sealed_node s w.0.0 p.0.0 w.0.1 p.0.1 (λ value over. is_true (row_true value over) r) node p.1 in
    subst (λ (u : Build). Node s u v (λ value over. not (is_true (row_true value over) r))) (ap (λ x. x.0) q)
    (subst (λ (x : Value). Node s p.0.0 x (λ value over. not (is_true (row_true value over) r))) (ap (λ x. x.1) q) (record {
      took = says.took;
      below = says.below;
      says = λ value fv over truth fits. lit_true-negation truth p.0.1 ∙ ap not (says.says value fv over truth fits);
    }))
value_law end_of_all s t v rows e = constant s t (all_lits []) v (λ value over. true) tt (λ truth value over. refl) e
value_law (all_of r rest) s t v rows e =
    let w = went_on (value r s) (λ x. and_then (sealed x.0 x.1) (λ p. and_then (value rest p.0) (λ y. and_then (conjunct_lits y.0 y.1) (λ q. Ok (q.0, all_lits (p.1 ∷ q.1)))))) (t, v) e in
    let p = went_on (sealed w.0.0 w.0.1) (λ p. and_then (value rest p.0) (λ y. and_then (conjunct_lits y.0 y.1) (λ q. Ok (q.0, all_lits (p.1 ∷ q.1))))) (t, v) w.2 in
    let y = went_on (value rest p.0.0) (λ y. and_then (conjunct_lits y.0 y.1) (λ q. Ok (q.0, all_lits (p.0.1 ∷ q.1)))) (t, v) p.2 in
    let q = went_on (conjunct_lits y.0.0 y.0.1) (λ q. Ok (q.0, all_lits (p.0.1 ∷ q.1))) (t, v) y.2 in
    let k = same_ok {X = Build × Value} (q.0.0, all_lits (p.0.1 ∷ q.0.1)) (t, v) q.2 in
    let says = sealed_node s w.0.0 p.0.0 w.0.1 p.0.1 (λ value over. is_true (row_true value over) r) (value_law r s w.0.0 w.0.1 rows.0 w.1) p.1 in
    let node = value_law rest p.0.0 y.0.0 y.0.1 (same_columns s p.0.0 rest says.took rows.1) y.1 in
    let parts = conjuncts_law y.0.0 y.0.1 q.0.0 q.0.1 node.below q.1 in
    let all = joined_node And s p.0.0 y.0.0 q.0.0 p.0.1 y.0.1 q.0.1 (λ value over. is_true (row_true value over) r) (λ value over. is_true (row_true value over) rest) says node parts in
    subst (λ (u : Build). Node s u v (λ value over. is_true (row_true value over) r && is_true (row_true value over) rest)) (ap (λ x. x.0) k)
    (subst (λ (x : Value). Node s q.0.0 x (λ value over. is_true (row_true value over) r && is_true (row_true value over) rest)) (ap (λ x. x.1) k) (record {
      took = all.0;
      below = all.1;
      says = λ value fv over truth fits. let both = all.2 value fv over truth fits in (λ i. both.0 i && both.1 i);
    }))
value_law end_of_any s t v rows e = constant s t (any_lits []) v (λ value over. false) tt (λ truth value over. refl) e
value_law (any_of r rest) s t v rows e =
    let w = went_on (value r s) (λ x. and_then (sealed x.0 x.1) (λ p. and_then (value rest p.0) (λ y. and_then (disjunct_lits y.0 y.1) (λ q. Ok (q.0, any_lits (p.1 ∷ q.1)))))) (t, v) e in
    let p = went_on (sealed w.0.0 w.0.1) (λ p. and_then (value rest p.0) (λ y. and_then (disjunct_lits y.0 y.1) (λ q. Ok (q.0, any_lits (p.1 ∷ q.1))))) (t, v) w.2 in
    let y = went_on (value rest p.0.0) (λ y. and_then (disjunct_lits y.0 y.1) (λ q. Ok (q.0, any_lits (p.0.1 ∷ q.1)))) (t, v) p.2 in
    let q = went_on (disjunct_lits y.0.0 y.0.1) (λ q. Ok (q.0, any_lits (p.0.1 ∷ q.1))) (t, v) y.2 in
    let k = same_ok {X = Build × Value} (q.0.0, any_lits (p.0.1 ∷ q.0.1)) (t, v) q.2 in
    let says = sealed_node s w.0.0 p.0.0 w.0.1 p.0.1 (λ value over. is_true (row_true value over) r) (value_law r s w.0.0 w.0.1 rows.0 w.1) p.1 in
    let node = value_law rest p.0.0 y.0.0 y.0.1 (same_columns s p.0.0 rest says.took rows.1) y.1 in
    let parts = disjuncts_law y.0.0 y.0.1 q.0.0 q.0.1 node.below q.1 in
    let all = joined_node Or s p.0.0 y.0.0 q.0.0 p.0.1 y.0.1 q.0.1 (λ value over. is_true (row_true value over) r) (λ value over. is_true (row_true value over) rest) says node parts in
    subst (λ (u : Build). Node s u v (λ value over. is_true (row_true value over) r || is_true (row_true value over) rest)) (ap (λ x. x.0) k)
    (subst (λ (x : Value). Node s q.0.0 x (λ value over. is_true (row_true value over) r || is_true (row_true value over) rest)) (ap (λ x. x.1) k) (record {
      took = all.0;
      below = all.1;
      says = λ value fv over truth fits. let both = all.2 value fv over truth fits in (λ i. both.0 i || both.1 i);
    }))
