-- What is resolved is within the limits of questions.
use Rattle.std.proofs.Common.{◌≡◌, ℕ, suc, ◌+◌, ◌<◌, ◌≤◌, Bool, true, false, cond, Option, Some, None, List, [], ◌∷◌, ◌++◌, length, refl, sym, ap, subst, arith}
use Rattle.std.specs.Prelude.{All, slice_get, unsigned_abs}
use Rattle.std.specs.Int.{◌∣◌}
use Rattle.std.specs.List.{position_from}
use Rattle.std.proofs.lemmas.List.Elements.{All-nil, All-cons, All-head, All-tail, All-append}
use Rattle.std.proofs.lemmas.List.{length-map}
use Rattle.std.proofs.lemmas.Option.{slice_get_within}
use Rattle.std.proofs.lemmas.Nat.Gcd.{le_of_dvd}
use Rattle.weighing.specs.Scaled.{IsNum, den_of}
use Rattle.weighing.specs.declared.scales.Num.{Num}
use Rattle.path_server.specs.declared.settings.Setting.{Setting}
use Rattle.path_server.specs.Limits.{IsSetting}
use Rattle.condition_syntax.specs.Trees as written
use Rattle.condition_syntax.specs.declared.expressions.Name.{Name}
use Rattle.condition_syntax.specs.declared.expressions.Expr.{Expr}
use Rattle.condition_syntax.specs.declared.expressions.ETerm.{ETerm}
use Rattle.condition_syntax.specs.Trees.{EachExpr}
use Rattle.ctrl_types.specs.Denominators.{IsScale}
use Rattle.ctrl_types.specs.Statements.{coefs, condition_numbers}
use Rattle.ctrl_types.specs.declared.controllers.Controller.{Controller}
use Rattle.ctrl_types.specs.declared.controllers.State.{State}
use Rattle.ctrl_types.proofs.DenominatorLaws.{least_over}
use Rattle.question_syntax.specs.Limits.{IsPlacedExpr, IsPlacedTerm}
use Rattle.question_syntax.specs.Sections.{Sections, Wanted}
use Rattle.question_text.specs.Conditions.{Condition, condition_of, conjunction}
use Rattle.question_text.specs.Expressions.{AreCleared, Divides, HasNum, scale_of_two}
use Rattle.question_text.specs.Limits.{IsCondition, IsComparison, IsName, IsQuestion, IsTerm}
use Rattle.question_text.specs.NamedValues.{StandsFor, credit, waste, all_counted, counted, only_state, own_state, each_found, entry_of, has_name, in_front, of_written, state_named}
use Rattle.question_text.specs.StatementRules.{SeenQuestion, meant, question_seen}
use Rattle.question_text.specs.declared.conditions.Of.{Of}
use Rattle.question_text.specs.declared.conditions.Of.TheVariants.{One}
use Rattle.question_text.specs.declared.conditions.QLin.{QLin}
use Rattle.question_text.specs.declared.conditions.QTerm.{QTerm}
use Rattle.question_text.specs.declared.names.Count.{Count}
use Rattle.question_text.specs.declared.names.Count.TheVariants.{Arrived, Served, Lost}
use Rattle.question_text.specs.declared.questions.Question.{Question}
use Rattle.question_text.proofs.LineAgreement.{EachAskedWanted, IsRead, all_numbers, conds, condition_nums, path_nums, path_numbers}
use Rattle.question_text.proofs.MeaningLaws as meaning
use Rattle.question_text.proofs.MeaningLaws.{AreFound, Means, found_length, found_numbers, means_it}
use Rattle.question_text.proofs.NameLaws.{name_taken}
use Rattle.question_text.proofs.Scales.{least_scale}

-- ---- places

-- an element that meets a test, with its place behind i others
pub record AtPlace {X : Type 0} (test : X → Bool) (i : ℕ) (xs : List X) (k : ℕ) : Type 0 where
  pub place : ℕ
  pub at : k ≡ i + place
  pub value : X
  pub is : slice_get xs place ≡ Some value
  pub meets : test value ≡ true

pub placed_at : {X : Type 0} (test : X → Bool) (i : ℕ) (xs : List X) (k : ℕ) → position_from test i xs ≡ Some k → AtPlace test i xs k
placed_at test i [] k e = absurd (cc)
placed_at test i (x ∷ xs) k e = by (test x) refl e (λ rest. placed_at test (i + 1) xs k rest)
  where
    by : (t : Bool) → test x ≡ t → cond t (Some i) (position_from test (i + 1) xs) ≡ Some k
        → (position_from test (i + 1) xs ≡ Some k → AtPlace test (i + 1) xs k) → AtPlace test i (x ∷ xs) k
    by true p q rest = let same : i ≡ k = cc in record { place = 0; at = omega arith; value = x; is = refl; meets = p }
    by false p q rest =
        let later = rest q in
        let at = later.at in
        record { place = suc later.place; at = omega arith; value = later.value; is = later.is; meets = later.meets }

pub named_at : (states : List State) (w : List ℕ) (j : ℕ) → state_named states w ≡ Some j → AtPlace (has_name w) 0 states j
unfolding state_named
named_at states w j e = placed_at (has_name w) 0 states j e

state_within : (states : List State) (w : List ℕ) (j : ℕ) → state_named states w ≡ Some j → j < length states
state_within states w j e =
    let here = named_at states w j e in
    let at = here.at in
    let within = slice_get_within states here.place here.value here.is in
    omega arith

-- ---- names

entry_within : (states : ℕ) (s : Setting) (count : Count) (f t : ℕ) → f ≤ s.flows → t ≤ s.steps → IsName states s (entry_of count f t)
entry_within states s Arrived f t flow step = record { flow_to = flow; step_to = step }
entry_within states s Served f t flow step = record { flow_to = flow; step_to = step }
entry_within states s Lost f t flow step = record { flow_to = flow; step_to = step }

name_within : (states : List State) (s : Setting) (x : Name) (of : Of) → StandsFor states s x of → IsName (length states) s of
name_within states s x of (credit text flow step) = tt
name_within states s x of (waste text flow step to) = to
name_within states s x of (all_counted {count} {t} text flow step to) = entry_within (length states) s count 0 t (omega arith) to
name_within states s x of (counted {count} {f} {t} text flow within step to) = entry_within (length states) s count f t within.to to
name_within states s x of (only_state {j} {t} own named flow one step to) =
    record { state_in = state_within states x.text j named; flow_from = omega arith; flow_to = omega arith; step_to = to }
name_within states s x of (own_state {j} {f} {t} own named flow within step to) =
    record { state_in = state_within states x.text j named; flow_from = within.from; flow_to = within.to; step_to = to }

of_within : (states : List State) (s : Setting) (name : Option Name) (of : Of) → of_written states s name ≡ Some of → IsName (length states) s of
unfolding of_written
of_within states s None of e = let same : One ≡ of = cc in subst (IsName (length states) s) same tt
of_within states s (Some x) of e = name_within states s x of (name_taken states s x of e)

-- ---- expressions

module _ (states : List State) (s : Setting) where
  terms_within : {terms : List ETerm} {found : List QTerm} → AreFound states s terms found → All IsPlacedTerm terms → All (IsTerm (length states) s) found
  terms_within meaning.none each = All-nil (IsTerm (length states) s)
  terms_within (meaning.one_more {t} {terms} {found} of is rest) each =
      All-cons (IsTerm (length states) s) (record { coef = t.coef; of = of }) found
      (record { coef_in = (All-head IsPlacedTerm t terms each).coef; name_in = of_within states s t.name of is })
      (terms_within rest (All-tail IsPlacedTerm t terms each))

  terms_cleared : (m : ℕ) {terms : List ETerm} {found : List QTerm} → AreFound states s terms found → All (λ n. den_of n ∣ m) (coefs terms) → AreCleared m found
  terms_cleared m meaning.none each = All-nil (Divides m)
  terms_cleared m (meaning.one_more {t} {terms} {found} of is rest) each =
      All-cons (Divides m) (record { coef = t.coef; of = of }) found (All-head (λ n. den_of n ∣ m) t.coef (coefs terms) each)
      (terms_cleared m rest (All-tail (λ n. den_of n ∣ m) t.coef (coefs terms) each))

  have_nums : (found : List QTerm) → All (IsTerm (length states) s) found → All HasNum found
  have_nums found each = λ k d inside. (each k d inside).coef_in

  -- ---- conditions

  pub record IsBoth {X : Type 0} (P : X → Type 0) (xs ys : List X) : Type 0 where
    pub front : All P xs
    pub back : All P ys

  pub split : {X : Type 0} (P : X → Type 0) (xs ys : List X) → All P (xs ++ ys) → IsBoth P xs ys
  split P [] ys each = record { front = All-nil P; back = each }
  split P (x ∷ xs) ys each =
      let rest = split P xs ys (All-tail P x (xs ++ ys) each) in
      record { front = All-cons P x xs (All-head P x (xs ++ ys) each) rest.front; back = rest.back }

  module _ (m : ℕ) (scale : IsScale m) where
    Cleared : Num → Type 0
    Cleared n = den_of n ∣ m

    comparison_within : (left right : Expr) (x y : QLin) → AreFound states s left.terms x.terms → AreFound states s right.terms y.terms → IsPlacedExpr left → IsPlacedExpr right
        → All (λ n. den_of n ∣ m) (coefs left.terms ++ coefs right.terms) → IsComparison (length states) s x y
    comparison_within left right x y one two lefts rights cleared =
        let parts = split (λ n. den_of n ∣ m) (coefs left.terms) (coefs right.terms) cleared in
        let left_in = terms_within one lefts.each_term in
        let right_in = terms_within two rights.each_term in
        let least = least_scale x y (have_nums x.terms left_in) (have_nums y.terms right_in) in
        let from = scale.from in
        let to = scale.to in
        let small : scale_of_two x y ≤ m = le_of_dvd (omega arith) (least.least m (terms_cleared m one parts.front) (terms_cleared m two parts.back)) in
        let count_left = found_length states s one in
        let count_right = found_length states s two in
        let few_left = lefts.terms_to in
        let few_right = rights.terms_to in
        record { left_to = omega arith; right_to = omega arith; left_in = left_in; right_in = right_in; scale_to = omega arith }

    pub condition_within : {c : written.Condition} {d : Condition} → Means states s c d → EachExpr IsPlacedExpr c → All (λ n. den_of n ∣ m) (condition_numbers c)
        → IsCondition (length states) s d
    condition_within meaning.always placed cleared = tt
    condition_within meaning.never placed cleared = tt
    condition_within (meaning.comparison {left} {right} {x} {y} rel one two) placed cleared = comparison_within left right x y one two placed.0 placed.1 cleared
    condition_within (meaning.opposite d) placed cleared = condition_within d placed cleared
    condition_within meaning.end_of_all placed cleared = tt
    condition_within (meaning.all_of {c} {cs} d ds) placed cleared =
        let parts = split (λ n. den_of n ∣ m) (condition_numbers c) (condition_numbers cs) cleared in
        (condition_within d placed.0 parts.front, condition_within ds placed.1 parts.back)
    condition_within meaning.end_of_any placed cleared = tt
    condition_within (meaning.any_of {c} {cs} d ds) placed cleared =
        let parts = split (λ n. den_of n ∣ m) (condition_numbers c) (condition_numbers cs) cleared in
        (condition_within d placed.0 parts.front, condition_within ds placed.1 parts.back)

    -- all assumptions
    all_within : (c : Controller) (ws : List Wanted) (xs : List Condition) → c.states ≡ states → EachAskedWanted c s ws → each_found (meant states s) (conds c s ws) ≡ Some xs
        → All (λ n. den_of n ∣ m) (all_numbers c s ws) → IsCondition (length states) s (conjunction xs) × (length xs ≡ length ws)
    unfolding each_found
    all_within c [] xs same asked e cleared = let none : [] ≡ xs = cc in subst (λ (ys : List Condition). IsCondition (length states) s (conjunction ys) × (length ys ≡ 0)) none (tt, refl)
    all_within c (w ∷ ws) xs same asked e cleared =
        let parts = split (λ n. den_of n ∣ m) (condition_numbers w.cond) (all_numbers c s ws) cleared in
        by (meant states s w.cond) (each_found (meant states s) (conds c s ws)) refl refl e parts.front
        (λ ys p. all_within c ws ys same asked.1 p parts.back)
      where
        by : (o : Option Condition) (os : Option (List Condition)) → meant states s w.cond ≡ o → each_found (meant states s) (conds c s ws) ≡ os → in_front o os ≡ Some xs
            → All (λ n. den_of n ∣ m) (condition_numbers w.cond)
            → ((ys : List Condition) → each_found (meant states s) (conds c s ws) ≡ Some ys → IsCondition (length states) s (conjunction ys) × (length ys ≡ length ws))
            → IsCondition (length states) s (conjunction xs) × (length xs ≡ suc (length ws))
        by None os p q f here rest = absurd (cc)
        by (Some x) None p q f here rest = absurd (cc)
        by (Some x) (Some ys) p q f here rest =
            let same : x ∷ ys ≡ xs = cc in
            let others = rest ys q in
            subst (λ (zs : List Condition). IsCondition (length states) s (conjunction zs) × (length zs ≡ suc (length ws))) same
            ((condition_within (means_it states s w.cond x p) asked.0.0 here, others.0), ap suc others.1)

-- ---- the whole question

-- what is read of a text within its limits
pub record IsSeenQuestion (states : ℕ) (q : SeenQuestion) : Type 0 where
  pub setting_in : IsSetting q.setting
  pub assumes_to : length q.assumes ≤ 16
  pub assumes_in : IsCondition states q.setting (conjunction q.assumes)
  pub require_in : IsCondition states q.setting q.require

all_nums : (c : Controller) (s : Setting) (ws : List Wanted) → EachAskedWanted c s ws → All IsNum (all_numbers c s ws)
all_nums c s [] asked = All-nil IsNum
all_nums c s (w ∷ ws) asked = All-append IsNum (condition_numbers w.cond) (all_numbers c s ws) (condition_nums c w.cond asked.0.0) (all_nums c s ws asked.1)

pub seen_within : (c : Controller) (t : Sections) (q : SeenQuestion) → IsScale (unsigned_abs c.den) → IsSetting t.setting → length t.assumes ≤ 16
    → EachAskedWanted c t.setting t.assumes → EachExpr IsPlacedExpr t.require.cond → IsRead c t q → IsSeenQuestion (length c.states) q
seen_within c t q scale set few assumed required read =
    let s : Setting = t.setting in
    let before : List Num = path_numbers c s ++ all_numbers c s t.assumes in
    let nums : List Num = before ++ condition_numbers t.require.cond in
    let each : All IsNum nums =
    All-append IsNum before (condition_numbers t.require.cond) (All-append IsNum (path_numbers c s) (all_numbers c s t.assumes) (path_nums c s set) (all_nums c s t.assumes assumed)) (condition_nums c t.require.cond required) in
    let total = read.require.total in
    let cleared : All (λ n. den_of n ∣ read.den) nums = subst (λ (m : ℕ). All (λ n. den_of n ∣ m) nums) (sym total.is) (least_over nums (unsigned_abs c.den) scale.from each).of_nums in
    let parts = split c.states s (λ n. den_of n ∣ read.den) before (condition_numbers t.require.cond) cleared in
    let lines = split c.states s (λ n. den_of n ∣ read.den) (path_numbers c s) (all_numbers c s t.assumes) parts.front in
    let assumes = all_within c.states s read.den total.scale c t.assumes q.assumes refl assumed read.assumes.mean lines.back in
    let required_in = condition_within c.states s read.den total.scale (means_it c.states s t.require.cond q.require read.require.means) required parts.back in
    let same_setting = read.setting in
    let count = assumes.1 in
    record {
      setting_in = subst IsSetting (sym same_setting) set;
      assumes_to = omega arith;
      assumes_in = subst (λ (v : Setting). IsCondition (length c.states) v (conjunction q.assumes)) (sym same_setting) assumes.0;
      require_in = subst (λ (v : Setting). IsCondition (length c.states) v q.require) (sym same_setting) required_in;
    }

pub question_within : (states : ℕ) (q : Question) → IsSeenQuestion states (question_seen q) → IsQuestion states q
question_within states q is =
    let few = is.assumes_to in
    let count : length (question_seen q).assumes ≡ length q.assumes = length-map q.assumes condition_of in
    record { setting_in = is.setting_in; assumes_to = omega arith; assumes_in = is.assumes_in; require_in = is.require_in }
