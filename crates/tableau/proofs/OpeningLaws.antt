-- The tableau that some forms define: the rows one after another, and what is so of all of them.
use Rattle.std.proofs.Common.{◌≡◌, ℕ, ◌+◌, ◌-◌, ◌<◌, ◌≤◌, ◌^◌, ◌↔◌, Bool, true, false, List, [], ◌∷◌, ◌++◌, length, get_or, take, ◌⊎◌, inl, inr, pos, unsigned_abs, refl, sym, ap, subst, ◌∙◌, arith}
use Rattle.std.specs.Global.{Vec}
use Rattle.std.specs.List.{All, Any, Contains}
use Rattle.std.proofs.lemmas.Bool.{true≢false, cases_eq, cases_lt}
use Rattle.std.proofs.lemmas.List.{get_or_append_left, get_or_push, get_or_past, length_push}
use Rattle.std.proofs.lemmas.List.Elements.{All-contains, All-weaker}
use Rattle.ordered_field.specs.Rational.{ℚ, whole, ◌*ℚ◌}
use Rattle.field_rows.specs.Rows.{coefficient, IsRow, row_value, put}
use Rattle.field_rows.specs.declared.row.Entry.{Entry}
use Rattle.field_rows.proofs.RowLaws.{coefficient-none}
use Rattle.field_rows.proofs.SumLaws.{sum_below-same}
use Rattle.field_rows.proofs.RowLaws.{put-same_there}
use Rattle.tableau.specs.Tables.{Table, variables, is_basic, entry, Meets, IsTable}
use Rattle.whole.specs.declared.answers.Op.TheVariants.{Product}
use Rattle.whole.specs.declared.answers.Place.TheVariants.{Bound}
use Rattle.whole.specs.declared.answers.Stuck.{Stuck}
use Rattle.tableau.specs.Terms.{form, coefficient_of, form_value, AreTerms, AreForms, MeetsForms, CoefficientsFit}
use Rattle.tableau.specs.Opening.{IsOpening, IsStuckCoefficient}
use Rattle.tableau.specs.Operations.{IsOperation, IfStuck}
use Rattle.tableau.specs.Layout.{AreBelow, IsGrown, IsLaidOut, IsRowOf, IsOpened, IsStuckNumber, IsStuckTerm}
use Rattle.tableau.specs.declared.fault.PivotFault.{PivotFault}
use Rattle.tableau.specs.declared.terms.RowTerm.{RowTerm}
use Rattle.tableau.proofs.TableLaws.{variables-is, is_basic-is, entry-is, some_listed, entries_below}
use Rattle.tableau.proofs.OperationLaws.{if_stuck}
use Rattle.tableau.proofs.LayoutLaws.{IsRow-none}
use Rattle.tableau.proofs.TermLaws.{form-past, coefficient_of-beyond, coefficient_of-more, form_value-is}

-- ---- one more term

-- with one more term put, a row has the coefficients of one more term
pub more_entries : {F : Type 0} (value : F → ℚ) (n : ℕ) (ts : List RowTerm) (i : ℕ) (t : RowTerm) (row new : List (Entry F)) → AreTerms n ts → i < length ts → t ≡ get_or ts i t → ((v : ℕ) → coefficient value row v ≡ whole (coefficient_of (take i ts) v)) → ((v : ℕ) → coefficient value new v ≡ put t.var (whole t.coef) (coefficient value row) v) → (v : ℕ) → coefficient value new v ≡ whole (coefficient_of (take (i + 1) ts) v)
more_entries value n ts i t row new terms within is so_far step v =
    step v ∙ put-same_there t.var v (whole t.coef) (coefficient value row) (λ u. whole (coefficient_of (take i ts) u)) (so_far v)
    ∙ ap (λ (u : RowTerm). put u.var (whole u.coef) (λ w. whole (coefficient_of (take i ts) w)) v) is
    ∙ sym (coefficient_of-more n ts i t v terms within)

pub stuck_term : (limit v : ℕ) (ts : List RowTerm) (i : ℕ) (t : RowTerm) (fault : PivotFault) → i < length ts → t ≡ get_or ts i t → IfStuck fault (IsStuckNumber limit v t) → IfStuck fault (IsStuckTerm limit v ts)
stuck_term limit v ts i t fault within is stuck =
    if_stuck fault (IsStuckNumber limit v t) (IsStuckTerm limit v ts) (λ s number. record { term = t; listed = (i, within, sym is); number = number }) stuck

pub stuck_coefficient : (limit n : ℕ) (forms : List (Vec RowTerm)) (i v : ℕ) (ts : List RowTerm) (fault : PivotFault) → i < length forms → ts ≡ form forms i → v ≡ n + i → IfStuck fault (IsStuckTerm limit v ts) → IfStuck fault (IsStuckCoefficient limit n forms)
stuck_coefficient limit n forms i v ts fault within terms_are variable_is stuck =
    if_stuck fault (IsStuckTerm limit v ts) (IsStuckCoefficient limit n forms) (λ s found. record {
      row = i;
      within = within;
      term = found.term;
      listed = subst (λ l. Contains l found.term) terms_are found.listed;
      operation = subst (λ b. IsOperation Bound b found.term.var Product (whole found.term.coef) (whole (pos 1)) s) variable_is found.number.operation;
      overflows = found.number.overflows;
    }) stuck

-- the entries of a form's row are at columns
pub row_below : {F : Type 0} (value : F → ℚ) (n m : ℕ) (ts : List RowTerm) (row : List (Entry F)) → IsRowOf value ts row → AreTerms n ts → n ≤ m → All (λ e. e.variable < m) row
row_below value n m ts row made terms within =
    All-weaker (λ e. e.variable < n) (λ e. e.variable < m) (λ e below. omega (arith, below, within)) row
    (entries_below value n row made.is_row (λ v past. made.entries v ∙ ap whole (coefficient_of-beyond n ts v terms past)))

-- ---- one more row

-- no form has a row yet
pub opened_none : {F : Type 0} (limit : ℕ) (value : F → ℚ) (n : ℕ) (forms : List (Vec RowTerm)) (basic : List Bool) (rows : List (List (Entry F))) (users : List (List ℕ)) → length basic ≡ n → ((v : ℕ) → get_or basic v false ≡ false) → length rows ≡ n → ((v : ℕ) → get_or rows v [] ≡ []) → length users ≡ n + length forms → ((v : ℕ) → get_or users v [] ≡ []) → IsOpened limit value n forms 0 basic rows users
opened_none limit value n forms basic rows users flags none lists empty names unnamed = record {
  flag_count = omega (arith, flags);
  row_count = omega (arith, lists);
  user_count = names;
  column_flags = λ v column. none v;
  row_flags = λ j inside. absurd (omega arith);
  columns = λ v column. empty v;
  each = λ j inside. absurd (omega arith);
  below = λ v. subst (λ l. All (λ b. b < n + length forms) l) (sym (unnamed v)) (λ k d inside. absurd (omega arith));
  named = λ j v inside some. absurd (omega arith);
  fits = λ j inside. absurd (omega arith);
}

pub opened_more : {F : Type 0} (limit : ℕ) (value : F → ℚ) (n : ℕ) (forms : List (Vec RowTerm)) (k : ℕ) (basic : List Bool) (rows : List (List (Entry F))) (users users' : List (List ℕ)) (row : List (Entry F)) → IsOpened limit value n forms k basic rows users → IsRowOf value (form forms k) row → All (λ t. unsigned_abs t.coef ≤ limit) (form forms k) → IsGrown users users' → AreBelow (n + length forms) users' → All (λ e. Contains (get_or users' e.variable []) (n + k)) row → IsOpened limit value n forms (k + 1) (basic ++ true ∷ []) (rows ++ row ∷ []) users'
opened_more limit value n forms k basic rows users users' row opened now fit grown below named = record {
  flag_count = length_push basic true ∙ (omega (arith, opened.flag_count));
  row_count = length_push rows row ∙ (omega (arith, opened.row_count));
  user_count = grown.count ∙ opened.user_count;
  column_flags = λ v column.
      get_or_append_left basic (true ∷ []) false v (omega (arith, opened.flag_count)) ∙ opened.column_flags v column;
  row_flags = λ j inside. flag_at j inside (cases_eq j k);
  columns = λ v column.
      get_or_append_left rows (row ∷ []) [] v (omega (arith, opened.row_count)) ∙ opened.columns v column;
  each = λ j inside. each_at j inside (cases_eq j k);
  below = below;
  named = λ j v inside some. named_at j v inside some (cases_eq j k);
  fits = λ j inside. fits_at j inside (cases_eq j k);
}
  where
    flag_at : (j : ℕ) → j < k + 1 → (j ≡ k) ⊎ (j ≡ k → ⊥) → get_or (basic ++ true ∷ []) (n + j) false ≡ true
    flag_at j inside (inl last) = get_or_push basic true false (n + j) (omega (arith, opened.flag_count, last))
    flag_at j inside (inr before) =
        get_or_append_left basic (true ∷ []) false (n + j) (omega (arith, opened.flag_count)) ∙ opened.row_flags j (omega arith)

    last_row : (j : ℕ) → j ≡ k → get_or (rows ++ row ∷ []) (n + j) [] ≡ row
    last_row j last = get_or_push rows row [] (n + j) (omega (arith, opened.row_count, last))

    old_row : (j : ℕ) → j < k + 1 → (j ≡ k → ⊥) → get_or (rows ++ row ∷ []) (n + j) [] ≡ get_or rows (n + j) []
    old_row j inside before = get_or_append_left rows (row ∷ []) [] (n + j) (omega (arith, opened.row_count))

    each_at : (j : ℕ) → j < k + 1 → (j ≡ k) ⊎ (j ≡ k → ⊥) → IsRowOf value (form forms j) (get_or (rows ++ row ∷ []) (n + j) [])
    each_at j inside (inl last) =
        subst (λ i. IsRowOf value (form forms i) (get_or (rows ++ row ∷ []) (n + j) [])) (sym last) (subst (IsRowOf value (form forms k)) (sym (last_row j last)) now)
    each_at j inside (inr before) =
        subst (IsRowOf value (form forms j)) (sym (old_row j inside before)) (opened.each j (omega arith))

    by_listed : (j v : ℕ) → j ≡ k → Any (λ e. e.variable ≡ v) row → Contains (get_or users' v []) (n + j)
    by_listed j v last (i, e, within, is, here) =
        subst (λ m. Contains (get_or users' v []) (n + m)) (sym last) (subst (λ u. Contains (get_or users' u []) (n + k)) here (All-contains (λ e. Contains (get_or users' e.variable []) (n + k)) row e named (i, within, is)))

    named_at : (j v : ℕ) → j < k + 1 → (coefficient value (get_or (rows ++ row ∷ []) (n + j) []) v ≡ whole (pos 0) → ⊥) → (j ≡ k) ⊎ (j ≡ k → ⊥) → Contains (get_or users' v []) (n + j)
    named_at j v inside some (inl last) =
        by_listed j v last (some_listed value row v now.is_row (λ none. some (ap (λ r. coefficient value r v) (last_row j last) ∙ none)))
    named_at j v inside some (inr before) =
        grown.kept v (n + j) (opened.named j v (omega arith) (λ none. some (ap (λ r. coefficient value r v) (old_row j inside before) ∙ none)))

    fits_at : (j : ℕ) → j < k + 1 → (j ≡ k) ⊎ (j ≡ k → ⊥) → All (λ t. unsigned_abs t.coef ≤ limit) (form forms j)
    fits_at j inside (inl last) = subst (λ i. All (λ t. unsigned_abs t.coef ≤ limit) (form forms i)) (sym last) fit
    fits_at j inside (inr before) = opened.fits j (omega arith)

-- ---- all rows

module _ {F : Type 0} (limit : ℕ) (value : F → ℚ) (n : ℕ) (forms : List (Vec RowTerm)) (t : Table F) (users : List (List ℕ)) (opened : IsOpened limit value n forms (length forms) t.basic t.rows users) (columns : t.columns ≡ n) (terms : AreForms n forms) (few : n + length forms < 2 ^ 32) where
  count : variables t ≡ n + length forms
  count = variables-is t ∙ opened.row_count

  -- a variable is a column, that of a form, or none
  cases_of : (b : ℕ) → (b < n) ⊎ (((j : ℕ) × (j < length forms) × (n + j ≡ b)) ⊎ (variables t ≤ b))
  cases_of b = by_column (cases_lt b n) (cases_lt b (n + length forms))
    where
      by_column : (b < n) ⊎ (n ≤ b) → (b < n + length forms) ⊎ (n + length forms ≤ b) → (b < n) ⊎ (((j : ℕ) × (j < length forms) × (n + j ≡ b)) ⊎ (variables t ≤ b))
      by_column (inl column) rest = inl column
      by_column (inr above) (inl below) = inr (inl (b - n, omega arith, omega arith))
      by_column (inr above) (inr beyond) = inr (inr (omega (arith, count)))

  pub flag_column : (v : ℕ) → v < n → is_basic t v ≡ false
  flag_column v column = is_basic-is t v ∙ opened.column_flags v column

  pub flag_row : (j : ℕ) → j < length forms → is_basic t (n + j) ≡ true
  flag_row j inside = is_basic-is t (n + j) ∙ opened.row_flags j inside

  flag_beyond : (v : ℕ) → variables t ≤ v → is_basic t v ≡ false
  flag_beyond v beyond =
      is_basic-is t v ∙ get_or_past t.basic v false (omega (arith, opened.flag_count, count))

  column_entry : (b v : ℕ) → b < n → entry value t b v ≡ whole (pos 0)
  column_entry b v column =
      entry-is value t b v ∙ ap (λ r. coefficient value r v) (opened.columns b column) ∙ coefficient-none value v

  beyond_row : (b : ℕ) → variables t ≤ b → get_or t.rows b [] ≡ []
  beyond_row b beyond = get_or_past t.rows b [] (omega (arith, opened.row_count, count))

  beyond_entry : (b v : ℕ) → variables t ≤ b → entry value t b v ≡ whole (pos 0)
  beyond_entry b v beyond =
      entry-is value t b v ∙ ap (λ r. coefficient value r v) (beyond_row b beyond) ∙ coefficient-none value v

  pub row_entry : (j v : ℕ) → j < length forms → entry value t (n + j) v ≡ whole (coefficient_of (form forms j) v)
  row_entry j v inside = entry-is value t (n + j) v ∙ (opened.each j inside).entries v

  -- no row has a variable that isn't a column
  past_columns : (b v : ℕ) → n ≤ v → entry value t b v ≡ whole (pos 0)
  past_columns b v past = by_case (cases_of b)
    where
      by_case : (b < n) ⊎ (((j : ℕ) × (j < length forms) × (n + j ≡ b)) ⊎ (variables t ≤ b)) → entry value t b v ≡ whole (pos 0)
      by_case (inl column) = column_entry b v column
      by_case (inr (inl (j, inside, is))) =
          ap (λ r. entry value t r v) (sym is) ∙ row_entry j v inside
          ∙ ap whole (coefficient_of-beyond n (form forms j) v (terms j) past)
      by_case (inr (inr beyond)) = beyond_entry b v beyond

  basic_in : (v : ℕ) → is_basic t v ≡ true → (n ≤ v) × (v < variables t)
  basic_in v is = by_case (cases_of v)
    where
      by_case : (v < n) ⊎ (((j : ℕ) × (j < length forms) × (n + j ≡ v)) ⊎ (variables t ≤ v)) → (n ≤ v) × (v < variables t)
      by_case (inl column) = absurd (true≢false (sym is ∙ flag_column v column))
      by_case (inr (inl (j, inside, at))) = (omega arith, omega (arith, count))
      by_case (inr (inr beyond)) = absurd (true≢false (sym is ∙ flag_beyond v beyond))

  not_basic : (b v : ℕ) → is_basic t b ≡ false → entry value t b v ≡ whole (pos 0)
  not_basic b v not = by_case (cases_of b)
    where
      by_case : (b < n) ⊎ (((j : ℕ) × (j < length forms) × (n + j ≡ b)) ⊎ (variables t ≤ b)) → entry value t b v ≡ whole (pos 0)
      by_case (inl column) = column_entry b v column
      by_case (inr (inl (j, inside, is))) =
          absurd (true≢false (sym (flag_row j inside) ∙ ap (is_basic t) is ∙ not))
      by_case (inr (inr beyond)) = beyond_entry b v beyond

  opened_table : IsTable value t
  opened_table = record {
    few = omega (arith, count, few);
    columns = omega (arith, count, columns);
    basic = λ v is. (basic_in v is).1;
    of_basic = not_basic;
    at_basic = λ b v is. past_columns b v (basic_in v is).0;
    beyond = λ b v beyond. past_columns b v (omega (arith, count, beyond));
  }

  opened_row : (b : ℕ) → IsRow value (get_or t.rows b [])
  opened_row b = by_case (cases_of b)
    where
      by_case : (b < n) ⊎ (((j : ℕ) × (j < length forms) × (n + j ≡ b)) ⊎ (variables t ≤ b)) → IsRow value (get_or t.rows b [])
      by_case (inl column) = subst (IsRow value) (sym (opened.columns b column)) (IsRow-none value)
      by_case (inr (inl (j, inside, is))) = subst (λ r. IsRow value (get_or t.rows r [])) is (opened.each j inside).is_row
      by_case (inr (inr beyond)) = subst (IsRow value) (sym (beyond_row b beyond)) (IsRow-none value)

  opened_name : (b v : ℕ) → (entry value t b v ≡ whole (pos 0) → ⊥) → Contains (get_or users v []) b
  opened_name b v some = by_case (cases_of b)
    where
      by_case : (b < n) ⊎ (((j : ℕ) × (j < length forms) × (n + j ≡ b)) ⊎ (variables t ≤ b)) → Contains (get_or users v []) b
      by_case (inl column) = absurd (some (column_entry b v column))
      by_case (inr (inl (j, inside, is))) =
          subst (Contains (get_or users v [])) is (opened.named j v inside (λ none. some (ap (λ r. entry value t r v) (sym is) ∙ entry-is value t (n + j) v ∙ none)))
      by_case (inr (inr beyond)) = absurd (some (beyond_entry b v beyond))

  pub opened_laid_out : IsLaidOut value t users
  opened_laid_out = record {
    table = opened_table;
    basic = opened.flag_count ∙ sym count;
    rows = opened_row;
    names = record {
      count = opened.user_count ∙ sym count;
      within = subst (λ m. AreBelow m users) (sym count) opened.below;
      named = opened_name;
    };
  }

  pub opened_opening : IsOpening value n forms t
  opened_opening = record {
    columns = columns;
    count = count;
    non_basic = flag_column;
    basic = flag_row;
    entries = row_entry;
  }

  -- the value of a form's row is that of the form
  value_of : (j : ℕ) (x : ℕ → ℚ) → j < length forms → row_value (variables t) (entry value t (n + j)) x ≡ form_value (form forms j) x
  value_of j x inside =
      sum_below-same (variables t) (λ v. entry value t (n + j) v *ℚ x v) (λ v. whole (coefficient_of (form forms j) v) *ℚ x v) (λ v below. ap (λ c. c *ℚ x v) (row_entry j v inside))
      ∙ form_value-is n (variables t) (form forms j) x (terms j) (omega (arith, count))

  pub opened_meets : (x : ℕ → ℚ) → Meets value t x ↔ MeetsForms n forms x
  unfolding Meets MeetsForms
  opened_meets x = (
    λ meets j inside. meets (n + j) (flag_row j inside) ∙ value_of j x inside,
    λ meets b is. by_case meets b is (cases_of b),
  )
    where
      by_case : ((j : ℕ) → j < length forms → x (n + j) ≡ form_value (form forms j) x) → (b : ℕ) → is_basic t b ≡ true → (b < n) ⊎ (((j : ℕ) × (j < length forms) × (n + j ≡ b)) ⊎ (variables t ≤ b)) → x b ≡ row_value (variables t) (entry value t b) x
      by_case meets b is (inl column) = absurd (true≢false (sym is ∙ flag_column b column))
      by_case meets b is (inr (inl (j, inside, at))) =
          subst (λ r. x r ≡ row_value (variables t) (entry value t r) x) at (meets j inside ∙ sym (value_of j x inside))
      by_case meets b is (inr (inr beyond)) = absurd (true≢false (sym is ∙ flag_beyond b beyond))

-- no coefficient of a form exceeds the limit
pub opened_fits : {F : Type 0} (limit : ℕ) (value : F → ℚ) (n : ℕ) (forms : List (Vec RowTerm)) (basic : List Bool) (rows : List (List (Entry F))) (users : List (List ℕ)) → IsOpened limit value n forms (length forms) basic rows users → CoefficientsFit limit forms
opened_fits limit value n forms basic rows users opened = λ j. by_place j (cases_lt j (length forms))
  where
    by_place : (j : ℕ) → (j < length forms) ⊎ (length forms ≤ j) → All (λ t. unsigned_abs t.coef ≤ limit) (form forms j)
    by_place j (inl inside) = opened.fits j inside
    by_place j (inr past) =
        subst (λ l. All (λ t. unsigned_abs t.coef ≤ limit) l) (sym (form-past forms j past)) (λ k d inside. absurd (omega arith))
