-- The lists of a tableau after an exchange.
use Rattle.std.proofs.Common.{◌≡◌, ℕ, ◌<◌, ◌≤◌, List, [], length, get_or, set, ◌⊎◌, inl, inr, true, false, pos, refl, sym, ap, subst, ◌∙◌, arith, get_or-set_same, get_or-set_other, lit≤}
use Rattle.std.specs.List.{All, Any, Contains}
use Rattle.std.proofs.lemmas.List.{length-set}
use Rattle.std.proofs.lemmas.List.Elements.{All-nil, All-weaker, All-contains}
use Rattle.std.proofs.lemmas.Bool.{cases_eq}
use Rattle.ordered_field.specs.Rational.{ℚ, whole, ◌*ℚ◌}
use Rattle.ordered_field.specs.Wideness.{Exceeds, SumIsWide, FmaIsWide}
use Rattle.ordered_field.proofs.RingLaws.{zero-*ℚ}
use Rattle.field_rows.specs.Rows.{coefficient, IsRow, without, AreQuotients, IsSubstituted, SomeQuotientIsWide, SomeEntryIsWide}
use Rattle.field_rows.specs.Zeros.{ZeroFits}
use Rattle.field_rows.specs.declared.row.Entry.{Entry}
use Rattle.field_rows.proofs.RowLaws.{coefficient-none}
use Rattle.field_rows.proofs.SumLaws.{same_or_apart, put-here, put-elsewhere}
use Rattle.field_rows.proofs.ZeroLaws.{zero_exceeds_not, zero_itself_fits}
use Rattle.tableau.specs.Tables.{Table, variables, is_basic, entry, IsTable}
use Rattle.tableau.specs.Exchange.{IsExchanged, ExchangeFits}
use Rattle.tableau.specs.Layout.{IsNamed, IsLaidOut, IsGrown, AreBelow, IsFollowed, IsVisited, IsFormed, placed, exchanged_rows, exchanged_flags}
use Rattle.tableau.specs.declared.exchange.Followed.{Followed}
use Rattle.tableau.proofs.TableLaws.{variables-is, is_basic-is, entry-is, entry-row, entries_below, zero_or_not, some_listed, number_or_none}
use Rattle.tableau.proofs.PlacedLaws.{length-placed, placed_cases}
use Rattle.tableau.proofs.ExchangeLaws.{Exchangeable, exchangeable, exchanged_table, substituted_none, substituted_same, without_none, quotient_none}

-- what is known of a tableau, and of the rows formed aside that were put in place
pub record Put {F : Type 0} (limit : ℕ) (value : F → ℚ) (b o : ℕ) (old new : Table F) (users : List (List ℕ)) (s : List (Entry F)) (fs : List (Followed F)) : Type 0 where
  pub laid : IsLaidOut value old users
  pub some : entry value old b o ≡ whole (pos 0) → ⊥
  pub formed : IsFormed limit value b o old.rows (get_or users o []) s fs
  pub columns : new.columns ≡ old.columns
  pub flags : new.basic ≡ exchanged_flags b o old.basic
  pub rows : new.rows ≡ exchanged_rows b o old.rows s fs

pub IsRow-none : {F : Type 0} (value : F → ℚ) → IsRow value []
unfolding IsRow
IsRow-none value = tt

-- the entries of the solved row are of variables of the tableau
pub solved_below : {F : Type 0} (value : F → ℚ) (b o : ℕ) (t : Table F) (s : List (Entry F)) → IsTable value t → (entry value t b o ≡ whole (pos 0) → ⊥) → IsRow value s → AreQuotients b o (entry value t b) (coefficient value s) → All (λ e. e.variable < variables t) s
solved_below value b o t s table some is_row quotients =
    let two : Exchangeable t b o = exchangeable value t b o table some in
    entries_below value (variables t) s is_row (λ v beyond.
    quotient_none b o v (entry value t b) (coefficient value s) some quotients (λ same. absurd (omega (arith, two.basic_in))) (λ same. absurd (omega (arith, two.other_in))) (table.beyond b v beyond))

module _ {F : Type 0} (limit : ℕ) (value : F → ℚ) (b o : ℕ) (old new : Table F) (users : List (List ℕ)) (s : List (Entry F)) (fs : List (Followed F)) (put : Put limit value b o old new users s fs) where
  two : Exchangeable old b o
  two = exchangeable value old b o put.laid.table put.some

  basic_in : b < length old.rows
  basic_in = subst (λ n. b < n) (variables-is old) two.basic_in

  other_in : o < length old.rows
  other_in = subst (λ n. o < n) (variables-is old) two.other_in

  inside : All (λ f. f.variable < length old.rows) fs
  inside = All-weaker (IsFollowed limit value b o old.rows (coefficient value s)) (λ f. f.variable < length old.rows) (λ f p. p.within) fs put.formed.each

  -- ---- rows

  count : variables new ≡ variables old
  unfolding exchanged_rows
  count =
      variables-is new ∙ ap length put.rows ∙ length-set (set (placed old.rows fs) b []) o s ∙ length-set (placed old.rows fs) b []
      ∙ length-placed old.rows fs ∙ sym (variables-is old)

  row_entering : get_or new.rows o [] ≡ s
  unfolding exchanged_rows
  row_entering =
      ap (λ r. get_or r o []) put.rows
      ∙ get_or-set_same (set (placed old.rows fs) b []) o s [] (subst (λ n. o < n) (sym (length-set (placed old.rows fs) b [] ∙ length-placed old.rows fs)) other_in)

  row_leaving : get_or new.rows b [] ≡ []
  unfolding exchanged_rows
  row_leaving =
      ap (λ r. get_or r b []) put.rows
      ∙ get_or-set_other (set (placed old.rows fs) b []) o b s [] (λ same. two.differ (sym same))
      ∙ get_or-set_same (placed old.rows fs) b [] [] (subst (λ n. b < n) (sym (length-placed old.rows fs)) basic_in)

  row_other : (r : ℕ) → (r ≡ b → ⊥) → (r ≡ o → ⊥) → get_or new.rows r [] ≡ get_or (placed old.rows fs) r []
  unfolding exchanged_rows
  row_other r not_b not_o =
      ap (λ l. get_or l r []) put.rows ∙ get_or-set_other (set (placed old.rows fs) b []) o r s [] not_o
      ∙ get_or-set_other (placed old.rows fs) b r [] [] not_b

  entering_entries : entry value new o ≡ coefficient value s
  entering_entries = entry-row value new o ∙ ap (coefficient value) row_entering

  leaving_entries : (v : ℕ) → entry value new b v ≡ whole (pos 0)
  leaving_entries v =
      entry-is value new b v ∙ ap (λ r. coefficient value r v) row_leaving ∙ coefficient-none value v

  -- ---- which variables are basic

  flag_entering : is_basic new o ≡ true
  unfolding exchanged_flags
  flag_entering =
      is_basic-is new o ∙ ap (λ l. get_or l o false) put.flags
      ∙ get_or-set_same (set old.basic b false) o true false (subst (λ n. o < n) (sym (length-set old.basic b false ∙ put.laid.basic)) two.other_in)

  flag_leaving : is_basic new b ≡ false
  unfolding exchanged_flags
  flag_leaving =
      is_basic-is new b ∙ ap (λ l. get_or l b false) put.flags
      ∙ get_or-set_other (set old.basic b false) o b true false (λ same. two.differ (sym same))
      ∙ get_or-set_same old.basic b false false (subst (λ n. b < n) (sym put.laid.basic) two.basic_in)

  flag_other : (v : ℕ) → (v ≡ b → ⊥) → (v ≡ o → ⊥) → is_basic new v ≡ is_basic old v
  unfolding exchanged_flags
  flag_other v not_b not_o =
      is_basic-is new v ∙ ap (λ l. get_or l v false) put.flags
      ∙ get_or-set_other (set old.basic b false) o v true false not_o ∙ get_or-set_other old.basic b v false false not_b
      ∙ sym (is_basic-is old v)

  flag_count : length new.basic ≡ variables new
  unfolding exchanged_flags
  flag_count =
      ap length put.flags ∙ length-set (set old.basic b false) o true ∙ length-set old.basic b false ∙ put.laid.basic ∙ sym count

  -- ---- rows that follow

  -- a row that wasn't formed hasn't o
  lacks : (r : ℕ) → (r ≡ b → ⊥) → (Any (λ f. f.variable ≡ r) fs → ⊥) → entry value old r o ≡ whole (pos 0)
  lacks r not_b none =
      by_case (zero_or_not value (get_or old.rows r []) o (put.laid.rows r))
    where
      by_case : (coefficient value (get_or old.rows r []) o ≡ whole (pos 0)) ⊎ (coefficient value (get_or old.rows r []) o ≡ whole (pos 0) → ⊥) → entry value old r o ≡ whole (pos 0)
      by_case (inl zero) = entry-is value old r o ∙ zero
      by_case (inr some) =
          absurd (none (All-contains (IsVisited value b o old.rows fs) (get_or users o []) r put.formed.all (put.laid.names.named r o (λ zero. some (sym (entry-is value old r o) ∙ zero))) not_b some))

  -- what was formed for a row
  formed_at : (r : ℕ) (f : Followed F) → Contains fs f → f.variable ≡ r → IsFollowed limit value b o old.rows (coefficient value s) f
  formed_at r f listed here =
      All-contains (IsFollowed limit value b o old.rows (coefficient value s)) fs f put.formed.each listed

  old_entries : (r : ℕ) (f : Followed F) → f.variable ≡ r → coefficient value (get_or old.rows f.variable []) ≡ entry value old r
  old_entries r f here =
      ap (λ k. coefficient value (get_or old.rows k [])) here ∙ sym (entry-row value old r)

  follow : (r : ℕ) → (r ≡ b → ⊥) → (r ≡ o → ⊥) → IsSubstituted o (entry value new o) (entry value old r) (entry value new r)
  follow r not_b not_o = by_case (placed_cases old.rows fs r inside)
    where
      by_case : ((Any (λ f. f.variable ≡ r) fs → ⊥) × (get_or (placed old.rows fs) r [] ≡ get_or old.rows r [])) ⊎ Any (λ f. (f.variable ≡ r) × (get_or (placed old.rows fs) r [] ≡ f.row)) fs → IsSubstituted o (entry value new o) (entry value old r) (entry value new r)
      by_case (inl none) = λ k.
          let same : entry value new r ≡ entry value old r = entry-row value new r ∙ ap (coefficient value) (row_other r not_b not_o ∙ none.1) ∙ sym (entry-row value old r) in
          ap (λ c. c k) same ∙ substituted_same o k (entry value new o) (entry value old r) (lacks r not_b none.0)
      by_case (inr (k, f, within, is, p)) =
          let new_entries : coefficient value f.row ≡ entry value new r = ap (coefficient value) (sym (row_other r not_b not_o ∙ p.1)) ∙ sym (entry-row value new r) in
          subst (λ d. IsSubstituted o d (entry value old r) (entry value new r)) (sym entering_entries)
          (subst (λ c. IsSubstituted o (coefficient value s) c (entry value new r)) (old_entries r f p.0)
          (subst (λ c. IsSubstituted o (coefficient value s) (coefficient value (get_or old.rows f.variable [])) c) new_entries (formed_at r f (k, within, is) p.0).substituted))

  pub put_exchanges : IsExchanged value b o old new
  put_exchanges = record {
    columns = put.columns;
    count = count;
    leaving = flag_leaving;
    entering = flag_entering;
    others = flag_other;
    left = leaving_entries;
    solved = subst (AreQuotients b o (entry value old b)) (sym entering_entries) (subst (λ c. AreQuotients b o c (coefficient value s)) (sym (entry-row value old b)) put.formed.quotients);
    followed = follow;
  }

  -- ---- what is too wide

  no_step : (c d : ℕ → ℚ) → 1 ≤ limit → ((k : ℕ) → ZeroFits limit (without o c k)) → c o ≡ whole (pos 0) → SomeEntryIsWide limit o d c → ⊥
  no_step c d some fits none (k, inl wide) =
      zero_exceeds_not limit some (subst (λ x. Exceeds limit x) (ap (λ x. x *ℚ d k) none ∙ zero-*ℚ (d k)) wide)
  no_step c d some fits none (k, inr wide) =
      (fits k).right_sum (subst (λ x. SumIsWide limit (without o c k) x) (ap (λ x. x *ℚ d k) none ∙ zero-*ℚ (d k)) wide)

  fits_without : 1 ≤ limit → ((x : F) → ZeroFits limit (value x)) → (r k : ℕ) → ZeroFits limit (without o (entry value old r) k)
  fits_without some fits r k =
      by_place (cases_eq k o) (number_or_none value (get_or old.rows r []) k)
    where
      by_place : (k ≡ o) ⊎ (k ≡ o → ⊥) → (coefficient value (get_or old.rows r []) k ≡ whole (pos 0)) ⊎ ((x : F) × (coefficient value (get_or old.rows r []) k ≡ value x)) → ZeroFits limit (without o (entry value old r) k)
      by_place (inl here) number =
          subst (ZeroFits limit) (sym (put-here o k _ (entry value old r) here)) (zero_itself_fits limit some)
      by_place (inr apart) (inl none) =
          subst (ZeroFits limit) (sym (put-elsewhere o k _ (entry value old r) apart ∙ entry-is value old r k ∙ none)) (zero_itself_fits limit some)
      by_place (inr apart) (inr (x, is)) =
          subst (ZeroFits limit) (sym (put-elsewhere o k _ (entry value old r) apart ∙ entry-is value old r k ∙ is)) (fits x)

  pub put_fits : 1 ≤ limit → ((x : F) → ZeroFits limit (value x)) → ExchangeFits limit value b o old new
  put_fits some fits = record {
    quotients = subst (λ c. SomeQuotientIsWide limit b o c → ⊥) (sym (entry-row value old b)) put.formed.fits;
    entries = λ r basic not_b. by_case r not_b (placed_cases old.rows fs r inside);
  }
    where
      by_case : (r : ℕ) → (r ≡ b → ⊥) → ((Any (λ f. f.variable ≡ r) fs → ⊥) × (get_or (placed old.rows fs) r [] ≡ get_or old.rows r [])) ⊎ Any (λ f. (f.variable ≡ r) × (get_or (placed old.rows fs) r [] ≡ f.row)) fs → SomeEntryIsWide limit o (entry value new o) (entry value old r) → ⊥
      by_case r not_b (inl none) =
          no_step (entry value old r) (entry value new o) some (fits_without some fits r) (lacks r not_b none.0)
      by_case r not_b (inr (k, f, within, is, p)) =
          subst (λ d. SomeEntryIsWide limit o d (entry value old r) → ⊥) (sym entering_entries)
          (subst (λ c. SomeEntryIsWide limit o (coefficient value s) c → ⊥) (old_entries r f p.0) (formed_at r f (k, within, is) p.0).fits)

  -- ---- the lists

  rows_after : (r : ℕ) → IsRow value (get_or new.rows r [])
  rows_after r = by_row (cases_eq r b) (cases_eq r o)
    where
      by_case : (r ≡ b → ⊥) → (r ≡ o → ⊥) → ((Any (λ f. f.variable ≡ r) fs → ⊥) × (get_or (placed old.rows fs) r [] ≡ get_or old.rows r [])) ⊎ Any (λ f. (f.variable ≡ r) × (get_or (placed old.rows fs) r [] ≡ f.row)) fs → IsRow value (get_or new.rows r [])
      by_case not_b not_o (inl none) =
          subst (IsRow value) (sym (row_other r not_b not_o ∙ none.1)) (put.laid.rows r)
      by_case not_b not_o (inr (k, f, within, is, p)) =
          subst (IsRow value) (sym (row_other r not_b not_o ∙ p.1)) (formed_at r f (k, within, is) p.0).is_row

      by_row : (r ≡ b) ⊎ (r ≡ b → ⊥) → (r ≡ o) ⊎ (r ≡ o → ⊥) → IsRow value (get_or new.rows r [])
      by_row (inl leaving) at_o =
          subst (IsRow value) (sym (ap (λ k. get_or new.rows k []) leaving ∙ row_leaving)) (IsRow-none value)
      by_row (inr stays) (inl entering) =
          subst (IsRow value) (sym (ap (λ k. get_or new.rows k []) entering ∙ row_entering)) put.formed.is_row
      by_row (inr stays) (inr other) = by_case stays other (placed_cases old.rows fs r inside)

  module _ (users' : List (List ℕ)) (grown : IsGrown users users') (below : AreBelow (variables old) users') (own : All (λ e. Contains (get_or users' e.variable []) o) s) (each : All (λ f. All (λ e. Contains (get_or users' e.variable []) f.variable) s) fs) where
    -- a name at the solved row's variables
    named_at : (name v : ℕ) → All (λ e. Contains (get_or users' e.variable []) name) s → (coefficient value s v ≡ whole (pos 0) → ⊥) → Contains (get_or users' v []) name
    named_at name v all some = by_case (some_listed value s v put.formed.is_row some)
      where
        by_case : Any (λ e. e.variable ≡ v) s → Contains (get_or users' v []) name
        by_case (k, e, within, is, here) =
            subst (λ u. Contains (get_or users' u []) name) here (All-contains (λ e. Contains (get_or users' e.variable []) name) s e all (k, within, is))

    names_after : (r v : ℕ) → (entry value new r v ≡ whole (pos 0) → ⊥) → Contains (get_or users' v []) r
    names_after r v some = by_row (cases_eq r b) (cases_eq r o)
      where
        still : (entry value old r v ≡ whole (pos 0) → ⊥) → Contains (get_or users' v []) r
        still was = grown.kept v r (put.laid.names.named r v was)

        by_added : (r ≡ b → ⊥) → (r ≡ o → ⊥) → (f : Followed F) → Contains fs f → f.variable ≡ r → (coefficient value s v ≡ whole (pos 0)) ⊎ (coefficient value s v ≡ whole (pos 0) → ⊥) → Contains (get_or users' v []) r
        by_added not_b not_o f listed here (inl none) =
            still (λ zero. some (substituted_none o v (entry value new o) (entry value old r) (entry value new r) (follow r not_b not_o) (without_none o v (entry value old r) zero) (ap (λ c. c v) entering_entries ∙ none)))
        by_added not_b not_o f listed here (inr added) =
            subst (Contains (get_or users' v [])) here (named_at f.variable v (All-contains (λ f. All (λ e. Contains (get_or users' e.variable []) f.variable) s) fs f each listed) added)

        by_case : (r ≡ b → ⊥) → (r ≡ o → ⊥) → ((Any (λ f. f.variable ≡ r) fs → ⊥) × (get_or (placed old.rows fs) r [] ≡ get_or old.rows r [])) ⊎ Any (λ f. (f.variable ≡ r) × (get_or (placed old.rows fs) r [] ≡ f.row)) fs → Contains (get_or users' v []) r
        by_case not_b not_o (inl none) =
            still (λ zero. some (entry-is value new r v ∙ ap (λ l. coefficient value l v) (row_other r not_b not_o ∙ none.1) ∙ sym (entry-is value old r v) ∙ zero))
        by_case not_b not_o (inr (k, f, within, is, p)) =
            by_added not_b not_o f (k, within, is) p.0 (zero_or_not value s v put.formed.is_row)

        by_row : (r ≡ b) ⊎ (r ≡ b → ⊥) → (r ≡ o) ⊎ (r ≡ o → ⊥) → Contains (get_or users' v []) r
        by_row (inl leaving) at_o =
            absurd (some (ap (λ k. entry value new k v) leaving ∙ leaving_entries v))
        by_row (inr stays) (inl entering) =
            subst (Contains (get_or users' v [])) (sym entering) (named_at o v own (λ none. some (ap (λ k. entry value new k v) entering ∙ ap (λ c. c v) entering_entries ∙ none)))
        by_row (inr stays) (inr other) = by_case stays other (placed_cases old.rows fs r inside)

    pub put_laid_out : IsLaidOut value new users'
    put_laid_out = record {
      table = exchanged_table value b o old new put.laid.table put.some put_exchanges;
      basic = flag_count;
      rows = rows_after;
      names = record {
        count = grown.count ∙ put.laid.names.count ∙ sym count;
        within = λ v. subst (λ n. All (λ k. k < n) (get_or users' v [])) (sym count) (below v);
        named = names_after;
      };
    }

-- no row has a basic variable, so the names at it may go
pub forgotten : {F : Type 0} (value : F → ℚ) (t : Table F) (users : List (List ℕ)) (o : ℕ) → is_basic t o ≡ true → IsLaidOut value t users → IsLaidOut value t (set users o [])
forgotten value t users o basic laid = record {
  table = laid.table;
  basic = laid.basic;
  rows = laid.rows;
  names = record {
    count = length-set users o [] ∙ laid.names.count;
    within = λ v. all_below v (same_or_apart o v);
    named = λ b v some. still_named b v some (same_or_apart o v);
  };
}
  where
    inside : o < length users
    inside = subst (λ n. o < n) (sym laid.names.count) (laid.table.basic o basic)

    all_below : (v : ℕ) → (v ≡ o) ⊎ (v ≡ o → ⊥) → All (λ b. b < variables t) (get_or (set users o []) v [])
    all_below v (inl same) = subst (λ ns. All (λ b. b < variables t) ns) (sym (ap (λ k. get_or (set users o []) k []) same ∙ get_or-set_same users o [] [] inside)) (All-nil (λ b. b < variables t))
    all_below v (inr apart) = subst (λ ns. All (λ b. b < variables t) ns) (sym (get_or-set_other users o v [] [] apart)) (laid.names.within v)

    still_named : (b v : ℕ) → (entry value t b v ≡ whole (pos 0) → ⊥) → (v ≡ o) ⊎ (v ≡ o → ⊥) → Contains (get_or (set users o []) v []) b
    still_named b v some (inl same) = absurd (some (laid.table.at_basic b v (subst (λ k. is_basic t k ≡ true) (sym same) basic)))
    still_named b v some (inr apart) = subst (λ ns. Contains ns b) (sym (get_or-set_other users o v [] [] apart)) (laid.names.named b v some)

-- names alone may be added
pub names_grown : {F : Type 0} (value : F → ℚ) (t : Table F) (users users' : List (List ℕ)) → IsLaidOut value t users → IsGrown users users' → AreBelow (variables t) users' → IsLaidOut value t users'
names_grown value t users users' laid grown below = record {
  table = laid.table;
  basic = laid.basic;
  rows = laid.rows;
  names = record {
    count = grown.count ∙ laid.names.count;
    within = below;
    named = λ b v some. grown.kept v b (laid.names.named b v some);
  };
}
