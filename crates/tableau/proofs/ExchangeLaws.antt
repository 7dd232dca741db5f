-- What an exchange makes of a table, and that the same vectors meet its rows.
use Rattle.std.proofs.Common.{◌≡◌, ℕ, ◌<◌, ◌≤◌, ◌↔◌, ◌⊎◌, inl, inr, true, false, pos, refl, sym, ap, subst, ◌∙◌, arith}
use Rattle.std.proofs.lemmas.Bool.{true≢false, cases_eq, cases_lt, cases_Bool, true_from_ne_false}
use Rattle.ordered_field.specs.Rational.{ℚ, whole, ◌+ℚ◌, ◌*ℚ◌, neg_ℚ}
use Rattle.ordered_field.proofs.RingLaws.{zero-*ℚ, zero-+ℚ, +ℚ-zero}
use Rattle.ordered_field.proofs.OrderFacts.{neg_ℚ-zero}
use Rattle.ordered_field.proofs.FieldLaws.{*ℚ_cancel}
use Rattle.field_rows.specs.Rows.{row_value, dividend, without, AreQuotients, IsSubstituted}
use Rattle.field_rows.proofs.SumLaws.{put-here, put-elsewhere}
use Rattle.field_rows.proofs.OperationLaws.{added_nothing}
use Rattle.field_rows.proofs.PivotLaws.{quotients_solve, substituted_follows}
use Rattle.tableau.specs.Tables.{Table, variables, is_basic, entry, Meets, IsTable}
use Rattle.tableau.specs.Exchange.{IsExchanged}

-- ---- a coefficient of the solved row, and of one that follows

-- where b's row has nothing, the solved row has nothing
pub quotient_none : (b o v : ℕ) (c d : ℕ → ℚ) → (c o ≡ whole (pos 0) → ⊥) → AreQuotients b o c d → (v ≡ b → ⊥) → (v ≡ o → ⊥) → c v ≡ whole (pos 0) → d v ≡ whole (pos 0)
quotient_none b o v c d some divides not_b not_o none =
    *ℚ_cancel (d v) (whole (pos 0)) (c o) some
    (divides v ∙ put-elsewhere b v _ _ not_b ∙ put-elsewhere o v _ _ not_o ∙ ap neg_ℚ none ∙ neg_ℚ-zero ∙ sym (zero-*ℚ (c o)))

-- nor has it the variable that it is solved for
pub quotient_own : (b o : ℕ) (c d : ℕ → ℚ) → (c o ≡ whole (pos 0) → ⊥) → AreQuotients b o c d → (o ≡ b → ⊥) → d o ≡ whole (pos 0)
quotient_own b o c d some divides differ =
    *ℚ_cancel (d o) (whole (pos 0)) (c o) some
    (divides o ∙ put-elsewhere b o _ _ differ ∙ put-here o o _ _ refl ∙ sym (zero-*ℚ (c o)))

-- where neither the row nor the solved one has anything, the row that follows has nothing
pub substituted_none : (o v : ℕ) (d c c' : ℕ → ℚ) → IsSubstituted o d c c' → without o c v ≡ whole (pos 0) → d v ≡ whole (pos 0) → c' v ≡ whole (pos 0)
substituted_none o v d c c' entries none added =
    entries v ∙ ap (λ x. without o c v +ℚ c o *ℚ x) added ∙ added_nothing (without o c v) (c o) ∙ none

-- a row without o is its own
pub substituted_same : (o v : ℕ) (d c : ℕ → ℚ) → c o ≡ whole (pos 0) → c v ≡ without o c v +ℚ c o *ℚ d v
substituted_same o v d c none = by_place (cases_eq v o)
  where
    nothing : c o *ℚ d v ≡ whole (pos 0)
    nothing = ap (λ x. x *ℚ d v) none ∙ zero-*ℚ (d v)

    by_place : (v ≡ o) ⊎ (v ≡ o → ⊥) → c v ≡ without o c v +ℚ c o *ℚ d v
    by_place (inl here) =
        ap c here ∙ none ∙ sym (ap (λ x. without o c v +ℚ x) nothing ∙ +ℚ-zero _ ∙ put-here o v _ c here)
    by_place (inr apart) = sym (ap (λ x. without o c v +ℚ x) nothing ∙ +ℚ-zero _ ∙ put-elsewhere o v _ c apart)

pub without_none : (o v : ℕ) (c : ℕ → ℚ) → c v ≡ whole (pos 0) → without o c v ≡ whole (pos 0)
without_none o v c none = by_place (cases_eq v o)
  where
    by_place : (v ≡ o) ⊎ (v ≡ o → ⊥) → without o c v ≡ whole (pos 0)
    by_place (inl here) = put-here o v _ c here
    by_place (inr apart) = put-elsewhere o v _ c apart ∙ none

-- ---- the two variables

-- an entry that isn't zero stands in the row of a basic variable, at one that isn't
pub record Exchangeable {F : Type 0} (t : Table F) (b o : ℕ) : Type 0 where
  pub basic : is_basic t b ≡ true
  pub other : is_basic t o ≡ false
  pub basic_in : b < variables t
  pub other_in : o < variables t
  pub differ : o ≡ b → ⊥

pub exchangeable : {F : Type 0} (value : F → ℚ) (t : Table F) (b o : ℕ) → IsTable value t → (entry value t b o ≡ whole (pos 0) → ⊥) → Exchangeable t b o
exchangeable value t b o table some =
    let basic : is_basic t b ≡ true = true_from_ne_false _ (λ not. some (table.of_basic b o not)) in
    let other : is_basic t o ≡ true → ⊥ = λ is. some (table.at_basic b o is) in
    record {
      basic = basic;
      other = by_bool other (cases_Bool (is_basic t o));
      basic_in = table.basic b basic;
      other_in = by_order (cases_lt o (variables t));
      differ = λ same. other (ap (is_basic t) same ∙ basic);
    }
  where
    by_bool : (is_basic t o ≡ true → ⊥) → (is_basic t o ≡ true) ⊎ (is_basic t o ≡ false) → is_basic t o ≡ false
    by_bool not (inl is) = absurd (not is)
    by_bool not (inr is) = is

    by_order : (o < variables t) ⊎ (variables t ≤ o) → o < variables t
    by_order (inl below) = below
    by_order (inr beyond) = absurd (some (table.beyond b o beyond))

module _ {F : Type 0} (value : F → ℚ) (b o : ℕ) (old new : Table F) (table : IsTable value old) (some : entry value old b o ≡ whole (pos 0) → ⊥) (exchanged : IsExchanged value b o old new) where
  two : Exchangeable old b o
  two = exchangeable value old b o table some

  -- a variable that no row has, and that doesn't change places, no row has afterwards
  quiet : (v : ℕ) → (v ≡ b → ⊥) → (v ≡ o → ⊥) → ((r : ℕ) → entry value old r v ≡ whole (pos 0)) → (r : ℕ) → entry value new r v ≡ whole (pos 0)
  quiet v not_b not_o none r = by_row (cases_eq r b) (cases_eq r o)
    where
      added : entry value new o v ≡ whole (pos 0)
      added = quotient_none b o v (entry value old b) (entry value new o) some exchanged.solved not_b not_o (none b)

      by_row : (r ≡ b) ⊎ (r ≡ b → ⊥) → (r ≡ o) ⊎ (r ≡ o → ⊥) → entry value new r v ≡ whole (pos 0)
      by_row (inl leaving) at_o = ap (λ k. entry value new k v) leaving ∙ exchanged.left v
      by_row (inr stays) (inl entering) = ap (λ k. entry value new k v) entering ∙ added
      by_row (inr stays) (inr other) =
          substituted_none o v (entry value new o) (entry value old r) (entry value new r) (exchanged.followed r stays other) (without_none o v (entry value old r) (none r)) added

  -- no row has the variable that enters
  pub entering_none : (r : ℕ) → entry value new r o ≡ whole (pos 0)
  entering_none r = by_row (cases_eq r b) (cases_eq r o)
    where
      own : entry value new o o ≡ whole (pos 0)
      own = quotient_own b o (entry value old b) (entry value new o) some exchanged.solved two.differ

      by_row : (r ≡ b) ⊎ (r ≡ b → ⊥) → (r ≡ o) ⊎ (r ≡ o → ⊥) → entry value new r o ≡ whole (pos 0)
      by_row (inl leaving) at_o = ap (λ k. entry value new k o) leaving ∙ exchanged.left o
      by_row (inr stays) (inl entering) = ap (λ k. entry value new k o) entering ∙ own
      by_row (inr stays) (inr other) =
          substituted_none o o (entry value new o) (entry value old r) (entry value new r) (exchanged.followed r stays other) (put-here o o _ _ refl) own

  -- a variable that isn't basic afterwards has no row
  of_basic_after : (r v : ℕ) → is_basic new r ≡ false → entry value new r v ≡ whole (pos 0)
  of_basic_after r v not = by_row (cases_eq r b) (cases_eq r o)
    where
      by_row : (r ≡ b) ⊎ (r ≡ b → ⊥) → (r ≡ o) ⊎ (r ≡ o → ⊥) → entry value new r v ≡ whole (pos 0)
      by_row (inl leaving) at_o = ap (λ k. entry value new k v) leaving ∙ exchanged.left v
      by_row (inr stays) (inl entering) =
          absurd (true≢false (sym exchanged.entering ∙ ap (is_basic new) (sym entering) ∙ not))
      by_row (inr stays) (inr other) =
          let was : is_basic old r ≡ false = sym (exchanged.others r stays other) ∙ not in
          exchanged.followed r stays other v
          ∙ sym (substituted_same o v (entry value new o) (entry value old r) (table.of_basic r o was))
          ∙ table.of_basic r v was

  at_basic_after : (r v : ℕ) → is_basic new v ≡ true → entry value new r v ≡ whole (pos 0)
  at_basic_after r v is = by_variable (cases_eq v b) (cases_eq v o)
    where
      by_variable : (v ≡ b) ⊎ (v ≡ b → ⊥) → (v ≡ o) ⊎ (v ≡ o → ⊥) → entry value new r v ≡ whole (pos 0)
      by_variable (inl leaving) at_o =
          absurd (true≢false (sym is ∙ ap (is_basic new) leaving ∙ exchanged.leaving))
      by_variable (inr stays) (inl entering) = ap (entry value new r) entering ∙ entering_none r
      by_variable (inr stays) (inr other) =
          quiet v stays other (λ k. table.at_basic k v (sym (exchanged.others v stays other) ∙ is)) r

  basic_after : (v : ℕ) → is_basic new v ≡ true → v < variables new
  basic_after v is = by_variable (cases_eq v b) (cases_eq v o)
    where
      by_variable : (v ≡ b) ⊎ (v ≡ b → ⊥) → (v ≡ o) ⊎ (v ≡ o → ⊥) → v < variables new
      by_variable (inl leaving) at_o =
          absurd (true≢false (sym is ∙ ap (is_basic new) leaving ∙ exchanged.leaving))
      by_variable (inr stays) (inl entering) = omega (arith, entering, exchanged.count, two.other_in)
      by_variable (inr stays) (inr other) =
          let was : v < variables old = table.basic v (sym (exchanged.others v stays other) ∙ is) in
          omega (arith, was, exchanged.count)

  -- an exchange makes a table of a table
  pub exchanged_table : IsTable value new
  exchanged_table = record {
    few = omega (arith, table.few, exchanged.count);
    columns = omega (arith, table.columns, exchanged.count, exchanged.columns);
    basic = basic_after;
    of_basic = of_basic_after;
    at_basic = at_basic_after;
    beyond = λ r v past.
        let past_old : variables old ≤ v = omega (arith, past, exchanged.count) in
        quiet v (λ same. absurd (omega (arith, two.basic_in))) (λ same. absurd (omega (arith, two.other_in))) (λ k. table.beyond k v past_old) r;
  }

  -- x has the value of b's row at b just where it has that of o's row at o
  solved_both : (x : ℕ → ℚ) → (x b ≡ row_value (variables old) (entry value old b) x) ↔ (x o ≡ row_value (variables old) (entry value new o) x)
  solved_both =
      quotients_solve (variables old) b o (entry value old b) (entry value new o) two.basic_in two.other_in (table.at_basic b b two.basic) some exchanged.solved

  -- where o has the value of its row, a row that follows has its old value
  follows : (x : ℕ → ℚ) (r : ℕ) → (r ≡ b → ⊥) → (r ≡ o → ⊥) → x o ≡ row_value (variables old) (entry value new o) x → row_value (variables old) (entry value new r) x ≡ row_value (variables old) (entry value old r) x
  follows x r not_b not_o is =
      substituted_follows (variables old) o (entry value new o) (entry value old r) (entry value new r) two.other_in (exchanged.followed r not_b not_o) x is

  pub meets_before : (x : ℕ → ℚ) → Meets value new x → Meets value old x
  unfolding Meets
  meets_before x meets r is = by_row (cases_eq r b) (cases_eq r o)
    where
      at_o : x o ≡ row_value (variables old) (entry value new o) x
      at_o = meets o exchanged.entering ∙ ap (λ n. row_value n (entry value new o) x) exchanged.count

      by_row : (r ≡ b) ⊎ (r ≡ b → ⊥) → (r ≡ o) ⊎ (r ≡ o → ⊥) → x r ≡ row_value (variables old) (entry value old r) x
      by_row (inl leaving) other =
          subst (λ k. x k ≡ row_value (variables old) (entry value old k) x) (sym leaving) ((solved_both x).1 at_o)
      by_row (inr stays) (inl entering) =
          absurd (true≢false (sym is ∙ ap (is_basic old) entering ∙ two.other))
      by_row (inr stays) (inr other) =
          meets r (exchanged.others r stays other ∙ is) ∙ ap (λ n. row_value n (entry value new r) x) exchanged.count
          ∙ follows x r stays other at_o

  pub meets_after : (x : ℕ → ℚ) → Meets value old x → Meets value new x
  unfolding Meets
  meets_after x meets r is = by_row (cases_eq r b) (cases_eq r o)
    where
      at_o : x o ≡ row_value (variables old) (entry value new o) x
      at_o = (solved_both x).0 (meets b two.basic)

      by_row : (r ≡ b) ⊎ (r ≡ b → ⊥) → (r ≡ o) ⊎ (r ≡ o → ⊥) → x r ≡ row_value (variables new) (entry value new r) x
      by_row (inl leaving) other =
          absurd (true≢false (sym is ∙ ap (is_basic new) leaving ∙ exchanged.leaving))
      by_row (inr stays) (inl entering) =
          subst (λ k. x k ≡ row_value (variables new) (entry value new k) x) (sym entering) (at_o ∙ ap (λ n. row_value n (entry value new o) x) (sym exchanged.count))
      by_row (inr stays) (inr other) =
          meets r (sym (exchanged.others r stays other) ∙ is) ∙ sym (follows x r stays other at_o)
          ∙ ap (λ n. row_value n (entry value new r) x) (sym exchanged.count)
