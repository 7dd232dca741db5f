-- Which variable of a row can help.
use Rattle.std.proofs.Common.{◌≡◌, ℕ, ◌+◌, ◌<◌, ◌≤◌, ◌^◌, Bool, true, false, List, [], ◌∷◌, ◌++◌, length, ◌⊎◌, inl, inr, ◌↔◌, pos, refl, sym, ap, subst, ◌∙◌, arith}
use Rattle.ordered_field.specs.Rational.{ℚ, whole}
use Rattle.ordered_field.specs.Order.{◌<ℚ◌}
use Rattle.ordered_field.proofs.OrderFacts.{<ℚ-apart, <ℚ_irrefl, <ℚ_trans}
use Rattle.ordered_field.specs.Delta.{DeltaValue}
use Rattle.simplex.specs.declared.limits.Limit.{Limit}
use Rattle.field_rows.specs.Rows.{coefficient, IsRow, IsRowWithin}
use Rattle.field_rows.specs.declared.row.Entry.{Entry}
use Rattle.field_rows.proofs.SumLaws.{same_or_apart}
use Rattle.field_rows.proofs.RowLaws.{coefficient-none, coefficient-here, coefficient-there, coefficient-found, coefficient-less, IsRowWithin-last}
use Rattle.tableau.specs.Tables.{Table, variables, is_basic, entry, IsTable}
use Rattle.simplex.specs.Limits.{MayRise, MayFall}
use Rattle.simplex.specs.Corners.{Corner, Helps, HelpsByRising, HelpsByFalling, CanHelp}
use Rattle.simplex.specs.Assignments.{IsRowOf}
use Rattle.simplex.proofs.RowSums.{row_within}

-- P of each
abbrev pub Every : {A : Type 0} → (A → Type 0) → List A → Type 0
Every P [] = Unit {0}
Every P (x ∷ xs) = P x × Every P xs

pub Every-append : {A : Type 0} (P : A → Type 0) (xs : List A) (x : A) → Every P xs → P x → Every P (xs ++ x ∷ [])
Every-append P [] x all one = (one, tt)
Every-append P (y ∷ ys) x all one = (all.0, Every-append P ys x all.1 one)

-- what holds of each entry's variable holds of each variable with a coefficient
pub Every-at : {F : Type 0} (value : F → ℚ) (Q : ℕ → Type 0) (row : List (Entry F)) → Every (λ e. Q e.variable) row → (v : ℕ) → (coefficient value row v ≡ whole (pos 0) → ⊥) → Q v
Every-at value Q [] all v some = absurd (some (coefficient-none value v))
Every-at value Q (e ∷ es) all v some = by (same_or_apart e.variable v) (Every-at value Q es all.1 v)
  where
    by : (v ≡ e.variable) ⊎ (v ≡ e.variable → ⊥) → ((coefficient value es v ≡ whole (pos 0) → ⊥) → Q v) → Q v
    by (inl same) rest = subst Q (sym same) all.0
    by (inr apart) rest = rest (λ none. some (coefficient-there value e es v apart ∙ none))

-- an entry of the row of b
pub record IsEntryOf {F : Type 0} (value : F → ℚ) (t : Table F) (b : ℕ) (e : Entry F) : Type 0 where
  pub within : e.variable < variables t
  pub some : value e.number ≡ whole (pos 0) → ⊥
  pub is : value e.number ≡ entry value t b e.variable
  pub non_basic : is_basic t e.variable ≡ false

module _ {F : Type 0} (value : F → ℚ) (t : Table F) (b : ℕ) (row front : List (Entry F)) (e : Entry F) (behind : List (Entry F)) where
  pub entry_of : IsRowOf value t b row → row ≡ front ++ e ∷ behind → IsEntryOf value t b e
  entry_of of parts = record { within = last.1; some = last.2; is = number; non_basic = by (is_basic t e.variable) refl }
    where
      last : IsRowWithin value 0 (variables t) (e ∷ behind)
      last = IsRowWithin-last value 0 (variables t) front (e ∷ behind) (subst (IsRowWithin value 0 (variables t)) parts (row_within value t b row of.table of))

      number : value e.number ≡ entry value t b e.variable
      number = sym (coefficient-found value row front e behind e.variable parts of.is_row refl) ∙ of.same e.variable

      by : (s : Bool) → is_basic t e.variable ≡ s → is_basic t e.variable ≡ false
      by true h = absurd (last.2 (number ∙ of.table.at_basic b e.variable h))
      by false h = h

  -- a lesser variable with an entry is before
  pub before-entry : IsRowOf value t b row → row ≡ front ++ e ∷ behind → (v : ℕ) → v < e.variable → (entry value t b v ≡ whole (pos 0) → ⊥) → coefficient value front v ≡ whole (pos 0) → ⊥
  unfolding IsRow
  before-entry of parts v less some none =
      some (sym (of.same v) ∙ ap (λ r. coefficient value r v) parts ∙ coefficient-less value 0 (2 ^ 32) front e behind v (subst (IsRowWithin value 0 (2 ^ 32)) parts of.is_row) less ∙ none)

-- what helps has an entry
pub helps-some : {F : Type 0} (value : F → ℚ) (c : Corner F) (upper : Bool) (b o : ℕ) → CanHelp value c upper b o → entry value c.table b o ≡ whole (pos 0) → ⊥
helps-some value c upper b o can none = by upper can.helps
  where
    by : (u : Bool) → Helps u (entry value c.table b o) c.limits o (c.value o) → ⊥
    by true (inl h) = <ℚ-apart _ _ h.0 none
    by true (inr h) = <ℚ-apart _ _ h.0 (sym none)
    by false (inl h) = <ℚ-apart _ _ h.0 (sym none)
    by false (inr h) = <ℚ-apart _ _ h.0 none

pub can_help-by : {F : Type 0} (value : F → ℚ) (c : Corner F) (upper : Bool) (b : ℕ) (e : Entry F) → IsEntryOf value c.table b e → Helps upper (value e.number) c.limits e.variable (c.value e.variable) → CanHelp value c upper b e.variable
can_help-by value c upper b e of helps = record {
  non_basic = of.non_basic;
  helps = subst (λ x. Helps upper x c.limits e.variable (c.value e.variable)) of.is helps;
}

pub helps-of : {F : Type 0} (value : F → ℚ) (c : Corner F) (upper : Bool) (b : ℕ) (e : Entry F) → IsEntryOf value c.table b e → CanHelp value c upper b e.variable → Helps upper (value e.number) c.limits e.variable (c.value e.variable)
helps-of value c upper b e of can = subst (λ x. Helps upper x c.limits e.variable (c.value e.variable)) (sym of.is) can.helps

-- what helps by rising doesn't help by falling
both_ways_not : (u : Bool) (e : ℚ) → HelpsByRising u e → HelpsByFalling u e → ⊥
both_ways_not true e r f = <ℚ_irrefl _ (<ℚ_trans _ _ _ f r)
both_ways_not false e r f = <ℚ_irrefl _ (<ℚ_trans _ _ _ r f)

pub helps-rising : (upper : Bool) (e : ℚ) (limits : List (Limit DeltaValue)) (o : ℕ) (x y : DeltaValue) (b : Bool) → y ≡ x → HelpsByRising upper e → (b ≡ true) ↔ MayRise limits o y → (b ≡ true) ↔ Helps upper e limits o x
helps-rising upper e limits o x y b same rising tells = (λ h. inl (rising, subst (MayRise limits o) same (tells.0 h)), by)
  where
    by : Helps upper e limits o x → b ≡ true
    by (inl h) = tells.1 (subst (MayRise limits o) (sym same) h.1)
    by (inr h) = absurd (both_ways_not upper e rising h.0)

pub helps-falling : (upper : Bool) (e : ℚ) (limits : List (Limit DeltaValue)) (o : ℕ) (x y : DeltaValue) (b : Bool) → y ≡ x → HelpsByFalling upper e → (b ≡ true) ↔ MayFall limits o y → (b ≡ true) ↔ Helps upper e limits o x
helps-falling upper e limits o x y b same falling tells = (λ h. inr (falling, subst (MayFall limits o) same (tells.0 h)), by)
  where
    by : Helps upper e limits o x → b ≡ true
    by (inl h) = absurd (both_ways_not upper e h.0 falling)
    by (inr h) = tells.1 (subst (MayFall limits o) (sym same) h.1)

pub nil_of : {A : Type 0} (xs : List A) → length xs ≡ 0 → xs ≡ []
nil_of [] e = refl
nil_of (x ∷ xs) e = absurd (omega arith)

-- no entry's variable can help, so none can
pub none-helps : {F : Type 0} (value : F → ℚ) (c : Corner F) (upper : Bool) (b : ℕ) (row : List (Entry F)) → IsRowOf value c.table b row → Every (λ e. CanHelp value c upper b e.variable → ⊥) row → (o : ℕ) → CanHelp value c upper b o → ⊥
none-helps value c upper b row of all o can =
    Every-at value (λ v. CanHelp value c upper b v → ⊥) row all o (λ none. helps-some value c upper b o can (sym (of.same o) ∙ none)) can
