-- What is said of a stuck operation, and of a row that is formed.
use Rattle.std.proofs.Common.{◌≡◌, ℕ, ◌<◌, List, [], length, get_or, sym, subst, ◌∙◌, inl, inr, pos}
use Rattle.std.proofs.lemmas.Bool.{true_from_ne_false}
use Rattle.ordered_field.specs.Rational.{ℚ, whole}
use Rattle.field_rows.specs.Rows.{coefficient, IsRow, AreQuotients, IsSubstituted, SomeEntryIsWide}
use Rattle.field_rows.specs.declared.row.Entry.{Entry}
use Rattle.whole.specs.declared.answers.Stuck.{Stuck}
use Rattle.tableau.specs.Operations.{IfStuck}
use Rattle.tableau.specs.Tables.{Table, entry, IsTable}
use Rattle.tableau.specs.Exchange.{IsStuckQuotient, IsStuckStep, IsStuckExchange}
use Rattle.tableau.specs.Layout.{IsFollowed, IsStuckRow, IsStuckForming}
use Rattle.tableau.proofs.TableLaws.{entry-is, entry-row}
use Rattle.tableau.specs.declared.exchange.Followed.{Followed}
use Rattle.tableau.specs.declared.fault.PivotFault.{PivotFault}
use Rattle.tableau.specs.declared.fault.PivotFault.TheVariants.{Stuck as StuckAt, NoMemory}

pub if_stuck : (fault : PivotFault) (P Q : Stuck → Type 0) → ((s : Stuck) → P s → Q s) → IfStuck fault P → IfStuck fault Q
if_stuck (StuckAt s) P Q f h = f s h
if_stuck NoMemory P Q f h = tt

pub followed_is : {F : Type 0} (limit : ℕ) (value : F → ℚ) (b o : ℕ) (rows : List (List (Entry F))) (d : ℕ → ℚ) (user : ℕ) (f : Followed F) (row : List (Entry F)) → row ≡ get_or rows user [] → user < length rows → (user ≡ b → ⊥) → f.variable ≡ user → IsRow value f.row → IsSubstituted o d (coefficient value row) (coefficient value f.row) → (SomeEntryIsWide limit o d (coefficient value row) → ⊥) → IsFollowed limit value b o rows d f
followed_is limit value b o rows d user f row row_is inside apart named is_row entries fits = record {
  within = subst (λ v. v < length rows) (sym named) inside;
  other = subst (λ v. v ≡ b → ⊥) (sym named) apart;
  is_row = is_row;
  substituted = subst (λ v. IsSubstituted o d (coefficient value (get_or rows v [])) (coefficient value f.row)) (sym named) (subst (λ r. IsSubstituted o d (coefficient value r) (coefficient value f.row)) row_is entries);
  fits = subst (λ v. SomeEntryIsWide limit o d (coefficient value (get_or rows v [])) → ⊥) (sym named) (subst (λ r. SomeEntryIsWide limit o d (coefficient value r) → ⊥) row_is fits);
}

pub stuck_row : {F : Type 0} (limit : ℕ) (value : F → ℚ) (b o : ℕ) (rows : List (List (Entry F))) (d : ℕ → ℚ) (user : ℕ) (row : List (Entry F)) (s : Stuck) → row ≡ get_or rows user [] → (user ≡ b → ⊥) → (coefficient value row o ≡ whole (pos 0) → ⊥) → IsStuckStep limit user o d (coefficient value row) s → IsStuckRow limit value b o rows d s
stuck_row limit value b o rows d user row s row_is apart some step = record {
  row = user;
  other = apart;
  some = subst (λ r. coefficient value r o ≡ whole (pos 0) → ⊥) row_is some;
  operation = subst (λ r. IsStuckStep limit user o d (coefficient value r) s) row_is step;
}

-- what is too wide in forming the rows is too wide in the exchange
pub stuck_exchange : {F : Type 0} (limit : ℕ) (value : F → ℚ) (b o : ℕ) (t : Table F) (s : Stuck) → IsTable value t → IsStuckForming limit value b o t.rows s → IsStuckExchange limit value b o t s
stuck_exchange limit value b o t s table (inl quotient) =
    inl (subst (λ c. IsStuckQuotient limit b o c s) (sym (entry-row value t b)) quotient)
stuck_exchange limit value b o t s table (inr (d, quotients, stuck)) = inr (record {
  row = stuck.row;
  basic = true_from_ne_false _ (λ not. stuck.some (sym (entry-is value t stuck.row o) ∙ table.of_basic stuck.row o not));
  other = stuck.other;
  solved = d;
  quotients = subst (λ c. AreQuotients b o c d) (sym (entry-row value t b)) quotients;
  operation = subst (λ c. IsStuckStep limit stuck.row o d c s) (sym (entry-row value t stuck.row)) stuck.operation;
})
