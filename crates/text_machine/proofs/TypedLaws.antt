-- A format whose tables are those of typed values: what is read, and what is refused, in the words of the values.
use Rattle.std.proofs.Common.{◌≡◌, ◌⊎◌, inl, inr, ℕ, Result, Ok, Err, List, refl, sym, ap, subst, ◌∙◌}
use Rattle.std.specs.Prelude.{IfOk, IsErrOf}
use Rattle.whole.specs.declared.answers.ReadFault.{ReadFault}
use Rattle.whole.specs.declared.answers.ReadFault.TheVariants.{Refused, NoMemory}
use Rattle.whole.specs.declared.answers.Refusal.{Refusal}
use Rattle.text_lines.specs.Pieces.{pieces}
use Rattle.text_lines.specs.Steps.{GivesUnless}
use Rattle.text_machine.specs.Texts.{Table, Format, IsTextOf, FirstRefused, read_text, GivesText}
use Rattle.text_machine.proofs.TextLaws.{either as either_table, text_taken, text_again, text_refused, refused_text}

-- the value that a text's table is of
pub record ValueOf {T : Type 0} (table : T → Table) (IsText : List ℕ → T → Type 0) (bytes : List ℕ) (numbers : Table) : Type 0 where
  pub value : T
  pub is : table value ≡ numbers
  pub is_text : IsText bytes value

-- `table` gives the numbers of a value, and `IsText` says which bytes are its text; values of the same size are told
-- apart by their numbers
pub record Typed {S T : Type 0} (format : Format S Refusal) (s : S) (table : T → Table) (IsText : List ℕ → T → Type 0) (Sized : T → Type 0) : Type 0 where
  pub is : (bytes : List ℕ) (t : T) → IsText bytes t → IsTextOf format s bytes (table t)
  pub of : (bytes : List ℕ) (numbers : Table) → IsTextOf format s bytes numbers → ValueOf table IsText bytes numbers
  pub sized : (bytes : List ℕ) (t : T) → IsText bytes t → Sized t
  pub same : (x y : T) → Sized x → Sized y → table x ≡ table y → x ≡ y

-- tables are values of their own
pub tables : {S : Type 0} (format : Format S Refusal) (s : S) → Typed format s (λ t. t) (IsTextOf format s) (λ _. Unit {0})
tables format s = record { is = λ bytes t p. p; of = λ bytes t p. record { value = t; is = refl; is_text = p }; sized = λ bytes t p. tt; same = λ x y p q e. e }

ok_same : (x y : Table) → ◌≡◌ {A = Result Table Refusal} (Ok x) (Ok y) → x ≡ y
ok_same x y e = cc

err_same : (r s : Refusal) → ◌≡◌ {A = Result Table Refusal} (Err r) (Err s) → r ≡ s
err_same r s e = cc

ok_not_err : (x : Table) (r : Refusal) → ◌≡◌ {A = Result Table Refusal} (Ok x) (Err r) → ⊥
ok_not_err x r e = cc

-- ---- a call that gives what is read gives exactly the values whose text it is

pub is_found : {S T : Type 0} (format : Format S Refusal) (s : S) (table : T → Table) (IsText : List ℕ → T → Type 0) (Sized : T → Type 0) → Typed format s table IsText Sized
    → (bytes : List ℕ) (result : Result T ReadFault) → GivesText table result (read_text format s bytes) → IfOk result Sized → IfOk result (IsText bytes)
is_found format s table IsText Sized law bytes (Err fault) given sized = tt
is_found format s table IsText Sized law bytes (Ok x) given sized =
    let t = law.of bytes (table x) (text_taken format s bytes (table x) given) in
    subst (IsText bytes) (law.same t.value x (law.sized bytes t.value t.is_text) sized t.is) t.is_text

pub is_read : {S T : Type 0} (format : Format S Refusal) (s : S) (table : T → Table) (IsText : List ℕ → T → Type 0) (Sized : T → Type 0) → Typed format s table IsText Sized
    → (bytes : List ℕ) (result : Result T ReadFault) → GivesText table result (read_text format s bytes) → IfOk result Sized → (t : T) → IsText bytes t → GivesUnless result (Ok t)
is_read {S} {T} format s table IsText Sized law bytes (Ok x) given sized t is =
    ap (λ (y : T). Ok y) (law.same t x (law.sized bytes t is) sized (ok_same (table t) (table x) (sym (text_again format s bytes (table t) (law.is bytes t is)) ∙ given)))
is_read format s table IsText Sized law bytes (Err NoMemory) given sized t is = tt
is_read format s table IsText Sized law bytes (Err (Refused r)) given sized t is = absurd (ok_not_err (table t) r (sym (text_again format s bytes (table t) (law.is bytes t is)) ∙ given))

pub is_refused : {S T : Type 0} (format : Format S Refusal) (s : S) (table : T → Table) (bytes : List ℕ) (result : Result T ReadFault) → GivesText table result (read_text format s bytes)
    → (r : Refusal) → IsErrOf result (Refused r) → FirstRefused format s 1 (pieces 10 bytes) r
is_refused format s table bytes (Ok x) given r is = absurd (cc)
is_refused format s table bytes (Err NoMemory) given r is = absurd (cc)
is_refused {S} {T} format s table bytes (Err (Refused q)) given r is = text_refused format s bytes r (given ∙ ap (λ x. Err x) (refusal_is q r is))
  where
    refusal_is : (q r : Refusal) → ◌≡◌ {A = Result T ReadFault} (Err (Refused q)) (Err (Refused r)) → q ≡ r
    refusal_is q r e = cc

pub is_first : {S T : Type 0} (format : Format S Refusal) (s : S) (table : T → Table) (bytes : List ℕ) (result : Result T ReadFault) → GivesText table result (read_text format s bytes)
    → (r : Refusal) → FirstRefused format s 1 (pieces 10 bytes) r → GivesUnless result (Err r)
is_first format s table bytes (Ok x) given r is = absurd (ok_not_err (table x) r (sym given ∙ refused_text format s bytes r is))
is_first format s table bytes (Err NoMemory) given r is = tt
is_first format s table bytes (Err (Refused q)) given r is = ap (λ x. Err x) (err_same r q (sym (refused_text format s bytes r is) ∙ given))

-- ---- a text is that of one value, or has one refusal: one of the two, and not both

pub one_value : {S T : Type 0} (format : Format S Refusal) (s : S) (table : T → Table) (IsText : List ℕ → T → Type 0) (Sized : T → Type 0) → Typed format s table IsText Sized
    → (bytes : List ℕ) (t u : T) → IsText bytes t → IsText bytes u → t ≡ u
one_value format s table IsText Sized law bytes t u p q =
    law.same t u (law.sized bytes t p) (law.sized bytes u q)
    (ok_same (table t) (table u) (sym (text_again format s bytes (table t) (law.is bytes t p)) ∙ text_again format s bytes (table u) (law.is bytes u q)))

pub one_refusal : {S : Type 0} (format : Format S Refusal) (s : S) (bytes : List ℕ) (q r : Refusal) → FirstRefused format s 1 (pieces 10 bytes) q → FirstRefused format s 1 (pieces 10 bytes) r → q ≡ r
one_refusal format s bytes q r p o = err_same q r (sym (refused_text format s bytes q p) ∙ refused_text format s bytes r o)

pub not_both : {S T : Type 0} (format : Format S Refusal) (s : S) (table : T → Table) (IsText : List ℕ → T → Type 0) (Sized : T → Type 0) → Typed format s table IsText Sized
    → (bytes : List ℕ) (r : Refusal) (t : T) → FirstRefused format s 1 (pieces 10 bytes) r → IsText bytes t → ⊥
not_both format s table IsText Sized law bytes r t p q =
    ok_not_err (table t) r (sym (text_again format s bytes (table t) (law.is bytes t q)) ∙ refused_text format s bytes r p)

pub value_or_refusal : {S T : Type 0} (format : Format S Refusal) (s : S) (table : T → Table) (IsText : List ℕ → T → Type 0) (Sized : T → Type 0) → Typed format s table IsText Sized
    → (bytes : List ℕ) → ((t : T) × IsText bytes t) ⊎ ((r : Refusal) × FirstRefused format s 1 (pieces 10 bytes) r)
value_or_refusal format s table IsText Sized law bytes = elim (either_table format s bytes) [
  | inl x ↦ let t = law.of bytes x.0 x.1 in inl (t.value, t.is_text)
  | inr x ↦ inr x
]
