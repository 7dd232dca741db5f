-- How the code's answers stand to the verdicts of the definitions.
use Rattle.std.specs.Prelude.{◌≡◌, ◌≢◌, ◌↔◌, ℕ, zero, suc, ◌-◌, ◌^◌, nat_lt, List, [], ◌∷◌, if◌then◌else◌}
use Rattle.farkas_cert.specs.declared.certificates.Cert.{Cert}
use Rattle.clause_form.specs.declared.clauses.Clauses.{Clauses}
use Rattle.clause_form.specs.Derivations.{Proves}
use Rattle.cert_check.specs.declared.found.Checked.{Checked}
use Rattle.cert_check.specs.declared.found.Checked.TheVariants.{Proved, Fails, Wide, NoMemory}
use Rattle.cert_check.specs.declared.found.Found.{Found}
use Rattle.cert_check.specs.declared.found.Found.TheVariants.{Sound, Breaks, Overflows}
use Rattle.cert_check.specs.Causes.{then_ask, Event, events}
use Rattle.cert_check.specs.Verdicts.{Verdict, proved, fails, wide, EachFound, StaysWithin, IsFirst}

-- the name of a lemma or a node: its number, or 2^32 - 1 where that is larger
abbrev pub named : ℕ → ℕ
named n = if nat_lt n (2 ^ 32) then n else 2 ^ 32 - 1

unfoldable pub answer_of : Verdict → Checked
answer_of proved = Proved
answer_of (fails lemma node cause) = Fails (named lemma) (named node) cause
answer_of (wide lemma node column) = Wide (named lemma) (named node) column

-- the answer is this one, unless memory ran out
abbrev pub IsAnswer : Checked → Checked → Type 0
IsAnswer NoMemory answer = Unit {0}
IsAnswer result answer = result ≡ answer

-- the first that is found
abbrev pub first_found : List Found → Found
first_found [] = Sound
first_found (f ∷ fs) = then_ask f (first_found fs)

-- one more, if the place is sound
abbrev pub count_if_sound : Found → ℕ → ℕ
count_if_sound Sound more = suc more
count_if_sound (Breaks cause) more = zero
count_if_sound (Overflows column) more = zero

-- how many places stand before it
abbrev pub sound_before : List Found → ℕ
sound_before [] = zero
sound_before (f ∷ fs) = count_if_sound f (sound_before fs)

-- ---- what an answer says, in words

-- exactly what proves, without a sum that overflows, is proved
pub record SaysProved (c : Clauses) (cert : Cert) (result : Checked) : Type 0 where
  pub only : result ≡ Proved → Proves c cert × EachFound StaysWithin (events c cert)
  pub always : result ≢ NoMemory → Proves c cert → EachFound StaysWithin (events c cert) → result ≡ Proved

-- the first place at which something is found breaks a rule
abbrev pub IsFirstFault : Clauses → Cert → ℕ → ℕ → ℕ → Type 0
IsFirstFault c cert lemma node cause = IsFirst (events c cert) (record { lemma = lemma; node = node; found = Breaks cause })

pub record SaysFailed (c : Clauses) (cert : Cert) (result : Checked) : Type 0 where
  pub only : (l n cause : ℕ) → result ≡ Fails l n cause → (lemma : ℕ) × (node : ℕ) × (l ≡ named lemma) × (n ≡ named node) × IsFirstFault c cert lemma node cause
  pub always : result ≢ NoMemory → (lemma node cause : ℕ) → IsFirstFault c cert lemma node cause → result ≡ Fails (named lemma) (named node) cause

-- a sum overflows at the first place at which something is found
abbrev pub IsFirstOverflow : Clauses → Cert → ℕ → ℕ → ℕ → Type 0
IsFirstOverflow c cert lemma node column = IsFirst (events c cert) (record { lemma = lemma; node = node; found = Overflows column })

pub record SaysOverflowed (c : Clauses) (cert : Cert) (result : Checked) : Type 0 where
  pub only : (l n column : ℕ) → result ≡ Wide l n column → (lemma : ℕ) × (node : ℕ) × (l ≡ named lemma) × (n ≡ named node) × IsFirstOverflow c cert lemma node column
  pub always : result ≢ NoMemory → (lemma node column : ℕ) → IsFirstOverflow c cert lemma node column → result ≡ Wide (named lemma) (named node) column
