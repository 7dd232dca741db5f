-- What a certificate comes to: it proves, or there is a first place at which it fails or a sum overflows.
use Rattle.std.specs.Prelude.{◌≡◌, ◌≢◌, ◌↔◌, ◌<◌, ℕ, List, [], ◌∷◌, ◌++◌}
use Rattle.farkas_cert.specs.declared.certificates.Cert.{Cert}
use Rattle.clause_form.specs.declared.clauses.Clauses.{Clauses}
use Rattle.clause_form.specs.Derivations.{Proves}
use Rattle.cert_check.specs.declared.found.Found.{Found}
use Rattle.cert_check.specs.declared.found.Found.TheVariants.{Sound, Breaks, Overflows}
use Rattle.cert_check.specs.Causes.{Event, events}

pub data Verdict : Type 0 where
  proved : Verdict
  fails : ℕ → ℕ → ℕ → Verdict  -- lemma, node, cause
  wide : ℕ → ℕ → ℕ → Verdict  -- lemma, node, column

abbrev pub verdict_at : ℕ → ℕ → Found → Verdict → Verdict
verdict_at lemma node Sound rest = rest
verdict_at lemma node (Breaks cause) rest = fails lemma node cause
verdict_at lemma node (Overflows column) rest = wide lemma node column

-- the first event at which something was found
abbrev pub first_of : List Event → Verdict
first_of [] = proved
first_of (e ∷ es) = verdict_at e.lemma e.node e.found (first_of es)

unfoldable pub verdict : Clauses → Cert → Verdict
verdict c cert = first_of (events c cert)

-- what is found at each of the events is so
abbrev pub EachFound : (Found → Type 0) → List Event → Type 0
EachFound P [] = Unit {0}
EachFound P (e ∷ es) = P e.found × EachFound P es

abbrev pub IsSound : Found → Type 0
IsSound found = found ≡ Sound

-- no running sum overflows here
abbrev pub StaysWithin : Found → Type 0
StaysWithin found = (column : ℕ) → found ≢ Overflows column

-- the event is the first at which something is found
pub record IsFirst (all : List Event) (event : Event) : Type 0 where
  pub before : List Event
  pub after : List Event
  pub stands : all ≡ before ++ event ∷ after
  pub all_sound : EachFound IsSound before
  pub found : event.found ≢ Sound

-- exactly what proves, without a sum that overflows, is proved; everything else has a first event
pub record IsVerdict (c : Clauses) (cert : Cert) (v : Verdict) : Type 0 where
  pub proves : (v ≡ proved) ↔ (Proves c cert × EachFound StaysWithin (events c cert))
  pub failed : (lemma node cause : ℕ) → (v ≡ fails lemma node cause) ↔ IsFirst (events c cert) (record { lemma = lemma; node = node; found = Breaks cause })
  pub overflowed : (lemma node column : ℕ) → (v ≡ wide lemma node column) ↔ IsFirst (events c cert) (record { lemma = lemma; node = node; found = Overflows column })
  pub one : (a b : Event) → IsFirst (events c cert) a → IsFirst (events c cert) b → a ≡ b

-- every certificate has a verdict, and only one
abbrev pub EachHasAVerdict : Type 0
EachHasAVerdict = (c : Clauses) (cert : Cert) → IsVerdict c cert (verdict c cert)
