-- Feeding all lines of a text to a draft.
use Rattle.std.proofs.Common.{◌≡◌, ℕ, suc, ◌+◌, ◌<◌, Bool, None, Some, Result, List, [], ◌∷◌, length, refl, sym, ap, subst, ◌∙◌, arith}
use Rattle.whole.specs.declared.answers.ReadFault.{ReadFault}
use Rattle.whole.specs.declared.answers.ReadFault.TheVariants.{Refused, NoMemory}
use Rattle.text_lines.specs.Lines.{Unread, next, is_over, is_finished}
use Rattle.text_lines.specs.Pieces.{pieces}
use Rattle.text_lines.specs.Steps.{Fails}
use Rattle.text_machine.specs.Texts.{Table, step, read_text}
use Rattle.text_machine.proofs.ScriptLaws.{unread}
use Rattle.text_machine.proofs.LoopLaws.{Feeding, feeding_start, feeding_more, feeding_fails, feeding_ends}
use Rattle.farkas_cert.specs.declared.certificates.Cert.{Cert}
use Rattle.cert_text.specs.declared.drafts.Draft.{Draft}
use Rattle.cert_text.specs.Spelling.{certificate}
use Rattle.cert_text.specs.Rules.{Stage, opening, cert_format}
use Rattle.cert_text.specs.Tables.{cert_table, GivesRead}
use Rattle.cert_text.specs.Drafts.{stage, table, Agrees, Fed, finished}

-- the lines before were read into the draft
abbrev pub Feeds : Draft → Unread → List ℕ → Type 0
Feeds d rest bytes = Feeding cert_format (stage d) (table d) rest (read_text cert_format opening bytes) × (Agrees d × (length d.lemmas < rest.line))

pub feeds_start : (d : Draft) (rest : Unread) (bytes : List ℕ) → rest ≡ unread 1 (pieces 10 bytes) → stage d ≡ opening → table d ≡ [] → Agrees d → d.lemmas ≡ [] → Feeds d rest bytes
feeds_start d rest bytes is at none agrees few = (
  subst (λ (r : Unread). Feeding cert_format (stage d) (table d) r (read_text cert_format opening bytes)) (sym is)
      (subst (λ (s : Stage). Feeding cert_format s (table d) (unread 1 (pieces 10 bytes)) (read_text cert_format opening bytes)) (sym at)
      (subst (λ (t : Table). Feeding cert_format opening t (unread 1 (pieces 10 bytes)) (read_text cert_format opening bytes)) (sym none) (feeding_start cert_format opening bytes))),
  (agrees, subst (λ (r : Unread). length d.lemmas < r.line) (sym is) (omega (arith, ap (λ (ls : List _). length ls) few))),
)

-- what taking a line leaves
abbrev Shorter : Unread → Unread → Type 0
Shorter rest after = (after.line ≡ rest.line + 1) × (length rest.pieces ≡ suc (length after.pieces))

pub shorter : (rest : Unread) (text : List ℕ) (after : Unread) → next rest ≡ Some (text, after) → (after.line ≡ rest.line + 1) × (length rest.pieces ≡ suc (length after.pieces))
unfolding next
shorter rest text after e = by_pieces rest.line rest.pieces e
  where
    some_is : (x y : List ℕ × Unread) → Some x ≡ Some y → x ≡ y
    some_is x y r = cc

    by_pieces : (k : ℕ) (left : List (List ℕ)) → next (unread k left) ≡ Some (text, after) → Shorter (unread k left) after
    by_pieces k [] q = absurd (cc)
    by_pieces k (piece ∷ []) q = absurd (cc)
    by_pieces k (piece ∷ more ∷ left) q = subst (λ (x : List ℕ × Unread). Shorter (unread k (piece ∷ more ∷ left)) x.1) (some_is _ _ q) (refl, refl)

pub feeds_more : (d e : Draft) (rest after : Unread) (text bytes : List ℕ) (k : ℕ) → next rest ≡ Some (text, after) → k ≡ rest.line → Fed d k text e → Feeds d rest bytes → Feeds e after bytes
feeds_more d e rest after text bytes k taken at fed feeds =
    let s = shorter rest text after taken in (
      subst (λ (t : Table). Feeding cert_format (stage e) t after (read_text cert_format opening bytes)) (sym fed.grown)
          (feeding_more cert_format (stage d) (table d) rest text after fed.numbers (stage e) (read_text cert_format opening bytes) taken (ap (λ n. step cert_format (stage d) n text) (sym at) ∙ fed.read) feeds.0),
      (fed.agrees, omega (arith, s.0, fed.few, feeds.1.1)),
    )

pub feeds_fail : (d : Draft) (rest after : Unread) (text bytes : List ℕ) (k : ℕ) (fault : ReadFault) → next rest ≡ Some (text, after) → k ≡ rest.line → Fails fault (step cert_format (stage d) k text) → Feeds d rest bytes
    → Fails fault (read_text cert_format opening bytes)
feeds_fail d rest after text bytes k NoMemory taken at failed feeds = tt
feeds_fail d rest after text bytes k (Refused r) taken at failed feeds =
    feeding_fails cert_format (stage d) (table d) rest text after r (read_text cert_format opening bytes) taken (ap (λ n. step cert_format (stage d) n text) (sym at) ∙ failed) feeds.0

pub feeds_end : (d : Draft) (rest : Unread) (bytes : List ℕ) (k : ℕ) (over_now : Bool) (result : Result Cert ReadFault) → next rest ≡ None → k ≡ rest.line → over_now ≡ is_finished rest → Feeds d rest bytes
    → ((piece : List ℕ) → over_now ≡ is_over (piece ∷ []) → GivesRead (λ cert. cert_table (certificate cert)) result (finished d k piece))
    → GivesRead (λ cert. cert_table (certificate cert)) result (read_text cert_format opening bytes)
feeds_end d rest bytes k over_now result none at is feeds given =
    let e = feeding_ends cert_format (stage d) (table d) rest (read_text cert_format opening bytes) none feeds.0 in
    subst (GivesRead (λ cert. cert_table (certificate cert)) result) (sym (e.1.1 ∙ ap (λ n. finished d n e.0) (sym at))) (given e.0 (is ∙ ap is_over e.1.0))
