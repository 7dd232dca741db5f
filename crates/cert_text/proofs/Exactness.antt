-- A text is read just where it is a certificate, and refused just by its first broken rule.
use Rattle.std.proofs.Common.{◌≡◌, ◌⊎◌, inl, inr, ℕ, ◌+◌, ◌^◌, ◌<◌, ℤ, pos, Option, None, Some, Result, Ok, Err, List, [], ◌∷◌, ◌++◌, length, refl, sym, ap, ◌∙◌, arith}
use Rattle.std.specs.Prelude.{codes, IfOk, IsErrOf}
use Rattle.std.proofs.lemmas.Fmt.{decimal_digit}
use Rattle.whole.specs.declared.answers.ReadFault.{ReadFault}
use Rattle.whole.specs.declared.answers.ReadFault.TheVariants.{Refused, NoMemory}
use Rattle.whole.specs.declared.answers.Refusal.{Refusal}
use Rattle.text_lines.specs.Pieces.{text}
use Rattle.text_lines.specs.Steps.{GivesUnless, numbered}
use Rattle.text_machine.specs.Lines.{LineForm, spell_line, Suits}
use Rattle.text_machine.specs.Texts.{Table, SuitsBy, spell_by, IsTextOf, IsWhole, spell_lines, read_text, GivesText}
use Rattle.text_machine.proofs.TypedLaws as typed
use Rattle.text_machine.proofs.TypedLaws.{Typed, ValueOf}
use Rattle.farkas_cert.specs.declared.certificates.Cert.{Cert}
use Rattle.farkas_cert.specs.Trees.{Derived}
use Rattle.cert_text.specs.Spelling.{Certificate, certificate, header, size_line, lemma_lines, end_line, cert_lines, IsWithin, IsCertText}
use Rattle.cert_text.specs.Rules.{form_of, opening, sizing, behind_line, cert_format, IsRefused}
use Rattle.cert_text.specs.Tables.{one_number, size_numbers, lemma_table, cert_table, GivesRead, GivesCert}
use Rattle.cert_text.specs.declared.wants.Want.TheVariants.{Header, Size}
use Rattle.cert_text.proofs.Numbers.{index_suits}
use Rattle.cert_text.proofs.TreeLaws.{Reads, reads_line, all_read, all_found, LemmasOf, lemmas_same}

-- ---- a certificate's text is that of its table

header_suits : SuitsBy (form_of Header) (one_number 1)
unfolding form_of Suits spell_line
header_suits = (((1, (refl, omega arith, omega arith, omega arith)), tt), tt)

header_spelled : spell_by (form_of Header) (one_number 1) ≡ header
unfolding form_of spell_line
header_spelled = ap (λ (i : List ℕ). codes "ccac-cert" ∷ i ∷ []) (decimal_digit 1 (omega arith))

size_suits : (c : Certificate) → IsWithin c → SuitsBy (form_of Size) (size_numbers c.columns c.atoms c.clauses)
unfolding form_of Suits spell_line
size_suits c within = ((index_suits c.columns within.columns, (index_suits c.atoms within.atoms, (index_suits c.clauses within.clauses, tt))), tt)

some_lemma : (ds : List Derived) → (ds ≡ [] → ⊥) → 0 < length ds
some_lemma [] some = absurd (some refl)
some_lemma (d ∷ ds) some = omega arith

cert_reads : (c : Certificate) → IsWithin c → Reads opening (cert_table c) (cert_lines c)
unfolding cert_lines behind_line form_of spell_line
cert_reads c within =
    let lemmas = numbered lemma_table 0 c.lemmas ++ one_number 1 ∷ [] in
    let lines = numbered lemma_lines 0 c.lemmas ++ end_line ∷ [] in
    reads_line opening (one_number 1) (size_numbers c.columns c.atoms c.clauses ∷ lemmas) header (size_line c.columns c.atoms c.clauses ∷ lines) header_suits header_spelled
    (reads_line sizing (size_numbers c.columns c.atoms c.clauses) lemmas (size_line c.columns c.atoms c.clauses) lines (size_suits c within) refl (all_read c.lemmas within.lemmas (some_lemma c.lemmas within.some)))

cert_is : (bytes : List ℕ) (c : Certificate) → IsCertText bytes c → IsTextOf cert_format opening bytes (cert_table c)
cert_is bytes c is =
    let reads = cert_reads c is.within in
    record { text_is = is.text_is ∙ ap text (sym reads.spelled); is_whole = reads.whole }

-- ---- a table that is whole is that of a certificate

header_found : (zs : List ℤ) → SuitsBy (form_of Header) zs → zs ≡ one_number 1
unfolding form_of Suits
header_found [] s = absurd s.0
header_found (z ∷ []) (((n, (is, low, high, small)), done), some) = ap (λ (y : ℤ). y ∷ []) (is ∙ ap (λ k. pos k) (omega (arith, low, high)))
header_found (z ∷ y ∷ zs) s = absurd s.0.1

record Sizes (zs : List ℤ) : Type 0 where
  columns : ℕ
  atoms : ℕ
  clauses : ℕ
  is : size_numbers columns atoms clauses ≡ zs
  small : (columns < 2 ^ 32) × ((atoms < 2 ^ 32) × (clauses < 2 ^ 32))

sizes_found : (zs : List ℤ) → SuitsBy (form_of Size) zs → Sizes zs
unfolding form_of Suits
sizes_found [] s = absurd s.0
sizes_found (a ∷ []) s = absurd s.0.1
sizes_found (a ∷ b ∷ []) s = absurd s.0.1.1
sizes_found (a ∷ b ∷ c ∷ d ∷ zs) s = absurd s.0.1.1.1
sizes_found (a ∷ b ∷ c ∷ []) (((k, (is_k, lk, sk)), ((m, (is_m, lm, sm)), ((n, (is_n, ln, sn)), done))), some) =
    record { columns = k; atoms = m; clauses = n; is = cc; small = (lk, (lm, ln)) }

no_more : {form : LineForm} → ◌≡◌ {A = Option LineForm} (Some form) None → ⊥
no_more e = cc

cert_by : (bytes : List ℕ) (numbers zs : Table) (sizes : List ℤ) → bytes ≡ text (spell_lines cert_format opening numbers) → one_number 1 ∷ sizes ∷ zs ≡ numbers → Sizes sizes → LemmasOf 0 zs → ValueOf cert_table IsCertText bytes numbers
cert_by bytes numbers zs sizes is parts s lemmas =
    let c : Certificate = record { columns = s.columns; atoms = s.atoms; clauses = s.clauses; lemmas = lemmas.lemmas } in
    let within : IsWithin c = record { columns = s.small.0; atoms = s.small.1.0; clauses = s.small.1.1; lemmas = lemmas.fit; some = λ e. none lemmas.lemmas lemmas.some e } in
    let same : cert_table c ≡ numbers = ap (λ (ys : List ℤ). one_number 1 ∷ ys ∷ (numbered lemma_table 0 lemmas.lemmas ++ one_number 1 ∷ [])) s.is ∙ ap (λ (t : Table). one_number 1 ∷ sizes ∷ t) lemmas.is ∙ parts in
    record {
      value = c;
      is = same;
      is_text = record { within = within; text_is = is ∙ ap (λ (t : Table). text (spell_lines cert_format opening t)) (sym same) ∙ ap text (cert_reads c within).spelled };
    }
  where
    none : (ds : List Derived) → 0 < 0 + length ds → ds ≡ [] → ⊥
    none [] some e = omega (arith, some)
    none (d ∷ ds) some e = cc

found_by : (bytes : List ℕ) (t : Table) → bytes ≡ text (spell_lines cert_format opening t) → IsWhole cert_format opening t → ValueOf cert_table IsCertText bytes t
unfolding IsWhole behind_line form_of
found_by bytes [] e w = absurd (no_more w)
found_by bytes (zs ∷ []) e w = absurd (no_more w.1)
found_by bytes (zs ∷ ys ∷ t) e w = cert_by bytes (zs ∷ ys ∷ t) t ys e (ap (λ (xs : List ℤ). xs ∷ ys ∷ t) (sym (header_found zs w.0))) (sizes_found ys w.1.0) (all_found t w.1.1)

cert_of : (bytes : List ℕ) (numbers : Table) → IsTextOf cert_format opening bytes numbers → ValueOf cert_table IsCertText bytes numbers
cert_of bytes numbers is = found_by bytes numbers is.text_is is.is_whole

-- certificates with the same numbers are the same
sizes_same : (a b c k m n : ℕ) (us vs : Table) → one_number 1 ∷ size_numbers a b c ∷ us ≡ one_number 1 ∷ size_numbers k m n ∷ vs → (a ≡ k) × ((b ≡ m) × ((c ≡ n) × (us ≡ vs)))
sizes_same a b c k m n us vs e = (cc, (cc, (cc, cc)))

cert_same : (x y : Certificate) → Unit {0} → Unit {0} → cert_table x ≡ cert_table y → x ≡ y
cert_same x y s t e =
    let p = sizes_same x.columns x.atoms x.clauses y.columns y.atoms y.clauses (numbered lemma_table 0 x.lemmas ++ one_number 1 ∷ []) (numbered lemma_table 0 y.lemmas ++ one_number 1 ∷ []) e in
    by_fields x.columns y.columns x.atoms y.atoms x.clauses y.clauses x.lemmas y.lemmas p.0 p.1.0 p.1.1.0 (lemmas_same 0 x.lemmas y.lemmas p.1.1.1)
  where
    by_fields : (a k b m c n : ℕ) (ds es : List Derived) → a ≡ k → b ≡ m → c ≡ n → ds ≡ es
        → ◌≡◌ {A = Certificate} (record { columns = a; atoms = b; clauses = c; lemmas = ds }) (record { columns = k; atoms = m; clauses = n; lemmas = es })
    by_fields a k b m c n ds es p q r t = cc

certs : Typed cert_format opening cert_table IsCertText (λ _. Unit {0})
certs = record { is = cert_is; of = cert_of; sized = λ bytes c is. tt; same = cert_same }

-- ---- what the call gives, in the words of certificates

abbrev said : Result Cert ReadFault → Result Certificate ReadFault
said (Ok cert) = Ok (certificate cert)
said (Err fault) = Err fault

given_by : (bytes : List ℕ) (result : Result Cert ReadFault) → GivesRead (λ cert. cert_table (certificate cert)) result (read_text cert_format opening bytes) → GivesText cert_table (said result) (read_text cert_format opening bytes)
given_by bytes (Ok cert) given = given
given_by bytes (Err fault) given = given

any : (result : Result Certificate ReadFault) → IfOk result (λ _. Unit {0})
any (Ok c) = tt
any (Err fault) = tt

pub is_found : (bytes : List ℕ) (result : Result Cert ReadFault) → GivesRead (λ cert. cert_table (certificate cert)) result (read_text cert_format opening bytes) → IfOk result (λ cert. IsCertText bytes (certificate cert))
is_found bytes (Ok cert) given = typed.is_found cert_format opening cert_table IsCertText (λ _. Unit {0}) certs bytes (Ok (certificate cert)) given tt
is_found bytes (Err fault) given = tt

pub is_read : (bytes : List ℕ) (result : Result Cert ReadFault) → GivesRead (λ cert. cert_table (certificate cert)) result (read_text cert_format opening bytes) → (c : Certificate) → IsCertText bytes c → GivesCert result c
is_read bytes (Ok cert) given c is =
    let known = typed.is_read cert_format opening cert_table IsCertText (λ _. Unit {0}) certs bytes (Ok (certificate cert)) given tt c is in
    ok_same c (certificate cert) known
  where
    ok_same : (x y : Certificate) → ◌≡◌ {A = Result Certificate Refusal} (Ok x) (Ok y) → y ≡ x
    ok_same x y e = cc
is_read bytes (Err NoMemory) given c is = tt
is_read bytes (Err (Refused r)) given c is = not_err c r (typed.is_read cert_format opening cert_table IsCertText (λ _. Unit {0}) certs bytes (Err (Refused r)) given tt c is)
  where
    not_err : (x : Certificate) (r : Refusal) → ◌≡◌ {A = Result Certificate Refusal} (Ok x) (Err r) → ⊥
    not_err x r e = cc

pub is_refused : (bytes : List ℕ) (result : Result Cert ReadFault) → GivesRead (λ cert. cert_table (certificate cert)) result (read_text cert_format opening bytes) → (r : Refusal) → IsErrOf result (Refused r) → IsRefused bytes r
is_refused bytes (Ok cert) given r is = absurd (cc)
is_refused bytes (Err fault) given r is = record { first = typed.is_refused cert_format opening cert_table bytes (Err fault) given r (err_of fault r is) }
  where
    err_of : (fault : ReadFault) (r : Refusal) → ◌≡◌ {A = Result Cert ReadFault} (Err fault) (Err (Refused r)) → ◌≡◌ {A = Result Certificate ReadFault} (Err fault) (Err (Refused r))
    err_of fault r e = cc

pub is_first : (bytes : List ℕ) (result : Result Cert ReadFault) → GivesRead (λ cert. cert_table (certificate cert)) result (read_text cert_format opening bytes) → (r : Refusal) → IsRefused bytes r → GivesUnless result (Err r)
is_first bytes (Ok cert) given r is = absurd (not_err (certificate cert) r (typed.is_first cert_format opening cert_table bytes (Ok (certificate cert)) given r is.first))
  where
    not_err : (x : Certificate) (r : Refusal) → ◌≡◌ {A = Result Certificate Refusal} (Err r) (Ok x) → ⊥
    not_err x r e = cc
is_first bytes (Err NoMemory) given r is = tt
is_first bytes (Err (Refused q)) given r is = err_of q r (typed.is_first cert_format opening cert_table bytes (Err (Refused q)) given r is.first)
  where
    err_of : (q r : Refusal) → ◌≡◌ {A = Result Certificate Refusal} (Err r) (Err q) → ◌≡◌ {A = Result Cert Refusal} (Err r) (Err q)
    err_of q r e = cc

-- ---- a text is one certificate, or has one refusal

pub one_certificate : (bytes : List ℕ) (c d : Certificate) → IsCertText bytes c → IsCertText bytes d → c ≡ d
one_certificate bytes c d p q = typed.one_value cert_format opening cert_table IsCertText (λ _. Unit {0}) certs bytes c d p q

pub one_refusal : (bytes : List ℕ) (r s : Refusal) → IsRefused bytes r → IsRefused bytes s → r ≡ s
one_refusal bytes r s p q = typed.one_refusal cert_format opening bytes r s p.first q.first

pub not_both : (bytes : List ℕ) (r : Refusal) (c : Certificate) → IsRefused bytes r → IsCertText bytes c → ⊥
not_both bytes r c p q = typed.not_both cert_format opening cert_table IsCertText (λ _. Unit {0}) certs bytes r c p.first q

pub certificate_or_refusal : (bytes : List ℕ) → ((c : Certificate) × IsCertText bytes c) ⊎ ((r : Refusal) × IsRefused bytes r)
certificate_or_refusal bytes = elim (typed.value_or_refusal cert_format opening cert_table IsCertText (λ _. Unit {0}) certs bytes) [
  | inl x ↦ inl x
  | inr x ↦ inr (x.0, record { first = x.1 })
]
