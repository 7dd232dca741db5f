-- What an answer says, in words, follows from the verdict that it is.
use Rattle.std.proofs.Common.{◌≡◌, ◌≢◌, ℕ, zero, suc, ◌<◌, List, [], ◌∷◌, length, get_or, All, Some, slice_get, refl, sym, ◌∙◌, ap, subst, arith}
use Rattle.linear_form.specs.declared.lists.Form.{Form}
use Rattle.linear_form.specs.declared.lists.Term.{Term}
use Rattle.farkas_cert.specs.declared.certificates.Cert.{Cert}
use Rattle.clause_form.specs.declared.clauses.Clauses.{Clauses}
use Rattle.clause_form.specs.WellFormed.{IsGoodForm, IsWellFormed}
use Rattle.cert_check.specs.declared.found.Checked.{Checked}
use Rattle.cert_check.specs.declared.found.Checked.TheVariants.{Proved, Fails, Wide, NoMemory}
use Rattle.cert_check.specs.Answers.{named, answer_of, IsAnswer, SaysProved, SaysFailed, SaysOverflowed}
use Rattle.cert_check.specs.NoModel.{TermsBelow, HasColumnsBelow, HasNoModel}
use Rattle.cert_check.specs.Verdicts.{Verdict, proved, fails, wide, verdict}
use Rattle.cert_check.proofs.NoModel.{no_model}
use Rattle.cert_check.proofs.VerdictLaws.{each_has_a_verdict}

answered : (result answer : Checked) → IsAnswer result answer → result ≢ NoMemory → result ≡ answer
answered Proved answer is some = is
answered (Fails l n k) answer is some = is
answered (Wide l n k) answer is some = is
answered NoMemory answer is some = absurd (some refl)

answers : (result seen answer : Checked) → IsAnswer result answer → result ≡ seen → seen ≢ NoMemory → seen ≡ answer
answers result seen answer is same some =
    sym same ∙ answered result answer is (λ none. some (sym same ∙ none))

is_proved : (v : Verdict) → Proved ≡ answer_of v → v ≡ proved
unfolding answer_of
is_proved proved e = refl
is_proved (fails l n k) e = absurd (cc)
is_proved (wide l n k) e = absurd (cc)

is_failed : (v : Verdict) (l n k : ℕ) → Fails l n k ≡ answer_of v → (lemma : ℕ) × (node : ℕ) × (l ≡ named lemma) × (n ≡ named node) × (v ≡ fails lemma node k)
unfolding answer_of
is_failed proved l n k e = absurd (cc)
is_failed (fails a b d) l n k e =
    let first : l ≡ named a = cc in
    let second : n ≡ named b = cc in
    let third : d ≡ k = cc in
    (a, b, first, second, ap (fails a b) third)
is_failed (wide a b d) l n k e = absurd (cc)

is_wide : (v : Verdict) (l n k : ℕ) → Wide l n k ≡ answer_of v → (lemma : ℕ) × (node : ℕ) × (l ≡ named lemma) × (n ≡ named node) × (v ≡ wide lemma node k)
unfolding answer_of
is_wide proved l n k e = absurd (cc)
is_wide (fails a b d) l n k e = absurd (cc)
is_wide (wide a b d) l n k e =
    let first : l ≡ named a = cc in
    let second : n ≡ named b = cc in
    let third : d ≡ k = cc in
    (a, b, first, second, ap (wide a b) third)

pub says_proved : (c : Clauses) (cert : Cert) (result : Checked) → IsAnswer result (answer_of (verdict c cert)) → SaysProved c cert result
unfolding answer_of
says_proved c cert result is = record {
  only = λ same. let law = each_has_a_verdict c cert in law.proves.0 (is_proved (verdict c cert) (answers result Proved (answer_of (verdict c cert)) is same (λ e. cc)));
  always = λ some proves within. let law = each_has_a_verdict c cert in answered result (answer_of (verdict c cert)) is some ∙ ap answer_of (law.proves.1 (proves, within));
}

pub says_failed : (c : Clauses) (cert : Cert) (result : Checked) → IsAnswer result (answer_of (verdict c cert)) → SaysFailed c cert result
unfolding answer_of
says_failed c cert result is = record {
  only = λ l n k same. let v = is_failed (verdict c cert) l n k (answers result (Fails l n k) (answer_of (verdict c cert)) is same (λ e. cc)) in let law = each_has_a_verdict c cert in (v.0, v.1, v.2, v.3, (law.failed v.0 v.1 k).0 v.4);
  always = λ some l n k first. let law = each_has_a_verdict c cert in answered result (answer_of (verdict c cert)) is some ∙ ap answer_of ((law.failed l n k).1 first);
}

pub says_overflowed : (c : Clauses) (cert : Cert) (result : Checked) → IsAnswer result (answer_of (verdict c cert)) → SaysOverflowed c cert result
unfolding answer_of
says_overflowed c cert result is = record {
  only = λ l n k same. let v = is_wide (verdict c cert) l n k (answers result (Wide l n k) (answer_of (verdict c cert)) is same (λ e. cc)) in let law = each_has_a_verdict c cert in (v.0, v.1, v.2, v.3, (law.overflowed v.0 v.1 k).0 v.4);
  always = λ some l n k first. let law = each_has_a_verdict c cert in answered result (answer_of (verdict c cert)) is some ∙ ap answer_of ((law.overflowed l n k).1 first);
}

pub equal_answer : (result answer : Checked) → result ≡ answer → IsAnswer result answer
equal_answer Proved answer e = e
equal_answer (Fails l n k) answer e = e
equal_answer (Wide l n k) answer e = e
equal_answer NoMemory answer e = tt

terms_below : (columns : ℕ) (ts : List Term) → All (λ t. t.column < columns) ts → TermsBelow columns ts
terms_below columns [] all = tt
terms_below columns (t ∷ ts) all =
    (all 0 t (omega arith), terms_below columns ts (λ i d less. all (suc i) d (omega arith)))

forms_below : (columns : ℕ) (forms : List Form) → ((j : ℕ) (f : Form) → slice_get forms j ≡ Some f → IsGoodForm columns f) → HasColumnsBelow columns forms
forms_below columns [] good = tt
forms_below columns (f ∷ fs) good =
    let here = good 0 f refl in
    (terms_below columns f.terms here.in_range, forms_below columns fs (λ j g e. good (suc j) g e))

pub proved_no_model : (c : Clauses) (cert : Cert) (result : Checked) → IsWellFormed c → SaysProved c cert result → result ≡ Proved → HasNoModel c
proved_no_model c cert result formed says same =
    no_model c cert (forms_below c.columns c.forms formed.forms) (says.only same).0
