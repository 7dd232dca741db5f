-- What a parse gives is what is asked for.
use Rattle.std.proofs.Common.{◌≡◌, ◌∙◌, inl, inr, Bool, true, false, List, [], Option, Some, None, ap, ap₂, sym, subst, codes, drop}
use Rattle.std.specs.List.{filter_map}
use Rattle.std.proofs.lemmas.Bool.{and_parts}
use Rattle.clap.specs.Faults.{fault_of, is_simple_and_free}
use Rattle.clap.specs.Kinds.{HasKind}
use Rattle.clap.specs.Matches.{first_value, found_of, one_text}
use Rattle.clap.specs.Simple.{App, HasMatchesOf, matches_of}
use Rattle.clap.specs.Values.{kind_of}
use Rattle.clap.specs.Walk.{Text, first_of, one_of, rows_of}
use Rattle.clap.specs.declared.error.Error.{Error}
use Rattle.clap.specs.declared.error.kind.ErrorKind.TheVariants as kind
use Rattle.clap.specs.declared.parser.matches.ArgMatches.{ArgMatches}
use Rattle.clap.proofs.WalkLemmas.{first_value-rows, one_text-rows}
use Rattle.command_words.specs.Clap.{all_names, app_by}
use Rattle.command_words.specs.Forms.{Entry, asked_by, is_entry}
use Rattle.command_words.proofs.Verdicts.{Verdict, is_built, verdict}
use Rattle.std.proofs.lemmas.Bool.{leb-true}
use Rattle.std.specs.Prelude.{nat_le, if◌then◌else◌}

entry_is_simple : (entry : Entry) → is_entry entry ≡ true → is_simple_and_free (app_by entry) ≡ true
entry_is_simple entry fits = (is_built entry.least entry.most (leb-true _ _ (and_parts (nat_le entry.least entry.most) (nat_le entry.most 4) fits).1)).simple

-- a text that is one of two, told by a test
told_by : (given json : Bool) (text : Option Text) → text ≡ Some (if given then codes "true" else codes "false")
    → (text ≡ Some (codes "true") → json ≡ true) → (text ≡ Some (codes "false") → json ≡ false) → json ≡ given
told_by true json text is set unset = set is
told_by false json text is set unset = unset is

pub taken : (entry : Entry) (a : App) (words : List Text) (m : ArgMatches) (values : List Text) (json : Bool) → is_entry entry ≡ true → a ≡ app_by entry
    → (is_simple_and_free a ≡ true → fault_of a words ≡ []) → HasMatchesOf a words m
    → values ≡ filter_map (first_value (found_of m)) all_names
    → (one_text (found_of m) (codes "json") ≡ Some (codes "true") → json ≡ true) → (one_text (found_of m) (codes "json") ≡ Some (codes "false") → json ≡ false)
    → Some (record { word = entry.word; values = values; json = json }) ≡ asked_by entry (drop 1 words)
taken entry a words m values json fits is no_fault has found set unset = by (verdict entry fits words)
  where
    simple : is_simple_and_free a ≡ true
    simple = ap is_simple_and_free is ∙ entry_is_simple entry fits

    rows_are : rows_of (found_of m) ≡ matches_of (app_by entry) words
    rows_are = (has (and_parts _ _ simple).0).0 ∙ ap (λ b. matches_of b words) is

    values_are : values ≡ filter_map (λ name. first_of name (matches_of (app_by entry) words)) all_names
    values_are = found ∙ (λ i. filter_map (λ name. first_value-rows (found_of m) name i) all_names) ∙ ap (λ rows. filter_map (λ name. first_of name rows) all_names) rows_are

    flag_is : one_text (found_of m) (codes "json") ≡ one_of (codes "json") (matches_of (app_by entry) words)
    flag_is = one_text-rows (found_of m) (codes "json") ∙ ap (one_of (codes "json")) rows_are

    by : Verdict entry words → Some (record { word = entry.word; values = values; json = json }) ≡ asked_by entry (drop 1 words)
    by (inl v) =
        ap₂ (λ (vs : List Text) (j : Bool). Some (record { word = entry.word; values = vs; json = j })) (values_are ∙ v.2.values_found) (told_by v.0 json _ (flag_is ∙ v.2.flag_found) set unset)
        ∙ sym v.1
    by (inr v) = absurd (v.1 (sym (ap (λ b. fault_of b words) is) ∙ no_fault simple))

pub not_taken : (entry : Entry) (a : App) (words : List Text) (e : Error) → is_entry entry ≡ true → a ≡ app_by entry
    → (is_simple_and_free a ≡ true → HasKind (fault_of a words) e) → (kind_of e ≡ kind.OutOfMemory → ⊥) → None ≡ asked_by entry (drop 1 words)
not_taken entry a words e fits is faulty other = by (verdict entry fits words)
  where
    kinds : HasKind (fault_of (app_by entry) words) e
    kinds = subst (λ b. HasKind (fault_of b words) e) is (faulty (ap is_simple_and_free is ∙ entry_is_simple entry fits))

    in_none : HasKind [] e → ⊥
    in_none (inl memory) = other memory
    in_none (inr nothing) = nothing

    by : Verdict entry words → None ≡ asked_by entry (drop 1 words)
    by (inl v) = absurd (in_none (subst (λ ks. HasKind ks e) v.2.fault kinds))
    by (inr v) = sym v.0
