-- Lines that are resolved one after another: what came before, and what is still to come.
use Rattle.std.proofs.Common.{◌≡◌, ℕ, ◌+◌, ◌-◌, ◌<◌, ◌≤◌, Bool, nat_eq, Result, Ok, Err, List, [], ◌∷◌, ◌++◌, length, get_or, take, drop, drop_of_length-le, length-drop, refl, sym, ap, ◌∙◌, arith}
use Rattle.std.specs.List.{list_any}
use Rattle.std.proofs.lemmas.List.{drop_more, take_more, append-nil}
use Rattle.text_lines.specs.Steps.{Fails}
use Rattle.text_lines.proofs.StepLaws.{with_front, regroup}
use Rattle.whole.specs.declared.answers.ReadFault.{ReadFault}
use Rattle.whole.specs.declared.answers.ReadFault.TheVariants.{Refused, NoMemory}
use Rattle.whole.specs.declared.answers.Refusal.{Refusal}
use Rattle.std.proofs.lemmas.Bool.Decides.{nat_tests}
use Rattle.ctrl_syntax.specs.declared.syntax.StateLine.{StateLine}
use Rattle.ctrl_syntax.specs.declared.syntax.SetLine.{SetLine}
use Rattle.ctrl_syntax.specs.declared.syntax.RuleLine.{RuleLine}
use Rattle.ctrl_syntax.specs.Sections.{rule_of, rules_of}
use Rattle.ctrl_types.specs.declared.breaches.Breach.{Breach}
use Rattle.ctrl_types.specs.declared.breaches.ResolveStop.{ResolveStop}
use Rattle.ctrl_types.specs.declared.breaches.ResolveStop.TheVariants as halts
use Rattle.ctrl_types.specs.declared.controllers.State.{State}
use Rattle.ctrl_types.specs.declared.surveys.Totals.{Totals}
use Rattle.ctrl_types.specs.Names.{has_name}
use Rattle.ctrl_types.specs.Statements.{is_empty, refusal_of}
use Rattle.ctrl_types.specs.Resolving.{Halts, Places, SeenRule, fault_of, rule_by, rules_by, set_by, sets_by, state_by, states_by}

-- the element at this place is the next
next_is : {X : Type 0} (items : List X) (i : ℕ) (x : X) → x ≡ get_or items i x → i < length items → drop i items ≡ x ∷ drop (i + 1) items
next_is items i x here inside = drop_more items i x inside ∙ ap (λ (y : _). y ∷ drop (i + 1) items) (sym here)

pub taken_is : {X : Type 0} (items : List X) (i : ℕ) (x : X) → x ≡ get_or items i x → i < length items → take (i + 1) items ≡ take i items ++ x ∷ []
taken_is items i x here inside = take_more items i x inside ∙ ap (λ (y : _). take i items ++ y ∷ []) (sym here)

-- ---- states

module _ (lines : List StateLine) (i den : ℕ) (front : List State) (total : Result (List State × ℕ) Refusal)
    (so_far : with_front front (states_by (take i lines) (drop i lines) den) ≡ total) where
  -- what is resolved of a line whose name is an earlier state's, or isn't
  read_so : (s : StateLine) (is_taken : Bool) (read : Result (State × ℕ) Breach) → is_taken ≡ list_any (has_name s.name) (take i lines) → state_by is_taken s den ≡ read
      → state_by (list_any (has_name s.name) (take i lines)) s den ≡ read
  read_so s is_taken read taken is = ap (λ (b : Bool). state_by b s den) (sym taken) ∙ is

  pub states_go_on : (s : StateLine) (is_taken : Bool) (made : State) (next : ℕ) → s ≡ get_or lines i s → i < length lines
      → is_taken ≡ list_any (has_name s.name) (take i lines) → state_by is_taken s den ≡ Ok (made, next)
      → with_front (front ++ made ∷ []) (states_by (take (i + 1) lines) (drop (i + 1) lines) next) ≡ total
  unfolding states_by
  states_go_on s is_taken made next here inside taken is =
      let rest = next_is lines i s here inside in
      let before = taken_is lines i s here inside in
      let read = read_so s is_taken (Ok (made, next)) taken is in
      let one : with_front front (states_by (take i lines) (drop i lines) den) ≡ with_front (front ++ made ∷ []) (states_by (take i lines ++ s ∷ []) (drop (i + 1) lines) next) =
      rw (rest, read) (regroup front made (states_by (take i lines ++ s ∷ []) (drop (i + 1) lines) next)) in
      ap (λ (earlier : List StateLine). with_front (front ++ made ∷ []) (states_by earlier (drop (i + 1) lines) next)) before ∙ sym one ∙ so_far

  states_stop : (s : StateLine) (is_taken : Bool) (breach : Breach) → s ≡ get_or lines i s → i < length lines
      → is_taken ≡ list_any (has_name s.name) (take i lines) → state_by is_taken s den ≡ Err breach → total ≡ Err (refusal_of breach s.line)
  unfolding states_by
  states_stop s is_taken breach here inside taken is =
      let rest = next_is lines i s here inside in
      let read = read_so s is_taken (Err breach) taken is in
      let one : with_front front (states_by (take i lines) (drop i lines) den) ≡ Err (refusal_of breach s.line) = rw (rest, read) refl in
      sym so_far ∙ one

  pub states_fail : (s : StateLine) (is_taken : Bool) (halt : ResolveStop) → s ≡ get_or lines i s → i < length lines
      → is_taken ≡ list_any (has_name s.name) (take i lines) → Halts halt (state_by is_taken s den) → Fails (fault_of halt s.line) total
  states_fail s is_taken halts.NoMemory here inside taken is = tt
  states_fail s is_taken (halts.Broken breach) here inside taken is = states_stop s is_taken breach here inside taken is

  pub states_end : length lines ≤ i → total ≡ Ok (front, den)
  unfolding states_by
  states_end done =
      let one : with_front front (states_by (take i lines) (drop i lines) den) ≡ Ok (front, den) = rw (drop_of_length-le lines done) (ap (λ (xs : List State). Ok (xs, den)) (append-nil front)) in
      sym so_far ∙ one

-- ---- assignments

module _ (states : List StateLine) (lines : List SetLine) (i : ℕ) (places : Places) (den : ℕ) (total : Result (Places × ℕ) Refusal)
    (so_far : sets_by states (drop i lines) places den ≡ total) where
  pub sets_go_on : (s : SetLine) (filled : Places) (next : ℕ) → s ≡ get_or lines i s → i < length lines → set_by states s places den ≡ Ok (filled, next)
      → sets_by states (drop (i + 1) lines) filled next ≡ total
  unfolding sets_by
  sets_go_on s filled next here inside read =
      let rest = next_is lines i s here inside in
      let one : sets_by states (drop i lines) places den ≡ sets_by states (drop (i + 1) lines) filled next = rw (rest, read) refl in
      sym one ∙ so_far

  sets_stop : (s : SetLine) (breach : Breach) → s ≡ get_or lines i s → i < length lines → set_by states s places den ≡ Err breach → total ≡ Err (refusal_of breach s.line)
  unfolding sets_by
  sets_stop s breach here inside read =
      let rest = next_is lines i s here inside in
      let one : sets_by states (drop i lines) places den ≡ Err (refusal_of breach s.line) = rw (rest, read) refl in
      sym so_far ∙ one

  pub sets_fail : (s : SetLine) (halt : ResolveStop) → s ≡ get_or lines i s → i < length lines → Halts halt (set_by states s places den) → Fails (fault_of halt s.line) total
  sets_fail s halts.NoMemory here inside read = tt
  sets_fail s (halts.Broken breach) here inside read = sets_stop s breach here inside read

  pub sets_end : length lines ≤ i → total ≡ Ok (places, den)
  unfolding sets_by
  sets_end done =
      let one : sets_by states (drop i lines) places den ≡ Ok (places, den) = rw (drop_of_length-le lines done) refl in
      sym so_far ∙ one

-- ---- rules

last_is : (items : List RuleLine) (i : ℕ) → i < length items → nat_eq (i + 1) (length items) ≡ is_empty (rules_of (drop (i + 1) items))
last_is items i inside = by (drop (i + 1) items) (length-drop (i + 1) items)
  where
    by : (rest : List RuleLine) → length rest ≡ length items - (i + 1) → nat_eq (i + 1) (length items) ≡ is_empty (rules_of rest)
    by [] count = let e : i + 1 ≡ length items = omega arith in grind (arith, nat_tests)
    by (x ∷ rest) count = let e : i + 1 < length items = omega arith in grind (arith, nat_tests)

module _ (states : List StateLine) (lines : List RuleLine) (i : ℕ) (totals : Totals) (front : List SeenRule) (total : Result (List SeenRule × Totals) Refusal)
    (so_far : with_front front (rules_by states (rules_of (drop i lines)) totals) ≡ total) where
  pub rules_go_on : (r : RuleLine) (is_last : Bool) (made : SeenRule) (next : Totals) → r ≡ get_or lines i r → i < length lines → is_last ≡ nat_eq (i + 1) (length lines)
      → rule_by states is_last (rule_of r) totals ≡ Ok (made, next) → with_front (front ++ made ∷ []) (rules_by states (rules_of (drop (i + 1) lines)) next) ≡ total
  unfolding rules_by
  rules_go_on r is_last made next here inside last read =
      let rest = next_is lines i r here inside in
      let made_so : rule_by states (is_empty (rules_of (drop (i + 1) lines))) (rule_of r) totals ≡ Ok (made, next) =
      ap (λ b. rule_by states b (rule_of r) totals) (sym (last ∙ last_is lines i inside)) ∙ read in
      let one : with_front front (rules_by states (rules_of (drop i lines)) totals) ≡ with_front (front ++ made ∷ []) (rules_by states (rules_of (drop (i + 1) lines)) next) =
      rw (rest, made_so) (regroup front made (rules_by states (rules_of (drop (i + 1) lines)) next)) in
      sym one ∙ so_far

  rules_stop : (r : RuleLine) (is_last : Bool) (refusal : Refusal) → r ≡ get_or lines i r → i < length lines → is_last ≡ nat_eq (i + 1) (length lines)
      → rule_by states is_last (rule_of r) totals ≡ Err refusal → total ≡ Err refusal
  unfolding rules_by
  rules_stop r is_last refusal here inside last read =
      let rest = next_is lines i r here inside in
      let failed : rule_by states (is_empty (rules_of (drop (i + 1) lines))) (rule_of r) totals ≡ Err refusal =
      ap (λ b. rule_by states b (rule_of r) totals) (sym (last ∙ last_is lines i inside)) ∙ read in
      let one : with_front front (rules_by states (rules_of (drop i lines)) totals) ≡ Err refusal = rw (rest, failed) refl in
      sym so_far ∙ one

  pub rules_fail : (r : RuleLine) (is_last : Bool) (fault : ReadFault) → r ≡ get_or lines i r → i < length lines → is_last ≡ nat_eq (i + 1) (length lines)
      → Fails fault (rule_by states is_last (rule_of r) totals) → Fails fault total
  rules_fail r is_last NoMemory here inside last read = tt
  rules_fail r is_last (Refused refusal) here inside last read = rules_stop r is_last refusal here inside last read

  pub rules_end : length lines ≤ i → total ≡ Ok (front, totals)
  unfolding rules_by
  rules_end done =
      let one : with_front front (rules_by states (rules_of (drop i lines)) totals) ≡ Ok (front, totals) = rw (drop_of_length-le lines done) (ap (λ (xs : List SeenRule). Ok (xs, totals)) (append-nil front)) in
      sym so_far ∙ one
