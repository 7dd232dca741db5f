-- What names stand for: exactly what stands by the cases of the name.
use Rattle.std.proofs.Common.{◌≡◌, ℕ, ◌≤◌, Bool, true, false, cond, Option, Some, None, List, refl, ap, subst, ◌∙◌, arith}
use Rattle.std.specs.Prelude.{codes, nat_le, ◌&&◌, nat_eq, is_none}
use Rattle.std.specs.Option.{option_map, option_and_then}
use Rattle.std.specs.Str.{bytes_eq}
use Rattle.std.proofs.lemmas.Grind.{common_steps}
use Rattle.std.proofs.lemmas.Slice.Eq.{bytes_eq-Decides}
use Rattle.path_server.specs.declared.settings.Setting.{Setting}
use Rattle.condition_syntax.specs.declared.expressions.Name.{Name}
use Rattle.ctrl_types.specs.declared.controllers.State.{State}
use Rattle.question_text.specs.declared.conditions.Of.{Of}
use Rattle.question_text.specs.declared.conditions.Of.TheVariants.{Credit, W, X}
use Rattle.question_text.specs.declared.names.Count.{Count}
use Rattle.question_text.specs.declared.names.Count.TheVariants.{Arrived, Served, Lost}
use Rattle.question_text.specs.NamedValues.{IsFlow, IsStateWord, StandsFor, credit, waste, all_counted, counted, only_state, own_state, count_named, count_of, count_or_state, credit_of, entry_of, flow_in, flow_or_all, flow_or_only, of_named, state_named, state_value_of, step_in, waste_of}

-- ---- options

pub record AndThen {X Y : Type 0} (o : Option X) (g : X → Option Y) (y : Y) : Type 0 where
  pub value : X
  pub is : o ≡ Some value
  pub then : g value ≡ Some y

and_then_taken : {X Y : Type 0} (g : X → Option Y) (o : Option X) (y : Y) → option_and_then g o ≡ Some y → AndThen o g y
and_then_taken g None y e = absurd (cc)
and_then_taken g (Some x) y e = record { value = x; is = refl; then = e }

pub record Mapped {X Y : Type 0} (o : Option X) (h : X → Y) (y : Y) : Type 0 where
  pub value : X
  pub is : o ≡ Some value
  pub same : h value ≡ y

map_taken : {X Y : Type 0} (h : X → Y) (o : Option X) (y : Y) → option_map h o ≡ Some y → Mapped o h y
map_taken h None y e = absurd (cc)
map_taken h (Some x) y e = record { value = x; is = refl; same = cc }

pub same_text : (w v : List ℕ) → bytes_eq w v ≡ true → w ≡ v
same_text w v e = grind (arith, common_steps, bytes_eq-Decides)

-- ---- steps and flows

record IsStepIn (s : Setting) (o : Option ℕ) (t : ℕ) : Type 0 where
  is : o ≡ Some t
  to : t ≤ s.steps

step_taken : (s : Setting) (o : Option ℕ) (t : ℕ) → step_in s o ≡ Some t → IsStepIn s o t
unfolding step_in
step_taken s None t e = absurd (cc)
step_taken s (Some u) t e = by (nat_le u s.steps) refl e
  where
    by : (b : Bool) → nat_le u s.steps ≡ b → cond b (Some u) None ≡ Some t → IsStepIn s (Some u) t
    by true p q = let same : u ≡ t = cc in record { is = ap (λ (n : ℕ). Some n) same; to = subst (λ (n : ℕ). n ≤ s.steps) same (grind (arith, common_steps)) }
    by false p q = absurd (cc)

step_again : (s : Setting) (t : ℕ) → t ≤ s.steps → step_in s (Some t) ≡ Some t
unfolding step_in
step_again s t to = let e : nat_le t s.steps ≡ true = grind (arith, common_steps) in ap (λ (b : Bool). cond b (Some t) None) e

record IsFlowIn (s : Setting) (f g : ℕ) : Type 0 where
  is : f ≡ g
  within : IsFlow s g

flow_taken : (s : Setting) (f g : ℕ) → flow_in s f ≡ Some g → IsFlowIn s f g
flow_taken s f g e = by (nat_le 1 f) (nat_le f s.flows) refl refl e
  where
    by : (a b : Bool) → nat_le 1 f ≡ a → nat_le f s.flows ≡ b → cond (a && b) (Some f) None ≡ Some g → IsFlowIn s f g
    by true true p q e =
        let same : f ≡ g = cc in
        record { is = same; within = subst (IsFlow s) same (record { from = grind (arith, common_steps); to = grind (arith, common_steps) }) }
    by true false p q e = absurd (cc)
    by false b p q e = absurd (cc)

flow_again : (s : Setting) (f : ℕ) → IsFlow s f → flow_in s f ≡ Some f
flow_again s f is =
    let from = is.from in
    let to = is.to in
    let one : nat_le 1 f ≡ true = grind (arith, common_steps) in
    let two : nat_le f s.flows ≡ true = grind (arith, common_steps) in
    ap (λ (b : Bool). cond (b && nat_le f s.flows) (Some f) None) one ∙ ap (λ (b : Bool). cond b (Some f) None) two

-- ---- the words of what is counted

unfoldable pub count_word : Count → List ℕ
count_word Arrived = codes "A"
count_word Served = codes "S"
count_word Lost = codes "L"

pub word_counted : (count : Count) → count_named (count_word count) ≡ Some count
unfolding count_named count_word
word_counted Arrived = refl
word_counted Served = refl
word_counted Lost = refl

pub counted_word : (w : List ℕ) (count : Count) → count_named w ≡ Some count → w ≡ count_word count
unfolding count_named count_word
counted_word w count e = by (bytes_eq w (codes "A")) (bytes_eq w (codes "S")) (bytes_eq w (codes "L")) refl refl refl e
  where
    same : (k l : Count) → Some k ≡ Some l → k ≡ l
    same k l e = cc

    by : (a b d : Bool) → bytes_eq w (codes "A") ≡ a → bytes_eq w (codes "S") ≡ b → bytes_eq w (codes "L") ≡ d
        → cond a (Some Arrived) (cond b (Some Served) (cond d (Some Lost) None)) ≡ Some count → w ≡ count_word count
    by true b d p q r e = same_text w (codes "A") p ∙ ap count_word (same Arrived count e)
    by false true d p q r e = same_text w (codes "S") q ∙ ap count_word (same Served count e)
    by false false true p q r e = same_text w (codes "L") r ∙ ap count_word (same Lost count e)
    by false false false p q r e = absurd (cc)

-- ---- the cases of a name

module _ (states : List State) (s : Setting) (x : Name) where
  credit_taken : (of : Of) → x.text ≡ codes "credit" → credit_of x ≡ Some of → StandsFor states s x of
  unfolding credit_of
  credit_taken of text e = by x.flow x.step refl refl e
    where
      by : (f t : Option ℕ) → x.flow ≡ f → x.step ≡ t → cond (is_none f && is_none t) (Some Credit) None ≡ Some of → StandsFor states s x of
      by None None p q e = let same : Credit ≡ of = cc in subst (StandsFor states s x) same (credit text p q)
      by None (Some t) p q e = absurd (cc)
      by (Some f) t p q e = absurd (cc)

  waste_taken : (of : Of) → x.text ≡ codes "W" → waste_of s x ≡ Some of → StandsFor states s x of
  unfolding waste_of
  waste_taken of text e = by x.flow refl e
    where
      by : (f : Option ℕ) → x.flow ≡ f → cond (is_none f) (option_map W (step_in s x.step)) None ≡ Some of → StandsFor states s x of
      by None p e =
          let made = map_taken W (step_in s x.step) of e in
          let step = step_taken s x.step made.value made.is in
          subst (StandsFor states s x) made.same (waste text p step.is step.to)
      by (Some f) p e = absurd (cc)

  count_taken : (count : Count) (of : Of) → count_named x.text ≡ Some count → count_of s count x ≡ Some of → StandsFor states s x of
  unfolding count_of flow_or_all
  count_taken count of named e = by x.flow refl e
    where
      by : (f : Option ℕ) → x.flow ≡ f → option_and_then (λ g. option_map (entry_of count g) (step_in s x.step)) (flow_or_all s f) ≡ Some of → StandsFor states s x of
      by None p e =
          let made = map_taken (entry_of count 0) (step_in s x.step) of e in
          let step = step_taken s x.step made.value made.is in
          subst (StandsFor states s x) made.same (all_counted named p step.is step.to)
      by (Some f) p e =
          let flow = and_then_taken (λ g. option_map (entry_of count g) (step_in s x.step)) (flow_in s f) of e in
          let is = flow_taken s f flow.value flow.is in
          let made = map_taken (entry_of count flow.value) (step_in s x.step) of flow.then in
          let step = step_taken s x.step made.value made.is in
          subst (StandsFor states s x) made.same (counted named (p ∙ ap (λ (n : ℕ). Some n) is.is) is.within step.is step.to)

  state_taken : (of : Of) → IsStateWord x.text → state_value_of states s x ≡ Some of → StandsFor states s x of
  unfolding state_value_of flow_or_only
  state_taken of own e =
      let named = and_then_taken (λ j. option_and_then (λ f. option_map (X j f) (step_in s x.step)) (flow_or_only s x.flow)) (state_named states x.text) of e in
      by named.value named.is x.flow refl named.then
    where
      only : (j : ℕ) → state_named states x.text ≡ Some j → x.flow ≡ None → (b : Bool) → nat_eq s.flows 1 ≡ b
          → option_and_then (λ f. option_map (X j f) (step_in s x.step)) (cond b (Some 1) None) ≡ Some of → StandsFor states s x of
      only j named p true q e =
          let made = map_taken (X j 1) (step_in s x.step) of e in
          let step = step_taken s x.step made.value made.is in
          subst (StandsFor states s x) made.same (only_state own named p (grind (arith, common_steps)) step.is step.to)
      only j named p false q e = absurd (cc)

      by : (j : ℕ) → state_named states x.text ≡ Some j → (f : Option ℕ) → x.flow ≡ f
          → option_and_then (λ g. option_map (X j g) (step_in s x.step)) (flow_or_only s f) ≡ Some of → StandsFor states s x of
      by j named None p e = only j named p (nat_eq s.flows 1) refl e
      by j named (Some f) p e =
          let flow = and_then_taken (λ g. option_map (X j g) (step_in s x.step)) (flow_in s f) of e in
          let is = flow_taken s f flow.value flow.is in
          let made = map_taken (X j flow.value) (step_in s x.step) of flow.then in
          let step = step_taken s x.step made.value made.is in
          subst (StandsFor states s x) made.same (own_state own named (p ∙ ap (λ (n : ℕ). Some n) is.is) is.within step.is step.to)

  pub name_taken : (of : Of) → of_named states s x ≡ Some of → StandsFor states s x of
  unfolding of_named
  name_taken of e = by (bytes_eq x.text (codes "credit")) (bytes_eq x.text (codes "W")) (count_named x.text) refl refl refl e
    where
      by : (a b : Bool) (c : Option Count) → bytes_eq x.text (codes "credit") ≡ a → bytes_eq x.text (codes "W") ≡ b → count_named x.text ≡ c
          → cond a (credit_of x) (cond b (waste_of s x) (count_or_state states s x c)) ≡ Some of → StandsFor states s x of
      by true b c p q r e = credit_taken of (same_text x.text (codes "credit") p) e
      by false true c p q r e = waste_taken of (same_text x.text (codes "W") q) e
      by false false (Some count) p q r e = count_taken count of r e
      by false false None p q r e = state_taken of (record { no_credit = p; no_waste = q; no_count = r }) e

  -- ---- what stands by its case is found

  -- what a name of this text is looked up as
  abbrev by_text : List ℕ → Option Of
  by_text w = cond (bytes_eq w (codes "credit")) (credit_of x) (cond (bytes_eq w (codes "W")) (waste_of s x) (count_or_state states s x (count_named w)))

  step_found : (t : ℕ) → x.step ≡ Some t → t ≤ s.steps → step_in s x.step ≡ Some t
  step_found t step to = ap (step_in s) step ∙ step_again s t to

  credit_again : x.text ≡ codes "credit" → x.flow ≡ None → x.step ≡ None → of_named states s x ≡ Some Credit
  unfolding of_named credit_of
  credit_again text flow step =
      ap by_text text ∙ ap (λ (f : Option ℕ). cond (is_none f && is_none x.step) (Some Credit) None) flow
      ∙ ap (λ (t : Option ℕ). cond (is_none t) (Some Credit) None) step

  waste_again : (t : ℕ) → x.text ≡ codes "W" → x.flow ≡ None → step_in s x.step ≡ Some t → of_named states s x ≡ Some (W t)
  unfolding of_named waste_of
  waste_again t text flow step =
      ap by_text text ∙ ap (λ (f : Option ℕ). cond (is_none f) (option_map W (step_in s x.step)) None) flow ∙ ap (option_map W) step

  by_count : (count : Count) → by_text (count_word count) ≡ count_of s count x
  unfolding count_named count_word
  by_count Arrived = refl
  by_count Served = refl
  by_count Lost = refl

  count_again : (count : Count) (f t : ℕ) → count_named x.text ≡ Some count → flow_or_all s x.flow ≡ Some f → step_in s x.step ≡ Some t
      → of_named states s x ≡ Some (entry_of count f t)
  unfolding of_named count_of
  count_again count f t named flow step =
      ap by_text (counted_word x.text count named) ∙ by_count count
      ∙ ap (option_and_then (λ g. option_map (entry_of count g) (step_in s x.step))) flow ∙ ap (option_map (entry_of count f)) step

  state_again : (j f t : ℕ) → IsStateWord x.text → state_named states x.text ≡ Some j → flow_or_only s x.flow ≡ Some f → step_in s x.step ≡ Some t
      → of_named states s x ≡ Some (X j f t)
  unfolding of_named state_value_of
  state_again j f t own named flow step =
      ap (λ (b : Bool). cond b (credit_of x) (cond (bytes_eq x.text (codes "W")) (waste_of s x) (count_or_state states s x (count_named x.text)))) own.no_credit
      ∙ ap (λ (b : Bool). cond b (waste_of s x) (count_or_state states s x (count_named x.text))) own.no_waste
      ∙ ap (count_or_state states s x) own.no_count
      ∙ ap (option_and_then (λ i. option_and_then (λ g. option_map (X i g) (step_in s x.step)) (flow_or_only s x.flow))) named
      ∙ ap (option_and_then (λ g. option_map (X j g) (step_in s x.step))) flow
      ∙ ap (option_map (X j f)) step

  all_flows : x.flow ≡ None → flow_or_all s x.flow ≡ Some 0
  unfolding flow_or_all
  all_flows flow = ap (flow_or_all s) flow

  one_flow : (f : ℕ) → x.flow ≡ Some f → IsFlow s f → flow_or_all s x.flow ≡ Some f
  unfolding flow_or_all
  one_flow f flow is = ap (flow_or_all s) flow ∙ flow_again s f is

  only_flow : x.flow ≡ None → s.flows ≡ 1 → flow_or_only s x.flow ≡ Some 1
  unfolding flow_or_only
  only_flow flow one = ap (flow_or_only s) flow ∙ ap (λ (n : ℕ). cond (nat_eq n 1) (Some 1) None) one

  own_flow : (f : ℕ) → x.flow ≡ Some f → IsFlow s f → flow_or_only s x.flow ≡ Some f
  unfolding flow_or_only
  own_flow f flow is = ap (flow_or_only s) flow ∙ flow_again s f is

  pub name_again : (of : Of) → StandsFor states s x of → of_named states s x ≡ Some of
  name_again of (credit text flow step) = credit_again text flow step
  name_again of (waste {t} text flow step to) = waste_again t text flow (step_found t step to)
  name_again of (all_counted {count} {t} named flow step to) = count_again count 0 t named (all_flows flow) (step_found t step to)
  name_again of (counted {count} {f} {t} named flow within step to) = count_again count f t named (one_flow f flow within) (step_found t step to)
  name_again of (only_state {j} {t} own named flow only step to) = state_again j 1 t own named (only_flow flow only) (step_found t step to)
  name_again of (own_state {j} {f} {t} own named flow within step to) = state_again j f t own named (own_flow f flow within) (step_found t step to)
