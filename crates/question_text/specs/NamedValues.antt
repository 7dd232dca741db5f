-- What the names of a question's text stand for, and how what they stand for is named canonically.
use Rattle.std.specs.Prelude.{◌≡◌, ℕ, ◌≤◌, zero, suc, List, [], ◌∷◌, map, Bool, false, ◌&&◌, nat_le, ◌==◌, if◌then◌else◌, codes, slice_get, Option, None, Some, is_none}
use Rattle.std.specs.List.{position_from}
use Rattle.std.specs.Option.{option_map, option_and_then}
use Rattle.std.specs.Str.{bytes_eq}
use Rattle.path_server.specs.declared.settings.Setting.{Setting}
use Rattle.condition_syntax.specs.declared.expressions.Name.{Name}
use Rattle.condition_syntax.specs.declared.expressions.ETerm.{ETerm}
use Rattle.condition_syntax.specs.declared.expressions.Expr.{Expr}
use Rattle.ctrl_types.specs.declared.controllers.State.{State}
use Rattle.question_text.specs.declared.names.Count.{Count}
use Rattle.question_text.specs.declared.names.Count.TheVariants.{Arrived, Served, Lost}
use Rattle.question_text.specs.declared.conditions.Of.{Of}
use Rattle.question_text.specs.declared.conditions.Of.TheVariants.{One, Credit, W, A, S, L, X}
use Rattle.question_text.specs.declared.conditions.QTerm.{QTerm}
use Rattle.question_text.specs.declared.conditions.QLin.{QLin}

-- ---- what is named

abbrev pub has_name : List ℕ → State → Bool
has_name w s = bytes_eq s.name w

-- the number of the state with this name
unfoldable pub state_named : List State → List ℕ → Option ℕ
state_named states w = position_from (has_name w) 0 states

-- what each flow has on each row
unfoldable pub count_named : List ℕ → Option Count
count_named w = if bytes_eq w (codes "A") then Some Arrived else if bytes_eq w (codes "S") then Some Served else if bytes_eq w (codes "L") then Some Lost else None

-- a step of the setting
unfoldable pub step_in : Setting → Option ℕ → Option ℕ
step_in s None = None
step_in s (Some t) = if nat_le t s.steps then Some t else None

-- a flow of the setting
abbrev pub flow_in : Setting → ℕ → Option ℕ
flow_in s f = if nat_le 1 f && nat_le f s.flows then Some f else None

-- where none is written, the sum over all flows, which is numbered 0
unfoldable pub flow_or_all : Setting → Option ℕ → Option ℕ
flow_or_all s None = Some 0
flow_or_all s (Some f) = flow_in s f

-- where none is written, the flow that is the only one
unfoldable pub flow_or_only : Setting → Option ℕ → Option ℕ
flow_or_only s None = if s.flows == 1 then Some 1 else None
flow_or_only s (Some f) = flow_in s f

abbrev pub entry_of : Count → ℕ → ℕ → Of
entry_of Arrived f t = A f t
entry_of Served f t = S f t
entry_of Lost f t = L f t

-- the credit has neither flow nor step
unfoldable pub credit_of : Name → Option Of
credit_of x = if is_none x.flow && is_none x.step then Some Credit else None

-- the waste has no flow
unfoldable pub waste_of : Setting → Name → Option Of
waste_of s x = if is_none x.flow then option_map W (step_in s x.step) else None

unfoldable pub count_of : Setting → Count → Name → Option Of
count_of s count x = option_and_then (λ f. option_map (entry_of count f) (step_in s x.step)) (flow_or_all s x.flow)

unfoldable pub state_value_of : List State → Setting → Name → Option Of
state_value_of states s x =
    option_and_then (λ j. option_and_then (λ f. option_map (X j f) (step_in s x.step)) (flow_or_only s x.flow)) (state_named states x.text)

abbrev pub count_or_state : List State → Setting → Name → Option Count → Option Of
count_or_state states s x (Some count) = count_of s count x
count_or_state states s x None = state_value_of states s x

-- what a name stands for, if it is known
unfoldable pub of_named : List State → Setting → Name → Option Of
of_named states s x =
    if bytes_eq x.text (codes "credit") then credit_of x
    else if bytes_eq x.text (codes "W") then waste_of s x
    else count_or_state states s x (count_named x.text)

-- what a term is a multiple of: the number 1 where it has no name
unfoldable pub of_written : List State → Setting → Option Name → Option Of
of_written states s None = Some One
of_written states s (Some x) = of_named states s x

-- ---- the same by cases

-- none of the names that no state has
pub record IsStateWord (w : List ℕ) : Type 0 where
  pub no_credit : bytes_eq w (codes "credit") ≡ false
  pub no_waste : bytes_eq w (codes "W") ≡ false
  pub no_count : count_named w ≡ None

pub record IsFlow (s : Setting) (f : ℕ) : Type 0 where
  pub from : 1 ≤ f
  pub to : f ≤ s.flows

-- `credit`; `W@t`; `A@t` for all flows, `A.f@t` for one, and so S and L; `x.f@t` for a state, or `x@t` where there is one flow
pub data StandsFor (states : List State) (s : Setting) (x : Name) : Of → Type 0 where
  credit : x.text ≡ codes "credit" → x.flow ≡ None → x.step ≡ None → StandsFor states s x Credit
  waste : {t : ℕ} → x.text ≡ codes "W" → x.flow ≡ None → x.step ≡ Some t → t ≤ s.steps → StandsFor states s x (W t)
  all_counted : {count : Count} {t : ℕ} → count_named x.text ≡ Some count → x.flow ≡ None → x.step ≡ Some t → t ≤ s.steps → StandsFor states s x (entry_of count 0 t)
  counted : {count : Count} {f t : ℕ} → count_named x.text ≡ Some count → x.flow ≡ Some f → IsFlow s f → x.step ≡ Some t → t ≤ s.steps → StandsFor states s x (entry_of count f t)
  only_state : {j t : ℕ} → IsStateWord x.text → state_named states x.text ≡ Some j → x.flow ≡ None → s.flows ≡ 1 → x.step ≡ Some t → t ≤ s.steps → StandsFor states s x (X j 1 t)
  own_state : {j f t : ℕ} → IsStateWord x.text → state_named states x.text ≡ Some j → x.flow ≡ Some f → IsFlow s f → x.step ≡ Some t → t ≤ s.steps → StandsFor states s x (X j f t)

-- ---- the expression that is meant

abbrev pub term_meant : List State → Setting → ETerm → Option QTerm
term_meant states s t = option_map (λ (of : Of). record { coef = t.coef; of = of }) (of_written states s t.name)

abbrev pub in_front : {X : Type 0} → Option X → Option (List X) → Option (List X)
in_front None xs = None
in_front (Some x) None = None
in_front (Some x) (Some xs) = Some (x ∷ xs)

-- what is found for each of a list, if something is found for all
unfoldable pub each_found : {X Y : Type 0} → (X → Option Y) → List X → Option (List Y)
each_found find [] = Some []
each_found find (x ∷ xs) = in_front (find x) (each_found find xs)

abbrev pub lin_of_terms : List QTerm → QLin
lin_of_terms terms = record { terms = terms }

-- the expression with its names replaced, if all are known
unfoldable pub lin_meant : List State → Setting → Expr → Option QLin
lin_meant states s expr = option_map lin_of_terms (each_found (term_meant states s) expr.terms)

-- ---- canonical names

-- the sum over all flows has no flow
abbrev pub flow_written : ℕ → Option ℕ
flow_written zero = None
flow_written (suc f) = Some (suc f)

-- an only flow isn't written
unfoldable pub own_flow_written : Setting → ℕ → Option ℕ
own_flow_written s f = if s.flows == 1 then None else Some f

abbrev pub text_of : Option State → List ℕ
text_of None = []
text_of (Some state) = state.name

unfoldable pub state_text : List State → ℕ → List ℕ
state_text states j = text_of (slice_get states j)

-- a constant has no name
unfoldable pub name_of : List State → Setting → Of → Option Name
name_of states s One = None
name_of states s Credit = Some (record { text = codes "credit"; flow = None; step = None })
name_of states s (W t) = Some (record { text = codes "W"; flow = None; step = Some t })
name_of states s (A f t) = Some (record { text = codes "A"; flow = flow_written f; step = Some t })
name_of states s (S f t) = Some (record { text = codes "S"; flow = flow_written f; step = Some t })
name_of states s (L f t) = Some (record { text = codes "L"; flow = flow_written f; step = Some t })
name_of states s (X j f t) = Some (record { text = state_text states j; flow = own_flow_written s f; step = Some t })

unfoldable pub term_written : List State → Setting → QTerm → ETerm
term_written states s t = record { coef = t.coef; name = name_of states s t.of }

unfoldable pub lin_written : List State → Setting → QLin → Expr
lin_written states s lin = record { terms = map (term_written states s) lin.terms }
