-- A name's place among the names of the states is the number of the state that has it.
use denote.Ref.{Bor}
use Rattle.std.proofs.Common.{◌≡◌, ℕ, ◌+◌, ◌<◌, Bool, true, false, cond, not, Ok, List, [], ◌∷◌, ◌++◌, map, length, get_or, take, refl, sym, ap, ◌∙◌}
use Rattle.std.specs.List.{list_any, position, position_from}
use Rattle.std.specs.Str.{bytes_eq}
use Rattle.std.proofs.lemmas.Iterator.Adapters.{position_from-zero}
use Rattle.std.proofs.lemmas.List.{map-append}
use Rattle.ctrl_syntax.specs.declared.syntax.StateLine.{StateLine}
use Rattle.indexmap.specs.IndexSet.{insert_key}
use Rattle.ctrl_types.specs.declared.controllers.State.{State}
use Rattle.ctrl_types.specs.Names.{has_name, is_reserved, state_named}
use Rattle.ctrl_types.specs.Resolving.{state_by}
use Rattle.ctrl_types.specs.Scopes.{AreNames, IsScope}
use Rattle.ctrl_types.specs.declared.names.Scope.{Scope}
use Rattle.ctrl_types.proofs.LineLoops.{taken_is}
use Rattle.ctrl_types.proofs.StateLaws.{turned}

abbrev text : Bor (List ℕ) → List ℕ
text name = name.now

abbrev word : StateLine → List ℕ
word s = s.name

heads : (m n : List ℕ) (ms ns : List (List ℕ)) → m ∷ ms ≡ n ∷ ns → m ≡ n
heads m n ms ns e = cc

tails : (m n : List ℕ) (ms ns : List (List ℕ)) → m ∷ ms ≡ n ∷ ns → ms ≡ ns
tails m n ms ns e = cc

-- the names that are tested are those of the states
same_test : (w : List ℕ) (name : Bor (List ℕ)) (s : StateLine) → name.now ≡ s.name → bytes_eq w name.now ≡ has_name w s
same_test w name s e = ap (bytes_eq w) e ∙ turned w s.name

position_is : (w : List ℕ) (i : ℕ) (names : List (Bor (List ℕ))) (states : List StateLine) → AreNames names states
    → position_from (λ (name : Bor (List ℕ)). bytes_eq w name.now) i names ≡ position_from (has_name w) i states
position_is w i [] [] e = refl
position_is w i [] (s ∷ states) e = absurd (cc)
position_is w i (name ∷ names) [] e = absurd (cc)
position_is w i (name ∷ names) (s ∷ states) e =
    let one = same_test w name s (heads name.now s.name (map text names) (map word states) e) in
    let rest = position_is w (i + 1) names states (tails name.now s.name (map text names) (map word states) e) in
    rw (one, rest) refl

-- the number of the state with a name is the place of the name
pub number_is : (scope : Scope) (w : List ℕ) → IsScope scope → position (λ (name : Bor (List ℕ)). bytes_eq w name.now) scope.names.keys ≡ state_named scope.states.now w
unfolding state_named
number_is scope w is =
    position_from-zero (λ (name : Bor (List ℕ)). bytes_eq w name.now) scope.names.keys ∙ position_is w 0 scope.names.keys scope.states.now is.numbered

any_is : (w : List ℕ) (names : List (Bor (List ℕ))) (states : List StateLine) → AreNames names states
    → list_any (λ (name : Bor (List ℕ)). bytes_eq w name.now) names ≡ list_any (has_name w) states
any_is w [] [] e = refl
any_is w [] (s ∷ states) e = absurd (cc)
any_is w (name ∷ names) [] e = absurd (cc)
any_is w (name ∷ names) (s ∷ states) e =
    let one = same_test w name s (heads name.now s.name (map text names) (map word states) e) in
    let rest = any_is w names states (tails name.now s.name (map text names) (map word states) e) in
    rw (one, rest) refl

-- ---- the names with one state more

abbrev same_text : Bor (List ℕ) → Bor (List ℕ) → Bool
same_text a b = bytes_eq a.now b.now

-- a name that isn't new is an earlier state's
pub not_new : (name : Bor (List ℕ)) (names : List (Bor (List ℕ))) (states : List StateLine) (is_new : Bool) → AreNames names states
    → is_new ≡ not (list_any (same_text name) names) → not is_new ≡ list_any (has_name name.now) states
not_new name names states is_new are e = by (list_any (same_text name) names) e ∙ any_is name.now names states are
  where
    by : (b : Bool) → is_new ≡ not b → not is_new ≡ b
    by true p = ap not p
    by false p = ap not p

-- a state that is resolved has a name of its own
pub is_free : (taken : Bool) (s : StateLine) (den : ℕ) (made : State × ℕ) → state_by taken s den ≡ Ok made → taken ≡ false
unfolding state_by
is_free false s den made e = refl
is_free true s den made e = by (is_reserved s.name) refl
  where
    by : (b : Bool) → is_reserved s.name ≡ b → true ≡ false
    by true p = absurd (cc)
    by false p = absurd (cc)

-- the names with a new one behind them
pub one_more : (names more : List (Bor (List ℕ))) (name : Bor (List ℕ)) (lines : List StateLine) (i : ℕ) (s : StateLine) → AreNames names (take i lines)
    → more ≡ insert_key same_text names name → list_any (has_name name.now) (take i lines) ≡ false → name.now ≡ s.name → s ≡ get_or lines i s → i < length lines
    → AreNames more (take (i + 1) lines)
one_more names more name lines i s are e new is here inside =
    let absent : list_any (same_text name) names ≡ false = any_is name.now names (take i lines) are ∙ new in
    ap (map text) (e ∙ ap (λ (b : Bool). cond b names (names ++ name ∷ [])) absent)
    ∙ map-append text names (name ∷ [])
    ∙ ap (λ (ns : List (List ℕ)). ns ++ name.now ∷ []) are
    ∙ ap (λ (n : List ℕ). map word (take i lines) ++ n ∷ []) is
    ∙ sym (map-append word (take i lines) (s ∷ []))
    ∙ ap (map word) (sym (taken_is lines i s here inside))
