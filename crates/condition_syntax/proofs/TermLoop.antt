-- Terms that are read one after another: what was read before, and what is still read.
use Rattle.std.proofs.Common.{◌≡◌, ℕ, suc, ◌+◌, ◌-◌, ◌<◌, ◌≤◌, Bool, None, Some, Ok, Err, List, [], ◌∷◌, ◌++◌, refl, sym, ◌∙◌, arith}
use Rattle.text_lines.proofs.StepLaws.{with_front, regroup}
use Rattle.source_text.specs.Tokens.{Token, after}
use Rattle.condition_syntax.specs.declared.conditions.Style.{Style}
use Rattle.condition_syntax.specs.declared.expressions.ETerm.{ETerm}
use Rattle.condition_syntax.specs.declared.faults.Fault.{Fault}
use Rattle.condition_syntax.specs.declared.faults.ReadStop.{ReadStop}
use Rattle.condition_syntax.specs.declared.faults.ReadStop.TheVariants.{Fault as Faulty, NoMemory}
use Rattle.condition_syntax.specs.Halts.{Halts}
use Rattle.condition_syntax.specs.Expressions.{Read, term_by, extra_term, onward, terms_by}

module _ (style : Style) (i : ℕ) (sg : Bool) (front : List ETerm) (tokens : List Token) (total : Read (List ETerm)) (so_far : with_front front (terms_by style (16 - i) sg tokens) ≡ total) where
  -- a term was read, and another is to come
  pub terms_go_on : (t : ETerm) (rest : List Token) (next : Bool) → i < 16 → term_by style sg tokens ≡ Ok (t, rest) → onward rest ≡ Some next
      → with_front (front ++ t ∷ []) (terms_by style (16 - (i + 1)) next (after rest)) ≡ total
  unfolding terms_by
  terms_go_on t rest next lt read on =
      let more : 16 - i ≡ suc (16 - (i + 1)) = omega arith in
      let one : with_front front (terms_by style (16 - i) sg tokens) ≡ with_front (front ++ t ∷ []) (terms_by style (16 - (i + 1)) next (after rest)) =
      rw (more, read, on) (regroup front t (terms_by style (16 - (i + 1)) next (after rest))) in
      sym one ∙ so_far

  -- the last term was read
  pub terms_end : (t : ETerm) (rest : List Token) → i < 16 → term_by style sg tokens ≡ Ok (t, rest) → onward rest ≡ None → total ≡ Ok (front ++ t ∷ [], rest)
  unfolding terms_by
  terms_end t rest lt read on =
      let more : 16 - i ≡ suc (16 - (i + 1)) = omega arith in
      let one : with_front front (terms_by style (16 - i) sg tokens) ≡ Ok (front ++ t ∷ [], rest) = rw (more, read, on) refl in
      sym so_far ∙ one

  terms_stop : (fault : Fault) → i < 16 → term_by style sg tokens ≡ Err fault → total ≡ Err fault
  unfolding terms_by
  terms_stop fault lt read =
      let more : 16 - i ≡ suc (16 - (i + 1)) = omega arith in
      let one : with_front front (terms_by style (16 - i) sg tokens) ≡ Err fault = rw (more, read) refl in
      sym so_far ∙ one

  -- a term failed
  pub terms_fail : (halt : ReadStop) → i < 16 → Halts halt (term_by style sg tokens) → Halts halt total
  terms_fail NoMemory lt read = tt
  terms_fail (Faulty fault) lt read = terms_stop fault lt read

  -- 16 terms were read, and another is to come
  pub terms_full : 16 ≤ i → total ≡ Err (extra_term tokens)
  unfolding terms_by
  terms_full le =
      let none : 16 - i ≡ 0 = omega arith in
      let one : with_front front (terms_by style (16 - i) sg tokens) ≡ Err (extra_term tokens) = rw none refl in
      sym so_far ∙ one
