-- Things that are read one after another in a loop: what was read before, and what is still read.
use Rattle.std.proofs.Common.{◌≡◌, ℕ, zero, suc, ◌-◌, ◌<◌, true, false, Ok, Err, List, [], ◌∷◌, ◌++◌, length, refl, sym, ap, ◌∙◌, arith}
use Rattle.std.proofs.lemmas.List.{append-nil}
use Rattle.text_lines.specs.Steps.{Fails}
use Rattle.text_lines.proofs.StepLaws.{with_front, regroup}
use Rattle.whole.specs.declared.answers.ReadFault.{ReadFault}
use Rattle.whole.specs.declared.answers.ReadFault.TheVariants.{Refused, NoMemory}
use Rattle.whole.specs.declared.answers.Refusal.{Refusal}
use Rattle.source_text.specs.Shown.{Ahead}
use Rattle.ctrl_syntax.specs.Rest.{Rest, first_says, number_of_next}
use Rattle.ctrl_syntax.specs.Reading.{Lines, many_within}

module _ {X : Type 0} (over : ℕ → Refusal) (title : List ℕ) (read : Rest → Lines X) (front : List X) (s : Rest) (total : Lines (List X)) where
  -- one more was read
  pub many_goes_on : (n room : ℕ) (x : X) (t : Rest) → n ≡ suc room → first_says title s.lines ≡ true → read s ≡ Ok (x, t) → with_front front (many_within over title read n s) ≡ total
      → with_front (front ++ x ∷ []) (many_within over title read room t) ≡ total
  unfolding many_within
  many_goes_on n room x t more named done so_far =
      let one : with_front front (many_within over title read n s) ≡ with_front (front ++ x ∷ []) (many_within over title read room t) = rw (more, named, done) (regroup front x (many_within over title read room t)) in
      sym one ∙ so_far

  many_stops : (refused : Refusal) (n : ℕ) → 0 < n → first_says title s.lines ≡ true → read s ≡ Err refused → with_front front (many_within over title read n s) ≡ total → total ≡ Err refused
  unfolding many_within
  many_stops refused n some named failed so_far =
      let more : n ≡ suc (n - 1) = omega arith in
      let one : with_front front (many_within over title read n s) ≡ Err refused = rw (more, named, failed) refl in
      sym so_far ∙ one

  -- the next one failed
  pub many_fails : (fault : ReadFault) (n : ℕ) → 0 < n → first_says title s.lines ≡ true → Fails fault (read s) → with_front front (many_within over title read n s) ≡ total → Fails fault total
  many_fails NoMemory n some named failed so_far = tt
  many_fails (Refused refused) n some named failed so_far = many_stops refused n some named failed so_far

  -- one too many is to come
  pub many_is_full : (n : ℕ) → n ≡ 0 → first_says title s.lines ≡ true → with_front front (many_within over title read n s) ≡ total → total ≡ Err (over (number_of_next s.lines s.end))
  unfolding many_within
  many_is_full n none named so_far =
      let one : with_front front (many_within over title read n s) ≡ Err (over (number_of_next s.lines s.end)) = rw (none, named) refl in
      sym so_far ∙ one

  -- no more is to come
  pub many_is_done : (room : ℕ) → first_says title s.lines ≡ false → with_front front (many_within over title read room s) ≡ total → total ≡ Ok (front, s)
  unfolding many_within
  many_is_done zero absent so_far =
      let one : with_front front (many_within over title read 0 s) ≡ Ok (front, s) = rw absent (ap (λ (xs : List X). Ok (xs, s)) (append-nil front)) in
      sym so_far ∙ one
  many_is_done (suc room) absent so_far =
      let one : with_front front (many_within over title read (suc room) s) ≡ Ok (front, s) = rw absent (ap (λ (xs : List X). Ok (xs, s)) (append-nil front)) in
      sym so_far ∙ one

-- where a line begins with a word, there is one
pub some_line : (w : List ℕ) (lines : List Ahead) → first_says w lines ≡ true → 0 < length lines
some_line w [] named = absurd (cc)
some_line w (a ∷ lines) named = omega arith
