-- A part, by what its first token opens.
use Rattle.std.proofs.Common.{◌≡◌, ℕ, zero, suc, ◌-◌, ◌<◌, Ok, Err, refl, ap, ◌∙◌, arith}
use Rattle.condition_syntax.specs.declared.conditions.Style.{Style}
use Rattle.condition_syntax.specs.declared.faults.Fault.TheVariants.{Depth}
use Rattle.condition_syntax.specs.declared.openings.Opening.TheVariants as opens
use Rattle.condition_syntax.specs.Trees.{always, never}
use Rattle.condition_syntax.specs.Conditions.{Pending, behind, opening_of, opposite_by, bracketed_by, delay_by, comparison_by, joined_by, part_by}

module _ (style : Style) (room : ℕ) (s : Pending) where
  pub part_true : opening_of style s.tokens ≡ opens.True → part_by style room s ≡ Ok (always, behind s)
  unfolding part_by
  part_true e = elim room as (λ r. part_by style r s ≡ Ok (always, behind s)) [ zero ↦ rw e refl | suc r ↦ rw e refl ]

  pub part_false : opening_of style s.tokens ≡ opens.False → part_by style room s ≡ Ok (never, behind s)
  unfolding part_by
  part_false e = elim room as (λ r. part_by style r s ≡ Ok (never, behind s)) [ zero ↦ rw e refl | suc r ↦ rw e refl ]

  pub part_delay : opening_of style s.tokens ≡ opens.Delay → part_by style room s ≡ delay_by s
  unfolding part_by
  part_delay e = elim room as (λ r. part_by style r s ≡ delay_by s) [ zero ↦ rw e refl | suc r ↦ rw e refl ]

  pub part_comparison : opening_of style s.tokens ≡ opens.Comparison → part_by style room s ≡ comparison_by style s
  unfolding part_by
  part_comparison e = elim room as (λ r. part_by style r s ≡ comparison_by style s) [ zero ↦ rw e refl | suc r ↦ rw e refl ]

  pub part_not : 0 < room → opening_of style s.tokens ≡ opens.Not → part_by style room s ≡ opposite_by (part_by style (room - 1)) s
  unfolding part_by
  part_not lt e =
      let more : room ≡ suc (room - 1) = omega arith in
      let one : part_by style (suc (room - 1)) s ≡ opposite_by (part_by style (room - 1)) s = rw e refl in
      ap (λ r. part_by style r s) more ∙ one

  pub part_bracket : 0 < room → opening_of style s.tokens ≡ opens.Bracket → part_by style room s ≡ bracketed_by (joined_by (part_by style (room - 1))) s
  unfolding part_by
  part_bracket lt e =
      let more : room ≡ suc (room - 1) = omega arith in
      let one : part_by style (suc (room - 1)) s ≡ bracketed_by (joined_by (part_by style (room - 1))) s = rw e refl in
      ap (λ r. part_by style r s) more ∙ one

  pub part_too_deep : room ≡ 0 → (opening_of style s.tokens ≡ opens.Not) → part_by style room s ≡ Err Depth
  unfolding part_by
  part_too_deep none e =
      let one : part_by style 0 s ≡ Err Depth = rw e refl in
      ap (λ r. part_by style r s) none ∙ one

  pub bracket_too_deep : room ≡ 0 → (opening_of style s.tokens ≡ opens.Bracket) → part_by style room s ≡ Err Depth
  unfolding part_by
  bracket_too_deep none e =
      let one : part_by style 0 s ≡ Err Depth = rw e refl in
      ap (λ r. part_by style r s) none ∙ one
