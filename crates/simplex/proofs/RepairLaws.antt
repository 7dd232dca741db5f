-- Turns one after the other.
use Rattle.std.proofs.Common.{◌≡◌, ℕ, ◌+◌, ◌<◌, Bool, true, false, List, [], ◌∷◌, ◌++◌, length, Option, None, Some, ◌⊎◌, inl, inr, ◌↔◌, refl, sym, ap, subst, ◌∙◌, add_assoc}
use Rattle.std.proofs.lemmas.List.{length-append}
use Rattle.ordered_field.specs.Rational.{ℚ}
use Rattle.whole.specs.Budget.{Counts, spent}
use Rattle.tableau.specs.Tables.{Table, variables, is_basic, Meets}
use Rattle.tableau.specs.declared.fault.PivotFault.{PivotFault}
use Rattle.simplex.specs.declared.outcome.Outcome.{Outcome}
use Rattle.simplex.specs.declared.outcome.Outcome.TheVariants as outcome
use Rattle.simplex.specs.Limits.{Held, IsWithin}
use Rattle.simplex.specs.Corners.{Corner, IsRepaired, PivotsLead}
use Rattle.simplex.specs.States.{State, corner, rest_of}
use Rattle.simplex.specs.Assignments.{Assigned, corner_of, state_of, IsBuilt, IsAssignment}
use Rattle.simplex.specs.Checks.{AllWithin, CannotBeHelped, MayPivot, AnswersCheckAtWork, pivots_charged}
use Rattle.simplex.specs.Turns.{Tally, tally, one_more, Pivots, AnswersTurn, IsKeptSound}
use Rattle.simplex.proofs.TurnLaws.{PivotsLead-more}

pub charged-more : (n : ℕ) (c : Counts) → pivots_charged 1 (pivots_charged n c) ≡ pivots_charged (n + 1) c
charged-more n c = ap (λ k. record c { pivots = k }) (add_assoc c.pivots n 1)

at_rest : {A : Type 0} (x : A) → Some x ≡ None → ⊥
at_rest x e = let rest : Some x ≡ None = e in cc

-- whether a variable is basic
basic_cases : {F : Type 0} (t : Table F) (v : ℕ) → (is_basic t v ≡ true) ⊎ (is_basic t v ≡ false)
basic_cases t v = by (is_basic t v) refl
  where
    by : (s : Bool) → is_basic t v ≡ s → (is_basic t v ≡ true) ⊎ (is_basic t v ≡ false)
    by true e = inl e
    by false e = inr e

charged_still : (ps qs : List (ℕ × ℕ)) (before after start : Counts) → before ≡ pivots_charged (length ps) start → tally qs after ≡ tally ps before → after ≡ pivots_charged (length qs) start
charged_still ps qs before after start so_far t =
    ap (λ x. x.counts) t ∙ so_far ∙ ap (λ rs. pivots_charged (length rs) start) (sym (ap (λ x. x.pivots) t))

charged_by : (ps qs : List (ℕ × ℕ)) (before after start : Counts) → before ≡ pivots_charged (length ps) start → (b o : ℕ) → tally qs after ≡ one_more b o (tally ps before) → after ≡ pivots_charged (length qs) start
charged_by ps qs before after start so_far b o t =
    ap (λ x. x.counts) t ∙ ap (pivots_charged 1) so_far ∙ charged-more (length ps) start
    ∙ ap (λ k. pivots_charged k start) (sym (ap length (ap (λ x. x.pivots) t) ∙ length-append ps ((b, o) ∷ [])))

module _ {F : Type 0} (limit : ℕ) (value : F → ℚ) where
  all_within : (c : Corner F) → IsRepaired value c → ((v : ℕ) → is_basic c.table v ≡ true → IsWithin c.limits v (c.value v)) → AllWithin limit value c
  all_within c repaired basic v inside = by (basic_cases c.table v)
    where
      by : (is_basic c.table v ≡ true) ⊎ (is_basic c.table v ≡ false) → IsWithin c.limits v (c.value v)
      by (inl e) = basic v e
      by (inr e) = repaired v e

  module _ (a b d : Assigned F) (h : Held F) (ps qs : List (ℕ × ℕ)) (before after : Counts) (leads : PivotsLead value (corner_of value a h) ps (corner_of value b h)) (repaired : IsRepaired value (corner_of value b h)) where
    -- the pivots so far, where a turn made none
    lead_on : corner_of value d h ≡ corner_of value b h → tally qs after ≡ tally ps before → PivotsLead value (corner_of value a h) qs (corner_of value d h)
    lead_on same tallied =
        subst (λ c. PivotsLead value (corner_of value a h) qs c) (sym same) (subst (λ rs. PivotsLead value (corner_of value a h) rs (corner_of value b h)) (sym (ap (λ t. t.pivots) tallied)) leads)

    pub ends : (answer : Outcome F) → AnswersTurn limit value (corner_of value b h) (tally ps before) (Some answer) (corner_of value d h) (tally qs after) → AnswersCheckAtWork limit value (state_of a h [] None) answer (state_of d h qs (rest_of answer)) after
    ends outcome.Fine turn =
        (record { leads = lead_on turn.0 turn.1; rest = refl }, subst (AllWithin limit value) (sym turn.0) (all_within (corner_of value b h) repaired turn.2))
    ends (outcome.Conflict shares) turn =
        (record { leads = lead_on turn.0 turn.1; rest = refl }, subst (λ c. CannotBeHelped limit value c shares.items) (sym turn.0) turn.2)
    ends outcome.Spent turn =
        (record { leads = lead_on turn.0 turn.1; rest = refl }, subst (λ c. spent c ≡ c.limit) (sym (ap (λ t. t.counts) turn.1)) turn.2, subst (MayPivot limit value) (sym turn.0) turn.3)
    ends (outcome.Stuck stuck) turn =
        (record { front = ps; basic = turn.basic; other = turn.other; upper = turn.upper; at = corner_of value b h; all = ap (λ t. t.pivots) turn.tally; leads = leads; choice = turn.choice; last = turn.after }, refl)
    ends outcome.NoMemory (inl turn) = (inl (lead_on turn.0 turn.1), refl)
    ends outcome.NoMemory (inr turn) =
        (inr (record { front = ps; basic = turn.basic; other = turn.other; upper = turn.upper; at = corner_of value b h; all = ap (λ t. t.pivots) turn.tally; leads = leads; choice = turn.choice; last = tt }), refl)

    -- as many are charged as are listed
    pub charged_on : (start : Counts) → before ≡ pivots_charged (length ps) start → (answer : Option (Outcome F)) → AnswersTurn limit value (corner_of value b h) (tally ps before) answer (corner_of value d h) (tally qs after) → after ≡ pivots_charged (length qs) start
    charged_on start so_far None turn = charged_by ps qs before after start so_far turn.0.basic turn.0.other turn.0.tally
    charged_on start so_far (Some outcome.Fine) turn = charged_still ps qs before after start so_far turn.1
    charged_on start so_far (Some (outcome.Conflict shares)) turn = charged_still ps qs before after start so_far turn.1
    charged_on start so_far (Some outcome.Spent) turn = charged_still ps qs before after start so_far turn.1
    charged_on start so_far (Some (outcome.Stuck stuck)) turn = charged_by ps qs before after start so_far turn.basic turn.other turn.tally
    charged_on start so_far (Some outcome.NoMemory) (inl turn) = charged_still ps qs before after start so_far turn.1
    charged_on start so_far (Some outcome.NoMemory) (inr turn) = charged_by ps qs before after start so_far turn.basic turn.other turn.tally

    -- all that isn't basic is still within its limits, unless the end is a rest
    pub repaired_at_end : (answer : Outcome F) → AnswersTurn limit value (corner_of value b h) (tally ps before) (Some answer) (corner_of value d h) (tally qs after) → rest_of answer ≡ None → IsRepaired value (corner_of value d h)
    repaired_at_end outcome.Fine turn e = subst (IsRepaired value) (sym turn.0) repaired
    repaired_at_end (outcome.Conflict shares) turn e = subst (IsRepaired value) (sym turn.0) repaired
    repaired_at_end outcome.Spent turn e = subst (IsRepaired value) (sym turn.0) repaired
    repaired_at_end (outcome.Stuck stuck) turn e = absurd (at_rest _ e)
    repaired_at_end outcome.NoMemory turn e = absurd (at_rest _ e)

    -- a turn that ends nothing
    at_none : (answer : Option (Outcome F)) → answer ≡ None → AnswersTurn limit value (corner_of value b h) (tally ps before) answer (corner_of value d h) (tally qs after) → AnswersTurn limit value (corner_of value b h) (tally ps before) None (corner_of value d h) (tally qs after)
    at_none None e turn = turn
    at_none (Some answer) e turn = absurd (at_rest answer e)

    pub repaired_on : (answer : Option (Outcome F)) → answer ≡ None → AnswersTurn limit value (corner_of value b h) (tally ps before) answer (corner_of value d h) (tally qs after) → IsRepaired value (corner_of value d h)
    repaired_on answer e turn = (at_none answer e turn).1

    pub leads_on : (answer : Option (Outcome F)) → answer ≡ None → AnswersTurn limit value (corner_of value b h) (tally ps before) answer (corner_of value d h) (tally qs after) → PivotsLead value (corner_of value a h) qs (corner_of value d h)
    leads_on answer e turn =
        let made = (at_none answer e turn).0 in
        subst (λ rs. PivotsLead value (corner_of value a h) rs (corner_of value d h)) (sym (ap (λ t. t.pivots) made.tally)) (PivotsLead-more value (corner_of value a h) ps (corner_of value b h) made.upper made.basic made.other (corner_of value d h) leads made.choice made.after)

-- ---- what is kept

pub IsKeptSound-trans : {F : Type 0} (value : F → ℚ) (a b d : Assigned F) → IsKeptSound value a b → IsKeptSound value b d → IsKeptSound value a d
IsKeptSound-trans value a b d first then = record {
  sound = then.sound;
  count = then.count ∙ first.count;
  same = λ x. (λ m. (first.same x).0 ((then.same x).0 m), λ m. (then.same x).1 ((first.same x).1 m));
}

pub IsBuilt-on : {F : Type 0} (value : F → ℚ) (a b : Assigned F) (h : Held F) (rest then : Option PivotFault) → IsBuilt value a h rest → IsKeptSound value a b → (then ≡ None → IsRepaired value (corner_of value b h)) → IsBuilt value b h then
IsBuilt-on value a b h rest then built kept repaired = record {
  sound = kept.sound;
  variables = built.variables ∙ sym kept.count;
  orderly = built.orderly;
  repaired = repaired;
}
