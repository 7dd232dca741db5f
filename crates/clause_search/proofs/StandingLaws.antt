-- How a clause stands with one literal more, and what that says of it.
use Rattle.std.proofs.Common.{◌≡◌, ℕ, ◌⊎◌, inl, inr, List, [], ◌∷◌, ◌++◌, take, drop, refl, sym, ◌∙◌, ap, subst, append_assoc}
use Rattle.std.proofs.lemmas.List.{take-append-drop}
use Rattle.farkas_cert.specs.Literals.{negation}
use Rattle.farkas_cert.specs.declared.literals.Lit.{Lit}
use Rattle.clause_form.specs.Derivations.{Has, HasAtom, IsFalseOn, NamesOnce}
use Rattle.clause_form.specs.Journals.{IsOpenClause, OthersFalse}
use Rattle.clause_search.specs.declared.standing.Standing.{Standing}
use Rattle.clause_search.specs.declared.standing.Standing.TheVariants.{Satisfied, Open, Unit as Single, False}
use Rattle.clause_search.specs.Standings.{HasNoTrue, HasOther, IsFirstFree, StandsAs}
use Rattle.clause_search.proofs.LiteralLaws.{false_has, false_more, has_atom, has_either, has_front, has_last, opposite, others_has, others_more, others_of_false}

pub true_more : (lits front : List Lit) (l : Lit) → Has l lits → StandsAs lits (front ++ l ∷ []) Satisfied
true_more lits front l h = (l, has_last l front, h)

other_more : (lits front : List Lit) (l m : Lit) → HasOther lits l front → HasOther lits l (front ++ m ∷ [])
other_more lits front l m o = record { other = o.other; has = has_front o.other front (m ∷ []) o.has; off = o.off; differs = o.differs }

-- ---- the first literal off the trail

pub first_has : (lits : List Lit) (l : Lit) (clause : List Lit) → IsFirstFree lits l clause → Has l clause
first_has lits l clause first = subst (λ (ls : List Lit). Has l ls) (sym first.is) (has_middle first.front)
  where
    has_middle : (front : List Lit) → Has l (front ++ l ∷ first.back)
    has_middle [] = inl refl
    has_middle (x ∷ xs) = inr (has_middle xs)

first_more : (lits front : List Lit) (l m : Lit) → IsFirstFree lits l front → IsFirstFree lits l (front ++ m ∷ [])
first_more lits front l m first = record {
  front = first.front;
  back = first.back ++ m ∷ [];
  is = ap (λ (ls : List Lit). ls ++ m ∷ []) first.is ∙ append_assoc first.front (l ∷ first.back) (m ∷ []);
  false_front = first.false_front;
  off = first.off;
}

first_single : (lits clause : List Lit) (l : Lit) → (HasAtom l.atom lits → ⊥) → OthersFalse lits l clause → Has l clause → IsFirstFree lits l clause
first_single lits [] l off others has = absurd has
first_single lits (x ∷ xs) l off others has = by (λ h. first_single lits xs l off others.1 h) others.0 has
  where
    later : Has (negation x) lits → IsFirstFree lits l xs → IsFirstFree lits l (x ∷ xs)
    later f first = record {
      front = x ∷ first.front;
      back = first.back;
      is = ap (λ (ls : List Lit). x ∷ ls) first.is;
      false_front = (f, first.false_front);
      off = off;
    }

    by : (Has l xs → IsFirstFree lits l xs) → (x ≡ l) ⊎ Has (negation x) lits → Has l (x ∷ xs) → IsFirstFree lits l (x ∷ xs)
    by rest (inl e) h = record { front = []; back = xs; is = ap (λ (m : Lit). m ∷ xs) e; false_front = tt; off = off }
    by rest (inr f) (inl e) = absurd (off (subst (λ (m : Lit). HasAtom m.atom lits) (sym e) (has_atom (negation x) lits f)))
    by rest (inr f) (inr h) = later f (rest h)

no_true_more : (lits front : List Lit) (l : Lit) → (Has l lits → ⊥) → HasNoTrue lits front → HasNoTrue lits (front ++ l ∷ [])
no_true_more lits front l off none m h is = elim (has_either m l front h) [
  | inl k ↦ none m k is
  | inr e ↦ off (subst (λ (x : Lit). Has x lits) e is)
]

-- ---- one literal more

pub false_last : (n : ℕ) (lits front : List Lit) (l : Lit) (before : Standing) → NamesOnce n lits → Has (negation l) lits → StandsAs lits front before
    → StandsAs lits (front ++ l ∷ []) before
false_last n lits front l Satisfied once h s = (s.0, has_front s.0 front (l ∷ []) s.1, s.2)
false_last n lits front l (Open m) once h s =
    (first_more lits front m l s.0, other_more lits front m l s.1, no_true_more lits front l (λ is. opposite n lits l once is h) s.2)
false_last n lits front l (Single m) once h s = (has_front m front (l ∷ []) s.0, s.1, others_more lits front m l s.2 (inr h))
false_last n lits front l False once h s = false_more lits front l s h

pub first_free : (lits front : List Lit) (l : Lit) → (HasAtom l.atom lits → ⊥) → IsFalseOn lits front → StandsAs lits (front ++ l ∷ []) (Single l)
first_free lits front l off f = (has_last l front, off, others_more lits front l l (others_of_false lits front l f) (inl refl))

pub same_free : (lits front : List Lit) (first l : Lit) → first ≡ l → StandsAs lits front (Single first) → StandsAs lits (front ++ l ∷ []) (Single first)
same_free lits front first l e s = (has_front first front (l ∷ []) s.0, s.1, others_more lits front first l s.2 (inl (sym e)))

pub second_free : (n : ℕ) (lits front : List Lit) (first l : Lit) → NamesOnce n lits → (first ≡ l → ⊥) → (HasAtom l.atom lits → ⊥)
    → StandsAs lits front (Single first) → StandsAs lits (front ++ l ∷ []) (Open first)
second_free n lits front first l once ne off s = (
  first_more lits front first l (first_single lits front first s.1 s.2 s.0),
  record { other = l; has = has_last l front; off = off; differs = λ e. ne (sym e) },
  no_true_more lits front l (λ is. off (has_atom l lits is)) (λ m h is. elim (others_has lits front first m s.2 h) [
    | inl e ↦ s.1 (subst (λ (x : Lit). HasAtom x.atom lits) e (has_atom m lits is))
    | inr f ↦ opposite n lits m once is f
  ]),
)

pub open_still : (lits front : List Lit) (first l : Lit) → (HasAtom l.atom lits → ⊥) → StandsAs lits front (Open first)
    → StandsAs lits (front ++ l ∷ []) (Open first)
open_still lits front first l off s =
    (first_more lits front first l s.0, other_more lits front first l s.1, no_true_more lits front l (λ is. off (has_atom l lits is)) s.2)

pub true_still : (lits front : List Lit) (l : Lit) → StandsAs lits front Satisfied → StandsAs lits (front ++ l ∷ []) Satisfied
true_still lits front l s = (s.0, has_front s.0 front (l ∷ []) s.1, s.2)

-- a true literal among the first ones is one of all
pub true_of_front : (lits clause : List Lit) (i : ℕ) → StandsAs lits (take i clause) Satisfied → StandsAs lits clause Satisfied
true_of_front lits clause i s =
    (s.0, subst (λ (ls : List Lit). Has s.0 ls) (take-append-drop i clause) (has_front s.0 (take i clause) (drop i clause) s.1), s.2)

-- ---- clauses that are neither false nor unit

pub open_by_true : (n : ℕ) (lits clause : List Lit) → NamesOnce n lits → StandsAs lits clause Satisfied → IsOpenClause lits clause
open_by_true n lits clause once s = record {
  not_false = λ f. opposite n lits s.0 once s.2 (false_has lits clause s.0 f s.1);
  not_unit = λ m h off others.
      elim (others_has lits clause m s.0 others s.1) [
        | inl e ↦ off (subst (λ (a : ℕ). HasAtom a lits) (ap (λ (k : Lit). k.atom) e) (has_atom s.0 lits s.2))
        | inr f ↦ opposite n lits s.0 once s.2 f
      ];
}

pub open_by_two : (lits clause : List Lit) (l : Lit) → StandsAs lits clause (Open l) → IsOpenClause lits clause
open_by_two lits clause l s = record {
  not_false = λ f. s.0.off (has_atom (negation l) lits (false_has lits clause l f (first_has lits l clause s.0)));
  not_unit = λ m h off others.
      elim (others_has lits clause m l others (first_has lits l clause s.0)) [
        | inl e ↦ (elim (others_has lits clause m s.1.other others s.1.has) [
          | inl f ↦ s.1.differs (f ∙ sym e)
          | inr f ↦ s.1.off (has_atom (negation s.1.other) lits f)
        ])
        | inr f ↦ s.0.off (has_atom (negation l) lits f)
      ];
}
