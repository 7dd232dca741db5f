-- The clauses before a cursor have a true literal: where the trail grows, where it is cut, and where the cursor goes on.
use Rattle.std.proofs.Common.{◌≡◌, ℕ, ◌+◌, ◌<◌, inl, inr, List, [], ◌∷◌, ◌++◌, length, take, get_or, Some, slice_get, sym, ◌∙◌, ap, subst, length-append, arith}
use Rattle.std.proofs.lemmas.List.{take-append-le}
use Rattle.std.proofs.lemmas.Option.{slice_get-get_or}
use Rattle.farkas_cert.specs.declared.literals.Lit.{Lit}
use Rattle.clause_search.specs.declared.cursor.Cursor.{Cursor}
use Rattle.clause_search.specs.Cursors.{IsMarked, Marks, SetsBack}
use Rattle.clause_search.specs.Standings.{AreTrueBelow}
use Rattle.clause_search.proofs.LiteralLaws.{has_front}
use Rattle.clause_search.proofs.TableLaws.{take_less}
use Rattle.clause_search.proofs.TrailLaws.{get_either, get_front, get_take, get_within, length_take, take_all}

-- more literals are true, and more clauses are known
still_true : (known : List (List Lit)) (lits more : List Lit) (n : ℕ) → AreTrueBelow known lits n → AreTrueBelow known (lits ++ more) n
still_true known lits more n below k less =
    let at = below k less in
    record { clause = at.clause; is = at.is; stands = (at.stands.0, at.stands.1, has_front at.stands.0 lits more at.stands.2) }

more_known : (known more : List (List Lit)) (lits : List Lit) (n : ℕ) → AreTrueBelow known lits n → AreTrueBelow (known ++ more) lits n
more_known known more lits n below k less =
    let at = below k less in
    record { clause = at.clause; is = get_front known more k at.clause at.is; stands = at.stands }

-- nothing is done yet
pub marked_none : (known : List (List Lit)) (cursor : Cursor) → cursor.next ≡ 0 → cursor.marks.items ≡ [] → IsMarked known [] cursor
marked_none known cursor next marks = record {
  here = λ k less. absurd (let less : k < 0 = subst (λ (n : ℕ). k < n) next less in omega arith);
  count = ap length marks;
  before = λ k mark at. absurd (none k mark (subst (λ (ms : List ℕ). slice_get ms k ≡ Some mark) marks at));
}
  where
    none : (k mark : ℕ) → slice_get [] k ≡ Some mark → ⊥
    none k mark e = cc

-- a literal is told
pub marked_told : (known : List (List Lit)) (lits : List Lit) (l : Lit) (old new : Cursor) → IsMarked known lits old → Marks old new
    → IsMarked known (lits ++ l ∷ []) new
marked_told known lits l old new is marks = record {
  here = subst (λ (n : ℕ). AreTrueBelow known (lits ++ l ∷ []) n) (sym marks.next) (still_true known lits (l ∷ []) old.next is.here);
  count = ap length marks.marks ∙ longer old.marks.items old.next lits l is.count;
  before = λ k mark at. elim (get_either old.marks.items old.next k mark (subst (λ (ms : List ℕ). slice_get ms k ≡ Some mark) marks.marks at)) [
    | inl earlier ↦ (let less : k < length old.marks.items = get_within old.marks.items k mark earlier in
        let count = is.count in
        subst (λ (front : List Lit). AreTrueBelow known front mark) (sym (take-append-le k lits (l ∷ []) (omega arith))) (is.before k mark earlier))
    | inr last ↦
        subst (λ (front : List Lit). AreTrueBelow known front mark) (sym (ap (λ (n : ℕ). take n (lits ++ l ∷ [])) (last.0 ∙ is.count) ∙ take_all lits (l ∷ []))) (subst (λ (n : ℕ). AreTrueBelow known lits n) last.1 is.here)
  ];
}
  where
    longer : (ms : List ℕ) (m : ℕ) (ls : List Lit) (k : Lit) → length ms ≡ length ls → length (ms ++ m ∷ []) ≡ length (ls ++ k ∷ [])
    longer ms m ls k e = length-append ms (m ∷ []) ∙ ap (λ (n : ℕ). n + 1) e ∙ sym (length-append ls (k ∷ []))

-- the trail is cut, and more clauses are known
pub marked_cut : (known more : List (List Lit)) (lits : List Lit) (keep : ℕ) (old new : Cursor) → keep < length lits → IsMarked known lits old
    → SetsBack old keep new → IsMarked (known ++ more) (take keep lits) new
marked_cut known more lits keep old new short is back = record {
  here = subst (λ (n : ℕ). AreTrueBelow (known ++ more) (take keep lits) n) (sym back.next) (more_known known more (take keep lits) (get_or old.marks.items keep old.next) (is.before keep (get_or old.marks.items keep old.next) (slice_get-get_or old.marks.items keep old.next within)));
  count = ap length back.marks ∙ length_take old.marks.items keep (omega arith) ∙ sym (length_take lits keep (omega arith));
  before = λ k mark at.
      let both = get_take old.marks.items keep k mark (subst (λ (ms : List ℕ). slice_get ms k ≡ Some mark) back.marks at) in
      let less : k < keep = both.0 in
      subst (λ (front : List Lit). AreTrueBelow (known ++ more) front mark) (sym (take_less lits k keep (omega arith))) (more_known known more (take k lits) mark (is.before k mark both.1));
}
  where
    within : keep < length old.marks.items
    within = subst (λ (n : ℕ). keep < n) (sym is.count) short
