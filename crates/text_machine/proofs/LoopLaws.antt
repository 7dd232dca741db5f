-- A loop that feeds a text's lines to a format, with the state as what it keeps.
use Rattle.std.proofs.Common.{◌≡◌, ℕ, ◌+◌, ℤ, None, Some, Result, Ok, Err, List, [], ◌∷◌, ◌++◌, refl, sym, ap, subst, ◌∙◌, append_assoc}
use Rattle.text_lines.specs.Lines.{Unread, next}
use Rattle.text_lines.specs.Pieces.{pieces}
use Rattle.text_lines.specs.Steps.{◌>>=◌}
use Rattle.text_lines.proofs.PieceLaws.{some_piece}
use Rattle.text_machine.specs.Texts.{Table, Format, step, finish, read_pieces, read_text}
use Rattle.text_machine.proofs.ScriptLaws.{unread, SomePiece}

-- the lines before were read, and what is read in all is what was read and what is still read
pub record Feeding {S R : Type 0} (format : Format S R) (s : S) (front : Table) (rest : Unread) (total : Result Table R) : Type 0 where
  pub some : SomePiece rest.pieces
  pub so_far : (read_pieces format s rest.line rest.pieces >>= λ ts. Ok (front ++ ts)) ≡ total

pub feeding_start : {S R : Type 0} (format : Format S R) (s : S) (bytes : List ℕ) → Feeding format s [] (unread 1 (pieces 10 bytes)) (read_text format s bytes)
feeding_start {S} {R} format s bytes =
    let p = some_piece 10 bytes in
    record { some = subst SomePiece (sym p.1.1) tt; so_far = kept (read_text format s bytes) }
  where
    kept : (found : Result Table R) → (found >>= λ ts. Ok ts) ≡ found
    kept (Ok ts) = refl
    kept (Err r) = refl

-- what taking a line says of what is left
record Taken (rest : Unread) (text : List ℕ) (after : Unread) : Type 0 where
  parts : rest.pieces ≡ text ∷ after.pieces
  some : SomePiece after.pieces
  number : after.line ≡ rest.line + 1

taken : (rest : Unread) (text : List ℕ) (after : Unread) → next rest ≡ Some (text, after) → Taken rest text after
unfolding next
taken rest text after e = by_pieces rest.line rest.pieces e
  where
    by_pieces : (k : ℕ) (left : List (List ℕ)) → next (unread k left) ≡ Some (text, after) → Taken (unread k left) text after
    by_pieces k [] q = absurd (cc)
    by_pieces k (piece ∷ []) q = absurd (cc)
    by_pieces k (piece ∷ more ∷ left) q = subst (λ (x : List ℕ × Unread). Taken (unread k (piece ∷ more ∷ left)) x.0 x.1) (some_is _ _ q) (record { parts = refl; some = tt; number = refl })
      where
        some_is : (x y : List ℕ × Unread) → Some x ≡ Some y → x ≡ y
        some_is x y r = cc

-- a line was taken: the text is its step and what follows
onward : {S R : Type 0} (format : Format S R) (s : S) (rest : Unread) (text : List ℕ) (after : Unread) → next rest ≡ Some (text, after)
    → read_pieces format s rest.line rest.pieces ≡ (step format s rest.line text >>= λ x. read_pieces format x.1 after.line after.pieces >>= λ ts. Ok (x.0 ∷ ts))
unfolding read_pieces
onward {S} {R} format s rest text after e =
    let t = taken rest text after e in
    ap (read_pieces format s rest.line) t.parts ∙ by_pieces after.pieces t.some
    ∙ ap (λ k. step format s rest.line text >>= λ x. read_pieces format x.1 k after.pieces >>= λ ts. Ok (x.0 ∷ ts)) (sym t.number)
  where
    by_pieces : (left : List (List ℕ)) → SomePiece left
        → read_pieces format s rest.line (text ∷ left) ≡ (step format s rest.line text >>= λ x. read_pieces format x.1 (rest.line + 1) left >>= λ ts. Ok (x.0 ∷ ts))
    by_pieces [] some = absurd some
    by_pieces (piece ∷ left) some = refl

pub feeding_more : {S R : Type 0} (format : Format S R) (s : S) (front : Table) (rest : Unread) (text : List ℕ) (after : Unread) (zs : List ℤ) (t : S) (total : Result Table R)
    → next rest ≡ Some (text, after) → step format s rest.line text ≡ Ok (zs, t) → Feeding format s front rest total → Feeding format t (front ++ zs ∷ []) after total
feeding_more {S} {R} format s front rest text after zs t total e one so_far = record {
  some = (taken rest text after e).some;
  so_far =
      regroup (read_pieces format t after.line after.pieces)
      ∙ ap (λ (r : Result Table R). r >>= λ ts. Ok (front ++ ts)) (sym (onward format s rest text after e ∙ ap (λ (r : Result (List ℤ × S) R). r >>= λ x. read_pieces format x.1 after.line after.pieces >>= λ ts. Ok (x.0 ∷ ts)) one))
      ∙ so_far.so_far;
}
  where
    regroup : (found : Result Table R) → (found >>= λ ts. Ok ((front ++ zs ∷ []) ++ ts)) ≡ ((found >>= λ ts. Ok (zs ∷ ts)) >>= λ ts. Ok (front ++ ts))
    regroup (Ok ts) = ap (λ (us : Table). Ok us) (append_assoc front (zs ∷ []) ts)
    regroup (Err r) = refl

pub feeding_fails : {S R : Type 0} (format : Format S R) (s : S) (front : Table) (rest : Unread) (text : List ℕ) (after : Unread) (r : R) (total : Result Table R)
    → next rest ≡ Some (text, after) → step format s rest.line text ≡ Err r → Feeding format s front rest total → total ≡ Err r
feeding_fails {S} {R} format s front rest text after r total e one so_far =
    sym so_far.so_far
    ∙ ap (λ (x : Result Table R). x >>= λ ts. Ok (front ++ ts)) (onward format s rest text after e ∙ ap (λ (x : Result (List ℤ × S) R). x >>= λ y. read_pieces format y.1 after.line after.pieces >>= λ ts. Ok (y.0 ∷ ts)) one)

-- no line is left: the rest decides, by the state
pub feeding_ends : {S R : Type 0} (format : Format S R) (s : S) (front : Table) (rest : Unread) (total : Result Table R) → next rest ≡ None → Feeding format s front rest total
    → (piece : List ℕ) × ((rest.pieces ≡ piece ∷ []) × (total ≡ (finish format s rest.line piece >>= λ ts. Ok (front ++ ts))))
unfolding next read_pieces
feeding_ends {S} {R} format s front rest total e so_far = by_pieces rest.line rest.pieces e so_far.some so_far.so_far
  where
    by_pieces : (k : ℕ) (left : List (List ℕ)) → next (unread k left) ≡ None → SomePiece left → (read_pieces format s k left >>= λ ts. Ok (front ++ ts)) ≡ total
        → (piece : List ℕ) × ((left ≡ piece ∷ []) × (total ≡ (finish format s k piece >>= λ ts. Ok (front ++ ts))))
    by_pieces k [] q some f = absurd some
    by_pieces k (piece ∷ []) q some f = (piece, (refl, sym f))
    by_pieces k (piece ∷ more ∷ left) q some f = absurd (cc)
