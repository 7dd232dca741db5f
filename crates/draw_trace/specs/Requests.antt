-- The words of a call: the names of two files.
use Rattle.std.specs.Prelude.{ℕ, List, [], ◌∷◌, Option, None, Some}

-- the names of the question's and of the trace's file
pub record Order : Type 0 where
  pub question : List ℕ
  pub trace : List ℕ

-- what the words ask for, if they are of this form
abbrev pub request_of : List (List ℕ) → Option Order
request_of [] = None
request_of (one ∷ []) = None
request_of (one ∷ two ∷ []) = Some (record { question = one; trace = two })
request_of (one ∷ two ∷ three ∷ words) = None
