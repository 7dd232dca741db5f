-- The words of a call: the names of two files, and perhaps `--counts` before them.
use Rattle.std.specs.Prelude.{ℕ, Bool, List, [], ◌∷◌, Option, None, Some, codes, if◌then◌else◌}
use Rattle.std.specs.Str.{bytes_eq}
use Rattle.problem_smt.specs.declared.requests.Kind.{Kind}
use Rattle.problem_smt.specs.declared.requests.Kind.TheVariants.{Problem, Counts}

-- what is to be written, and the names of the controller's and of the question's file
pub record Order : Type 0 where
  pub kind : Kind
  pub controller : List ℕ
  pub question : List ℕ

abbrev pub is_counts : List ℕ → Bool
is_counts word = bytes_eq word (codes "--counts")

-- what the words ask for, if they are of this form
abbrev pub request_of : List (List ℕ) → Option Order
request_of [] = None
request_of (one ∷ []) = None
request_of (one ∷ two ∷ []) = if is_counts one then None else Some (record { kind = Problem; controller = one; question = two })
request_of (one ∷ two ∷ three ∷ []) = if is_counts one then Some (record { kind = Counts; controller = two; question = three }) else None
request_of (one ∷ two ∷ three ∷ four ∷ words) = None
