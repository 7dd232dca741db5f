-- What holds of the texts of two files, of three, and of one or two, holds of all texts that are answered.
use Rattle.std.proofs.Common.{ℕ, List, [], ◌∷◌}
use Rattle.ccac_ports.specs.Ports.{Told}
use Rattle.file_reports.specs.Fetched.{AreFetched, IsFetched, no_more, one_more}
use Rattle.file_reports.specs.Had.{ByText, of_one_or_two, of_three, of_two}
use Rattle.file_reports.specs.Reports.{Answer}
use Rattle.file_reports.specs.declared.sources.Source.{Source}

-- ---- of texts

pub at_two : (Two : List ℕ → ByText) (a : Answer) (P : List (List ℕ) → Type 0) → ((one two : List ℕ) → Two one two a → P (one ∷ two ∷ []))
    → (texts : List (List ℕ)) → of_two Two texts a → P texts
at_two Two a P so [] is = absurd is
at_two Two a P so (one ∷ []) is = absurd is
at_two Two a P so (one ∷ two ∷ []) is = so one two is
at_two Two a P so (one ∷ two ∷ three ∷ more) is = absurd is

pub at_three : (Three : List ℕ → List ℕ → ByText) (a : Answer) (P : List (List ℕ) → Type 0)
    → ((one two three : List ℕ) → Three one two three a → P (one ∷ two ∷ three ∷ [])) → (texts : List (List ℕ)) → of_three Three texts a → P texts
at_three Three a P so [] is = absurd is
at_three Three a P so (one ∷ []) is = absurd is
at_three Three a P so (one ∷ two ∷ []) is = absurd is
at_three Three a P so (one ∷ two ∷ three ∷ []) is = so one two three is
at_three Three a P so (one ∷ two ∷ three ∷ four ∷ more) is = absurd is

pub at_one_or_two : (One : ByText) (Two : List ℕ → ByText) (a : Answer) (P : List (List ℕ) → Type 0) → ((one : List ℕ) → One one a → P (one ∷ []))
    → ((one two : List ℕ) → Two one two a → P (one ∷ two ∷ [])) → (texts : List (List ℕ)) → of_one_or_two One Two texts a → P texts
at_one_or_two One Two a P so then_so [] is = absurd is
at_one_or_two One Two a P so then_so (one ∷ []) is = so one is
at_one_or_two One Two a P so then_so (one ∷ two ∷ []) is = then_so one two is
at_one_or_two One Two a P so then_so (one ∷ two ∷ three ∷ more) is = absurd is

-- ---- of the names and the texts of fetched files

-- a fact of the names and the texts of files
abbrev pub OfFiles : Type 1
OfFiles = List (List ℕ) → List (List ℕ) → Type 0

none_behind : (folder : Told) (names texts : List (List ℕ)) (P : OfFiles) → P [] [] → AreFetched folder [] names texts → P names texts
none_behind folder _ _ P so (no_more []) = so

one_left : (folder : Told) (s : Source) (names texts : List (List ℕ)) (P : OfFiles) → P [] []
    → ((n one : List ℕ) → IsFetched folder s n one → P (n ∷ []) (one ∷ [])) → AreFetched folder (s ∷ []) names texts → P names texts
one_left folder s _ _ P none so (no_more _) = none
one_left folder s _ _ P none so (one_more _ _ n one names texts first rest) =
    none_behind folder names texts (λ ns ts. P (n ∷ ns) (one ∷ ts)) (so n one first) rest

two_left : (folder : Told) (s t : Source) (names texts : List (List ℕ)) (P : OfFiles) → P [] []
    → ((n one : List ℕ) → IsFetched folder s n one → P (n ∷ []) (one ∷ []))
    → ((n m one two : List ℕ) → IsFetched folder s n one → IsFetched folder t m two → P (n ∷ m ∷ []) (one ∷ two ∷ []))
    → AreFetched folder (s ∷ t ∷ []) names texts → P names texts
two_left folder s t _ _ P none so then_so (no_more _) = none
two_left folder s t _ _ P none so then_so (one_more _ _ n one names texts first rest) =
    one_left folder t names texts (λ ns ts. P (n ∷ ns) (one ∷ ts)) (so n one first) (λ m two second. then_so n m one two first second) rest

three_left : (folder : Told) (s t u : Source) (names texts : List (List ℕ)) (P : OfFiles) → P [] []
    → ((n one : List ℕ) → IsFetched folder s n one → P (n ∷ []) (one ∷ []))
    → ((n m one two : List ℕ) → IsFetched folder s n one → IsFetched folder t m two → P (n ∷ m ∷ []) (one ∷ two ∷ []))
    → ((n m k one two three : List ℕ) → IsFetched folder s n one → IsFetched folder t m two → IsFetched folder u k three
    → P (n ∷ m ∷ k ∷ []) (one ∷ two ∷ three ∷ []))
    → AreFetched folder (s ∷ t ∷ u ∷ []) names texts → P names texts
three_left folder s t u _ _ P none so then_so last_so (no_more _) = none
three_left folder s t u _ _ P none so then_so last_so (one_more _ _ n one names texts first rest) =
    two_left folder t u names texts (λ ns ts. P (n ∷ ns) (one ∷ ts)) (so n one first) (λ m two second. then_so n m one two first second)
    (λ m k two three second third. last_so n m k one two three first second third) rest

module _ (folder : Told) (a : Answer) (P : List (List ℕ) → Type 0) (s t : Source) (names texts : List (List ℕ)) where
  pub two_files : (Two : List ℕ → ByText)
      → ((n m one two : List ℕ) → IsFetched folder s n one → IsFetched folder t m two → Two one two a → P (n ∷ m ∷ []))
      → AreFetched folder (s ∷ t ∷ []) names texts → of_two Two texts a → P names
  two_files Two so =
      two_left folder s t names texts (λ ns ts. of_two Two ts a → P ns) (λ no. absurd no) (λ n one first no. absurd no)
      (λ n m one two first second is. so n m one two first second is)

  pub one_or_two_files : (One : ByText) (Two : List ℕ → ByText) → ((n one : List ℕ) → IsFetched folder s n one → One one a → P (n ∷ []))
      → ((n m one two : List ℕ) → IsFetched folder s n one → IsFetched folder t m two → Two one two a → P (n ∷ m ∷ []))
      → AreFetched folder (s ∷ t ∷ []) names texts → of_one_or_two One Two texts a → P names
  one_or_two_files One Two so then_so =
      two_left folder s t names texts (λ ns ts. of_one_or_two One Two ts a → P ns) (λ no. absurd no) (λ n one first is. so n one first is)
      (λ n m one two first second is. then_so n m one two first second is)

  pub three_files : (u : Source) (Three : List ℕ → List ℕ → ByText)
      → ((n m k one two three : List ℕ) → IsFetched folder s n one → IsFetched folder t m two → IsFetched folder u k three → Three one two three a
      → P (n ∷ m ∷ k ∷ []))
      → AreFetched folder (s ∷ t ∷ u ∷ []) names texts → of_three Three texts a → P names
  three_files u Three so are =
      three_left folder s t u names texts (λ ns ts. of_three Three ts a → P ns) (λ no. absurd no) (λ n one first no. absurd no)
      (λ n m one two first second no. absurd no) (λ n m k one two three first second third is. so n m k one two three first second third is) are
