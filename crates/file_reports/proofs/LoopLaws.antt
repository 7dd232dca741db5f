-- The loop that fetches the named files: so many names were fetched as there are texts.
use Rattle.std.proofs.Common.{◌≡◌, ◌∙◌, refl, sym, ap, subst, ℕ, suc, ◌+◌, ◌<◌, ◌≤◌, List, [], ◌∷◌, ◌++◌, length, map, take, drop, get_or, arith}
use Rattle.std.proofs.Math.Seq.{split_at}
use Rattle.std.proofs.lemmas.List.{length-map, length-take-le, map-append, take_more}
use Rattle.std.specs.Global.{Vec}
use Rattle.ccac_ports.specs.Ports.{Told}
use Rattle.file_reports.specs.Fetched.{AreFetched, FetchEnds, Fetches, IsFetched, IsLater, no_more}
use Rattle.file_reports.specs.Had.{had_all, never}
use Rattle.file_reports.specs.Halted.{HaltsBy}
use Rattle.file_reports.specs.Shown.{texts_of}
use Rattle.file_reports.specs.declared.sources.Source.{Source}
use Rattle.file_reports.specs.declared.early_end.EarlyEnd.{EarlyEnd}
use Rattle.file_reports.proofs.HadLaws.{same_count}
use Rattle.file_reports.proofs.FetchLaws.{IsNext, later_still, next_fetched, next_stops}

pub same_told : (told : Told) → IsLater told told
same_told told = record { faults_stay = λ name. omega arith; excesses_stay = λ name. omega arith; kept = λ name. refl }

pub none_yet : (old : Told) (files : List Source) (items : List (Vec ℕ)) → items ≡ [] → AreFetched old files [] (texts_of items)
none_yet old files items is = subst (λ (vs : List (Vec ℕ)). AreFetched old files [] (texts_of vs)) (sym is) (no_more files)

module _ {W : Type 0} (bytes_of : W → List ℕ) (old : Told) (files : List Source) (names : List W) (items : List (Vec ℕ)) (i len : ℕ) where
  -- as many names were fetched as i, and there are as many texts
  same_length : len ≡ length items → len ≡ length (texts_of items)
  same_length is = is ∙ sym (length-map items (λ text. text.items))

  counted : len ≡ length items → i < length names → AreFetched old files (map bytes_of (take i names)) (texts_of items) → len ≡ i
  counted is below are =
      let fits : i ≤ length names = omega arith in
      same_length is ∙ same_count old files (map bytes_of (take i names)) (texts_of items) are ∙ length-map (take i names) bytes_of
      ∙ length-take-le i names fits

  pub room : len ≡ length items → i < length names → length names ≤ length files → AreFetched old files (map bytes_of (take i names)) (texts_of items)
      → len < length files
  room is below fits are = let count : len ≡ i = counted is below are in omega arith

  next_is : len ≡ length items → i < length names → length names ≤ length files → AreFetched old files (map bytes_of (take i names)) (texts_of items)
      → (source : Source) → source ≡ get_or files len source → IsNext files (texts_of items) source
  next_is is below fits are source at =
      (subst (λ n. n < length files) (same_length is) (room is below fits are), subst (λ n. get_or files n source ≡ source) (same_length is) (sym at))

  pub stops_at : len ≡ length items → i < length names → length names ≤ length files → AreFetched old files (map bytes_of (take i names)) (texts_of items)
      → (middle new : Told) (source : Source) (name : W) (text : List ℕ) (halt : EarlyEnd) → IsLater old middle → source ≡ get_or files len source
      → name ≡ get_or names i name → text ≡ bytes_of name → HaltsBy (FetchEnds middle new source text) halt
      → HaltsBy (had_all (Fetches old new) files (map bytes_of names) never) halt
  stops_at is below fits are middle new source name text halt later at named spelled ends =
      let split : map bytes_of names ≡ map bytes_of (take i names) ++ bytes_of name ∷ map bytes_of (drop (suc i) names) =
      ap (map bytes_of) (split_at names i name below) ∙ map-append bytes_of (take i names) (get_or names i name ∷ drop (suc i) names)
      ∙ ap (λ (n : W). map bytes_of (take i names) ++ bytes_of n ∷ map bytes_of (drop (suc i) names)) (sym named)
      in
      subst (λ (ns : List (List ℕ)). HaltsBy (had_all (Fetches old new) files ns never) halt) (sym split)
      (next_stops old middle new files (map bytes_of (take i names)) (map bytes_of (drop (suc i) names)) (texts_of items) source (bytes_of name) halt later are
      (next_is is below fits are source at) (subst (λ (t : List ℕ). HaltsBy (FetchEnds middle new source t) halt) spelled ends))

  pub one_further : len ≡ length items → i < length names → length names ≤ length files → AreFetched old files (map bytes_of (take i names)) (texts_of items)
      → (middle new : Told) (source : Source) (name : W) (text : List ℕ) (bytes : Vec ℕ) (more : List (Vec ℕ)) → IsLater old middle → IsLater middle new
      → source ≡ get_or files len source → name ≡ get_or names i name → text ≡ bytes_of name → IsFetched middle source text bytes.items
      → more ≡ items ++ bytes ∷ [] → IsLater old new × AreFetched old files (map bytes_of (take (i + 1) names)) (texts_of more)
  one_further is below fits are middle new source name text bytes more later still at named spelled fetched pushed =
      let grown : map bytes_of (take (i + 1) names) ≡ map bytes_of (take i names) ++ bytes_of name ∷ [] =
      ap (map bytes_of) (take_more names i name below) ∙ map-append bytes_of (take i names) (get_or names i name ∷ [])
      ∙ ap (λ (n : W). map bytes_of (take i names) ++ bytes_of n ∷ []) (sym named)
      in
      let kept : texts_of more ≡ texts_of items ++ bytes.items ∷ [] =
      ap (λ (vs : List (Vec ℕ)). texts_of vs) pushed ∙ map-append (λ text. text.items) items (bytes ∷ [])
      in
      let next : AreFetched old files (map bytes_of (take i names) ++ bytes_of name ∷ []) (texts_of items ++ bytes.items ∷ []) =
      next_fetched old middle files (map bytes_of (take i names)) (texts_of items) source (bytes_of name) bytes.items later are
      (next_is is below fits are source at) (subst (λ (t : List ℕ). IsFetched middle source t bytes.items) spelled fetched)
      in (
        later_still old middle new later still,
        subst (λ (ns : List (List ℕ)). AreFetched old files ns (texts_of more)) (sym grown)
            (subst (λ (ts : List (List ℕ)). AreFetched old files (map bytes_of (take i names) ++ bytes_of name ∷ []) ts) (sym kept) next),
      )
