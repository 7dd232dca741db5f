-- What a word, a number and a sign stand for: the words that the grammar and the reader share.
use Rattle.std.specs.Prelude.{ℕ, pos, List, Bool, true, false, ◌||◌, codes, Option, None, Some}
use Rattle.std.specs.Str.{bytes_eq}
use Rattle.std.proofs.Common.{neg_ℤ}
use Rattle.source_text.specs.declared.lexemes.Sign.{Sign}
use Rattle.source_text.specs.declared.lexemes.Sign.TheVariants.{AtMost, Below, AtLeast, Above, Equal}
use Rattle.weighing.specs.declared.scales.Num.{Num}
use Rattle.weighing.specs.declared.weighings.Rel5.{Rel5}
use Rattle.weighing.specs.declared.weighings.Rel5.TheVariants as rels

-- the words that name nothing
unfoldable pub is_keyword : List ℕ → Bool
is_keyword w =
    bytes_eq w (codes "and") || (bytes_eq w (codes "or") || (bytes_eq w (codes "not")
    || (bytes_eq w (codes "true") || (bytes_eq w (codes "false") || bytes_eq w (codes "delay")))))

-- a number as it is kept
abbrev pub fraction : ℕ → ℕ → Num
fraction n d = record { num = pos n; den = pos d }

-- with the sign of its term
abbrev pub signed : Bool → Num → Num
signed false q = q
signed true q = record { num = neg_ℤ q.num; den = q.den }

abbrev pub rel_of : Sign → Option Rel5
rel_of AtMost = Some rels.AtMost
rel_of Below = Some rels.Below
rel_of AtLeast = Some rels.AtLeast
rel_of Above = Some rels.Above
rel_of Equal = Some rels.Equal
rel_of _ = None
