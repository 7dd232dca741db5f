-- How signs are spelled.
use Rattle.std.specs.Prelude.{ℕ, List, [], ◌∷◌, Option, None, Some, ◌==◌, if◌then◌else◌}
use Rattle.source_text.specs.declared.lexemes.Sign.{Sign}
use Rattle.source_text.specs.declared.lexemes.Sign.TheVariants.{AtMost, Below, AtLeast, Above, Equal, Assign, Plus, Minus, Times, Open, Close, Dot, At}

abbrev pub sign_text : Sign → List ℕ
sign_text AtMost = 60 ∷ 61 ∷ []
sign_text Below = 60 ∷ []
sign_text AtLeast = 62 ∷ 61 ∷ []
sign_text Above = 62 ∷ []
sign_text Equal = 61 ∷ 61 ∷ []
sign_text Assign = 61 ∷ []
sign_text Plus = 43 ∷ []
sign_text Minus = 45 ∷ []
sign_text Times = 42 ∷ []
sign_text Open = 40 ∷ []
sign_text Close = 41 ∷ []
sign_text Dot = 46 ∷ []
sign_text At = 64 ∷ []

-- the sign that one byte is
unfoldable pub sign_of : ℕ → Option Sign
sign_of b =
    if b == 60 then Some Below
    else if b == 62 then Some Above
    else if b == 61 then Some Assign
    else if b == 43 then Some Plus
    else if b == 45 then Some Minus
    else if b == 42 then Some Times
    else if b == 40 then Some Open
    else if b == 41 then Some Close
    else if b == 46 then Some Dot
    else if b == 64 then Some At
    else None

-- the sign that it is with a `=` behind it
abbrev pub with_equals : Sign → Option Sign
with_equals Below = Some AtMost
with_equals Above = Some AtLeast
with_equals Assign = Some Equal
with_equals AtMost = None
with_equals AtLeast = None
with_equals Equal = None
with_equals Plus = None
with_equals Minus = None
with_equals Times = None
with_equals Open = None
with_equals Close = None
with_equals Dot = None
with_equals At = None
