-- What a token that is given by itself says of the tokens before and after it was taken.
use Rattle.std.specs.Prelude.{◌≡◌, List, [], ◌∷◌}
use Rattle.std.specs.String.{string_bytes}
use Rattle.source_text.specs.declared.lexemes.Sign as signs
use Rattle.source_text.specs.declared.cursor.Token as given
use Rattle.source_text.specs.declared.cursor.Token.TheVariants.{End, Wrong, Word, Number, Sign}
use Rattle.source_text.specs.Tokens.{Token, word, number, sign, wrong}
use Rattle.source_text.specs.Signs.{sign_text}

abbrev pub Gives : given.Token → List Token → List Token → Type 0
Gives End old new = (old ≡ []) × (new ≡ [])
Gives Wrong old new = (old ≡ wrong ∷ []) × (new ≡ wrong ∷ [])
Gives (Word text) old new = old ≡ word (string_bytes text) ∷ new
Gives (Number num den) old new = old ≡ number num den ∷ new
Gives (Sign text) old new = (s : signs.Sign) × ((string_bytes text ≡ sign_text s) × (old ≡ sign s ∷ new))
