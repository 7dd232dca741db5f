-- A sink that is as it was has got no text.
use Rattle.std.proofs.Common.{◌≡◌, sym, ap, ℕ, List, [], Option, None, Some, refl, append-nil}
use Rattle.ccac_ports.specs.Ports.{Appends}

pub nothing_put : (text : Option (List ℕ)) → Appends text text []
nothing_put None = refl
nothing_put (Some text) = ap Some (sym (append-nil text))
