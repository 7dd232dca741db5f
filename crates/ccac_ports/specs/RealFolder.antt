use Rattle.std.specs.Prelude.{ℕ}
use Rattle.ccac_ports.specs.declared.real_folder.RealFolder.{RealFolder}

-- how often a file couldn't be read
abbrev pub faults : {R File Dir : Type 0} → RealFolder R File Dir → ℕ
faults folder = folder.faults

-- how often a file was too long
abbrev pub excesses : {R File Dir : Type 0} → RealFolder R File Dir → ℕ
excesses folder = folder.excesses
