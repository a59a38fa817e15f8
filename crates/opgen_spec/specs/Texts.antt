-- How an error of a specification prints: its name, and then its fields, each after a space.
use Rattle.std.specs.Prelude.{ℕ, ◌==◌, List, ◌++◌, codes, if◌then◌else◌}
use Rattle.std.specs.Fmt.{decimal, signed_decimal}
use Rattle.opgen_spec.specs.declared.fault.Place.{Place}
use Rattle.opgen_spec.specs.declared.fault.SpecFault.{SpecFault}
use Rattle.opgen_spec.specs.declared.fault.SpecFault.TheVariants as fault
use Rattle.opgen_document.specs.Keys.{key_name}

-- a key, and the number of its line where it is one's
abbrev pub place_text : Place → List ℕ
place_text p = if p.line == 0 then key_name p.key else key_name p.key ++ codes " " ++ decimal p.line

abbrev pub fault_text : SpecFault → List ℕ
fault_text fault.NotToml = codes "NotToml"
fault_text (fault.UnknownKey line at) = codes "UnknownKey " ++ decimal line ++ codes " " ++ decimal at
fault_text (fault.MissingKey k line) = codes "MissingKey " ++ place_text (record { key = k; line = line })
fault_text (fault.WrongType k line) = codes "WrongType " ++ place_text (record { key = k; line = line })
fault_text (fault.BadVersion found) = codes "BadVersion " ++ signed_decimal found
fault_text fault.BadName = codes "BadName"
fault_text fault.BadKind = codes "BadKind"
fault_text (fault.OutOfRange k line found) =
    codes "OutOfRange " ++ place_text (record { key = k; line = line }) ++ codes " " ++ signed_decimal found
fault_text (fault.NotExact index) = codes "NotExact " ++ decimal index
fault_text (fault.Coarse shift) = codes "Coarse " ++ signed_decimal shift
fault_text (fault.TooWide need) = codes "TooWide " ++ decimal need
fault_text fault.Memory = codes "out of memory"
