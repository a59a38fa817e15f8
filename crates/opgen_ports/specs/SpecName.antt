-- Which names a specification may have.
use Rattle.std.specs.Prelude.{ℕ, ◌==◌, ◌&&◌, Bool, false, not, List, [], ◌∷◌, length, codes, nat_le, nat_lt}
use Rattle.std.specs.Char.{is_ascii_digit}
use Rattle.std.specs.List.{list_all, list_any}
use Rattle.std.specs.Str.{bytes_eq}
use Rattle.opgen_ports.specs.declared.spec_name.TheConstants.{MAX_SPEC_NAME_LEN}
use Rattle.opgen_names.specs.Names.{is_allowed_name}

-- What a written design names itself: its architecture, the clock, its enable and the ports.
unfoldable pub taken_names : List (List ℕ)
taken_names =
    codes "rtl" ∷ codes "clk" ∷ codes "ce" ∷ codes "a" ∷ codes "b" ∷ codes "d" ∷ codes "q" ∷ codes "r" ∷
    codes "x" ∷ codes "y" ∷ codes "y0" ∷ codes "y1" ∷ codes "y2" ∷ codes "y3" ∷ codes "y4" ∷ codes "y5" ∷
    codes "y6" ∷ codes "y7" ∷ []

abbrev pub is_taken : List ℕ → Bool
is_taken name = list_any (λ taken. bytes_eq taken name) taken_names

-- the name of a design's signal: `s` (115) and one digit or more
abbrev pub is_signal_name : List ℕ → Bool
is_signal_name [] = false
is_signal_name (c ∷ digits) = c == 115 && nat_lt 0 (length digits) && list_all is_ascii_digit digits

-- A specification's name: a name of the VHDL subset in lower case, of at most 32 bytes, that is none of the taken names and not
-- `s` with digits alone after it.
abbrev pub is_spec_name : List ℕ → Bool
is_spec_name name = nat_le (length name) MAX_SPEC_NAME_LEN && is_allowed_name name && not (is_taken name) && not (is_signal_name name)
