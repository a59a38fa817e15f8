-- Names of the VHDL subset, in lower case.
use Rattle.std.specs.Prelude.{ℕ, ◌==◌, ◌&&◌, ◌||◌, Bool, false, not, List, [], ◌∷◌, length, codes, nat_le}
use Rattle.std.specs.Char.{is_ascii_lowercase, is_ascii_digit}
use Rattle.std.specs.List.{list_all, list_any}
use Rattle.std.specs.Str.{bytes_eq}
use Rattle.opgen_names.specs.declared.TheConstants.{MAX_NAME_LEN}

-- The words that serve as no name: words that VHDL keeps for itself, and names of the packages of IEEE 1164
-- and IEEE 1076.3 that every written text uses. The list is a choice of this project.
unfoldable pub refused_words : List (List ℕ)
refused_words =
    codes "abs" ∷ codes "access" ∷ codes "after" ∷ codes "alias" ∷ codes "all" ∷ codes "and" ∷
    codes "architecture" ∷ codes "array" ∷ codes "assert" ∷ codes "attribute" ∷ codes "begin" ∷
    codes "block" ∷ codes "body" ∷ codes "buffer" ∷ codes "bus" ∷ codes "case" ∷ codes "component" ∷
    codes "configuration" ∷ codes "constant" ∷ codes "disconnect" ∷ codes "downto" ∷ codes "else" ∷
    codes "elsif" ∷ codes "end" ∷ codes "entity" ∷ codes "exit" ∷ codes "file" ∷ codes "for" ∷
    codes "function" ∷ codes "generate" ∷ codes "generic" ∷ codes "group" ∷ codes "guarded" ∷
    codes "if" ∷ codes "impure" ∷ codes "in" ∷ codes "inertial" ∷ codes "inout" ∷ codes "is" ∷
    codes "label" ∷ codes "library" ∷ codes "linkage" ∷ codes "literal" ∷ codes "loop" ∷
    codes "map" ∷ codes "mod" ∷ codes "nand" ∷ codes "new" ∷ codes "next" ∷ codes "nor" ∷
    codes "not" ∷ codes "null" ∷ codes "of" ∷ codes "on" ∷ codes "open" ∷ codes "or" ∷
    codes "others" ∷ codes "out" ∷ codes "package" ∷ codes "port" ∷ codes "postponed" ∷
    codes "procedure" ∷ codes "process" ∷ codes "pure" ∷ codes "range" ∷ codes "record" ∷
    codes "register" ∷ codes "reject" ∷ codes "rem" ∷ codes "report" ∷ codes "return" ∷
    codes "rol" ∷ codes "ror" ∷ codes "select" ∷ codes "severity" ∷ codes "shared" ∷
    codes "signal" ∷ codes "sla" ∷ codes "sll" ∷ codes "sra" ∷ codes "srl" ∷ codes "subtype" ∷
    codes "then" ∷ codes "to" ∷ codes "transport" ∷ codes "type" ∷ codes "unaffected" ∷
    codes "units" ∷ codes "until" ∷ codes "use" ∷ codes "variable" ∷ codes "wait" ∷ codes "when" ∷
    codes "while" ∷ codes "with" ∷ codes "xnor" ∷ codes "xor" ∷ codes "ieee" ∷ codes "work" ∷
    codes "std" ∷ codes "std_logic" ∷ codes "std_logic_vector" ∷ codes "unsigned" ∷ codes "signed" ∷
    codes "rising_edge" ∷ codes "numeric_std" ∷ codes "std_logic_1164" ∷ []

abbrev pub is_refused : List ℕ → Bool
is_refused name = list_any (λ word. bytes_eq word name) refused_words

abbrev pub is_underscore : ℕ → Bool
is_underscore c = c == 95

abbrev pub is_name_byte : ℕ → Bool
is_name_byte c = is_ascii_lowercase c || is_ascii_digit c || is_underscore c

abbrev pub starts_with_letter : List ℕ → Bool
starts_with_letter [] = false
starts_with_letter (c ∷ _) = is_ascii_lowercase c

abbrev pub ends_with_underscore : List ℕ → Bool
ends_with_underscore [] = false
ends_with_underscore (c ∷ []) = is_underscore c
ends_with_underscore (_ ∷ d ∷ cs) = ends_with_underscore (d ∷ cs)

-- whether two underscores stand side by side
abbrev pub has_double_underscore : List ℕ → Bool
has_double_underscore [] = false
has_double_underscore (_ ∷ []) = false
has_double_underscore (c ∷ d ∷ cs) = (is_underscore c && is_underscore d) || has_double_underscore (d ∷ cs)

-- no underscore at the end, and no two side by side
abbrev pub has_single_underscores : List ℕ → Bool
has_single_underscores name = not (ends_with_underscore name) && not (has_double_underscore name)

-- A basic identifier of VHDL in lower case (IEEE 1076-1993, 13.3.1): a letter, then letters, digits and single
-- underscores, the last of them no underscore.
abbrev pub is_identifier : List ℕ → Bool
is_identifier name = starts_with_letter name && list_all is_name_byte name && has_single_underscores name

-- a name: an identifier of at most 64 bytes that is no refused word
abbrev pub is_allowed_name : List ℕ → Bool
is_allowed_name name = nat_le (length name) MAX_NAME_LEN && is_identifier name && not (is_refused name)
