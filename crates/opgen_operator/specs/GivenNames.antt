-- The names that a document gives to the inputs, and which words of a later VHDL it may give to itself.
use Rattle.std.specs.Prelude.{ℕ, ◌≢◌, ◌&&◌, ◌||◌, Bool, not, List, [], ◌∷◌, length, codes, nat_le, nat_lt, All, IsTrue}
use Rattle.std.specs.List.{list_any, AllPairs}
use Rattle.std.specs.Str.{bytes_eq}
use Rattle.opgen_operator.specs.declared.given_names.TheConstants.{MAX_PORT_NAME_LEN}
use Rattle.opgen_names.specs.Names.{is_allowed_name}
use Rattle.opgen_net.specs.Named.{begins_as_signal}

-- the words that VHDL-2008 reserves besides those of VHDL-93 (IEEE 1076-2008, 15.10)
unfoldable pub later_words : List (List ℕ)
later_words =
    codes "assume" ∷ codes "assume_guarantee" ∷ codes "context" ∷ codes "cover" ∷ codes "default" ∷
    codes "fairness" ∷ codes "force" ∷ codes "parameter" ∷ codes "property" ∷ codes "protected" ∷
    codes "release" ∷ codes "restrict" ∷ codes "restrict_guarantee" ∷ codes "sequence" ∷
    codes "strong" ∷ codes "vmode" ∷ codes "vprop" ∷ codes "vunit" ∷ []

-- the names of the architecture, the clock, its enable and the output
unfoldable pub taken_names : List (List ℕ)
taken_names = codes "rtl" ∷ codes "clk" ∷ codes "ce" ∷ codes "y" ∷ []

abbrev pub is_one_of : List (List ℕ) → (name : List ℕ) → Bool
is_one_of words name = list_any (λ word. bytes_eq word name) words

-- in documents of version 4 the name of a specification is none of the later words either
abbrev pub is_name_in : (version : ℕ) → (name : List ℕ) → Bool
is_name_in version name = nat_lt version 4 || not (is_one_of later_words name)

-- A name of the VHDL subset in lower case, of at most 32 bytes, that no word of VHDL and no other name of a written text is.
abbrev pub is_port_name : List ℕ → Bool
is_port_name name =
    nat_le (length name) MAX_PORT_NAME_LEN && is_allowed_name name && not (is_one_of later_words name) && not (is_one_of taken_names name)
    && not (begins_as_signal name)

-- Each is such a name and not the name of the specification, and no two are the same.
pub record AreGivenNames (name : List ℕ) (given : List (List ℕ)) : Type 0 where
  pub sound : All (λ n. IsTrue (is_port_name n)) given
  pub apart : All (λ n. n ≢ name) given
  pub differ : AllPairs (λ a b. a ≢ b) given
