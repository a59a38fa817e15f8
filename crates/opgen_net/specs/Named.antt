-- Nets whose names are allowed in the text of a design.
use Rattle.std.specs.Prelude.{ℕ, ◌+◌, ◌≤◌, ◌≢◌, ◌==◌, ◌&&◌, Bool, false, List, ◌∷◌, ◌++◌, length, map, codes, All, IsTrue}
use Rattle.std.specs.Char.{is_ascii_digit}
use Rattle.std.specs.List.{AllPairs}
use Rattle.opgen_net.specs.declared.net.Net.{Net}
use Rattle.opgen_names.specs.Names.{is_allowed_name}

-- the names of the ports beside `clk`: those of the inputs, then those of the outputs
abbrev pub port_names : Net → List (List ℕ)
port_names net = map (λ i. i.0) net.inputs ++ map (λ o. o.name) net.outputs

-- `s` and a digit, as the names of signals begin
abbrev pub begins_as_signal : List ℕ → Bool
begins_as_signal (c ∷ d ∷ more) = (c == 115) && is_ascii_digit d
begins_as_signal _ = false

-- a name that no signal, clock or clock enable of a design has
pub record IsFree (name : List ℕ) : Type 0 where
  pub no_clock : name ≢ codes "clk"
  pub no_enable : name ≢ codes "ce"
  pub no_signal : IsTrue (begins_as_signal name) → ⊥

-- a net with a port, whose name and port names are allowed, differ and are free
pub record IsNamed (name : List ℕ) (net : Net) : Type 0 where
  pub has_port : 1 ≤ length net.inputs + length net.outputs
  pub name_allowed : IsTrue (is_allowed_name name)
  pub allowed : All (λ n. IsTrue (is_allowed_name n)) (port_names net)
  pub differ : AllPairs (λ a b. a ≢ b) (port_names net)
  pub free : All IsFree (port_names net)
