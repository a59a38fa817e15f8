-- What a driver asks of the rank of its signal.
use Rattle.std.specs.Prelude.{ℕ, ◌+◌, max, Bool, true, nat_le}
use Rattle.opgen_design.specs.declared.design.Driver.{Driver}
use Rattle.opgen_design.specs.declared.design.Target.{Target}
use Rattle.opgen_design.specs.declared.design.Target.TheVariants.{Signal as signal, Port as port_of}
use Rattle.opgen_design.specs.Sound.{expressions_read, target}
use Rattle.opgen_design.specs.Tree.{Tree, Trees, name, part, bits, port, inverse, chain, none, more}
use Rattle.opgen_design.specs.Depth.{registers_in}

abbrev mutual
  -- the highest rank of the signals that an expression reads, and 0 if it reads none
  pub highest : (rank : ℕ → ℕ) → Tree → ℕ
  highest rank (name n) = rank n
  highest rank (part n high low) = rank n
  highest rank (bits w) = 0
  highest rank (port n) = 0
  highest rank (inverse t) = highest rank t
  highest rank (chain op ts) = highest_of rank ts

  pub highest_of : (rank : ℕ → ℕ) → Trees → ℕ
  highest_of rank none = 0
  highest_of rank (more t ts) = max (highest rank t) (highest_of rank ts)

-- the least rank that is allowed at what a driver drives
abbrev pub least_rank : (rank : ℕ → ℕ) → Driver → ℕ
least_rank rank k = highest_of rank (expressions_read k) + registers_in k

-- whether a number is at most the rank of a signal; a port has none
abbrev pub is_at_most : ℕ → (rank : ℕ → ℕ) → Target → Bool
is_at_most least rank (signal s) = nat_le least (rank s)
is_at_most least rank (port_of p) = true

-- whether what a driver drives has at least the least rank that is allowed
abbrev pub is_ranked : (rank : ℕ → ℕ) → Driver → Bool
is_ranked rank k = is_at_most (least_rank rank k) rank (target k)
