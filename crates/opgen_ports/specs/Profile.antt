-- What is said of an operator by numbers and marks alone is so by what it means and what its kind accepts.
use Rattle.std.specs.Option.{is_some}
use Rattle.std.specs.Prelude.{ℕ, ◌≡◌, ℤ, ◌==◌, if◌then◌else◌}
use Rattle.opgen_ports.specs.declared.profile.Profile.{Profile}
use Rattle.opgen_ports.specs.Acceptance.{Acceptance}
use Rattle.opgen_ports.specs.Meaning.{Meaning}

-- the greatest shift in a version
abbrev pub most_shift_in : (version : ℕ) → Profile → ℤ
most_shift_in version p = if version == 1 then p.first_most_shift else p.most_shift

pub record IsProfileOf (m : Meaning) (a : Acceptance) (p : Profile) : Type 0 where
  pub least_shift : p.least_shift ≡ a.least_shift
  pub most_shift : (version : ℕ) → most_shift_in version p ≡ a.most_shift version
  pub divisor : p.divisor ≡ m.divisor
  pub has_value : p.has_value ≡ is_some m.value
  pub has_graph : p.has_graph ≡ a.has_graph
  pub own_mark : p.own_mark ≡ a.own_mark
