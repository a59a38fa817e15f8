-- One input times several constants.
use Rattle.std.specs.Fmt.{decimal}
use Rattle.std.specs.Prelude.{ℕ, ◌≡◌, ◌≤◌, ◌<◌, false, IsTrue, All, Some, None, ◌+◌, ℤ, pos, length, List, [], ◌∷◌, ◌*ℤ◌, map, true, slice_get, codes, ◌++◌}
use Rattle.opgen_num.specs.declared.limits.TheConstants.{MAX_CONSTANT, MAX_SEARCHED_CONSTANT}
use Rattle.opgen_num.specs.declared.format.Format.{Format}
use Rattle.opgen_num.specs.declared.format.Ratio.{Ratio}
use Rattle.opgen_num.specs.declared.mode.Mode.{Mode}
use Rattle.opgen_kinds.specs.declared.several.Several.{Several}
use Rattle.opgen_ports.specs.declared.ports.PortFormat.{PortFormat}
use Rattle.opgen_ports.specs.Acceptance.{Acceptance}
use Rattle.opgen_ports.specs.Accepted.{IsAcceptable}
use Rattle.opgen_ports.specs.Good.{IsGoodRatio}
use Rattle.opgen_ports.specs.In128.{IsRatioIn128}
use Rattle.opgen_ports.specs.Modes.{IsExactOrFaithful}
use Rattle.opgen_ports.specs.Meaning.{Meaning}
use Rattle.opgen_ports.specs.Ranges.{AreNear, IsInput, IsWithin}
use Rattle.opgen_ports.specs.Recipes.{is_third}
use Rattle.opgen_ports.specs.Ports.{port, covering, one_input}
use Rattle.opgen_ports.specs.Reaches.{reach_over}
use Rattle.opgen_ports.specs.Spans.{IsOf}

-- what the search for the fewest adders takes
pub record IsSearchedFor (m : Several) : Type 0 where
  pub constants : All (IsWithin MAX_SEARCHED_CONSTANT) m.constants
  pub extra : m.extra ≤ 2

-- no net is built yet of several constants as in version 4
abbrev pub IsBuiltSeveral : Several → Type 0
IsBuiltSeveral m = IsTrue (is_third m.recipe)

pub record IsSeveral (m : Several) : Type 0 where
  pub input : IsInput m.input
  pub some : 1 ≤ length m.constants
  pub few : length m.constants ≤ 8
  pub constants : All (IsWithin MAX_CONSTANT) m.constants
  pub searched : IsTrue m.searched → IsSearchedFor m
  pub rest : m.searched ≡ false → m.extra ≡ 0
  pub built : IsBuiltSeveral m

-- the format of an input times a constant
abbrev pub constant_format : Format → ℤ → Format
constant_format input t = covering (reach_over input (t ∷ [])) input.lsb

-- y0, y1 and so on, from a number on
abbrev pub numbered : ℕ → List Format → List PortFormat
numbered n [] = []
numbered n (f ∷ fs) = port (codes "y" ++ decimal n) f ∷ numbered (n + 1) fs

abbrev pub multiple_ports : Several → List PortFormat
multiple_ports m = numbered 0 (map (constant_format m.input) m.constants)

-- the exact value of an input times a constant
abbrev pub exact_multiple : (constant x : ℤ) → Ratio
exact_multiple constant x = record { num = x *ℤ constant; den = pos 1 }

-- output k is good for constant k
abbrev pub AreGoodMultiples : (mode : Mode) (constants : List ℤ) (x : ℤ) (outputs : ℕ → ℤ) → Type 0
AreGoodMultiples mode constants x outputs =
    (k : ℕ) (t : ℤ) → slice_get constants k ≡ Some t → IsGoodRatio mode (exact_multiple t x) (outputs k)

-- the format of an output holds every multiple
abbrev pub MultiplesHold : Several → Type 0
MultiplesHold m = (constant x : ℤ) → IsOf m.input x → IsOf (constant_format m.input constant) (x *ℤ constant)

-- what several multiples mean
abbrev pub several_meaning : Several → Meaning
several_meaning m = record {
  inputs = one_input m.input;
  outputs = multiple_ports m;
  divisor = None;
  memory = 0;
  value = None;
  IsGood = λ mode inputs outputs. IsExactOrFaithful mode × AreGoodMultiples mode m.constants (inputs 0 0) outputs;
}

-- which multiples are accepted
abbrev pub several_acceptance : Several → Acceptance
several_acceptance m = record {
  -- versions 1 and 2 have no graphs of a fixed rule
  IsIn = λ version. AreNear version (m.input.lsb ∷ []) × (version < 3 → IsTrue m.searched);
  IsRanged = IsSeveral m;
  given_names = [];
  shift = pos 0;
  least_shift = pos 0;
  most_shift = λ version. pos 0;
  inexact = None;
  need = None;
  HasRoom = Unit {0};
  own_mark = None;
  IsExactIn128 = λ inputs. All (λ t. IsRatioIn128 (exact_multiple t (inputs 0 0))) m.constants;
  FormatsHold = MultiplesHold m;
  has_graph = true;
}

abbrev pub IsAcceptedSeveral : Several → Type 0
IsAcceptedSeveral m = IsAcceptable (several_meaning m) (several_acceptance m)
