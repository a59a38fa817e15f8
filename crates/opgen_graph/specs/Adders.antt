-- What one adder makes of two numbers (de Dinechin and Kumm, Application-Specific Arithmetic: adder graphs).
use Rattle.std.specs.Prelude.{◌≡◌, ◌⊎◌, ℕ, ◌+◌, ◌*◌, ◌^◌, ◌≤◌, ◌<◌, ◌%◌}
use Rattle.opgen_graph.specs.declared.forms.Form.{Form}
use Rattle.opgen_graph.specs.declared.forms.Form.TheVariants.{A, B, C, D, E}
use Rattle.opgen_graph.specs.declared.forms.Step.{Step}

-- an odd number of at most 13 bits
abbrev pub IsTerm : ℕ → Type 0
IsTerm n = (n % 2 ≡ 1) × (n < 2 ^ 13)

-- the form makes f of u and v with the shift
abbrev pub Makes : Form → (shift u v f : ℕ) → Type 0
Makes A i u v f = 2 ^ i * u + v ≡ f
Makes B i u v f = 2 ^ i * u ≡ f + v
Makes C i u v f = v ≡ f + 2 ^ i * u
Makes D r u v f = u + v ≡ 2 ^ r * f
Makes E r u v f = (u ≡ v + 2 ^ r * f) ⊎ (v ≡ u + 2 ^ r * f)

-- some form with some shift makes f
abbrev pub Comb : (u v f : ℕ) → Type 0
Comb u v f = (form : Form) × (i : ℕ) × (1 ≤ i) × Makes form i u v f

abbrev pub place : Form → ℕ
place A = 0
place B = 1
place C = 2
place D = 3
place E = 4

-- an earlier form, or the same one with a shift that is not greater
abbrev pub IsNotAfter : Step → Form → ℕ → Type 0
IsNotAfter step form i = (place step.form < place form) ⊎ ((place step.form ≡ place form) × (step.shift ≤ i))

-- the first form, and then the least shift, that makes f
pub record IsFirstStep (u v f : ℕ) (step : Step) : Type 0 where
  pub shifted : 1 ≤ step.shift
  pub makes : Makes step.form step.shift u v f
  pub first : (form : Form) (i : ℕ) → 1 ≤ i → Makes form i u v f → IsNotAfter step form i

-- an adder makes f of u and v, in one order or the other
abbrev pub CombEither : (u v f : ℕ) → Type 0
CombEither u v f = Comb u v f ⊎ Comb v u f

-- the sum or the difference of two numbers is a number times a power of two of at least 2
abbrev pub IsOddPart : (part u v : ℕ) → Type 0
IsOddPart part u v = (i : ℕ) × (1 ≤ i) × ((u + v ≡ 2 ^ i * part) ⊎ ((u ≡ v + 2 ^ i * part) ⊎ (v ≡ u + 2 ^ i * part)))
