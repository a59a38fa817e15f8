-- Cycles that a run leaves out.
use Rattle.std.proofs.Common.{◌≡◌, ℕ, Bool, true, false, List, [], ◌∷◌, get_or, Option, Some, None, refl, subst, ◌∙◌}
use Rattle.std.specs.Prelude.{All}
use Rattle.opgen_design.specs.declared.design.Design.{Design}
use Rattle.opgen_design.specs.declared.design.Driver.{Driver}
use Rattle.opgen_design.specs.declared.design.Driver.TheVariants.{Assign, Choice, Table, Register, Output}
use Rattle.opgen_design.specs.Run.{without_enable, marked, is_one, ones_at, EnabledCyclesAreRuns, IsNoRegister, AnyCyclesAreRuns, Words, scope, Meets, Cycle, RunsOn}
use Rattle.opgen_design.specs.Value.{word_at, value, chosen}

-- the words that registers hold are the same
abbrev Holds : (now later : List (List Bool)) → Driver → Type 0
Holds now later (Register to e) = word_at later to ≡ word_at now to
Holds now later (Assign to e) = Unit {0}
Holds now later (Choice to on one other) = Unit {0}
Holds now later (Table to on rows other) = Unit {0}
Holds now later (Output port e) = Unit {0}

-- a cycle reads of the words before it those that registers hold
from-held : (now later : List (List Bool)) (v : Words) (next : List (List Bool)) (k : Driver) → Holds now later k
    → Meets None later v next k → Meets None now v next k
from-held now later v next (Register to e) h m = (m.0 ∙ h, m.1)
from-held now later v next (Assign to e) h m = m
from-held now later v next (Choice to on one other) h m = m
from-held now later v next (Table to on rows other) h m = m
from-held now later v next (Output port e) h m = m

all-from-held : (now later : List (List Bool)) (v : Words) (next : List (List Bool)) (ks : List Driver) → All (Holds now later) ks
    → All (Meets None later v next) ks → All (Meets None now v next) ks
all-from-held now later v next ks h m = λ i k l. from-held now later v next (get_or ks i k) (h i k l) (m i k l)

runs-from-held : (d : Design) (now later : List (List Bool)) → All (Holds now later) d.drivers
    → (inputs : List (List (List Bool))) (vs : List Words)
    → RunsOn (without_enable d) later inputs vs → RunsOn (without_enable d) now inputs vs
runs-from-held d now later h [] [] r = tt
runs-from-held d now later h [] (v ∷ vs) r = r
runs-from-held d now later h (given ∷ inputs) [] r = r
runs-from-held d now later h (given ∷ inputs) (v ∷ vs) r = (
  r.0,
  record {
    signal_widths = r.1.signal_widths;
    port_widths = r.1.port_widths;
    inputs = r.1.inputs;
    equations = all-from-held now later v r.0 d.drivers h r.1.equations;
  },
  r.2,
)

-- where the enable's word is 1 a cycle is one without the enable, and else the registers hold
module _ (port : ℕ) (now : List (List Bool)) (v : Words) (next : List (List Bool)) where
  moving : (w : List Bool) → is_one w ≡ true → (new held : List Bool) → chosen w new held ≡ new
  moving [] e new held = let f : false ≡ true = e in absurd (cc)
  moving (false ∷ w) e new held = let f : false ≡ true = e in absurd (cc)
  moving (true ∷ []) e new held = refl
  moving (true ∷ b ∷ w) e new held = let f : false ≡ true = e in absurd (cc)

  holding : (w : List Bool) → is_one w ≡ false → (new held : List Bool) → chosen w new held ≡ held
  holding [] e new held = refl
  holding (false ∷ w) e new held = refl
  holding (true ∷ []) e new held = let f : true ≡ false = e in absurd (cc)
  holding (true ∷ b ∷ w) e new held = refl

  moves : is_one (word_at v.ports port) ≡ true → (k : Driver) → Meets (Some port) now v next k → Meets None now v next k
  moves one (Register to e) m = (m.0, m.1 ∙ moving (word_at v.ports port) one (value (scope v) e) (word_at now to))
  moves one (Assign to e) m = m
  moves one (Choice to on first second) m = m
  moves one (Table to on rows other) m = m
  moves one (Output place e) m = m

  all-move : is_one (word_at v.ports port) ≡ true → (ks : List Driver) → All (Meets (Some port) now v next) ks
      → All (Meets None now v next) ks
  all-move one ks m = λ i k l. moves one (get_or ks i k) (m i k l)

  holds : is_one (word_at v.ports port) ≡ false → (k : Driver) → Meets (Some port) now v next k → Holds now next k
  holds zero (Register to e) m = m.1 ∙ holding (word_at v.ports port) zero (value (scope v) e) (word_at now to)
  holds zero (Assign to e) m = tt
  holds zero (Choice to on first second) m = tt
  holds zero (Table to on rows other) m = tt
  holds zero (Output place e) m = tt

  all-hold : is_one (word_at v.ports port) ≡ false → (ks : List Driver) → All (Meets (Some port) now v next) ks → All (Holds now next) ks
  all-hold zero ks m = λ i k l. holds zero (get_or ks i k) (m i k l)

module _ (d : Design) (port : ℕ) (is : d.enable ≡ Some port) where
  equations : (now given : List (List Bool)) (v : Words) (next : List (List Bool)) → Cycle d now given v next
      → All (Meets (Some port) now v next) d.drivers
  equations now given v next c = subst (λ o. All (Meets o now v next) d.drivers) is c.equations

  abbrev Left : (now : List (List Bool)) → List Bool → (inputs : List (List (List Bool))) → List Words → Type 0
  Left now marks inputs vs = RunsOn (without_enable d) now (marked marks inputs) (marked marks vs)

  one-cycle : (now given : List (List Bool)) (inputs : List (List (List Bool))) (v : Words) (vs : List Words) (next : List (List Bool))
      → Cycle d now given v next → Left next (ones_at port vs) inputs vs
      → (one : Bool) → is_one (word_at v.ports port) ≡ one → Left now (one ∷ ones_at port vs) (given ∷ inputs) (v ∷ vs)
  one-cycle now given inputs v vs next c r true e = (
    next,
    record {
      signal_widths = c.signal_widths;
      port_widths = c.port_widths;
      inputs = c.inputs;
      equations = all-move port now v next e d.drivers (equations now given v next c);
    },
    r,
  )
  one-cycle now given inputs v vs next c r false e =
      runs-from-held d now next (all-hold port now v next e d.drivers (equations now given v next c)) (marked (ones_at port vs) inputs)
      (marked (ones_at port vs) vs) r

  enabled-on : (now : List (List Bool)) (inputs : List (List (List Bool))) (vs : List Words) → RunsOn d now inputs vs
      → Left now (ones_at port vs) inputs vs
  enabled-on now [] [] r = tt
  enabled-on now [] (v ∷ vs) r = absurd r
  enabled-on now (given ∷ inputs) [] r = absurd r
  enabled-on now (given ∷ inputs) (v ∷ vs) r =
      one-cycle now given inputs v vs r.0 r.1 (enabled-on r.0 inputs vs r.2) (is_one (word_at v.ports port)) refl

pub enabled-cycles : EnabledCyclesAreRuns
enabled-cycles d port start inputs vs is r = enabled-on d port is start inputs vs r

-- without registers a cycle says nothing of the words before it and after it
free : (enable : Option ℕ) (now later : List (List Bool)) (v : Words) (next after : List (List Bool)) (k : Driver) → IsNoRegister k
    → Meets enable now v next k → Meets enable later v after k
free enable now later v next after (Register to e) n m = absurd n
free enable now later v next after (Assign to e) n m = m
free enable now later v next after (Choice to on one other) n m = m
free enable now later v next after (Table to on rows other) n m = m
free enable now later v next after (Output port e) n m = m

all-free : (enable : Option ℕ) (now later : List (List Bool)) (v : Words) (next after : List (List Bool)) (ks : List Driver)
    → All IsNoRegister ks → All (Meets enable now v next) ks → All (Meets enable later v after) ks
all-free enable now later v next after ks n m = λ i k l. free enable now later v next after (get_or ks i k) (n i k l) (m i k l)

module _ (d : Design) (none : All IsNoRegister d.drivers) where
  any-on : (marks : List Bool) (now later : List (List Bool)) (inputs : List (List (List Bool))) (vs : List Words) → RunsOn d now inputs vs
      → RunsOn d later (marked marks inputs) (marked marks vs)
  any-on [] now later inputs vs r = tt
  any-on (m ∷ marks) now later [] [] r = tt
  any-on (m ∷ marks) now later [] (v ∷ vs) r = absurd r
  any-on (m ∷ marks) now later (given ∷ inputs) [] r = absurd r
  any-on (true ∷ marks) now later (given ∷ inputs) (v ∷ vs) r = (
    later,
    record {
      signal_widths = r.1.signal_widths;
      port_widths = r.1.port_widths;
      inputs = r.1.inputs;
      equations = all-free d.enable now later v r.0 later d.drivers none r.1.equations;
    },
    any-on marks r.0 later inputs vs r.2,
  )
  any-on (false ∷ marks) now later (given ∷ inputs) (v ∷ vs) r = any-on marks r.0 later inputs vs r.2

pub any-cycles : AnyCyclesAreRuns
any-cycles d start inputs vs marks none r = any-on d none marks start start inputs vs r
