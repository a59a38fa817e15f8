-- The words of a cycle at the ports of a net's design.
use Rattle.std.proofs.Common.{◌≡◌, ℕ, zero, suc, ◌+◌, ◌<◌, List, [], ◌∷◌, ◌++◌, length, map, get_or, drop, refl, ap, arith}
use Rattle.opgen_net.specs.declared.net.Output as net_output
use Rattle.opgen_net.specs.Made.{input_port, output_port}
use Rattle.opgen_design.specs.Run.{at_ports, is_in, is_out}

module _ {X : Type 0} (os : List net_output.Output) where
  -- the first words are those of the inputs
  pub get-inputs : (is : List (List ℕ × ℕ)) (xs : List X) (k : ℕ) (d : X) → k < length is
      → get_or (at_ports is_in (map input_port is ++ map output_port os) xs) k d ≡ get_or xs k d
  get-inputs [] xs k d l = absurd (omega (arith, l))
  get-inputs (i ∷ is) [] k d l = refl
  get-inputs (i ∷ is) (x ∷ xs) zero d l = refl
  get-inputs (i ∷ is) (x ∷ xs) (suc k) d l = get-inputs is xs k d (omega (arith, l))

all_outputs : {X : Type 0} (os : List net_output.Output) (xs : List X) → length xs ≡ length os → at_ports is_out (map output_port os) xs
    ≡ xs
all_outputs [] [] l = refl
all_outputs [] (x ∷ xs) l = absurd (omega (arith, l))
all_outputs (o ∷ os) [] l = absurd (omega (arith, l))
all_outputs (o ∷ os) (x ∷ xs) l = ap (λ ys. x ∷ ys) (all_outputs os xs (omega (arith, l)))

-- the words after those are those of the outputs
pub outputs-rest : {X : Type 0} (is : List (List ℕ × ℕ)) (os : List net_output.Output) (xs : List X) → length xs ≡ length is + length os
    → at_ports is_out (map input_port is ++ map output_port os) xs ≡ drop (length is) xs
outputs-rest [] os xs l = all_outputs os xs (omega (arith, l))
outputs-rest (i ∷ is) os [] l = absurd (omega (arith, l))
outputs-rest (i ∷ is) os (x ∷ xs) l = outputs-rest is os xs (omega (arith, l))
