-- The enable of a design, as a place of its ports.
use Rattle.std.proofs.Common.{◌≡◌, ℕ, ◌<◌, Bool, true, false, Option, Some, None, IfSome, IsTrue, subst, sym, ◌∙◌, arith}
use Rattle.std.specs.Prelude.{length, slice_get}
use Rattle.opgen_design.specs.declared.design.Design.{Design}
use Rattle.opgen_design.specs.declared.design.Dir.TheVariants.{In}
use Rattle.opgen_design.specs.declared.design.Port.{Port}
use Rattle.opgen_design.specs.Rules.{IsFirstFailing}
use Rattle.opgen_design.specs.declared.sound.Rule.TheVariants.{BadEnable}
use Rattle.opgen_design.specs.Sound.{IsEnableDeclared, PortPasses}
use Rattle.opgen_design.proofs.FirstFailing.{failing-at}

module _ (d : Design) (port : ℕ) (is : d.enable ≡ Some port) where
  pub within : IsEnableDeclared d → port < length d.ports
  within h = subst (λ o. IfSome o (λ p. p < length d.ports)) is h

  other : (i : ℕ) → i < port → (o : Option Port) → IfSome o (PortPasses d BadEnable i)
  other i l None = tt
  other i l (Some q) = λ f. let a : Some i ≡ Some port = sym f ∙ is in let same : i ≡ port = cc in absurd (omega (arith, l, same))

  pub first-unfit : (p : Port) → slice_get d.ports port ≡ Some p → ((p.dir ≡ In) × (p.width ≡ 1) → ⊥)
      → IsFirstFailing (PortPasses d BadEnable) d.ports (Some port)
  first-unfit p at unfit = failing-at (PortPasses d BadEnable) d.ports port p at (λ h. unfit (h is))
      (λ i l. other i l (slice_get d.ports i))

pub never : (b : Bool) → b ≡ false → IsTrue b → ⊥
never b e t = let f : false ≡ true = sym e ∙ t in absurd (cc)
