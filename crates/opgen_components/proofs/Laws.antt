-- What follows of components.
use Rattle.std.proofs.Common.{◌≡◌, ℕ, ◌<◌, List, length, sym, subst, inl, inr, arith}
use Rattle.std.specs.Prelude.{Contains}
use Rattle.std.proofs.lemmas.Bool.{cases_lt}
use Rattle.opgen_components.specs.declared.Component.{Component}
use Rattle.opgen_components.specs.Graph.{Graph, links_of, Path, link, through, AreComponents, component_of}

-- a link from a node that is not cyclic leads to a smaller number
pub smaller : (g : Graph) (cs : List Component) → AreComponents g cs → (s r : ℕ) → s < length g → r < length g → Contains (links_of g s) r
    → (Path g s s → ⊥) → (component_of cs r).number < (component_of cs s).number
smaller g cs h s r l m c off =
    elim (cases_lt (component_of cs r).number (component_of cs s).number) [
      | inl k ↦ k
      | inr k ↦
          let same : (component_of cs s).number ≡ (component_of cs r).number = omega (arith, k, h.downwards s r c) in
          elim (h.numbers s r l m same) [
            | inl e ↦ absurd (off (subst (λ x. Path g s x) (sym e) (link c)))
            | inr p ↦ absurd (off (through (link c) p.1))
          ]
    ]
