-- The widths of a design's ports.
use Rattle.std.proofs.Common.{◌≡◌, ℕ, suc, ◌+◌, ◌<◌, ◌≤◌, ◌^◌, Bool, true, false, List, [], ◌∷◌, length, map, Some, refl, ap, ◌∙◌, subst, arith}
use Rattle.std.specs.Prelude.{All, IfSome, slice_get, if◌then◌else◌}
use Rattle.std.proofs.lemmas.List.Elements.{All-nil, All-cons}
use Rattle.opgen_design.specs.declared.design.Design.{Design}
use Rattle.opgen_design.specs.declared.design.Dir.{Dir}
use Rattle.opgen_design.specs.declared.design.Dir.TheVariants.{In, Out}
use Rattle.opgen_design.specs.declared.design.Port.{Port}
use Rattle.opgen_design.specs.Run.{at_ports, is_in, is_out, input_widths, output_widths}
use Rattle.opgen_design.specs.declared.sound.Rule.TheVariants.{Width}
use Rattle.opgen_design.specs.Sound.{HasNumbers, IsSound, PortPasses, at_port}
use Rattle.opgen_num.specs.declared.format.TheConstants.{MAX_WIDTH}

-- the widths of the ports of one direction, port after port
abbrev pub widths_on : (is : Dir → Bool) → List Port → List ℕ
widths_on is ps = at_ports is ps (map (λ p. p.width) ps)

-- a port stands on one side
one_side : (dir : Dir) (w : ℕ) (is os : List ℕ) → length (if is_in dir then w ∷ is else is) + length (if is_out dir then w ∷ os else os)
    ≡ suc (length is + length os)
one_side In w is os = omega arith
one_side Out w is os = omega arith

both_sides : (ps : List Port) → length (at_ports is_in ps (map (λ p. p.width) ps)) + length (at_ports is_out ps (map (λ p. p.width) ps))
    ≡ length ps
both_sides [] = refl
both_sides (p ∷ ps) = one_side p.dir p.width (at_ports is_in ps (map (λ p. p.width) ps)) (at_ports is_out ps (map (λ p. p.width) ps))
    ∙ ap suc (both_sides ps)

pub sides : (d : Design) → length (input_widths d) + length (output_widths d) ≡ length d.ports
sides d = both_sides d.ports

pub few_inputs : (d : Design) → HasNumbers d → length (input_widths d) < 2 ^ 32
few_inputs d few = omega (arith, few, sides d)

pub few_outputs : (d : Design) → HasNumbers d → length (output_widths d) < 2 ^ 32
few_outputs d few = omega (arith, few, sides d)

-- no port of a sound design is too wide
abbrev IsNarrow : ℕ → Type 0
IsNarrow width = width ≤ MAX_WIDTH

narrow_side : (b : Bool) (w : ℕ) (ws : List ℕ) → IsNarrow w → All IsNarrow ws → All IsNarrow (if b then w ∷ ws else ws)
narrow_side true w ws h all = All-cons IsNarrow w ws h all
narrow_side false w ws h all = all

narrow_on : (is : Dir → Bool) (ps : List Port) → ((i : ℕ) (p : Port) → slice_get ps i ≡ Some p → IsNarrow p.width)
    → All IsNarrow (at_ports is ps (map (λ p. p.width) ps))
narrow_on is [] h = All-nil IsNarrow
narrow_on is (p ∷ ps) h = narrow_side (is p.dir) p.width (at_ports is ps (map (λ p. p.width) ps)) (h 0 p refl)
    (narrow_on is ps (λ i q e. h (suc i) q e))

-- no port of a direction
pub narrow_ports : (is : Dir → Bool) (d : Design) → IsSound d → All (λ width. width ≤ MAX_WIDTH) (at_ports is d.ports (map (λ p. p.width) d.ports))
narrow_ports is d sound = narrow_on is d.ports (λ i p e. (subst (λ o. IfSome o (PortPasses d Width i)) e (sound.widths (at_port i))).1)
