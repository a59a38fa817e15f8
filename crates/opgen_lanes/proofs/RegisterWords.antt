-- The registers' next words in a stream.
use Rattle.std.proofs.Common.{◌≡◌, ℕ, zero, suc, ◌<◌, List, [], ◌∷◌, Bool, length, drop, get_or, Option, Some, None, refl, ap, ◌∙◌, subst, arith}
use Rattle.std.specs.Prelude.{IfSome, slice_get}
use Rattle.std.proofs.lemmas.List.{length-map, get_or-map}
use Rattle.std.proofs.lemmas.Option.{get_or_from_slice_get}
use Rattle.opgen_design.specs.declared.design.Design.{Design}
use Rattle.opgen_design.specs.declared.design.Dir.TheVariants.{In}
use Rattle.opgen_design.specs.declared.design.Driver.{Driver}
use Rattle.opgen_design.specs.declared.design.Port.{Port}
use Rattle.opgen_design.specs.Run.{Words}
use Rattle.opgen_design.specs.Sound.{IsSound, PortPasses, at_port, port_widths}
use Rattle.opgen_design.specs.declared.sound.Rule.TheVariants.{BadEnable}
use Rattle.opgen_runs.specs.Evaluate.{hand_all_on, hand_on}
use Rattle.opgen_runs.proofs.Registers.{enable-there}
use Rattle.opgen_lanes.specs.declared.bank.Bank.{Bank}
use Rattle.opgen_lanes.specs.Banks.{widths_of}
use Rattle.opgen_lanes.specs.Ready.{AreBanksOf}

port-there : (ps : List Port) (i : ℕ) → i < length ps → (p : Port) × (slice_get ps i ≡ Some p)
port-there [] i l = absurd (omega (arith, l))
port-there (p ∷ ps) zero l = (p, refl)
port-there (p ∷ ps) (suc i) l = port-there ps i (omega (arith, l))

bit-at : (d : Design) (i : ℕ) → d.enable ≡ Some i → i < length d.ports → IfSome (slice_get d.ports i) (PortPasses d BadEnable i)
    → get_or (port_widths d) i 0 ≡ 1
bit-at d i e l p =
    let q = port-there d.ports i l in
    let f : (q.0.dir ≡ In) × (q.0.width ≡ 1) = subst (λ o. IfSome o (PortPasses d BadEnable i)) q.1 p e in
    get_or-map (λ p. p.width) d.ports i q.0 0 l
    ∙ ap (λ r. r.width) (get_or_from_slice_get d.ports i q.0 q.0 q.1)
    ∙ f.1

module _ (d : Design) (sound : IsSound d) (signals ports : Bank) (h : AreBanksOf d signals ports) where
  pub enable-place : IfSome d.enable (λ p. p < length ports.places.items)
  enable-place =
      let n : length d.ports ≡ length ports.places.items = omega (
        arith,
        ap length h.port_widths,
        length-map d.ports (λ p. p.width),
        length-map ports.places.items (λ p. p.width),
      ) in
      subst (λ n. IfSome d.enable (λ p. p < n)) n (enable-there d sound)

  pub enable-bit : IfSome d.enable (λ p. get_or (widths_of ports) p 0 ≡ 1)
  enable-bit = go d.enable refl
    where
      go : (o : Option ℕ) → d.enable ≡ o → IfSome o (λ p. get_or (widths_of ports) p 0 ≡ 1)
      go None e = tt
      go (Some i) e = ap (λ ws. get_or ws i 0) h.port_widths
          ∙ bit-at d i e (subst (λ o. IfSome o (λ p. p < length d.ports)) e (enable-there d sound)) (sound.enable (at_port i))

-- one driver more
pub handed-one : (enable : Option ℕ) (ks : List Driver) (i : ℕ) (v : Words) (next after : List (List Bool)) → i < length ks
    → ((k : Driver) → slice_get ks i ≡ Some k → after ≡ hand_on enable k v next)
    → hand_all_on enable (drop (suc i) ks) v after ≡ hand_all_on enable (drop i ks) v next
handed-one enable [] i v next after l f = absurd (omega (arith, l))
handed-one enable (k ∷ ks) zero v next after l f = ap (hand_all_on enable ks v) (f k refl)
handed-one enable (k ∷ ks) (suc i) v next after l f = handed-one enable ks i v next after (omega (arith, l)) f
