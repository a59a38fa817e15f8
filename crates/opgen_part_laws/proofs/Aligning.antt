-- Which designs are seen to be aligned: those with places, and one of two small ones.
use Rattle.std.proofs.Common.{◌≡◌, ℕ, zero, suc, ◌+◌, Option, Some, None, refl, subst, ap, ◌∙◌, inl, inr, arith}
use Rattle.std.specs.Prelude.{Contains}
use Rattle.opgen_design.specs.declared.design.Design.{Design}
use Rattle.opgen_design.specs.declared.design.Driver.{Driver}
use Rattle.opgen_design.specs.declared.design.Driver.TheVariants.{Register, Output}
use Rattle.opgen_design.specs.declared.design.Target.TheVariants.{Signal as signal, Port as port_of}
use Rattle.opgen_design.specs.declared.expr.Op.TheVariants.{Xor}
use Rattle.opgen_design.specs.Depth.{registers_in}
use Rattle.opgen_design.specs.Sound.{Reads, driver_ports, target}
use Rattle.opgen_design.specs.Tree.{Tree, name, port, chain, none, more}
use Rattle.opgen_part_laws.specs.Aligned.{Way, from_port, further, IsAligned, HasPlaces, PlacesAlign, one_register, SmallDesignsAlign}

-- ---- the place of a signal is how many registers each way to it passes
module _ (d : Design) (latency : ℕ) (has : HasPlaces d latency) where
  way_place : {s n : ℕ} → Way d s n → has.place s ≡ Some n
  way_place (from_port s p k c t reads) = has.first s p k c t reads
  way_place (further s r n k c t reads way) = has.next s r n k c t reads (way_place way)

  aligned : IsAligned d latency
  aligned = record { through = λ p r n k c t reads way. has.shown p r n k c t reads (way_place way); direct = has.direct }

pub places_align : PlacesAlign
places_align d latency has = aligned d latency has

-- ---- designs of one register
module _ (y : Tree) (P : Driver → Type 0) (held : P (Register 0 (port 0))) (shown : P (Output 1 y)) where
  each_driver : (k : Driver) → Contains (one_register y).drivers k → P k
  each_driver k (zero, l, e) = subst P e held
  each_driver k (suc zero, l, e) = subst P e shown
  each_driver k (suc (suc i), l, e) = absurd (omega (arith, l))

abbrev place_of : ℕ → Option ℕ
place_of zero = Some 1
place_of (suc s) = None

held_places : HasPlaces (one_register (name 0)) 1
held_places = record {
  place = place_of;
  first = λ s p k c.
      each_driver (name 0) (λ k. target k ≡ signal s → Contains (driver_ports k) p → place_of s ≡ Some (registers_in k))
      (λ t reads. let is : 0 ≡ s = cc in subst (λ s. place_of s ≡ Some 1) is refl) (λ t reads. absurd (cc)) k c;
  next = λ s r n k c.
      each_driver (name 0) (λ k. target k ≡ signal s → Reads r k → place_of r ≡ Some n → place_of s ≡ Some (n + registers_in k))
      (λ t reads. elim reads [ inl never ↦ absurd never | inr never ↦ absurd never ]) (λ t reads. absurd (cc)) k c;
  shown = λ p r n k c.
      each_driver (name 0) (λ k. target k ≡ port_of p → Reads r k → place_of r ≡ Some n → n ≡ 1)
      (λ t. absurd (cc))
      (λ t reads at. elim reads [
        | inl is ↦ let same : Some 1 ≡ Some n = ap place_of is ∙ at in cc
        | inr never ↦ absurd never
      ]) k c;
  direct = λ p q k c.
      each_driver (name 0) (λ k. target k ≡ port_of p → Contains (driver_ports k) q → ◌≡◌ {A = ℕ} 1 0)
      (λ t. absurd (cc)) (λ t reads. absurd (omega (arith, reads.1))) k c;
}

abbrev differing : Tree
differing = chain Xor (more (name 0) (more (port 0) none))

mixes_rows : (latency : ℕ) → IsAligned (one_register differing) latency → ⊥
mixes_rows latency is =
    let way : Way (one_register differing) 0 1 = from_port 0 0 (Register 0 (port 0)) (0, omega arith, refl) refl (0, omega arith, refl) in
    let later : 1 ≡ latency = is.through 1 0 1 (Output 1 differing) (1, omega arith, refl) refl (inl (inl refl)) way in
    let now : latency ≡ 0 = is.direct 1 0 (Output 1 differing) (1, omega arith, refl) refl (0, omega arith, refl) in
    omega arith

pub small_designs : SmallDesignsAlign
small_designs = record { held = places_align (one_register (name 0)) 1 held_places; mixed = mixes_rows }
