-- Names of ports that are given: of the ports, and of the list of names.
use Rattle.std.proofs.Common.{◌≡◌, ◌∙◌, ◌<◌, ℕ, zero, suc, List, [], ◌∷◌, length, get_or, map, refl, sym, subst, arith}
use Rattle.std.proofs.lemmas.List.{get_or-map, length-map}
use Rattle.std.proofs.lemmas.List.Elements.{All-map}
use Rattle.std.specs.List.{AllPairs}
use Rattle.std.specs.Prelude.{◌≢◌, All, IsTrue}
use Rattle.opgen_operator.specs.GivenNames.{is_port_name, AreGivenNames}
use Rattle.opgen_ports.specs.declared.ports.PortFormat.{PortFormat}

-- an element is the same by whatever stands where there is none
pub get_same : {X : Type 0} (xs : List X) (i : ℕ) (d e : X) → i < length xs → get_or xs i d ≡ get_or xs i e
get_same [] i d e h = absurd (omega (arith, h))
get_same (x ∷ xs) zero d e h = refl
get_same (x ∷ xs) (suc i) d e h = get_same xs i d e (omega (arith, h))

abbrev names_of : List PortFormat → List (List ℕ)
names_of ports = map (λ p. p.name) ports

pub given_by : (name : List ℕ) (ports : List PortFormat) → All (λ p. IsTrue (is_port_name p.name)) ports
    → All (λ p. p.name ≢ name) ports → AllPairs (λ p q. p.name ≢ q.name) ports → AreGivenNames name (names_of ports)
given_by name [] sound apart differ = record {
  sound = λ k d below. absurd (omega (arith, below));
  apart = λ k d below. absurd (omega (arith, below));
  differ = λ i j d before below. absurd (omega (arith, below));
}
given_by name (p ∷ ps) sound apart differ = record {
  sound = All-map (λ n. IsTrue (is_port_name n)) (λ (q : PortFormat). q.name) (p ∷ ps) sound;
  apart = All-map (λ n. n ≢ name) (λ (q : PortFormat). q.name) (p ∷ ps) apart;
  differ = λ i j d before below e.
      let long = length-map (p ∷ ps) (λ (q : PortFormat). q.name) in
      let at = λ (k : ℕ) (h : k < length (p ∷ ps)). get_or-map (λ (q : PortFormat). q.name) (p ∷ ps) k p d h in
      differ i j p before (omega (arith, below, long))
      (sym (at i (omega (arith, before, below, long))) ∙ e ∙ at j (omega (arith, below, long)));
}

-- each of the three, back again
module _ (name : List ℕ) (ports : List PortFormat) (given : AreGivenNames name (names_of ports)) where
  at : (k : ℕ) (d : PortFormat) → k < length ports → get_or (names_of ports) k d.name ≡ (get_or ports k d).name
  at k d below = get_or-map (λ (q : PortFormat). q.name) ports k d d.name below

  long : length (names_of ports) ≡ length ports
  long = length-map ports (λ (q : PortFormat). q.name)

  pub sound_by : All (λ (p : PortFormat). IsTrue (is_port_name p.name)) ports
  sound_by k d below = subst (λ n. IsTrue (is_port_name n)) (at k d below) (given.sound k d.name (omega (arith, below, long)))

  pub apart_by : All (λ (p : PortFormat). p.name ≢ name) ports
  apart_by k d below e = given.apart k d.name (omega (arith, below, long)) (at k d below ∙ e)

  pub differ_by : AllPairs (λ (p q : PortFormat). p.name ≢ q.name) ports
  differ_by i j d before below e =
      given.differ i j d.name before (omega (arith, below, long))
      (at i d (omega (arith, before, below)) ∙ e ∙ sym (at j d below))
