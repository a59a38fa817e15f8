-- The nodes that a graph makes for constants which it serves: each is the input times its factor, and each odd part has one.
use Rattle.std.proofs.Common.{◌≡◌, ◌<◌, ◌≤◌, ◌∷◌, refl, sym, subst, ⊎_elim, arith}
use Rattle.std.specs.Prelude.{ℤ, List, unsigned_abs, All, Contains}
use Rattle.std.proofs.lemmas.Bool.{cases_lt}
use Rattle.std.proofs.lemmas.List.Elements.{All-contains, All-contains_itself, All-weaker}
use Rattle.opgen_num.specs.declared.format.Format.{Format}
use Rattle.opgen_net.specs.Valid.{IsValid}
use Rattle.opgen_ports.specs.OddParts.{odd_part}
use Rattle.opgen_ports.specs.Ranges.{IsInput, IsWithin}
use Rattle.opgen_ports.proofs.InputPorts.{input_bit}
use Rattle.opgen_graph.specs.declared.ranks.Graph.{Graph}
use Rattle.opgen_graph.specs.Graphs.{values}
use Rattle.opgen_graph.specs.Placing.{factors, AreAdders, HasOddPart}
use Rattle.opgen_graph.specs.Recipe.{with_input, at_first, multiples_of}
use Rattle.opgen_graph.specs.Served.{Serves}
use Rattle.opgen_graph.proofs.Members.{here, there}
use Rattle.opgen_graph.proofs.Products.{Ready}
use Rattle.opgen_graph.proofs.Standing.{Stands, first-left, all-stand}
use Rattle.opgen_graph.proofs.TargetLists.{part_odd, some_number}

module _ (input : Format) (is : IsInput input) where
  pub input-valid : IsValid (with_input input)
  input-valid = record {
    nodes = ((input_bit input is, omega (arith, is.most)), tt);
    inputs = refl;
    outputs = λ k d l. absurd (omega (arith, l));
  }

  module _ (constants : List ℤ) (small : All (IsWithin 1048575) constants) (graph : Graph) (serves : Serves constants graph) where
    pub are_adders : AreAdders input graph.adders
    are_adders = record { some = input_bit input is; most = is.most; members = serves.members; wired = serves.wired }

    stood : Stands input (multiples_of input graph) × (factors (multiples_of input graph).known ≡ 1 ∷ values graph.adders)
    stood = all-stand input (at_first input) graph.adders (first-left input graph.adders input-valid are_adders)

    pub stands : Stands input (multiples_of input graph)
    stands = stood.0

    pub ready : Ready input (multiples_of input graph)
    ready = record { valid = stands.later.valid; has_input = stands.has_input; each = stands.each }

    pub has_part : (t : ℤ) → Contains constants t → HasOddPart (multiples_of input graph).known t
    has_part t c some =
        let n = unsigned_abs t in
        let few : n ≤ 1048575 = All-contains (IsWithin 1048575) constants t small c in
        let odd = part_odd n (some_number t some) (omega (arith, few)) in
        subst (λ fs. Contains fs (odd_part n)) (sym stood.1)
        (⊎_elim
        (λ (lt : 1 < odd_part n).
        there 1 (odd_part n) (values graph.adders)
        (serves.has_parts (odd_part n) (t, c, record { some = some; part = refl; above = lt })))
        (λ (le : odd_part n ≤ 1).
        let one : 1 ≡ odd_part n = omega (arith, odd) in
        subst (Contains (1 ∷ values graph.adders)) one (here 1 (values graph.adders)))
        (cases_lt 1 (odd_part n)))

    pub odd_parts : All (HasOddPart (multiples_of input graph).known) constants
    odd_parts =
        All-weaker (Contains constants) (HasOddPart (multiples_of input graph).known) has_part constants (All-contains_itself constants)
