-- The net of a sum of products: tables of the multiples of inputs, products of the bits of inputs, and one constant, in one bit
-- heap,
-- with larger counters where they are asked for, and a compressor (de Dinechin and Kumm, Application-Specific Arithmetic, "Bit heaps").
use Rattle.std.specs.Prelude.{ℕ, suc, ◌≡◌, ◌+◌, ◌-◌, ◌==◌, Bool, if◌then◌else◌, List, [], ◌∷◌, ◌++◌, map, codes, ℤ, pos, unsigned_abs}
use Rattle.opgen_net.specs.declared.net.Net.{Net}
use Rattle.opgen_net.specs.declared.node.Node.{Node}
use Rattle.opgen_net.specs.declared.node.Node.TheVariants.{Input}
use Rattle.opgen_net.specs.Placed.{Placed}
use Rattle.opgen_heap.specs.Adding.{with_constant}
use Rattle.opgen_compress.specs.Recipe.{compressed}
use Rattle.opgen_gpc.specs.Recipe.{Counting, counted_if}
use Rattle.opgen_ports.specs.Recipes.{has_counters}
use Rattle.opgen_kcm.specs.Recipe.{with_rows}
use Rattle.opgen_partial.specs.declared.pairs.Work.{Work}
use Rattle.opgen_partial.specs.Recipe.{with_placed}
use Rattle.opgen_ports.specs.declared.ports.PortFormat.{PortFormat}
use Rattle.opgen_terms.specs.declared.sop.Sop.{Sop}
use Rattle.opgen_terms.specs.declared.sop.Scaled.{Scaled}
use Rattle.opgen_terms.specs.declared.sop.Times.{Times}
use Rattle.opgen_terms.specs.Sop.{format_of, sop_format}
use Rattle.opgen_sop.specs.Sizes.{IsGuard, floor, scaled_fraction, products, placing, turned_fraction, offset_fraction, rounding}

-- each input is a node, in order
abbrev pub input_nodes : (first : ℕ) → List PortFormat → List Node
input_nodes first [] = []
input_nodes first (p ∷ ps) = Input first p.format.width ∷ input_nodes (suc first) ps

abbrev pub input_net : Sop → Net
input_net s = record {
  inputs = map (λ (p : PortFormat). (p.name, p.format.width)) s.inputs;
  nodes = input_nodes 0 s.inputs;
  outputs = [];
}

-- the heap has the output's bits and the guard bits
abbrev pub heap_width : Sop → (guard : ℕ) → ℕ
heap_width s guard = (sop_format s).width + guard

abbrev pub start : Sop → (guard : ℕ) → Work
start s guard = record { net = input_net s; heap = record { width = heap_width s guard; constant = 0; columns = [] } }

abbrev pub is_zero : ℤ → Bool
is_zero c = unsigned_abs c == 0

-- the tables of a constant times an input; the constant 0 has none
abbrev pub with_scaled : Sop → (guard : ℕ) → Scaled → Work → Work
with_scaled s guard t w =
    if is_zero t.coefficient then w
    else
    let r = with_rows (scaled_fraction s guard t) 0 t.input (format_of s t.input).signed (record { net = w.net; heap = w.heap }) in
    record { net = r.net; heap = r.heap }

-- the products of the bits of two inputs, and what makes good the turned ones
abbrev pub with_times : Sop → (guard : ℕ) → Times → Work → Work
with_times s guard t w =
    let a = with_placed (products s guard t) (placing s guard t) w in
    record a { heap = with_constant a.heap (floor (turned_fraction s guard t)) }

-- of each term in turn

abbrev pub with_all_scaled : Sop → (guard : ℕ) → List Scaled → Work → Work
with_all_scaled s guard [] w = w
with_all_scaled s guard (t ∷ ts) w = with_all_scaled s guard ts (with_scaled s guard t w)

abbrev pub with_all_times : Sop → (guard : ℕ) → List Times → Work → Work
with_all_times s guard [] w = w
with_all_times s guard (t ∷ ts) w = with_all_times s guard ts (with_times s guard t w)

-- the offset, and what rounds the sum
abbrev pub with_offset : Sop → (guard : ℕ) → Work → Work
with_offset s guard w = record w { heap = with_constant (with_constant w.heap (floor (offset_fraction s guard))) (pos (rounding s guard)) }

abbrev pub added : Sop → (guard : ℕ) → Work
added s guard = with_offset s guard (with_all_times s guard s.products (with_all_scaled s guard s.scaled (start s guard)))

abbrev pub counted : Sop → (guard : ℕ) → Counting
counted s guard = let w = added s guard in counted_if (has_counters s.compressor) w.net w.heap

abbrev pub summed : Sop → (guard : ℕ) → Placed
summed s guard = let c = counted s guard in compressed c.net c.heap

-- the output has the bits above the guard bits
abbrev pub net_with : Sop → (guard : ℕ) → Net
net_with s guard =
    let a = summed s guard in
    record a.net {
      outputs = a.net.outputs ++ record {
        name = codes "y";
        from = record { node = a.place; high = heap_width s guard - 1; low = guard };
      } ∷ [];
    }

pub record IsNetOfSop (s : Sop) (net : Net) : Type 0 where
  pub guard : ℕ
  pub least : IsGuard s guard
  pub made : net ≡ net_with s guard
