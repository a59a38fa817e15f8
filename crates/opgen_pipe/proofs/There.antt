-- What nodes and outputs read is there.
use Rattle.std.proofs.Common.{◌≡◌, ℕ, ◌<◌, List, length, map, get_or, refl, sym, ap, ◌∙◌, arith}
use Rattle.std.specs.Prelude.{All, slice_get}
use Rattle.std.proofs.lemmas.List.Elements.{All-weaker, All-map, All-same}
use Rattle.std.proofs.lemmas.Option.{slice_get_read}
use Rattle.opgen_net.specs.declared.net.Net.{Net}
use Rattle.opgen_net.specs.declared.net.Output.{Output}
use Rattle.opgen_net.specs.declared.node.Node.{Node}
use Rattle.opgen_net.specs.Valid.{widths, LiesWithin, IsValid}
use Rattle.opgen_net.proofs.FlowLaws.{length-widths, lies_within}
use Rattle.opgen_schedule.specs.Reads.{reads_of}
use Rattle.opgen_schedule.proofs.Reading.{reads-before}

pub reads_there : (net : Net) → IsValid net → (nodes : List Node) → nodes ≡ net.nodes → (i : ℕ) (n : Node) → i < length nodes → n
    ≡ get_or nodes i n
    → (reads : List ℕ) → reads ≡ reads_of n → All (λ j. j < length nodes) reads
reads_there net valid nodes e i n l g reads f =
    let h = slice_get_read nodes (length nodes) i n refl l g in
    let a = reads-before net.nodes valid.nodes i n (ap (λ ns. slice_get ns i) (sym e) ∙ h) in
    All-same (λ j. j < length nodes) reads (reads_of n) f
    (All-weaker (λ j. j < i) (λ j. j < length nodes) (λ j m. omega (arith, m, l)) (reads_of n) a)

pub outputs_there : (net : Net) → IsValid net → (nodes : List Node) → nodes ≡ net.nodes → (outputs : List Output) → outputs ≡ net.outputs
    → All (λ o. o.from.node < length nodes) outputs
outputs_there net valid nodes e outputs f =
    All-same (λ o. o.from.node < length nodes) outputs net.outputs f (
    All-weaker (λ o. LiesWithin (widths net.nodes) o.from) (λ o. o.from.node < length nodes)
    (λ o h. omega (arith, lies_within (widths net.nodes) o.from h, length-widths net.nodes, ap length e)) net.outputs valid.outputs
    )

pub output_nodes_there : (net : Net) → IsValid net → (nodes : List Node) → nodes ≡ net.nodes → (outputs : List Output) → outputs
    ≡ net.outputs
    → (reads : List ℕ) → reads ≡ map (λ o. o.from.node) outputs → All (λ j. j < length nodes) reads
output_nodes_there net valid nodes e outputs f reads g =
    All-same (λ j. j < length nodes) reads (map (λ o. o.from.node) outputs) g
    (All-map (λ j. j < length nodes) (λ o. o.from.node) outputs (outputs_there net valid nodes e outputs f))
