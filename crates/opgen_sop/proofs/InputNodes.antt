-- The inputs of a sum of products as nodes of its net: their formats, widths and words. None is a delay.
use Rattle.std.proofs.Common.{◌≡◌, ℕ, zero, suc, ◌+◌, ◌<◌, List, [], ◌∷◌, ◌++◌, length, drop, Some, slice_index_or, refl, sym, ap, ◌∙◌, arith}
use Rattle.std.specs.Prelude.{ℤ, slice_get, slice_index}
use Rattle.opgen_net.specs.declared.node.Node.{Node}
use Rattle.opgen_net.specs.declared.node.Node.TheVariants.{Input}
use Rattle.opgen_net.specs.Delays.{delay_count}
use Rattle.opgen_net.specs.Flow.{Inputs, flow, input_at}
use Rattle.opgen_net.specs.Valid.{widths}
use Rattle.opgen_net.proofs.FlowLaws.{flow_equation, stands_at}
use Rattle.opgen_net.proofs.Grown.{grown-nodes, grown-count}
use Rattle.opgen_ports.specs.declared.ports.PortFormat.{PortFormat}
use Rattle.opgen_ports.specs.Ports.{format_at}
use Rattle.opgen_terms.specs.declared.sop.Sop.{Sop}
use Rattle.opgen_terms.specs.Sop.{format_of}
use Rattle.opgen_partial.specs.declared.pairs.Work.{Work}
use Rattle.opgen_sop.specs.Recipe.{input_nodes, input_net}
use Rattle.opgen_sop.specs.Summed.{Stands}

pub format-there : (ps : List PortFormat) (k : ℕ) (d : PortFormat) → k < length ps → (slice_index_or ps k d).format ≡ format_at ps k
format-there [] k d h = absurd (omega (arith, h))
format-there (p ∷ ps) zero d h = refl
format-there (p ∷ ps) (suc k) d h = format-there ps k d (omega (arith, h))

node-there : (first : ℕ) (ps : List PortFormat) (k : ℕ) → k < length ps
    → slice_get (input_nodes first ps) k ≡ Some (Input (first + k) (format_at ps k).width)
node-there first [] k h = absurd (omega (arith, h))
node-there first (p ∷ ps) zero h = let e : first ≡ first + 0 = omega arith in ap (λ n. Some (Input n p.format.width)) e
node-there first (p ∷ ps) (suc k) h =
    let e : suc first + k ≡ first + suc k = omega arith in
    node-there (suc first) ps k (omega (arith, h)) ∙ ap (λ n. Some (Input n (format_at ps k).width)) e

pub length-nodes : (first : ℕ) (ps : List PortFormat) → length (input_nodes first ps) ≡ length ps
length-nodes first [] = refl
length-nodes first (p ∷ ps) = omega (arith, length-nodes (suc first) ps)

pub nodes-delays : (first : ℕ) (ps : List PortFormat) → delay_count (input_nodes first ps) ≡ 0
nodes-delays first [] = refl
nodes-delays first (p ∷ ps) = nodes-delays (suc first) ps

module _ (s : Sop) (guard : ℕ) (w : Work) (stands : Stands s guard w) (i : ℕ) (within : i < length s.inputs) where
  is-input : slice_get w.net.nodes i ≡ Some (Input i (format_of s i).width)
  is-input =
      let first = input_nodes 0 s.inputs in
      let rest = drop (length first) w.net.nodes in
      ap (λ ns. slice_get ns i) (sym (grown-nodes (input_net s) w.net stands.grown))
      ∙ get-before first rest i (omega (arith, within, length-nodes 0 s.inputs))
      ∙ node-there 0 s.inputs i within
      ∙ ap (λ n. Some (Input n (format_of s i).width)) (omega arith)
    where
      get-before : (ns more : List Node) (k : ℕ) → k < length ns → slice_get (ns ++ more) k ≡ slice_get ns k
      get-before [] more k h = absurd (omega (arith, h))
      get-before (n ∷ ns) more zero h = refl
      get-before (n ∷ ns) more (suc k) h = get-before ns more k (omega (arith, h))

  pub input-there : i < length w.net.nodes
  input-there = omega (arith, within, length-nodes 0 s.inputs, grown-count (input_net s) w.net stands.grown)

  pub input-wide : slice_index (widths w.net.nodes) i ≡ (format_of s i).width
  input-wide =
      let at = stands_at w.net.nodes stands.valid.nodes i (Input i (format_of s i).width) is-input in
      ap (λ ws. slice_index ws i) at.all ∙ ap (λ k. slice_index (at.earlier ++ (format_of s i).width ∷ at.later) k) (sym at.place)
      ∙ after at.earlier (format_of s i).width at.later
    where
      after : (ws : List ℕ) (v : ℕ) (vs : List ℕ) → slice_index (ws ++ v ∷ vs) (length ws) ≡ v
      after [] v vs = refl
      after (x ∷ ws) v vs = after ws v vs

  pub input-flow : (inputs : Inputs) (t : ℤ) → flow w.net.nodes inputs i t ≡ input_at inputs i (format_of s i).width t
  input-flow inputs t = flow_equation w.net.nodes stands.valid.nodes inputs i (Input i (format_of s i).width) t is-input

-- the nodes of one input more
pub nodes-more : (first : ℕ) (ps : List PortFormat) (p : PortFormat)
    → input_nodes first (ps ++ p ∷ []) ≡ input_nodes first ps ++ Input (first + length ps) p.format.width ∷ []
nodes-more first [] p = let e : first ≡ first + 0 = omega arith in ap (λ n. Input n p.format.width ∷ []) e
nodes-more first (q ∷ ps) p =
    let e : suc first + length ps ≡ first + suc (length ps) = omega arith in
    ap (λ ns. Input first q.format.width ∷ ns)
    (nodes-more (suc first) ps p ∙ ap (λ n. input_nodes (suc first) ps ++ Input n p.format.width ∷ []) e)
