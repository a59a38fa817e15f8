-- Nets that keep the nodes of a net, and the multiples of the input that stand in them.
use Rattle.std.proofs.Common.{◌≡◌, ℕ, ◌<◌, ◌≤◌, List, length, map, sym, ap, ◌∙◌, subst, arith}
use Rattle.std.specs.Prelude.{pos, ◌*ℤ◌, All}
use Rattle.opgen_num.specs.declared.format.Format.{Format}
use Rattle.opgen_num.specs.Words.{val}
use Rattle.opgen_design.specs.Run.{AreWords}
use Rattle.opgen_net.specs.declared.net.Net.{Net}
use Rattle.opgen_net.specs.Flow.{Inputs}
use Rattle.opgen_net.specs.Grown.{KeepsNodes}
use Rattle.opgen_net.specs.Valid.{IsValid, input_widths}
use Rattle.opgen_net.proofs.Grown.{flow-then, grown-count, grown_nets_keep}
use Rattle.opgen_net.proofs.Later.{Later, node_there}
use Rattle.opgen_graph.specs.declared.multiples.Multiple.{Multiple}
use Rattle.opgen_graph.specs.Placing.{IsNode, HasInput, IsMultiple}

-- a valid net of the same inputs, which has at least the nodes
pub record Keeps (old new : Net) : Type 0 where
  pub valid : IsValid new
  pub inputs : new.inputs ≡ old.inputs
  pub count : length old.nodes ≤ length new.nodes
  pub nodes : KeepsNodes old new

pub keeps-later : (old new : Net) → Later old new → Keeps old new
keeps-later old new later = record {
  valid = later.valid;
  inputs = later.grown.inputs;
  count = grown-count old new later.grown;
  nodes = grown_nets_keep old new later.grown;
}

pub keeps-then : (a b c : Net) → Keeps a b → Keeps b c → Keeps a c
keeps-then a b c p q = record {
  valid = q.valid;
  inputs = q.inputs ∙ p.inputs;
  count = omega (arith, p.count, q.count);
  nodes = record {
    widths = λ n h. q.nodes.widths n (omega (arith, h, p.count)) ∙ p.nodes.widths n h;
    flow = flow-then a.nodes b.nodes c.nodes p.count p.nodes.flow q.nodes.flow;
  };
}

pub words-kept : (old new : Net) → Keeps old new → (inputs : Inputs) → All (AreWords (input_widths old)) inputs
    → All (AreWords (input_widths new)) inputs
words-kept old new keeps inputs words =
    subst (λ is. All (AreWords (map (λ (i : List ℕ × ℕ). i.1) is)) inputs) (sym keeps.inputs) words

pub words-back : (old new : Net) → Keeps old new → (inputs : Inputs) → All (AreWords (input_widths new)) inputs
    → All (AreWords (input_widths old)) inputs
words-back old new keeps inputs words = subst (λ is. All (AreWords (map (λ (i : List ℕ × ℕ). i.1) is)) inputs) keeps.inputs words

pub input_there : (input : Format) (net : Net) → HasInput input net → 0 < length net.nodes
input_there input net has = node_there net 0 input.width has.some has.width

pub input-kept : (input : Format) (old new : Net) → Keeps old new → HasInput input old → HasInput input new
input-kept input old new keeps has =
    record { some = has.some; width = keeps.nodes.widths 0 (input_there input old has) ∙ has.width }

pub node-kept : (old new : Net) → Keeps old new → (m : Multiple) → IsNode old m → IsNode new m
node-kept old new keeps m h =
    record { some = h.some; most = h.most; width = keeps.nodes.widths m.node (node_there old m.node m.width h.some h.width) ∙ h.width }

pub multiple-kept : (input : Format) (old new : Net) → Keeps old new → HasInput input old
    → (m : Multiple) → IsMultiple input old m → IsMultiple input new m
multiple-kept input old new keeps has m h =
    let there = node_there old m.node m.width h.node.some h.node.width in
    let one = input_there input old has in
    record {
      node = node-kept old new keeps m h.node;
      product = λ inputs t words.
          ap (λ w. val w input) (keeps.nodes.flow inputs m.node t there)
          ∙ h.product inputs t (words-back old new keeps inputs words)
          ∙ ap (λ w. val w input *ℤ pos m.factor) (sym (keeps.nodes.flow inputs 0 t one));
    }
