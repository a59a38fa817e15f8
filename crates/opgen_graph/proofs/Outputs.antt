-- The outputs of the constants, one after another.
use Rattle.std.proofs.Common.{◌≡◌, ℕ, zero, suc, ◌+◌, ◌-◌, ◌<◌, Bool, List, [], ◌∷◌, ◌++◌, length, map, take, Some, append_assoc, refl, sym, ap, ◌∙◌, arith, codes}
use Rattle.std.specs.Prelude.{ℤ, pos, negsuc, ◌*ℤ◌, slice_get, All}
use Rattle.std.specs.Fmt.{decimal}
use Rattle.std.proofs.Math.Seq.{take-length}
use Rattle.std.proofs.lemmas.List.{append-nil}
use Rattle.std.proofs.lemmas.List.Elements.{All-head, All-tail, All-weaker}
use Rattle.opgen_num.specs.declared.format.TheConstants.{MAX_WIDTH}
use Rattle.opgen_num.specs.declared.format.Format.{Format}
use Rattle.opgen_num.specs.Words.{val}
use Rattle.opgen_design.specs.Run.{AreWords}
use Rattle.opgen_design.specs.Value.{word_at, cut, IsWidth}
use Rattle.opgen_net.specs.declared.net.Net.{Net}
use Rattle.opgen_net.specs.declared.net.Output.{Output}
use Rattle.opgen_net.specs.Delays.{delay_count}
use Rattle.opgen_net.specs.Flow.{Inputs, flow, slice_flow}
use Rattle.opgen_net.specs.Valid.{IsValid, LiesWithin, slice_width, input_widths, widths}
use Rattle.opgen_net.proofs.Appending.{valid-output}
use Rattle.opgen_net.proofs.FlowWidths.{flow-width}
use Rattle.opgen_ports.specs.declared.ports.PortFormat.{PortFormat}
use Rattle.opgen_ports.specs.Ports.{HasWidth, format_at}
use Rattle.opgen_operator.specs.Fits.{name_and_width}
use Rattle.opgen_kinds.specs.Several.{constant_format, numbered}
use Rattle.opgen_ports.specs.Ranges.{IsWithin}
use Rattle.opgen_net.specs.Placed.{Placed, whole}
use Rattle.opgen_net.proofs.Later.{node_there, words-later}
use Rattle.opgen_net.proofs.Standing.{whole-width}
use Rattle.opgen_graph.specs.Placing.{IsNode, HasOddPart, HasInput, IsMultiple}
use Rattle.opgen_graph.specs.Recipe.{Multiples, with_constant, with_output, with_outputs}
use Rattle.opgen_graph.proofs.Kept.{Keeps, keeps-later, keeps-then, words-back, input_there, input-kept, node-kept, multiple-kept}
use Rattle.opgen_graph.proofs.Products.{Ready, ready_nodes, constant-placed, constant-value}
use Rattle.opgen_graph.proofs.Sums.{IsPlacedNode}

abbrev pub shown : Output → List ℕ × ℕ
shown o = (o.name, slice_width o.from)

keeps-same : (net : Net) → IsValid net → Keeps net net
keeps-same net valid = record {
  valid = valid;
  inputs = refl;
  count = omega arith;
  nodes = record { widths = λ n h. refl; flow = λ inputs n t h. refl };
}

-- the node of a constant brings no port
constant-outputs : (signed : Bool) (bits : ℕ) (b : Multiples) (t : ℤ) → (with_constant signed bits b t).net.outputs ≡ b.net.outputs
constant-outputs signed bits b (pos zero) = refl
constant-outputs signed bits b (pos (suc n)) = refl
constant-outputs signed bits b (negsuc n) = refl

-- an output of a net that is, in its format, the input times a constant
pub record IsRight (input : Format) (net : Net) (o : Output) (t : ℤ) : Type 0 where
  pub there : o.from.node < length net.nodes
  pub value : (inputs : Inputs) (time : ℤ) → All (AreWords (input_widths net)) inputs
      → val (slice_flow net.nodes inputs o.from time) (constant_format input t) ≡ val (flow net.nodes inputs 0 time) input *ℤ t

pub right-kept : (input : Format) (old new : Net) → Keeps old new → HasInput input old
    → (o : Output) (t : ℤ) → IsRight input old o t → IsRight input new o t
right-kept input old new keeps has o t h = record {
  there = omega (arith, h.there, keeps.count);
  value = λ inputs time words.
      ap (λ w. val (cut o.from.high o.from.low w) (constant_format input t)) (keeps.nodes.flow inputs o.from.node time h.there)
      ∙ h.value inputs time (words-back old new keeps inputs words)
      ∙ ap (λ w. val w input *ℤ t) (sym (keeps.nodes.flow inputs 0 time (input_there input old has)));
}

-- one output

module _ (input : Format) (k : ℕ) (b : Multiples) (t : ℤ) (odd : HasOddPart b.known t)
    (wide : IsWidth (constant_format input t).width) where
  abbrev bits : ℕ
  bits = (constant_format input t).width

  abbrev node : Placed
  node = with_constant input.signed bits b t

  abbrev output : Output
  output = record { name = codes "y" ++ decimal k; from = whole bits node.place }

  abbrev next : Multiples
  next = with_output input k b t

  module _ (valid : IsValid b.net) (nodes : All (IsNode b.net) b.known) where
    node-placed : IsPlacedNode b.net bits node
    node-placed = constant-placed input.signed b valid nodes bits wide input t odd refl

    pub output-lies : LiesWithin (widths node.net.nodes) output.from
    output-lies = (omega arith, omega (arith, node-placed.width, wide.0))

    pub next-keeps : Keeps b.net next.net
    next-keeps =
        keeps-then b.net node.net next.net (keeps-later b.net node.net node-placed.later) record {
          valid = valid-output node.net output node-placed.later.valid output-lies;
          inputs = refl;
          count = omega arith;
          nodes = record { widths = λ n h. refl; flow = λ inputs n time h. refl };
        }

    pub next-delays : delay_count next.net.nodes ≡ delay_count b.net.nodes
    next-delays = node-placed.later.grown.delays

    pub next-nodes : All (IsNode next.net) b.known
    next-nodes = All-weaker (IsNode b.net) (IsNode next.net) (node-kept b.net next.net next-keeps) b.known nodes

  module _ (ready : Ready input b) (small : IsWithin 1048575 t) where
    abbrev nodes : All (IsNode b.net) b.known
    nodes = ready_nodes input b ready

    next-ready : Ready input next
    next-ready =
        let keeps = next-keeps ready.valid nodes in
        record {
          valid = keeps.valid;
          has_input = input-kept input b.net next.net keeps ready.has_input;
          each = All-weaker (IsMultiple input b.net) (IsMultiple input next.net)
              (multiple-kept input b.net next.net keeps ready.has_input) b.known ready.each;
        }

    next-right : IsRight input next.net output t
    next-right =
        let keeps = next-keeps ready.valid nodes in
        let answers = node-placed ready.valid nodes in
        record {
          there = node_there node.net node.place bits wide.0 answers.width;
          value = λ inputs time words.
              let before = words-back b.net next.net keeps inputs words in
              let w = flow node.net.nodes inputs node.place time in
              let all : length w ≡ bits =
              flow-width node.net answers.later.valid inputs (words-later b.net node.net answers.later inputs before) node.place time
              ∙ answers.width in
              let e : bits - 1 + 1 - 0 ≡ length w = omega (arith, all, wide.0) in
              ap (λ v. val v (constant_format input t)) (ap (λ n. take n w) e ∙ take-length w)
              ∙ constant-value input b ready bits wide t small odd refl inputs time before
              ∙ ap (λ v. val v input *ℤ t) (sym (keeps.nodes.flow inputs 0 time (input_there input b.net ready.has_input)));
        }

-- all outputs

abbrev pub AreRight : Format → Net → List Output → List ℤ → Type 0
AreRight input net [] [] = Unit {0}
AreRight input net (o ∷ os) (t ∷ ts) = IsRight input net o t × AreRight input net os ts
AreRight input net _ _ = ⊥

pub record HasOutputs (input : Format) (b : Multiples) (k : ℕ) (ts : List ℤ) (net : Net) : Type 0 where
  pub keeps : Keeps b.net net
  pub delays : delay_count net.nodes ≡ delay_count b.net.nodes
  pub made : List Output
  pub outputs : net.outputs ≡ b.net.outputs ++ made
  pub ports : map shown made ≡ map name_and_width (numbered k (map (constant_format input) ts))
  pub right : AreRight input net made ts

pub all-outputs : (input : Format) (k : ℕ) (b : Multiples) (ts : List ℤ) → Ready input b
    → All (IsWithin 1048575) ts → All (HasOddPart b.known) ts
    → All (HasWidth MAX_WIDTH) (numbered k (map (constant_format input) ts)) → HasOutputs input b k ts (with_outputs input k b ts)
all-outputs input k b [] ready small odd wide = record {
  keeps = keeps-same b.net ready.valid;
  delays = refl;
  made = [];
  outputs = sym (append-nil b.net.outputs);
  ports = refl;
  right = tt;
}
all-outputs input k b (t ∷ ts) ready small odd wide =
    let format = constant_format input t in
    let port : PortFormat = record { name = codes "y" ++ decimal k; format = format } in
    let later = numbered (k + 1) (map (constant_format input) ts) in
    let fits : IsWidth format.width = All-head (HasWidth MAX_WIDTH) port later wide in
    let small_t = All-head (IsWithin 1048575) t ts small in
    let odd_t = All-head (HasOddPart b.known) t ts odd in
    let node = with_constant input.signed format.width b t in
    let o : Output = record { name = codes "y" ++ decimal k; from = whole format.width node.place } in
    let next = with_output input k b t in
    let net = with_outputs input k b (t ∷ ts) in
    let keeps = next-keeps input k b t odd_t fits ready.valid (ready_nodes input b ready) in
    let ready_next = next-ready input k b t odd_t fits ready small_t in
    let rest =
    all-outputs input (k + 1) next ts ready_next (All-tail (IsWithin 1048575) t ts small) (All-tail (HasOddPart b.known) t ts odd)
    (All-tail (HasWidth MAX_WIDTH) port later wide) in
    record {
      keeps = keeps-then b.net next.net net keeps rest.keeps;
      delays = rest.delays ∙ next-delays input k b t odd_t fits ready.valid (ready_nodes input b ready);
      made = o ∷ rest.made;
      outputs = rest.outputs
          ∙ ap (λ (os : List Output). (os ++ o ∷ []) ++ rest.made) (constant-outputs input.signed format.width b t)
          ∙ append_assoc b.net.outputs (o ∷ []) rest.made;
      ports = ap (λ n. (codes "y" ++ decimal k, n) ∷ map shown rest.made) (whole-width format.width node.place fits.0)
          ∙ ap (λ ps. (codes "y" ++ decimal k, format.width) ∷ ps) rest.ports;
      right = (
        right-kept input next.net net rest.keeps ready_next.has_input o t (next-right input k b t odd_t fits ready small_t),
        rest.right,
      );
    }

-- the output at a place

pub right-at : (input : Format) (net : Net) (os : List Output) (ts : List ℤ) → AreRight input net os ts
    → (n i : ℕ) (t : ℤ) → slice_get ts i ≡ Some t
    → (inputs : Inputs) (time : ℤ) → All (AreWords (input_widths net)) inputs
    → val (word_at (map (λ o. slice_flow net.nodes inputs o.from time) os) i) (format_at (numbered n (map (constant_format input) ts)) i)
    ≡ val (flow net.nodes inputs 0 time) input *ℤ t
right-at input net [] [] h n i t got inputs time words = absurd (cc)
right-at input net [] (u ∷ ts) h n i t got inputs time words = absurd h
right-at input net (o ∷ os) [] h n i t got inputs time words = absurd h
right-at input net (o ∷ os) (u ∷ ts) h n zero t got inputs time words =
    let same : u ≡ t = cc in
    h.0.value inputs time words ∙ ap (λ z. val (flow net.nodes inputs 0 time) input *ℤ z) same
right-at input net (o ∷ os) (u ∷ ts) h n (suc i) t got inputs time words = right-at input net os ts h.1 (n + 1) i t got inputs time words
