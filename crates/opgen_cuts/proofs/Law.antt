-- The net of the recipe is valid, the same circuit as the old one, and has no sum of more bits than are allowed.
use Rattle.std.proofs.Common.{◌≡◌, ℕ, zero, suc, ◌+◌, ◌<◌, ◌≤◌, Bool, false, List, [], ◌∷◌, ◌++◌, length, drop, map, refl, sym, ap, ◌∙◌, subst, arith}
use Rattle.std.specs.Prelude.{ℤ, All, slice_index, slice_index_or}
use Rattle.std.proofs.lemmas.List.{drop_all, drop_more, length-map}
use Rattle.std.proofs.lemmas.List.Elements.{All-head, All-map, All-tail}
use Rattle.std.proofs.lemmas.Option.{slice_get-get_or}
use Rattle.opgen_num.specs.declared.format.TheConstants.{MAX_WIDTH}
use Rattle.opgen_design.specs.Run.{AreWords}
use Rattle.opgen_design.specs.Value.{cut}
use Rattle.opgen_net.specs.declared.net.Net.{Net}
use Rattle.opgen_net.specs.declared.net.Output.{Output}
use Rattle.opgen_net.specs.declared.node.Node.{Node}
use Rattle.opgen_net.specs.declared.node.Node.TheVariants.{Constant}
use Rattle.opgen_net.specs.Delays.{delays}
use Rattle.opgen_net.specs.Flow.{Inputs, slice_flow}
use Rattle.opgen_net.specs.Named.{port_names}
use Rattle.opgen_net.specs.Valid.{IsValid, LiesWithin, input_widths, widths}
use Rattle.opgen_net.proofs.Delays.{at-most}
use Rattle.opgen_net.proofs.FlowLaws.{length-widths, lies_within}
use Rattle.opgen_cuts.specs.declared.cutting.Cutting.{Cutting}
use Rattle.opgen_cuts.specs.Needed.{needed}
use Rattle.opgen_cuts.specs.Recipe.{cut_net, cutting_of, start_of, with_copies, with_copy, with_slices}
use Rattle.opgen_cuts.specs.Renamed.{renamed_output}
use Rattle.opgen_cuts.specs.Same.{HasNoWideSum, IsSameCircuit, port_of}
use Rattle.opgen_cuts.proofs.Copies.{copy-next}
use Rattle.opgen_cuts.proofs.Marks.{needed-outputs}
use Rattle.opgen_cuts.proofs.Start.{start-cut}
use Rattle.opgen_cuts.proofs.State.{IsCut, IsPlaceOf, delays_to, place-width}

module _ (old : Net) (valid : IsValid old) (most : ℕ) (least : 4 ≤ most) (few : most ≤ MAX_WIDTH) where
  abbrev marks : List Bool
  marks = needed old

  -- the nodes that are left
  pub copies-cut : (left k : ℕ) (s : Cutting) → k + left ≡ length old.nodes → IsCut old most k s
      → IsCut old most (length old.nodes) (with_copies most marks (drop k old.nodes) s)
  copies-cut zero k s e h =
      let all : k ≡ length old.nodes = omega (arith, e) in
      subst (λ ns. IsCut old most (length old.nodes) (with_copies most marks ns s)) (sym (drop_all k old.nodes (omega (arith, e))))
      (subst (λ i. IsCut old most i s) all h)
  copies-cut (suc left) k s e h =
      let l : k < length old.nodes = omega (arith, e) in
      let n : Node = slice_index_or old.nodes k (Constant []) in
      let whole : Bool = slice_index_or marks (length s.places) false in
      let made = copy-next old valid most k s h least few whole (λ m. ap (λ i. slice_index_or marks i false) h.places_count ∙ m) n
      (slice_get-get_or old.nodes k (Constant []) l) in
      subst (λ ns. IsCut old most (length old.nodes) (with_copies most marks ns s)) (sym (drop_more old.nodes k (Constant []) l))
      (copies-cut left (k + 1) (with_copy most whole n s) (omega (arith, e)) made.1)

  pub all-cut : IsCut old most (length old.nodes) (cutting_of most old)
  all-cut = copies-cut (length old.nodes) 0 (start_of old) (omega arith) (start-cut old valid most)

-- the outputs

module _ (old : Net) (valid : IsValid old) (most : ℕ) (s : Cutting) (state : IsCut old most (length old.nodes) s) where
  abbrev HasPlace : Output → Type 0
  HasPlace o = IsPlaceOf old s.net (delays_to old o.from.node) o.from.node (slice_index s.places o.from.node)

  output-places : All HasPlace old.outputs
  output-places k d l =
      let o = slice_index_or old.outputs k d in
      let there : All (λ (p : Output). p.from.node < length old.nodes) old.outputs =
      λ i e m. omega (arith, lies_within (widths old.nodes) (slice_index_or old.outputs i e).from (valid.outputs i e m), length-widths old.nodes) in
      state.places o.from.node (there k d l) (needed-outputs old there k d l)

  pub slices-valid : IsValid (with_slices old s)
  slices-valid = record {
    nodes = state.valid.nodes;
    inputs = state.valid.inputs;
    outputs = All-map (λ (o : Output). LiesWithin (widths s.net.nodes) o.from) (renamed_output s.places) old.outputs
        (
        λ k d l.
        let o = slice_index_or old.outputs k d in
        let lies = valid.outputs k d l in
        let same = place-width old valid s.net (delays_to old o.from.node) o.from.node state.valid (slice_index s.places o.from.node)
        (output-places k d l) in
        (lies.0, omega (arith, lies.1, same))
        );
  }

  ports-same : (os : List Output) → map port_of (map (renamed_output s.places) os) ≡ map port_of os
  ports-same [] = refl
  ports-same (o ∷ os) = ap (λ r. port_of o ∷ r) (ports-same os)

  words-same : (inputs : Inputs) (t : ℤ) → All (AreWords (input_widths old)) inputs → (os : List Output) → All HasPlace os
      → map (λ o. slice_flow s.net.nodes inputs o.from t) (map (renamed_output s.places) os) ≡ map (λ o. slice_flow old.nodes inputs o.from t) os
  words-same inputs t words [] h = refl
  words-same inputs t words (o ∷ os) h =
      ap (λ w. cut o.from.high o.from.low w ∷ map (λ (p : Output). slice_flow s.net.nodes inputs p.from t) (map (renamed_output s.places) os))
      ((All-head HasPlace o os h).words inputs t words)
      ∙ ap (λ r. slice_flow old.nodes inputs o.from t ∷ r) (words-same inputs t words os (All-tail HasPlace o os h))

  pub slices-same : IsSameCircuit old (with_slices old s)
  slices-same = record {
    inputs = state.inputs;
    outputs = ports-same old.outputs;
    words = λ inputs t words. words-same inputs t words old.outputs output-places;
    delays = λ m passes. state.passes m (λ n l. at-most m (delays old.nodes) n passes);
  }

module _ (old : Net) (valid : IsValid old) (most : ℕ) (least : 4 ≤ most) (few : most ≤ MAX_WIDTH) where
  pub cut-valid : IsValid (cut_net most old)
  cut-valid = slices-valid old valid most (cutting_of most old) (all-cut old valid most least few)

  pub cut-same : IsSameCircuit old (cut_net most old)
  cut-same = slices-same old valid most (cutting_of most old) (all-cut old valid most least few)

  pub cut-narrow : All (HasNoWideSum most) (cut_net most old).nodes
  cut-narrow = (all-cut old valid most least few).narrow

-- a net that is the same circuit has as many ports, of the same names

names-of : (os : List Output) → map (λ (o : Output). o.name) os ≡ map (λ (p : List ℕ × ℕ). p.0) (map port_of os)
names-of [] = refl
names-of (o ∷ os) = ap (λ r. o.name ∷ r) (names-of os)

module _ (old new : Net) (same : IsSameCircuit old new) where
  pub same-names : port_names new ≡ port_names old
  same-names =
      ap (λ is. map (λ (i : List ℕ × ℕ). i.0) is ++ map (λ (o : Output). o.name) new.outputs) same.inputs
      ∙ ap (λ r. map (λ (i : List ℕ × ℕ). i.0) old.inputs ++ r)
      (names-of new.outputs ∙ ap (map (λ (p : List ℕ × ℕ). p.0)) same.outputs ∙ sym (names-of old.outputs))

  pub same-count : length new.inputs + length new.outputs ≡ length old.inputs + length old.outputs
  same-count =
      omega (arith, ap length same.inputs, ap length same.outputs, length-map new.outputs port_of, length-map old.outputs port_of)
