-- The node that a word is made of has the bits that were asked for.
use Rattle.std.proofs.Common.{◌≡◌, ℕ, suc, ◌+◌, ◌-◌, ◌<◌, ◌≤◌, Bool, true, false, nat_eq, ◌&&◌, if◌then◌else◌, List, [], ◌∷◌, ◌++◌, length, map, take, drop, reverse, length-append, Some, None, refl, sym, ap, ◌∙◌, arith}
use Rattle.std.specs.Prelude.{ℤ, All, nat_le, nat_lt, slice_get, slice_index, slice_index_or, option_and_then}
use Rattle.std.proofs.Math.Seq.{take-suc, take-length}
use Rattle.std.proofs.lemmas.Bool.{le-leb, lt-ltb, eqb-true, and_parts}
use Rattle.std.proofs.lemmas.List.{append_assoc, length-drop, get_or-drop, reverse-append}
use Rattle.std.proofs.lemmas.List.Elements.{All-cons, All-nil}
use Rattle.std.proofs.lemmas.Option.{slice_get-get_or}
use Rattle.opgen_num.specs.declared.format.TheConstants.{MAX_WIDTH}
use Rattle.opgen_net.specs.declared.cell.Class.TheVariants.{Wire}
use Rattle.opgen_design.specs.declared.expr.Op.TheVariants.{Cat}
use Rattle.opgen_design.specs.declared.expr.Slice.{Slice}
use Rattle.opgen_net.specs.declared.net.Net.{Net}
use Rattle.opgen_net.specs.declared.node.Node.TheVariants.{Constant, Cells}
use Rattle.opgen_net.specs.declared.word_bits.WordBit.{WordBit}
use Rattle.opgen_net.specs.declared.word_bits.WordBit.TheVariants.{Zero, One, Of}
use Rattle.opgen_net.specs.declared.word_bits.Piece.{Piece}
use Rattle.opgen_net.specs.declared.word_bits.Piece.TheVariants.{Bits, Part}
use Rattle.opgen_design.specs.Tree.{Tree, name, part, chain, none}
use Rattle.opgen_design.specs.Plain.{trees_of}
use Rattle.opgen_design.specs.Value.{Scope, cut, value, value_on, IsWidth, as_width, width, width_on, in_chain, nesting, operands_nesting}
use Rattle.opgen_net.specs.Flow.{Inputs, flow}
use Rattle.opgen_design.specs.Run.{AreWords}
use Rattle.opgen_design.proofs.WidthLaws.{as_width-of}
use Rattle.opgen_net.specs.Valid.{slice_width, widths, LiesWithin, FitsNodes, input_widths, IsValid}
use Rattle.opgen_net.specs.Made.{slice_tree}
use Rattle.opgen_net.specs.WordRule.{IsThere, bit_flow, HasBits, alone, RunIsThere, over, above, runs, run_tree, word_tree, is_whole, Found, with_node, with_runs, with_word}
use Rattle.opgen_net.proofs.FlowLaws.{index_within}
use Rattle.opgen_net.proofs.FlowWidths.{flow-width}
use Rattle.opgen_net.proofs.Appending.{flow-append_last, width-append_last}

-- parts of words

cut-next : (w : List Bool) (high low : ℕ) → low ≤ high → high + 1 < length w → cut (high + 1) low w
    ≡ cut high low w ++ slice_index_or w (high + 1) false ∷ []
cut-next w high low l h =
    let k = high + 1 - low in
    let e : high + 1 + 1 - low ≡ suc k = omega (arith, l) in
    let p : low + k ≡ high + 1 = omega (arith, l) in
    ap (λ n. take n (drop low w)) e
    ∙ take-suc (drop low w) k false (omega (arith, l, h, length-drop low w))
    ∙ ap (λ x. take k (drop low w) ++ x ∷ []) (get_or-drop low w k false ∙ ap (λ i. slice_index_or w i false) p)

pub cut-one : (w : List Bool) (index : ℕ) → index < length w → cut index index w ≡ slice_index_or w index false ∷ []
cut-one w index h =
    let e : index + 1 - index ≡ suc 0 = omega arith in
    let p : index + 0 ≡ index = omega arith in
    ap (λ n. take n (drop index w)) e
    ∙ take-suc (drop index w) 0 false (omega (arith, h, length-drop index w))
    ∙ ap (λ x. x ∷ []) (get_or-drop index w 0 false ∙ ap (λ i. slice_index_or w i false) p)

-- all bits of a word of so many
pub all-bits : (v : List Bool) (m : ℕ) → 1 ≤ m → length v ≡ m → cut (m - 1) 0 v ≡ v
all-bits v m some e = let long : m - 1 + 1 - 0 ≡ length v = omega (arith, some, e) in ap (λ n. take n v) long ∙ take-length v

-- the width of a name
pub name-width : (ws : List ℕ) (n v : ℕ) → IsWidth v → slice_index ws n ≡ v → width ws [] (name n) ≡ Some v
name-width ws n v w h =
    let there : slice_get ws n ≡ Some v = slice_get-get_or ws n 0 (index_within ws n 0 (omega (arith, h, w.0))) ∙ ap Some h in
    ap (option_and_then as_width) there ∙ as_width-of v w

cut-whole : (w : List Bool) (high low : ℕ) → low ≡ 0 → high + 1 ≡ length w → cut high low w ≡ w
cut-whole w high low z h =
    let e : high + 1 - 0 ≡ length w = omega (arith, h) in
    ap (λ l. cut high l w) z ∙ ap (λ n. take n w) e ∙ take-length w

-- lengths of runs

abbrev run_length : Piece → ℕ
run_length (Bits w) = length w
run_length (Part s) = slice_width s

abbrev runs_length : List Piece → ℕ
runs_length [] = 0
runs_length (r ∷ rs) = run_length r + runs_length rs

abbrev AllThere : List ℕ → List Piece → Type 0
AllThere ws [] = Unit {0}
AllThere ws (r ∷ rs) = RunIsThere ws r × AllThere ws rs

record IsAbove (ws : List ℕ) (old new : List Piece) : Type 0 where
  there : AllThere ws new
  count : runs_length new ≡ runs_length old + 1

near : (node index : ℕ) (s : Slice) → (nat_eq node s.node && nat_eq index (s.high + 1)) ≡ true → (node ≡ s.node) × (index ≡ s.high + 1)
near node index s h = let a = and_parts (nat_eq node s.node) (nat_eq index (s.high + 1)) h in
    (eqb-true node s.node a.0, eqb-true index (s.high + 1) a.1)

module _ (ws : List ℕ) where
  alone-above : (b : WordBit) (rs : List Piece) → IsThere ws b → AllThere ws rs → IsAbove ws rs (alone b ∷ rs)
  alone-above Zero rs h a = record { there = (omega arith, a); count = omega arith }
  alone-above One rs h a = record { there = (omega arith, a); count = omega arith }
  alone-above (Of node index) rs h a = record { there = ((omega arith, h), a); count = omega arith }

  longer-above : (b : Bool) (w : List Bool) (rs : List Piece) → AllThere ws (Bits w ∷ rs)
      → IsAbove ws (Bits w ∷ rs) (Bits (w ++ b ∷ []) ∷ rs)
  longer-above b w rs a = record { there = (omega (arith, length-append w (b ∷ [])), a.1); count = omega (arith, length-append w (b ∷ [])) }

  part-above : (node index : ℕ) (s : Slice) (rs : List Piece) → index < slice_index ws node → AllThere ws (Part s ∷ rs)
      → (c : Bool) → (c ≡ true → (node ≡ s.node) × (index ≡ s.high + 1))
      → IsAbove ws (Part s ∷ rs) (over (Of node index) (if c then Some (Part (record { node = node; high = index; low = s.low })) else None)
      (Part s) rs)
  part-above node index s rs h a true f =
      let n = f refl in
      record { there = ((omega (arith, a.0.0, n.1), h), a.1); count = omega (arith, a.0.0, n.1) }
  part-above node index s rs h a false f = alone-above (Of node index) (Part s ∷ rs) h a

  above-above : (b : WordBit) (rs : List Piece) → IsThere ws b → AllThere ws rs → IsAbove ws rs (above b rs)
  above-above b [] h a = alone-above b [] h a
  above-above Zero (Bits w ∷ rs) h a = longer-above false w rs a
  above-above One (Bits w ∷ rs) h a = longer-above true w rs a
  above-above Zero (Part s ∷ rs) h a = alone-above Zero (Part s ∷ rs) h a
  above-above One (Part s ∷ rs) h a = alone-above One (Part s ∷ rs) h a
  above-above (Of node index) (Bits w ∷ rs) h a = alone-above (Of node index) (Bits w ∷ rs) h a
  above-above (Of node index) (Part s ∷ rs) h a =
      part-above node index s rs h a (nat_eq node s.node && nat_eq index (s.high + 1)) (near node index s)

  later-there : (b : WordBit) (bs : List WordBit) → All (IsThere ws) (b ∷ bs) → All (IsThere ws) bs
  later-there b bs h = λ k d l. h (suc k) d (omega (arith, l))

  pub runs-there : (bs : List WordBit) → All (IsThere ws) bs → AllThere ws (runs bs)
  runs-there [] h = tt
  runs-there (b ∷ bs) h = (above-above b (runs bs) (h 0 b (omega arith)) (runs-there bs (later-there b bs h))).there

  pub runs-count : (bs : List WordBit) → All (IsThere ws) bs → runs_length (runs bs) ≡ length bs
  runs-count [] h = refl
  runs-count (b ∷ bs) h =
      let t = later-there b bs h in
      omega (arith, (above-above b (runs bs) (h 0 b (omega arith)) (runs-there bs t)).count, runs-count bs t)

  all_there : (rs : List Piece) → AllThere ws rs → All (RunIsThere ws) rs
  all_there [] a = All-nil (RunIsThere ws)
  all_there (r ∷ rs) a = All-cons (RunIsThere ws) r rs a.0 (all_there rs a.1)

  pub runs-all_there : (bs : List WordBit) → All (IsThere ws) bs → All (RunIsThere ws) (runs bs)
  runs-all_there bs h = all_there (runs bs) (runs-there bs h)

-- widths

as_width-is : (w : ℕ) → 1 ≤ w → w ≤ MAX_WIDTH → as_width w ≡ Some w
as_width-is w h k =
    ap (λ c. if c && nat_le w MAX_WIDTH then Some w else None) (le-leb 1 w h)
    ∙ ap (λ c. if c then Some w else None) (le-leb w MAX_WIDTH k)

-- a slice that is its whole node reads its name
abbrev either : Bool → Slice → Tree
either c s = if c then name s.node else part s.node s.high s.low

whole : (ws : List ℕ) (s : Slice) → is_whole ws s ≡ true → (s.low ≡ 0) × (s.high + 1 ≡ slice_index ws s.node)
whole ws s h =
    let a = and_parts (nat_eq s.low 0) (nat_eq (s.high + 1) (slice_index ws s.node)) h in
    (eqb-true s.low 0 a.0, eqb-true (s.high + 1) (slice_index ws s.node) a.1)

module _ (ws : List ℕ) where
  node-get : (n k : ℕ) → k < slice_index ws n → slice_get ws n ≡ Some (slice_index ws n)
  node-get n k h = slice_get-get_or ws n 0 (index_within ws n k h)

  either-width : (s : Slice) → LiesWithin ws s → slice_width s ≤ MAX_WIDTH → (c : Bool)
      → (c ≡ true → (s.low ≡ 0) × (s.high + 1 ≡ slice_index ws s.node))
      → width ws [] (either c s) ≡ Some (slice_width s)
  either-width s h k true f =
      let w = slice_index ws s.node in
      let e : w ≡ slice_width s = omega (arith, (f refl).0, (f refl).1) in
      ap (option_and_then as_width) (node-get s.node s.high h.1)
      ∙ ap as_width e
      ∙ as_width-is (slice_width s) (omega (arith, h.0)) k
  either-width s h k false f =
      let w = slice_index ws s.node in
      ap (option_and_then (λ v. if nat_le s.low s.high && nat_lt s.high v then as_width (slice_width s) else None))
      (node-get s.node s.high h.1)
      ∙ ap (λ c. if c && nat_lt s.high w then as_width (slice_width s) else None) (le-leb s.low s.high h.0)
      ∙ ap (λ c. if c then as_width (slice_width s) else None) (lt-ltb s.high w h.1)
      ∙ as_width-is (slice_width s) (omega (arith, h.0)) k

  run-width : (r : Piece) → RunIsThere ws r → run_length r ≤ MAX_WIDTH → width ws [] (run_tree ws r) ≡ Some (run_length r)
  run-width (Bits w) h k = as_width-is (length w) h k
  run-width (Part s) h k = either-width s h k (is_whole ws s) (whole ws s)

  run_length-pos : (r : Piece) → RunIsThere ws r → 1 ≤ run_length r
  run_length-pos (Bits w) h = h
  run_length-pos (Part s) h = omega (arith, h.0)

  more-width : (w : ℕ) (rs : List Piece) → AllThere ws rs → 1 ≤ w → w + runs_length rs ≤ MAX_WIDTH
      → width_on ws [] Cat w (trees_of (map (run_tree ws) rs)) ≡ Some (w + runs_length rs)
  more-width w [] a h k = ap Some (omega arith)
  more-width w (r ∷ rs) a h k =
      let v = run_length r in
      let ts = trees_of (map (run_tree ws) rs) in
      let e : w + v + runs_length rs ≡ w + runs_length (r ∷ rs) = omega arith in
      ap (option_and_then (λ u. option_and_then (λ x. width_on ws [] Cat x ts) (as_width (w + u)))) (run-width r a.0 (omega (arith, k)))
      ∙ ap (option_and_then (λ x. width_on ws [] Cat x ts)) (as_width-is (w + v) (omega (arith, h)) (omega (arith, k)))
      ∙ more-width (w + v) rs a.1 (omega (arith, h)) (omega (arith, k))
      ∙ ap Some e

  word-width : (rs : List Piece) → AllThere ws rs → 1 ≤ runs_length rs → runs_length rs ≤ MAX_WIDTH → width ws [] (word_tree ws rs)
      ≡ Some (runs_length rs)
  word-width [] a h k = absurd (omega (arith, h))
  word-width (r ∷ []) a h k = run-width r a.0 (omega (arith, k)) ∙ ap Some (omega arith)
  word-width (r ∷ q ∷ rs) a h k =
      ap (option_and_then (λ w. width_on ws [] Cat w (trees_of (map (run_tree ws) (q ∷ rs))))) (run-width r a.0 (omega (arith, k)))
      ∙ more-width (run_length r) (q ∷ rs) a.1 (run_length-pos r a.0) k

  either-nests : (c : Bool) (s : Slice) → (in_chain (either c s) ≡ 0) × (nesting (either c s) ≡ 0)
  either-nests true s = (refl, refl)
  either-nests false s = (refl, refl)

  run-nests : (r : Piece) → (in_chain (run_tree ws r) ≡ 0) × (nesting (run_tree ws r) ≡ 0)
  run-nests (Bits w) = (refl, refl)
  run-nests (Part s) = either-nests (is_whole ws s) s

  operands-nest : (rs : List Piece) → operands_nesting (trees_of (map (run_tree ws) rs)) ≡ 0
  operands-nest [] = refl
  operands-nest (r ∷ rs) = let a = run-nests r in omega (arith, a.0, a.1, operands-nest rs)

  word-nests : (rs : List Piece) → nesting (word_tree ws rs) ≡ 0
  word-nests [] = refl
  word-nests (r ∷ []) = (run-nests r).1
  word-nests (r ∷ q ∷ rs) = operands-nest (r ∷ q ∷ rs)

  -- the expression of a word fits as many bits as it was asked for
  pub word-fits : (bs : List WordBit) → IsWidth (length bs) → All (IsThere ws) bs → FitsNodes ws (length bs) (word_tree ws (runs bs))
  word-fits bs wide h =
      let e = runs-count ws bs h in
      record {
        has_width = word-width (runs bs) (runs-there ws bs h) (omega (arith, e, wide.0)) (omega (arith, e, wide.1)) ∙ ap Some e;
        nests = omega (arith, word-nests (runs bs));
      }

-- values

module _ (ws : List ℕ) (f : ℕ → List Bool) (wide : (n : ℕ) → length (f n) ≡ slice_index ws n) where
  abbrev bit_in : WordBit → Bool
  bit_in Zero = false
  bit_in One = true
  bit_in (Of node index) = slice_index_or (f node) index false

  abbrev run_bits : Piece → List Bool
  run_bits (Bits w) = w
  run_bits (Part s) = cut s.high s.low (f s.node)

  abbrev runs_bits : List Piece → List Bool
  runs_bits [] = []
  runs_bits (r ∷ rs) = runs_bits rs ++ run_bits r

  alone-bits : (b : WordBit) (rs : List Piece) → IsThere ws b → runs_bits (alone b ∷ rs) ≡ runs_bits rs ++ bit_in b ∷ []
  alone-bits Zero rs h = refl
  alone-bits One rs h = refl
  alone-bits (Of node index) rs h = ap (λ v. runs_bits rs ++ v) (cut-one (f node) index (omega (arith, h, wide node)))

  part-bits : (node index : ℕ) (s : Slice) (rs : List Piece) → index < slice_index ws node → LiesWithin ws s
      → (c : Bool) → (c ≡ true → (node ≡ s.node) × (index ≡ s.high + 1))
      → runs_bits (over (Of node index) (if c then Some (Part (record { node = node; high = index; low = s.low })) else None) (Part s) rs)
      ≡ runs_bits (Part s ∷ rs) ++ slice_index_or (f node) index false ∷ []
  part-bits node index s rs h a true g =
      let n = g refl in
      let next : s.high + 1 < length (f node) = omega (arith, h, n.1, wide node) in
      ap (λ i. runs_bits rs ++ cut i s.low (f node)) n.1
      ∙ ap (λ v. runs_bits rs ++ v) (cut-next (f node) s.high s.low a.0 next)
      ∙ sym (append_assoc (runs_bits rs) (cut s.high s.low (f node)) (slice_index_or (f node) (s.high + 1) false ∷ []))
      ∙ ap (λ m. runs_bits rs ++ cut s.high s.low (f m) ++ slice_index_or (f node) (s.high + 1) false ∷ []) n.0
      ∙ ap (λ i. runs_bits (Part s ∷ rs) ++ slice_index_or (f node) i false ∷ []) (sym n.1)
  part-bits node index s rs h a false g = alone-bits (Of node index) (Part s ∷ rs) h

  above-bits : (b : WordBit) (rs : List Piece) → IsThere ws b → AllThere ws rs → runs_bits (above b rs) ≡ runs_bits rs ++ bit_in b ∷ []
  above-bits b [] h a = alone-bits b [] h
  above-bits Zero (Bits w ∷ rs) h a = sym (append_assoc (runs_bits rs) w (false ∷ []))
  above-bits One (Bits w ∷ rs) h a = sym (append_assoc (runs_bits rs) w (true ∷ []))
  above-bits Zero (Part s ∷ rs) h a = refl
  above-bits One (Part s ∷ rs) h a = refl
  above-bits (Of node index) (Bits w ∷ rs) h a = alone-bits (Of node index) (Bits w ∷ rs) h
  above-bits (Of node index) (Part s ∷ rs) h a =
      part-bits node index s rs h a.0 (nat_eq node s.node && nat_eq index (s.high + 1)) (near node index s)

  runs-spell : (bs : List WordBit) → All (IsThere ws) bs → runs_bits (runs bs) ≡ reverse (map bit_in bs)
  runs-spell [] h = refl
  runs-spell (b ∷ bs) h =
      let t = later-there ws b bs h in
      above-bits b (runs bs) (h 0 b (omega arith)) (runs-there ws bs t)
      ∙ ap (λ v. v ++ bit_in b ∷ []) (runs-spell bs t)
      ∙ sym (reverse-append (bit_in b ∷ []) (map bit_in bs))

  abbrev scope : Scope
  scope = record { names = f; ports = λ n. [] }

  either-value : (s : Slice) (c : Bool) → (c ≡ true → (s.low ≡ 0) × (s.high + 1 ≡ slice_index ws s.node)) → value scope (either c s)
      ≡ run_bits (Part s)
  either-value s true g = sym (cut-whole (f s.node) s.high s.low (g refl).0 (omega (arith, (g refl).1, wide s.node)))
  either-value s false g = refl

  run-value : (r : Piece) → value scope (run_tree ws r) ≡ run_bits r
  run-value (Bits w) = refl
  run-value (Part s) = either-value s (is_whole ws s) (whole ws s)

  more-value : (w : List Bool) (rs : List Piece) → value_on scope Cat w (trees_of (map (run_tree ws) rs)) ≡ runs_bits rs ++ w
  more-value w [] = refl
  more-value w (r ∷ rs) =
      ap (λ v. value_on scope Cat (v ++ w) (trees_of (map (run_tree ws) rs))) (run-value r)
      ∙ more-value (run_bits r ++ w) rs
      ∙ sym (append_assoc (runs_bits rs) (run_bits r) w)

  word-value : (rs : List Piece) → value scope (word_tree ws rs) ≡ runs_bits rs
  word-value [] = refl
  word-value (r ∷ []) = run-value r
  word-value (r ∷ q ∷ rs) = ap (λ v. value_on scope Cat v (trees_of (map (run_tree ws) (q ∷ rs)))) (run-value r)
      ∙ more-value (run_bits r) (q ∷ rs)

-- the node that the rule finds

module _ (net : Net) (valid : IsValid net) where
  abbrev of_part : ℕ → Slice → Bool → Found
  of_part count s c = if c then record { nodes = net.nodes; place = s.node } else with_node net.nodes
      (Cells Wire count (slice_tree (widths net.nodes) s))

  module _ (inputs : Inputs) (t : ℤ) (words : All (AreWords (input_widths net)) inputs) where
    abbrev here : ℕ → List Bool
    here n = flow net.nodes inputs n t

    wide : (n : ℕ) → length (here n) ≡ slice_index (widths net.nodes) n
    wide n = flow-width net valid inputs words n t

    part-found : (count : ℕ) (s : Slice) (c : Bool) → (c ≡ true → (s.low ≡ 0) × (s.high + 1 ≡ slice_index (widths net.nodes) s.node))
        → flow (of_part count s c).nodes inputs (of_part count s c).place t ≡ cut s.high s.low (here s.node)
    part-found count s true g = sym (cut-whole (here s.node) s.high s.low (g refl).0 (omega (arith, (g refl).1, wide s.node)))
    part-found count s false g =
        flow-append_last net.nodes (Cells Wire count (slice_tree (widths net.nodes) s)) inputs t
        ∙ run-value (widths net.nodes) here wide (Part s)

    runs-found : (count : ℕ) (rs : List Piece) → flow (with_runs net.nodes count rs).nodes inputs (with_runs net.nodes count rs).place t
        ≡ runs_bits (widths net.nodes) here wide rs
    runs-found count [] = flow-append_last net.nodes (Cells Wire count (chain Cat none)) inputs t
    runs-found count (Bits w ∷ []) = flow-append_last net.nodes (Constant w) inputs t
    runs-found count (Part s ∷ []) = part-found count s (is_whole (widths net.nodes) s) (whole (widths net.nodes) s)
    runs-found count (Bits w ∷ q ∷ rs) =
        flow-append_last net.nodes (Cells Wire count (word_tree (widths net.nodes) (Bits w ∷ q ∷ rs))) inputs t
        ∙ word-value (widths net.nodes) here wide (Bits w ∷ q ∷ rs)
    runs-found count (Part s ∷ q ∷ rs) =
        flow-append_last net.nodes (Cells Wire count (word_tree (widths net.nodes) (Part s ∷ q ∷ rs))) inputs t
        ∙ word-value (widths net.nodes) here wide (Part s ∷ q ∷ rs)

  bit_in-flow : (inputs : Inputs) (t : ℤ) (words : All (AreWords (input_widths net)) inputs) (bs : List WordBit)
      → map (bit_in (widths net.nodes) (here inputs t words) (wide inputs t words)) bs ≡ map (bit_flow net.nodes inputs t) bs
  bit_in-flow inputs t words [] = refl
  bit_in-flow inputs t words (Zero ∷ bs) = ap (λ x. false ∷ x) (bit_in-flow inputs t words bs)
  bit_in-flow inputs t words (One ∷ bs) = ap (λ x. true ∷ x) (bit_in-flow inputs t words bs)
  bit_in-flow inputs t words (Of node index ∷ bs) = ap (λ x. slice_index_or (flow net.nodes inputs node t) index false ∷ x)
      (bit_in-flow inputs t words bs)

  pub word-has_bits : (bs : List WordBit) → All (IsThere (widths net.nodes)) bs
      → HasBits net bs (with_word net.nodes bs).nodes (with_word net.nodes bs).place
  word-has_bits bs h inputs t words =
      runs-found inputs t words (length bs) (runs bs)
      ∙ runs-spell (widths net.nodes) (here inputs t words) (wide inputs t words) bs h
      ∙ ap reverse (bit_in-flow inputs t words bs)

  part-found_width : (count : ℕ) (s : Slice) (c : Bool) → count ≡ slice_width s
      → (c ≡ true → (s.low ≡ 0) × (s.high + 1 ≡ slice_index (widths net.nodes) s.node))
      → slice_index (widths (of_part count s c).nodes) (of_part count s c).place ≡ count
  part-found_width count s true e g = omega (arith, (g refl).0, (g refl).1, e)
  part-found_width count s false e g = width-append_last net.nodes (Cells Wire count (slice_tree (widths net.nodes) s))

  runs-found_width : (count : ℕ) (rs : List Piece) → count ≡ runs_length rs
      → slice_index (widths (with_runs net.nodes count rs).nodes) (with_runs net.nodes count rs).place ≡ count
  runs-found_width count [] e = width-append_last net.nodes (Cells Wire count (chain Cat none))
  runs-found_width count (Bits w ∷ []) e = width-append_last net.nodes (Constant w) ∙ omega (arith, e)
  runs-found_width count (Part s ∷ []) e = part-found_width count s (is_whole (widths net.nodes) s) (omega (arith, e))
      (whole (widths net.nodes) s)
  runs-found_width count (Bits w ∷ q ∷ rs) e = width-append_last net.nodes
      (Cells Wire count (word_tree (widths net.nodes) (Bits w ∷ q ∷ rs)))
  runs-found_width count (Part s ∷ q ∷ rs) e = width-append_last net.nodes
      (Cells Wire count (word_tree (widths net.nodes) (Part s ∷ q ∷ rs)))

  pub word-found_width : (bs : List WordBit) → All (IsThere (widths net.nodes)) bs
      → slice_index (widths (with_word net.nodes bs).nodes) (with_word net.nodes bs).place ≡ length bs
  word-found_width bs h = runs-found_width (length bs) (runs bs) (sym (runs-count (widths net.nodes) bs h))
