-- The words of zero inputs, each over those before it.
use Rattle.std.proofs.Common.{◌≡◌, ◌^◌, ℕ, ◌+◌, ◌<◌, ◌≤◌, Bool, List, [], ◌∷◌, ◌++◌, length, map, take, get_or, Some, refl, sym, ap, ◌∙◌, subst, arith}
use Rattle.std.specs.Prelude.{negsuc, All, slice_get, slice_index}
use Rattle.std.proofs.lemmas.List.{length-map, take-map, get_or-take, take_more, take_all, ext_get_or}
use Rattle.std.proofs.Math.Seq.{take-append_seam}
use Rattle.std.proofs.lemmas.List.Elements.{All-nil, All-head, All-tail, All-take}
use Rattle.std.proofs.lemmas.Option.{slice_get_read, slice_get_within, slice_get-get_or, get_or_from_slice_get}
use Rattle.opgen_num.specs.declared.format.TheConstants.{MAX_WIDTH}
use Rattle.opgen_num.specs.Words.{nat, word}
use Rattle.opgen_num.proofs.Words.{nat-below}
use Rattle.opgen_design.specs.Run.{AreWords}
use Rattle.opgen_design.specs.Value.{word_at, cut}
use Rattle.opgen_design.proofs.ValueLaws.{same_value}
use Rattle.opgen_net.specs.declared.net.Net.{Net}
use Rattle.opgen_net.specs.declared.node.Node.{Node}
use Rattle.opgen_net.specs.declared.node.Node.TheVariants.{Input, Constant, Cells, Choice, Table, Delay}
use Rattle.opgen_net.specs.Flow.{flow, stream_of, streams_on}
use Rattle.opgen_net.specs.Valid.{widths, node_width, MayStand, FitsTable, IsValid}
use Rattle.opgen_net.specs.Valid as valid_net
use Rattle.opgen_net.proofs.FlowLaws.{flow_equation, index_within, length-widths, stands_at}
use Rattle.opgen_net.proofs.FlowBefore.{flow-before}
use Rattle.opgen_net.proofs.FlowWidths.{are_widths, flow-width}
use Rattle.opgen_net.proofs.InputLaws.{width-at}
use Rattle.opgen_schedule.specs.Reads.{reads_of}
use Rattle.opgen_schedule.proofs.Reading.{reads-before}
use Rattle.opgen_pipe.specs.Pipelined.{zero_word}
use Rattle.opgen_pipe.specs.Zeros.{still_word, zero_words}
use Rattle.opgen_net.proofs.Standing.{may_stand}
use Rattle.opgen_pipe.proofs.Follows.{cells-read, chosen_same}
use Rattle.opgen_pipe.proofs.Lists.{length-each, get-each}

-- an item that was read is the word there
pub read-word : (words : List (List Bool)) (i : ℕ) (x : List Bool) → i < length words → x ≡ get_or words i x → x ≡ word_at words i
read-word words i x l e = sym (get_or_from_slice_get words i x [] (slice_get_read words (length words) i x refl l e))

-- the row that a word numbers is there
pub row-there : (words rows : List (List Bool)) (address : ℕ) (w : List Bool) → FitsTable (map length words) address rows → w
    ≡ get_or words address w → nat w < length rows
row-there words rows address w h e =
    let there : address < length words = omega
    (arith, index_within (map length words) address 0 (omega (arith, h.address_width.0)), length-map words length) in
    let wide : slice_index (map length words) address ≡ length w = width-at words address
    ∙ ap length (sym (read-word words address w there e)) in
    omega (arith, nat-below w, h.row_for_each, ap (λ n. 2 ^ n) wide)

pub node-there : (words : List (List Bool)) (i : ℕ) → i < length (map length words) → i < length words
node-there words i l = omega (arith, l, length-map words length)

module _ (net : Net) (valid : IsValid net) where
  abbrev zeros : List (List Bool)
  zeros = zero_words net

  count : length (zero_words net) ≡ length net.nodes
  count = length-each (λ i n. zero_word net i) 0 net.nodes

  zero-at : (i : ℕ) → i < length net.nodes → word_at (zero_words net) i ≡ flow net.nodes [] i (negsuc 0)
  zero-at i l =
      get_or_from_slice_get (zero_words net) i (zero_word net i) []
      (get-each (λ i n. zero_word net i) net.nodes i (get_or net.nodes i (Delay 0)) (slice_get-get_or net.nodes i (Delay 0) l))

  wide : (i : ℕ) → i < length net.nodes → length (word_at (zero_words net) i) ≡ slice_index (widths net.nodes) i
  wide i l = ap length (zero-at i l) ∙ flow-width net valid [] (All-nil (AreWords (valid_net.input_widths net))) i (negsuc 0)

  all-narrow : All (λ w. length w ≤ MAX_WIDTH) (zero_words net)
  all-narrow k d l =
      let there : k < length net.nodes = omega (arith, l, count) in
      let same : get_or (zero_words net) k d ≡ word_at (zero_words net) k =
      sym (get_or_from_slice_get (zero_words net) k (get_or (zero_words net) k d) [] (slice_get-get_or (zero_words net) k d l)) in
      omega (arith, ap length same, wide k there, (are_widths net.nodes valid.nodes k there).1)

  pub zeros-narrow : (k : ℕ) (words : List (List Bool)) → words ≡ take k (zero_words net) → All (λ w. length w ≤ MAX_WIDTH) words
  zeros-narrow k words e = subst (All (λ w. length w ≤ MAX_WIDTH)) (sym e)
      (All-take (λ w. length w ≤ MAX_WIDTH) k (zero_words net) all-narrow)

  widths-are : map length (zero_words net) ≡ widths net.nodes
  widths-are =
      ext_get_or 0 (map length (zero_words net)) (widths net.nodes)
      (length-map (zero_words net) length ∙ count ∙ sym (length-widths net.nodes))
      (λ i l. width-at (zero_words net) i ∙ wide i (omega (arith, l, length-map (zero_words net) length, count)))

  map-take : (k : ℕ) (ws : List (List Bool)) → map length (take k ws) ≡ take k (map length ws)
  map-take k ws = sym (take-map length k ws)

  take-front : (xs ys : List ℕ) (k : ℕ) → length xs ≡ k → take k (xs ++ ys) ≡ xs
  take-front xs ys k e = ap (λ n. take n (xs ++ ys)) (sym e) ∙ take-append_seam xs ys

  pub zeros-stand : (i : ℕ) (n : Node) → slice_get net.nodes i ≡ Some n → (words : List (List Bool)) → words ≡ take i (zero_words net)
      → MayStand (map length words) n
  zeros-stand i n h words e =
      let s = stands_at net.nodes valid.nodes i n h in
      let earlier : map length words ≡ s.earlier =
      ap (map length) e ∙ map-take i (zero_words net) ∙ ap (take i) (widths-are ∙ s.all)
      ∙ take-front s.earlier (node_width s.earlier n ∷ s.later) i s.place in
      subst (λ ws. MayStand ws n) (sym earlier) s.stands

  -- the words before a node
  before : (i j : ℕ) → i < length net.nodes → j < i → word_at (take i (zero_words net)) j ≡ flow net.nodes [] j (negsuc 0)
  before i j l m = get_or-take i (zero_words net) j [] m ∙ zero-at j (omega (arith, l, m))

  still-is : (i : ℕ) (n : Node) → slice_get net.nodes i ≡ Some n → still_word (take i (zero_words net)) n ≡ flow net.nodes [] i (negsuc 0)
  still-is i n h = by n h (reads-before net.nodes valid.nodes i n h) ∙ sym (flow_equation net.nodes valid.nodes [] i n (negsuc 0) h)
    where
      by : (n : Node) → slice_get net.nodes i ≡ Some n → All (λ j. j < i) (reads_of n) → still_word (take i (zero_words net)) n
          ≡ stream_of [] (streams_on [] [] net.nodes) n (negsuc 0)
      by (Input port w) h r = refl
      by (Constant w) h r = refl
      by (Cells class w e) h r =
          let l = slice_get_within net.nodes i (Cells class w e) h in
          same_value (λ j. j < i) (λ p. ⊥) (record { names = word_at (take i (zero_words net)); ports = word_at [] })
          (record { names = λ j. flow net.nodes [] j (negsuc 0); ports = λ p. [] }) (λ j m. before i j l m) (λ p m. absurd m) e
          (cells-read (widths net.nodes) (λ j. j < i) class w e (may_stand net.nodes valid.nodes i (Cells class w e) h) r)
      by (Choice on one other) h r =
          let l = slice_get_within net.nodes i (Choice on one other) h in
          let P : ℕ → Type 0 = λ j. j < i in
          let b = All-tail P on (one.node ∷ other.node ∷ []) r in
          chosen_same _ _ _ _ _ _ (before i on l (All-head P on (one.node ∷ other.node ∷ []) r))
          (ap (cut one.high one.low) (before i one.node l (All-head P one.node (other.node ∷ []) b)))
          (ap (cut other.high other.low) (before i other.node l (All-head P other.node [] (All-tail P one.node (other.node ∷ []) b))))
      by (Table address rows) h r =
          let l = slice_get_within net.nodes i (Table address rows) h in
          ap (λ w. word_at rows (nat w)) (before i address l (All-head (λ j. j < i) address [] r))
      by (Delay of) h r =
          let l = slice_get_within net.nodes i (Delay of) h in
          before i of l (All-head (λ j. j < i) of [] r) ∙ flow-before net.nodes [] [] of 0 1

  -- one word more
  pub zeros-more : (i : ℕ) (n : Node) → slice_get net.nodes i ≡ Some n → (words : List (List Bool)) (word : List Bool) → words
      ≡ take i (zero_words net) → word ≡ still_word words n
      → words ++ word ∷ [] ≡ take (i + 1) (zero_words net)
  zeros-more i n h words word e f =
      let l = slice_get_within net.nodes i n h in
      let is : word ≡ word_at (zero_words net) i = f ∙ ap (λ ws. still_word ws n) e ∙ still-is i n h ∙ sym (zero-at i l) in
      ap (λ ws. ws ++ word ∷ []) e
      ∙ ap (λ w. take i (zero_words net) ++ w ∷ []) is
      ∙ sym (take_more (zero_words net) i [] (omega (arith, l, count)))

  pub zeros-all : (i : ℕ) → length net.nodes ≤ i → take i (zero_words net) ≡ zero_words net
  zeros-all i l = take_all i (zero_words net) (omega (arith, l, count))
