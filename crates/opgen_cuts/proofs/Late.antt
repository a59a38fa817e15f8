-- The delays that ways to further nodes pass: nodes keep theirs, a node of given bits has no more than the bits.
use Rattle.std.proofs.Common.{◌≡◌, ℕ, ◌<◌, ◌≤◌, Bool, true, false, if◌then◌else◌, List, [], ◌∷◌, ◌++◌, length, length-append, drop, refl, sym, ap, ◌∙◌, subst, arith, append_assoc}
use Rattle.std.specs.Prelude.{All, slice_index}
use Rattle.std.proofs.Math.ListN.{get_or-append}
use Rattle.std.proofs.Math.Seq.{get_or-append_seam}
use Rattle.std.proofs.lemmas.List.{append-nil}
use Rattle.std.proofs.lemmas.List.Elements.{All-append, All-cons, All-nil}
use Rattle.opgen_design.specs.declared.expr.Slice.{Slice}
use Rattle.opgen_net.specs.declared.cell.Class.TheVariants.{Wire}
use Rattle.opgen_net.specs.declared.net.Net.{Net}
use Rattle.opgen_net.specs.declared.node.Node.{Node}
use Rattle.opgen_net.specs.declared.node.Node.TheVariants.{Constant, Cells}
use Rattle.opgen_net.specs.declared.word_bits.Piece.{Piece}
use Rattle.opgen_net.specs.declared.word_bits.Piece.TheVariants.{Bits, Part}
use Rattle.opgen_net.specs.declared.word_bits.WordBit.{WordBit}
use Rattle.opgen_net.specs.Delays.{node_delays, delays_on, delays, PassesAtMost}
use Rattle.opgen_net.specs.Grown.{HasGrown}
use Rattle.opgen_net.specs.Made.{slice_tree}
use Rattle.opgen_net.specs.Valid.{widths}
use Rattle.opgen_net.specs.WordRule.{runs, word_tree, is_whole, Found, with_node, with_runs, with_word}
use Rattle.opgen_net.proofs.Grown.{grown-nodes}
use Rattle.opgen_pieces.specs.Law.{bit_delays}
use Rattle.opgen_pieces.proofs.Expressions.{RunsPass, runs-pass, word-reads}
use Rattle.opgen_pieces.proofs.Making.{length-delays}
use Rattle.opgen_cuts.specs.Same.{HasNoWideSum}

-- a node more

on-append : (ds : List ℕ) (ns : List Node) (n : Node) → delays_on ds (ns ++ n ∷ []) ≡ delays_on ds ns ++ node_delays (delays_on ds ns) n ∷ []
on-append ds [] n = refl
on-append ds (m ∷ ns) n = on-append (ds ++ node_delays ds m ∷ []) ns n

pub delays-append : (ns : List Node) (n : Node) → delays (ns ++ n ∷ []) ≡ delays ns ++ node_delays (delays ns) n ∷ []
delays-append ns n = on-append [] ns n

pub delay-append_before : (ns : List Node) (n : Node) (k : ℕ) → k < length ns → slice_index (delays (ns ++ n ∷ [])) k ≡ slice_index (delays ns) k
delay-append_before ns n k h =
    ap (λ ds. slice_index ds k) (delays-append ns n)
    ∙ get_or-append (delays ns) (node_delays (delays ns) n ∷ []) 0 k (omega (arith, h, length-delays ns))

pub delay-append_last : (ns : List Node) (n : Node) → slice_index (delays (ns ++ n ∷ [])) (length ns) ≡ node_delays (delays ns) n
delay-append_last ns n =
    ap (λ ds. slice_index ds (length ns)) (delays-append ns n)
    ∙ ap (λ k. slice_index (delays ns ++ node_delays (delays ns) n ∷ []) k) (sym (length-delays ns))
    ∙ get_or-append_seam (delays ns) (node_delays (delays ns) n) [] 0

-- further nodes
abbrev pub KeepsDelays : (old new : List Node) → Type 0
KeepsDelays old new = (n : ℕ) → n < length old → slice_index (delays new) n ≡ slice_index (delays old) n

pub delays-more : (nodes more : List Node) → KeepsDelays nodes (nodes ++ more)
delays-more nodes [] = subst (KeepsDelays nodes) (sym (append-nil nodes)) (λ n h. refl)
delays-more nodes (m ∷ more) =
    subst (KeepsDelays nodes) (append_assoc nodes (m ∷ []) more)
    (λ n h. delays-more (nodes ++ m ∷ []) more n (omega (arith, h, length-append nodes (m ∷ []))) ∙ delay-append_before nodes m n h)

pub grown-delays : (old new : Net) → HasGrown old new → KeepsDelays old.nodes new.nodes
grown-delays old new grown =
    subst (KeepsDelays old.nodes) (grown-nodes old new grown) (delays-more old.nodes (drop (length old.nodes) new.nodes))

pub passes-append : (most : ℕ) (ns : List Node) (n : Node) → PassesAtMost most ns → node_delays (delays ns) n ≤ most
    → PassesAtMost most (ns ++ n ∷ [])
passes-append most ns n h l =
    subst (All (λ d. d ≤ most)) (sym (delays-append ns n))
    (All-append (λ d. d ≤ most) (delays ns) (node_delays (delays ns) n ∷ []) h
    (All-cons (λ d. d ≤ most) (node_delays (delays ns) n) [] l (All-nil (λ d. d ≤ most))))

-- the node of given bits

module _ (nodes : List Node) where
  abbrev of_part : ℕ → Slice → Bool → Found
  of_part count s c =
      if c then record { nodes = nodes; place = s.node } else with_node nodes (Cells Wire count (slice_tree (widths nodes) s))

  module _ (most : ℕ) where
    abbrev FoundIsLate : Found → Type 0
    FoundIsLate found = slice_index (delays found.nodes) found.place ≤ most

    last-late : (n : Node) → node_delays (delays nodes) n ≤ most → FoundIsLate (with_node nodes n)
    last-late n h = omega (arith, h, delay-append_last nodes n)

    part-found : (count : ℕ) (s : Slice) → slice_index (delays nodes) s.node ≤ most → (c : Bool) → FoundIsLate (of_part count s c)
    part-found count s h true = h
    part-found count s h false =
        last-late (Cells Wire count (slice_tree (widths nodes) s)) (word-reads (widths nodes) (delays nodes) most (Part s ∷ []) (h, tt))

    runs-found : (count : ℕ) (rs : List Piece) → RunsPass (widths nodes) (delays nodes) most rs → FoundIsLate (with_runs nodes count rs)
    runs-found count [] h = last-late (Cells Wire count (word_tree (widths nodes) [])) (omega arith)
    runs-found count (Bits w ∷ []) h = last-late (Constant w) (omega arith)
    runs-found count (Part s ∷ []) h = part-found count s h.0 (is_whole (widths nodes) s)
    runs-found count (Bits w ∷ q ∷ rs) h =
        last-late (Cells Wire count (word_tree (widths nodes) (Bits w ∷ q ∷ rs)))
        (word-reads (widths nodes) (delays nodes) most (Bits w ∷ q ∷ rs) h)
    runs-found count (Part s ∷ q ∷ rs) h =
        last-late (Cells Wire count (word_tree (widths nodes) (Part s ∷ q ∷ rs)))
        (word-reads (widths nodes) (delays nodes) most (Part s ∷ q ∷ rs) h)

    -- no way to it passes more delays than those to the bits
    pub word-found_late : (given : List WordBit) → All (λ b. bit_delays (delays nodes) b ≤ most) given
        → slice_index (delays (with_word nodes given).nodes) (with_word nodes given).place ≤ most
    word-found_late given h = runs-found (length given) (runs given) (runs-pass (widths nodes) (delays nodes) most given h)

  -- and it is no sum
  module _ (most : ℕ) (narrow : All (HasNoWideSum most) nodes) where
    abbrev HasNone : Found → Type 0
    HasNone found = All (HasNoWideSum most) found.nodes

    last-narrow : (n : Node) → HasNoWideSum most n → HasNone (with_node nodes n)
    last-narrow n h =
        All-append (HasNoWideSum most) nodes (n ∷ []) narrow (All-cons (HasNoWideSum most) n [] h (All-nil (HasNoWideSum most)))

    part-narrow : (count : ℕ) (s : Slice) (c : Bool) → HasNone (of_part count s c)
    part-narrow count s true = narrow
    part-narrow count s false = last-narrow (Cells Wire count (slice_tree (widths nodes) s)) tt

    runs-narrow : (count : ℕ) (rs : List Piece) → HasNone (with_runs nodes count rs)
    runs-narrow count [] = last-narrow (Cells Wire count (word_tree (widths nodes) [])) tt
    runs-narrow count (Bits w ∷ []) = last-narrow (Constant w) tt
    runs-narrow count (Part s ∷ []) = part-narrow count s (is_whole (widths nodes) s)
    runs-narrow count (Bits w ∷ q ∷ rs) = last-narrow (Cells Wire count (word_tree (widths nodes) (Bits w ∷ q ∷ rs))) tt
    runs-narrow count (Part s ∷ q ∷ rs) = last-narrow (Cells Wire count (word_tree (widths nodes) (Part s ∷ q ∷ rs))) tt

    pub word-found_narrow : (given : List WordBit) → All (HasNoWideSum most) (with_word nodes given).nodes
    word-found_narrow given = runs-narrow (length given) (runs given)
