-- A node that may stand reads only nodes before it.
use Rattle.std.proofs.Common.{◌≡◌, ℕ, ◌<◌, List, [], ◌∷◌, length, Some, subst, arith}
use Rattle.std.specs.Prelude.{slice_get, All}
use Rattle.std.proofs.lemmas.List.Elements.{All-nil, All-cons}
use Rattle.opgen_net.specs.declared.node.Node.{Node}
use Rattle.opgen_net.specs.declared.node.Node.TheVariants.{Input, Constant, Cells, Choice, Table, Delay}
use Rattle.opgen_net.specs.Valid.{MayStand, AllMayStand}
use Rattle.opgen_design.proofs.WidthLaws.{width-reads}
use Rattle.opgen_design.proofs.UseLaws.{reads-lists}
use Rattle.opgen_net.proofs.FlowLaws.{index_within, lies_within, stands_at}
use Rattle.opgen_schedule.specs.Reads.{reads_of}

pub stand-reads : (ws : List ℕ) (n : Node) → MayStand ws n → All (λ j. j < length ws) (reads_of n)
stand-reads ws (Input port w) h = All-nil (λ j. j < length ws)
stand-reads ws (Constant w) h = All-nil (λ j. j < length ws)
stand-reads ws (Cells class w e) h = (reads-lists (λ j. j < length ws) (λ p. p < 0) e (width-reads ws [] e w h.1.has_width)).0
stand-reads ws (Choice on one other) h =
    let P : ℕ → Type 0 = λ j. j < length ws in
    All-cons P on (one.node ∷ other.node ∷ []) (index_within ws on 0 (omega (arith, h.one_bit)))
    (All-cons P one.node (other.node ∷ []) (lies_within ws one h.one_lies)
    (All-cons P other.node [] (lies_within ws other h.other_lies) (All-nil P)))
stand-reads ws (Table address rows) h =
    let P : ℕ → Type 0 = λ j. j < length ws in
    All-cons P address [] (index_within ws address 0 (omega (arith, h.address_width.0))) (All-nil P)
stand-reads ws (Delay of) h = let P : ℕ → Type 0 = λ j. j < length ws in All-cons P of [] h (All-nil P)

pub reads-before : (nodes : List Node) → AllMayStand [] nodes → (i : ℕ) (n : Node) → slice_get nodes i ≡ Some n
    → All (λ j. j < i) (reads_of n)
reads-before nodes a i n h =
    let s = stands_at nodes a i n h in
    subst (λ k. All (λ j. j < k) (reads_of n)) s.place (stand-reads s.earlier n s.stands)
