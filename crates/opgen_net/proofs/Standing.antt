-- What may stand after some nodes stands as well beside those after it; so each node of a net stands over the widths of the whole net.
use Rattle.std.proofs.Common.{◌≡◌, length-append, ◌^◌, ℕ, zero, suc, ◌<◌, List, [], ◌∷◌, ◌++◌, Some, refl, sym, ap, ◌∙◌, subst, arith, ◌≤◌}
use Rattle.std.specs.Prelude.{slice_get, slice_index, slice_index_or, All}
use Rattle.std.proofs.lemmas.Option.{slice_get-get_or}
use Rattle.std.proofs.lemmas.List.{get_or_append_left, get_or_at}
use Rattle.opgen_design.specs.declared.expr.Slice.{Slice}
use Rattle.opgen_net.specs.declared.node.Node.{Node}
use Rattle.opgen_net.specs.declared.node.Node.TheVariants.{Input, Constant, Cells, Choice, Table, Delay}
use Rattle.opgen_net.specs.Valid.{node_width, widths, LiesWithin, MayStand, AllMayStand, slice_width}
use Rattle.opgen_design.proofs.WidthLaws.{width-kept}
use Rattle.opgen_net.proofs.CellLaws.{class-kept}
use Rattle.opgen_net.proofs.FlowLaws.{index_within, stands_at}
use Rattle.opgen_net.specs.Placed.{whole}

get-kept : (ws more : List ℕ) (i w : ℕ) → slice_get ws i ≡ Some w → slice_get (ws ++ more) i ≡ Some w
get-kept [] more i w h = absurd (cc)
get-kept (v ∷ ws) more zero w h = h
get-kept (v ∷ ws) more (suc i) w h = get-kept ws more i w h

module _ (ws more : List ℕ) where
  index-kept : (i k : ℕ) → k < slice_index ws i → slice_index (ws ++ more) i ≡ slice_index ws i
  index-kept i k h = get_or_append_left ws more 0 i (index_within ws i k h)

  pub lies-kept : (s : Slice) → LiesWithin ws s → LiesWithin (ws ++ more) s
  lies-kept s h = (h.0, omega (arith, h.1, index-kept s.node s.high h.1))

  stand-kept : (n : Node) → MayStand ws n → MayStand (ws ++ more) n
  stand-kept (Input place w) h = h
  stand-kept (Constant w) h = h
  stand-kept (Cells class w e) h =
      (class-kept ws more (get-kept ws more) class e w h.1.has_width h.0, record { has_width = width-kept ws [] (ws ++ more) [] (get-kept ws more) (λ i v r. r) e w h.1.has_width; nests = h.1.nests })
  stand-kept (Choice on one other) h = record {
    one_bit = index-kept on 0 (omega (arith, h.one_bit)) ∙ h.one_bit;
    one_lies = lies-kept one h.one_lies;
    other_lies = lies-kept other h.other_lies;
    same_width = h.same_width;
  }
  stand-kept (Table address rows) h =
      let e : slice_index (ws ++ more) address ≡ slice_index ws address = index-kept address 0 (omega (arith, h.address_width.0)) in
      record {
        address_width = (omega (arith, e, h.address_width.0), omega (arith, e, h.address_width.1));
        row_for_each = h.row_for_each ∙ ap (λ a. 2 ^ a) (sym e);
        row_width = h.row_width;
        same_width = h.same_width;
      }
  stand-kept (Delay of) h = omega (arith, h, length-append ws more)

  node_width-kept : (n : Node) → MayStand ws n → node_width (ws ++ more) n ≡ node_width ws n
  node_width-kept (Input place w) h = refl
  node_width-kept (Constant w) h = refl
  node_width-kept (Cells class w e) h = refl
  node_width-kept (Choice on one other) h = refl
  node_width-kept (Table address rows) h = refl
  node_width-kept (Delay of) h = get_or_append_left ws more 0 of h

pub may_stand : (nodes : List Node) → AllMayStand [] nodes → (i : ℕ) (n : Node) → slice_get nodes i ≡ Some n → MayStand (widths nodes) n
may_stand nodes a i n h =
    let s = stands_at nodes a i n h in
    subst (λ ws. MayStand ws n) (sym s.all) (stand-kept s.earlier (node_width s.earlier n ∷ s.later) n s.stands)

pub width_at : (nodes : List Node) → AllMayStand [] nodes → (i : ℕ) (n : Node) → slice_get nodes i ≡ Some n
    → slice_index (widths nodes) i ≡ node_width (widths nodes) n
width_at nodes a i n h =
    let s = stands_at nodes a i n h in
    let more = node_width s.earlier n ∷ s.later in
    ap (λ ws. slice_index ws i) s.all
    ∙ get_or_at s.earlier (node_width s.earlier n) s.later 0 i s.place
    ∙ sym (node_width-kept s.earlier more n s.stands)
    ∙ ap (λ ws. node_width ws n) (sym s.all)

pub all_stand : (nodes : List Node) → AllMayStand [] nodes → All (MayStand (widths nodes)) nodes
all_stand nodes a k d l = may_stand nodes a k (slice_index_or nodes k d) (slice_get-get_or nodes k d l)

-- the width of a slice that is a whole word
pub whole-width : (width place : ℕ) → 1 ≤ width → slice_width (whole width place) ≡ width
whole-width width place some = omega (arith, some)
