use Rattle.std.proofs.Common.{◌≡◌, ◌-◌, ◌<◌, ◌≤◌, ◌++◌, ℕ, Bool, List, [], ◌∷◌, length, take, drop, refl, sym, ap, ◌∙◌, subst, arith}
use Rattle.std.specs.Prelude.{IfOk, OnOk, Some, slice_get}
use Rattle.opgen_num.specs.declared.format.TheConstants.{MAX_WIDTH}
use Rattle.opgen_net.specs.declared.net.Net.{Net}
use Rattle.opgen_net.specs.declared.word_bits.WordBit.{WordBit}
use Rattle.opgen_net.specs.declared.word_bits.WordBit.TheVariants.{Zero}
use Rattle.opgen_net.specs.Valid.{IsValid}
use Rattle.opgen_pieces.specs.Law.{AreOperands}
use Rattle.opgen_pieces.specs.Recipe.{Pieces, followed, partner, with_piece, with_pieces}
use Rattle.opgen_pieces.proofs.Followed.{followed-none}
use Rattle.opgen_pieces.proofs.Carrying.{low, low-made, low-is, next, next-is, next-is_are, next-long, one-more, pieces-made, next-are}
use Rattle.opgen_pieces.proofs.pieces.+add_pieces.Goals as goal

-- the pieces that the code makes are those of the recipe
module _ (most : ℕ) (m : Bool) (first second : List WordBit) (net : Net) (least : 4 ≤ most) (few : most ≤ MAX_WIDTH) (valid : IsValid net)
    (are : AreOperands net first second) (many : most < length first) (first_low second_low low_bits first_next second_next : List WordBit)
    (low_net : Net) (carry : WordBit) (of_first : first_low ≡ Zero ∷ drop (length first - (most - 1)) first)
    (of_second : second_low ≡ Zero ∷ drop (length first - (most - 1)) second)
    (of_net : low_net ≡ (with_piece m first_low second_low net).net) (of_bits : low_bits ≡ (with_piece m first_low second_low net).bits)
    (of_carry : slice_get low_bits 0 ≡ Some carry)
    (of_first_next : first_next ≡ take (length first - (most - 1)) first ++ partner m ∷ [])
    (of_second_next : second_next ≡ take (length first - (most - 1)) second ++ carry ∷ []) where
  abbrev lowest : Pieces
  lowest = low most m first second net least few valid are many

  abbrev higher : Pieces
  higher = next most m first second net least few valid are many

  low-same : with_piece m first_low second_low net ≡ lowest
  low-same = low-is most m first second net least few valid are many first_low second_low of_first of_second

  net-same : low_net ≡ lowest.net
  net-same = of_net ∙ ap (λ (p : Pieces). p.net) low-same

  bits-same : low_bits ≡ lowest.bits
  bits-same = of_bits ∙ ap (λ (p : Pieces). p.bits) low-same

  carry-same : slice_get lowest.bits 0 ≡ Some carry
  carry-same = ap (λ (bits : List WordBit). slice_get bits 0) (sym bits-same) ∙ of_carry

  next-same : with_pieces (followed most (length first_next)) most m first_next second_next low_net ≡ higher
  next-same =
      next-is most m first second net least few valid are many carry first_next second_next low_net carry-same of_first_next of_second_next
      net-same

  operands-same : AreOperands low_net first_next second_next
  operands-same =
      next-is_are most m first second net least few valid are many carry first_next second_next low_net carry-same of_first_next
      of_second_next net-same

  shorter : length first_next ≡ length first - (most - 2)
  shorter = ap length of_first_next ∙ next-long most m first second net least few valid are many

  high-long : length higher.bits ≡ length first - (most - 2)
  high-long =
      let f = take (length first - (most - 1)) first ++ partner m ∷ [] in
      let s = take (length first - (most - 1)) second ++ take 1 lowest.bits in
      (pieces-made (followed most (length f)) most m f s lowest.net least few
      (low-made most m first second net least few valid are many).later.valid (next-are most m first second net least few valid are many) refl).width
      ∙ next-long most m first second net least few valid are many

  module _ (high_net : Net) (high_bits result : List WordBit)
      (of_high_net : high_net ≡ (with_pieces (followed most (length first_next)) most m first_next second_next low_net).net)
      (of_high_bits : high_bits ≡ (with_pieces (followed most (length first_next)) most m first_next second_next low_net).bits) where
    high-same : high_bits ≡ higher.bits
    high-same = of_high_bits ∙ ap (λ (p : Pieces). p.bits) next-same

    room : length first - (most - 1) ≤ length high_bits
    room = omega (arith, ap length high-same, high-long, least, many)

    made-net : high_net ≡ (with_pieces (followed most (length first)) most m first second net).net
    made-net =
        of_high_net ∙ ap (λ (p : Pieces). p.net) next-same
        ∙ sym (ap (λ (p : Pieces). p.net) (one-more most m first second net least few valid are many))

    made-bits : result ≡ take (length first - (most - 1)) high_bits ++ drop 1 low_bits
        → result ≡ (with_pieces (followed most (length first)) most m first second net).bits
    made-bits is =
        is
        ∙ ap (λ (bits : List WordBit). take (length first - (most - 1)) bits ++ drop 1 low_bits) high-same
        ∙ ap (λ (bits : List WordBit). take (length first - (most - 1)) higher.bits ++ drop 1 bits) bits-same
        ∙ sym (ap (λ (p : Pieces). p.bits) (one-more most m first second net least few valid are many))

pub returns-then-sum-most-clause-ok : goal.returns-then-sum-most-clause-ok
returns-then-sum-most-clause-ok t c =
    let sum = c.args.sum in
    let most = c.args.most in
    subst (λ (k : ℕ). OnOk c.add_piece.result (c.add_piece.new.net ≡ (with_pieces k most sum.is_minus sum.first.now sum.second.now c.args.net.now).net))
    (sym (followed-none most (length sum.first.now) c.requires.most.0 c.if-sum-most.true)) c.add_piece.ensures.ok

pub returns-then-sum-most-clause-bits : goal.returns-then-sum-most-clause-bits
returns-then-sum-most-clause-bits t c =
    let sum = c.args.sum in
    let most = c.args.most in
    subst (λ (k : ℕ). IfOk c.add_piece.result (λ bits. bits ≡ (with_pieces k most sum.is_minus sum.first.now sum.second.now c.args.net.now).bits))
    (sym (followed-none most (length sum.first.now) c.requires.most.0 c.if-sum-most.true)) c.add_piece.ensures.bits

pub add_pieces-requires : goal.add_pieces-requires
add_pieces-requires t c =
    let less =
    shorter c.args.most c.args.sum.is_minus c.args.sum.first.now c.args.sum.second.now c.args.net.now c.requires.most.0 c.requires.most.1
    c.requires.valid c.requires.operands c.if-sum-most.false c.as_slice.result.now c.as_slice-2.result.now c.in_ok-low.low
    c.as_slice-3.result.now c.as_slice-4.result.now c.add_piece-2.new.net c.get-carry.result.now (c.as_slice.ensures ∙ c.in_ok-first.ensures)
    (c.as_slice-2.ensures ∙ c.in_ok-second.ensures) c.in_ok-low.ensures.ok c.in_ok-low.ensures.bits c.get-carry.ensures
    (c.as_slice-3.ensures ∙ c.in_ok-first-2.ensures ∙ ap (λ (b : WordBit). take (length c.args.sum.first.now - (c.args.most - 1)) c.args.sum.first.now ++ b ∷ []) c.partner.ensures)
    (c.as_slice-4.ensures ∙ c.in_ok-second-2.ensures) in
    let next_are =
    operands-same c.args.most c.args.sum.is_minus c.args.sum.first.now c.args.sum.second.now c.args.net.now c.requires.most.0 c.requires.most.1
    c.requires.valid c.requires.operands c.if-sum-most.false c.as_slice.result.now c.as_slice-2.result.now c.in_ok-low.low
    c.as_slice-3.result.now c.as_slice-4.result.now c.add_piece-2.new.net c.get-carry.result.now (c.as_slice.ensures ∙ c.in_ok-first.ensures)
    (c.as_slice-2.ensures ∙ c.in_ok-second.ensures) c.in_ok-low.ensures.ok c.in_ok-low.ensures.bits c.get-carry.ensures
    (c.as_slice-3.ensures ∙ c.in_ok-first-2.ensures ∙ ap (λ (b : WordBit). take (length c.args.sum.first.now - (c.args.most - 1)) c.args.sum.first.now ++ b ∷ []) c.partner.ensures)
    (c.as_slice-4.ensures ∙ c.in_ok-second-2.ensures) in (
      omega (arith, less, c.requires.most.0, c.if-sum-most.false),
      (c.in_ok-low.ensures.valid, (c.requires.most, next_are)),
    )

pub joined-requires-clause-high : goal.joined-requires-clause-high
joined-requires-clause-high t c =
    let enough =
    room c.args.most c.args.sum.is_minus c.args.sum.first.now c.args.sum.second.now c.args.net.now c.requires.most.0 c.requires.most.1
    c.requires.valid c.requires.operands c.if-sum-most.false c.as_slice.result.now c.as_slice-2.result.now c.in_ok-low.low
    c.as_slice-3.result.now c.as_slice-4.result.now c.add_piece-2.new.net c.get-carry.result.now (c.as_slice.ensures ∙ c.in_ok-first.ensures)
    (c.as_slice-2.ensures ∙ c.in_ok-second.ensures) c.in_ok-low.ensures.ok c.in_ok-low.ensures.bits c.get-carry.ensures
    (c.as_slice-3.ensures ∙ c.in_ok-first-2.ensures ∙ ap (λ (b : WordBit). take (length c.args.sum.first.now - (c.args.most - 1)) c.args.sum.first.now ++ b ∷ []) c.partner.ensures)
    (c.as_slice-4.ensures ∙ c.in_ok-second-2.ensures)
    c.add_pieces.new.net c.in_ok-high.high [] c.in_ok-high.ensures.ok c.in_ok-high.ensures.bits in
    omega (arith, enough, ap length c.as_slice-5.ensures)

pub returns-clause-ok : goal.returns-clause-ok
returns-clause-ok t c =
    made-net c.args.most c.args.sum.is_minus c.args.sum.first.now c.args.sum.second.now c.args.net.now c.requires.most.0 c.requires.most.1
    c.requires.valid c.requires.operands c.if-sum-most.false c.as_slice.result.now c.as_slice-2.result.now c.in_ok-low.low
    c.as_slice-3.result.now c.as_slice-4.result.now c.add_piece-2.new.net c.get-carry.result.now (c.as_slice.ensures ∙ c.in_ok-first.ensures)
    (c.as_slice-2.ensures ∙ c.in_ok-second.ensures) c.in_ok-low.ensures.ok c.in_ok-low.ensures.bits c.get-carry.ensures
    (c.as_slice-3.ensures ∙ c.in_ok-first-2.ensures ∙ ap (λ (b : WordBit). take (length c.args.sum.first.now - (c.args.most - 1)) c.args.sum.first.now ++ b ∷ []) c.partner.ensures)
    (c.as_slice-4.ensures ∙ c.in_ok-second-2.ensures)
    c.add_pieces.new.net c.in_ok-high.high [] c.in_ok-high.ensures.ok c.in_ok-high.ensures.bits

pub returns-clause-bits : goal.returns-clause-bits
returns-clause-bits t c =
    made-bits c.args.most c.args.sum.is_minus c.args.sum.first.now c.args.sum.second.now c.args.net.now c.requires.most.0 c.requires.most.1
    c.requires.valid c.requires.operands c.if-sum-most.false c.as_slice.result.now c.as_slice-2.result.now c.in_ok-low.low
    c.as_slice-3.result.now c.as_slice-4.result.now c.add_piece-2.new.net c.get-carry.result.now (c.as_slice.ensures ∙ c.in_ok-first.ensures)
    (c.as_slice-2.ensures ∙ c.in_ok-second.ensures) c.in_ok-low.ensures.ok c.in_ok-low.ensures.bits c.get-carry.ensures
    (c.as_slice-3.ensures ∙ c.in_ok-first-2.ensures ∙ ap (λ (b : WordBit). take (length c.args.sum.first.now - (c.args.most - 1)) c.args.sum.first.now ++ b ∷ []) c.partner.ensures)
    (c.as_slice-4.ensures ∙ c.in_ok-second-2.ensures)
    c.add_pieces.new.net c.in_ok-high.high c.in_ok-joined.field-0 c.in_ok-high.ensures.ok c.in_ok-high.ensures.bits
    (c.in_ok-joined.ensures
    ∙ ap (λ (bits : List WordBit). take (length c.args.sum.first.now - (c.args.most - 1)) bits ++ drop 1 c.as_slice-6.result.now) c.as_slice-5.ensures
    ∙ ap (λ (bits : List WordBit). take (length c.args.sum.first.now - (c.args.most - 1)) c.in_ok-high.high ++ drop 1 bits) c.as_slice-6.ensures)
