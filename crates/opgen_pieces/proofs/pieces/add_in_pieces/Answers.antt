use Rattle.std.proofs.Common.{arith}
use Rattle.opgen_pieces.proofs.Passing.{summed-most}
use Rattle.opgen_pieces.proofs.Whole.{sum-made}
use Rattle.opgen_pieces.proofs.pieces.add_in_pieces.Goals as goal

pub add_places-requires-clause-left : goal.add_places-requires-clause-left
add_places-requires-clause-left c =
    omega (arith, c.summed-left.ensures, summed-most c.args.sum.is_minus c.args.sum.first.now c.args.sum.second.now)

pub returns-clause-grown : goal.returns-clause-grown
returns-clause-grown c =
    (sum-made c.args.most c.args.sum.is_minus c.args.sum.first.now c.args.sum.second.now c.args.net.now c.requires.most.0 c.requires.most.1
    c.requires.valid (record { width = c.requires.width; alike = c.requires.alike; first_there = c.requires.first_there; second_there = c.requires.second_there })
    c.summed-left.result c.add_places.new.net c.in_ok-bits.bits c.push_passed.new.bits c.summed-left.ensures c.in_ok-bits.ensures.ok c.in_ok-bits.ensures.bits
    c.in_ok-push_passed.ensures).later.grown

pub returns-clause-there : goal.returns-clause-there
returns-clause-there c =
    (sum-made c.args.most c.args.sum.is_minus c.args.sum.first.now c.args.sum.second.now c.args.net.now c.requires.most.0 c.requires.most.1
    c.requires.valid (record { width = c.requires.width; alike = c.requires.alike; first_there = c.requires.first_there; second_there = c.requires.second_there })
    c.summed-left.result c.add_places.new.net c.in_ok-bits.bits c.push_passed.new.bits c.summed-left.ensures c.in_ok-bits.ensures.ok c.in_ok-bits.ensures.bits
    c.in_ok-push_passed.ensures).there

pub returns-clause-width : goal.returns-clause-width
returns-clause-width c =
    (sum-made c.args.most c.args.sum.is_minus c.args.sum.first.now c.args.sum.second.now c.args.net.now c.requires.most.0 c.requires.most.1
    c.requires.valid (record { width = c.requires.width; alike = c.requires.alike; first_there = c.requires.first_there; second_there = c.requires.second_there })
    c.summed-left.result c.add_places.new.net c.in_ok-bits.bits c.push_passed.new.bits c.summed-left.ensures c.in_ok-bits.ensures.ok c.in_ok-bits.ensures.bits
    c.in_ok-push_passed.ensures).width

pub returns-clause-sum : goal.returns-clause-sum
returns-clause-sum c =
    (sum-made c.args.most c.args.sum.is_minus c.args.sum.first.now c.args.sum.second.now c.args.net.now c.requires.most.0 c.requires.most.1
    c.requires.valid (record { width = c.requires.width; alike = c.requires.alike; first_there = c.requires.first_there; second_there = c.requires.second_there })
    c.summed-left.result c.add_places.new.net c.in_ok-bits.bits c.push_passed.new.bits c.summed-left.ensures c.in_ok-bits.ensures.ok c.in_ok-bits.ensures.bits
    c.in_ok-push_passed.ensures).sum

pub returns-clause-narrow : goal.returns-clause-narrow
returns-clause-narrow c =
    (sum-made c.args.most c.args.sum.is_minus c.args.sum.first.now c.args.sum.second.now c.args.net.now c.requires.most.0 c.requires.most.1
    c.requires.valid (record { width = c.requires.width; alike = c.requires.alike; first_there = c.requires.first_there; second_there = c.requires.second_there })
    c.summed-left.result c.add_places.new.net c.in_ok-bits.bits c.push_passed.new.bits c.summed-left.ensures c.in_ok-bits.ensures.ok c.in_ok-bits.ensures.bits
    c.in_ok-push_passed.ensures).narrow

pub returns-clause-delays : goal.returns-clause-delays
returns-clause-delays c =
    (sum-made c.args.most c.args.sum.is_minus c.args.sum.first.now c.args.sum.second.now c.args.net.now c.requires.most.0 c.requires.most.1
    c.requires.valid (record { width = c.requires.width; alike = c.requires.alike; first_there = c.requires.first_there; second_there = c.requires.second_there })
    c.summed-left.result c.add_places.new.net c.in_ok-bits.bits c.push_passed.new.bits c.summed-left.ensures c.in_ok-bits.ensures.ok c.in_ok-bits.ensures.bits
    c.in_ok-push_passed.ensures).passes
