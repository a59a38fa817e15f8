use Rattle.std.proofs.Common.{rules, eqb}
use Rattle.std.specs.Cmp.{nat_eq_equiv, unsigned_Decides}
use Rattle.std.specs.HashSet as bag
use Rattle.std.proofs.lemmas.Map.Made.{hash_set_len-Decides}
use Rattle.opgen_design.proofs.rules.all_differ.Goals as goal

pub returns : goal.returns
returns c = let h : bag.IsFromIterResult eqb c.args.numbers.now c.in_ok-met.met = search rules in rw c.len.ensures.len
    (hash_set_len-Decides unsigned_Decides nat_eq_equiv c.args.numbers.now c.in_ok-met.met h)
