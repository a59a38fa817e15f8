use Rattle.std.proofs.Common.{◌≡◌, ◌-◌, length, take, drop, sym, ◌∙◌, ap, subst, length-drop}
use Rattle.std.proofs.Math.Seq.{take-length}
use Rattle.opgen_vhdl.specs.Fronts.{front_of, FrontStands}
use Rattle.opgen_vhdl.proofs.FrontLemmas.{front_stands}
use Rattle.opgen_lex.proofs.front.front_at.Goals as goal

pub returns : goal.returns
returns c =
    let bytes = c.args.bytes.now in
    let rest = drop c.args.at bytes in
    let all : take (length bytes - c.args.at) rest ≡ rest = rw (sym (length-drop c.args.at bytes)) (take-length rest) in
    subst (FrontStands rest) (sym (c.front_of.ensures ∙ ap front_of all)) (front_stands rest)
