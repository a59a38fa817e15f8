use Rattle.std.proofs.Common.{ap, sym, ◌∙◌, length, arith}
use Rattle.opgen_vhdl.specs.Tokens.{tokens_from, size_of}
use Rattle.opgen_vhdl.proofs.CutLemmas.{one_cut, nothing_starts_at_end, has_reading}
use Rattle.opgen_part_laws.proofs.texts.one_cut.Goals as goal

pub returns-clause-tokens : goal.returns-clause-tokens
returns-clause-tokens c = λ bytes a b s t.
    sym s.listed ∙ ap (tokens_from 0) (one_cut s.elements t.elements bytes _ _ s.cut t.cut nothing_starts_at_end nothing_starts_at_end).0
    ∙ t.listed

pub returns-clause-offset : goal.returns-clause-offset
returns-clause-offset c = λ bytes m n s t.
    sym s.place ∙ ap size_of (one_cut s.elements t.elements bytes s.rest t.rest s.cut t.cut s.nothing t.nothing).0 ∙ t.place

pub returns-clause-not_both : goal.returns-clause-not_both
returns-clause-not_both c = λ bytes a n s t.
    let none_left = (one_cut s.elements t.elements bytes _ t.rest s.cut t.cut nothing_starts_at_end t.nothing).1 in
    omega (arith, ap length none_left, t.more)

pub returns-clause-either : goal.returns-clause-either
returns-clause-either c = has_reading
