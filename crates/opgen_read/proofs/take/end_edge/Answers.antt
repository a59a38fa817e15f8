use Rattle.std.proofs.Common.{[], ◌∷◌, codes, sym, ◌∙◌}
use Rattle.opgen_vhdl.specs.Symbols.{word}
use Rattle.opgen_lex.specs.Left.{left}
use Rattle.opgen_lex.proofs.Phrases.{eaten, all_eaten, phrase_read}
use Rattle.opgen_read.proofs.take.end_edge.Goals as goal

pub returns : goal.returns
returns c =
    c.end.ensures ∙ sym (phrase_read (word (codes "end") ∷ word (codes "if") ∷ []) (left c.args.piece) _ _ c.new.ensures (
    eaten _ _ (word (codes "end")) (word (codes "if") ∷ []) c.word.ensures ∙
    eaten _ _ (word (codes "if")) [] c.word-2.ensures ∙
    all_eaten _))
