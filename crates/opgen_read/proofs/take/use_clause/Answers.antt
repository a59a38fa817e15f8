use Rattle.std.specs.Char.{to_ascii_lowercase}
use Rattle.std.proofs.Common.{map, codes, drop, sym, ◌∙◌}
use Rattle.opgen_vhdl.specs.declared.kind.TokenKind.TheVariants.{Dot}
use Rattle.opgen_vhdl.specs.Symbols.{mark, word}
use Rattle.opgen_vhdl.specs.Reader.{use_clause}
use Rattle.opgen_lex.specs.Left.{left}
use Rattle.opgen_lex.proofs.Phrases.{eaten, all_eaten, phrase_read}
use Rattle.opgen_read.proofs.take.use_clause.Goals as goal

pub returns : goal.returns
returns c =
    c.end.ensures ∙ sym (phrase_read (use_clause (map to_ascii_lowercase c.args.unit.now)) (left c.args.piece) _ _ c.new.ensures (
    eaten _ _ (word (codes "use")) (drop 1 (use_clause (map to_ascii_lowercase c.args.unit.now))) c.word.ensures ∙
    eaten _ _ (word (codes "ieee")) (drop 2 (use_clause (map to_ascii_lowercase c.args.unit.now))) c.word-2.ensures ∙
    eaten _ _ (mark Dot) (drop 3 (use_clause (map to_ascii_lowercase c.args.unit.now))) c.mark.ensures ∙
    eaten _ _ (word (map to_ascii_lowercase c.args.unit.now)) (drop 4 (use_clause (map to_ascii_lowercase c.args.unit.now))) c.word-3.ensures ∙
    eaten _ _ (mark Dot) (drop 5 (use_clause (map to_ascii_lowercase c.args.unit.now))) c.mark-2.ensures ∙
    eaten _ _ (word (codes "all")) (drop 6 (use_clause (map to_ascii_lowercase c.args.unit.now))) c.word-4.ensures ∙
    all_eaten _))
