use Rattle.std.proofs.Common.{length, map, sym, ap, ◌∙◌, subst}
use Rattle.opgen_design.specs.Run.{initial_words}
use Rattle.opgen_num.specs.Words.{word}
use Rattle.opgen_runs.specs.Evaluate.{HaveWidths}
use Rattle.opgen_runs.specs.Registers.{SameRegisters}
use Rattle.opgen_sim.specs.Tables.{AreTables}
use Rattle.opgen_runs.proofs.Starts.{start, starts-widths, starts-registers, zeros-widths}
use Rattle.opgen_sim.proofs.walker.Walker.new.Goals as goal

pub returns-clause-walker : goal.returns-clause-walker
returns-clause-walker c =
    let d = c.args.design.now in
    let w = c.in_ok-words.ensures ∙ ap (map start) c.as_slice-2.ensures in
    let n = c.in_ok-next.ensures ∙ ap (map start) c.as_slice-3.ensures in
    let p = c.in_ok-ports.ensures ∙ ap (map (λ p. word p.width 0)) c.as_slice-4.ensures in
    let tables = subst (λ ks. AreTables ks c.in_ok-tables.tables.items) c.as_slice.ensures c.in_ok-tables.ensures in
    let widths : HaveWidths d (record { signals = c.in_ok-words.words.items; ports = c.in_ok-ports.ports.items }) = record
    { signals = ap (map length) w ∙ starts-widths d c.requires.sound; ports = ap (map length) p ∙ zeros-widths d.ports } in
    record {
      sound = c.requires.sound;
      order = c.requires.order;
      tables = tables;
      widths = widths;
      room = ap (map length) n ∙ starts-widths d c.requires.sound;
    }

pub returns-clause-registers : goal.returns-clause-registers
returns-clause-registers c =
    let d = c.args.design.now in
    let w = c.in_ok-words.ensures ∙ ap (map start) c.as_slice-2.ensures in
    subst (λ ws. SameRegisters d ws (initial_words d.signals)) (sym w) (starts-registers d c.requires.sound)
