use Rattle.std.proofs.Common.{◌≡◌, ◌≤◌, All, map, sym, ap, ◌∙◌, subst}
use Rattle.opgen_num.specs.declared.format.TheConstants.{MAX_WIDTH}
use Rattle.opgen_design.specs.Run.{initial_words}
use Rattle.opgen_design.specs.Sound.{IsSignalWide, signal_widths}
use Rattle.opgen_runs.specs.Registers.{SameRegisters}
use Rattle.opgen_runs.proofs.Starts.{start, starts-registers}
use Rattle.opgen_streams.specs.Streams.{words_in}
use Rattle.opgen_lanes.proofs.Beginning.{signals-wide, ports-narrow}
use Rattle.opgen_lanes.proofs.lanes.begin.Goals as goal

pub initial_words-requires-clause-wide : goal.initial_words-requires-clause-wide
initial_words-requires-clause-wide c = subst (λ ss. All IsSignalWide ss) (sym c.as_slice.ensures)
    (signals-wide c.args.design.now c.requires)

pub initial_words-requires-2-clause-wide : goal.initial_words-requires-2-clause-wide
initial_words-requires-2-clause-wide c = subst (λ ss. All IsSignalWide ss) (sym c.as_slice-2.ensures)
    (signals-wide c.args.design.now c.requires)

pub new-requires-clause-narrow : goal.new-requires-clause-narrow
new-requires-clause-narrow c = subst (λ ws. All (λ w. w ≤ MAX_WIDTH) ws)
    (sym (c.deref.ensures.value ∙ c.in_ok-widths.ensures ∙ ap (map (λ p. p.width)) c.as_slice-3.ensures))
    (ports-narrow c.args.design.now c.requires)

pub returns-clause-ready : goal.returns-clause-ready
returns-clause-ready c =
    let wide = c.in_ok-ports.ensures.widths ∙ c.deref.ensures.value ∙ c.in_ok-widths.ensures ∙ ap (map (λ p. p.width)) c.as_slice-3.ensures in
    record {
      sound = c.requires;
      order = c.in_ok-order.ensures.order;
      banks = record {
        signals = c.in_ok-signals.ensures.bank;
        ports = c.in_ok-ports.ensures.bank;
        signal_widths = c.in_ok-signals.ensures.widths ∙ ap (map (λ s. s.width)) c.as_slice.ensures;
        port_widths = wide;
      };
      next = record {
        signals = c.in_ok-next.ensures.bank;
        ports = c.in_ok-ports.ensures.bank;
        signal_widths = c.in_ok-next.ensures.widths ∙ ap (map (λ s. s.width)) c.as_slice-2.ensures;
        port_widths = wide;
      };
    }

pub returns-clause-registers : goal.returns-clause-registers
returns-clause-registers c = λ k h.
    let d = c.args.design.now in
    let bank = c.in_ok-signals.signals in
    let e : words_in (signal_widths d) bank.vectors.items k ≡ map start d.signals =
    ap (λ ws. words_in ws bank.vectors.items k) (sym (c.in_ok-signals.ensures.widths ∙ ap (map (λ s. s.width)) c.as_slice.ensures))
    ∙ c.in_ok-signals.ensures.words k h
    ∙ ap (map start) c.as_slice.ensures in
    subst (λ ws. SameRegisters d ws (initial_words d.signals)) (sym e) (starts-registers d c.requires)
