use Rattle.std.proofs.Common.{rules}
use Rattle.opgen_design.specs.declared.sound.Rule.TheVariants.{Undeclared, DeclaredTwice, Width}
use Rattle.opgen_design.proofs.RuleOrder.{none-below, one-more, first-fault, below-widths}
use Rattle.opgen_design.proofs.design.Design.sound.Goals as goal

pub returns-in_err-check_declared-clause-first : goal.returns-in_err-check_declared-clause-first
returns-in_err-check_declared-clause-first c =
    let d = c.args.self.now in
    let fault = first-fault d Undeclared (none-below d) c.in_err-check_declared.field-0.0 c.in_err-check_declared.ensures.fault in
    search (rules, fault)

pub returns-in_err-check_names-clause-first : goal.returns-in_err-check_names-clause-first
returns-in_err-check_names-clause-first c =
    let d = c.args.self.now in
    let before = one-more d Undeclared (none-below d) c.in_ok-check_declared.ensures.holds in
    let fault = first-fault d DeclaredTwice before c.in_err-check_names.field-0.0 c.in_err-check_names.ensures.fault in
    search (rules, fault)

pub returns-in_err-check_widths-clause-first : goal.returns-in_err-check_widths-clause-first
returns-in_err-check_widths-clause-first c =
    let d = c.args.self.now in
    let before = below-widths d c.in_ok-check_declared.ensures.holds c.in_ok-check_names.ensures.holds in
    let fault = first-fault d Width before c.in_err-check_widths.field-0.0 c.in_err-check_widths.ensures.fault in
    search (rules, fault)
