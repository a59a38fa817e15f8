use Rattle.std.proofs.Common.{rules}
use Rattle.opgen_design.specs.Sound.{Holds}
use Rattle.opgen_design.specs.declared.sound.Rule.TheVariants.{DrivenTwice, NotDriven, Cyclic, ReadsOutput, NoInitial, ChoiceTwice, BadEnable}
use Rattle.opgen_design.proofs.RuleOrder.{one-more, first-fault, first-fault_of, below-driven, below-cycles, below-initials, below-enable}
use Rattle.opgen_design.proofs.design.Design.check_drivers.Goals as goal

pub returns-in_err-check_driven_once-clause-first : goal.returns-in_err-check_driven_once-clause-first
returns-in_err-check_driven_once-clause-first c =
    let d = c.args.self.now in
    let widths = below-driven d c.requires.declared c.requires.declared_once c.requires.widths in
    let fault = first-fault d DrivenTwice widths c.in_err-check_driven_once.field-0.0 c.in_err-check_driven_once.ensures.fault in
    search (rules, fault)

pub returns-in_err-check_driven-clause-first : goal.returns-in_err-check_driven-clause-first
returns-in_err-check_driven-clause-first c =
    let d = c.args.self.now in
    let widths = below-driven d c.requires.declared c.requires.declared_once c.requires.widths in
    let before = one-more d DrivenTwice widths c.in_ok-check_driven_once.ensures.holds in
    let fault = first-fault d NotDriven before c.in_err-check_driven.field-0.0 c.in_err-check_driven.ensures.fault in
    search (rules, fault)

pub returns-in_err-check_ordered-clause-first : goal.returns-in_err-check_ordered-clause-first
returns-in_err-check_ordered-clause-first c =
    let d = c.args.self.now in
    let widths = below-driven d c.requires.declared c.requires.declared_once c.requires.widths in
    let driven = below-cycles d widths c.in_ok-check_driven_once.ensures.holds c.in_ok-check_driven.ensures.holds in
    let fault = first-fault d Cyclic driven c.in_err-check_ordered.field-0.0 c.in_err-check_ordered.ensures.fault in
    search (rules, fault)

pub returns-in_err-check_inputs-clause-first : goal.returns-in_err-check_inputs-clause-first
returns-in_err-check_inputs-clause-first c =
    let d = c.args.self.now in
    let widths = below-driven d c.requires.declared c.requires.declared_once c.requires.widths in
    let driven = below-cycles d widths c.in_ok-check_driven_once.ensures.holds c.in_ok-check_driven.ensures.holds in
    let before = one-more d Cyclic driven c.in_ok-check_ordered.ensures.holds in
    let fault = first-fault d ReadsOutput before c.in_err-check_inputs.field-0.0 c.in_err-check_inputs.ensures.fault in
    search (rules, fault)

pub returns-in_err-check_initials-clause-first : goal.returns-in_err-check_initials-clause-first
returns-in_err-check_initials-clause-first c =
    let d = c.args.self.now in
    let widths = below-driven d c.requires.declared c.requires.declared_once c.requires.widths in
    let driven = below-cycles d widths c.in_ok-check_driven_once.ensures.holds c.in_ok-check_driven.ensures.holds in
    let reads : Holds d ReadsOutput = search rules in
    let before = below-initials d driven c.in_ok-check_ordered.ensures.holds reads in
    let fault = first-fault d NoInitial before c.in_err-check_initials.field-0.0 c.in_err-check_initials.ensures.fault in
    search (rules, fault)

pub returns-in_err-check_addresses-clause-first : goal.returns-in_err-check_addresses-clause-first
returns-in_err-check_addresses-clause-first c =
    let d = c.args.self.now in
    let widths = below-driven d c.requires.declared c.requires.declared_once c.requires.widths in
    let driven = below-cycles d widths c.in_ok-check_driven_once.ensures.holds c.in_ok-check_driven.ensures.holds in
    let inputs = below-initials d driven c.in_ok-check_ordered.ensures.holds c.in_ok-check_inputs.ensures.holds in
    let before = one-more d NoInitial inputs c.in_ok-check_initials.ensures.holds in
    let fault = first-fault d ChoiceTwice before c.in_err-check_addresses.field-0.0 c.in_err-check_addresses.ensures.fault in
    search (rules, fault)

pub returns-clause-first : goal.returns-clause-first
returns-clause-first c =
    let d = c.args.self.now in
    let widths = below-driven d c.requires.declared c.requires.declared_once c.requires.widths in
    let driven = below-cycles d widths c.in_ok-check_driven_once.ensures.holds c.in_ok-check_driven.ensures.holds in
    let inputs = below-initials d driven c.in_ok-check_ordered.ensures.holds c.in_ok-check_inputs.ensures.holds in
    let before = below-enable d inputs c.in_ok-check_initials.ensures.holds c.in_ok-check_addresses.ensures.holds in
    first-fault_of d BadEnable before c.check_enable.result c.check_enable.ensures.fault
