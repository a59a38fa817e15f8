use Rattle.std.proofs.Common.{◌≡◌, ◌+◌, Bool, List, [], length, sym, ap, ◌∙◌, subst}
use Rattle.opgen_num.specs.WordLaws.{length-word}
use Rattle.opgen_num.specs.Words.{word}
use Rattle.opgen_design.specs.Value.{IsWidth}
use Rattle.opgen_net.specs.declared.net.Net.{Net}
use Rattle.opgen_net.specs.declared.node.Node.TheVariants.{Constant}
use Rattle.opgen_net.specs.Placed.{with_last}
use Rattle.opgen_nonrestoring.proofs.Made.{same-division}
use Rattle.opgen_nonrestoring.proofs.start.Goals as goal

pub constant-requires-clause-width : goal.constant-requires-clause-width
constant-requires-clause-width c =
    subst IsWidth (sym (ap length c.new.ensures ∙ length-word (c.args.width + 1) 0)) c.requires.width

pub returns-clause-ok : goal.returns-clause-ok
returns-clause-ok c =
    let net = c.args.net.now in
    let width = c.args.width in
    let zeros = with_last net (Constant (word (width + 1) 0)) in
    let zero_bit = with_last zeros (Constant (word 1 0)) in
    let first = with_last zero_bit (Constant (word 1 1)) in
    let one : c.constant.new.self ≡ zeros =
    c.in_ok-sum.ensures.ok ∙ ap (λ (w : List Bool). with_last net (Constant w)) c.new.ensures in
    let two : c.constant-2.new.self ≡ zero_bit =
    c.in_ok-before.ensures.ok
    ∙ ap (λ (w : List Bool). with_last c.constant.new.self (Constant w)) c.new-2.ensures
    ∙ ap (λ (n : Net). with_last n (Constant (word 1 0))) one in
    let three : c.constant-3.new.self ≡ first =
    c.in_ok-last.ensures.ok
    ∙ ap (λ (w : List Bool). with_last c.constant-2.new.self (Constant w)) c.new-3.ensures
    ∙ ap (λ (n : Net). with_last n (Constant (word 1 1))) two in
    same-division c.constant-3.new.self first c.new-4.result [] c.in_ok-before.before (length zeros.nodes) c.in_ok-last.last (length zero_bit.nodes)
    c.in_ok-sum.sum (length net.nodes) three c.new-4.ensures (c.in_ok-before.ensures.place ∙ ap (λ (n : Net). length n.nodes) one)
    (c.in_ok-last.ensures.place ∙ ap (λ (n : Net). length n.nodes) two) c.in_ok-sum.ensures.place
