use Rattle.std.proofs.Common.{◌≡◌, List, ◌++◌, length, sym, ap, ◌∙◌, subst, rules}
use Rattle.opgen_net.specs.declared.net.Net.{Net}
use Rattle.opgen_net.specs.declared.node.Node.TheVariants.{Table}
use Rattle.opgen_net.specs.declared.word_bits.WordBit.{WordBit}
use Rattle.opgen_net.specs.Placed.{Placed, with_bits, with_last}
use Rattle.opgen_net.specs.Valid.{widths, FitsTable}
use Rattle.opgen_net.specs.WordRule.{bits_from}
use Rattle.opgen_constdiv.specs.Rows.{rest_width, digit_width, rows}
use Rattle.opgen_constdiv.specs.Recipe.{Divided}
use Rattle.opgen_constdiv.proofs.TableRows.{table-fits}
use Rattle.opgen_constdiv.proofs.digits.divide_digit.Goals as goal

pub table-requires-clause-fits : goal.table-requires-clause-fits
table-requires-clause-fits c =
    let bits : c.deref.result.now ≡ c.args.division.now.rest ++ c.args.digit.now = search rules in
    let ws = widths c.word.new.self.nodes in
    let wide = c.in_ok-address.ensures.width ∙ ap length bits ∙ c.requires.six in
    subst (FitsTable ws c.in_ok-address.address) (sym c.in_ok-rows.ensures) (table-fits ws c.in_ok-address.address c.args.divisor wide)

pub returns-clause-ok : goal.returns-clause-ok
returns-clause-ok c =
    let net = c.args.net.now in
    let old = c.args.division.now in
    let divisor = c.args.divisor in
    let given : List WordBit = old.rest ++ c.args.digit.now in
    let bits : c.deref.result.now ≡ given = search rules in
    let made = c.word.new.self in
    let place = c.in_ok-address.address in
    let a : Placed = with_bits net given in
    let is_net : made ≡ a.net = c.in_ok-address.ensures.ok ∙ ap (λ b. (with_bits net b).net) bits in
    let is_place : place ≡ a.place = c.in_ok-address.ensures.place ∙ ap (λ b. (with_bits net b).place) bits in
    let t = c.in_ok-division.field-0 in
    let table = length a.net.nodes in
    let is_table : t ≡ table = c.in_ok-division.ensures.place ∙ ap (λ (n : Net). length n.nodes) is_net in
    let nets : c.table.new.self ≡ with_last a.net (Table a.place (rows divisor)) =
    c.in_ok-division.ensures.ok
    ∙ ap (λ rs. with_last made (Table place rs)) c.in_ok-rows.ensures
    ∙ ap (λ (n : Net). with_last n (Table place (rows divisor))) is_net
    ∙ ap (λ p. with_last a.net (Table p (rows divisor))) is_place in
    let r = c.rest_width-rest.result in
    let quotient : c.push_bits.new.bits ≡ old.quotient ++ bits_from table (rest_width divisor) (digit_width divisor) =
    c.in_ok-push_bits.ensures
    ∙ ap (λ k. old.quotient ++ bits_from k r c.digit_width.result) is_table
    ∙ ap (λ k. old.quotient ++ bits_from table k c.digit_width.result) c.rest_width-rest.ensures.value
    ∙ ap (λ k. old.quotient ++ bits_from table (rest_width divisor) k) c.digit_width.ensures.value in
    let rest : c.push_bits-2.new.bits ≡ bits_from table 0 (rest_width divisor) =
    c.in_ok-push_bits-2.ensures
    ∙ ap (λ (l : List WordBit). l ++ bits_from t 0 r) c.new.ensures
    ∙ ap (λ k. bits_from k 0 r) is_table
    ∙ ap (λ k. bits_from table 0 k) c.rest_width-rest.ensures.value in
    let last = with_last a.net (Table a.place (rows divisor)) in
    let q : List WordBit = old.quotient ++ bits_from table (rest_width divisor) (digit_width divisor) in
    let now : Divided = record { net = c.table.new.self; quotient = c.push_bits.new.bits; rest = c.push_bits-2.new.bits; table = t } in
    let next : Divided = record { net = last; quotient = q; rest = bits_from table 0 (rest_width divisor); table = table } in
    let all : now ≡ next =
    ap (λ (n : Net). record { net = n; quotient = c.push_bits.new.bits; rest = c.push_bits-2.new.bits; table = t }) nets
    ∙ ap (λ (l : List WordBit). record { net = last; quotient = l; rest = c.push_bits-2.new.bits; table = t }) quotient
    ∙ ap (λ (l : List WordBit). record { net = last; quotient = q; rest = l; table = t }) rest
    ∙ ap (λ k. record { net = last; quotient = q; rest = bits_from table 0 (rest_width divisor); table = k }) is_table in
    sym all
