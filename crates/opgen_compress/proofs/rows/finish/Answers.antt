use Rattle.std.proofs.Common.{◌≡◌, ◌<◌, List, [], ◌∷◌, ◌++◌, length, refl, sym, ap, ◌∙◌, subst, arith, rules}
use Rattle.std.specs.Prelude.{All, IsTrue, slice_index}
use Rattle.opgen_net.specs.declared.net.Net.{Net}
use Rattle.opgen_net.specs.declared.node.Node.TheVariants.{Cells}
use Rattle.opgen_net.specs.declared.cell.Class.TheVariants.{Add}
use Rattle.opgen_net.specs.declared.word_bits.WordBit.{WordBit}
use Rattle.opgen_design.specs.Plain.{plain}
use Rattle.opgen_net.specs.Cells.{is_sum}
use Rattle.opgen_net.specs.Valid.{widths, FitsNodes}
use Rattle.opgen_net.specs.WordRule.{IsThere, HasBits, with_word}
use Rattle.opgen_net.specs.Grown.{HasGrown}
use Rattle.opgen_net.proofs.Appending.{width-append_last}
use Rattle.opgen_net.proofs.Grown.{grown-more, grown-then, grown-width}
use Rattle.opgen_compress.specs.Recipe.{row, fullest}
use Rattle.opgen_net.proofs.Later.{Later}
use Rattle.opgen_heap.proofs.Standing.{columns-still_there}
use Rattle.opgen_compress.proofs.Finished.{row-there, row-length, word-later, node-there, sum-fits, single-sum, rows-sum}
use Rattle.opgen_compress.proofs.rows.finish.Goals as goal

pub word-requires-clause-there : goal.word-requires-clause-there
word-requires-clause-there c =
    let bits : c.deref.result.now ≡ row 0 c.args.columns.now = search rules in
    subst (All (IsThere (widths c.args.net.now.nodes))) (sym bits) (row-there c.args.net.now 0 c.args.columns.now c.requires.there)

pub returns-then-fullest-lt2-clause-sum : goal.returns-then-fullest-lt2-clause-sum
returns-then-fullest-lt2-clause-sum c =
    let net = c.args.net.now in
    let one = c.word.new.self in
    let columns = c.args.columns.now in
    let bits : c.deref.result.now ≡ row 0 columns = search rules in
    let first = subst (λ (bs : List WordBit). HasBits net bs one.nodes c.in_ok-a.a) bits c.in_ok-a.ensures.bits in
    let few : fullest columns < 2 = omega (arith, c.fullest.ensures.value, c.if-fullest-lt2.true) in
    single-sum net columns c.args.width c.requires.columns one c.in_ok-a.a few first

pub word-requires-2-clause-there : goal.word-requires-2-clause-there
word-requires-2-clause-there c =
    let net = c.args.net.now in
    let one = c.word.new.self in
    let columns = c.args.columns.now in
    let bits : c.deref.result.now ≡ row 0 columns = search rules in
    let bits_2 : c.deref-2.result.now ≡ row 1 columns = search rules in
    let grown = c.in_ok-a.ensures.ok ∙ ap (λ (b : List WordBit). record net { nodes = (with_word net.nodes b).nodes }) bits in
    let later : Later net one = word-later net one (row 0 columns) grown c.word.ensures.valid in
    subst (All (IsThere (widths one.nodes))) (sym bits_2)
    (row-there one 1 columns (columns-still_there net one later.grown columns c.requires.there))

pub cells-requires-clause-fits : goal.cells-requires-clause-fits
cells-requires-clause-fits c =
    let one = c.word.new.self in
    let two_words = c.word-2.new.self in
    let columns = c.args.columns.now in
    let width = c.args.width in
    let bits : c.deref.result.now ≡ row 0 columns = search rules in
    let bits_2 : c.deref-2.result.now ≡ row 1 columns = search rules in
    let grown = c.in_ok-b.ensures.ok ∙ ap (λ (b : List WordBit). record one { nodes = (with_word one.nodes b).nodes }) bits_2 in
    let later : Later one two_words = word-later one two_words (row 1 columns) grown c.word-2.ensures.valid in
    let wide : slice_index (widths one.nodes) c.in_ok-a.a ≡ width = c.in_ok-a.ensures.width ∙ ap length bits ∙ row-length 0 columns
    ∙ c.requires.columns in
    let wide_a : slice_index (widths two_words.nodes) c.in_ok-a.a
    ≡ width = grown-width one two_words later.grown c.in_ok-a.a (node-there one c.in_ok-a.a width c.requires.width wide) ∙ wide in
    let wide_b : slice_index (widths two_words.nodes) c.in_ok-b.b ≡ width = c.in_ok-b.ensures.width ∙ ap length bits_2
    ∙ row-length 1 columns ∙ c.requires.columns in
    subst (FitsNodes (widths two_words.nodes) width) (sym c.in_ok-sum_of.ensures)
    (sum-fits two_words c.in_ok-a.a c.in_ok-b.b width c.requires.width wide_a wide_b)

pub returns-clause-sum : goal.returns-clause-sum
returns-clause-sum c =
    let net = c.args.net.now in
    let one = c.word.new.self in
    let two_words = c.word-2.new.self in
    let columns = c.args.columns.now in
    let width = c.args.width in
    let bits : c.deref.result.now ≡ row 0 columns = search rules in
    let bits_2 : c.deref-2.result.now ≡ row 1 columns = search rules in
    let grown = c.in_ok-a.ensures.ok ∙ ap (λ (b : List WordBit). record net { nodes = (with_word net.nodes b).nodes }) bits in
    let later : Later net one = word-later net one (row 0 columns) grown c.word.ensures.valid in
    let grown_2 = c.in_ok-b.ensures.ok ∙ ap (λ (b : List WordBit). record one { nodes = (with_word one.nodes b).nodes }) bits_2 in
    let after : Later one two_words = word-later one two_words (row 1 columns) grown_2 c.word-2.ensures.valid in
    let first = subst (λ (bs : List WordBit). HasBits net bs one.nodes c.in_ok-a.a) bits c.in_ok-a.ensures.bits in
    let second = subst (λ (bs : List WordBit). HasBits one bs two_words.nodes c.in_ok-b.b) bits_2 c.in_ok-b.ensures.bits in
    let wide : slice_index (widths one.nodes) c.in_ok-a.a ≡ width = c.in_ok-a.ensures.width ∙ ap length bits ∙ row-length 0 columns
    ∙ c.requires.columns in
    let sum = c.in_ok-sum.ensures.ok ∙ ap (λ e. record two_words { nodes = two_words.nodes ++ Cells Add width e ∷ [] })
    c.in_ok-sum_of.ensures in
    rows-sum net columns width c.requires.columns one two_words c.cells.new.self c.in_ok-a.a c.in_ok-b.b c.in_ok-sum.sum later after
    c.requires.width c.requires.two c.requires.there
    first second wide sum c.in_ok-sum.ensures.place

pub returns-clause-width : goal.returns-clause-width
returns-clause-width c =
    let ns = c.word-2.new.self.nodes in
    ap (λ (n : Net). slice_index (widths n.nodes) c.in_ok-sum.sum) c.in_ok-sum.ensures.ok
    ∙ ap (λ k. slice_index (widths (ns ++ Cells Add c.args.width (plain c.in_ok-sum_of.field-0) ∷ [])) k) c.in_ok-sum.ensures.place
    ∙ width-append_last ns (Cells Add c.args.width (plain c.in_ok-sum_of.field-0))

pub returns-then-fullest-lt2-clause-grown : goal.returns-then-fullest-lt2-clause-grown
returns-then-fullest-lt2-clause-grown c =
    let net = c.args.net.now in
    let bits : c.deref.result.now ≡ row 0 c.args.columns.now = search rules in
    let grown = c.in_ok-a.ensures.ok ∙ ap (λ (b : List WordBit). record net { nodes = (with_word net.nodes b).nodes }) bits in
    (word-later net c.word.new.self (row 0 c.args.columns.now) grown c.word.ensures.valid).grown

pub returns-clause-grown : goal.returns-clause-grown
returns-clause-grown c =
    let net = c.args.net.now in
    let one = c.word.new.self in
    let two_words = c.word-2.new.self in
    let columns = c.args.columns.now in
    let bits : c.deref.result.now ≡ row 0 columns = search rules in
    let bits_2 : c.deref-2.result.now ≡ row 1 columns = search rules in
    let grown = c.in_ok-a.ensures.ok ∙ ap (λ (b : List WordBit). record net { nodes = (with_word net.nodes b).nodes }) bits in
    let later : Later net one = word-later net one (row 0 columns) grown c.word.ensures.valid in
    let grown_2 = c.in_ok-b.ensures.ok ∙ ap (λ (b : List WordBit). record one { nodes = (with_word one.nodes b).nodes }) bits_2 in
    let after : Later one two_words = word-later one two_words (row 1 columns) grown_2 c.word-2.ensures.valid in
    let last = grown-more two_words (Cells Add c.args.width (plain c.in_ok-sum_of.field-0) ∷ []) refl in
    grown-then net two_words c.cells.new.self (grown-then net one two_words later.grown after.grown)
    (subst (HasGrown two_words) (sym c.in_ok-sum.ensures.ok) last)

pub cells-requires-clause-class : goal.cells-requires-clause-class
cells-requires-clause-class c = subst (λ e. IsTrue (is_sum e)) (sym c.in_ok-sum_of.ensures) refl
