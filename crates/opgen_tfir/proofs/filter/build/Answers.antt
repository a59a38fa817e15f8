use Rattle.std.proofs.Common.{◌≡◌, ℕ, ◌+◌, ◌-◌, Bool, List, [], ◌∷◌, ◌++◌, codes, false, refl, sym, ap, ◌∙◌, subst, rules, arith}
use Rattle.std.specs.Prelude.{ℤ, slice_index, if◌then◌else◌}
use Rattle.opgen_num.specs.declared.format.Format.{Format}
use Rattle.opgen_net.specs.declared.net.Net.{Net}
use Rattle.opgen_net.specs.Placed.{Placed}
use Rattle.opgen_net.specs.Valid.{widths}
use Rattle.opgen_operator.specs.declared.operator.Operator.TheVariants.{Tfir}
use Rattle.opgen_operator.specs.Fits.{FitsInEachMode}
use Rattle.opgen_kinds.specs.declared.taps.Taps.{Taps}
use Rattle.opgen_kinds.specs.Taps.{taps_format}
use Rattle.opgen_graph.specs.declared.ranks.Graph.{Graph}
use Rattle.opgen_tfir.specs.declared.products.Products.{Products}
use Rattle.opgen_tfir.specs.Recipe.{all_zero as all_zero_of, low_bits as low_of, own_format, sum_width, widened, with_taps, with_multiples, products_of, whole_sum, with_result, zero_sum, net_of_taps}
use Rattle.opgen_tfir.specs.Steps.{HasProducts, AreTaps}
use Rattle.opgen_tfir.specs.Sums.{HasSums}
use Rattle.opgen_tfir.proofs.Filters.{products, are_taps, output-lies, net-sums, fits_modes}
use Rattle.opgen_tfir.proofs.filter.build.Goals as goal

-- where all taps are 0
pub returns-then-all_zero-clause-sums : goal.returns-then-all_zero-clause-sums
returns-then-all_zero-clause-sums c =
    let f = c.args.taps.now in
    let graph = c.args.graph.now in
    let net : c.output.new.self ≡ net_of_taps f graph = search rules in
    subst (HasSums f graph) (sym net) (net-sums f c.requires.taps graph c.requires.graph)

pub returns-then-all_zero-clause-fits : goal.returns-then-all_zero-clause-fits
returns-then-all_zero-clause-fits c =
    let f = c.args.taps.now in
    let graph = c.args.graph.now in
    let net : c.output.new.self ≡ net_of_taps f graph = search rules in
    subst (FitsInEachMode (Tfir f)) (sym net) (fits_modes f c.requires.taps graph c.requires.graph)

-- where one is not
pub place_sum-requires-clause-products : goal.place_sum-requires-clause-products
place_sum-requires-clause-products c =
    let f = c.args.taps.now in
    let graph = c.args.graph.now in
    subst (λ (n : Net). HasProducts n c.in_ok-products.products) (sym c.in_ok-products.ensures.net)
    (subst (HasProducts (with_multiples f graph).net) (sym c.in_ok-products.ensures.products) (products f c.requires.taps graph c.requires.graph))

pub place_sum-requires-clause-taps : goal.place_sum-requires-clause-taps
place_sum-requires-clause-taps c =
    let f = c.args.taps.now in
    let graph = c.args.graph.now in
    let list : c.as_slice-2.result.now ≡ f.taps = search rules in
    subst (AreTaps c.in_ok-products.products) (sym list)
    (subst (λ (p : Products). AreTaps p f.taps) (sym c.in_ok-products.ensures.products) (are_taps f c.requires.taps graph c.requires.graph))

-- the sum of the net that stands is that of the recipe
sum_is : (p q : Products) (net other : Net) (taps list : List ℤ) → p ≡ q → net ≡ other → taps ≡ list
    → widened (own_format p taps).signed (sum_width p taps) p.width (with_taps p net taps)
    ≡ widened (own_format q list).signed (sum_width q list) q.width (with_taps q other list)
sum_is p q net other taps list a b e = rw (a, b, e) refl

-- the net with the output
result_is : (f : Taps) (graph : Graph) (made new : Net) (node low high : ℕ) → all_zero_of f.taps ≡ false
    → made ≡ (whole_sum f graph).net → node ≡ (whole_sum f graph).place → low ≡ low_of f → high ≡ low_of f + (taps_format f).width - 1
    → new ≡ record made { outputs = made.outputs ++ record { name = codes "y"; from = record { node = node; high = high; low = low } } ∷ [] }
    → new ≡ net_of_taps f graph
result_is f graph made new node low high some to at below top e =
    e ∙ rw (to, at, below, top) refl
    ∙ ap (λ (b : Bool). if b then with_result 0 1 (zero_sum f.input) else with_result (low_of f) (taps_format f).width (whole_sum f graph))
    (sym some)

pub output-requires-3-clause-lies : goal.output-requires-3-clause-lies
output-requires-3-clause-lies c =
    let f = c.args.taps.now in
    let graph = c.args.graph.now in
    let list : c.as_slice-2.result.now ≡ f.taps = search rules in
    let some : all_zero_of f.taps ≡ false = search rules in
    let low : c.low_bits-low.result ≡ low_of f = search rules in
    let width : c.output-2.result.width ≡ (taps_format f).width = ap (λ (y : Format). y.width) c.output-2.ensures.value in
    let y = whole_sum f graph in
    let same =
    sum_is c.in_ok-products.products (products_of f graph) c.place_products.new.net (with_multiples f graph).net c.as_slice-2.result.now f.taps
    c.in_ok-products.ensures.products c.in_ok-products.ensures.net list in
    let to : c.place_sum.new.net ≡ y.net = c.in_ok-node-2.ensures.ok ∙ ap (λ (q : Placed). q.net) same in
    let at : c.in_ok-node-2.node ≡ y.place = c.in_ok-node-2.ensures.place ∙ ap (λ (q : Placed). q.place) same in
    let lies = output-lies f c.requires.taps graph c.requires.graph some in
    let there : slice_index (widths c.place_sum.new.net.nodes) c.in_ok-node-2.node ≡ slice_index (widths y.net.nodes) y.place =
    ap (λ (n : Net). slice_index (widths n.nodes) c.in_ok-node-2.node) to ∙ ap (λ (k : ℕ). slice_index (widths y.net.nodes) k) at in
    (omega (arith, lies.0, low, width), omega (arith, lies.1, there, low, width))

made : (c : goal.After-drop-products-2) → c.output-3.new.self ≡ net_of_taps c.args.taps.now c.args.graph.now
made c =
    let f = c.args.taps.now in
    let graph = c.args.graph.now in
    let list : c.as_slice-2.result.now ≡ f.taps = search rules in
    let some : all_zero_of f.taps ≡ false = search rules in
    let low : c.low_bits-low.result ≡ low_of f = search rules in
    let width : c.output-2.result.width ≡ (taps_format f).width = ap (λ (y : Format). y.width) c.output-2.ensures.value in
    let same =
    sum_is c.in_ok-products.products (products_of f graph) c.place_products.new.net (with_multiples f graph).net c.as_slice-2.result.now f.taps
    c.in_ok-products.ensures.products c.in_ok-products.ensures.net list in
    let to : c.place_sum.new.net ≡ (whole_sum f graph).net = c.in_ok-node-2.ensures.ok ∙ ap (λ (q : Placed). q.net) same in
    let at : c.in_ok-node-2.node ≡ (whole_sum f graph).place = c.in_ok-node-2.ensures.place ∙ ap (λ (q : Placed). q.place) same in
    let top : c.low_bits-low.result + c.output-2.result.width - 1 ≡ low_of f + (taps_format f).width - 1 =
    ap (λ n. n + c.output-2.result.width - 1) low ∙ ap (λ n. low_of f + n - 1) width in
    result_is f graph c.place_sum.new.net c.output-3.new.self c.in_ok-node-2.node c.low_bits-low.result
    (c.low_bits-low.result + c.output-2.result.width - 1) some to at low top c.in_ok-output-2.ensures.ok

pub returns-clause-net : goal.returns-clause-net
returns-clause-net c = made c

pub returns-clause-sums : goal.returns-clause-sums
returns-clause-sums c =
    let f = c.args.taps.now in
    let graph = c.args.graph.now in
    subst (HasSums f graph) (sym (made c)) (net-sums f c.requires.taps graph c.requires.graph)

pub returns-clause-fits : goal.returns-clause-fits
returns-clause-fits c =
    let f = c.args.taps.now in
    let graph = c.args.graph.now in
    subst (FitsInEachMode (Tfir f)) (sym (made c)) (fits_modes f c.requires.taps graph c.requires.graph)
