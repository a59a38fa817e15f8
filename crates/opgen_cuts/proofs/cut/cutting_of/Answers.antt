use Rattle.std.proofs.Common.{◌≡◌, ℕ, ◌+◌, ◌<◌, false, List, [], ◌∷◌, length, drop, sym, ap, ◌∙◌, subst, arith}
use Rattle.std.specs.Prelude.{slice_index_or}
use Rattle.std.proofs.lemmas.List.{drop_more, get_or_default}
use Rattle.std.proofs.lemmas.Option.{get_or_from_slice_get}
use Rattle.opgen_net.specs.declared.net.Net.{Net}
use Rattle.opgen_net.specs.declared.word_bits.WordBit.{WordBit}
use Rattle.opgen_cuts.specs.declared.cutting.Cutting.{Cutting}
use Rattle.opgen_cuts.specs.Needed.{needed}
use Rattle.opgen_cuts.specs.Recipe.{ports_of, start_of, with_copies, with_copy}
use Rattle.opgen_cuts.proofs.Copies.{copy-next}
use Rattle.opgen_cuts.proofs.Marks.{needed-count}
use Rattle.opgen_cuts.proofs.Start.{start-cut}
use Rattle.opgen_cuts.proofs.State.{IsCut}
use Rattle.opgen_cuts.proofs.cut.cutting_of.Goals as goal

started : (net ports : Net) (bits : List (List WordBit)) (places : List ℕ) → ports ≡ ports_of net → bits ≡ [] → places ≡ []
    → ◌≡◌ {A = Cutting} (record { net = ports; bits = bits; places = places }) (start_of net)
started net ports bits places e f g =
    ap (λ n. record { net = n; bits = bits; places = places }) e
    ∙ ap (λ b. record { net = ports_of net; bits = b; places = places }) f
    ∙ ap (λ p. record { net = ports_of net; bits = []; places = p }) g

pub nodes-init : goal.nodes-init
nodes-init c =
    let net = c.args.net.now in
    let is = started net c.in_ok-ports_of.field-0 c.new.result c.new-2.result c.in_ok-ports_of.ensures.ok c.new.ensures c.new-2.ensures in
    record {
      left = ap (with_copies c.args.most (needed net) net.nodes) is;
      state = subst (IsCut net c.args.most 0) (sym is) (start-cut net c.requires.valid c.args.most);
      end = c.len-place-end.ensures;
    }

pub index-requires : goal.index-requires
index-requires c =
    omega (arith, c.nodes-test.true, c.len-place-end.ensures, needed-count c.args.net.now, ap length c.in_ok-marks.ensures)

pub copy-requires-clause-follow : goal.copy-requires-clause-follow
copy-requires-clause-follow c =
    let net = c.args.net.now in
    let k = c.nodes.place in
    (copy-next net c.requires.valid c.args.most k c.nodes.cutting c.nodes.invariant.state c.requires.most.0 c.requires.most.1
    (slice_index_or (needed net) k false) (λ m. m) c.get.result.now c.get.ensures).0

pub nodes-preserved : goal.nodes-preserved
nodes-preserved c =
    let net = c.args.net.now in
    let most = c.args.most in
    let k = c.nodes.place in
    let s = c.nodes.cutting in
    let n = c.get.result.now in
    let ms = needed net in
    let w = c.index.result.now in
    let there : k < length net.nodes = omega (arith, c.nodes-test.true, c.len-place-end.ensures) in
    let same : w ≡ slice_index_or ms k false =
    c.index.ensures
    ∙ ap (λ l. slice_index_or l k w) c.in_ok-marks.ensures
    ∙ get_or_default ms k w false (omega (arith, there, needed-count net)) in
    let made = copy-next net c.requires.valid most k s c.nodes.invariant.state c.requires.most.0 c.requires.most.1 w (λ m. same ∙ m) n c.get.ensures in
    let rest = drop (k + 1) net.nodes in
    let left : drop k net.nodes ≡ n ∷ rest =
    drop_more net.nodes k n there ∙ ap (λ x. x ∷ rest) (get_or_from_slice_get net.nodes k n n c.get.ensures) in
    record {
      left = ap (with_copies most ms rest) c.in_ok-copy.ensures
          ∙ ap (λ v. with_copies most ms rest (with_copy most v n s))
          (same ∙ ap (λ i. slice_index_or ms i false) (sym c.nodes.invariant.state.places_count))
          ∙ ap (λ ns. with_copies most ms ns s) (sym left)
          ∙ c.nodes.invariant.left;
      state = subst (IsCut net most (k + 1)) (sym c.in_ok-copy.ensures) made.1;
      end = c.nodes.invariant.end;
    }
