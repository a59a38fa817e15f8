use Rattle.std.proofs.Common.{◌≡◌, ◌<◌, ◌^◌, [], ◌∷◌, ◌++◌, get_or, pos, ◌-ℤ◌, unsigned_abs, of_z, to_z, refl, sym, ap, ◌∙◌}
use Rattle.std.specs.Int.{w128}
use Rattle.std.proofs.lemmas.Int.{to_z-of_z}
use Rattle.std.proofs.lemmas.List.{map_more}
use Rattle.std.proofs.lemmas.List.Elements.{All-get_or, All-push}
use Rattle.opgen_num.specs.Rounding.{distance}
use Rattle.opgen_kcm.proofs.Bounds.{small-fits, difference-small, difference-fits}
use Rattle.opgen_kcm.proofs.table.offsets.Goals as goal

pub overflow_sub-number : goal.overflow_sub-number
overflow_sub-number c =
    let e = get_or c.args.numbers.now c.numbers.number-index (pos 0) in
    let small : unsigned_abs e < 2 ^ 126 =
    All-get_or (λ e. unsigned_abs e < 2 ^ 126) c.args.numbers.now c.numbers.number-index (pos 0) c.numbers-test.true c.requires.small in
    rw (to_z-of_z w128 e (small-fits e small), to_z-of_z w128 c.args.least c.ranges.least)
    (difference-fits e c.args.least small c.requires.least)

pub numbers-preserved : goal.numbers-preserved
numbers-preserved c =
    let e = get_or c.args.numbers.now c.numbers.number-index (pos 0) in
    let least = c.args.least in
    let small : unsigned_abs e < 2 ^ 126 =
    All-get_or (λ e. unsigned_abs e < 2 ^ 126) c.args.numbers.now c.numbers.number-index (pos 0) c.numbers-test.true c.requires.small in
    let first = to_z-of_z w128 e (small-fits e small) in
    let second = to_z-of_z w128 c.args.least c.ranges.least in
    let known = to_z w128 (of_z w128 c.args.least) in
    let number : c.unsigned_abs.result ≡ distance e known =
    c.unsigned_abs.ensures.value
    ∙ rw (first, second, to_z-of_z w128 (e -ℤ least) (difference-fits e least small c.requires.least)) refl
    ∙ ap (λ z. distance e z) (sym second) in
    let more : c.push.new.self.items ≡ c.numbers.all.items ++ distance e known ∷ [] =
    c.in_ok-push.ensures.items ∙ ap (λ n. c.numbers.all.items ++ n ∷ []) number in
    let below : distance e known < 2 ^ 127 = rw second (difference-small e least small c.requires.least) in record {
      value = more
          ∙ ap (λ l. l ++ distance e known ∷ []) c.numbers.invariant.value
          ∙ sym (map_more (λ f. distance f known) c.args.numbers.now c.numbers.number-index (pos 0) c.numbers-test.true);
      small = rw more (All-push (λ n. n < 2 ^ 127) c.numbers.all.items (distance e known) c.numbers.invariant.small below);
    }
