use Rattle.std.proofs.Common.{◌≡◌, ◌∙◌, List, [], ℕ, Some, None, ap, sym}
use Rattle.std.specs.Map.{update}
use Rattle.std.specs.Str.{bytes_eq}
use Rattle.opgen_read.specs.Places.{leads}
use Rattle.opgen_read.proofs.FirstPlaces.{new_name, old_name, absent_from, present_from}
use Rattle.opgen_read.proofs.declared.note.Goals as goal

pub returns : goal.returns
returns c =
    let name = c.args.name.now in
    let key = c.key_of-key.result in
    let none : leads c.args.first.now name ≡ None = ap (leads c.args.first.now) (sym c.key_of-key.ensures) ∙ absent_from c.get.result _ c.get.ensures.value c.is_some.result c.is_some.ensures
    c.if-is_some.false in
    let updated : (q : List ℕ) → leads c.insert.new.self q ≡ update bytes_eq (leads c.args.first.now) name (Some c.args.place) q =
    λ q. c.in_ok-insert.ensures.updates.0 (record { bytes = q; spare = [] })
    ∙ ap (λ n. update bytes_eq (leads c.args.first.now) n (Some c.args.place) q) c.key_of-key.ensures in
    new_name (leads c.args.first.now) (leads c.insert.new.self) name c.args.place none updated

pub returns-then-is_some : goal.returns-then-is_some
returns-then-is_some c =
    let name = c.args.name.now in
    let there = present_from c.get.result _ c.get.ensures.value c.is_some.result c.is_some.ensures c.if-is_some.true in
    old_name (leads c.args.first.now) name c.args.place there.0 (ap (leads c.args.first.now) (sym c.key_of-key.ensures) ∙ there.1)
