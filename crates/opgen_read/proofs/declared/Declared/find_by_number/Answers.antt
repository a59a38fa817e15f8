use Rattle.std.proofs.Common.{◌≡◌, ◌∙◌, Some, map, ap, sym, subst}
use Rattle.std.specs.Str.{bytes_eq}
use Rattle.std.proofs.lemmas.Slice.Eq.{bytes_eq-Decides}
use Rattle.opgen_vhdl.specs.Grammar.{place_of}
use Rattle.opgen_read.specs.Places.{leads}
use Rattle.opgen_read.proofs.FirstPlaces.{place_found}
use Rattle.opgen_read.proofs.declared.Declared.find_by_number.Goals as goal

pub returns-then-eq-clause-place : goal.returns-then-eq-clause-place
returns-then-eq-clause-place g c =
    let name = c.args.name.now in
    let place = c.in_ok-key.place.now in
    let same : c.in_ok-key.key.now.bytes ≡ name = sym c.as_str.ensures.value ∙ sym c.as_bytes.ensures.value
    ∙ (bytes_eq-Decides c.as_bytes.result.now name).0 (sym c.eq.ensures ∙ c.if-eq.true) in
    let there : Some place ≡ leads c.self.inside.first name = sym c.in_ok-key.ensures.value ∙ ap (leads c.self.inside.first) same in
    subst (λ items. place ≡ place_of (map g.T.Named.name_of items) name) c.self.view_is
    (place_found (bytes_eq name) (map g.T.Named.name_of c.self.inside.items) place (there ∙ c.self.invariant.0 name))

pub returns-then-eq-clause-allowed : goal.returns-then-eq-clause-allowed
returns-then-eq-clause-allowed g c =
    let name = c.args.name.now in
    let same : c.in_ok-key.key.now.bytes ≡ name = sym c.as_str.ensures.value ∙ sym c.as_bytes.ensures.value
    ∙ (bytes_eq-Decides c.as_bytes.result.now name).0 (sym c.eq.ensures ∙ c.if-eq.true) in
    c.self.invariant.1 name c.in_ok-key.place.now (sym (ap (leads c.self.inside.first) same) ∙ c.in_ok-key.ensures.value)
