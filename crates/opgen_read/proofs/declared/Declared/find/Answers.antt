use Rattle.std.proofs.Common.{◌≡◌, ◌∙◌, map, ap, sym, subst, arith}
use Rattle.std.specs.Prelude.{IfSome, position}
use Rattle.std.specs.Str.{bytes_eq}
use Rattle.opgen_vhdl.specs.Grammar.{place_of}
use Rattle.opgen_read.specs.Places.{leads}
use Rattle.opgen_read.proofs.FirstPlaces.{places_found, found_allowed, none_of_long}
use Rattle.opgen_read.proofs.declared.Declared.find.Goals as goal

pub returns-then-name-gt-MAX_NAME_LEN-clause-value : goal.returns-then-name-gt-MAX_NAME_LEN-clause-value
returns-then-name-gt-MAX_NAME_LEN-clause-value g c =
    let name = c.args.name.now in
    sym (none_of_long (leads c.self.inside.first) name c.self.invariant.1 (omega (arith, c.if-name-gt-MAX_NAME_LEN.true)))
    ∙ c.self.invariant.0 name
    ∙ ap (λ items. position (bytes_eq name) (map g.T.Named.name_of items)) c.self.view_is

pub returns-clause-place : goal.returns-clause-place
returns-clause-place g c =
    let name = c.args.name.now in
    let names = map g.T.Named.name_of c.self.inside.items in
    subst (λ items. IfSome c.copied.result (λ k. k ≡ place_of (map g.T.Named.name_of items) name)) c.self.view_is
    (places_found (bytes_eq name) names c.copied.result
    (c.copied.ensures ∙ c.get.ensures.value ∙ ap (leads c.self.inside.first) c.key_of.ensures ∙ c.self.invariant.0 name))

pub returns-clause-allowed : goal.returns-clause-allowed
returns-clause-allowed g c =
    let name = c.args.name.now in
    found_allowed (leads c.self.inside.first) name c.copied.result c.self.invariant.1
    (c.copied.ensures ∙ c.get.ensures.value ∙ ap (leads c.self.inside.first) c.key_of.ensures)
