use Rattle.std.proofs.Common.{◌∙◌, map, length, ap, sym}
use Rattle.std.specs.Str.{bytes_eq}
use Rattle.std.proofs.lemmas.List.{length-map}
use Rattle.opgen_read.proofs.FirstPlaces.{no_place}
use Rattle.opgen_read.proofs.declared.Declared.place.Goals as goal

pub returns-in-None : goal.returns-in-None
returns-in-None g c =
    let items = c.args.self.now in
    c.len.ensures ∙ ap length c.self.view_is ∙ sym (length-map items g.T.Named.name_of)
    ∙ no_place (bytes_eq c.args.name.now) (map g.T.Named.name_of items) c.in-None.ensures.value
