use Rattle.std.proofs.Common.{◌≡◌, map, not, string_bytes, rules, ◌∙◌, ap}
use Rattle.std.specs.List.{position_from}
use Rattle.std.specs.Map.{keys_of}
use Rattle.opgen_entries.specs.Stands.{is_known}
use Rattle.opgen_document.proofs.Trees.{names-view}
use Rattle.opgen_spec.proofs.form.first_unknown.Goals as goal

pub names-init : goal.names-init
names-init c =
    let all : c.into_iter-name-iterator.result ≡ keys_of c.args.table.now.entries = search rules in
    record {
      same = ap (position_from (λ name. not (is_known c.args.keys.now c.args.version c.args.kind name)) 0)
          (ap (map string_bytes) all ∙ names-view c.args.table.now.entries);
      count = search rules;
    }
