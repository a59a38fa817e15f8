use Rattle.std.proofs.Common.{rules, ◌≡◌, ◌++◌, ◌∷◌, [], sym, ◌∙◌}
use Rattle.std.proofs.lemmas.List.{append-nil}
use Rattle.opgen_write.proofs.Paging.{none_of, comes_kept, comes_then, comes_as}
use Rattle.opgen_write.proofs.page.put_byte.Goals as goal

pub returns-then-len-eq-PAGE : goal.returns-then-len-eq-PAGE
returns-then-len-eq-PAGE g c =
    let items : c.push.new.self.items ≡ c.args.page.now.bytes.items ++ c.args.byte ∷ [] = search rules in
    let none = none_of c.args.page.now.fault (sym c.is_some.ensures ∙ c.if-is_some.false) in
    comes_as c.args.page.now c.turn_page.new.page (g.K.Sink.taken c.args.out.now) (g.K.Sink.taken c.turn_page.new.out)
    (g.K.Sink.faults c.args.out.now) (g.K.Sink.faults c.turn_page.new.out) _ _ (append-nil (c.args.byte ∷ []))
    (comes_then c.args.page.now _ c.turn_page.new.page (g.K.Sink.taken c.args.out.now) (g.K.Sink.taken c.args.out.now)
    (g.K.Sink.taken c.turn_page.new.out) (g.K.Sink.faults c.args.out.now) (g.K.Sink.faults c.args.out.now)
    (g.K.Sink.faults c.turn_page.new.out) (c.args.byte ∷ []) []
    (comes_kept c.args.page.now _ (g.K.Sink.taken c.args.out.now) (g.K.Sink.faults c.args.out.now)
    (c.args.byte ∷ []) none none items) c.turn_page.ensures.comes)
