use Rattle.std.proofs.Common.{Some, is_some, refl, ap, ◌∙◌}
use Rattle.opgen_vhdl.specs.DesignText.{entity_text, architecture_text, text_of}
use Rattle.opgen_write.specs.Pages.{Came}
use Rattle.opgen_write.proofs.Paging.{comes_whole, all_taken, same_fault}
use Rattle.opgen_write.proofs.write.write_design.Given as given
use Rattle.opgen_write.proofs.write.write_design.Goals as goal

came_whole : (g : given.Over) (c : goal.After-drop-page g)
    → Came (g.K.Sink.taken c.args.out.now) (g.K.Sink.faults c.args.out.now) (text_of c.args.design.now) c.put_rest.new.page
    (g.K.Sink.taken c.put_rest.new.out) (g.K.Sink.faults c.put_rest.new.out)
came_whole g c = comes_whole c.in-Ok.page _ _ c.put_rest.new.page _ _ _ _ _ _ _ _ (entity_text c.args.design.now)
    (architecture_text c.args.design.now) c.in-Ok.ensures.fault c.in-Ok.ensures.bytes
    (c.put_made.ensures (entity_text c.args.design.now) c.entity.ensures) c.put_architecture.ensures c.put_rest.ensures.comes

came_part : (g : given.Over) (c : goal.After-drop-page-2 g)
    → Came (g.K.Sink.taken c.args.out.now) (g.K.Sink.faults c.args.out.now) (text_of c.args.design.now) c.put_rest.new.page
    (g.K.Sink.taken c.put_rest.new.out) (g.K.Sink.faults c.put_rest.new.out)
came_part g c = comes_whole c.in-Ok.page _ _ c.put_rest.new.page _ _ _ _ _ _ _ _ (entity_text c.args.design.now)
    (architecture_text c.args.design.now) c.in-Ok.ensures.fault c.in-Ok.ensures.bytes
    (c.put_made.ensures (entity_text c.args.design.now) c.entity.ensures) c.put_architecture.ensures c.put_rest.ensures.comes

pub returns-in-None-clause-tells : goal.returns-in-None-clause-tells
returns-in-None-clause-tells g c = (came_whole g c).tells

pub returns-in-None-clause-faults_kept : goal.returns-in-None-clause-faults_kept
returns-in-None-clause-faults_kept g c = (came_whole g c).kept

pub returns-in-None-clause-ok : goal.returns-in-None-clause-ok
returns-in-None-clause-ok g c = λ held b. all_taken _ _ _ c.put_rest.new.page _ _ held (came_whole g c) c.in-None.is
    (c.put_rest.ensures.blank c.in-None.is) b

pub returns-clause-tells : goal.returns-clause-tells
returns-clause-tells g c = (came_part g c).tells

pub returns-clause-faults_kept : goal.returns-clause-faults_kept
returns-clause-faults_kept g c = (came_part g c).kept

pub returns-clause-failed_counted : goal.returns-clause-failed_counted
returns-clause-failed_counted g c = λ e. (came_part g c).failed (c.in-Some.is ∙ ap Some (same_fault c.in-Some.fault _ _ refl e))

pub returns-clause-err : goal.returns-clause-err
returns-clause-err g c = (came_part g c).part (ap is_some c.in-Some.is)
