use Rattle.std.proofs.Common.{[], inl, inr, subst}
use Rattle.opgen_design.specs.Plain.{plain}
use Rattle.opgen_design.proofs.WidthLaws.{width-is_width}
use Rattle.opgen_net.specs.Valid.{widths}
use Rattle.opgen_cuts.specs.Renamed.{renamed}
use Rattle.opgen_cuts.specs.Stands.{CellsFollow}
use Rattle.opgen_cuts.proofs.cutting.Cutting.cells.Goals as goal

pub place-requires : goal.place-requires
place-requires c =
    let s = c.args.self.now in
    let e = plain c.args.expr.now in
    let w = c.args.width in
    let ws = widths s.net.nodes in
    let t = renamed s.places e in
    elim c.in-Logic.is [
      | inl is ↦ width-is_width ws [] t w (subst (λ k. CellsFollow s k w e) is c.requires.follow).1.has_width
      | inr other ↦ elim other [
        | inl is ↦ width-is_width ws [] t w (subst (λ k. CellsFollow s k w e) is c.requires.follow).1.has_width
        | inr last ↦ elim last [
          | inl is ↦ width-is_width ws [] t w (subst (λ k. CellsFollow s k w e) is c.requires.follow).1.has_width
          | inr is ↦ width-is_width ws [] t w (subst (λ k. CellsFollow s k w e) is c.requires.follow).1.has_width
        ]
      ]
    ]
