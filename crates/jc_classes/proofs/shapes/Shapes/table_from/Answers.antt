use Rattle.std.proofs.Common.{ap, sym, subst, unwrap_or, ◌∙◌}
use Rattle.std.specs.Option.{option_map}
use Rattle.jc_cap.specs.ClassComponent.{is_class}
use Rattle.jc_cap_desc.specs.Shape.{ClassShape}
use Rattle.jc_classes.proofs.Filling.{map_ok}
use Rattle.jc_classes.proofs.Tabling.{interface_tabled, table_right}
use Rattle.jc_classes.specs.PrivateShape.{record_of}
use Rattle.jc_classes.specs.PrivateTables.{IsTableOver, IsTabled, Tabled}
use Rattle.jc_classes.proofs.shapes.Shapes.table_from.Goals as goal

pub returns-in-Interface : goal.returns-in-Interface
returns-in-Interface c =
    let body = ap (λ (k : ClassShape). k.body) (sym c.found.view_is) ∙ ap record_of c.in-Interface.is in
    subst (IsTabled c.args.self.now c.args.class) (sym c.in_ok-none.ensures)
    (interface_tabled c.args.self.now c.args.class c.args.found.now c.requires.there (ap is_class body))

pub returns-in-Class : goal.returns-in-Class
returns-in-Class c =
    let body = ap (λ (k : ClassShape). k.body) (sym c.found.view_is) ∙ ap record_of c.in-Class.is in
    let r = c.in-Class.body in
    map_ok
    (λ made. IsTableOver c.args.self.now c.home.result r.public_methods r.package_methods r.interfaces.items
    c.above_or-above.result.now c.args.depth c.args.jump made)
    (IsTabled c.args.self.now c.args.class) c.table_over.result
    (λ (made : Tabled) over. table_right c.args.self.now c.args.class c.args.found.now _ _ made c.home.result c.args.depth
    c.args.jump c.home.ensures body c.requires.there c.requires.above c.requires.depth c.requires.few c.requires.jump
    (subst (λ above. IsTableOver c.args.self.now c.home.result r.public_methods r.package_methods
    r.interfaces.items above c.args.depth c.args.jump made)
    (c.above_or-above.ensures ∙ ap (unwrap_or (option_map (λ t. t.now) c.args.above)) c.in_ok-none.ensures) over))
    c.table_over.ensures
