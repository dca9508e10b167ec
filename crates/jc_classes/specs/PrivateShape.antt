-- Private. The contents of a record.
use Rattle.jc_cap.specs.declared.record.RecordBody.{RecordBody}
use Rattle.jc_cap.specs.declared.record.RecordBody.TheVariants as Read
use Rattle.jc_classes.specs.declared.shape.Body.{Body}
use Rattle.jc_classes.specs.declared.shape.Body.TheVariants.{Interface, Class}

-- a record as it was read
abbrev pub record_of : Body → RecordBody
record_of (Interface superinterfaces) = Read.Interface (record { superinterfaces = superinterfaces.items })
record_of (Class k) = Read.Class (record {
  superclass = k.superclass;
  declared_size = k.declared_size;
  public_methods = k.public_methods;
  package_methods = k.package_methods;
  interfaces = k.interfaces.items;
})
