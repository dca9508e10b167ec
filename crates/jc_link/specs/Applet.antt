-- A package with an applet, as an example. Its class extends Applet, overrides process, and has an install method; its
-- pool names the class, and the class's method register.
use Rattle.std.specs.Prelude.{true, false, [], ◌∷◌, Some, None}
use Rattle.jc_base.specs.declared.class_ref.ClassRef.TheVariants.{Internal, External}
use Rattle.jc_base.specs.declared.declared_type.DeclaredType.TheVariants.{Byte, Short, Reference, ByteArray}
use Rattle.jc_base.specs.declared.declared_type.ReturnType.TheVariants.{Void}
use Rattle.jc_cap.specs.declared.record.RecordBody.TheVariants as Record
use Rattle.jc_cap_desc.specs.Shape.{Package}
use Rattle.jc_cap.specs.declared.entry.PoolEntry.TheVariants.{Classref, VirtualMethodref}
use Rattle.jc_api.specs.Bound.{default_framework}

abbrev pub applet : Package
applet = record {
  shape = record {
    «package» = record { minor = 0; major = 1; aid = 0xF0 ∷ 1 ∷ 2 ∷ 3 ∷ 4 ∷ [] };
    imports = default_framework ∷ [];
    exports = [];
    classes = record {
      offset = 0;
      body = Record.Class (record {
        superclass = Some (External 0 7);
        declared_size = 0;
        public_methods = record { base = 5; methods = 10 ∷ 0xFFFF ∷ 0xFFFF ∷ [] };
        package_methods = record { base = 0; methods = [] };
        interfaces = [];
      });
      is_abstract = false;
      fields = [];
      methods =
          record {
            token = 0xFF;
            is_static = true;
            offset = 1;
            header = Some (record { is_abstract = false; max_stack = 1; nargs = 3; max_locals = 0 });
            signature = record { parameters = ByteArray ∷ Short ∷ Byte ∷ []; result = Void };
          }
          ∷ record {
            token = 5;
            is_static = false;
            offset = 10;
            header = Some (record { is_abstract = false; max_stack = 0; nargs = 2; max_locals = 0 });
            signature = record { parameters = Reference (External 0 6) ∷ []; result = Void };
          }
          ∷ [];
    } ∷ [];
  };
  body = record {
    name = [];
    applets = Some (record { aid = 0xF0 ∷ 1 ∷ 2 ∷ 3 ∷ 4 ∷ 1 ∷ []; install = 1 } ∷ []);
    pool = Classref (Internal 0) ∷ VirtualMethodref (record { class = Internal 0; token = 1 }) ∷ [];
    pool_types = None ∷ Some (record { parameters = []; result = Void }) ∷ [];
    statics = record { size = 0; references = 0; arrays = []; defaults = 0; values = [] };
    methods =
        record { offset = 1; code_offset = 3; code = 0x8F ∷ 0 ∷ 0 ∷ 0x8B ∷ 0 ∷ 1 ∷ 0x7A ∷ []; handlers = [] }
        ∷ record { offset = 10; code_offset = 12; code = 0x7A ∷ []; handlers = [] }
        ∷ [];
  };
}
