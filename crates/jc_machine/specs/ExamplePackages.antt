-- Packages for the examples of the defensive machine: among them, a server with a shareable interface, and a client
-- that calls it.
use Rattle.std.specs.Prelude.{ℕ, ◌+◌, Bool, true, false, List, [], ◌∷◌, Some, None}
use Rattle.jc_api.specs.Bound.{default_framework, default_lang}
use Rattle.jc_base.specs.Signature.{Signature}
use Rattle.jc_base.specs.declared.class_ref.ClassRef.{ClassRef}
use Rattle.jc_base.specs.declared.class_ref.ClassRef.TheVariants.{External, Internal}
use Rattle.jc_base.specs.declared.declared_type.DeclaredType.{DeclaredType}
use Rattle.jc_base.specs.declared.declared_type.DeclaredType.TheVariants.{ByteArray, Reference, Short}
use Rattle.jc_base.specs.declared.declared_type.ReturnType.TheVariants.{Value}
use Rattle.jc_base.specs.declared.package_info.PackageInfo.{PackageInfo}
use Rattle.jc_cap.specs.Interfaces.{Implemented}
use Rattle.jc_cap.specs.declared.record.RecordBody.TheVariants as Records
use Rattle.jc_cap.specs.declared.exports.ExportedClass.{ExportedClass}
use Rattle.jc_cap_desc.specs.Shape.{ClassShape, FieldShape, MethodBody, MethodShape, Package}
use Rattle.jc_cap_desc.specs.declared.class_row.FieldPlace.TheVariants.{Instance}
use Rattle.jc_cap.specs.declared.handler.Handler.{Handler}
use Rattle.jc_cap.specs.declared.entry.PoolEntry.{PoolEntry}
use Rattle.jc_cap.specs.declared.entry.PoolEntry.TheVariants.{Classref, InstanceFieldref, StaticMethodref}
use Rattle.jc_cap.specs.declared.entry.PoolEntry.TheVariants.{VirtualMethodref}
use Rattle.jc_cap.specs.declared.entry.StaticRef.TheVariants as places

-- ---- parts of packages

abbrev pub info : ℕ → PackageInfo
info number = record { minor = 0; major = 1; aid = 0xF0 ∷ 0 ∷ 0 ∷ 0 ∷ number ∷ [] }

-- Object and Shareable, as packages with these imports name them: javacard.framework and java.lang
abbrev pub object_ref : ClassRef
object_ref = External 1 0

abbrev pub shareable_ref : ClassRef
shareable_ref = External 0 0

abbrev pub takes : List (DeclaredType ClassRef) → Signature ClassRef
takes parameters = record { parameters = parameters; result = Value Short }

-- a method that returns a short, with this many locals beside its arguments, and operands
abbrev pub a_method : ℕ → ℕ → Bool → List (DeclaredType ClassRef) → ℕ → ℕ → ℕ → MethodShape
a_method offset token is_static parameters nargs max_locals max_stack = record {
  token = token;
  is_static = is_static;
  offset = offset;
  header = Some (record { is_abstract = false; max_stack = max_stack; nargs = nargs; max_locals = max_locals });
  signature = takes parameters;
}

abbrev pub an_interface_method : ℕ → MethodShape
an_interface_method token = record { token = token; is_static = false; offset = 0; header = None; signature = takes [] }

abbrev pub a_class : ℕ → ClassRef → ℕ → List ℕ → List Implemented → List FieldShape → List MethodShape → ClassShape
a_class offset superclass size table interfaces fields methods = record {
  offset = offset;
  body = Records.Class (record {
    superclass = Some superclass;
    declared_size = size;
    public_methods = record { base = 1; methods = table };
    package_methods = record { base = 0; methods = [] };
    interfaces = interfaces;
  });
  is_abstract = false;
  fields = fields;
  methods = methods;
}

abbrev pub code : ℕ → List ℕ → List Handler → MethodBody
code offset bytes handlers = record { offset = offset; code_offset = offset + 2; code = bytes; handlers = handlers }

abbrev pub a_package : ℕ → List PackageInfo → List ExportedClass → List ClassShape → List PoolEntry → List MethodBody
    → Package
a_package number imports exports classes pool methods = record {
  shape = record { «package» = info number; imports = imports; exports = exports; classes = classes };
  body = record {
    name = [];
    applets = None;
    pool = pool;
    pool_types = [];
    statics = record { size = 0; references = 0; arrays = []; defaults = 0; values = [] };
    methods = methods;
  };
}

-- ---- the server: the shareable interface Service with a method; Base with a field and the method value; its
-- subclasses Derived, which overrides value, and Failing, whose value calls a method that divides by zero

abbrev pub service : ClassShape
service = record {
  offset = 0;
  body = Records.Interface (record { superinterfaces = record { interface = shareable_ref } ∷ [] });
  is_abstract = true;
  fields = [];
  methods = an_interface_method 0 ∷ [];
}

abbrev pub serves : List Implemented
serves = record { interface = Internal 0; indexes = 1 ∷ [] } ∷ []

abbrev pub base : ClassShape
base =
    a_class 10 object_ref 1 (1 ∷ []) [] (record { place = Instance (Internal 10) 0; type = Short } ∷ [])
    (a_method 1 1 false [] 1 0 1 ∷ [])

abbrev pub derived : ClassShape
derived = a_class 30 (Internal 10) 0 (20 ∷ []) serves [] (a_method 20 1 false [] 1 0 1 ∷ [])

abbrev pub failing : ClassShape
failing =
    a_class 50 (Internal 10) 0 (40 ∷ []) serves [] (a_method 40 1 false [] 1 0 1 ∷ a_method 60 0 true [] 0 0 2 ∷ [])

-- Owning, another subclass of Base, whose value is its own field
abbrev pub owning : ClassShape
owning = a_class 90 (Internal 10) 0 (140 ∷ []) serves [] (a_method 140 1 false [] 1 0 1 ∷ [])

-- a class of static methods that take a Base
abbrev pub callers : ClassShape
callers = a_class 70 object_ref 0 [] [] [] (
    a_method 80 0 true (Reference (Internal 10) ∷ []) 1 0 1 ∷ a_method 100 1 true (Reference (Internal 10) ∷ []) 1 0 1
    ∷ a_method 120 2 true [] 0 0 1 ∷ [])

abbrev pub server : Package
server = a_package 1 (default_framework ∷ default_lang ∷ [])
    (record { class = 0; fields = []; methods = [] } ∷ record { class = 10; fields = []; methods = [] } ∷ [])
    (service ∷ base ∷ derived ∷ failing ∷ callers ∷ owning ∷ [])
    (VirtualMethodref (record { class = Internal 10; token = 1 })
    ∷ InstanceFieldref (record { class = Internal 10; token = 0 })
    ∷ StaticMethodref (places.Internal 60) ∷ StaticMethodref (places.Internal 120) ∷ [])
    (code 1 (0x04 ∷ 0x78 ∷ []) []  -- Base.value: 1
    ∷ code 20 (0x05 ∷ 0x78 ∷ []) []  -- Derived.value: 2
    ∷ code 40 (0x8D ∷ 0 ∷ 2 ∷ 0x78 ∷ []) []  -- Failing.value: the result of the next method
    ∷ code 60 (0x04 ∷ 0x03 ∷ 0x47 ∷ 0x78 ∷ []) []  -- 1 / 0
    ∷ code 80 (0x18 ∷ 0x8B ∷ 0 ∷ 0 ∷ 0x78 ∷ []) []  -- the argument's value
    ∷ code 100 (0x18 ∷ 0x85 ∷ 1 ∷ 0x78 ∷ []) []  -- the argument's field
    ∷ code 120 (0x8D ∷ 0 ∷ 3 ∷ 0x78 ∷ []) []  -- calls itself without end
    ∷ code 140 (0xAF ∷ 1 ∷ 0x78 ∷ []) []  -- Owning.value: its field
    ∷ [])

-- ---- the client: static methods that take an object of another package

abbrev pub clients : ClassShape
clients = a_class 0 (External 0 0) 0 [] [] [] (
    a_method 1 0 true (Reference (External 0 0) ∷ []) 1 0 1 ∷ a_method 20 1 true (Reference (External 0 0) ∷ []) 1 0 1
    ∷ a_method 40 2 true (Reference (External 0 0) ∷ []) 1 0 1
    ∷ a_method 60 3 true (Reference (External 0 0) ∷ []) 1 0 1 ∷ [])

abbrev pub client : Package
client = a_package 2 (default_lang ∷ info 1 ∷ []) [] (clients ∷ [])
    (Classref (External 1 0) ∷ InstanceFieldref (record { class = External 1 1; token = 0 }) ∷ [])
    (code 1 (0x18 ∷ 0x8E ∷ 1 ∷ 0 ∷ 0 ∷ 0 ∷ 0x78 ∷ []) []  -- the argument's service
    ∷ code 20 (0x18 ∷ 0x8E ∷ 1 ∷ 0 ∷ 0 ∷ 0 ∷ 0x78 ∷ 0x3B ∷ 0x08 ∷ 0x78 ∷ [])  -- the same, or 5 if it throws
    (record { start = 22; active_length = 7; handler = 29; catch_type = 0 } ∷ [])
    ∷ code 40 (0x18 ∷ 0x85 ∷ 1 ∷ 0x78 ∷ []) []  -- the argument's field
    -- the service, or its field if the service throws
    ∷ code 60 (0x18 ∷ 0x8E ∷ 1 ∷ 0 ∷ 0 ∷ 0 ∷ 0x78 ∷ 0x3B ∷ 0x18 ∷ 0x85 ∷ 1 ∷ 0x78 ∷ [])
    (record { start = 62; active_length = 7; handler = 69; catch_type = 0 } ∷ [])
    ∷ [])

-- ---- a package with code that no check would accept, and code that throws: Probe's static methods, one for each end;
-- Open, whose method is abstract; and Mistaken, whose row for the interface Asked leads to Object's equals, which
-- doesn't take a short

abbrev pub probes : List ℕ → List MethodShape
probes [] = []
probes (offset ∷ offsets) = a_method offset 0 true [] 0 1 4 ∷ probes offsets

-- a probe that takes an object
abbrev pub probe_of : ℕ → MethodShape
probe_of offset = a_method offset 0 true (Reference object_ref ∷ []) 1 0 2

abbrev pub probe_class : ClassShape
probe_class = a_class 0 object_ref 0 [] [] [] (
    probe_of 200 ∷ probe_of 210 ∷ probe_of 220 ∷ a_method 230 0 true (Reference (Internal 0) ∷ []) 1 0 1
    ∷ probe_of 240 ∷ probe_of 250
    ∷ probe_of 260
    ∷ a_method 270 0 true [] 1 0 1 ∷ a_method 290 0 true (ByteArray ∷ []) 1 0 2
    ∷ a_method 1 0 true [] 0 1 1 ∷ a_method 130 0 true [] 0 0 0
    ∷ probes (10 ∷ 20 ∷ 30 ∷ 40 ∷ 50 ∷ 60 ∷ 70 ∷ 80 ∷ 100 ∷ 120 ∷ 140 ∷ 160 ∷ 180 ∷ 280 ∷ []))

abbrev pub open_class : ClassShape
open_class = a_class 30 object_ref 0 (300 ∷ []) [] [] (record {
  token = 1;
  is_static = false;
  offset = 300;
  header = Some (record { is_abstract = true; max_stack = 0; nargs = 1; max_locals = 0 });
  signature = takes [];
} ∷ [])

abbrev pub asked_interface : ClassShape
asked_interface = record {
  offset = 50;
  body = Records.Interface (record { superinterfaces = [] });
  is_abstract = true;
  fields = [];
  methods = record { token = 0; is_static = false; offset = 0; header = None; signature = takes (Short ∷ []) } ∷ [];
}

abbrev pub mistaken_class : ClassShape
mistaken_class = a_class 60 object_ref 0 [] (record { interface = Internal 50; indexes = 0 ∷ [] } ∷ []) [] []

abbrev pub probe : Package
probe = a_package 1 (default_framework ∷ default_lang ∷ []) []
    (probe_class ∷ open_class ∷ asked_interface ∷ mistaken_class ∷ [])
    (Classref (Internal 0) ∷ VirtualMethodref (record { class = Internal 30; token = 1 })
    ∷ StaticMethodref (places.Internal 230) ∷ StaticMethodref (places.Internal 140) ∷ Classref (Internal 50)
    ∷ StaticMethodref (places.Internal 270) ∷ [])
    (code 1 (0x04 ∷ 0x04 ∷ 0x78 ∷ []) []  -- one operand more than it may have
    ∷ code 10 (0x78 ∷ []) []  -- an operand is missing
    ∷ code 20 (0x1C ∷ 0x78 ∷ []) []  -- local 0 was never written
    ∷ code 30 (0x70 ∷ 1 ∷ []) []  -- a branch into itself
    ∷ code 40 (0x8D ∷ 0 ∷ 9 ∷ 0x78 ∷ []) []  -- a missing entry of the pool
    ∷ code 50 (0x01 ∷ 0x77 ∷ []) []  -- a method that returns a short returns a reference
    ∷ code 60 (0x02 ∷ 0x90 ∷ 11 ∷ 0x92 ∷ 0x78 ∷ []) []  -- an array of -1 bytes
    ∷ code 70 (0x04 ∷ 0x90 ∷ 11 ∷ 0x04 ∷ 0x25 ∷ 0x78 ∷ []) []  -- component 1 of an array of 1
    ∷ code 80 (0x11 ∷ 0x7F ∷ 0xFF ∷ 0x90 ∷ 12 ∷ 0x92 ∷ 0x78 ∷ []) []  -- an array that is too long for the card
    -- 12FF as a byte
    ∷ code 100 (0x04 ∷ 0x90 ∷ 11 ∷ 0x3D ∷ 0x03 ∷ 0x11 ∷ 0x12 ∷ 0xFF ∷ 0x38 ∷ 0x03 ∷ 0x25 ∷ 0x78 ∷ []) []
    ∷ code 120 (0x02 ∷ 0x04 ∷ 0x51 ∷ 0x78 ∷ []) []  -- -1 shifted by one, zeros before it
    ∷ code 130 (0x8D ∷ 0 ∷ 3 ∷ 0x7A ∷ 0x3B ∷ 0x7A ∷ [])  -- a call whose exception is caught with no room for an operand
    (record { start = 132; active_length = 3; handler = 136; catch_type = 0 } ∷ [])
    ∷ code 140 (0x04 ∷ 0x03 ∷ 0x47 ∷ 0x78 ∷ []) []  -- 1 / 0
    ∷ code 160 (0x04 ∷ 0x03 ∷ 0x47 ∷ 0x78 ∷ 0x3B ∷ 0x04 ∷ 0x78 ∷ [])  -- 1 / 0, in the range of a handler with no class
    (record { start = 162; active_length = 4; handler = 166; catch_type = 9 } ∷ [])
    ∷ code 180 (0x03 ∷ 0x3B ∷ 0x04 ∷ 0x78 ∷ []) []  -- pushes an operand and pops it
    ∷ code 200 (0x18 ∷ 0x78 ∷ []) []  -- returns a reference as a short
    ∷ code 210 (0x18 ∷ 0x03 ∷ 0x25 ∷ 0x78 ∷ []) []  -- a component of an object that isn't an array
    ∷ code 220 (0x18 ∷ 0x8D ∷ 0 ∷ 2 ∷ 0x78 ∷ []) []  -- an argument of another class
    ∷ code 230 (0x04 ∷ 0x78 ∷ []) []
    ∷ code 240 (0x18 ∷ 0x8B ∷ 0 ∷ 1 ∷ 0x78 ∷ []) []  -- a method that is abstract, or of another class
    ∷ code 250 (0x18 ∷ 0x94 ∷ 0 ∷ 0 ∷ 0 ∷ 0x3B ∷ 0x04 ∷ 0x78 ∷ []) []  -- a cast
    ∷ code 260 (0x18 ∷ 0x03 ∷ 0x8E ∷ 2 ∷ 0 ∷ 4 ∷ 0 ∷ 0x78 ∷ []) []  -- a method of Asked, on 0
    ∷ code 270 (0x04 ∷ 0x78 ∷ []) []  -- a header with one argument more than its method takes
    ∷ code 280 (0x8D ∷ 0 ∷ 5 ∷ 0x78 ∷ []) []  -- a call of it
    ∷ code 290 (0x18 ∷ 0x03 ∷ 0x25 ∷ 0x78 ∷ []) []  -- component 0 of an array of bytes
    ∷ [])

-- ---- a package that asks the runtime for an applet's shareable object: its method calls a static method of JCSystem,
-- and then returns 1

abbrev pub asker : Package
asker =
    a_package 3 (default_framework ∷ default_lang ∷ []) []
    (a_class 0 object_ref 0 [] [] [] (a_method 1 0 true [] 0 0 2 ∷ []) ∷ [])
    (StaticMethodref (places.External 0 8 3) ∷ [])
    (code 1 (0x01 ∷ 0x03 ∷ 0x8D ∷ 0 ∷ 0 ∷ 0x3B ∷ 0x04 ∷ 0x78 ∷ []) [] ∷ [])
