-- The part of a linked package that is kept: its shape in the table of classes, and this part of its body.
use Rattle.std.specs.Prelude.{List, Option}
use Rattle.jc_cap.specs.Statics.{StaticImage}
use Rattle.jc_cap.specs.declared.applets.Applet.{Applet}
use Rattle.jc_cap_desc.specs.Shape.{Body, MethodBody}
use Rattle.jc_cap.specs.declared.entry.PoolEntry.{PoolEntry}

-- the applets, or none if it is a library; the constant pool; the static fields; and the methods with code
pub record Kept : Type 0 where
  pub applets : Option (List Applet)
  pub pool : List PoolEntry
  pub statics : StaticImage
  pub methods : List MethodBody

abbrev pub kept_of : Body → Kept
kept_of b = record { applets = b.applets; pool = b.pool; statics = b.statics; methods = b.methods }
