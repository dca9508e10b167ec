-- The contents of a class's record. An interface declares no cells and no methods, and lists its superinterfaces.
use Rattle.std.specs.Prelude.{ℕ, List, []}
use Rattle.jc_cap.specs.Interfaces.{Implemented}
use Rattle.jc_cap.specs.declared.interfaces.Superinterface.{Superinterface}
use Rattle.jc_cap.specs.declared.record.RecordBody.{RecordBody}
use Rattle.jc_cap.specs.declared.record.RecordBody.TheVariants.{Interface, Class}

-- how many cells of an object a class itself declares
abbrev pub declared_size : RecordBody → ℕ
declared_size (Interface r) = 0
declared_size (Class r) = r.declared_size

-- the entries of the two tables of virtual methods
abbrev pub public_entries : RecordBody → List ℕ
public_entries (Interface r) = []
public_entries (Class r) = r.public_methods.methods

abbrev pub package_entries : RecordBody → List ℕ
package_entries (Interface r) = []
package_entries (Class r) = r.package_methods.methods

-- the interfaces that an interface extends
abbrev pub superinterfaces : RecordBody → List Superinterface
superinterfaces (Interface r) = r.superinterfaces
superinterfaces (Class r) = []

-- the rows of the interfaces that a class implements
abbrev pub interface_rows : RecordBody → List Implemented
interface_rows (Interface r) = []
interface_rows (Class r) = r.interfaces
