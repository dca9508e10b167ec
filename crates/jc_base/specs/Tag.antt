-- The tags of components (Java Card Virtual Machine Specification, CAP file format: Component model).
use Rattle.std.specs.Prelude.{ℕ}

abbrev pub header_tag : ℕ
header_tag = 1

abbrev pub applet_tag : ℕ
applet_tag = 3

abbrev pub import_tag : ℕ
import_tag = 4

abbrev pub constant_pool_tag : ℕ
constant_pool_tag = 5

abbrev pub class_tag : ℕ
class_tag = 6

abbrev pub method_tag : ℕ
method_tag = 7

abbrev pub static_field_tag : ℕ
static_field_tag = 8

abbrev pub export_tag : ℕ
export_tag = 10

abbrev pub descriptor_tag : ℕ
descriptor_tag = 11
