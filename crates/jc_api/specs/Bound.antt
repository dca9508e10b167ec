-- A binding: the AIDs and versions of the packages, and the tokens of classes and members, by their numbers.
use Rattle.std.specs.Prelude.{ℕ, List, [], ◌∷◌}
use Rattle.jc_base.specs.declared.package_info.PackageInfo.{PackageInfo}
use Rattle.jc_api.specs.declared.class.ApiPackage.{ApiPackage}
use Rattle.jc_api.specs.declared.class.ApiPackage.TheVariants.{Lang, Framework}

pub record Bound : Type 0 where
  pub lang : PackageInfo
  pub framework : PackageInfo
  pub classes : List ℕ
  pub members : List ℕ

abbrev pub package_in : Bound → ApiPackage → PackageInfo
package_in bound Lang = bound.lang
package_in bound Framework = bound.framework

-- the table that is used if none is given
abbrev pub default_lang : PackageInfo
default_lang = record { minor = 0; major = 1; aid = 0xF0 ∷ 0x4A ∷ 0x43 ∷ 0x01 ∷ 0x01 ∷ [] }

abbrev pub default_framework : PackageInfo
default_framework = record { minor = 0; major = 1; aid = 0xF0 ∷ 0x4A ∷ 0x43 ∷ 0x01 ∷ 0x02 ∷ [] }

abbrev pub default_classes : List ℕ
default_classes =
    0 ∷ 1 ∷ 2 ∷ 3 ∷ 4 ∷ 5 ∷ 6 ∷ 7 ∷ 8 ∷ 9 ∷ 10 ∷ 11  -- java.lang
    ∷ 0 ∷ 1 ∷ 2 ∷ 3 ∷ 4 ∷ 5 ∷ 6 ∷ 7 ∷ 8 ∷ 9 ∷ []  -- javacard.framework

abbrev pub default_members : List ℕ
default_members =
    0 ∷ 0  -- Object
    ∷ 0 ∷ 0 ∷ 0 ∷ 0 ∷ 0 ∷ 0 ∷ 0 ∷ 0 ∷ 0 ∷ 0 ∷ 0  -- Throwable to SecurityException
    ∷ 0 ∷ 1 ∷ 2  -- CardRuntimeException
    ∷ 0 ∷ 1 ∷ 0 ∷ 1 ∷ 0 ∷ 1  -- ISOException, SystemException, APDUException
    ∷ 0 ∷ 1 ∷ 2  -- AID
    ∷ 1 ∷ 2 ∷ 3 ∷ 4 ∷ 5 ∷ 6 ∷ 7  -- APDU
    ∷ 0 ∷ 1 ∷ 2 ∷ 3 ∷ 4 ∷ 5 ∷ 6 ∷ 7  -- Applet
    ∷ 0 ∷ 1 ∷ 2 ∷ 3 ∷ 4 ∷ 5 ∷ 6 ∷ 7  -- JCSystem
    ∷ 0 ∷ 1 ∷ 2 ∷ 3 ∷ 4 ∷ 5 ∷ 6 ∷ []  -- Util

abbrev pub default_binding : Bound
default_binding = record {
  lang = default_lang;
  framework = default_framework;
  classes = default_classes;
  members = default_members;
}
