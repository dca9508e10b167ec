-- The components of an image (Java Card Virtual Machine Specification, CAP file format: Component model).
use Rattle.std.specs.Prelude.{ℕ, List, Option}

-- the infos of an image: required ones and optional ones
pub record Infos : Type 0 where
  pub header : List ℕ
  pub applet : Option (List ℕ)
  pub imports : Option (List ℕ)
  pub constant_pool : List ℕ
  pub class : List ℕ
  pub method : List ℕ
  pub static_field : List ℕ
  pub export : Option (List ℕ)
  pub descriptor : List ℕ
