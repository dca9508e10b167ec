-- What is claimed is what is stated, type by type, with the classes found.
use Rattle.std.proofs.Common.{◌≡◌, ℕ, suc, ◌≤◌, List, [], ◌∷◌, ◌++◌, length, drop, Option, Some, None, refl, sym, ap, ◌∙◌, arith}
use Rattle.std.specs.Prelude.{slice_get, option_map}
use Rattle.jc_base.proofs.Binding.{the_some}
use Rattle.jc_cert.specs.Cert.{Stated}
use Rattle.jc_cert.specs.declared.stated_type.SpelledClass.{SpelledClass}
use Rattle.jc_cert.specs.declared.stated_type.StatedType.{StatedType}
use Rattle.jc_names.specs.declared.name.ClassName.{ClassName}
use Rattle.jc_types.specs.declared.ty.Ty.{Ty}
use Rattle.jc_check.specs.Rules.{Rules}
use Rattle.jc_check.specs.Method.{CheckedMethod}
use Rattle.jc_check.specs.Claim.{Claim, type_claimed, types_claimed, claim_of}
use Rattle.jc_check.specs.Carried.{has_shape}
use Rattle.jc_check.specs.PrivateMarks.{claim_fits}
use Rattle.jc_check.proofs.Pieces.{drop_get, drop_all, append_nil, and_then_some, map_some}

as_many : (class_of : SpelledClass → Option ClassName) (types : List StatedType) (found : List Ty) → types_claimed class_of types ≡ Some found → length found ≡ length types
as_many class_of [] found e = ap (λ (ts : List Ty). length ts) (sym (the_some [] found e))
as_many class_of (t ∷ ts) found e =
    let one = and_then_some _ (type_claimed class_of t) found e in
    let more = map_some (λ us. one.0 ∷ us) (types_claimed class_of ts) found one.2 in
    ap (λ (us : List Ty). length us) (sym more.2) ∙ ap suc (as_many class_of ts more.0 more.1)

-- a claim as it was made
pub record IsMade (c : Stated) (d : Claim) : Type 0 where
  pub pc : d.pc ≡ c.pc
  pub locals : length d.locals ≡ length c.locals
  pub operands : length d.operands ≡ length c.operands

pub made : (rules : Rules) (c : Stated) (d : Claim) → claim_of rules c ≡ Some d → IsMade c d
unfolding claim_of
made rules c d e = grind (arith, and_then_some, map_some, length, as_many)

-- it has the shape of what was stated
pub same_shape : (rules : Rules) (m : CheckedMethod) (c : Stated) (d : Claim) → claim_of rules c ≡ Some d → claim_fits m d ≡ has_shape m c
same_shape rules m c d e = let k = made rules c d e in rw (k.locals, k.operands) refl

-- ---- types one after the other, as a loop finds them

-- with those that are found already
abbrev pub with_found : List Ty → Option (List Ty) → Option (List Ty)
with_found found o = option_map (λ more. found ++ more) o

pub none_found : (class_of : SpelledClass → Option ClassName) (types : List StatedType) (k : ℕ) (t : StatedType) (found : List Ty) (total : Option (List Ty)) → slice_get types k ≡ Some t → type_claimed class_of t ≡ None
    → with_found found (types_claimed class_of (drop k types)) ≡ total → None ≡ total
none_found class_of types k t found total at is so_far = grind (arith, drop_get, drop)

pub all_found : (class_of : SpelledClass → Option ClassName) (types : List StatedType) (k : ℕ) (found : List Ty) (total : Option (List Ty)) → length types ≤ k → with_found found (types_claimed class_of (drop k types)) ≡ total → Some found ≡ total
all_found class_of types k found total le so_far = grind (arith, append_nil, drop_all)
