-- Names that are told to be the same are the same.
use Rattle.std.proofs.Common.{◌≡◌, true, Some, ap, sym, ◌∙◌, arith}
use Rattle.std.proofs.lemmas.Bool.{eqb-true, eq-eqb}
use Rattle.jc_api.specs.Class.{class_of, number_of}
use Rattle.jc_api.specs.declared.class.ApiClass.{ApiClass}
use Rattle.jc_names.specs.Names.{is_same_name}
use Rattle.jc_names.specs.declared.name.ClassName.{ClassName}
use Rattle.jc_link.proofs.GrownParts.{the_some}
use Rattle.jc_link.proofs.Nones.{true_false, left_true, right_true}

pub numbered_again : (a : ApiClass) → class_of (number_of a) ≡ Some a
numbered_again a = grind arith

pub same_number : (a b : ApiClass) → number_of a ≡ number_of b → a ≡ b
same_number a b e = the_some a b (sym (numbered_again a) ∙ ap class_of e ∙ numbered_again b)

pub same_name : (c d : ClassName) → is_same_name c d ≡ true → c ≡ d
same_name c d h1 = grind (arith, same_number, eqb-true, left_true, right_true, true_false)

pub name_itself : (c : ClassName) → is_same_name c c ≡ true
name_itself c = grind (arith, eq-eqb)
