use Rattle.std.proofs.Common.{◌≡◌, List, ℕ, sym, subst, ◌∙◌}
use Rattle.jc_base.proofs.Binding.{the_some}
use Rattle.jc_api.specs.Bound.{Bound, default_lang, default_framework, default_classes, default_members}
use Rattle.jc_api.specs.NoClash.{HasNoClash}
use Rattle.jc_api.proofs.DefaultSound.{default_sound}
use Rattle.jc_api.proofs.binding.Binding.default_table.Goals as goal

-- the table with these AIDs
abbrev with_aids : List ℕ → List ℕ → Bound
with_aids lang framework = record {
  lang = record { minor = 0; major = 1; aid = lang };
  framework = record { minor = 0; major = 1; aid = framework };
  classes = default_classes;
  members = default_members;
}

pub invariant_of-result : goal.invariant_of-result
invariant_of-result c =
    let first : default_lang.aid ≡ c.unwrap.result = the_some _ _ (sym c.from_slice.ensures ∙ c.unwrap.ensures) in
    let second : default_framework.aid ≡ c.unwrap-2.result = the_some _ _ (sym c.from_slice-2.ensures ∙ c.unwrap-2.ensures) in
    subst (λ a. HasNoClash (with_aids c.unwrap.result a)) second (subst (λ a. HasNoClash (with_aids a default_framework.aid)) first default_sound)
