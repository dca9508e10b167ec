-- The tests across components, which a package has passed where nothing is told of it.
use Rattle.std.proofs.Common.{◌≡◌, true, List, Option, Some, None, arith}
use Rattle.std.specs.List.{list_all}
use Rattle.jc_base.specs.declared.placed_rows.Placed.{Placed}
use Rattle.jc_base.proofs.Binding.{both_true}
use Rattle.jc_cap.specs.declared.record.Record.{Record}
use Rattle.jc_cap.specs.declared.applets.Applet.{Applet}
use Rattle.jc_cap.specs.MethodComponent.{MethodComponent}
use Rattle.jc_cap.specs.declared.entry.PoolEntry.{PoolEntry}
use Rattle.jc_cap_desc.proofs.Few.{is_fine, none_told}
use Rattle.jc_cap_desc.specs.Across.{applets_install, class_methods, is_described, methods_differ}
use Rattle.jc_cap_desc.specs.Across.{rows_match, stands_inside}
use Rattle.jc_cap_desc.specs.Package.{across_fault}
use Rattle.jc_cap_desc.specs.declared.component.DescriptorInfo.{DescriptorInfo}

pub record IsTested (records : List (Placed Record)) (info : DescriptorInfo) (methods : MethodComponent)
    (applets : Option (List Applet)) : Type 0 where
  pub matched : rows_match records info.classes ≡ true
  pub differ : methods_differ records info.classes ≡ true
  pub inside : list_all (stands_inside methods) (class_methods records info.classes) ≡ true
  pub described : list_all (is_described methods) (class_methods records info.classes) ≡ true
  pub install : (found : List Applet) → applets ≡ Some found
      → applets_install records info.classes info.types found ≡ true

pub tested : (info : DescriptorInfo) (records : List (Placed Record)) (pool : Option (List PoolEntry))
    (applets : Option (List Applet)) (methods : MethodComponent)
    → across_fault (Some info) (Some records) pool (Some applets) (Some methods) ≡ None
    → IsTested records info methods applets
tested info records pool applets methods e = grind (arith, none_told, is_fine, both_true)
