-- The binding of the API's packages in a file, and why there is none.
use Rattle.std.specs.Prelude.{◌≡◌, ℕ, List, Option, Some, None, Ok, Err}
use Rattle.std.specs.Borrow.{Bor}
use Rattle.std.specs.Str.{IsUtf8}
use Rattle.jc_api.specs.Binding.{binding_of}
use Rattle.jc_api.specs.Bound.{Bound, default_binding}
use Rattle.jc_api.specs.declared.fault.BindingFault.{BindingFault}
use Rattle.jc_host.specs.Files.{Entry, IsContent, IsFaultAt, IsLonger}
use Rattle.jc_host.specs.Files.Entry.{failing}
use Rattle.jc_host.specs.declared.files.FileCause.{FileCause}
use Rattle.jc_host.specs.declared.files.FileCause.TheVariants.{System, NoFolder, NotRegular, TooLong, NotText}
use Rattle.jc_host.specs.declared.files.FileCause.TheVariants.{LongCertificate, NoBinding, NoCertificate}
use Rattle.jc_host.specs.declared.files.FileFault.{FileFault}

-- the most bytes of the file of a binding
abbrev pub most_binding : ℕ
most_binding = 1048576

-- bytes are a text that encodes this binding
pub record SaysBinding (bytes : List ℕ) (binding : Bound) : Type 0 where
  pub text : IsUtf8 bytes
  pub says : binding_of bytes ≡ Ok binding

-- bytes are a text that is no binding, with this fault
pub record SaysNoBinding (bytes : List ℕ) (fault : BindingFault) : Type 0 where
  pub text : IsUtf8 bytes
  pub says : binding_of bytes ≡ Err fault

-- why bytes encode no binding
abbrev pub IsNoBinding : List ℕ → FileCause → Type 0
IsNoBinding bytes (System error) = ⊥
IsNoBinding bytes NoFolder = ⊥
IsNoBinding bytes NotRegular = ⊥
IsNoBinding bytes (TooLong most) = ⊥
IsNoBinding bytes NotText = IsUtf8 bytes → ⊥
IsNoBinding bytes (NoBinding fault) = SaysNoBinding bytes fault
IsNoBinding bytes NoCertificate = ⊥
IsNoBinding bytes (LongCertificate limit) = ⊥

-- the file at a path encodes this binding
pub record HasBinding (holds : Entry → Type 0) (binding : Bound) : Type 0 where
  pub bytes : List ℕ
  pub content : IsContent holds most_binding bytes
  pub says : SaysBinding bytes binding

-- the file at a path is read, and encodes no binding
pub record HasNoBinding (holds : Entry → Type 0) (cause : FileCause) : Type 0 where
  pub bytes : List ℕ
  pub content : IsContent holds most_binding bytes
  pub says : IsNoBinding bytes cause

-- why no binding is read at a path
abbrev pub IsUnbound : (Entry → Type 0) → FileCause → Type 0
IsUnbound holds (System error) = holds (failing error)
IsUnbound holds NoFolder = ⊥
IsUnbound holds NotRegular = ⊥
IsUnbound holds (TooLong limit) = (limit ≡ most_binding) × IsLonger holds most_binding
IsUnbound holds NotText = HasNoBinding holds NotText
IsUnbound holds (NoBinding fault) = HasNoBinding holds (NoBinding fault)
IsUnbound holds NoCertificate = ⊥
IsUnbound holds (LongCertificate limit) = ⊥

-- the binding in the file that is named, or the default one
abbrev pub IsBindingFor : (List ℕ → Entry → Type 0) → Option (Bor (List ℕ)) → Bound → Type 0
IsBindingFor holds None binding = binding ≡ default_binding
IsBindingFor holds (Some path) binding = HasBinding (holds path.now) binding

-- the fault of the file of a binding, if one is named
abbrev pub IsBindingFault : (List ℕ → Entry → Type 0) → Option (Bor (List ℕ)) → FileFault → Type 0
IsBindingFault holds None fault = ⊥
IsBindingFault holds (Some path) fault = IsFaultAt path.now (IsUnbound (holds path.now)) fault
