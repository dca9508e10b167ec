-- Packages in folders: the image in a folder, and the first fault if there is none.
use Rattle.std.specs.Prelude.{◌≡◌, ◌++◌, ◌∷◌, [], ℕ, List, Option, Some, None, codes}
use Rattle.std.specs.List.{AllZip}
use Rattle.std.specs.IoError.{error_kind}
use Rattle.std.specs.Path.{path_join}
use Rattle.std.specs.declared.io.Error.{Error}
use Rattle.std.specs.declared.io.ErrorKind.TheVariants.{NotFound}
use Rattle.jc_host.specs.Files.{Entry, IsContent, IsFaultAt, IsFile, IsIrregular, IsLonger}
use Rattle.jc_host.specs.Files.Entry.{failing, folder}
use Rattle.jc_host.specs.declared.files.FileCause.{FileCause}
use Rattle.jc_host.specs.declared.files.FileCause.TheVariants.{System, NoFolder, NotRegular, TooLong, NotText}
use Rattle.jc_host.specs.declared.files.FileCause.TheVariants.{LongCertificate, NoBinding, NoCertificate}
use Rattle.jc_host.specs.declared.files.FileFault.{FileFault}

-- the component files of a package, in the order in which they make an image
abbrev pub components : List (List ℕ)
components =
    codes "Header.cap" ∷ codes "Applet.cap" ∷ codes "Import.cap" ∷ codes "ConstantPool.cap" ∷ codes "Class.cap"
    ∷ codes "Method.cap" ∷ codes "StaticField.cap" ∷ codes "Export.cap" ∷ codes "Descriptor.cap" ∷ []

-- the most bytes of a component's file: a tag, a size of two bytes, and the greatest such size
abbrev pub most_component : ℕ
most_component = 65538

-- the image of files: the bytes of each existing one, one after the other
abbrev pub image_of : List (Option (List ℕ)) → List ℕ
image_of [] = []
image_of (None ∷ more) = image_of more
image_of (Some bytes ∷ more) = bytes ++ image_of more

-- there is nothing at a path
pub record IsAbsent (holds : Entry → Type 0) : Type 0 where
  pub error : Error
  pub told : holds (failing error)
  pub kind : error_kind error ≡ NotFound

-- the file of a component has these bytes, or doesn't exist
abbrev pub IsComponent : (Entry → Type 0) → Option (List ℕ) → Type 0
IsComponent holds None = IsAbsent holds
IsComponent holds (Some bytes) = IsContent holds most_component bytes

-- why the file of a component isn't read, although something is there
abbrev pub IsNoComponent : (Entry → Type 0) → FileCause → Type 0
IsNoComponent holds (System error) = holds (failing error) × (error_kind error ≡ NotFound → ⊥)
IsNoComponent holds NoFolder = ⊥
IsNoComponent holds NotRegular = IsIrregular holds
IsNoComponent holds (TooLong limit) = (limit ≡ most_component) × IsLonger holds most_component
IsNoComponent holds NotText = ⊥
IsNoComponent holds (NoBinding fault) = ⊥
IsNoComponent holds NoCertificate = ⊥
IsNoComponent holds (LongCertificate limit) = ⊥

-- why there is no folder at a path
abbrev pub IsNoFolder : (Entry → Type 0) → FileCause → Type 0
IsNoFolder holds (System error) = holds (failing error)
IsNoFolder holds NoFolder = IsFile holds
IsNoFolder holds NotRegular = ⊥
IsNoFolder holds (TooLong limit) = ⊥
IsNoFolder holds NotText = ⊥
IsNoFolder holds (NoBinding fault) = ⊥
IsNoFolder holds NoCertificate = ⊥
IsNoFolder holds (LongCertificate limit) = ⊥

-- the first fault of names that are read in order: those before it are read
pub data FailsFirst {A : Type 0} (IsRead : List ℕ → A → Type 0) (Fails : List ℕ → FileFault → Type 0)
    : List (List ℕ) → FileFault → Type 0 where
  here : (name : List ℕ) (names : List (List ℕ)) (fault : FileFault) → Fails name fault
      → FailsFirst IsRead Fails (name ∷ names) fault
  later : (name : List ℕ) (names : List (List ℕ)) (read : A) (fault : FileFault) → IsRead name read
      → FailsFirst IsRead Fails names fault
      → FailsFirst IsRead Fails (name ∷ names) fault

-- the file in a folder with a component's name has these bytes, or doesn't exist
abbrev pub IsComponentIn : (List ℕ → Entry → Type 0) → List ℕ → List ℕ → Option (List ℕ) → Type 0
IsComponentIn holds folder_path name = IsComponent (holds (path_join folder_path name))

-- the fault of the file in a folder with a component's name
abbrev pub IsComponentFault : (List ℕ → Entry → Type 0) → List ℕ → List ℕ → FileFault → Type 0
IsComponentFault holds folder_path name =
    let path = path_join folder_path name in IsFaultAt path (IsNoComponent (holds path))

-- the files in a folder with these names make these bytes
pub record AreJoined (holds : List ℕ → Entry → Type 0) (folder_path : List ℕ) (names : List (List ℕ)) (bytes : List ℕ)
    : Type 0 where
  pub files : List (Option (List ℕ))
  pub read : AllZip (IsComponentIn holds folder_path) names files
  pub joined : bytes ≡ image_of files

-- the image of the package in a folder
pub record IsImage (holds : List ℕ → Entry → Type 0) (folder_path image : List ℕ) : Type 0 where
  pub there : holds folder_path folder
  pub joined : AreJoined holds folder_path components image

-- why a folder has no image: there is no folder, or one of its files isn't read
pub data IsFolderFault (holds : List ℕ → Entry → Type 0) (folder_path : List ℕ) (fault : FileFault) : Type 0 where
  no_folder : IsFaultAt folder_path (IsNoFolder (holds folder_path)) fault → IsFolderFault holds folder_path fault
  component : holds folder_path folder
      → FailsFirst (IsComponentIn holds folder_path) (IsComponentFault holds folder_path) components fault
      → IsFolderFault holds folder_path fault
