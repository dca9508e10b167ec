-- Names that are read in their order, and the faults of files.
use Rattle.std.proofs.Common.{◌≡◌, ◌∙◌, sym, ap, subst, ℕ, zero, suc, List, [], ◌∷◌, ◌++◌, ◌+◌, ◌<◌, length, get_or}
use Rattle.std.proofs.Common.{take, map, Vec, Global, arith}
use Rattle.std.specs.Prelude.{Option, Some, None, refl}
use Rattle.std.specs.Borrow.{Bor}
use Rattle.std.specs.List.{AllZip}
use Rattle.std.specs.Path.{path_join}
use Rattle.std.proofs.lemmas.List.{append_assoc, map-append, take_more}
use Rattle.std.proofs.lemmas.Slice.Zip.{all_zipped_more}
use Rattle.jc_host.specs.Files.{Entry, OfFile}
use Rattle.jc_host.specs.Folders.{AreJoined, FailsFirst, IsComponentIn, image_of}
use Rattle.jc_host.specs.Folders.FailsFirst.{here, later}
use Rattle.jc_host.specs.PrivateFolders.{IsPutBehind}
use Rattle.jc_host.specs.declared.files.FileFault.{FileFault}
use Rattle.jc_host.specs.declared.files.ReadFault.{ReadFault}
use Rattle.jc_host.specs.declared.files.ReadFault.TheVariants.{File, Memory}

-- names as they are lent
abbrev pub names_of : List (Bor (List ℕ)) → List (List ℕ)
names_of = map (λ name. name.now)

-- one name more is read
pub one_further : {A : Type 0} (R : List ℕ → A → Type 0) (names : List (Bor (List ℕ))) (i : ℕ) (d : Bor (List ℕ))
    (read : List A) (more : A) → i < length names
    → R (get_or names i d).now more → AllZip R (names_of (take i names)) read
    → AllZip R (names_of (take (i + 1) names)) (read ++ more ∷ [])
one_further R names i d read more h one all =
    let name = (get_or names i d).now in
    let named : names_of (take (i + 1) names) ≡ names_of (take i names) ++ name ∷ [] =
    ap names_of (take_more names i d h) ∙ map-append (λ n. n.now) (take i names) (get_or names i d ∷ []) in
    subst (λ ns. AllZip R ns (read ++ more ∷ [])) (sym named)
    (all_zipped_more R (names_of (take i names)) read name more all one)

-- images as they are held
abbrev pub images_of : List (Vec ℕ Global) → List (List ℕ)
images_of = map (λ image. image.items)

-- one image more is read
pub image_further : (R : List ℕ → List ℕ → Type 0) (names : List (Bor (List ℕ))) (i : ℕ) (d : Bor (List ℕ))
    (before after : List (Vec ℕ Global)) (image : Vec ℕ Global)
    → i < length names → R (get_or names i d).now image.items → after ≡ before ++ image ∷ []
    → AllZip R (names_of (take i names)) (images_of before)
    → AllZip R (names_of (take (i + 1) names)) (images_of after)
image_further R names i d before after image h one behind all =
    let items : images_of after ≡ images_of before ++ image.items ∷ [] =
    ap images_of behind ∙ map-append (λ v. v.items) before (image ∷ []) in
    subst (λ read. AllZip R (names_of (take (i + 1) names)) read) (sym items)
    (one_further R names i d (images_of before) image.items h one all)

-- the first that fails, behind such that are read
pub fails_at : {A : Type 0} (R : List ℕ → A → Type 0) (Fails : List ℕ → FileFault → Type 0)
    (names : List (Bor (List ℕ))) (i : ℕ) (d : Bor (List ℕ)) (read : List A) (fault : FileFault)
    → i < length names → AllZip R (names_of (take i names)) read → Fails (get_or names i d).now fault
    → FailsFirst R Fails (names_of names) fault
fails_at R Fails [] i d read fault h all fails = absurd (omega (arith, h))
fails_at R Fails (n ∷ ns) zero d read fault h all fails = here n.now (names_of ns) fault fails
fails_at R Fails (n ∷ ns) (suc i) d [] fault h all fails = absurd all
fails_at R Fails (n ∷ ns) (suc i) d (r ∷ read) fault h all fails =
    later n.now (names_of ns) r fault all.0 (fails_at R Fails ns i d read fault (omega (arith, h)) all.1 fails)

-- one fault is another
pub of_file : (P Q : FileFault → Type 0) (fault : ReadFault) → ((f : FileFault) → P f → Q f) → OfFile P fault
    → OfFile Q fault
of_file P Q (File f) h told = h f told
of_file P Q Memory h told = told

-- the first fault of names, told as the fault of one of them
pub first_fault : {A : Type 0} (R : List ℕ → A → Type 0) (Fails : List ℕ → FileFault → Type 0)
    (names : List (Bor (List ℕ))) (i : ℕ) (d : Bor (List ℕ)) (read : List A)
    (fault : ReadFault) → i < length names → AllZip R (names_of (take i names)) read
    → OfFile (Fails (get_or names i d).now) fault → OfFile (FailsFirst R Fails (names_of names)) fault
first_fault R Fails names i d read fault h all =
    of_file (Fails (get_or names i d).now) (FailsFirst R Fails (names_of names)) fault
    (λ f told. fails_at R Fails names i d read f h all told)

-- the image of files behind others
image_of-append : (one other : List (Option (List ℕ))) → image_of (one ++ other) ≡ image_of one ++ image_of other
image_of-append [] other = refl
image_of-append (None ∷ one) other = image_of-append one other
image_of-append (Some bytes ∷ one) other = ap (λ image. bytes ++ image) (image_of-append one other)
    ∙ sym (append_assoc bytes (image_of one) (image_of other))

-- one file more is joined
pub joined_further : (holds : List ℕ → Entry → Type 0) (folder : List ℕ) (names : List (Bor (List ℕ))) (i : ℕ)
    (d : Bor (List ℕ)) (before after : List ℕ) → i < length names
    → AreJoined holds folder (names_of (take i names)) before
    → IsPutBehind (holds (path_join folder (get_or names i d).now)) before after
    → AreJoined holds folder (names_of (take (i + 1) names)) after
joined_further holds folder names i d before after h was put = record {
  files = was.files ++ put.file ∷ [];
  read = one_further (IsComponentIn holds folder) names i d was.files put.file h put.read was.read;
  joined = put.behind ∙ ap (λ bytes. bytes ++ image_of (put.file ∷ [])) was.joined
      ∙ sym (image_of-append was.files (put.file ∷ []));
}
