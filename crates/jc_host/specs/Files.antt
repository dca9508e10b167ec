-- Files: what the system reports for a path, what is read and written there, and the faults, with their words.
use Rattle.std.specs.Prelude.{⊤, ◌≡◌, ◌<◌, ◌≤◌, ◌++◌, ◌==◌, ◌&&◌, ◌||◌, ℕ, Bool, true, false, not, List, length, codes}
use Rattle.std.specs.Prelude.{Option, Some, None, is_some, option_map, position, if◌then◌else◌}
use Rattle.std.specs.Char.{is_ascii_control}
use Rattle.std.specs.Fmt.{decimal}
use Rattle.std.specs.IoError.{error_kind}
use Rattle.std.specs.List.{AllByRecursion}
use Rattle.std.specs.Option.{option_and_then}
use Rattle.std.specs.String.{string_bytes}
use Rattle.std.specs.declared.io.Error.{Error}
use Rattle.std.specs.declared.io.ErrorKind.TheVariants.{OutOfMemory}
use Rattle.jc_api.specs.Fault.{words_of}
use Rattle.jc_host.specs.declared.files.FileCause.{FileCause}
use Rattle.jc_host.specs.declared.files.FileCause.TheVariants.{System, NoFolder, NotRegular, TooLong, NotText}
use Rattle.jc_host.specs.declared.files.FileCause.TheVariants.{LongCertificate, NoBinding, NoCertificate}
use Rattle.jc_host.specs.declared.files.FileFault.{FileFault}
use Rattle.jc_host.specs.declared.files.ReadFault.{ReadFault}
use Rattle.jc_host.specs.declared.files.ReadFault.TheVariants.{File, Memory}

-- what the system reports for a path: a folder, or a file with these bytes, or something else, such as a pipe or a
-- device, or an error
pub data Entry : Type 0 where
  folder : Entry
  file : List ℕ → Entry
  other : Entry
  failing : Error → Entry

-- bytes that were written to the file at a path
pub record Written : Type 0 where
  pub path : List ℕ
  pub bytes : List ℕ

-- these files were written, in order, after whatever was written before
abbrev pub IsWritten : (List Written → Type 0) → (List Written → Type 0) → List Written → Type 0
IsWritten before after files = (earlier : List Written) → before earlier → after (earlier ++ files)

-- after what was written before, the file at a path was written, and no other
pub record WroteAlone (path : List ℕ) (after : List Written → Type 0) (earlier : List Written) : Type 0 where
  pub files : List Written
  pub alone : AllByRecursion (λ (w : Written). w.path ≡ path) files
  pub wrote : after (earlier ++ files)

abbrev pub WritesAlone : (before after : List Written → Type 0) → List ℕ → Type 0
WritesAlone before after path = (earlier : List Written) → before earlier → WroteAlone path after earlier

-- something that isn't a folder
abbrev pub is_file : Entry → Bool
is_file folder = false
is_file (file bytes) = true
is_file other = true
is_file (failing error) = false

-- something that isn't a regular file
abbrev pub is_irregular : Entry → Bool
is_irregular folder = true
is_irregular (file bytes) = false
is_irregular other = true
is_irregular (failing error) = false

-- there is a file at a path, a regular one or another
pub record IsFile (holds : Entry → Type 0) : Type 0 where
  pub entry : Entry
  pub held : holds entry
  pub is : is_file entry ≡ true

-- there is no regular file at a path
pub record IsIrregular (holds : Entry → Type 0) : Type 0 where
  pub entry : Entry
  pub held : holds entry
  pub is : is_irregular entry ≡ true

-- there is a file of more than `most` bytes at a path
pub record IsLonger (holds : Entry → Type 0) (most : ℕ) : Type 0 where
  pub bytes : List ℕ
  pub held : holds (file bytes)
  pub more : most < length bytes

-- the file at a path has these bytes, at most `most`
pub record IsContent (holds : Entry → Type 0) (most : ℕ) (bytes : List ℕ) : Type 0 where
  pub held : holds (file bytes)
  pub within : length bytes ≤ most

-- why no file of at most `most` bytes is read: the system reports an error, or the file has more
abbrev pub IsUnread : (Entry → Type 0) → ℕ → FileCause → Type 0
IsUnread holds most (System error) = holds (failing error)
IsUnread holds most NoFolder = ⊥
IsUnread holds most NotRegular = ⊥
IsUnread holds most (TooLong limit) = (limit ≡ most) × IsLonger holds most
IsUnread holds most NotText = ⊥
IsUnread holds most (NoBinding fault) = ⊥
IsUnread holds most NoCertificate = ⊥
IsUnread holds most (LongCertificate limit) = ⊥

-- the most bytes of the file of a certificate
abbrev pub most_certificate : ℕ
most_certificate = 1048576

-- why a certificate isn't written: the system reports an error, or it has more bytes than a file of one may have
abbrev pub IsUnwritten : (Entry → Type 0) → List ℕ → FileCause → Type 0
IsUnwritten holds bytes (System error) = holds (failing error)
IsUnwritten holds bytes NoFolder = ⊥
IsUnwritten holds bytes NotRegular = ⊥
IsUnwritten holds bytes (TooLong limit) = ⊥
IsUnwritten holds bytes NotText = ⊥
IsUnwritten holds bytes (NoBinding fault) = ⊥
IsUnwritten holds bytes NoCertificate = ⊥
IsUnwritten holds bytes (LongCertificate limit) = (limit ≡ most_certificate) × (most_certificate < length bytes)

-- the words of a cause, except those of the system
abbrev pub cause_text : FileCause → Option (List ℕ)
cause_text (System error) = None
cause_text NoFolder = Some (codes "it isn't a folder; tools/uncap makes one of a CAP file")
cause_text NotRegular = Some (codes "it isn't a regular file")
cause_text (TooLong most) = Some ((codes "it has more than " ++ decimal most) ++ codes " bytes")
cause_text NotText = Some (codes "it isn't UTF-8")
cause_text (NoBinding fault) = Some (codes "it is no binding: " ++ words_of fault)
cause_text NoCertificate = Some (codes "it is no certificate, and stays as it is")
cause_text (LongCertificate most) =
    Some ((codes "the certificate has more than " ++ decimal most) ++ codes " bytes, and isn't written")

-- whether characters that are invisible, or that change the direction of a text, begin with a byte in UTF-8
abbrev pub may_hide : ℕ → Bool
may_hide b = b == 194 || (b == 216 || (b == 226 || b == 239))

-- a byte that is written unchanged: no control byte of ASCII, and no first byte of such characters
abbrev pub is_plain_byte : ℕ → Bool
is_plain_byte b = not (is_ascii_control b) && not (may_hide b)

-- the index of the first other byte
abbrev pub odd_byte : List ℕ → Option ℕ
odd_byte name = position (λ b. not (is_plain_byte b)) name

-- a name for output. A name with another byte is written in another way
abbrev pub name_text : List ℕ → Option (List ℕ)
name_text name = if is_some (odd_byte name) then None else Some name

-- the line of a file's fault: first its name
abbrev pub file_line : FileFault → Option (List ℕ)
file_line fault =
    option_and_then (λ name. option_map (λ text. (name ++ codes ": ") ++ text) (cause_text fault.cause))
    (name_text (string_bytes fault.name))

-- the system reports that it is out of memory
abbrev pub IsOutOfMemory : FileCause → Type 0
IsOutOfMemory (System error) = error_kind error ≡ OutOfMemory
IsOutOfMemory NoFolder = ⊥
IsOutOfMemory NotRegular = ⊥
IsOutOfMemory (TooLong limit) = ⊥
IsOutOfMemory NotText = ⊥
IsOutOfMemory (NoBinding fault) = ⊥
IsOutOfMemory NoCertificate = ⊥
IsOutOfMemory (LongCertificate limit) = ⊥

-- the fault names this path, and its cause is one of these, and isn't the system's out of memory
pub record IsFaultAt (path : List ℕ) (IsCause : FileCause → Type 0) (fault : FileFault) : Type 0 where
  pub named : string_bytes fault.name ≡ path
  pub cause : IsCause fault.cause
  pub other : IsOutOfMemory fault.cause → ⊥

-- the fault of a file is one of these; out of memory may be reported at any time
abbrev pub OfFile : (FileFault → Type 0) → ReadFault → Type 0
OfFile IsFault (File fault) = IsFault fault
OfFile IsFault Memory = ⊤
