-- What the Header is refused for.
use Rattle.std.proofs.Common.{◌≡◌, ℕ, ◌==◌, Bool, true, false, cond, ◌<◌, List, Option, Some, None, Result, Ok, Err}
use Rattle.std.proofs.Common.{refl, sym, ap, ◌∙◌, subst, arith}
use Rattle.jc_base.specs.Cursor.{Read, field, next_u1, next_u4, whole}
use Rattle.jc_base.specs.Fault.{number_of}
use Rattle.jc_base.specs.Numbers.{has_flag}
use Rattle.jc_base.specs.Results.{◌>>=◌}
use Rattle.jc_base.specs.Tag.{header_tag}
use Rattle.jc_base.specs.declared.fault.LoadFault.{LoadFault}
use Rattle.jc_base.specs.declared.fault.LoadFault.TheVariants.{BadMagic, FormatVersion, IntPackage, Malformed}
use Rattle.jc_cap.specs.Header.{Heading, acc_int, behind_magic, header_of, magic, next_format, next_heading}
use Rattle.jc_cap.specs.declared.header.Format.{Format}
use Rattle.jc_refusals.proofs.Before.{Before, before_less, before_same}
use Rattle.jc_refusals.proofs.Ranges.{OfPart, Refuses, bad_aid, bad_layout, behind, in_field, in_whole}
use Rattle.jc_refusals.proofs.Readers.{in_format, in_heading}
use Rattle.jc_refusals.specs.Reading.{HasBadMagic, UsesInt, format_behind, format_in, heading_in}

-- a refusal of the Header that applies
pub data OfHeader (info : List ℕ) : LoadFault → Type 0 where
  bad_magic : HasBadMagic info → OfHeader info BadMagic
  bad_format : format_in info ≡ Err FormatVersion → OfHeader info FormatVersion
  uses_int : UsesInt info → OfHeader info IntPackage
  other : (fault : LoadFault) → heading_in info ≡ Err fault → OfPart fault → OfHeader info fault

-- a Header without the first three
record IsPlain (info : List ℕ) : Type 0 where
  format : Read Format
  is_format : format_in info ≡ Ok format
  no_int : UsesInt info → ⊥
  same : header_of info ≡ heading_in info
  refusals : Refuses OfPart (heading_in info)

-- which test of the Header fails first, if one does
data Seen (info : List ℕ) : Type 0 where
  without_magic : HasBadMagic info → header_of info ≡ Err BadMagic → Seen info
  without_format : format_in info ≡ Err FormatVersion → header_of info ≡ Err FormatVersion → Seen info
  with_int : UsesInt info → header_of info ≡ Err IntPackage → Seen info
  plain : IsPlain info → Seen info

-- ---- the reader in parts

abbrev flagged : Read Format → Read ℕ → Bool → Result Heading LoadFault
flagged format flags int =
    whole (Malformed header_tag) (cond int (Err IntPackage) (next_heading format.value flags.rest))

abbrev with_flags : Read Format → Option (Read ℕ) → Result Heading LoadFault
with_flags format found =
    field header_tag found >>= λ flags. flagged format flags (has_flag flags.value acc_int)

abbrev with_format : Result (Read Format) LoadFault → Result Heading LoadFault
with_format found = found >>= λ format. with_flags format (next_u1 format.rest)

abbrev with_magic : Option (Read ℕ) → Result Heading LoadFault
with_magic found = behind_magic found >>= λ versions. with_format (next_format versions)

in_parts : (info : List ℕ) → header_of info ≡ with_magic (next_u4 info)
unfolding header_of
in_parts info = refl

abbrev heading_flags : Read Format → Option (Read ℕ) → Result Heading LoadFault
heading_flags format found =
    field header_tag found >>= λ flags. whole (Malformed header_tag) (next_heading format.value flags.rest)

abbrev heading_format : Result (Read Format) LoadFault → Result Heading LoadFault
heading_format found = found >>= λ format. heading_flags format (next_u1 format.rest)

-- ---- which test fails first

module _ (info : List ℕ) where
  module _ (format : Read Format) (is_format : format_in info ≡ Ok format)
      (reads : header_of info ≡ with_flags format (next_u1 format.rest)) where
    stands : heading_in info ≡ heading_flags format (next_u1 format.rest)
    stands = ap heading_format is_format

    refuses_parts : (found : Option (Read ℕ)) → Refuses OfPart (heading_flags format found)
    refuses_parts found =
        behind OfPart _ _ (in_field header_tag found) (λ flags.
        in_whole header_tag _ (in_heading format.value flags.rest))

    is_plain : (found : Option (Read ℕ)) → next_u1 format.rest ≡ found → (UsesInt info → ⊥)
        → with_flags format found ≡ heading_flags format found → Seen info
    is_plain found is none same =
        plain (record {
          format = format;
          is_format = is_format;
          no_int = none;
          same =
              reads ∙ ap (with_flags format) is ∙ same ∙ sym (ap (heading_flags format) is) ∙ sym stands;
          refusals =
              subst (Refuses OfPart) (sym stands) (refuses_parts (next_u1 format.rest));
        })

    same_format : (h : UsesInt info) → h.format ≡ format
    same_format h = let e = sym h.is_format ∙ is_format in cc

    -- the flags of a package that uses int
    flags_of : (found : Option (Read ℕ)) → next_u1 format.rest ≡ found → (h : UsesInt info) → Some h.flags ≡ found
    flags_of found is h =
        sym h.are_flags ∙ ap (λ (r : Read Format). next_u1 r.rest) (same_format h) ∙ is

    by_int : (flags : Read ℕ) → next_u1 format.rest ≡ Some flags → (int : Bool)
        → has_flag flags.value acc_int ≡ int → Seen info
    by_int flags is true e =
        with_int (record {
          format = format;
          flags = flags;
          is_format = is_format;
          are_flags = is;
          uses = e;
        }) (reads ∙ ap (with_flags format) is ∙ ap (flagged format flags) e)
    by_int flags is false e =
        is_plain (Some flags) is (λ h. (
        let same : h.flags ≡ flags = (let s = flags_of (Some flags) is h in cc) in
        let no = sym h.uses ∙ ap (λ (r : Read ℕ). has_flag r.value acc_int) same ∙ e in
        cc)) (ap (flagged format flags) e)

    by_flags : (found : Option (Read ℕ)) → next_u1 format.rest ≡ found → Seen info
    by_flags None is = is_plain None is (λ h. (let e = flags_of None is h in absurd cc)) refl
    by_flags (Some flags) is = by_int flags is (has_flag flags.value acc_int) refl

  by_format : (found : Result (Read Format) LoadFault) → Refuses (λ f. f ≡ FormatVersion) found
      → format_in info ≡ found → header_of info ≡ with_format found → Seen info
  by_format (Err fault) h is reads =
      let same : fault ≡ FormatVersion = h.each fault refl in
      without_format (is ∙ ap Err same) (reads ∙ ap Err same)
  by_format (Ok format) h is reads = by_flags format is reads (next_u1 format.rest) refl

  by_magic : (found : Option (Read ℕ)) → next_u4 info ≡ found → Seen info
  by_magic None is =
      without_magic (ap behind_magic is) (in_parts info ∙ ap with_magic is)
  by_magic (Some x) is = by_value (x.value == magic) refl
    where
      by_value : (right : Bool) → (x.value == magic) ≡ right → Seen info
      by_value false e =
          without_magic (ap behind_magic is ∙ ap (λ b. cond b (Ok x.rest) (Err BadMagic)) e)
          (in_parts info ∙ ap with_magic is
          ∙ ap (λ b. cond b (Ok x.rest) (Err BadMagic) >>= λ versions. with_format (next_format versions)) e)
      by_value true e =
          by_format (next_format x.rest) (in_format x.rest) (ap format_behind is)
          (in_parts info ∙ ap with_magic is
          ∙ ap (λ b. cond b (Ok x.rest) (Err BadMagic) >>= λ versions. with_format (next_format versions)) e)

  seen : Seen info
  seen = by_magic (next_u4 info) refl

  -- ---- what is told of the Header applies

  told_by : Seen info → (fault : LoadFault) → header_of info ≡ Err fault → OfHeader info fault
  told_by (without_magic h is) fault e =
      let same : BadMagic ≡ fault = (let s = sym is ∙ e in cc) in
      subst (OfHeader info) same (bad_magic h)
  told_by (without_format h is) fault e =
      let same : FormatVersion ≡ fault = (let s = sym is ∙ e in cc) in
      subst (OfHeader info) same (bad_format h)
  told_by (with_int h is) fault e =
      let same : IntPackage ≡ fault = (let s = sym is ∙ e in cc) in
      subst (OfHeader info) same (uses_int h)
  told_by (plain h) fault e =
      let its = sym h.same ∙ e in
      let refusals = h.refusals in
      other fault its (refusals.each fault its)

  pub header_told : (fault : LoadFault) → header_of info ≡ Err fault → OfHeader info fault
  header_told = told_by seen

-- ---- what applies isn't told before what is told

-- the refusal that is told of a Header, and that it is told before another one
pub record ToldBefore (info : List ℕ) (g : LoadFault) : Type 0 where
  pub fault : LoadFault
  pub is : header_of info ≡ Err fault
  pub before : Before fault g

part_number : (P : ℕ → Type 0) → P 8 → P 9 → (g : LoadFault) → OfPart g → P (number_of g)
part_number P eight nine _ bad_aid = eight
part_number P eight nine _ (bad_layout tag) = nine

module _ (info : List ℕ) where
  before_format : Seen info → format_in info ≡ Err FormatVersion → ToldBefore info FormatVersion
  before_format (without_magic h is) e =
      record { fault = BadMagic; is = is; before = before_less BadMagic FormatVersion (omega arith) }
  before_format (without_format h is) e =
      record { fault = FormatVersion; is = is; before = before_same FormatVersion FormatVersion refl }
  before_format (with_int h is) e = let no = sym e ∙ h.is_format in absurd cc
  before_format (plain h) e = let no = sym e ∙ h.is_format in absurd cc

  before_int : Seen info → UsesInt info → ToldBefore info IntPackage
  before_int (without_magic h is) u =
      record { fault = BadMagic; is = is; before = before_less BadMagic IntPackage (omega arith) }
  before_int (without_format h is) u =
      record { fault = FormatVersion; is = is; before = before_less FormatVersion IntPackage (omega arith) }
  before_int (with_int h is) u =
      record { fault = IntPackage; is = is; before = before_same IntPackage IntPackage refl }
  before_int (plain h) u = absurd (h.no_int u)

  before_other : Seen info → (g : LoadFault) → heading_in info ≡ Err g → OfPart g → ToldBefore info g
  before_other (without_magic h is) g e of =
      record {
        fault = BadMagic;
        is = is;
        before = before_less BadMagic g (part_number (λ n. 5 < n) (omega arith) (omega arith) g of);
      }
  before_other (without_format h is) g e of =
      record {
        fault = FormatVersion;
        is = is;
        before = before_less FormatVersion g (part_number (λ n. 6 < n) (omega arith) (omega arith) g of);
      }
  before_other (with_int h is) g e of =
      record {
        fault = IntPackage;
        is = is;
        before = before_less IntPackage g (part_number (λ n. 7 < n) (omega arith) (omega arith) g of);
      }
  before_other (plain h) g e of = record { fault = g; is = h.same ∙ e; before = before_same g g refl }

  pub header_before : (g : LoadFault) → OfHeader info g → ToldBefore info g
  header_before _ (bad_magic h) =
      record {
        fault = BadMagic;
        is = in_parts info ∙ ap (λ r. r >>= λ versions. with_format (next_format versions)) h;
        before = before_same BadMagic BadMagic refl;
      }
  header_before _ (bad_format e) = before_format (seen info) e
  header_before _ (uses_int u) = before_int (seen info) u
  header_before _ (other g e of) = before_other (seen info) g e of
