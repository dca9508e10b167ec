-- Images that are linked one behind the other.
use Rattle.std.proofs.Common.{◌≡◌, ◌≤◌, ◌==◌, ◌∙◌, sym, ap, subst, refl, arith, ℕ, List, [], ◌∷◌, ◌++◌, ◌+◌, ◌<◌, length, drop, get_or, map}
use Rattle.std.proofs.Common.{slice_get, Some, Vec, Global, inl, inr}
use Rattle.std.specs.List.{AllByRecursion}
use Rattle.std.proofs.lemmas.Bool.{cases_Bool}
use Rattle.std.proofs.lemmas.List.{drop_all, drop_more}
use Rattle.jc_api.specs.Bound.{Bound}
use Rattle.jc_base.proofs.Binding.{the_some}
use Rattle.jc_base.specs.declared.fault.LoadFault.{LoadFault}
use Rattle.jc_cap_desc.specs.Shape.{Shape}
use Rattle.jc_check.specs.Checked.{stated_for}
use Rattle.jc_check.specs.declared.fault.Fault.{Fault}
use Rattle.jc_classes.specs.Api.{api_world}
use Rattle.jc_classes.specs.Growth.{grown}
use Rattle.jc_link.specs.Linked.{Linked}
use Rattle.jc_cert.specs.Cert.{IsRow, Row}
use Rattle.jc_verify.specs.Refusal.{AreStates, IsUncarried}
use Rattle.jc_offcard.specs.Verify.{AreLoaded, IsCarriedByNone, IsFirstRefusal, IsLinkedAfter, IsVerified, MayBeShort}
use Rattle.jc_offcard.specs.Verify.AreLoaded.{next, none}
use Rattle.jc_offcard.specs.Verify.IsFirstRefusal.{full, here, later}
use Rattle.jc_offcard.specs.PrivateVerify.{AreUnloaded, IsInferred, IsPastLast, IsPut, IsStopped, IsUnlinked, IsUnput, Leads}
use Rattle.jc_offcard.specs.declared.unlinked.Unlinked.{Unlinked}
use Rattle.jc_offcard.specs.declared.unlinked.Unlinked.TheVariants.{Memory, Refused}
use Rattle.jc_offcard.specs.declared.verify_answer.VerifyAnswer.{VerifyAnswer}
use Rattle.jc_offcard.specs.declared.verify_answer.VerifyAnswer.TheVariants.{Certificate, NoCertificate}
use Rattle.jc_offcard.specs.declared.verify_answer.VerifyAnswer.TheVariants as answers

-- what a certificate has for a method are states that it may have
states_fit : (rows : List Row) → AllByRecursion IsRow rows → (offset : ℕ) → AreStates (stated_for rows offset)
states_fit [] each offset = record { few = omega arith; ascend = tt; each = tt }
states_fit (r ∷ rows) each offset =
    elim (cases_Bool (r.offset == offset)) [
      | inl found ↦ rw found (record { few = each.0.count; ascend = each.0.ascend; each = each.0.each })
      | inr other ↦ rw other (states_fit rows each.1 offset)
    ]

-- a package whose method no such states carry is carried by no certificate
pub carried_by_none : (l : Linked) (offset : ℕ) (fault : Fault) → IsUncarried l offset fault
    → IsCarriedByNone l offset fault
carried_by_none l offset fault is =
    let first = is.first in
    record {
      uncarried = is;
      none = λ whole. first.without (record {
        states = stated_for whole.rows first.method.offset;
        are = states_fit whole.rows whole.cert.each first.method.offset;
        carried = whole.carried.methods first.place first.method first.is;
      });
    }

-- before the first image
pub at_first : (first : List Shape) (images : List (List ℕ)) → Leads first images first images
at_first first images = record { loaded = λ last all. all; stopped = λ image why is. is }

-- behind an image that is put, the rest is stopped as before it
stopped_later : (before after : List Shape) (image : List ℕ) (images : List (List ℕ)) (why : Unlinked) → IsPut before image after
    → IsStopped after images why → IsStopped before (image ∷ images) why
stopped_later before after image images (Refused fault) put is =
    later before image images put.«package» fault put.fine put.room (subst (λ w. IsFirstRefusal w images fault) put.world is)
stopped_later before after image images Memory put is =
    MayBeShort.later before image images put.«package» put.fine put.room (subst (λ w. MayBeShort w images) put.world is)

-- behind one image more
pub one_further : (first world after : List Shape) (images left : List (List ℕ)) (image : List ℕ) → Leads first images world (image ∷ left)
    → IsPut world image after → Leads first images after left
one_further first world after images left image leads put =
    let p = put.«package» in
    record {
      loaded = λ last all. leads.loaded last (next world last image left p put.fine put.room (subst (λ w. AreLoaded w left last) put.world all));
      stopped = λ other why is. leads.stopped other why (stopped_later world after image (left ++ other ∷ []) why put is);
    }

-- no room for a package that others are linked behind
no_room : (world : List Shape) (image other : List ℕ) (left : List (List ℕ)) (fault : LoadFault) → IsPastLast world image fault
    → IsFirstRefusal world (image ∷ left ++ other ∷ []) fault
no_room world image other [] fault past =
    subst (IsFirstRefusal world (image ∷ other ∷ [])) (sym past.told) (full world image other [] past.«package» past.fine past.room)
no_room world image other (x ∷ left) fault past =
    subst (IsFirstRefusal world (image ∷ x ∷ left ++ other ∷ [])) (sym past.told) (full world image x (left ++ other ∷ []) past.«package» past.fine past.room)

-- an image that isn't linked is where images are stopped
pub stopped_here : (world : List Shape) (image : List ℕ) (images : List (List ℕ)) (why : Unlinked) → IsUnlinked world image why
    → IsStopped world (image ∷ images) why
stopped_here world image images (Refused fault) is = here world image images fault is
stopped_here world image images Memory is = MayBeShort.here world image images is

-- the first of images, where it isn't linked
pub stopped_first : (world : List Shape) (images : List (List ℕ)) (image : List ℕ) (why : Unlinked) → slice_get images 0 ≡ Some image
    → IsUnlinked world image why → IsStopped world images why
stopped_first world [] image why first is = absurd cc
stopped_first world (x ∷ images) image why first is =
    subst (λ x. IsStopped world (x ∷ images) why) (sym (the_some x image first)) (stopped_here world image images why is)

-- so is one that isn't put behind the others, where another follows
unput_here : (world : List Shape) (image other : List ℕ) (left : List (List ℕ)) (why : Unlinked) → IsUnput world image why
    → IsStopped world (image ∷ left ++ other ∷ []) why
unput_here world image other left (Refused fault) (inl is) = here world image (left ++ other ∷ []) fault is
unput_here world image other left (Refused fault) (inr past) = no_room world image other left fault past
unput_here world image other left Memory is = MayBeShort.here world image (left ++ other ∷ []) is

-- the images are stopped at the one that isn't put behind the others
pub stopped : (first world : List Shape) (images left : List (List ℕ)) (image : List ℕ) (why : Unlinked) → Leads first images world (image ∷ left)
    → IsUnput world image why → AreUnloaded first images why
stopped first world images left image why leads is = λ other. leads.stopped other why (unput_here world image other left why is)

next_of : {A : Type 0} (xs : List A) (i : ℕ) (x : A) → i < length xs → x ≡ get_or xs i x → drop i xs ≡ x ∷ drop (i + 1) xs
next_of xs i x h is = drop_more xs i x h ∙ ap (λ y. y ∷ drop (i + 1) xs) (sym is)

-- the images that are left, where the next one is met
abbrev pub images_of : List (Vec ℕ Global) → List (List ℕ)
images_of = map (λ image. image.items)

module _ (first world : List Shape) (images : List (Vec ℕ Global)) (i : ℕ) (image : Vec ℕ Global) (bytes : List ℕ) (h : i < length images) (at : image ≡ get_or images i image)
    (is : bytes ≡ image.items) (leads : Leads first (images_of images) world (images_of (drop i images))) where
  met : Leads first (images_of images) world (bytes ∷ images_of (drop (i + 1) images))
  met = subst (Leads first (images_of images) world) (ap images_of (next_of images i image h at) ∙ ap (λ b. b ∷ images_of (drop (i + 1) images)) (sym is)) leads

  pub further : (after : List Shape) → IsPut world bytes after → Leads first (images_of images) after (images_of (drop (i + 1) images))
  further after put = one_further first world after (images_of images) (images_of (drop (i + 1) images)) bytes met put

  pub ended : (why : Unlinked) → IsUnput world bytes why → AreUnloaded first (images_of images) why
  ended why unput = stopped first world (images_of images) (images_of (drop (i + 1) images)) bytes why met unput

-- behind loaded packages images are stopped where the last one isn't linked
pub last_stopped : (first world : List Shape) (images : List (List ℕ)) (image : List ℕ) (why : Unlinked) → AreLoaded first images world
    → IsUnlinked world image why → IsStopped first (images ++ image ∷ []) why
last_stopped first world images image why (none w) is = stopped_here first image [] why is
last_stopped first world images image why (next before after i rest p fine room all) is =
    stopped_later first (grown first p.shape) i (rest ++ image ∷ []) why (record { «package» = p; fine = fine; room = room; world = refl })
    (last_stopped (grown first p.shape) world rest image why all is)

-- behind the last image
pub at_last : (first world : List Shape) (images : List (Vec ℕ Global)) (i : ℕ) → length images ≤ i → Leads first (images_of images) world (images_of (drop i images)) → AreLoaded first (images_of images) world
at_last first world images i past leads = leads.loaded world (subst (λ left. AreLoaded world (images_of left) world) (sym (drop_all i images past)) (none world))

-- what is answered to a linked package is the answer
pub verified : (binding : Bound) (earlier : List (List ℕ)) (image : List ℕ) (l : Linked) (answer : VerifyAnswer) → IsLinkedAfter binding earlier image l
    → IsInferred l answer → IsVerified binding earlier image answer
verified binding earlier image l (Certificate bytes) after is = record { linked = l; after = after; spelled = is }
verified binding earlier image l (NoCertificate method fault) after is = record { linked = l; after = after; uncarried = is }
verified binding earlier image l (answers.Refused fault) after is = absurd is
verified binding earlier image l answers.Memory after is =
    let behind = after.behind in
    last_stopped (api_world binding) after.world earlier image Memory after.loaded (record { «package» = behind.«package»; read = behind.read })
