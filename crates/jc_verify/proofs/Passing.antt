-- Handlers and branches that are gone through, one after the other.
use Rattle.std.proofs.Common.{◌≡◌, ◌⊎◌, ℕ, ◌+◌, ◌<◌, ◌≤◌, ℤ, pos, false, List, [], ◌∷◌, length, zero, suc, Some, subst, ◌∙◌, ap, arith, slice_get}
use Rattle.std.specs.List.{AllByRecursion, Contains}
use Rattle.std.proofs.lemmas.Bool.{cases_eq}
use Rattle.std.proofs.lemmas.Option.{none-some, same_Some, slice_get-get_or, slice_get_within, get_or_from_slice_get}
use Rattle.jc_base.specs.declared.reason.Reason.{Reason}
use Rattle.jc_code.specs.Listing.{PlacedInstr, begins}
use Rattle.jc_check.specs.Method.{CheckedHandler, CheckedMethod}
use Rattle.jc_check.specs.declared.fault.WordFault.{WordFault}
use Rattle.jc_verify.specs.PrivateLive.{Grown, HasLed, IfRefusal, IsBranchIn, IsCaughtIn}
use Rattle.jc_verify.specs.declared.entries.Followed.{Followed}
use Rattle.jc_verify.proofs.Following.{grown_self, grown_through, held_on}

pub contains_at : {A : Type 0} (xs : List A) (n : ℕ) (x : A) → slice_get xs n ≡ Some x → Contains xs x
contains_at xs n x at = (n, slice_get_within xs n x at, get_or_from_slice_get xs n x x at)

pub all_at : {A : Type 0} (P : A → Type 0) (xs : List A) (n : ℕ) (x : A) → slice_get xs n ≡ Some x → AllByRecursion P xs → P x
all_at P [] n x at h = absurd (none-some x at)
all_at P (y ∷ ys) zero x at h = subst P (same_Some y x at) h.0
all_at P (y ∷ ys) (suc n) x at h = all_at P ys n x at h.1

pub all_contained : {A : Type 0} (P : A → Type 0) (xs : List A) (x : A) → Contains xs x → AllByRecursion P xs → P x
all_contained P xs x c h = all_at P xs c.0 x (slice_get-get_or xs c.0 x c.1 ∙ ap Some c.2) h

pub if_refusal : (fault : WordFault) (P Q : ℕ → Reason → Type 0) → IfRefusal fault P → ((pc : ℕ) (reason : Reason) → P pc reason → Q pc reason) → IfRefusal fault Q
if_refusal fault P Q h1 h2 = grind arith

-- of these places the one with a number is no pc at which an instruction begins
pub off_one : (places : List ℤ) (k : ℕ) → k < length places → (listing : List PlacedInstr) → ((p : ℕ) → slice_get places k ≡ Some (pos p) → begins listing p ≡ false)
    → (place : ℤ) × Contains places place × ((p : ℕ) → place ≡ pos p → begins listing p ≡ false)
off_one places k within listing none =
    let at = slice_get-get_or places k (pos 0) within in
    (_, contains_at places k _ at, λ p is. none p (at ∙ ap Some is))

-- ---- where control flow was led

pub led_none : {gives : Followed → Type 0} {asks : CheckedMethod → List PlacedInstr → Type 0} (f : Followed) → gives f → HasLed gives asks f f
led_none f met = record { met = met; grown = grown_self f; followed = λ m listing now asked h. h }

pub led_as : {gives more_gives : Followed → Type 0} {asks more_asks : CheckedMethod → List PlacedInstr → Type 0} {before after : Followed} → HasLed gives asks before after → (gives after → more_gives after)
    → ((m : CheckedMethod) (listing : List PlacedInstr) → more_asks m listing → asks m listing) → HasLed more_gives more_asks before after
led_as led gives_on asks_on = record { met = gives_on led.met; grown = led.grown; followed = λ m listing now asked h. led.followed m listing now (asks_on m listing asked) h }

-- the first of these are met
abbrev pub AreMet : {A : Type 0} → (Followed → A → Type 0) → List A → ℕ → Followed → Type 0
AreMet {A} holds xs k f = (n : ℕ) (x : A) → n < k → slice_get xs n ≡ Some x → holds f x

module _ {A : Type 0} (holds : Followed → A → Type 0) (xs : List A) {asks : CheckedMethod → List PlacedInstr → Type 0} where
  pub passed_none : (f : Followed) → HasLed (AreMet holds xs 0) asks f f
  passed_none f = led_none f (λ n x h. absurd (omega (arith, h)))

  pub passed_one : ((f g : Followed) → Grown f g → (x : A) → holds f x → holds g x) → (k : ℕ) (x : A) {one : CheckedMethod → List PlacedInstr → Type 0} {start now next : Followed} → slice_get xs k ≡ Some x
      → HasLed (AreMet holds xs k) asks start now → HasLed (λ f. holds f x) one now next → ((m : CheckedMethod) (listing : List PlacedInstr) → asks m listing → one m listing) → HasLed (AreMet holds xs (k + 1)) asks start next
  passed_one on k x {one} {start} {now} {next} at passed led asks_on = record {
    met = λ n y h e. by n y h e (cases_eq n k);
    grown = grown_through start now next passed.grown led.grown;
    followed = λ m listing at asked h. led.followed m listing at (asks_on m listing asked) (passed.followed m listing at asked h);
  }
    where
      by : (n : ℕ) (y : A) → n < k + 1 → slice_get xs n ≡ Some y → (n ≡ k) ⊎ (n ≡ k → ⊥) → holds next y
      by n y h1 h2 h3 = grind (arith, same_Some)

  pub passed_all : (k : ℕ) {start now : Followed} → length xs ≤ k → HasLed (AreMet holds xs k) asks start now → HasLed (λ f. (x : A) → Contains xs x → holds f x) asks start now
  passed_all k past passed = led_as passed (λ met x c. met c.0 x (omega (arith, past, c.1)) (slice_get-get_or xs c.0 x c.1 ∙ ap Some c.2)) (λ m listing asked. asked)

pub caught_on : (pc : ℕ) (f g : Followed) → Grown f g → (h : CheckedHandler) → IsCaughtIn f pc h → IsCaughtIn g pc h
caught_on pc f g grown h held covered = held_on f g grown h.goes_on (held covered)

pub branch_on : (f g : Followed) → Grown f g → (place : ℤ) → IsBranchIn f place → IsBranchIn g place
branch_on f g grown place b = record { pc = b.pc; is = b.is; held = held_on f g grown b.pc b.held }
