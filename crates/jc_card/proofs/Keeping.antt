-- What the runtime keeps, changed by the runtime itself.
use Rattle.std.proofs.Common.{◌≡◌, ℕ, suc, ◌<◌, ◌&&◌, List, [], ◌∷◌, get_or, Bool, true, refl, ap, ◌∙◌, arith}
use Rattle.std.proofs.lemmas.Bool.{lt-ltb}
use Rattle.jc_names.specs.declared.owner.Owner.{Owner}
use Rattle.jc_natives.specs.Kept.{Kept, are_bytes, is_aid, with_install}
use Rattle.jc_natives.specs.Meaning.{meaning}
use Rattle.jc_card.proofs.TypedCards.{kept_typed}
use Rattle.jc_card.specs.Card.{CardState, with_kept}
use Rattle.jc_card.specs.Parts.{gives}
use Rattle.jc_card.specs.PrivateTyped.{BeginsFitting}
use Rattle.jc_card.specs.Reads.{CardWords, GivesNothing, Holds, IsDone}

-- bytes by their places are bytes
pub bytes_are : (bytes : List ℕ) → ((n : ℕ) → get_or bytes n 0 < 256) → are_bytes bytes ≡ true
bytes_are [] are = refl
bytes_are (b ∷ bytes) are =
    ap (λ (t : Bool). t && are_bytes bytes) (lt-ltb b 256 (are 0)) ∙ bytes_are bytes (λ n. are (suc n))

-- it may be anything that fits the objects, made of what it was
pub kept_changed : (k : CardWords) (c : CardState) (h : Holds k c) (change : Kept → Kept)
    → meaning.fits c.world c.heap (change c.kept) ≡ true
    → IsDone (record k { kept = change k.kept }) GivesNothing (gives (with_kept c (change c.kept)) tt)
kept_changed k c h change fits = grind (arith, kept_typed)

-- ---- an install begins

-- with the next number
pub number_taken : (k : CardWords) (c : CardState) (h : Holds k c) → BeginsFitting → (owner : Owner) (aid : List ℕ)
    → is_aid aid ≡ true → owner.instance ≡ suc k.kept.numbers → k.kept.numbers < 32
    → IsDone (record k { kept = with_install k.kept owner aid }) GivesNothing
    (gives (with_kept c (with_install c.kept owner aid)) tt)
number_taken k c h begun owner aid fit next room = grind (arith, kept_changed)
