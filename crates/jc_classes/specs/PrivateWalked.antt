-- Private. Look-ups at 128 virtual tokens by one walk along superclasses.
use Rattle.std.specs.Prelude.{◌≡◌, ℕ, ◌<◌, ◌≤◌, Bool, true, false, List, length, Option, Some, None, slice_index_or}
use Rattle.jc_cap_desc.specs.Shape.{Shape}
use Rattle.jc_classes.specs.Methods.{found_at, virtual_method_of, virtual_visit}
use Rattle.jc_classes.specs.PrivateWalk.{IsOnWalk}
use Rattle.jc_classes.specs.Walk.{walk}
use Rattle.jc_names.specs.declared.name.ClassName.{ClassName}
use Rattle.jc_names.specs.declared.name.MethodName.{MethodName}
use Rattle.jc_classes.specs.declared.found.Walked.{Walked}
use Rattle.jc_classes.specs.declared.walk.Visit.{Visit}
use Rattle.jc_classes.specs.declared.walk.Visit.TheVariants.{Has, Nothing, Above}

-- whether a token is still open
abbrev pub asks_above : Walked → ℕ → Bool
asks_above walked token = slice_index_or walked.asks token false

-- there is an entry for each token, and no token from `most` on is open
pub record IsFull (walked : Walked) : Type 0 where
  pub methods : length walked.methods ≡ 128
  pub asks : length walked.asks ≡ 128
  pub most : walked.most ≤ 128
  pub none : (place : ℕ) → walked.most ≤ place → place < 128 → asks_above walked place ≡ false

-- the state of a token after a class's answer
abbrev pub asks_behind : Visit MethodName → Bool → Bool
asks_behind (Has m) asks = false
asks_behind Nothing asks = false
asks_behind Above asks = asks

abbrev pub found_behind : Visit MethodName → Bool → Option MethodName → Option MethodName
found_behind (Has m) true found = Some m
found_behind (Has m) false found = found
found_behind Nothing asks found = found
found_behind Above asks found = found

pub record IsVisited (visit : Visit MethodName) (old new : Walked) (token : ℕ) : Type 0 where
  pub asks : asks_above new token ≡ asks_behind visit (asks_above old token)
  pub found : found_at new.methods token ≡ found_behind visit (asks_above old token) (found_at old.methods token)

pub record IsSameAt (old new : Walked) (token : ℕ) : Type 0 where
  pub asks : asks_above new token ≡ asks_above old token
  pub found : found_at new.methods token ≡ found_at old.methods token

-- a token on the way up, with n classes to go: it is open and has no result yet, or has the whole result; `place` is
-- its index
pub record IsAsked (world : List Shape) (asker : ℕ) (anchor at : ClassName) (n : ℕ) (c : ClassName) (walked : Walked)
    (place token : ℕ) : Type 0 where
  pub none : asks_above walked place ≡ true → found_at walked.methods place ≡ None
  pub goes : asks_above walked place ≡ true
      → IsOnWalk (walk (virtual_visit world asker token) world) anchor at n (virtual_method_of world c token asker)
  pub known : asks_above walked place ≡ false → found_at walked.methods place ≡ virtual_method_of world c token asker
