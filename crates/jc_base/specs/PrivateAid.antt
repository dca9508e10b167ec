-- Private. An AID as an array holds it. The lemma stands here, since the struct's Model takes it from specs alone.
use Rattle.std.specs.Prelude.{◌≡◌, ℕ, ◌-◌, ◌≤◌, List, ◌++◌, length, take, drop}
use Rattle.std.proofs.Common.{ap, ◌∙◌, sym, arith}
use Rattle.std.proofs.Math.ListN.{replicate}
use Rattle.std.proofs.lemmas.List.{take-append-drop, length-take-le}
use Rattle.jc_base.specs.Aid.{shortest_aid, longest_aid}
use Rattle.jc_base.specs.declared.aid.Aid.TheInside.{Inside}

-- the bytes that the array holds
abbrev pub held : Inside → List ℕ
held a = take a.len a.bytes

-- all bytes after them are zeros
pub record IsHeld (a : Inside) : Type 0 where
  pub least : shortest_aid ≤ a.len
  pub most : a.len ≤ longest_aid
  pub full : length a.bytes ≡ longest_aid
  pub zeros : drop a.len a.bytes ≡ replicate (longest_aid - a.len) 0

abbrev pub padded : List ℕ → Inside
padded bytes = record { bytes = bytes ++ replicate (longest_aid - length bytes) 0; len = length bytes }

abbrev made : List ℕ → ℕ → Inside
made bytes len = record { bytes = bytes; len = len }

pub same_held : (a : Inside) → IsHeld a → padded (held a) ≡ a
same_held a h =
    let most : a.len ≤ length a.bytes = let m = h.most in let w = h.full in omega arith in
    let len : length (take a.len a.bytes) ≡ a.len = length-take-le a.len a.bytes most in
    let bytes : take a.len a.bytes ++ replicate (longest_aid - length (take a.len a.bytes)) 0 ≡ a.bytes =
    ap (λ (n : ℕ). take a.len a.bytes ++ replicate (longest_aid - n) 0) len
    ∙ ap (λ (w : List ℕ). take a.len a.bytes ++ w) (sym h.zeros)
    ∙ take-append-drop a.len a.bytes in
    ap (λ (w : List ℕ). made w (length (take a.len a.bytes))) bytes ∙ ap (λ (n : ℕ). made a.bytes n) len
