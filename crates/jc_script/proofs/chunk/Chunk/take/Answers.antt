use Rattle.std.proofs.Common.{◌≡◌, ℕ, ◌+◌, ◌-◌, ◌≤◌, List, length, drop, take, ap, arith, sym, ◌∙◌}
use Rattle.std.proofs.lemmas.List.{drop-take, length-take}
use Rattle.std.proofs.Math.Seq.{drop-drop}
use Rattle.jc_script.proofs.chunk.Chunk.take.Goals as goal

-- what is left behind so many more
left_behind : (bytes : List ℕ) (at end count : ℕ) → count ≤ end - at
    → take (end - (at + count)) (drop (at + count) bytes) ≡ drop count (take (end - at) (drop at bytes))
left_behind bytes at end count few =
    let rest : end - at ≡ count + (end - (at + count)) = omega (arith, few) in
    ap (λ (l : List ℕ). take (end - (at + count)) l) (sym (drop-drop count at bytes))
    ∙ sym (ap (λ k. drop count (take k (drop at bytes))) rest ∙ drop-take count (end - (at + count)) (drop at bytes))

pub returns : goal.returns
returns c =
    let inside = c.self.inside in
    let most = length-take (inside.end - inside.at) (drop inside.at inside.bytes) in
    let same = ap length c.self.view_is in
    let few = c.requires in
    left_behind inside.bytes inside.at inside.end c.args.count (omega (arith, most, same, few))
    ∙ ap (λ (l : List ℕ). drop c.args.count l) c.self.view_is
