-- Operands that change places in a slice, the bottom one first, and in a list, the top one first.
use Rattle.std.proofs.Common.{◌≡◌, ℕ, ◌+◌, ◌-◌, ◌<◌, ◌≤◌, List, ◌++◌, length, take, drop, reverse, refl, sym, ap, ◌∙◌, arith, append_assoc, length-append, length-drop}
use Rattle.std.proofs.lemmas.List.{take_at, drop_at, take-append-drop, length-take-le, reverse-append, length-reverse, drop-drop}
use Rattle.std.proofs.Math.Seq.{take-append-add, take-length}
use Rattle.std.proofs.lemmas.Grind.{common_steps}
use borrow.Rule.Slice.PartMut.{put_mid, mid_of}
use Rattle.jc_base.specs.Stack.{duplicated, swapped}
use Rattle.jc_base.specs.PrivateStack.{turned}

-- where the operands are U above L above A, the top first
swapped_parts : {X : Type 0} (Y U L A : List X) → Y ≡ U ++ (L ++ A) → swapped (length U) (length L) Y ≡ (L ++ U) ++ A
swapped_parts {X} Y U L A e =
    let P : List X → Type 0 = λ Z. swapped (length U) (length L) Z ≡ (L ++ U) ++ A in
    let uppers : take (length U) (U ++ (L ++ A)) ≡ U = take_at U (L ++ A) (length U) refl in
    let behind : drop (length U) (U ++ (L ++ A)) ≡ L ++ A = drop_at U (L ++ A) (length U) refl in
    let lowers : take (length L) (L ++ A) ≡ L = take_at L A (length L) refl in
    let bottom : drop (length U + length L) (U ++ (L ++ A)) ≡ A = ap (λ (Z : List X). drop (length U + length L) Z) (sym (append_assoc U L A)) ∙ drop_at (U ++ L) A (length U + length L) (length-append U L) in
    rw e (rw (behind, lowers, uppers, bottom) refl)

-- the parts of a slice of which the operands below the top ones are A, and R is free
core : {X : Type 0} (A L U R : List X) → reverse (take (length A + (length L + length U)) (A ++ ((U ++ L) ++ R))) ≡ swapped (length U) (length L) (reverse (take (length A + (length L + length U)) (A ++ ((L ++ U) ++ R))))
core {X} A L U R =
    let new : take (length A + (length L + length U)) (A ++ ((U ++ L) ++ R)) ≡ A ++ (U ++ L) =
    take-append-add A ((U ++ L) ++ R) (length L + length U) ∙ ap (λ (Z : List X). A ++ Z) (take_at (U ++ L) R (length L + length U) (omega (arith, length-append U L))) in
    let old : take (length A + (length L + length U)) (A ++ ((L ++ U) ++ R)) ≡ A ++ (L ++ U) =
    take-append-add A ((L ++ U) ++ R) (length L + length U) ∙ ap (λ (Z : List X). A ++ Z) (take_at (L ++ U) R (length L + length U) (length-append L U)) in
    let turned : reverse (A ++ (L ++ U)) ≡ reverse U ++ (reverse L ++ reverse A) = reverse-append A (L ++ U) ∙ ap (λ (Z : List X). Z ++ reverse A) (reverse-append L U) ∙ append_assoc (reverse U) (reverse L) (reverse A) in
    let parts : swapped (length (reverse U)) (length (reverse L)) (reverse (A ++ (L ++ U))) ≡ (reverse L ++ reverse U) ++ reverse A = swapped_parts (reverse (A ++ (L ++ U))) (reverse U) (reverse L) (reverse A) turned in
    let goal : reverse (A ++ (U ++ L)) ≡ (reverse L ++ reverse U) ++ reverse A = reverse-append A (U ++ L) ∙ ap (λ (Z : List X). Z ++ reverse A) (reverse-append U L) in
    rw (new, old, goal, sym parts, length-reverse U, length-reverse L) refl

-- what the turned window is
turned_parts : {X : Type 0} (L U : List X) → turned (length U) (L ++ U) ≡ U ++ L
turned_parts L U = grind (arith, length-append, drop_at, take_at)

by_turns : {X : Type 0} (A T B : List X) (w : List X) (i : ℕ) → w ≡ A ++ (T ++ B) → length T ≡ 1 → length B ≡ i → turned 1 (turned i w) ≡ turned (i + 1) w
by_turns {X} A T B w i e one more =
    let far : turned i w ≡ B ++ (A ++ T) = ap (λ (z : List X). turned i z) (e ∙ sym (append_assoc A T B)) ∙ ap (λ (k : ℕ). turned k ((A ++ T) ++ B)) (sym more) ∙ turned_parts (A ++ T) B in
    let then : turned 1 (B ++ (A ++ T)) ≡ T ++ (B ++ A) = ap (λ (z : List X). turned 1 z) (sym (append_assoc B A T)) ∙ ap (λ (k : ℕ). turned k ((B ++ A) ++ T)) (sym one) ∙ turned_parts (B ++ A) T in
    let both : length (T ++ B) ≡ i + 1 = omega (arith, length-append T B) in
    let whole : turned (i + 1) w ≡ (T ++ B) ++ A = ap (λ (z : List X). turned (i + 1) z) e ∙ ap (λ (k : ℕ). turned k (A ++ (T ++ B))) (sym both) ∙ turned_parts A (T ++ B) in
    ap (λ (z : List X). turned 1 z) far ∙ then ∙ sym (append_assoc T B A) ∙ sym whole

-- turned once more
pub turned_more : {X : Type 0} (w : List X) (i : ℕ) → i < length w → turned 1 (turned i w) ≡ turned (i + 1) w
turned_more {X} w i lt =
    let k = length w - (i + 1) in
    let C = drop k w in
    let lc : length C ≡ i + 1 = omega (arith, length-drop k w) in
    by_turns (take k w) (take 1 C) (drop 1 C) w i (sym (take-append-drop k w) ∙ ap (λ (z : List X). take k w ++ z) (sym (take-append-drop 1 C))) (length-take-le 1 C (omega arith)) (omega (arith, length-drop 1 C))

pub turned_none : {X : Type 0} (w : List X) → w ≡ turned 0 w
turned_none w = grind (arith, drop, common_steps, take)

by_parts : {X : Type 0} (A L U R xs ys : List X) (a k d u l : ℕ) → a ≡ length A → k ≡ length L + length U → d ≡ length A + (length L + length U) → u ≡ length U → l ≡ length L → xs ≡ A ++ ((L ++ U) ++ R)
    → ys ≡ turned u (mid_of a k xs) → reverse (take d (put_mid a k xs ys)) ≡ swapped u l (reverse (take d xs))
by_parts {X} A L U R xs ys a k d u l ea ek ed eu el ex ey =
    let front : take a xs ≡ A = rw (ex, ea) (take_at A ((L ++ U) ++ R) (length A) refl) in
    let behind : drop a xs ≡ (L ++ U) ++ R = rw (ex, ea) (drop_at A ((L ++ U) ++ R) (length A) refl) in
    let len : length (L ++ U) ≡ length L + length U = length-append L U in
    let window : mid_of a k xs ≡ L ++ U = rw (behind, ek) (take_at (L ++ U) R (length L + length U) len) in
    let rest : drop k (drop a xs) ≡ R = rw (behind, ek) (drop_at (L ++ U) R (length L + length U) len) in
    let put : ys ≡ U ++ L = ey ∙ ap (λ (w : List X). turned u w) window ∙ ap (λ (n : ℕ). turned n (L ++ U)) eu ∙ turned_parts L U in
    let whole : put_mid a k xs ys ≡ A ++ ((U ++ L) ++ R) = rw (front, rest, put) refl in
    rw (whole, ex, ed, eu, el) (core A L U R)

-- the slice once the window of the operands was turned
pub swap_is : {X : Type 0} (xs ys : List X) (depth upper lower : ℕ) → upper + lower ≤ depth → depth ≤ length xs
    → ys ≡ turned upper (mid_of (depth - upper - lower) (depth - (depth - upper - lower)) xs)
    → reverse (take depth (put_mid (depth - upper - lower) (depth - (depth - upper - lower)) xs ys)) ≡ swapped upper lower (reverse (take depth xs))
swap_is {X} xs ys depth upper lower there room e =
    let s = depth - upper - lower in
    let A = take s xs in
    let B = drop s xs in
    let L = take lower B in
    let C = drop lower B in
    let U = take upper C in
    let R = drop upper C in
    let la : length A ≡ s = length-take-le s xs (omega arith) in
    let lb : length B ≡ length xs - s = length-drop s xs in
    let ll : length L ≡ lower = length-take-le lower B (omega arith) in
    let lc : length C ≡ length B - lower = length-drop lower B in
    let lu : length U ≡ upper = length-take-le upper C (omega arith) in
    let whole : xs ≡ A ++ ((L ++ U) ++ R) =
    sym (take-append-drop s xs) ∙ ap (λ (w : List X). A ++ w) (sym (take-append-drop lower B) ∙ ap (λ (w : List X). L ++ w) (sym (take-append-drop upper C)) ∙ sym (append_assoc L U R)) in
    by_parts A L U R xs ys s (depth - s) depth upper lower (sym la) (omega arith) (omega arith) (sym lu) (sym ll) whole e

-- the top operands written once more above the others
pub repeat_is : {X : Type 0} (operands free old : List X) (depth count : ℕ) → operands ≡ take depth old → free ≡ drop depth old → count ≤ depth → depth + count ≤ length old
    → (put : List X) → put ≡ take (length operands - (depth - count)) (drop (depth - count) operands)
    → take (depth + count) (operands ++ (put ++ drop count free)) ≡ take depth old ++ drop (depth - count) (take depth old)
repeat_is {X} operands free old depth count eo ef le room put ep =
    let T = take depth old in
    let V = drop (depth - count) T in
    let lt : length T ≡ depth = length-take-le depth old (omega arith) in
    let lv : length V ≡ count = omega (arith, length-drop (depth - count) T) in
    let full : take (length operands - (depth - count)) (drop (depth - count) operands) ≡ drop (depth - count) operands = ap (λ (n : ℕ). take n (drop (depth - count) operands)) (sym (length-drop (depth - count) operands)) ∙ take-length (drop (depth - count) operands) in
    let is : put ≡ V = ep ∙ full ∙ ap (λ (w : List X). drop (depth - count) w) eo in
    let all : take (depth + count) (T ++ (V ++ drop count free)) ≡ T ++ V = ap (λ (w : List X). take (depth + count) w) (sym (append_assoc T V (drop count free))) ∙ take_at (T ++ V) (drop count free) (depth + count) (omega (arith, length-append T V)) in
    rw (is, eo) all

-- the last of a list are the first of it turned round
last_turned : {X : Type 0} (xs : List X) (count : ℕ) → count ≤ length xs → reverse (drop (length xs - count) xs) ≡ take count (reverse xs)
last_turned {X} xs count le =
    let n = length xs - count in
    let both : reverse xs ≡ reverse (drop n xs) ++ reverse (take n xs) = ap (λ (w : List X). reverse w) (sym (take-append-drop n xs)) ∙ reverse-append (take n xs) (drop n xs) in
    let len : length (reverse (drop n xs)) ≡ count = length-reverse (drop n xs) ∙ omega (arith, length-drop n xs) in
    rw both (sym (take_at (reverse (drop n xs)) (reverse (take n xs)) count len))

-- operands repeated on top, and then moved below
moved_below : {X : Type 0} (Y : List X) (count below : ℕ) → count ≤ length Y → swapped count below (take count Y ++ Y) ≡ duplicated count below Y
moved_below Y count below h1 = grind (arith, take, length-take-le, drop, drop_at, take_at, drop-drop)

pub duplicate_is : {X : Type 0} (old repeated moved : List X) (depth count below : ℕ) → count ≤ depth → depth + count ≤ length old
    → take (depth + count) repeated ≡ take depth old ++ drop (depth - count) (take depth old) → reverse (take (depth + count) moved) ≡ swapped count below (reverse (take (depth + count) repeated))
    → reverse (take (depth + count) moved) ≡ duplicated count below (reverse (take depth old))
duplicate_is {X} old repeated moved depth count below le room er em =
    let T = take depth old in
    let lt : length T ≡ depth = length-take-le depth old (omega arith) in
    let lr : length (reverse T) ≡ depth = length-reverse T ∙ lt in
    let last : reverse (drop (depth - count) T) ≡ take count (reverse T) = ap (λ (n : ℕ). reverse (drop (n - count) T)) (sym lt) ∙ last_turned T count (omega arith) in
    let stack : reverse (take (depth + count) repeated) ≡ take count (reverse T) ++ reverse T = ap (λ (w : List X). reverse w) er ∙ reverse-append T (drop (depth - count) T) ∙ ap (λ (w : List X). w ++ reverse T) last in
    em ∙ ap (λ (w : List X). swapped count below w) stack ∙ moved_below (reverse T) count below (omega arith)

-- operands that are repeated on top alone
pub repeated_on_top : {X : Type 0} (old repeated : List X) (depth count : ℕ) → count ≤ depth → depth + count ≤ length old
    → take (depth + count) repeated ≡ take depth old ++ drop (depth - count) (take depth old) → reverse (take (depth + count) repeated) ≡ duplicated count 0 (reverse (take depth old))
repeated_on_top {X} old repeated depth count le room er =
    let Y = reverse (take (depth + count) repeated) in
    let bare : count + 0 ≡ count = omega arith in
    let still : Y ≡ swapped count 0 Y = rw bare (sym (take-append-drop count Y)) in
    duplicate_is old repeated repeated depth count 0 le room er still
