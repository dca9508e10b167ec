use Rattle.std.proofs.Common.{sym, subst, ℕ, ◌≤◌, ◌<◌, ◌^◌, arith, rules}
use Rattle.std.specs.contracts.prelude.U32FromStr.TheImpl as u32_text
use Rattle.clap.specs.Words.{found_of, one_text, rows_of}
use Rattle.clap.proofs.WalkLemmas.{one_text-rows}
use Rattle.jc_host.specs.Line.{Finds, IsNumberUnder}
use Rattle.jc_host.proofs.Lines.{IsSaid, no_number_said, number_read, number_said}
use Rattle.jc_host.proofs.line.number_in.Goals as goal
use Rattle.jc_host.proofs.line.number_in.Goals.{then-number-least-via-then-number-least}
use Rattle.jc_host.proofs.line.number_in.Goals.{then-number-least-via-else-number-least+then-most-number}

pub returns-in_err-number : goal.returns-in_err-number
returns-in_err-number c =
    let found = found_of c.args.found.now in
    let name = c.args.name.now in
    let least : ℕ = c.args.least in
    let most : ℕ = c.args.most in
    let fits : most < 2 ^ 32 = search rules in
    let none = no_number_said u32_text.from_str_gives-value.it (λ t r parsed. parsed.0) (one_text found name)
    c.get_one.result least most c.get_one.ensures.value fits c.in_err-number.was in
    subst (λ o. Finds o (IsNumberUnder name least most (rows_of found))) (sym c.from_residual.ensures)
    (subst (λ o. (n : ℕ) → IsSaid o least most n → ⊥) (one_text-rows found name) none)

pub returns-then-number-least : goal.returns-then-number-least
returns-then-number-least c =
    let found = found_of c.args.found.now in
    let name = c.args.name.now in
    let least : ℕ = c.args.least in
    let most : ℕ = c.args.most in
    let number : ℕ = c.in_ok-number.number in
    subst (λ o. (n : ℕ) → IsSaid o least most n → ⊥) (one_text-rows found name) (λ n said.
    let same = number_read u32_text.from_str_gives-value.it (λ t r parsed. parsed.0) (one_text found name)
    c.get_one.result least most number n c.get_one.ensures.value c.in_ok-number.was said in
    let low : least ≤ n = said.2.at_least in
    let high : n ≤ most = said.2.at_most in
    elim c.then-number-least.branch [
      | then-number-least-via-then-number-least w ↦
          let below : number < least = w.if-number-least.true in
          omega (arith, same, low, below)
      | then-number-least-via-else-number-least+then-most-number w ↦
          let above : most < number = w.if-most-number.true in
          omega (arith, same, high, above)
    ])

pub returns : goal.returns
returns c =
    let found = found_of c.args.found.now in
    let name = c.args.name.now in
    let least : ℕ = c.args.least in
    let most : ℕ = c.args.most in
    let number : ℕ = c.in_ok-number.number in
    subst (λ o. IsSaid o least most number) (one_text-rows found name)
    (number_said u32_text.from_str_gives-value.it (λ t r parsed. parsed.0) (one_text found name) c.get_one.result
    least most number c.get_one.ensures.value c.in_ok-number.was c.get_one.ensures.none
    c.if-number-least.false c.if-most-number.false)
