-- The binding that a text encodes, or the first fault, in the order of the lines.
use Rattle.std.specs.Prelude.{ℕ, suc, List, [], ◌∷◌, Option, Some, None, Result, Ok, Err, ok_or, if◌then◌else◌}
use Rattle.jc_base.specs.Results.{◌>>=◌}
use Rattle.jc_api.specs.Bound.{Bound}
use Rattle.jc_api.specs.Text.{lines_of, is_skipped}
use Rattle.jc_api.specs.Statement.{statement_of}
use Rattle.jc_api.specs.Draft.{empty_draft, is_repeated, clashes, drafted, whole_of}
use Rattle.jc_api.specs.declared.fault.BindingFault.{BindingFault}
use Rattle.jc_api.specs.declared.fault.BindingFault.TheVariants.{BadLine, Repeated, Clash, Missing}
use Rattle.jc_api.specs.declared.statement.Statement.{Statement}
use Rattle.jc_api.specs.declared.draft.Draft.{Draft}

-- the draft with the statement of a numbered line, or the line's first fault
abbrev pub with_statement : ℕ → Draft → Option Statement → Result Draft BindingFault
with_statement n draft None = Err (BadLine n)
with_statement n draft (Some statement) =
    if is_repeated draft statement then Err (Repeated n)
    else (if clashes draft statement then Err (Clash n)
    else Ok (drafted draft statement))

unfoldable pub with_line : ℕ → Draft → List ℕ → Result Draft BindingFault
with_line n draft line = if is_skipped line then Ok draft else with_statement n draft (statement_of line)

-- the draft with lines, the first of which has number n, or the first fault
unfoldable pub with_lines : ℕ → Draft → List (List ℕ) → Result Draft BindingFault
with_lines n draft [] = Ok draft
with_lines n draft (line ∷ lines) = with_line n draft line >>= λ more. with_lines (suc n) more lines

-- the binding that a text encodes, or the first fault; lines are numbered from 1 on
unfoldable pub binding_of : List ℕ → Result Bound BindingFault
binding_of text = with_lines 1 empty_draft (lines_of text) >>= λ draft. ok_or (whole_of draft) Missing
