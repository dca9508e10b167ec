-- Private. Which members a set of tokens has, and steps of the loops over numbers.
use Rattle.std.specs.Prelude.{ℕ, ◌+◌, ◌==◌, Bool, false, not, ◌&&◌, Option, Some, None, nat_lt, if◌then◌else◌}
use Rattle.jc_api.specs.Member.{ApiMember}
use Rattle.jc_api.specs.Token.{is_at_or_above, is_same_class, is_virtual}
use Rattle.jc_classes.specs.declared.api.Tokens.{Tokens}
use Rattle.jc_classes.specs.declared.api.Tokens.TheVariants.{Classes, Inherited, Declared, Called}

abbrev pub counts : Tokens → ApiMember → Bool
counts (Classes which) m = false
counts (Inherited class) m = is_virtual m.kind && is_at_or_above m.class class
counts (Declared class) m = is_virtual m.kind && is_same_class m.class class
counts (Called class) m = not (is_virtual m.kind) && is_same_class m.class class

-- the room for these tokens and one more
abbrev pub with_room : ℕ → Option ℕ → ℕ
with_room room None = room
with_room room (Some token) = if nat_lt token room then room else token + 1

-- a number, if this is its token
abbrev pub if_token : ℕ → ℕ → Option ℕ → Option ℕ
if_token token number None = None
if_token token number (Some found) = if found == token then Some number else None
